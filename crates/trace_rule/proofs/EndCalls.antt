-- What a call at the end is of.
use Rattle.std.proofs.Common.{◌≡◌, ℕ, Bool, true, false, IsTrue, List, [], ◌∷◌, drop, Option, Some, None, option_and_then, option_map, refl, sym, ap, ◌∙◌, subst}
use Rattle.std.proofs.lemmas.Bool.{false≢true}
use Rattle.spaces.specs.declared.site.Target.{Target}
use Rattle.spaces.specs.declared.terms.Terms.{Terms}
use Rattle.auth_events.specs.declared.names.TermsName.{TermsName}
use Rattle.auth_events.specs.declared.journal.Call.{Call}
use Rattle.auth_events.specs.declared.journal.Call.TheVariants.{Renew, Note, End}
use Rattle.auth_events.specs.declared.journal.BookReply.{BookReply}
use Rattle.auth_runs.specs.Runs.{Each}
use Rattle.auth_runs.specs.declared.event.Outcome.{Outcome}
use Rattle.auth_runs.specs.declared.event.Event.{Event}
use Rattle.auth_runs.specs.declared.event.Event.TheVariants.{Called, Ended}
use Rattle.trace_rule.specs.Settings.{Setting, scheme_is, is_by_path}
use Rattle.spaces.specs.declared.space.Scheme.TheVariants.{Digest}
use Rattle.trace_rule.specs.Holding.{Held, carried}
use Rattle.trace_rule.specs.Moves.{Want, move}
use Rattle.trace_rule.specs.Moves.Want.{Calls}
use Rattle.trace_rule.specs.Moves.Move.{Closes}
use Rattle.trace_rule.specs.Closings.{want, with_nonce, renewal, closings, closings_made, next_closing, carried_out}
use Rattle.trace_rule.specs.Traces.{Follows}
use Rattle.trace_rule.proofs.AtEnd.{each_drop, closings_each}

-- a note and a renewal are of what the last head carried for a target
abbrev pub IsFrom : Setting → List Event → Call → Type 0
IsFrom s past (Note gift) = (t : Target) × (h : Held) × (carried s past t ≡ Some h) × (gift ≡ h.gift) × IsTrue (is_by_path s h.gift.space)
IsFrom s past (Renew gift number) =
    (t : Target) × (h : Held) × (terms : Terms) × (carried s past t ≡ Some h) × (gift ≡ h.gift) × (s.terms_no h.gift.space terms ≡ Some number) × IsTrue (scheme_is s h.gift.space Digest)
IsFrom s past End = Unit {0}
IsFrom s past _ = ⊥

abbrev IsFromIf : Setting → List Event → Option Call → Type 0
IsFromIf s past None = Unit {0}
IsFromIf s past (Some call) = IsFrom s past call

renewal_from : (s : Setting) (past : List Event) (t : Target) (h : Held) (nonce : List ℕ) → carried s past t ≡ Some h → IsTrue (scheme_is s h.gift.space Digest) → IsFromIf s past (renewal s h nonce)
renewal_from s past t h nonce e d = at (s.terms_of h.terms)
  where
    number : (terms : Terms) (o : Option ℕ) → s.terms_no h.gift.space terms ≡ o → IsFromIf s past (option_map (Renew h.gift) o)
    number terms None k = tt
    number terms (Some n) k = (t, h, terms, e, refl, k, d)

    at : (o : Option TermsName) → IsFromIf s past (option_and_then (λ (name : TermsName). option_map (Renew h.gift) (s.terms_no h.gift.space (with_nonce nonce name.terms))) o)
    at None = tt
    at (Some name) = number (with_nonce nonce name.terms) (s.terms_no h.gift.space (with_nonce nonce name.terms)) refl

closings_from : (s : Setting) (past : List Event) (o : Outcome) → Each (IsFromIf s past) (closings s past o)
closings_from s past o =
    closings_each s past o (IsFromIf s past) (λ k t h nonce e d n. renewal_from s past t h nonce e d) (λ t h e p. (t, h, e, refl, p)) tt

-- a call that is wanted at the end
pub wanted_from : (s : Setting) (past : List Event) (o : Outcome) (call : Call) → move s past ≡ Closes o → want s past ≡ Calls call → IsFrom s past call
wanted_from s past o call m w =
    at (drop (closings_made s past) (closings s past o)) (each_drop (IsFromIf s past) (closings_made s past) (closings s past o) (closings_from s past o)) (sym (ap (carried_out s past) m) ∙ w)
  where
    call_in : Want → Call
    call_in (Calls c) = c
    call_in _ = End

    is_call : Want → Bool
    is_call (Calls c) = true
    is_call _ = false

    at : (cs : List (Option Call)) → Each (IsFromIf s past) cs → next_closing o cs ≡ Calls call → IsFrom s past call
    at [] f e = absurd (false≢true (ap is_call e))
    at (None ∷ cs) f e = absurd (false≢true (ap is_call e))
    at (Some c ∷ cs) f e = subst (IsFrom s past) (ap call_in e) f.0

-- a call that was made at the end
pub made_from : (s : Setting) (past : List Event) (o : Outcome) (call : Call) (reply : BookReply) → move s past ≡ Closes o → Follows s past (want s past) (Called call reply) → IsFrom s past call
made_from s past o call reply m next =
    at (drop (closings_made s past) (closings s past o)) (each_drop (IsFromIf s past) (closings_made s past) (closings s past o) (closings_from s past o)) (subst (λ x. Follows s past (carried_out s past x) (Called call reply)) m next)
  where
    at : (cs : List (Option Call)) → Each (IsFromIf s past) cs → Follows s past (next_closing o cs) (Called call reply) → IsFrom s past call
    at [] f e = let clash : Called call reply ≡ Ended o = e in cc
    at (None ∷ cs) f e = absurd e
    at (Some c ∷ cs) f e = subst (IsFrom s past) (sym e.0) f.0
