-- Counts are drawn for the proxy and the server alone.
use Rattle.std.proofs.Common.{◌≡◌, ◌⊎◌, inl, inr, ℕ, ◌+◌, Bool, true, false, not, ◌&&◌, List, [], ◌∷◌, drop, Option, Some, None, is_none, option_and_then, refl, ap, ◌∙◌, subst, if◌then◌else◌}
use Rattle.std.proofs.lemmas.Bool.{false≢true}
use Rattle.spaces.specs.declared.site.Target.{Target}
use Rattle.spaces.specs.declared.site.Target.TheVariants.{Proxy, Server}
use Rattle.spaces.specs.declared.space.Scheme.TheVariants.{Digest}
use Rattle.auth_events.specs.declared.journal.Call.{Call}
use Rattle.auth_events.specs.declared.names.TermsName.{TermsName}
use Rattle.auth_runs.specs.declared.event.Event.{Event}
use Rattle.auth_runs.specs.declared.event.Outcome.{Outcome}
use Rattle.trace_rule.specs.Closings.{carried_out, closings, closings_made, next_closing, want}
use Rattle.trace_rule.specs.Heads.{drawn, head_text}
use Rattle.trace_rule.specs.Holding.{Held, bound, has_link, held, links, stays}
use Rattle.trace_rule.specs.Moves.{Move, Want, dial_for, draw_for, first_want, go, has_count, head_link, identity_held, loss_for, move, spn, start_for}
use Rattle.trace_rule.specs.Moves.Asking.{Start}
use Rattle.trace_rule.specs.Moves.Move.{Closes, Goes}
use Rattle.trace_rule.specs.Moves.Want.{Dials, Draws, Loses, Steps, Writes}
use Rattle.trace_rule.specs.Settings.{Setting, for_route, or_else, scheme_is}
use Rattle.trace_rule.specs.Traces.{IsPast}
use Rattle.trace_rule.proofs.DrawCount.{drawn_by}
use Rattle.trace_rule.proofs.Reasons.{closing_never}

abbrev IsOnRoute : Want → Type 0
IsOnRoute (Draws t n) = (t ≡ Proxy) ⊎ (t ≡ Server)
IsOnRoute _ = Unit {0}

abbrev AreOnRoute : Option Want → Type 0
AreOnRoute None = Unit {0}
AreOnRoute (Some w) = IsOnRoute w

route_first : (o : Option Want) (w : Want) → AreOnRoute o → IsOnRoute w → IsOnRoute (first_want o w)
route_first None w p q = q
route_first (Some v) w p q = p

route_then : {A : Type 0} (f : A → Option Want) → ((a : A) → AreOnRoute (f a)) → (o : Option A) → AreOnRoute (option_and_then f o)
route_then f h None = tt
route_then f h (Some a) = h a

route_or : (a b : Option Want) → AreOnRoute a → AreOnRoute b → AreOnRoute (or_else a b)
route_or None b p q = q
route_or (Some w) b p q = p

route_if : (b : Bool) (o : Option Want) → AreOnRoute o → AreOnRoute (if b then o else None)
route_if true o h = h
route_if false o h = tt

route_unless : (b : Bool) (o : Option Want) → AreOnRoute o → AreOnRoute (if b then None else o)
route_unless true o h = tt
route_unless false o h = h

starts_so : (s : Setting) (past : List Event) (t : Target) → AreOnRoute (option_and_then (start_for s t) (held s past t))
starts_so s past t = route_then (start_for s t) (λ h. route_if _ (Some (Steps t (Start (spn s t) (identity_held s h)))) tt) (held s past t)

draws_so : (s : Setting) (past : List Event) (t : Target) → ((t ≡ Proxy) ⊎ (t ≡ Server)) → AreOnRoute (option_and_then (draw_for s past t) (held s past t))
draws_so s past t route = route_then (draw_for s past t) (λ h. at h (scheme_is s h.gift.space Digest && is_none (drawn past t)) (s.terms_of h.terms)) (held s past t)
  where
    at : (h : Held) (b : Bool) (o : Option TermsName) → AreOnRoute (if b then option_and_then (λ name. if has_count name.terms.qop then Some (Draws t name.nonce) else None) o else None)
    at h false o = tt
    at h true None = tt
    at h true (Some name) = route_if (has_count name.terms.qop) (Some (Draws t name.nonce)) route

go_so : (s : Setting) (past : List Event) → IsOnRoute (go s past)
go_so s past =
    route_first (for_route (λ t. option_and_then (start_for s t) (held s past t))) _
    (route_or (option_and_then (start_for s Proxy) (held s past Proxy)) (option_and_then (start_for s Server) (held s past Server)) (starts_so s past Proxy) (starts_so s past Server))
    (route_first (option_and_then (loss_for past) (bound s past)) _ (route_then (loss_for past) (λ link. route_unless (stays past link) (Some (Loses link)) tt) (bound s past))
    (route_first (dial_for s past) _ (route_if (is_none (bound s past) && not (has_link past)) (Some (Dials (links past + 1))) tt)
    (route_first (for_route (λ t. option_and_then (draw_for s past t) (held s past t))) (Writes (head_link s past) (head_text s past))
    (route_or (option_and_then (draw_for s past Proxy) (held s past Proxy)) (option_and_then (draw_for s past Server) (held s past Server)) (draws_so s past Proxy (inl refl)) (draws_so s past Server (inr refl))) tt)))

pub drawn_target : (s : Setting) (past : List Event) (t : Target) (n : ℕ) → IsPast s past → want s past ≡ Draws t n → (t ≡ Proxy) ⊎ (t ≡ Server)
drawn_target s past t n run w = at (move s past) refl w
  where
    is_draw : Want → Bool
    is_draw (Draws u k) = true
    is_draw _ = false

    at_list : (o : Outcome) (cs : List (Option Call)) → next_closing o cs ≡ Draws t n → (t ≡ Proxy) ⊎ (t ≡ Server)
    at_list o [] k = absurd (false≢true (ap is_draw k))
    at_list o (None ∷ cs) k = absurd (false≢true (ap is_draw k))
    at_list o (Some c ∷ cs) k = absurd (false≢true (ap is_draw k))

    at : (m : Move) → move s past ≡ m → carried_out s past m ≡ Draws t n → (t ≡ Proxy) ⊎ (t ≡ Server)
    at (Goes x) e k =
        let goes : move s past ≡ Goes (Draws t n) = e ∙ ap Goes k in
        subst IsOnRoute (drawn_by s past t n goes (closing_never s past (Draws t n) run goes)) (go_so s past)
    at (Closes o) e k = at_list o (drop (closings_made s past) (closings s past o)) k
