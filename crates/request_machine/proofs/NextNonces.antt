-- The next nonces that the last reply gives.
use Rattle.std.proofs.Common.{◌≡◌, ℕ, Bool, true, false, List, [], ◌∷◌, ◌++◌, map, Option, Some, None, refl, sym, ap, ◌∙◌, IfSome, IsSome, subst, unwrap_or, option_map, option_and_then, is_none, if◌then◌else◌}
use Rattle.std.proofs.lemmas.Bool.{false≢true}
use Rattle.spaces.specs.declared.roster.Request.{Request}
use Rattle.spaces.specs.declared.site.Target.{Target}
use Rattle.spaces.specs.declared.site.Target.TheVariants.{Server, Proxy, Socks}
use Rattle.spaces.specs.declared.space.Scheme.TheVariants.{Digest}
use Rattle.auth_events.specs.declared.journal.Gift.{Gift}
use Rattle.auth_events.specs.declared.journal.Call.{Call}
use Rattle.auth_events.specs.declared.journal.Call.TheVariants.{Renew}
use Rattle.wire_head.specs.declared.reply.Reply.{Reply}
use Rattle.auth_runs.specs.declared.event.Event.{Event}
use Rattle.trace_rule.specs.Settings.{Setting}
use Rattle.trace_rule.specs.Challenges.{challenged}
use Rattle.trace_rule.specs.Holding.{Held, held, held_headed, carried, last_reply}
use Rattle.trace_rule.specs.NextNonces.{next}
use Rattle.trace_rule.specs.Moves.{is_answered}
use Rattle.trace_rule.specs.Closings.{with_nonce, renewal, renewal_of, renewal_for}
use Rattle.request_machine.specs.declared.holding.Holding.{Holding}
use Rattle.request_machine.specs.declared.holding.NamedTerms.{NamedTerms}
use Rattle.request_machine.specs.declared.renew.Renewal.{Renewal}
use Rattle.request_machine.specs.declared.stage.Closing.{Closing}
use Rattle.request_machine.specs.declared.stage.Stage.TheVariants.{NextNonce, NameLast, Close}
use Rattle.request_machine.specs.Kept.{Kept, IsKept, IsHeld, IsKnown, IsCarriedStill, AreCarriedFrom, AreReadyFrom, IsAnswered, IsOfTarget, Ties, IsTied, IsStage, held_kept, terms_kept, is_after_end, can_stop, closings_left, renewals_from, calls_left}
use Rattle.request_machine.specs.Renewals.{stage_behind, renewal_told, renewal_at}
use Rattle.request_machine.specs.Told.{scheme_told, IsReady}
use Rattle.request_machine.proofs.Going.{told_scheme}
use Rattle.request_machine.proofs.Choosing.{staged}
use Rattle.request_machine.proofs.Reading.{unnamed_ties}

-- an answered request has a last reply
reply_of_answer : (s : Setting) (past : List Event) → is_answered s past ≡ true → IsSome (last_reply past)
reply_of_answer s past = at (last_reply past)
  where
    at : (o : Option Reply) → unwrap_or (option_map (λ reply. is_none (challenged s reply)) o) false ≡ true → IsSome o
    at None e = e
    at (Some reply) e = refl

pub answer_there : (m : Kept) (request : Request) (t : Target) (c : Closing) → m.stage ≡ NextNonce t c → IsTied m request → IsSome (last_reply m.past)
answer_there m request t c same tied =
    let at : IsStage tied.0 m.past (NextNonce t c) = subst (IsStage tied.0 m.past) same tied.2.stage in
    reply_of_answer tied.0 m.past at.0.answered

-- THE RENEWAL OF WHAT IS HELD

abbrev call_of : Setting → Renewal → List (Option Call)
call_of s r = option_map (Renew r.gift) (s.terms_no r.gift.space r.terms) ∷ []

abbrev renewals_of : Setting → List Event → Target → Option Held → List (Option Call)
renewals_of s past t h = unwrap_or (option_map (renewal_of s past t) h) []

-- a context plays no part in it
carried_renewal : (s : Setting) (past : List Event) (t : Target) (link : ℕ) (c h : Option Held) → h ≡ option_map (held_headed link) c → renewals_of s past t c ≡ renewals_of s past t h
carried_renewal s past t link None h is = sym (ap (renewals_of s past t) is)
carried_renewal s past t link (Some c) h is = sym (ap (renewals_of s past t) is)

abbrev with_next : Gift → Option (List ℕ) → NamedTerms → Option Renewal
with_next gift nonce named = option_map (λ n. record { gift = gift; terms = with_nonce n named.terms }) nonce

held_renewal : (s : Setting) (past : List Event) (t : Target) (h : Holding) → IsKnown s h → IsReady h
    → renewal_of s past t (held_kept h) ≡ unwrap_or (option_map (call_of s) (renewal_told (next past t) h)) []
held_renewal s past t h known ready =
    ap (λ b. if b then unwrap_or (option_map (λ nonce. renewal s (held_kept h) nonce ∷ []) (next past t)) [] else []) (told_scheme s h.gift.space Digest h.space known.space ready.space)
    ∙ at (scheme_told h.space Digest) h.named (next past t) known.named ready.named
  where
    at : (digest : Bool) (o : Option NamedTerms) (given : Option (List ℕ)) → IfSome o (λ named. s.terms_of h.terms ≡ Some (terms_kept h named)) → (digest ≡ true → IsSome o)
        → (if digest then unwrap_or (option_map (λ n. renewal s (held_kept h) n ∷ []) given) [] else [])
        ≡ unwrap_or (option_map (call_of s) (if digest then option_and_then (with_next h.gift given) o else None)) []
    at false o given told some = refl
    at true None given told some = absurd (false≢true (some refl))
    at true (Some named) None told some = refl
    at true (Some named) (Some nonce) told some = ap (λ o. option_and_then (λ name. option_map (Renew h.gift) (s.terms_no h.gift.space (with_nonce nonce name.terms))) o ∷ []) told

-- what is renewed at the end for a target is what is held for it, where the last head carried that
renewal_is : (s : Setting) (past : List Event) (t : Target) (o : Option Holding) → IsCarriedStill s past t → IsHeld s past t o → IfSome o IsReady
    → renewal_for s past t ≡ unwrap_or (option_map (call_of s) (option_and_then (renewal_told (next past t)) o)) []
renewal_is s past t o still is ready = carried_renewal s past t still.link (carried s past t) (held s past t) still.same ∙ ap (renewals_of s past t) is.is_held ∙ at o is.is_known ready
  where
    at : (o : Option Holding) → IfSome o (IsKnown s) → IfSome o IsReady → renewals_of s past t (option_map held_kept o) ≡ unwrap_or (option_map (call_of s) (option_and_then (renewal_told (next past t)) o)) []
    at None known ready = refl
    at (Some h) known ready = held_renewal s past t h known ready

-- a gift that is renewed is of the target
renewed_target : (s : Setting) (past : List Event) (t : Target) (o : Option Holding) (r : Renewal) → option_and_then (renewal_told (next past t)) o ≡ Some r → IsHeld s past t o → IsOfTarget s r.gift.space t
renewed_target s past t None r found is = absurd (cc)
renewed_target s past t (Some h) r found is = subst (λ (g : Gift). IsOfTarget s g.space t) (at (scheme_told h.space Digest) h.named (next past t) found) is.of_target
  where
    at : (digest : Bool) (o : Option NamedTerms) (given : Option (List ℕ)) → (if digest then option_and_then (with_next h.gift given) o else None) ≡ Some r → h.gift ≡ r.gift
    at false o given e = absurd (cc)
    at true None given e = absurd (cc)
    at true (Some named) None e = absurd (cc)
    at true (Some named) (Some n) e = ap (λ (x : Option Renewal). (unwrap_or x r).gift) e

-- WHERE THE REQUEST STANDS THEN

-- nothing is renewed for the target
pub not_renewed_ties : (s : Setting) (m : Kept) (t : Target) (c : Closing) → m.stage ≡ NextNonce t c → renewal_at m t ≡ None → Ties s m → Ties s (record m { stage = stage_behind t c })
not_renewed_ties s m x c same none t = go x same none at.0 at.1 at.2 (subst (IsKept s m) same t.kept)
  where
    at : IsStage s m.past (NextNonce x c)
    at = subst (IsStage s m.past) same t.stage

    none_for : (y : Target) (o : Option Holding) → IsCarriedStill s m.past y → IsHeld s m.past y o → IfSome o IsReady → option_and_then (renewal_told (next m.past y)) o ≡ None → renewal_for s m.past y ≡ []
    none_for y o still is ready e = renewal_is s m.past y o still is ready ∙ ap (λ (r : Option Renewal). unwrap_or (option_map (call_of s) r) []) e

    go : (y : Target) → m.stage ≡ NextNonce y c → renewal_at m y ≡ None → IsAnswered s m.past c → closings_left s m.past c.outcome ≡ renewals_from s m.past y ++ map Some (calls_left c) → AreCarriedFrom s m.past y → AreReadyFrom m.proxy m.server y
        → Ties s (record m { stage = stage_behind y c })
    go Proxy same none answers left still ready =
        staged s m (NextNonce Server c) t
        (answers, left ∙ ap (λ (x : List (Option Call)). (x ++ renewal_for s m.past Server) ++ map Some (calls_left c)) (none_for Proxy m.proxy still.0 t.proxy ready.0 none), still.1)
        (ap is_after_end same) (ap can_stop same) tt ready.1
    go Server same none answers left still ready =
        staged s m (Close c) t
        (answers.is_past, answers.closes, left ∙ ap (λ (x : List (Option Call)). x ++ map Some (calls_left c)) (none_for Server m.server still t.server ready none))
        (ap is_after_end same) (ap can_stop same) tt tt
    go Socks same none answers left still ready = staged s m (Close c) t (answers.is_past, answers.closes, left) (ap is_after_end same) (ap can_stop same) tt tt

-- the gift that is held is renewed, and its new terms are to be named
pub renews_ties : (s : Setting) (m : Kept) (t : Target) (c : Closing) (r : Renewal) → m.stage ≡ NextNonce t c → renewal_at m t ≡ Some r → Ties s m
    → Ties s (record m { unnamed_terms = Some r.terms; stage = NameLast t r.gift c })
renews_ties s m x c r same some t = go x same some at.0 at.1 at.2 kept
  where
    at : IsStage s m.past (NextNonce x c)
    at = subst (IsStage s m.past) same t.stage

    kept : AreReadyFrom m.proxy m.server x
    kept = subst (IsKept s m) same t.kept

    ties : Ties s (record m { unnamed_terms = Some r.terms })
    ties = unnamed_ties s m m.unnamed_space (Some r.terms) (subst (IsKept s (record m { unnamed_terms = Some r.terms })) (sym same) kept) t

    some_for : (y : Target) (o : Option Holding) → IsCarriedStill s m.past y → IsHeld s m.past y o → IfSome o IsReady → option_and_then (renewal_told (next m.past y)) o ≡ Some r → renewal_for s m.past y ≡ call_of s r
    some_for y o still is ready e = renewal_is s m.past y o still is ready ∙ ap (λ (z : Option Renewal). unwrap_or (option_map (call_of s) z) []) e

    go : (y : Target) → m.stage ≡ NextNonce y c → renewal_at m y ≡ Some r → IsAnswered s m.past c → closings_left s m.past c.outcome ≡ renewals_from s m.past y ++ map Some (calls_left c) → AreCarriedFrom s m.past y → AreReadyFrom m.proxy m.server y
        → Ties s (record m { unnamed_terms = Some r.terms; stage = NameLast y r.gift c })
    go Proxy same some answers left still ready =
        staged s (record m { unnamed_terms = Some r.terms }) (NameLast Proxy r.gift c) ties (answers, renewed_target s m.past Proxy m.proxy r some t.proxy, still.1) (ap is_after_end same) (ap can_stop same) tt (
          ready.1,
          record {
            terms = r.terms;
            are_unnamed = refl;
            left = left ∙ ap (λ (x : List (Option Call)). (x ++ renewal_for s m.past Server) ++ map Some (calls_left c)) (some_for Proxy m.proxy still.0 t.proxy ready.0 some);
          },
        )
    go Server same some answers left still ready =
        staged s (record m { unnamed_terms = Some r.terms }) (NameLast Server r.gift c) ties (answers, renewed_target s m.past Server m.server r some t.server, tt) (ap is_after_end same) (ap can_stop same) tt (
          tt,
          record {
            terms = r.terms;
            are_unnamed = refl;
            left = left ∙ ap (λ (x : List (Option Call)). x ++ map Some (calls_left c)) (some_for Server m.server still t.server ready some);
          },
        )
    go Socks same some answers left still ready = absurd (cc)
