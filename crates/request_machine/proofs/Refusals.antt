-- Refusals by the provider of tokens: what is held is rejected, or the request is refused.
use Rattle.std.proofs.Common.{◌≡◌, ℕ, ◌+◌, Bool, true, false, nat_le, List, ◌∷◌, drop, Option, Some, None, is_some, option_map, option_and_then, IsSome, IfSome, refl, ap, ◌∙◌, subst, if◌then◌else◌, arith}
use Rattle.std.proofs.lemmas.Bool.{false≢true}
use Rattle.std.proofs.lemmas.Bool.Decides.{nat_tests}
use Rattle.std.specs.List.{list_any}
use Rattle.spaces.specs.declared.site.Target.{Target}
use Rattle.spaces.specs.declared.site.Target.TheVariants.{Server, Proxy, Socks}
use Rattle.spaces.specs.Sites.{same_target}
use Rattle.auth_events.specs.declared.journal.Gift.{Gift}
use Rattle.link_trait.specs.declared.steps.StepSeen.{StepSeen}
use Rattle.link_trait.specs.declared.steps.StepSeen.TheVariants.{NoMechanism}
use Rattle.auth_runs.specs.declared.event.Event.{Event}
use Rattle.auth_runs.specs.declared.event.Event.TheVariants.{Stepped}
use Rattle.auth_runs.specs.declared.event.Outcome.TheVariants.{Refused}
use Rattle.auth_runs.specs.declared.event.Why.TheVariants.{Rounds}
use Rattle.negotiate_handler.specs.Contexts.{begun}
use Rattle.negotiate_handler.specs.declared.context.Said.{Said}
use Rattle.negotiate_handler.specs.declared.context.Said.TheVariants.{Refused as SaidRefused, Done as SaidDone, NoMechanism as SaidNoMechanism}
use Rattle.trace_rule.specs.Settings.{Setting}
use Rattle.trace_rule.specs.Holding.{Held, held, held_stepped, is_no_mechanism, code}
use Rattle.trace_rule.specs.Moves.{Asking, rounds, is_round, move, known, select, rejects, rejected}
use Rattle.trace_rule.specs.Moves.Move.{Closes}
use Rattle.trace_rule.specs.Closings.{carried_out, closings}
use Rattle.request_machine.specs.declared.holding.Context.{Context}
use Rattle.request_machine.specs.declared.holding.Holding.{Holding}
use Rattle.request_machine.specs.declared.stage.Stage.TheVariants.{Reject as Rejecting, Close}
use Rattle.request_machine.specs.Kept.{Kept, Ties, IsHeld, context_kept}
use Rattle.request_machine.specs.Changed.{holding}
use Rattle.request_machine.specs.Contexts.{IsBefore, IsBegun, seen_said, none_said, stage_refused}
use Rattle.request_machine.specs.Asking.{refused_by}
use Rattle.request_machine.proofs.Prompting.{refused_left}
use Rattle.request_machine.proofs.Quiet.{same_held}
use Rattle.request_machine.proofs.Tokens.{step_past, step_ties, some_of}

-- A REFUSAL

-- the step refuses what is held for the target, which stays until it is rejected
pub record IsRefusal (s : Setting) (m : Kept) (t : Target) (step : StepSeen) (none : Bool) : Type 0 where
  pub is_round : is_round s m.past (Stepped t step) ≡ true
  pub moves : move s (Stepped t step ∷ m.past) ≡ rejected s (Stepped t step ∷ m.past) (held s m.past t)
  pub stays : (x : Target) → held s (Stepped t step ∷ m.past) x ≡ held s m.past x
  pub said : list_any is_no_mechanism (Stepped t step ∷ m.past) ≡ none

begun_told : (s : Setting) (past : List Event) (t : Target) (o : Option Holding) → IsHeld s past t o → IsBegun o → is_some (option_and_then (λ (h : Held). h.context) (held s past t)) ≡ true
begun_told s past t None is begun = absurd begun
begun_told s past t (Some h) is begun = ap (λ x. is_some (option_and_then (λ (h : Held). h.context) x)) is.is_held ∙ at h.context begun
  where
    at : (c : Option Context) → IsSome c → is_some (option_map context_kept c) ≡ true
    at None some = absurd (false≢true some)
    at (Some c) some = refl

begun_stays : (o : Option Held) → is_some (option_and_then (λ (h : Held). h.context) o) ≡ true → option_and_then (held_stepped NoMechanism) o ≡ o
begun_stays None begun = refl
begun_stays (Some h) begun = ap (λ b. if b then Some h else None) begun

none_refusal : (s : Setting) (m : Kept) (t : Target) → IsBegun (holding m t) → Ties s m → IsRefusal s m t NoMechanism true
none_refusal s m Proxy begun t =
    let some = begun_told s m.past Proxy m.proxy t.proxy begun in
    record { is_round = some; moves = ap (λ b. if b then rejected s (Stepped Proxy NoMechanism ∷ m.past) (held s m.past Proxy) else select s (Stepped Proxy NoMechanism ∷ m.past)) some; stays = stays some; said = refl }
  where
    stays : is_some (option_and_then (λ (h : Held). h.context) (held s m.past Proxy)) ≡ true → (x : Target) → held s (Stepped Proxy NoMechanism ∷ m.past) x ≡ held s m.past x
    stays some Proxy = begun_stays (held s m.past Proxy) some
    stays some Server = refl
    stays some Socks = refl
none_refusal s m Server begun t =
    let some = begun_told s m.past Server m.server t.server begun in
    record { is_round = some; moves = ap (λ b. if b then rejected s (Stepped Server NoMechanism ∷ m.past) (held s m.past Server) else select s (Stepped Server NoMechanism ∷ m.past)) some; stays = stays some; said = refl }
  where
    stays : is_some (option_and_then (λ (h : Held). h.context) (held s m.past Server)) ≡ true → (x : Target) → held s (Stepped Server NoMechanism ∷ m.past) x ≡ held s m.past x
    stays some Server = begun_stays (held s m.past Server) some
    stays some Proxy = refl
    stays some Socks = refl
none_refusal s m Socks begun t = absurd begun

refusal_of : (s : Setting) (m : Kept) (t : Target) (said : Said) → (said ≡ SaidNoMechanism → IsBegun (holding m t)) → Ties s m → IsRefusal s m t (seen_said said) (none_said m.has_none said)
refusal_of s m x SaidRefused begun t = record { is_round = refl; moves = refl; stays = λ y. some_of (same_target x y) (held s m.past y); said = t.has_none }
refusal_of s m x SaidDone begun t = record { is_round = refl; moves = refl; stays = λ y. some_of (same_target x y) (held s m.past y); said = t.has_none }
refusal_of s m x SaidNoMechanism begun t = none_refusal s m x (begun refl) t

one_more : (s : Setting) (m : Kept) (t : Target) (step : StepSeen) (none : Bool) → IsRefusal s m t step none → Ties s m → rounds s (Stepped t step ∷ m.past) ≡ m.rounds + 1
one_more s m x step none r t =
    let e : 1 + rounds s m.past ≡ m.rounds + 1 = (let same : rounds s m.past ≡ m.rounds = t.rounds in omega arith) in
    ap (λ c. (if c then 1 else 0) + rounds s m.past) r.is_round ∙ e

moves_by : (s : Setting) (m : Kept) (t : Target) (step : StepSeen) (none : Bool) (last : Bool) → IsRefusal s m t step none → nat_le 17 (m.rounds + 1) ≡ last → Ties s m
    → move s (Stepped t step ∷ m.past) ≡ (if last then Closes (Refused m.code Rounds) else known (held s m.past t) rejects)
moves_by s m x step none last r counted t =
    r.moves ∙ ap (λ n. if nat_le 17 n then Closes (Refused (code m.past) Rounds) else known (held s m.past x) rejects) (one_more s m x step none r t)
    ∙ ap (λ c. if c then Closes (Refused (code m.past) Rounds) else known (held s m.past x) rejects) counted
    ∙ ap (λ c. if last then Closes (Refused c Rounds) else known (held s m.past x) rejects) t.code

next_round : (n : ℕ) (b : Bool) → nat_le 16 n ≡ b → nat_le 17 (n + 1) ≡ b
next_round n true e = grind (arith, nat_tests, e)
next_round n false e = grind (arith, nat_tests, e)

at_target : (s : Setting) (m : Kept) (t : Target) (h : Holding) → holding m t ≡ Some h → Ties s m → IsHeld s m.past t (Some h)
at_target s m Proxy h same t = subst (λ o. IsHeld s m.past Proxy o) same t.proxy
at_target s m Server h same t = subst (λ o. IsHeld s m.past Server o) same t.server
at_target s m Socks h same t = absurd (cc)

-- it is rejected
pub refused_ties : (s : Setting) (m : Kept) (t : Target) (asking : Asking) (step : StepSeen) (none : Bool) (h : Holding) → IsBefore s m t asking → IsRefusal s m t step none → holding m t ≡ Some h → nat_le 17 (m.rounds + 1) ≡ false → Ties s m
    → Ties s (record m { past = Stepped t step ∷ m.past; stage = Rejecting t h.gift; rounds = m.rounds + 1; has_none = none })
refused_ties s m x asking step none h b r same few t =
    let is = at_target s m x h same t in
    step_ties s m x step (Rejecting x h.gift) m.proxy m.server (m.rounds + 1) none (one_more s m x step none r t) r.said t tt
    (same_held s m.past (Stepped x step) Proxy m.proxy (r.stays Proxy) t.proxy) (same_held s m.past (Stepped x step) Server m.server (r.stays Server) t.server)
    (record {
      stands = (
        step_past s m x asking step b,
        ap (carried_out s (Stepped x step ∷ m.past)) (moves_by s m x step none false r few t ∙ ap (λ o. known o rejects) is.is_held),
        is.of_target,
      );
      ended = b.no_end;
      may_stop = (let no_end = b.no_end in rw no_end refl);
      open_still = b.none_made;
    })

-- the seventeenth round ends the request
pub refused_last : (s : Setting) (m : Kept) (t : Target) (asking : Asking) (step : StepSeen) (none : Bool) → IsBefore s m t asking → IsRefusal s m t step none → nat_le 17 (m.rounds + 1) ≡ true → Ties s m
    → Ties s (record m { past = Stepped t step ∷ m.past; stage = Close (refused_by m Rounds); rounds = m.rounds + 1; has_none = none })
refused_last s m x asking step none b r all t =
    step_ties s m x step (Close (refused_by m Rounds)) m.proxy m.server (m.rounds + 1) none (one_more s m x step none r t) r.said t tt
    (same_held s m.past (Stepped x step) Proxy m.proxy (r.stays Proxy) t.proxy) (same_held s m.past (Stepped x step) Server m.server (r.stays Server) t.server)
    (record {
      stands = (
        step_past s m x asking step b,
        moves_by s m x step none true r all t,
        ap (λ n. drop n (closings s (Stepped x step ∷ m.past) (Refused m.code Rounds))) b.none_made ∙ refused_left s m (Stepped x step) Rounds (λ y. refl) t,
      );
      ended = b.no_end;
      may_stop = (let no_end = b.no_end in rw no_end refl);
      open_still = tt;
    })

pub said_ties : (s : Setting) (m : Kept) (t : Target) (asking : Asking) (said : Said) (h : Holding) → IsBefore s m t asking → (said ≡ SaidNoMechanism → IsBegun (holding m t)) → holding m t ≡ Some h → Ties s m
    → Ties s (record m { past = Stepped t (seen_said said) ∷ m.past; stage = stage_refused m.rounds t h.gift (refused_by m Rounds); rounds = m.rounds + 1; has_none = none_said m.has_none said })
said_ties s m x asking said h b begun same t = at (nat_le 16 m.rounds) refl
  where
    r : IsRefusal s m x (seen_said said) (none_said m.has_none said)
    r = refusal_of s m x said begun t

    at : (c : Bool) → nat_le 16 m.rounds ≡ c
        → Ties s (record m { past = Stepped x (seen_said said) ∷ m.past; stage = if c then Close (refused_by m Rounds) else Rejecting x h.gift; rounds = m.rounds + 1; has_none = none_said m.has_none said })
    at true e = refused_last s m x asking (seen_said said) (none_said m.has_none said) b r (next_round m.rounds true e) t
    at false e = refused_ties s m x asking (seen_said said) (none_said m.has_none said) h b r same (next_round m.rounds false e) t

-- something of the gift is held
pub held_of : (o : Option Holding) (gift : Gift) → IsSome o → IfSome o (λ h. h.gift ≡ gift) → (h : Holding) × (o ≡ Some h) × (h.gift ≡ gift)
held_of None gift some is = absurd (false≢true some)
held_of (Some h) gift some is = (h, refl, is)
