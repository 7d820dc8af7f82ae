-- A request takes few steps of the provider: each starts the context of what was given since, follows a challenge, refuses, or ends it.
use Rattle.std.proofs.Common.{◌≡◌, ℕ, ◌+◌, ◌≤◌, Bool, true, false, ◌&&◌, IsTrue, List, [], ◌∷◌, Option, Some, None, is_some, is_none, option_and_then, option_map, unwrap_or, refl, ap, ◌∙◌, subst, arith, if◌then◌else◌, ◌==◌}
use Rattle.std.proofs.lemmas.Bool.{false≢true}
use Rattle.spaces.specs.declared.site.Target.{Target}
use Rattle.spaces.specs.declared.site.Target.TheVariants.{Server, Proxy, Socks}
use Rattle.spaces.specs.Sites.{same_target}
use Rattle.auth_events.specs.declared.journal.Call.{Call}
use Rattle.auth_events.specs.declared.journal.Call.TheVariants.{Select}
use Rattle.auth_events.specs.declared.journal.BookReply.TheVariants.{Lead}
use Rattle.auth_events.specs.Pages.{fits}
use Rattle.link_trait.specs.declared.steps.StepSeen.{StepSeen}
use Rattle.link_trait.specs.declared.steps.StepSeen.TheVariants.{Token, Done, Refused as StepRefused, NoMechanism, Failed as StepFailed, NoMemory as StepNoMemory}
use Rattle.auth_runs.specs.declared.event.Event.{Event}
use Rattle.auth_runs.specs.declared.event.Event.TheVariants.{Called, Drew, Headed, Replied, LinkLost, Stepped}
use Rattle.trace_rule.specs.Settings.{Setting, IsNumbered, first_target, target_is}
use Rattle.trace_rule.specs.Challenges.{challenged, challenges_target}
use Rattle.trace_rule.specs.Holding.{Held, held, held_drew, held_stepped, held_headed, held_replied, carried_on, deciding}
use Rattle.trace_rule.specs.Moves.{Asking, rounds}
use Rattle.trace_rule.specs.Moves.Asking.{Start, GoOn}
use Rattle.trace_rule.specs.Traces.{IsPast}
use Rattle.trace_rule.proofs.Counts.{losts}
use Rattle.trace_rule.proofs.Stages.{fits_of}
use Rattle.trace_rule.proofs.Stepping.{IsStepFor, step_for}
use Rattle.trace_rule.proofs.Gains.{negotiating, one_target}
use Rattle.trace_laws.proofs.Counted.{one_if, few_if, count_of, is_other_call, is_step, finals}

-- what is held has no context
abbrev pub is_fresh : Option Held → Bool
is_fresh None = false
is_fresh (Some h) = is_none h.context

-- what is held for the first target has none; only that target starts a context
abbrev pub fresh : Setting → List Event → ℕ
fresh s past = one_if (is_fresh (held s past (first_target s)))

-- the last event is a challenge, which no step followed
abbrev pub is_pending : Setting → List Event → Bool
is_pending s (Replied link reply ∷ past) = is_some (challenged s reply)
is_pending s past = false

fewer : (a b : Bool) → (IsTrue a → IsTrue b) → one_if a ≤ one_if b
fewer true b h = let yes : b ≡ true = h refl in let one : one_if b ≡ 1 = ap one_if yes in omega (arith, one)
fewer false b h = omega arith

fresh_if : (b : Bool) (x y z : Option Held) → (IsTrue (is_fresh x) → IsTrue (is_fresh z)) → (IsTrue (is_fresh y) → IsTrue (is_fresh z)) → IsTrue (is_fresh (if b then x else y)) → IsTrue (is_fresh z)
fresh_if true x y z f g h = f h
fresh_if false x y z f g h = g h

fresh_then : (f : Held → Option Held) → ((h : Held) → IsTrue (is_fresh (f h)) → IsTrue (is_fresh (Some h))) → (o : Option Held) → IsTrue (is_fresh (option_and_then f o)) → IsTrue (is_fresh o)
fresh_then f g None h = h
fresh_then f g (Some x) h = g x h

-- a drop makes nothing fresh
dropped_or : (b : Bool) (h : Held) → IsTrue (is_fresh (if b then Some h else None)) → IsTrue (is_fresh (Some h))
dropped_or true h f = f
dropped_or false h f = absurd (false≢true f)

or_dropped : (b : Bool) (h : Held) → IsTrue (is_fresh (if b then None else Some h)) → IsTrue (is_fresh (Some h))
or_dropped true h f = absurd (false≢true f)
or_dropped false h f = f

stepped_fresh : (step : StepSeen) (h : Held) → IsTrue (is_fresh (held_stepped step h)) → IsTrue (is_fresh (Some h))
stepped_fresh (Token token) h f = absurd (false≢true f)
stepped_fresh NoMechanism h f = dropped_or (is_some h.context) h f
stepped_fresh _ h f = f

headed_fresh : (link : ℕ) (o : Option Held) → IsTrue (is_fresh (option_map (held_headed link) o)) → IsTrue (is_fresh o)
headed_fresh link None f = f
headed_fresh link (Some h) f = at h.context f
  where
    at : (c : Option _) → IsTrue (is_none (option_map (carried_on link) c)) → IsTrue (is_none c)
    at None k = k
    at (Some c) k = absurd (false≢true k)

-- a step changes what is held for its target alone, and makes nothing fresh
after_step : (s : Setting) (t : Target) (step : StepSeen) (past : List Event) → fresh s (Stepped t step ∷ past) ≤ fresh s past
after_step s t step past =
    fewer _ _ (fresh_if (same_target t (first_target s)) (option_and_then (held_stepped step) (held s past (first_target s))) (held s past (first_target s)) (held s past (first_target s))
    (fresh_then (held_stepped step) (stepped_fresh step) (held s past (first_target s))) (λ f. f))

same_self : (t : Target) → same_target t t ≡ true
same_self Server = refl
same_self Proxy = refl
same_self Socks = refl

led_fresh : (s : Setting) (call : Call) (p o : ℕ) (past : List Event) → IsTrue (fits call (Lead p o)) → fresh s (Called call (Lead p o) ∷ past) ≤ fresh s past
led_fresh s (Select space terms) p o past f =
    fewer _ _ (fresh_if (target_is s space (first_target s)) (held s past (first_target s)) (held s past (first_target s)) (held s past (first_target s)) (λ k. k) (λ k. k))
led_fresh s call p o past f = absurd (false≢true f)

-- a step starts the context of what is fresh, or follows a challenge
data Ground (s : Setting) (t : Target) (past : List Event) : Type 0 where
  starting : t ≡ first_target s → (h : Held) → held s past t ≡ Some h → h.context ≡ None → Ground s t past
  challenged_before : IsTrue (is_pending s past) → Ground s t past

ground : (s : Setting) → IsNumbered s → (t : Target) (step : StepSeen) (past : List Event) → IsPast s (Stepped t step ∷ past) → Ground s t past
ground s means t step past run = let f = step_for s past t step run in at f.0 f.2
  where
    at : (asking : Asking) → IsStepFor s past t asking → Ground s t past
    at (Start name identity) (h, held_now, scheme, none, same) = starting (one_target s means past run.0 t (ap (negotiating s) held_now ∙ scheme)) h held_now none
    at (GoOn peer) (link, reply, before, h, p, held_then, d, stay, c) = challenged_before (ap (is_pending s) p ∙ ap is_some c)

-- what is fresh is no more so behind a token, or where there is no mechanism
gone : (s : Setting) (t : Target) (step : StepSeen) (past : List Event) (h : Held) → t ≡ first_target s → held s past t ≡ Some h → is_fresh (held_stepped step h) ≡ false
    → (fresh s past ≡ one_if (is_none h.context)) × (fresh s (Stepped t step ∷ past) ≡ 0)
gone s t step past h same held_now none = (ap (λ o. one_if (is_fresh o)) held_first, ap one_if stepped)
  where
    held_first : held s past (first_target s) ≡ Some h
    held_first = subst (λ x. held s past x ≡ Some h) same held_now

    mine : same_target t (first_target s) ≡ true
    mine = subst (λ x. same_target t x ≡ true) same (same_self t)

    stepped : is_fresh (held s (Stepped t step ∷ past) (first_target s)) ≡ false
    stepped =
        ap (λ b. is_fresh (if b then option_and_then (held_stepped step) (held s past (first_target s)) else held s past (first_target s))) mine
        ∙ (ap (λ o. is_fresh (option_and_then (held_stepped step) o)) held_first ∙ none)

abbrev IsBalanced : Setting → List Event → Type 0
IsBalanced s past =
    count_of is_step past + (fresh s past + one_if (is_pending s past)) ≤ count_of is_other_call past + losts past + (rounds s past + finals past)

-- a token or the lack of a mechanism uses up its ground
used_up : (s : Setting) → IsNumbered s → (t : Target) (step : StepSeen) (past : List Event) → IsPast s (Stepped t step ∷ past) → ((h : Held) → h.context ≡ None → is_fresh (held_stepped step h) ≡ false)
    → fresh s (Stepped t step ∷ past) + 1 ≤ fresh s past + one_if (is_pending s past)
used_up s means t step past run drops = at (ground s means t step past run)
  where
    at : Ground s t past → fresh s (Stepped t step ∷ past) + 1 ≤ fresh s past + one_if (is_pending s past)
    at (starting same h held_now none) =
        let both = gone s t step past h same held_now (drops h none) in
        let one : one_if (is_none h.context) ≡ 1 = ap (λ c. one_if (is_none c)) none in
        omega (arith, both.0, both.1, one)
    at (challenged_before pending) = let one : one_if (is_pending s past) ≡ 1 = ap one_if pending in omega (arith, one, after_step s t step past)

step_balanced : (s : Setting) → IsNumbered s → (t : Target) (step : StepSeen) (past : List Event) → IsPast s (Stepped t step ∷ past) → IsBalanced s past → IsBalanced s (Stepped t step ∷ past)
step_balanced s means t (Token token) past run b = omega (arith, b, used_up s means t (Token token) past run (λ h none. refl))
step_balanced s means t StepRefused past run b = omega (arith, b, after_step s t StepRefused past)
step_balanced s means t Done past run b = omega (arith, b, after_step s t Done past)
step_balanced s means t (StepFailed count) past run b = omega (arith, b, after_step s t (StepFailed count) past)
step_balanced s means t StepNoMemory past run b = omega (arith, b, after_step s t StepNoMemory past)
step_balanced s means t NoMechanism past run b =
    omega (arith, b, used_up s means t NoMechanism past run (λ h none. ap (λ c. is_fresh (if is_some c then Some h else None)) none))

balanced : (s : Setting) → IsNumbered s → (past : List Event) → IsPast s past → IsBalanced s past
balanced s means [] run = omega arith
balanced s means (Called call (Lead p o) ∷ past) run = omega (arith, balanced s means past run.0, led_fresh s call p o past (fits_of s past call (Lead p o) run.1))
balanced s means (Called call reply ∷ past) run = omega (arith, balanced s means past run.0, few_if (is_fresh (held s (Called call reply ∷ past) (first_target s))))
balanced s means (Drew target nonce count epoch ∷ past) run =
    omega (
      arith,
      balanced s means past run.0,
      fewer (is_fresh (held s (Drew target nonce count epoch ∷ past) (first_target s))) (is_fresh (held s past (first_target s)))
          (fresh_if (same_target target (first_target s)) (option_and_then (held_drew epoch) (held s past (first_target s))) (held s past (first_target s)) (held s past (first_target s))
          (fresh_then (held_drew epoch) (λ h. dropped_or (unwrap_or h.preemptive epoch == epoch) h) (held s past (first_target s))) (λ f. f)),
    )
balanced s means (Headed link bytes ∷ past) run =
    omega (arith, balanced s means past run.0, fewer (is_fresh (held s (Headed link bytes ∷ past) (first_target s))) (is_fresh (held s past (first_target s))) (headed_fresh link (held s past (first_target s))))
balanced s means (Replied link reply ∷ past) run =
    omega (
      arith,
      balanced s means past run.0,
      fewer (is_fresh (held s (Replied link reply ∷ past) (first_target s))) (is_fresh (held s past (first_target s)))
          (fresh_then (held_replied s (first_target s) reply) (λ h. or_dropped (challenges_target s reply (first_target s) && is_none (deciding s reply (first_target s) h)) h) (held s past (first_target s))),
    )
balanced s means (LinkLost link ∷ past) run = omega (arith, balanced s means past run.0, few_if (is_fresh (held s (LinkLost link ∷ past) (first_target s))))
balanced s means (Stepped t step ∷ past) run = step_balanced s means t step past run (balanced s means past run.0)
balanced s means (_ ∷ past) run = let h = balanced s means past run.0 in omega (arith, h)

pub few_steps : (s : Setting) → IsNumbered s → (past : List Event) → IsPast s past → count_of is_step past ≤ count_of is_other_call past + losts past + (rounds s past + finals past)
few_steps s means past run = omega (arith, balanced s means past run)
