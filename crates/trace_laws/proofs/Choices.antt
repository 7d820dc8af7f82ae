-- A request chooses once for each challenge and each refusal of the provider.
use Rattle.std.proofs.Common.{◌≡◌, ◌⊎◌, inl, inr, ℕ, ◌+◌, ◌≤◌, Bool, true, false, not, IsTrue, List, [], ◌∷◌, Some, is_some, option_and_then, refl, sym, ap, ◌∙◌, subst, arith, if◌then◌else◌}
use Rattle.std.specs.List.{list_any}
use Rattle.std.proofs.lemmas.Bool.{false≢true}
use Rattle.auth_events.specs.declared.journal.Call.{Call}
use Rattle.auth_events.specs.declared.journal.Call.TheVariants.{End, Note, Reject, Renew}
use Rattle.auth_events.specs.declared.journal.BookReply.{BookReply}
use Rattle.wire_head.specs.declared.reply.Reply.{Reply}
use Rattle.link_trait.specs.declared.steps.StepSeen.{StepSeen}
use Rattle.link_trait.specs.declared.steps.StepSeen.TheVariants.{Done, NoMechanism, Refused as StepRefused}
use Rattle.auth_runs.specs.declared.event.Outcome.{Outcome}
use Rattle.auth_runs.specs.declared.event.Event.{Event}
use Rattle.auth_runs.specs.declared.event.Event.TheVariants.{Called, Replied, Stepped}
use Rattle.trace_rule.specs.Settings.{IsNumbered, Setting}
use Rattle.trace_rule.specs.Challenges.{challenged}
use Rattle.trace_rule.specs.Closings.{is_closing}
use Rattle.trace_rule.specs.Holding.{Held, held, is_no_mechanism, last_reply}
use Rattle.trace_rule.specs.Moves.{is_answered, is_round, rounds}
use Rattle.trace_rule.specs.Traces.{IsPast}
use Rattle.trace_rule.proofs.Bounds.{IsDone, few_rounds}
use Rattle.trace_rule.proofs.Counts.{drops}
use Rattle.trace_rule.proofs.Deterministic.{nothing_after}
use Rattle.trace_rule.proofs.Drops.{drops_bound}
use Rattle.trace_rule.proofs.Reasons.{IsClosingStep, MadeBy, Reason, chooses_behind, closing_step, is_refused, made_by, reason}
use Rattle.trace_rule.proofs.Reasons.IsClosingStep.{by_call, by_outcome}
use Rattle.trace_rule.proofs.Reasons.MadeBy.{answers, at_end, wanted}
use Rattle.trace_rule.proofs.Reasons.Reason.{begins, cancels, is_rejected, is_renewed, loses, preempts, preempts_server, selects, takes}
use Rattle.trace_laws.specs.Lengths.{choices, is_choice}
use Rattle.trace_laws.proofs.Counted.{one_if}

-- a choice is still to come
abbrev is_due : Setting → List Event → Bool
is_due s (Replied link reply ∷ past) = is_some (challenged s reply)
is_due s (Called (Reject space ordinal) reply ∷ past) = true
is_due s (Stepped t StepRefused ∷ past) = true
is_due s (Stepped t Done ∷ past) = true
is_due s (Stepped t NoMechanism ∷ past) = true
is_due s past = false

-- what a call uses up
abbrev Uses : Setting → List Event → Call → BookReply → Type 0
Uses s past call reply = one_if (is_choice s past call) + one_if (is_due s (Called call reply ∷ past)) ≤ one_if (is_due s past)

due_behind : (s : Setting) (past : List Event) → IsTrue (chooses_behind past) → ((link : ℕ) (r : Reply) (b : List Event) → past ≡ Replied link r ∷ b → IsTrue (is_some (challenged s r))) → is_due s past ≡ true
due_behind s (Called (Reject space ordinal) answer ∷ past) behind last = refl
due_behind s (Stepped t NoMechanism ∷ past) behind last = refl
due_behind s (Replied link r ∷ past) behind last = last link r past refl
due_behind s [] behind last = absurd (false≢true behind)
due_behind s (Called _ answer ∷ past) behind last = absurd (false≢true behind)
due_behind s (Stepped t _ ∷ past) behind last = absurd (false≢true behind)
due_behind s (_ ∷ past) behind last = absurd (false≢true behind)

refused_due : (s : Setting) (event : Event) (before : List Event) → IsTrue (is_refused s before event) → is_due s (event ∷ before) ≡ true
refused_due s (Replied link reply) before r = r
refused_due s (Stepped t StepRefused) before r = refl
refused_due s (Stepped t Done) before r = refl
refused_due s (Stepped t NoMechanism) before r = refl
refused_due s _ before r = absurd (false≢true r)

few_choice : (b : Bool) → one_if b ≤ 1
few_choice true = omega arith
few_choice false = omega arith

by_reason : (s : Setting) (past : List Event) (call : Call) (reply : BookReply) → Reason s past call → Uses s past call reply
by_reason s past call reply (begins p e) = subst (λ c. Uses s past c reply) (sym e) (omega arith)
by_reason s past call reply (preempts answer before p e) = subst (λ c. Uses s past c reply) (sym e) (omega arith)
by_reason s past call reply (preempts_server answer before p e) = subst (λ c. Uses s past c reply) (sym e) (omega arith)
by_reason s past call reply (selects space terms e c behind) =
    let one : one_if (is_due s past) ≡ 1 = ap one_if (due_behind s past behind last) in
    subst (λ x. Uses s past x reply) (sym e) (omega (arith, one))
  where
    last : (link : ℕ) (r : Reply) (b : List Event) → past ≡ Replied link r ∷ b → IsTrue (is_some (challenged s r))
    last link r b p = let same : Some r ≡ Some c.reply = sym (ap last_reply p) ∙ c.last in let equal : r ≡ c.reply = cc in ap (λ x. is_some (challenged s x)) equal ∙ ap is_some c.of_target
by_reason s past call reply (is_rejected event before t h p q e behind) =
    let one : one_if (is_due s past) ≡ 1 = ap (λ x. one_if (is_due s x)) p ∙ ap one_if (refused_due s event before behind) in
    subst (λ x. Uses s past x reply) (sym e) (omega (arith, one))
by_reason s past call reply (is_renewed link answer before t h offered terms number p q d o n e behind) =
    let one : one_if (is_due s past) ≡ 1 = ap (λ x. one_if (is_due s x)) p ∙ ap one_if behind in
    subst (λ x. Uses s past x reply) (sym e) (omega (arith, one, few_choice (not (is_answered s past))))
by_reason s past call reply (cancels p before q e) = subst (λ c. Uses s past c reply) (sym e) (omega arith)
by_reason s past call reply (loses p seen loss before q e) = subst (λ c. Uses s past c reply) (sym e) (omega arith)
by_reason s past call reply (takes made p before q e) = subst (λ c. Uses s past c reply) (sym e) (omega arith)

-- a call at the end chooses nothing
end_none : (s : Setting) (past : List Event) (call : Call) → is_closing s past call ≡ true → is_choice s past call ≡ false
end_none s past (Renew gift terms) k = ap not k
end_none s past (Note gift) k = refl
end_none s past End k = refl
end_none s past _ k = absurd (false≢true k)

end_uses : (s : Setting) (past : List Event) (call : Call) (reply : BookReply) → is_closing s past call ≡ true → Uses s past call reply
end_uses s past (Renew gift terms) reply k = let none : one_if (not (is_answered s past)) ≡ 0 = ap (λ b. one_if (not b)) k in omega (arith, none)
end_uses s past (Note gift) reply k = omega arith
end_uses s past End reply k = omega arith
end_uses s past _ reply k = absurd (false≢true k)

uses : (s : Setting) (past : List Event) (call : Call) (reply : BookReply) → IsPast s (Called call reply ∷ past) → Uses s past call reply
uses s past call reply run = at (made_by s past call reply run.1)
  where
    at : MadeBy s past call → Uses s past call reply
    at (wanted e) = by_reason s past call reply (reason s past run.0 call e)
    at (answers p text terms e m) = subst (λ c. Uses s past c reply) (sym e) (omega arith)
    at (at_end o m k) = end_uses s past call reply k

-- THE BALANCE

abbrev IsBalanced : Setting → List Event → Type 0
IsBalanced s past = choices s past + one_if (is_due s past) ≤ rounds s past + drops s past

pub balanced : (s : Setting) (past : List Event) → IsPast s past → IsBalanced s past
balanced s [] run = omega arith
balanced s (Called call reply ∷ past) run = let h : choices s past + one_if (is_due s past) ≤ rounds s past + drops s past = balanced s past run.0 in let u : one_if (is_choice s past call) + one_if (is_due s (Called call reply ∷ past)) ≤ one_if (is_due s past) = uses s past call reply run in omega (arith, h, u)
balanced s (Replied link reply ∷ past) run = omega (arith, balanced s past run.0)
balanced s (Stepped t step ∷ past) run = by step (balanced s past run.0)
  where
    missing : (b : Bool) → IsBalanced s past → choices s past + 1 ≤ ((if b then 1 else 0) + rounds s past) + ((if b then 0 else 1) + drops s past)
    missing true h = omega (arith, h)
    missing false h = omega (arith, h)

    by : (x : StepSeen) → IsBalanced s past → IsBalanced s (Stepped t x ∷ past)
    by StepRefused h = omega (arith, h)
    by Done h = omega (arith, h)
    by NoMechanism h = missing (is_some (option_and_then (λ (x : Held). x.context) (held s past t))) h
    by _ h = omega (arith, h)
balanced s (_ ∷ past) run = let h = balanced s past run.0 in omega (arith, h)

-- the seventeenth round leaves its choice unused

abbrev AreFew : Setting → List Event → Type 0
AreFew s past = (rounds s past ≤ 16) ⊎ (rounds s past ≡ 17) × IsDone s past

abbrev IsWithin : Setting → List Event → Type 0
IsWithin s past = choices s past ≤ 16 + drops s past

round_due : (s : Setting) (e : Event) (past : List Event) → IsTrue (is_round s past e) → is_due s (e ∷ past) ≡ true
round_due s (Replied link reply) past r = r
round_due s (Stepped t StepRefused) past r = refl
round_due s (Stepped t Done) past r = refl
round_due s (Stepped t NoMechanism) past r = refl
round_due s _ past r = absurd (false≢true r)

closing_within : (s : Setting) (past : List Event) (o : Outcome) (e : Event) → IsClosingStep s past o e → IsWithin s past → IsWithin s (e ∷ past)
closing_within s past o e (by_call call reply p k) h =
    subst (λ x. IsWithin s (x ∷ past)) (sym p) (let none : ◌≡◌ {A = ℕ} (if is_choice s past call then 1 else 0) 0 = ap {B = ℕ} (λ b. if b then 1 else 0) (end_none s past call k) in omega (arith, h, none))
closing_within s past o e (by_outcome p) h = subst (λ x. IsWithin s (x ∷ past)) (sym p) h

pub within : (s : Setting) (past : List Event) → IsPast s past → IsWithin s past
within s [] run = omega arith
within s (e ∷ past) run = at (few_rounds s (e ∷ past) run) (within s past run.0)
  where
    round : (b : Bool) → is_round s past e ≡ b → rounds s (e ∷ past) ≡ 17 → rounds s past ≤ 16 → IsWithin s (e ∷ past)
    round true r whole few =
        let due : one_if (is_due s (e ∷ past)) ≡ 1 = ap one_if (round_due s e past r) in
        omega (arith, balanced s (e ∷ past) run, due, whole)
    round false r whole few = absurd (let equal : rounds s (e ∷ past) ≡ 0 + rounds s past = ap (λ b. (if b then 1 else 0) + rounds s past) r in omega (arith, equal, whole, few))

    last : rounds s (e ∷ past) ≡ 17 → AreFew s past → IsWithin s past → IsWithin s (e ∷ past)
    last whole (inl few) before = round (is_round s past e) refl whole few
    last whole (inr (w, inl (o, closes))) before = closing_within s past o e (closing_step s past o e closes run.1) before
    last whole (inr (w, inr over)) before = absurd (nothing_after s past e over run.1)

    at : AreFew s (e ∷ past) → IsWithin s past → IsWithin s (e ∷ past)
    at (inl few) before = omega (arith, balanced s (e ∷ past) run, few)
    at (inr (whole, done)) before = last whole (few_rounds s past run.0) before

-- where the provider never lacked a mechanism nothing was dropped
pub none_dropped : (s : Setting) (past : List Event) → list_any is_no_mechanism past ≡ false → drops s past ≡ 0
none_dropped s [] none = refl
none_dropped s (Stepped t NoMechanism ∷ past) none = absurd (false≢true (sym none))
none_dropped s (_ ∷ past) none = none_dropped s past none

pub few_choices : (s : Setting) → IsNumbered s → (past : List Event) → IsPast s past → choices s past ≤ (if list_any is_no_mechanism past then 17 else 16)
few_choices s means past run = at (list_any is_no_mechanism past) refl
  where
    at : (b : Bool) → list_any is_no_mechanism past ≡ b → choices s past ≤ (if b then 17 else 16)
    at true k = omega (arith, within s past run, drops_bound s means past run)
    at false k = omega (arith, within s past run, none_dropped s past k)
