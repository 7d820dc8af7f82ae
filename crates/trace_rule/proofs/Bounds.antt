-- A request makes few rounds and few calls.
use Rattle.std.proofs.Common.{◌≡◌, ◌⊎◌, inl, inr, ℕ, zero, suc, ◌+◌, ◌*◌, ◌≤◌, ◌<◌, Bool, true, false, not, ◌&&◌, IsTrue, List, [], ◌∷◌, ◌++◌, length, length-append, drop, Option, Some, None, is_some, option_and_then, option_map, unwrap_or, refl, sym, ap, ◌∙◌, subst, arith, if◌then◌else◌}
use Rattle.std.proofs.lemmas.Bool.{false≢true, cases_lt}
use Rattle.std.proofs.lemmas.Bool.Decides.{nat_tests}
use Rattle.std.proofs.Math.Seq.{drop-nil}
use Rattle.spaces.specs.declared.site.Target.{Target}
use Rattle.spaces.specs.declared.site.Target.TheVariants.{Server, Proxy, Socks}
use Rattle.auth_events.specs.declared.journal.Call.{Call}
use Rattle.auth_events.specs.declared.journal.Call.TheVariants.{Begin, Preempt, Select, Reject, Renew, Answer, Lose, Take, Note, End}
use Rattle.auth_events.specs.declared.journal.BookReply.{BookReply}
use Rattle.auth_events.specs.declared.journal.BookReply.TheVariants.{Lead, Follow}
use Rattle.auth_events.specs.Pages.{fits}
use Rattle.wire_head.specs.declared.reply.Reply.{Reply}
use Rattle.link_trait.specs.declared.prompts.AskSeen.TheVariants.{Given as AskGiven, Cancel}
use Rattle.link_trait.specs.declared.steps.StepSeen.{StepSeen}
use Rattle.link_trait.specs.declared.steps.StepSeen.TheVariants.{Token, Done, Refused as StepRefused, NoMechanism, Failed as StepFailed, NoMemory as StepNoMemory}
use Rattle.auth_runs.specs.declared.event.Outcome.{Outcome}
use Rattle.auth_runs.specs.declared.event.Outcome.TheVariants.{Answered, Refused}
use Rattle.auth_runs.specs.declared.event.Why.TheVariants.{Rounds}
use Rattle.auth_runs.specs.declared.event.Event.{Event}
use Rattle.auth_runs.specs.declared.event.Event.TheVariants.{Called, Replied, AskedFor, Stepped, Ended}
use Rattle.trace_rule.specs.Settings.{Setting, first_target, scheme_is, is_by_path}
use Rattle.spaces.specs.declared.space.Scheme.TheVariants.{Digest}
use Rattle.std.specs.Prelude.{nat_le, map}
use Rattle.std.proofs.lemmas.List.{length-map}
use Rattle.trace_rule.specs.Challenges.{challenged}
use Rattle.trace_rule.specs.Holding.{Held, held, carried, code, last_reply}
use Rattle.trace_rule.specs.Moves.{move, known, select, is_round, rounds, is_last_round, rejects, rejected, weighed, replied, terms_led, is_answered}
use Rattle.trace_rule.specs.NextNonces.{next}
use Rattle.trace_rule.specs.Closings.{want, renewal, renewal_of, renewal_for, renewals, is_challenged, note_of, note_for, notes, closings, is_closing, closings_made, next_closing, carried_out}
use Rattle.trace_rule.specs.Moves.Want.{Calls, Answers}
use Rattle.trace_rule.specs.Moves.Move.{Closes}
use Rattle.trace_rule.specs.Traces.{IsPast, Follows, is_over}
use Rattle.trace_rule.specs.Entries.{calls}
use Rattle.trace_rule.proofs.Counts.{drops}
use Rattle.trace_rule.proofs.Deterministic.{nothing_after}
use Rattle.trace_rule.proofs.Reasons.{Reason, chooses_behind, is_refused, reason, closes_at, MadeBy, made_by, IsClosingStep, closing_step, still_closes, is_at_end, at_end_closes, closing_never}
use Rattle.trace_rule.proofs.Reasons.IsClosingStep.{by_call as at_end_call, by_outcome}
use Rattle.trace_rule.proofs.Reasons.Reason.{begins, preempts, preempts_server, selects, is_rejected, is_renewed, cancels, loses, takes}
use Rattle.trace_rule.proofs.Reasons.MadeBy.{wanted, answers, at_end}
use Rattle.trace_rule.proofs.Waiting.{given_behind}
use Rattle.trace_rule.proofs.Stages.{fits_of, asks_from}

-- ROUNDS

abbrev pub IsDone : Setting → List Event → Type 0
IsDone s past = ((o : Outcome) × (move s past ≡ Closes o)) ⊎ IsTrue (is_over past)

replied_closes : (s : Setting) (whole : List Event) (link : ℕ) (reply : Reply) (c : Option Target) (past : List Event) → IsTrue (is_some c) → IsTrue (is_last_round s whole) → replied s whole link reply c past ≡ Closes (Refused reply.code Rounds)
replied_closes s whole link reply None past some last = absurd (false≢true some)
replied_closes s whole link reply (Some t) past some last = ap (λ b. if b then Closes (Refused reply.code Rounds) else weighed s whole link reply t (held s past t)) last

rejected_closes : (s : Setting) (whole : List Event) (h : Option Held) → IsTrue (is_last_round s whole) → rejected s whole h ≡ Closes (Refused (code whole) Rounds)
rejected_closes s whole h last = ap (λ b. if b then Closes (Refused (code whole) Rounds) else known h rejects) last

pub round_closes : (s : Setting) (past : List Event) (e : Event) → IsTrue (is_round s past e) → IsTrue (is_last_round s (e ∷ past)) → (o : Outcome) × (move s (e ∷ past) ≡ Closes o)
round_closes s past (Replied link reply) round last = (Refused reply.code Rounds, replied_closes s (Replied link reply ∷ past) link reply (challenged s reply) past round last)
round_closes s past (Stepped t StepRefused) round last = (Refused (code past) Rounds, rejected_closes s (Stepped t StepRefused ∷ past) (held s past t) last)
round_closes s past (Stepped t Done) round last = (Refused (code past) Rounds, rejected_closes s (Stepped t Done ∷ past) (held s past t) last)
round_closes s past (Stepped t NoMechanism) round last =
    (Refused (code past) Rounds, ap (λ b. if b then rejected s (Stepped t NoMechanism ∷ past) (held s past t) else select s (Stepped t NoMechanism ∷ past)) round ∙ rejected_closes s (Stepped t NoMechanism ∷ past) (held s past t) last)
round_closes s past _ round last = absurd (false≢true round)

abbrev AreFew : Setting → List Event → Type 0
AreFew s past = (rounds s past ≤ 16) ⊎ (rounds s past ≡ 17) × IsDone s past

one_more : (s : Setting) (past : List Event) (e : Event) (b : Bool) → is_round s past e ≡ b → rounds s past ≤ 16 → AreFew s (e ∷ past)
one_more s past e false none few = inl (let same : rounds s (e ∷ past) ≡ rounds s past = ap (λ b. (if b then 1 else 0) + rounds s past) none ∙ omega arith in omega (arith, same, few))
one_more s past e true round few =
    let counted : rounds s (e ∷ past) ≡ 1 + rounds s past = ap (λ b. (if b then 1 else 0) + rounds s past) round in
    elim (cases_lt (rounds s past) 16) [
      | inl below ↦ inl (omega (arith, counted, below))
      | inr above ↦
          let whole : rounds s (e ∷ past) ≡ 17 = omega (arith, counted, few, above) in
          inr (whole, inl (round_closes s past e round (grind (arith, nat_tests, whole))))
    ]

-- behind what closes comes a call at the end, or the outcome
closing_on : (s : Setting) (past : List Event) (o : Outcome) (e : Event) → rounds s past ≡ 17 → move s past ≡ Closes o → Follows s past (want s past) e → AreFew s (e ∷ past)
closing_on s past o e whole closes next = at (closing_step s past o e closes next)
  where
    zero_more : 0 + rounds s past ≡ 17
    zero_more = omega (arith, whole)

    at : IsClosingStep s past o e → AreFew s (e ∷ past)
    at (at_end_call call reply p k) = subst (λ x. AreFew s (x ∷ past)) (sym p) (inr (zero_more, inl (o, still_closes s past call reply k ∙ closes)))
    at (by_outcome p) = subst (λ x. AreFew s (x ∷ past)) (sym p) (inr (zero_more, inr refl))

pub few_rounds : (s : Setting) (past : List Event) → IsPast s past → AreFew s past
few_rounds s [] run = inl (omega arith)
few_rounds s (e ∷ past) run = at (few_rounds s past run.0)
  where
    at : AreFew s past → AreFew s (e ∷ past)
    at (inl few) = one_more s past e (is_round s past e) refl few
    at (inr (whole, inl (o, closes))) = closing_on s past o e whole closes run.1
    at (inr (whole, inr over)) = absurd (nothing_after s past e over run.1)

pub rounds_bound : (s : Setting) (past : List Event) → IsPast s past → rounds s past ≤ 17
rounds_bound s past run = at (few_rounds s past run)
  where
    at : AreFew s past → rounds s past ≤ 17
    at (inl few) = omega (arith, few)
    at (inr (whole, done)) = omega (arith, whole)

-- THE CALLS AT THE END

-- none was made, or the request closes
abbrev IsStill : Setting → List Event → Type 0
IsStill s past = (closings_made s past ≡ 0) ⊎ IsDone s past

made_more : (s : Setting) (e : Event) (past : List Event) → closings_made s (e ∷ past) ≡ (if is_at_end s past e then 1 else 0) + closings_made s past
made_more s (Called call reply) past = refl
made_more s _ past = omega arith

pub still : (s : Setting) (past : List Event) → IsPast s past → IsStill s past
still s [] run = inl refl
still s (e ∷ past) run = at (still s past run.0)
  where
    by : (b : Bool) → is_at_end s past e ≡ b → closings_made s past ≡ 0 → IsStill s (e ∷ past)
    by true k none = inr (inl (at_end_closes s past e run.0 k run.1))
    by false k none = inl (made_more s e past ∙ (ap (λ b. (if b then 1 else 0) + closings_made s past) k ∙ omega (arith, none)))

    closing : (o : Outcome) → move s past ≡ Closes o → IsClosingStep s past o e → IsStill s (e ∷ past)
    closing o closes (at_end_call call reply p k) = subst (λ x. IsStill s (x ∷ past)) (sym p) (inr (inl (o, still_closes s past call reply k ∙ closes)))
    closing o closes (by_outcome p) = subst (λ x. IsStill s (x ∷ past)) (sym p) (inr (inr refl))

    at : IsStill s past → IsStill s (e ∷ past)
    at (inl none) = by (is_at_end s past e) refl none
    at (inr (inl (o, closes))) = closing o closes (closing_step s past o e closes run.1)
    at (inr (inr over)) = absurd (nothing_after s past e over run.1)

-- THE OTHER CALLS

-- how many calls may still come behind a call, before the next head
abbrev by_call : Call → ℕ
by_call Begin = 2
by_call (Preempt Proxy) = 1
by_call (Reject space ordinal) = 2
by_call _ = 0

abbrev left_call : Call → BookReply → ℕ
left_call call (Lead p o) = 1
left_call call (Follow p) = 1
left_call call reply = by_call call

abbrev left : Setting → List Event → ℕ
left s [] = 3
left s (Called call reply ∷ past) = left_call call reply
left s (AskedFor p seen ∷ past) = 1
left s (Stepped t StepRefused ∷ past) = 3
left s (Stepped t Done ∷ past) = 3
left s (Stepped t NoMechanism ∷ past) = if is_some (option_and_then (λ h. h.context) (held s past t)) then 3 else 2
left s (Replied link reply ∷ past) = if is_some (challenged s reply) then 3 else 0
left s (event ∷ past) = 0

-- calls that aren't at the end
abbrev body : Setting → List Event → ℕ
body s [] = 0
body s (Called call reply ∷ past) = (if is_closing s past call then 0 else 1) + body s past
body s (event ∷ past) = body s past

abbrev is_choice : Call → Bool
is_choice (Select space terms) = true
is_choice _ = false

small : (call : Call) (reply : BookReply) → IsTrue (fits call reply) → is_choice call ≡ false → left_call call reply ≡ by_call call
small (Select space terms) reply f other = absurd (false≢true (sym other))
small call (Lead p o) f other = absurd (false≢true f)
small call (Follow p) f other = absurd (false≢true f)
small call reply f other = refl

choice_left : (space terms : ℕ) (reply : BookReply) → left_call (Select space terms) reply ≤ 1
choice_left space terms (Lead p o) = omega arith
choice_left space terms (Follow p) = omega arith
choice_left space terms reply = omega arith

abbrev Falls : Setting → List Event → Call → BookReply → Type 0
Falls s past call reply = (if is_closing s past call then 0 else 1) + left_call call reply ≤ left s past

falls_by : (s : Setting) (past : List Event) (call : Call) (reply : BookReply) → IsTrue (fits call reply) → is_choice call ≡ false → (if is_closing s past call then 0 else 1) + by_call call ≤ left s past → Falls s past call reply
falls_by s past call reply f other h = subst (λ n. (if is_closing s past call then 0 else 1) + n ≤ left s past) (sym (small call reply f other)) h

-- what stands before a call leaves room for it
choosing_left : (s : Setting) (past : List Event) (reply : Reply) (t : Target) → IsTrue (chooses_behind past) → IsPast s past → ((link : ℕ) (r : Reply) (b : List Event) → past ≡ Replied link r ∷ b → IsTrue (is_some (challenged s r))) → 2 ≤ left s past
choosing_left s (Called (Reject space ordinal) answer ∷ past) reply t behind run last =
    let same : left_call (Reject space ordinal) answer ≡ 2 = small (Reject space ordinal) answer (fits_of s past (Reject space ordinal) answer run.1) refl in omega (arith, same)
choosing_left s (Stepped target NoMechanism ∷ past) reply t behind run last = at (is_some (option_and_then (λ (h : Held). h.context) (held s past target)))
  where
    at : (b : Bool) → 2 ≤ (if b then 3 else 2)
    at true = omega arith
    at false = omega arith
choosing_left s (Replied link r ∷ past) reply t behind run last = let three : left s (Replied link r ∷ past) ≡ 3 = ap (λ b. if b then 3 else 0) (last link r past refl) in omega (arith, three)
choosing_left s [] reply t behind run last = absurd (false≢true behind)
choosing_left s (Called _ answer ∷ past) reply t behind run last = absurd (false≢true behind)
choosing_left s (Stepped target _ ∷ past) reply t behind run last = absurd (false≢true behind)
choosing_left s (_ ∷ past) reply t behind run last = absurd (false≢true behind)

refused_left : (s : Setting) (event : Event) (before : List Event) → IsTrue (is_refused s before event) → left s (event ∷ before) ≡ 3
refused_left s (Replied link reply) before r = ap (λ b. if b then 3 else 0) r
refused_left s (Stepped t StepRefused) before r = refl
refused_left s (Stepped t Done) before r = refl
refused_left s (Stepped t NoMechanism) before r = ap (λ b. if b then 3 else 2) r
refused_left s _ before r = absurd (false≢true r)

preempt_left : (t : Target) → by_call (Preempt t) ≤ 1
preempt_left Proxy = omega arith
preempt_left Server = omega arith
preempt_left Socks = omega arith

at_most_one : (b : Bool) → ◌≤◌ (if b then 0 else 1) 1
at_most_one true = omega arith
at_most_one false = omega arith

by_reason : (s : Setting) (past : List Event) (call : Call) (reply : BookReply) → IsPast s past → IsTrue (fits call reply) → Reason s past call → Falls s past call reply
by_reason s past call reply run f (begins p e) =
    subst (λ x. Falls s x call reply) (sym p) (subst (λ c. Falls s [] c reply) (sym e) (falls_by s [] Begin reply (subst (λ c. IsTrue (fits c reply)) e f) refl (omega arith)))
by_reason s past call reply run f (preempts answer before p e) =
    let fit : IsTrue (fits (Preempt (first_target s)) reply) = subst (λ c. IsTrue (fits c reply)) e f in
    let two : left s (Called Begin answer ∷ before) ≡ 2 = small Begin answer (fits_of s before Begin answer (subst (IsPast s) p run).1) refl in
    subst (λ x. Falls s x call reply) (sym p) (subst (λ c. Falls s (Called Begin answer ∷ before) c reply) (sym e)
    (falls_by s (Called Begin answer ∷ before) (Preempt (first_target s)) reply fit refl (omega (arith, two, preempt_left (first_target s)))))
by_reason s past call reply run f (preempts_server answer before p e) =
    let fit : IsTrue (fits (Preempt Server) reply) = subst (λ c. IsTrue (fits c reply)) e f in
    let one : left s (Called (Preempt Proxy) answer ∷ before) ≡ 1 = small (Preempt Proxy) answer (fits_of s before (Preempt Proxy) answer (subst (IsPast s) p run).1) refl in
    subst (λ x. Falls s x call reply) (sym p) (subst (λ c. Falls s (Called (Preempt Proxy) answer ∷ before) c reply) (sym e)
    (falls_by s (Called (Preempt Proxy) answer ∷ before) (Preempt Server) reply fit refl (omega (arith, one))))
by_reason s past call reply run f (selects space terms e c behind) =
    let two : 2 ≤ left s past = choosing_left s past c.reply c.target behind run last in
    subst (λ x. Falls s past x reply) (sym e) (omega (arith, two, choice_left space terms reply))
  where
    last : (link : ℕ) (r : Reply) (b : List Event) → past ≡ Replied link r ∷ b → IsTrue (is_some (challenged s r))
    last link r b p = let same : Some r ≡ Some c.reply = sym (ap last_reply p) ∙ c.last in let equal : r ≡ c.reply = cc in ap (λ x. is_some (challenged s x)) equal ∙ ap is_some c.of_target
by_reason s past call reply run f (is_rejected event before t h p q e behind) =
    let fit : IsTrue (fits (Reject h.gift.space h.gift.ordinal) reply) = subst (λ c. IsTrue (fits c reply)) e f in
    subst (λ x. Falls s x call reply) (sym p) (subst (λ c. Falls s (event ∷ before) c reply) (sym e)
    (falls_by s (event ∷ before) (Reject h.gift.space h.gift.ordinal) reply fit refl (omega (arith, refused_left s event before behind))))
by_reason s past call reply run f (is_renewed link answer before t h offered terms number p q d o n e behind) =
    let fit : IsTrue (fits (Renew h.gift number) reply) = subst (λ c. IsTrue (fits c reply)) e f in
    subst (λ x. Falls s x call reply) (sym p) (subst (λ c. Falls s (Replied link answer ∷ before) c reply) (sym e)
    (falls_by s (Replied link answer ∷ before) (Renew h.gift number) reply fit refl (omega (arith, renewal, at_most_one (is_closing s (Replied link answer ∷ before) (Renew h.gift number))))))
  where
    renewal : 1 ≤ left s (Replied link answer ∷ before)
    renewal = let three : left s (Replied link answer ∷ before) ≡ 3 = ap (λ b. if b then 3 else 0) behind in omega (arith, three)
by_reason s past call reply run f (cancels p before q e) =
    subst (λ x. Falls s x call reply) (sym q) (subst (λ c. Falls s (AskedFor p Cancel ∷ before) c reply) (sym e)
    (falls_by s (AskedFor p Cancel ∷ before) (Answer p 0 (terms_led before p)) reply (subst (λ c. IsTrue (fits c reply)) e f) refl (omega arith)))
by_reason s past call reply run f (loses p seen loss before q e) =
    subst (λ x. Falls s x call reply) (sym q) (subst (λ c. Falls s (AskedFor p seen ∷ before) c reply) (sym e)
    (falls_by s (AskedFor p seen ∷ before) (Lose p loss) reply (subst (λ c. IsTrue (fits c reply)) e f) refl (omega arith)))
by_reason s past call reply run f (takes made p before q e) =
    subst (λ x. Falls s x call reply) (sym q) (subst (λ c. Falls s (Called made (Follow p) ∷ before) c reply) (sym e)
    (falls_by s (Called made (Follow p) ∷ before) (Take p) reply (subst (λ c. IsTrue (fits c reply)) e f) refl (omega arith)))

closing_small : (s : Setting) (past : List Event) (call : Call) → is_closing s past call ≡ true → by_call call ≡ 0
closing_small s past (Renew gift terms) k = refl
closing_small s past (Note gift) k = refl
closing_small s past End k = refl
closing_small s past _ k = absurd (false≢true k)

closing_no_choice : (s : Setting) (past : List Event) (call : Call) → is_closing s past call ≡ true → is_choice call ≡ false
closing_no_choice s past (Renew gift terms) k = refl
closing_no_choice s past (Note gift) k = refl
closing_no_choice s past End k = refl
closing_no_choice s past _ k = absurd (false≢true k)

falls : (s : Setting) (past : List Event) (call : Call) (reply : BookReply) → IsPast s (Called call reply ∷ past) → Falls s past call reply
falls s past call reply run = at (made_by s past call reply run.1)
  where
    fit : IsTrue (fits call reply)
    fit = fits_of s past call reply run.1

    at : MadeBy s past call → Falls s past call reply
    at (wanted e) = by_reason s past call reply run.0 fit (reason s past run.0 call e)
    at (answers p text terms e m) =
        let g = given_behind s past p terms m (closing_never s past (Answers p terms) run.0 m) in
        subst (λ x. Falls s x call reply) (sym g.1) (subst (λ c. Falls s (AskedFor p AskGiven ∷ g.0) c reply) (sym e)
        (falls_by s (AskedFor p AskGiven ∷ g.0) (Answer p text terms) reply (subst (λ c. IsTrue (fits c reply)) e fit) refl (omega arith)))
    at (at_end o m k) =
        falls_by s past call reply fit (closing_no_choice s past call k) (let none : by_call call ≡ 0 = closing_small s past call k in let zero_call : ◌≡◌ {A = ℕ} (if is_closing s past call then 0 else 1) 0 = ap {B = ℕ} (λ b. if b then 0 else 1) k in omega (arith, none, zero_call))

-- THE BALANCE

abbrev IsWithin : Setting → List Event → Type 0
IsWithin s past = body s past + left s past ≤ 3 + (3 * rounds s past + 2 * drops s past)

within_stepped : (s : Setting) (t : Target) (step : StepSeen) (past : List Event) → IsWithin s past → IsWithin s (Stepped t step ∷ past)
within_stepped s t (Token token) past h = omega (arith, h)
within_stepped s t (StepFailed count) past h = omega (arith, h)
within_stepped s t StepNoMemory past h = omega (arith, h)
within_stepped s t StepRefused past h = omega (arith, h)
within_stepped s t Done past h = omega (arith, h)
within_stepped s t NoMechanism past h = at (is_some (option_and_then (λ (x : Held). x.context) (held s past t)))
  where
    at : (b : Bool) → body s past + (if b then 3 else 2) ≤ 3 + (3 * ((if b then 1 else 0) + rounds s past) + 2 * ((if b then 0 else 1) + drops s past))
    at true = omega (arith, h)
    at false = omega (arith, h)

pub within : (s : Setting) (past : List Event) → IsPast s past → IsWithin s past
within s [] run = omega arith
within s (Called call reply ∷ past) run =
    let h : body s past + left s past ≤ 3 + (3 * rounds s past + 2 * drops s past) = within s past run.0 in
    let f : (if is_closing s past call then 0 else 1) + left_call call reply ≤ left s past = falls s past call reply run in
    omega (arith, h, f)
within s (AskedFor p seen ∷ past) run =
    let h : body s past + left s past ≤ 3 + (3 * rounds s past + 2 * drops s past) = within s past run.0 in
    let l = asks_from s past p seen run.0 run.1 in
    let one : left s past ≡ 1 = ap (left s) l.3 in
    omega (arith, h, one)
within s (Stepped t step ∷ past) run = within_stepped s t step past (within s past run.0)
within s (Replied link reply ∷ past) run = at (is_some (challenged s reply)) (within s past run.0)
  where
    at : (b : Bool) → IsWithin s past → body s past + (if b then 3 else 0) ≤ 3 + (3 * ((if b then 1 else 0) + rounds s past) + 2 * drops s past)
    at true h = omega (arith, h)
    at false h = omega (arith, h)
within s (_ ∷ past) run = let h : body s past + left s past ≤ 3 + (3 * rounds s past + 2 * drops s past) = within s past run.0 in omega (arith, h)

-- the seventeenth round leaves its calls unused

no_body : (s : Setting) (e : Event) (past : List Event) → IsTrue (is_round s past e) → (body s (e ∷ past) ≡ body s past) × (drops s (e ∷ past) ≡ drops s past)
no_body s (Replied link reply) past round = (refl, refl)
no_body s (Stepped t StepRefused) past round = (refl, refl)
no_body s (Stepped t Done) past round = (refl, refl)
no_body s (Stepped t NoMechanism) past round = (refl, ap (λ b. (if b then 0 else 1) + drops s past) round ∙ omega arith)
no_body s _ past round = absurd (false≢true round)

abbrev IsInBody : Setting → List Event → Type 0
IsInBody s past = body s past ≤ 51 + 2 * drops s past

same_body : (s : Setting) (past : List Event) (o : Outcome) (e : Event) → IsClosingStep s past o e → IsInBody s past → IsInBody s (e ∷ past)
same_body s past o e (at_end_call call reply p k) h =
    subst (λ x. IsInBody s (x ∷ past)) (sym p) (let none : ◌≡◌ {A = ℕ} (if is_closing s past call then 0 else 1) 0 = ap {B = ℕ} (λ b. if b then 0 else 1) k in omega (arith, h, none))
same_body s past o e (by_outcome p) h = subst (λ x. IsInBody s (x ∷ past)) (sym p) h

in_body_step : (s : Setting) (e : Event) (past : List Event) → IsPast s (e ∷ past) → IsInBody s past → IsInBody s (e ∷ past)
in_body_step s e past run before = at (few_rounds s (e ∷ past) run)
  where
    round : (b : Bool) → is_round s past e ≡ b → rounds s (e ∷ past) ≡ 17 → rounds s past ≤ 16 → IsInBody s (e ∷ past)
    round true r whole few =
        let same = no_body s e past r in
        let h : body s past + left s past ≤ 3 + (3 * rounds s past + 2 * drops s past) = within s past run.0 in
        omega (arith, same.0, same.1, h, few)
    round false r whole few = absurd (let equal : rounds s (e ∷ past) ≡ 0 + rounds s past = ap (λ b. (if b then 1 else 0) + rounds s past) r in omega (arith, equal, whole, few))

    last : rounds s (e ∷ past) ≡ 17 → AreFew s past → IsInBody s (e ∷ past)
    last whole (inl few) = round (is_round s past e) refl whole few
    last whole (inr (w, inl (o, closes))) = same_body s past o e (closing_step s past o e closes run.1) before
    last whole (inr (w, inr over)) = absurd (nothing_after s past e over run.1)

    at : AreFew s (e ∷ past) → IsInBody s (e ∷ past)
    at (inl few) = let h : body s (e ∷ past) + left s (e ∷ past) ≤ 3 + (3 * rounds s (e ∷ past) + 2 * drops s (e ∷ past)) = within s (e ∷ past) run in omega (arith, h, few)
    at (inr (whole, done)) = last whole (few_rounds s past run.0)

pub in_body : (s : Setting) (past : List Event) → IsPast s past → IsInBody s past
in_body s [] run = omega arith
in_body s (e ∷ past) run = in_body_step s e past run (in_body s past run.0)

-- HOW MANY CALLS

-- of renewals there are at most two, in a request of at most 14 rounds, and of notes two

one_at_most : {A : Type 0} (f : Held → List A) → ((h : Held) → length (f h) ≤ 1) → (o : Option Held) → length (unwrap_or (option_map f o) []) ≤ 1
one_at_most f few None = omega arith
one_at_most f few (Some h) = few h

one_if : {A : Type 0} (b : Bool) (x : A) → length (if b then x ∷ [] else []) ≤ 1
one_if true x = omega arith
one_if false x = omega arith

one_then : {A : Type 0} (b : Bool) (xs : List A) → length xs ≤ 1 → length (if b then xs else []) ≤ 1
one_then true xs h = h
one_then false xs h = omega arith

one_found : {A B : Type 0} (f : A → B) (o : Option A) → length (unwrap_or (option_map (λ a. f a ∷ []) o) []) ≤ 1
one_found f None = omega arith
one_found f (Some a) = omega arith

note_short : (s : Setting) (past : List Event) (t : Target) → length (note_for s past t) ≤ 1
note_short s past t = one_at_most (note_of s past t) (λ h. one_if (is_by_path s h.gift.space && not (is_challenged s past t)) (Note h.gift)) (carried s past t)

notes_short : (s : Setting) (past : List Event) (o : Outcome) → length (notes s past o) ≤ 2
notes_short s past (Answered status) = omega (arith, length-append (note_for s past Proxy) (note_for s past Server), note_short s past Proxy, note_short s past Server)
notes_short s past (Refused status why) = omega (arith, length-append (note_for s past Proxy) (note_for s past Server), note_short s past Proxy, note_short s past Server)
notes_short s past _ = omega arith

renewal_short : (s : Setting) (past : List Event) (t : Target) → length (renewal_for s past t) ≤ 1
renewal_short s past t =
    one_at_most (renewal_of s past t)
    (λ h. one_then (scheme_is s h.gift.space Digest) (unwrap_or (option_map (λ nonce. renewal s h nonce ∷ []) (next past t)) []) (one_found (renewal s h) (next past t))) (carried s past t)

renewals_short : (s : Setting) (past : List Event) (o : Outcome) → (length (renewals s past o) ≡ 0) ⊎ (length (renewals s past o) ≤ 2) × (rounds s past ≤ 14)
renewals_short s past (Answered status) = at (is_answered s past) (nat_le (rounds s past) 14) refl
  where
    at : (b c : Bool) → nat_le (rounds s past) 14 ≡ c
        → (length (if b && c then renewal_for s past Proxy ++ renewal_for s past Server else []) ≡ 0) ⊎ (length (if b && c then renewal_for s past Proxy ++ renewal_for s past Server else []) ≤ 2) × (rounds s past ≤ 14)
    at true true e =
        inr (omega (arith, length-append (renewal_for s past Proxy) (renewal_for s past Server), renewal_short s past Proxy, renewal_short s past Server), grind (arith, nat_tests, e))
    at true false e = inl refl
    at false c e = inl refl
renewals_short s past _ = inl refl

closings_short : (s : Setting) (past : List Event) (o : Outcome) → (length (closings s past o) ≤ 3) ⊎ (length (closings s past o) ≤ 5) × (rounds s past ≤ 14)
closings_short s past o = at (renewals_short s past o)
  where
    some_call : Call → Option Call
    some_call call = Some call

    whole : length (closings s past o) ≤ length (renewals s past o) + 3
    whole =
        omega (
          arith,
          length-append (renewals s past o) (map Some (notes s past o ++ End ∷ [])),
          length-map (notes s past o ++ End ∷ []) some_call,
          length-append (notes s past o) (End ∷ []),
          notes_short s past o,
        )

    at : (length (renewals s past o) ≡ 0) ⊎ (length (renewals s past o) ≤ 2) × (rounds s past ≤ 14) → (length (closings s past o) ≤ 3) ⊎ (length (closings s past o) ≤ 5) × (rounds s past ≤ 14)
    at (inl none) = inl (omega (arith, whole, none))
    at (inr (two, few)) = inr (omega (arith, whole, two), few)

drop_some : {A : Type 0} (n : ℕ) (xs : List A) (c : A) (cs : List A) → drop n xs ≡ c ∷ cs → n < length xs
drop_some n [] c cs e = let clash : [] ≡ c ∷ cs = sym (drop-nil n) ∙ e in cc
drop_some zero (x ∷ xs) c cs e = omega arith
drop_some (suc n) (x ∷ xs) c cs e = let less : n < length xs = drop_some n xs c cs e in omega (arith, less)

-- a call at the end is one of the list
one_of_closings : (s : Setting) (past : List Event) (o : Outcome) (call : Call) (reply : BookReply) → move s past ≡ Closes o → Follows s past (want s past) (Called call reply) → closings_made s past < length (closings s past o)
one_of_closings s past o call reply closes next = at (drop (closings_made s past) (closings s past o)) refl (subst (λ m. Follows s past (carried_out s past m) (Called call reply)) closes next)
  where
    at : (cs : List (Option Call)) → drop (closings_made s past) (closings s past o) ≡ cs → Follows s past (next_closing o cs) (Called call reply) → closings_made s past < length (closings s past o)
    at [] e f = let clash : Called call reply ≡ Ended o = f in cc
    at (None ∷ cs) e f = absurd f
    at (Some c ∷ cs) e f = drop_some (closings_made s past) (closings s past o) (Some c) cs e

all_calls : (s : Setting) (past : List Event) → length (calls past) ≡ body s past + closings_made s past
all_calls s [] = refl
all_calls s (Called call reply ∷ past) = at (is_closing s past call) (all_calls s past)
  where
    at : (b : Bool) → length (calls past) ≡ body s past + closings_made s past → suc (length (calls past)) ≡ ((if b then 0 else 1) + body s past) + ((if b then 1 else 0) + closings_made s past)
    at true h = omega (arith, h)
    at false h = omega (arith, h)
all_calls s (_ ∷ past) = all_calls s past

abbrev HasFewCalls : Setting → List Event → Type 0
HasFewCalls s past = body s past + closings_made s past ≤ 54 + 2 * drops s past

few_calls_in : (s : Setting) (past : List Event) → IsPast s past → HasFewCalls s past
few_calls_in s [] run = omega arith
few_calls_in s (Called call reply ∷ past) run = at (is_closing s past call) refl
  where
    at_end : is_closing s past call ≡ true → HasFewCalls s (Called call reply ∷ past)
    at_end k = by (closings_short s past c.0)
      where
        c : (o : Outcome) × (move s past ≡ Closes o)
        c = closes_at s past call reply (λ x y. reason s past run.0 x y) k run.1

        none : ◌≡◌ {A = ℕ} (if is_closing s past call then 0 else 1) 0
        none = ap {B = ℕ} (λ b. if b then 0 else 1) k

        one : ◌≡◌ {A = ℕ} (if is_closing s past call then 1 else 0) 1
        one = ap {B = ℕ} (λ b. if b then 1 else 0) k

        by : (length (closings s past c.0) ≤ 3) ⊎ (length (closings s past c.0) ≤ 5) × (rounds s past ≤ 14) → HasFewCalls s (Called call reply ∷ past)
        by (inl three) = omega (arith, none, one, three, one_of_closings s past c.0 call reply c.1 run.1, in_body s past run.0)
        by (inr (five, few)) =
            let h : body s past + left s past ≤ 3 + (3 * rounds s past + 2 * drops s past) = within s past run.0 in
            omega (arith, none, one, five, few, one_of_closings s past c.0 call reply c.1 run.1, h)

    on_way : is_closing s past call ≡ false → IsStill s past → HasFewCalls s (Called call reply ∷ past)
    on_way k (inl nothing) =
        let h : IsInBody s (Called call reply ∷ past) = in_body s (Called call reply ∷ past) run in
        let same : closings_made s (Called call reply ∷ past) ≡ 0 + closings_made s past = ap (λ b. (if b then 1 else 0) + closings_made s past) k in
        omega (arith, h, same, nothing)
    on_way k (inr (inl (o, closes))) = absurd (by (closing_step s past o (Called call reply) closes run.1))
      where
        by : IsClosingStep s past o (Called call reply) → ⊥
        by (at_end_call c r p closing) = false≢true (sym k ∙ (ap (is_at_end s past) p ∙ closing))
        by (by_outcome p) = let clash : Called call reply ≡ Ended o = p in cc
    on_way k (inr (inr over)) = absurd (nothing_after s past (Called call reply) over run.1)

    at : (b : Bool) → is_closing s past call ≡ b → HasFewCalls s (Called call reply ∷ past)
    at true k = at_end k
    at false k = on_way k (still s past run.0)
few_calls_in s (Stepped t step ∷ past) run = let h : HasFewCalls s past = few_calls_in s past run.0 in by_step step h
  where
    by_step : (x : StepSeen) → HasFewCalls s past → HasFewCalls s (Stepped t x ∷ past)
    by_step NoMechanism h = omega (arith, h)
    by_step (Token token) h = h
    by_step (StepFailed count) h = h
    by_step StepNoMemory h = h
    by_step StepRefused h = h
    by_step Done h = h
few_calls_in s (_ ∷ past) run = few_calls_in s past run.0

pub few_calls : (s : Setting) (past : List Event) → IsPast s past → length (calls past) ≤ 54 + 2 * drops s past
few_calls s past run = omega (arith, all_calls s past, few_calls_in s past run)
