-- The outcome stands last, behind the call `End`.
use Rattle.std.proofs.Common.{◌≡◌, ◌⊎◌, inl, inr, ℕ, zero, suc, ◌+◌, ◌≤◌, Bool, true, false, not, ◌&&◌, ◌||◌, ◌==◌, IsTrue, List, [], ◌∷◌, ◌++◌, map, drop, reverse, Option, Some, None, refl, sym, ap, ◌∙◌, subst, arith, if◌then◌else◌}
use Rattle.std.specs.Prelude.{nat_le}
use Rattle.std.specs.List.{list_any}
use Rattle.std.proofs.lemmas.Bool.{false≢true}
use Rattle.std.proofs.lemmas.List.{reverse-append, reverse-reverse}
use Rattle.std.proofs.Math.Seq.{drop-nil}
use Rattle.spaces.specs.declared.site.Target.TheVariants.{Server, Proxy}
use Rattle.auth_events.specs.declared.journal.Loss.TheVariants.{Memory}
use Rattle.auth_events.specs.declared.journal.Call.{Call}
use Rattle.auth_events.specs.declared.journal.Call.TheVariants.{Begin, End, Lose}
use Rattle.auth_events.specs.declared.journal.BookReply.{BookReply}
use Rattle.auth_events.specs.declared.journal.BookReply.TheVariants.{Lost, Ended as RequestEnded}
use Rattle.auth_runs.specs.declared.event.Outcome.{Outcome}
use Rattle.auth_runs.specs.declared.event.Outcome.TheVariants.{Answered, Refused, NoMemory}
use Rattle.auth_runs.specs.declared.event.Event.{Event}
use Rattle.auth_runs.specs.declared.event.Event.TheVariants.{Called, Headed, LinkLost, Ended}
use Rattle.auth_runs.specs.Runs.{ends, is_whole}
use Rattle.trace_rule.specs.Settings.{Setting}
use Rattle.trace_rule.specs.Moves.{Want, Move, move, go, rounds, is_answered}
use Rattle.trace_rule.specs.Moves.Want.{Calls, Steps, Dials, Draws, Writes, Loses, Ends, Rests}
use Rattle.trace_rule.specs.Moves.Move.{Goes, Closes}
use Rattle.trace_rule.specs.Closings.{want, renewal_for, renewals, notes, closings, is_closing, closings_made, next_closing, carried_out}
use Rattle.trace_rule.specs.Traces.{IsPast, IsRun, IsCut, IsTrace, Follows, is_over, is_end, may_cut, prompt_open, with_loss}
use Rattle.trace_rule.proofs.Deterministic.{nothing_after}
use Rattle.trace_rule.proofs.Reasons.{IsGoing, go_going, still_closes, closing_step, IsClosingStep, is_at_end}
use Rattle.trace_rule.proofs.Reasons.IsClosingStep.{by_call, by_outcome}
use Rattle.trace_rule.proofs.Bounds.{IsDone, still}
use Rattle.trace_laws.proofs.Rows.{Row, row, IsAside}
use Rattle.trace_laws.proofs.Rows.Row.{goes_on, reads, aside}
use Rattle.trace_laws.proofs.Counted.{one_if, count_of, few_ends}

-- `End` STANDS AHEAD

abbrev ends_by : Option Call → Bool
ends_by (Some End) = true
ends_by _ = false

any_end : (xs : List (Option Call)) (ns : List Call) → IsTrue (list_any ends_by (xs ++ map Some (ns ++ End ∷ [])))
any_end [] [] = refl
any_end [] (n ∷ ns) = at (ends_by (Some n)) (any_end [] ns)
  where
    at : (b : Bool) → IsTrue (list_any ends_by (map Some (ns ++ End ∷ []))) → IsTrue (b || list_any ends_by (map Some (ns ++ End ∷ [])))
    at true h = refl
    at false h = h
any_end (x ∷ xs) ns = at (ends_by x) (any_end xs ns)
  where
    at : (b : Bool) → IsTrue (list_any ends_by (xs ++ map Some (ns ++ End ∷ []))) → IsTrue (b || list_any ends_by (xs ++ map Some (ns ++ End ∷ [])))
    at true h = refl
    at false h = h

-- a call at the end changes nothing of the list
same_closings : (s : Setting) (past : List Event) (call : Call) (reply : BookReply) (o : Outcome) → closings s (Called call reply ∷ past) o ≡ closings s past o
same_closings s past call reply (Answered status) =
    let none : 0 + rounds s past ≡ rounds s past = omega arith in
    ap (λ n. (if is_answered s past && nat_le n 14 then renewal_for s past Proxy ++ renewal_for s past Server else []) ++ map Some (notes s past (Answered status) ++ End ∷ [])) none
same_closings s past call reply (Refused status why) = refl
same_closings s past call reply _ = refl

next_drop : {A : Type 0} (n : ℕ) (xs : List A) (c : A) (cs : List A) → drop n xs ≡ c ∷ cs → drop (suc n) xs ≡ cs
next_drop n [] c cs e = let clash : [] ≡ c ∷ cs = sym (drop-nil n) ∙ e in cc
next_drop zero (x ∷ xs) c cs e = ap (drop 1) e
next_drop (suc n) (x ∷ xs) c cs e = next_drop n xs c cs e

abbrev IsEndAhead : Setting → List Event → Outcome → Type 0
IsEndAhead s past o = IsTrue (list_any ends_by (drop (closings_made s past) (closings s past o)))

abbrev is_end_call : Call → Bool
is_end_call End = true
is_end_call _ = false

-- behind a call at the end that isn't `End`
ahead_still : (s : Setting) (past : List Event) (call : Call) (reply : BookReply) (o : Outcome) → is_closing s past call ≡ true → is_end_call call ≡ false → move s past ≡ Closes o → Follows s past (want s past) (Called call reply)
    → IsEndAhead s past o → IsEndAhead s (Called call reply ∷ past) o
ahead_still s past call reply o k other closes next before = at (drop (closings_made s past) (closings s past o)) refl before (subst (λ m. Follows s past (carried_out s past m) (Called call reply)) closes next)
  where
    made : closings_made s (Called call reply ∷ past) ≡ suc (closings_made s past)
    made = ap (λ b. (if b then 1 else 0) + closings_made s past) k ∙ omega arith

    ends_not : (c : Call) → is_end_call c ≡ false → ends_by (Some c) ≡ false
    ends_not End e = absurd (false≢true (sym e))
    ends_not _ e = refl

    at : (cs : List (Option Call)) → drop (closings_made s past) (closings s past o) ≡ cs → IsTrue (list_any ends_by cs) → Follows s past (next_closing o cs) (Called call reply) → IsEndAhead s (Called call reply ∷ past) o
    at [] e h f = absurd (false≢true h)
    at (None ∷ cs) e h f = absurd f
    at (Some c ∷ cs) e h f =
        let rest : drop (closings_made s (Called call reply ∷ past)) (closings s (Called call reply ∷ past) o) ≡ cs =
        ap (λ n. drop n (closings s (Called call reply ∷ past) o)) made ∙ (ap (drop (suc (closings_made s past))) (same_closings s past call reply o) ∙ next_drop (closings_made s past) (closings s past o) (Some c) cs e) in
        subst (λ xs. IsTrue (list_any ends_by xs)) (sym rest) (sym (ap (λ b. b || list_any ends_by cs) (ends_not c (sym (ap is_end_call f.0) ∙ other))) ∙ h)

-- where a request closes that hasn't called `End`, that call is still to come
end_ahead : (s : Setting) (past : List Event) (o : Outcome) → IsPast s past → list_any is_end past ≡ false → move s past ≡ Closes o → IsEndAhead s past o
end_ahead s [] o run none closes = let clash : Goes (Calls Begin) ≡ Closes o = closes in cc
end_ahead s (event ∷ past) o run none closes = at (is_at_end s past event) refl (λ k. end_ahead s past o run.0 (rest (is_end event) none) k)
  where
    rest : (b : Bool) → (b || list_any is_end past) ≡ false → list_any is_end past ≡ false
    rest true e = absurd (false≢true (sym e))
    rest false e = e

    by_event : (x : Event) → IsPast s (x ∷ past) → is_at_end s past x ≡ true → is_end x ≡ false → move s (x ∷ past) ≡ Closes o → (move s past ≡ Closes o → IsEndAhead s past o) → IsEndAhead s (x ∷ past) o
    by_event (Called call reply) r k other m before =
        let c : move s past ≡ Closes o = sym (still_closes s past call reply k) ∙ m in
        ahead_still s past call reply o k (no_end call other) c r.1 (before c)
      where
        no_end : (c : Call) → is_end (Called c reply) ≡ false → is_end_call c ≡ false
        no_end End e = e
        no_end _ e = refl
    by_event _ r k other m before = absurd (false≢true k)

    first : (b : Bool) → (b || list_any is_end past) ≡ false → b ≡ false
    first true e = e
    first false e = refl

    whole : (n : ℕ) → n ≡ 0 → IsTrue (list_any ends_by (drop n (closings s (event ∷ past) o)))
    whole n e = subst (λ k. IsTrue (list_any ends_by (drop k (closings s (event ∷ past) o)))) (sym e) (any_end (renewals s (event ∷ past) o) (notes s (event ∷ past) o))

    no_more : (x : Event) → is_at_end s past x ≡ false → closings_made s (x ∷ past) ≡ closings_made s past
    no_more (Called call reply) k = ap (λ b. (if b then 1 else 0) + closings_made s past) k ∙ omega arith
    no_more _ k = refl

    none_made : is_at_end s past event ≡ false → ((closings_made s past ≡ 0) ⊎ IsDone s past) → closings_made s past ≡ 0
    none_made k (inl e) = e
    none_made k (inr (inl (out, c))) = absurd (by (closing_step s past out event c run.1))
      where
        by : IsClosingStep s past out event → ⊥
        by (by_call call reply p closing) = false≢true (sym k ∙ (ap (is_at_end s past) p ∙ closing))
        by (by_outcome p) = let clash : Goes Rests ≡ Closes o = sym (ap (λ x. move s (x ∷ past)) p) ∙ closes in cc
    none_made k (inr (inr over)) = absurd (nothing_after s past event over run.1)

    at : (b : Bool) → is_at_end s past event ≡ b → (move s past ≡ Closes o → IsEndAhead s past o) → IsEndAhead s (event ∷ past) o
    at true k before = by_event event run k (first (is_end event) none) closes before
    at false k before = whole (closings_made s (event ∷ past)) (no_more event k ∙ none_made k (still s past run.0))

-- THE OUTCOME

abbrev IsOutcomeBehind : Setting → List Event → Type 0
IsOutcomeBehind s past = (o : Outcome) × (move s past ≡ Closes o) × (drop (closings_made s past) (closings s past o) ≡ [])

outcome_behind : (s : Setting) (past : List Event) (outcome : Outcome) → IsPast s (Ended outcome ∷ past) → IsOutcomeBehind s past
outcome_behind s past outcome run = at (row s past run.0)
  where
    going : (w : Want) → IsGoing w → Follows s past w (Ended outcome) → IsOutcomeBehind s past
    going (Writes link bytes) g f = let clash : Ended outcome ≡ Headed link bytes = f in cc
    going (Loses link) g f = let clash : Ended outcome ≡ LinkLost link = f in cc
    going (Steps t asking) g f = absurd f
    going (Dials link) g f = absurd f
    going (Draws t n) g f = absurd f
    going _ g f = absurd g

    at_list : (o : Outcome) → move s past ≡ Closes o → (cs : List (Option Call)) → drop (closings_made s past) (closings s past o) ≡ cs → Follows s past (next_closing o cs) (Ended outcome) → IsOutcomeBehind s past
    at_list o m [] e f = (o, m, e)
    at_list o m (None ∷ cs) e f = absurd f
    at_list o m (Some c ∷ cs) e f = absurd f

    beside : (m : Move) → move s past ≡ m → IsAside m → Follows s past (carried_out s past m) (Ended outcome) → IsOutcomeBehind s past
    beside (Goes (Loses link)) e a f = let clash : Ended outcome ≡ LinkLost link = f in cc
    beside (Goes (Ends o)) e a f = absurd a
    beside (Goes (Writes link bytes)) e a f = absurd a
    beside (Goes w) e a f = absurd f
    beside (Closes o) e a f = at_list o e (drop (closings_made s past) (closings s past o)) refl f

    at : Row s past → IsOutcomeBehind s past
    at (goes_on m) = going (go s past) (go_going s past) (subst (λ x. Follows s past (carried_out s past x) (Ended outcome)) m run.1)
    at (reads link bytes before p m) = absurd (subst (λ x. Follows s past (carried_out s past x) (Ended outcome)) m run.1)
    at (aside a) = beside (move s past) refl a run.1

-- the outcome follows `End`
ended_behind_end : (s : Setting) (past : List Event) (outcome : Outcome) → IsPast s (Ended outcome ∷ past) → IsTrue (list_any is_end past)
ended_behind_end s past outcome run = at (list_any is_end past) refl (outcome_behind s past outcome run)
  where
    at : (b : Bool) → list_any is_end past ≡ b → IsOutcomeBehind s past → IsTrue b
    at true e out = refl
    at false e (o, m, done) = absurd (false≢true (subst (λ xs. IsTrue (list_any ends_by xs)) done (end_ahead s past o run.0 e m)))

-- so none stands where a request may run out of memory
pub not_over : (s : Setting) (past : List Event) → IsPast s past → IsTrue (may_cut past) → is_over past ≡ false
not_over s [] run may = refl
not_over s (Ended outcome ∷ past) run may = absurd (false≢true (sym (ap not (ended_behind_end s past outcome run)) ∙ may))
not_over s (_ ∷ past) run may = refl

neither : (a b : Bool) → (a || b) ≡ false → (a ≡ false) × (b ≡ false)
neither true b k = absurd (false≢true (sym k))
neither false b k = (refl, k)

uncounted : (xs : List Event) → count_of ends xs ≤ 0 → list_any ends xs ≡ false
uncounted [] h = refl
uncounted (x ∷ xs) h = at (ends x) refl (uncounted xs (omega (arith, h)))
  where
    at : (b : Bool) → ends x ≡ b → list_any ends xs ≡ false → (b || list_any ends xs) ≡ false
    at true e later = absurd (let one : one_if (ends x) ≡ 1 = ap one_if e in omega (arith, h, one))
    at false e later = later

-- and no other stands before it
pub one_outcome : (s : Setting) (past : List Event) → IsPast s past → is_over past ≡ false → list_any ends past ≡ false
one_outcome s past run none =
    uncounted past (let few = few_ends s past run in let zero_if : one_if (is_over past) ≡ 0 = ap one_if none in omega (arith, few, zero_if))

-- A WHOLE TRACE

whole_behind : (xs : List Event) (e : Event) → list_any ends xs ≡ false → IsTrue (ends e) → IsTrue (is_whole (xs ++ e ∷ []))
whole_behind [] e none last = last
whole_behind (x ∷ []) e none last = ap (λ b. if b then false else ends e) (neither (ends x) false none).0 ∙ last
whole_behind (x ∷ y ∷ ys) e none last =
    let both = neither (ends x) (list_any ends (y ∷ ys)) none in
    ap (λ b. if b then false else is_whole (y ∷ ys ++ e ∷ [])) both.0 ∙ whole_behind (y ∷ ys) e both.1 last

any_append : (f : Event → Bool) (xs ys : List Event) → list_any f xs ≡ false → list_any f ys ≡ false → list_any f (xs ++ ys) ≡ false
any_append f [] ys p q = q
any_append f (x ∷ xs) ys p q =
    let both = neither (f x) (list_any f xs) p in
    ap (λ b. b || list_any f (xs ++ ys)) both.0 ∙ any_append f xs ys both.1 q

any_reverse : (f : Event → Bool) (xs : List Event) → list_any f xs ≡ false → list_any f (reverse xs) ≡ false
any_reverse f [] p = refl
any_reverse f (x ∷ xs) p =
    let both = neither (f x) (list_any f xs) p in
    subst (λ ys. list_any f ys ≡ false) (sym (reverse-append (x ∷ []) xs)) (any_append f (reverse xs) (x ∷ []) (any_reverse f xs both.1) (ap (λ b. b || false) both.0))

whole_reversed : (e : Event) (past : List Event) → list_any ends past ≡ false → IsTrue (ends e) → IsTrue (is_whole (reverse (e ∷ past)))
whole_reversed e past none last = subst (λ xs. IsTrue (is_whole xs)) (sym (reverse-append (e ∷ []) past)) (whole_behind (reverse past) e (any_reverse ends past none) last)

lost_once : (past : List Event) (b : Bool) (p : ℕ) → list_any ends past ≡ false → list_any ends (if b then past else Called (Lose p Memory) (Lost Memory) ∷ past) ≡ false
lost_once past true p none = none
lost_once past false p none = none

pub whole_traces : (s : Setting) (events : List Event) → IsTrace s events → IsTrue (is_whole events)
whole_traces s events trace = subst (λ xs. IsTrue (is_whole xs)) (reverse-reverse events) (at trace)
  where
    over : (past : List Event) → IsPast s past → IsTrue (is_over past) → IsTrue (is_whole (reverse past))
    over [] run last = absurd (false≢true last)
    over (e ∷ past) run last = whole_reversed e past (one_outcome s past run.0 (before (is_over past) refl)) last
      where
        before : (b : Bool) → is_over past ≡ b → b ≡ false
        before true k = absurd (nothing_after s past e k run.1)
        before false k = refl

    at : IsRun s (reverse events) ⊎ IsCut s (reverse events) → IsTrue (is_whole (reverse (reverse events)))
    at (inl run) = over (reverse events) run.0 run.1
    at (inr (past, cut)) =
        subst (λ xs. IsTrue (is_whole (reverse xs))) (sym cut.cut)
        (whole_reversed (Ended NoMemory) (Called End RequestEnded ∷ with_loss (prompt_open past past) past) (lost_once past (prompt_open past past == 0) (prompt_open past past) (one_outcome s past cut.is_past (not_over s past cut.is_past cut.may_cut))) refl)
