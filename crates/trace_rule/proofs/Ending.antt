-- Where a request has called `End`, no further call is wanted; and every request begins by `Begin`.
use Rattle.std.proofs.Common.{map, option_and_then, ◌≡◌, ◌⊎◌, inl, inr, ℕ, zero, suc, ◌+◌, Bool, true, false, not, ◌&&◌, ◌||◌, IsTrue, List, [], ◌∷◌, ◌++◌, drop, Option, Some, None, option_map, unwrap_or, refl, sym, ap, ◌∙◌, subst, arith, if◌then◌else◌}
use Rattle.std.specs.Prelude.{nat_le}
use Rattle.std.specs.List.{list_any}
use Rattle.spaces.specs.declared.terms.Terms.{Terms}
use Rattle.auth_events.specs.declared.names.TermsName.{TermsName}
use Rattle.auth_runs.specs.Runs.{Each}
use Rattle.std.proofs.lemmas.Bool.{false≢true}
use Rattle.std.proofs.Math.Seq.{drop-nil}
use Rattle.spaces.specs.declared.site.Target.{Target}
use Rattle.spaces.specs.declared.site.Target.TheVariants.{Server, Proxy}
use Rattle.auth_events.specs.declared.journal.Call.{Call}
use Rattle.auth_events.specs.declared.journal.Call.TheVariants.{Begin, Preempt, Select, Reject, Renew, Answer, Lose, Take, Note, End, Draw}
use Rattle.auth_events.specs.declared.journal.BookReply.{BookReply}
use Rattle.auth_events.specs.Book.{begins, ends}
use Rattle.auth_runs.specs.declared.event.Outcome.{Outcome}
use Rattle.auth_runs.specs.declared.event.Outcome.TheVariants.{Answered, Refused}
use Rattle.auth_runs.specs.declared.event.Event.{Event}
use Rattle.auth_runs.specs.declared.event.Event.TheVariants.{Called, Dialed, DialFailed, Drew, Headed, WriteFailed, ReadFailed, Replied, Broken, LinkLost, AskedFor, Stepped, Ended}
use Rattle.trace_rule.specs.Settings.{Setting, is_by_path}
use Rattle.trace_rule.specs.Holding.{Held, carried}
use Rattle.trace_rule.specs.Moves.{Want, move, rounds, is_answered}
use Rattle.trace_rule.specs.Closings.{want, with_nonce, renewal, renewal_for, renewals, notes, closings, closings_made, next_closing, close, carried_out}
use Rattle.trace_rule.specs.Moves.Want.{Calls, Ends}
use Rattle.trace_rule.specs.Moves.Move.{Closes}
use Rattle.trace_rule.specs.Traces.{IsPast, Follows, is_over}
use Rattle.trace_rule.specs.Entries.{Made, calls}
use Rattle.trace_rule.proofs.Deterministic.{nothing_after}
use Rattle.trace_rule.proofs.Holdings.{or_true}
use Rattle.trace_rule.proofs.AtEnd.{renewals_each, notes_each}
use Rattle.trace_rule.proofs.Reasons.{reason, closes_at}

-- behind the call `End` the list of calls at the end is over

abbrev is_end_if : Option Call → Bool
is_end_if (Some End) = true
is_end_if _ = false

-- `End` stands last
abbrev EndsLast : List (Option Call) → Type 0
EndsLast [] = Unit {0}
EndsLast (x ∷ xs) = (is_end_if x ≡ true → xs ≡ []) × EndsLast xs

no_end_here : {P : Type 0} (x : Option Call) → is_end_if x ≡ false → is_end_if x ≡ true → P
no_end_here x other same = absurd (false≢true (sym other ∙ same))

last_append : (xs ys : List (Option Call)) → Each (λ x. is_end_if x ≡ false) xs → EndsLast ys → EndsLast (xs ++ ys)
last_append [] ys p q = q
last_append (x ∷ xs) ys p q = (λ same. no_end_here x p.0 same, last_append xs ys p.1 q)

renewal_no_end : (s : Setting) (h : Held) (nonce : List ℕ) → is_end_if (renewal s h nonce) ≡ false
renewal_no_end s h nonce = at (s.terms_of h.terms)
  where
    number : (o : Option ℕ) → is_end_if (option_map (Renew h.gift) o) ≡ false
    number None = refl
    number (Some n) = refl

    at : (o : Option TermsName) → is_end_if (option_and_then (λ (name : TermsName). option_map (Renew h.gift) (s.terms_no h.gift.space (with_nonce nonce name.terms))) o) ≡ false
    at None = refl
    at (Some name) = number (s.terms_no h.gift.space (with_nonce nonce name.terms))

ends_last : (s : Setting) (past : List Event) (o : Outcome) → EndsLast (closings s past o)
ends_last s past o =
    last_append (renewals s past o) (map Some (notes s past o ++ End ∷ [])) (renewals_each s past o (λ x. is_end_if x ≡ false) (λ k t h nonce e d n. renewal_no_end s h nonce))
    (behind (notes s past o) (notes_each s past o (λ call. is_end_if (Some call) ≡ false) (λ t h e p. refl)))
  where
    behind : (ns : List Call) → Each (λ call. is_end_if (Some call) ≡ false) ns → EndsLast (map Some (ns ++ End ∷ []))
    behind [] p = (λ same. refl, tt)
    behind (n ∷ ns) p = (λ same. no_end_here (Some n) p.0 same, behind ns p.1)

drop_last : (n : ℕ) (xs rest : List (Option Call)) → EndsLast xs → drop n xs ≡ Some End ∷ rest → drop (suc n) xs ≡ []
drop_last n [] rest a e = let clash : [] ≡ Some End ∷ rest = sym (drop-nil n) ∙ e in cc
drop_last zero (x ∷ xs) rest a e = a.0 (ap first_is_end e)
  where
    first_is_end : List (Option Call) → Bool
    first_is_end [] = false
    first_is_end (y ∷ ys) = is_end_if y
drop_last (suc n) (x ∷ xs) rest a e = drop_last n xs rest a.1 e

same_closings : (s : Setting) (past : List Event) (reply : BookReply) (o : Outcome) → closings s (Called End reply ∷ past) o ≡ closings s past o
same_closings s past reply (Answered status) =
    let none : 0 + rounds s past ≡ rounds s past = omega arith in
    ap (λ n. (if is_answered s past && nat_le n 14 then renewal_for s past Proxy ++ renewal_for s past Server else []) ++ map Some (notes s past (Answered status) ++ End ∷ [])) none
same_closings s past reply (Refused status why) = refl
same_closings s past reply _ = refl

abbrev EndsNow : Setting → List Event → Type 0
EndsNow s past = ((o : Outcome) × (want s past ≡ Ends o)) ⊎ IsTrue (is_over past)

ends_behind : (s : Setting) (past : List Event) (reply : BookReply) → IsPast s (Called End reply ∷ past) → EndsNow s (Called End reply ∷ past)
ends_behind s past reply run = inl (closes.0, ap (carried_out s (Called End reply ∷ past)) closes.1 ∙ ap (next_closing closes.0) (ap (drop (1 + closings_made s past)) (same_closings s past reply closes.0) ∙ done))
  where
    closes : (o : Outcome) × (move s past ≡ Closes o)
    closes = closes_at s past End reply (λ c q. reason s past run.0 c q) refl run.1

    follows : Follows s past (close s past closes.0) (Called End reply)
    follows = subst (λ m. Follows s past (carried_out s past m) (Called End reply)) closes.1 run.1

    at : (cs : List (Option Call)) → drop (closings_made s past) (closings s past closes.0) ≡ cs → Follows s past (next_closing closes.0 cs) (Called End reply) → drop (suc (closings_made s past)) (closings s past closes.0) ≡ []
    at [] e f = let clash : Called End reply ≡ Ended closes.0 = f in cc
    at (None ∷ cs) e f = absurd f
    at (Some c ∷ cs) e f = drop_last (closings_made s past) (closings s past closes.0) cs (ends_last s past closes.0) (e ∙ ap (λ x. Some x ∷ cs) (sym f.0))

    next_number : 1 + closings_made s past ≡ suc (closings_made s past)
    next_number = omega arith

    done : drop (1 + closings_made s past) (closings s past closes.0) ≡ []
    done = ap (λ n. drop n (closings s past closes.0)) next_number ∙ at (drop (closings_made s past) (closings s past closes.0)) refl follows

-- nothing but the outcome follows
then_over : (s : Setting) (past : List Event) (event : Event) → EndsNow s past → Follows s past (want s past) event → IsTrue (is_over (event ∷ past))
then_over s past event (inl (o, w)) next = ap (λ e. is_over (e ∷ past)) (subst (λ v. Follows s past v event) w next)
then_over s past event (inr over) next = absurd (nothing_after s past event over next)

pub after_end : (s : Setting) (past : List Event) → IsPast s past → IsTrue (list_any (λ made. ends made.call) (calls past)) → EndsNow s past
after_end s [] run told = absurd (false≢true told)
after_end s (Called End reply ∷ past) run told = ends_behind s past reply run
after_end s (Called Begin reply ∷ past) run told = inr (then_over s past (Called Begin reply) (after_end s past run.0 told) run.1)
after_end s (Called (Preempt target) reply ∷ past) run told = inr (then_over s past (Called (Preempt target) reply) (after_end s past run.0 told) run.1)
after_end s (Called (Select space terms) reply ∷ past) run told = inr (then_over s past (Called (Select space terms) reply) (after_end s past run.0 told) run.1)
after_end s (Called (Reject space ordinal) reply ∷ past) run told = inr (then_over s past (Called (Reject space ordinal) reply) (after_end s past run.0 told) run.1)
after_end s (Called (Renew gift terms) reply ∷ past) run told = inr (then_over s past (Called (Renew gift terms) reply) (after_end s past run.0 told) run.1)
after_end s (Called (Answer prompt text terms) reply ∷ past) run told = inr (then_over s past (Called (Answer prompt text terms) reply) (after_end s past run.0 told) run.1)
after_end s (Called (Lose prompt loss) reply ∷ past) run told = inr (then_over s past (Called (Lose prompt loss) reply) (after_end s past run.0 told) run.1)
after_end s (Called (Take prompt) reply ∷ past) run told = inr (then_over s past (Called (Take prompt) reply) (after_end s past run.0 told) run.1)
after_end s (Called (Note gift) reply ∷ past) run told = inr (then_over s past (Called (Note gift) reply) (after_end s past run.0 told) run.1)
after_end s (Called (Draw nonce) reply ∷ past) run told = inr (then_over s past (Called (Draw nonce) reply) (after_end s past run.0 told) run.1)
after_end s (Dialed link ∷ past) run told = inr (then_over s past (Dialed link) (after_end s past run.0 told) run.1)
after_end s (DialFailed link count ∷ past) run told = inr (then_over s past (DialFailed link count) (after_end s past run.0 told) run.1)
after_end s (Drew t n c e ∷ past) run told = inr (then_over s past (Drew t n c e) (after_end s past run.0 told) run.1)
after_end s (Headed link bytes ∷ past) run told = inr (then_over s past (Headed link bytes) (after_end s past run.0 told) run.1)
after_end s (WriteFailed link count ∷ past) run told = inr (then_over s past (WriteFailed link count) (after_end s past run.0 told) run.1)
after_end s (ReadFailed link count ∷ past) run told = inr (then_over s past (ReadFailed link count) (after_end s past run.0 told) run.1)
after_end s (Replied link reply ∷ past) run told = inr (then_over s past (Replied link reply) (after_end s past run.0 told) run.1)
after_end s (Broken link fault ∷ past) run told = inr (then_over s past (Broken link fault) (after_end s past run.0 told) run.1)
after_end s (LinkLost link ∷ past) run told = inr (then_over s past (LinkLost link) (after_end s past run.0 told) run.1)
after_end s (AskedFor p seen ∷ past) run told = inr (then_over s past (AskedFor p seen) (after_end s past run.0 told) run.1)
after_end s (Stepped t step ∷ past) run told = inr (then_over s past (Stepped t step) (after_end s past run.0 told) run.1)
after_end s (Ended outcome ∷ past) run told = inr refl

-- where a call is wanted, `End` wasn't called
pub not_ended : (s : Setting) (past : List Event) (call : Call) → IsPast s past → want s past ≡ Calls call → list_any (λ made. ends made.call) (calls past) ≡ false
not_ended s past call run w = at (list_any (λ made. ends made.call) (calls past)) refl
  where
    is_call : Want → Bool
    is_call (Calls c) = true
    is_call _ = false

    over_rests : (p : List Event) → IsTrue (is_over p) → want s p ≡ Calls call → ⊥
    over_rests [] over e = false≢true over
    over_rests (Ended outcome ∷ p) over e = false≢true (ap is_call e)
    over_rests (_ ∷ p) over e = false≢true over

    no : EndsNow s past → ⊥
    no (inl (o, e)) = false≢true (ap is_call (sym e ∙ w))
    no (inr over) = over_rests past over w

    at : (b : Bool) → list_any (λ made. ends made.call) (calls past) ≡ b → b ≡ false
    at true e = absurd (no (after_end s past run e))
    at false e = refl

-- THE BEGINNING

any_later : (f : Made → Bool) (event : Event) (past : List Event) → IsTrue (list_any f (calls past)) → IsTrue (list_any f (calls (event ∷ past)))
any_later f (Called call reply) past told = or_true (f (record { call = call; reply = reply })) (list_any f (calls past)) told
any_later f _ past told = told

first_call : (s : Setting) (event : Event) → Follows s [] (want s []) event → IsTrue (list_any (λ made. begins made.call) (calls (event ∷ [])))
first_call s (Called call reply) next = ap (λ c. begins c || false) next.0
first_call s _ next = absurd next

pub began : (s : Setting) (past : List Event) → IsPast s past → (past ≡ []) ⊎ IsTrue (list_any (λ made. begins made.call) (calls past))
began s [] run = inl refl
began s (event ∷ past) run = at (began s past run.0)
  where
    at : (past ≡ []) ⊎ IsTrue (list_any (λ made. begins made.call) (calls past)) → (event ∷ past ≡ []) ⊎ IsTrue (list_any (λ made. begins made.call) (calls (event ∷ past)))
    at (inl none) =
        inr (subst (λ p. IsTrue (list_any (λ made. begins made.call) (calls (event ∷ p)))) (sym none) (first_call s event (subst (λ p. Follows s p (want s p) event) none run.1)))
    at (inr told) = inr (any_later (λ made. begins made.call) event past told)
