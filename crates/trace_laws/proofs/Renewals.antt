-- With the renewals at the end a request gives terms no more often than it may choose.
use Rattle.std.proofs.Common.{◌≡◌, ◌⊎◌, inl, inr, ℕ, zero, suc, ◌+◌, ◌≤◌, ◌<◌, Bool, true, false, not, ◌&&◌, ◌||◌, ◌==◌, IsTrue, List, [], ◌∷◌, ◌++◌, length, length-append, drop, Option, Some, None, option_map, unwrap_or, refl, sym, ap, ◌∙◌, subst, arith, if◌then◌else◌}
use Rattle.std.specs.Prelude.{map, nat_le}
use Rattle.std.specs.List.{list_any}
use Rattle.std.proofs.lemmas.Bool.{false≢true}
use Rattle.std.proofs.lemmas.Bool.Decides.{nat_tests}
use Rattle.std.proofs.Math.Seq.{drop-nil}
use Rattle.spaces.specs.declared.site.Target.{Target}
use Rattle.spaces.specs.declared.site.Target.TheVariants.{Proxy, Server}
use Rattle.spaces.specs.declared.space.Scheme.TheVariants.{Digest}
use Rattle.auth_events.specs.declared.journal.Gift.{Gift}
use Rattle.auth_events.specs.declared.journal.Call.{Call}
use Rattle.auth_events.specs.declared.journal.Call.TheVariants.{End, Note, Renew, Select}
use Rattle.auth_events.specs.declared.journal.BookReply.{BookReply}
use Rattle.auth_runs.specs.Runs.{Each}
use Rattle.auth_runs.specs.declared.event.Outcome.{Outcome}
use Rattle.auth_runs.specs.declared.event.Outcome.TheVariants.{Answered}
use Rattle.auth_runs.specs.declared.event.Event.{Event}
use Rattle.auth_runs.specs.declared.event.Event.TheVariants.{Called, Ended}
use Rattle.trace_rule.specs.Settings.{IsNumbered, Setting, scheme_is}
use Rattle.trace_rule.specs.Closings.{carried_out, closings, closings_made, next_closing, notes, renewal, renewal_for, renewal_of, renewals}
use Rattle.trace_rule.specs.Holding.{Held, carried, is_no_mechanism}
use Rattle.trace_rule.specs.Moves.{is_answered, move, rounds}
use Rattle.trace_rule.specs.Moves.Move.{Closes}
use Rattle.trace_rule.specs.NextNonces.{next}
use Rattle.trace_rule.specs.Traces.{Follows, IsPast}
use Rattle.trace_rule.proofs.AtEnd.{notes_each}
use Rattle.trace_rule.proofs.Bounds.{IsDone, still}
use Rattle.trace_rule.proofs.Counts.{drops}
use Rattle.trace_rule.proofs.Deterministic.{nothing_after}
use Rattle.trace_rule.proofs.Drops.{drops_bound, drops_plain}
use Rattle.trace_rule.proofs.Gains.{is_plain}
use Rattle.trace_rule.proofs.Reasons.{IsClosingStep, closes_at, closing_step, is_at_end, reason}
use Rattle.trace_rule.proofs.Reasons.IsClosingStep.{by_call, by_outcome}
use Rattle.trace_laws.specs.Lengths.{choices, terms_given, terms_named}
use Rattle.trace_laws.proofs.Choices.{balanced, none_dropped, within}
use Rattle.trace_laws.proofs.Counted.{count_of, one_if}

-- FEW RENEWALS

for_one : {A : Type 0} (f : Held → List A) → ((h : Held) → length (f h) ≤ 1) → (o : Option Held) → length (unwrap_or (option_map f o) []) ≤ 1
for_one f few None = omega arith
for_one f few (Some h) = few h

then_one : {A : Type 0} (b : Bool) (xs : List A) → length xs ≤ 1 → length (if b then xs else []) ≤ 1
then_one true xs h = h
then_one false xs h = omega arith

found_one : {A B : Type 0} (f : A → B) (o : Option A) → length (unwrap_or (option_map (λ a. f a ∷ []) o) []) ≤ 1
found_one f None = omega arith
found_one f (Some a) = omega arith

one_renewal : (s : Setting) (past : List Event) (t : Target) → length (renewal_for s past t) ≤ 1
one_renewal s past t =
    for_one (renewal_of s past t) (λ h. then_one (scheme_is s h.gift.space Digest) (unwrap_or (option_map (λ nonce. renewal s h nonce ∷ []) (next past t)) []) (found_one (renewal s h) (next past t))) (carried s past t)

few_renewals : (s : Setting) (past : List Event) (o : Outcome) → (length (renewals s past o) ≡ 0) ⊎ (length (renewals s past o) ≤ 2) × (rounds s past ≤ 14)
few_renewals s past (Answered status) = at (is_answered s past) (nat_le (rounds s past) 14) refl
  where
    at : (b c : Bool) → nat_le (rounds s past) 14 ≡ c
        → (length (if b && c then renewal_for s past Proxy ++ renewal_for s past Server else []) ≡ 0) ⊎ (length (if b && c then renewal_for s past Proxy ++ renewal_for s past Server else []) ≤ 2) × (rounds s past ≤ 14)
    at true true e = inr (omega (arith, length-append (renewal_for s past Proxy) (renewal_for s past Server), one_renewal s past Proxy, one_renewal s past Server), grind (arith, nat_tests, e))
    at true false e = inl refl
    at false c e = inl refl
few_renewals s past _ = inl refl

-- a renewal stands among them, before the notes
abbrev is_renew : Option Call → Bool
is_renew (Some (Renew gift terms)) = true
is_renew _ = false

none_renewed : (ns : List Call) → Each (λ call. is_renew (Some call) ≡ false) ns → (k : ℕ) (c : Option Call) (cs : List (Option Call)) → drop k (map Some (ns ++ End ∷ [])) ≡ c ∷ cs → is_renew c ≡ false
none_renewed [] each zero c cs e = ap (λ xs. is_renew (unwrap_or (first_of xs) None)) (sym e)
  where
    first_of : List (Option Call) → Option (Option Call)
    first_of [] = None
    first_of (x ∷ xs) = Some x
none_renewed [] each (suc k) c cs e = let clash : [] ≡ c ∷ cs = sym (drop-nil k) ∙ e in cc
none_renewed (n ∷ ns) each zero c cs e = sym (ap (λ xs. is_renew (unwrap_or (first_of xs) None)) e) ∙ each.0
  where
    first_of : List (Option Call) → Option (Option Call)
    first_of [] = None
    first_of (x ∷ xs) = Some x
none_renewed (n ∷ ns) each (suc k) c cs e = none_renewed ns each.1 k c cs e

among : (rs : List (Option Call)) (ns : List Call) → Each (λ call. is_renew (Some call) ≡ false) ns → (k : ℕ) (c : Option Call) (cs : List (Option Call)) → drop k (rs ++ map Some (ns ++ End ∷ [])) ≡ c ∷ cs → is_renew c ≡ true → k < length rs
among [] ns each k c cs e r = absurd (false≢true (sym (none_renewed ns each k c cs e) ∙ r))
among (x ∷ rs) ns each zero c cs e r = omega arith
among (x ∷ rs) ns each (suc k) c cs e r = let less : k < length rs = among rs ns each k c cs e r in omega (arith, less)

at_renewal : (s : Setting) (past : List Event) (gift : Gift) (terms : ℕ) (reply : BookReply) → IsPast s (Called (Renew gift terms) reply ∷ past) → is_answered s past ≡ true → (closings_made s past + 1 ≤ 2) × (rounds s past ≤ 14)
at_renewal s past gift terms reply run k = at (few_renewals s past c.0)
  where
    c : (o : Outcome) × (move s past ≡ Closes o)
    c = closes_at s past (Renew gift terms) reply (λ x y. reason s past run.0 x y) k run.1

    less : closings_made s past < length (renewals s past c.0)
    less = by (drop (closings_made s past) (closings s past c.0)) refl (subst (λ m. Follows s past (carried_out s past m) (Called (Renew gift terms) reply)) c.1 run.1)
      where
        by : (cs : List (Option Call)) → drop (closings_made s past) (closings s past c.0) ≡ cs → Follows s past (next_closing c.0 cs) (Called (Renew gift terms) reply) → closings_made s past < length (renewals s past c.0)
        by [] e f = let clash : Called (Renew gift terms) reply ≡ Ended c.0 = f in cc
        by (None ∷ cs) e f = absurd f
        by (Some x ∷ cs) e f =
            among (renewals s past c.0) (notes s past c.0) (notes_each s past c.0 (λ call. is_renew (Some call) ≡ false) (λ t h e p. refl)) (closings_made s past) (Some x) cs e (ap (λ y. is_renew (Some y)) (sym f.0))

    at : (length (renewals s past c.0) ≡ 0) ⊎ (length (renewals s past c.0) ≤ 2) × (rounds s past ≤ 14) → (closings_made s past + 1 ≤ 2) × (rounds s past ≤ 14)
    at (inl none) = absurd (omega (arith, less, none))
    at (inr few) = (omega (arith, less, few.0), few.1)

-- ALL TERMS

-- those at the end are among the calls at the end
beyond : (s : Setting) (past : List Event) → terms_given past ≤ choices s past + closings_made s past
beyond s [] = omega arith
beyond s (Called call reply ∷ past) = at call (beyond s past)
  where
    renew : (b : Bool) → terms_given past ≤ choices s past + closings_made s past → 1 + terms_given past ≤ ((if not b then 1 else 0) + choices s past) + ((if b then 1 else 0) + closings_made s past)
    renew true h = omega (arith, h)
    renew false h = omega (arith, h)

    at : (c : Call) → terms_given past ≤ choices s past + closings_made s past → terms_given (Called c reply ∷ past) ≤ choices s (Called c reply ∷ past) + closings_made s (Called c reply ∷ past)
    at (Renew gift terms) h = renew (is_answered s past) h
    at (Select space terms) h = omega (arith, h)
    at (Note gift) h = omega (arith, h)
    at End h = omega (arith, h)
    at _ h = omega (arith, h)
beyond s (_ ∷ past) = let h = beyond s past in omega (arith, h)

abbrev AreFew : Setting → List Event → Type 0
AreFew s past = terms_given past ≤ 16 + drops s past

few_still : (s : Setting) (event : Event) (past : List Event) → IsPast s (event ∷ past) → closings_made s (event ∷ past) ≡ 0 → AreFew s (event ∷ past)
few_still s event past run none = omega (arith, beyond s (event ∷ past), within s (event ∷ past) run, none)

few_terms_in : (s : Setting) (past : List Event) → IsPast s past → AreFew s past
few_terms_in s [] run = omega arith
few_terms_in s (event ∷ past) run = at (is_at_end s past event) refl (few_terms_in s past run.0)
  where
    ending : (x : Event) → IsPast s (x ∷ past) → is_at_end s past x ≡ true → AreFew s past → AreFew s (x ∷ past)
    ending (Called (Renew gift terms) reply) r k before =
        let few = at_renewal s past gift terms reply r k in
        omega (arith, beyond s past, balanced s past r.0, few.0, few.1)
    ending (Called (Note gift) reply) r k before = omega (arith, before)
    ending (Called End reply) r k before = omega (arith, before)
    ending (Called _ reply) r k before = absurd (false≢true k)
    ending _ r k before = absurd (false≢true k)

    no_more : (x : Event) → is_at_end s past x ≡ false → closings_made s (x ∷ past) ≡ closings_made s past
    no_more (Called call reply) k = ap (λ b. (if b then 1 else 0) + closings_made s past) k ∙ omega arith
    no_more _ k = refl

    over : (o : Outcome) (x : Event) → IsClosingStep s past o x → is_at_end s past x ≡ false → AreFew s past → AreFew s (x ∷ past)
    over o x (by_call call reply p closing) k before = absurd (false≢true (sym k ∙ (ap (is_at_end s past) p ∙ closing)))
    over o x (by_outcome p) k before = subst (λ y. AreFew s (y ∷ past)) (sym p) before

    on_way : is_at_end s past event ≡ false → (closings_made s past ≡ 0) ⊎ IsDone s past → AreFew s past → AreFew s (event ∷ past)
    on_way k (inl none) before = few_still s event past run (no_more event k ∙ none)
    on_way k (inr (inl (o, closes))) before = over o event (closing_step s past o event closes run.1) k before
    on_way k (inr (inr done)) before = absurd (nothing_after s past event done run.1)

    at : (b : Bool) → is_at_end s past event ≡ b → AreFew s past → AreFew s (event ∷ past)
    at true k before = ending event run k before
    at false k before = on_way k (still s past run.0) before

pub few_terms : (s : Setting) → IsNumbered s → (past : List Event) → IsPast s past → terms_given past ≤ (if list_any is_no_mechanism past then 17 else 16)
few_terms s means past run = at (list_any is_no_mechanism past) refl
  where
    at : (b : Bool) → list_any is_no_mechanism past ≡ b → terms_given past ≤ (if b then 17 else 16)
    at true k = omega (arith, few_terms_in s past run, drops_bound s means past run)
    at false k = omega (arith, few_terms_in s past run, none_dropped s past k)

-- CHOICES WITHOUT TERMS

abbrev plains : List Event → ℕ
plains past = count_of is_plain past

any_one : (past : List Event) → IsTrue (list_any is_plain past) → 1 ≤ plains past
any_one [] plain = absurd (false≢true plain)
any_one (event ∷ past) plain = at (is_plain event) plain (any_one past)
  where
    at : (b : Bool) → IsTrue (b || list_any is_plain past) → (IsTrue (list_any is_plain past) → 1 ≤ plains past) → 1 ≤ one_if b + plains past
    at true p later = omega arith
    at false p later = let before = later p in omega (arith, before)

-- a choice has terms or is plain
either_one : (b : Bool) (x y z : ℕ) → x + y ≤ z → ((if not b then 1 else 0) + x) + (one_if b + y) ≤ 1 + z
either_one true x y z h = omega (arith, h)
either_one false x y z h = omega (arith, h)

named_or_plain : (past : List Event) → terms_named past + plains past ≤ terms_given past
named_or_plain [] = omega arith
named_or_plain (Called call reply ∷ past) = at call (named_or_plain past)
  where
    renewed : (b : Bool) → terms_named past + plains past ≤ terms_given past → ((if not b then 1 else 0) + terms_named past) + plains past ≤ 1 + terms_given past
    renewed true h = omega (arith, h)
    renewed false h = omega (arith, h)

    at : (c : Call) → terms_named past + plains past ≤ terms_given past → terms_named (Called c reply ∷ past) + plains (Called c reply ∷ past) ≤ terms_given (Called c reply ∷ past)
    at (Select space terms) h = either_one (terms == 0) (terms_named past) (plains past) (terms_given past) h
    at (Renew gift terms) h = (let le = renewed (terms == 0) h in omega (arith, le))
    at _ h = omega (arith, h)
named_or_plain (_ ∷ past) = let h = named_or_plain past in omega (arith, h)

pub few_named : (s : Setting) → IsNumbered s → (past : List Event) → IsPast s past → terms_named past ≤ 16
few_named s means past run = at (drops_plain s means past run)
  where
    at : (drops s past ≡ 0) ⊎ IsTrue (list_any is_plain past) → terms_named past ≤ 16
    at (inl none) = omega (arith, few_terms_in s past run, named_or_plain past, none)
    at (inr plain) = omega (arith, few_terms_in s past run, named_or_plain past, any_one past plain, drops_bound s means past run)
