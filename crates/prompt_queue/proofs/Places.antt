-- Where a prompt stands by its number, and what is left there when it ends.
use Rattle.std.proofs.Common.{◌≡◌, ℕ, ◌+◌, ◌-◌, ◌<◌, ◌≤◌, Bool, true, false, cond, List, [], ◌∷◌, ◌++◌, length, get_or, set, reverse, refl, ap, sym, subst, ◌∙◌, arith, Option, Some, None, ◌==◌}
use Rattle.std.specs.Prelude.{find, IsTrue, is_some}
use Rattle.std.proofs.lemmas.Bool.{eqb-true, eqb-false, false≢true}
use Rattle.std.proofs.lemmas.List.{reverse-append, reverse-reverse, length-reverse, get_or_at, get_or_append_left, set_at, set-append_left}
use Rattle.prompt_queue.specs.declared.queue.Prompt.{Prompt}
use Rattle.prompt_queue.specs.declared.queue.PromptTake.{PromptTake}
use Rattle.prompt_queue.specs.Prompts.{prompt_of, with_ending}
use Rattle.prompt_queue.specs.Rows.{AreNumbered}

pub reverse_cons : {A : Type 0} (x : A) (xs : List A) → reverse (x ∷ xs) ≡ reverse xs ++ x ∷ []
reverse_cons x xs = reverse-append (x ∷ []) xs

-- the prompt stands at its number's place
pub record StandsAt (prompts : List Prompt) (prompt : Prompt) : Type 0 where
  pub from_one : 1 ≤ prompt.number
  pub within : prompt.number ≤ length prompts
  pub there : (other : Prompt) → get_or (reverse prompts) (prompt.number - 1) other ≡ prompt

latest_stands : (first : Prompt) (earlier : List Prompt) → first.number ≡ length earlier + 1 → StandsAt (first ∷ earlier) first
latest_stands first earlier is = record {
  from_one = omega arith;
  within = omega arith;
  there = λ other. ap (λ xs. get_or xs (first.number - 1) other) (reverse_cons first earlier)
      ∙ get_or_at (reverse earlier) first [] other (first.number - 1) (length-reverse earlier ∙ omega arith);
}

earlier_stands : (first : Prompt) (earlier : List Prompt) (prompt : Prompt) → StandsAt earlier prompt → StandsAt (first ∷ earlier) prompt
earlier_stands first earlier prompt stands = record {
  from_one = stands.from_one;
  within = omega arith;
  there = λ other. ap (λ xs. get_or xs (prompt.number - 1) other) (reverse_cons first earlier)
      ∙ (get_or_append_left (reverse earlier) (first ∷ []) other (prompt.number - 1) (omega (arith, length-reverse earlier)) ∙ stands.there other);
}

pub found_at : (test : Prompt → Bool) (prompts : List Prompt) (prompt : Prompt) → AreNumbered prompts → find test prompts ≡ Some prompt → StandsAt prompts prompt
found_at test [] prompt numbers found = absurd cc
found_at test (first ∷ earlier) prompt numbers found =
    here (test first) found (λ more. found_at test earlier prompt numbers.1 more)
  where
    here : (b : Bool) → cond b (Some first) (find test earlier) ≡ Some prompt → (find test earlier ≡ Some prompt → StandsAt earlier prompt) → StandsAt (first ∷ earlier) prompt
    here true is next =
        let same : first ≡ prompt = cc in
        subst (λ (q : Prompt). StandsAt (first ∷ earlier) q) same (latest_stands first earlier numbers.0)
    here false is next = earlier_stands first earlier prompt (next is)

-- no prompt has that number
pub none_ended : (prompts : List Prompt) (p : ℕ) (outcome : PromptTake) → AreNumbered prompts → length prompts < p → with_ending prompts p outcome ≡ prompts
none_ended [] p outcome numbers past = refl
none_ended (first ∷ earlier) p outcome numbers past =
    here (first.number == p) refl (none_ended earlier p outcome numbers.1 (omega arith))
  where
    here : (b : Bool) → first.number == p ≡ b → with_ending earlier p outcome ≡ earlier → cond b (record first { ending = outcome }) first ∷ with_ending earlier p outcome ≡ first ∷ earlier
    here true is next = let same = eqb-true first.number p is in absurd (omega (arith, numbers.0))
    here false is next = ap (λ xs. first ∷ xs) next

-- the prompt of that number is written in its place
pub ended_at : (prompts : List Prompt) (p : ℕ) (outcome : PromptTake) (other : Prompt) → AreNumbered prompts → 1 ≤ p → p ≤ length prompts → reverse (with_ending prompts p outcome) ≡ set (reverse prompts) (p - 1) (record (get_or (reverse prompts) (p - 1) other) { ending = outcome })
ended_at [] p outcome other numbers from_one within = absurd (omega arith)
ended_at (first ∷ earlier) p outcome other numbers from_one within =
    here (first.number == p) refl (λ less. ended_at earlier p outcome other numbers.1 from_one less)
  where
    here : (b : Bool) → first.number == p ≡ b → (p ≤ length earlier → reverse (with_ending earlier p outcome) ≡ set (reverse earlier) (p - 1) (record (get_or (reverse earlier) (p - 1) other) { ending = outcome })) → reverse (cond b (record first { ending = outcome }) first ∷ with_ending earlier p outcome) ≡ set (reverse (first ∷ earlier)) (p - 1) (record (get_or (reverse (first ∷ earlier)) (p - 1) other) { ending = outcome })
    here true is next =
        let same = eqb-true first.number p is in
        let place : length (reverse earlier) ≡ p - 1 = length-reverse earlier ∙ omega (arith, numbers.0) in
        let kept = none_ended earlier p outcome numbers.1 (omega (arith, numbers.0)) in
        rw (reverse_cons (record first { ending = outcome }) (with_ending earlier p outcome), kept, reverse_cons first earlier, set_at (reverse earlier) first [] _ (p - 1) place, get_or_at (reverse earlier) first [] other (p - 1) place)
    here false is next =
        let less : p ≤ length earlier = omega (arith, numbers.0, eqb-false first.number p is) in
        let place : p - 1 < length (reverse earlier) = omega (arith, length-reverse earlier) in
        rw (reverse_cons first (with_ending earlier p outcome), next less, reverse_cons first earlier, get_or_append_left (reverse earlier) (first ∷ []) other (p - 1) place, set-append_left (reverse earlier) (first ∷ []) (p - 1) _ place)

found_number : (prompts : List Prompt) (p : ℕ) (prompt : Prompt) → prompt_of prompts p ≡ Some prompt → prompt.number ≡ p
found_number [] p prompt found = absurd cc
found_number (first ∷ earlier) p prompt found =
    here (first.number == p) refl found (λ more. found_number earlier p prompt more)
  where
    here : (b : Bool) → first.number == p ≡ b → cond b (Some first) (prompt_of earlier p) ≡ Some prompt → (prompt_of earlier p ≡ Some prompt → prompt.number ≡ p) → prompt.number ≡ p
    here true is at next =
        let same : first ≡ prompt = cc in
        ap (λ (q : Prompt). q.number) (sym same) ∙ eqb-true first.number p is
    here false is at next = next at

-- the prompt of that number stands in its place
pub record IsAt (xs : List Prompt) (p : ℕ) : Type 0 where
  pub from_one : 1 ≤ p
  pub within : p ≤ length xs
  pub there : (other : Prompt) → prompt_of (reverse xs) p ≡ Some (get_or xs (p - 1) other)

pub is_at : (xs : List Prompt) (p : ℕ) → AreNumbered (reverse xs) → IsTrue (is_some (prompt_of (reverse xs) p)) → IsAt xs p
is_at xs p numbers led = here (prompt_of (reverse xs) p) refl led
  where
    here : (o : Option Prompt) → prompt_of (reverse xs) p ≡ o → IsTrue (is_some o) → IsAt xs p
    here None found some = absurd (false≢true some)
    here (Some q) found some =
        let same = found_number (reverse xs) p q found in
        let stands : StandsAt (reverse xs) q = found_at (λ prompt. prompt.number == p) (reverse xs) q numbers found in
        let there = λ (other : Prompt). subst (λ n. get_or xs (n - 1) other ≡ q) same (subst (λ ys. get_or ys (q.number - 1) other ≡ q) (reverse-reverse xs) (stands.there other)) in
        record {
          from_one = omega (arith, stands.from_one);
          within = omega (arith, stands.within, length-reverse xs);
          there = λ other. found ∙ ap (λ w. Some w) (sym (there other));
        }

-- the same, as it is written
pub ended_in : (xs : List Prompt) (p : ℕ) (outcome : PromptTake) (q : Prompt) → AreNumbered (reverse xs) → IsTrue (is_some (prompt_of (reverse xs) p)) → q ≡ get_or xs (p - 1) q → reverse (set xs (p - 1) (record q { ending = outcome })) ≡ with_ending (reverse xs) p outcome
ended_in xs p outcome q numbers led read =
    let at : IsAt xs p = is_at xs p numbers led in
    let written : reverse (with_ending (reverse xs) p outcome) ≡ set xs (p - 1) (record (get_or xs (p - 1) q) { ending = outcome }) =
    subst (λ ys. reverse (with_ending (reverse xs) p outcome) ≡ set ys (p - 1) (record (get_or ys (p - 1) q) { ending = outcome })) (reverse-reverse xs) (ended_at (reverse xs) p outcome q numbers at.from_one (omega (arith, at.within, length-reverse xs))) in
    ap (λ (w : Prompt). reverse (set xs (p - 1) (record w { ending = outcome }))) read ∙ (ap reverse (sym written) ∙ reverse-reverse (with_ending (reverse xs) p outcome))
