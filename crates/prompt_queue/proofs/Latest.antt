-- The open prompt of a space by its row.
use Rattle.std.proofs.Common.{◌≡◌, ◌≢◌, ℕ, ◌-◌, ◌≤◌, Bool, true, false, cond, List, [], ◌∷◌, length, get_or, reverse, refl, ap, sym, subst, ◌∙◌, arith, Option, Some, None, ◌==◌, ◌&&◌}
use Rattle.std.specs.Prelude.{option_map, unwrap_or}
use Rattle.std.proofs.lemmas.Bool.{eqb-true}
use Rattle.std.proofs.lemmas.List.{reverse-reverse, length-reverse}
use Rattle.prompt_queue.specs.declared.queue.Prompt.{Prompt}
use Rattle.prompt_queue.specs.Prompts.{is_pending, open_prompt}
use Rattle.prompt_queue.specs.Rows.{latest, latest_number, AreNumbered, AreApart}
use Rattle.prompt_queue.proofs.Places.{StandsAt, found_at}

abbrev if_pending : Option Prompt → Option Prompt
if_pending None = None
if_pending (Some prompt) = cond (is_pending prompt.ending) (Some prompt) None

-- only the latest prompt of a space can be open
open_is_latest : (prompts : List Prompt) (s : ℕ) → AreApart prompts → open_prompt prompts s ≡ if_pending (latest prompts s)
open_is_latest [] s apart = refl
open_is_latest (first ∷ earlier) s apart = here (first.space == s) refl (open_is_latest earlier s apart.1)
  where
    here : (b : Bool) → first.space == s ≡ b → open_prompt earlier s ≡ if_pending (latest earlier s) → cond (b && is_pending first.ending) (Some first) (open_prompt earlier s) ≡ if_pending (cond b (Some first) (latest earlier s))
    here true is next =
        let none : open_prompt earlier s ≡ None = subst (λ n. open_prompt earlier n ≡ None) (eqb-true first.space s is) apart.0 in
        ap (λ o. cond (is_pending first.ending) (Some first) o) none
    here false is next = next

-- what the number of the latest prompt tells
pub record Tells (xs : List Prompt) (s n : ℕ) : Type 0 where
  pub none : n ≡ 0 → open_prompt (reverse xs) s ≡ None
  pub within : n ≢ 0 → n ≤ length xs
  pub some : n ≢ 0 → (other : Prompt) → option_map (λ prompt. prompt.number) (open_prompt (reverse xs) s) ≡ cond (is_pending (get_or xs (n - 1) other).ending) (Some n) None

pub latest_tells : (xs : List Prompt) (s n : ℕ) → AreNumbered (reverse xs) → AreApart (reverse xs) → n ≡ latest_number (reverse xs) s → Tells xs s n
latest_tells xs s n numbers apart is = here (latest (reverse xs) s) refl
  where
    by_open : Option Prompt → Type 0
    by_open o = open_prompt (reverse xs) s ≡ if_pending o

    shown : (b : Bool) (q : Prompt) → q.number ≡ n → option_map (λ prompt. prompt.number) (cond b (Some q) None) ≡ cond b (Some n) None
    shown true q same = ap (λ k. Some k) same
    shown false q same = refl

    here : (o : Option Prompt) → latest (reverse xs) s ≡ o → Tells xs s n
    here None found =
        let zero_n : n ≡ 0 = is ∙ ap (λ o. unwrap_or (option_map (λ prompt. prompt.number) o) 0) found in
        record {
          none = λ _. open_is_latest (reverse xs) s apart ∙ ap if_pending found;
          within = λ not_zero. absurd (not_zero zero_n);
          some = λ not_zero other. absurd (not_zero zero_n);
        }
    here (Some q) found =
        let same : q.number ≡ n = sym (is ∙ ap (λ o. unwrap_or (option_map (λ prompt. prompt.number) o) 0) found) in
        let stands : StandsAt (reverse xs) q = found_at (λ prompt. prompt.space == s) (reverse xs) q numbers found in
        let there = λ (other : Prompt). sym (subst (λ ys. get_or ys (q.number - 1) other ≡ q) (reverse-reverse xs) (stands.there other)) in
        record {
          none = λ zero_n. absurd (omega (arith, stands.from_one));
          within = λ _. omega (arith, stands.within, length-reverse xs);
          some = λ _ other. ap (λ o. option_map (λ prompt. prompt.number) o) (open_is_latest (reverse xs) s apart ∙ ap if_pending found)
              ∙ (shown (is_pending q.ending) q same
              ∙ (ap (λ (w : Prompt). cond (is_pending w.ending) (Some n) None) (there other)
              ∙ ap (λ k. cond (is_pending (get_or xs (k - 1) other).ending) (Some n) None) same));
        }
