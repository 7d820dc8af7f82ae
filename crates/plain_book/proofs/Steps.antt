-- The words after any steps.
use Rattle.std.proofs.Common.{◌≡◌, ◌≢◌, ℕ, ◌+◌, ◌-◌, ◌<◌, ◌≤◌, Bool, false, cond, List, [], ◌∷◌, length, ap, sym, subst, ◌∙◌, ◌⊎◌, inl, inr, arith, Option, Some, None, replicate}
use Rattle.std.specs.Prelude.{All, count_by, fold, ◌==◌, slice_get, slice_set, option_map, unwrap_or}
use Rattle.std.proofs.lemmas.Bool.Decides.{nat_tests}
use Rattle.std.proofs.lemmas.Bool.{cases_eq}
use Rattle.std.proofs.lemmas.Option.{slice_get_within, slice_get-get_or, get_or_from_slice_get}
use Rattle.std.proofs.lemmas.List.{get_or-set_same, get_or-set_other, length-set, get_or-replicate, length-replicate}
use Rattle.std.proofs.lemmas.List.Sums.{sum_by-cons}
use Rattle.std.proofs.lemmas.List.Elements.{All-head, All-tail}
use Rattle.spaces.specs.Sites.{numbered}
use Rattle.auth_events.specs.declared.journal.Drawn.{Drawn}
use Rattle.auth_events.proofs.Same.{number_refl}
use Rattle.plain_book.specs.Words.{Step, draws_of, retirements_of, is_draw, is_retirement, nonce_in, unused, with_draw, with_retirement, with_step, words_after}
use Rattle.plain_book.specs.Words.Step.{Draw, Retire}

abbrev word_of : ℕ → ℕ → Drawn
word_of count epoch = record { count = count; epoch = epoch }

-- a number from 1 is its place and one
from_one : (n m : ℕ) → 1 ≤ n → 1 ≤ m → n - 1 ≡ m - 1 → n ≡ m
from_one n m a b same = omega arith

pub place_of : (words : List Drawn) (n : ℕ) → 1 ≤ n → numbered words n ≡ slice_get words (n - 1)
place_of words n from = ap (λ b. cond {A = Option Drawn} b None (slice_get words (n - 1))) (positive n from)
  where
    positive : (m : ℕ) → 1 ≤ m → (m == 0) ≡ false
    positive m some = grind (arith, nat_tests)

-- a word that is written is read, and no other changes
written : (words : List Drawn) (n : ℕ) (old new : Drawn) → 1 ≤ n → numbered words n ≡ Some old → numbered (slice_set words (n - 1) new) n ≡ Some new
written words n old new from is =
    let within : n - 1 < length words = slice_get_within words (n - 1) old (sym (place_of words n from) ∙ is) in
    place_of (slice_set words (n - 1) new) n from
    ∙ slice_get-get_or (slice_set words (n - 1) new) (n - 1) new (omega (arith, within, length-set words (n - 1) new))
    ∙ ap Some (get_or-set_same words (n - 1) new new within)

left : (words : List Drawn) (n m : ℕ) (old new : Drawn) → 1 ≤ n → 1 ≤ m → m ≢ n → numbered words n ≡ Some old → numbered (slice_set words (m - 1) new) n ≡ Some old
left words n m old new from from_m other is =
    let at : slice_get words (n - 1) ≡ Some old = sym (place_of words n from) ∙ is in
    let within : n - 1 < length words = slice_get_within words (n - 1) old at in
    place_of (slice_set words (m - 1) new) n from
    ∙ slice_get-get_or (slice_set words (m - 1) new) (n - 1) old (omega (arith, within, length-set words (m - 1) new))
    ∙ ap Some (get_or-set_other words (m - 1) (n - 1) new old (λ same. other (sym (from_one n m from from_m same))) ∙ get_or_from_slice_get words (n - 1) old old at)

-- one more where the test holds
abbrev more : Bool → ℕ → ℕ
more b n = cond b 1 0 + n

word_same : (c c' e e' : ℕ) → c ≡ c' → e ≡ e' → Some (word_of c e) ≡ Some (word_of c' e')
word_same c c' e e' same_c same_e = cc

not_same : (m n : ℕ) → m ≢ n → (m == n) ≡ false
not_same m n other = grind (arith, nat_tests)

pub one_step : (words : List Drawn) (n c e : ℕ) (step : Step) → 1 ≤ n → 1 ≤ nonce_in step → numbered words n ≡ Some (word_of c e) → numbered (with_step words step) n ≡ Some (word_of (more (is_draw n step) c) (more (is_retirement n step) e))
one_step words n c e (Draw m) from from_m is = at (cases_eq m n)
  where
    drawn : draws_of words n ≡ c
    drawn = ap (λ found. unwrap_or (option_map (λ (word : Drawn). word.count) found) 0) is

    retired : retirements_of words n ≡ e
    retired = ap (λ found. unwrap_or (option_map (λ (word : Drawn). word.epoch) found) 0) is

    at : (m ≡ n) ⊎ (m ≢ n) → numbered (with_draw words m) n ≡ Some (word_of (more (m == n) c) (more false e))
    at (inl same) =
        subst (λ k. numbered (with_draw words k) n ≡ Some (word_of (more (k == n) c) (more false e))) (sym same)
        (written words n (word_of c e) (word_of (draws_of words n + 1) (retirements_of words n)) from is
        ∙ word_same (draws_of words n + 1) (more (n == n) c) (retirements_of words n) (more false e) (omega (arith, drawn, ap (λ b. cond {A = ℕ} b 1 0) (number_refl n))) (omega (arith, retired)))
    at (inr other) =
        left words n m (word_of c e) (word_of (draws_of words m + 1) (retirements_of words m)) from from_m other is
        ∙ word_same c (more (m == n) c) e (more false e) (omega (arith, ap (λ b. cond {A = ℕ} b 1 0) (not_same m n other))) (omega arith)
one_step words n c e (Retire m) from from_m is = at (cases_eq m n)
  where
    drawn : draws_of words n ≡ c
    drawn = ap (λ found. unwrap_or (option_map (λ (word : Drawn). word.count) found) 0) is

    retired : retirements_of words n ≡ e
    retired = ap (λ found. unwrap_or (option_map (λ (word : Drawn). word.epoch) found) 0) is

    at : (m ≡ n) ⊎ (m ≢ n) → numbered (with_retirement words m) n ≡ Some (word_of (more false c) (more (m == n) e))
    at (inl same) =
        subst (λ k. numbered (with_retirement words k) n ≡ Some (word_of (more false c) (more (k == n) e))) (sym same)
        (written words n (word_of c e) (word_of (draws_of words n) (retirements_of words n + 1)) from is
        ∙ word_same (draws_of words n) (more false c) (retirements_of words n + 1) (more (n == n) e) (omega (arith, drawn)) (omega (arith, retired, ap (λ b. cond {A = ℕ} b 1 0) (number_refl n))))
    at (inr other) =
        left words n m (word_of c e) (word_of (draws_of words m) (retirements_of words m + 1)) from from_m other is
        ∙ word_same c (more false c) e (more (m == n) e) (omega arith) (omega (arith, ap (λ b. cond {A = ℕ} b 1 0) (not_same m n other)))

counted : (n : ℕ) → 1 ≤ n → (steps : List Step) → All (λ step. 1 ≤ nonce_in step) steps → (words : List Drawn) (c e : ℕ) → numbered words n ≡ Some (word_of c e) → numbered (fold with_step words steps) n ≡ Some (word_of (c + count_by (is_draw n) steps) (e + count_by (is_retirement n) steps))
counted n from [] all words c e is = is ∙ word_same c (c + 0) e (e + 0) (omega arith) (omega arith)
counted n from (step ∷ steps) all words c e is =
    counted n from steps (All-tail (λ step. 1 ≤ nonce_in step) step steps all) (with_step words step) (more (is_draw n step) c) (more (is_retirement n step) e)
    (one_step words n c e step from (All-head (λ step. 1 ≤ nonce_in step) step steps all) is)
    ∙ word_same (more (is_draw n step) c + count_by (is_draw n) steps) (c + count_by (is_draw n) (step ∷ steps)) (more (is_retirement n step) e + count_by (is_retirement n) steps) (e + count_by (is_retirement n) (step ∷ steps))
    (omega (arith, sum_by-cons (λ s. cond (is_draw n s) 1 0) step steps)) (omega (arith, sum_by-cons (λ s. cond (is_retirement n s) 1 0) step steps))

pub words_counted : (nonces n : ℕ) (steps : List Step) → 1 ≤ n → n ≤ nonces → All (λ step. 1 ≤ nonce_in step) steps → numbered (words_after nonces steps) n ≡ Some (record { count = count_by (is_draw n) steps; epoch = count_by (is_retirement n) steps })
words_counted nonces n steps from within all =
    counted n from steps all (replicate nonces unused) 0 0
    (place_of (replicate nonces unused) n from
    ∙ slice_get-get_or (replicate nonces unused) (n - 1) unused (omega (arith, length-replicate nonces unused))
    ∙ ap Some (get_or-replicate nonces (n - 1) unused unused (omega arith)))
    ∙ word_same (0 + count_by (is_draw n) steps) (count_by (is_draw n) steps) (0 + count_by (is_retirement n) steps) (count_by (is_retirement n) steps) (omega arith) (omega arith)
