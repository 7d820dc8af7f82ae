-- The items of two makers in one list, and two draws of one nonce.
use Rattle.std.proofs.Common.{◌≡◌, ℕ, ◌+◌, ◌⊎◌, ◌==◌, cond, List, [], ◌∷◌, refl, sym, ap, ◌∙◌, inl, inr, arith}
use Rattle.std.specs.Prelude.{All, filter}
use Rattle.std.proofs.lemmas.List.Elements.{All-head, All-tail}
use Rattle.auth_events.specs.declared.journal.Drawn.{Drawn}
use Rattle.nonce_words.specs.Fresh.{IsFresh, draws_of, once_up_to, times_given}
use Rattle.uses_threads.specs.Sides.{IsInSomeOrder, draw_of}

module _ {A : Type 0} (maker : A → ℕ) where
  abbrev pub IsOfTwo : A → Type 0
  IsOfTwo item = (maker item ≡ 1) ⊎ (maker item ≡ 2)

  abbrev of : ℕ → List A → List A
  of n xs = filter (λ item. maker item == n) xs

  step : (x : A) (xs : List A) (n m : ℕ) → maker x ≡ m → of n (x ∷ xs) ≡ cond (m == n) (x ∷ of n xs) (of n xs)
  step x xs n m is = ap (λ k. cond (k == n) (x ∷ of n xs) (of n xs)) is

  only_second : (xs : List A) → All IsOfTwo xs → of 1 xs ≡ [] → of 2 xs ≡ xs
  only_second [] all none = refl
  only_second (x ∷ xs) all none =
      elim (All-head IsOfTwo x xs all) [
        | inl is ↦ absurd (cc (step x xs 1 1 is, none))
        | inr is ↦ step x xs 2 2 is ∙ ap (λ l. x ∷ l) (only_second xs (All-tail IsOfTwo x xs all) (sym (step x xs 1 2 is) ∙ none))
      ]

  only_first : (xs : List A) → All IsOfTwo xs → of 2 xs ≡ [] → of 1 xs ≡ xs
  only_first [] all none = refl
  only_first (x ∷ xs) all none =
      elim (All-head IsOfTwo x xs all) [
        | inl is ↦ step x xs 1 1 is ∙ ap (λ l. x ∷ l) (only_first xs (All-tail IsOfTwo x xs all) (sym (step x xs 2 1 is) ∙ none))
        | inr is ↦ absurd (cc (step x xs 2 2 is, none))
      ]

  -- each of the two made one item
  pub in_some_order : (xs : List A) (a b : A) → All IsOfTwo xs → of 1 xs ≡ a ∷ [] → of 2 xs ≡ b ∷ [] → IsInSomeOrder a b xs
  in_some_order [] a b all one two = absurd (cc one)
  in_some_order (x ∷ xs) a b all one two =
      elim (All-head IsOfTwo x xs all) [
        | inl is ↦
            (let e : x ∷ of 1 xs ≡ a ∷ [] = sym (step x xs 1 1 is) ∙ one in
            let rest : xs ≡ b ∷ [] = sym (only_second xs (All-tail IsOfTwo x xs all) (cc e)) ∙ (sym (step x xs 2 1 is) ∙ two) in
            inl (cc (e, rest)))
        | inr is ↦
            (let e : x ∷ of 2 xs ≡ b ∷ [] = sym (step x xs 2 2 is) ∙ two in
            let rest : xs ≡ a ∷ [] = sym (only_first xs (All-tail IsOfTwo x xs all) (cc e)) ∙ (sym (step x xs 1 2 is) ∙ one) in
            inr (cc (e, rest)))
      ]

module _ (n : ℕ) (a b : Drawn) where
  times_of_two : (c : ℕ) → times_given (draw_of n b ∷ draw_of n a ∷ []) n c ≡ cond {A = ℕ} (b.count == c) 1 0 + cond {A = ℕ} (a.count == c) 1 0
  times_of_two c = grind arith

  two_draws : draws_of (draw_of n b ∷ draw_of n a ∷ []) n ≡ 2
  two_draws = grind arith

each_once : (a b : ℕ) → cond {A = ℕ} (b == 1) 1 0 + cond {A = ℕ} (a == 1) 1 0 ≡ 1 → cond {A = ℕ} (b == 2) 1 0 + cond {A = ℕ} (a == 2) 1 0 ≡ 1 → ((a ≡ 1) × (b ≡ 2)) ⊎ ((a ≡ 2) × (b ≡ 1))
each_once a b one two = grind arith

-- of two draws of a nonce that nobody else drew from, one has the count 1 and the other 2
pub counts_of_two : (n : ℕ) (a b : Drawn) (made : ℕ → ℕ) → IsFresh (draw_of n b ∷ draw_of n a ∷ []) made → IsInSomeOrder 1 2 (a.count ∷ b.count ∷ [])
counts_of_two n a b made fresh =
    let at = λ (c : ℕ). sym (times_of_two n a b c) ∙ (fresh.once n c ∙ ap (λ k. once_up_to k c) (two_draws n a b)) in
    elim (each_once a.count b.count (at 1) (at 2)) [
      | inl is ↦ inl (cc (is.0, is.1))
      | inr is ↦ inr (cc (is.0, is.1))
    ]
