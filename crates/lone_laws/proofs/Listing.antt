-- Traces, the latest first, and what stands in their order.
use Rattle.std.proofs.Common.{◌≡◌, ℕ, zero, suc, ◌+◌, ◌-◌, ◌≤◌, ◌<◌, ◌==◌, Bool, true, false, IsTrue, List, [], ◌∷◌, ◌++◌, length, reverse, Option, Some, None, refl, sym, ap, ◌∙◌, subst, append_assoc, arith}
use Rattle.std.specs.Prelude.{filter_map, slice_index_or}
use Rattle.std.specs.List.{cons_option, flat_map, list_all, range_with_len}
use Rattle.std.proofs.lemmas.Bool.Decides.{nat_tests}
use Rattle.std.proofs.lemmas.List.{append-nil, length-reverse, reverse-append}
use Rattle.std.proofs.lemmas.List.Elements.{filter_map-append}
use Rattle.auth_events.specs.declared.journal.Entry.{Entry}
use Rattle.auth_events.proofs.Numbers.{and_left, and_right, both}
use Rattle.auth_events.proofs.Same.{number_same}
use Rattle.auth_runs.specs.declared.event.Event.{Event}
use Rattle.auth_runs.specs.Runs.{Each}
use Rattle.trace_rule.proofs.AtEnd.{each_append}

-- REVERSED

pub each_reverse : {A : Type 0} (P : A → Type 0) (xs : List A) → Each P xs → Each P (reverse xs)
each_reverse P [] all = tt
each_reverse P (x ∷ xs) all =
    subst (Each P) (sym (reverse-append (x ∷ []) xs)) (each_append P (reverse xs) (x ∷ []) (each_reverse P xs all.1) (all.0, tt))

all_append : {A : Type 0} (f : A → Bool) (xs ys : List A) → IsTrue (list_all f xs) → IsTrue (list_all f ys) → IsTrue (list_all f (xs ++ ys))
all_append f [] ys p q = q
all_append f (x ∷ xs) ys p q = both (f x) (list_all f (xs ++ ys)) (and_left (f x) (list_all f xs) p) (all_append f xs ys (and_right (f x) (list_all f xs) p) q)

pub all_reverse : {A : Type 0} (f : A → Bool) (xs : List A) → IsTrue (list_all f xs) → IsTrue (list_all f (reverse xs))
all_reverse f [] p = refl
all_reverse f (x ∷ xs) p =
    subst (λ l. IsTrue (list_all f l)) (sym (reverse-append (x ∷ []) xs))
    (all_append f (reverse xs) (x ∷ []) (all_reverse f xs (and_right (f x) (list_all f xs) p)) (both (f x) true (and_left (f x) (list_all f xs) p) refl))

reverse_option : {A : Type 0} (o : Option A) (xs : List A) → reverse (cons_option o xs) ≡ reverse xs ++ cons_option o []
reverse_option None xs = sym (append-nil (reverse xs))
reverse_option (Some x) xs = reverse-append (x ∷ []) xs

pub filter_map_reverse : {A B : Type 0} (f : A → Option B) (xs : List A) → filter_map f (reverse xs) ≡ reverse (filter_map f xs)
filter_map_reverse f [] = refl
filter_map_reverse f (x ∷ xs) =
    ap (filter_map f) (reverse-append (x ∷ []) xs)
    ∙ (filter_map-append f (reverse xs) (x ∷ [])
    ∙ (ap (λ l. l ++ cons_option (f x) []) (filter_map_reverse f xs) ∙ sym (reverse_option (f x) (filter_map f xs))))

-- IN ORDER

module _ (f : ℕ → List Event → List Entry) where
  -- what stands for the traces, the first one of the request of that number
  abbrev pub in_order : ℕ → List (List Event) → List Entry
  in_order k [] = []
  in_order k (trace ∷ traces) = f k trace ++ in_order (k + 1) traces

  order_last : (k : ℕ) (traces : List (List Event)) (trace : List Event) → in_order k (traces ++ trace ∷ []) ≡ in_order k traces ++ f (k + length traces) trace
  order_last k [] trace = append-nil (f k trace) ∙ ap (λ n. f n trace) (omega arith)
  order_last k (t ∷ traces) trace =
      ap (λ l. f k t ++ l) (order_last (k + 1) traces trace)
      ∙ (sym (append_assoc (f k t) (in_order (k + 1) traces) (f (k + 1 + length traces) trace))
      ∙ ap (λ n. (f k t ++ in_order (k + 1) traces) ++ f n trace) (place (length traces)))
    where
      place : (n : ℕ) → k + 1 + n ≡ k + suc n
      place n = omega arith

  -- the same, where the latest comes first
  abbrev pub latest : List (List Event) → List Entry
  latest [] = []
  latest (trace ∷ earlier) = reverse (f (length earlier + 1) trace) ++ latest earlier

  pub latest_is : (traces : List (List Event)) → reverse (in_order 1 (reverse traces)) ≡ latest traces
  latest_is [] = refl
  latest_is (trace ∷ earlier) =
      ap (λ l. reverse (in_order 1 l)) (reverse-append (trace ∷ []) earlier)
      ∙ (ap reverse (order_last 1 (reverse earlier) trace)
      ∙ (reverse-append (in_order 1 (reverse earlier)) (f (1 + length (reverse earlier)) trace)
      ∙ (ap (λ n. reverse (f n trace) ++ reverse (in_order 1 (reverse earlier))) (place (length (reverse earlier)) (length earlier) (length-reverse earlier))
      ∙ ap (λ l. reverse (f (length earlier + 1) trace) ++ l) (latest_is earlier))))
    where
      place : (m n : ℕ) → m ≡ n → 1 + m ≡ n + 1
      place m n e = omega (arith, e)

  indexed_from : (all traces : List (List Event)) (k : ℕ) → ((i : ℕ) → slice_index_or all (k + i) [] ≡ slice_index_or traces i [])
      → flat_map (λ r. f r (slice_index_or all (r - 1) [])) (range_with_len (k + 1) (length traces)) ≡ in_order (k + 1) traces
  indexed_from all [] k same = refl
  indexed_from all (t ∷ traces) k same =
      ap (λ l. l ++ flat_map (λ r. f r (slice_index_or all (r - 1) [])) (range_with_len (k + 1 + 1) (length traces)))
      (ap (λ i. f (k + 1) (slice_index_or all i [])) (first k) ∙ ap (f (k + 1)) (same 0))
      ∙ ap (λ l. f (k + 1) t ++ l) (indexed_from all traces (k + 1) (λ i. ap (λ n. slice_index_or all n []) (next i) ∙ same (suc i)))
    where
      first : (n : ℕ) → n + 1 - 1 ≡ n + 0
      first n = omega arith

      next : (i : ℕ) → k + 1 + i ≡ k + suc i
      next i = omega arith

  -- what stands for the requests by their numbers
  pub indexed : (traces : List (List Event)) → flat_map (λ r. f r (slice_index_or traces (r - 1) [])) (range_with_len 1 (length traces)) ≡ in_order 1 traces
  indexed traces = indexed_from traces traces 0 (λ i. ap (λ n. slice_index_or traces n []) (none i))
    where
      none : (i : ℕ) → 0 + i ≡ i
      none i = omega arith

-- BY THEIR NUMBERS

index_front : (xs ys : List (List Event)) (i : ℕ) → i < length xs → slice_index_or (xs ++ ys) i [] ≡ slice_index_or xs i []
index_front [] ys i lt = absurd (omega (arith, lt))
index_front (x ∷ xs) ys zero lt = refl
index_front (x ∷ xs) ys (suc i) lt = index_front xs ys i (omega (arith, lt))

index_last : (xs : List (List Event)) (y : List Event) → slice_index_or (xs ++ y ∷ []) (length xs) [] ≡ y
index_last [] y = refl
index_last (x ∷ xs) y = index_last xs y

-- each trace, of the request of its number
abbrev pub AllAt : (ℕ → List Event → Type 0) → List (List Event) → Type 0
AllAt P [] = Unit {0}
AllAt P (trace ∷ earlier) = AllAt P earlier × P (length earlier + 1) trace

pub at_number : (P : ℕ → List Event → Type 0) (traces : List (List Event)) → AllAt P traces → (r : ℕ) → 1 ≤ r → r ≤ length traces → P r (slice_index_or (reverse traces) (r - 1) [])
at_number P [] all r low high = absurd (omega (arith, low, high))
at_number P (trace ∷ earlier) all r low high = at (r == length earlier + 1) refl (λ le. at_number P earlier all.0 r low le)
  where
    size : length (reverse earlier) ≡ length earlier
    size = length-reverse earlier

    split : reverse (trace ∷ earlier) ≡ reverse earlier ++ trace ∷ []
    split = reverse-append (trace ∷ []) earlier

    lower : (r == length earlier + 1) ≡ false → r ≤ length earlier
    lower f = grind (arith, nat_tests, f, high)

    at : (b : Bool) → (r == length earlier + 1) ≡ b → (r ≤ length earlier → P r (slice_index_or (reverse earlier) (r - 1) [])) → P r (slice_index_or (reverse (trace ∷ earlier)) (r - 1) [])
    at true e before =
        let same : r ≡ length earlier + 1 = number_same r (length earlier + 1) e in
        let place : r - 1 ≡ length (reverse earlier) = omega (arith, same, size) in
        let there : slice_index_or (reverse (trace ∷ earlier)) (r - 1) [] ≡ trace =
        ap (λ l. slice_index_or l (r - 1) []) split ∙ (ap (λ i. slice_index_or (reverse earlier ++ trace ∷ []) i []) place ∙ index_last (reverse earlier) trace) in
        subst (P r) (sym there) (subst (λ n. P n trace) (sym same) all.1)
    at false e before =
        let le : r ≤ length earlier = lower e in
        let there : slice_index_or (reverse (trace ∷ earlier)) (r - 1) [] ≡ slice_index_or (reverse earlier) (r - 1) [] =
        ap (λ l. slice_index_or l (r - 1) []) split ∙ index_front (reverse earlier) (trace ∷ []) (r - 1) (omega (arith, low, le, size)) in
        subst (P r) (sym there) (before le)
