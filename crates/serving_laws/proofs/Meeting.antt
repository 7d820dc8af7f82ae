-- Numbers that are named and met.
use Rattle.std.proofs.Common.{◌≡◌, ◌≢◌, ◌⊎◌, inl, inr, ℕ, zero, suc, ◌+◌, ◌≤◌, ◌<◌, Bool, true, false, ◌&&◌, ◌||◌, ◌==◌, nat_le, IsTrue, List, [], ◌∷◌, ◌++◌, length, reverse, Option, Some, None, refl, sym, ap, ◌∙◌, subst, arith, length-append}
use Rattle.std.specs.Prelude.{filter_map}
use Rattle.std.specs.List.{cons_option, list_all, list_any, range_with_len}
use Rattle.std.proofs.lemmas.Bool.{false≢true, eqb-true, eq-eqb, cases_eq}
use Rattle.std.proofs.lemmas.Bool.Decides.{nat_tests}
use Rattle.std.proofs.lemmas.List.{append-nil, reverse-append}
use Rattle.std.proofs.lemmas.List.Elements.{filter_map-append}
use Rattle.auth_events.specs.declared.journal.Call.{Call}
use Rattle.auth_events.specs.declared.journal.Entry.{Entry}
use Rattle.auth_events.specs.Tables.{Tables, greatest, is_rising, larger, no_names}
use Rattle.auth_events.proofs.Numbers.{and_left, and_right, both}
use Rattle.run_rule.specs.Naming.{are_all_used, are_in_turn, are_names_in_order, are_names_used, numbers_in, space_in, terms_in, text_in}
use Rattle.serving_laws.specs.Meeting.{AreNamesMet, are_in_turn_behind, are_met, is_rising_behind, numbers_of}

le_of : (a b : ℕ) → IsTrue (nat_le a b) → a ≤ b
le_of a b test = grind (arith, nat_tests)

le_test : (a b : ℕ) → a ≤ b → IsTrue (nat_le a b)
le_test a b le = grind (arith, nat_tests)

larger_high : (a b : ℕ) → b ≤ a → larger a b ≡ a
larger_high a b le = grind (arith, nat_tests)

larger_low : (a b : ℕ) → a ≤ b → larger a b ≡ b
larger_low a b le = grind (arith, nat_tests)

larger_again : (a b c : ℕ) → larger a (larger b c) ≡ larger (larger a c) b
larger_again a b c = grind (arith, nat_tests)

larger_few : (a b c : ℕ) → a ≤ c → b ≤ c → larger a b ≤ c
larger_few a b c left right = grind (arith, nat_tests)

-- with a number that is no greater than k or the greatest, these stay
stays : (k n g : ℕ) → n ≤ larger k g → larger k (larger n g) ≡ larger k g
stays k n g le = grind (arith, nat_tests)

-- the next number is then the greatest
next : (k n g : ℕ) → n ≡ larger k g + 1 → larger k (larger n g) ≡ n
next k n g same = grind (arith, nat_tests)

pub met_none : (k : ℕ) → IsTrue (are_met k [] k)
met_none k = eq-eqb (larger k 0) k (larger_high k 0 (omega arith))

module _ (k : ℕ) (numbers : List ℕ) (count : ℕ) (met : IsTrue (are_met k numbers count)) where
  top : larger k (greatest numbers) ≡ count
  top = eqb-true (larger k (greatest numbers)) count (and_right (is_rising_behind k numbers) (larger k (greatest numbers) == count) met)

  rising : (n : ℕ) → 1 ≤ n → n ≤ count + 1 → IsTrue (is_rising_behind k (n ∷ numbers))
  rising n low high =
      both (nat_le 1 n && nat_le n (larger k (greatest numbers) + 1)) (is_rising_behind k numbers)
      (both (nat_le 1 n) (nat_le n (larger k (greatest numbers) + 1)) (le_test 1 n low) (le_test n (larger k (greatest numbers) + 1) (omega (arith, top, high))))
      (and_left (is_rising_behind k numbers) (larger k (greatest numbers) == count) met)

  -- a number that is named is met again
  pub met_again : (n : ℕ) → 1 ≤ n → n ≤ count → IsTrue (are_met k (n ∷ numbers) count)
  met_again n low high =
      both (is_rising_behind k (n ∷ numbers)) (larger k (larger n (greatest numbers)) == count) (rising n low (omega (arith, high)))
      (eq-eqb (larger k (larger n (greatest numbers))) count (stays k n (greatest numbers) (omega (arith, top, high)) ∙ top))

  -- the next number is met
  pub met_next : IsTrue (are_met k ((count + 1) ∷ numbers) (count + 1))
  met_next =
      both (is_rising_behind k ((count + 1) ∷ numbers)) (larger k (larger (count + 1) (greatest numbers)) == count + 1) (rising (count + 1) (omega arith) (omega arith))
      (eq-eqb (larger k (larger (count + 1) (greatest numbers))) (count + 1) (next k (count + 1) (greatest numbers) (ap (λ x. x + 1) (sym top))))

-- as many are named as are met, at most
rising_few : (k : ℕ) (numbers : List ℕ) → IsTrue (is_rising_behind k numbers) → larger k (greatest numbers) ≤ k + length numbers
rising_few k [] up = larger_few k 0 (k + 0) (omega arith) (omega arith)
rising_few k (n ∷ earlier) up =
    let first = and_left (nat_le 1 n && nat_le n (larger k (greatest earlier) + 1)) (is_rising_behind k earlier) up in
    let few : larger k (greatest earlier) ≤ k + length earlier = rising_few k earlier (and_right (nat_le 1 n && nat_le n (larger k (greatest earlier) + 1)) (is_rising_behind k earlier) up) in
    let high : n ≤ larger k (greatest earlier) + 1 = le_of n (larger k (greatest earlier) + 1) (and_right (nat_le 1 n) (nat_le n (larger k (greatest earlier) + 1)) first) in
    subst (λ x. x ≤ k + length (n ∷ earlier)) (sym (larger_again k n (greatest earlier)))
    (larger_few (larger k (greatest earlier)) n (k + length (n ∷ earlier)) (omega (arith, few)) (omega (arith, few, high)))

pub met_few : (k : ℕ) (numbers : List ℕ) (count : ℕ) → IsTrue (are_met k numbers count) → count ≤ k + length numbers
met_few k numbers count met =
    omega (arith, top k numbers count met, rising_few k numbers (and_left (is_rising_behind k numbers) (larger k (greatest numbers) == count) met))

-- ONE REQUEST BEHIND ANOTHER

greatest_both : (later earlier : List ℕ) → greatest (later ++ earlier) ≡ larger (greatest earlier) (greatest later)
greatest_both [] earlier = sym (larger_high (greatest earlier) 0 (omega arith))
greatest_both (n ∷ later) earlier = ap (larger n) (greatest_both later earlier) ∙ turned n (greatest earlier) (greatest later)
  where
    turned : (a b c : ℕ) → larger a (larger b c) ≡ larger b (larger a c)
    turned a b c = grind (arith, nat_tests)

rising_both : (k : ℕ) (later earlier : List ℕ) → IsTrue (is_rising_behind 0 earlier) → greatest earlier ≡ k → IsTrue (is_rising_behind k later) → IsTrue (is_rising_behind 0 (later ++ earlier))
rising_both k [] earlier up same behind = up
rising_both k (n ∷ later) earlier up same behind =
    let first = and_left (nat_le 1 n && nat_le n (larger k (greatest later) + 1)) (is_rising_behind k later) behind in
    let rest = and_right (nat_le 1 n && nat_le n (larger k (greatest later) + 1)) (is_rising_behind k later) behind in
    let equal : larger 0 (greatest (later ++ earlier)) ≡ larger k (greatest later) =
    larger_low 0 (greatest (later ++ earlier)) (omega arith) ∙ (greatest_both later earlier ∙ ap (λ x. larger x (greatest later)) same) in
    both (nat_le 1 n && nat_le n (larger 0 (greatest (later ++ earlier)) + 1)) (is_rising_behind 0 (later ++ earlier))
    (subst (λ x. IsTrue (nat_le 1 n && nat_le n (x + 1))) (sym equal) first) (rising_both k later earlier up same rest)

pub met_both : (k count : ℕ) (later earlier : List ℕ) → IsTrue (are_met 0 earlier k) → IsTrue (are_met k later count) → IsTrue (are_met 0 (later ++ earlier) count)
met_both k count later earlier before behind =
    let same : greatest earlier ≡ k = sym (larger_low 0 (greatest earlier) (omega arith)) ∙ top 0 earlier k before in
    both (is_rising_behind 0 (later ++ earlier)) (larger 0 (greatest (later ++ earlier)) == count)
    (rising_both k later earlier (and_left (is_rising_behind 0 earlier) (larger 0 (greatest earlier) == k) before) same (and_left (is_rising_behind k later) (larger k (greatest later) == count) behind))
    (eq-eqb (larger 0 (greatest (later ++ earlier))) count
    (larger_low 0 (greatest (later ++ earlier)) (omega arith) ∙ (greatest_both later earlier ∙ (ap (λ x. larger x (greatest later)) same ∙ top k later count behind))))

turns_both : (k : ℕ) (later earlier : List ℕ) → IsTrue (are_in_turn_behind 0 earlier) → length earlier ≡ k → IsTrue (are_in_turn_behind k later) → IsTrue (are_in_turn_behind 0 (later ++ earlier))
turns_both k [] earlier before same behind = before
turns_both k (n ∷ later) earlier before same behind =
    let here : n ≡ k + length later + 1 = eqb-true n (k + length later + 1) (and_left (n == k + length later + 1) (are_in_turn_behind k later) behind) in
    both (n == 0 + length (later ++ earlier) + 1) (are_in_turn_behind 0 (later ++ earlier))
    (eq-eqb n (0 + length (later ++ earlier) + 1) (omega (arith, here, length-append later earlier, same)))
    (turns_both k later earlier before same (and_right (n == k + length later + 1) (are_in_turn_behind k later) behind))

numbers_both : (number : Call → Option ℕ) (later earlier : List Entry) → numbers_of number (later ++ earlier) ≡ numbers_of number later ++ numbers_of number earlier
numbers_both number later earlier = filter_map-append (λ (entry : Entry). number entry.call) later earlier

-- names that were met before a request, and those of the request
pub names_both : (old new : Tables) (later earlier : List Entry) → AreNamesMet no_names old earlier → AreNamesMet old new later → AreNamesMet no_names new (later ++ earlier)
names_both old new later earlier before behind = record {
  spaces = subst (λ l. IsTrue (are_met 0 l (length new.spaces))) (sym (numbers_both space_in later earlier)) (met_both (length old.spaces) (length new.spaces) (numbers_of space_in later) (numbers_of space_in earlier) before.spaces behind.spaces);
  terms = subst (λ l. IsTrue (are_met 0 l (length new.terms))) (sym (numbers_both terms_in later earlier)) (met_both (length old.terms) (length new.terms) (numbers_of terms_in later) (numbers_of terms_in earlier) before.terms behind.terms);
  in_turn = subst (λ l. IsTrue (are_in_turn_behind 0 l)) (sym (numbers_both text_in later earlier)) (turns_both (length old.texts) (numbers_of text_in later) (numbers_of text_in earlier) before.in_turn (omega (arith, before.texts)) behind.in_turn);
  texts = omega (arith, behind.texts, before.texts, ap length (numbers_both text_in later earlier), length-append (numbers_of text_in later) (numbers_of text_in earlier));
}

-- A WHOLE JOURNAL

rising_whole : (numbers : List ℕ) → IsTrue (is_rising_behind 0 numbers) → IsTrue (is_rising numbers)
rising_whole [] up = refl
rising_whole (n ∷ earlier) up =
    let first = and_left (nat_le 1 n && nat_le n (larger 0 (greatest earlier) + 1)) (is_rising_behind 0 earlier) up in
    both (nat_le 1 n && nat_le n (greatest earlier + 1)) (is_rising earlier)
    (subst (λ x. IsTrue (nat_le 1 n && nat_le n (x + 1))) (larger_low 0 (greatest earlier) (omega arith)) first)
    (rising_whole earlier (and_right (nat_le 1 n && nat_le n (larger 0 (greatest earlier) + 1)) (is_rising_behind 0 earlier) up))

turns_whole : (numbers : List ℕ) → IsTrue (are_in_turn_behind 0 numbers) → IsTrue (are_in_turn numbers)
turns_whole [] turn = refl
turns_whole (n ∷ earlier) turn =
    let here : n ≡ 0 + length earlier + 1 = eqb-true n (0 + length earlier + 1) (and_left (n == 0 + length earlier + 1) (are_in_turn_behind 0 earlier) turn) in
    both (n == length earlier + 1) (are_in_turn earlier) (eq-eqb n (length earlier + 1) (omega (arith, here)))
    (turns_whole earlier (and_right (n == 0 + length earlier + 1) (are_in_turn_behind 0 earlier) turn))

abbrev occurs : List ℕ → ℕ → Bool
occurs numbers m = list_any (λ used. used == m) numbers

each_occurs : (numbers : List ℕ) (m : ℕ) → IsTrue (is_rising numbers) → 1 ≤ m → m ≤ greatest numbers → IsTrue (occurs numbers m)
each_occurs [] m up low high = absurd (omega (arith, low, high))
each_occurs (n ∷ earlier) m up low high =
    at (n == m) refl (λ le. each_occurs earlier m (and_right (nat_le 1 n && nat_le n (greatest earlier + 1)) (is_rising earlier) up) low le)
  where
    first : IsTrue (nat_le 1 n && nat_le n (greatest earlier + 1))
    first = and_left (nat_le 1 n && nat_le n (greatest earlier + 1)) (is_rising earlier) up

    below : (a b g : ℕ) → b ≤ larger a g → a ≤ g + 1 → (a == b) ≡ false → b ≤ g
    below a b g le near other = grind (arith, nat_tests)

    at : (b : Bool) → (n == m) ≡ b → (m ≤ greatest earlier → IsTrue (occurs earlier m)) → IsTrue (b || occurs earlier m)
    at true same later = refl
    at false other later =
        let top_n : n ≤ greatest earlier + 1 = le_of n (greatest earlier + 1) (and_right (nat_le 1 n) (nat_le n (greatest earlier + 1)) first) in
        later (below n m (greatest earlier) high top_n other)

all_in_range : (p : ℕ → Bool) (a n : ℕ) → ((m : ℕ) → a ≤ m → m < a + n → IsTrue (p m)) → IsTrue (list_all p (range_with_len a n))
all_in_range p a zero each = refl
all_in_range p a (suc n) each =
    both (p a) (list_all p (range_with_len (a + 1) n)) (each a (omega arith) (omega arith)) (all_in_range p (a + 1) n (λ m low high. each m (omega (arith, low)) (omega (arith, high))))

used_whole : (numbers : List ℕ) (count : ℕ) → IsTrue (are_met 0 numbers count) → IsTrue (are_all_used numbers count)
used_whole numbers count met =
    let same : greatest numbers ≡ count = sym (larger_low 0 (greatest numbers) (omega arith)) ∙ top 0 numbers count met in
    all_in_range (occurs numbers) 1 count (λ m low high. each_occurs numbers m (rising_whole numbers (and_left (is_rising_behind 0 numbers) (larger 0 (greatest numbers) == count) met)) low (omega (arith, high, same)))

each_turn : (numbers : List ℕ) (m : ℕ) → IsTrue (are_in_turn numbers) → 1 ≤ m → m ≤ length numbers → IsTrue (occurs numbers m)
each_turn [] m turn low high = absurd (omega (arith, low, high))
each_turn (n ∷ earlier) m turn low high =
    at (n == m) refl (λ le. each_turn earlier m (and_right (n == length earlier + 1) (are_in_turn earlier) turn) low le)
  where
    here : n ≡ length earlier + 1
    here = eqb-true n (length earlier + 1) (and_left (n == length earlier + 1) (are_in_turn earlier) turn)

    at_most : (n == m) ≡ false → (n ≡ m) ⊎ (n ≢ m) → m ≤ length earlier
    at_most other (inl same) = absurd (false≢true (sym other ∙ eq-eqb n m same))
    at_most other (inr apart) = omega (arith, high, here, apart)

    at : (b : Bool) → (n == m) ≡ b → (m ≤ length earlier → IsTrue (occurs earlier m)) → IsTrue (b || occurs earlier m)
    at true same later = refl
    at false other later = later (at_most other (cases_eq n m))

turns_used : (numbers : List ℕ) → IsTrue (are_in_turn numbers) → IsTrue (are_all_used numbers (length numbers))
turns_used numbers turn = all_in_range (occurs numbers) 1 (length numbers) (λ m low high. each_turn numbers m turn low (omega (arith, high)))

numbers_whole : (number : Call → Option ℕ) (journal : List Entry) → numbers_of number (reverse journal) ≡ numbers_in number journal
numbers_whole number [] = refl
numbers_whole number (entry ∷ journal) =
    ap (numbers_of number) (reverse-append (entry ∷ []) journal)
    ∙ (numbers_both number (reverse journal) (entry ∷ [])
    ∙ (ap (λ l. l ++ numbers_of number (entry ∷ [])) (numbers_whole number journal)
    ∙ at (number entry.call)))
  where
    at : (o : Option ℕ) → reverse (filter_map (λ (e : Entry). number e.call) journal) ++ cons_option o [] ≡ reverse (cons_option o (filter_map (λ (e : Entry). number e.call) journal))
    at None = append-nil (reverse (filter_map (λ (e : Entry). number e.call) journal))
    at (Some n) = sym (reverse-append (n ∷ []) (filter_map (λ (e : Entry). number e.call) journal))

-- what is met in a whole journal is used there, in order
pub names_whole : (names : Tables) (journal : List Entry) → AreNamesMet no_names names (reverse journal) → IsTrue (are_names_used names journal) × IsTrue (are_names_in_order journal)
names_whole names journal met =
    let spaces = subst (λ l. IsTrue (are_met 0 l (length names.spaces))) (numbers_whole space_in journal) met.spaces in
    let terms = subst (λ l. IsTrue (are_met 0 l (length names.terms))) (numbers_whole terms_in journal) met.terms in
    let turns : IsTrue (are_in_turn (numbers_in text_in journal)) = turns_whole (numbers_in text_in journal) (subst (λ l. IsTrue (are_in_turn_behind 0 l)) (numbers_whole text_in journal) met.in_turn) in
    let as_many : length names.texts ≡ length (numbers_in text_in journal) = omega (arith, met.texts, ap length (numbers_whole text_in journal)) in (
      both (are_all_used (numbers_in space_in journal) (length names.spaces) && are_all_used (numbers_in terms_in journal) (length names.terms)) (are_all_used (numbers_in text_in journal) (length names.texts))
          (both (are_all_used (numbers_in space_in journal) (length names.spaces)) (are_all_used (numbers_in terms_in journal) (length names.terms))
          (used_whole (numbers_in space_in journal) (length names.spaces) spaces) (used_whole (numbers_in terms_in journal) (length names.terms) terms))
          (subst (λ n. IsTrue (are_all_used (numbers_in text_in journal) n)) (sym as_many) (turns_used (numbers_in text_in journal) turns)),
      both (is_rising (numbers_in space_in journal) && is_rising (numbers_in terms_in journal)) (are_in_turn (numbers_in text_in journal))
          (both (is_rising (numbers_in space_in journal)) (is_rising (numbers_in terms_in journal))
          (rising_whole (numbers_in space_in journal) (and_left (is_rising_behind 0 (numbers_in space_in journal)) (larger 0 (greatest (numbers_in space_in journal)) == length names.spaces) spaces))
          (rising_whole (numbers_in terms_in journal) (and_left (is_rising_behind 0 (numbers_in terms_in journal)) (larger 0 (greatest (numbers_in terms_in journal)) == length names.terms) terms)))
          turns,
    )
