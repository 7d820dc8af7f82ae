-- A line's words are cut again as they were joined.
use Rattle.std.proofs.Common.{◌≡◌, ℕ, zero, suc, ◌-◌, ◌^◌, ◌<◌, ◌==◌, ◌&&◌, nat_lt, Bool, true, false, cond, List, [], ◌∷◌, ◌++◌, length, take, get_or, codes, refl, sym, ap, ◌∙◌, arith, append_assoc, length-append}
use Rattle.std.specs.Prelude.{All, bytes_eq}
use Rattle.std.specs.List.{list_all, slice_split, flat_map}
use Rattle.std.specs.Char.{is_ascii_digit}
use Rattle.std.specs.Fmt.{decimal}
use Rattle.std.proofs.lemmas.Bool.Decides.{nat_tests}
use Rattle.std.proofs.lemmas.Bool.{agree_below_at}
use Rattle.std.proofs.lemmas.List.{append-nil}
use Rattle.std.proofs.lemmas.List.Folds.{list_all-append}
use Rattle.std.proofs.lemmas.List.Splits.{slice_split_at, slice_split_none}
use borrow.Author.Tests.{ltb-true}
use Rattle.session_text.specs.Words.{word_of, word_value, escaped}
use Rattle.session_text.proofs.WordLemmas.{word_again}
use Rattle.report_laws.specs.Ranges.{are_bytes}
use Rattle.report_reading.specs.Words.{words, body}
use Rattle.report_reading.proofs.Tests.{both}
use Rattle.report_laws.proofs.NumberLemmas.{digits_decimal}

pub and_true : (a b : Bool) → a ≡ true → b ≡ true → (a && b) ≡ true
and_true a b h k = rw (h, k) refl

-- a word has no space and no control byte
abbrev pub plain : List ℕ → Bool
plain w = list_all (λ b. nat_lt 32 b) w

digit_plain : (b : ℕ) → is_ascii_digit b ≡ true → nat_lt 32 b ≡ true
digit_plain b h = grind (arith, nat_tests)

plain_digits : (w : List ℕ) → list_all is_ascii_digit w ≡ true → plain w ≡ true
plain_digits [] h = refl
plain_digits (b ∷ w) h =
    let parts = both (is_ascii_digit b) (list_all is_ascii_digit w) h in
    and_true (nat_lt 32 b) (plain w) (digit_plain b parts.0) (plain_digits w parts.1)

pub plain_decimal : (n : ℕ) → n < 2 ^ 64 → plain (decimal n) ≡ true
plain_decimal n fits = plain_digits (decimal n) (digits_decimal n fits)

plain_at : (w : List ℕ) (k d : ℕ) → plain w ≡ true → k < length w → nat_lt 32 (get_or w k d) ≡ true
plain_at [] k d h less = absurd (omega arith)
plain_at (b ∷ w) zero d h less = (both (nat_lt 32 b) (plain w) h).0
plain_at (b ∷ w) (suc k) d h less = plain_at w k d (both (nat_lt 32 b) (plain w) h).1 (omega arith)

not_32 : (b : ℕ) → nat_lt 32 b ≡ true → (b == 32) ≡ false
not_32 b h = grind (arith, nat_tests)

no_space : (w : List ℕ) → plain w ≡ true → All (λ b. (b == 32) ≡ false) w
no_space w h = λ k d less. not_32 (get_or w k d) (plain_at w k d h less)

abbrev pub all_plain : List (List ℕ) → Bool
all_plain ws = list_all plain ws

-- words behind others, each with a space in front
abbrev pub joins : List ℕ → List (List ℕ) → List ℕ
joins text [] = text
joins text (w ∷ ws) = joins (text ++ 32 ∷ w) ws

abbrev pub spaced : List (List ℕ) → List ℕ
spaced ws = flat_map (λ w. 32 ∷ w) ws

pub joined : (text : List ℕ) (ws : List (List ℕ)) → joins text ws ≡ text ++ spaced ws
joined text [] = sym (append-nil text)
joined text (w ∷ ws) = joined (text ++ 32 ∷ w) ws ∙ append_assoc text (32 ∷ w) (spaced ws)

cut_spaced : (w : List ℕ) (ws : List (List ℕ)) → plain w ≡ true → all_plain ws ≡ true → slice_split (λ b. b == 32) (w ++ spaced ws) ≡ w ∷ ws
cut_spaced w [] h hs = ap (slice_split (λ b. b == 32)) (append-nil w) ∙ slice_split_none (λ b. b == 32) w (no_space w h)
cut_spaced w (v ∷ ws) h hs =
    let parts = both (plain v) (all_plain ws) hs in
    slice_split_at (λ b. b == 32) w 32 (v ++ spaced ws) (no_space w h) refl
    ∙ ap (λ (more : List (List ℕ)). w ∷ more) (cut_spaced v ws parts.0 parts.1)

body_is : (text : List ℕ) → body (text ++ 10 ∷ []) ≡ text
body_is [] = refl
body_is (b ∷ text) = body_more b text (body_is text) where
  body_more : (b : ℕ) (text : List ℕ) → body (text ++ 10 ∷ []) ≡ text → body (b ∷ text ++ 10 ∷ []) ≡ b ∷ text
  body_more b text h =
      let n : length (b ∷ text ++ 10 ∷ []) - 1 ≡ suc (length (text ++ 10 ∷ []) - 1) = omega (arith, length-append text (10 ∷ [])) in
      ap (λ k. take k (b ∷ text ++ 10 ∷ [])) n ∙ ap (λ (more : List ℕ). b ∷ more) h

-- the words of a line that was made of them
pub words_again : (key : List ℕ) (ws : List (List ℕ)) → plain key ≡ true → all_plain ws ≡ true → words (joins key ws ++ 10 ∷ []) ≡ key ∷ ws
words_again key ws h hs =
    ap (slice_split (λ b. b == 32)) (body_is (joins key ws) ∙ joined key ws) ∙ cut_spaced key ws h hs

-- WORDS OF VALUES

pub are_bytes_are : (bytes : List ℕ) → are_bytes bytes ≡ true → All (λ b. b < 256) bytes
are_bytes_are bytes h = λ k d less. byte_at bytes k d h less where
  byte_at : (w : List ℕ) (k d : ℕ) → are_bytes w ≡ true → k < length w → get_or w k d < 256
  byte_at [] k d h less = absurd (omega arith)
  byte_at (b ∷ w) zero d h less = ltb-true b 256 (both (nat_lt b 256) (are_bytes w) h).0
  byte_at (b ∷ w) (suc k) d h less = byte_at w k d (both (nat_lt b 256) (are_bytes w) h).1 (omega arith)

pub value_again : (v : List ℕ) → are_bytes v ≡ true → word_value (word_of v) ≡ v
value_again v h = word_again v (are_bytes_are v h)

plain_escaped : (b : ℕ) → nat_lt b 256 ≡ true → plain (escaped b) ≡ true
plain_escaped b h = agree_below_at (λ b. plain (escaped b)) (λ b. true) 256 b refl (ltb-true b 256 h)

plain_all : (v : List ℕ) → are_bytes v ≡ true → plain (flat_map escaped v) ≡ true
plain_all [] h = refl
plain_all (b ∷ v) h =
    let parts = both (nat_lt b 256) (are_bytes v) h in
    list_all-append (λ b. nat_lt 32 b) (escaped b) (flat_map escaped v) ∙ and_true _ _ (plain_escaped b parts.0) (plain_all v parts.1)

by_dash : (t : Bool) (w : List ℕ) → plain w ≡ true → plain (cond t (codes "%2D") w) ≡ true
by_dash true w h = refl
by_dash false w h = h

pub plain_word : (v : List ℕ) → are_bytes v ≡ true → plain (word_of v) ≡ true
plain_word [] h = refl
plain_word (b ∷ v) h = by_dash (bytes_eq (b ∷ v) (codes "-")) (flat_map escaped (b ∷ v)) (plain_all (b ∷ v) h)

pub are_bytes_by : (bytes : List ℕ) → ((i : ℕ) → i < length bytes → get_or bytes i 0 < 256) → are_bytes bytes ≡ true
are_bytes_by [] h = refl
are_bytes_by (b ∷ bytes) h = and_true (nat_lt b 256) (are_bytes bytes) (lt_test b (h 0 (omega arith))) (are_bytes_by bytes (λ i within. h (suc i) (omega arith)))
  where
    lt_test : (b : ℕ) → b < 256 → nat_lt b 256 ≡ true
    lt_test b less = grind (arith, nat_tests)
