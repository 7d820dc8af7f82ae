-- The first line of a text and the lines behind it.
use Rattle.std.proofs.Common.{◌≡◌, ℕ, suc, ◌+◌, ◌<◌, ◌==◌, Bool, true, false, List, [], ◌∷◌, length, take, drop, refl, sym, ap, ◌∙◌, arith, length-drop}
use Rattle.std.specs.List.{position_or_len}
use Rattle.report_reading.specs.Cuts.{lines, onto_first}

abbrev is_end : ℕ → Bool
is_end b = b == 10

-- the first line has n bytes and a line end
abbrev pub cut_lines : ℕ → List ℕ → List (List ℕ)
cut_lines n text = take (n + 1) text ∷ lines (drop (n + 1) text)

-- a byte more before the first line
one_more : (b n : ℕ) (text : List ℕ) → lines text ≡ cut_lines n text → onto_first b (lines text) ≡ cut_lines (suc n) (b ∷ text)
one_more b n text h =
    let next : suc n + 1 ≡ suc (n + 1) = omega arith in
    ap (onto_first b) h ∙ sym (ap (λ (k : ℕ). take k (b ∷ text) ∷ lines (drop k (b ∷ text))) next)

behind_one : (b : ℕ) (text : List ℕ) → (0 < length text → lines text ≡ cut_lines (position_or_len is_end text) text)
    → onto_first b (lines text) ≡ cut_lines (suc (position_or_len is_end text)) (b ∷ text)
behind_one b [] rest = refl
behind_one b (c ∷ text) rest = one_more b (position_or_len is_end (c ∷ text)) (c ∷ text) (rest (omega arith))

by_test : (b : ℕ) (text : List ℕ) (t : Bool) → (b == 10) ≡ t → (0 < length text → lines text ≡ cut_lines (position_or_len is_end text) text)
    → lines (b ∷ text) ≡ cut_lines (position_or_len is_end (b ∷ text)) (b ∷ text)
by_test b text true e rest = rw e refl
by_test b text false e rest =
    let one : 1 + position_or_len is_end text ≡ suc (position_or_len is_end text) = omega arith in
    let all : cut_lines (position_or_len is_end (b ∷ text)) (b ∷ text) ≡ cut_lines (suc (position_or_len is_end text)) (b ∷ text) = rw e (ap (λ (k : ℕ). cut_lines k (b ∷ text)) one) in
    let here : lines (b ∷ text) ≡ onto_first b (lines text) = rw e refl in
    here ∙ behind_one b text rest ∙ sym all

pub first_line : (text : List ℕ) → 0 < length text → lines text ≡ cut_lines (position_or_len is_end text) text
first_line [] some = absurd (omega arith)
first_line (b ∷ text) some = by_test b text (b == 10) refl (first_line text)

pub shorter : (text : List ℕ) (n : ℕ) → 0 < length text → length (drop (n + 1) text) < length text
shorter text n some = omega (arith, length-drop (n + 1) text, some)
