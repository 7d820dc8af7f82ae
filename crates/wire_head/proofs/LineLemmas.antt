-- One more byte before a length.
use Rattle.std.proofs.Common.{◌≡◌, ℕ, suc, ◌+◌, ◌<◌, List, ◌∷◌, length, drop, get_or, Option, Some, None, refl, sym, ap, ◌∙◌, arith, drop-cons}
use Rattle.std.specs.Option.{option_map}
use Rattle.wire_head.specs.Lines.{end_len, head_len, or_later}

pub shifted : (i : ℕ) (x : Option ℕ) → option_map (λ n. i + n) (option_map (λ n. 1 + n) x) ≡ option_map (λ n. i + 1 + n) x
shifted i None = refl
shifted i (Some n) = ap (λ (k : ℕ). Some k) (omega arith)

one_byte : (i b : ℕ) (rest : List ℕ) → end_len (b ∷ rest) ≡ None
    → option_map (λ n. i + 1 + n) (head_len rest) ≡ option_map (λ n. i + n) (head_len (b ∷ rest))
one_byte i b rest none =
    sym (ap (λ (e : Option ℕ). option_map (λ n. i + n) (or_later e (head_len rest))) none ∙ shifted i (head_len rest))

pub one_more : (text : List ℕ) (i : ℕ) → i < length text → end_len (drop i text) ≡ None
    → option_map (λ n. i + 1 + n) (head_len (drop (i + 1) text)) ≡ option_map (λ n. i + n) (head_len (drop i text))
one_more text i within none =
    let cell = drop-cons text i 0 within in
    let next : i + 1 ≡ suc i = omega arith in
    ap (λ (k : ℕ). option_map (λ n. i + 1 + n) (head_len (drop k text))) next
    ∙ one_byte i (get_or text i 0) (drop (suc i) text) (sym (ap end_len cell) ∙ none)
    ∙ ap (λ (xs : List ℕ). option_map (λ n. i + n) (head_len xs)) (sym cell)
