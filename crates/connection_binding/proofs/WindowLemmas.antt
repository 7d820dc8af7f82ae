-- What is left of a window.
use Rattle.std.proofs.Common.{◌≡◌, ◌∙◌, ℕ, ◌+◌, ◌-◌, ◌≤◌, List, length, take, drop, sym, ap, arith}
use Rattle.std.proofs.lemmas.List.{length-take, drop-take, drop-drop}

pub window_taken : (from to count : ℕ) (xs : List ℕ) → count ≤ length (take (to - from) (drop from xs))
    → take (to - (from + count)) (drop (from + count) xs) ≡ drop count (take (to - from) (drop from xs))
window_taken from to count xs fits =
    let size = length-take (to - from) (drop from xs) in
    let parts : to - from ≡ count + (to - (from + count)) = omega (arith, size, fits) in
    sym (ap (λ (k : ℕ). drop count (take k (drop from xs))) parts
    ∙ drop-take count (to - (from + count)) (drop from xs)
    ∙ ap (take (to - (from + count))) (drop-drop count from xs))
