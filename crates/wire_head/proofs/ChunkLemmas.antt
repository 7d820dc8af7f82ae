-- Chunks behind chunks.
use Rattle.std.proofs.Common.{◌≡◌, ℕ, suc, zero, ◌+◌, ◌-◌, ◌*◌, ◌^◌, ◌<◌, ◌≤◌, List, [], ◌∷◌, ◌++◌, length, drop, refl, sym, ap, ◌∙◌, arith, add-zero, zero-add, add_assoc}
use Rattle.std.proofs.Math.Nat.{pow-le-pow_right}
use Rattle.std.specs.Char.{digit_value}
use Rattle.std.specs.Str.Parse.{digits_value_after}
use Rattle.std.proofs.Common.{pow-add}
use Rattle.wire_head.specs.declared.chunked_body.Chunk.{Chunk}
use Rattle.wire_head.specs.declared.chunked_body.Chunk.TheVariants.{Data}
use Rattle.wire_head.specs.declared.chunked_body.ChunkedBody.{ChunkedBody}
use Rattle.wire_head.specs.declared.chunked_body.ChunkedBody.TheVariants.{Ends, Wrong as BadBody, Part as NoBody}
use Rattle.wire_head.specs.ChunkedBodies.{longer, chunk, chunk_rest, first_chunk, chunks}

pub digits_push : (radix n : ℕ) (ds : List ℕ) (d : ℕ)
    → digits_value_after radix n (ds ++ d ∷ []) ≡ digits_value_after radix n ds * radix + digit_value d
digits_push radix n [] d = refl
digits_push radix n (c ∷ ds) d = digits_push radix (n * radix + digit_value c) ds d

pub size_below : (i size : ℕ) → i < 8 → size + 3 ≤ 3 * 16 ^ i → size * 16 + 36 < 2 ^ 64
size_below i size few small =
    let top : 16 ^ i ≤ 16 ^ 8 = pow-le-pow_right {n = 16} (omega arith) {j = 8} (omega arith) in omega arith

pub size_more : (i size digit : ℕ) → size + 3 ≤ 3 * 16 ^ i → digit ≤ 36 → size * 16 + digit + 3 ≤ 3 * 16 ^ (i + 1)
size_more i size digit small d = omega (arith, pow-add 16 i 1)

pub longer_zero : (b : ChunkedBody) → longer 0 0 b ≡ b
longer_zero (Ends n s) = ap (λ (k : ℕ). Ends k (0 + s)) (zero-add n) ∙ ap (λ (k : ℕ). Ends n k) (zero-add s)
longer_zero (BadBody n) = ap (λ (k : ℕ). BadBody k) (zero-add n)
longer_zero NoBody = refl

pub longer_longer : (a x b y : ℕ) (z : ChunkedBody) → longer a x (longer b y z) ≡ longer (a + b) (x + y) z
longer_longer a x b y (Ends n s) =
    sym (ap (λ (k : ℕ). Ends k (x + y + s)) (add_assoc a b n) ∙ ap (λ (k : ℕ). Ends (a + (b + n)) k) (add_assoc x y s))
longer_longer a x b y (BadBody n) = sym (ap (λ (k : ℕ). BadBody k) (add_assoc a b n))
longer_longer a x b y NoBody = refl

pub chunks_skip : (k : ℕ) (text : List ℕ) → k ≤ length text → chunks k text ≡ longer k 0 (chunks 0 (drop k text))
chunks_skip zero text within = sym (longer_zero (chunks 0 text))
chunks_skip (suc k) [] within = absurd (omega arith)
chunks_skip (suc k) (b ∷ text) within =
    ap (longer 1 0) (chunks_skip k text (omega arith))
    ∙ longer_longer 1 0 k 0 (chunks 0 (drop k text))
    ∙ ap (λ (n : ℕ). longer n 0 (chunks 0 (drop k text))) (omega arith)

data_first : (b : ℕ) (text : List ℕ) (n size : ℕ) → chunk (b ∷ text) ≡ Data (suc n) size → n ≤ length text
    → chunks 0 (b ∷ text) ≡ longer (suc n) size (chunks 0 (drop n text))
data_first b text n size is within =
    let back : suc n - 1 ≡ n = omega arith in
    ap (λ (c : Chunk). first_chunk c (chunks (chunk_rest c) text)) is
    ∙ ap (λ (k : ℕ). longer 1 size (chunks k text)) back
    ∙ ap (longer 1 size) (chunks_skip n text within)
    ∙ longer_longer 1 size n 0 (chunks 0 (drop n text))
    ∙ ap (λ (k : ℕ). longer k (size + 0) (chunks 0 (drop n text))) (omega arith)
    ∙ ap (λ (k : ℕ). longer (suc n) k (chunks 0 (drop n text))) (add-zero size)

pub data_step : (text : List ℕ) (n size : ℕ) → chunk text ≡ Data n size → size < n → n ≤ length text
    → chunks 0 text ≡ longer n size (chunks 0 (drop n text))
data_step text zero size is some within = absurd (omega arith)
data_step [] (suc n) size is some within = absurd (omega arith)
data_step (b ∷ text) (suc n) size is some within = data_first b text n size is (omega arith)

pub other_step : (text : List ℕ) (b : ChunkedBody) → ((rest : ChunkedBody) → first_chunk (chunk text) rest ≡ b) → 0 < length text → chunks 0 text ≡ b
other_step [] b is some = absurd (omega arith)
other_step (x ∷ text) b is some = is (chunks (chunk_rest (chunk (x ∷ text))) text)
