-- A chunked body, byte by byte.
use Rattle.std.proofs.Common.{◌≡◌, ℕ, suc, zero, ◌+◌, ◌-◌, ◌<◌, Bool, true, false, cond, ◌==◌, List, [], ◌∷◌, drop, Option, Some, None, refl, sym, ap, ◌∙◌, arith, add-zero}
use Rattle.std.specs.Prelude.{nat_lt}
use Rattle.std.specs.List.{prefix_len}
use Rattle.std.specs.Char.{is_ascii_hexdigit}
use Rattle.std.proofs.lemmas.Bool.Decides.{nat_tests}
use Rattle.std.proofs.lemmas.List.{drop-drop}
use Rattle.wire_head.specs.declared.lines.Front.{Front}
use Rattle.wire_head.specs.declared.lines.Front.TheVariants.{Whole, Wrong, Part}
use Rattle.wire_head.specs.declared.chunked_body.ChunkedBody.{ChunkedBody}
use Rattle.wire_head.specs.declared.chunked_body.ChunkedBody.TheVariants.{Wrong as BadBody}
use Rattle.wire_head.specs.Lines.{line_end}
use Rattle.wire_head.specs.ChunkedBodies.{behind, size_end, size_line, size_line_of, size_of, no_digit, trailer_len, longer, chunk_of, data_chunk, last_chunk, chunk_rest, first_chunk, chunks}
use Rattle.wire_head.proofs.ChunkLemmas.{longer_zero, longer_longer}
use Rattle.wire_head.specs.ChunkPlaces.{trailer_then, end_then, sized, line_then}

-- chunks behind bytes of an earlier one, however few bytes there are
skip : (k : ℕ) (text : List ℕ) → chunks k text ≡ longer k 0 (chunks 0 (drop k text))
skip zero text = sym (longer_zero (chunks 0 text))
skip (suc k) [] = refl
skip (suc k) (b ∷ text) =
    ap (longer 1 0) (skip k text)
    ∙ longer_longer 1 0 k 0 (chunks 0 (drop k text))
    ∙ ap (λ (n : ℕ). longer n 0 (chunks 0 (drop k text))) (omega arith)

-- a chunk with data
data_is : (b : ℕ) (text : List ℕ) (n size : ℕ) → 0 < n
    → longer 1 size (chunks (n - 1) text) ≡ longer n size (chunks 0 (drop n (b ∷ text)))
data_is b text zero size some = absurd (omega arith)
data_is b text (suc m) size some =
    let back : suc m - 1 ≡ m = omega arith in
    ap (λ (k : ℕ). longer 1 size (chunks k text)) back
    ∙ ap (longer 1 size) (skip m text)
    ∙ longer_longer 1 size m 0 (chunks 0 (drop m text))
    ∙ ap (λ (k : ℕ). longer k (size + 0) (chunks 0 (drop m text))) (omega arith)
    ∙ ap (λ (k : ℕ). longer (suc m) k (chunks 0 (drop m text))) (add-zero size)

fresh_last : (n : ℕ) (t : Option ℕ) (next : ChunkedBody) → first_chunk (last_chunk n t) next ≡ longer n 0 (trailer_then t)
fresh_last n None next = refl
fresh_last n (Some k) next = refl

drop_add : (n m : ℕ) (text : List ℕ) → drop m (drop n text) ≡ drop (n + m) text
drop_add n m text = drop-drop m n text

fresh_data : (b : ℕ) (text : List ℕ) (n size : ℕ) (f : Front) → 0 < n
    → first_chunk (data_chunk n size f) (chunks (chunk_rest (data_chunk n size f)) text)
    ≡ longer n 0 (longer 0 size (end_then size f (drop n (b ∷ text))))
fresh_data b text n size Part some = refl
fresh_data b text n size (Wrong k) some = ap (λ (m : ℕ). BadBody m) (omega arith)
fresh_data b text n size (Whole k) some =
    data_is b text (n + size + k) size (omega arith)
    ∙ ap (λ (xs : List ℕ). longer (n + size + k) size (chunks 0 xs)) (ap (λ (m : ℕ). drop m (b ∷ text)) (omega arith) ∙ sym (drop_add n (size + k) (b ∷ text)))
    ∙ ap (λ (m : ℕ). longer m size (chunks 0 (drop (size + k) (drop n (b ∷ text))))) (omega arith)
    ∙ ap (λ (m : ℕ). longer (n + (0 + (size + k))) m (chunks 0 (drop (size + k) (drop n (b ∷ text))))) (omega arith)
    ∙ sym (ap (longer n 0) (longer_longer 0 size (size + k) 0 (chunks 0 (drop (size + k) (drop n (b ∷ text)))))
    ∙ longer_longer n 0 (0 + (size + k)) (size + 0) (chunks 0 (drop (size + k) (drop n (b ∷ text)))))

fresh_sized : (t : Bool) (b : ℕ) (text : List ℕ) (n size : ℕ) → 0 < n → (size == 0) ≡ t
    → first_chunk (chunk_of (Whole n) size (b ∷ text)) (chunks (chunk_rest (chunk_of (Whole n) size (b ∷ text))) text)
    ≡ longer n 0 (sized size (drop n (b ∷ text)))
fresh_sized true b text n size some is =
    let t = trailer_len (drop n (b ∷ text)) in
    let d = data_chunk n size (line_end (drop size (drop n (b ∷ text)))) in
    ap (λ (x : Bool). first_chunk (cond x (last_chunk n t) d) (chunks (chunk_rest (cond x (last_chunk n t) d)) text)) is
    ∙ fresh_last n t (chunks (chunk_rest (last_chunk n t)) text)
    ∙ sym (ap (λ (x : Bool). longer n 0 (cond x (trailer_then t) (longer 0 size (end_then size (line_end (drop size (drop n (b ∷ text)))) (drop n (b ∷ text)))))) is)
fresh_sized false b text n size some is =
    let t = trailer_len (drop n (b ∷ text)) in
    let f = line_end (drop size (drop n (b ∷ text))) in
    ap (λ (x : Bool). first_chunk (cond x (last_chunk n t) (data_chunk n size f)) (chunks (chunk_rest (cond x (last_chunk n t) (data_chunk n size f))) text)) is
    ∙ fresh_data b text n size f some
    ∙ sym (ap (λ (x : Bool). longer n 0 (cond x (trailer_then t) (longer 0 size (end_then size f (drop n (b ∷ text)))))) is)

fresh_front : (b : ℕ) (text : List ℕ) (f : Front) (size : ℕ) → ((n : ℕ) → f ≡ Whole n → 0 < n)
    → first_chunk (chunk_of f size (b ∷ text)) (chunks (chunk_rest (chunk_of f size (b ∷ text))) text) ≡ line_then f size (b ∷ text)
fresh_front b text Part size some = refl
fresh_front b text (Wrong k) size some = refl
fresh_front b text (Whole n) size some = fresh_sized (size == 0) b text n size (some n refl) refl

behind_some : (k : ℕ) (f : Front) (n : ℕ) → 0 < k → behind k f ≡ Whole n → 0 < n
behind_some k (Whole m) n some is = let same : k + m ≡ n = cc in omega arith
behind_some k (Wrong m) n some is = cc is
behind_some k Part n some is = cc is

line_some : (digits : ℕ) (text : List ℕ) (n : ℕ) → size_line_of digits text ≡ Whole n → 0 < n
line_some zero [] n is = cc is
line_some zero (b ∷ text) n is = cc is
line_some (suc k) text n is = by_test (nat_lt 8 (suc k)) is
  where
    by_test : (t : Bool) → cond (suc k == 0) (no_digit text) (cond t (Wrong 8) (behind (suc k) (size_end (drop (suc k) text)))) ≡ Whole n → 0 < n
    by_test true h = absurd (let zero_not : (suc k == 0) ≡ false = grind (arith, nat_tests) in let e = rw zero_not at h in cc)
    by_test false h = let zero_not : (suc k == 0) ≡ false = grind (arith, nat_tests) in behind_some (suc k) (size_end (drop (suc k) text)) n (omega arith) (rw zero_not at h)

pub fresh_is : (b : ℕ) (text : List ℕ) → chunks 0 (b ∷ text) ≡ line_then (size_line (b ∷ text)) (size_of (b ∷ text)) (b ∷ text)
fresh_is b text = fresh_front b text (size_line (b ∷ text)) (size_of (b ∷ text)) (line_some (prefix_len is_ascii_hexdigit (b ∷ text)) (b ∷ text))
