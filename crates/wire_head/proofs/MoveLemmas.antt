-- One byte on from each place.
use Rattle.std.proofs.Common.{◌≡◌, ℕ, suc, zero, ◌+◌, ◌-◌, ◌*◌, ◌<◌, ◌≤◌, Bool, true, false, cond, ◌==◌, ◌||◌, List, [], ◌∷◌, length, take, drop, Option, Some, None, refl, sym, ap, ◌∙◌, arith, zero-add}
use Rattle.std.specs.Prelude.{nat_lt}
use Rattle.std.specs.List.{prefix_len, position_from}
use Rattle.std.specs.Option.{option_map}
use Rattle.std.specs.Char.{is_ascii_hexdigit, digit_value}
use Rattle.std.specs.Str.Parse.{digits_value_after}
use Rattle.std.proofs.lemmas.Bool.Decides.{nat_tests}
use Rattle.wire_head.specs.declared.lines.Front.{Front}
use Rattle.wire_head.specs.declared.lines.Front.TheVariants.{Whole, Wrong, Part}
use Rattle.wire_head.specs.declared.chunked_body.ChunkedBody.TheVariants.{Ends, Wrong as BadBody}
use Rattle.wire_head.specs.Lines.{blank_len, or_later, head_len, line_end, after_return, behind_return as blank_behind}
use Rattle.wire_head.specs.ChunkedBodies.{behind, up_to, size_end, size_line_of, no_digit, first_of, trailer_len, longer, chunks}
use Rattle.wire_head.proofs.ChunkLemmas.{longer_longer, longer_zero}
use Rattle.wire_head.proofs.PlaceLemmas.{fresh_is}
use Rattle.wire_head.specs.declared.chunk_place.Place.{Place}
use Rattle.wire_head.specs.declared.chunk_place.Place.TheVariants.{Fresh, Digits, Extension, SizeReturn, Bytes, BytesReturn, Trailer, TrailerReturn, TrailerLine}
use Rattle.wire_head.specs.declared.chunk_place.Move.TheVariants.{Goes, Bad, Done}
use Rattle.wire_head.specs.ChunkPlaces.{lf_only, trailer_then, end_then, sized, line_then, digits_line, digits_line_of, behind_return, rest, sized_move, size_move, end_move, bytes_move, move, moved, IsPlace}

line_cons : (f : Front) (v b : ℕ) (t : List ℕ) → line_then (behind 1 f) v (b ∷ t) ≡ longer 1 0 (line_then f v t)
line_cons Part v b t = refl
line_cons (Wrong k) v b t = refl
line_cons (Whole n) v b t =
    let next : 1 + n ≡ suc n = omega arith in
    ap (λ (m : ℕ). longer (1 + n) 0 (sized v (drop m (b ∷ t)))) next ∙ sym (longer_longer 1 0 n 0 (sized v (drop n t)))

sized_goes : (v : ℕ) (t : List ℕ) → longer 1 0 (sized v t) ≡ moved (sized_move v) t
sized_goes v t = by_test (v == 0)
  where
    by_test : (x : Bool) → longer 1 0 (cond x (trailer_then (trailer_len t)) (longer 0 v (end_then v (line_end (drop v t)) t)))
        ≡ moved (cond x (Goes Trailer 0) (Goes (Bytes v) v)) t
    by_test true = refl
    by_test false =
        longer_longer 1 0 0 v (end_then v (line_end (drop v t)) t)
        ∙ ap (λ (s : ℕ). longer 1 s (end_then v (line_end (drop v t)) t)) (zero-add v)

shift : (i j : ℕ) (xs : List ℕ) → position_from (λ c. c == 10) (j + i) xs ≡ option_map (λ k. j + k) (position_from (λ c. c == 10) i xs)
shift i j [] = refl
shift i j (x ∷ xs) = grind (arith, shift (i + 1) j xs)

up_to_more : (o : Option ℕ) → up_to (option_map (λ k. 1 + k) o) ≡ behind 1 (up_to o)
up_to_more None = refl
up_to_more (Some k) = ap (λ (n : ℕ). Whole n) (omega arith)

extension_step : (x : Bool) (v b : ℕ) (t : List ℕ)
    → line_then (up_to (cond x (Some 0) (position_from (λ c. c == 10) 1 t))) v (b ∷ t)
    ≡ moved (cond x (sized_move v) (Goes (Extension v) 0)) t
extension_step true v b t = sized_goes v t
extension_step false v b t =
    ap (λ (o : Option ℕ). line_then (up_to o) v (b ∷ t)) (shift 0 1 t)
    ∙ ap (λ (f : Front). line_then f v (b ∷ t)) (up_to_more (position_from (λ c. c == 10) 0 t))
    ∙ line_cons (up_to (position_from (λ c. c == 10) 0 t)) v b t

size_return_step : (x : Bool) (v b : ℕ) (t : List ℕ)
    → line_then (cond x (Whole 1) (Wrong 0)) v (b ∷ t) ≡ moved (cond x (sized_move v) Bad) t
size_return_step true v b t = sized_goes v t
size_return_step false v b t = refl

bytes_return_step : (x : Bool) (b : ℕ) (t : List ℕ)
    → end_then 0 (cond x (Whole 1) (Wrong 0)) (b ∷ t) ≡ moved (cond x (Goes Fresh 0) Bad) t
bytes_return_step true b t = refl
bytes_return_step false b t = refl

return_is : (t : List ℕ) → after_return t ≡ behind 1 (lf_only t)
return_is [] = refl
return_is (c ∷ t) = by_test (c == 10)
  where
    by_test : (x : Bool) → cond x (Whole 2) (Wrong 1) ≡ behind 1 (cond x (Whole 1) (Wrong 0))
    by_test true = refl
    by_test false = refl

end_cons : (l b : ℕ) (f : Front) (t : List ℕ) → end_then (suc l) f (b ∷ t) ≡ longer 1 0 (end_then l f t)
end_cons l b Part t = refl
end_cons l b (Wrong k) t = ap (λ (n : ℕ). BadBody n) (omega arith)
end_cons l b (Whole k) t =
    let next : suc l + k ≡ suc (l + k) = omega arith in
    ap (λ (n : ℕ). longer (suc l + k) 0 (chunks 0 (drop n (b ∷ t)))) next
    ∙ ap (λ (n : ℕ). longer n 0 (chunks 0 (drop (l + k) t))) (omega arith)
    ∙ sym (longer_longer 1 0 (l + k) 0 (chunks 0 (drop (l + k) t)))

end_behind : (b : ℕ) (f : Front) (t : List ℕ) → end_then 0 (behind 1 f) (b ∷ t) ≡ longer 1 0 (end_then 0 f t)
end_behind b Part t = refl
end_behind b (Wrong k) t = ap (λ (n : ℕ). BadBody n) (omega arith)
end_behind b (Whole k) t =
    let next : 0 + (1 + k) ≡ suc (0 + k) = omega arith in
    ap (λ (n : ℕ). longer (0 + (1 + k)) 0 (chunks 0 (drop n (b ∷ t)))) next
    ∙ ap (λ (n : ℕ). longer n 0 (chunks 0 (drop (0 + k) t))) (omega arith)
    ∙ sym (longer_longer 1 0 (0 + k) 0 (chunks 0 (drop (0 + k) t)))

end_step : (x y : Bool) (b : ℕ) (t : List ℕ)
    → end_then 0 (cond x (Whole 1) (cond y (after_return t) (Wrong 0))) (b ∷ t)
    ≡ moved (cond x (Goes Fresh 0) (cond y (Goes BytesReturn 0) Bad)) t
end_step true y b t = refl
end_step false true b t = ap (λ (f : Front). end_then 0 f (b ∷ t)) (return_is t) ∙ end_behind b (lf_only t) t
end_step false false b t = refl

bytes_step : (l b : ℕ) (t : List ℕ) → rest (Bytes l) (b ∷ t) ≡ moved (bytes_move l b) t
bytes_step zero b t = end_step (b == 10) (b == 13) b t
bytes_step (suc l) b t =
    let some : (suc l == 0) ≡ false = grind (arith, nat_tests) in
    let back : suc l - 1 ≡ l = omega arith in
    end_cons l b (line_end (drop l t)) t
    ∙ sym (ap (λ (x : Bool). moved (cond x (end_move b) (Goes (Bytes (suc l - 1)) 0)) t) some
    ∙ ap (λ (k : ℕ). longer 1 0 (rest (Bytes k) t)) back)

-- trailers

later_cons : (o : Option ℕ) → trailer_then (option_map (λ n. 1 + n) o) ≡ longer 1 0 (trailer_then o)
later_cons None = refl
later_cons (Some n) = refl

line_feed : (o h : Option ℕ) → or_later (option_map (λ n. 1 + n) o) h ≡ option_map (λ n. 1 + n) (first_of o h)
line_feed None h = refl
line_feed (Some n) h = refl

trailer_line_step : (x : Bool) (t : List ℕ)
    → trailer_then (or_later (cond x (option_map (λ n. 1 + n) (blank_len t)) None) (head_len t))
    ≡ moved (cond x (Goes Trailer 0) (Goes TrailerLine 0)) t
trailer_line_step true t = ap trailer_then (line_feed (blank_len t) (head_len t)) ∙ later_cons (trailer_len t)
trailer_line_step false t = later_cons (head_len t)

trailer_return_step : (x : Bool) (t : List ℕ)
    → cond x (Ends 1 0) (trailer_then (or_later (cond x (option_map (λ n. 1 + n) (blank_len t)) None) (head_len t)))
    ≡ moved (cond x Done (Goes TrailerLine 0)) t
trailer_return_step true t = refl
trailer_return_step false t = later_cons (head_len t)

after_cr : (t : List ℕ) → trailer_then (first_of (blank_behind t) (option_map (λ n. 1 + n) (head_len t))) ≡ longer 1 0 (behind_return t)
after_cr [] = refl
after_cr (c ∷ t) = by_test (c == 10)
  where
    by_test : (x : Bool) → trailer_then (first_of (cond x (Some 2) None) (option_map (λ n. 1 + n) (head_len (c ∷ t))))
        ≡ longer 1 0 (cond x (Ends 1 0) (trailer_then (head_len (c ∷ t))))
    by_test true = refl
    by_test false = later_cons (head_len (c ∷ t))

trailer_step : (x y : Bool) (t : List ℕ)
    → trailer_then (first_of (cond x (Some 1) (cond y (blank_behind t) None)) (or_later (cond x (option_map (λ n. 1 + n) (blank_len t)) None) (head_len t)))
    ≡ moved (cond x Done (cond y (Goes TrailerReturn 0) (Goes TrailerLine 0))) t
trailer_step true y t = refl
trailer_step false true t = after_cr t
trailer_step false false t = later_cons (head_len t)

-- size lines

size_step_on : (p x y : Bool) (v b : ℕ) (t : List ℕ) → (p ≡ true → (b == 10) ≡ false)
    → line_then (cond p (up_to (position_from (λ c. c == 10) 0 (b ∷ t))) (cond x (Whole 1) (cond y (after_return t) (Wrong 0)))) v (b ∷ t)
    ≡ moved (cond p (Goes (Extension v) 0) (cond x (sized_move v) (cond y (Goes (SizeReturn v) 0) Bad))) t
size_step_on true x y v b t other =
    ap (λ (z : Bool). line_then (up_to (cond z (Some 0) (position_from (λ c. c == 10) 1 t))) v (b ∷ t)) (other refl)
    ∙ extension_step false v b t
size_step_on false true y v b t other = sized_goes v t
size_step_on false false true v b t other =
    ap (λ (f : Front). line_then f v (b ∷ t)) (return_is t) ∙ line_cons (lf_only t) v b t
size_step_on false false false v b t other = refl

pad_no_lf : (b : ℕ) → (b == 32 || (b == 9 || b == 59)) ≡ true → (b == 10) ≡ false
pad_no_lf b h = grind (arith, nat_tests)

size_step : (v b : ℕ) (t : List ℕ) → line_then (size_end (b ∷ t)) v (b ∷ t) ≡ moved (size_move v b) t
size_step v b t = size_step_on (b == 32 || (b == 9 || b == 59)) (b == 10) (b == 13) v b t (pad_no_lf b)

behind_zero : (f : Front) → behind 0 f ≡ f
behind_zero (Whole n) = ap (λ (k : ℕ). Whole k) (zero-add n)
behind_zero (Wrong n) = ap (λ (k : ℕ). Wrong k) (zero-add n)
behind_zero Part = refl

behind_one : (j : ℕ) (f : Front) → behind (1 + j) f ≡ behind 1 (behind j f)
behind_one j (Whole n) = ap (λ (k : ℕ). Whole k) (omega arith)
behind_one j (Wrong n) = ap (λ (k : ℕ). Wrong k) (omega arith)
behind_one j Part = refl

more_digits : (x : Bool) (count j b : ℕ) (t : List ℕ) → count < 8
    → cond x (Wrong (8 - count)) (behind (1 + j) (size_end (drop (1 + j) (b ∷ t))))
    ≡ behind 1 (cond x (Wrong (8 - (count + 1))) (behind j (size_end (drop j t))))
more_digits true count j b t few = ap (λ (n : ℕ). Wrong n) (omega arith)
more_digits false count j b t few =
    let next : 1 + j ≡ suc j = omega arith in
    ap (λ (n : ℕ). behind (1 + j) (size_end (drop n (b ∷ t)))) next ∙ behind_one j (size_end (drop j t))

digit_size : (j v b : ℕ) (t : List ℕ)
    → digits_value_after 16 v (take (1 + j) (b ∷ t)) ≡ digits_value_after 16 (v * 16 + digit_value b) (take j t)
digit_size j v b t =
    let next : 1 + j ≡ suc j = omega arith in ap (λ (n : ℕ). digits_value_after 16 v (take n (b ∷ t))) next

digits_step_on : (h few : Bool) (count v b : ℕ) (t : List ℕ) → nat_lt count 8 ≡ few → count ≤ 8
    → line_then (digits_line_of count (cond h (1 + prefix_len is_ascii_hexdigit t) 0) (b ∷ t)) (digits_value_after 16 v (take (cond h (1 + prefix_len is_ascii_hexdigit t) 0) (b ∷ t))) (b ∷ t)
    ≡ moved (cond h (cond few (Goes (Digits (count + 1) (v * 16 + digit_value b)) 0) Bad) (size_move v b)) t
digits_step_on true true count v b t is small =
    let j = prefix_len is_ascii_hexdigit t in
    let below : count < 8 = grind (arith, nat_tests) in
    let same : count + (1 + j) ≡ count + 1 + j = omega arith in
    ap (λ (n : ℕ). line_then (digits_line_of count (1 + j) (b ∷ t)) n (b ∷ t)) (digit_size j v b t)
    ∙ ap (λ (f : Front). line_then f (digits_value_after 16 (v * 16 + digit_value b) (take j t)) (b ∷ t))
    (ap (λ (n : ℕ). cond (nat_lt 8 n) (Wrong (8 - count)) (behind (1 + j) (size_end (drop (1 + j) (b ∷ t))))) same
    ∙ more_digits (nat_lt 8 (count + 1 + j)) count j b t below)
    ∙ line_cons (digits_line (count + 1) t) (digits_value_after 16 (v * 16 + digit_value b) (take j t)) b t
digits_step_on true false count v b t is small =
    let j = prefix_len is_ascii_hexdigit t in
    let over : nat_lt 8 (count + (1 + j)) ≡ true = grind (arith, nat_tests) in
    let none : 8 - count ≡ 0 = grind (arith, nat_tests) in
    ap (λ (x : Bool). line_then (cond x (Wrong (8 - count)) (behind (1 + j) (size_end (drop (1 + j) (b ∷ t))))) (digits_value_after 16 v (take (1 + j) (b ∷ t))) (b ∷ t)) over
    ∙ ap (λ (n : ℕ). BadBody n) none
digits_step_on false few count v b t is small =
    let within : nat_lt 8 (count + 0) ≡ false = grind (arith, nat_tests) in
    ap (λ (x : Bool). line_then (cond x (Wrong (8 - count)) (behind 0 (size_end (b ∷ t)))) v (b ∷ t)) within
    ∙ ap (λ (f : Front). line_then f v (b ∷ t)) (behind_zero (size_end (b ∷ t)))
    ∙ size_step v b t

fresh_on : (h : Bool) (b : ℕ) (t : List ℕ)
    → line_then (size_line_of (cond h (1 + prefix_len is_ascii_hexdigit t) 0) (b ∷ t)) (digits_value_after 16 0 (take (cond h (1 + prefix_len is_ascii_hexdigit t) 0) (b ∷ t))) (b ∷ t)
    ≡ moved (cond h (Goes (Digits 1 (digit_value b)) 0) Bad) t
fresh_on true b t =
    let j = prefix_len is_ascii_hexdigit t in
    let some : (1 + j == 0) ≡ false = grind (arith, nat_tests) in
    ap (λ (n : ℕ). line_then (size_line_of (1 + j) (b ∷ t)) n (b ∷ t)) (digit_size j 0 b t ∙ ap (λ (n : ℕ). digits_value_after 16 n (take j t)) (zero-add (digit_value b)))
    ∙ ap (λ (f : Front). line_then f (digits_value_after 16 (digit_value b) (take j t)) (b ∷ t))
    (ap (λ (x : Bool). cond x (no_digit (b ∷ t)) (cond (nat_lt 8 (1 + j)) (Wrong 8) (behind (1 + j) (size_end (drop (1 + j) (b ∷ t)))))) some
    ∙ more_digits (nat_lt 8 (1 + j)) 0 j b t (omega arith))
    ∙ line_cons (digits_line 1 t) (digits_value_after 16 (digit_value b) (take j t)) b t
fresh_on false b t = refl

pub byte_step : (place : Place) (b : ℕ) (text : List ℕ) → IsPlace place → rest place (b ∷ text) ≡ moved (move place b) text
byte_step Fresh b t is = fresh_is b t ∙ fresh_on (is_ascii_hexdigit b) b t
byte_step (Digits count v) b t is = digits_step_on (is_ascii_hexdigit b) (nat_lt count 8) count v b t refl is.0
byte_step (Extension v) b t is = extension_step (b == 10) v b t
byte_step (SizeReturn v) b t is = size_return_step (b == 10) v b t
byte_step (Bytes left) b t is = bytes_step left b t
byte_step BytesReturn b t is = bytes_return_step (b == 10) b t
byte_step Trailer b t is = trailer_step (b == 10) (b == 13) t
byte_step TrailerReturn b t is = trailer_return_step (b == 10) t
byte_step TrailerLine b t is = trailer_line_step (b == 10) t

-- a run of data is one step
pub data_skip : (n left : ℕ) (text : List ℕ) → n ≤ left → n ≤ length text → rest (Bytes left) text ≡ longer n 0 (rest (Bytes (left - n)) (drop n text))
data_skip zero left text few within =
    let same : left ≡ left - 0 = omega arith in
    sym (longer_zero (rest (Bytes left) text)) ∙ ap (λ (k : ℕ). longer 0 0 (rest (Bytes k) text)) same
data_skip (suc n) left [] few within = absurd (omega (arith, within))
data_skip (suc n) zero (b ∷ text) few within = absurd (omega (arith, few))
data_skip (suc n) (suc left) (b ∷ text) few within =
    let same : suc left - suc n ≡ left - n = omega arith in
    end_cons left b (line_end (drop left text)) text
    ∙ ap (longer 1 0) (data_skip n left text (omega (arith, few)) (omega (arith, within)))
    ∙ longer_longer 1 0 n 0 (rest (Bytes (left - n)) (drop n text))
    ∙ ap (λ (k : ℕ). longer (1 + n) 0 (rest (Bytes k) (drop n text))) (sym same)
    ∙ ap (λ (k : ℕ). longer k 0 (rest (Bytes (suc left - suc n)) (drop n text))) (omega arith)
