-- What a reply carries of its head is no longer than the head.
use Rattle.std.proofs.Common.{◌≡◌, ℕ, ◌+◌, ◌≤◌, ◌==◌, ◌||◌, Bool, true, false, cond, List, [], ◌∷◌, ◌++◌, length, map, reverse, codes, Some, None, refl, sym, ap, subst, ◌∙◌, arith, length-append}
use Rattle.std.specs.Prelude.{sum_by, flat_map}
use Rattle.std.specs.List.{filter}
use Rattle.std.specs.Str.{str_eq_ignore_ascii_case, str_to_ascii_lowercase}
use Rattle.std.proofs.lemmas.List.{append-nil, length-map, length-reverse}
use Rattle.std.proofs.lemmas.List.Sums.{sum_by-cons}
use Rattle.std.proofs.lemmas.List.Concat.{flat_map-cons}
use Rattle.std.proofs.lemmas.Slice.Eq.{bytes_eq-Decides}
use Rattle.httparse.specs.Grammar.{Field as Row, ResponseHead, is_ows, skip_ows, trim_ows, print_blank, print_version, print_reason, print_end, print_field, print_section, print_response}
use Rattle.httparse.specs.Spans.{name_and_value}
use Rattle.wire_head.specs.declared.framing.Framing.{Framing}
use Rattle.wire_head.specs.declared.response_head.Field.{Field}
use Rattle.wire_head.specs.declared.response_head.ReplyHead.{ReplyHead}
use Rattle.wire_head.specs.HeaderFields.{values_of}
use Rattle.wire_head.specs.ResponseHeads.{field_of, head_read, is_head, tree, lines, reply_head}
use Rattle.wire_head.specs.Replies.{reply_of}
use Rattle.wire_head.specs.ReadingStates.{total, IsCarried}
use Rattle.wire_head.proofs.HeadLemmas.{head_is}

-- FIELDS

-- the bytes of all values
abbrev sizes : List Field → ℕ
sizes fields = sum_by (λ (f : Field). length f.value) fields

same_length : (a b : List ℕ) → str_eq_ignore_ascii_case a b ≡ true → length a ≡ length b
same_length a b same =
    let low = (bytes_eq-Decides (str_to_ascii_lowercase a) (str_to_ascii_lowercase b)).0 same in
    sym (length-map a _) ∙ ap length low ∙ length-map b _

grown : (x : Bool) (f : Field) (fields : List Field)
    → total (map (λ (g : Field). g.value) (cond x (f ∷ fields) fields)) ≡ cond x (length f.value) 0 + total (map (λ (g : Field). g.value) fields)
grown true f fields = sum_by-cons length f.value (map (λ (g : Field). g.value) fields)
grown false f fields = omega arith

one_field : (x : Bool) (size before all n : ℕ) → n ≡ cond x size 0 + before → before ≤ all → n ≤ size + all
one_field true size before all n is few = omega (arith, is, few)
one_field false size before all n is few = omega (arith, is, few)

one_name : (name : List ℕ) (fields : List Field) → total (values_of name fields) ≤ sizes fields
one_name name [] = omega arith
one_name name (f ∷ fields) =
    let x = str_eq_ignore_ascii_case f.name name in
    let grows = grown x f (filter (λ g. str_eq_ignore_ascii_case g.name name) fields) in
    let all : sizes (f ∷ fields) ≡ length f.value + sizes fields = sum_by-cons (λ (g : Field). length g.value) f fields in
    let few = one_field x (length f.value) (total (values_of name fields)) (sizes fields) (total (values_of name (f ∷ fields))) grows (one_name name fields) in
    omega (arith, all, few)

two_fields : (x y : Bool) (size a b all m n : ℕ) → ¬ ((x ≡ true) × (y ≡ true)) → m ≡ cond x size 0 + a → n ≡ cond y size 0 + b → a + b ≤ all
    → m + n ≤ size + all
two_fields true true size a b all m n differ is_m is_n few = absurd (differ (refl, refl))
two_fields true false size a b all m n differ is_m is_n few = omega (arith, is_m, is_n, few)
two_fields false true size a b all m n differ is_m is_n few = omega (arith, is_m, is_n, few)
two_fields false false size a b all m n differ is_m is_n few = omega (arith, is_m, is_n, few)

-- two names of different lengths are no field's both
two_names : (a b : List ℕ) (fields : List Field) → ¬ (length a ≡ length b) → total (values_of a fields) + total (values_of b fields) ≤ sizes fields
two_names a b [] differ = omega arith
two_names a b (f ∷ fields) differ =
    let x = str_eq_ignore_ascii_case f.name a in
    let y = str_eq_ignore_ascii_case f.name b in
    let grows_a = grown x f (filter (λ g. str_eq_ignore_ascii_case g.name a) fields) in
    let grows_b = grown y f (filter (λ g. str_eq_ignore_ascii_case g.name b) fields) in
    let all : sizes (f ∷ fields) ≡ length f.value + sizes fields = sum_by-cons (λ (g : Field). length g.value) f fields in
    let few = two_fields x y (length f.value) (total (values_of a fields)) (total (values_of b fields)) (sizes fields)
    (total (values_of a (f ∷ fields))) (total (values_of b (f ∷ fields)))
    (λ both. differ (sym (same_length f.name a both.0) ∙ same_length f.name b both.1)) grows_a grows_b (two_names a b fields differ) in
    omega (arith, all, few)

-- LINES

skipped_short : (x : Bool) (b : ℕ) (xs : List ℕ) → length (skip_ows xs) ≤ length xs → length (cond x (skip_ows xs) (b ∷ xs)) ≤ length (b ∷ xs)
skipped_short true b xs short = omega (arith, short)
skipped_short false b xs short = omega arith

skip_short : (xs : List ℕ) → length (skip_ows xs) ≤ length xs
skip_short [] = omega arith
skip_short (b ∷ xs) = skipped_short (is_ows b) b xs (skip_short xs)

trim_short : (xs : List ℕ) → length (trim_ows xs) ≤ length xs
unfolding trim_ows
trim_short xs =
    omega (arith, skip_short xs, length-reverse (skip_ows xs), skip_short (reverse (skip_ows xs)), length-reverse (skip_ows (reverse (skip_ows xs))))

row_short : (r : Row) → length (trim_ows r.raw) ≤ length (print_field r)
row_short r =
    let raw : length (r.name ++ 58 ∷ r.raw) ≡ length r.name + length (58 ∷ r.raw) = length-append r.name (58 ∷ r.raw) in
    let all : length (print_field r) ≡ length (r.name ++ 58 ∷ r.raw) + length (print_end r.end) = length-append (r.name ++ 58 ∷ r.raw) (print_end r.end) in
    omega (arith, trim_short r.raw, raw, all)

rows_short : (rows : List Row) → sizes (map field_of (map name_and_value rows)) ≤ length (flat_map print_field rows)
rows_short [] = let none : sizes (map field_of (map name_and_value [])) ≡ 0 = refl in omega (arith, none)
rows_short (r ∷ rows) =
    let first : sizes (map field_of (map name_and_value (r ∷ rows))) ≡ length (trim_ows r.raw) + sizes (map field_of (map name_and_value rows)) =
    sum_by-cons (λ (g : Field). length g.value) (field_of (name_and_value r)) (map field_of (map name_and_value rows)) in
    let lines : length (flat_map print_field (r ∷ rows)) ≡ length (print_field r) + length (flat_map print_field rows) =
    ap length (flat_map-cons print_field r rows) ∙ length-append (print_field r) (flat_map print_field rows) in
    omega (arith, rows_short rows, row_short r, first, lines)

-- what ends a text is no longer than it
last_short : (xs ys : List ℕ) → length ys ≤ length (xs ++ ys)
last_short xs ys = omega (arith, length-append xs ys)

within_head : (h : ResponseHead) → length (flat_map print_field h.fields) ≤ length (print_response h)
unfolding print_response
within_head h =
    let section = print_section h.fields h.last in
    let front = print_blank h.blank ++ print_version h.minor ++ 32 ∷ h.digits ++ print_reason h.reason ++ print_end h.line_end in
    let behind : length section ≤ length (print_response h) = last_short front section in
    let rows : length section ≡ length (flat_map print_field h.fields) + length (print_end h.last) = length-append (flat_map print_field h.fields) (print_end h.last) in
    omega (arith, behind, rows)

-- the values of a head have no more bytes than it
values_small : (front : List ℕ) (h : ReplyHead) (x : Bool) → is_head front (tree (lines front)) ≡ x
    → cond x (Some (head_read (tree (lines front)))) None ≡ Some h → sizes h.fields ≤ length front
values_small front h false is found = cc found
values_small front h true is found =
    let t = tree (lines front) in
    let same : head_read t ≡ h = cc found in
    let bytes : length front ≡ length (print_response t) = ap length ((head_is front t is).0.1 ∙ append-nil (print_response t)) in
    subst (λ (g : ReplyHead). sizes g.fields ≤ length front) same (omega (arith, bytes, rows_short t.fields, within_head t))

-- A REPLY

differ : ¬ (length (codes "Authentication-Info") ≡ length (codes "Proxy-Authentication-Info"))
differ same = absurd (omega (arith, same))

carried_by : (x y : Bool) (h : ReplyHead) (n : ℕ) → sizes h.fields ≤ n
    → total (cond x (values_of (codes "WWW-Authenticate") h.fields) (cond y (values_of (codes "Proxy-Authenticate") h.fields) []))
    + total (cond (x || y) [] (values_of (codes "Authentication-Info") h.fields))
    + total (cond (x || y) [] (values_of (codes "Proxy-Authentication-Info") h.fields)) ≤ n
carried_by true y h n few = omega (arith, one_name (codes "WWW-Authenticate") h.fields, few)
carried_by false true h n few = omega (arith, one_name (codes "Proxy-Authenticate") h.fields, few)
carried_by false false h n few = omega (arith, two_names (codes "Authentication-Info") (codes "Proxy-Authentication-Info") h.fields differ, few)

pub carried_small : (front : List ℕ) (h : ReplyHead) (f : Framing) (n : ℕ) → reply_head front ≡ Some h → length front ≤ 65536
    → IsCarried (reply_of f h n)
carried_small front h f n is few =
    let small = values_small front h (is_head front (tree (lines front))) refl is in
    carried_by (h.code == 401) (h.code == 407) h 65536 (omega (arith, small, few))
