-- What the first piece of a text is, from what is read in front and what stands behind that.
use Rattle.std.proofs.Common.{◌≡◌, ℕ, ◌+◌, ◌<◌, ◌==◌, ◌&&◌, nat_lt, Bool, true, false, List, [], ◌∷◌, ◌++◌, length, take, drop, Option, Some, None, option_map, refl, sym, ap, ◌∙◌, subst, arith}
use Rattle.std.specs.List.{list_all, prefix_len}
use Rattle.std.proofs.lemmas.Bool.{false≢true, lt-ltb, eqb-true}
use Rattle.std.proofs.lemmas.List.{append-nil}
use Rattle.auth_text.specs.Text.{is_token_byte, folded}
use Rattle.field_lists.specs.Blanks.{is_blank, trim_start}
use Rattle.challenge_tokens.specs.declared.piece.Quoting.TheVariants.{Outside}
use Rattle.challenge_tokens.specs.declared.params.Param.{Param}
use Rattle.challenge_tokens.specs.Forms.{token_len, is_token, value_of, value_behind, named, param_of}
use Rattle.challenge_tokens.specs.Cutting.{piece_len}
use Rattle.challenge_tokens.specs.Spelling.{are_blanks}
use Rattle.challenge_tokens.specs.Front.{front, sized, if_empty, blank_piece, then_blank, starts}
use Rattle.challenge_tokens.proofs.EdgeLemmas.{is_solid, token_solid, closed_plain, all_of, trim_start-blanks}
use Rattle.challenge_tokens.proofs.SpellingLemmas.{param_at, token_value, closed_token, closed_blanks}
use Rattle.challenge_tokens.proofs.FrontLemmas.{Parts, parts_of, solid_keeps, behind_blanks, front_keeps, front_blanks, front_stops, off_first}

-- ---- what is behind

-- what was read, with the bytes before it counted
abbrev pub later : {X : Type 0} → ℕ → Option (X × ℕ) → Option (X × ℕ)
later n None = None
later n (Some x) = Some (x.0, n + x.1)

pub sized_later : {X : Type 0} (found : Option X) (text rest : List ℕ) (n : ℕ) → piece_len Outside text ≡ n + piece_len Outside rest
    → sized found text ≡ later n (sized found rest)
sized_later None text rest n len = refl
sized_later (Some x) text rest n len = ap (λ m. Some (x, m)) len

pub sized_blank : {X : Type 0} (y : List ℕ) (x : X) (text rest : List ℕ) (n : ℕ) → piece_len Outside text ≡ n + piece_len Outside rest
    → sized (if_empty y x) text ≡ then_blank x n (if_empty y (piece_len Outside rest))
sized_blank [] x text rest n len = ap (λ m. Some (x, m)) len
sized_blank (b ∷ y) x text rest n len = refl

-- ---- a first byte

starts_none : (b : ℕ) (x : List ℕ) → starts b x ≡ false → prefix_len (λ c. c == b) x ≡ 0
starts_none b [] off = refl
starts_none b (c ∷ x) off = rw off refl

pub none_starts : (b : ℕ) (x : List ℕ) → prefix_len (λ c. c == b) x ≡ 0 → starts b x ≡ false
none_starts b [] none = refl
none_starts b (c ∷ x) none = off_first (λ a. a == b) c x (c == b) refl none

pub front_starts : (b : ℕ) (text : List ℕ) → starts b text ≡ false → starts b (front text) ≡ false
front_starts b text off = none_starts b (front text) (front_stops (λ c. c == b) text (starts_none b text off))

-- ---- a token

and_false : (t : Bool) → (t && false) ≡ false
and_false true = refl
and_false false = refl

fails : (p : ℕ → Bool) (x : List ℕ) (c : ℕ) (z : List ℕ) → p c ≡ false → list_all p (x ++ c ∷ z) ≡ false
fails p [] c z off = rw off refl
fails p (b ∷ x) c z off = ap (λ u. p b && u) (fails p x c z off) ∙ and_false (p b)

token_more : (x : List ℕ) (c : ℕ) (z : List ℕ) → is_token_byte c ≡ false → is_token (x ++ c ∷ z) ≡ false
token_more x c z off =
    ap (λ u. nat_lt 0 (length (x ++ c ∷ z)) && u) (fails is_token_byte x c z off) ∙ and_false (nat_lt 0 (length (x ++ c ∷ z)))

token_then : (x y : List ℕ) → is_token x ≡ true → starts 34 x ≡ false → token_len y ≡ 0 → value_of (x ++ y) ≡ if_empty y x
token_then [] y is quote ends = absurd (false≢true is)
token_then (b ∷ x) [] is quote ends = ap value_of (append-nil (b ∷ x)) ∙ token_value (b ∷ x) is
token_then (b ∷ x) (c ∷ z) is quote ends =
    let off = off_first is_token_byte c z (is_token_byte c) refl ends in
    rw (quote, token_more (b ∷ x) c z off) refl

no_value : (y : List ℕ) → token_len y ≡ 0 → starts 34 y ≡ false → value_of y ≡ None
no_value [] ends quote = refl
no_value (c ∷ z) ends quote =
    let off = off_first is_token_byte c z (is_token_byte c) refl ends in
    rw (quote, token_more [] c z off) refl

pub no_token : (text : List ℕ) → token_len text ≡ 0 → starts 34 text ≡ false → sized (value_of (front text)) text ≡ None
no_token text none quote =
    ap (λ v. sized v text) (no_value (front text) (front_stops is_token_byte text none) (front_starts 34 text quote))

starts_append : (b : ℕ) (x y : List ℕ) → starts b (x ++ y) ≡ false → starts b x ≡ false
starts_append b [] y off = refl
starts_append b (c ∷ x) y off = off

-- a token in front, of one byte or more
pub record Token (text x rest : List ℕ) : Type 0 where
  pub is : is_token x ≡ true
  pub front_is : front text ≡ x ++ front rest
  pub len : piece_len Outside text ≡ length x + piece_len Outside rest
  pub ends : token_len (front rest) ≡ 0

is_some : (x : List ℕ) → 0 < length x → list_all is_token_byte x ≡ true → is_token x ≡ true
is_some x some all = rw (lt-ltb 0 (length x) some, all) refl

pub token_parts : (text x rest : List ℕ) → Parts is_token_byte text x rest → 0 < length x → Token text x rest
token_parts text x rest parts some =
    let is = is_some x some parts.passes in
    let closed = closed_token x is in
    record {
      is = is;
      front_is = ap front parts.split ∙ front_keeps x rest closed (solid_keeps x (all_of is_token_byte is_solid token_solid x parts.passes));
      len = ap (piece_len Outside) parts.split ∙ closed rest;
      ends = front_stops is_token_byte rest parts.ends;
    }

token_by : (text x rest : List ℕ) → Parts is_token_byte text x rest → 0 < length x → starts 34 text ≡ false
    → sized (value_of (front text)) text ≡ then_blank x (length x) (blank_piece rest)
token_by text x rest parts some quote =
    let t = token_parts text x rest parts some in
    let off = starts_append 34 x rest (ap (starts 34) (sym parts.split) ∙ quote) in
    ap (λ v. sized v text) (ap value_of t.front_is ∙ token_then x (front rest) t.is off t.ends)
    ∙ sized_blank (front rest) x text rest (length x) t.len

token_at : (text : List ℕ) (n : ℕ) → n ≡ token_len text → 0 < n → starts 34 text ≡ false
    → sized (value_of (front text)) text ≡ then_blank (take n text) n (blank_piece (drop n text))
token_at text n is some quote =
    let m = token_len text in
    let parts = parts_of is_token_byte text in
    let lot : 0 < length (take m text) = omega (arith, parts.len) in
    token_by text (take m text) (drop m text) parts lot quote
    ∙ ap (λ k. then_blank (take m text) k (blank_piece (drop m text))) parts.len
    ∙ ap (λ k. then_blank (take k text) k (blank_piece (drop k text))) (sym is)

pub token_read : (text x : List ℕ) (n : ℕ) (r : Option ℕ) → n ≡ token_len text → 0 < n → starts 34 text ≡ false
    → x ≡ take n text → r ≡ blank_piece (drop n text) → then_blank x n r ≡ sized (value_of (front text)) text
token_read text x n r is some quote copy ends =
    rw (copy, ends) (sym (token_at text n is some quote))

-- ---- blanks, and what they stand before

trim_behind : (x y : List ℕ) → are_blanks x ≡ true → prefix_len is_blank y ≡ 0 → trim_start (behind_blanks x y) ≡ y
trim_behind x [] blank ends = refl
trim_behind x (c ∷ z) blank ends = trim_start-blanks x (c ∷ z) blank ∙ ap (λ n. drop n (c ∷ z)) ends

-- the blanks in front are left out
pub record Behind (text rest : List ℕ) (n : ℕ) : Type 0 where
  pub trimmed : trim_start (front text) ≡ front rest
  pub len : piece_len Outside text ≡ n + piece_len Outside rest

behind_by : (text x rest : List ℕ) → Parts is_blank text x rest → Behind text rest (length x)
behind_by text x rest parts = record {
  trimmed =
      ap (λ t. trim_start (front t)) parts.split ∙ ap trim_start (front_blanks x rest parts.passes)
      ∙ trim_behind x (front rest) parts.passes (front_stops is_blank rest parts.ends);
  len = ap (piece_len Outside) parts.split ∙ closed_blanks x parts.passes rest;
}

pub behind : (text : List ℕ) (n : ℕ) → n ≡ prefix_len is_blank text → Behind text (drop n text) n
behind text n is =
    let m = prefix_len is_blank text in
    let parts = parts_of is_blank text in
    let b = behind_by text (take m text) (drop m text) parts in
    record {
      trimmed = b.trimmed ∙ ap (λ k. front (drop k text)) (sym is);
      len = b.len ∙ ap (λ k. k + piece_len Outside (drop m text)) (parts.len) ∙ ap (λ k. k + piece_len Outside (drop k text)) (sym is);
    }

-- ---- "=" and a value

pub no_equals : (y : List ℕ) → starts 61 y ≡ false → value_behind y ≡ None
no_equals [] off = refl
no_equals (b ∷ y) off = rw off refl

pub no_value_behind : (text : List ℕ) → starts 61 text ≡ false → sized (value_behind (front text)) text ≡ None
no_value_behind text off = ap (λ v. sized v text) (no_equals (front text) (front_starts 61 text off))

equals_first : (more : List ℕ) → (front (61 ∷ more) ≡ 61 ∷ front more) × (piece_len Outside (61 ∷ more) ≡ 1 + piece_len Outside more)
equals_first more =
    let closed = closed_plain (61 ∷ []) refl in
    (front_keeps (61 ∷ []) more closed (solid_keeps (61 ∷ []) refl), closed more)

pub equals_value : (more : List ℕ) (n : ℕ) → n ≡ prefix_len is_blank more
    → sized (value_behind (front (61 ∷ more))) (61 ∷ more) ≡ later (1 + n) (sized (value_of (front (drop n more))) (drop n more))
equals_value more n is =
    let b = behind more n is in
    let e = equals_first more in
    ap (λ v. sized v (61 ∷ more)) (ap value_behind e.0 ∙ ap value_of b.trimmed)
    ∙ sized_later (value_of (front (drop n more))) (61 ∷ more) (drop n more) (1 + n) (omega (arith, e.1, b.len))

value_found : (text : List ℕ) (n : ℕ) → starts 61 text ≡ true → n ≡ prefix_len is_blank (drop 1 text)
    → sized (value_behind (front text)) text ≡ later (1 + n) (sized (value_of (front (drop n (drop 1 text)))) (drop n (drop 1 text)))
value_found [] n on is = absurd (false≢true on)
value_found (b ∷ more) n on is =
    let first : b ≡ 61 = eqb-true b 61 on in
    subst (λ a. sized (value_behind (front (a ∷ more))) (a ∷ more) ≡ later (1 + n) (sized (value_of (front (drop n more))) (drop n more)))
    (sym first) (equals_value more n is)

pub value_read : (text : List ℕ) (n : ℕ) (r : Option (List ℕ × ℕ)) → starts 61 text ≡ true → n ≡ prefix_len is_blank (drop 1 text)
    → r ≡ sized (value_of (front (drop n (drop 1 text)))) (drop n (drop 1 text)) → later (1 + n) r ≡ sized (value_behind (front text)) text
value_read text n r on is found = rw found (sym (value_found text n on is))

-- ---- a parameter

-- what was read as a value, with its name
abbrev pub with_name : List ℕ → Option (List ℕ × ℕ) → Option (Param × ℕ)
with_name name None = None
with_name name (Some x) = Some (record { name = name; value = x.0 }, x.1)

sized_named : (x : List ℕ) (value : Option (List ℕ)) (text : List ℕ)
    → sized (option_map (named x) value) text ≡ with_name (folded x) (sized value text)
sized_named x None text = refl
sized_named x (Some v) text = refl

no_param : (text : List ℕ) (m : ℕ) → m ≡ 0 → m ≡ token_len (front text) → param_of (front text) ≡ None
no_param text m none is = rw (sym is ∙ none) refl

pub no_name : (text : List ℕ) → token_len text ≡ 0 → sized (param_of (front text)) text ≡ None
no_name text none =
    ap (λ p. sized p text) (no_param text 0 refl (sym (front_stops is_token_byte text none)))

param_by : (text x rest : List ℕ) (k : ℕ) → Parts is_token_byte text x rest → 0 < length x → k ≡ prefix_len is_blank rest
    → sized (param_of (front text)) text
    ≡ with_name (folded x) (later (length x + k) (sized (value_behind (front (drop k rest))) (drop k rest)))
param_by text x rest k parts some is =
    let t = token_parts text x rest parts some in
    let b = behind rest k is in
    let v = value_behind (front (drop k rest)) in
    ap (λ p. sized p text) (ap param_of t.front_is ∙ param_at x (front rest) t.is t.ends ∙ ap (λ y. option_map (named x) (value_behind y)) b.trimmed)
    ∙ sized_named x v text ∙ ap (with_name (folded x)) (sized_later v text (drop k rest) (length x + k) (omega (arith, t.len, b.len)))

pub param_found : (text : List ℕ) (n k : ℕ) → n ≡ token_len text → 0 < n → k ≡ prefix_len is_blank (drop n text)
    → sized (param_of (front text)) text
    ≡ with_name (folded (take n text)) (later (n + k) (sized (value_behind (front (drop k (drop n text)))) (drop k (drop n text))))
param_found text n k is some blanks =
    let m = token_len text in
    let parts = parts_of is_token_byte text in
    let lot : 0 < length (take m text) = omega (arith, parts.len) in
    let rest = drop k (drop m text) in
    param_by text (take m text) (drop m text) k parts lot (blanks ∙ ap (λ j. prefix_len is_blank (drop j text)) is)
    ∙ ap (λ j. with_name (folded (take m text)) (later (j + k) (sized (value_behind (front rest)) rest))) parts.len
    ∙ ap (λ j. with_name (folded (take j text)) (later (j + k) (sized (value_behind (front (drop k (drop j text)))) (drop k (drop j text))))) (sym is)

pub param_read : (text name : List ℕ) (n k : ℕ) (r : Option (List ℕ × ℕ)) → n ≡ token_len text → 0 < n
    → k ≡ prefix_len is_blank (drop n text) → name ≡ folded (take n text)
    → r ≡ sized (value_behind (front (drop k (drop n text)))) (drop k (drop n text))
    → with_name name (later (n + k) r) ≡ sized (param_of (front text)) text
param_read text name n k r is some blanks name_is found = rw (name_is, found) (sym (param_found text n k is some blanks))
