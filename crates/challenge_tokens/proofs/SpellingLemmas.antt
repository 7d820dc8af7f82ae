-- Each spelled piece is one piece, and has the form that it means.
use Rattle.std.proofs.Common.{◌≡◌, ℕ, zero, suc, ◌+◌, ◌==◌, ◌&&◌, ◌||◌, not, nat_lt, Bool, true, false, List, [], ◌∷◌, ◌++◌, length, drop, map, replicate, Some, option_map, refl, sym, ap, ◌∙◌, subst, arith, append_assoc, length-append, one-add}
use Rattle.std.specs.List.{list_all, prefix_len, flat_map}
use Rattle.std.proofs.lemmas.Bool.{false≢true, eq-eqb}
use Rattle.std.proofs.lemmas.List.{append-nil}
use Rattle.std.proofs.lemmas.List.Folds.{list_all-append}
use Rattle.std.proofs.Math.Seq.{take-append_seam, drop-append_seam}
use Rattle.auth_text.specs.Text.{is_token_byte, folded}
use Rattle.auth_text.specs.Quoted.{closing, if_closed}
use Rattle.field_lists.specs.Blanks.{is_blank, trim_start}
use Rattle.challenge_tokens.specs.declared.piece.Quoting.TheVariants.{Outside}
use Rattle.challenge_tokens.specs.declared.piece.Form.TheVariants.{Bare, WithToken, WithParam, Parameter}
use Rattle.challenge_tokens.specs.Forms.{token_len, is_token, is_token68_byte, is_token68, value_of, value_behind, named, param_of, or_param, argument_form, head_form, form_of}
use Rattle.challenge_tokens.specs.Spelling.{SpelledByte, SpelledValue, as_token, as_quoted, SpelledParam, byte_text, value_text, param_text, spaces_then, value_meant, param_meant, is_right_byte, is_right_value, is_right_param, are_blanks}
use Rattle.challenge_tokens.proofs.NameLemmas.{both, not_true}
use Rattle.challenge_tokens.proofs.EdgeLemmas.{IsClosed, IsTrimmed, passes-append, is_plain, closed_plain, closed_quoted, is_other, all_of, is_solid, token_plain, token_solid, blank_plain, trim_start-blanks, trim_start-solid, trimmed_solid, trimmed-append, trimmed_quoted, cons_some}

-- ---- prefixes

pub prefix_all : (p : ℕ → Bool) (x rest : List ℕ) → list_all p x ≡ true → prefix_len p rest ≡ 0 → prefix_len p (x ++ rest) ≡ length x
prefix_all p [] rest all stops = stops
prefix_all p (b ∷ x) rest all stops =
    let parts = both (p b) (list_all p x) all in
    let later = prefix_all p x rest parts.1 stops in
    rw (parts.0, later) (one-add (length x))

pub drop_prefix : (p : ℕ → Bool) (front x : List ℕ) → list_all p front ≡ true
    → drop (prefix_len p (front ++ x)) (front ++ x) ≡ drop (prefix_len p x) x
drop_prefix p [] x all = refl
drop_prefix p (b ∷ front) x all =
    let parts = both (p b) (list_all p front) all in
    rw (parts.0, one-add) (drop_prefix p front x parts.1)

spaces_all : (p : ℕ → Bool) (n : ℕ) → p 32 ≡ true → list_all p (replicate n 32) ≡ true
spaces_all p zero on = refl
spaces_all p (suc n) on = rw on (spaces_all p n on)

-- ---- a token at the front

record IsName (s : List ℕ) : Type 0 where
  some : nat_lt 0 (length s) ≡ true
  all : list_all is_token_byte s ≡ true

as_name : (s : List ℕ) → is_token s ≡ true → IsName s
as_name s is =
    let parts = both (nat_lt 0 (length s)) (list_all is_token_byte s) is in
    record { some = parts.0; all = parts.1 }

pub param_at : (s rest : List ℕ) → is_token s ≡ true → token_len rest ≡ 0
    → param_of (s ++ rest) ≡ option_map (named s) (value_behind (trim_start rest))
param_at s rest is stops =
    let name = as_name s is in
    rw (prefix_all is_token_byte s rest name.all stops, name.some, take-append_seam s rest, drop-append_seam s rest) refl

pub form_at : (s rest : List ℕ) → is_token s ≡ true → token_len rest ≡ 0
    → form_of (s ++ rest) ≡ or_param (option_map (named s) (value_behind (trim_start rest))) (head_form (folded s) rest)
form_at s rest is stops =
    let name = as_name s is in
    rw (param_at s rest is stops, prefix_all is_token_byte s rest name.all stops, name.some, take-append_seam s rest, drop-append_seam s rest) refl

pub bare_form : (s : List ℕ) → is_token s ≡ true → form_of s ≡ Bare (folded s)
bare_form s is = ap form_of (sym (append-nil s)) ∙ form_at s [] is refl

-- ---- behind a scheme and its spaces

behind_spaces : (n : ℕ) (x : List ℕ) → trim_start (spaces_then n x) ≡ trim_start x
behind_spaces n x = trim_start-blanks (32 ∷ replicate n 32) x (spaces_all is_blank n refl)

skip_spaces : (n b : ℕ) (x : List ℕ) → (b == 32) ≡ false
    → drop (prefix_len (λ c. c == 32) (replicate n 32 ++ b ∷ x)) (replicate n 32 ++ b ∷ x) ≡ b ∷ x
skip_spaces n b x off = drop_prefix (λ c. c == 32) (replicate n 32) (b ∷ x) (spaces_all (λ c. c == 32) n refl) ∙ rw off refl

-- no parameter, and the argument, where its first byte is none that blanks or "=" are
argument_at : (s : List ℕ) (n b : ℕ) (x : List ℕ) → is_token s ≡ true → is_blank b ≡ false → (b == 32) ≡ false → (b == 61) ≡ false
    → form_of (s ++ spaces_then n (b ∷ x)) ≡ argument_form (folded s) (b ∷ x)
argument_at s n b x is solid space equals =
    form_at s (spaces_then n (b ∷ x)) is refl
    ∙ rw (behind_spaces n (b ∷ x), trim_start-solid b x solid, equals, skip_spaces n b x space) refl

-- ---- token68

abbrev pads : List ℕ → Bool
pads x = list_all (λ b. b == 61) (drop (prefix_len is_token68_byte x) x)

token68_first : (b : ℕ) (x : List ℕ) (u : Bool) → is_token68_byte b ≡ u → is_token68 (b ∷ x) ≡ true → u ≡ true
token68_first b x true e is = refl
token68_first b x false e is = absurd (false≢true (rw e at is))

-- a byte of a token68, its padding included
abbrev is_token68_or_equals : ℕ → Bool
is_token68_or_equals b = is_token68_byte b || b == 61

either : (a b : Bool) → b ≡ true → (a || b) ≡ true
either true b on = refl
either false b on = on

equals_all : (x : List ℕ) → list_all (λ b. b == 61) x ≡ true → list_all is_token68_or_equals x ≡ true
equals_all [] all = refl
equals_all (b ∷ x) all =
    let parts = both (b == 61) (list_all (λ c. c == 61) x) all in
    rw (either (is_token68_byte b) (b == 61) parts.0) (equals_all x parts.1)

pads_byte : (b : ℕ) (x : List ℕ) (u : Bool) → is_token68_byte b ≡ u → pads (b ∷ x) ≡ true
    → (pads x ≡ true → list_all is_token68_or_equals x ≡ true) → list_all is_token68_or_equals (b ∷ x) ≡ true
pads_byte b x true e fit more = rw e (more (rw (e, one-add) at fit))
pads_byte b x false e fit more = equals_all (b ∷ x) (rw e at fit)

pads_all : (x : List ℕ) → pads x ≡ true → list_all is_token68_or_equals x ≡ true
pads_all [] fit = refl
pads_all (b ∷ x) fit = pads_byte b x (is_token68_byte b) refl fit (pads_all x)

token68_all : (x : List ℕ) → is_token68 x ≡ true → list_all is_token68_or_equals x ≡ true
token68_all x is = pads_all x (both (nat_lt 0 (prefix_len is_token68_byte x)) (pads x) is).1

token68_solid : (b : ℕ) → is_token68_or_equals b ≡ true → is_solid b ≡ true
token68_solid b on = rw (is_other is_token68_or_equals b 32 refl on, is_other is_token68_or_equals b 9 refl on) refl

token68_plain : (b : ℕ) → is_token68_or_equals b ≡ true → is_plain b ≡ true
token68_plain b on = rw (is_other is_token68_or_equals b 34 refl on, is_other is_token68_or_equals b 44 refl on) refl

pub token_form : (s : List ℕ) (n : ℕ) (t : List ℕ) → is_token s ≡ true → is_token68 t ≡ true
    → form_of (s ++ spaces_then n t) ≡ WithToken (folded s) t
token_form s n [] is right = absurd (false≢true right)
token_form s n (b ∷ t) is right =
    let first = token68_first b t (is_token68_byte b) refl right in
    let solid = not_true (is_blank b) (token68_solid b (rw first refl)) in
    argument_at s n b t is solid (is_other is_token68_byte b 32 refl first) (is_other is_token68_byte b 61 refl first)
    ∙ rw right refl

-- ---- values and parameters

closing_byte : (b : ℕ) (e : Bool) (bytes : List SpelledByte) (q s : Bool) → (b == 34) ≡ q → (b == 92) ≡ s → (e || not (q || s)) ≡ true
    → closing false (flat_map byte_text bytes ++ 34 ∷ []) ≡ Some (map (λ (x : SpelledByte). x.byte) bytes, length (flat_map byte_text bytes) + 1)
    → closing false (flat_map byte_text (record { byte = b; escaped = e } ∷ bytes) ++ 34 ∷ [])
    ≡ Some (b ∷ map (λ (x : SpelledByte). x.byte) bytes, length (flat_map byte_text (record { byte = b; escaped = e } ∷ bytes)) + 1)
closing_byte b true bytes q s qe se right more = rw more (ap (λ n. Some (b ∷ map (λ (x : SpelledByte). x.byte) bytes, n)) (omega arith))
closing_byte b false bytes false false qe se right more =
    rw (se, qe, more) (ap (λ n. Some (b ∷ map (λ (x : SpelledByte). x.byte) bytes, n)) (omega arith))
closing_byte b false bytes true s qe se right more = absurd (false≢true right)
closing_byte b false bytes false true qe se right more = absurd (false≢true right)

closing_spelled : (bytes : List SpelledByte) → list_all is_right_byte bytes ≡ true
    → closing false (flat_map byte_text bytes ++ 34 ∷ []) ≡ Some (map (λ (s : SpelledByte). s.byte) bytes, length (flat_map byte_text bytes) + 1)
closing_spelled [] right = refl
closing_spelled (s ∷ bytes) right =
    let all = both (is_right_byte s) (list_all is_right_byte bytes) right in
    closing_byte s.byte s.escaped bytes (s.byte == 34) (s.byte == 92) refl refl all.0 (closing_spelled bytes all.1)

quoted_value : (bytes : List SpelledByte) → list_all is_right_byte bytes ≡ true
    → value_of (value_text (as_quoted bytes)) ≡ Some (map (λ (s : SpelledByte). s.byte) bytes)
quoted_value bytes right =
    let inside = flat_map byte_text bytes in
    let read = ap if_closed (closing_spelled bytes right) in
    let all : 1 + (length inside + 1) ≡ length (34 ∷ inside ++ 34 ∷ []) = omega (arith, length-append inside (34 ∷ [])) in
    rw (read, eq-eqb (1 + (length inside + 1)) (length (34 ∷ inside ++ 34 ∷ [])) all) refl

pub token_value : (t : List ℕ) → is_token t ≡ true → value_of t ≡ Some t
token_value [] is = absurd (false≢true is)
token_value (b ∷ t) is =
    let name = as_name (b ∷ t) is in
    let first = both (is_token_byte b) (list_all is_token_byte t) name.all in
    rw (is_other is_token_byte b 34 refl first.0, is) refl

spelled_value : (v : SpelledValue) → is_right_value v ≡ true → value_of (value_text v) ≡ Some (value_meant v)
spelled_value (as_token t) right = token_value t right
spelled_value (as_quoted bytes) right = quoted_value bytes right

trimmed_token : (s : List ℕ) → is_token s ≡ true → IsTrimmed s
trimmed_token s is =
    let name = as_name s is in
    trimmed_solid s name.some (all_of is_token_byte is_solid token_solid s name.all)

pub closed_token : (s : List ℕ) → is_token s ≡ true → IsClosed s
closed_token s is = closed_plain s (all_of is_token_byte is_plain token_plain s (as_name s is).all)

pub closed_blanks : (s : List ℕ) → are_blanks s ≡ true → IsClosed s
closed_blanks s blank = closed_plain s (all_of is_blank is_plain blank_plain s blank)

trimmed_value : (v : SpelledValue) → is_right_value v ≡ true → IsTrimmed (value_text v)
trimmed_value (as_token t) right = trimmed_token t right
trimmed_value (as_quoted bytes) right = trimmed_quoted (flat_map byte_text bytes)

closed_value : (v : SpelledValue) → is_right_value v ≡ true → IsClosed (value_text v)
closed_value (as_token t) right = closed_token t right
closed_value (as_quoted bytes) right = closed_quoted bytes right

front_kept : (x : List ℕ) → IsTrimmed x → trim_start x ≡ x
front_kept x is = rw append-nil at (is.starts [])

-- what a right parameter keeps
pub record Keeps (s : SpelledParam) : Type 0 where
  pub name : is_token s.name ≡ true
  pub before : are_blanks s.before ≡ true
  pub after : are_blanks s.after ≡ true
  pub value : is_right_value s.value ≡ true

pub keeps : (s : SpelledParam) → is_right_param s ≡ true → Keeps s
keeps s right =
    let third = both (is_token s.name && are_blanks s.before && are_blanks s.after) (is_right_value s.value) right in
    let second = both (is_token s.name && are_blanks s.before) (are_blanks s.after) third.0 in
    let first = both (is_token s.name) (are_blanks s.before) second.0 in
    record { name = first.0; before = first.1; after = second.1; value = third.1 }

blank_no_token : (b : ℕ) (u : Bool) → is_token_byte b ≡ u → is_blank b ≡ true → is_token_byte b ≡ false
blank_no_token b false e on = e
blank_no_token b true e on = absurd (false≢true (sym (not_true (is_blank b) (token_solid b e)) ∙ on))

name_stops : (before x : List ℕ) → are_blanks before ≡ true → token_len (before ++ 61 ∷ x) ≡ 0
name_stops [] x blank = refl
name_stops (b ∷ before) x blank = rw (blank_no_token b (is_token_byte b) refl (both (is_blank b) (are_blanks before) blank).0) refl

abbrev behind_name : SpelledParam → List ℕ
behind_name s = s.before ++ 61 ∷ (s.after ++ value_text s.value)

-- up to its "=", and behind it
equals_split : (s : SpelledParam) → param_text s ≡ (s.name ++ s.before) ++ 61 ∷ (s.after ++ value_text s.value)
equals_split s = append_assoc (s.name ++ s.before) (61 ∷ s.after) (value_text s.value)

param_split : (s : SpelledParam) → param_text s ≡ s.name ++ behind_name s
param_split s = equals_split s ∙ append_assoc s.name s.before (61 ∷ (s.after ++ value_text s.value))

value_found : (s : SpelledParam) → Keeps s → value_behind (trim_start (behind_name s)) ≡ Some (value_meant s.value)
value_found s k =
    let value = value_text s.value in
    ap value_behind (trim_start-blanks s.before (61 ∷ (s.after ++ value)) k.before)
    ∙ ap value_of (trim_start-blanks s.after value k.after ∙ front_kept value (trimmed_value s.value k.value))
    ∙ spelled_value s.value k.value

param_read : (s : SpelledParam) → Keeps s → param_of (param_text s) ≡ Some (param_meant s)
param_read s k =
    ap param_of (param_split s) ∙ param_at s.name (behind_name s) k.name (name_stops s.before (s.after ++ value_text s.value) k.before)
    ∙ ap (option_map (named s.name)) (value_found s k)

pub param_form : (s : SpelledParam) → Keeps s → form_of (param_text s) ≡ Parameter (param_meant s)
param_form s k =
    ap form_of (param_split s) ∙ form_at s.name (behind_name s) k.name (name_stops s.before (s.after ++ value_text s.value) k.before)
    ∙ ap (λ v. or_param (option_map (named s.name) v) (head_form (folded s.name) (behind_name s))) (value_found s k)

-- ---- a parameter is no token68

padding_byte : (b : ℕ) (a c : List ℕ) (u : Bool) → is_token68_byte b ≡ u → pads (b ∷ (a ++ 61 ∷ c)) ≡ true
    → (pads (a ++ 61 ∷ c) ≡ true → list_all (λ x. x == 61) c ≡ true) → list_all (λ x. x == 61) c ≡ true
padding_byte b a c true e fit more = more (rw (e, one-add) at fit)
padding_byte b a c false e fit more =
    let all = both (b == 61) (list_all (λ x. x == 61) (a ++ 61 ∷ c)) (rw e at fit) in
    let parts = both (list_all (λ x. x == 61) a) (list_all (λ x. x == 61) (61 ∷ c)) (sym (list_all-append (λ x. x == 61) a (61 ∷ c)) ∙ all.1) in
    parts.1

only_padding : (a c : List ℕ) → pads (a ++ 61 ∷ c) ≡ true → list_all (λ b. b == 61) c ≡ true
only_padding [] c fit = fit
only_padding (b ∷ a) c fit = padding_byte b a c (is_token68_byte b) refl fit (only_padding a c)

no_equals_first : (b : ℕ) (t : List ℕ) → is_token_byte b ≡ true → list_all (λ x. x == 61) (b ∷ t) ≡ false
no_equals_first b t on = rw (is_other is_token_byte b 61 refl on) refl

value_no_padding : (v : SpelledValue) → is_right_value v ≡ true → list_all (λ x. x == 61) (value_text v) ≡ false
value_no_padding (as_token []) right = absurd (false≢true right)
value_no_padding (as_token (b ∷ t)) right =
    no_equals_first b t (both (is_token_byte b) (list_all is_token_byte t) (as_name (b ∷ t) right).all).0
value_no_padding (as_quoted bytes) right = refl

no_token68 : (s : SpelledParam) (u : Bool) → Keeps s → is_token68 (param_text s) ≡ u → is_token68 (param_text s) ≡ false
no_token68 s false k e = e
no_token68 s true k e =
    let padded = (both (nat_lt 0 (prefix_len is_token68_byte (param_text s))) (pads (param_text s)) e).1 in
    let padded = ap pads (sym (equals_split s)) ∙ padded in
    let all = only_padding (s.name ++ s.before) (s.after ++ value_text s.value) padded in
    let parts = both (list_all (λ x. x == 61) s.after) (list_all (λ x. x == 61) (value_text s.value))
    (sym (list_all-append (λ x. x == 61) s.after (value_text s.value)) ∙ all) in
    absurd (false≢true (sym (value_no_padding s.value k.value) ∙ parts.1))

first_byte : (scheme name : List ℕ) (n : ℕ) (rest : List ℕ) → is_token scheme ≡ true → is_token name ≡ true
    → form_of (scheme ++ spaces_then n (name ++ rest)) ≡ argument_form (folded scheme) (name ++ rest)
first_byte scheme [] n rest is right = absurd (false≢true right)
first_byte scheme (b ∷ name) n rest is right =
    let on = (both (is_token_byte b) (list_all is_token_byte name) (as_name (b ∷ name) right).all).0 in
    argument_at scheme n b (name ++ rest) is (not_true (is_blank b) (token_solid b on))
    (is_other is_token_byte b 32 refl on) (is_other is_token_byte b 61 refl on)

pub head_param_form : (scheme : List ℕ) (n : ℕ) (s : SpelledParam) → is_token scheme ≡ true → Keeps s
    → form_of (scheme ++ spaces_then n (param_text s)) ≡ WithParam (folded scheme) (param_meant s)
head_param_form scheme n s is k =
    ap (λ t. form_of (scheme ++ spaces_then n t)) (param_split s) ∙ first_byte scheme s.name n (behind_name s) is k.name
    ∙ ap (argument_form (folded scheme)) (sym (param_split s))
    ∙ rw (no_token68 s (is_token68 (param_text s)) k refl, param_read s k) refl

-- ---- the edges of pieces

pub closed_param : (s : SpelledParam) → Keeps s → IsClosed (param_text s)
closed_param s k =
    let value = value_text s.value in
    let late = passes-append Outside Outside Outside s.after value (closed_blanks s.after k.after) (closed_value s.value k.value) in
    let equals = passes-append Outside Outside Outside (61 ∷ []) (s.after ++ value) (closed_plain (61 ∷ []) refl) late in
    let early = passes-append Outside Outside Outside s.name s.before (closed_token s.name k.name) (closed_blanks s.before k.before) in
    subst IsClosed (sym (equals_split s)) (passes-append Outside Outside Outside (s.name ++ s.before) (61 ∷ (s.after ++ value)) early equals)

pub trimmed_param : (s : SpelledParam) → Keeps s → IsTrimmed (param_text s)
trimmed_param s k =
    let value = value_text s.value in
    let whole = trimmed-append s.name (s.before ++ 61 ∷ s.after) value (trimmed_token s.name k.name) (trimmed_value s.value k.value) in
    subst IsTrimmed (ap (λ t. s.name ++ t) (append_assoc s.before (61 ∷ s.after) value) ∙ sym (param_split s)) whole

pub closed_spaces : (n : ℕ) (x : List ℕ) → IsClosed x → IsClosed (spaces_then n x)
closed_spaces n x closed = passes-append Outside Outside Outside (32 ∷ replicate n 32) x (closed_plain (32 ∷ replicate n 32) (spaces_all is_plain n refl)) closed

pub closed_scheme : (s : List ℕ) → is_token s ≡ true → IsClosed s
closed_scheme s is = closed_token s is

pub trimmed_scheme : (s : List ℕ) → is_token s ≡ true → IsTrimmed s
trimmed_scheme s is = trimmed_token s is

token68_some : (t : List ℕ) → is_token68 t ≡ true → nat_lt 0 (length t) ≡ true
token68_some [] is = absurd (false≢true is)
token68_some (b ∷ t) is = cons_some b t

pub closed_token68 : (t : List ℕ) → is_token68 t ≡ true → IsClosed t
closed_token68 t is = closed_plain t (all_of is_token68_or_equals is_plain token68_plain t (token68_all t is))

pub trimmed_token68 : (t : List ℕ) → is_token68 t ≡ true → IsTrimmed t
trimmed_token68 t is = trimmed_solid t (token68_some t is) (all_of is_token68_or_equals is_solid token68_solid t (token68_all t is))

pub blank_spaces : (n : ℕ) → are_blanks (32 ∷ replicate n 32) ≡ true
blank_spaces n = spaces_all is_blank n refl
