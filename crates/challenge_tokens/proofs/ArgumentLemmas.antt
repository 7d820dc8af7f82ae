-- What stands behind a scheme: a token68 or a parameter, from the bytes in front.
use Rattle.std.proofs.Common.{◌≡◌, ℕ, zero, suc, ◌+◌, ◌<◌, ◌==◌, ◌&&◌, Bool, true, false, cond, List, [], ◌∷◌, ◌++◌, length, take, drop, Option, Some, None, refl, sym, ap, ◌∙◌, subst, arith, append_assoc, length-append, one-add}
use Rattle.std.specs.List.{list_all, prefix_len}
use Rattle.std.specs.Option.{option_or}
use Rattle.std.proofs.lemmas.Bool.{false≢true, lt-ltb, eqb-true, ne_eqb}
use Rattle.std.proofs.lemmas.List.{append-nil, drop-drop}
use Rattle.std.proofs.lemmas.List.Folds.{list_all-append}
use Rattle.std.proofs.Math.Seq.{take-append_seam, drop-append_seam}
use Rattle.auth_text.specs.Text.{is_token_byte, folded}
use Rattle.field_lists.specs.Blanks.{is_blank}
use Rattle.challenge_tokens.specs.declared.piece.Quoting.TheVariants.{Outside}
use Rattle.challenge_tokens.specs.declared.params.Param.{Param}
use Rattle.challenge_tokens.specs.declared.piece.Form.{Form}
use Rattle.challenge_tokens.specs.declared.piece.Form.TheVariants.{WithToken, WithParam, Bad}
use Rattle.challenge_tokens.specs.Forms.{token_len, is_token68_byte, is_token68, value_behind, param_of, head_param, argument_form}
use Rattle.challenge_tokens.specs.Cutting.{piece_len}
use Rattle.challenge_tokens.specs.Front.{front, sized, if_empty, blank_piece, then_blank, starts, is_over, is_common, unless_bad, value_after}
use Rattle.challenge_tokens.proofs.NameLemmas.{both}
use Rattle.challenge_tokens.proofs.EdgeLemmas.{is_plain, is_solid, closed_plain, all_of, is_other}
use Rattle.challenge_tokens.proofs.SpellingLemmas.{prefix_all}
use Rattle.challenge_tokens.proofs.FrontLemmas.{Parts, parts_of, prefix_ends, solid_keeps, front_keeps, front_stops, off_first, blank_piece_is}
use Rattle.challenge_tokens.proofs.ReadLemmas.{later, with_name, none_starts, no_token, no_name, no_value_behind, equals_value, param_found}

-- ---- the bytes in front, of two classes

over_by : (p q : ℕ → Bool) (b : ℕ) (x : List ℕ) (u : Bool) → p b ≡ u → ((c : ℕ) → p c ≡ true → q c ≡ true)
    → prefix_len q x ≡ prefix_len p x + prefix_len q (drop (prefix_len p x) x)
    → prefix_len q (b ∷ x) ≡ cond u (1 + prefix_len p x) 0 + prefix_len q (drop (cond u (1 + prefix_len p x) 0) (b ∷ x))
over_by p q b x true e each more =
    let further : suc (prefix_len q x) ≡ suc (prefix_len p x) + prefix_len q (drop (prefix_len p x) x) = omega (arith, more) in
    rw (each b e, one-add (prefix_len q x), one-add (prefix_len p x)) further
over_by p q b x false e each more = omega arith

-- the larger class goes on where the smaller one ends
pub prefix_over : (p q : ℕ → Bool) → ((c : ℕ) → p c ≡ true → q c ≡ true) → (x : List ℕ)
    → prefix_len q x ≡ prefix_len p x + prefix_len q (drop (prefix_len p x) x)
prefix_over p q each [] = refl
prefix_over p q each (b ∷ x) = over_by p q b x (p b) refl each (prefix_over p q each x)

first_on : (p : ℕ → Bool) (b : ℕ) (x : List ℕ) (u : Bool) → p b ≡ u → 0 < cond u (1 + prefix_len p x) 0 → p b ≡ true
first_on p b x true e some = e
first_on p b x false e some = absurd (omega (arith, some))

-- a byte of one class is none of the other
pub run_stops : (p q : ℕ → Bool) → ((b : ℕ) → p b ≡ true → q b ≡ false) → (x : List ℕ) → 0 < prefix_len p x → prefix_len q x ≡ 0
run_stops p q each [] some = refl
run_stops p q each (b ∷ x) some = rw (each b (first_on p b x (p b) refl some)) refl

pub byte_off : (q : ℕ → Bool) (k : ℕ) → q k ≡ false → (b : ℕ) → (b == k) ≡ true → q b ≡ false
byte_off q k off b on = ap q (eqb-true b k on) ∙ off

pub blank_off : (p : ℕ → Bool) → p 32 ≡ false → p 9 ≡ false → (b : ℕ) → p b ≡ true → is_blank b ≡ false
blank_off p space tab b on = rw (is_other p b 32 space on, is_other p b 9 tab on) refl

run_not_over : (p : ℕ → Bool) → p 44 ≡ false → (x : List ℕ) → 0 < prefix_len p x → is_over x ≡ false
run_not_over p comma [] some = absurd (omega (arith, some))
run_not_over p comma (b ∷ x) some = is_other p b 44 comma (first_on p b x (p b) refl some)

other_of : (t u : Bool) → (t && u) ≡ false → t ≡ true → u ≡ false
other_of true u none on = none
other_of false u none on = absurd (false≢true on)

one_of : (t u : Bool) → (t && u) ≡ false → u ≡ true → t ≡ false
one_of true u none on = absurd (false≢true (sym none ∙ on))
one_of false u none on = refl

-- where no byte follows that both classes hold, a byte of the one is none of the other
second_stops : (p q : ℕ → Bool) (x : List ℕ) → prefix_len (λ b. p b && q b) x ≡ 0 → 0 < prefix_len p x → prefix_len q x ≡ 0
second_stops p q [] none some = refl
second_stops p q (b ∷ x) none some =
    let off = off_first (λ c. p c && q c) b x (p b && q b) refl none in
    rw (other_of (p b) (q b) off (first_on p b x (p b) refl some)) refl

first_stops : (p q : ℕ → Bool) (x : List ℕ) → prefix_len (λ b. p b && q b) x ≡ 0 → 0 < prefix_len q x → prefix_len p x ≡ 0
first_stops p q [] none some = refl
first_stops p q (b ∷ x) none some =
    let off = off_first (λ c. p c && q c) b x (p b && q b) refl none in
    rw (one_of (p b) (q b) off (first_on q b x (q b) refl some)) refl

-- ---- runs that hold no blank, no quote and no comma

record Inner (p : ℕ → Bool) : Type 0 where
  quote : p 34 ≡ false
  comma : p 44 ≡ false
  space : p 32 ≡ false
  tab : p 9 ≡ false

inner_plain : (p : ℕ → Bool) → Inner p → (b : ℕ) → p b ≡ true → is_plain b ≡ true
inner_plain p i b on = rw (is_other p b 34 i.quote on, is_other p b 44 i.comma on) refl

inner_solid : (p : ℕ → Bool) → Inner p → (b : ℕ) → p b ≡ true → is_solid b ≡ true
inner_solid p i b on = rw (is_other p b 32 i.space on, is_other p b 9 i.tab on) refl

record Run (p : ℕ → Bool) (text x rest : List ℕ) : Type 0 where
  front_is : front text ≡ x ++ front rest
  len : piece_len Outside text ≡ length x + piece_len Outside rest
  ends : prefix_len p (front rest) ≡ 0

run : (p : ℕ → Bool) → Inner p → (text x rest : List ℕ) → Parts p text x rest → Run p text x rest
run p i text x rest parts =
    let closed = closed_plain x (all_of p is_plain (inner_plain p i) x parts.passes) in
    record {
      front_is = ap front parts.split ∙ front_keeps x rest closed (solid_keeps x (all_of p is_solid (inner_solid p i) x parts.passes));
      len = ap (piece_len Outside) parts.split ∙ closed rest;
      ends = front_stops p rest parts.ends;
    }

token68_inner : Inner is_token68_byte
token68_inner = record { quote = refl; comma = refl; space = refl; tab = refl }

abbrev is_equals : ℕ → Bool
is_equals b = b == 61

equals_inner : Inner is_equals
equals_inner = record { quote = refl; comma = refl; space = refl; tab = refl }

-- ---- a token68, or what else there is

or_none : {X : Type 0} (r : Option X) → option_or r None ≡ r
or_none None = refl
or_none (Some x) = refl

by_end : (y a scheme text : List ℕ) (n m : ℕ) (other : Form) → prefix_len is_equals y ≡ 0 → piece_len Outside text ≡ n + m
    → sized (unless_bad (cond (list_all is_equals y) (WithToken scheme (a ++ y)) other)) text
    ≡ option_or (then_blank (WithToken scheme a) n (if_empty y m)) (sized (unless_bad other) text)
by_end [] a scheme text n m other ends len = rw (append-nil a) (ap (λ k. Some (WithToken scheme a, k)) len)
by_end (c ∷ y) a scheme text n m other ends len = rw (off_first is_equals c y (c == 61) refl ends) refl

token68_whole : (text x rest w z scheme : List ℕ) (other : Form) → Parts is_token68_byte text x rest → Parts is_equals rest w z → 0 < length x
    → sized (unless_bad (cond (is_token68 (front text)) (WithToken scheme (front text)) other)) text
    ≡ option_or (then_blank (WithToken scheme (x ++ w)) (length x + length w) (blank_piece z)) (sized (unless_bad other) text)
token68_whole text x rest w z scheme other parts padding some =
    let a = run is_token68_byte token68_inner text x rest parts in
    let b = run is_equals equals_inner rest w z padding in
    let y = front z in
    let pads : list_all is_equals (front rest) ≡ list_all is_equals y =
    ap (list_all is_equals) b.front_is ∙ list_all-append is_equals w y ∙ rw padding.passes refl in
    let is : is_token68 (x ++ front rest) ≡ list_all is_equals (front rest) =
    rw (prefix_all is_token68_byte x (front rest) parts.passes a.ends, lt-ltb 0 (length x) some, drop-append_seam x (front rest)) refl in
    let tested : is_token68 (front text) ≡ list_all is_equals y = ap is_token68 a.front_is ∙ is ∙ pads in
    let whole : front text ≡ (x ++ w) ++ y = a.front_is ∙ ap (λ t. x ++ t) b.front_is ∙ sym (append_assoc x w y) in
    let len : piece_len Outside text ≡ length x + length w + piece_len Outside z = omega (arith, a.len, b.len) in
    ap (λ t. sized (unless_bad (cond t (WithToken scheme (front text)) other)) text) tested
    ∙ ap (λ t. sized (unless_bad (cond (list_all is_equals y) (WithToken scheme t) other)) text) whole
    ∙ by_end y (x ++ w) scheme text (length x + length w) (piece_len Outside z) other b.ends len

seam : (text x rest w z : List ℕ) (n : ℕ) → text ≡ x ++ rest → rest ≡ w ++ z → length x + length w ≡ n → (take n text ≡ x ++ w) × (drop n text ≡ z)
seam text x rest w z n first second is =
    let whole : text ≡ (x ++ w) ++ z = first ∙ ap (λ t. x ++ t) second ∙ sym (append_assoc x w z) in
    let len : n ≡ length (x ++ w) = omega (arith, is, length-append x w) in (
      ap (λ k. take k text) len ∙ ap (take (length (x ++ w))) whole ∙ take-append_seam (x ++ w) z,
      ap (λ k. drop k text) len ∙ ap (drop (length (x ++ w))) whole ∙ drop-append_seam (x ++ w) z,
    )

token68_by : (text x rest w z scheme : List ℕ) (m p : ℕ) (other : Form) → Parts is_token68_byte text x rest → Parts is_equals rest w z → 0 < m
    → length x ≡ m → length w ≡ p
    → sized (unless_bad (cond (is_token68 (front text)) (WithToken scheme (front text)) other)) text
    ≡ option_or (then_blank (WithToken scheme (take (m + p) text)) (m + p) (blank_piece (drop (m + p) text))) (sized (unless_bad other) text)
token68_by text x rest w z scheme m p other parts padding some first second =
    let len : length x + length w ≡ m + p = omega (arith, first, second) in
    let both = seam text x rest w z (m + p) parts.split padding.split len in
    token68_whole text x rest w z scheme other parts padding (omega (arith, first))
    ∙ ap (λ k. option_or (then_blank (WithToken scheme (x ++ w)) k (blank_piece z)) (sized (unless_bad other) text)) len
    ∙ ap (λ t. option_or (then_blank (WithToken scheme t) (m + p) (blank_piece z)) (sized (unless_bad other) text)) (sym both.0)
    ∙ ap (λ t. option_or (then_blank (WithToken scheme (take (m + p) text)) (m + p) (blank_piece t)) (sized (unless_bad other) text)) (sym both.1)

token68_at : (text scheme : List ℕ) (m p : ℕ) (other : Form) → m ≡ prefix_len is_token68_byte text → p ≡ prefix_len is_equals (drop m text) → 0 < m
    → sized (unless_bad (cond (is_token68 (front text)) (WithToken scheme (front text)) other)) text
    ≡ option_or (then_blank (WithToken scheme (take (m + p) text)) (m + p) (blank_piece (drop (m + p) text))) (sized (unless_bad other) text)
token68_at text scheme m p other first second some =
    let len = prefix_len is_token68_byte text in
    let rest = drop len text in
    let w = prefix_len is_equals rest in
    let a = parts_of is_token68_byte text in
    let b = parts_of is_equals rest in
    token68_by text (take len text) rest (take w rest) (drop w rest) scheme m p other a b some (a.len ∙ sym first)
    (b.len ∙ sym (second ∙ ap (λ k. prefix_len is_equals (drop k text)) first))

-- no parameter begins there, and no token68
pub no_argument : (scheme text : List ℕ) → prefix_len is_token68_byte text ≡ 0 → token_len text ≡ 0 → argument_form scheme (front text) ≡ Bad
no_argument scheme text token name = rw (front_stops is_token68_byte text token, front_stops is_token_byte text name) refl

-- ---- a scheme with a parameter

abbrev pub with_scheme : List ℕ → Option (Param × ℕ) → Option (Form × ℕ)
with_scheme scheme None = None
with_scheme scheme (Some x) = Some (WithParam scheme x.0, x.1)

pub head_sized : (scheme text : List ℕ) (p : Option Param) → sized (unless_bad (head_param scheme p)) text ≡ with_scheme scheme (sized p text)
head_sized scheme text None = refl
head_sized scheme text (Some p) = refl

no_param_by : (text : List ℕ) (n : ℕ) → n ≡ token_len text → prefix_len is_blank (drop n text) ≡ 0 → starts 61 (drop n text) ≡ false
    → sized (param_of (front text)) text ≡ None
no_param_by text zero is blank equals = no_name text (sym is)
no_param_by text (suc n) is blank equals =
    param_found text (suc n) 0 is (omega arith) (sym blank)
    ∙ ap (λ r. with_name (folded (take (suc n) text)) (later (suc n + 0) r)) (no_value_behind (drop (suc n) text) equals)

-- ---- the value behind "=", from how many "=" there are

later_zero : {X : Type 0} (r : Option (X × ℕ)) → later 0 r ≡ r
later_zero None = refl
later_zero (Some x) = ap (λ n. Some (x.0, n)) (omega arith)

later_twice : {X : Type 0} (m n : ℕ) (r : Option (X × ℕ)) → later m (later n r) ≡ later (m + n) r
later_twice m n None = refl
later_twice m n (Some x) = ap (λ k. Some (x.0, k)) (omega arith)

-- so many blanks, and what is read behind them
abbrev behind_blank : List ℕ → Option (List ℕ × ℕ)
behind_blank text =
    later (prefix_len is_blank text) (sized (value_behind (front (drop (prefix_len is_blank text) text))) (drop (prefix_len is_blank text) text))

many_equals : (n : ℕ) (text : List ℕ) → 1 < n → value_after n text ≡ None
many_equals n text many = rw (ne_eqb n 0 (λ e. omega (arith, e, many)), ne_eqb n 1 (λ e. omega (arith, e, many))) refl

equals_more : (x : List ℕ) (q k : ℕ) → q ≡ prefix_len is_equals x → k ≡ prefix_len is_blank (drop q x)
    → later (suc q + k) (value_after (suc q) (drop k (drop q x))) ≡ sized (value_behind (front (61 ∷ x))) (61 ∷ x)
equals_more x zero k is blanks = sym (equals_value x k blanks)
equals_more x (suc q) k is blanks =
    let some : 0 < prefix_len is_equals x = omega (arith, is) in
    let blank = run_stops is_equals is_blank (byte_off is_blank 61 refl) x some in
    let name = run_stops is_equals is_token_byte (byte_off is_token_byte 61 refl) x some in
    let quote = none_starts 34 x (run_stops is_equals (λ b. b == 34) (byte_off (λ b. b == 34) 61 refl) x some) in
    ap (later (suc (suc q) + k)) (many_equals (suc (suc q)) (drop k (drop (suc q) x)) (omega arith))
    ∙ sym (equals_value x 0 (sym blank) ∙ ap (later 1) (no_token x name quote))

equals_first : (at : List ℕ) (q k : ℕ) → suc q ≡ prefix_len is_equals at → k ≡ prefix_len is_blank (drop (suc q) at)
    → later (suc q + k) (value_after (suc q) (drop k (drop (suc q) at))) ≡ behind_blank at
equals_first [] q k is blanks = absurd (omega (arith, is))
equals_first (b ∷ x) q k is blanks =
    let on = first_on is_equals b x (b == 61) refl (omega (arith, is)) in
    let more : q ≡ prefix_len is_equals x = omega (arith, rw on at is) in
    subst (λ a. later (suc q + k) (value_after (suc q) (drop k (drop q x))) ≡ behind_blank (a ∷ x)) (sym (eqb-true b 61 on))
    (equals_more x q k more blanks ∙ sym (later_zero (sized (value_behind (front (61 ∷ x))) (61 ∷ x))))

equals_by : (at : List ℕ) (p k : ℕ) → p ≡ prefix_len is_equals at → k ≡ prefix_len is_blank (drop p at)
    → later (p + k) (value_after p (drop k (drop p at))) ≡ behind_blank at
equals_by at zero k is blanks =
    let none : 0 + k ≡ k = omega arith in
    rw (none, blanks) refl
equals_by at (suc q) k is blanks = equals_first at q k is blanks

pub either_param : (text scheme name : List ℕ) (n p k : ℕ) (r : Option (List ℕ × ℕ)) → n ≡ token_len text → 0 < n
    → p ≡ prefix_len is_equals (drop n text) → k ≡ prefix_len is_blank (drop p (drop n text)) → name ≡ folded (take n text)
    → r ≡ value_after p (drop k (drop p (drop n text)))
    → with_scheme scheme (with_name name (later (n + p + k) r)) ≡ sized (unless_bad (head_param scheme (param_of (front text)))) text
either_param text scheme name n p k r is some equals blanks name_is read =
    let at = drop n text in
    let j = prefix_len is_blank at in
    let sum : n + p + k ≡ n + (p + k) = omega arith in
    let value : later (n + p + k) r ≡ later (n + j) (sized (value_behind (front (drop j at))) (drop j at)) =
    ap (λ m. later m r) sum ∙ sym (later_twice n (p + k) r) ∙ ap (λ x. later n (later (p + k) x)) read
    ∙ ap (later n) (equals_by at p k equals blanks) ∙ later_twice n j (sized (value_behind (front (drop j at))) (drop j at)) in
    ap (λ x. with_scheme scheme (with_name name x)) value
    ∙ ap (λ x. with_scheme scheme (with_name x (later (n + j) (sized (value_behind (front (drop j at))) (drop j at))))) name_is
    ∙ ap (with_scheme scheme) (sym (param_found text n j is some refl))
    ∙ sym (head_sized scheme text (param_of (front text)))

-- ---- the argument

abbrev pub IsRead : Option (Form × ℕ) → List ℕ → List ℕ → Type 0
IsRead r scheme text = r ≡ sized (unless_bad (argument_form scheme (front text))) text

-- the bytes of a token68 with its padding, and only blanks behind
pub token_ends : (text scheme token : List ℕ) (n p k : ℕ) → n ≡ prefix_len is_token68_byte text → p ≡ prefix_len is_equals (drop n text) → 0 < n
    → token ≡ take (n + p) text → Some k ≡ blank_piece (drop p (drop n text)) → IsRead (Some (WithToken scheme token, n + p + k)) scheme text
token_ends text scheme token n p k is padding some copy blank =
    let other = head_param scheme (param_of (front text)) in
    let ends : blank_piece (drop (n + p) text) ≡ Some k = ap blank_piece (sym (drop-drop p n text)) ∙ sym blank in
    ap (λ t. Some (WithToken scheme t, n + p + k)) copy
    ∙ sym (token68_at text scheme n p other is padding some
    ∙ ap (λ b. option_or (then_blank (WithToken scheme (take (n + p) text)) (n + p) b) (sized (unless_bad other) text)) ends)

-- more than blanks behind
pub token_fails : (text scheme : List ℕ) (n p : ℕ) → n ≡ prefix_len is_token68_byte text → p ≡ prefix_len is_equals (drop n text) → 0 < n
    → None ≡ blank_piece (drop p (drop n text)) → IsRead (sized (unless_bad (head_param scheme (param_of (front text)))) text) scheme text
token_fails text scheme n p is padding some blank =
    let other = head_param scheme (param_of (front text)) in
    let ends : blank_piece (drop (n + p) text) ≡ None = ap blank_piece (sym (drop-drop p n text)) ∙ sym blank in
    sym (token68_at text scheme n p other is padding some
    ∙ ap (λ b. option_or (then_blank (WithToken scheme (take (n + p) text)) (n + p) b) (sized (unless_bad other) text)) ends)

-- what is known of the bytes that a token and a token68 may hold alike
pub common_token68 : (text : List ℕ) (c m : ℕ) → c ≡ prefix_len is_common text → m ≡ prefix_len is_token68_byte (drop c text)
    → c + m ≡ prefix_len is_token68_byte text
common_token68 text c m is more =
    rw (more, is) (sym (prefix_over is_common is_token68_byte (λ b on. (both (is_token68_byte b) (is_token_byte b) on).0) text))

pub common_token : (text : List ℕ) (c m : ℕ) → c ≡ prefix_len is_common text → m ≡ token_len (drop c text) → c + m ≡ token_len text
common_token text c m is more =
    rw (more, is) (sym (prefix_over is_common is_token_byte (λ b on. (both (is_token68_byte b) (is_token_byte b) on).1) text))

common_ends : (text : List ℕ) (c : ℕ) → c ≡ prefix_len is_common text → prefix_len is_common (drop c text) ≡ 0
common_ends text c is = rw is (prefix_ends is_common text)

-- a byte behind them that only a token68 may hold
pub only_token68 : (text scheme : List ℕ) (c m p : ℕ) → c ≡ prefix_len is_common text → m ≡ prefix_len is_token68_byte (drop c text) → 0 < m
    → p ≡ prefix_len is_equals (drop m (drop c text))
    → IsRead (then_blank (WithToken scheme (take (c + m + p) text)) (c + m + p) (blank_piece (drop (c + m + p) text))) scheme text
only_token68 text scheme c m p is more some padding =
    let rest = drop c text in
    let lot : 0 < prefix_len is_token68_byte rest = omega (arith, more) in
    let name : token_len rest ≡ 0 = second_stops is_token68_byte is_token_byte rest (common_ends text c is) lot in
    let all : c ≡ token_len text = omega (arith, common_token text c 0 is (sym name)) in
    let blank = run_stops is_token68_byte is_blank (blank_off is_token68_byte refl refl) rest lot in
    let equals = none_starts 61 rest (run_stops is_token68_byte is_equals (λ b on. is_other is_token68_byte b 61 refl on) rest lot) in
    let none : sized (unless_bad (head_param scheme (param_of (front text)))) text ≡ None =
    head_sized scheme text (param_of (front text)) ∙ ap (with_scheme scheme) (no_param_by text c all blank equals) in
    let found = then_blank (WithToken scheme (take (c + m + p) text)) (c + m + p) (blank_piece (drop (c + m + p) text)) in
    sym (token68_at text scheme (c + m) p (head_param scheme (param_of (front text))) (common_token68 text c m is more)
    (padding ∙ ap (prefix_len is_equals) (drop-drop m c text)) (omega (arith, some))
    ∙ ap (option_or found) none ∙ or_none found)

fails_by : (text scheme : List ℕ) (c : ℕ) → c ≡ prefix_len is_token68_byte text → 0 < token_len (drop c text)
    → IsRead (sized (unless_bad (head_param scheme (param_of (front text)))) text) scheme text
fails_by text scheme zero is some = rw (front_stops is_token68_byte text (sym is)) refl
fails_by text scheme (suc c) is some =
    let rest = drop (suc c) text in
    let blank = run_stops is_token_byte is_blank (blank_off is_token_byte refl refl) rest some in
    let equals = run_stops is_token_byte is_equals (λ b on. is_other is_token_byte b 61 refl on) rest some in
    token_fails text scheme (suc c) 0 is (sym equals) (omega arith)
    (blank_piece_is rest 0 false (sym blank) (run_not_over is_token_byte refl rest some))

-- a byte behind them that only a token may hold
pub only_name : (text scheme : List ℕ) (c m : ℕ) → c ≡ prefix_len is_common text → m ≡ token_len (drop c text) → 0 < m
    → IsRead (sized (unless_bad (head_param scheme (param_of (front text)))) text) scheme text
only_name text scheme c m is more some =
    let rest = drop c text in
    let lot : 0 < token_len rest = omega (arith, more) in
    let none : prefix_len is_token68_byte rest ≡ 0 = first_stops is_token68_byte is_token_byte rest (common_ends text c is) lot in
    fails_by text scheme c (omega (arith, common_token68 text c 0 is (sym none))) lot
