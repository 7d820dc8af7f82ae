-- What a piece is, from its first token and what stands behind that.
use Rattle.std.proofs.Common.{◌≡◌, ℕ, zero, suc, ◌+◌, ◌<◌, ◌==◌, Bool, true, false, cond, List, [], ◌∷◌, ◌++◌, length, take, drop, Option, Some, None, option_map, refl, sym, ap, ◌∙◌, subst, arith}
use Rattle.std.specs.List.{list_all, prefix_len}
use Rattle.std.proofs.lemmas.Bool.{false≢true, eqb-true}
use Rattle.std.proofs.lemmas.List.{drop-drop}
use Rattle.auth_text.specs.Text.{is_token_byte, folded}
use Rattle.field_lists.specs.Blanks.{is_blank}
use Rattle.challenge_tokens.specs.declared.piece.Quoting.TheVariants.{Outside}
use Rattle.challenge_tokens.specs.declared.params.Param.{Param}
use Rattle.challenge_tokens.specs.declared.piece.Form.{Form}
use Rattle.challenge_tokens.specs.declared.piece.Form.TheVariants.{Bare, Parameter, Bad}
use Rattle.challenge_tokens.specs.Forms.{token_len, is_token68_byte, value_behind, or_param, argument_form, head_form, form_of}
use Rattle.challenge_tokens.specs.Cutting.{piece_len}
use Rattle.challenge_tokens.specs.Front.{front, sized, if_empty, blank_piece, starts, is_over, unless_bad, after_token}
use Rattle.challenge_tokens.proofs.NameLemmas.{both}
use Rattle.challenge_tokens.proofs.EdgeLemmas.{all_of}
use Rattle.challenge_tokens.proofs.SpellingLemmas.{drop_prefix, closed_blanks, form_at}
use Rattle.challenge_tokens.proofs.FrontLemmas.{Parts, parts_of, behind_blanks, front_blanks, front_stops, off_first, blank_piece_is}
use Rattle.challenge_tokens.proofs.ReadLemmas.{later, sized_later, behind, no_equals, front_starts, token_parts}
use Rattle.challenge_tokens.proofs.ArgumentLemmas.{prefix_over, run_stops, byte_off, blank_off, no_argument}

abbrev is_space : ℕ → Bool
is_space b = b == 32

space_blank : (b : ℕ) → is_space b ≡ true → is_blank b ≡ true
space_blank b on = ap is_blank (eqb-true b 32 on)

-- ---- a head, from the spaces behind its scheme

-- so many spaces before what is kept
abbrev head_at : List ℕ → ℕ → List ℕ → Form
head_at scheme n [] = Bare scheme
head_at scheme zero (c ∷ y) = Bad
head_at scheme (suc n) (c ∷ y) = argument_form scheme (c ∷ y)

head_spaces : (scheme x y : List ℕ) → list_all is_space x ≡ true → prefix_len is_space y ≡ 0
    → head_form scheme (behind_blanks x y) ≡ head_at scheme (length x) y
head_spaces scheme x [] all ends = refl
head_spaces scheme [] (c ∷ y) all ends = rw (off_first is_space c y (c == 32) refl ends) refl
head_spaces scheme (b ∷ x) (c ∷ y) all ends =
    let parts = both (b == 32) (list_all is_space x) all in
    let off = off_first is_space c y (c == 32) refl ends in
    let gone : drop (prefix_len is_space (x ++ c ∷ y)) (x ++ c ∷ y) ≡ c ∷ y = drop_prefix is_space x (c ∷ y) parts.1 ∙ rw off refl in
    rw parts.0 (ap (argument_form scheme) gone)

-- a text as the spaces in front and the text behind them
record Spaced (text : List ℕ) (s : ℕ) (more : List ℕ) : Type 0 where
  front_is : (scheme : List ℕ) → head_form scheme (front text) ≡ head_at scheme s (front more)
  empty : front more ≡ [] → front text ≡ []
  len : piece_len Outside text ≡ s + piece_len Outside more

spaced_by : (text x more : List ℕ) → Parts is_space text x more → Spaced text (length x) more
spaced_by text x more parts =
    let blank = all_of is_space is_blank space_blank x parts.passes in
    let here : front text ≡ behind_blanks x (front more) = ap front parts.split ∙ front_blanks x more blank in
    record {
      front_is = λ scheme. ap (head_form scheme) here ∙ head_spaces scheme x (front more) parts.passes (front_stops is_space more parts.ends);
      empty = λ none. here ∙ ap (behind_blanks x) none;
      len = ap (piece_len Outside) parts.split ∙ closed_blanks x blank more;
    }

spaced : (text : List ℕ) (s : ℕ) → s ≡ prefix_len is_space text → Spaced text s (drop s text)
spaced text s is =
    let m = prefix_len is_space text in
    let parts = parts_of is_space text in
    let there = subst (λ k. Spaced text k (drop m text)) (parts.len ∙ sym is) (spaced_by text (take m text) (drop m text) parts) in
    subst (λ k. Spaced text s (drop k text)) (sym is) there

by_none : (scheme y z : List ℕ) (n : ℕ) → (y ≡ [] → z ≡ []) → None ≡ if_empty z n → head_at scheme 0 y ≡ Bad
by_none scheme [] z n empty some =
    let none : None ≡ if_empty {X = ℕ} [] n = some ∙ ap (λ t. if_empty t n) (empty refl) in
    absurd (cc)
by_none scheme (c ∷ y) z n empty some = refl

by_some : (scheme y z : List ℕ) (n s : ℕ) → (y ≡ [] → z ≡ []) → None ≡ if_empty z n → 0 < s → head_at scheme s y ≡ argument_form scheme y
by_some scheme [] z n s empty some lot =
    let none : None ≡ if_empty {X = ℕ} [] n = some ∙ ap (λ t. if_empty t n) (empty refl) in
    absurd (cc)
by_some scheme (c ∷ y) z n zero empty some lot = absurd (omega (arith, lot))
by_some scheme (c ∷ y) z n (suc s) empty some lot = refl

no_space : (scheme text : List ℕ) → None ≡ blank_piece text → 0 ≡ prefix_len is_space text → head_form scheme (front text) ≡ Bad
no_space scheme text some is =
    let p = spaced text 0 is in
    p.front_is scheme ∙ by_none scheme (front (drop 0 text)) (front text) (piece_len Outside text) p.empty some

some_space : (scheme text : List ℕ) (s : ℕ) → None ≡ blank_piece text → s ≡ prefix_len is_space text → 0 < s
    → head_form scheme (front text) ≡ argument_form scheme (front (drop s text))
some_space scheme text s some is lot =
    let p = spaced text s is in
    p.front_is scheme ∙ by_some scheme (front (drop s text)) (front text) (piece_len Outside text) s p.empty some lot

-- behind the spaces no argument begins
head_stops : (scheme text : List ℕ) (s : ℕ) → None ≡ blank_piece text → s ≡ prefix_len is_space text
    → prefix_len is_token68_byte (drop s text) ≡ 0 → token_len (drop s text) ≡ 0 → head_form scheme (front text) ≡ Bad
head_stops scheme text zero some is token name = no_space scheme text some is
head_stops scheme text (suc s) some is token name =
    some_space scheme text (suc s) some is (omega arith) ∙ no_argument scheme (drop (suc s) text) token name

-- ---- the blanks behind a token: spaces first

pub record Gap (text : List ℕ) (s h : ℕ) : Type 0 where
  pub spaces : s ≡ prefix_len is_space text
  pub blanks : h ≡ prefix_len is_blank (drop s text)

gap_all : (text : List ℕ) (s h : ℕ) → Gap text s h → s + h ≡ prefix_len is_blank text
gap_all text s h gap = rw (gap.blanks, gap.spaces) (sym (prefix_over is_space is_blank space_blank text))

gap_over : (text : List ℕ) (s h : ℕ) (u : Bool) → is_over (drop h (drop s text)) ≡ u → is_over (drop (s + h) text) ≡ u
gap_over text s h u over = ap is_over (sym (drop-drop h s text)) ∙ over

gap_some : (text : List ℕ) (s h : ℕ) → Gap text s h → is_over (drop h (drop s text)) ≡ false → None ≡ blank_piece text
gap_some text s h gap over = blank_piece_is text (s + h) false (gap_all text s h gap) (gap_over text s h false over)

-- ---- only blanks behind

bare_by : (y token text : List ℕ) (n : ℕ) → Some n ≡ if_empty y (piece_len Outside text)
    → Some (Bare token, n) ≡ sized (unless_bad (after_token token y)) text
bare_by [] token text n is =
    let same : n ≡ piece_len Outside text = cc in
    ap (λ k. Some (Bare token, k)) same
bare_by (b ∷ y) token text n is = absurd (cc)

abbrev pub IsFound : Option (Form × ℕ) → List ℕ → List ℕ → Type 0
IsFound r token text = r ≡ sized (unless_bad (after_token token (front text))) text

pub bare_read : (token text : List ℕ) (s h : ℕ) → Gap text s h → is_over (drop h (drop s text)) ≡ true → IsFound (Some (Bare token, s + h)) token text
bare_read token text s h gap over =
    bare_by (front text) token text (s + h) (blank_piece_is text (s + h) true (gap_all text s h gap) (gap_over text s h true over))

-- ---- "=" behind

abbrev pub as_param : List ℕ → Option (List ℕ × ℕ) → Option (Form × ℕ)
as_param name None = None
as_param name (Some x) = Some (Parameter (record { name = name; value = x.0 }), x.1)

abbrev as_value : List ℕ → List ℕ → Param
as_value name value = record { name = name; value = value }

value_by : (v : Option (List ℕ)) (token text rest : List ℕ) (n : ℕ) (f : Form) → f ≡ Bad → piece_len Outside text ≡ n + piece_len Outside rest
    → as_param token (later n (sized v rest)) ≡ sized (unless_bad (or_param (option_map (as_value token) v) f)) text
value_by None token text rest n f bad len = rw bad refl
value_by (Some w) token text rest n f bad len = ap (λ k. Some (Parameter (as_value token w), k)) (sym len)

blank_out : (p : ℕ → Bool) → p 32 ≡ false → p 9 ≡ false → (b : ℕ) (u : Bool) → p b ≡ u → is_blank b ≡ true → p b ≡ false
blank_out p space tab b false e on = e
blank_out p space tab b true e on = absurd (false≢true (sym (blank_off p space tab b e) ∙ on))

gap_by : (p : ℕ → Bool) → p 32 ≡ false → p 9 ≡ false → p 61 ≡ false → (b : ℕ) (x : List ℕ) (h : ℕ) (u : Bool) → is_blank b ≡ u
    → h ≡ cond u (1 + prefix_len is_blank x) 0 → starts 61 (drop h (b ∷ x)) ≡ true → prefix_len p (b ∷ x) ≡ 0
gap_by p space tab equals b x h true e is on = rw (blank_out p space tab b (p b) refl e) refl
gap_by p space tab equals b x h false e is on =
    let first : (b == 61) ≡ true = rw is at on in
    rw (byte_off p 61 equals b first) refl

stops_gap : (p : ℕ → Bool) → p 32 ≡ false → p 9 ≡ false → p 61 ≡ false → (text : List ℕ) (h : ℕ) → h ≡ prefix_len is_blank text
    → starts 61 (drop h text) ≡ true → prefix_len p text ≡ 0
stops_gap p space tab equals [] h is on = refl
stops_gap p space tab equals (b ∷ x) h is on = gap_by p space tab equals b x h (is_blank b) refl is on

pub value_found : (token text : List ℕ) (s h : ℕ) (r : Option (List ℕ × ℕ)) → Gap text s h → is_over (drop h (drop s text)) ≡ false
    → starts 61 (drop h (drop s text)) ≡ true → r ≡ sized (value_behind (front (drop h (drop s text)))) (drop h (drop s text))
    → IsFound (as_param token (later (s + h) r)) token text
value_found token text s h r gap over on read =
    let b = behind text (s + h) (gap_all text s h gap) in
    let rest = drop (s + h) text in
    let bad = head_stops token text s (gap_some text s h gap over) gap.spaces
    (stops_gap is_token68_byte refl refl refl (drop s text) h gap.blanks on) (stops_gap is_token_byte refl refl refl (drop s text) h gap.blanks on) in
    ap (λ x. as_param token (later (s + h) x)) (read ∙ ap (λ t. sized (value_behind (front t)) t) (drop-drop h s text))
    ∙ value_by (value_behind (front rest)) token text rest (s + h) (head_form token (front text)) bad b.len
    ∙ ap (λ y. sized (unless_bad (or_param (option_map (as_value token) (value_behind y)) (head_form token (front text)))) text) (sym b.trimmed)

-- ---- something else behind

head_alone : (token text : List ℕ) (s h : ℕ) → Gap text s h → starts 61 (drop h (drop s text)) ≡ false
    → after_token token (front text) ≡ head_form token (front text)
head_alone token text s h gap off =
    let b = behind text (s + h) (gap_all text s h gap) in
    let rest = drop (s + h) text in
    ap (λ v. or_param (option_map (as_value token) v) (head_form token (front text)))
    (ap value_behind b.trimmed ∙ no_equals (front rest) (front_starts 61 rest (ap (starts 61) (sym (drop-drop h s text)) ∙ off)))

bad_by : (token text : List ℕ) → after_token token (front text) ≡ Bad → IsFound None token text
bad_by token text bad = sym (ap (λ (f : Form). sized (unless_bad f) text) bad)

-- no space
pub no_space_read : (token text : List ℕ) (s h : ℕ) → Gap text s h → is_over (drop h (drop s text)) ≡ false
    → starts 61 (drop h (drop s text)) ≡ false → s ≡ 0 → IsFound None token text
no_space_read token text s h gap over off none =
    bad_by token text (head_alone token text s h gap off ∙ no_space token text (gap_some text s h gap over) (sym none ∙ gap.spaces))

-- a blank behind the spaces
pub blank_read : (token text : List ℕ) (s h : ℕ) → Gap text s h → is_over (drop h (drop s text)) ≡ false
    → starts 61 (drop h (drop s text)) ≡ false → 0 < h → IsFound None token text
blank_read token text s h gap over off some =
    let lot : 0 < prefix_len is_blank (drop s text) = omega (arith, gap.blanks, some) in
    bad_by token text (head_alone token text s h gap off
    ∙ head_stops token text s (gap_some text s h gap over) gap.spaces
    (run_stops is_blank is_token68_byte (λ b on. blank_out is_token68_byte refl refl b (is_token68_byte b) refl on) (drop s text) lot)
    (run_stops is_blank is_token_byte (λ b on. blank_out is_token_byte refl refl b (is_token_byte b) refl on) (drop s text) lot))

-- an argument
pub argument_read : (token text : List ℕ) (s h : ℕ) (r : Option (Form × ℕ)) → Gap text s h → is_over (drop h (drop s text)) ≡ false
    → starts 61 (drop h (drop s text)) ≡ false → 0 < s
    → r ≡ sized (unless_bad (argument_form token (front (drop s text)))) (drop s text) → IsFound (later s r) token text
argument_read token text s h r gap over off some read =
    let p = spaced text s gap.spaces in
    let found = unless_bad (argument_form token (front (drop s text))) in
    ap (later s) read ∙ sym (sized_later found text (drop s text) s p.len)
    ∙ ap (λ (f : Form). sized (unless_bad f) text)
    (sym (head_alone token text s h gap off ∙ some_space token text s (gap_some text s h gap over) gap.spaces some))

-- ---- from the first token on

form_by : (text x rest : List ℕ) → Parts is_token_byte text x rest → 0 < length x
    → sized (unless_bad (form_of (front text))) text ≡ later (length x) (sized (unless_bad (after_token (folded x) (front rest))) rest)
form_by text x rest parts some =
    let t = token_parts text x rest parts some in
    ap (λ (f : Form). sized (unless_bad f) text) (ap form_of t.front_is ∙ form_at x (front rest) t.is t.ends)
    ∙ sized_later (unless_bad (after_token (folded x) (front rest))) text rest (length x) t.len

form_found : (text : List ℕ) (n : ℕ) → n ≡ token_len text → 0 < n
    → sized (unless_bad (form_of (front text))) text
    ≡ later n (sized (unless_bad (after_token (folded (take n text)) (front (drop n text)))) (drop n text))
form_found text n is some =
    let m = token_len text in
    let parts = parts_of is_token_byte text in
    let lot : 0 < length (take m text) = omega (arith, parts.len) in
    form_by text (take m text) (drop m text) parts lot
    ∙ ap (λ k. later k (sized (unless_bad (after_token (folded (take m text)) (front (drop m text)))) (drop m text))) parts.len
    ∙ ap (λ k. later k (sized (unless_bad (after_token (folded (take k text)) (front (drop k text)))) (drop k text))) (sym is)

pub form_read : (text token : List ℕ) (n : ℕ) (r : Option (Form × ℕ)) → n ≡ token_len text → 0 < n → token ≡ folded (take n text)
    → r ≡ sized (unless_bad (after_token token (front (drop n text)))) (drop n text)
    → later n r ≡ sized (unless_bad (form_of (front text))) text
form_read text token n r is some copy read = rw (read, copy) (sym (form_found text n is some))

pub no_form : (text : List ℕ) → token_len text ≡ 0 → None ≡ sized (unless_bad (form_of (front text))) text
no_form text none =
    let bad : form_of (front text) ≡ Bad = rw (front_stops is_token_byte text none) refl in
    sym (ap (λ (f : Form). sized (unless_bad f) text) bad)
