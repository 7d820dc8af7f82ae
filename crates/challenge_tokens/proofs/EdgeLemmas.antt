-- Bytes that cut nothing, and what trimming leaves.
use Rattle.std.proofs.Common.{◌≡◌, ℕ, ◌+◌, ◌==◌, nat_lt, ◌&&◌, ◌||◌, not, Bool, true, false, cond, List, [], ◌∷◌, ◌++◌, length, refl, sym, ap, ◌∙◌, arith, append_assoc, length-append, one-add}
use Rattle.std.specs.List.{list_all, flat_map}
use Rattle.std.proofs.lemmas.Bool.{false≢true, eqb-true, lt-ltb}
use Rattle.std.proofs.lemmas.List.{append-nil}
use Rattle.auth_text.specs.Text.{is_token_byte}
use Rattle.field_lists.specs.Blanks.{is_blank, trim_start, keep_unless_blank, trim_end}
use Rattle.challenge_tokens.specs.declared.piece.Quoting.{Quoting}
use Rattle.challenge_tokens.specs.declared.piece.Quoting.TheVariants.{Outside, Inside}
use Rattle.challenge_tokens.specs.Forms.{after_byte}
use Rattle.challenge_tokens.specs.Cutting.{piece_len}
use Rattle.challenge_tokens.specs.Spelling.{SpelledByte, byte_text, are_blanks, is_right_byte}
use Rattle.challenge_tokens.proofs.NameLemmas.{both, not_true}
use Rattle.field_lists.proofs.TrimLemmas.{trim_end-push_blank, trim_end-push_kept}

-- ---- bytes that cut nothing

-- the bytes lead from one state to the other and hold no comma that cuts
abbrev pub Passes : Quoting → List ℕ → Quoting → Type 0
Passes q x p = (rest : List ℕ) → piece_len q (x ++ rest) ≡ length x + piece_len p rest

abbrev pub IsClosed : List ℕ → Type 0
IsClosed x = Passes Outside x Outside

pub passes-append : (q p o : Quoting) (x y : List ℕ) → Passes q x p → Passes p y o → Passes q (x ++ y) o
passes-append q p o x y first second rest =
    let whole = ap (piece_len q) (append_assoc x y rest) ∙ first (y ++ rest) in
    let part = second rest in
    whole ∙ omega (arith, part, length-append x y)

-- a byte that stands outside, and is neither a quote nor a comma
abbrev pub is_plain : ℕ → Bool
is_plain b = not (b == 34) && not (b == 44)

plain_first : (b : ℕ) (x : List ℕ) → (b == 34) ≡ false → (b == 44) ≡ false → IsClosed x → IsClosed (b ∷ x)
plain_first b x quote comma closed rest =
    let later = closed rest in
    rw (quote, comma) (omega (arith, later))

pub closed_plain : (x : List ℕ) → list_all is_plain x ≡ true → IsClosed x
closed_plain [] plain = λ rest. omega arith
closed_plain (b ∷ x) plain =
    let all = both (is_plain b) (list_all is_plain x) plain in
    let byte = both (not (b == 34)) (not (b == 44)) all.0 in
    plain_first b x (not_true (b == 34) byte.0) (not_true (b == 44) byte.1) (closed_plain x all.1)

-- inside a quoted string a comma cuts nothing
by_comma : (t : Bool) (b : ℕ) (x rest : List ℕ) → piece_len (after_byte Inside b) (x ++ rest) ≡ length x + piece_len Inside rest
    → cond (t && false) 0 (1 + piece_len (after_byte Inside b) (x ++ rest)) ≡ length (b ∷ x) + piece_len Inside rest
by_comma true b x rest later = omega (arith, later)
by_comma false b x rest later = omega (arith, later)

behind_slash : (t : Bool) (b : ℕ) (x rest : List ℕ) → piece_len Inside (x ++ rest) ≡ length x + piece_len Inside rest
    → cond (t && false) 0 (1 + piece_len Inside (x ++ rest)) ≡ length (b ∷ x) + piece_len Inside rest
behind_slash true b x rest later = omega (arith, later)
behind_slash false b x rest later = omega (arith, later)

inside_first : (b : ℕ) (x : List ℕ) → (b == 34) ≡ false → (b == 92) ≡ false → Passes Inside x Inside → Passes Inside (b ∷ x) Inside
inside_first b x quote slash closed rest =
    let later = closed rest in
    by_comma (b == 44) b x rest (rw (slash, quote) later)

escaped_first : (b : ℕ) (x : List ℕ) → Passes Inside x Inside → Passes Inside (92 ∷ b ∷ x) Inside
escaped_first b x closed rest =
    let later = behind_slash (b == 44) b x rest (closed rest) in
    omega (arith, later)

byte_passes : (b : ℕ) (x : List ℕ) (e q s : Bool) → (b == 34) ≡ q → (b == 92) ≡ s → (e || not (q || s)) ≡ true
    → Passes Inside x Inside → Passes Inside (byte_text (record { byte = b; escaped = e }) ++ x) Inside
byte_passes b x true q s qe se right closed = escaped_first b x closed
byte_passes b x false false false qe se right closed = inside_first b x qe se closed
byte_passes b x false true s qe se right closed = absurd (false≢true right)
byte_passes b x false false true qe se right closed = absurd (false≢true right)

bytes_pass : (bytes : List SpelledByte) → list_all is_right_byte bytes ≡ true → Passes Inside (flat_map byte_text bytes) Inside
bytes_pass [] right = λ rest. omega arith
bytes_pass (s ∷ bytes) right =
    let all = both (is_right_byte s) (list_all is_right_byte bytes) right in
    byte_passes s.byte (flat_map byte_text bytes) s.escaped (s.byte == 34) (s.byte == 92) refl refl all.0 (bytes_pass bytes all.1)

close_quote : Passes Inside (34 ∷ []) Outside
close_quote rest = omega arith

pub open_quote : (x : List ℕ) → Passes Inside x Outside → IsClosed (34 ∷ x)
open_quote x inside rest =
    let later = inside rest in
    omega (arith, later)

-- a quoted string cuts nothing
pub closed_quoted : (bytes : List SpelledByte) → list_all is_right_byte bytes ≡ true → IsClosed (34 ∷ flat_map byte_text bytes ++ 34 ∷ [])
closed_quoted bytes right =
    open_quote (flat_map byte_text bytes ++ 34 ∷ [])
    (passes-append Inside Inside Outside (flat_map byte_text bytes) (34 ∷ []) (bytes_pass bytes right) close_quote)

-- ---- classes of bytes

other : (test : ℕ → Bool) (b k : ℕ) (t : Bool) → (b == k) ≡ t → test k ≡ false → test b ≡ true → (b == k) ≡ false
other test b k false e off on = e
other test b k true e off on = absurd (false≢true (sym off ∙ ap test (sym (eqb-true b k e)) ∙ on))

-- what passes the test is no byte that fails it
pub is_other : (test : ℕ → Bool) (b k : ℕ) → test k ≡ false → test b ≡ true → (b == k) ≡ false
is_other test b k off on = other test b k (b == k) refl off on

pub all_of : (p q : ℕ → Bool) → ((b : ℕ) → p b ≡ true → q b ≡ true) → (x : List ℕ) → list_all p x ≡ true → list_all q x ≡ true
all_of p q each [] all = refl
all_of p q each (b ∷ x) all =
    let parts = both (p b) (list_all p x) all in
    rw (each b parts.0) (all_of p q each x parts.1)

abbrev pub is_solid : ℕ → Bool
is_solid b = not (is_blank b)

pub token_plain : (b : ℕ) → is_token_byte b ≡ true → is_plain b ≡ true
token_plain b on = rw (is_other is_token_byte b 34 refl on, is_other is_token_byte b 44 refl on) refl

pub token_solid : (b : ℕ) → is_token_byte b ≡ true → is_solid b ≡ true
token_solid b on = rw (is_other is_token_byte b 32 refl on, is_other is_token_byte b 9 refl on) refl

pub blank_plain : (b : ℕ) → is_blank b ≡ true → is_plain b ≡ true
blank_plain b on = rw (is_other is_blank b 34 refl on, is_other is_blank b 44 refl on) refl

-- ---- what trimming leaves

pub trim_start-blanks : (front x : List ℕ) → are_blanks front ≡ true → trim_start (front ++ x) ≡ trim_start x
trim_start-blanks [] x blank = refl
trim_start-blanks (b ∷ front) x blank =
    let parts = both (is_blank b) (are_blanks front) blank in
    rw (parts.0, one-add) (trim_start-blanks front x parts.1)

pub trim_start-solid : (b : ℕ) (x : List ℕ) → is_blank b ≡ false → trim_start (b ∷ x) ≡ b ∷ x
trim_start-solid b x solid = rw solid refl

pub trim_end-blanks : (x back : List ℕ) → are_blanks back ≡ true → trim_end (x ++ back) ≡ trim_end x
trim_end-blanks x [] blank = ap trim_end (append-nil x)
trim_end-blanks x (b ∷ back) blank =
    let parts = both (is_blank b) (are_blanks back) blank in
    ap trim_end (sym (append_assoc x (b ∷ []) back)) ∙ trim_end-blanks (x ++ b ∷ []) back parts.1 ∙ trim_end-push_blank x b parts.0

-- the bytes begin and end with none that is trimmed
pub record IsTrimmed (x : List ℕ) : Type 0 where
  pub starts : (back : List ℕ) → trim_start (x ++ back) ≡ x ++ back
  pub ends : trim_end x ≡ x
  pub some : nat_lt 0 (length x) ≡ true

pub trimmed_between : (front x back : List ℕ) → are_blanks front ≡ true → are_blanks back ≡ true → IsTrimmed x
    → trim_end (trim_start ((front ++ x) ++ back)) ≡ x
trimmed_between front x back f b is =
    ap (λ t. trim_end (trim_start t)) (append_assoc front x back) ∙ ap trim_end (trim_start-blanks front (x ++ back) f ∙ is.starts back)
    ∙ trim_end-blanks x back b ∙ is.ends

blanks_gone : (x : List ℕ) → are_blanks x ≡ true → trim_start x ≡ []
blanks_gone x blank = ap trim_start (sym (append-nil x)) ∙ trim_start-blanks x [] blank

pub blanks_between : (front back : List ℕ) → are_blanks front ≡ true → are_blanks back ≡ true → trim_end (trim_start (front ++ back)) ≡ []
blanks_between front back f b = ap trim_end (trim_start-blanks front back f ∙ blanks_gone back b)

keep_some : (b : ℕ) (x : List ℕ) → nat_lt 0 (length x) ≡ true → keep_unless_blank b x ≡ b ∷ x
keep_some b [] some = absurd (false≢true some)
keep_some b (c ∷ x) some = refl

pub keep_solid : (b : ℕ) (x : List ℕ) → is_solid b ≡ true → keep_unless_blank b x ≡ b ∷ x
keep_solid b [] solid = rw (not_true (is_blank b) solid) refl
keep_solid b (c ∷ x) solid = refl

trim_end-solid : (x : List ℕ) → list_all is_solid x ≡ true → trim_end x ≡ x
trim_end-solid [] solid = refl
trim_end-solid (b ∷ x) solid =
    let parts = both (is_solid b) (list_all is_solid x) solid in
    ap (keep_unless_blank b) (trim_end-solid x parts.1) ∙ keep_solid b x parts.0

pub cons_some : (b : ℕ) (x : List ℕ) → nat_lt 0 (length (b ∷ x)) ≡ true
cons_some b x = lt-ltb 0 (length (b ∷ x)) (omega arith)

some-append : (a x : List ℕ) → nat_lt 0 (length x) ≡ true → nat_lt 0 (length (a ++ x)) ≡ true
some-append [] x some = some
some-append (b ∷ a) x some = cons_some b (a ++ x)

trim_end-append : (a x : List ℕ) → trim_end x ≡ x → nat_lt 0 (length x) ≡ true → trim_end (a ++ x) ≡ a ++ x
trim_end-append [] x ends some = ends
trim_end-append (b ∷ a) x ends some =
    ap (keep_unless_blank b) (trim_end-append a x ends some) ∙ keep_some b (a ++ x) (some-append a x some)

pub trimmed_solid : (x : List ℕ) → nat_lt 0 (length x) ≡ true → list_all is_solid x ≡ true → IsTrimmed x
trimmed_solid [] some solid = absurd (false≢true some)
trimmed_solid (b ∷ x) some solid =
    let parts = both (is_solid b) (list_all is_solid x) solid in
    record {
      starts = λ back. trim_start-solid b (x ++ back) (not_true (is_blank b) parts.0);
      ends = trim_end-solid (b ∷ x) solid;
      some = some;
    }

pub trimmed-append : (a m x : List ℕ) → IsTrimmed a → IsTrimmed x → IsTrimmed (a ++ (m ++ x))
trimmed-append a m x front back = record {
  starts = λ more. ap trim_start (append_assoc a (m ++ x) more) ∙ front.starts ((m ++ x) ++ more) ∙ sym (append_assoc a (m ++ x) more);
  ends = trim_end-append a (m ++ x) (trim_end-append m x back.ends back.some) (some-append m x back.some);
  some = some-append a (m ++ x) (some-append m x back.some);
}

pub trimmed_quoted : (x : List ℕ) → IsTrimmed (34 ∷ x ++ 34 ∷ [])
trimmed_quoted x = record {
  starts = λ back. refl;
  ends = trim_end-push_kept (34 ∷ x) 34 refl;
  some = cons_some 34 (x ++ 34 ∷ []);
}
