-- What is read in front of a text, as the step that the piece rule asks for.
use Rattle.std.proofs.Common.{◌≡◌, ℕ, zero, suc, ◌+◌, ◌<◌, ◌≤◌, ◌==◌, ◌&&◌, Bool, true, false, cond, List, [], ◌∷◌, length, take, drop, Option, Some, None, refl, sym, ap, ◌∙◌, arith, length-drop}
use Rattle.std.specs.List.{prefix_len}
use Rattle.std.proofs.lemmas.List.{drop-take}
use Rattle.std.proofs.lemmas.List.Sums.{prefix_len-le-length}
use Rattle.std.proofs.Math.Seq.{take-append-add}
use Rattle.field_lists.specs.Blanks.{is_blank, trim_end}
use Rattle.challenge_tokens.specs.declared.challenge.FieldRead.{FieldRead}
use Rattle.challenge_tokens.specs.declared.piece.Form.{Form}
use Rattle.challenge_tokens.specs.declared.piece.Form.TheVariants.{Bare, WithToken, WithParam, Parameter, Bad}
use Rattle.challenge_tokens.specs.declared.piece.Quoting.{Quoting}
use Rattle.challenge_tokens.specs.declared.piece.Quoting.TheVariants.{Outside}
use Rattle.challenge_tokens.specs.declared.field.Reading.{Reading}
use Rattle.challenge_tokens.specs.declared.field.Next.{Next}
use Rattle.challenge_tokens.specs.declared.field.Next.TheVariants.{Goes, Refused}
use Rattle.challenge_tokens.specs.Forms.{after_byte, form_of, is_lower_form}
use Rattle.challenge_tokens.specs.Pieces.{is_outside, field_read}
use Rattle.challenge_tokens.specs.Cutting.{piece_len}
use Rattle.challenge_tokens.specs.Reading.{is_refused, with_form, so_far, next_of}
use Rattle.challenge_tokens.specs.Front.{front, sized, if_empty, blank_piece, unless_bad, next_by}
use Rattle.challenge_tokens.proofs.FormLemmas.{lower_form}
use Rattle.challenge_tokens.proofs.EdgeLemmas.{cons_some}
use Rattle.challenge_tokens.proofs.SpellingLemmas.{prefix_all}
use Rattle.challenge_tokens.proofs.StepLemmas.{Knows, SoFar, stops, ends_there, goes_on}
use Rattle.challenge_tokens.proofs.FrontLemmas.{Parts, parts_of, off_first}
use Rattle.challenge_tokens.proofs.ReadLemmas.{behind}

-- ---- the piece in front

pub sized_some : {X : Type 0} (found : Option X) (text : List ℕ) (x : X) (n : ℕ) → Some (x, n) ≡ sized found text
    → (found ≡ Some x) × (n ≡ piece_len Outside text)
sized_some None text x n is = absurd (cc)
sized_some {X} (Some y) text x n is =
    let both : ◌≡◌ {A = X × ℕ} (x, n) (y, piece_len Outside text) = cc in
    (ap (λ (z : X × ℕ). Some z.0) (sym both), ap (λ (z : X × ℕ). z.1) both)

pub good_form : (f g : Form) → unless_bad f ≡ Some g → f ≡ g
good_form (Bare s) g is = cc
good_form (WithToken s t) g is = cc
good_form (WithParam s p) g is = cc
good_form (Parameter p) g is = cc
good_form Bad g is = absurd (cc)

pub no_form : (f : Form) (text : List ℕ) → None ≡ sized (unless_bad f) text → f ≡ Bad
no_form (Bare s) text is = absurd (cc)
no_form (WithToken s t) text is = absurd (cc)
no_form (WithParam s p) text is = absurd (cc)
no_form (Parameter p) text is = absurd (cc)
no_form Bad text is = refl

empty_by : (r : Reading) (y : List ℕ) (m n : ℕ) → Some n ≡ if_empty y m → Goes r n ≡ next_of r y m
empty_by r [] m n is =
    let same : n ≡ m = cc in
    ap (Goes r) same
empty_by r (b ∷ y) m n is = absurd (cc)

form_by : (r : Reading) (y : List ℕ) (m : ℕ) (f : Form) (n : ℕ) → None ≡ if_empty y m → form_of y ≡ f → n ≡ m → next_by r f n ≡ next_of r y m
form_by r [] m f n some is len = absurd (cc)
form_by r (b ∷ y) m f n some is len = rw (sym is, len, cons_some b y) refl

bad_by : (r : Reading) (y : List ℕ) (m : ℕ) → None ≡ if_empty y m → form_of y ≡ Bad → Refused r ≡ next_of r y m
bad_by r [] m some is = absurd (cc)
bad_by r (b ∷ y) m some is = rw (is, cons_some b y) refl

-- only blanks
pub empty_next : (r : Reading) (text : List ℕ) (n : ℕ) → Some n ≡ blank_piece text
    → Goes r n ≡ next_of r (front text) (piece_len Outside text)
empty_next r text n is = empty_by r (front text) (piece_len Outside text) n is

-- a form that was read, and what it leaves
pub form_lower : (text : List ℕ) (f : Form) (n : ℕ) → Some (f, n) ≡ sized (unless_bad (form_of (front text))) text → is_lower_form f ≡ true
form_lower text f n is =
    ap is_lower_form (sym (good_form (form_of (front text)) f (sized_some (unless_bad (form_of (front text))) text f n is).0)) ∙ lower_form (front text)

pub form_next : (r : Reading) (text : List ℕ) (f : Form) (n : ℕ) → None ≡ blank_piece text
    → Some (f, n) ≡ sized (unless_bad (form_of (front text))) text → next_by r f n ≡ next_of r (front text) (piece_len Outside text)
form_next r text f n some is =
    let both = sized_some (unless_bad (form_of (front text))) text f n is in
    form_by r (front text) (piece_len Outside text) f n some (good_form (form_of (front text)) f both.0) both.1

-- none was
pub bad_next : (r : Reading) (text : List ℕ) → None ≡ blank_piece text → None ≡ sized (unless_bad (form_of (front text))) text
    → Refused r ≡ next_of r (front text) (piece_len Outside text)
bad_next r text some is = bad_by r (front text) (piece_len Outside text) some (no_form (form_of (front text)) text is)

-- ---- the blanks in front

take_stops : (p : ℕ → Bool) (m : ℕ) (x : List ℕ) → prefix_len p x ≡ 0 → prefix_len p (take m x) ≡ 0
take_stops p zero x ends = refl
take_stops p (suc m) [] ends = refl
take_stops p (suc m) (b ∷ x) ends = rw (off_first p b x (p b) refl ends) refl

blanks_by : (text x rest : List ℕ) (m : ℕ) → Parts is_blank text x rest → prefix_len is_blank (take (length x + m) text) ≡ length x
blanks_by text x rest m parts =
    ap (λ t. prefix_len is_blank (take (length x + m) t)) parts.split ∙ ap (prefix_len is_blank) (take-append-add x rest m)
    ∙ prefix_all is_blank x (take m rest) parts.passes (take_stops is_blank m rest parts.ends)

blanks_kept : (text : List ℕ) (n m : ℕ) → n ≡ prefix_len is_blank text → n ≡ prefix_len is_blank (take (n + m) text)
blanks_kept text n m is =
    let parts = parts_of is_blank text in
    let len : length (take (prefix_len is_blank text) text) ≡ n = parts.len ∙ sym is in
    sym (rw len at (blanks_by text (take (prefix_len is_blank text) text) (drop (prefix_len is_blank text) text) m parts))

within_by : (t : Bool) (k m : ℕ) → k ≤ m → cond t 0 (1 + k) ≤ suc m
within_by true k m less = omega arith
within_by false k m less = omega (arith, less)

pub piece_within : (q : Quoting) (text : List ℕ) → piece_len q text ≤ length text
piece_within q [] = omega arith
piece_within q (b ∷ text) = within_by (b == 44 && is_outside q) (piece_len (after_byte q b) text) (length text) (piece_within (after_byte q b) text)

goes_by : (r s : Reading) (f : Form) (m n : ℕ) (later : Reading) (u : Bool) → cond u (Refused r) (Goes s m) ≡ Goes later n → n ≡ m
goes_by r s f m n later true is = absurd (cc)
goes_by r s f m n later false is = cc

goes_len : (r : Reading) (y : List ℕ) (m n : ℕ) (later : Reading) → next_of r y m ≡ Goes later n → n ≡ m
goes_len r [] m n later is = cc
goes_len r (b ∷ y) m n later is =
    goes_by r (with_form r (form_of (b ∷ y))) (form_of (b ∷ y)) m n later (is_refused r (form_of (b ∷ y))) (rw (cons_some b y) at is)

-- what the reading knows of the blanks in front and the piece behind them
pub record Sees (r : Reading) (blank : ℕ) (text : List ℕ) (next : Next) : Type 0 where
  pub blanks : blank ≡ prefix_len is_blank text
  pub next_is : next ≡ next_of r (front (drop blank text)) (piece_len Outside (drop blank text))

-- the step over both
pub seen : (r : Reading) (blank len : ℕ) (text : List ℕ) (next : Next) → Sees r blank text next
    → len ≡ piece_len Outside (drop blank text) → Knows r blank len text (front (drop blank text)) next
seen r blank len text next sees is =
    let b = behind text blank sees.blanks in
    record {
      whole = omega (arith, b.len, is);
      blanks = blanks_kept text blank len sees.blanks;
      trimmed = ap (λ m. trim_end (take m (drop blank text))) (sym is) ∙ ap trim_end (sym (drop-take blank len text));
      next_is = sees.next_is ∙ ap (next_of r (front (drop blank text))) (sym is);
    }

seen_len : (r later : Reading) (blank len : ℕ) (text : List ℕ) (next : Next) → Sees r blank text next → next ≡ Goes later len
    → len ≡ piece_len Outside (drop blank text)
seen_len r later blank len text next sees is =
    goes_len r (front (drop blank text)) (piece_len Outside (drop blank text)) len later (sym sees.next_is ∙ is)

pub sees : (r : Reading) (blank : ℕ) (text more : List ℕ) (next : Next) → blank ≡ prefix_len is_blank text → more ≡ drop blank text
    → next ≡ next_of r (front more) (piece_len Outside more) → Sees r blank text next
sees r blank text more next blanks more_is next_is =
    record { blanks = blanks; next_is = next_is ∙ ap (λ t. next_of r (front t) (piece_len Outside t)) more_is }

-- it ends within the text
pub seen_within : (r later : Reading) (blank len : ℕ) (text : List ℕ) (next : Next) → Sees r blank text next → next ≡ Goes later len
    → blank + len ≤ length text
seen_within r later blank len text next sees is =
    let same = seen_len r later blank len text next sees is in
    let blanks = sees.blanks in
    omega (arith, same, blanks, piece_within Outside (drop blank text), length-drop blank text, prefix_len-le-length is_blank text)

pub refused_there : (value : List ℕ) (r last : Reading) (at blank : ℕ) (text : List ℕ) (next : Next) → Sees r blank text next
    → next ≡ Refused last → SoFar value r at text
    → ◌≡◌ {A = FieldRead} (record { challenges = so_far last; bad_at = Some (at + blank) }) (field_read value)
refused_there value r last at blank text next sees is so =
    let len = piece_len Outside (drop blank text) in
    stops value r last at blank len text (front (drop blank text)) next (seen r blank len text next sees refl) is so

pub all_read : (value : List ℕ) (r last : Reading) (at blank len : ℕ) (text : List ℕ) (next : Next) → Sees r blank text next
    → next ≡ Goes last len → length text ≤ blank + len → SoFar value r at text
    → ◌≡◌ {A = FieldRead} (record { challenges = so_far last; bad_at = None }) (field_read value)
all_read value r last at blank len text next sees is all so =
    ends_there value r last at blank len text (front (drop blank text)) next
    (seen r blank len text next sees (seen_len r last blank len text next sees is)) is all so

pub more_read : (value : List ℕ) (r later : Reading) (at blank len : ℕ) (text : List ℕ) (next : Next) → Sees r blank text next
    → next ≡ Goes later len → blank + len < length text → SoFar value r at text
    → SoFar value later (at + (blank + len + 1)) (drop (blank + len + 1) text)
more_read value r later at blank len text next sees is some so =
    goes_on value r later at blank len text (front (drop blank text)) next
    (seen r blank len text next sees (seen_len r later blank len text next sees is)) is some so
