-- The first piece of a text, from what stands in front of it.
use Rattle.std.proofs.Common.{◌≡◌, ℕ, ◌+◌, ◌==◌, Bool, true, false, cond, List, [], ◌∷◌, ◌++◌, length, take, drop, Some, None, refl, sym, ap, ◌∙◌, arith, one-add}
use Rattle.std.specs.List.{list_all, prefix_len}
use Rattle.std.proofs.lemmas.List.{take-append-drop}
use Rattle.std.proofs.lemmas.List.Folds.{length-prefix_len}
use Rattle.std.proofs.Math.Seq.{take-append-add}
use Rattle.field_lists.specs.Blanks.{is_blank, keep_unless_blank, trim_end}
use Rattle.challenge_tokens.specs.declared.piece.Quoting.TheVariants.{Outside}
use Rattle.challenge_tokens.specs.Forms.{after_byte}
use Rattle.challenge_tokens.specs.Cutting.{piece_len}
use Rattle.challenge_tokens.specs.Spelling.{are_blanks}
use Rattle.challenge_tokens.specs.Front.{front, is_over, if_empty, blank_piece}
use Rattle.challenge_tokens.proofs.NameLemmas.{both}
use Rattle.challenge_tokens.proofs.EdgeLemmas.{IsClosed, is_solid, keep_solid}
use Rattle.challenge_tokens.proofs.SpellingLemmas.{closed_blanks}

-- ---- prefixes

prefix_passes_by : (p : ℕ → Bool) (b : ℕ) (x : List ℕ) (u : Bool) → p b ≡ u → list_all p (take (prefix_len p x) x) ≡ true
    → list_all p (take (cond u (1 + prefix_len p x) 0) (b ∷ x)) ≡ true
prefix_passes_by p b x true e more = rw (one-add, e) more
prefix_passes_by p b x false e more = refl

-- the bytes in front pass the test
pub prefix_passes : (p : ℕ → Bool) (x : List ℕ) → list_all p (take (prefix_len p x) x) ≡ true
prefix_passes p [] = refl
prefix_passes p (b ∷ x) = prefix_passes_by p b x (p b) refl (prefix_passes p x)

prefix_ends_by : (p : ℕ → Bool) (b : ℕ) (x : List ℕ) (u : Bool) → p b ≡ u → prefix_len p (drop (prefix_len p x) x) ≡ 0
    → prefix_len p (drop (cond u (1 + prefix_len p x) 0) (b ∷ x)) ≡ 0
prefix_ends_by p b x true e more = rw one-add more
prefix_ends_by p b x false e more = rw e refl

-- and the one behind them does not
pub prefix_ends : (p : ℕ → Bool) (x : List ℕ) → prefix_len p (drop (prefix_len p x) x) ≡ 0
prefix_ends p [] = refl
prefix_ends p (b ∷ x) = prefix_ends_by p b x (p b) refl (prefix_ends p x)

-- a text as the bytes that pass and those behind them
pub record Parts (p : ℕ → Bool) (text x rest : List ℕ) : Type 0 where
  pub split : text ≡ x ++ rest
  pub len : length x ≡ prefix_len p text
  pub passes : list_all p x ≡ true
  pub ends : prefix_len p rest ≡ 0

pub parts_of : (p : ℕ → Bool) (text : List ℕ) → Parts p text (take (prefix_len p text) text) (drop (prefix_len p text) text)
parts_of p text = record {
  split = sym (take-append-drop (prefix_len p text) text);
  len = length-prefix_len p text;
  passes = prefix_passes p text;
  ends = prefix_ends p text;
}

-- ---- the end of what is kept

-- the blanks behind these bytes go, and none of these
abbrev pub KeepsEnd : List ℕ → Type 0
KeepsEnd x = (y : List ℕ) → trim_end (x ++ y) ≡ x ++ trim_end y

pub solid_keeps : (x : List ℕ) → list_all is_solid x ≡ true → KeepsEnd x
solid_keeps [] solid y = refl
solid_keeps (b ∷ x) solid y =
    let parts = both (is_solid b) (list_all is_solid x) solid in
    ap (keep_unless_blank b) (solid_keeps x parts.1 y) ∙ keep_solid b (x ++ trim_end y) parts.0

keep_before : (a : ℕ) (x : List ℕ) (b : ℕ) (y : List ℕ) → keep_unless_blank a ((x ++ b ∷ []) ++ y) ≡ a ∷ ((x ++ b ∷ []) ++ y)
keep_before a [] b y = refl
keep_before a (c ∷ x) b y = refl

pub last_keeps : (x : List ℕ) (b : ℕ) → is_solid b ≡ true → KeepsEnd (x ++ b ∷ [])
last_keeps [] b solid y = keep_solid b (trim_end y) solid
last_keeps (a ∷ x) b solid y = ap (keep_unless_blank a) (last_keeps x b solid y) ∙ keep_before a x b (trim_end y)

-- blanks before bytes that are kept
abbrev pub behind_blanks : List ℕ → List ℕ → List ℕ
behind_blanks x [] = []
behind_blanks x (b ∷ y) = x ++ b ∷ y

no_blanks : (y : List ℕ) → y ≡ behind_blanks [] y
no_blanks [] = refl
no_blanks (b ∷ y) = refl

keep_some_behind : (a : ℕ) (x : List ℕ) (b : ℕ) (y : List ℕ) → keep_unless_blank a (x ++ b ∷ y) ≡ a ∷ (x ++ b ∷ y)
keep_some_behind a [] b y = refl
keep_some_behind a (c ∷ x) b y = refl

one_blank : (a : ℕ) (x y : List ℕ) → is_blank a ≡ true → keep_unless_blank a (behind_blanks x y) ≡ behind_blanks (a ∷ x) y
one_blank a x [] blank = rw blank refl
one_blank a x (b ∷ y) blank = keep_some_behind a x b y

blanks_end : (x y : List ℕ) → are_blanks x ≡ true → trim_end (x ++ y) ≡ behind_blanks x (trim_end y)
blanks_end [] y blank = no_blanks (trim_end y)
blanks_end (b ∷ x) y blank =
    let parts = both (is_blank b) (are_blanks x) blank in
    ap (keep_unless_blank b) (blanks_end x y parts.1) ∙ one_blank b x (trim_end y) parts.0

-- ---- the first piece

front_whole : (x rest : List ℕ) → IsClosed x → front (x ++ rest) ≡ trim_end (x ++ take (piece_len Outside rest) rest)
front_whole x rest closed =
    ap trim_end (ap (λ n. take n (x ++ rest)) (closed rest) ∙ take-append-add x rest (piece_len Outside rest))

pub front_keeps : (x rest : List ℕ) → IsClosed x → KeepsEnd x → front (x ++ rest) ≡ x ++ front rest
front_keeps x rest closed keeps = front_whole x rest closed ∙ keeps (take (piece_len Outside rest) rest)

pub front_blanks : (x rest : List ℕ) → are_blanks x ≡ true → front (x ++ rest) ≡ behind_blanks x (front rest)
front_blanks x rest blank =
    front_whole x rest (closed_blanks x blank) ∙ blanks_end x (take (piece_len Outside rest) rest) blank

pub front_over_by : (b : ℕ) (x : List ℕ) → (b == 44) ≡ true → front (b ∷ x) ≡ []
front_over_by b x comma = rw comma refl

pub front_over : (rest : List ℕ) → is_over rest ≡ true → (front rest ≡ []) × (piece_len Outside rest ≡ 0)
front_over [] over = (refl, refl)
front_over (b ∷ x) over = (front_over_by b x over, rw over refl)

pub front_first : (b : ℕ) (x : List ℕ) → (b == 44) ≡ false
    → front (b ∷ x) ≡ keep_unless_blank b (trim_end (take (piece_len (after_byte Outside b) x) x))
front_first b x other = rw (other, one-add) refl

keep_stops_by : (p : ℕ → Bool) (b : ℕ) (u : Bool) → p b ≡ false → prefix_len p (cond u [] (b ∷ [])) ≡ 0
keep_stops_by p b true off = refl
keep_stops_by p b false off = rw off refl

keep_stops : (p : ℕ → Bool) (b : ℕ) (y : List ℕ) → p b ≡ false → prefix_len p (keep_unless_blank b y) ≡ 0
keep_stops p b [] off = keep_stops_by p b (is_blank b) off
keep_stops p b (c ∷ y) off = rw off refl

pub off_first : (p : ℕ → Bool) (b : ℕ) (x : List ℕ) (u : Bool) → p b ≡ u → cond u (1 + prefix_len p x) 0 ≡ 0 → p b ≡ false
off_first p b x true e none = absurd (omega arith)
off_first p b x false e none = e

stops_by : (p : ℕ → Bool) (b : ℕ) (x : List ℕ) (u : Bool) → (b == 44) ≡ u → p b ≡ false → prefix_len p (front (b ∷ x)) ≡ 0
stops_by p b x true e off = ap (prefix_len p) (front_over_by b x e)
stops_by p b x false e off =
    ap (prefix_len p) (front_first b x e) ∙ keep_stops p b (trim_end (take (piece_len (after_byte Outside b) x) x)) off

-- a first byte that fails the test is the first of the piece, or there is no piece
pub front_stops : (p : ℕ → Bool) (rest : List ℕ) → prefix_len p rest ≡ 0 → prefix_len p (front rest) ≡ 0
front_stops p [] none = refl
front_stops p (b ∷ x) none = stops_by p b x (b == 44) refl (off_first p b x (p b) refl none)

some_behind : (x : List ℕ) (b : ℕ) (y : List ℕ) (n : ℕ) → if_empty {X = ℕ} (x ++ b ∷ y) n ≡ None
some_behind [] b y n = refl
some_behind (a ∷ x) b y n = refl

kept_first : (x : List ℕ) (b : ℕ) (y : List ℕ) (n : ℕ) → is_solid b ≡ true → if_empty (behind_blanks x (keep_unless_blank b y)) n ≡ None
kept_first x b y n solid = ap (λ z. if_empty (behind_blanks x z) n) (keep_solid b y solid) ∙ some_behind x b y n

-- blanks up to a comma or the end
pub blanks_over : (x rest : List ℕ) → are_blanks x ≡ true → is_over rest ≡ true → blank_piece (x ++ rest) ≡ Some (length x)
blanks_over x rest blank over =
    let none = front_over rest over in
    let len : piece_len Outside (x ++ rest) ≡ length x = omega (arith, closed_blanks x blank rest, none.1) in
    rw (front_blanks x rest blank, none.0, len) refl

some_first : (x : List ℕ) (b : ℕ) (y : List ℕ) → are_blanks x ≡ true → is_blank b ≡ false → (b == 44) ≡ false → blank_piece (x ++ b ∷ y) ≡ None
some_first x b y blank solid other =
    let z = trim_end (take (piece_len (after_byte Outside b) y) y) in
    let n = piece_len Outside (x ++ b ∷ y) in
    ap (λ t. if_empty t n) (front_blanks x (b ∷ y) blank ∙ ap (behind_blanks x) (front_first b y other))
    ∙ kept_first x b z n (rw solid refl)

blanks_not_over : (x rest : List ℕ) → are_blanks x ≡ true → prefix_len is_blank rest ≡ 0 → is_over rest ≡ false → blank_piece (x ++ rest) ≡ None
blanks_not_over x [] blank ends over = absurd (cc)
blanks_not_over x (b ∷ y) blank ends over = some_first x b y blank (off_first is_blank b y (is_blank b) refl ends) over

blank_piece_by : (text x rest : List ℕ) (u : Bool) → Parts is_blank text x rest → is_over rest ≡ u
    → blank_piece text ≡ cond u (Some (prefix_len is_blank text)) None
blank_piece_by text x rest true parts over =
    ap blank_piece parts.split ∙ blanks_over x rest parts.passes over ∙ ap (λ n. Some n) parts.len
blank_piece_by text x rest false parts over = ap blank_piece parts.split ∙ blanks_not_over x rest parts.passes parts.ends over

pub blank_piece_is : (text : List ℕ) (n : ℕ) (u : Bool) → n ≡ prefix_len is_blank text → is_over (drop n text) ≡ u
    → cond u (Some n) None ≡ blank_piece text
blank_piece_is text n u len over =
    let here = prefix_len is_blank text in
    sym (blank_piece_by text (take here text) (drop here text) u (parts_of is_blank text) (ap (λ k. is_over (drop k text)) (sym len) ∙ over)
    ∙ ap (λ k. cond u (Some k) None) (sym len))
