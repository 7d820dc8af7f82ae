-- One piece of the reading.
use Rattle.std.proofs.Common.{◌≡◌, ℕ, suc, ◌+◌, ◌<◌, ◌≤◌, Bool, true, false, cond, List, [], ◌∷◌, Some, None, length, take, drop, refl, sym, ap, ◌∙◌, arith, drop-cons}
use Rattle.std.specs.List.{prefix_len}
use Rattle.field_lists.specs.Blanks.{is_blank, trim_end}
use Rattle.challenge_tokens.specs.declared.challenge.FieldRead.{FieldRead}
use Rattle.challenge_tokens.specs.declared.field.Reading.{Reading}
use Rattle.challenge_tokens.specs.declared.field.Next.{Next}
use Rattle.challenge_tokens.specs.declared.field.Next.TheVariants.{Goes, Refused}
use Rattle.challenge_tokens.specs.declared.piece.Quoting.TheVariants.{Outside}
use Rattle.challenge_tokens.specs.Forms.{form_of}
use Rattle.challenge_tokens.specs.Pieces.{Piece, Formed, formed, forms_from, is_piece, field_read}
use Rattle.challenge_tokens.specs.Cutting.{piece_len}
use Rattle.challenge_tokens.specs.Reading.{resume, so_far, is_refused, with_form, next_of, start}
use Rattle.std.proofs.Math.ListN.{drop_of_length-le}
use Rattle.challenge_tokens.proofs.FlatLemmas.{field_read_is}
use Rattle.challenge_tokens.proofs.CutLemmas.{piece_at, forms_behind, forms_step}

-- what is read, where that is left
abbrev pub after_next : Next → ℕ → List Formed → FieldRead
after_next (Goes r n) place rest = resume r rest
after_next (Refused r) place rest = record { challenges = so_far r; bad_at = Some place }

by_refusal : (r s : Reading) (n place : ℕ) (rest : List Formed) (u : Bool)
    → cond u (record { challenges = so_far r; bad_at = Some place }) (resume s rest)
    ≡ after_next (cond u (Refused r) (Goes s n)) place rest
by_refusal r s n place rest true = refl
by_refusal r s n place rest false = refl

by_piece : (r : Reading) (p : Piece) (n : ℕ) (rest : List Formed) (t : Bool)
    → resume r (cond t (formed p ∷ rest) rest)
    ≡ after_next (cond t (cond (is_refused r (form_of p.bytes)) (Refused r) (Goes (with_form r (form_of p.bytes)) n)) (Goes r n)) p.at rest
by_piece r p n rest true = by_refusal r (with_form r (form_of p.bytes)) n p.at rest (is_refused r (form_of p.bytes))
by_piece r p n rest false = refl

pub step : (r : Reading) (at n len : ℕ) (text : List ℕ) → n ≡ piece_len Outside text
    → resume r (forms_from at text)
    ≡ after_next (next_of r (piece_at at n text).bytes len) (piece_at at n text).at (forms_behind (at + n) (drop n text))
step r at n len text is =
    ap (resume r) (forms_step at n text is)
    ∙ by_piece r (piece_at at n text) len (forms_behind (at + n) (drop n text)) (is_piece (piece_at at n text))

pub nothing_behind : (at n : ℕ) (text : List ℕ) → length text ≤ n → forms_behind (at + n) (drop n text) ≡ []
nothing_behind at n text all = ap (forms_behind (at + n)) (drop_of_length-le text all)

pub more_behind : (at n : ℕ) (text : List ℕ) → n < length text
    → forms_behind (at + n) (drop n text) ≡ forms_from (at + (n + 1)) (drop (n + 1) text)
more_behind at n text some =
    let place : at + n + 1 ≡ at + suc n = omega arith in
    let one : n + 1 ≡ suc n = omega arith in
    rw (drop-cons text n 0 some, place, one) refl

-- what the code knows of a piece of that many bytes behind the blanks in front of it
pub record Knows (r : Reading) (blank len : ℕ) (text bytes : List ℕ) (next : Next) : Type 0 where
  pub whole : blank + len ≡ piece_len Outside text
  pub blanks : blank ≡ prefix_len is_blank (take (blank + len) text)
  pub trimmed : bytes ≡ trim_end (drop blank (take (blank + len) text))
  pub next_is : next ≡ next_of r bytes len

step_to : (r : Reading) (at blank len : ℕ) (text bytes : List ℕ) (next : Next) → Knows r blank len text bytes next
    → resume r (forms_from at text) ≡ after_next next (at + blank) (forms_behind (at + (blank + len)) (drop (blank + len) text))
step_to r at blank len text bytes next knows =
    let n = blank + len in
    let place : (piece_at at n text).at ≡ at + blank = ap (λ k. at + k) (sym knows.blanks) in
    let same : (piece_at at n text).bytes ≡ bytes = ap (λ k. trim_end (drop k (take n text))) (sym knows.blanks) ∙ sym knows.trimmed in
    step r at n len text knows.whole
    ∙ ap (λ k. after_next (next_of r (piece_at at n text).bytes len) k (forms_behind (at + n) (drop n text))) place
    ∙ ap (λ y. after_next (next_of r y len) (at + blank) (forms_behind (at + n) (drop n text))) same
    ∙ ap (λ (x : Next). after_next x (at + blank) (forms_behind (at + n) (drop n text))) (sym knows.next_is)

abbrev pub SoFar : List ℕ → Reading → ℕ → List ℕ → Type 0
SoFar value r at text = resume r (forms_from at text) ≡ resume start (forms_from 0 value)

pub stops : (value : List ℕ) (r last : Reading) (at blank len : ℕ) (text bytes : List ℕ) (next : Next)
    → Knows r blank len text bytes next → next ≡ Refused last → SoFar value r at text
    → ◌≡◌ {A = FieldRead} (record { challenges = so_far last; bad_at = Some (at + blank) }) (field_read value)
stops value r last at blank len text bytes next knows is so =
    sym (field_read_is value ∙ sym so ∙ step_to r at blank len text bytes next knows
    ∙ ap (λ (x : Next). after_next x (at + blank) (forms_behind (at + (blank + len)) (drop (blank + len) text))) is)

pub ends_there : (value : List ℕ) (r last : Reading) (at blank len : ℕ) (text bytes : List ℕ) (next : Next)
    → Knows r blank len text bytes next → next ≡ Goes last len → length text ≤ blank + len → SoFar value r at text
    → ◌≡◌ {A = FieldRead} (record { challenges = so_far last; bad_at = None }) (field_read value)
ends_there value r last at blank len text bytes next knows is all so =
    sym (field_read_is value ∙ sym so ∙ step_to r at blank len text bytes next knows
    ∙ ap (λ (x : Next). after_next x (at + blank) (forms_behind (at + (blank + len)) (drop (blank + len) text))) is
    ∙ ap (resume last) (nothing_behind at (blank + len) text all))

pub goes_on : (value : List ℕ) (r later : Reading) (at blank len : ℕ) (text bytes : List ℕ) (next : Next)
    → Knows r blank len text bytes next → next ≡ Goes later len → blank + len < length text → SoFar value r at text
    → SoFar value later (at + (blank + len + 1)) (drop (blank + len + 1) text)
goes_on value r later at blank len text bytes next knows is some so =
    sym (sym so ∙ step_to r at blank len text bytes next knows
    ∙ ap (λ (x : Next). after_next x (at + blank) (forms_behind (at + (blank + len)) (drop (blank + len) text))) is
    ∙ ap (resume later) (more_behind at (blank + len) text some))
