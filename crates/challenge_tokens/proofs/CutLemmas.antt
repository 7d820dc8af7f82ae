-- The first piece, and the pieces behind it.
use Rattle.std.proofs.Common.{◌≡◌, ℕ, suc, ◌+◌, ◌==◌, ◌&&◌, Bool, true, false, cond, List, [], ◌∷◌, take, drop, map, refl, ap, add-zero, arith}
use Rattle.std.specs.Prelude.{filter}
use Rattle.challenge_tokens.specs.declared.piece.Quoting.{Quoting}
use Rattle.challenge_tokens.specs.declared.piece.Quoting.TheVariants.{Outside}
use Rattle.challenge_tokens.specs.Forms.{after_byte}
use Rattle.challenge_tokens.specs.Pieces.{Piece, Formed, formed, forms_from, cut, is_outside, trimmed, is_piece}
use Rattle.challenge_tokens.specs.Cutting.{piece_len}

-- the cut behind a first piece, from its comma on, which stands at this place
abbrev pub behind : ℕ → List ℕ → List Piece
behind at [] = []
behind at (comma ∷ text) = cut Outside (at + 1) text

abbrev pub first_then : ℕ → ℕ → List ℕ → List Piece
first_then at n text = record { at = at; bytes = take n text } ∷ behind (at + n) (drop n text)

first_more : (at b m : ℕ) (bytes : List ℕ)
    → ◌≡◌ {A = List Piece} (record { at = at; bytes = b ∷ take m bytes } ∷ behind (at + 1 + m) (drop m bytes)) (first_then at (1 + m) (b ∷ bytes))
first_more at b m bytes =
    let one : 1 + m ≡ suc m = omega arith in
    let place : at + 1 + m ≡ at + suc m = omega arith in
    rw (one, place) refl

cut_by_test : (q : Quoting) (at b : ℕ) (bytes : List ℕ) (t : Bool) → (b == 44 && is_outside q) ≡ t
    → cut (after_byte q b) (at + 1) bytes ≡ first_then (at + 1) (piece_len (after_byte q b) bytes) bytes
    → cut q at (b ∷ bytes) ≡ first_then at (piece_len q (b ∷ bytes)) (b ∷ bytes)
cut_by_test q at b bytes true e rest = rw (e, add-zero) refl
cut_by_test q at b bytes false e rest = rw (e, rest) (first_more at b (piece_len (after_byte q b) bytes) bytes)

pub cut_first : (q : Quoting) (at : ℕ) (text : List ℕ) → cut q at text ≡ first_then at (piece_len q text) text
cut_first q at [] = refl
cut_first q at (b ∷ bytes) =
    cut_by_test q at b bytes (b == 44 && is_outside q) refl (cut_first (after_byte q b) (at + 1) bytes)

-- the first piece of n bytes
abbrev pub piece_at : ℕ → ℕ → List ℕ → Piece
piece_at at n text = trimmed (record { at = at; bytes = take n text })

-- the forms of the pieces behind it
abbrev pub forms_behind : ℕ → List ℕ → List Formed
forms_behind at [] = []
forms_behind at (comma ∷ text) = forms_from (at + 1) text

all_behind : (at : ℕ) (text : List ℕ) → map formed (filter is_piece (map trimmed (behind at text))) ≡ forms_behind at text
all_behind at [] = refl
all_behind at (comma ∷ text) = refl

by_first : (p : Piece) (ps : List Piece) (t : Bool)
    → map formed (cond t (p ∷ ps) ps) ≡ cond t (formed p ∷ map formed ps) (map formed ps)
by_first p ps true = refl
by_first p ps false = refl

pub forms_step : (at n : ℕ) (text : List ℕ) → n ≡ piece_len Outside text
    → forms_from at text
    ≡ cond (is_piece (piece_at at n text)) (formed (piece_at at n text) ∷ forms_behind (at + n) (drop n text)) (forms_behind (at + n) (drop n text))
forms_step at n text is =
    let first = ap (λ (ps : List Piece). map formed (filter is_piece (map trimmed ps))) (cut_first Outside at text) in
    let m = piece_len Outside text in
    let rest = filter is_piece (map trimmed (behind (at + m) (drop m text))) in
    let split = by_first (piece_at at m text) rest (is_piece (piece_at at m text)) in
    rw (is, first, split, all_behind (at + m) (drop m text)) refl
