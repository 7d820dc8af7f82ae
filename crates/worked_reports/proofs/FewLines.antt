-- A text has no more lines than bytes.
use Rattle.std.proofs.Common.{◌≡◌, ℕ, suc, ◌≤◌, ◌==◌, Bool, true, false, List, [], ◌∷◌, length, refl, arith}
use Rattle.report_reading.specs.Cuts.{lines, with_byte, onto_first}

onto_few : (b : ℕ) (all : List (List ℕ)) → length (onto_first b all) ≤ suc (length all)
onto_few b [] = omega arith
onto_few b (line ∷ all) = omega arith

byte_few : (b : ℕ) (all : List (List ℕ)) (ends : Bool) → (b == 10) ≡ ends → length (with_byte b all) ≤ suc (length all)
byte_few b all true h = rw h (omega arith)
byte_few b all false h = rw h (onto_few b all)

pub few_lines : (text : List ℕ) → length (lines text) ≤ length text
few_lines [] = omega arith
few_lines (b ∷ bytes) = let here = byte_few b (lines bytes) (b == 10) refl in let more = few_lines bytes in omega (arith, here, more)
