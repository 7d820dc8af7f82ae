-- The first piece of a text.
use Rattle.std.specs.Prelude.{ℕ, ◌+◌, ◌&&◌, ◌==◌, List, [], ◌∷◌, if◌then◌else◌}
use Rattle.challenge_tokens.specs.declared.piece.Quoting.{Quoting}
use Rattle.challenge_tokens.specs.Forms.{after_byte}
use Rattle.challenge_tokens.specs.Pieces.{is_outside}

-- how many bytes stand before the first comma outside quoted strings
abbrev pub piece_len : Quoting → List ℕ → ℕ
piece_len q [] = 0
piece_len q (b ∷ bytes) = if b == 44 && is_outside q then 0 else 1 + piece_len (after_byte q b) bytes
