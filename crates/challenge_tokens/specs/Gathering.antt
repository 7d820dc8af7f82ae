-- Parameters gathered from the left.
use Rattle.std.specs.Prelude.{ℕ, nat_lt, List, length, if◌then◌else◌}
use Rattle.challenge_tokens.specs.declared.params.Param.{Param}
use Rattle.challenge_tokens.specs.declared.piece.Form.{Form}
use Rattle.challenge_tokens.specs.declared.piece.Form.TheVariants.{Bare, WithToken, WithParam, Parameter, Bad}
use Rattle.challenge_tokens.specs.declared.info.After.{After}
use Rattle.challenge_tokens.specs.declared.info.After.TheVariants.{Goes, Ends}
use Rattle.challenge_tokens.specs.Forms.{form_of}
use Rattle.challenge_tokens.specs.Pieces.{join}

-- what a piece of this form and of so many bytes leaves
abbrev pub gathered_by : List Param → Form → ℕ → After
gathered_by ps (Parameter p) n = Goes (join ps p) n
gathered_by ps (Bare s) n = Ends ps
gathered_by ps (WithToken s t) n = Ends ps
gathered_by ps (WithParam s p) n = Ends ps
gathered_by ps Bad n = Ends ps

-- what a piece leaves, in so many bytes of the text
abbrev pub gathered_of : List Param → List ℕ → ℕ → After
gathered_of ps bytes n = if nat_lt 0 (length bytes) then gathered_by ps (form_of bytes) n else Goes ps n
