-- The parameters of an `Authentication-Info` value (RFC 7615, section 3), by the rule on pieces.
use Rattle.std.specs.Prelude.{ℕ, List, [], ◌∷◌}
use Rattle.challenge_tokens.specs.declared.params.Param.{Param}
use Rattle.challenge_tokens.specs.declared.piece.Form.{Form}
use Rattle.challenge_tokens.specs.declared.piece.Form.TheVariants.{Bare, WithToken, WithParam, Parameter, Bad}
use Rattle.challenge_tokens.specs.Pieces.{Formed, forms_from, distinct}

-- a piece before parameters: where it isn't one itself, none of them counts
abbrev pub before : Form → List Param → List Param
before (Parameter p) ps = p ∷ ps
before (Bare s) ps = []
before (WithToken s t) ps = []
before (WithParam s p) ps = []
before Bad ps = []

-- the parameters before the first piece that isn't one
abbrev pub params_before : List Formed → List Param
params_before [] = []
params_before (p ∷ ps) = before p.form (params_before ps)

-- what the value gives: those, of each name the first
abbrev pub info_read : List ℕ → List Param
info_read value = distinct [] (params_before (forms_from 0 value))
