-- How a challenge is written: the scheme, and a token68 or parameters with quoted values.
use Rattle.std.specs.Prelude.{ℕ, Bool, true, ◌&&◌, nat_lt, List, [], ◌∷◌, ◌++◌, length, codes}
use Rattle.std.specs.List.{list_all, flat_map}
use Rattle.auth_text.specs.Quoted.{quoted_text}
use Rattle.challenge_tokens.specs.declared.challenge.Challenge.{Challenge}
use Rattle.challenge_tokens.specs.declared.challenge.Body.{Body}
use Rattle.challenge_tokens.specs.declared.challenge.Body.TheVariants.{Bare, Token68, Params}
use Rattle.challenge_tokens.specs.declared.params.Param.{Param}
use Rattle.challenge_tokens.specs.Names.{is_lower}
use Rattle.challenge_tokens.specs.Forms.{is_token, is_token68}

-- scheme, one space, token
abbrev pub token68_text : List ℕ → List ℕ → List ℕ
token68_text scheme token = scheme ++ 32 ∷ token

-- name "=" and the quoted value
abbrev pub param_text : Param → List ℕ
param_text p = p.name ++ 61 ∷ quoted_text p.value

-- a parameter behind another
abbrev pub param_behind : Param → List ℕ
param_behind p = codes ", " ++ param_text p

-- a space, and the parameters with a comma and a space between them
abbrev pub params_text : List Param → List ℕ
params_text [] = []
params_text (p ∷ ps) = 32 ∷ param_text p ++ flat_map param_behind ps

-- what follows the scheme
abbrev pub body_text : Body → List ℕ
body_text Bare = []
body_text (Token68 token) = 32 ∷ token
body_text (Params ps) = params_text ps

-- what is written of a challenge
abbrev pub challenge_text : Challenge → List ℕ
challenge_text c = c.scheme ++ body_text c.body

-- a token68, or at least one parameter and each name a token
abbrev pub is_writable_body : Body → Bool
is_writable_body Bare = true
is_writable_body (Token68 token) = is_token68 token
is_writable_body (Params ps) = nat_lt 0 (length ps) && list_all (λ p. is_token p.name) ps

-- the scheme is a token in lower case, and the body can be written
abbrev pub is_writable : Challenge → Bool
is_writable c = is_token c.scheme && is_lower c.scheme && is_writable_body c.body
