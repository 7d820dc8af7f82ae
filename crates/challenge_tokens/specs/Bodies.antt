-- What follows a scheme, and a parameter's value in it.
use Rattle.std.specs.Prelude.{ℕ, Bool, true, List, Option, None}
use Rattle.challenge_tokens.specs.declared.challenge.Body.{Body}
use Rattle.challenge_tokens.specs.declared.challenge.Body.TheVariants.{Bare, Token68, Params}
use Rattle.challenge_tokens.specs.declared.begun.Argument.{Argument}
use Rattle.challenge_tokens.specs.declared.begun.Argument.TheVariants.{Nothing, Token, Gathered}
use Rattle.challenge_tokens.specs.Names.{are_params, value_under}

-- the value of the first parameter of that name, where there are parameters
abbrev pub value_in : List ℕ → Body → Option (List ℕ)
value_in name Bare = None
value_in name (Token68 token) = None
value_in name (Params params) = value_under name params

-- what every body keeps of its parameters
abbrev pub is_fit_body : Body → Bool
is_fit_body Bare = true
is_fit_body (Token68 token) = true
is_fit_body (Params params) = are_params params

-- the body that an argument makes once nothing more is gathered
abbrev pub closed : Argument → Body
closed Nothing = Bare
closed (Token token) = Token68 token
closed (Gathered params) = Params params
