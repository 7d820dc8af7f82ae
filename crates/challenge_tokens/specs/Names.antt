-- The names of parameters, and a parameter's value by its name (RFC 7235, section 2.1).
use Rattle.std.specs.Prelude.{ℕ, Bool, true, not, ◌&&◌, List, [], ◌∷◌, Option, Some, None, bytes_eq, if◌then◌else◌}
use Rattle.std.specs.List.{list_all, list_any}
use Rattle.std.specs.Char.{is_ascii_uppercase}
use Rattle.auth_text.specs.Text.{folded}
use Rattle.challenge_tokens.specs.declared.params.Param.{Param}

-- no ASCII letter in upper case
abbrev pub is_lower : List ℕ → Bool
is_lower name = list_all (λ b. not (is_ascii_uppercase b)) name

-- a parameter has the name
abbrev pub has_name : List ℕ → List Param → Bool
has_name name ps = list_any (λ p. bytes_eq p.name name) ps

-- the names are in lower case, and no two are equal
abbrev pub are_params : List Param → Bool
are_params [] = true
are_params (p ∷ ps) = is_lower p.name && not (has_name p.name ps) && are_params ps

-- equal but for letter case
abbrev pub is_same_name : List ℕ → List ℕ → Bool
is_same_name a b = bytes_eq (folded a) (folded b)

-- the value of the first parameter of that name
abbrev pub value_under : List ℕ → List Param → Option (List ℕ)
value_under name [] = None
value_under name (p ∷ ps) = if is_same_name p.name name then Some p.value else value_under name ps
