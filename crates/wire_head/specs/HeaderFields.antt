-- The fields of a head.
use Rattle.std.specs.Prelude.{ℕ, List, map, filter}
use Rattle.std.specs.Str.{str_eq_ignore_ascii_case}
use Rattle.wire_head.specs.declared.response_head.Field.{Field}

-- the values under a name, in any letter case
abbrev pub values_of : List ℕ → List Field → List (List ℕ)
values_of name fields = map (λ f. f.value) (filter (λ f. str_eq_ignore_ascii_case f.name name) fields)
