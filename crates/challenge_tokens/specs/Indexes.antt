-- A set of names beside the parameters that have them.
use Rattle.std.specs.Prelude.{ℕ, Bool, ⊤, List, Option, Some, None, ◌≡◌}
use Rattle.std.specs.Ordering.{nat_cmp}
use Rattle.std.specs.Cmp.Lexicographic.{slice_cmp}
use Rattle.std.specs.BTreeSet.{BTreeSet, contains_by}
use Rattle.std.specs.Global.{Vec}
use Rattle.challenge_tokens.specs.declared.params.Param.{Param}
use Rattle.challenge_tokens.specs.Names.{has_name}

-- the name is in the set
abbrev pub has_key : List ℕ → BTreeSet (Vec ℕ) → Bool
has_key name names = contains_by (λ k. slice_cmp nat_cmp name k.items) names

-- the set has exactly the names of the parameters
abbrev pub IsIndexOf : BTreeSet (Vec ℕ) → List Param → Type 0
IsIndexOf names ps = (name : List ℕ) → has_key name names ≡ has_name name ps

-- the same, where there is a set
abbrev pub IsKnown : Option (BTreeSet (Vec ℕ)) → List Param → Type 0
IsKnown None ps = ⊤
IsKnown (Some names) ps = IsIndexOf names ps
