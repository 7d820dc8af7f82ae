use Rattle.std.proofs.Common.{◌≡◌, ◌++◌, ◌∷◌, take}
use Rattle.std.specs.List.{flat_map}
use Rattle.auth_text.specs.Quoted.{escaped_byte}
use Rattle.auth_text.proofs.quoted.push_parts.Given as goal

abbrev pub invariant-loop-b : goal.invariant-loop-b
invariant-loop-b l = l.out ≡ l.fn.out ++ 34 ∷ flat_map escaped_byte (take l.b-index l.value)
