use Rattle.std.proofs.Common.{◌≡◌, take}
use Rattle.std.specs.Prelude.{map}
use Rattle.std.specs.List.{list_any}
use Rattle.spaces.specs.Paths.{covers}
use Rattle.plain_book.specs.Places.{noted_at}
use Rattle.plain_book.proofs.paths.is_covered.Given as goal

abbrev pub invariant-loop-one : goal.invariant-loop-one
invariant-loop-one l = l.found ≡ list_any (λ one. covers one.dir (noted_at l.roster l.entries l.target l.place).dir) (map (noted_at l.roster l.entries l.target) (take l.one-index l.held))
