use Rattle.std.proofs.Common.{◌≡◌, ◌≤◌, take, not}
use Rattle.std.specs.Prelude.{map, filter}
use Rattle.spaces.specs.Paths.{covers}
use Rattle.plain_book.specs.Places.{noted_at}
use Rattle.arrayvec.specs.ArrayVec.{array_vec_len}
use Rattle.plain_book.proofs.paths.uncovered.Given as goal

abbrev pub invariant-loop-one : goal.invariant-loop-one
invariant-loop-one l = record { few : array_vec_len l.kept ≤ l.one-index; kept : map (noted_at l.roster l.entries l.target) l.kept.items ≡ filter (λ one. not (covers (noted_at l.roster l.entries l.target l.place).dir one.dir)) (map (noted_at l.roster l.entries l.target) (take l.one-index l.held)) }
