use Rattle.std.proofs.Common.{◌≡◌, ◌+◌, ◌++◌, take, drop, Some, ap, arith}
use Rattle.std.proofs.lemmas.Grind.{common_steps}
use Rattle.link_trait.proofs.Fronts.{read_front}
use Rattle.link_trait.proofs.memory.MemSourceSource.read.Goals as goal

pub returns-clause-left : goal.returns-clause-left
returns-clause-left c =
    let at = c.self.inside.at in
    let bytes = c.self.inside.bytes in
    let n = c.copy_front-count.result in
    let front : drop at bytes ≡ take n c.copy_front-count.new.buf ++ drop (at + n) bytes = grind (arith, read_front) in
    let left : c.args.self.now.left ≡ drop at bytes = grind (arith, common_steps) in
    rw left (ap Some front)
