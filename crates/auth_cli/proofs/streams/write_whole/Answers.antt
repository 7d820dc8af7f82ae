use Rattle.std.proofs.Common.{arith}
use Rattle.auth_cli.proofs.Growing.{append-piece}
use Rattle.auth_cli.proofs.streams.write_whole.Goals as goal

pub pieces-preserved : goal.pieces-preserved
pieces-preserved g c =
    (append-piece _ _ _ _ _ _ _ c.behind-rest.ensures.rest c.pieces.invariant.0 c.in-Bytes.ensures.held, omega (arith, c.in-Bytes.ensures.later), omega (arith, c.in-Bytes.ensures.count))
