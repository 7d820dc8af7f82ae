-- There are at most 64 entries of each request.
use Rattle.std.proofs.Common.{arith, length, ap}
use Rattle.auth_events.proofs.RoomLemmas.{length-le-room}
use Rattle.auth_events.proofs.ledger.Ledger.entries.Goals as goal

pub returns-clause-few : goal.returns-clause-few
returns-clause-few c =
    let ledger = c.args.self.now in
    omega (arith, ap length c.entries.ensures.entries, length-le-room ledger.journal.requests ledger.journal.entries c.entries.ensures.within, ledger.requests, ledger.few)
