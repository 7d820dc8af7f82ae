-- The partitions of a legal and fresh history are apart.
use Rattle.std.proofs.Common.{IsTrue, ℕ, List}
use Rattle.auth_events.specs.Tables.{AreNames}
use Rattle.auth_events.specs.Book.{IsLegal}
use Rattle.auth_events.specs.Fresh.{fresh}
use Rattle.isolation.proofs.Law.{alone_legal}
use Rattle.isolation.proofs.FreshLaw.{alone_fresh}
use Rattle.auth_runs.specs.Runs.{Run, history}
use Rattle.run_rule.specs.Runs.{IsApart}

pub apart_in : (run : Run) → AreNames run.names → IsLegal run.roster run.names (history run) → IsTrue (fresh run.names (history run)) → (partition : List ℕ) → IsApart run partition
apart_in run named legal drawn partition =
    (alone_legal run.roster run.names partition named (history run) legal, alone_fresh run.roster run.names named partition (history run) legal drawn)
