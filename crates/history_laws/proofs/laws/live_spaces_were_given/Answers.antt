use Rattle.history_laws.proofs.Holding.{given_and_kept, live_from}
use Rattle.history_laws.proofs.laws.live_spaces_were_given.Goals as goal

pub returns : goal.returns
returns c = record { given = given_and_kept; live = live_from }
