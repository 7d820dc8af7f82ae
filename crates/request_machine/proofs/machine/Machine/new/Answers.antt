use Rattle.std.proofs.Common.{sym}
use Rattle.request_machine.proofs.Starting.{ties_of_setting}
use Rattle.request_machine.proofs.machine.Machine.new.Goals as goal

pub returns-clause-ties : goal.returns-clause-ties
returns-clause-ties c = ties_of_setting c.args.roster.now c.args.request c.args.seed c.in-Some.found.now c.unbegun.result (sym c.in-Some.ensures) c.unbegun.ensures.ties
