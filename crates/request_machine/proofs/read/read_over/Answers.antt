use Rattle.request_machine.proofs.Fitting.{fit_read}
use Rattle.request_machine.proofs.read.read_over.Goals as goal

pub returns-clause-fit : goal.returns-clause-fit
returns-clause-fit g c = fit_read c.args.link c.args.method (g.D.Dialer.streams c.args.dialer.now) (g.D.Dialer.traffic c.args.dialer.now) (g.D.Dialer.traffic c.read.new.dialer) c.read.result c.carried.ensures.fit c.carried.ensures.last_code c.read.ensures.reply
