use Rattle.std.proofs.Common.{ap}
use Rattle.request_machine.specs.Linked.{way, is_ending}
use Rattle.request_machine.specs.Provided.{steps}
use Rattle.request_machine.proofs.Nearing.{go_nearer}
use Rattle.request_machine.proofs.Providing.{onward_ends, same_step_faults, tells_no_step}
use Rattle.request_machine.proofs.machine.Machine.lack.Goals as goal

pub returns-in-Piece-clause-provider : goal.returns-in-Piece-clause-provider
returns-in-Piece-clause-provider g c =
    tells_no_step c.args.request.now g.T.Tokens.sticks c.args.self.now c.learn.new.self _ (ap steps c.learn.ensures.past)
    (onward_ends c.args.self.now c.learn.new.self (ap (λ st. is_ending (way st)) c.requires.stage))

pub returns-in-Piece-clause-steps_quiet : goal.returns-in-Piece-clause-steps_quiet
returns-in-Piece-clause-steps_quiet g c = λ quiet. (quiet, same_step_faults c.args.self.now.past c.learn.new.self.past (ap steps c.learn.ensures.past))

pub returns-in-Piece-clause-nearer : goal.returns-in-Piece-clause-nearer
returns-in-Piece-clause-nearer g c = go_nearer c.args.self.now c.learn.new.self c.requires.stage c.learn.ensures.asks

pub returns-in-Ended-clause-provider : goal.returns-in-Ended-clause-provider
returns-in-Ended-clause-provider g c =
    tells_no_step c.args.request.now g.T.Tokens.sticks c.args.self.now c.spend.new.self _ (ap steps c.spend.ensures.past)
    (onward_ends c.args.self.now c.spend.new.self (ap (λ st. is_ending (way st)) c.requires.stage))

pub returns-in-Ended-clause-steps_quiet : goal.returns-in-Ended-clause-steps_quiet
returns-in-Ended-clause-steps_quiet g c = λ quiet. (quiet, same_step_faults c.args.self.now.past c.spend.new.self.past (ap steps c.spend.ensures.past))

pub returns-in-Ended-clause-nearer : goal.returns-in-Ended-clause-nearer
returns-in-Ended-clause-nearer g c = go_nearer c.args.self.now c.spend.new.self c.requires.stage c.spend.ensures.asks
