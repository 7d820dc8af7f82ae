use Rattle.std.proofs.Common.{arith}
use Rattle.request_machine.proofs.Working.{pushed_less, less_left}
use Rattle.request_machine.proofs.Nearing.{read_nearer, replied_nearer}
use Rattle.request_machine.proofs.machine.Machine.replied.Goals as goal

pub returns-in-None-clause-less : goal.returns-in-None-clause-less
returns-in-None-clause-less c = less_left c.args.self.now c.answered.new.self (pushed_less c.args.self.now c.answered.new.self _ c.answered.ensures.past (let room = c.requires.room in omega (arith, room)))

pub returns-in-Ok-clause-less : goal.returns-in-Ok-clause-less
returns-in-Ok-clause-less c = less_left c.args.self.now c.challenged.new.self (pushed_less c.args.self.now c.challenged.new.self _ c.challenged.ensures.past (let room = c.requires.room in omega (arith, room)))

pub returns-in-None-clause-nearer : goal.returns-in-None-clause-nearer
returns-in-None-clause-nearer c = replied_nearer c.args.self.now c.answered.new.self c.args.link _ c.answered.ensures.past c.requires.room c.requires.stage

pub returns-in-Ok-clause-nearer : goal.returns-in-Ok-clause-nearer
returns-in-Ok-clause-nearer c = replied_nearer c.args.self.now c.challenged.new.self c.args.link _ c.challenged.ensures.past c.requires.room c.requires.stage

pub returns-in-Err-clause-nearer : goal.returns-in-Err-clause-nearer
returns-in-Err-clause-nearer c = read_nearer c.args.self.now c.spend.new.self c.args.link c.requires.stage c.spend.ensures.asks
