use Rattle.request_machine.proofs.Beginning.{start_before}
use Rattle.std.proofs.Common.{◌≡◌}
use Rattle.request_machine.specs.Contexts.{spn_told}
use Rattle.request_machine.proofs.Working.{pushed_less, less_left}
use Rattle.request_machine.proofs.Nearing.{go_nearer, gone_nearer}
use Rattle.request_machine.proofs.Providing.{one_step, seen_more, tells_started}
use Rattle.request_machine.proofs.machine.Machine.start.Goals as goal

pub returns-in-Ok-clause-ties : goal.returns-in-Ok-clause-ties
returns-in-Ok-clause-ties g c = λ s t.
    let before = start_before s c.args.self.now c.args.target c.requires.stage c.requires.starting t in
    c.stepped.ensures.ties s before.0 before.1 t

pub returns-in-Ok-clause-past : goal.returns-in-Ok-clause-past
returns-in-Ok-clause-past g c = seen_more c.begin-stepped.result.1 c.args.target c.args.self.now c.stepped.new.self c.stepped.ensures.seen

pub returns-in-Ok-clause-provider : goal.returns-in-Ok-clause-provider
returns-in-Ok-clause-provider g c =
    let named : c.as_slice.result.now ≡ spn_told c.args.request.now c.args.target = cc (c.as_slice.ensures, c.in-Ok.ensures, c.spn.view_is) in
    let e = c.begin-stepped.ensures in
    tells_started c.args.request.now g.T.Tokens.sticks c.args.self.now c.stepped.new.self c.args.target c.as_slice.result.now c.begin-stepped.result.1 _ _ _ _ _ _ _ _
    c.requires.stage c.requires.starting named e.begun e.script e.later e.failed c.stepped.ensures.seen

pub returns-in-Ok-clause-less : goal.returns-in-Ok-clause-less
returns-in-Ok-clause-less g c =
    less_left c.args.self.now c.stepped.new.self
    (pushed_less c.args.self.now c.stepped.new.self _ (one_step c.begin-stepped.result.1 c.args.target c.args.self.now c.stepped.new.self c.stepped.ensures.seen).1 c.requires.room)

pub returns-in-Ok-clause-nearer : goal.returns-in-Ok-clause-nearer
returns-in-Ok-clause-nearer g c =
    gone_nearer c.args.self.now c.stepped.new.self _ (one_step c.begin-stepped.result.1 c.args.target c.args.self.now c.stepped.new.self c.stepped.ensures.seen).1 c.requires.room c.requires.stage

pub returns-in-Err-clause-nearer : goal.returns-in-Err-clause-nearer
returns-in-Err-clause-nearer g c = go_nearer c.args.self.now c.spend.new.self c.requires.stage c.spend.ensures.asks
