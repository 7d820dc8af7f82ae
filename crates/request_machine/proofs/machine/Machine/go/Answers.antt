use Rattle.std.proofs.Common.{inl, ap, refl, sym, ◌∙◌}
use Rattle.request_machine.specs.Failed.{link_faults}
use Rattle.request_machine.proofs.Answering.{unprompted_line}
use Rattle.request_machine.proofs.Carrying.{tells_same, tells_stepped}
use Rattle.request_machine.proofs.Failing.{tells_link_still}
use Rattle.request_machine.proofs.Driving.{driven_same}
use Rattle.link_trait.specs.Told.{grown}
use Rattle.request_machine.specs.Linked.{way, is_ending}
use Rattle.request_machine.specs.Provided.{steps}
use Rattle.request_machine.proofs.Nearing.{go_nearer}
use Rattle.request_machine.proofs.Providing.{onward_ends, same_step_faults, step_dials, step_insides, step_link_faults, step_unprompted, tells_no_step}
use Rattle.request_machine.proofs.machine.Machine.go.Goals as goal

pub returns-in-Err-clause-driven : goal.returns-in-Err-clause-driven
returns-in-Err-clause-driven g c = driven_same c.args.self.now c.lack.new.self _ _ c.lack.ensures.kept c.lack.ensures.goes c.requires.linked c.requires.links c.requires.told

pub returns-in-Some-clause-driven : goal.returns-in-Some-clause-driven
returns-in-Some-clause-driven g c = driven_same c.args.self.now c.draws_proxy.new.self _ _ c.draws_proxy.ensures.kept c.draws_proxy.ensures.goes c.requires.linked c.requires.links c.requires.told

pub returns-in-Some-nonce_next-clause-driven : goal.returns-in-Some-nonce_next-clause-driven
returns-in-Some-nonce_next-clause-driven g c = driven_same c.args.self.now c.draws_server.new.self _ _ c.draws_server.ensures.kept c.draws_server.ensures.goes c.requires.linked c.requires.links c.requires.told

pub returns-in-Err-clause-unprompted : goal.returns-in-Err-clause-unprompted
returns-in-Err-clause-unprompted g c = step_unprompted c.args.self.now c.lack.new.self c.lack.ensures.past c.lack.ensures.kept

pub returns-in-Err-clause-traffic : goal.returns-in-Err-clause-traffic
returns-in-Err-clause-traffic g c = tells_stepped c.args.request.now c.args.self.now c.lack.new.self _ _ (ap (λ st. is_ending (way st)) c.requires.stage) c.lack.ensures.past c.lack.ensures.kept

pub returns-in-Err-clause-faults : goal.returns-in-Err-clause-faults
returns-in-Err-clause-faults g c = tells_link_still g.D.Dialer.sticks c.args.self.now c.lack.new.self _ _ (step_link_faults c.args.self.now.past c.lack.new.self.past c.lack.ensures.past) refl

pub returns-in-Some-clause-unprompted : goal.returns-in-Some-clause-unprompted
returns-in-Some-clause-unprompted g c = unprompted_line c.args.self.now c.draws_proxy.new.self c.draws_proxy.ensures.past c.draws_proxy.ensures.kept

pub returns-in-Some-clause-traffic : goal.returns-in-Some-clause-traffic
returns-in-Some-clause-traffic g c = tells_same c.args.request.now c.args.self.now c.draws_proxy.new.self _ _ _ c.draws_proxy.ensures.past c.draws_proxy.ensures.kept c.draws_proxy.ensures.goes refl

pub returns-in-Some-clause-faults : goal.returns-in-Some-clause-faults
returns-in-Some-clause-faults g c = tells_link_still g.D.Dialer.sticks c.args.self.now c.draws_proxy.new.self _ _ (ap link_faults c.draws_proxy.ensures.past) refl

pub returns-in-Some-nonce_next-clause-unprompted : goal.returns-in-Some-nonce_next-clause-unprompted
returns-in-Some-nonce_next-clause-unprompted g c = unprompted_line c.args.self.now c.draws_server.new.self c.draws_server.ensures.past c.draws_server.ensures.kept

pub returns-in-Some-nonce_next-clause-traffic : goal.returns-in-Some-nonce_next-clause-traffic
returns-in-Some-nonce_next-clause-traffic g c = tells_same c.args.request.now c.args.self.now c.draws_server.new.self _ _ _ c.draws_server.ensures.past c.draws_server.ensures.kept c.draws_server.ensures.goes refl

pub returns-in-Some-nonce_next-clause-faults : goal.returns-in-Some-nonce_next-clause-faults
returns-in-Some-nonce_next-clause-faults g c = tells_link_still g.D.Dialer.sticks c.args.self.now c.draws_server.new.self _ _ (ap link_faults c.draws_server.ensures.past) refl

pub returns-in-Err-clause-quiet : goal.returns-in-Err-clause-quiet
returns-in-Err-clause-quiet g c = λ quiet. (quiet, step_link_faults c.args.self.now.past c.lack.new.self.past c.lack.ensures.past)

pub returns-in-Err-clause-dials : goal.returns-in-Err-clause-dials
returns-in-Err-clause-dials g c = λ s before of t told. told ∙ ap (grown before) (sym (step_dials s c.args.self.now.past c.lack.new.self.past c.lack.ensures.past))

pub returns-in-Err-clause-insides : goal.returns-in-Err-clause-insides
returns-in-Err-clause-insides g c = step_insides c.args.self.now.past c.lack.new.self.past c.lack.ensures.past

pub returns-in-Some-clause-provider : goal.returns-in-Some-clause-provider
returns-in-Some-clause-provider g c =
    tells_no_step c.args.request.now g.T.Tokens.sticks c.args.self.now c.draws_proxy.new.self _ (ap steps c.draws_proxy.ensures.past)
    (onward_ends c.args.self.now c.draws_proxy.new.self (ap (λ st. is_ending (way st)) c.requires.stage))

pub returns-in-Some-clause-steps_quiet : goal.returns-in-Some-clause-steps_quiet
returns-in-Some-clause-steps_quiet g c = λ quiet. (quiet, same_step_faults c.args.self.now.past c.draws_proxy.new.self.past (ap steps c.draws_proxy.ensures.past))

pub returns-in-Some-clause-touched : goal.returns-in-Some-clause-touched
returns-in-Some-clause-touched g c = inl (refl, ap steps c.draws_proxy.ensures.past)

pub returns-in-Some-clause-nearer : goal.returns-in-Some-clause-nearer
returns-in-Some-clause-nearer g c = go_nearer c.args.self.now c.draws_proxy.new.self c.requires.stage c.draws_proxy.ensures.asks

pub returns-in-Some-nonce_next-clause-provider : goal.returns-in-Some-nonce_next-clause-provider
returns-in-Some-nonce_next-clause-provider g c =
    tells_no_step c.args.request.now g.T.Tokens.sticks c.args.self.now c.draws_server.new.self _ (ap steps c.draws_server.ensures.past)
    (onward_ends c.args.self.now c.draws_server.new.self (ap (λ st. is_ending (way st)) c.requires.stage))

pub returns-in-Some-nonce_next-clause-steps_quiet : goal.returns-in-Some-nonce_next-clause-steps_quiet
returns-in-Some-nonce_next-clause-steps_quiet g c = λ quiet. (quiet, same_step_faults c.args.self.now.past c.draws_server.new.self.past (ap steps c.draws_server.ensures.past))

pub returns-in-Some-nonce_next-clause-touched : goal.returns-in-Some-nonce_next-clause-touched
returns-in-Some-nonce_next-clause-touched g c = inl (refl, ap steps c.draws_server.ensures.past)

pub returns-in-Some-nonce_next-clause-nearer : goal.returns-in-Some-nonce_next-clause-nearer
returns-in-Some-nonce_next-clause-nearer g c = go_nearer c.args.self.now c.draws_server.new.self c.requires.stage c.draws_server.ensures.asks

pub returns-then-not-self-clause-provider : goal.returns-then-not-self-clause-provider
returns-then-not-self-clause-provider g c =
    tells_no_step c.args.request.now g.T.Tokens.sticks c.args.self.now c.dial.new.self _ c.dial.ensures.steps
    (onward_ends c.args.self.now c.dial.new.self (ap (λ st. is_ending (way st)) c.requires.stage))

pub returns-then-not-self-clause-steps_quiet : goal.returns-then-not-self-clause-steps_quiet
returns-then-not-self-clause-steps_quiet g c = λ quiet. (quiet, same_step_faults c.args.self.now.past c.dial.new.self.past c.dial.ensures.steps)

pub returns-clause-provider : goal.returns-clause-provider
returns-clause-provider g c =
    tells_no_step c.args.request.now g.T.Tokens.sticks c.args.self.now c.send.new.self _ c.send.ensures.steps
    (onward_ends c.args.self.now c.send.new.self (ap (λ st. is_ending (way st)) c.requires.stage))

pub returns-clause-steps_quiet : goal.returns-clause-steps_quiet
returns-clause-steps_quiet g c = λ quiet. (quiet, same_step_faults c.args.self.now.past c.send.new.self.past c.send.ensures.steps)
