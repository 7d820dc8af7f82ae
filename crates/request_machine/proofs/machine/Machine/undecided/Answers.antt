use Rattle.std.proofs.Common.{◌+◌, sym, subst, ap, ◌∙◌}
use Rattle.spaces.specs.declared.site.Target.TheVariants.{Server, Proxy}
use Rattle.request_machine.specs.declared.stage.Stage.TheVariants.{Choose}
use Rattle.request_machine.specs.Told.{held_rejected}
use Rattle.request_machine.specs.Kept.{Kept, Ties}
use Rattle.request_machine.proofs.Reading.{few_rounds}
use Rattle.request_machine.proofs.Decided.{undecided_ties}
use Rattle.request_machine.proofs.Deciding.{undecided_of}
use Rattle.request_machine.proofs.machine.Machine.undecided.Goals as goal

pub returns-clause-ties : goal.returns-clause-ties
returns-clause-ties c = λ s none is t.
    subst (λ (v : Kept). Ties s (record v { stage = Choose c.args.target; rounds = v.rounds + 1; code = c.args.reply.code; stays = c.args.reply.stays }))
    (sym (c.self.view_is ∙ c.drop_held.ensures
    ∙ ap (λ (m : Kept). record m { proxy = held_rejected c.args.target Proxy m.proxy; server = held_rejected c.args.target Server m.server }) c.push.ensures))
    (undecided_ties s c.args.self.now c.args.link c.args.reply c.args.target c.requires.stage c.requires.reply (few_rounds c.args.self.now.rounds c.requires.few) (undecided_of s c.args.self.now c.args.reply c.args.target c.requires.ready none is t) t)
