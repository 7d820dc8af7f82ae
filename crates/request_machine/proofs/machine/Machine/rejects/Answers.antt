use Rattle.std.proofs.Common.{◌∷◌, ◌+◌, sym, subst, ◌∙◌}
use Rattle.auth_runs.specs.declared.event.Event.TheVariants.{Replied}
use Rattle.request_machine.specs.declared.decide.Decision.TheVariants.{Rejects}
use Rattle.request_machine.specs.declared.stage.Stage.TheVariants.{Reject as Rejecting}
use Rattle.request_machine.specs.Kept.{Kept, Ties}
use Rattle.request_machine.proofs.Reading.{few_rounds}
use Rattle.request_machine.proofs.Decided.{rejects_ties}
use Rattle.request_machine.proofs.Deciding.{decided_of, rejection_of}
use Rattle.request_machine.proofs.machine.Machine.rejects.Goals as goal

pub returns-clause-ties : goal.returns-clause-ties
returns-clause-ties c = λ s some is t.
    let by = decided_of s c.args.self.now c.args.reply c.args.target (Rejects c.args.gift) c.requires.ready some is t in
    let of = rejection_of s c.args.target by.held c.args.gift by.decision by.same in
    subst (λ (v : Kept). Ties s (record v { stage = Rejecting c.args.target c.args.gift; rounds = v.rounds + 1; code = c.args.reply.code; stays = c.args.reply.stays })) (sym (c.self.view_is ∙ c.push.ensures))
    (subst (λ g. Ties s (record c.args.self.now { past = Replied c.args.link c.args.reply ∷ c.args.self.now.past; stage = Rejecting c.args.target g; rounds = c.args.self.now.rounds + 1; code = c.args.reply.code; stays = c.args.reply.stays })) of.same_gift
    (rejects_ties s c.args.self.now c.args.link c.args.reply c.args.target by.held by.decision c.requires.stage c.requires.reply (few_rounds c.args.self.now.rounds c.requires.few) by.is_decided of.is_rejection t))
