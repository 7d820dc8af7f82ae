use Rattle.std.proofs.Common.{◌∷◌, ◌+◌, Some, sym, subst, ap, ◌∙◌}
use Rattle.auth_runs.specs.declared.event.Event.TheVariants.{Replied}
use Rattle.request_machine.specs.declared.decide.Decision.TheVariants.{Renews}
use Rattle.request_machine.specs.declared.stage.Stage.TheVariants.{NameRenewal}
use Rattle.request_machine.specs.Kept.{Kept, Ties}
use Rattle.request_machine.proofs.Reading.{few_rounds}
use Rattle.request_machine.proofs.Decided.{IsDecided, stale_ties}
use Rattle.request_machine.proofs.Deciding.{decided_of, renewal_of}
use Rattle.request_machine.proofs.machine.Machine.stale.Goals as goal

pub returns-clause-ties : goal.returns-clause-ties
returns-clause-ties c = λ s some is t.
    let by = decided_of s c.args.self.now c.args.reply c.args.target (Renews c.args.gift c.args.terms) c.requires.ready some is t in
    let of = renewal_of by.held c.args.gift c.args.terms by.decision by.same in
    subst (λ (v : Kept). Ties s (record v { stage = NameRenewal c.args.target c.args.gift; rounds = v.rounds + 1; code = c.args.reply.code; stays = c.args.reply.stays }))
    (sym (c.self.view_is ∙ c.push.ensures ∙ ap (λ (m : Kept). record m { past = Replied c.args.link c.args.reply ∷ m.past }) c.put_terms.ensures))
    (subst (λ g. Ties s (record c.args.self.now {
      past = Replied c.args.link c.args.reply ∷ c.args.self.now.past;
      stage = NameRenewal c.args.target g;
      rounds = c.args.self.now.rounds + 1;
      code = c.args.reply.code;
      stays = c.args.reply.stays;
      unnamed_terms = Some c.args.terms;
    })) of.same_gift
    (stale_ties s c.args.self.now c.args.link c.args.reply c.args.target by.held of.offered c.args.terms c.requires.stage c.requires.reply (few_rounds c.args.self.now.rounds c.requires.few)
    (subst (λ d. IsDecided s c.args.self.now c.args.reply c.args.target by.held d) of.same by.is_decided) of.stale t))
