use Rattle.std.proofs.Common.{◌∷◌, ◌+◌, sym, subst, ap, ◌∙◌}
use Rattle.spaces.specs.declared.site.Target.TheVariants.{Server, Proxy}
use Rattle.auth_runs.specs.declared.event.Event.TheVariants.{Replied}
use Rattle.auth_runs.specs.declared.event.Outcome.TheVariants.{Refused}
use Rattle.auth_runs.specs.declared.event.Why.TheVariants.{Rounds}
use Rattle.request_machine.specs.declared.stage.Stage.TheVariants.{Close}
use Rattle.request_machine.specs.Told.{held_last, unless_it}
use Rattle.request_machine.specs.Kept.{Kept, Ties}
use Rattle.request_machine.proofs.Reading.{all_rounds}
use Rattle.request_machine.proofs.Decided.{last_ties}
use Rattle.request_machine.proofs.Deciding.{last_of}
use Rattle.request_machine.proofs.machine.Machine.last_round.Goals as goal

pub returns-clause-ties : goal.returns-clause-ties
returns-clause-ties c = λ s some is t.
    let view = c.self.view_is ∙ c.hold_last.ensures
    ∙ ap (λ (m : Kept). record m { proxy = held_last c.args.decides c.args.target Proxy m.proxy; server = held_last c.args.decides c.args.target Server m.server }) c.push.ensures in
    subst (λ (v : Kept). Ties s (record v { rounds = v.rounds + 1; code = c.args.reply.code; stays = c.args.reply.stays; stage = Close (record { outcome = Refused c.args.reply.code Rounds; proxy = c.unless_it.result; server = c.unless_it-2.result }) })) (sym view)
    (subst (λ g. Ties s (record c.args.self.now {
      past = Replied c.args.link c.args.reply ∷ c.args.self.now.past;
      proxy = held_last c.args.decides c.args.target Proxy c.args.self.now.proxy;
      server = held_last c.args.decides c.args.target Server c.args.self.now.server;
      rounds = c.args.self.now.rounds + 1;
      code = c.args.reply.code;
      stays = c.args.reply.stays;
      stage = Close (record { outcome = Refused c.args.reply.code Rounds; proxy = g; server = c.unless_it-2.result });
    })) (sym (c.unless_it.ensures ∙ ap (λ (v : Kept). unless_it c.args.target Proxy v.noted_proxy) view))
    (subst (λ g. Ties s (record c.args.self.now {
      past = Replied c.args.link c.args.reply ∷ c.args.self.now.past;
      proxy = held_last c.args.decides c.args.target Proxy c.args.self.now.proxy;
      server = held_last c.args.decides c.args.target Server c.args.self.now.server;
      rounds = c.args.self.now.rounds + 1;
      code = c.args.reply.code;
      stays = c.args.reply.stays;
      stage = Close (record { outcome = Refused c.args.reply.code Rounds; proxy = unless_it c.args.target Proxy c.args.self.now.noted_proxy; server = g });
    })) (sym (c.unless_it-2.ensures ∙ ap (λ (v : Kept). unless_it c.args.target Server v.noted_server) view))
    (last_ties s c.args.self.now c.args.link c.args.reply c.args.target c.args.decides c.requires.stage c.requires.reply (all_rounds c.args.self.now.rounds c.requires.last) (last_of s c.args.self.now c.args.reply c.args.target c.args.decides c.requires.ready some is t) t)))
