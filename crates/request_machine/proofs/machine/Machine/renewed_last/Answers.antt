use Rattle.request_machine.proofs.Working.{behind_free}
use Rattle.request_machine.specs.Work.{is_waiting}
use Rattle.std.proofs.Common.{◌∷◌, IsTrue, sym, subst, ap, ◌∙◌, ◌≡◌, false}
use Rattle.spaces.specs.declared.site.Target.TheVariants.{Server, Proxy}
use Rattle.auth_events.specs.declared.journal.Call.TheVariants.{Renew}
use Rattle.auth_runs.specs.declared.event.Event.TheVariants.{Called}
use Rattle.request_machine.specs.Told.{held_chosen}
use Rattle.request_machine.specs.Kept.{Kept, Ties}
use Rattle.request_machine.specs.Linked.{way, goes_on}
use Rattle.request_machine.proofs.Driving.{behind_ends}
use Rattle.request_machine.proofs.Renewing.{renewed_last_ties}
use Rattle.request_machine.proofs.machine.Machine.renewed_last.Goals as goal

pub returns-clause-ties : goal.returns-clause-ties
returns-clause-ties c = λ s suited t.
    subst (λ (v : Kept). Ties s (record v { stage = c.stage_behind-self-inside.result }))
    (sym (c.self.view_is ∙ c.hold.ensures
    ∙ ap (λ (m : Kept). record m { proxy = held_chosen c.args.target c.args.gift c.args.terms Proxy m.proxy; server = held_chosen c.args.target c.args.gift c.args.terms Server m.server }) c.push.ensures))
    (subst (λ r. Ties s (record c.args.self.now {
      past = Called (Renew c.args.gift c.args.terms) c.args.reply ∷ c.args.self.now.past;
      proxy = held_chosen c.args.target c.args.gift c.args.terms Proxy c.args.self.now.proxy;
      server = held_chosen c.args.target c.args.gift c.args.terms Server c.args.self.now.server;
      stage = r;
    })) (sym c.stage_behind-self-inside.ensures)
    (renewed_last_ties s c.args.self.now c.args.target c.args.gift c.args.terms c.args.closing c.args.reply c.requires.stage suited t))

pub returns-clause-goes : goal.returns-clause-goes
returns-clause-goes c =
    subst (λ st. IsTrue (goes_on (way c.args.self.now.stage) (way st))) (sym c.stage_behind-self-inside.ensures) (behind_ends (way c.args.self.now.stage) c.args.target c.args.closing)

pub returns-clause-free : goal.returns-clause-free
returns-clause-free c = subst (λ st. is_waiting st ≡ false) (sym c.stage_behind-self-inside.ensures) (behind_free c.args.target c.args.closing)
