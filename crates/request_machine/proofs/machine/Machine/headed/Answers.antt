use Rattle.std.proofs.Common.{◌∷◌, ◌+◌, None, false, sym, subst, ap, ◌∙◌, option_map, option_and_then}
use Rattle.auth_runs.specs.declared.event.Event.TheVariants.{Headed}
use Rattle.request_machine.specs.declared.stage.Stage.TheVariants.{Read}
use Rattle.request_machine.specs.Told.{gift_told, headed_told}
use Rattle.request_machine.specs.Kept.{Kept, Ties}
use Rattle.request_machine.proofs.Heading.{headed_ties}
use Rattle.request_machine.proofs.machine.Machine.headed.Goals as goal

pub returns-clause-ties : goal.returns-clause-ties
returns-clause-ties c = λ s same t.
    let l = c.self.inside.links in
    subst (λ (v : Kept). Ties s (record v { stage = Read l; drawn_proxy = None; drawn_server = None; heads = v.heads + 1; is_dialed = false }))
    (sym (c.self-2.view_is ∙ c.carry_on.ensures
    ∙ ap (λ (v : Kept). record v { proxy = option_map (headed_told l) v.proxy; server = option_map (headed_told l) v.server }) (c.note_carried.ensures
    ∙ ap (λ (v : Kept). record v { noted_proxy = option_and_then gift_told v.proxy; noted_server = option_and_then gift_told v.server }) c.push.ensures)))
    (subst (λ n. Ties s (record c.args.self.now {
      past = Headed n c.args.bytes ∷ c.args.self.now.past;
      stage = Read n;
      proxy = option_map (headed_told n) c.args.self.now.proxy;
      server = option_map (headed_told n) c.args.self.now.server;
      heads = c.args.self.now.heads + 1;
      is_dialed = false;
      drawn_proxy = None;
      drawn_server = None;
      noted_proxy = option_and_then gift_told c.args.self.now.proxy;
      noted_server = option_and_then gift_told c.args.self.now.server;
    })) (sym (ap (λ (v : Kept). v.links) c.self.view_is))
    (headed_ties s c.args.self.now c.args.request.now c.args.bytes c.requires.stage c.requires.dialed c.requires.proxy c.requires.server c.requires.unbound c.requires.undrawn_proxy c.requires.undrawn_server c.requires.bytes same t))
