use Rattle.std.proofs.Common.{true, ◌∷◌, option_map, sym, subst, ap, ◌∙◌}
use Rattle.auth_runs.specs.declared.event.Event.TheVariants.{LinkLost}
use Rattle.request_machine.specs.Contexts.{stage_lost}
use Rattle.request_machine.specs.Kept.{Kept, Ties}
use Rattle.request_machine.specs.Told.{lost_told}
use Rattle.request_machine.proofs.Losing.{lost_ties}
use Rattle.request_machine.proofs.machine.Machine.lose.Goals as goal

pub returns-clause-ties : goal.returns-clause-ties
returns-clause-ties c = λ s t.
    let m = c.args.self.now in
    let view = c.self.view_is ∙ c.lose_contexts.ensures ∙ ap (λ (v : Kept). record v { proxy = option_map lost_told v.proxy; server = option_map lost_told v.server }) c.push.ensures in
    let stage = c.stage_lost-self-inside.ensures.stage ∙ ap (λ (v : Kept). stage_lost v.has_lost c.refused_by-closing.result) view ∙ ap (stage_lost m.has_lost) c.refused_by-closing.ensures in
    subst (λ (v : Kept). Ties s (record v { stage = c.stage_lost-self-inside.result; has_lost = true })) (sym view)
    (subst (λ st. Ties s (record m { past = LinkLost c.args.link ∷ m.past; stage = st; proxy = option_map lost_told m.proxy; server = option_map lost_told m.server; has_lost = true })) (sym stage)
    (lost_ties s m c.args.link c.requires.stage t))
