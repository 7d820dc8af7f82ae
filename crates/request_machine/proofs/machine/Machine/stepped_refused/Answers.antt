use Rattle.std.proofs.Common.{◌≡◌, true, ◌∷◌, ◌+◌, sym, subst, ap, ◌∙◌}
use Rattle.auth_runs.specs.declared.event.Event.{Event}
use Rattle.auth_runs.specs.declared.event.Event.TheVariants.{Stepped}
use Rattle.auth_runs.specs.declared.event.Why.TheVariants.{Rounds}
use Rattle.request_machine.specs.Asking.{refused_by}
use Rattle.request_machine.specs.Contexts.{seen_said, none_said, stage_refused}
use Rattle.request_machine.specs.Kept.{Kept, Ties}
use Rattle.request_machine.specs.Turns.{is_asking}
use Rattle.request_machine.proofs.Nearing.{refused_asks}
use Rattle.request_machine.proofs.Refusals.{held_of, said_ties}
use Rattle.request_machine.proofs.machine.Machine.stepped_refused.Goals as goal

pub returns-clause-ties : goal.returns-clause-ties
returns-clause-ties c = λ s asking b t.
    let m = c.args.self.now in
    let of = held_of _ c.args.gift c.requires.some c.requires.gift in
    let step = ap (λ seen. Stepped c.args.target seen) c.seen_said.ensures in
    let view = c.self.view_is ∙ c.push.ensures in
    let none = c.none_said-self-inside.ensures ∙ ap (λ (v : Kept). none_said v.has_none c.args.said) view in
    let stage = c.stage_refused-self-inside.ensures.stage ∙ ap (λ (v : Kept). stage_refused v.rounds c.args.target c.args.gift c.refused_by-closing.result) view
    ∙ ap (λ closing. stage_refused m.rounds c.args.target c.args.gift closing) c.refused_by-closing.ensures
    ∙ ap (λ gift. stage_refused m.rounds c.args.target gift (refused_by m Rounds)) (sym of.2) in
    subst (λ (v : Kept). Ties s (record v { has_none = c.none_said-self-inside.result; stage = c.stage_refused-self-inside.result; rounds = v.rounds + 1 })) (sym view)
    (subst (λ (e : Event). Ties s (record m { past = e ∷ m.past; has_none = c.none_said-self-inside.result; stage = c.stage_refused-self-inside.result; rounds = m.rounds + 1 })) (sym step)
    (subst (λ n. Ties s (record m { past = Stepped c.args.target (seen_said c.args.said) ∷ m.past; has_none = n; stage = c.stage_refused-self-inside.result; rounds = m.rounds + 1 })) (sym none)
    (subst (λ st. Ties s (record m { past = Stepped c.args.target (seen_said c.args.said) ∷ m.past; has_none = none_said m.has_none c.args.said; stage = st; rounds = m.rounds + 1 })) (sym stage)
    (said_ties s m c.args.target asking c.args.said of.0 b c.requires.begun of.1 t))))

pub returns-clause-asks : goal.returns-clause-asks
returns-clause-asks c =
    let m = c.args.self.now in
    subst (λ (v : Kept). is_asking (record v { has_none = c.none_said-self-inside.result; stage = c.stage_refused-self-inside.result; rounds = v.rounds + 1 }) ≡ true) (sym (c.self.view_is ∙ c.push.ensures))
    (refused_asks (record m { past = Stepped c.args.target c.seen_said.result ∷ m.past; has_none = c.none_said-self-inside.result; stage = c.stage_refused-self-inside.result; rounds = m.rounds + 1 }) _ _ _ _
    c.stage_refused-self-inside.ensures.stage)
