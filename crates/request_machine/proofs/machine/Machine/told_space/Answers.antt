use Rattle.request_machine.proofs.Working.{space_less}
use Rattle.request_machine.specs.Work.{work_left}
use Rattle.std.proofs.Common.{None, sym, subst, ap, ◌∙◌, option_map, ◌<◌}
use Rattle.request_machine.specs.declared.stage.Stage.TheVariants.{Go}
use Rattle.request_machine.specs.Told.{with_space}
use Rattle.request_machine.specs.Changed.{holding, put_held}
use Rattle.request_machine.specs.Linked.{line}
use Rattle.request_machine.specs.Kept.{Kept, Ties}
use Rattle.request_machine.proofs.Learning.{put_twice, put_past, put_line, space_ties}
use Rattle.request_machine.proofs.machine.Machine.told_space.Goals as goal

pub returns-clause-ties : goal.returns-clause-ties
returns-clause-ties c = λ s told t.
    subst (λ (v : Kept). Ties s (record v { stage = Go }))
    (sym (c.self.view_is ∙ c.put.ensures
    ∙ ap (put_held c.args.target c.with_space.result) c.take-before.ensures.rest
    ∙ ap (λ h. put_held c.args.target h (put_held c.args.target None c.args.self.now)) (c.with_space.ensures ∙ ap (option_map (with_space c.args.space)) c.take-before.ensures.value)
    ∙ put_twice c.args.target (option_map (with_space c.args.space) (holding c.args.self.now c.args.target)) c.args.self.now))
    (space_ties s c.args.self.now c.args.target c.args.space c.requires.stage told t)

pub returns-clause-past : goal.returns-clause-past
returns-clause-past c =
    ap (λ (v : Kept). v.past) (c.self.view_is ∙ c.put.ensures ∙ ap (put_held c.args.target c.with_space.result) c.take-before.ensures.rest)
    ∙ put_past c.args.target c.with_space.result c.args.self.now

pub returns-clause-kept : goal.returns-clause-kept
returns-clause-kept c =
    ap (λ (v : Kept). line v) (c.self.view_is ∙ c.put.ensures ∙ ap (put_held c.args.target c.with_space.result) c.take-before.ensures.rest)
    ∙ put_line c.args.target c.with_space.result c.args.self.now

pub returns-clause-less : goal.returns-clause-less
returns-clause-less c = λ lack.
    subst (λ (v : Kept). work_left (record v { stage = Go }) < work_left c.args.self.now)
    (sym (c.self.view_is ∙ c.put.ensures
    ∙ ap (put_held c.args.target c.with_space.result) c.take-before.ensures.rest
    ∙ ap (λ h. put_held c.args.target h (put_held c.args.target None c.args.self.now)) (c.with_space.ensures ∙ ap (option_map (with_space c.args.space)) c.take-before.ensures.value)
    ∙ put_twice c.args.target (option_map (with_space c.args.space) (holding c.args.self.now c.args.target)) c.args.self.now))
    (space_less c.args.self.now c.args.target c.args.space c.requires.stage lack)
