use Rattle.std.proofs.Common.{◌∷◌, None, sym, subst, ap, ◌∙◌, option_map}
use Rattle.auth_runs.specs.declared.event.Event.TheVariants.{Stepped}
use Rattle.link_trait.specs.declared.steps.StepSeen.TheVariants.{Token}
use Rattle.request_machine.specs.declared.stage.Stage.TheVariants.{Go}
use Rattle.request_machine.specs.Contexts.{with_context}
use Rattle.request_machine.specs.Changed.{holding, put_held}
use Rattle.request_machine.specs.Linked.{line}
use Rattle.request_machine.specs.Kept.{Kept, Ties}
use Rattle.request_machine.proofs.Learning.{put_twice, put_past, put_line}
use Rattle.request_machine.proofs.Tokens.{token_ties, stepped_put}
use Rattle.request_machine.proofs.machine.Machine.stepped_token.Goals as goal

pub returns-clause-ties : goal.returns-clause-ties
returns-clause-ties c = λ s asking b t.
    subst (λ (v : Kept). Ties s (record v { stage = Go }))
    (sym (c.self.view_is ∙ c.put.ensures
    ∙ ap (put_held c.args.target c.with_context.result) c.take-before.ensures.rest
    ∙ ap (λ h. put_held c.args.target h (put_held c.args.target None c.push.new.self)) (c.with_context.ensures ∙ ap (option_map (with_context c.args.live)) c.take-before.ensures.value)
    ∙ put_twice c.args.target (option_map (with_context c.args.live) (holding c.push.new.self c.args.target)) c.push.new.self
    ∙ ap (λ (v : Kept). put_held c.args.target (option_map (with_context c.args.live) (holding v c.args.target)) v) c.push.ensures
    ∙ stepped_put c.args.target (with_context c.args.live) (Stepped c.args.target (Token c.args.token) ∷ c.args.self.now.past) c.args.self.now))
    (subst (λ live. Ties s (record (put_held c.args.target (option_map (with_context live) (holding c.args.self.now c.args.target)) c.args.self.now) {
      past = Stepped c.args.target (Token c.args.token) ∷ c.args.self.now.past;
      stage = Go;
    })) c.requires.same
    (token_ties s c.args.self.now c.args.target asking c.args.token b c.requires.some t))

pub returns-clause-past : goal.returns-clause-past
returns-clause-past c =
    ap (λ (v : Kept). v.past) (c.self.view_is ∙ c.put.ensures ∙ ap (put_held c.args.target c.with_context.result) c.take-before.ensures.rest)
    ∙ put_past c.args.target c.with_context.result c.push.new.self ∙ ap (λ (v : Kept). v.past) c.push.ensures

pub returns-clause-kept : goal.returns-clause-kept
returns-clause-kept c =
    ap (λ (v : Kept). line v) (c.self.view_is ∙ c.put.ensures ∙ ap (put_held c.args.target c.with_context.result) c.take-before.ensures.rest)
    ∙ put_line c.args.target c.with_context.result c.push.new.self ∙ ap (λ (v : Kept). line v) c.push.ensures
