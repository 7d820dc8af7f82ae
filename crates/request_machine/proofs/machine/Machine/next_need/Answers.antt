use Rattle.request_machine.proofs.Working.{settled_left}
use Rattle.request_machine.specs.Kept.{Kept}
use Rattle.std.proofs.Common.{sym, subst, inl, inr, ap, ◌∙◌}
use Rattle.request_machine.specs.Linked.{AreDialsOf, Line}
use Rattle.request_machine.proofs.Carrying.{carried_need}
use Rattle.request_machine.proofs.machine.Machine.next_need.Goals as goal

pub settle_link-requires-clause-told : goal.settle_link-requires-clause-told
settle_link-requires-clause-told g c = subst (λ l. AreDialsOf l (g.D.Dialer.dials c.args.dialer.now)) (sym c.need-next.ensures.kept) c.requires.told

pub returns-clause-same : goal.returns-clause-same
returns-clause-same g c =
    elim c.need-next.ensures.same [
      | inl e ↦ inl (c.settle_link.ensures.same ∙ ap (λ (v : Kept). record v { link = c.settle_link.new.self.link }) e)
      | inr e ↦ inr (ap (λ (v : Kept). v.stage) c.settle_link.ensures.same ∙ e)
    ]

pub returns-clause-less : goal.returns-clause-less
returns-clause-less g c = settled_left c.args.self.now c.need-next.new.self c.settle_link.new.self c.need-next.ensures.less c.settle_link.ensures.same

pub returns-clause-carried : goal.returns-clause-carried
returns-clause-carried g c = λ s streams before more it.
    c.settle_link.ensures.carried s streams before more
    (carried_need s streams before c.args.self.now c.need-next.new.self more c.need-next.ensures.past c.need-next.ensures.kept c.need-next.ensures.goes it)

pub returns-clause-given : goal.returns-clause-given
returns-clause-given g c = ap (λ (v : Kept). v.given) c.settle_link.ensures.same ∙ ap (λ (l : Line). l.given) c.need-next.ensures.kept

pub returns-clause-space : goal.returns-clause-space
returns-clause-space g c = ap (λ (v : Kept). v.space) c.settle_link.ensures.same ∙ ap (λ (l : Line). l.space) c.need-next.ensures.kept
