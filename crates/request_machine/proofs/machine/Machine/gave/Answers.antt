use Rattle.request_machine.specs.Kept.{Kept}
use Rattle.request_machine.specs.Work.{is_answer, work_left}
use Rattle.request_machine.proofs.Rooms.{tied_room}
use Rattle.request_machine.proofs.Working.{longer_less, no_reply, no_draw, number_less, ref_less, untold_less, spaced_less, asked_space}
use Rattle.std.proofs.lemmas.Bool.{false≢true}
use Rattle.std.proofs.Common.{sym, ◌∙◌, ◌<◌, IsTrue, ap, subst}
use Rattle.request_machine.specs.Linked.{Line, way}
use Rattle.request_machine.specs.Prompted.{space_given}
use Rattle.request_machine.proofs.Carrying.{goes_ends}
use Rattle.request_machine.proofs.Driving.{linked_on}
use Rattle.request_machine.proofs.machine.Machine.gave.Goals as goal

pub returns-in-Reply-clause-linked : goal.returns-in-Reply-clause-linked
returns-in-Reply-clause-linked c = linked_on c.args.self.now c.replied_to.new.self c.replied_to.ensures.kept c.replied_to.ensures.goes

pub returns-in-Number-clause-linked : goal.returns-in-Number-clause-linked
returns-in-Number-clause-linked c = linked_on c.args.self.now c.numbered.new.self c.numbered.ensures.kept c.numbered.ensures.goes

pub returns-in-Drawn-clause-linked : goal.returns-in-Drawn-clause-linked
returns-in-Drawn-clause-linked c = linked_on c.args.self.now c.drew.new.self c.drew.ensures.kept c.drew.ensures.goes

pub returns-in-NoMemory-clause-linked : goal.returns-in-NoMemory-clause-linked
returns-in-NoMemory-clause-linked c = linked_on c.args.self.now c.not_told.new.self c.not_told.ensures.kept c.not_told.ensures.goes

pub returns-in-Reply-clause-stage : goal.returns-in-Reply-clause-stage
returns-in-Reply-clause-stage c = λ is. absurd (false≢true (sym (ap (is_answer c.args.self.now.stage) c.in-Reply.is ∙ no_reply c.args.self.now.stage c.in-Reply.reply) ∙ is))

pub returns-in-Reply-clause-left : goal.returns-in-Reply-clause-left
returns-in-Reply-clause-left c = λ asks is. absurd (false≢true (sym (ap (is_answer c.args.self.now.stage) c.in-Reply.is ∙ no_reply c.args.self.now.stage c.in-Reply.reply) ∙ is))

pub returns-in-Reply-clause-nearer : goal.returns-in-Reply-clause-nearer
returns-in-Reply-clause-nearer c = λ longer. longer_less c.args.self.now c.replied_to.new.self longer (tied_room c.args.self.now c.requires.tied)

pub returns-in-Drawn-clause-stage : goal.returns-in-Drawn-clause-stage
returns-in-Drawn-clause-stage c = λ is. absurd (false≢true (sym (ap (is_answer c.args.self.now.stage) c.in-Drawn.is ∙ no_draw c.args.self.now.stage c.in-Drawn.drawn) ∙ is))

pub returns-in-Drawn-clause-left : goal.returns-in-Drawn-clause-left
returns-in-Drawn-clause-left c = λ asks is. absurd (false≢true (sym (ap (is_answer c.args.self.now.stage) c.in-Drawn.is ∙ no_draw c.args.self.now.stage c.in-Drawn.drawn) ∙ is))

pub returns-in-Drawn-clause-nearer : goal.returns-in-Drawn-clause-nearer
returns-in-Drawn-clause-nearer c = λ longer. longer_less c.args.self.now c.drew.new.self longer (tied_room c.args.self.now c.requires.tied)

pub returns-in-Number-clause-left : goal.returns-in-Number-clause-left
returns-in-Number-clause-left c = λ asks is. number_less c.args.self.now c.numbered.new.self c.in-Number.number c.numbered.ensures.rest (c.numbered.ensures.stage (subst (λ x. IsTrue (is_answer c.args.self.now.stage x)) c.in-Number.is is)) (subst (λ x. IsTrue (is_answer c.args.self.now.stage x)) c.in-Number.is is)

pub returns-in-Ref-clause-left : goal.returns-in-Ref-clause-left
returns-in-Ref-clause-left c = λ asks is. ref_less c.args.self.now c.terms_numbered.new.self c.in-Ref.numbers c.terms_numbered.ensures.rest (c.terms_numbered.ensures.stage (subst (λ x. IsTrue (is_answer c.args.self.now.stage x)) c.in-Ref.is is)) (subst (λ x. IsTrue (is_answer c.args.self.now.stage x)) c.in-Ref.is is)

pub returns-in-NoMemory-clause-left : goal.returns-in-NoMemory-clause-left
returns-in-NoMemory-clause-left c = λ asks is. untold_less c.args.self.now c.not_told.new.self c.not_told.ensures.rest (c.not_told.ensures.stage (subst (λ x. IsTrue (is_answer c.args.self.now.stage x)) c.in-NoMemory.is is)) (subst (λ x. IsTrue (is_answer c.args.self.now.stage x)) c.in-NoMemory.is is)

pub returns-in-Ref-clause-linked : goal.returns-in-Ref-clause-linked
returns-in-Ref-clause-linked c = linked_on c.args.self.now c.terms_numbered.new.self c.terms_numbered.ensures.kept c.terms_numbered.ensures.goes

pub returns-in-Ask-clause-left : goal.returns-in-Ask-clause-left
returns-in-Ask-clause-left c = λ asks is.
    subst (λ v. work_left v < work_left c.args.self.now) (sym c.told_prompt.ensures.same)
    (spaced_less c.args.self.now c.in-Space.space (asked_space c.args.self.now _ _ (sym (ap (λ (v : Kept). v.stage) c.self-in-Space.view_is) ∙ c.in-Ask.is) asks))

pub returns-in-Reply-clause-ends : goal.returns-in-Reply-clause-ends
returns-in-Reply-clause-ends c = goes_ends (way c.args.self.now.stage) (way c.replied_to.new.self.stage) c.replied_to.ensures.goes

pub returns-in-Reply-clause-given : goal.returns-in-Reply-clause-given
returns-in-Reply-clause-given c = ap (λ (l : Line). l.given) c.replied_to.ensures.kept

pub returns-in-Reply-clause-space : goal.returns-in-Reply-clause-space
returns-in-Reply-clause-space c = ap (λ (l : Line). l.space) c.replied_to.ensures.kept ∙ sym (ap (space_given c.args.self.now) c.in-Reply.is)

pub returns-in-Number-clause-ends : goal.returns-in-Number-clause-ends
returns-in-Number-clause-ends c = goes_ends (way c.args.self.now.stage) (way c.numbered.new.self.stage) c.numbered.ensures.goes

pub returns-in-Number-clause-given : goal.returns-in-Number-clause-given
returns-in-Number-clause-given c = ap (λ (l : Line). l.given) c.numbered.ensures.kept

pub returns-in-Number-clause-space : goal.returns-in-Number-clause-space
returns-in-Number-clause-space c = ap (λ (l : Line). l.space) c.numbered.ensures.kept ∙ sym (ap (space_given c.args.self.now) c.in-Number.is)

pub returns-in-Ref-clause-ends : goal.returns-in-Ref-clause-ends
returns-in-Ref-clause-ends c = goes_ends (way c.args.self.now.stage) (way c.terms_numbered.new.self.stage) c.terms_numbered.ensures.goes

pub returns-in-Ref-clause-given : goal.returns-in-Ref-clause-given
returns-in-Ref-clause-given c = ap (λ (l : Line). l.given) c.terms_numbered.ensures.kept

pub returns-in-Ref-clause-space : goal.returns-in-Ref-clause-space
returns-in-Ref-clause-space c = ap (λ (l : Line). l.space) c.terms_numbered.ensures.kept ∙ sym (ap (space_given c.args.self.now) c.in-Ref.is)

pub returns-in-Drawn-clause-ends : goal.returns-in-Drawn-clause-ends
returns-in-Drawn-clause-ends c = goes_ends (way c.args.self.now.stage) (way c.drew.new.self.stage) c.drew.ensures.goes

pub returns-in-Drawn-clause-given : goal.returns-in-Drawn-clause-given
returns-in-Drawn-clause-given c = ap (λ (l : Line). l.given) c.drew.ensures.kept

pub returns-in-Drawn-clause-space : goal.returns-in-Drawn-clause-space
returns-in-Drawn-clause-space c = ap (λ (l : Line). l.space) c.drew.ensures.kept ∙ sym (ap (space_given c.args.self.now) c.in-Drawn.is)

pub returns-in-NoMemory-clause-ends : goal.returns-in-NoMemory-clause-ends
returns-in-NoMemory-clause-ends c = goes_ends (way c.args.self.now.stage) (way c.not_told.new.self.stage) c.not_told.ensures.goes

pub returns-in-NoMemory-clause-given : goal.returns-in-NoMemory-clause-given
returns-in-NoMemory-clause-given c = ap (λ (l : Line). l.given) c.not_told.ensures.kept

pub returns-in-NoMemory-clause-space : goal.returns-in-NoMemory-clause-space
returns-in-NoMemory-clause-space c = ap (λ (l : Line). l.space) c.not_told.ensures.kept ∙ sym (ap (space_given c.args.self.now) c.in-NoMemory.is)
