use Rattle.std.proofs.Common.{◌≡◌, ℕ, ◌∷◌, Some, None, IsSome, refl, sym, ap, ◌∙◌, subst}
use Rattle.auth_runs.specs.declared.event.Event.TheVariants.{AskedFor}
use Rattle.link_trait.specs.declared.prompts.AskSeen.TheVariants.{Given, Cancel, Failed, NoMemory}
use Rattle.link_trait.specs.declared.prompts.Asked.TheVariants.{Given as AnswerGiven, Cancel as AnswerCancel, Failed as AnswerFailed, NoMemory as AnswerNoMemory}
use Rattle.link_trait.specs.Prompts.{IsAnswerBy}
use Rattle.request_machine.specs.Failed.{ask_faults}
use Rattle.request_machine.specs.Linked.{Line}
use Rattle.request_machine.proofs.Answering.{answered_asked}
use Rattle.request_machine.proofs.Failing.{tells_ask_fault, tells_ask_same}
use Rattle.request_machine.specs.Kept.{Kept}
use Rattle.request_machine.proofs.machine.Machine.ask.Goals as goal

cancels : ¬ (Cancel ≡ Given)
cancels e = cc

fails : (count : ℕ) → ¬ (Failed count ≡ Given)
fails count e = cc

spends : ¬ (NoMemory ≡ Given)
spends e = cc

pub returns-in-Given-clause-past : goal.returns-in-Given-clause-past
returns-in-Given-clause-past g c = (Given, c.asked.ensures.past ∙ ap (λ (v : Kept). AskedFor c.args.prompt.number Given ∷ v.past) c.put_given.ensures)

pub returns-in-Cancel-clause-past : goal.returns-in-Cancel-clause-past
returns-in-Cancel-clause-past g c = (Cancel, c.asked-in-Cancel.ensures.past)

pub returns-in-Failed-clause-past : goal.returns-in-Failed-clause-past
returns-in-Failed-clause-past g c = (Failed c.faults-count.result, c.asked-in-Failed.ensures.past)

pub returns-in-NoMemory-clause-past : goal.returns-in-NoMemory-clause-past
returns-in-NoMemory-clause-past g c = (NoMemory, c.asked-in-NoMemory.ensures.past)

pub returns-in-Given-clause-answered : goal.returns-in-Given-clause-answered
returns-in-Given-clause-answered g c = λ s answers t is by seen.
    let right : answers c.args.space.now c.args.ordinal ≡ Some c.in-Given.identity = subst (λ o. IsAnswerBy o (AnswerGiven c.in-Given.identity) c.args.space.now c.args.ordinal) by c.in-Given.ensures.answer in
    answered_asked s answers c.args.self.now c.asked.new.self c.args.prompt c.args.ordinal Given c.args.space.now c.requires.stage t is
    (c.asked.ensures.past ∙ ap (λ (v : Kept). AskedFor c.args.prompt.number Given ∷ v.past) c.put_given.ensures) (subst IsSome (sym right) refl)
    (λ same. ap (λ (l : Line). l.given) c.asked.ensures.kept ∙ ap (λ (v : Kept). v.given) c.put_given.ensures ∙ sym right) seen

pub returns-in-Given-clause-faults : goal.returns-in-Given-clause-faults
returns-in-Given-clause-faults g c = tells_ask_same g.P.Prompter.sticks c.args.self.now c.asked.new.self _ _ (ap ask_faults (c.asked.ensures.past ∙ ap (λ (v : Kept). AskedFor c.args.prompt.number Given ∷ v.past) c.put_given.ensures)) c.in-Given.ensures.later

pub returns-in-Given-clause-quiet : goal.returns-in-Given-clause-quiet
returns-in-Given-clause-quiet g c = λ quiet. ((c.in-Given.ensures.quiet quiet).0, ap ask_faults (c.asked.ensures.past ∙ ap (λ (v : Kept). AskedFor c.args.prompt.number Given ∷ v.past) c.put_given.ensures))

pub returns-in-Cancel-clause-answered : goal.returns-in-Cancel-clause-answered
returns-in-Cancel-clause-answered g c = λ s answers t is by seen.
    let right : answers c.args.space.now c.args.ordinal ≡ None = subst (λ o. IsAnswerBy o AnswerCancel c.args.space.now c.args.ordinal) by c.in-Cancel.ensures.answer in
    answered_asked s answers c.args.self.now c.asked-in-Cancel.new.self c.args.prompt c.args.ordinal Cancel c.args.space.now c.requires.stage t is
    c.asked-in-Cancel.ensures.past right
    (λ same. absurd (cancels same)) seen

pub returns-in-Cancel-clause-faults : goal.returns-in-Cancel-clause-faults
returns-in-Cancel-clause-faults g c = tells_ask_same g.P.Prompter.sticks c.args.self.now c.asked-in-Cancel.new.self _ _ (ap ask_faults c.asked-in-Cancel.ensures.past) c.in-Cancel.ensures.later

pub returns-in-Cancel-clause-quiet : goal.returns-in-Cancel-clause-quiet
returns-in-Cancel-clause-quiet g c = λ quiet. ((c.in-Cancel.ensures.quiet quiet).0, ap ask_faults c.asked-in-Cancel.ensures.past)

pub returns-in-Failed-clause-answered : goal.returns-in-Failed-clause-answered
returns-in-Failed-clause-answered g c = λ s answers t is by seen.
    let right : Unit {0} = subst (λ o. IsAnswerBy o AnswerFailed c.args.space.now c.args.ordinal) by c.in-Failed.ensures.answer in
    answered_asked s answers c.args.self.now c.asked-in-Failed.new.self c.args.prompt c.args.ordinal (Failed c.faults-count.result) c.args.space.now c.requires.stage t is
    c.asked-in-Failed.ensures.past right
    (λ same. absurd (fails c.faults-count.result same)) seen

pub returns-in-Failed-clause-faults : goal.returns-in-Failed-clause-faults
returns-in-Failed-clause-faults g c =
    tells_ask_fault g.P.Prompter.sticks c.args.self.now c.asked-in-Failed.new.self _ _ c.faults-count.result (ap ask_faults c.asked-in-Failed.ensures.past) (c.in-Failed.ensures.failed refl, c.faults-count.ensures)

pub returns-in-NoMemory-clause-answered : goal.returns-in-NoMemory-clause-answered
returns-in-NoMemory-clause-answered g c = λ s answers t is by seen.
    let right : Unit {0} = subst (λ o. IsAnswerBy o AnswerNoMemory c.args.space.now c.args.ordinal) by c.in-NoMemory.ensures.answer in
    answered_asked s answers c.args.self.now c.asked-in-NoMemory.new.self c.args.prompt c.args.ordinal NoMemory c.args.space.now c.requires.stage t is
    c.asked-in-NoMemory.ensures.past right
    (λ same. absurd (spends same)) seen

pub returns-in-NoMemory-clause-faults : goal.returns-in-NoMemory-clause-faults
returns-in-NoMemory-clause-faults g c = tells_ask_same g.P.Prompter.sticks c.args.self.now c.asked-in-NoMemory.new.self _ _ (ap ask_faults c.asked-in-NoMemory.ensures.past) c.in-NoMemory.ensures.later

pub returns-in-NoMemory-clause-quiet : goal.returns-in-NoMemory-clause-quiet
returns-in-NoMemory-clause-quiet g c = λ quiet. ((c.in-NoMemory.ensures.quiet quiet).0, ap ask_faults c.asked-in-NoMemory.ensures.past)
