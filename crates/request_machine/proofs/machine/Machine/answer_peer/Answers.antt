use Rattle.std.proofs.Common.{◌≡◌, sym, subst, ap, ◌∙◌, option_map}
use Rattle.link_trait.specs.Tokens.{going_on}
use Rattle.negotiate_handler.specs.Contexts.{HasAnswered}
use Rattle.trace_rule.specs.Moves.Asking.{GoOn}
use Rattle.request_machine.specs.Changed.{holding}
use Rattle.request_machine.specs.Kept.{Kept, Ties}
use Rattle.request_machine.specs.Linked.{Line}
use Rattle.request_machine.specs.Told.{ended_told}
use Rattle.request_machine.proofs.Continuing.{asked_line, asked_past, asked_ties, continue_before, continued_nearer, seen_before, tells_continued}
use Rattle.request_machine.proofs.Providing.{one_step, seen_more, step_quiet, step_touched}
use Rattle.request_machine.proofs.Working.{pushed_less, less_left}
use Rattle.request_machine.proofs.machine.Machine.answer_peer.Goals as goal

pub returns-clause-past : goal.returns-clause-past
returns-clause-past g c = seen_more c.go_on-stepped.result c.args.target c.args.self.now c.stepped.new.self (seen_before c.go_on-stepped.result c.args.target c.args.self.now c.take_going-live.new.self c.stepped.new.self (ap (λ (v : Kept). v.past) c.take_going-live.ensures.rest ∙ asked_past c.args.target (option_map ended_told (holding c.spend.new.self c.args.target)) c.spend.new.self ∙ c.spend.ensures.past) c.stepped.ensures.seen)

pub returns-clause-quiet : goal.returns-clause-quiet
returns-clause-quiet g c = λ quiet.
    let still = c.go_on-stepped.ensures.quiet quiet in
    (still.0, step_quiet c.go_on-stepped.result c.args.target c.args.self.now c.stepped.new.self still.1 (seen_before c.go_on-stepped.result c.args.target c.args.self.now c.take_going-live.new.self c.stepped.new.self (ap (λ (v : Kept). v.past) c.take_going-live.ensures.rest ∙ asked_past c.args.target (option_map ended_told (holding c.spend.new.self c.args.target)) c.spend.new.self ∙ c.spend.ensures.past) c.stepped.ensures.seen))

pub returns-clause-touched : goal.returns-clause-touched
returns-clause-touched g c = step_touched _ _ c.go_on-stepped.result c.args.target c.args.self.now c.stepped.new.self (seen_before c.go_on-stepped.result c.args.target c.args.self.now c.take_going-live.new.self c.stepped.new.self (ap (λ (v : Kept). v.past) c.take_going-live.ensures.rest ∙ asked_past c.args.target (option_map ended_told (holding c.spend.new.self c.args.target)) c.spend.new.self ∙ c.spend.ensures.past) c.stepped.ensures.seen)

pub returns-clause-nearer : goal.returns-clause-nearer
returns-clause-nearer g c = continued_nearer c.args.self.now c.stepped.new.self c.args.target _ (one_step c.go_on-stepped.result c.args.target c.args.self.now c.stepped.new.self (seen_before c.go_on-stepped.result c.args.target c.args.self.now c.take_going-live.new.self c.stepped.new.self (ap (λ (v : Kept). v.past) c.take_going-live.ensures.rest ∙ asked_past c.args.target (option_map ended_told (holding c.spend.new.self c.args.target)) c.spend.new.self ∙ c.spend.ensures.past) c.stepped.ensures.seen)).1 c.requires.room c.requires.stage

pub returns-clause-less : goal.returns-clause-less
returns-clause-less g c = less_left c.args.self.now c.stepped.new.self (pushed_less c.args.self.now c.stepped.new.self _ (one_step c.go_on-stepped.result c.args.target c.args.self.now c.stepped.new.self (seen_before c.go_on-stepped.result c.args.target c.args.self.now c.take_going-live.new.self c.stepped.new.self (ap (λ (v : Kept). v.past) c.take_going-live.ensures.rest ∙ asked_past c.args.target (option_map ended_told (holding c.spend.new.self c.args.target)) c.spend.new.self ∙ c.spend.ensures.past) c.stepped.ensures.seen)).1 c.requires.room)

pub returns-clause-ties : goal.returns-clause-ties
returns-clause-ties g c = λ s t.
    let kept = subst (λ v. Ties s v) (sym c.take_going-live.ensures.rest) (asked_ties s c.spend.new.self c.args.target c.spend.ensures.stage (c.spend.ensures.ties s t)) in
    c.stepped.ensures.ties s (GoOn c.take_going-live.result.2) (continue_before s c.args.self.now c.take_going-live.new.self c.args.target c.take_going-live.result.2 c.requires.stage (sym (ap (λ (v : Kept). v.peer) c.spend.ensures.rest) ∙ c.take_going-live.ensures.peer) (ap (λ (v : Kept). v.past) c.take_going-live.ensures.rest ∙ asked_past c.args.target (option_map ended_told (holding c.spend.new.self c.args.target)) c.spend.new.self ∙ c.spend.ensures.past) t) kept

pub returns-clause-provider : goal.returns-clause-provider
returns-clause-provider g c = λ request.
    let by = c.go_on-stepped.ensures.answered in
    let number : c.self.inside.number ≡ c.args.self.now.number =
    ap (λ (v : Kept). v.number) (c.self.view_is ∙ c.take_going-live.ensures.rest) ∙ ap (λ (l : Line). l.number) (asked_line c.args.target (option_map ended_told (holding c.spend.new.self c.args.target)) c.spend.new.self)
    ∙ ap (λ (v : Kept). v.number) c.spend.ensures.rest in
    let answered = subst (λ x. HasAnswered (g.T.Tokens.told c.args.tokens.now) (g.T.Tokens.told c.go_on-stepped.new.tokens) (going_on by.0 x c.take_going-live.result.2) (g.T.Tokens.script c.args.tokens.now) (g.T.Tokens.taken c.args.tokens.now) (g.T.Tokens.taken c.go_on-stepped.new.tokens) x by.0) number
    (subst (λ p. HasAnswered (g.T.Tokens.told c.args.tokens.now) (g.T.Tokens.told c.go_on-stepped.new.tokens) (going_on by.0 c.self.inside.number p) (g.T.Tokens.script c.args.tokens.now) (g.T.Tokens.taken c.args.tokens.now) (g.T.Tokens.taken c.go_on-stepped.new.tokens) c.self.inside.number by.0) c.as_slice.ensures by.1) in
    tells_continued request g.T.Tokens.sticks c.args.self.now c.stepped.new.self c.args.target c.take_going-live.result.2 by.0 c.go_on-stepped.result _ _ _ _ _ _ _ _
    c.requires.stage (sym (ap (λ (v : Kept). v.peer) c.spend.ensures.rest) ∙ c.take_going-live.ensures.peer) answered by.2 c.go_on-stepped.ensures.script c.go_on-stepped.ensures.later c.go_on-stepped.ensures.failed (seen_before c.go_on-stepped.result c.args.target c.args.self.now c.take_going-live.new.self c.stepped.new.self (ap (λ (v : Kept). v.past) c.take_going-live.ensures.rest ∙ asked_past c.args.target (option_map ended_told (holding c.spend.new.self c.args.target)) c.spend.new.self ∙ c.spend.ensures.past) c.stepped.ensures.seen)
