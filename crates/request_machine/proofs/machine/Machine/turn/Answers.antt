use Rattle.request_machine.proofs.Working.{pushed_less, less_left}
use Rattle.std.proofs.Common.{inl, sym, ap, ◌∙◌, refl, arith}
use Rattle.link_trait.specs.Told.{grown}
use Rattle.trace_rule.specs.Telling.{dials}
use Rattle.request_machine.specs.Kept.{Kept}
use Rattle.auth_runs.specs.declared.event.Event.TheVariants.{Ended, LinkLost}
use Rattle.auth_runs.specs.declared.event.Outcome.TheVariants.{NoMemory}
use Rattle.request_machine.specs.Failed.{link_faults}
use Rattle.request_machine.proofs.Answering.{prompts_unprompted, unprompted_event, unprompted_faults, unprompted_line}
use Rattle.request_machine.proofs.Carrying.{tells_asked, tells_same, tells_stepped}
use Rattle.request_machine.proofs.Failing.{tells_ask_still, tells_link_still}
use Rattle.request_machine.proofs.Sent.{tells_finished, tells_spent_over}
use Rattle.request_machine.proofs.Driving.{driven_same, driven_asked}
use Rattle.request_machine.proofs.Rooms.{tied_go, tied_continue, tied_answer, tied_read, tied_past, setting_tied}
use Rattle.request_machine.proofs.NextNonces.{answer_there}
use Rattle.request_machine.specs.Linked.{way, is_ending}
use Rattle.request_machine.specs.Provided.{steps}
use Rattle.request_machine.proofs.Carrying.{goes_ends}
use Rattle.request_machine.proofs.Providing.{onward_ends, same_step_faults, step_dials, step_insides, step_link_faults, step_unprompted, tells_no_step}
use Rattle.request_machine.proofs.Losing.{lost_goes, lost_nearer, tells_lost}
use Rattle.request_machine.proofs.machine.Machine.turn.Goals as goal

pub returns-in-Ask-clause-dials : goal.returns-in-Ask-clause-dials
returns-in-Ask-clause-dials g c = λ s before same t told. told ∙ ap (λ past. grown before (dials s past)) (sym c.ask_next.ensures.past.1)

pub returns-in-Ask-clause-driven : goal.returns-in-Ask-clause-driven
returns-in-Ask-clause-driven g c =
    driven_asked c.args.self.now c.ask_next.new.self c.in-Ask.prompt c.in-Ask.ordinal _ _ (sym (ap (λ (v : Kept). v.stage) c.self.view_is) ∙ c.in-Ask.is) c.ask_next.ensures.line c.ask_next.ensures.away
    c.requires.linked c.requires.links c.requires.told

pub returns-in-End-clause-driven : goal.returns-in-End-clause-driven
returns-in-End-clause-driven g c = driven_same c.args.self.now c.finished.new.self _ _ c.finished.ensures.kept c.finished.ensures.goes c.requires.linked c.requires.links c.requires.told

pub returns-in-SpentOver-clause-driven : goal.returns-in-SpentOver-clause-driven
returns-in-SpentOver-clause-driven g c = driven_same c.args.self.now c.spent_over.new.self _ _ c.spent_over.ensures.kept c.spent_over.ensures.goes c.requires.linked c.requires.links c.requires.told

pub returns-in-Learn-clause-driven : goal.returns-in-Learn-clause-driven
returns-in-Learn-clause-driven g c = driven_same c.args.self.now c.resume.new.self _ _ c.resume.ensures.kept c.resume.ensures.goes c.requires.linked c.requires.links c.requires.told

pub returns-in-Choose-clause-driven : goal.returns-in-Choose-clause-driven
returns-in-Choose-clause-driven g c = driven_same c.args.self.now c.choose.new.self _ _ c.choose.ensures.kept c.choose.ensures.goes c.requires.linked c.requires.links c.requires.told

pub returns-in-NextNonce-clause-driven : goal.returns-in-NextNonce-clause-driven
returns-in-NextNonce-clause-driven g c = driven_same c.args.self.now c.renew_next.new.self _ _ c.renew_next.ensures.kept c.renew_next.ensures.goes c.requires.linked c.requires.links c.requires.told

pub go-requires-clause-room : goal.go-requires-clause-room
go-requires-clause-room g c = (tied_go c.args.request.now c.args.self.now c.requires.tied (sym (ap (λ (v : Kept). v.stage) c.self.view_is) ∙ c.in-Go.is)).past

pub go-requires-clause-few_links : goal.go-requires-clause-few_links
go-requires-clause-few_links g c = (tied_go c.args.request.now c.args.self.now c.requires.tied (sym (ap (λ (v : Kept). v.stage) c.self.view_is) ∙ c.in-Go.is)).links

pub go-requires-clause-few_heads : goal.go-requires-clause-few_heads
go-requires-clause-few_heads g c = (tied_go c.args.request.now c.args.self.now c.requires.tied (sym (ap (λ (v : Kept). v.stage) c.self.view_is) ∙ c.in-Go.is)).heads

pub go-requires-clause-few_rounds : goal.go-requires-clause-few_rounds
go-requires-clause-few_rounds g c = (tied_go c.args.request.now c.args.self.now c.requires.tied (sym (ap (λ (v : Kept). v.stage) c.self.view_is) ∙ c.in-Go.is)).rounds

pub read-requires-clause-room : goal.read-requires-clause-room
read-requires-clause-room g c = (tied_read c.args.request.now c.args.self.now c.in-Read.link c.requires.tied (sym (ap (λ (v : Kept). v.stage) c.self.view_is) ∙ c.in-Read.is)).past

pub read-requires-clause-few_rounds : goal.read-requires-clause-few_rounds
read-requires-clause-few_rounds g c = (tied_read c.args.request.now c.args.self.now c.in-Read.link c.requires.tied (sym (ap (λ (v : Kept). v.stage) c.self.view_is) ∙ c.in-Read.is)).rounds

pub read-requires-clause-tied : goal.read-requires-clause-tied
read-requires-clause-tied g c = setting_tied c.args.request.now c.args.self.now c.requires.tied

pub choose-requires-clause-tied : goal.choose-requires-clause-tied
choose-requires-clause-tied g c = setting_tied c.args.request.now c.args.self.now c.requires.tied

pub ask_next-requires-clause-room : goal.ask_next-requires-clause-room
ask_next-requires-clause-room g c = tied_past c.args.request.now c.args.self.now c.requires.tied

pub finished-requires-clause-room : goal.finished-requires-clause-room
finished-requires-clause-room g c = tied_past c.args.request.now c.args.self.now c.requires.tied

pub spent_over-requires-clause-room : goal.spent_over-requires-clause-room
spent_over-requires-clause-room g c = tied_past c.args.request.now c.args.self.now c.requires.tied

pub renew_next-requires-clause-reply : goal.renew_next-requires-clause-reply
renew_next-requires-clause-reply g c = answer_there c.args.self.now c.args.request.now c.in-NextNonce.target c.in-NextNonce.closing (sym (ap (λ (v : Kept). v.stage) c.self.view_is) ∙ c.in-NextNonce.is) (setting_tied c.args.request.now c.args.self.now c.requires.tied)

pub returns-in-Ask-clause-less : goal.returns-in-Ask-clause-less
returns-in-Ask-clause-less g c = less_left c.args.self.now c.ask_next.new.self (pushed_less c.args.self.now c.ask_next.new.self _ c.ask_next.ensures.past.1 (tied_past c.args.request.now c.args.self.now c.requires.tied))

pub returns-in-End-clause-less : goal.returns-in-End-clause-less
returns-in-End-clause-less g c = less_left c.args.self.now c.finished.new.self (pushed_less c.args.self.now c.finished.new.self _ c.finished.ensures.past (tied_past c.args.request.now c.args.self.now c.requires.tied))

pub returns-in-SpentOver-clause-less : goal.returns-in-SpentOver-clause-less
returns-in-SpentOver-clause-less g c = less_left c.args.self.now c.spent_over.new.self (pushed_less c.args.self.now c.spent_over.new.self _ c.spent_over.ensures.past (tied_past c.args.request.now c.args.self.now c.requires.tied))

pub returns-in-Go-clause-prompts : goal.returns-in-Go-clause-prompts
returns-in-Go-clause-prompts g c = prompts_unprompted c.args.request.now c.args.self.now c.go.new.self _ _ _ c.go.ensures.unprompted refl

pub returns-in-Go-clause-prompt_faults : goal.returns-in-Go-clause-prompt_faults
returns-in-Go-clause-prompt_faults g c = tells_ask_still g.P.Prompter.sticks c.args.self.now c.go.new.self _ _ (unprompted_faults c.args.self.now c.go.new.self c.go.ensures.unprompted) refl

pub returns-in-Go-clause-prompt_quiet : goal.returns-in-Go-clause-prompt_quiet
returns-in-Go-clause-prompt_quiet g c = λ quiet. (quiet, unprompted_faults c.args.self.now c.go.new.self c.go.ensures.unprompted)

pub returns-in-Read-clause-prompts : goal.returns-in-Read-clause-prompts
returns-in-Read-clause-prompts g c = prompts_unprompted c.args.request.now c.args.self.now c.read.new.self _ _ _ c.read.ensures.unprompted refl

pub returns-in-Read-clause-prompt_faults : goal.returns-in-Read-clause-prompt_faults
returns-in-Read-clause-prompt_faults g c = tells_ask_still g.P.Prompter.sticks c.args.self.now c.read.new.self _ _ (unprompted_faults c.args.self.now c.read.new.self c.read.ensures.unprompted) refl

pub returns-in-Read-clause-prompt_quiet : goal.returns-in-Read-clause-prompt_quiet
returns-in-Read-clause-prompt_quiet g c = λ quiet. (quiet, unprompted_faults c.args.self.now c.read.new.self c.read.ensures.unprompted)

pub returns-in-Learn-clause-traffic : goal.returns-in-Learn-clause-traffic
returns-in-Learn-clause-traffic g c = tells_same c.args.request.now c.args.self.now c.resume.new.self _ _ _ c.resume.ensures.past c.resume.ensures.kept c.resume.ensures.goes refl

pub returns-in-Learn-clause-faults : goal.returns-in-Learn-clause-faults
returns-in-Learn-clause-faults g c = tells_link_still g.D.Dialer.sticks c.args.self.now c.resume.new.self _ _ (ap link_faults c.resume.ensures.past) refl

pub returns-in-Learn-clause-quiet : goal.returns-in-Learn-clause-quiet
returns-in-Learn-clause-quiet g c = λ quiet. (quiet, ap link_faults c.resume.ensures.past)

pub returns-in-Learn-clause-prompts : goal.returns-in-Learn-clause-prompts
returns-in-Learn-clause-prompts g c = prompts_unprompted c.args.request.now c.args.self.now c.resume.new.self _ _ _ (unprompted_line c.args.self.now c.resume.new.self c.resume.ensures.past c.resume.ensures.kept) refl

pub returns-in-Learn-clause-prompt_faults : goal.returns-in-Learn-clause-prompt_faults
returns-in-Learn-clause-prompt_faults g c = tells_ask_still g.P.Prompter.sticks c.args.self.now c.resume.new.self _ _ (unprompted_faults c.args.self.now c.resume.new.self (unprompted_line c.args.self.now c.resume.new.self c.resume.ensures.past c.resume.ensures.kept)) refl

pub returns-in-Learn-clause-prompt_quiet : goal.returns-in-Learn-clause-prompt_quiet
returns-in-Learn-clause-prompt_quiet g c = λ quiet. (quiet, unprompted_faults c.args.self.now c.resume.new.self (unprompted_line c.args.self.now c.resume.new.self c.resume.ensures.past c.resume.ensures.kept))

pub returns-in-Choose-clause-traffic : goal.returns-in-Choose-clause-traffic
returns-in-Choose-clause-traffic g c = tells_same c.args.request.now c.args.self.now c.choose.new.self _ _ _ c.choose.ensures.past c.choose.ensures.kept c.choose.ensures.goes refl

pub returns-in-Choose-clause-faults : goal.returns-in-Choose-clause-faults
returns-in-Choose-clause-faults g c = tells_link_still g.D.Dialer.sticks c.args.self.now c.choose.new.self _ _ (ap link_faults c.choose.ensures.past) refl

pub returns-in-Choose-clause-quiet : goal.returns-in-Choose-clause-quiet
returns-in-Choose-clause-quiet g c = λ quiet. (quiet, ap link_faults c.choose.ensures.past)

pub returns-in-Choose-clause-prompts : goal.returns-in-Choose-clause-prompts
returns-in-Choose-clause-prompts g c = prompts_unprompted c.args.request.now c.args.self.now c.choose.new.self _ _ _ (unprompted_line c.args.self.now c.choose.new.self c.choose.ensures.past c.choose.ensures.kept) refl

pub returns-in-Choose-clause-prompt_faults : goal.returns-in-Choose-clause-prompt_faults
returns-in-Choose-clause-prompt_faults g c = tells_ask_still g.P.Prompter.sticks c.args.self.now c.choose.new.self _ _ (unprompted_faults c.args.self.now c.choose.new.self (unprompted_line c.args.self.now c.choose.new.self c.choose.ensures.past c.choose.ensures.kept)) refl

pub returns-in-Choose-clause-prompt_quiet : goal.returns-in-Choose-clause-prompt_quiet
returns-in-Choose-clause-prompt_quiet g c = λ quiet. (quiet, unprompted_faults c.args.self.now c.choose.new.self (unprompted_line c.args.self.now c.choose.new.self c.choose.ensures.past c.choose.ensures.kept))

pub returns-in-NextNonce-clause-traffic : goal.returns-in-NextNonce-clause-traffic
returns-in-NextNonce-clause-traffic g c = tells_same c.args.request.now c.args.self.now c.renew_next.new.self _ _ _ c.renew_next.ensures.past c.renew_next.ensures.kept c.renew_next.ensures.goes refl

pub returns-in-NextNonce-clause-faults : goal.returns-in-NextNonce-clause-faults
returns-in-NextNonce-clause-faults g c = tells_link_still g.D.Dialer.sticks c.args.self.now c.renew_next.new.self _ _ (ap link_faults c.renew_next.ensures.past) refl

pub returns-in-NextNonce-clause-quiet : goal.returns-in-NextNonce-clause-quiet
returns-in-NextNonce-clause-quiet g c = λ quiet. (quiet, ap link_faults c.renew_next.ensures.past)

pub returns-in-NextNonce-clause-prompts : goal.returns-in-NextNonce-clause-prompts
returns-in-NextNonce-clause-prompts g c = prompts_unprompted c.args.request.now c.args.self.now c.renew_next.new.self _ _ _ (unprompted_line c.args.self.now c.renew_next.new.self c.renew_next.ensures.past c.renew_next.ensures.kept) refl

pub returns-in-NextNonce-clause-prompt_faults : goal.returns-in-NextNonce-clause-prompt_faults
returns-in-NextNonce-clause-prompt_faults g c = tells_ask_still g.P.Prompter.sticks c.args.self.now c.renew_next.new.self _ _ (unprompted_faults c.args.self.now c.renew_next.new.self (unprompted_line c.args.self.now c.renew_next.new.self c.renew_next.ensures.past c.renew_next.ensures.kept)) refl

pub returns-in-NextNonce-clause-prompt_quiet : goal.returns-in-NextNonce-clause-prompt_quiet
returns-in-NextNonce-clause-prompt_quiet g c = λ quiet. (quiet, unprompted_faults c.args.self.now c.renew_next.new.self (unprompted_line c.args.self.now c.renew_next.new.self c.renew_next.ensures.past c.renew_next.ensures.kept))

pub returns-in-End-clause-traffic : goal.returns-in-End-clause-traffic
returns-in-End-clause-traffic g c = tells_finished c.args.request.now c.args.self.now c.finished.new.self c.in-End.outcome _ _ (sym (ap (λ (v : Kept). v.stage) c.self.view_is) ∙ c.in-End.is) c.finished.ensures.past c.finished.ensures.goes c.finished.ensures.kept

pub returns-in-End-clause-faults : goal.returns-in-End-clause-faults
returns-in-End-clause-faults g c = tells_link_still g.D.Dialer.sticks c.args.self.now c.finished.new.self _ _ (ap link_faults c.finished.ensures.past) refl

pub returns-in-End-clause-quiet : goal.returns-in-End-clause-quiet
returns-in-End-clause-quiet g c = λ quiet. (quiet, ap link_faults c.finished.ensures.past)

pub returns-in-End-clause-prompts : goal.returns-in-End-clause-prompts
returns-in-End-clause-prompts g c = prompts_unprompted c.args.request.now c.args.self.now c.finished.new.self _ _ _ (unprompted_event c.args.self.now c.finished.new.self (Ended c.in-End.outcome) c.finished.ensures.past refl c.finished.ensures.kept) refl

pub returns-in-End-clause-prompt_faults : goal.returns-in-End-clause-prompt_faults
returns-in-End-clause-prompt_faults g c = tells_ask_still g.P.Prompter.sticks c.args.self.now c.finished.new.self _ _ (unprompted_faults c.args.self.now c.finished.new.self (unprompted_event c.args.self.now c.finished.new.self (Ended c.in-End.outcome) c.finished.ensures.past refl c.finished.ensures.kept)) refl

pub returns-in-End-clause-prompt_quiet : goal.returns-in-End-clause-prompt_quiet
returns-in-End-clause-prompt_quiet g c = λ quiet. (quiet, unprompted_faults c.args.self.now c.finished.new.self (unprompted_event c.args.self.now c.finished.new.self (Ended c.in-End.outcome) c.finished.ensures.past refl c.finished.ensures.kept))

pub returns-in-SpentOver-clause-traffic : goal.returns-in-SpentOver-clause-traffic
returns-in-SpentOver-clause-traffic g c = tells_spent_over c.args.request.now c.args.self.now c.spent_over.new.self _ _ (sym (ap (λ (v : Kept). v.stage) c.self.view_is) ∙ c.in-SpentOver.is) c.spent_over.ensures.past c.spent_over.ensures.goes c.spent_over.ensures.kept

pub returns-in-SpentOver-clause-faults : goal.returns-in-SpentOver-clause-faults
returns-in-SpentOver-clause-faults g c = tells_link_still g.D.Dialer.sticks c.args.self.now c.spent_over.new.self _ _ (ap link_faults c.spent_over.ensures.past) refl

pub returns-in-SpentOver-clause-quiet : goal.returns-in-SpentOver-clause-quiet
returns-in-SpentOver-clause-quiet g c = λ quiet. (quiet, ap link_faults c.spent_over.ensures.past)

pub returns-in-SpentOver-clause-prompts : goal.returns-in-SpentOver-clause-prompts
returns-in-SpentOver-clause-prompts g c = prompts_unprompted c.args.request.now c.args.self.now c.spent_over.new.self _ _ _ (unprompted_event c.args.self.now c.spent_over.new.self (Ended NoMemory) c.spent_over.ensures.past refl c.spent_over.ensures.kept) refl

pub returns-in-SpentOver-clause-prompt_faults : goal.returns-in-SpentOver-clause-prompt_faults
returns-in-SpentOver-clause-prompt_faults g c = tells_ask_still g.P.Prompter.sticks c.args.self.now c.spent_over.new.self _ _ (unprompted_faults c.args.self.now c.spent_over.new.self (unprompted_event c.args.self.now c.spent_over.new.self (Ended NoMemory) c.spent_over.ensures.past refl c.spent_over.ensures.kept)) refl

pub returns-in-SpentOver-clause-prompt_quiet : goal.returns-in-SpentOver-clause-prompt_quiet
returns-in-SpentOver-clause-prompt_quiet g c = λ quiet. (quiet, unprompted_faults c.args.self.now c.spent_over.new.self (unprompted_event c.args.self.now c.spent_over.new.self (Ended NoMemory) c.spent_over.ensures.past refl c.spent_over.ensures.kept))

pub returns-in-Ask-clause-traffic : goal.returns-in-Ask-clause-traffic
returns-in-Ask-clause-traffic g c = tells_asked c.args.request.now c.args.self.now c.ask_next.new.self c.in-Ask.prompt c.in-Ask.ordinal c.in-Ask.prompt.number _ _ (sym (ap (λ (v : Kept). v.stage) c.self.view_is) ∙ c.in-Ask.is) c.ask_next.ensures.past c.ask_next.ensures.line

pub returns-in-Ask-clause-faults : goal.returns-in-Ask-clause-faults
returns-in-Ask-clause-faults g c = tells_link_still g.D.Dialer.sticks c.args.self.now c.ask_next.new.self _ _ (ap link_faults c.ask_next.ensures.past.1) refl

pub returns-in-Ask-clause-quiet : goal.returns-in-Ask-clause-quiet
returns-in-Ask-clause-quiet g c = λ quiet. (quiet, ap link_faults c.ask_next.ensures.past.1)

pub returns-in-Ask-clause-prompts : goal.returns-in-Ask-clause-prompts
returns-in-Ask-clause-prompts g c = λ s before by t it. c.ask_next.ensures.prompts s before t it

pub returns-in-Choose-clause-provider : goal.returns-in-Choose-clause-provider
returns-in-Choose-clause-provider g c =
    tells_no_step c.args.request.now g.T.Tokens.sticks c.args.self.now c.choose.new.self _ (ap steps c.choose.ensures.past)
    (goes_ends (way c.args.self.now.stage) (way c.choose.new.self.stage) c.choose.ensures.goes)

pub returns-in-Choose-clause-steps_quiet : goal.returns-in-Choose-clause-steps_quiet
returns-in-Choose-clause-steps_quiet g c = λ quiet. (quiet, same_step_faults c.args.self.now.past c.choose.new.self.past (ap steps c.choose.ensures.past))

pub returns-in-Choose-clause-touched : goal.returns-in-Choose-clause-touched
returns-in-Choose-clause-touched g c = inl (refl, ap steps c.choose.ensures.past)

pub returns-in-NextNonce-clause-provider : goal.returns-in-NextNonce-clause-provider
returns-in-NextNonce-clause-provider g c =
    tells_no_step c.args.request.now g.T.Tokens.sticks c.args.self.now c.renew_next.new.self _ (ap steps c.renew_next.ensures.past)
    (goes_ends (way c.args.self.now.stage) (way c.renew_next.new.self.stage) c.renew_next.ensures.goes)

pub returns-in-NextNonce-clause-steps_quiet : goal.returns-in-NextNonce-clause-steps_quiet
returns-in-NextNonce-clause-steps_quiet g c = λ quiet. (quiet, same_step_faults c.args.self.now.past c.renew_next.new.self.past (ap steps c.renew_next.ensures.past))

pub returns-in-NextNonce-clause-touched : goal.returns-in-NextNonce-clause-touched
returns-in-NextNonce-clause-touched g c = inl (refl, ap steps c.renew_next.ensures.past)

pub returns-in-Learn-clause-provider : goal.returns-in-Learn-clause-provider
returns-in-Learn-clause-provider g c =
    tells_no_step c.args.request.now g.T.Tokens.sticks c.args.self.now c.resume.new.self _ (ap steps c.resume.ensures.past)
    (goes_ends (way c.args.self.now.stage) (way c.resume.new.self.stage) c.resume.ensures.goes)

pub returns-in-Learn-clause-steps_quiet : goal.returns-in-Learn-clause-steps_quiet
returns-in-Learn-clause-steps_quiet g c = λ quiet. (quiet, same_step_faults c.args.self.now.past c.resume.new.self.past (ap steps c.resume.ensures.past))

pub returns-in-Learn-clause-touched : goal.returns-in-Learn-clause-touched
returns-in-Learn-clause-touched g c = inl (refl, ap steps c.resume.ensures.past)

pub returns-in-End-clause-provider : goal.returns-in-End-clause-provider
returns-in-End-clause-provider g c =
    tells_no_step c.args.request.now g.T.Tokens.sticks c.args.self.now c.finished.new.self _ (ap steps c.finished.ensures.past)
    (goes_ends (way c.args.self.now.stage) (way c.finished.new.self.stage) c.finished.ensures.goes)

pub returns-in-End-clause-steps_quiet : goal.returns-in-End-clause-steps_quiet
returns-in-End-clause-steps_quiet g c = λ quiet. (quiet, same_step_faults c.args.self.now.past c.finished.new.self.past (ap steps c.finished.ensures.past))

pub returns-in-End-clause-touched : goal.returns-in-End-clause-touched
returns-in-End-clause-touched g c = inl (refl, ap steps c.finished.ensures.past)

pub returns-in-SpentOver-clause-provider : goal.returns-in-SpentOver-clause-provider
returns-in-SpentOver-clause-provider g c =
    tells_no_step c.args.request.now g.T.Tokens.sticks c.args.self.now c.spent_over.new.self _ (ap steps c.spent_over.ensures.past)
    (goes_ends (way c.args.self.now.stage) (way c.spent_over.new.self.stage) c.spent_over.ensures.goes)

pub returns-in-SpentOver-clause-steps_quiet : goal.returns-in-SpentOver-clause-steps_quiet
returns-in-SpentOver-clause-steps_quiet g c = λ quiet. (quiet, same_step_faults c.args.self.now.past c.spent_over.new.self.past (ap steps c.spent_over.ensures.past))

pub returns-in-SpentOver-clause-touched : goal.returns-in-SpentOver-clause-touched
returns-in-SpentOver-clause-touched g c = inl (refl, ap steps c.spent_over.ensures.past)

pub returns-in-Ask-clause-provider : goal.returns-in-Ask-clause-provider
returns-in-Ask-clause-provider g c =
    tells_no_step c.args.request.now g.T.Tokens.sticks c.args.self.now c.ask_next.new.self _ c.ask_next.ensures.steps
    (onward_ends c.args.self.now c.ask_next.new.self (ap (λ st. is_ending (way st)) (sym (ap (λ (v : Kept). v.stage) c.self.view_is) ∙ c.in-Ask.is)))

pub returns-in-Ask-clause-steps_quiet : goal.returns-in-Ask-clause-steps_quiet
returns-in-Ask-clause-steps_quiet g c = λ quiet. (quiet, same_step_faults c.args.self.now.past c.ask_next.new.self.past c.ask_next.ensures.steps)

pub returns-in-Ask-clause-touched : goal.returns-in-Ask-clause-touched
returns-in-Ask-clause-touched g c = inl (refl, c.ask_next.ensures.steps)

pub returns-in-Read-clause-provider : goal.returns-in-Read-clause-provider
returns-in-Read-clause-provider g c =
    tells_no_step c.args.request.now g.T.Tokens.sticks c.args.self.now c.read.new.self _ c.read.ensures.steps
    (onward_ends c.args.self.now c.read.new.self (ap (λ st. is_ending (way st)) (sym (ap (λ (v : Kept). v.stage) c.self.view_is) ∙ c.in-Read.is)))

pub returns-in-Read-clause-steps_quiet : goal.returns-in-Read-clause-steps_quiet
returns-in-Read-clause-steps_quiet g c = λ quiet. (quiet, same_step_faults c.args.self.now.past c.read.new.self.past c.read.ensures.steps)

pub returns-in-Read-clause-touched : goal.returns-in-Read-clause-touched
returns-in-Read-clause-touched g c = inl (refl, c.read.ensures.steps)

pub go_on-requires-clause-room : goal.go_on-requires-clause-room
go_on-requires-clause-room g c = let room = (tied_continue c.args.request.now c.args.self.now c.in-Continue.target c.requires.tied (sym (ap (λ (v : Kept). v.stage) c.self.view_is) ∙ c.in-Continue.is)).past in omega (arith, room)

pub go_on-requires-clause-few : goal.go_on-requires-clause-few
go_on-requires-clause-few g c = (tied_continue c.args.request.now c.args.self.now c.in-Continue.target c.requires.tied (sym (ap (λ (v : Kept). v.stage) c.self.view_is) ∙ c.in-Continue.is)).rounds

pub go_on-requires-clause-live : goal.go_on-requires-clause-live
go_on-requires-clause-live g c = (tied_answer c.args.request.now c.args.self.now c.in-Continue.target c.requires.tied (sym (ap (λ (v : Kept). v.stage) c.self.view_is) ∙ c.in-Continue.is)).1

pub go_on-requires-clause-peer : goal.go_on-requires-clause-peer
go_on-requires-clause-peer g c = (tied_answer c.args.request.now c.args.self.now c.in-Continue.target c.requires.tied (sym (ap (λ (v : Kept). v.stage) c.self.view_is) ∙ c.in-Continue.is)).0

pub returns-in-Continue-clause-driven : goal.returns-in-Continue-clause-driven
returns-in-Continue-clause-driven g c = driven_same c.args.self.now c.go_on.new.self _ _ c.go_on.ensures.kept c.go_on.ensures.goes c.requires.linked c.requires.links c.requires.told

pub returns-in-Continue-clause-dials : goal.returns-in-Continue-clause-dials
returns-in-Continue-clause-dials g c = λ s before same t told. told ∙ ap (grown before) (sym (step_dials s c.args.self.now.past c.go_on.new.self.past c.go_on.ensures.past))

pub returns-in-Continue-clause-insides : goal.returns-in-Continue-clause-insides
returns-in-Continue-clause-insides g c = step_insides c.args.self.now.past c.go_on.new.self.past c.go_on.ensures.past

pub returns-in-Continue-clause-provider : goal.returns-in-Continue-clause-provider
returns-in-Continue-clause-provider g c = c.go_on.ensures.provider c.args.request.now

pub returns-in-Continue-clause-traffic : goal.returns-in-Continue-clause-traffic
returns-in-Continue-clause-traffic g c = tells_stepped c.args.request.now c.args.self.now c.go_on.new.self _ _ (ap (λ st. is_ending (way st)) (sym (ap (λ (v : Kept). v.stage) c.self.view_is) ∙ c.in-Continue.is)) c.go_on.ensures.past c.go_on.ensures.kept

pub returns-in-Continue-clause-faults : goal.returns-in-Continue-clause-faults
returns-in-Continue-clause-faults g c = tells_link_still g.D.Dialer.sticks c.args.self.now c.go_on.new.self _ _ (step_link_faults c.args.self.now.past c.go_on.new.self.past c.go_on.ensures.past) refl

pub returns-in-Continue-clause-quiet : goal.returns-in-Continue-clause-quiet
returns-in-Continue-clause-quiet g c = λ quiet. (quiet, step_link_faults c.args.self.now.past c.go_on.new.self.past c.go_on.ensures.past)

pub returns-in-Continue-clause-prompts : goal.returns-in-Continue-clause-prompts
returns-in-Continue-clause-prompts g c = prompts_unprompted c.args.request.now c.args.self.now c.go_on.new.self _ _ _ (step_unprompted c.args.self.now c.go_on.new.self c.go_on.ensures.past c.go_on.ensures.kept) refl

pub returns-in-Continue-clause-prompt_faults : goal.returns-in-Continue-clause-prompt_faults
returns-in-Continue-clause-prompt_faults g c = tells_ask_still g.P.Prompter.sticks c.args.self.now c.go_on.new.self _ _ (unprompted_faults c.args.self.now c.go_on.new.self (step_unprompted c.args.self.now c.go_on.new.self c.go_on.ensures.past c.go_on.ensures.kept)) refl

pub returns-in-Continue-clause-prompt_quiet : goal.returns-in-Continue-clause-prompt_quiet
returns-in-Continue-clause-prompt_quiet g c = λ quiet. (quiet, unprompted_faults c.args.self.now c.go_on.new.self (step_unprompted c.args.self.now c.go_on.new.self c.go_on.ensures.past c.go_on.ensures.kept))

pub lose-requires-clause-room : goal.lose-requires-clause-room
lose-requires-clause-room g c = tied_past c.args.request.now c.args.self.now c.requires.tied

pub returns-in-LoseLink-clause-driven : goal.returns-in-LoseLink-clause-driven
returns-in-LoseLink-clause-driven g c = driven_same c.args.self.now c.lose.new.self _ _ c.lose.ensures.kept (lost_goes c.args.self.now c.lose.new.self c.in-LoseLink.link (sym (ap (λ (v : Kept). v.stage) c.self.view_is) ∙ c.in-LoseLink.is) c.lose.ensures.away) c.requires.linked c.requires.links c.requires.told

pub returns-in-LoseLink-clause-traffic : goal.returns-in-LoseLink-clause-traffic
returns-in-LoseLink-clause-traffic g c = tells_lost c.args.request.now c.args.self.now c.lose.new.self c.in-LoseLink.link _ _ (sym (ap (λ (v : Kept). v.stage) c.self.view_is) ∙ c.in-LoseLink.is) c.lose.ensures.past c.lose.ensures.kept c.requires.linked

pub returns-in-LoseLink-clause-faults : goal.returns-in-LoseLink-clause-faults
returns-in-LoseLink-clause-faults g c = tells_link_still g.D.Dialer.sticks c.args.self.now c.lose.new.self _ _ (ap link_faults c.lose.ensures.past) refl

pub returns-in-LoseLink-clause-quiet : goal.returns-in-LoseLink-clause-quiet
returns-in-LoseLink-clause-quiet g c = λ quiet. (quiet, ap link_faults c.lose.ensures.past)

pub returns-in-LoseLink-clause-prompts : goal.returns-in-LoseLink-clause-prompts
returns-in-LoseLink-clause-prompts g c = prompts_unprompted c.args.request.now c.args.self.now c.lose.new.self _ _ _ (unprompted_event c.args.self.now c.lose.new.self (LinkLost c.in-LoseLink.link) c.lose.ensures.past refl c.lose.ensures.kept) refl

pub returns-in-LoseLink-clause-prompt_faults : goal.returns-in-LoseLink-clause-prompt_faults
returns-in-LoseLink-clause-prompt_faults g c = tells_ask_still g.P.Prompter.sticks c.args.self.now c.lose.new.self _ _ (unprompted_faults c.args.self.now c.lose.new.self (unprompted_event c.args.self.now c.lose.new.self (LinkLost c.in-LoseLink.link) c.lose.ensures.past refl c.lose.ensures.kept)) refl

pub returns-in-LoseLink-clause-prompt_quiet : goal.returns-in-LoseLink-clause-prompt_quiet
returns-in-LoseLink-clause-prompt_quiet g c = λ quiet. (quiet, unprompted_faults c.args.self.now c.lose.new.self (unprompted_event c.args.self.now c.lose.new.self (LinkLost c.in-LoseLink.link) c.lose.ensures.past refl c.lose.ensures.kept))

pub returns-in-LoseLink-clause-provider : goal.returns-in-LoseLink-clause-provider
returns-in-LoseLink-clause-provider g c = tells_no_step c.args.request.now g.T.Tokens.sticks c.args.self.now c.lose.new.self _ (ap steps c.lose.ensures.past) (goes_ends (way c.args.self.now.stage) (way c.lose.new.self.stage) (lost_goes c.args.self.now c.lose.new.self c.in-LoseLink.link (sym (ap (λ (v : Kept). v.stage) c.self.view_is) ∙ c.in-LoseLink.is) c.lose.ensures.away))

pub returns-in-LoseLink-clause-steps_quiet : goal.returns-in-LoseLink-clause-steps_quiet
returns-in-LoseLink-clause-steps_quiet g c = λ quiet. (quiet, same_step_faults c.args.self.now.past c.lose.new.self.past (ap steps c.lose.ensures.past))

pub returns-in-LoseLink-clause-touched : goal.returns-in-LoseLink-clause-touched
returns-in-LoseLink-clause-touched g c = inl (refl, ap steps c.lose.ensures.past)

pub returns-in-LoseLink-clause-nearer : goal.returns-in-LoseLink-clause-nearer
returns-in-LoseLink-clause-nearer g c = lost_nearer c.args.self.now c.lose.new.self c.in-LoseLink.link c.lose.ensures.past (tied_past c.args.request.now c.args.self.now c.requires.tied) (sym (ap (λ (v : Kept). v.stage) c.self.view_is) ∙ c.in-LoseLink.is)

pub returns-in-LoseLink-clause-less : goal.returns-in-LoseLink-clause-less
returns-in-LoseLink-clause-less g c = less_left c.args.self.now c.lose.new.self (pushed_less c.args.self.now c.lose.new.self _ c.lose.ensures.past (tied_past c.args.request.now c.args.self.now c.requires.tied))
