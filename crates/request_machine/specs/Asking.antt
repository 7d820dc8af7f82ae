-- What follows the prompter's answer, and how a request closes behind a prompt.
use Rattle.std.specs.Prelude.{ℕ, ◌≡◌, false, List, ◌∷◌, Option, None, unwrap_or, option_map, if◌then◌else◌}
use Rattle.spaces.specs.declared.site.Target.{Target}
use Rattle.spaces.specs.declared.site.Target.TheVariants.{Server, Proxy}
use Rattle.spaces.specs.Sites.{same_target}
use Rattle.auth_events.specs.declared.journal.Gift.{Gift}
use Rattle.auth_events.specs.declared.journal.Loss.{Loss}
use Rattle.auth_events.specs.declared.journal.Loss.TheVariants.{Fault, Memory}
use Rattle.link_trait.specs.declared.prompts.AskSeen.{AskSeen}
use Rattle.link_trait.specs.declared.prompts.AskSeen.TheVariants.{Given, Cancel as AskCancel, Failed, NoMemory as AskNoMemory}
use Rattle.auth_runs.specs.declared.event.Event.{Event}
use Rattle.auth_runs.specs.declared.event.Event.TheVariants.{AskedFor}
use Rattle.auth_runs.specs.declared.event.Outcome.{Outcome}
use Rattle.auth_runs.specs.declared.event.Outcome.TheVariants.{Refused, PromptFailed, NoMemory}
use Rattle.auth_runs.specs.declared.event.Why.{Why}
use Rattle.request_machine.specs.declared.stage.Closing.{Closing}
use Rattle.request_machine.specs.declared.stage.Prompt.{Prompt}
use Rattle.request_machine.specs.declared.stage.Stage.{Stage}
use Rattle.request_machine.specs.declared.stage.Stage.TheVariants.{NameText, Cancel, Lose}
use Rattle.request_machine.specs.Kept.{Kept}
use Rattle.request_machine.specs.Replies.{challenged_told}

-- where a request stands by what the prompter gave
abbrev pub stage_asked : Prompt → AskSeen → Stage
stage_asked p Given = NameText p
stage_asked p AskCancel = Cancel p
stage_asked p (Failed count) = Lose p (Fault count)
stage_asked p AskNoMemory = Lose p Memory

-- the prompt was asked, whatever the prompter gave
abbrev pub IsAskedIn : ℕ → List Event → List Event → Type 0
IsAskedIn p before now = (seen : AskSeen) × (now ≡ AskedFor p seen ∷ before)

-- the outcome behind a lost prompt
abbrev pub outcome_lost : Loss → Outcome
outcome_lost (Fault count) = PromptFailed count
outcome_lost Memory = NoMemory

-- what is noted for a target, unless it is challenged
abbrev pub unless_told : Option Target → Target → Option Gift → Option Gift
unless_told challenged x gift = if unwrap_or (option_map (same_target x) challenged) false then None else gift

-- a refused request notes what the last head carried for the target that the last reply doesn't challenge
abbrev pub refused_by : Kept → Why → Closing
refused_by m why = record {
  outcome = Refused m.code why;
  proxy = unless_told (challenged_told m.is_proxied m.code) Proxy m.noted_proxy;
  server = unless_told (challenged_told m.is_proxied m.code) Server m.noted_server;
}
