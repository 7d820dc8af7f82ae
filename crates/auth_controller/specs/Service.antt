-- A request that one caller served: what dialer and prompter tell behind it.
use Rattle.std.specs.Prelude.{ℕ, ◌≡◌, List, reverse, IfSome}
use Rattle.auth_events.specs.Tables.{Tables}
use Rattle.auth_runs.specs.declared.event.Event.{Event}
use Rattle.std.specs.declared.option.Option.{Option}
use Rattle.link_trait.specs.declared.dialer.Dial.{Dial}
use Rattle.link_trait.specs.Told.{grown}
use Rattle.trace_rule.specs.Settings.{Setting}
use Rattle.trace_rule.specs.Heard.{IsHeard}
use Rattle.trace_rule.specs.Telling.{IsSent, dials, prompted}
use Rattle.auth_text.specs.Login.{Login}
use Rattle.spaces.specs.ProtectionSpaces.{ProtectionSpace}
use Rattle.link_trait.specs.declared.dialer.Traffic.{Traffic}
use Rattle.link_trait.specs.declared.links.LinkName.{LinkName}
use Rattle.link_trait.specs.declared.prompts.Ask.{Ask}
use Rattle.link_trait.specs.Links.{read_on}
use Rattle.request_machine.specs.Carried.{IsRecorded, IsSilent, sent}
use Rattle.request_machine.specs.Prompted.{AreAnswered}
use Rattle.auth_controller.specs.Texts.{AreTextsOf}

-- where it is told, a dialer tells more by what the trace says was dialed, written and heard
pub record IsCarriedOut (s : Setting) (streams : Option (LinkName → List ℕ)) (dials_before dials_now : Option (List Dial)) (before now : Option (List Traffic)) (trace : List Event) : Type 0 where
  pub dialed : dials_now ≡ grown dials_before (dials s (reverse trace))
  pub more : List Traffic
  pub grows : now ≡ grown before more
  pub sent : IsSent s (reverse trace) (sent more)
  pub heard : IsHeard (λ name. read_on name more) s.request.method s.number (reverse trace)
  -- where the peers' streams are known, and nothing was read of the request's links before
  pub recorded : IsSilent s.number before → IsRecorded streams s.request.method s.number (reverse trace)

-- where it is told, a prompter tells more by what the trace asked; where its answers are known, each prompt was answered by what stands for it, and the book was given that by its text
pub record IsPromptedOut (s : Setting) (answers : Option (ProtectionSpace → ℕ → Option Login)) (names : Tables) (before now : Option (List Ask)) (trace : List Event) : Type 0 where
  pub told : now ≡ grown before (prompted s (reverse trace))
  pub answered : IfSome answers (λ answer. AreAnswered s answer (reverse trace))
  pub texts : IfSome answers (λ answer. AreTextsOf s answer names (reverse trace))
