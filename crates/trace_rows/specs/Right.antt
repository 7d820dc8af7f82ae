-- What is claimed of a worked request.
use Rattle.std.specs.Prelude.{ℕ, List, reverse}
use Rattle.link_trait.specs.Links.{stream_in}
use Rattle.auth_runs.specs.declared.event.Event.{Event}
use Rattle.trace_rule.specs.Settings.{Setting}
use Rattle.trace_rule.specs.Traces.{IsTrace}
use Rattle.trace_rule.specs.Heard.{ended, IsHeard}

-- the events are a trace of the request, and what follows each head is what the recorded links show
abbrev pub IsRight : Setting → List (List (List ℕ)) → List Event → Type 0
IsRight s links events =
    IsTrace s events × IsHeard (λ name. ended (stream_in links name)) s.request.method s.number (reverse events)
