-- Where the tokens of a request's contexts go (RFC 4559).
use Rattle.std.specs.Prelude.{List, reverse}
use Rattle.auth_runs.specs.declared.event.Event.{Event}
use Rattle.trace_rule.specs.Settings.{Setting}
use Rattle.trace_rule.specs.Contexts.{IsBound}
use Rattle.trace_rule.specs.Traces.{IsPast, IsTrace}

-- all tokens of one context go over one link: the first is the provider's answer to a start, and each later one its answer to the peer's last token on that link
abbrev pub TokensKeepToTheirLink : Type 0
TokensKeepToTheirLink = (s : Setting) → (events : List Event) → IsTrace s events → IsBound s (reverse events)

-- so it is at every moment
abbrev pub PastsKeepToTheirLink : Type 0
PastsKeepToTheirLink = (s : Setting) → (past : List Event) → IsPast s past → IsBound s past
