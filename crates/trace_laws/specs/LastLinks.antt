-- The link of a request that was dialed last: no other is bound, and no other is written to or read.
use Rattle.std.specs.Prelude.{ℕ, ◌≡◌, ◌<◌, false, true, List, ◌∷◌, Some}
use Rattle.wire_head.specs.declared.reply.Reply.{Reply}
use Rattle.auth_runs.specs.declared.event.Event.{Event}
use Rattle.auth_runs.specs.declared.event.Event.TheVariants.{Replied}
use Rattle.trace_rule.specs.Settings.{Setting}
use Rattle.trace_rule.specs.Holding.{bound, links, has_reply, stays}
use Rattle.trace_rule.specs.Moves.{head_link}
use Rattle.trace_rule.specs.Traces.{IsPast}

-- while a link is bound none is dialed
abbrev pub BoundLinksAreLast : Type 0
BoundLinksAreLast = (s : Setting) (past : List Event) (link : ℕ) → IsPast s past → bound s past ≡ Some link → link ≡ links past

-- so the next head goes over the last one
abbrev pub HeadsGoOverTheLast : Type 0
HeadsGoOverTheLast = (s : Setting) (past : List Event) → IsPast s past → head_link s past ≡ links past

-- and each reply is read there
abbrev pub RepliesComeOnTheLast : Type 0
RepliesComeOnTheLast = (s : Setting) (past : List Event) (link : ℕ) (reply : Reply) → IsPast s (Replied link reply ∷ past) → link ≡ links past

-- of those that will be dialed nothing was read
abbrev pub LaterLinksAreUnread : Type 0
LaterLinksAreUnread = (s : Setting) (past : List Event) (n : ℕ) → IsPast s past → links past < n → (has_reply n past ≡ false) × (stays past n ≡ true)
