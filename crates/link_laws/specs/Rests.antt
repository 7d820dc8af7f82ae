-- What was read of a request's links, and what of it no reply has taken yet.
use Rattle.std.specs.Prelude.{ℕ, ◌≡◌, true, List, [], ◌++◌}
use Rattle.spaces.specs.declared.roster.Method.{Method}
use Rattle.link_trait.specs.declared.links.LinkName.{LinkName}
use Rattle.link_trait.specs.declared.dialer.Traffic.{Traffic}
use Rattle.link_trait.specs.Links.{Stream, read_on}
use Rattle.connection_binding.specs.LinkStates.{LinkState}
use Rattle.connection_binding.specs.Readings.{IsNextOf}
use Rattle.auth_runs.specs.declared.event.Event.{Event}
use Rattle.trace_rule.specs.Holding.{has_reply}
use Rattle.trace_rule.specs.Heard.{rest}

-- what was read of each link
abbrev pub read_of : List Traffic → LinkName → Stream
read_of traffic link = read_on link traffic

-- a stream with so many bytes more; behind its end there are none
pub record IsMoreBy (more : List ℕ) (before now : Stream) : Type 0 where
  pub bytes : now.bytes ≡ before.bytes ++ more
  pub at_end : before.ended ≡ true → (more ≡ []) × (now.ended ≡ true)

-- the same of each link
abbrev pub AreMoreBy : (LinkName → List ℕ) → (LinkName → Stream) → (LinkName → Stream) → Type 0
AreMoreBy more before now = (link : LinkName) → IsMoreBy (more link) (before link) (now link)

-- what was read of each link is the front of what its peer sends
abbrev pub AreFrontsOf : (LinkName → List ℕ) → (LinkName → Stream) → Type 0
AreFrontsOf streams read = (link : LinkName) → IsNextOf (streams link) (read link)

-- the link keeps what was read of it behind the replies that the request has taken, and knows whether there was one
pub record IsAt (streams : LinkName → Stream) (method : Method) (r link : ℕ) (past : List Event) (state : LinkState) : Type 0 where
  pub name : state.name ≡ record { request = r; nth = link }
  pub kept : (rest streams method r link past).bytes ≡ state.kept
  pub replied : state.has_replied ≡ has_reply link past
