-- The nonce that a reply gives for the next request (RFC 7615; RFC 7616, section 3.5).
use Rattle.std.specs.Prelude.{ℕ, List, [], ◌∷◌, codes, Option, None, option_and_then}
use Rattle.spaces.specs.declared.site.Target.{Target}
use Rattle.spaces.specs.declared.site.Target.TheVariants.{Server, Proxy, Socks}
use Rattle.challenge_tokens.specs.Infos.{info_read}
use Rattle.challenge_tokens.specs.Names.{value_under}
use Rattle.wire_head.specs.declared.reply.Reply.{Reply}
use Rattle.auth_runs.specs.declared.event.Event.{Event}
use Rattle.trace_rule.specs.Settings.{or_else}
use Rattle.trace_rule.specs.Holding.{last_reply}

-- the info values of the reply for the target
abbrev pub infos_for : Reply → Target → List (List ℕ)
infos_for reply Server = reply.server_info
infos_for reply Proxy = reply.proxy_info
infos_for reply Socks = []

-- the next nonce of an info value
unfoldable pub next_in : List ℕ → Option (List ℕ)
next_in value = value_under (codes "nextnonce") (info_read value)

-- that of the first value that has one
abbrev pub first_next : List (List ℕ) → Option (List ℕ)
first_next [] = None
first_next (value ∷ values) = or_else (next_in value) (first_next values)

-- the next nonce that the last reply gives for the target
abbrev pub next : List Event → Target → Option (List ℕ)
next past t = option_and_then (λ reply. first_next (infos_for reply t)) (last_reply past)
