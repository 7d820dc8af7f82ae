-- A context and its link (RFC 4559): all tokens of one context go over one link. It follows from what may come next, and is said here because it can be read alone.
use Rattle.std.specs.Prelude.{ℕ, ◌≡◌, ◌==◌, List, [], ◌∷◌, Option, Some, None, option_and_then, if◌then◌else◌}
use Rattle.auth_text.specs.Login.{Login}
use Rattle.spaces.specs.declared.site.Target.{Target}
use Rattle.spaces.specs.declared.site.Target.TheVariants.{Server, Proxy}
use Rattle.wire_head.specs.declared.reply.Reply.{Reply}
use Rattle.link_trait.specs.declared.steps.StepSeen.TheVariants.{Token}
use Rattle.auth_runs.specs.declared.event.Event.{Event}
use Rattle.auth_runs.specs.declared.event.Event.TheVariants.{Headed, Replied, Stepped}
use Rattle.trace_rule.specs.Settings.{Setting}
use Rattle.trace_rule.specs.Challenges.{peer_token}
use Rattle.trace_rule.specs.Holding.{Context, held, context_of}
use Rattle.trace_rule.specs.Moves.{spn}
use Rattle.trace_rule.specs.Closings.{want}
use Rattle.trace_rule.specs.Moves.Want.{Steps}
use Rattle.trace_rule.specs.Moves.Asking.{Start, GoOn}

-- the last reply that was read on the link
abbrev pub last_reply_on : ℕ → List Event → Option Reply
last_reply_on link [] = None
last_reply_on link (Replied on reply ∷ past) = if on == link then Some reply else last_reply_on link past
last_reply_on link (event ∷ past) = last_reply_on link past

-- a context that is bound to a link sends its heads there
abbrev pub IsOnLink : ℕ → Option ℕ → Type 0
IsOnLink link None = Unit {0}
IsOnLink link (Some bound) = link ≡ bound

-- the first token of a context is the provider's answer to a start, and each later one its answer to the token of the last reply that was read on the context's link
abbrev pub IsNextToken : Setting → List Event → Target → Option Context → Type 0
IsNextToken s past t None = (identity : Option Login) × (want s past ≡ Steps t (Start (spn s t) identity))
IsNextToken s past t (Some context) =
    (link : ℕ) × (reply : Reply) × (peer : List ℕ) × (context.link ≡ Some link) × (last_reply_on link past ≡ Some reply)
    × (peer_token reply ≡ Some peer) × (want s past ≡ Steps t (GoOn peer))

abbrev pub KeepsLink : Setting → List Event → Event → Type 0
KeepsLink s past (Headed link bytes) =
    IsOnLink link (option_and_then (λ context. context.link) (context_of (held s past Proxy)))
    × IsOnLink link (option_and_then (λ context. context.link) (context_of (held s past Server)))
KeepsLink s past (Stepped t (Token token)) = IsNextToken s past t (context_of (held s past t))
KeepsLink s past event = Unit {0}

-- the tokens of each context of a past go over one link
abbrev pub IsBound : Setting → List Event → Type 0
IsBound s [] = Unit {0}
IsBound s (event ∷ past) = IsBound s past × KeepsLink s past event
