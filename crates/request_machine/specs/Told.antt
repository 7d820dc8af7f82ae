-- What a machine knows of what it holds, by what it was told.
use Rattle.std.specs.Prelude.{ℕ, ◌≡◌, ◌==◌, ◌&&◌, ◌||◌, Bool, true, false, List, Option, Some, None, IfSome, IsSome, is_some, unwrap_or, option_map, option_and_then, if◌then◌else◌}
use Rattle.spaces.specs.declared.site.Target.{Target}
use Rattle.spaces.specs.declared.site.Target.TheVariants.{Server, Proxy}
use Rattle.spaces.specs.declared.space.Scheme.{Scheme}
use Rattle.spaces.specs.declared.space.Scheme.TheVariants.{Basic, Digest, Negotiate}
use Rattle.spaces.specs.ProtectionSpaces.{ProtectionSpace}
use Rattle.spaces.specs.Sites.{same_scheme, same_target}
use Rattle.trace_rule.specs.Moves.{has_count}
use Rattle.auth_events.specs.declared.journal.Gift.{Gift}
use Rattle.auth_events.specs.declared.journal.Call.{Call}
use Rattle.auth_events.specs.declared.journal.Call.TheVariants.{Begin, Preempt}
use Rattle.auth_events.specs.declared.journal.BookReply.{BookReply}
use Rattle.auth_events.specs.declared.journal.BookReply.TheVariants.{Ready}
use Rattle.auth_text.specs.Login.{Login}
use Rattle.auth_runs.specs.declared.event.Outcome.{Outcome}
use Rattle.request_machine.specs.declared.stage.Closing.{Closing}
use Rattle.request_machine.specs.declared.stage.Piece.{Piece}
use Rattle.request_machine.specs.declared.stage.Piece.TheVariants.{Space, Identity, Terms}
use Rattle.request_machine.specs.declared.holding.Context.{Context}
use Rattle.request_machine.specs.declared.holding.NamedTerms.{NamedTerms}
use Rattle.request_machine.specs.declared.holding.Token.{Token}
use Rattle.request_machine.specs.declared.holding.Token.TheVariants.{Live, Spent}
use Rattle.request_machine.specs.declared.holding.Holding.{Holding}
use Rattle.request_machine.specs.declared.known.Lack.{Lack}
use Rattle.request_machine.specs.declared.known.Lack.TheVariants.{Piece as APiece, Context as Begun, Ended}

abbrev pub scheme_told : Option ProtectionSpace → Scheme → Bool
scheme_told space scheme = unwrap_or (option_map (λ named. same_scheme named.scheme scheme) space) false

-- the nonce of which a count is drawn
abbrev pub counted_nonce : NamedTerms → Option ℕ
counted_nonce named = if has_count named.terms.qop then Some named.nonce else None

abbrev pub nonce_told : Holding → Option ℕ
nonce_told h = if scheme_told h.space Digest then option_and_then counted_nonce h.named else None

-- CONTEXTS

-- the token, whether its context goes on or not
abbrev pub token_kept : Token → List ℕ
token_kept (Live token) = token
token_kept (Spent token) = token

-- the context goes on behind its last token
abbrev pub goes_on_behind : Token → Bool
goes_on_behind (Live token) = true
goes_on_behind (Spent token) = false

abbrev pub is_live : Option Context → Bool
is_live context = unwrap_or (option_map (λ c. goes_on_behind c.token) context) false

-- the last token, where no head has carried it
abbrev pub unsent_told : Context → Option (List ℕ)
unsent_told context = if context.is_sent then None else Some (token_kept context.token)

-- the head carries it, and binds its link
abbrev pub carried_on_told : ℕ → Context → Context
carried_on_told link context = record context { is_sent = true; link = Some link }

abbrev pub headed_told : ℕ → Holding → Holding
headed_told link h = record h { context = option_map (carried_on_told link) h.context }

abbrev pub context_held : Option Holding → Option Context
context_held h = option_and_then (λ o. o.context) h

-- its context goes on
abbrev pub IsLive : Option Holding → Type 0
IsLive None = ⊥
IsLive (Some h) = is_live h.context ≡ true

-- the last token of its context
abbrev pub IsTokenOf : List ℕ → Option Holding → Type 0
IsTokenOf token h = IfSome (context_held h) (λ c. token ≡ token_kept c.token)

-- the provider is asked to go on, and what is held keeps the last token
abbrev pub ended_on : Context → Context
ended_on context = record context { token = Spent (token_kept context.token) }

abbrev pub ended_told : Holding → Holding
ended_told h = record h { context = option_map ended_on h.context }

-- with its link a context is lost
abbrev pub lost_told : Holding → Holding
lost_told h = record h { context = None }

-- the link that its context has bound
abbrev pub link_told : Option Holding → Option ℕ
link_told h = option_and_then (λ c. c.link) (context_held h)

-- it has a token that no head has carried
abbrev pub has_unsent : Option Holding → Bool
has_unsent h = is_some (option_and_then unsent_told (context_held h))

-- WHAT THE NEXT HEAD NEEDS OF IT

-- of a Negotiate identity a context that goes on; of any other the identity, and of a Digest one its terms
pub record IsReady (h : Holding) : Type 0 where
  pub space : IsSome h.space
  pub context : scheme_told h.space Negotiate ≡ true → is_live h.context ≡ true
  pub identity : scheme_told h.space Negotiate ≡ false → IsSome h.identity
  pub named : scheme_told h.space Digest ≡ true → IsSome h.named

-- its context can begin: the identity is told, unless it is the default one
pub record IsStartable (h : Holding) : Type 0 where
  pub negotiate : scheme_told h.space Negotiate ≡ true
  pub free : h.context ≡ None
  pub identity : (h.gift.ordinal == 0) ≡ false → IsSome h.identity

-- the default identity, of which the book has nothing
abbrev pub is_default : Holding → Bool
is_default h = scheme_told h.space Negotiate && h.gift.ordinal == 0

-- the piece is lacking of it
abbrev pub IsLack : Piece → Holding → Type 0
IsLack Space h = h.space ≡ None
IsLack Identity h = (h.identity ≡ None) × (is_default h ≡ false)
IsLack Terms h = (scheme_told h.space Digest ≡ true) × (h.named ≡ None)

abbrev pub IsLacking : Piece → Option Holding → Type 0
IsLacking piece None = ⊥
IsLacking piece (Some h) = IsLack piece h

-- that is lacking of it, before the next head
abbrev pub LacksOne : Lack → Holding → Type 0
LacksOne (APiece piece) h = IsLack piece h
LacksOne Begun h = IsStartable h
LacksOne Ended h = Unit {0}

abbrev pub Lacks : Lack → Option Holding → Type 0
Lacks lack None = ⊥
Lacks lack (Some h) = LacksOne lack h

-- the calls that a request begins with
abbrev pub is_first : Call → Bool
is_first Begin = true
is_first (Preempt Proxy) = true
is_first (Preempt Server) = true
is_first call = false

-- the first target of a route
abbrev pub target_of : Bool → Target
target_of proxied = if proxied then Proxy else Server

-- a gift of which nothing is told yet
abbrev pub bare : Gift → ℕ → Option ℕ → Holding
bare gift terms epoch = record { gift = gift; terms = terms; preemptive = epoch; context = None; space = None; identity = None; named = None }

-- by the reply to a preemption
abbrev pub held_first : BookReply → Option Holding → Option Holding
held_first (Ready gift terms epoch) before = Some (bare gift terms (Some epoch))
held_first reply before = before

-- WHAT THE BOOK TELLS OF IT

abbrev pub with_space : ProtectionSpace → Holding → Holding
with_space space h = record h { space = Some space }

abbrev pub with_identity : Login → Holding → Holding
with_identity identity h = record h { identity = Some identity }

abbrev pub with_named : NamedTerms → Holding → Holding
with_named named h = record h { named = Some named }

-- the gift that is noted, where the identity is a Basic or Digest one
abbrev pub gift_told : Holding → Option Gift
gift_told h = if scheme_told h.space Basic || scheme_told h.space Digest then Some h.gift else None

-- nothing is noted at the end
abbrev pub closing_by : Outcome → Closing
closing_by outcome = record { outcome = outcome; proxy = None; server = None }

-- by a choice for the target: its gift, with terms
abbrev pub held_chosen : Target → Gift → ℕ → Target → Option Holding → Option Holding
held_chosen t gift terms x before = if same_target x t then Some (bare gift terms None) else before

-- what is held for the target is held no more
abbrev pub held_rejected : Target → Target → Option Holding → Option Holding
held_rejected t x before = if same_target x t then None else before

-- what is noted for a target, unless it is the one that is challenged
abbrev pub unless_it : Target → Target → Option Gift → Option Gift
unless_it t x gift = if same_target x t then None else gift

-- behind the last challenge of the target what is held for it stays where something decides on it
abbrev pub held_last : Bool → Target → Target → Option Holding → Option Holding
held_last decides t x before = if same_target x t then (if decides then before else None) else before
