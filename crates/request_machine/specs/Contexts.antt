-- Contexts of a request: what the provider of tokens is asked, and what its steps make of what is held.
use Rattle.std.specs.Prelude.{ℕ, ◌≡◌, ◌==◌, nat_le, Bool, true, false, List, [], ◌++◌, codes, Option, Some, None, IfSome, IsSome, unwrap_or, option_map, if◌then◌else◌}
use Rattle.std.specs.List.{list_any}
use Rattle.auth_text.specs.Login.{Login}
use Rattle.spaces.specs.declared.roster.Request.{Request}
use Rattle.spaces.specs.declared.site.Target.{Target}
use Rattle.spaces.specs.declared.site.Target.TheVariants.{Server, Proxy, Socks}
use Rattle.spaces.specs.Sites.{site}
use Rattle.auth_events.specs.declared.journal.Gift.{Gift}
use Rattle.link_trait.specs.declared.steps.StepSeen.{StepSeen}
use Rattle.link_trait.specs.declared.steps.StepSeen.TheVariants.{Done as SeenDone, Refused as SeenRefused, NoMechanism as SeenNoMechanism}
use Rattle.link_trait.specs.declared.steps.Step.{Step}
use Rattle.link_trait.specs.declared.tokens.TokenCall.{TokenCall}
use Rattle.link_trait.specs.Tokens.{starting}
use Rattle.negotiate_handler.specs.Contexts.{HasAnswered, begun}
use Rattle.negotiate_handler.specs.declared.context.Stepped.{Stepped}
use Rattle.negotiate_handler.specs.declared.context.Said.{Said}
use Rattle.negotiate_handler.specs.declared.context.Said.TheVariants.{Refused, Done, NoMechanism}
use Rattle.trace_rule.specs.Settings.{Setting}
use Rattle.trace_rule.specs.Moves.{Asking}
use Rattle.trace_rule.specs.Moves.Want.{Steps}
use Rattle.trace_rule.specs.Closings.{want, closings_made}
use Rattle.trace_rule.specs.Traces.{IsPast, is_end}
use Rattle.trace_rule.specs.Moves.Asking.{Start}
use Rattle.request_machine.specs.declared.holding.Holding.{Holding}
use Rattle.request_machine.specs.declared.holding.Token.TheVariants.{Live}
use Rattle.request_machine.specs.declared.stage.Closing.{Closing}
use Rattle.request_machine.specs.declared.stage.Stage.{Stage}
use Rattle.request_machine.specs.declared.stage.Stage.TheVariants.{Go, Continue, LoseLink, Reject, Close}
use Rattle.request_machine.specs.declared.known.Lack.{Lack}
use Rattle.request_machine.specs.declared.known.Lack.TheVariants.{Context as Begun}
use Rattle.request_machine.specs.Kept.{Kept, holding}
use Rattle.request_machine.specs.Told.{IsReady, IsStartable, Lacks, link_told}

-- WHAT THE PROVIDER IS ASKED

-- `HTTP@` and the host of the target's site
abbrev pub spn_told : Request → Target → List ℕ
spn_told request t = codes "HTTP@" ++ unwrap_or (option_map (λ place. place.origin.host) (site request t)) []

-- none for the default identity
abbrev pub identity_told : Holding → Option Login
identity_told h = if h.gift.ordinal == 0 then None else h.identity

-- to start a context with the service of the target
abbrev pub start_told : Request → Target → Holding → Asking
start_told request t h = Start (spn_told request t) (identity_told h)

abbrev pub CanStart : Option Holding → Type 0
CanStart None = ⊥
CanStart (Some h) = IsStartable h

-- a context is to begin for the target, and none before it
abbrev pub IsStarting : Kept → Target → Type 0
IsStarting m Proxy = CanStart m.proxy
IsStarting m Server = IfSome m.proxy IsReady × CanStart m.server
IsStarting m Socks = ⊥

-- that is lacking of what is held for the target: a context only where it is to begin now
abbrev pub IsLackAt : Kept → Target → Lack → Type 0
IsLackAt m t Begun = IsStarting m t
IsLackAt m t lack = Lacks lack (holding m t)

-- WHAT ITS STEPS MAKE OF WHAT IS HELD

-- the context goes on with a token that no head has carried, over the link that it has bound
abbrev pub with_context : List ℕ → Holding → Holding
with_context token h = record h { context = Some (record { token = Live token; is_sent = false; link = link_told (Some h) }) }

-- how a provider's refusal is seen
abbrev pub seen_said : Said → StepSeen
seen_said Refused = SeenRefused
seen_said Done = SeenDone
seen_said NoMechanism = SeenNoMechanism

-- that there is no mechanism is a refusal of a context that has begun
abbrev pub IsBegun : Option Holding → Type 0
IsBegun None = ⊥
IsBegun (Some h) = IsSome h.context

-- the provider has said that there is no mechanism, by a refusal too
abbrev pub none_said : Bool → Said → Bool
none_said before NoMechanism = true
none_said before said = before

-- the sixteen rounds before leave room for a rejection
abbrev pub stage_refused : ℕ → Target → Gift → Closing → Stage
stage_refused rounds t gift closing = if nat_le 16 rounds then Close closing else Reject t gift

-- behind a token of the peer the context goes on, where the link stays
abbrev pub stage_continued : Bool → ℕ → Target → Stage
stage_continued stays link t = if stays then Continue t else LoseLink link

-- the first lost link of a request is made up for by a new one, and the second ends it
abbrev pub stage_lost : Bool → Closing → Stage
stage_lost lost closing = if lost then Close closing else Go

-- WHERE A STEP IS WANTED

-- the provider is asked next
pub record IsBefore (s : Setting) (m : Kept) (t : Target) (asking : Asking) : Type 0 where
  pub is_past : IsPast s m.past
  pub wanted : want s m.past ≡ Steps t asking
  pub no_end : list_any is_end m.past ≡ false
  pub none_made : closings_made s m.past ≡ 0

-- a provider was asked to start the context of what is held, and this came of it
pub record IsBegunBy (h : Holding) (number : ℕ) (spn : List ℕ) (stepped : Stepped) (told_old told_new : Option (List TokenCall))
    (script : Option (List (List Step))) (taken_old taken_new : Option (List ℕ)) (faults : ℕ) : Type 0 where
  pub step : Step
  pub answered : HasAnswered told_old told_new (starting step number spn (identity_told h)) script taken_old taken_new number step
  pub comes_to : stepped ≡ begun step faults
