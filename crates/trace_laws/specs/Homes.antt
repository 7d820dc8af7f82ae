-- Whose credentials a request's heads carry: those of its own sites alone.
use Rattle.std.specs.Prelude.{ℕ, ◌≡◌, ◌==◌, ◌&&◌, ◌||◌, Bool, false, true, bytes_eq, if◌then◌else◌, IsTrue, List, [], ◌∷◌, reverse, Option, None, Some}
use Rattle.std.specs.List.{list_any}
use Rattle.auth_text.specs.Login.{Login}
use Rattle.spaces.specs.declared.roster.Request.{Request}
use Rattle.spaces.specs.declared.roster.Roster.{Roster}
use Rattle.spaces.specs.declared.site.Target.{Target}
use Rattle.spaces.specs.declared.site.Target.TheVariants.{Server, Proxy}
use Rattle.spaces.specs.ProtectionSpaces.{ProtectionSpace}
use Rattle.spaces.specs.Sites.{numbered, site, same_space, same_target}
use Rattle.auth_events.specs.declared.journal.Entry.{Entry}
use Rattle.auth_events.specs.declared.journal.Gift.{Gift}
use Rattle.auth_events.specs.declared.names.TermsName.{TermsName}
use Rattle.auth_events.specs.declared.journal.Call.TheVariants.{Preempt}
use Rattle.auth_events.specs.declared.journal.BookReply.TheVariants.{Ready}
use Rattle.auth_events.specs.Book.{IsLegalPast, same_gift}
use Rattle.auth_events.specs.Identities.{identity}
use Rattle.auth_events.specs.Tables.{Tables}
use Rattle.link_trait.specs.declared.steps.StepSeen.TheVariants.{Token}
use Rattle.wire_head.specs.RequestHeads.{head}
use Rattle.auth_runs.specs.declared.event.Event.{Event}
use Rattle.auth_runs.specs.declared.event.Event.TheVariants.{Called, Headed, Replied, Stepped}
use Rattle.trace_rule.specs.Settings.{Setting, or_else}
use Rattle.trace_rule.specs.Challenges.{challenges_target, space_at, supported}
use Rattle.trace_rule.specs.Entries.{AreEntries}
use Rattle.negotiate_handler.specs.Tokens.{negotiate_credentials}
use Rattle.trace_rule.specs.Heads.{credentials, digest_field, keeps, uri}
use Rattle.trace_rule.specs.Moves.{Asking, Want, spn}
use Rattle.trace_rule.specs.Moves.Asking.{Start}
use Rattle.trace_rule.specs.Moves.Want.{Steps}
use Rattle.trace_rule.specs.Closings.{want}
use Rattle.trace_rule.specs.Serving.{setting_in}
use Rattle.trace_rule.specs.Traces.{IsTrace}

-- SITES AND REALMS

-- the book had the gift ready for the target, by the request's path
abbrev pub readies : Target → Gift → Event → Bool
readies t gift (Called (Preempt target) (Ready told terms epoch)) = same_target target t && same_gift told gift
readies t gift _ = false

-- the event is a challenge of the target in the space, with its scheme and realm
abbrev pub asks_in : Setting → Target → ProtectionSpace → Event → Bool
asks_in s t space (Replied link reply) =
    challenges_target s reply t && list_any (λ offered. same_space (space_at space.site offered) space) (supported true reply)
asks_in s t space _ = false

-- the space of the gift is one of the request's site for the target: of its partition, of that target, at its origin; and the target asked there, or the book had it ready
pub record IsAtHome (names : Tables) (request : Request) (s : Setting) (past : List Event) (t : Target) (gift : Gift) : Type 0 where
  pub space : ProtectionSpace
  pub is_space : numbered names.spaces gift.space ≡ Some space
  pub is_site : site request t ≡ Some space.site
  pub is_asked : IsTrue (list_any (readies t gift) past || list_any (asks_in s t space) past)

-- TOKENS

-- the provider gave the token for the target
abbrev pub gives_token : Target → List ℕ → Event → Bool
gives_token t token (Stepped target (Token given)) = same_target target t && bytes_eq given token
gives_token t token _ = false

-- the start of a context for the target, where that is wanted
abbrev pub start_in : Target → Want → Option Asking
start_in t (Steps target (Start spn identity)) = if same_target target t then Some (Start spn identity) else None
start_in t _ = None

-- what the provider was asked when the last context for the target was started
abbrev pub last_start : Setting → List Event → Target → Option Asking
last_start s [] t = None
last_start s (Stepped target step ∷ past) t = or_else (start_in t (want s past)) (last_start s past t)
last_start s (event ∷ past) t = last_start s past t

-- whom a gift stands for; ordinal 0 is the default identity, which has no name
abbrev pub who : Roster → Tables → List Entry → Gift → Option Login
who roster names entries gift = if gift.ordinal == 0 then None else identity roster names entries gift

-- HEADS

-- a target's field is absent, or made of the identity that one gift of the request's own site stands for, with terms of its space where it is a digest, or of a token that the provider gave for who that is
pub data IsOwnField (roster : Roster) (names : Tables) (entries : List Entry) (request : Request) (s : Setting) (past : List Event) (t : Target) (field : Option (List ℕ)) : Type 0 where
  none : field ≡ None → IsOwnField roster names entries request s past t field
  by_password : (gift : Gift) → (login : Login) → IsAtHome names request s past t gift → identity roster names entries gift ≡ Some login
      → field ≡ Some (credentials login) → IsOwnField roster names entries request s past t field
  by_digest : (gift : Gift) → (login : Login) → (number : ℕ) → (name : TermsName) → IsAtHome names request s past t gift → identity roster names entries gift ≡ Some login
      → numbered names.terms number ≡ Some name → name.space ≡ gift.space
      → field ≡ Some (digest_field s past t name.terms login) → IsOwnField roster names entries request s past t field
  by_token : (gift : Gift) → (token : List ℕ) → IsAtHome names request s past t gift → IsTrue (list_any (gives_token t token) past)
      → last_start s past t ≡ Some (Start (spn s t) (who roster names entries gift))
      → field ≡ Some (negotiate_credentials token) → IsOwnField roster names entries request s past t field

-- the bytes are a head of the request, and each of its two fields is of its own target
pub record IsOwnHead (roster : Roster) (names : Tables) (entries : List Entry) (request : Request) (s : Setting) (past : List Event) (bytes : List ℕ) : Type 0 where
  pub proxy : Option (List ℕ)
  pub server : Option (List ℕ)
  pub is_head : bytes ≡ head request.method (uri s) request.place.origin proxy server (keeps s past)
  pub own_proxy : IsOwnField roster names entries request s past Proxy proxy
  pub own_server : IsOwnField roster names entries request s past Server server

abbrev pub IsOwn : Roster → Tables → List Entry → Request → Setting → List Event → Event → Type 0
IsOwn roster names entries request s past (Headed link bytes) = IsOwnHead roster names entries request s past bytes
IsOwn roster names entries request s past event = Unit {0}

-- each head of the past is so
abbrev pub AreOwnHeads : Roster → Tables → List Entry → Request → Setting → List Event → Type 0
AreOwnHeads roster names entries request s [] = Unit {0}
AreOwnHeads roster names entries request s (event ∷ past) =
    AreOwnHeads roster names entries request s past × IsOwn roster names entries request s past event

-- no head of a request whose calls are its entries in a legal history carries anything of another site
abbrev pub HeadsCarryTheirOwn : Type 0
HeadsCarryTheirOwn =
    (negotiate : Bool) → (roster : Roster) → (seed : List ℕ) → (names : Tables) → (entries : List Entry)
    → (r : ℕ) → (request : Request) → (events : List Event)
    → IsLegalPast roster names entries → numbered roster.requests r ≡ Some request → AreEntries entries r (reverse events)
    → IsTrace (setting_in negotiate roster seed names entries r request) events
    → AreOwnHeads roster names entries request (setting_in negotiate roster seed names entries r request) (reverse events)
