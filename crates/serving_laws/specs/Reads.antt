-- What a request of one caller reads of its book: the space, the identity and the terms of what it holds.
use Rattle.std.specs.Prelude.{ℕ, ◌≡◌, IsTrue, List, Some, is_some}
use Rattle.auth_text.specs.Login.{Login}
use Rattle.spaces.specs.declared.roster.Request.{Request}
use Rattle.spaces.specs.declared.roster.Roster.{Roster}
use Rattle.spaces.specs.declared.site.Target.{Target}
use Rattle.spaces.specs.declared.space.Scheme.TheVariants.{Digest}
use Rattle.spaces.specs.ProtectionSpaces.{ProtectionSpace}
use Rattle.spaces.specs.Sites.{numbered}
use Rattle.auth_events.specs.declared.journal.Entry.{Entry}
use Rattle.auth_events.specs.declared.names.TermsName.{TermsName}
use Rattle.auth_events.specs.Identities.{giving, identity}
use Rattle.auth_events.specs.Tables.{Tables}
use Rattle.auth_runs.specs.declared.event.Event.{Event}
use Rattle.trace_rule.specs.Holding.{Held, held}
use Rattle.trace_rule.specs.Settings.{Setting}
use Rattle.trace_rule.specs.Traces.{IsPast}
use Rattle.serving_laws.specs.Knowing.{KnowsBook}

-- by each setting that knows the book the past is one of the request, and this is held for the target
abbrev pub IsHeldBy : Roster → List ℕ → Tables → List Entry → ℕ → Request → List Event → Target → Held → Type 0
IsHeldBy roster seed names entries r request past t h =
    (s : Setting) → KnowsBook roster seed names entries r request s → IsPast s past × (held s past t ≡ Some h)

-- what the book tells of the space, the identity and the terms of what is held may be asked for, and is so by each setting that knows the book
pub record IsReadOf (roster : Roster) (seed : List ℕ) (names : Tables) (entries : List Entry) (r : ℕ) (request : Request) (h : Held) : Type 0 where
  pub is_named : IsTrue (is_some (numbered names.spaces h.gift.space))
  pub is_given : IsTrue (is_some (giving entries h.gift))
  pub has_terms : (space : ProtectionSpace) → numbered names.spaces h.gift.space ≡ Some space → space.scheme ≡ Digest → IsTrue (is_some (numbered names.terms h.terms))
  pub own_terms : (space : ProtectionSpace) (name : TermsName) → numbered names.spaces h.gift.space ≡ Some space → space.scheme ≡ Digest → numbered names.terms h.terms ≡ Some name → name.space ≡ h.gift.space
  pub space_is : (found : ProtectionSpace) (s : Setting) → KnowsBook roster seed names entries r request s → numbered names.spaces h.gift.space ≡ Some found → s.space_of h.gift.space ≡ Some found
  pub identity_is : (found : Login) (s : Setting) → KnowsBook roster seed names entries r request s → identity roster names entries h.gift ≡ Some found → s.identity_of h.gift ≡ Some found
  pub terms_is : (found : TermsName) (s : Setting) → KnowsBook roster seed names entries r request s → numbered names.terms h.terms ≡ Some found → s.terms_of h.terms ≡ Some found
