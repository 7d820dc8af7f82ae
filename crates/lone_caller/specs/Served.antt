-- All requests of a roster, served by one caller over links and answers that are known.
use Rattle.std.specs.Prelude.{ℕ, ◌≡◌, List, length, reverse, Some}
use Rattle.std.specs.declared.option.Option.{Option}
use Rattle.auth_text.specs.Login.{Login}
use Rattle.spaces.specs.declared.roster.Roster.{Roster}
use Rattle.spaces.specs.ProtectionSpaces.{ProtectionSpace}
use Rattle.link_trait.specs.declared.links.LinkName.{LinkName}
use Rattle.auth_events.specs.declared.journal.Drawn.{Drawn}
use Rattle.auth_events.specs.declared.told.Told.{Told}
use Rattle.auth_runs.specs.declared.event.Event.{Event}
use Rattle.trace_rule.specs.Heard.{ended}
use Rattle.run_rule.specs.Outside.{Outside}
use Rattle.lone_laws.specs.Lone.{AreServed}

-- what a dialer's peers send until they end, and what a prompter answers, is the outside's
pub record IsOutsideOf (outside : Outside) (streams : Option (LinkName → List ℕ)) (answers : Option (ProtectionSpace → ℕ → Option Login)) : Type 0 where
  pub bytes : LinkName → List ℕ
  pub streams_are : streams ≡ Some bytes
  pub whole : outside.streams ≡ (λ link. ended (bytes link))
  pub answers_are : answers ≡ Some outside.answers

-- over each outside that these are of, the first requests of the roster were served so
abbrev pub AreServedOver : Roster → List ℕ → Option (LinkName → List ℕ) → Option (ProtectionSpace → ℕ → Option Login) → List (List Event) → List Told → List Drawn → Type 0
AreServedOver roster seed streams answers traces told words =
    (outside : Outside) → IsOutsideOf outside streams answers → AreServed outside roster seed (reverse traces) told words

-- all requests of the roster were
pub record AreAllServed (roster : Roster) (seed : List ℕ) (streams : Option (LinkName → List ℕ)) (answers : Option (ProtectionSpace → ℕ → Option Login)) (traces : List (List Event)) (told : List Told) : Type 0 where
  pub words : List Drawn
  pub served : AreServedOver roster seed streams answers traces told words
  pub all : length traces ≡ length roster.requests
