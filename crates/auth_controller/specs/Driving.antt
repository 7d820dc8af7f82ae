-- A machine that one caller drives: what its book, its words, its dialer and its prompter tell of it.
use Rattle.std.specs.Prelude.{ℕ, ◌≡◌, List, IfSome}
use Rattle.std.specs.declared.option.Option.{Option}
use Rattle.auth_text.specs.Login.{Login}
use Rattle.spaces.specs.ProtectionSpaces.{ProtectionSpace}
use Rattle.spaces.specs.declared.roster.Request.{Request}
use Rattle.spaces.specs.declared.roster.Roster.{Roster}
use Rattle.link_trait.specs.declared.dialer.Dial.{Dial}
use Rattle.link_trait.specs.declared.dialer.Traffic.{Traffic}
use Rattle.link_trait.specs.declared.links.LinkName.{LinkName}
use Rattle.link_trait.specs.declared.prompts.Ask.{Ask}
use Rattle.link_trait.specs.Told.{grown}
use Rattle.auth_events.specs.declared.journal.Drawn.{Drawn}
use Rattle.auth_events.specs.declared.told.Told.{Told}
use Rattle.auth_events.specs.Told.{names_told, past}
use Rattle.trace_rule.specs.Settings.{Setting}
use Rattle.trace_rule.specs.Telling.{dials}
use Rattle.request_machine.specs.Carried.{IsCarried}
use Rattle.request_machine.specs.Kept.{Kept}
use Rattle.request_machine.specs.Linked.{AreDialsOf, IsLinked, IsOnlyLink, line, of_others}
use Rattle.request_machine.specs.Prompted.{IsPrompted}
use Rattle.serving_laws.specs.Knowing.{KnowsBook}
use Rattle.auth_controller.specs.Serving.{IsServing}
use Rattle.auth_controller.specs.Texts.{AreTextsTold}

-- what the book, the words, the dialer and the prompter tell
pub record Seen : Type 0 where
  pub told : List Told
  pub words : List Drawn
  pub dials : Option (List Dial)
  pub opened : List LinkName
  pub traffic : Option (List Traffic)
  pub asks : Option (List Ask)

abbrev pub seen : List Told → List Drawn → Option (List Dial) → List LinkName → Option (List Traffic) → Option (List Ask) → Seen
seen told words dials opened traffic asks = record { told = told; words = words; dials = dials; opened = opened; traffic = traffic; asks = asks }

-- what links give and what the user answers, where it is known
pub record Peers : Type 0 where
  pub streams : Option (LinkName → List ℕ)
  pub answers : Option (ProtectionSpace → ℕ → Option Login)

abbrev pub peers : Option (LinkName → List ℕ) → Option (ProtectionSpace → ℕ → Option Login) → Peers
peers streams answers = record { streams = streams; answers = answers }

-- by each setting that knows the book
abbrev pub ByKnowing : Roster → Seen → Request → Kept → (Setting → Type 0) → Type 0
ByKnowing roster now request m P = (s : Setting) → KnowsBook roster m.seed (names_told now.told) (past now.told) m.number request s → P s

-- where traffic is told, it grew by what the machine's past says was written and heard
pub record IsTrafficTold (peer : Peers) (start now : Seen) (m : Kept) (s : Setting) : Type 0 where
  pub more : List Traffic
  pub grows : now.traffic ≡ grown start.traffic more
  pub carried : IsCarried s peer.streams start.traffic m more

-- since the start one caller serves the machine's request, whose links alone it dialed
pub record IsDriving (roster : Roster) (peer : Peers) (start now : Seen) (request : Request) (m : Kept) : Type 0 where
  pub serving : IsServing roster start.told now.told start.words now.words request m
  pub linked : IsLinked m
  pub only : IsOnlyLink (line m) now.opened
  pub undialed : AreDialsOf (line m) now.dials
  pub others : of_others m.number now.opened ≡ of_others m.number start.opened
  -- where dials are told, they grew by those of its past, and so did traffic and prompts
  pub dialed : ByKnowing roster now request m (λ s. now.dials ≡ grown start.dials (dials s m.past))
  pub traffic : ByKnowing roster now request m (IsTrafficTold peer start now m)
  pub prompted : ByKnowing roster now request m (λ s. IsPrompted s start.asks peer.answers m now.asks)
  -- where the answers are known, the texts of its calls name them
  pub texts : ByKnowing roster now request m (λ s. IfSome peer.answers (λ answers. AreTextsTold s answers (names_told now.told) m))

pub record HasDriving (roster : Roster) (peer : Peers) (start now : Seen) (m : Kept) : Type 0 where
  pub request : Request
  pub driving : IsDriving roster peer start now request m
