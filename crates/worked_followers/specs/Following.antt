-- A machine that is told of one space alone, which has number 1.
use Rattle.std.specs.Prelude.{ℕ, ◌≡◌, Bool, true, false, IsTrue, IsSome, IfSome, List, Option, None, Some, is_some}
use Rattle.spaces.specs.declared.roster.Request.{Request}
use Rattle.spaces.specs.declared.roster.Roster.{Roster}
use Rattle.spaces.specs.ProtectionSpaces.{ProtectionSpace}
use Rattle.spaces.specs.Sites.{numbered}
use Rattle.link_trait.specs.declared.dialer.Dial.{Dial}
use Rattle.link_trait.specs.declared.links.LinkName.{LinkName}
use Rattle.auth_events.specs.declared.journal.Call.{Call}
use Rattle.auth_events.specs.declared.journal.Call.TheVariants.{Take}
use Rattle.auth_events.specs.declared.journal.BookReply.{BookReply}
use Rattle.auth_runs.specs.declared.event.Event.{Event}
use Rattle.trace_rule.specs.Settings.{Setting}
use Rattle.trace_rule.specs.Traces.{suits}
use Rattle.request_machine.specs.declared.stage.Stage.TheVariants.{Over}
use Rattle.request_machine.specs.Kept.{IsSettingOf, Kept, Ties}
use Rattle.request_machine.specs.Linked.{AreDialsOf, IsLinked, IsOnlyLink, line}
use Rattle.request_machine.specs.Rooms.{HasSetting}
use Rattle.request_machine.specs.declared.gave.Gave.{Gave}
use Rattle.request_machine.specs.declared.gave.Gave.TheVariants.{Number, Reply}
use Rattle.request_machine.specs.declared.need.Need.{Need}
use Rattle.request_machine.specs.declared.need.Need.TheVariants.{Book, SpaceNo}
use Rattle.worked_followers.specs.declared.follower.Stand.{Stand}
use Rattle.worked_followers.specs.declared.follower.Stand.TheVariants.{Astray, Going, Over as IsOver}

-- the space has number 1, both ways
abbrev pub IsFirst : Setting → ProtectionSpace → Type 0
IsFirst s space = (s.space_no space ≡ Some 1) × (s.space_of 1 ≡ Some space)

-- where space 1 is known, if it was named, the reply suits the call
abbrev pub SuitsNamed : Bool → Call → BookReply → Type 0
SuitsNamed is_named call reply = (s : Setting) (past : List Event) → (is_named ≡ true → IsSome (s.space_of 1)) → IsTrue (suits s past call reply)

-- what a prompt came to, for the requests that follow it, by what all settings say
abbrev pub IsTaken : BookReply → Type 0
IsTaken reply = (s : Setting) (past : List Event) (prompt : ℕ) → IsTrue (suits s past (Take prompt) reply)

-- the machine's fields are true in each setting of its request where the space that was named is the first one
pub record IsFollowing (roster : Roster) (named : Option ProtectionSpace) (opened : List LinkName) (dials : Option (List Dial)) (m : Kept) : Type 0 where
  pub request : Request
  pub in_roster : numbered roster.requests m.number ≡ Some request
  pub tied : (s : Setting) → IsSettingOf s roster m.number m.seed → IfSome named (IsFirst s) → Ties s m
  pub linked : IsLinked m
  pub only : IsOnlyLink (line m) opened
  pub dialed : AreDialsOf (line m) dials

pub record HasFollowing (roster : Roster) (is_named : Bool) (opened : List LinkName) (dials : Option (List Dial)) (m : Kept) : Type 0 where
  pub named : Option ProtectionSpace
  pub is_it : is_some named ≡ is_named
  pub following : IsFollowing roster named opened dials m

-- its trace can be taken
pub record IsThrough (m : Kept) : Type 0 where
  pub over : m.stage ≡ Over
  pub closed : m.link ≡ None
  pub tied : HasSetting m

-- the answer is true of the need: a reply suits the call, and the first space is named once
abbrev pub IsToldFor : Need → Bool → Gave → Bool → Type 0
IsToldFor (Book call) is_named (Reply reply) later = (later ≡ is_named) × SuitsNamed is_named call reply
IsToldFor (SpaceNo space) is_named (Number n) later = (later ≡ true) × (is_named ≡ false) × (n ≡ 1)
IsToldFor need is_named gave later = ⊥

-- the machine goes on as a follower's, or its trace can be taken
abbrev pub GoesOn : Roster → Stand → List LinkName → Option (List Dial) → Kept → Type 0
GoesOn roster (Going is_named) opened dials m = HasFollowing roster is_named opened dials m
GoesOn roster IsOver opened dials m = IsThrough m
GoesOn roster Astray opened dials m = Unit {0}
