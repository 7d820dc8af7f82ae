-- The setting that a machine is in, and the room that its past leaves.
use Rattle.std.specs.Prelude.{◌≡◌, ◌<◌, length}
use Rattle.spaces.specs.declared.roster.Request.{Request}
use Rattle.spaces.specs.declared.roster.Roster.{Roster}
use Rattle.trace_rule.specs.Settings.{Setting, IsNumbered}
use Rattle.request_machine.specs.declared.stage.Stage.{Stage}
use Rattle.request_machine.specs.declared.stage.Stage.TheVariants.{Go, Continue, Read}
use Rattle.request_machine.specs.Kept.{Kept, Ties, IsSettingOf}

-- there is a setting of which the fields tell
pub record HasSetting (m : Kept) : Type 0 where
  pub setting : Setting
  pub numbers : IsNumbered setting
  pub ties : Ties setting m

-- it is one of the request
pub record HasSettingOf (request : Request) (m : Kept) : Type 0 where
  pub setting : Setting
  pub same_request : setting.request ≡ request
  pub numbers : IsNumbered setting
  pub ties : Ties setting m

-- it is one of the roster's request of the machine's number
pub record HasSettingIn (roster : Roster) (m : Kept) : Type 0 where
  pub setting : Setting
  pub is_of : IsSettingOf setting roster m.number m.seed
  pub numbers : IsNumbered setting
  pub ties : Ties setting m

-- on the way to a head, and before its reply, the past leaves room, and so do the counts
pub record HasRoomToGo (m : Kept) : Type 0 where
  pub past : length m.past < 250
  pub links : m.links < 256
  pub heads : m.heads < 256
  pub rounds : m.rounds < 256

pub record HasRoomToRead (m : Kept) : Type 0 where
  pub past : length m.past < 250
  pub rounds : m.rounds < 256

abbrev pub HasRoomAt : Stage → Kept → Type 0
HasRoomAt Go m = HasRoomToGo m
HasRoomAt (Continue t) m = HasRoomToRead m
HasRoomAt (Read link) m = HasRoomToRead m
HasRoomAt stage m = length m.past < 256
