-- Settings of a request that know what its book knows.
use Rattle.std.specs.Prelude.{ℕ, ◌≡◌, false, List}
use Rattle.spaces.specs.declared.roster.Request.{Request}
use Rattle.spaces.specs.declared.roster.Roster.{Roster}
use Rattle.auth_events.specs.declared.journal.Entry.{Entry}
use Rattle.auth_events.specs.Tables.{Tables}
use Rattle.trace_rule.specs.Growing.{KnowsMore}
use Rattle.trace_rule.specs.Settings.{Setting, setting_of}

-- the setting is of the request, and all that these names and entries mean means the same in it
pub record KnowsBook (roster : Roster) (seed : List ℕ) (names : Tables) (entries : List Entry) (r : ℕ) (request : Request) (s : Setting) : Type 0 where
  pub same_number : s.number ≡ r
  pub same_request : s.request ≡ request
  pub same_seed : s.seed ≡ seed
  -- so far `negotiate` challenges are passed over
  pub no_negotiate : s.has_negotiate ≡ false
  pub knows : KnowsMore (setting_of roster seed names entries r request) s
