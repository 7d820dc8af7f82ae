-- A noted directory by the place of its entry.
use Rattle.std.specs.Prelude.{ℕ, List, Option, None, Some, unwrap_or, option_map, slice_get, fold, if◌then◌else◌}
use Rattle.spaces.specs.Paths.{dir_of, covers}
use Rattle.spaces.specs.declared.site.Site.{Site}
use Rattle.spaces.specs.declared.roster.Roster.{Roster}
use Rattle.spaces.specs.declared.site.Target.{Target}
use Rattle.auth_events.specs.declared.journal.Entry.{Entry}
use Rattle.auth_events.specs.Tables.{Tables}
use Rattle.auth_events.specs.Book.{NotedDir, Found, better, path_of, target_of}
use Rattle.plain_book.specs.declared.paths.FoundAt.{FoundAt}
use Rattle.plain_book.specs.declared.paths.SiteRef.{SiteRef}

abbrev pub request_at : List Entry → ℕ → ℕ
request_at entries place = unwrap_or (option_map (λ entry. entry.request) (slice_get entries place)) 0

-- the directory that the entry of that place notes
abbrev pub noted_at : Roster → List Entry → Target → ℕ → NotedDir
noted_at roster entries target place = record { dir = dir_of (path_of roster (request_at entries place) target); place = place }

abbrev pub found_at : Roster → Tables → List Entry → FoundAt → Found
found_at roster names entries found = record { space = found.space; noted = noted_at roster entries (target_of names found.space) found.place }

abbrev pub site_seen : SiteRef → Site
site_seen place = record { partition = place.partition.now; target = place.target; origin = place.origin.now }

-- the best of the directories that covers the path
abbrev pub best_dir : List ℕ → ℕ → List NotedDir → Option Found
best_dir p s dirs = fold (λ best noted. better best (if covers noted.dir p then Some (record { space = s; noted = noted }) else None)) None dirs
