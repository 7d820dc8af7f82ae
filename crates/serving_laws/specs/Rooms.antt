-- How many names a book has, by how many requests were begun.
use Rattle.std.specs.Prelude.{ℕ, ◌≤◌, ◌+◌, List, length, count_by, Option, is_some, if◌then◌else◌}
use Rattle.auth_events.specs.declared.journal.Entry.{Entry}
use Rattle.auth_events.specs.Book.{begins}
use Rattle.auth_events.specs.Tables.{AreFew, Tables}
use Rattle.auth_runs.specs.declared.event.Event.{Event}
use Rattle.trace_laws.specs.Lengths.{terms_given}
use Rattle.serving_laws.specs.Alone.{entries_of}
use Rattle.serving_laws.specs.Meeting.{AreMetWith, Pending}

-- how many requests were begun
abbrev pub begun : List Entry → ℕ
begun entries = count_by (λ entry. begins entry.call) entries

-- the names of the request are met or pending, and it has no more new nonces than calls that gave terms, with what is pending
pub record HasNamed (old names : Tables) (r : ℕ) (past : List Event) (pending : Pending) : Type 0 where
  pub met : AreMetWith old names (entries_of r past) pending
  pub nonces : length names.nonces ≤ length old.nonces + (terms_given past + (if is_some pending.terms then 1 else 0))
