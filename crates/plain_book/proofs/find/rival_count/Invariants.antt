use Rattle.std.proofs.Common.{◌≡◌, ◌≤◌, length, take}
use Rattle.std.specs.Prelude.{reverse, filter}
use Rattle.auth_events.specs.Past.{live, spaces_given}
use Rattle.auth_events.specs.Book.{is_rival}
use Rattle.plain_book.proofs.find.rival_count.Given as goal

abbrev pub invariant-loop-entry : goal.invariant-loop-entry
invariant-loop-entry l = record { found : l.count ≡ length (filter (is_rival l.names l.space) (filter (live (reverse l.entries)) (spaces_given (reverse (take l.entry-index l.entries))))); small : l.count ≤ l.entry-index }
