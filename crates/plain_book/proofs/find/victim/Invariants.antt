use Rattle.std.proofs.Common.{◌≡◌, take}
use Rattle.std.specs.Prelude.{reverse, filter}
use Rattle.auth_events.specs.Past.{live, spaces_given, age, greatest_by}
use Rattle.auth_events.specs.Book.{is_rival}
use Rattle.plain_book.proofs.find.victim.Given as goal

abbrev pub invariant-loop-entry : goal.invariant-loop-entry
invariant-loop-entry l = l.best ≡ greatest_by (age (reverse l.entries)) (filter (is_rival l.names l.space) (filter (live (reverse l.entries)) (spaces_given (reverse (take l.entry-index l.entries)))))
