use Rattle.std.proofs.Common.{◌≡◌, take, ◌==◌}
use Rattle.std.specs.Prelude.{reverse}
use Rattle.std.specs.List.{list_any}
use Rattle.auth_events.specs.Past.{spaces_given}
use Rattle.plain_book.proofs.nonces.was_given.Given as goal

abbrev pub invariant-loop-entry : goal.invariant-loop-entry
invariant-loop-entry l = l.found ≡ list_any (λ given. given == l.space) (spaces_given (reverse (take l.entry-index l.entries)))
