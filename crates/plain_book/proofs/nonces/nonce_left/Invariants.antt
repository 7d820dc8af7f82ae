use Rattle.std.proofs.Common.{◌≡◌, ◌∷◌, take}
use Rattle.std.specs.Prelude.{reverse, find}
use Rattle.auth_events.specs.Past.{spaces_given, terms}
use Rattle.auth_events.specs.Book.{is_left, nonce_of}
use Rattle.plain_book.proofs.nonces.nonce_left.Given as goal

abbrev pub invariant-loop-other : goal.invariant-loop-other
invariant-loop-other l = l.found ≡ find (λ s. is_left l.names (reverse l.before) (l.entry ∷ reverse l.before) (nonce_of l.names (terms (reverse l.before) s)) s) (spaces_given (reverse (take l.other-index l.before)))
