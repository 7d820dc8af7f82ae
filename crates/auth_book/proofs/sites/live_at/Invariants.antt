use Rattle.std.proofs.Common.{◌≡◌, drop, find}
use Rattle.auth_events.specs.Book.{is_of_site}
use Rattle.auth_book.proofs.sites.live_at.Given as goal

abbrev pub invariant-loop-held : goal.invariant-loop-held
invariant-loop-held l =
    find (λ held. is_of_site l.names (record { partition = l.partition; target = l.target; origin = l.origin }) held.gift.space) (drop l.held-index l.entries)
    ≡ find (λ held. is_of_site l.names (record { partition = l.partition; target = l.target; origin = l.origin }) held.gift.space) l.entries
