-- What a book tells behind two callers that have begun a request each.
use Rattle.std.proofs.Common.{◌≡◌, ℕ, ◌+◌, ◌-◌, ◌%◌, ◌<◌, List, [], ◌∷◌, sym, ap, ◌∙◌, arith}
use Rattle.std.proofs.lemmas.List.Elements.{All-weaker}
use Rattle.auth_events.specs.declared.told.Told.{Told}
use Rattle.auth_events.specs.declared.told.Told.TheVariants.{Made, SpaceNamed, TermsNamed, TextNamed}
use Rattle.auth_events.proofs.Same.{number_same}
use Rattle.book_laws.specs.Owners.{IsOwned, IsOwnedItem, items_of, maker}
use Rattle.shared_book.specs.Callers.{CallerView, IsKnown}
use Rattle.uses_threads.specs.Sides.{IsInSomeOrder, begun}
use Rattle.uses_threads.proofs.Orders.{IsOfTwo, in_some_order}

-- what is owned by one of two callers is of the first or of the second
of_two : (item : Told) → IsOwnedItem 2 item → IsOfTwo maker item
of_two (Made entry) is =
    let at = number_same entry.caller ((entry.request - 1) % 2 + 1) is in
    let low : (entry.request - 1) % 2 < 2 = omega arith in
    grind (arith, at, low)
of_two (SpaceNamed caller space) is = grind arith
of_two (TermsNamed caller name) is = grind arith
of_two (TextNamed caller text) is = grind arith

-- where each of the two callers has begun its request and done no more, the book tells just that
pub both_begun : (a b : CallerView) (told : List Told) → IsOwned 2 told → IsKnown told a → IsKnown told b → a.number ≡ 1 → b.number ≡ 2
    → a.mine ≡ Made (begun 1 1) ∷ [] → b.mine ≡ Made (begun 2 2) ∷ [] → IsInSomeOrder (Made (begun 1 1)) (Made (begun 2 2)) told
both_begun a b told owned one two first second begun_one begun_two =
    in_some_order maker told (Made (begun 1 1)) (Made (begun 2 2)) (All-weaker (IsOwnedItem 2) (IsOfTwo maker) of_two told owned)
    (ap (λ (n : ℕ). items_of n told) (sym first) ∙ (sym one.mine ∙ begun_one))
    (ap (λ (n : ℕ). items_of n told) (sym second) ∙ (sym two.mine ∙ begun_two))
