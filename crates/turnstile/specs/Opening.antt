-- What is made at the opening, numbered from 1 by its place.
use Rattle.std.specs.Prelude.{◌≡◌, ◌+◌, [], List, Option}
use Rattle.atomic_table.specs.Seated.{TableId}
use Rattle.atomic_table.specs.declared.shared.Seat.{Seat}
use Rattle.turnstile.specs.Totals.{EachAt}
use Rattle.turnstile.specs.Passes.{PassView}
use Rattle.turnstile.specs.declared.history.Past.{Past}

-- seats of new passes
abbrev pub AreNewSeats : {X I : Type 0} → TableId → List (Seat X (Past I)) → Type 0
AreNewSeats z seats = EachAt (λ k s. (s.table_id ≡ z) × (s.me.1 ≡ []) × (s.me.0.home ≡ 0) × (s.me.0.number ≡ k + 1) × (s.me.0.seen ≡ []) × (s.me.0.mine ≡ [])) seats

-- new passes of these tables, with this fixed part
abbrev pub AreDealt : {I F : Type 0} → TableId → TableId → Option F → List (PassView I F) → Type 0
AreDealt z y f passes = EachAt (λ k p. (p.history ≡ z) × (p.turns ≡ y) × (p.number ≡ k + 1) × (p.seen ≡ []) × (p.mine ≡ []) × (p.fixed ≡ f)) passes
