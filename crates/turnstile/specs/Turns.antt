-- Whose turn it is. Word 0 is the next ticket, word 1 the one that is served, both modulo 2^64; slot 0 has the value between turns.
-- A view is what a seat knows: for how many passes it stands, its ticket, and whether it holds the turn.
use Rattle.std.specs.Prelude.{◌≡◌, ℕ, ◌+◌, ◌-◌, ◌%◌, ◌<◌, ◌≤◌, ◌≢◌, List, [], ◌∷◌, length, slice_index, Option, Some, None}
use mathlib.Core.Option.{some}
use lib.ListN.{get_elem?}
use Rattle.atomic_table.specs.Table.{State, Me, Step, rest}
use Rattle.turnstile.specs.declared.history.HistoryName.{HistoryName}
use Rattle.turnstile.specs.Totals.{total, is, between}
use Rattle.turnstile.specs.declared.turns.Turn.{Turn}

module _ {F : Type 0} where
  -- a view, by its fields in order
  abbrev pub turn : ℕ → List ℕ → ℕ → Option F → HistoryName → Turn F
  turn parts tickets holds fixed history = record { parts = parts; tickets = tickets; holds = holds; fixed = fixed; history = history }

  -- it has drawn a ticket
  abbrev pub waiting : Turn F → ℕ → Turn F
  waiting v t = turn v.parts (t ∷ []) v.holds v.fixed v.history

  -- it holds the turn
  abbrev pub holding : Turn F → Turn F
  holding v = turn v.parts v.tickets 1 v.fixed v.history

  -- its turn is over
  abbrev pub resting : Turn F → Turn F
  resting v = turn v.parts [] 0 v.fixed v.history

  -- what stays where one pass is split off
  abbrev pub fewer : Turn F → Turn F
  fewer v = turn (v.parts - 1) v.tickets v.holds v.fixed v.history

  -- the pass that is split off
  abbrev pub single : Turn F → Turn F
  single v = turn 1 [] 0 v.fixed v.history

  -- it stands for another's passes too
  abbrev pub both : Turn F → Turn F → Turn F
  both v w = turn (v.parts + w.parts) v.tickets v.holds v.fixed v.history

  -- what is left of a view that was joined into another
  abbrev pub gone : Turn F
  gone = turn 0 [] 0 None record { table = record { words = 0; slots = 0; views_name = 0; atom = 0; block = 0; offset = 0; slot_names = [] }; passes = 0 }

  module _ {A : Type 0} where
    -- the ticket drawn is the next one
    abbrev pub draws : Step (Option A) → Me (Option A) (Turn F) → ℕ → Me (Option A) (Turn F) → Type 0
    draws st m r n = (t : ℕ) × (n ≡ (waiting m.0 t, m.1)) × (r ≡ t % 18446744073709551616)

    -- a ticket is drawn exactly where the number found is the one that was looked for
    abbrev pub draws_at : Step (Option A) → Me (Option A) (Turn F) → ℕ → Me (Option A) (Turn F) → Type 0
    draws_at st m r n = (r ≡ st.first → draws st m r n) × (r ≢ st.first → n ≡ m)

    -- the turn is over, and the slot that was taken is given back
    abbrev pub advances : Step (Option A) → Me (Option A) (Turn F) → ℕ → Me (Option A) (Turn F) → Type 0
    advances st m r n = n ≡ (resting m.0, rest m.1)

    -- fits z f a: the value a is of the history z, with the fixed part f
    module _ (fits : HistoryName → Option F → A → Type 0) where
      -- each ticket from the one that is served up to the next is with one view; only the view whose ticket is served may hold the turn; and where none holds it, the value is in the slot
      pub record Ordered (passes : ℕ) (z : HistoryName) (f : Option F) (s : State (Option A) (Turn F)) : Type 0 where
        pub serving : ℕ
        pub next : ℕ
        pub wide : length s.words ≡ 2
        pub next_is : slice_index s.words 0 ≡ next % 18446744073709551616
        pub serving_is : slice_index s.words 1 ≡ serving % 18446744073709551616
        pub few : passes < 4294967296
        pub parts : total (λ v. v.parts) s.views ≡ passes
        pub count : total (λ v. length v.tickets) s.views + serving ≡ next
        pub out : (n : ℕ) → total (λ v. total (is n) v.tickets) s.views ≡ between n serving next
        pub bound : (j : ℕ) (v : Turn F) → get_elem? s.views j ≡ some v → length v.tickets ≤ v.parts
        pub same : (j : ℕ) (v : Turn F) → get_elem? s.views j ≡ some v → 0 < v.parts → (v.history ≡ z) × (v.fixed ≡ f)
        pub turns : (j : ℕ) (v : Turn F) → get_elem? s.views j ≡ some v → 0 < v.holds → v.tickets ≡ serving ∷ []
        pub one : total (λ v. v.holds) s.views ≤ 1
        pub home : total (λ v. v.holds) s.views ≡ 0 → (a : A) × (get_elem? s.homes 0 ≡ some (some (Some a))) × fits z f a

      -- it holds the turn, and the slot with a value that fits
      abbrev pub Took : Me (Option A) (Turn F) → Me (Option A) (Turn F) → Type 0
      Took m n = (a : A) × (n ≡ (holding m.0, (0, Some a) ∷ m.1)) × fits m.0.history m.0.fixed a

      -- the turn is taken exactly where the number found is the ticket modulo 2^64
      abbrev pub takes : Step (Option A) → Me (Option A) (Turn F) → ℕ → Me (Option A) (Turn F) → Type 0
      takes st m r n = (t : ℕ) × (m.0.tickets ≡ t ∷ []) × (r ≡ t % 18446744073709551616 → Took m n) × (r ≢ t % 18446744073709551616 → n ≡ m)
