-- The history and what each seat knows of it. The table has one word, the length of the history.
-- A view is what a seat knows; the home is with the one seat whose list is the whole history.
use Rattle.std.specs.Prelude.{◌≡◌, ℕ, ◌+◌, ◌<◌, List, [], ◌∷◌, ◌++◌, length, slice_index}
use mathlib.Core.Option.{some}
use mathlib.Core.List.{IsPrefix}
use lib.ListN.{get_elem?}
use Rattle.atomic_table.specs.Table.{State, Me, Step}
use Rattle.turnstile.specs.Totals.{total, is, once_within, Each}
use Rattle.turnstile.specs.Passes.{items_of, IsMade}
use Rattle.turnstile.specs.declared.history.Past.{Past}
use Rattle.turnstile.specs.declared.history.Kept.{Kept}

module _ {I : Type 0} where
  -- a view, by its fields in order
  abbrev pub past : ℕ → ℕ → ℕ → List I → List I → List (List I) → List (Kept I) → Past I
  past number home made seen mine olds kept = record { number = number; home = home; made = made; seen = seen; mine = mine; olds = olds; kept = kept }

  -- a joined pass, by its number and its items
  abbrev pub keeping : ℕ → List I → Kept I
  keeping n mine = record { number = n; mine = mine }

  -- how often a view names n
  abbrev pub numbers : ℕ → Past I → ℕ
  numbers n v = is n v.number + total (λ k. is n k.number) v.kept

  -- a joined pass has all items of its number
  abbrev pub IsOwn : (I → ℕ) → List I → Kept I → Type 0
  IsOwn by log k = (0 < k.number) × (k.mine ≡ items_of by k.number log)

  -- a view agrees with the history: what it has seen begins it, its items are those of its number, and with the home it has seen all
  pub record Fits (by : I → ℕ) (log : List I) (v : Past I) : Type 0 where
    pub seen : IsPrefix v.seen log
    pub olds : Each (λ o. IsPrefix o log) v.olds
    pub mine : 0 < v.number → v.mine ≡ items_of by v.number log
    pub kept : Each (IsOwn by log) v.kept
    pub whole : 0 < v.home → v.seen ≡ log
    pub maker : v.home ≡ 0 → v.made ≡ 0

  -- the first view, which has the home and belongs to no pass
  abbrev pub founder : Past I
  founder = past 0 1 0 [] [] [] []

  -- what is left of a view that was joined into another
  abbrev pub spent : Past I
  spent = past 0 0 0 [] [] [] []

  -- the home's view where a pass is made from it
  abbrev pub founds : Past I → Past I
  founds v = past v.number v.home (v.made + 1) v.seen v.mine v.olds v.kept

  -- the pass that is made: it has the next number, and knows nothing
  abbrev pub founded : Past I → Past I
  founded v = past (v.made + 1) 0 0 [] [] [] []

  -- a pass that gives the home away
  abbrev pub without_home : Past I → Past I
  without_home v = past v.number 0 0 v.seen v.mine v.olds v.kept

  -- the home that it gave away
  abbrev pub with_home_only : Past I → Past I
  with_home_only v = past 0 1 v.made v.seen [] [] []

  -- a pass that takes the home in: it has then seen what the home has
  abbrev pub brings : Past I → Past I → Past I
  brings v w = past v.number w.home w.made w.seen v.mine (v.seen ∷ v.olds) v.kept

  -- a pass that takes another in, and keeps what that had
  abbrev pub joined : Past I → Past I → Past I
  joined v w = past v.number v.home v.made v.seen v.mine (w.seen ∷ v.olds ++ w.olds) (keeping w.number w.mine ∷ v.kept ++ w.kept)

  module _ {X : Type 0} where
    -- there is one history: it is as long as the word says, one view has the home, each number is that of one pass, each item is of a pass that was made, and each view agrees with it
    pub record Recorded (by : I → ℕ) (s : State X (Past I)) : Type 0 where
      pub log : List I
      pub wide : length s.words ≡ 1
      pub long : slice_index s.words 0 ≡ length log
      pub homes : total (λ v. v.home) s.views ≡ 1
      pub once : (n : ℕ) → 0 < n → total (numbers n) s.views ≡ once_within n (total (λ v. v.made) s.views)
      pub numbered : Each (λ item. IsMade (total (λ v. v.made) s.views) (by item)) log
      pub fits : (j : ℕ) (v : Past I) → get_elem? s.views j ≡ some v → Fits by log v

    -- a look with the home: all that was seen before begins what is seen now, and the items of each number are known
    abbrev pub looks : (I → ℕ) → Step X → Me X (Past I) → ℕ → Me X (Past I) → Type 0
    looks by st m r n = (n ≡ m) × Each (λ o. IsPrefix o m.0.seen) m.0.olds × (0 < m.0.number → m.0.mine ≡ items_of by m.0.number m.0.seen) × Each (IsOwn by m.0.seen) m.0.kept × Each (λ item. IsMade m.0.made (by item)) m.0.seen

    -- items are added to the history, by the view that has the home
    abbrev pub publishes : List I → Step X → Me X (Past I) → ℕ → Me X (Past I) → Type 0
    publishes ys st m r n = n ≡ (past m.0.number m.0.home m.0.made (m.0.seen ++ ys) (m.0.mine ++ ys) m.0.olds m.0.kept, m.1)
