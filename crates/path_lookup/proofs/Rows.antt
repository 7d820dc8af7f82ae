-- There is room for a note where its space has a row, or a row is free.
use Rattle.std.proofs.Common.{◌≡◌, ℕ, zero, suc, ◌+◌, ◌*◌, ◌<◌, ◌≤◌, Bool, true, false, not, ◌&&◌, ◌||◌, cond, List, [], ◌∷◌, ◌++◌, length, refl, ap, sym, subst, ◌∙◌, arith, Some, None, ◌-◌}
use Rattle.std.specs.Prelude.{IsTrue, filter, count_by, ◌==◌, nat_lt}
use Rattle.std.specs.List.{list_any, position_from, remove}
use Rattle.std.proofs.lemmas.Bool.Decides.{nat_tests}
use Rattle.std.proofs.lemmas.Bool.{false≢true}
use Rattle.std.proofs.lemmas.List.Sums.{sum_by-cons, sum_by_push}
use Rattle.std.proofs.lemmas.List.Folds.{list_any-append}
use Rattle.spaces.specs.Paths.{covers}
use Rattle.spaces.specs.declared.roster.Roster.{Roster}
use Rattle.auth_events.proofs.Same.{number_same, number_refl}
use Rattle.history_laws.proofs.Prompting.{one_if}
use Rattle.history_laws.proofs.Rooms.{times, times_filtered}
use Rattle.path_lookup.specs.declared.index.Note.{Note}
use Rattle.path_lookup.specs.Notes.{AreWithinRows, covers_it, dir_at, drop_first, has_free_row, is_of, rows, with_room, without}

-- COUNTS

abbrev pub count : ℕ → List Note → ℕ
count s notes = count_by (is_of s) notes

counted : (s : ℕ) (note : Note) (notes : List Note) → count s (note ∷ notes) ≡ one_if (note.space == s) + count s notes
counted s note notes = sum_by-cons (λ n. cond (n.space == s) 1 0) note notes

-- of the space or not
pub parts : (s : ℕ) (notes : List Note) → length notes ≡ count s notes + length (without s notes)
parts s [] = omega arith
parts s (note ∷ notes) = at (note.space == s) refl (parts s notes)
  where
    at : (b : Bool) → (note.space == s) ≡ b → length notes ≡ count s notes + length (without s notes) → length (note ∷ notes) ≡ count s (note ∷ notes) + length (cond (not b) (note ∷ without s notes) (without s notes))
    at true is before = omega (arith, counted s note notes, ap one_if is, before)
    at false is before = omega (arith, counted s note notes, ap one_if is, before)

-- a filter leaves no more
pub count_filtered : (s : ℕ) (p : Note → Bool) (notes : List Note) → count s (filter p notes) ≤ count s notes
count_filtered s p [] = omega arith
count_filtered s p (note ∷ notes) = at (p note) (count_filtered s p notes)
  where
    at : (b : Bool) → count s (filter p notes) ≤ count s notes → count s (cond b (note ∷ filter p notes) (filter p notes)) ≤ count s (note ∷ notes)
    at true before = omega (arith, counted s note notes, counted s note (filter p notes), before)
    at false before = omega (arith, counted s note notes, before)

-- ROWS

abbrev skip : ℕ → List ℕ → List ℕ
skip s xs = filter (λ x. not (x == s)) xs

skip_skip : (s u : ℕ) (xs : List ℕ) → skip s (skip u xs) ≡ skip u (skip s xs)
skip_skip s u [] = refl
skip_skip s u (x ∷ xs) = at (x == s) refl (x == u) refl (skip_skip s u xs)
  where
    at : (a : Bool) → (x == s) ≡ a → (b : Bool) → (x == u) ≡ b → skip s (skip u xs) ≡ skip u (skip s xs) → skip s (cond (not b) (x ∷ skip u xs) (skip u xs)) ≡ skip u (cond (not a) (x ∷ skip s xs) (skip s xs))
    at true is_s true is_u before = before
    at true is_s false is_u before =
        ap (λ t. cond (not t) (x ∷ skip s (skip u xs)) (skip s (skip u xs))) is_s ∙ before
    at false is_s true is_u before =
        before ∙ sym (ap (λ t. cond (not t) (x ∷ skip u (skip s xs)) (skip u (skip s xs))) is_u)
    at false is_s false is_u before =
        ap (λ t. cond (not t) (x ∷ skip s (skip u xs)) (skip s (skip u xs))) is_s
        ∙ (ap (λ ys. x ∷ ys) (before)
        ∙ sym (ap (λ t. cond (not t) (x ∷ skip u (skip s xs)) (skip u (skip s xs))) is_u))

skip_again : (s : ℕ) (xs : List ℕ) → skip s (skip s xs) ≡ skip s xs
skip_again s [] = refl
skip_again s (x ∷ xs) = at (x == s) refl (skip_again s xs)
  where
    at : (a : Bool) → (x == s) ≡ a → skip s (skip s xs) ≡ skip s xs → skip s (cond (not a) (x ∷ skip s xs) (skip s xs)) ≡ cond (not a) (x ∷ skip s xs) (skip s xs)
    at true is before = before
    at false is before = ap (λ t. cond (not t) (x ∷ skip s (skip s xs)) (skip s (skip s xs))) is ∙ ap (λ ys. x ∷ ys) before

rows_without : (s : ℕ) (notes : List Note) → rows (without s notes) ≡ skip s (rows notes)
rows_without s [] = refl
rows_without s (note ∷ notes) = at (note.space == s) refl (rows_without s notes)
  where
    at : (b : Bool) → (note.space == s) ≡ b → rows (without s notes) ≡ skip s (rows notes) → rows (cond (not b) (note ∷ without s notes) (without s notes)) ≡ cond (not (note.space == s)) (note.space ∷ skip s (skip note.space (rows notes))) (skip s (skip note.space (rows notes)))
    at true is before =
        before
        ∙ (sym (skip_again s (rows notes))
        ∙ (ap (λ n. skip s (skip n (rows notes))) (sym (number_same note.space s is))
        ∙ sym (ap (λ t. cond (not t) (note.space ∷ skip s (skip note.space (rows notes))) (skip s (skip note.space (rows notes)))) is)))
    at false is before =
        ap (λ rs. note.space ∷ skip note.space rs) before
        ∙ (ap (λ rs. note.space ∷ rs) (skip_skip note.space s (rows notes))
        ∙ sym (ap (λ t. cond (not t) (note.space ∷ skip s (skip note.space (rows notes))) (skip s (skip note.space (rows notes)))) is))

-- a row is as often there as its space has notes, at most once
pub times_rows : (s : ℕ) (notes : List Note) → times s (rows notes) ≡ one_if (list_any (is_of s) notes)
times_rows s [] = refl
times_rows s (note ∷ notes) =
    sum_by-cons (λ x. cond (x == s) 1 0) note.space (skip note.space (rows notes))
    ∙ (ap (λ n. one_if (note.space == s) + n) (times_filtered (λ x. not (x == note.space)) s (rows notes)) ∙ at (note.space == s) refl (times_rows s notes))
  where
    flip : (a b : ℕ) → (a == b) ≡ (b == a)
    flip a b = grind (arith, nat_tests)

    at : (b : Bool) → (note.space == s) ≡ b → times s (rows notes) ≡ one_if (list_any (is_of s) notes) → one_if b + cond (not (s == note.space)) (times s (rows notes)) 0 ≡ one_if (b || list_any (is_of s) notes)
    at true is before = ap (λ t. 1 + cond (not t) (times s (rows notes)) 0) (flip s note.space ∙ is)
    at false is before =
        ap (λ t. 0 + cond (not t) (times s (rows notes)) 0) (flip s note.space ∙ is) ∙ omega (arith, before)

skip_shorter : (s : ℕ) (xs : List ℕ) → length xs ≡ times s xs + length (skip s xs)
skip_shorter s [] = omega arith
skip_shorter s (x ∷ xs) = at (x == s) refl (skip_shorter s xs)
  where
    at : (b : Bool) → (x == s) ≡ b → length xs ≡ times s xs + length (skip s xs) → length (x ∷ xs) ≡ times s (x ∷ xs) + length (cond (not b) (x ∷ skip s xs) (skip s xs))
    at true is before = omega (arith, sum_by-cons (λ y. cond (y == s) 1 0) x xs, ap one_if is, before)
    at false is before = omega (arith, sum_by-cons (λ y. cond (y == s) 1 0) x xs, ap one_if is, before)

-- the rows of the other spaces, and that of the space, where it has one
pub rows_parts : (s : ℕ) (notes : List Note) → length (rows notes) ≡ one_if (list_any (is_of s) notes) + length (rows (without s notes))
rows_parts s notes =
    skip_shorter s (rows notes) ∙ omega (arith, times_rows s notes, ap length (rows_without s notes))

-- ten notes a row
ten_each : (fuel : ℕ) (notes : List Note) → length notes ≤ fuel → ((s : ℕ) → count s notes ≤ 10) → length notes ≤ 10 * length (rows notes)
ten_each fuel [] short ten = omega arith
ten_each zero (note ∷ notes) short ten = absurd (omega arith)
ten_each (suc fuel) (note ∷ notes) short ten =
    let s = note.space in
    let others : List Note = without s notes in
    let dropped : without s (note ∷ notes) ≡ others = ap (λ b. cond (not b) (note ∷ without s notes) (without s notes)) (number_refl s) in
    let fewer = λ (u : ℕ). count_filtered u (λ n. not (n.space == s)) (note ∷ notes) in
    let those = λ (u : ℕ). subst (λ ns. count u ns ≤ 10) dropped (omega (arith, fewer u, ten u)) in
    let rest = ten_each fuel others (omega (arith, parts s notes)) those in
    let rows_are : length (rows (note ∷ notes)) ≡ 1 + length (rows others) = rows_parts s (note ∷ notes) ∙ (ap (λ b. one_if (b || list_any (is_of s) notes) + length (rows (without s (note ∷ notes)))) (number_refl s) ∙ ap (λ ns. 1 + length (rows ns)) dropped) in
    omega (arith, rest, rows_are, parts s (note ∷ notes), ap length dropped, ten s)

pub within_ten : (notes : List Note) → ((s : ℕ) → count s notes ≤ 10) → length notes ≤ 10 * length (rows notes)
within_ten notes ten = ten_each (length notes) notes (omega arith) ten

-- A NOTE MORE

-- only notes of the space go
without_filtered : (s : ℕ) (p : Note → Bool) (notes : List Note) → ((n : Note) → (n.space == s) ≡ false → p n ≡ true) → without s (filter p notes) ≡ without s notes
without_filtered s p [] those = refl
without_filtered s p (note ∷ notes) those = at (p note) refl (note.space == s) refl (without_filtered s p notes those)
  where
    at : (a : Bool) → p note ≡ a → (b : Bool) → (note.space == s) ≡ b → without s (filter p notes) ≡ without s notes → without s (cond a (note ∷ filter p notes) (filter p notes)) ≡ cond (not b) (note ∷ without s notes) (without s notes)
    at true is b is_s before =
        ap (λ t. cond (not t) (note ∷ without s (filter p notes)) (without s (filter p notes))) is_s
        ∙ ap (λ ns. cond (not b) (note ∷ ns) ns) before
    at false is true is_s before = before
    at false is false other before = absurd (false≢true (sym is ∙ those note other))

without_dropped : (s : ℕ) (notes : List Note) → without s (drop_first s notes) ≡ without s notes
without_dropped s [] = refl
without_dropped s (note ∷ notes) = at (note.space == s) refl (without_dropped s notes)
  where
    at : (b : Bool) → (note.space == s) ≡ b → without s (drop_first s notes) ≡ without s notes → without s (cond b notes (note ∷ drop_first s notes)) ≡ cond (not b) (note ∷ without s notes) (without s notes)
    at true is before = refl
    at false is before =
        ap (λ t. cond (not t) (note ∷ without s (drop_first s notes)) (without s (drop_first s notes))) is
        ∙ ap (λ ns. note ∷ ns) before

count_dropped : (s u : ℕ) (notes : List Note) → count u (drop_first s notes) ≤ count u notes
count_dropped s u [] = omega arith
count_dropped s u (note ∷ notes) = at (note.space == s) (count_dropped s u notes)
  where
    at : (b : Bool) → count u (drop_first s notes) ≤ count u notes → count u (cond b notes (note ∷ drop_first s notes)) ≤ count u (note ∷ notes)
    at true before = omega (arith, counted u note notes)
    at false before = omega (arith, counted u note notes, counted u note (drop_first s notes), before)

one_dropped : (s : ℕ) (notes : List Note) → 0 < count s notes → count s notes ≡ count s (drop_first s notes) + 1
one_dropped s [] some = absurd (omega arith)
one_dropped s (note ∷ notes) some = at (note.space == s) refl (λ more. one_dropped s notes more)
  where
    at : (b : Bool) → (note.space == s) ≡ b → (0 < count s notes → count s notes ≡ count s (drop_first s notes) + 1) → count s (note ∷ notes) ≡ count s (cond b notes (note ∷ drop_first s notes)) + 1
    at true is before = omega (arith, counted s note notes, ap one_if is)
    at false is before = omega (arith, counted s note notes, counted s note (drop_first s notes), ap one_if is, before (omega (arith, counted s note notes, ap one_if is)))

without_roomy : (s : ℕ) (notes : List Note) → without s (with_room s notes) ≡ without s notes
without_roomy s notes = at (nat_lt (count s notes) 10)
  where
    at : (b : Bool) → without s (cond b notes (drop_first s notes)) ≡ without s notes
    at true = refl
    at false = without_dropped s notes

count_roomy : (s u : ℕ) (notes : List Note) → count u (with_room s notes) ≤ count u notes
count_roomy s u notes = at (nat_lt (count s notes) 10)
  where
    at : (b : Bool) → count u (cond b notes (drop_first s notes)) ≤ count u notes
    at true = omega arith
    at false = count_dropped s u notes

nine : (s : ℕ) (notes : List Note) → count s notes ≤ 10 → count s (with_room s notes) ≤ 9
nine s notes ten = at (nat_lt (count s notes) 10) refl
  where
    at : (b : Bool) → nat_lt (count s notes) 10 ≡ b → count s (cond b notes (drop_first s notes)) ≤ 9
    at true less = lt_nine (count s notes) less
      where
        lt_nine : (n : ℕ) → nat_lt n 10 ≡ true → n ≤ 9
        lt_nine n less = grind (arith, nat_tests)
    at false more = let many = at_least (count s notes) more in omega (arith, one_dropped s notes (omega (arith, many)), ten)
      where
        at_least : (n : ℕ) → nat_lt n 10 ≡ false → 10 ≤ n
        at_least n more = grind (arith, nat_tests)

module _ (roster : Roster) (spaces : ℕ) (note : Note) (notes : List Note) (within : AreWithinRows spaces notes) (free : IsTrue (has_free_row spaces notes note.space)) where
  abbrev s : ℕ
  s = note.space

  abbrev left : List Note
  left = with_room note.space (filter (λ held. not (covers_it roster note held)) notes)

  left_others : without s left ≡ without s notes
  left_others =
      without_roomy s (filter (λ held. not (covers_it roster note held)) notes)
      ∙ without_filtered s (λ held. not (covers_it roster note held)) notes (λ n other. ap (λ b. not (b && covers (dir_at roster note) (dir_at roster n))) other)

  left_nine : count s left ≤ 9
  left_nine =
      nine s (filter (λ held. not (covers_it roster note held)) notes) (omega (arith, count_filtered s (λ held. not (covers_it roster note held)) notes, within.ten s))

  rows_left : length (rows (without s notes)) + 1 ≤ spaces
  rows_left = at (list_any (is_of s) notes) refl free
    where
      at : (b : Bool) → list_any (is_of s) notes ≡ b → IsTrue (b || nat_lt (length (rows notes)) spaces) → length (rows (without s notes)) + 1 ≤ spaces
      at true has free' = omega (arith, rows_parts s notes, ap one_if has, within.few)
      at false none free' = let less = is_less (length (rows notes)) spaces free' in omega (arith, rows_parts s notes, ap one_if none, less)
        where
          is_less : (a b : ℕ) → IsTrue (nat_lt a b) → a < b
          is_less a b test = grind (arith, nat_tests)

  others_ten : (u : ℕ) → count u (without s notes) ≤ 10
  others_ten u = omega (arith, count_filtered u (λ n. not (n.space == s)) notes, within.ten u)

  -- there is room for one more
  pub room_left : (capacity : ℕ) → 10 * spaces ≤ capacity → length left < capacity
  room_left capacity enough =
      omega (arith, enough, parts s left, left_nine, ap length left_others, within_ten (without s notes) others_ten, rows_left)

  pub rows_kept : AreWithinRows spaces (left ++ note ∷ [])
  rows_kept = record {
    few = omega (arith, rows_parts s (left ++ note ∷ []), ap (λ ns. length (rows ns)) others_are, rows_left, ap one_if some);
    ten = ten;
  }
    where
      others_are : without s (left ++ note ∷ []) ≡ without s notes
      others_are = pushed left ∙ left_others
        where
          pushed : (ns : List Note) → without s (ns ++ note ∷ []) ≡ without s ns
          pushed [] = ap (λ b. cond (not b) (note ∷ []) []) (number_refl s)
          pushed (n ∷ ns) = ap (λ ms. cond (not (n.space == s)) (n ∷ ms) ms) (pushed ns)

      some : list_any (is_of s) (left ++ note ∷ []) ≡ true
      some =
          list_any-append (is_of s) left (note ∷ []) ∙ (ap (λ b. list_any (is_of s) left || (b || false)) (number_refl s) ∙ or_true (list_any (is_of s) left))
        where
          or_true : (b : Bool) → (b || true) ≡ true
          or_true true = refl
          or_true false = refl

      ten : (u : ℕ) → count u (left ++ note ∷ []) ≤ 10
      ten u = at (s == u) refl
        where
          pushed : count u (left ++ note ∷ []) ≡ count u left + one_if (s == u)
          pushed = sum_by_push (λ n. cond (n.space == u) 1 0) left note

          at : (b : Bool) → (s == u) ≡ b → count u (left ++ note ∷ []) ≤ 10
          at true is =
              let nine_here = subst (λ n. count n left ≤ 9) (number_same s u is) left_nine in
              omega (arith, pushed, ap one_if is, nine_here)
          at false other =
              omega (arith, pushed, ap one_if other, count_roomy s u (filter (λ held. not (covers_it roster note held)) notes), count_filtered u (λ held. not (covers_it roster note held)) notes, within.ten u)

-- a space dropped
pub rows_dropped : (spaces s : ℕ) (notes : List Note) → AreWithinRows spaces notes → AreWithinRows spaces (without s notes)
rows_dropped spaces s notes within = record {
  few = omega (arith, rows_parts s notes, within.few);
  ten = λ u. omega (arith, count_filtered u (λ n. not (n.space == s)) notes, within.ten u);
}

-- THE FIRST NOTE OF A SPACE

pub drop_at : (s k : ℕ) (notes : List Note) (at : ℕ) → position_from (is_of s) k notes ≡ Some at → (drop_first s notes ≡ remove notes (at - k)) × (k ≤ at)
drop_at s k [] at found = absurd cc
drop_at s k (note ∷ notes) at found = by (note.space == s) found (λ rest. drop_at s (k + 1) notes at rest)
  where
    by : (b : Bool) → cond b (Some k) (position_from (is_of s) (k + 1) notes) ≡ Some at → (position_from (is_of s) (k + 1) notes ≡ Some at → (drop_first s notes ≡ remove notes (at - (k + 1))) × (k + 1 ≤ at)) → (cond b notes (note ∷ drop_first s notes) ≡ remove (note ∷ notes) (at - k)) × (k ≤ at)
    by true found' later =
        let same : k ≡ at = cc in
        let none : 0 ≡ at - k = omega arith in
        (ap (remove (note ∷ notes)) none, omega arith)
    by false found' later =
        let rest = later found' in
        let next : suc (at - (k + 1)) ≡ at - k = omega (arith, rest.1) in
        (ap (λ ns. note ∷ ns) rest.0 ∙ ap (remove (note ∷ notes)) next, omega (arith, rest.1))

pub drop_none : (s k : ℕ) (notes : List Note) → position_from (is_of s) k notes ≡ None → drop_first s notes ≡ notes
drop_none s k [] none = refl
drop_none s k (note ∷ notes) none = by (note.space == s) none (λ rest. drop_none s (k + 1) notes rest)
  where
    by : (b : Bool) → cond b (Some k) (position_from (is_of s) (k + 1) notes) ≡ None → (position_from (is_of s) (k + 1) notes ≡ None → drop_first s notes ≡ notes) → cond b notes (note ∷ drop_first s notes) ≡ note ∷ notes
    by true none' later = absurd cc
    by false none' later = ap (λ ns. note ∷ ns) (later none')
