-- The entry that goes to make room is that of the partition's live space that was not touched for longest.
use Rattle.std.proofs.Common.{◌≡◌, ◌≢◌, ℕ, ◌+◌, ◌<◌, ◌≤◌, Bool, true, false, not, ◌&&◌, ◌||◌, ◌⊎◌, inl, inr, cond, List, [], ◌∷◌, length, refl, ap, sym, subst, ◌∙◌, arith, Option, Some, None}
use Rattle.std.specs.Prelude.{All, AllPairs, IfSome, IsTrue, is_some, map, option_map, unwrap_or, slice_get, ◌==◌, nat_lt, nat_le}
use Rattle.std.proofs.lemmas.Bool.Decides.{nat_tests}
use Rattle.std.proofs.lemmas.Bool.{false≢true}
use Rattle.std.proofs.lemmas.List.{length-map}
use Rattle.std.proofs.lemmas.List.Elements.{All-head, All-tail, All-filter, filter_passes}
use Rattle.spaces.specs.declared.roster.Roster.{Roster}
use Rattle.auth_events.specs.declared.journal.Gift.{Gift}
use Rattle.auth_events.specs.declared.journal.Entry.{Entry}
use Rattle.auth_events.specs.Tables.{Tables}
use Rattle.auth_events.specs.Past.{age, current, live, live_spaces, live_rivals, spaces_given, terms, greatest_by, greater_by, victim, evicted, givings}
use Rattle.auth_events.specs.Book.{IsLegalPast, is_of_partition, is_rival}
use Rattle.auth_events.proofs.Same.{number_same, number_refl}
use Rattle.history_laws.proofs.Counts.{as_long, times_cons}
use Rattle.history_laws.proofs.Prompting.{one_if}
use Rattle.history_laws.proofs.Rooms.{times, times_filtered, live_given, zero_unused, live_few, rivals_of}
use Rattle.auth_cache.specs.declared.cache.Held.{Held}
use Rattle.auth_cache.specs.Cached.{held_in, without, evicted as evicted_in}
use Rattle.auth_cache.specs.Histories.{HasLive, held_after}
use Rattle.auth_cache.proofs.Lists.{Touched, found_holds, found_space, lt_is, none_there, without_fewer, AllPairs-first, AllPairs-tail, first_alone}

-- THE GREATEST

-- the number is v, or f is less there
abbrev IsUnder : (ℕ → ℕ) → ℕ → ℕ → Type 0
IsUnder f v z = (z ≡ v) ⊎ (f z < f v)

-- where v isn't there, nothing is there or f is less at the greatest
below : (f : ℕ → ℕ) (v : ℕ) (zs : List ℕ) → All (IsUnder f v) zs → times v zs ≡ 0 → (greatest_by f zs ≡ 0) ⊎ (f (greatest_by f zs) < f v)
below f v [] all none = inl refl
below f v (z ∷ zs) all none =
    at (greatest_by f zs == 0 || nat_lt (f (greatest_by f zs)) (f z)) (All-head (IsUnder f v) z zs all) (λ less. below f v zs (All-tail (IsUnder f v) z zs all) less)
  where
    other : (z ≡ v) → ⊥
    other same = absurd (omega (arith, times_cons v z zs, none, ap one_if (subst (λ n. IsTrue (z == n)) same (number_refl z))))

    at : (b : Bool) → IsUnder f v z → (times v zs ≡ 0 → (greatest_by f zs ≡ 0) ⊎ (f (greatest_by f zs) < f v)) → (cond b z (greatest_by f zs) ≡ 0) ⊎ (f (cond b z (greatest_by f zs)) < f v)
    at b (inl same) before = absurd (other same)
    at true (inr lt) before = inr lt
    at false (inr lt) before = before (omega (arith, times_cons v z zs, none))

greatest_is : (f : ℕ → ℕ) (v : ℕ) (zs : List ℕ) → v ≢ 0 → All (IsUnder f v) zs → 0 < times v zs → greatest_by f zs ≡ v
greatest_is f v [] positive all some = absurd (omega arith)
greatest_is f v (z ∷ zs) positive all some =
    of (times v zs == 0) refl (All-head (IsUnder f v) z zs all) (λ more. greatest_is f v zs positive (All-tail (IsUnder f v) z zs all) more)
  where
    rest : All (IsUnder f v) zs
    rest = All-tail (IsUnder f v) z zs all

    best : ℕ
    best = greatest_by f zs

    counted : times v (z ∷ zs) ≡ one_if (z == v) + times v zs
    counted = times_cons v z zs

    first : (b : Bool) → (z == v) ≡ b → times v zs ≡ 0 → z ≡ v
    first true same none = number_same z v same
    first false other none = absurd (omega (arith, some, times_cons v z zs, ap one_if other, none))

    chosen : (best : ℕ) → z ≡ v → (best ≡ 0) ⊎ (f best < f v) → greater_by f z best ≡ v
    chosen n is (inl zero_it) = ap (λ b. cond (b || nat_lt (f n) (f z)) z n) (ap (λ k. k == 0) zero_it) ∙ is
    chosen n is (inr lt) = at (n == 0) (nat_lt (f n) (f z)) (let lt' : f n < f z = omega (arith, lt, ap f is) in grind (arith, nat_tests))
      where
        at : (a b : Bool) → b ≡ true → cond (a || b) z n ≡ v
        at true b more = is
        at false true more = is
        at false false more = absurd (false≢true more)

    later : (n : ℕ) → n ≡ v → IsUnder f v z → greater_by f z n ≡ v
    later n is (inl same) = at (n == 0 || nat_lt (f n) (f z))
      where
        at : (b : Bool) → cond b z n ≡ v
        at true = same
        at false = is
    later n is (inr lt) =
        ap (λ b. cond (b || nat_lt (f n) (f z)) z n) (nonzero n is) ∙ (ap (λ b. cond b z n) (not_less n is lt) ∙ is)
      where
        nonzero : (n : ℕ) → n ≡ v → (n == 0) ≡ false
        nonzero n is = grind (arith, nat_tests, positive)

        not_less : (n : ℕ) → n ≡ v → f z < f v → nat_lt (f n) (f z) ≡ false
        not_less n is lt = let same : f n ≡ f v = ap f is in grind (arith, nat_tests)

    of : (b : Bool) → (times v zs == 0) ≡ b → IsUnder f v z → (0 < times v zs → greatest_by f zs ≡ v) → greatest_by f (z ∷ zs) ≡ v
    of true none under before = let zero_times : times v zs ≡ 0 = number_same (times v zs) 0 none in chosen (greatest_by f zs) (first (z == v) refl zero_times) (below f v zs rest zero_times)
    of false more under before = later (greatest_by f zs) (before (some_times (times v zs) more)) under
      where
        some_times : (n : ℕ) → (n == 0) ≡ false → 0 < n
        some_times n more = grind (arith, nat_tests)

lt_of : (a b : ℕ) → nat_lt a b ≡ true → a < b
lt_of a b test = grind (arith, nat_tests)

not_lt : (a b : ℕ) → nat_lt a b ≡ false → b ≤ a
not_lt a b test = grind (arith, nat_tests)

le_of : (a b : ℕ) → nat_le a b ≡ true → a ≤ b
le_of a b test = grind (arith, nat_tests)

not_le : (a b : ℕ) → nat_le a b ≡ false → b < a
not_le a b test = grind (arith, nat_tests)

-- THE SPACES OF THE ENTRIES

abbrev spaces_of : List Held → List ℕ
spaces_of xs = map (λ h. h.gift.space) xs

pub none_of : (s : ℕ) (xs : List Held) → All (λ h. (h.gift.space == s) ≡ false) xs → times s (spaces_of xs) ≡ 0
none_of s [] all = refl
none_of s (x ∷ xs) all =
    omega (arith, times_cons s x.gift.space (spaces_of xs), ap one_if (All-head (λ h. (h.gift.space == s) ≡ false) x xs all), none_of s xs (All-tail (λ h. (h.gift.space == s) ≡ false) x xs all))

-- each space stands once
stands_once : (past : List Entry) (xs : List Held) → AllPairs (Touched past) xs → (s : ℕ) → times s (spaces_of xs) ≡ one_if (is_some (held_in xs s))
stands_once past [] order s = refl
stands_once past (x ∷ xs) order s = at (x.gift.space == s) refl (stands_once past xs (AllPairs-tail past x xs order) s)
  where
    at : (b : Bool) → (x.gift.space == s) ≡ b → times s (spaces_of xs) ≡ one_if (is_some (held_in xs s)) → times s (spaces_of (x ∷ xs)) ≡ one_if (is_some (cond b (Some x) (held_in xs s)))
    at true is before =
        let alone = subst (λ n. All (λ h. (h.gift.space == n) ≡ false) xs) (number_same x.gift.space s is) (first_alone past x xs order) in
        omega (arith, times_cons s x.gift.space (spaces_of xs), ap one_if is, none_of s xs alone)
    at false is before = omega (arith, times_cons s x.gift.space (spaces_of xs), ap one_if is, before)

module _ (roster : Roster) (names : Tables) (partition : List ℕ) (past : List Entry) (legal : IsLegalPast roster names past) (xs : List Held) (has : HasLive (is_of_partition names partition) past xs) where
  abbrev is_in : ℕ → Bool
  is_in = is_of_partition names partition

  some_held : (s : ℕ) → is_some (held_after past s) ≡ live past s
  some_held s = at (current past s)
    where
      at : (o : Option Gift) → is_some {T = Held} (option_map (λ (gift : Gift). record { gift = gift; terms = terms past s }) o) ≡ is_some o
      at None = refl
      at (Some gift) = refl

  rival_times : (s : ℕ) → times s (live_rivals is_in past) ≡ cond (is_in s) (one_if (live past s)) 0
  rival_times s =
      times_filtered is_in s (live_spaces past) ∙ ap (λ n. cond (is_in s) n 0) ((live_few roster names past legal).once s)

  same_times : (s : ℕ) → times s (spaces_of xs) ≡ times s (live_rivals is_in past)
  same_times s =
      stands_once past xs has.order s ∙ (ap (λ o. one_if (is_some o)) (has.each s) ∙ (at (is_in s) ∙ sym (rival_times s)))
    where
      at : (b : Bool) → one_if (is_some (cond b (held_after past s) None)) ≡ cond b (one_if (live past s)) 0
      at true = ap one_if (some_held s)
      at false = refl

  -- as many entries as live rivals
  pub as_many : length xs ≡ length (live_rivals is_in past)
  as_many = sym (length-map xs (λ h. h.gift.space)) ∙ as_long (spaces_of xs) (live_rivals is_in past) same_times

  pub few_entries : length xs ≤ 32
  few_entries = omega (arith, as_many, (live_few roster names past legal).few partition)

  -- the first entry's space is the victim
  first_is_victim : (x : Held) (rest : List Held) → xs ≡ x ∷ rest → victim is_in past ≡ x.gift.space
  first_is_victim x rest is = greatest_is (age past) x.gift.space (live_rivals is_in past) positive under some
    where
      order : AllPairs (Touched past) (x ∷ rest)
      order = subst (λ ys. AllPairs (Touched past) ys) is has.order

      here : held_in xs x.gift.space ≡ Some x
      here = ap (λ ys. held_in ys x.gift.space) is ∙ ap (λ b. cond b (Some x) (held_in rest x.gift.space)) (number_refl x.gift.space)

      some : 0 < times x.gift.space (live_rivals is_in past)
      some = omega (arith, same_times x.gift.space, stands_once past xs has.order x.gift.space, ap (λ o. one_if (is_some o)) here)

      lives : (b : Bool) → Some x ≡ cond b (held_after past x.gift.space) None → IsTrue (live past x.gift.space)
      lives true is' = sym (some_held x.gift.space) ∙ ap is_some (sym is')
      lives false is' = absurd cc

      positive : x.gift.space ≢ 0
      positive = λ same.
          absurd (omega (arith, zero_unused roster names past legal, subst (λ n. 0 < givings past n) same (live_given past x.gift.space (lives (is_in x.gift.space) (sym here ∙ has.each x.gift.space)))))

      each_under : (z : ℕ) → is_in z ≡ true → live past z ≡ true → IsUnder (age past) x.gift.space z
      each_under z in_it lives_it = at (x.gift.space == z) refl (held_in xs z) refl
        where
          found : is_some (held_in xs z) ≡ true
          found = ap is_some (has.each z) ∙ (ap (λ b. is_some (cond b (held_after past z) None)) in_it ∙ (some_held z ∙ lives_it))

          at : (b : Bool) → (x.gift.space == z) ≡ b → (o : Option Held) → held_in xs z ≡ o → IsUnder (age past) x.gift.space z
          at true same o is_o = inl (sym (number_same x.gift.space z same))
          at false other None none = absurd (false≢true (sym (ap is_some none) ∙ found))
          at false other (Some h) there =
              let in_rest : held_in rest z ≡ Some h = sym (ap (λ b. cond b (Some x) (held_in rest z)) other) ∙ (sym (ap (λ ys. held_in ys z) is) ∙ there) in
              inr (subst (λ n. age past n < age past x.gift.space) (found_space z rest h in_rest) (found_holds (Touched past x) z rest h (AllPairs-first past x rest order) in_rest))

      under : All (IsUnder (age past) x.gift.space) (live_rivals is_in past)
      under =
          let those = All-filter is_in (λ z. live past z ≡ true) (live_spaces past) (filter_passes (live past) (spaces_given past)) in
          let these = filter_passes is_in (live_spaces past) in
          λ k d within. each_under _ (these k d within) (those k d within)

  pub evicts : (s : ℕ) → is_in s ≡ true → unwrap_or (option_map (λ (h : Held). h.gift.space) (evicted_in 32 xs s)) 0 ≡ evicted (is_rival names s) past s
  evicts s in_it = at (held_in xs s) refl ∙ ap (λ rival. evicted rival past s) (sym (rivals_of names partition s in_it))
    where
      lives_is : live past s ≡ is_some (held_in xs s)
      lives_is = sym (some_held s) ∙ (sym (ap (λ b. is_some (cond b (held_after past s) None)) in_it) ∙ sym (ap is_some (has.each s)))

      Goes : List Held → Bool → Type 0
      Goes rest l = unwrap_or (option_map (λ (h : Held). h.gift.space) (cond (nat_lt (length rest) 32) None (slice_get rest 0))) 0 ≡ cond (not l && nat_le 32 (length (live_rivals is_in past))) (victim is_in past) 0

      by_length : (ys : List Held) → xs ≡ ys → Goes ys false
      by_length ys is = of (nat_lt (length ys) 32) refl (nat_le 32 (length (live_rivals is_in past))) refl ys is
        where
          long : length ys ≡ length (live_rivals is_in past)
          long = sym (ap length is) ∙ as_many

          of : (a : Bool) → nat_lt (length ys) 32 ≡ a → (b : Bool) → nat_le 32 (length (live_rivals is_in past)) ≡ b → (zs : List Held) → xs ≡ zs → unwrap_or (option_map (λ (h : Held). h.gift.space) (cond a None (slice_get zs 0))) 0 ≡ cond b (victim is_in past) 0
          of true less true full zs is' = absurd (omega (arith, long, lt_of _ _ less, le_of _ _ full))
          of true less false room zs is' = refl
          of false more false room zs is' = absurd (omega (arith, long, not_lt _ _ more, not_le _ _ room))
          of false more true full [] is' = absurd (omega (arith, as_many, ap length is', le_of _ _ full))
          of false more true full (x ∷ rest) is' = sym (first_is_victim x rest is')

      shorter : (h : Held) → held_in xs s ≡ Some h → length (without s xs) < 32
      shorter h there =
          let fewer = subst (λ (o : Option Held). IfSome o (λ held. length (without s xs) < length xs)) there (without_fewer s xs) in
          omega (arith, few_entries, fewer)

      at : (o : Option Held) → held_in xs s ≡ o → Goes (without s xs) (live past s)
      at None none =
          subst (Goes (without s xs)) (sym (lives_is ∙ ap is_some none))
          (subst (λ ys. Goes ys false) (sym (none_there s xs none)) (by_length xs refl))
      at (Some h) there =
          subst (Goes (without s xs)) (sym (lives_is ∙ ap is_some there))
          (ap (λ b. unwrap_or (option_map (λ (h : Held). h.gift.space) (cond b None (slice_get (without s xs) 0))) 0) (lt_is (length (without s xs)) 32 (shorter h there)))
