-- The best note is what the book finds by path.
use Rattle.std.proofs.Common.{◌≡◌, ◌≢◌, ℕ, ◌<◌, Bool, true, false, ◌&&◌, ◌||◌, cond, List, [], ◌∷◌, length, refl, ap, sym, subst, ◌∙◌, ◌⊎◌, inl, inr, arith, Option, Some, None}
use Rattle.std.specs.Prelude.{All, IsTrue, filter, fold, map, option_map, unwrap_or, ◌==◌, nat_lt, bytes_eq}
use Rattle.std.specs.List.{list_any}
use Rattle.std.proofs.lemmas.Bool.Decides.{nat_tests}
use Rattle.std.proofs.lemmas.Bool.{false≢true}
use Rattle.std.proofs.lemmas.List.Elements.{All-head, All-tail, filter_passes}
use Rattle.std.proofs.lemmas.List.Kept.{AllPairs-filter}
use Rattle.std.proofs.lemmas.List.Sums.{sum_by-cons}
use Rattle.spaces.specs.Paths.{covers}
use Rattle.spaces.specs.declared.roster.Roster.{Roster}
use Rattle.spaces.specs.ProtectionSpaces.{ProtectionSpace}
use Rattle.spaces.specs.Sites.{same_site}
use Rattle.spaces.specs.declared.site.Site.{Site}
use Rattle.auth_events.specs.declared.journal.Entry.{Entry}
use Rattle.auth_events.specs.Tables.{Tables}
use Rattle.auth_events.specs.Past.{live, givings, spaces_given}
use Rattle.auth_events.specs.Book.{Found, IsLegalPast, NotedDir, best_found, better, by_path, dirs, found_in, is_of_partition, is_of_site, space_named}
use Rattle.auth_events.proofs.Numbers.{and_left, and_right, both}
use Rattle.auth_events.proofs.Same.{bytes_refl, number_same, site_same}
use Rattle.history_laws.proofs.Prompting.{one_if}
use Rattle.history_laws.proofs.Rooms.{times, given_once, live_given, once_if}
use Rattle.path_lookup.specs.declared.index.Note.{Note}
use Rattle.path_lookup.specs.Notes.{best_note, better_note, deepest, dir_at, under}
use Rattle.path_lookup.specs.Histories.{HasDirs, Placed, dirs_in, may_note, noted_dir}
use Rattle.path_lookup.proofs.Placed.{is_at, notes_of}
use Rattle.path_lookup.proofs.Tops.{IsTop, top_same, top_as, join, found_of, In, InOrder, order_first, order_rest, at_note, in_distinct, in_as, in_split, in_filtered, filtered_in, best_step, better_placed, scan}

module _ (roster : Roster) (n : ℕ) (path : List ℕ) where
  abbrev good : Placed → Bool
  good one = under roster n path one.note

  abbrev note_step : Option Note → Note → Option Note
  note_step best note = cond (under roster n path note) (better_note roster best note) best

  same_step : (o : Option Placed) (one : Placed) → note_step (option_map (λ p. p.note) o) one.note ≡ option_map (λ p. p.note) (best_step roster good o one)
  same_step o one = at (good one) o
    where
      at : (b : Bool) (o : Option Placed) → cond b (better_note roster (option_map (λ p. p.note) o) one.note) (option_map (λ p. p.note) o) ≡ option_map (λ p. p.note) (cond b (better_placed roster good o one) o)
      at true None = refl
      at true (Some best) = of (nat_lt (length (dir_at roster one.note)) (length (dir_at roster best.note)))
        where
          of : (t : Bool) → cond t (Some best.note) (Some one.note) ≡ option_map (λ p. p.note) (cond t (Some best) (Some one))
          of true = refl
          of false = refl
      at false o = refl

  same_scan : (o : Option Placed) (placed : List Placed) → fold note_step (option_map (λ p. p.note) o) (notes_of placed) ≡ option_map (λ p. p.note) (fold (best_step roster good) o placed)
  same_scan o [] = refl
  same_scan o (one ∷ placed) =
      ap (λ best. fold note_step best (notes_of placed)) (same_step o one) ∙ same_scan (best_step roster good o one) placed

  -- the best of the placed notes
  pub best_top : (placed : List Placed) → InOrder roster placed → IsTop (λ f. In roster good f placed) (option_map (found_of roster) (fold (best_step roster good) None placed))
  best_top placed order =
      top_as (λ f. ⊥ ⊎ In roster good f placed) (λ f. In roster good f placed) (option_map (found_of roster) (fold (best_step roster good) None placed))
      (λ f either. elim either [
        | inl never ↦ absurd never
        | inr there ↦ there
      ])
      (λ f there. inr there)
      (scan roster good (λ f. ⊥) None placed (λ f never. never) (λ f never. absurd never) order)

-- ONE SPACE

module _ (roster : Roster) (path : List ℕ) (s : ℕ) where
  abbrev covering : Placed → Bool
  covering one = covers (dir_at roster one.note) path

  abbrev dir_step : Option Found → NotedDir → Option Found
  dir_step best noted = better best (cond (covers noted.dir path) (Some (record { space = s; noted = noted })) None)

  found_here : (one : Placed) → one.note.space ≡ s → ◌≡◌ {A = Found} (record { space = s; noted = noted_dir roster one }) (found_of roster one)
  found_here one is = ap (λ n. record { space = n; noted = noted_dir roster one }) (sym is)

  scan_dirs : (P : Found → Type 0) (o : Option Found) (placed : List Placed) → IsTop P o → ((f : Found) → P f → All (λ one. f.noted.place < one.place) placed) → InOrder roster placed → All (λ one. one.note.space ≡ s) placed → IsTop (λ f. P f ⊎ In roster covering f placed) (fold dir_step o (map (noted_dir roster) placed))
  scan_dirs P o [] top later order here =
      top_as P (λ f. P f ⊎ ⊥) o (λ f p. inl p) (λ f either. elim either [
        | inl p ↦ p
        | inr never ↦ absurd never
      ]) top
  scan_dirs P o (one ∷ placed) top later order here =
      at (covering one) refl
      (λ next more. scan_dirs (λ f. P f ⊎ (IsTrue (covering one) × (found_of roster one ≡ f))) next placed more after (order_rest roster one placed order) (All-tail (λ b. b.note.space ≡ s) one placed here))
    where
      Here : Found → Type 0
      Here f = IsTrue (covering one) × (found_of roster one ≡ f)

      after : (f : Found) → P f ⊎ Here f → All (λ b. f.noted.place < b.place) placed
      after f (inl p) = All-tail (λ b. f.noted.place < b.place) one placed (later f p)
      after f (inr is) = subst (λ (g : Found). All (λ b. g.noted.place < b.place) placed) is.1 (order_first roster one placed order)

      apart : (f g : Found) → P f → Here g → (f ≡ g) ⊎ (f.noted.place ≢ g.noted.place)
      apart f g p is =
          let before = All-head (λ b. f.noted.place < b.place) one placed (later f p) in
          let there : one.place ≡ g.noted.place = ap (λ (h : Found). h.noted.place) is.1 in
          inr (λ same. absurd (omega (arith, before, there, same)))

      regroup : (f : Found) → (P f ⊎ Here f) ⊎ In roster covering f placed → P f ⊎ (Here f ⊎ In roster covering f placed)
      regroup f (inl (inl p)) = inl p
      regroup f (inl (inr is)) = inr (inl is)
      regroup f (inr rest) = inr (inr rest)

      back : (f : Found) → P f ⊎ (Here f ⊎ In roster covering f placed) → (P f ⊎ Here f) ⊎ In roster covering f placed
      back f (inl p) = inl (inl p)
      back f (inr (inl is)) = inl (inr is)
      back f (inr (inr rest)) = inr rest

      next_top : (b : Bool) → covering one ≡ b → IsTop Here (cond b (Some (record { space = s; noted = noted_dir roster one })) None)
      next_top true is = (
        (is, sym (found_here one (All-head (λ c. c.note.space ≡ s) one placed here))),
        λ f found. inl (sym found.1 ∙ sym (found_here one (All-head (λ c. c.note.space ≡ s) one placed here))),
      )
      next_top false is = λ f found. false≢true (sym is ∙ found.0)

      at : (b : Bool) → covering one ≡ b → ((next : Option Found) → IsTop (λ f. P f ⊎ Here f) next → IsTop (λ f. (P f ⊎ Here f) ⊎ In roster covering f placed) (fold dir_step next (map (noted_dir roster) placed))) → IsTop (λ f. P f ⊎ (Here f ⊎ In roster covering f placed)) (fold dir_step (better o (cond b (Some (record { space = s; noted = noted_dir roster one })) None)) (map (noted_dir roster) placed))
      at b is go =
          let next = better o (cond b (Some (record { space = s; noted = noted_dir roster one })) None) in
          top_as (λ f. (P f ⊎ Here f) ⊎ In roster covering f placed) (λ f. P f ⊎ (Here f ⊎ In roster covering f placed)) (fold dir_step next (map (noted_dir roster) placed)) regroup back
          (go next (join P Here o (cond b (Some (record { space = s; noted = noted_dir roster one })) None) apart top (next_top b is)))

  -- the best of the space's
  pub space_top : (placed : List Placed) → InOrder roster placed → IsTop (λ f. In roster (λ one. is_at s one && covering one) f placed) (fold dir_step None (dirs_in roster s placed))
  space_top placed order =
      top_as (λ f. ⊥ ⊎ In roster covering f (filter (is_at s) placed)) (λ f. In roster (λ one. is_at s one && covering one) f placed) (fold dir_step None (dirs_in roster s placed))
      (λ f either. elim either [
        | inl never ↦ absurd never
        | inr there ↦ in_filtered roster (is_at s) covering f placed there
      ])
      (λ f there. inr (filtered_in roster (is_at s) covering f placed there))
      (scan_dirs (λ f. ⊥) None (filter (is_at s) placed) (λ f never. never) (λ f never. absurd never) (AllPairs-filter (λ a b. a.place < b.place) (is_at s) placed order)
      (λ k d within. number_same _ s (filter_passes (is_at s) placed k d within)))

-- ALL SPACES

-- the spaces of a site are of its partition
pub site_partition : (names : Tables) (place : Site) (s : ℕ) → is_of_site names place s ≡ true → is_of_partition names place.partition s ≡ true
site_partition names place s of_it = at (space_named names s) of_it
  where
    at : (o : Option ProtectionSpace) → unwrap_or (option_map (λ (space : ProtectionSpace). same_site space.site place) o) false ≡ true → unwrap_or (option_map (λ (space : ProtectionSpace). bytes_eq space.site.partition place.partition) o) false ≡ true
    at None of_it' = absurd (false≢true of_it')
    at (Some space) of_it' =
        ap (λ (home : Site). bytes_eq home.partition place.partition) (site_same space.site place of_it') ∙ bytes_refl place.partition

in_list : (s : ℕ) (xs : List ℕ) → 0 < times s xs → list_any (λ x. x == s) xs ≡ true
in_list s [] some = absurd (omega arith)
in_list s (x ∷ xs) some = at (x == s) refl (λ more. in_list s xs more)
  where
    at : (b : Bool) → (x == s) ≡ b → (0 < times s xs → list_any (λ y. y == s) xs ≡ true) → (b || list_any (λ y. y == s) xs) ≡ true
    at true is before = refl
    at false is before = before (omega (arith, some, sum_by-cons (λ y. cond (y == s) 1 0) x xs, ap one_if is))

flip : (a b : ℕ) → (a == b) ≡ (b == a)
flip a b = grind (arith, nat_tests)

module _ (roster : Roster) (names : Tables) (sites : ℕ → ℕ) (is_in : ℕ → Bool) (past : List Entry) (legal : IsLegalPast roster names past) (notes : List Note) (has : HasDirs roster names sites is_in past notes)
    (n : ℕ) (place : Site) (path : List ℕ) (mine : (s : ℕ) → is_of_site names place s ≡ true → is_in s ≡ true) (agree : (s : ℕ) → IsTrue (live past s) → is_of_site names place s ≡ (sites s == n)) where
  abbrev there : Placed → Bool
  there one = under roster n path one.note

  abbrev fits_it : ℕ → Bool
  fits_it s = live past s && may_note names s && is_of_site names place s

  record IsHome (one : Placed) : Type 0 where
    site : one.note.site ≡ sites one.note.space
    alive : live past one.note.space ≡ true
    fit : may_note names one.note.space ≡ true

  homes : All IsHome has.placed
  homes = λ k d within. record { site = has.home k d within; alive = has.alive k d within; fit = has.fit k d within }

  at_space : (s : ℕ) → IsTop (λ f. In roster (λ one. is_at s one && there one) f has.placed) (found_in roster names past place path s)
  at_space s = at (fits_it s) refl
    where
      dirs_are : is_of_site names place s ≡ true → dirs roster names past s ≡ dirs_in roster s has.placed
      dirs_are of_it = sym (has.each s ∙ ap (λ b. cond b (dirs roster names past s) []) (mine s of_it))

      site_is : (one : Placed) → IsHome one → one.note.space ≡ s → (one.note.site == n) ≡ is_of_site names place s
      site_is one home is =
          ap (λ m. m == n) (home.site ∙ ap sites is) ∙ sym (agree s (subst (λ m. IsTrue (live past m)) is home.alive))

      to : is_of_site names place s ≡ true → (one : Placed) → IsHome one → IsTrue (is_at s one && covering roster path s one) → IsTrue (is_at s one && there one)
      to of_it one home test =
          let is = and_left (is_at s one) (covering roster path s one) test in
          both (is_at s one) (there one) is
          (both (one.note.site == n) (covers (dir_at roster one.note) path) (site_is one home (number_same one.note.space s is) ∙ of_it) (and_right (is_at s one) (covering roster path s one) test))

      from : (one : Placed) → IsHome one → IsTrue (is_at s one && there one) → IsTrue (is_at s one && covering roster path s one)
      from one home test =
          both (is_at s one) (covering roster path s one) (and_left (is_at s one) (there one) test)
          (and_right (one.note.site == n) (covers (dir_at roster one.note) path) (and_right (is_at s one) (there one) test))

      fits_so : (f : Found) → In roster (λ one. is_at s one && there one) f has.placed → fits_it s ≡ true
      fits_so f found =
          let where_it = at_note roster IsHome (λ one. is_at s one && there one) f has.placed homes found in
          let one = where_it.0 in
          let home : IsHome one = where_it.1 in
          let is : one.note.space ≡ s = number_same one.note.space s (and_left (is_at s one) (there one) where_it.2) in
          let site_it = and_left (one.note.site == n) (covers (dir_at roster one.note) path) (and_right (is_at s one) (there one) where_it.2) in
          both (live past s && may_note names s) (is_of_site names place s)
          (both (live past s) (may_note names s) (subst (λ m. live past m ≡ true) is home.alive) (subst (λ m. may_note names m ≡ true) is home.fit))
          (sym (site_is one home is) ∙ site_it)

      at : (b : Bool) → fits_it s ≡ b → IsTop (λ f. In roster (λ one. is_at s one && there one) f has.placed) (cond b (fold (dir_step roster path s) None (dirs roster names past s)) None)
      at true is =
          let of_it = and_right (live past s && may_note names s) (is_of_site names place s) is in
          subst (λ ds. IsTop (λ f. In roster (λ one. is_at s one && there one) f has.placed) (fold (dir_step roster path s) None ds)) (sym (dirs_are of_it))
          (top_as (λ f. In roster (λ one. is_at s one && covering roster path s one) f has.placed) (λ f. In roster (λ one. is_at s one && there one) f has.placed) (fold (dir_step roster path s) None (dirs_in roster s has.placed))
          (λ f found. in_as roster IsHome (λ one. is_at s one && covering roster path s one) (λ one. is_at s one && there one) (to of_it) f has.placed homes found)
          (λ f found. in_as roster IsHome (λ one. is_at s one && there one) (λ one. is_at s one && covering roster path s one) from f has.placed homes found)
          (space_top roster path s has.placed has.order))
      at false fails = λ f found. false≢true (sym fails ∙ fits_so f found)

  abbrev among : List ℕ → Placed → Bool
  among xs one = list_any (λ x. x == one.note.space) xs && there one

  at_spaces : (xs : List ℕ) → IsTop (λ f. In roster (among xs) f has.placed) (best_found (found_in roster names past place path) xs)
  at_spaces [] = λ f found. false≢true (at_note roster IsHome (among []) f has.placed homes found).2
  at_spaces (x ∷ xs) =
      top_as (λ f. In roster (λ one. is_at x one && there one) f has.placed ⊎ In roster (among xs) f has.placed) (λ f. In roster (among (x ∷ xs)) f has.placed) (better (found_in roster names past place path x) (best_found (found_in roster names past place path) xs))
      both_in
      (λ f found. in_split roster (among (x ∷ xs)) (λ one. is_at x one && there one) (among xs) apart f has.placed found)
      (join (λ f. In roster (λ one. is_at x one && there one) f has.placed) (λ f. In roster (among xs) f has.placed) (found_in roster names past place path x) (best_found (found_in roster names past place path) xs)
      (λ f g p q. in_distinct roster (λ one. is_at x one && there one) (among xs) f g has.placed has.order p q)
      (at_space x) (at_spaces xs))
    where
      first : (one : Placed) → IsHome one → IsTrue (is_at x one && there one) → IsTrue (among (x ∷ xs) one)
      first one home test =
          both (x == one.note.space || list_any (λ y. y == one.note.space) xs) (there one)
          (ap (λ b. b || list_any (λ y. y == one.note.space) xs) (flip x one.note.space ∙ and_left (is_at x one) (there one) test)) (and_right (is_at x one) (there one) test)

      rest : (one : Placed) → IsHome one → IsTrue (among xs one) → IsTrue (among (x ∷ xs) one)
      rest one home test =
          both (x == one.note.space || list_any (λ y. y == one.note.space) xs) (there one) (or_later (x == one.note.space) (and_left (list_any (λ y. y == one.note.space) xs) (there one) test)) (and_right (list_any (λ y. y == one.note.space) xs) (there one) test)
        where
          or_later : (b : Bool) → list_any (λ y. y == one.note.space) xs ≡ true → (b || list_any (λ y. y == one.note.space) xs) ≡ true
          or_later true is = refl
          or_later false is = is

      both_in : (f : Found) → In roster (λ one. is_at x one && there one) f has.placed ⊎ In roster (among xs) f has.placed → In roster (among (x ∷ xs)) f has.placed
      both_in f (inl found) = in_as roster IsHome (λ one. is_at x one && there one) (among (x ∷ xs)) first f has.placed homes found
      both_in f (inr found) = in_as roster IsHome (among xs) (among (x ∷ xs)) rest f has.placed homes found

      apart : (one : Placed) → IsTrue (among (x ∷ xs) one) → IsTrue (is_at x one && there one) ⊎ IsTrue (among xs one)
      apart one test = at (x == one.note.space) refl (and_left (x == one.note.space || list_any (λ y. y == one.note.space) xs) (there one) test)
        where
          good_one : IsTrue (there one)
          good_one = and_right (x == one.note.space || list_any (λ y. y == one.note.space) xs) (there one) test

          at : (b : Bool) → (x == one.note.space) ≡ b → IsTrue (b || list_any (λ y. y == one.note.space) xs) → IsTrue (is_at x one && there one) ⊎ IsTrue (among xs one)
          at true is some = inl (both (is_at x one) (there one) (flip one.note.space x ∙ is) good_one)
          at false is some = inr (both (list_any (λ y. y == one.note.space) xs) (there one) some good_one)

  -- each live space was given
  listed : (one : Placed) → IsHome one → list_any (λ x. x == one.note.space) (spaces_given past) ≡ true
  listed one home =
      in_list one.note.space (spaces_given past) (omega (arith, given_once roster names past legal one.note.space, once_some (givings past one.note.space) (live_given past one.note.space home.alive)))
    where
      once_some : (m : ℕ) → 0 < m → once_if m ≡ 1
      once_some m some = grind (arith, nat_tests)

  given_top : IsTop (λ f. In roster there f has.placed) (best_found (found_in roster names past place path) (spaces_given past))
  given_top =
      top_as (λ f. In roster (among (spaces_given past)) f has.placed) (λ f. In roster there f has.placed) (best_found (found_in roster names past place path) (spaces_given past))
      (λ f found. in_as roster IsHome (among (spaces_given past)) there (λ one home test. and_right (list_any (λ x. x == one.note.space) (spaces_given past)) (there one) test) f has.placed homes found)
      (λ f found. in_as roster IsHome there (among (spaces_given past)) (λ one home test. both (list_any (λ x. x == one.note.space) (spaces_given past)) (there one) (listed one home) test) f has.placed homes found)
      (at_spaces (spaces_given past))

  -- what is deepest is found by path
  pub deepest_is : deepest roster n path notes ≡ unwrap_or (by_path roster names past place path) 0
  deepest_is =
      ap (λ ns. unwrap_or (option_map (λ note. note.space) (best_note roster n path ns)) 0) has.are
      ∙ (ap (λ o. unwrap_or (option_map (λ note. note.space) o) 0) (same_scan roster n path None has.placed)
      ∙ (spaces_same (fold (best_step roster (good roster n path)) None has.placed)
      ∙ ap (λ o. unwrap_or (option_map (λ (f : Found). f.space) o) 0)
      (top_same (λ f. In roster there f has.placed) (option_map (found_of roster) (fold (best_step roster (good roster n path)) None has.placed)) (best_found (found_in roster names past place path) (spaces_given past)) (best_top roster n path has.placed has.order) given_top)))
    where
      spaces_same : (o : Option Placed) → unwrap_or (option_map (λ (note : Note). note.space) (option_map (λ (p : Placed). p.note) o)) 0 ≡ unwrap_or (option_map (λ (f : Found). f.space) (option_map (found_of roster) o)) 0
      spaces_same None = refl
      spaces_same (Some p) = refl
