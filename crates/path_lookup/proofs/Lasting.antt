-- The notes of a partition at one past: the room that they leave, and the names that they need.
use Rattle.std.proofs.Common.{◌≡◌, ℕ, ◌<◌, ◌≤◌, Bool, true, false, ◌||◌, ◌&&◌, cond, get_or, List, [], ◌∷◌, length, refl, ap, sym, subst, ◌∙◌, arith, Option}
use Rattle.std.specs.Prelude.{All, IsTrue, bytes_eq, option_map, unwrap_or, ◌==◌, nat_lt}
use Rattle.std.specs.List.{list_any}
use Rattle.std.proofs.lemmas.Bool.Decides.{nat_tests}
use Rattle.std.proofs.lemmas.Bool.{false≢true}
use Rattle.std.proofs.lemmas.List.Elements.{All-head, All-tail}
use Rattle.spaces.specs.Paths.{dir_of}
use Rattle.spaces.specs.ProtectionSpaces.{ProtectionSpace}
use Rattle.spaces.specs.Sites.{numbered}
use Rattle.spaces.specs.declared.roster.Roster.{Roster}
use Rattle.spaces.specs.declared.site.Target.{Target}
use Rattle.spaces.specs.declared.site.Target.TheVariants.{Server}
use Rattle.auth_events.specs.declared.journal.Entry.{Entry}
use Rattle.auth_events.specs.Tables.{Tables}
use Rattle.auth_events.specs.Past.{live, live_rivals, live_spaces, takes_away}
use Rattle.auth_events.specs.Book.{IsLegalPast, NotedDir, dirs, is_basic, is_digest, is_noted, is_of_partition, notes, path_of, target_of, with_dir}
use Rattle.auth_events.proofs.Same.{number_same}
use Rattle.history_laws.proofs.Counts.{fewer, times_cons}
use Rattle.history_laws.proofs.Prompting.{one_if}
use Rattle.history_laws.proofs.Rooms.{live_few, times, times_filtered}
use Rattle.path_lookup.specs.declared.index.Note.{Note}
use Rattle.path_lookup.specs.Notes.{has_free_row, is_of, rows}
use Rattle.path_lookup.specs.Histories.{HasDirs, Placed}
use Rattle.path_lookup.proofs.Placed.{notes_of}
use Rattle.path_lookup.proofs.Rows.{times_rows}
use Rattle.path_lookup.proofs.HistoryLemmas.{all_pass, dead_dirs}

-- ROOM

-- what holds of the space of each note holds of a space with a note
of_noted : (P : ℕ → Type 0) (placed : List Placed) → All (λ one. P one.note.space) placed → (s : ℕ) → list_any (is_of s) (notes_of placed) ≡ true → P s
of_noted P [] all s any = absurd (false≢true any)
of_noted P (one ∷ placed) all s any =
    at (one.note.space == s) refl any (λ more. of_noted P placed (All-tail (λ o. P o.note.space) one placed all) s more)
  where
    at : (b : Bool) → (one.note.space == s) ≡ b → (b || list_any (is_of s) (notes_of placed)) ≡ true → (list_any (is_of s) (notes_of placed) ≡ true → P s) → P s
    at true same some before = subst P (number_same one.note.space s same) (All-head (λ o. P o.note.space) one placed all)
    at false other some before = before some

module _ (roster : Roster) (names : Tables) (sites : ℕ → ℕ) (partition : List ℕ) (past : List Entry) (legal : IsLegalPast roster names past) (ns : List Note) (has : HasDirs roster names sites (is_of_partition names partition) past ns) where
  abbrev is_in : ℕ → Bool
  is_in = is_of_partition names partition

  -- a live space of the partition stands once in the list of them
  live_times : (x : ℕ) → live past x ≡ true → is_in x ≡ true → times x (live_rivals is_in past) ≡ 1
  live_times x lives in_it =
      times_filtered is_in x (live_spaces past)
      ∙ (ap (λ b. cond b (times x (live_spaces past)) 0) in_it ∙ ((live_few roster names past legal).once x ∙ ap one_if lives))

  noted_times : (x : ℕ) → list_any (is_of x) ns ≡ true → times x (live_rivals is_in past) ≡ 1
  noted_times x noted =
      let there = sym (ap (list_any (is_of x)) has.are) ∙ noted in
      live_times x (of_noted (λ s. live past s ≡ true) has.placed has.alive x there) (of_noted (λ s. is_in s ≡ true) has.placed (all_pass roster names sites is_in past ns has) x there)

  pub free_row : (s : ℕ) → is_in s ≡ true → live past s ≡ true → IsTrue (has_free_row 32 ns s)
  free_row s in_it lives = at (list_any (is_of s) ns) refl
    where
      is_less : (n : ℕ) → n < 32 → nat_lt n 32 ≡ true
      is_less n less = grind (arith, nat_tests)

      at : (b : Bool) → list_any (is_of s) ns ≡ b → (b || nat_lt (length (rows ns)) 32) ≡ true
      at true there = refl
      at false none = is_less (length (rows ns)) (omega (arith, fewer (s ∷ rows ns) (live_rivals is_in past) le, (live_few roster names past legal).few partition))
        where
          le : (x : ℕ) → times x (s ∷ rows ns) ≤ times x (live_rivals is_in past)
          le x = of (s == x) refl (list_any (is_of x) ns) refl
            where
              of : (a : Bool) → (s == x) ≡ a → (b : Bool) → list_any (is_of x) ns ≡ b → times x (s ∷ rows ns) ≤ times x (live_rivals is_in past)
              of true same b is =
                  let here = number_same s x same in
                  omega (arith, times_cons x s (rows ns), ap one_if same, times_rows x ns, ap one_if (subst (λ n. list_any (is_of n) ns ≡ false) here none), live_times x (subst (λ n. live past n ≡ true) here lives) (subst (λ n. is_in n ≡ true) here in_it))
              of false other true is =
                  omega (arith, times_cons x s (rows ns), ap one_if other, times_rows x ns, ap one_if is, noted_times x is)
              of false other false is = omega (arith, times_cons x s (rows ns), ap one_if other, times_rows x ns, ap one_if is)

-- NAMES

-- directories need the target of their space alone
dirs_same : (roster : Roster) (names more : Tables) (past : List Entry) (s : ℕ) → target_of names s ≡ target_of more s → dirs roster names past s ≡ dirs roster more past s
dirs_same roster names more [] s same = refl
dirs_same roster names more (entry ∷ past) s same =
    ap (λ t. Dirs t (dirs roster names past s)) same ∙ ap (Dirs (target_of more s)) (dirs_same roster names more past s same)
  where
    Dirs : Target → List NotedDir → List NotedDir
    Dirs t before = cond (takes_away entry s) [] (cond (notes entry.call s && is_noted entry.reply) (with_dir (record { dir = dir_of (path_of roster entry.request t); place = length past }) before) before)

pub lasts : (roster : Roster) (names more : Tables) (sites more_sites : ℕ → ℕ) (partition : List ℕ) (past : List Entry) (ns : List Note) → IsLegalPast roster names past → IsLegalPast roster more past → ((s : ℕ) → live past s ≡ true → numbered more.spaces s ≡ numbered names.spaces s) → ((s : ℕ) → live past s ≡ true → more_sites s ≡ sites s) → HasDirs roster names sites (is_of_partition names partition) past ns → HasDirs roster more more_sites (is_of_partition more partition) past ns
lasts roster names more sites more_sites partition past ns legal legal_more same sites_same has = record {
  placed = has.placed;
  are = has.are;
  each = λ s. has.each s ∙ at s (live past s) refl;
  order = has.order;
  before = has.before;
  home = λ k d within. has.home k d within ∙ sym (sites_same (get_or has.placed k d).note.space (has.alive k d within));
  alive = has.alive;
  fit = λ k d within. by_name may_test (get_or has.placed k d).note.space (has.alive k d within) ∙ has.fit k d within;
}
  where
    may_test : Option ProtectionSpace → Bool
    may_test o = unwrap_or (option_map (λ (space : ProtectionSpace). is_basic space.scheme) o) false || unwrap_or (option_map (λ (space : ProtectionSpace). is_digest space.scheme) o) false

    of_partition : Option ProtectionSpace → Bool
    of_partition o = unwrap_or (option_map (λ (space : ProtectionSpace). bytes_eq space.site.partition partition) o) false

    -- what is read off a live space's name stays
    by_name : {A : Type 0} (f : Option ProtectionSpace → A) (s : ℕ) → live past s ≡ true → f (numbered more.spaces s) ≡ f (numbered names.spaces s)
    by_name f s lives = ap f (same s lives)

    nothing : (a b : Bool) → ◌≡◌ {A = List NotedDir} (cond a [] []) (cond b [] [])
    nothing true true = refl
    nothing true false = refl
    nothing false true = refl
    nothing false false = refl

    at : (s : ℕ) (b : Bool) → live past s ≡ b → cond (is_of_partition names partition s) (dirs roster names past s) [] ≡ cond (is_of_partition more partition s) (dirs roster more past s) []
    at s true lives =
        ap (λ b. cond b (dirs roster names past s) []) (sym (by_name of_partition s lives))
        ∙ ap (λ ds. cond (is_of_partition more partition s) ds []) (dirs_same roster names more past s (sym (by_name (λ o. unwrap_or (option_map (λ (space : ProtectionSpace). space.site.target) o) Server) s lives)))
    at s false dead =
        ap (λ ds. cond (is_of_partition names partition s) ds []) (dead_dirs roster names past legal s dead)
        ∙ (nothing (is_of_partition names partition s) (is_of_partition more partition s)
        ∙ sym (ap (λ ds. cond (is_of_partition more partition s) ds []) (dead_dirs roster more past legal_more s dead)))
