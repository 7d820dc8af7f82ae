-- An index that is told the entries of a legal past about its partition has the partition's directories.
use Rattle.std.proofs.Common.{◌≡◌, ℕ, suc, ◌<◌, Bool, true, false, not, ◌&&◌, ◌||◌, cond, get_or, List, [], ◌∷◌, length, refl, ap, sym, subst, ◌∙◌, arith, Option, Some, None}
use Rattle.std.specs.Prelude.{All, IsTrue, is_some, filter, ◌==◌}
use Rattle.std.proofs.lemmas.Bool.Decides.{nat_tests}
use Rattle.std.proofs.lemmas.Bool.{false≢true}
use Rattle.std.proofs.lemmas.List.Elements.{All-filter, All-nil, filter_passes}
use Rattle.std.proofs.lemmas.List.Kept.{AllPairs-filter}
use Rattle.spaces.specs.Paths.{dir_of}
use Rattle.spaces.specs.declared.roster.Roster.{Roster}
use Rattle.auth_events.specs.declared.journal.Gift.{Gift}
use Rattle.auth_events.specs.declared.journal.Entry.{Entry}
use Rattle.auth_events.specs.declared.journal.Call.{Call}
use Rattle.auth_events.specs.declared.journal.Call.TheVariants.{Begin, Preempt, Select, Reject, Renew, Answer, Lose, Take, Note as Notes, End}
use Rattle.auth_events.specs.declared.journal.BookReply.{BookReply}
use Rattle.auth_events.specs.declared.journal.BookReply.TheVariants.{Begun, Ready, Nothing, Url, Cached, Default, Follow, Lead, Removed, Kept, Renewed, Given, Cancelled, Lost, Gave, Noted, Ended}
use Rattle.auth_events.specs.Tables.{Tables}
use Rattle.auth_events.specs.Pages.{fits}
use Rattle.auth_events.specs.Past.{current, gives, gift_given, is_of as is_gift_of, live, takes_away}
use Rattle.auth_events.specs.Book.{IsLegalPast, IsStep, NotedDir, answer, is_of_partition, dirs, is_noted, is_that_gift, notes, path_of, target_of, was_told, with_dir}
use Rattle.auth_events.proofs.Numbers.{and_left, and_right}
use Rattle.auth_events.proofs.Same.{number_same, number_refl}
use Rattle.history_laws.specs.Laws.{IsAsBefore}
use Rattle.history_laws.specs.Partitions.{concerns}
use Rattle.history_laws.proofs.Apart.{all_left_alone, differ, no_rival}
use Rattle.history_laws.proofs.Leaving.{and_false, no_space}
use Rattle.path_lookup.specs.declared.index.Note.{Note}
use Rattle.path_lookup.specs.Notes.{added, dir_at, without}
use Rattle.path_lookup.specs.Histories.{HasDirs, Placed, dirs_in, may_note, notes_after, notes_told, without_gone}
use Rattle.path_lookup.proofs.Placed.{notes_of, own_dirs, put, put_notes, put_here, put_there, put_all, put_pairs, gone_here, gone_there}

some_of_is_of : (gift : Option Gift) (s : ℕ) → is_gift_of gift s ≡ true → is_some gift ≡ true
some_of_is_of None s is = absurd (false≢true is)
some_of_is_of (Some gift) s is = refl

live_stays : (entry : Entry) (past : List Entry) (s : ℕ) → takes_away entry s ≡ false → live past s ≡ true → live (entry ∷ past) s ≡ true
live_stays entry past s kept lives =
    ap (λ b. is_some {T = Gift} (cond b None (cond (gives entry s) (gift_given entry.reply) (current past s)))) kept ∙ at (gives entry s) refl
  where
    at : (b : Bool) → gives entry s ≡ b → is_some (cond b (gift_given entry.reply) (current past s)) ≡ true
    at true given = some_of_is_of (gift_given entry.reply) s given
    at false none = lives

notes_gone : (u : ℕ) (placed : List Placed) → notes_of (filter (λ one. not (one.note.space == u)) placed) ≡ without u (notes_of placed)
notes_gone u [] = refl
notes_gone u (one ∷ placed) = at (one.note.space == u) (notes_gone u placed)
  where
    rest : List Placed
    rest = filter (λ o. not (o.note.space == u)) placed

    at : (b : Bool) → notes_of rest ≡ without u (notes_of placed) → notes_of (cond (not b) (one ∷ rest) rest) ≡ cond (not b) (one.note ∷ without u (notes_of placed)) (without u (notes_of placed))
    at true before = before
    at false before = ap (λ ns. one.note ∷ ns) before

not_is : (b : Bool) → not b ≡ true → b ≡ false
not_is true is = absurd (false≢true is)
not_is false is = refl

module _ (roster : Roster) (names : Tables) (sites : ℕ → ℕ) (is_in : ℕ → Bool) (past : List Entry) (ns : List Note) (has : HasDirs roster names sites is_in past ns) where
  abbrev Has : Entry → List Note → Type 0
  Has entry after = HasDirs roster names sites is_in (entry ∷ past) after

  later : All (λ (one : Placed). one.place < suc (length past)) has.placed
  later = λ k d within. let there = has.before k d within in omega (arith, there)

  -- each note is of a space that passes
  pub all_pass : All (λ (one : Placed). is_in one.note.space ≡ true) has.placed
  all_pass = λ k d within.
      let s = (get_or has.placed k d).note.space in
      of (is_in s) (dirs roster names past s) (subst (λ ds. 0 < length ds) (has.each s) (own_dirs roster has.placed k d within))
    where
      of : (b : Bool) (ds : List NotedDir) → 0 < length (cond b ds []) → b ≡ true
      of true ds some = refl
      of false ds some = absurd (omega arith)

  quiet_dirs : (entry : Entry) (s : ℕ) → takes_away entry s ≡ false → (notes entry.call s && is_noted entry.reply) ≡ false → dirs roster names (entry ∷ past) s ≡ dirs roster names past s
  quiet_dirs entry s kept unnoted =
      ap (λ b. cond b [] (cond (notes entry.call s && is_noted entry.reply) (with_dir (record { dir = dir_of (path_of roster entry.request (target_of names s)); place = length past }) (dirs roster names past s)) (dirs roster names past s))) kept
      ∙ ap (λ b. cond b (with_dir (record { dir = dir_of (path_of roster entry.request (target_of names s)); place = length past }) (dirs roster names past s)) (dirs roster names past s)) unnoted

  -- an entry that leaves the directories of each space that passes, and each of these that is live
  still : (entry : Entry) → ((s : ℕ) → is_in s ≡ true → dirs roster names (entry ∷ past) s ≡ dirs roster names past s) → ((s : ℕ) → is_in s ≡ true → live past s ≡ true → live (entry ∷ past) s ≡ true) → Has entry ns
  still entry same stays = record {
    placed = has.placed;
    are = has.are;
    each = λ s. has.each s ∙ at s (is_in s) refl;
    order = has.order;
    before = later;
    home = has.home;
    alive = λ k d within. stays (get_or has.placed k d).note.space (all_pass k d within) (has.alive k d within);
    fit = has.fit;
  }
    where
      at : (s : ℕ) (b : Bool) → is_in s ≡ b → cond b (dirs roster names past s) [] ≡ cond b (dirs roster names (entry ∷ past) s) []
      at s true passes = sym (same s passes)
      at s false out = refl

  -- an entry that neither takes away nor notes anything of a space that passes
  left_so : (entry : Entry) → ((s : ℕ) → is_in s ≡ true → takes_away entry s ≡ false) → ((s : ℕ) → is_in s ≡ true → (notes entry.call s && is_noted entry.reply) ≡ false) → Has entry ns
  left_so entry kept unnoted =
      still entry (λ s passes. quiet_dirs entry s (kept s passes) (unnoted s passes)) (λ s passes. live_stays entry past s (kept s passes))

  -- an entry that takes a space away
  goes : (entry : Entry) (u : ℕ) → ((s : ℕ) → takes_away entry s ≡ (u == s)) → ((s : ℕ) → (notes entry.call s && is_noted entry.reply) ≡ false) → Has entry (without u ns)
  goes entry u taken unnoted = record {
    placed = filter (λ one. not (one.note.space == u)) has.placed;
    are = ap (without u) has.are ∙ sym (notes_gone u has.placed);
    each = λ s. at s (u == s) refl;
    order = AllPairs-filter (λ a b. a.place < b.place) (λ one. not (one.note.space == u)) has.placed has.order;
    before = All-filter (λ one. not (one.note.space == u)) (λ one. one.place < suc (length past)) has.placed later;
    home = All-filter (λ one. not (one.note.space == u)) (λ one. one.note.site ≡ sites one.note.space) has.placed has.home;
    alive = alive;
    fit = All-filter (λ one. not (one.note.space == u)) (λ one. may_note names one.note.space ≡ true) has.placed has.fit;
  }
    where
      kept_placed : List Placed
      kept_placed = filter (λ one. not (one.note.space == u)) has.placed

      flip : (a b : ℕ) → (a == b) ≡ false → (b == a) ≡ false
      flip a b other = grind (arith, nat_tests)

      alive : All (λ one. live (entry ∷ past) one.note.space ≡ true) kept_placed
      alive = λ k d within.
          let one = get_or kept_placed k d in
          let other = not_is (one.note.space == u) (filter_passes (λ o. not (o.note.space == u)) has.placed k d within) in
          live_stays entry past one.note.space (taken one.note.space ∙ flip one.note.space u other) (All-filter (λ o. not (o.note.space == u)) (λ o. live past o.note.space ≡ true) has.placed has.alive k d within)

      no_dirs : (b : Bool) → ◌≡◌ {A = List NotedDir} [] (cond b [] [])
      no_dirs true = refl
      no_dirs false = refl

      at : (s : ℕ) (b : Bool) → (u == s) ≡ b → dirs_in roster s kept_placed ≡ cond (is_in s) (dirs roster names (entry ∷ past) s) []
      at s true same =
          subst (λ n. dirs_in roster n kept_placed ≡ []) (number_same u s same) (gone_here roster u has.placed)
          ∙ (no_dirs (is_in s)
          ∙ ap (λ ds. cond (is_in s) ds []) (sym (ap (λ b. cond b [] (cond (notes entry.call s && is_noted entry.reply) (with_dir (record { dir = dir_of (path_of roster entry.request (target_of names s)); place = length past }) (dirs roster names past s)) (dirs roster names past s))) (taken s ∙ same))))
      at s false other =
          gone_there roster u s has.placed other
          ∙ (has.each s ∙ ap (λ ds. cond (is_in s) ds []) (sym (quiet_dirs entry s (taken s ∙ other) (unnoted s))))

  abbrev new_note : Entry → ℕ → Note
  new_note entry u = record { space = u; site = sites u; request = entry.request; target = target_of names u }

  -- an entry that notes a directory of a live space
  noted : (entry : Entry) (u : ℕ) → is_in u ≡ true → live past u ≡ true → may_note names u ≡ true → ((s : ℕ) → takes_away entry s ≡ false) → ((s : ℕ) → (notes entry.call s && is_noted entry.reply) ≡ (u == s)) → Has entry (added roster (record { space = u; site = sites u; request = entry.request; target = target_of names u }) ns)
  noted entry u in_it lives may kept is_noted_at = record {
    placed = put roster (new_note entry u) (length past) has.placed;
    are = ap (added roster (new_note entry u)) has.are ∙ sym (put_notes roster (new_note entry u) (length past) has.placed);
    each = λ s. at s (u == s) refl;
    order = put_pairs roster (new_note entry u) (length past) has.placed (λ a b. a.place < b.place) has.order has.before;
    before = put_all roster (new_note entry u) (length past) has.placed (λ one. one.place < suc (length past)) later (omega arith);
    home = put_all roster (new_note entry u) (length past) has.placed (λ one. one.note.site ≡ sites one.note.space) has.home refl;
    alive = put_all roster (new_note entry u) (length past) has.placed (λ one. live (entry ∷ past) one.note.space ≡ true) still_alive (live_stays entry past u (kept u) lives);
    fit = put_all roster (new_note entry u) (length past) has.placed (λ one. may_note names one.note.space ≡ true) has.fit may;
  }
    where
      still_alive : All (λ one. live (entry ∷ past) one.note.space ≡ true) has.placed
      still_alive = λ k d within. live_stays entry past (get_or has.placed k d).note.space (kept (get_or has.placed k d).note.space) (has.alive k d within)

      new_dirs : (s : ℕ) → dirs roster names (entry ∷ past) s ≡ cond (u == s) (with_dir (record { dir = dir_of (path_of roster entry.request (target_of names s)); place = length past }) (dirs roster names past s)) (dirs roster names past s)
      new_dirs s =
          ap (λ b. cond b [] (cond (notes entry.call s && is_noted entry.reply) (with_dir (record { dir = dir_of (path_of roster entry.request (target_of names s)); place = length past }) (dirs roster names past s)) (dirs roster names past s))) (kept s)
          ∙ ap (λ b. cond b (with_dir (record { dir = dir_of (path_of roster entry.request (target_of names s)); place = length past }) (dirs roster names past s)) (dirs roster names past s)) (is_noted_at s)

      here : dirs_in roster u (put roster (new_note entry u) (length past) has.placed) ≡ cond (is_in u) (dirs roster names (entry ∷ past) u) []
      here =
          put_here roster (new_note entry u) (length past) has.placed
          ∙ (ap (with_dir (record { dir = dir_at roster (new_note entry u); place = length past })) (has.each u ∙ ap (λ b. cond b (dirs roster names past u) []) in_it)
          ∙ (sym (new_dirs u ∙ ap (λ b. cond b (with_dir (record { dir = dir_of (path_of roster entry.request (target_of names u)); place = length past }) (dirs roster names past u)) (dirs roster names past u)) (number_refl u))
          ∙ sym (ap (λ b. cond b (dirs roster names (entry ∷ past) u) []) in_it)))

      at : (s : ℕ) (b : Bool) → (u == s) ≡ b → dirs_in roster s (put roster (new_note entry u) (length past) has.placed) ≡ cond (is_in s) (dirs roster names (entry ∷ past) s) []
      at s true same =
          subst (λ n. dirs_in roster n (put roster (new_note entry u) (length past) has.placed) ≡ cond (is_in n) (dirs roster names (entry ∷ past) n) []) (number_same u s same) here
      at s false other =
          put_there roster (new_note entry u) (length past) s has.placed other
          ∙ (has.each s ∙ ap (λ ds. cond (is_in s) ds []) (sym (new_dirs s ∙ ap (λ b. cond b (with_dir (record { dir = dir_of (path_of roster entry.request (target_of names s)); place = length past }) (dirs roster names past s)) (dirs roster names past s)) other)))

-- EACH ENTRY

abbrev entry_of : ℕ → ℕ → Call → BookReply → Entry
entry_of caller r call reply = record { caller = caller; request = r; call = call; reply = reply }

no_zero : (s : ℕ) → (not (s == 0) && 0 == s) ≡ false
no_zero s = no_space false s refl

only_that : (gone s : ℕ) → (gone == 0) ≡ false → (not (s == 0) && gone == s) ≡ (gone == s)
only_that gone s some = at (s == 0) refl
  where
    at : (b : Bool) → (s == 0) ≡ b → (not b && gone == s) ≡ (gone == s)
    at true is = sym (ap (λ n. gone == n) (number_same s 0 is) ∙ some)
    at false is = refl

rejected_only : (u s : ℕ) → ((u == s) && true || not (s == 0) && 0 == s) ≡ (u == s)
rejected_only u s = ap (λ b. (u == s) && true || b) (no_zero s) ∙ at (u == s)
  where
    at : (b : Bool) → (b && true || false) ≡ b
    at true = refl
    at false = refl

-- what is noted, its space holds
pub noted_lives : (past : List Entry) (gift : Gift) (other : BookReply) → Noted ≡ cond (is_that_gift (current past gift.space) gift) Noted other → (Noted ≡ other → ⊥) → live past gift.space ≡ true
noted_lives past gift other is apart = at (current past gift.space) is
  where
    at : (o : Option Gift) → Noted ≡ cond (is_that_gift o gift) Noted other → is_some o ≡ true
    at None is' = absurd (apart is')
    at (Some held) is' = refl

-- WHERE NO SPACE IS LIVE

module _ (roster : Roster) (names : Tables) where
  noted_live : (past : List Entry) (r s : ℕ) (call : Call) (reply : BookReply) → reply ≡ answer roster names past r call → (notes call s && is_noted reply) ≡ true → live past s ≡ true
  noted_live past r s (Notes gift) Noted is noted_it =
      subst (λ n. live past n ≡ true) (number_same gift.space s (and_left (gift.space == s) true noted_it)) (noted_lives past gift (Kept _) is (λ same. cc))
  noted_live past r s (Notes gift) reply is noted_it = absurd (false≢true (sym (and_false (gift.space == s)) ∙ noted_it))
  noted_live past r s call reply is noted_it = absurd (false≢true noted_it)

  -- a space that isn't live has no directories
  pub dead_dirs : (past : List Entry) → IsLegalPast roster names past → (s : ℕ) → live past s ≡ false → dirs roster names past s ≡ []
  dead_dirs [] legal s dead = refl
  dead_dirs (entry ∷ past) legal s dead =
      at (takes_away entry s) refl (notes entry.call s && is_noted entry.reply) refl (live past s) refl (λ before. dead_dirs past legal.0 s before)
    where
      Dirs : Bool → Bool → List NotedDir
      Dirs a b = cond a [] (cond b (with_dir (record { dir = dir_of (path_of roster entry.request (target_of names s)); place = length past }) (dirs roster names past s)) (dirs roster names past s))

      stays : takes_away entry s ≡ false → live past s ≡ true → ⊥
      stays kept lives = false≢true (sym dead ∙ live_stays entry past s kept lives)

      at : (a : Bool) → takes_away entry s ≡ a → (b : Bool) → (notes entry.call s && is_noted entry.reply) ≡ b → (l : Bool) → live past s ≡ l → (live past s ≡ false → dirs roster names past s ≡ []) → Dirs a b ≡ []
      at true taken b is_noted_it l lives before = refl
      at false kept b is_noted_it true lives before = absurd (stays kept lives)
      at false kept true is_noted_it false dies before =
          absurd (stays kept (noted_live past entry.request s entry.call entry.reply legal.1.1 is_noted_it))
      at false kept false is_noted_it false dies before = before dies

  pub none_live : (sites : ℕ → ℕ) (is_in : ℕ → Bool) (past : List Entry) → IsLegalPast roster names past → ((s : ℕ) → is_in s ≡ true → live past s ≡ false) → HasDirs roster names sites is_in past []
  none_live sites is_in past legal dead = record {
    placed = [];
    are = refl;
    each = λ s. at s (is_in s) refl;
    order = λ i j d before within. absurd (omega arith);
    before = All-nil (λ one. one.place < length past);
    home = All-nil (λ one. one.note.site ≡ sites one.note.space);
    alive = All-nil (λ one. live past one.note.space ≡ true);
    fit = All-nil (λ one. may_note names one.note.space ≡ true);
  }
    where
      at : (s : ℕ) (b : Bool) → is_in s ≡ b → ◌≡◌ {A = List NotedDir} [] (cond b (dirs roster names past s) [])
      at s true passes = sym (dead_dirs past legal s (dead s passes))
      at s false out = refl

-- EACH ENTRY OF A PARTITION

module _ (roster : Roster) (names : Tables) (sites : ℕ → ℕ) (partition : List ℕ) (past : List Entry) (legal : IsLegalPast roster names past) (ns : List Note) (has : HasDirs roster names sites (is_of_partition names partition) past ns) where
  abbrev is_in : ℕ → Bool
  is_in = is_of_partition names partition

  abbrev HasNow : Entry → List Note → Type 0
  HasNow entry after = HasDirs roster names sites is_in (entry ∷ past) after

  abbrev After : ℕ → ℕ → Call → BookReply → Type 0
  After caller r call reply = HasNow (entry_of caller r call reply) (notes_told roster names sites is_in r call reply ns)

  -- a giving, in the partition or another one
  gives_way : (entry : Entry) (gift : Gift) (gone : ℕ) → IsStep roster names past entry → gift_given entry.reply ≡ Some gift → ((s : ℕ) → takes_away entry s ≡ (not (s == 0) && gone == s)) → ((s : ℕ) → (notes entry.call s && is_noted entry.reply) ≡ false) → HasNow entry (cond (is_in gift.space) (without_gone gone ns) ns)
  gives_way entry gift gone is given taken unnoted = at (is_in gift.space) refl
    where
      here : (b : Bool) → (gone == 0) ≡ b → HasNow entry (cond b ns (without gone ns))
      here true none =
          left_so roster names sites is_in past ns has entry (λ s passes. taken s ∙ (ap (λ n. not (s == 0) && n == s) (number_same gone 0 none) ∙ no_zero s)) (λ s passes. unnoted s)
      here false some = goes roster names sites is_in past ns has entry gone (λ s. taken s ∙ only_that gone s some) unnoted

      alone : (s : ℕ) → is_in gift.space ≡ false → is_in s ≡ true → IsAsBefore roster names past entry s
      alone s out passes =
          (all_left_alone roster names (entry ∷ past) (legal, is)).1 gift s given (no_rival names partition gift.space s out passes)

      at : (b : Bool) → is_in gift.space ≡ b → HasNow entry (cond b (without_gone gone ns) ns)
      at true in_it = here (gone == 0) refl
      at false out =
          still roster names sites is_in past ns has entry (λ s passes. (alone s out passes).same_dirs) (λ s passes lives. (alone s out passes).same_live ∙ lives)

  -- an entry that is about one space, of the partition or of another one
  told : (entry : Entry) (u : ℕ) (after : List Note) → ((s : ℕ) → (u == s) ≡ false → takes_away entry s ≡ false) → ((s : ℕ) → (u == s) ≡ false → (notes entry.call s && is_noted entry.reply) ≡ false) → (is_in u ≡ true → HasNow entry after) → HasNow entry (cond (is_in u) after ns)
  told entry u after kept unnoted here = at (is_in u) refl
    where
      at : (b : Bool) → is_in u ≡ b → HasNow entry (cond b after ns)
      at true in_it = here in_it
      at false out =
          left_so roster names sites is_in past ns has entry (λ s passes. kept s (differ is_in u s out passes)) (λ s passes. unnoted s (differ is_in u s out passes))

  quiet : (caller r : ℕ) (call : Call) (reply : BookReply) → notes_after roster names sites r call reply ns ≡ ns → ((s : ℕ) → takes_away (entry_of caller r call reply) s ≡ false) → ((s : ℕ) → (notes call s && is_noted reply) ≡ false) → After caller r call reply
  quiet caller r call reply same kept unnoted = at (concerns is_in call reply)
    where
      unmoved : HasNow (entry_of caller r call reply) ns
      unmoved = left_so roster names sites is_in past ns has (entry_of caller r call reply) (λ s passes. kept s) (λ s passes. unnoted s)

      at : (b : Bool) → HasNow (entry_of caller r call reply) (cond b (notes_after roster names sites r call reply ns) ns)
      at true = subst (HasNow (entry_of caller r call reply)) (sym same) unmoved
      at false = unmoved

  step : (caller r : ℕ) (call : Call) (reply : BookReply) → IsStep roster names past (entry_of caller r call reply) → IsTrue (fits call reply) → After caller r call reply
  step caller r Begin Begun is fit = quiet caller r Begin Begun refl no_zero (λ s. refl)
  step caller r (Preempt target) (Ready gift t epoch) is fit = quiet caller r (Preempt target) (Ready gift t epoch) refl no_zero (λ s. refl)
  step caller r (Preempt target) Nothing is fit = quiet caller r (Preempt target) Nothing refl no_zero (λ s. refl)
  step caller r (Select s t) (Url gift gone) is fit = gives_way (entry_of caller r (Select s t) (Url gift gone)) gift gone is refl (λ n. refl) (λ n. refl)
  step caller r (Select s t) (Cached gift) is fit = quiet caller r (Select s t) (Cached gift) refl no_zero (λ n. refl)
  step caller r (Select s t) Default is fit = quiet caller r (Select s t) Default refl no_zero (λ n. refl)
  step caller r (Select s t) (Follow p) is fit = quiet caller r (Select s t) (Follow p) refl no_zero (λ n. refl)
  step caller r (Select s t) (Lead p o) is fit = quiet caller r (Select s t) (Lead p o) refl no_zero (λ n. refl)
  step caller r (Reject u o) Removed is fit =
      told (entry_of caller r (Reject u o) Removed) u (without u ns) (λ s other. rejected_only u s ∙ other) (λ s other. refl)
      (λ in_it. goes roster names sites is_in past ns has (entry_of caller r (Reject u o) Removed) u (rejected_only u) (λ n. refl))
  step caller r (Reject u o) (Kept n) is fit =
      quiet caller r (Reject u o) (Kept n) refl (λ s. no_space ((u == s) && false) s (and_false (u == s))) (λ m. refl)
  step caller r (Renew gift t) Renewed is fit = quiet caller r (Renew gift t) Renewed refl no_zero (λ m. refl)
  step caller r (Renew gift t) (Kept n) is fit = quiet caller r (Renew gift t) (Kept n) refl no_zero (λ m. refl)
  step caller r (Answer p x t) (Given gift gone) is fit = gives_way (entry_of caller r (Answer p x t) (Given gift gone)) gift gone is refl (λ n. refl) (λ n. refl)
  step caller r (Answer p x t) Cancelled is fit = quiet caller r (Answer p x t) Cancelled refl no_zero (λ m. refl)
  step caller r (Lose p loss) (Lost told) is fit = quiet caller r (Lose p loss) (Lost told) refl no_zero (λ m. refl)
  step caller r (Take p) (Gave gift) is fit = quiet caller r (Take p) (Gave gift) refl no_zero (λ m. refl)
  step caller r (Take p) Cancelled is fit = quiet caller r (Take p) Cancelled refl no_zero (λ m. refl)
  step caller r (Take p) (Lost told) is fit = quiet caller r (Take p) (Lost told) refl no_zero (λ m. refl)
  step caller r (Notes gift) Noted is fit =
      told entry gift.space (added roster (record { space = gift.space; site = sites gift.space; request = r; target = target_of names gift.space }) ns) (λ s other. no_zero s) (λ s other. and_yes (gift.space == s) ∙ other)
      (λ in_it. noted roster names sites is_in past ns has entry gift.space in_it (noted_lives past gift (Kept _) is.1 (λ same. cc)) (and_right (was_told past r gift) (may_note names gift.space) (and_right _ _ is.0)) no_zero (λ s. and_yes (gift.space == s)))
    where
      entry : Entry
      entry = entry_of caller r (Notes gift) Noted

      and_yes : (b : Bool) → (b && true) ≡ b
      and_yes true = refl
      and_yes false = refl
  step caller r (Notes gift) (Kept n) is fit = quiet caller r (Notes gift) (Kept n) refl no_zero (λ s. and_false (gift.space == s))
  step caller r End Ended is fit = quiet caller r End Ended refl no_zero (λ m. refl)
  step caller r call reply is fit = absurd (false≢true fit)

  pub keeps_dirs : (entry : Entry) → IsStep roster names past entry → HasNow entry (notes_told roster names sites is_in entry.request entry.call entry.reply ns)
  keeps_dirs entry is = step entry.caller entry.request entry.call entry.reply is is.2
