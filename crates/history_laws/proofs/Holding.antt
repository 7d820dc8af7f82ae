-- What a space holds, and the directories that are noted for it.
use Rattle.std.proofs.Common.{◌≡◌, ℕ, suc, ◌≤◌, Bool, true, false, not, ◌&&◌, ◌||◌, cond, List, [], ◌∷◌, ◌++◌, length, refl, ap, sym, subst, ◌∙◌, arith, Option, Some, None, drop, length-drop, length-append}
use Rattle.std.specs.Prelude.{All, AllPairs, IsTrue, is_some, filter, nat_lt}
use Rattle.std.specs.List.{list_any}
use Rattle.std.proofs.lemmas.Bool.Decides.{nat_tests}
use Rattle.std.proofs.lemmas.Bool.{false≢true}
use Rattle.std.proofs.lemmas.List.Elements.{All-nil, All-cons, All-head, All-tail, All-filter, All-drop, filter_passes}
use Rattle.std.proofs.lemmas.List.Kept.{AllPairs-filter}
use Rattle.std.proofs.lemmas.List.Quantifiers.{all_pairs_push}
use Rattle.std.proofs.lemmas.List.Sums.{length-filter, count_by-le-length}
use Rattle.spaces.specs.Paths.{dir_of, covers}
use Rattle.spaces.specs.declared.roster.Roster.{Roster}
use Rattle.auth_events.specs.declared.journal.Gift.{Gift}
use Rattle.auth_events.proofs.Numbers.{is_not}
use Rattle.auth_events.specs.declared.journal.Entry.{Entry}
use Rattle.auth_events.specs.Tables.{Tables}
use Rattle.auth_events.specs.Past.{current, live, gives, takes_away, gift_given, is_of}
use Rattle.auth_events.specs.Book.{NotedDir, with_dir, with_room, dirs, notes, is_noted, path_of, target_of}
use Rattle.history_laws.specs.Laws.{WasGivenAndKept, NeitherCovers, AreFewAndApart}

-- one entry more, and what the space holds
pub current_taken : (entry : Entry) (past : List Entry) (s : ℕ) → IsTrue (takes_away entry s) → current (entry ∷ past) s ≡ None
current_taken entry past s taken =
    ap (λ b. cond {A = Option Gift} b None (cond (gives entry s) (gift_given entry.reply) (current past s))) taken

pub current_given : (entry : Entry) (past : List Entry) (s : ℕ) → takes_away entry s ≡ false → IsTrue (gives entry s) → current (entry ∷ past) s ≡ gift_given entry.reply
current_given entry past s kept given =
    ap (λ b. cond {A = Option Gift} b None (cond (gives entry s) (gift_given entry.reply) (current past s))) kept
    ∙ ap (λ b. cond b (gift_given entry.reply) (current past s)) given

pub current_kept : (entry : Entry) (past : List Entry) (s : ℕ) → takes_away entry s ≡ false → gives entry s ≡ false → current (entry ∷ past) s ≡ current past s
current_kept entry past s kept given =
    ap (λ b. cond {A = Option Gift} b None (cond (gives entry s) (gift_given entry.reply) (current past s))) kept
    ∙ ap (λ b. cond b (gift_given entry.reply) (current past s)) given

some_of_is_of : (gift : Option Gift) (s : ℕ) → IsTrue (is_of gift s) → IsTrue (is_some gift)
some_of_is_of None s is = absurd (false≢true is)
some_of_is_of (Some gift) s is = refl

-- LIVE SPACES

pub given_and_kept : (past : List Entry) (s : ℕ) → IsTrue (live past s) → (w : WasGivenAndKept past s) × (current past s ≡ gift_given w.giving.reply)
given_and_kept [] s lives = absurd (false≢true lives)
given_and_kept (entry ∷ past) s lives = at (takes_away entry s) refl (gives entry s) refl lives (λ before. given_and_kept past s before)
  where
    held : Bool → Bool → Option Gift
    held a b = cond a None (cond b (gift_given entry.reply) (current past s))

    at : (a : Bool) → takes_away entry s ≡ a → (b : Bool) → gives entry s ≡ b → IsTrue (is_some (held a b)) → (IsTrue (live past s) → (w : WasGivenAndKept past s) × (current past s ≡ gift_given w.giving.reply)) → (w : WasGivenAndKept (entry ∷ past) s) × (held a b ≡ gift_given w.giving.reply)
    at true taken b given some before = absurd (false≢true some)
    at false taken true given some before =
        (record { later = []; giving = entry; earlier = past; order = refl; given = given; kept = All-cons (λ e. takes_away e s ≡ false) entry [] taken (All-nil (λ e. takes_away e s ≡ false)) }, refl)
    at false taken false given some before =
        let w = before some in (
          record {
            later = entry ∷ w.0.later;
            giving = w.0.giving;
            earlier = w.0.earlier;
            order = ap (λ es. entry ∷ es) w.0.order;
            given = w.0.given;
            kept = All-cons (λ e. takes_away e s ≡ false) entry (w.0.later ++ w.0.giving ∷ []) taken w.0.kept;
          },
          w.1,
        )

live_since : (later : List Entry) (giving : Entry) (earlier : List Entry) (s : ℕ) → IsTrue (gives giving s) → All (λ e. takes_away e s ≡ false) (later ++ giving ∷ []) → IsTrue (live (later ++ giving ∷ earlier) s)
live_since [] giving earlier s given kept =
    ap is_some (current_given giving earlier s (All-head (λ e. takes_away e s ≡ false) giving [] kept) given) ∙ some_of_is_of (gift_given giving.reply) s given
live_since (entry ∷ later) giving earlier s given kept =
    at (gives entry s) refl (live_since later giving earlier s given (All-tail (λ e. takes_away e s ≡ false) entry (later ++ giving ∷ []) kept))
  where
    before : List Entry
    before = later ++ giving ∷ earlier

    at : (b : Bool) → gives entry s ≡ b → IsTrue (live before s) → IsTrue (live (entry ∷ before) s)
    at true gave lives =
        ap is_some (current_given entry before s (All-head (λ e. takes_away e s ≡ false) entry (later ++ giving ∷ []) kept) gave) ∙ some_of_is_of (gift_given entry.reply) s gave
    at false gave lives =
        ap is_some (current_kept entry before s (All-head (λ e. takes_away e s ≡ false) entry (later ++ giving ∷ []) kept) gave) ∙ lives

pub live_from : (past : List Entry) (s : ℕ) → WasGivenAndKept past s → IsTrue (live past s)
live_from past s w = subst (λ es. IsTrue (live es s)) (sym w.order) (live_since w.later w.giving w.earlier s w.given w.kept)

-- DIRECTORIES

AllPairs-tail : (x : NotedDir) (xs : List NotedDir) → AllPairs NeitherCovers (x ∷ xs) → AllPairs NeitherCovers xs
AllPairs-tail x xs pairs = λ i j d before within. pairs (suc i) (suc j) d (omega arith) (omega arith)

room_apart : (ds : List NotedDir) → AllPairs NeitherCovers ds → AllPairs NeitherCovers (with_room ds)
room_apart ds pairs = at (nat_lt (length ds) 10) ds pairs
  where
    at : (b : Bool) (xs : List NotedDir) → AllPairs NeitherCovers xs → AllPairs NeitherCovers (cond b xs (drop 1 xs))
    at true xs all = all
    at false [] all = all
    at false (x ∷ xs) all = AllPairs-tail x xs all

room_all : (P : NotedDir → Type 0) (ds : List NotedDir) → All P ds → All P (with_room ds)
room_all P ds all = at (nat_lt (length ds) 10)
  where
    at : (b : Bool) → All P (cond b ds (drop 1 ds))
    at true = all
    at false = All-drop P 1 ds all

room_few : (ds : List NotedDir) → length ds ≤ 10 → length (with_room ds) ≤ 9
room_few ds few = at (nat_lt (length ds) 10) refl
  where
    at : (b : Bool) → nat_lt (length ds) 10 ≡ b → length (cond b ds (drop 1 ds)) ≤ 9
    at true less = grind (arith, nat_tests)
    at false more = omega (arith, length-drop 1 ds)

none_of : (p : NotedDir → Bool) (ds : List NotedDir) → list_any p ds ≡ false → All (λ d. p d ≡ false) ds
none_of p [] none = All-nil (λ d. p d ≡ false)
none_of p (d ∷ ds) none = at (p d) refl none (λ rest. none_of p ds rest)
  where
    at : (b : Bool) → p d ≡ b → (b || list_any p ds) ≡ false → (list_any p ds ≡ false → All (λ e. p e ≡ false) ds) → All (λ e. p e ≡ false) (d ∷ ds)
    at true is rest before = absurd (false≢true (sym rest))
    at false is rest before = All-cons (λ e. p e ≡ false) d ds is (before rest)

abbrev uncovered : NotedDir → List NotedDir → List NotedDir
uncovered noted ds = filter (λ held. not (covers noted.dir held.dir)) ds

with_dir_fits : (noted : NotedDir) (ds : List NotedDir) → AreFewAndApart ds → AreFewAndApart (with_dir noted ds)
with_dir_fits noted ds fit = at (list_any (λ held. covers held.dir noted.dir) ds) refl
  where
    at : (b : Bool) → list_any (λ held. covers held.dir noted.dir) ds ≡ b → AreFewAndApart (cond b ds (with_room (uncovered noted ds) ++ noted ∷ []))
    at true is = fit
    at false is =
        let over : All (λ held. covers held.dir noted.dir ≡ false) (with_room (uncovered noted ds)) =
        room_all (λ held. covers held.dir noted.dir ≡ false) (uncovered noted ds) (All-filter (λ held. not (covers noted.dir held.dir)) (λ held. covers held.dir noted.dir ≡ false) ds (none_of (λ held. covers held.dir noted.dir) ds is)) in
        let under : All (λ held. not (covers noted.dir held.dir) ≡ true) (with_room (uncovered noted ds)) =
        room_all (λ held. not (covers noted.dir held.dir) ≡ true) (uncovered noted ds) (filter_passes (λ held. not (covers noted.dir held.dir)) ds) in
        let short : length (uncovered noted ds) ≤ 10 = omega (arith, fit.few, length-filter (λ held. not (covers noted.dir held.dir)) ds, count_by-le-length (λ held. not (covers noted.dir held.dir)) ds) in
        record {
          few = omega (arith, room_few (uncovered noted ds) short, length-append (with_room (uncovered noted ds)) (noted ∷ []));
          apart =
              all_pairs_push NeitherCovers (with_room (uncovered noted ds)) noted
              (room_apart (uncovered noted ds) (AllPairs-filter NeitherCovers (λ held. not (covers noted.dir held.dir)) ds fit.apart))
              (λ k d within. (over k d within, is_not _ (under k d within)));
        }

no_dirs : AreFewAndApart []
no_dirs = record { few = omega arith; apart = λ i j d before within. absurd (omega arith) }

pub dirs_fit : (roster : Roster) (names : Tables) (past : List Entry) (s : ℕ) → AreFewAndApart (dirs roster names past s)
dirs_fit roster names [] s = no_dirs
dirs_fit roster names (entry ∷ past) s = at (takes_away entry s) (notes entry.call s && is_noted entry.reply) (dirs_fit roster names past s)
  where
    noted : NotedDir
    noted = record { dir = dir_of (path_of roster entry.request (target_of names s)); place = length past }

    at : (a b : Bool) → AreFewAndApart (dirs roster names past s) → AreFewAndApart (cond a [] (cond b (with_dir noted (dirs roster names past s)) (dirs roster names past s)))
    at true b before = no_dirs
    at false true before = with_dir_fits noted (dirs roster names past s) before
    at false false before = before
