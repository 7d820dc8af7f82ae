-- What an index that stands for a history has of a named space: the record of its partition.
use Rattle.std.proofs.Common.{◌≡◌, ℕ, ◌<◌, Bool, true, false, cond, List, [], ◌∷◌, length, refl, ap, sym, subst, ◌∙◌, arith, Option, Some, None}
use Rattle.std.specs.Prelude.{All, IsTrue, is_some, option_map, option_and_then, unwrap_or, bytes_eq, ◌==◌}
use Rattle.std.proofs.lemmas.Bool.Decides.{nat_tests}
use Rattle.std.proofs.lemmas.Bool.{false≢true}
use Rattle.std.proofs.lemmas.List.Elements.{All-head, All-tail}
use Rattle.std.proofs.lemmas.List.Sums.{sum_by-cons}
use Rattle.spaces.specs.declared.roster.Roster.{Roster}
use Rattle.spaces.specs.ProtectionSpaces.{ProtectionSpace}
use Rattle.spaces.specs.Sites.{numbered}
use Rattle.auth_events.specs.declared.journal.Gift.{Gift}
use Rattle.auth_events.specs.declared.journal.Entry.{Entry}
use Rattle.auth_events.specs.Tables.{Tables}
use Rattle.auth_events.specs.Past.{current, evicted, givings, live, spaces_given, terms}
use Rattle.auth_events.specs.Book.{IsLegalPast, is_of_partition, is_rival}
use Rattle.auth_events.proofs.NamedThings.{given_named}
use Rattle.auth_events.proofs.Same.{bytes_refl, number_same}
use Rattle.history_laws.proofs.Rooms.{times, given_once, live_given, once_if}
use Rattle.auth_cache.specs.declared.cache.Held.{Held}
use Rattle.auth_cache.specs.Cached.{held_in, evicted as evicted_from}
use Rattle.auth_cache.specs.Histories.{HasLive, held_after}
use Rattle.auth_cache.proofs.Evictions.{evicts}
use Rattle.auth_book.specs.declared.index.BookIndex.{BookIndex}
use Rattle.auth_book.specs.Parts.{entries_at, part_number, part_of}
use Rattle.auth_book.specs.Indices.{StandsFor, space_row}
use Rattle.auth_book.specs.Replies.{entries_in, evicted_in, held_of, part_in}
use Rattle.auth_book.proofs.PagesOf.{pages_of}

pub all_at : (P : ℕ → Type 0) (s : ℕ) (xs : List ℕ) → All P xs → 0 < times s xs → P s
all_at P s [] all some = absurd (omega arith)
all_at P s (x ∷ xs) all some = at (x == s) refl (λ more. all_at P s xs (All-tail P x xs all) more)
  where
    at : (b : Bool) → (x == s) ≡ b → (0 < times s xs → P s) → P s
    at true same before = subst P (number_same x s same) (All-head P x xs all)
    at false other before = before (omega (arith, some, sum_by-cons (λ y. cond (y == s) 1 0) x xs, ap (λ b. cond {A = ℕ} b 1 0) other))

abbrev pub Named : Tables → ℕ → Type 0
Named names s = IsTrue (is_some (numbered names.spaces s))

-- a named space is one of its partition
pub own_partition : (names : Tables) (s : ℕ) (space : ProtectionSpace) → numbered names.spaces s ≡ Some space → is_of_partition names space.site.partition s ≡ true
own_partition names s space there =
    ap (λ o. unwrap_or (option_map (λ (one : ProtectionSpace). bytes_eq one.site.partition space.site.partition) o) false) there ∙ bytes_refl space.site.partition

module _ (roster : Roster) (names : Tables) (past : List Entry) (legal : IsLegalPast roster names past) where
  -- what was given is named
  pub given_is_named : (s : ℕ) → 0 < givings past s → Named names s
  given_is_named s some =
      all_at (Named names) s (spaces_given past) (given_named roster names (length roster.requests) past (pages_of roster names past legal) legal)
      (omega (arith, given_once roster names past legal s, once_some (givings past s) some))
    where
      once_some : (k : ℕ) → 0 < k → once_if k ≡ 1
      once_some k some = grind (arith, nat_tests)

  pub live_named : (s : ℕ) → IsTrue (live past s) → Named names s
  live_named s lives = given_is_named s (live_given past s lives)

  -- a space without a name holds nothing
  pub unheld : (s : ℕ) → is_some (numbered names.spaces s) ≡ false → current past s ≡ None
  unheld s unnamed = at (current past s) refl
    where
      at : (o : Option Gift) → current past s ≡ o → o ≡ None
      at None is = refl
      at (Some gift) is = absurd (false≢true (sym unnamed ∙ live_named s (ap is_some is)))

  pub held_none : (s : ℕ) → current past s ≡ None → held_after past s ≡ None
  held_none s none = ap (option_map (λ (gift : Gift). record { gift = gift; terms = terms past s })) none

  -- no space is 0
  pub zero_unheld : current past 0 ≡ None
  zero_unheld = unheld 0 refl

  module _ (index : BookIndex) (stands : StandsFor index roster names past) where
    pub part_here : (s : ℕ) (space : ProtectionSpace) → numbered names.spaces s ≡ Some space → part_in index s ≡ part_of index.partitions space.site.partition
    part_here s space there =
        ap (option_and_then (λ row. numbered index.partitions row.partition)) (stands.spaces s ∙ ap (option_map (λ (_ : ProtectionSpace). space_row names index.partitions past s)) there)
        ∙ ap (λ o. numbered index.partitions (unwrap_or (option_map (λ (one : ProtectionSpace). part_number index.partitions one.site.partition) o) 0)) there

    pub no_part : (s : ℕ) → numbered names.spaces s ≡ None → part_in index s ≡ None
    no_part s none =
        ap (option_and_then (λ row. numbered index.partitions row.partition)) (stands.spaces s ∙ ap (option_map (λ (_ : ProtectionSpace). space_row names index.partitions past s)) none)

    -- what is held of a space is what it holds
    pub held_here : (s : ℕ) → held_of index s ≡ held_after past s
    held_here s = at (numbered names.spaces s) refl
      where
        at : (o : Option ProtectionSpace) → numbered names.spaces s ≡ o → held_of index s ≡ held_after past s
        at None none = ap (λ part. held_in (entries_at part) s) (no_part s none) ∙ sym (held_none s (unheld s (ap is_some none)))
        at (Some space) there =
            ap (λ part. held_in (entries_at part) s) (part_here s space there)
            ∙ ((stands.caches space.site.partition).each s ∙ ap (λ b. cond b (held_after past s) None) (own_partition names s space there))

    -- and what goes for it is what the book evicts
    pub goes_here : (s : ℕ) → Named names s → evicted_in index s ≡ evicted (is_rival names s) past s
    goes_here s named = at (numbered names.spaces s) refl named
      where
        at : (o : Option ProtectionSpace) → numbered names.spaces s ≡ o → IsTrue (is_some o) → evicted_in index s ≡ evicted (is_rival names s) past s
        at None none some = absurd (false≢true some)
        at (Some space) there some =
            ap (λ part. unwrap_or (option_map (λ (held : Held). held.gift.space) (evicted_from 32 (entries_at part) s)) 0) (part_here s space there)
            ∙ evicts roster names space.site.partition past legal (entries_at (part_of index.partitions space.site.partition)) (stands.caches space.site.partition) s (own_partition names s space there)

    -- what is said of the cache of any partition holds of that of the space
    pub from_part : (X : Type 0) (s : ℕ) → Named names s → (F : List Held → X) (x : X) → ((p : List ℕ) (xs : List Held) → is_of_partition names p s ≡ true → HasLive (is_of_partition names p) past xs → x ≡ F xs) → x ≡ F (entries_in index s)
    from_part X s named F x each = at (numbered names.spaces s) refl named
      where
        at : (o : Option ProtectionSpace) → numbered names.spaces s ≡ o → IsTrue (is_some o) → x ≡ F (entries_in index s)
        at None none some = absurd (false≢true some)
        at (Some space) there some =
            each space.site.partition (entries_at (part_of index.partitions space.site.partition)) (own_partition names s space there) (stands.caches space.site.partition)
            ∙ sym (ap (λ part. F (entries_at part)) (part_here s space there))
