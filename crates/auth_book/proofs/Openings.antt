-- An index at its opening stands for the empty history.
use Rattle.std.proofs.Common.{◌≡◌, ℕ, zero, suc, ◌<◌, ◌≤◌, Bool, true, false, cond, List, [], ◌∷◌, length, replicate, refl, ap, sym, ◌∙◌, arith, Option, Some, None}
use Rattle.std.specs.Prelude.{is_some, slice_get, option_map}
use Rattle.std.proofs.lemmas.List.Elements.{All-nil}
use Rattle.spaces.specs.Sites.{numbered}
use Rattle.spaces.specs.declared.roster.Roster.{Roster}
use Rattle.auth_events.specs.Tables.{no_names}
use Rattle.auth_events.proofs.Numbers.{numbered_in, numbered_suc}
use Rattle.spaces.specs.ProtectionSpaces.{ProtectionSpace}
use Rattle.auth_events.specs.Book.{NotedDir, is_of_partition}
use Rattle.auth_cache.specs.declared.cache.Held.{Held}
use Rattle.auth_cache.specs.Histories.{HasLive}
use Rattle.path_lookup.specs.Histories.{HasDirs}
use Rattle.auth_book.specs.Parts.{entries_at, notes_at, part_of}
use Rattle.auth_book.specs.SiteNumbers.{site_no}

slice_replicated : {A B : Type 0} (xs : List A) (b : B) (k : ℕ) → slice_get (replicate (length xs) b) k ≡ option_map (λ _. b) (slice_get xs k)
slice_replicated [] b k = refl
slice_replicated (x ∷ xs) b zero = refl
slice_replicated (x ∷ xs) b (suc k) = slice_replicated xs b k

-- an item of each thing
pub replicated : {A B : Type 0} (xs : List A) (b : B) (n : ℕ) → numbered (replicate (length xs) b) n ≡ option_map (λ _. b) (numbered xs n)
replicated xs b zero = refl
replicated {A} {B} xs b (suc k) =
    numbered_suc (replicate (length xs) b) k ∙ (slice_replicated xs b k ∙ ap (option_map {T = A} {U = B} (λ _. b)) (sym (numbered_suc xs k)))

slice_within : {B : Type 0} (m : ℕ) (b : B) (k : ℕ) → k < m → slice_get (replicate m b) k ≡ Some b
slice_within zero b k lt = absurd (omega arith)
slice_within (suc m) b zero lt = refl
slice_within (suc m) b (suc k) lt = slice_within m b k (omega arith)

pub filled : {B : Type 0} (m : ℕ) (b : B) (n : ℕ) → 1 ≤ n → n ≤ m → numbered (replicate m b) n ≡ Some b
filled m b zero first last = absurd (omega arith)
filled m b (suc k) first last = numbered_suc (replicate m b) k ∙ slice_within m b k (omega arith)

pub no_items : {A B : Type 0} (f : A → B) (n : ℕ) → numbered {A = B} [] n ≡ option_map f (numbered [] n)
no_items f zero = refl
no_items {A} {B} f (suc k) = numbered_suc {A = B} [] k ∙ sym (ap (option_map f) (numbered_suc {A = A} [] k))

-- without a record nothing is kept
pub no_entries : (p : List ℕ) → entries_at (part_of [] p) ≡ []
no_entries p = refl

pub no_notes : (p : List ℕ) → notes_at (part_of [] p) ≡ []
no_notes p = refl

pub no_live : (p : List ℕ) → HasLive (is_of_partition no_names p) [] []
no_live p = record { each = λ s. none_in (is_of_partition no_names p s); order = λ i j d before within. absurd (omega arith) }
  where
    none_in : (b : Bool) → ◌≡◌ {A = Option Held} None (cond b None None)
    none_in true = refl
    none_in false = refl

pub no_dirs : (roster : Roster) (p : List ℕ) → HasDirs roster no_names (site_no no_names) (is_of_partition no_names p) [] []
no_dirs roster p = record {
  placed = [];
  are = refl;
  each = λ s. none_in (is_of_partition no_names p s);
  order = λ i j d before within. absurd (omega arith);
  before = All-nil _;
  home = All-nil _;
  alive = All-nil _;
  fit = All-nil _;
}
  where
    none_in : (b : Bool) → ◌≡◌ {A = List NotedDir} [] (cond b [] [])
    none_in true = refl
    none_in false = refl

pub none_named : (space : ProtectionSpace) (s : ℕ) → numbered no_names.spaces s ≡ Some space → ⊥
none_named space s is = let range = numbered_in {A = ProtectionSpace} [] s (ap is_some is) in omega (arith, range.0, range.1)
