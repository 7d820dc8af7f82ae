-- The records of partitions, by number.
use Rattle.std.specs.Prelude.{◌≡◌, ℕ, is_some, List, [], ◌∷◌, ◌++◌, Option, Some, option_map, unwrap_or, bytes_eq, if◌then◌else◌, Vec}
use Rattle.std.specs.BTreeMap.{BTreeMap, get_by}
use Rattle.std.specs.Cmp.Lexicographic.{slice_cmp}
use Rattle.std.specs.Ordering.{nat_cmp}
use Rattle.std.specs.declared.alloc.Global.{Global}
use Rattle.spaces.specs.Sites.{numbered}
use Rattle.auth_events.specs.Tables.{number_of}
use Rattle.auth_cache.specs.declared.cache.Held.{Held}
use Rattle.path_lookup.specs.declared.index.Note.{Note}
use Rattle.auth_book.specs.declared.partitions.PartRow.{PartRow}

-- the number of the partition's record, or 0
abbrev pub part_number : List PartRow → List ℕ → ℕ
part_number parts partition = unwrap_or (number_of (λ part. bytes_eq part.partition partition) parts) 0

-- the record of the partition
abbrev pub part_of : List PartRow → List ℕ → Option PartRow
part_of parts partition = numbered parts (part_number parts partition)

-- what a cache has, and nothing where there is no record
abbrev pub entries_at : Option PartRow → List Held
entries_at part = unwrap_or (option_map (λ row. row.cache.entries) part) []

-- the directories, and none where there is no record
abbrev pub notes_at : Option PartRow → List Note
notes_at part = unwrap_or (option_map (λ row. row.paths.notes) part) []

-- a record that has nothing yet, with room for 32 live spaces and their directories
abbrev pub new_part : List ℕ → PartRow
new_part partition =
    record { partition = partition; cache = record { bound = 32; entries = [] }; paths = record { spaces = 32; notes = [] } }

-- with a record of the partition, where it has none
abbrev pub with_part : List PartRow → List ℕ → List PartRow
with_part parts partition = if is_some (part_of parts partition) then parts else parts ++ new_part partition ∷ []

-- the number that the map has at a name
abbrev pub number_at : BTreeMap (Vec ℕ Global) ℕ → List ℕ → Option ℕ
number_at numbers name = get_by (λ key. slice_cmp nat_cmp name key.items) numbers

-- the map has the number of each partition's record
abbrev pub HasNumbers : BTreeMap (Vec ℕ Global) ℕ → List PartRow → Type 0
HasNumbers numbers parts =
    (partition : List ℕ) → number_at numbers partition ≡ number_of (λ part. bytes_eq part.partition partition) parts

-- each partition has one record, with room for 32 live spaces and their directories
pub record ArePartRows (parts : List PartRow) : Type 0 where
  pub apart : (a b : PartRow) (i j : ℕ) → numbered parts i ≡ Some a → numbered parts j ≡ Some b → a.partition ≡ b.partition → i ≡ j
  pub bound : (part : PartRow) (i : ℕ) → numbered parts i ≡ Some part → part.cache.bound ≡ 32
  pub room : (part : PartRow) (i : ℕ) → numbered parts i ≡ Some part → part.paths.spaces ≡ 32
