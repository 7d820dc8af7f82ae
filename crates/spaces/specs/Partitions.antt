-- Names of partitions.
use Rattle.std.specs.Prelude.{ℕ, Bool, ◌||◌, ◌&&◌, ◌==◌, nat_le, not, List, length, Result, Ok, Err, if◌then◌else◌}
use Rattle.std.specs.List.{list_all}
use Rattle.std.specs.Char.{is_ascii_lowercase, is_ascii_digit}
use Rattle.spaces.specs.declared.partition.PartitionFault.{PartitionFault}
use Rattle.spaces.specs.declared.partition.PartitionFault.TheVariants.{BadName}

-- `a-z`, `0-9`, `.`, `_` or `-`
abbrev pub is_name_byte : ℕ → Bool
is_name_byte b = is_ascii_lowercase b || is_ascii_digit b || b == 46 || b == 95 || b == 45

-- 1 to 64 such bytes
abbrev pub is_partition : List ℕ → Bool
is_partition name = not (length name == 0) && nat_le (length name) 64 && list_all is_name_byte name

abbrev pub partition : List ℕ → Result (List ℕ) PartitionFault
partition name = if is_partition name then Ok name else Err BadName
