-- The elements of lists (RFC 7230, section 7).
use Rattle.std.specs.Prelude.{ℕ, ◌==◌, List, map, filter, length, nat_lt}
use Rattle.std.specs.List.{flat_map, slice_split}
use Rattle.field_lists.specs.Blanks.{trim_start, trim_end}

-- pieces without the blanks at their ends; empty ones are dropped
abbrev pub of_pieces : List (List ℕ) → List (List ℕ)
of_pieces pieces = filter (λ e. nat_lt 0 (length e)) (map (λ e. trim_end (trim_start e)) pieces)

-- the elements of a value: its pieces between commas
abbrev pub elements_of : List ℕ → List (List ℕ)
elements_of value = of_pieces (slice_split (λ b. b == 44) value)

-- the elements of the values of several fields, in order
abbrev pub elements : List (List ℕ) → List (List ℕ)
elements values = flat_map elements_of values
