-- An index of directories as the list of its notes, the earliest first.
use Rattle.std.specs.Prelude.{ℕ, ◌≤◌, Bool, not, ◌==◌, ◌&&◌, ◌||◌, nat_lt, List, [], ◌∷◌, ◌++◌, length, filter, fold, count_by, Option, None, Some, option_map, unwrap_or, if◌then◌else◌}
use Rattle.std.specs.List.{list_any}
use Rattle.spaces.specs.Paths.{covers, dir_of}
use Rattle.spaces.specs.declared.roster.Roster.{Roster}
use Rattle.auth_events.specs.Book.{path_of}
use Rattle.path_lookup.specs.declared.index.Note.{Note}

-- what an index is seen as
pub record Index : Type 0 where
  -- there is room for so many spaces of ten directories each
  pub spaces : ℕ
  pub notes : List Note

-- the directory that the note is of
abbrev pub dir_at : Roster → Note → List ℕ
dir_at roster note = dir_of (path_of roster note.request note.target)

-- the note is of the space
abbrev pub is_of : ℕ → Note → Bool
is_of s note = note.space == s

-- the notes of the other spaces
abbrev pub without : ℕ → List Note → List Note
without s notes = filter (λ note. not (note.space == s)) notes

-- the other one is of the same space, and its directory is covered
abbrev pub covers_it : Roster → Note → Note → Bool
covers_it roster note held = held.space == note.space && covers (dir_at roster note) (dir_at roster held)

-- a directory of the note's space covers the note's
abbrev pub is_covered : Roster → Note → List Note → Bool
is_covered roster note notes =
    list_any (λ held. held.space == note.space && covers (dir_at roster held) (dir_at roster note)) notes

-- without the first note of the space
abbrev pub drop_first : ℕ → List Note → List Note
drop_first s [] = []
drop_first s (note ∷ notes) = if note.space == s then notes else note ∷ drop_first s notes

-- of ten directories of the space the first is dropped, so that one more makes ten
abbrev pub with_room : ℕ → List Note → List Note
with_room s notes = if nat_lt (count_by (is_of s) notes) 10 then notes else drop_first s notes

-- with a directory more, unless one covers it; those that it covers are removed
abbrev pub added : Roster → Note → List Note → List Note
added roster note notes =
    if is_covered roster note notes
    then notes
    else with_room note.space (filter (λ held. not (covers_it roster note held)) notes) ++ note ∷ []

-- ROWS

-- the spaces of the notes, each once
abbrev pub rows : List Note → List ℕ
rows [] = []
rows (note ∷ notes) = note.space ∷ filter (λ s. not (s == note.space)) (rows notes)

-- the space has a row, or a row is free
abbrev pub has_free_row : ℕ → List Note → ℕ → Bool
has_free_row spaces notes s = list_any (is_of s) notes || nat_lt (length (rows notes)) spaces

-- there are at most so many rows, and of each at most ten notes
pub record AreWithinRows (spaces : ℕ) (notes : List Note) : Type 0 where
  pub few : length (rows notes) ≤ spaces
  pub ten : (s : ℕ) → count_by (is_of s) notes ≤ 10

-- LOOK-UP

-- the note is of the site, and its directory covers the path
abbrev pub under : Roster → ℕ → List ℕ → Note → Bool
under roster site path note = note.site == site && covers (dir_at roster note) path

-- of the best so far and a later note the better one: the longer directory, and of equal ones the later
abbrev pub better_note : Roster → Option Note → Note → Option Note
better_note roster None note = Some note
better_note roster (Some best) note =
    if nat_lt (length (dir_at roster note)) (length (dir_at roster best)) then Some best else Some note

-- the best note of the site that covers the path
abbrev pub best_note : Roster → ℕ → List ℕ → List Note → Option Note
best_note roster site path notes =
    fold (λ best note. if under roster site path note then better_note roster best note else best) None notes

-- its space, or 0
abbrev pub deepest : Roster → ℕ → List ℕ → List Note → ℕ
deepest roster site path notes = unwrap_or (option_map (λ note. note.space) (best_note roster site path notes)) 0
