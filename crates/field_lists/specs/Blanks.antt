-- SP and HTAB at the ends of a text.
use Rattle.std.specs.Prelude.{ℕ, ◌==◌, ◌||◌, Bool, List, [], ◌∷◌, drop, if◌then◌else◌}
use Rattle.std.specs.List.{prefix_len}

-- SP or HTAB
abbrev pub is_blank : ℕ → Bool
is_blank b = b == 32 || b == 9

-- without the blanks in front
abbrev pub trim_start : List ℕ → List ℕ
trim_start bytes = drop (prefix_len is_blank bytes) bytes

-- a byte before what is kept behind it; a blank with nothing kept behind it goes
abbrev pub keep_unless_blank : ℕ → List ℕ → List ℕ
keep_unless_blank b [] = if is_blank b then [] else b ∷ []
keep_unless_blank b (c ∷ bytes) = b ∷ c ∷ bytes

-- without the blanks at the end
abbrev pub trim_end : List ℕ → List ℕ
trim_end [] = []
trim_end (b ∷ bytes) = keep_unless_blank b (trim_end bytes)
