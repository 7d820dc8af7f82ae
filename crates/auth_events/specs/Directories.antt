-- Directories that are noted for a space, and which of those that cover a path is the best.
use Rattle.std.specs.Prelude.{ℕ, Bool, not, ◌&&◌, ◌||◌, ◌==◌, nat_lt, if◌then◌else◌, List, [], ◌∷◌, ◌++◌, length, Option, None, Some, filter, drop}
use Rattle.std.specs.List.{list_any}
use Rattle.spaces.specs.Paths.{covers}

-- a directory, and how many entries stood before the one that noted it
pub record NotedDir : Type 0 where
  pub dir : List ℕ
  pub place : ℕ

-- a directory of a space
pub record Found : Type 0 where
  pub space : ℕ
  pub noted : NotedDir

-- of more than ten directories the first is dropped, so that one more makes ten
abbrev pub with_room : List NotedDir → List NotedDir
with_room dirs = if nat_lt (length dirs) 10 then dirs else drop 1 dirs

-- with one directory more, unless one covers it; those that it covers are removed
abbrev pub with_dir : NotedDir → List NotedDir → List NotedDir
with_dir noted dirs =
    if list_any (λ held. covers held.dir noted.dir) dirs
    then dirs
    else with_room (filter (λ held. not (covers noted.dir held.dir)) dirs) ++ noted ∷ []

abbrev pub longer : NotedDir → NotedDir → Bool
longer a b = nat_lt (length b.dir) (length a.dir) || length a.dir == length b.dir && nat_lt b.place a.place

-- of two places that were found the better one: the longer directory, and of equal ones the one that was added last
abbrev pub better : Option Found → Option Found → Option Found
better None b = b
better (Some a) None = Some a
better (Some a) (Some b) = if longer a.noted b.noted then Some a else Some b

-- the best that is found at the things of a list
abbrev pub best_found : {A : Type 0} → (A → Option Found) → List A → Option Found
best_found look [] = None
best_found look (x ∷ xs) = better (look x) (best_found look xs)
