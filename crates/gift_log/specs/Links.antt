-- Givings that are linked: each with the number of its space's giving before it.
use Rattle.std.specs.Prelude.{◌≡◌, ℕ, ◌+◌, ◌==◌, List, [], ◌∷◌, length, reverse, slice_get, take, Some, unwrap_or, if◌then◌else◌}
use Rattle.gift_log.specs.declared.log.Link.{Link}

-- the number of the space's latest giving, of links from the latest on, or 0
abbrev pub latest_of : List Link → ℕ → ℕ
latest_of [] s = 0
latest_of (link ∷ earlier) s = if link.given.gift.space == s then length earlier + 1 else latest_of earlier s

-- the number that is kept of the space, or 0
abbrev pub kept_at : List ℕ → ℕ → ℕ
kept_at latest s = unwrap_or (slice_get latest s) 0

-- each link has the number of its space's giving before it, and of each space the latest is kept
pub record AreLinked (links : List Link) (latest : List ℕ) : Type 0 where
  pub before : (n : ℕ) (link : Link) → slice_get links n ≡ Some link → link.before ≡ latest_of (reverse (take n links)) link.given.gift.space
  pub newest : (s : ℕ) → kept_at latest s ≡ latest_of (reverse links) s
