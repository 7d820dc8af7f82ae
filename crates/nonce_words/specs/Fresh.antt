-- No count of a nonce is drawn twice.
use Rattle.std.specs.Prelude.{◌≡◌, ℕ, ◌≤◌, ◌&&◌, ◌==◌, nat_lt, nat_le, if◌then◌else◌, List, count_by, Contains}
use Rattle.nonce_words.specs.declared.draw.NonceDraw.{NonceDraw}

-- how many of the draws are of the nonce
abbrev pub draws_of : List NonceDraw → ℕ → ℕ
draws_of draws nonce = count_by (λ d. d.nonce == nonce) draws

-- how many of the draws gave this count of the nonce
abbrev pub times_given : List NonceDraw → ℕ → ℕ → ℕ
times_given draws nonce count = count_by (λ d. d.nonce == nonce && d.count == count) draws

-- 1 where the count is one of 1 to k, and else 0
abbrev pub once_up_to : ℕ → ℕ → ℕ
once_up_to k count = if nat_lt 0 count && nat_le count k then 1 else 0

-- the counts of each nonce are 1 to the number of its draws, each once; its epochs do not fall as its counts rise; and no epoch is above the one that was made
pub record IsFresh (draws : List NonceDraw) (made : ℕ → ℕ) : Type 0 where
  pub once : (nonce count : ℕ) → times_given draws nonce count ≡ once_up_to (draws_of draws nonce) count
  pub rising : (d e : NonceDraw) → Contains draws d → Contains draws e → d.nonce ≡ e.nonce → d.count ≤ e.count → d.epoch ≤ e.epoch
  pub bound : (d : NonceDraw) → Contains draws d → d.epoch ≤ made d.nonce
