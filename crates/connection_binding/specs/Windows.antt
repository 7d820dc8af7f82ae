-- What a read gives to a window.
use Rattle.std.specs.Prelude.{ℕ, ◌≡◌, ◌≤◌, List, [], length}
use Rattle.link_trait.specs.declared.streams.Got.{Got}
use Rattle.link_trait.specs.declared.streams.Got.TheVariants.{Bytes, End, Failed, NoMemory}

abbrev pub filled : Got → ℕ
filled (Bytes n) = n
filled End = 0
filled Failed = 0
filled NoMemory = 0

-- the window has what the read gave
abbrev pub IsFilled : Got → List ℕ → Type 0
IsFilled (Bytes n) bytes = (1 ≤ n) × (length bytes ≡ n)
IsFilled End bytes = bytes ≡ []
IsFilled Failed bytes = bytes ≡ []
IsFilled NoMemory bytes = bytes ≡ []
