-- The client's nonce.
use Rattle.std.specs.Prelude.{ℕ, List, [], ◌∷◌, ◌++◌, take}
use Rattle.std.specs.Int.{w32, to_be_bytes}
use Rattle.sha2.specs.Sha256.{sha256}
use Rattle.hex.specs.Hex.{encode_lower}
use Rattle.spaces.specs.declared.site.Target.{Target}
use Rattle.spaces.specs.declared.site.Target.TheVariants.{Server, Proxy, Socks}

-- the byte that stands for a target
abbrev pub target_byte : Target → ℕ
target_byte Server = 0
target_byte Proxy = 1
target_byte Socks = 2

-- the first 16 bytes of SHA-256 over the seed, the two numbers and the target, in hexadecimal digits
abbrev pub client_nonce : List ℕ → ℕ → ℕ → Target → List ℕ
client_nonce seed request head target =
    encode_lower (take 16 (sha256 (seed ++ to_be_bytes w32 request ++ to_be_bytes w32 head ++ target_byte target ∷ [])))
