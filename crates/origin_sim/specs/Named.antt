-- The nonce, the count and the client's nonce that Digest credentials name (RFC 7616, section 3.4).
use Rattle.std.specs.Prelude.{ℕ, ◌+◌, List, length, take, drop, codes, Option, Some, None, option_map, option_and_then, Result, Ok, Err}
use Rattle.std.specs.Int.{w32, from_be_bytes}
use Rattle.hex.specs.Hex.{decode_sized}
use Rattle.hex.specs.declared.error.FromHexError.{FromHexError}
use Rattle.auth_text.specs.Quoted.{quoted}
use Rattle.auth_text.specs.declared.quoted.QuoteFault.{QuoteFault}
use Rattle.wire_head.specs.HeadLines.{behind_name}
use Rattle.origin_sim.specs.declared.named.Named.{Named}

-- the value, and how many bytes stand for the name and it
abbrev pub with_name : List ℕ → Result (List ℕ × ℕ) QuoteFault → Option (List ℕ × ℕ)
with_name name (Ok x) = Some (x.0, length name + x.1)
with_name name (Err e) = None

-- the quoted string behind a name, and how many bytes stand for both
abbrev pub next_value : List ℕ → List ℕ → Option (List ℕ × ℕ)
next_value name text = option_and_then (λ rest. with_name name (quoted rest)) (behind_name name text)

-- the count of eight hexadecimal digits
abbrev pub count_of : Result (List ℕ) FromHexError → Option ℕ
count_of (Ok bytes) = Some (from_be_bytes w32 bytes)
count_of (Err e) = None

-- the client's nonce behind a count, as the last field
abbrev pub named_with : List ℕ → List ℕ → ℕ → Option Named
named_with nonce text count =
    option_map (λ v. record { nonce = nonce; count = count; cnonce = v.0 }) (next_value (codes ", cnonce=") (drop 8 text))

-- the count, and what stands behind it
abbrev pub named_last : List ℕ → List ℕ → Option Named
named_last nonce text = option_and_then (named_with nonce text) (count_of (decode_sized (take 8 text) 4))

-- the qop, and the fields behind it
abbrev pub named_qop : List ℕ → List ℕ → Option Named
named_qop nonce text = option_and_then (named_last nonce) (behind_name (codes ", qop=auth, nc=") text)

-- the fields behind the algorithm
abbrev pub named_behind : List ℕ → List ℕ → Option Named
named_behind nonce text = option_and_then (λ response. named_qop nonce (drop response.1 text)) (next_value (codes ", response=") text)

-- the fields behind the nonce
abbrev pub named_between : List ℕ → List ℕ → List ℕ → Option Named
named_between algorithm nonce text =
    option_and_then (λ uri. option_and_then (named_behind nonce)
    (option_and_then (behind_name algorithm) (behind_name (codes ", algorithm=") (drop uri.1 text))))
    (next_value (codes ", uri=") text)

-- the fields from the realm on
abbrev pub named_in : List ℕ → List ℕ → Option Named
named_in algorithm text =
    option_and_then (λ realm. option_and_then (λ nonce. named_between algorithm nonce.0 (drop nonce.1 (drop realm.1 text)))
    (next_value (codes ", nonce=") (drop realm.1 text))) (next_value (codes ", realm=") text)

-- what credentials with that algorithm name
abbrev pub named : List ℕ → List ℕ → Option Named
named algorithm credentials =
    option_and_then (λ user. named_in algorithm (drop user.1 credentials)) (next_value (codes "Digest username=") credentials)
