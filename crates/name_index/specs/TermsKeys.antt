-- Keys that stand for the terms of spaces, and their order.
use Rattle.std.specs.Prelude.{ℕ, ◌≡◌, Bool, true, false, [], is_some, unwrap_or}
use Rattle.std.specs.Cmp.Lexicographic.{slice_cmp}
use Rattle.std.specs.Ordering.{nat_cmp, ordering_then}
use Rattle.std.specs.declared.cmp.Ordering.{Ordering}
use Rattle.spaces.specs.declared.terms.Algorithm.{Algorithm}
use Rattle.spaces.specs.declared.terms.Algorithm.TheVariants.{Md5, Sha256}
use Rattle.spaces.specs.declared.terms.Qop.{Qop}
use Rattle.spaces.specs.declared.terms.Qop.TheVariants.{Auth, Missing}
use Rattle.spaces.specs.declared.terms.Terms.{Terms}
use Rattle.name_index.specs.declared.terms_key.TermsKey.{TermsKey}

-- a number for each algorithm
abbrev pub algorithm_number : Algorithm → ℕ
algorithm_number Md5 = 0
algorithm_number Sha256 = 1

-- a number for each quality of protection
abbrev pub qop_number : Qop → ℕ
qop_number Auth = 0
qop_number Missing = 1

abbrev pub flag_number : Bool → ℕ
flag_number true = 1
flag_number false = 0

-- the key has the number of the space and the parts of the terms
abbrev pub IsKeyOfTerms : TermsKey → ℕ × Terms → Type 0
IsKeyOfTerms key asked = (key.space ≡ asked.0) × (key.algorithm ≡ algorithm_number asked.1.algorithm)
    × (key.said ≡ flag_number asked.1.said) × (key.realm.items ≡ asked.1.realm) × (key.nonce.items ≡ asked.1.nonce)
    × (key.has_opaque ≡ flag_number (is_some asked.1.opaque)) × (key.opaque.items ≡ unwrap_or asked.1.opaque [])
    × (key.qop ≡ qop_number asked.1.qop) × (key.userhash ≡ flag_number asked.1.userhash)

-- keys in order, part by part
abbrev pub terms_cmp : TermsKey → TermsKey → Ordering
terms_cmp a b = ordering_then (nat_cmp a.space b.space) (ordering_then (nat_cmp a.algorithm b.algorithm)
    (ordering_then (nat_cmp a.said b.said) (ordering_then (slice_cmp nat_cmp a.realm.items b.realm.items)
    (ordering_then (slice_cmp nat_cmp a.nonce.items b.nonce.items) (ordering_then (nat_cmp a.has_opaque b.has_opaque)
    (ordering_then (slice_cmp nat_cmp a.opaque.items b.opaque.items)
    (ordering_then (nat_cmp a.qop b.qop) (nat_cmp a.userhash b.userhash))))))))
