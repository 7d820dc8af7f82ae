-- Credentials name what they were written of.
use Rattle.std.proofs.Common.{◌≡◌, ℕ, ◌+◌, ◌==◌, ◌<◌, ◌≤◌, ◌^◌, suc, zero, Bool, true, false, List, [], ◌∷◌, ◌++◌, length, take, drop, codes, bytes_eq, Option, Some, None, Ok, Err, if◌then◌else◌, refl, ap, ◌∙◌, arith, append_assoc, length-append}
use Rattle.std.proofs.lemmas.Grind.{common_steps}
use Rattle.std.proofs.lemmas.Nat.{from_be_bytes-to_be_bytes_4}
use Rattle.std.specs.Int.{w32, to_be_bytes}
use Rattle.hex.specs.Hex.{lower_digits, decode_sized, IsBytes}
use Rattle.hex.proofs.HexLemmas.{length-encode_with, decode_sized-encode_lower}
use Rattle.auth_text.specs.Login.{Login}
use Rattle.auth_text.specs.Quoted.{behind, closing, if_closed, quoted, quoted_text}
use Rattle.auth_text.specs.declared.quoted.QuoteFault.TheVariants.{NotQuoted}
use Rattle.auth_text.proofs.QuotedLemmas.{quoted_again}
use Rattle.digest_handler.specs.Credentials.{algorithm_name, count_text, response, first_fields, digest_credentials}
use Rattle.spaces.specs.declared.roster.Method.{Method}
use Rattle.spaces.specs.declared.terms.Algorithm.{Algorithm}
use Rattle.wire_head.specs.HeadLines.{behind_name}
use Rattle.origin_sim.specs.Named.{next_value, count_of, named_last, named_behind, named_between, named_in, named}
use Rattle.origin_sim.specs.Judging.{terms_with}

-- what was written behind a name stands behind it
front_is : (name rest : List ℕ) → take (length name) (name ++ rest) ≡ name
front_is name rest = grind (arith, common_steps)

rest_is : (name rest : List ℕ) → drop (length name) (name ++ rest) ≡ rest
rest_is name rest = grind (arith, common_steps)

pub same_bytes : (x : List ℕ) → bytes_eq x x ≡ true
same_bytes [] = refl
same_bytes (b ∷ x) = grind (arith, same_bytes x)

behind_back : (name rest : List ℕ) → behind_name name (name ++ rest) ≡ Some rest
behind_back name rest = rw (front_is name rest, rest_is name rest, same_bytes name) refl

-- a value that was written behind a name is the next one, and the rest stands behind it
value_back : (name value rest : List ℕ)
    → next_value name (name ++ (quoted_text value ++ rest)) ≡ Some (value, length name + length (quoted_text value))
value_back name value rest = rw (behind_back name (quoted_text value ++ rest), quoted_again value rest) refl

value_gone : (name value rest : List ℕ)
    → drop (length name + length (quoted_text value)) (name ++ (quoted_text value ++ rest)) ≡ rest
value_gone name value rest =
    rw (← append_assoc name (quoted_text value) rest, ← length-append name (quoted_text value)) (rest_is (name ++ quoted_text value) rest)

-- the count
bytes_of : (n : ℕ) → IsBytes (to_be_bytes w32 n)
bytes_of n zero = omega arith
bytes_of n (suc zero) = omega arith
bytes_of n (suc (suc zero)) = omega arith
bytes_of n (suc (suc (suc zero))) = omega arith
bytes_of n (suc (suc (suc (suc i)))) = omega arith

count_len : (n : ℕ) → length (count_text n) ≡ 8
count_len n = length-encode_with lower_digits (to_be_bytes w32 n)

count_back : (n : ℕ) → n < 2 ^ 32 → count_of (decode_sized (count_text n) 4) ≡ Some n
count_back n fits =
    ap count_of (decode_sized-encode_lower (to_be_bytes w32 n) 4 refl (bytes_of n)) ∙ ap Some (from_be_bytes-to_be_bytes_4 n fits)

count_front : (n : ℕ) (rest : List ℕ) → take 8 (count_text n ++ rest) ≡ count_text n
count_front n rest = rw (← count_len n) (front_is (count_text n) rest)

count_gone : (n : ℕ) (rest : List ℕ) → drop 8 (count_text n ++ rest) ≡ rest
count_gone n rest = rw (← count_len n) (rest_is (count_text n) rest)

-- the text of credentials from each field on

abbrev from_count : ℕ → List ℕ → List ℕ
from_count count cnonce = count_text count ++ (codes ", cnonce=" ++ (quoted_text cnonce ++ []))

abbrev from_response : List ℕ → ℕ → List ℕ → List ℕ
from_response answer count cnonce =
    codes ", response=" ++ (quoted_text answer ++ (codes ", qop=auth, nc=" ++ from_count count cnonce))

abbrev from_uri : List ℕ → List ℕ → List ℕ → ℕ → List ℕ → List ℕ
from_uri uri algorithm answer count cnonce =
    codes ", uri=" ++ (quoted_text uri ++ (codes ", algorithm=" ++ (algorithm ++ from_response answer count cnonce)))

abbrev from_realm : List ℕ → List ℕ → List ℕ → List ℕ → List ℕ → ℕ → List ℕ → List ℕ
from_realm realm nonce uri algorithm answer count cnonce =
    codes ", realm=" ++ (quoted_text realm ++ (codes ", nonce=" ++ (quoted_text nonce ++ from_uri uri algorithm answer count cnonce)))

-- what is named from each field on

last_back : (nonce : List ℕ) (count : ℕ) (cnonce : List ℕ) → count < 2 ^ 32
    → named_last nonce (from_count count cnonce) ≡ Some (record { nonce = nonce; count = count; cnonce = cnonce })
last_back nonce count cnonce fits =
    let rest = codes ", cnonce=" ++ (quoted_text cnonce ++ []) in
    rw (count_front count rest, count_back count fits, count_gone count rest, value_back (codes ", cnonce=") cnonce []) refl

response_back : (nonce answer : List ℕ) (count : ℕ) (cnonce : List ℕ) → count < 2 ^ 32
    → named_behind nonce (from_response answer count cnonce) ≡ Some (record { nonce = nonce; count = count; cnonce = cnonce })
response_back nonce answer count cnonce fits =
    let rest = from_count count cnonce in
    rw (value_back (codes ", response=") answer (codes ", qop=auth, nc=" ++ rest), value_gone (codes ", response=") answer (codes ", qop=auth, nc=" ++ rest))
    (last_back nonce count cnonce fits)

uri_back : (algorithm nonce uri answer : List ℕ) (count : ℕ) (cnonce : List ℕ) → count < 2 ^ 32
    → named_between algorithm nonce (from_uri uri algorithm answer count cnonce) ≡ Some (record { nonce = nonce; count = count; cnonce = cnonce })
uri_back algorithm nonce uri answer count cnonce fits =
    let last = from_response answer count cnonce in
    let rest = codes ", algorithm=" ++ (algorithm ++ last) in
    rw (
      value_back (codes ", uri=") uri rest,
      value_gone (codes ", uri=") uri rest,
      behind_back algorithm last,
    ) (response_back nonce answer count cnonce fits)

realm_back : (algorithm realm nonce uri answer : List ℕ) (count : ℕ) (cnonce : List ℕ) → count < 2 ^ 32
    → named_in algorithm (from_realm realm nonce uri algorithm answer count cnonce) ≡ Some (record { nonce = nonce; count = count; cnonce = cnonce })
realm_back algorithm realm nonce uri answer count cnonce fits =
    let last = from_uri uri algorithm answer count cnonce in
    let rest = codes ", nonce=" ++ (quoted_text nonce ++ last) in
    rw (
      value_back (codes ", realm=") realm rest,
      value_gone (codes ", realm=") realm rest,
      value_back (codes ", nonce=") nonce last,
      value_gone (codes ", nonce=") nonce last,
    ) (uri_back algorithm nonce uri answer count cnonce fits)

fields_back : (algorithm user realm nonce uri answer : List ℕ) (count : ℕ) (cnonce : List ℕ) → count < 2 ^ 32
    → named algorithm (codes "Digest username=" ++ (quoted_text user ++ from_realm realm nonce uri algorithm answer count cnonce))
    ≡ Some (record { nonce = nonce; count = count; cnonce = cnonce })
fields_back algorithm user realm nonce uri answer count cnonce fits =
    let rest = from_realm realm nonce uri algorithm answer count cnonce in
    rw (value_back (codes "Digest username=") user rest, value_gone (codes "Digest username=") user rest)
    (realm_back algorithm realm nonce uri answer count cnonce fits)

-- the parts of credentials, one behind the other
shape : (d e s n0 v0 n1 v1 n2 v2 n3 v3 a algorithm n4 v4 q count n5 v5 : List ℕ)
    → (d ++ ((n0 ++ e ++ v0) ++ s ++ (n1 ++ e ++ v1) ++ s ++ (n2 ++ e ++ v2) ++ s ++ (n3 ++ e ++ v3))
    ++ (a ++ algorithm) ++ s ++ (n4 ++ e ++ v4) ++ [] ++ (q ++ count ++ s ++ (n5 ++ e ++ v5)) ++ [])
    ≡ (d ++ (n0 ++ (e ++ (v0 ++ (s ++ (n1 ++ (e ++ (v1 ++ (s ++ (n2 ++ (e ++ (v2 ++ (s ++ (n3 ++ (e ++ (v3
    ++ (a ++ (algorithm ++ (s ++ (n4 ++ (e ++ (v4 ++ (q ++ (count ++ (s ++ (n5 ++ (e ++ (v5 ++ []))))))))))))))))))))))))))))
shape d e s n0 v0 n1 v1 n2 v2 n3 v3 a algorithm n4 v4 q count n5 v5 = simp append_assoc refl

-- what a client writes names the nonce, the count and its own nonce
pub named_again : (realm : List ℕ) (algorithm : Algorithm) (nonce : List ℕ) (login : Login) (method : Method) (uri : List ℕ)
    (count : ℕ) (cnonce : List ℕ) → count < 2 ^ 32
    → named (algorithm_name algorithm) (digest_credentials (terms_with realm algorithm nonce) login method uri count cnonce)
    ≡ Some (record { nonce = nonce; count = count; cnonce = cnonce })
unfolding first_fields
named_again realm algorithm nonce login method uri count cnonce fits =
    let answer = response (terms_with realm algorithm nonce) login method uri count cnonce in
    ap (named (algorithm_name algorithm)) (shape (codes "Digest ") (codes "=") (codes ", ") (codes "username") (quoted_text login.user)
    (codes "realm") (quoted_text realm) (codes "nonce") (quoted_text nonce) (codes "uri") (quoted_text uri) (codes ", algorithm=")
    (algorithm_name algorithm) (codes "response") (quoted_text answer) (codes ", qop=auth, nc=") (count_text count)
    (codes "cnonce") (quoted_text cnonce))
    ∙ fields_back (algorithm_name algorithm) login.user realm nonce uri answer count cnonce fits

-- a quoted string is within the text that it was read from
behind_within : (front : List ℕ) (n k : ℕ) (found : Option (List ℕ × ℕ)) (x : List ℕ × ℕ)
    → ((y : List ℕ × ℕ) → found ≡ Some y → y.1 ≤ k) → behind front n found ≡ Some x → x.1 ≤ n + k
behind_within front n k None x within is = cc is
behind_within front n k (Some y) x within is =
    let below : y.1 ≤ k = within y refl in
    grind (arith, below, is)

step_within : (p q : Bool) (b k : ℕ) (escaped bare : Option (List ℕ × ℕ)) (x : List ℕ × ℕ)
    → ((y : List ℕ × ℕ) → escaped ≡ Some y → y.1 ≤ k) → ((y : List ℕ × ℕ) → bare ≡ Some y → y.1 ≤ k)
    → (if p then behind [] 1 escaped else (if q then Some ([], 1) else behind (b ∷ []) 1 bare)) ≡ Some x → x.1 ≤ 1 + k
step_within true q b k escaped bare x in_escaped in_bare is = behind_within [] 1 k escaped x in_escaped is
step_within false true b k escaped bare x in_escaped in_bare is = grind (arith, is)
step_within false false b k escaped bare x in_escaped in_bare is = behind_within (b ∷ []) 1 k bare x in_bare is

closing_within : (escaped : Bool) (bytes : List ℕ) (x : List ℕ × ℕ) → closing escaped bytes ≡ Some x → x.1 ≤ length bytes
closing_within escaped [] x is = cc is
closing_within true (b ∷ bytes) x is =
    let below : x.1 ≤ 1 + length bytes = behind_within (b ∷ []) 1 (length bytes) (closing false bytes) x (closing_within false bytes) is in
    omega (arith, below)
closing_within false (b ∷ bytes) x is =
    let below : x.1 ≤ 1 + length bytes =
    step_within (b == 92) (b == 34) b (length bytes) (closing true bytes) (closing false bytes) x (closing_within true bytes) (closing_within false bytes) is in
    omega (arith, below)

if_within : (p : Bool) (k : ℕ) (found : Option (List ℕ × ℕ)) (x : List ℕ × ℕ) → ((y : List ℕ × ℕ) → found ≡ Some y → y.1 ≤ k)
    → (if p then if_closed found else Err NotQuoted) ≡ Ok x → x.1 ≤ 1 + k
if_within false k found x within is = cc is
if_within true k None x within is = cc is
if_within true k (Some y) x within is =
    let below : y.1 ≤ k = within y refl in
    grind (arith, below, is)

pub quoted_within : (text : List ℕ) (x : List ℕ × ℕ) → quoted text ≡ Ok x → x.1 ≤ length text
quoted_within [] x is = cc is
quoted_within (b ∷ bytes) x is =
    let below : x.1 ≤ 1 + length bytes = if_within (b == 34) (length bytes) (closing false bytes) x (closing_within false bytes) is in
    omega (arith, below)
