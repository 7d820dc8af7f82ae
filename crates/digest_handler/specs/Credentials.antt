-- Digest credentials (RFC 7616, section 3.4; RFC 2617, section 3.2.2, where there is no qop).
use Rattle.std.specs.Prelude.{ℕ, Bool, List, [], ◌∷◌, ◌++◌, codes, Option, Some, None, if◌then◌else◌}
use Rattle.std.specs.Int.{w32, to_be_bytes}
use Rattle.md5.specs.Md5.{md5}
use Rattle.sha2.specs.Sha256.{sha256}
use Rattle.hex.specs.Hex.{encode_lower}
use Rattle.auth_text.specs.Login.{Login}
use Rattle.auth_text.specs.Quoted.{quoted_text}
use Rattle.spaces.specs.declared.roster.Method.{Method}
use Rattle.spaces.specs.declared.terms.Algorithm.{Algorithm}
use Rattle.spaces.specs.declared.terms.Algorithm.TheVariants.{Md5, Sha256}
use Rattle.spaces.specs.declared.terms.Qop.{Qop}
use Rattle.spaces.specs.declared.terms.Qop.TheVariants.{Auth, Missing}
use Rattle.spaces.specs.declared.terms.Terms.{Terms}
use Rattle.spaces.specs.RequestTargets.{method_name}

abbrev pub algorithm_name : Algorithm → List ℕ
algorithm_name Md5 = codes "MD5"
algorithm_name Sha256 = codes "SHA-256"

-- the digest in lower-case hexadecimal digits: H of the formulas
abbrev pub hex_hash : Algorithm → List ℕ → List ℕ
hex_hash Md5 message = encode_lower (md5 message)
hex_hash Sha256 message = encode_lower (sha256 message)

-- the count in eight lower-case hexadecimal digits
abbrev pub count_text : ℕ → List ℕ
count_text count = encode_lower (to_be_bytes w32 count)

-- three parts with a colon between each two
abbrev pub with_colons : List ℕ → List ℕ → List ℕ → List ℕ
with_colons a b c = a ++ 58 ∷ b ++ 58 ∷ c

-- A1: user ":" realm ":" password
abbrev pub secret_text : Login → List ℕ → List ℕ
secret_text login realm = with_colons login.user realm login.password

-- A2: method ":" uri
abbrev pub request_text : Method → List ℕ → List ℕ
request_text method uri = method_name method ++ 58 ∷ uri

-- what is hashed last, of H(A1) and H(A2)
abbrev pub last_text : Qop → List ℕ → List ℕ → List ℕ → ℕ → List ℕ → List ℕ
last_text Missing nonce a1 a2 count cnonce = with_colons a1 nonce a2
last_text Auth nonce a1 a2 count cnonce =
    with_colons a1 nonce (count_text count) ++ codes ":" ++ cnonce ++ codes ":auth:" ++ a2

-- the response: H of that
abbrev pub response : Terms → Login → Method → List ℕ → ℕ → List ℕ → List ℕ
response terms login method uri count cnonce =
    let a1 = hex_hash terms.algorithm (secret_text login terms.realm) in
    let a2 = hex_hash terms.algorithm (request_text method uri) in
    hex_hash terms.algorithm (last_text terms.qop terms.nonce a1 a2 count cnonce)

-- the user name that is sent: the one given, or H(user ":" realm) where the terms have userhash
abbrev pub sent_user : Terms → List ℕ → List ℕ
sent_user terms user = if terms.userhash then hex_hash terms.algorithm (user ++ 58 ∷ terms.realm) else user

-- name="value"
abbrev pub named : List ℕ → List ℕ → List ℕ
named name value = name ++ codes "=" ++ quoted_text value

-- user name, realm, nonce and uri
unfoldable pub first_fields : Terms → List ℕ → List ℕ → List ℕ
first_fields terms user uri =
    named (codes "username") (sent_user terms user) ++ codes ", " ++ named (codes "realm") terms.realm
    ++ codes ", " ++ named (codes "nonce") terms.nonce ++ codes ", " ++ named (codes "uri") uri

-- the algorithm, where the challenge said it
abbrev pub algorithm_field : Bool → Algorithm → List ℕ
algorithm_field said algorithm = if said then codes ", algorithm=" ++ algorithm_name algorithm else []

-- the opaque, where the challenge had one
abbrev pub opaque_field : Option (List ℕ) → List ℕ
opaque_field None = []
opaque_field (Some opaque) = codes ", " ++ named (codes "opaque") opaque

-- qop, count and client nonce, with qop auth
abbrev pub qop_fields : Qop → ℕ → List ℕ → List ℕ
qop_fields Missing count cnonce = []
qop_fields Auth count cnonce = codes ", qop=auth, nc=" ++ count_text count ++ codes ", " ++ named (codes "cnonce") cnonce

-- userhash=true, where the terms have it
abbrev pub userhash_field : Bool → List ℕ
userhash_field userhash = if userhash then codes ", userhash=true" else []

-- the value of the field Authorization or Proxy-Authorization
abbrev pub digest_credentials : Terms → Login → Method → List ℕ → ℕ → List ℕ → List ℕ
digest_credentials terms login method uri count cnonce =
    codes "Digest " ++ first_fields terms login.user uri
    ++ algorithm_field terms.said terms.algorithm ++ codes ", "
    ++ named (codes "response") (response terms login method uri count cnonce)
    ++ opaque_field terms.opaque ++ qop_fields terms.qop count cnonce ++ userhash_field terms.userhash
