-- The tests of sameness hold exactly of equal values.
use Rattle.std.proofs.Common.{◌≡◌, ℕ, Bool, true, false, ◌&&◌, List, refl, arith, Option, Some, None}
use Rattle.std.specs.Prelude.{IsTrue, bytes_eq, ◌==◌}
use Rattle.std.proofs.lemmas.Bool.Decides.{nat_tests}
use Rattle.std.proofs.lemmas.Bool.{false≢true}
use Rattle.std.proofs.lemmas.Slice.Eq.{bytes_eq-Decides}
use Rattle.spaces.specs.declared.site.Site.{Site}
use Rattle.spaces.specs.declared.site.Target.{Target}
use Rattle.spaces.specs.declared.site.Target.TheVariants.{Server, Proxy, Socks}
use Rattle.spaces.specs.declared.place.Origin.{Origin}
use Rattle.spaces.specs.declared.space.Scheme.{Scheme}
use Rattle.spaces.specs.declared.space.Scheme.TheVariants.{Basic, Digest, Negotiate, Password}
use Rattle.spaces.specs.declared.terms.Algorithm.{Algorithm}
use Rattle.spaces.specs.declared.terms.Algorithm.TheVariants.{Md5, Sha256}
use Rattle.spaces.specs.declared.terms.Qop.{Qop}
use Rattle.spaces.specs.declared.terms.Qop.TheVariants.{Auth, Missing}
use Rattle.spaces.specs.declared.terms.Terms.{Terms}
use Rattle.spaces.specs.ProtectionSpaces.{ProtectionSpace}
use Rattle.spaces.specs.Sites.{same_origin, same_target, same_site, same_scheme, same_space}
use Rattle.spaces.specs.DigestTerms.{same_algorithm, same_flag, same_opaque, same_qop, same_terms}
use Rattle.auth_events.proofs.Numbers.{and_left, and_right, both}

all_three : (a b c : Bool) → IsTrue (a && b && c) → IsTrue a × IsTrue b × IsTrue c
all_three a b c all = let first = and_left (a && b) c all in (and_left a b first, and_right a b first, and_right (a && b) c all)

three : (a b c : Bool) → IsTrue a → IsTrue b → IsTrue c → IsTrue (a && b && c)
three a b c is_a is_b is_c = both (a && b) c (both a b is_a is_b) is_c

pub bytes_same : (a b : List ℕ) → IsTrue (bytes_eq a b) → a ≡ b
bytes_same a b = (bytes_eq-Decides a b).0

pub bytes_refl : (a : List ℕ) → IsTrue (bytes_eq a a)
bytes_refl a = (bytes_eq-Decides a a).1 refl

pub number_same : (a b : ℕ) → IsTrue (a == b) → a ≡ b
number_same a b same = grind (arith, nat_tests)

pub number_refl : (a : ℕ) → IsTrue (a == a)
number_refl a = grind (arith, nat_tests)

target_same : (a b : Target) → IsTrue (same_target a b) → a ≡ b
target_same Server Server same = refl
target_same Proxy Proxy same = refl
target_same Socks Socks same = refl
target_same Server Proxy same = absurd (false≢true same)
target_same Server Socks same = absurd (false≢true same)
target_same Proxy Server same = absurd (false≢true same)
target_same Proxy Socks same = absurd (false≢true same)
target_same Socks Server same = absurd (false≢true same)
target_same Socks Proxy same = absurd (false≢true same)

target_refl : (a : Target) → IsTrue (same_target a a)
target_refl Server = refl
target_refl Proxy = refl
target_refl Socks = refl

scheme_refl : (a : Scheme) → IsTrue (same_scheme a a)
scheme_refl Basic = refl
scheme_refl Digest = refl
scheme_refl Negotiate = refl
scheme_refl Password = refl

scheme_same : (a b : Scheme) → IsTrue (same_scheme a b) → a ≡ b
scheme_same Basic Basic same = refl
scheme_same Digest Digest same = refl
scheme_same Negotiate Negotiate same = refl
scheme_same Password Password same = refl
scheme_same Basic Digest same = absurd (false≢true same)
scheme_same Basic Negotiate same = absurd (false≢true same)
scheme_same Basic Password same = absurd (false≢true same)
scheme_same Digest Basic same = absurd (false≢true same)
scheme_same Digest Negotiate same = absurd (false≢true same)
scheme_same Digest Password same = absurd (false≢true same)
scheme_same Negotiate Basic same = absurd (false≢true same)
scheme_same Negotiate Digest same = absurd (false≢true same)
scheme_same Negotiate Password same = absurd (false≢true same)
scheme_same Password Basic same = absurd (false≢true same)
scheme_same Password Digest same = absurd (false≢true same)
scheme_same Password Negotiate same = absurd (false≢true same)

origin_of_parts : (h h' : List ℕ) (p p' : ℕ) → h ≡ h' → p ≡ p' → ◌≡◌ {A = Origin} (record { host = h; port = p }) (record { host = h'; port = p' })
origin_of_parts h h' p p' same_h same_p = cc

origin_same : (a b : Origin) → IsTrue (same_origin a b) → a ≡ b
origin_same a b same =
    origin_of_parts a.host b.host a.port b.port (bytes_same a.host b.host (and_left (bytes_eq a.host b.host) (a.port == b.port) same))
    (number_same a.port b.port (and_right (bytes_eq a.host b.host) (a.port == b.port) same))

origin_refl : (a : Origin) → IsTrue (same_origin a a)
origin_refl a = both (bytes_eq a.host a.host) (a.port == a.port) (bytes_refl a.host) (number_refl a.port)

site_of_parts : (p p' : List ℕ) (t t' : Target) (o o' : Origin) → p ≡ p' → t ≡ t' → o ≡ o' → ◌≡◌ {A = Site} (record { partition = p; target = t; origin = o }) (record { partition = p'; target = t'; origin = o' })
site_of_parts p p' t t' o o' same_p same_t same_o = cc

pub site_same : (a b : Site) → IsTrue (same_site a b) → a ≡ b
site_same a b same =
    let parts = all_three (bytes_eq a.partition b.partition) (same_target a.target b.target) (same_origin a.origin b.origin) same in
    site_of_parts a.partition b.partition a.target b.target a.origin b.origin
    (bytes_same a.partition b.partition parts.0) (target_same a.target b.target parts.1) (origin_same a.origin b.origin parts.2)

pub site_refl : (a : Site) → IsTrue (same_site a a)
site_refl a =
    three (bytes_eq a.partition a.partition) (same_target a.target a.target) (same_origin a.origin a.origin)
    (bytes_refl a.partition) (target_refl a.target) (origin_refl a.origin)

space_of_parts : (s s' : Site) (m m' : Scheme) (r r' : List ℕ) → s ≡ s' → m ≡ m' → r ≡ r' → ◌≡◌ {A = ProtectionSpace} (record { site = s; scheme = m; realm = r }) (record { site = s'; scheme = m'; realm = r' })
space_of_parts s s' m m' r r' same_s same_m same_r = cc

pub space_same : (a b : ProtectionSpace) → IsTrue (same_space a b) → a ≡ b
space_same a b same =
    let parts = all_three (same_site a.site b.site) (same_scheme a.scheme b.scheme) (bytes_eq a.realm b.realm) same in
    space_of_parts a.site b.site a.scheme b.scheme a.realm b.realm
    (site_same a.site b.site parts.0) (scheme_same a.scheme b.scheme parts.1) (bytes_same a.realm b.realm parts.2)

pub space_refl : (a : ProtectionSpace) → IsTrue (same_space a a)
space_refl a =
    three (same_site a.site a.site) (same_scheme a.scheme a.scheme) (bytes_eq a.realm a.realm)
    (site_refl a.site) (scheme_refl a.scheme) (bytes_refl a.realm)

algorithm_same : (a b : Algorithm) → IsTrue (same_algorithm a b) → a ≡ b
algorithm_same Md5 Md5 same = refl
algorithm_same Sha256 Sha256 same = refl
algorithm_same Md5 Sha256 same = absurd (false≢true same)
algorithm_same Sha256 Md5 same = absurd (false≢true same)

algorithm_refl : (a : Algorithm) → IsTrue (same_algorithm a a)
algorithm_refl Md5 = refl
algorithm_refl Sha256 = refl

qop_same : (a b : Qop) → IsTrue (same_qop a b) → a ≡ b
qop_same Auth Auth same = refl
qop_same Missing Missing same = refl
qop_same Auth Missing same = absurd (false≢true same)
qop_same Missing Auth same = absurd (false≢true same)

qop_refl : (a : Qop) → IsTrue (same_qop a a)
qop_refl Auth = refl
qop_refl Missing = refl

flag_same : (a b : Bool) → IsTrue (same_flag a b) → a ≡ b
flag_same true true same = refl
flag_same false false same = refl
flag_same true false same = absurd (false≢true same)
flag_same false true same = absurd (false≢true same)

flag_refl : (a : Bool) → IsTrue (same_flag a a)
flag_refl true = refl
flag_refl false = refl

opaque_same : (a b : Option (List ℕ)) → IsTrue (same_opaque a b) → a ≡ b
opaque_same None None same = refl
opaque_same (Some a) (Some b) same = let equal = bytes_same a b same in cc
opaque_same None (Some b) same = absurd (false≢true same)
opaque_same (Some a) None same = absurd (false≢true same)

opaque_refl : (a : Option (List ℕ)) → IsTrue (same_opaque a a)
opaque_refl None = refl
opaque_refl (Some a) = bytes_refl a

terms_of_parts : (a a' : Algorithm) (s s' : Bool) (r r' n n' : List ℕ) (o o' : Option (List ℕ)) (q q' : Qop) (h h' : Bool) → a ≡ a' → s ≡ s' → r ≡ r' → n ≡ n' → o ≡ o' → q ≡ q' → h ≡ h' → ◌≡◌ {A = Terms} (record { algorithm = a; said = s; realm = r; nonce = n; opaque = o; qop = q; userhash = h }) (record { algorithm = a'; said = s'; realm = r'; nonce = n'; opaque = o'; qop = q'; userhash = h' })
terms_of_parts a a' s s' r r' n n' o o' q q' h h' same_a same_s same_r same_n same_o same_q same_h = cc

pub terms_same : (a b : Terms) → IsTrue (same_terms a b) → a ≡ b
terms_same a b same =
    let algorithm = same_algorithm a.algorithm b.algorithm && same_flag a.said b.said in
    let first = algorithm && bytes_eq a.realm b.realm && bytes_eq a.nonce b.nonce in
    let last = all_three (first && same_opaque a.opaque b.opaque) (same_qop a.qop b.qop) (same_flag a.userhash b.userhash) same in
    let before = and_left first (same_opaque a.opaque b.opaque) last.0 in
    let middle = all_three algorithm (bytes_eq a.realm b.realm) (bytes_eq a.nonce b.nonce) before in
    terms_of_parts a.algorithm b.algorithm a.said b.said a.realm b.realm a.nonce b.nonce a.opaque b.opaque a.qop b.qop a.userhash b.userhash
    (algorithm_same a.algorithm b.algorithm (and_left (same_algorithm a.algorithm b.algorithm) (same_flag a.said b.said) middle.0))
    (flag_same a.said b.said (and_right (same_algorithm a.algorithm b.algorithm) (same_flag a.said b.said) middle.0))
    (bytes_same a.realm b.realm middle.1) (bytes_same a.nonce b.nonce middle.2)
    (opaque_same a.opaque b.opaque (and_right first (same_opaque a.opaque b.opaque) last.0))
    (qop_same a.qop b.qop last.1) (flag_same a.userhash b.userhash last.2)

pub terms_refl : (a : Terms) → IsTrue (same_terms a a)
terms_refl a =
    let algorithm = same_algorithm a.algorithm a.algorithm && same_flag a.said a.said in
    let first = algorithm && bytes_eq a.realm a.realm && bytes_eq a.nonce a.nonce in
    three (first && same_opaque a.opaque a.opaque) (same_qop a.qop a.qop) (same_flag a.userhash a.userhash)
    (both first (same_opaque a.opaque a.opaque)
    (three algorithm (bytes_eq a.realm a.realm) (bytes_eq a.nonce a.nonce)
    (both (same_algorithm a.algorithm a.algorithm) (same_flag a.said a.said) (algorithm_refl a.algorithm) (flag_refl a.said))
    (bytes_refl a.realm) (bytes_refl a.nonce))
    (opaque_refl a.opaque))
    (qop_refl a.qop) (flag_refl a.userhash)
