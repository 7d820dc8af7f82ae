-- The terms that a Digest challenge asks for (RFC 7616, section 3.3; RFC 2617, section 3.2.1, where there is no qop).
use Rattle.std.specs.Prelude.{ℕ, Bool, false, List, [], ◌∷◌, codes, Option, Some, None, is_some, unwrap_or, Result, Ok, Err, if◌then◌else◌}
use Rattle.std.specs.List.{list_any}
use Rattle.std.specs.Str.{str_eq_ignore_ascii_case}
use Rattle.challenge_tokens.specs.declared.challenge.Challenge.{Challenge}
use Rattle.challenge_tokens.specs.Bodies.{value_in}
use Rattle.field_lists.specs.Elements.{elements_of}
use Rattle.spaces.specs.declared.terms.Algorithm.{Algorithm}
use Rattle.spaces.specs.declared.terms.Algorithm.TheVariants.{Md5, Sha256}
use Rattle.spaces.specs.declared.terms.Qop.{Qop}
use Rattle.spaces.specs.declared.terms.Qop.TheVariants.{Auth, Missing}
use Rattle.digest_handler.specs.declared.challenge_terms.Passed.{Passed}
use Rattle.digest_handler.specs.declared.challenge_terms.Passed.TheVariants.{NoNonce, Algorithm as OtherAlgorithm, OnlyAuthInt}
use Rattle.digest_handler.specs.declared.challenge_terms.TermsRead.{TermsRead}

-- the algorithm of a name, in any letter case
abbrev pub named_algorithm : List ℕ → Option Algorithm
named_algorithm name =
    if str_eq_ignore_ascii_case name (codes "MD5") then Some Md5
    else (if str_eq_ignore_ascii_case name (codes "SHA-256") then Some Sha256 else None)

-- the algorithm: MD5 where none is said
abbrev pub algorithm_of : Option (List ℕ) → Option Algorithm
algorithm_of None = Some Md5
algorithm_of (Some name) = named_algorithm name

-- auth, in any letter case
abbrev pub is_auth : List ℕ → Bool
is_auth element = str_eq_ignore_ascii_case element (codes "auth")

-- the qop of its elements: no element counts as missing, and of others one is to be auth
abbrev pub qop_among : List (List ℕ) → Option Qop
qop_among [] = Some Missing
qop_among (e ∷ es) = if list_any is_auth (e ∷ es) then Some Auth else None

-- the qop
abbrev pub qop_of : Option (List ℕ) → Option Qop
qop_of None = Some Missing
qop_of (Some value) = qop_among (elements_of value)

-- true, in any letter case
abbrev pub is_true : Option (List ℕ) → Bool
is_true None = false
is_true (Some value) = str_eq_ignore_ascii_case value (codes "true")

-- the terms by nonce, algorithm and qop; a realm that isn't said is empty
abbrev pub terms_with : Challenge → List ℕ → Algorithm → Qop → TermsRead
terms_with c nonce algorithm qop = record {
  terms = record {
    algorithm = algorithm;
    said = is_some (value_in (codes "algorithm") c.body);
    realm = unwrap_or (value_in (codes "realm") c.body) [];
    nonce = nonce;
    opaque = value_in (codes "opaque") c.body;
    qop = qop;
    userhash = is_true (value_in (codes "userhash") c.body);
  };
  stale = is_true (value_in (codes "stale") c.body);
}

-- the refusals in their order: no nonce, another algorithm, a qop without auth
abbrev pub read_by : Challenge → Option (List ℕ) → Option Algorithm → Option Qop → Result TermsRead Passed
read_by c None algorithm qop = Err NoNonce
read_by c (Some nonce) None qop = Err OtherAlgorithm
read_by c (Some nonce) (Some algorithm) None = Err OnlyAuthInt
read_by c (Some nonce) (Some algorithm) (Some qop) = Ok (terms_with c nonce algorithm qop)

-- the terms, or the first reason to pass the challenge over
abbrev pub terms_read : Challenge → Result TermsRead Passed
terms_read c =
    read_by c (value_in (codes "nonce") c.body) (algorithm_of (value_in (codes "algorithm") c.body))
    (qop_of (value_in (codes "qop") c.body))
