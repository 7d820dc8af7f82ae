-- The line of terms is read as those terms.
use Rattle.std.proofs.Common.{◌≡◌, ℕ, ◌^◌, ◌<◌, Bool, true, false, List, [], ◌∷◌, ◌++◌, drop, codes, Option, Some, None, refl, sym, ap, ◌∙◌, arith, append_assoc}
use Rattle.std.specs.Prelude.{bytes_eq}
use Rattle.std.specs.Fmt.{decimal}
use Rattle.std.proofs.lemmas.List.{append-nil}
use Rattle.spaces.specs.ProtectionSpaces.{ProtectionSpace}
use Rattle.spaces.specs.declared.terms.Algorithm.{Algorithm}
use Rattle.spaces.specs.declared.terms.Algorithm.TheVariants.{Md5, Sha256}
use Rattle.spaces.specs.declared.terms.Qop.{Qop}
use Rattle.spaces.specs.declared.terms.Qop.TheVariants.{Auth, Missing}
use Rattle.auth_events.specs.declared.names.TermsName.{TermsName}
use Rattle.session_text.specs.Words.{word_of}
use Rattle.report_lines.specs.NameLines.{terms_line, algorithm_word, said_word, qop_word, opaque_words, userhash_word}
use Rattle.report_reading.specs.Words.{words, ◌>>=◌, algorithm_of, qop_of, opaque_of, word_at}
use Rattle.report_reading.specs.Forms.{terms_form, terms_of, realm_at, behind_opaque}
use Rattle.report_reading.specs.Reading.{if_written, terms_at}
use Rattle.report_laws.specs.Ranges.{OpaqueHolds, TermsHolds}
use Rattle.report_laws.proofs.NumberLemmas.{small_again}
use Rattle.report_laws.proofs.WordLemmas.{plain, all_plain, joins, words_again, plain_decimal, plain_word, value_again}
use Rattle.report_laws.proofs.LinesAgain.{taken}

abbrev algorithm_name : Algorithm → List ℕ
algorithm_name algorithm = drop 1 (algorithm_word algorithm)

algorithm_is : (algorithm : Algorithm) → algorithm_word algorithm ≡ 32 ∷ algorithm_name algorithm
algorithm_is Md5 = refl
algorithm_is Sha256 = refl

algorithm_again : (algorithm : Algorithm) → algorithm_of (algorithm_name algorithm) ≡ algorithm
algorithm_again Md5 = refl
algorithm_again Sha256 = refl

algorithm_plain : (algorithm : Algorithm) → plain (algorithm_name algorithm) ≡ true
algorithm_plain Md5 = refl
algorithm_plain Sha256 = refl

abbrev said_name : Bool → List ℕ
said_name said = drop 1 (said_word said)

said_is : (said : Bool) → said_word said ≡ 32 ∷ said_name said
said_is true = refl
said_is false = refl

said_again : (said : Bool) → bytes_eq (said_name said) (codes "said") ≡ said
said_again true = refl
said_again false = refl

said_plain : (said : Bool) → plain (said_name said) ≡ true
said_plain true = refl
said_plain false = refl

abbrev qop_name : Qop → List ℕ
qop_name qop = drop 1 (qop_word qop)

qop_is : (qop : Qop) → qop_word qop ≡ 32 ∷ qop_name qop
qop_is Auth = refl
qop_is Missing = refl

qop_again : (qop : Qop) → qop_of (qop_name qop) ≡ qop
qop_again Auth = refl
qop_again Missing = refl

qop_plain : (qop : Qop) → plain (qop_name qop) ≡ true
qop_plain Auth = refl
qop_plain Missing = refl

-- the words behind the nonce
abbrev last_names : Option (List ℕ) → Bool → List (List ℕ)
last_names None false = codes "noopaque" ∷ []
last_names None true = codes "noopaque" ∷ codes "userhash" ∷ []
last_names (Some opaque) false = codes "opaque" ∷ word_of opaque ∷ []
last_names (Some opaque) true = codes "opaque" ∷ word_of opaque ∷ codes "userhash" ∷ []

last_is : (t : List ℕ) (opaque : Option (List ℕ)) (userhash : Bool) → (t ++ opaque_words opaque) ++ userhash_word userhash ≡ joins t (last_names opaque userhash)
last_is t None false = append-nil (t ++ codes " noopaque")
last_is t None true = refl
last_is t (Some opaque) false =
    append-nil (t ++ (codes " opaque" ++ (32 ∷ word_of opaque))) ∙ sym (append_assoc t (codes " opaque") (32 ∷ word_of opaque))
last_is t (Some opaque) true = ap (λ (text : List ℕ). text ++ codes " userhash") (sym (append_assoc t (codes " opaque") (32 ∷ word_of opaque)))

last_plain : (opaque : Option (List ℕ)) (userhash : Bool) → OpaqueHolds opaque → all_plain (last_names opaque userhash) ≡ true
last_plain None false h = refl
last_plain None true h = refl
last_plain (Some opaque) false h = rw (plain_word opaque h) refl
last_plain (Some opaque) true h = rw (plain_word opaque h) refl

abbrev front_names : ℕ → TermsName → List (List ℕ) → List (List ℕ)
front_names n name more =
    decimal n ∷ decimal name.space ∷ decimal name.nonce ∷ algorithm_name name.terms.algorithm ∷ said_name name.terms.said ∷ qop_name name.terms.qop
    ∷ word_of name.terms.nonce ∷ more

abbrev pub terms_names : ℕ → TermsName → List (List ℕ)
terms_names n name = front_names n name (last_names name.terms.opaque name.terms.userhash)

-- the words of the terms behind those before them
flat : (t a s q n o u : List ℕ) → t ++ (((((a ++ s) ++ q) ++ n) ++ o) ++ u) ≡ (((((t ++ a) ++ s) ++ q) ++ n) ++ o) ++ u
flat t a s q n o u = simp append_assoc

pub terms_line_is : (n : ℕ) (name : TermsName) → terms_line n name ≡ joins (codes "terms") (terms_names n name) ++ 10 ∷ []
terms_line_is n name =
    let front : List ℕ = ((codes "terms" ++ (32 ∷ decimal n)) ++ (32 ∷ decimal name.space)) ++ (32 ∷ decimal name.nonce) in
    ap (λ (text : List ℕ). text ++ 10 ∷ [])
    (flat front (algorithm_word name.terms.algorithm) (said_word name.terms.said) (qop_word name.terms.qop) (32 ∷ word_of name.terms.nonce)
    (opaque_words name.terms.opaque) (userhash_word name.terms.userhash)
    ∙ rw (algorithm_is name.terms.algorithm, said_is name.terms.said, qop_is name.terms.qop)
    (last_is ((((front ++ (32 ∷ algorithm_name name.terms.algorithm)) ++ (32 ∷ said_name name.terms.said)) ++ (32 ∷ qop_name name.terms.qop)) ++ (32 ∷ word_of name.terms.nonce))
    name.terms.opaque name.terms.userhash))

pub terms_plain : (n : ℕ) (name : TermsName) → n < 2 ^ 32 → TermsHolds name → all_plain (terms_names n name) ≡ true
terms_plain n name small h =
    rw (
      plain_decimal n (omega (arith, small)),
      plain_decimal name.space (omega (arith, h.space)),
      plain_decimal name.nonce (omega (arith, h.nonce)),
      algorithm_plain name.terms.algorithm,
      said_plain name.terms.said,
      qop_plain name.terms.qop,
      plain_word name.terms.nonce h.text,
    )
    (last_plain name.terms.opaque name.terms.userhash h.opaque)

-- what the last words are read as
opaque_again : (n : ℕ) (name : TermsName) (opaque : Option (List ℕ)) (userhash : Bool) → OpaqueHolds opaque
    → opaque_of (word_at (codes "terms" ∷ front_names n name (last_names opaque userhash)) 8) (word_at (codes "terms" ∷ front_names n name (last_names opaque userhash)) 9) ≡ opaque
opaque_again n name None false h = refl
opaque_again n name None true h = refl
opaque_again n name (Some opaque) false h = ap (λ (v : List ℕ). Some v) (value_again opaque h)
opaque_again n name (Some opaque) true h = ap (λ (v : List ℕ). Some v) (value_again opaque h)

userhash_again : (n : ℕ) (name : TermsName) (opaque : Option (List ℕ)) (userhash : Bool)
    → bytes_eq (word_at (codes "terms" ∷ front_names n name (last_names opaque userhash))
    (behind_opaque (word_at (codes "terms" ∷ front_names n name (last_names opaque userhash)) 8))) (codes "userhash") ≡ userhash
userhash_again n name None false = refl
userhash_again n name None true = refl
userhash_again n name (Some opaque) false = refl
userhash_again n name (Some opaque) true = refl

terms_of_again : (n : ℕ) (name : TermsName) → TermsHolds name → terms_of (codes "terms" ∷ terms_names n name) name.terms.realm ≡ name.terms
terms_of_again n name h =
    rw (
      opaque_again n name name.terms.opaque name.terms.userhash h.opaque,
      userhash_again n name name.terms.opaque name.terms.userhash,
      algorithm_again name.terms.algorithm,
      said_again name.terms.said,
      qop_again name.terms.qop,
      value_again name.terms.nonce h.text,
    )
    refl

terms_form_again : (n : ℕ) (spaces : List ProtectionSpace) (name : TermsName) → TermsHolds name → realm_at spaces name.space ≡ Some name.terms.realm
    → terms_form spaces (codes "terms" ∷ terms_names n name) ≡ Some name
terms_form_again n spaces name h realm =
    rw (small_again name.space h.space, realm, small_again name.nonce h.nonce, terms_of_again n name h) refl

pub terms_again : (n : ℕ) (spaces : List ProtectionSpace) (name : TermsName) → n < 2 ^ 32 → TermsHolds name → realm_at spaces name.space ≡ Some name.terms.realm
    → terms_at n spaces (terms_line n name) ≡ Some name
terms_again n spaces name small h realm =
    let ws = ap words (terms_line_is n name) ∙ words_again (codes "terms") (terms_names n name) refl (terms_plain n name small h) in
    ap (λ (vs : List (List ℕ)). terms_form spaces vs >>= if_written (terms_line n) (terms_line n name)) ws
    ∙ ap (λ (o : Option TermsName). o >>= if_written (terms_line n) (terms_line n name)) (terms_form_again n spaces name h realm)
    ∙ taken (terms_line n) name
