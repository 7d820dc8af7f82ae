-- What is written for a thing is read as that thing.
use Rattle.std.proofs.Common.{◌≡◌, ℕ, ◌^◌, ◌<◌, ◌==◌, nat_lt, true, false, List, [], ◌∷◌, ◌++◌, drop, codes, Some, None, refl, ap, ◌∙◌, arith, append_assoc}
use Rattle.std.specs.Prelude.{bytes_eq}
use Rattle.std.specs.Result.{result_ok}
use Rattle.std.specs.List.{list_all}
use Rattle.std.specs.Char.{is_ascii_digit}
use Rattle.std.specs.Fmt.{decimal}
use Rattle.std.proofs.lemmas.Bool.Decides.{nat_tests}
use Rattle.std.proofs.lemmas.Slice.Eq.{bytes_eq-Decides}
use Rattle.std.proofs.lemmas.List.Folds.{list_all-append}
use Rattle.spaces.specs.declared.place.Origin.{Origin}
use Rattle.spaces.specs.declared.site.Target.{Target}
use Rattle.spaces.specs.declared.site.Target.TheVariants.{Server, Proxy, Socks}
use Rattle.spaces.specs.declared.space.Scheme.{Scheme}
use Rattle.spaces.specs.declared.space.Scheme.TheVariants.{Basic, Digest, Negotiate, Password}
use Rattle.spaces.specs.Partitions.{partition}
use Rattle.spaces.specs.ProtectionSpaces.{ProtectionSpace}
use Rattle.session_text.specs.Words.{word_of}
use Rattle.report_lines.specs.Words.{origin_text, target_word, scheme_word}
use Rattle.report_lines.specs.RosterLines.{default_line}
use Rattle.report_lines.specs.NameLines.{space_line}
use Rattle.report_reading.specs.Words.{words, cut_last, origin_in, origin_of, target_of, scheme_of, partition_of}
use Rattle.report_reading.specs.Forms.{space_form}
use Rattle.report_reading.specs.Reading.{if_written, default_at, space_at}
use Rattle.report_laws.specs.Ranges.{are_bytes, OriginHolds, NameHolds, SpaceHolds}
use Rattle.report_reading.proofs.Tests.{both}
use Rattle.report_laws.proofs.NumberLemmas.{digits_decimal, code_again}
use Rattle.report_laws.proofs.WordLemmas.{plain, all_plain, joins, words_again, plain_decimal, plain_word, value_again}

-- ORIGINS

digit_no_colon : (b : ℕ) → is_ascii_digit b ≡ true → (b == 58) ≡ false
digit_no_colon b h = grind (arith, nat_tests)

cut_digits : (w : List ℕ) → list_all is_ascii_digit w ≡ true → cut_last w ≡ None
cut_digits [] h = refl
cut_digits (b ∷ w) h =
    let parts = both (is_ascii_digit b) (list_all is_ascii_digit w) h in
    rw (cut_digits w parts.1, digit_no_colon b parts.0) refl

cut_host : (host port : List ℕ) → list_all is_ascii_digit port ≡ true → cut_last (host ++ 58 ∷ port) ≡ Some (host, port)
cut_host [] port h = rw (cut_digits port h) refl
cut_host (b ∷ host) port h = rw (cut_host host port h) refl

digit_byte : (b : ℕ) → is_ascii_digit b ≡ true → nat_lt b 256 ≡ true
digit_byte b h = grind (arith, nat_tests)

digits_bytes : (w : List ℕ) → list_all is_ascii_digit w ≡ true → are_bytes w ≡ true
digits_bytes [] h = refl
digits_bytes (b ∷ w) h =
    let parts = both (is_ascii_digit b) (list_all is_ascii_digit w) h in rw (digit_byte b parts.0, digits_bytes w parts.1) refl

pub text_is : (origin : Origin) → origin_text origin ≡ origin.host ++ 58 ∷ decimal origin.port
text_is origin = append_assoc origin.host (58 ∷ []) (decimal origin.port)

pub origin_bytes : (origin : Origin) → OriginHolds origin → are_bytes (origin_text origin) ≡ true
origin_bytes origin h =
    ap are_bytes (text_is origin) ∙ list_all-append (λ b. nat_lt b 256) origin.host (58 ∷ decimal origin.port)
    ∙ rw (h.host, digits_bytes (decimal origin.port) (digits_decimal origin.port (omega (arith, h.port)))) refl

origin_is : (origin : Origin) → OriginHolds origin → origin_in (origin_text origin) ≡ Some origin
origin_is origin h =
    ap origin_in (text_is origin)
    ∙ rw (cut_host origin.host (decimal origin.port) (digits_decimal origin.port (omega (arith, h.port))), code_again origin.port h.port) refl

pub origin_again : (origin : Origin) → OriginHolds origin → origin_of (word_of (origin_text origin)) ≡ Some origin
origin_again origin h = ap origin_in (value_again (origin_text origin) (origin_bytes origin h)) ∙ origin_is origin h

pub plain_origin : (origin : Origin) → OriginHolds origin → plain (word_of (origin_text origin)) ≡ true
plain_origin origin h = plain_word (origin_text origin) (origin_bytes origin h)

-- WRITTEN

same : (xs : List ℕ) → bytes_eq xs xs ≡ true
same xs = (bytes_eq-Decides xs xs).1 refl

pub taken : {A : Type 0} (written : A → List ℕ) (x : A) → if_written written (written x) x ≡ Some x
taken written x = rw (same (written x)) refl

-- LINES

pub default_plain : (origin : Origin) → OriginHolds origin → all_plain (word_of (origin_text origin) ∷ []) ≡ true
default_plain origin h = rw (plain_origin origin h) refl

pub default_again : (origin : Origin) → OriginHolds origin → default_at (default_line origin) ≡ Some origin
default_again origin h =
    let ws = words_again (codes "default") (word_of (origin_text origin) ∷ []) refl (default_plain origin h) in
    rw (ws, origin_again origin h) (taken default_line origin)

abbrev pub target_name : Target → List ℕ
target_name target = drop 1 (target_word target)

pub target_is : (target : Target) → target_word target ≡ 32 ∷ target_name target
target_is Server = refl
target_is Proxy = refl
target_is Socks = refl

pub target_again : (target : Target) → target_of (target_name target) ≡ target
target_again Server = refl
target_again Proxy = refl
target_again Socks = refl

pub target_plain : (target : Target) → plain (target_name target) ≡ true
target_plain Server = refl
target_plain Proxy = refl
target_plain Socks = refl

abbrev pub scheme_name : Scheme → List ℕ
scheme_name scheme = drop 1 (scheme_word scheme)

scheme_is : (scheme : Scheme) → scheme_word scheme ≡ 32 ∷ scheme_name scheme
scheme_is Basic = refl
scheme_is Digest = refl
scheme_is Negotiate = refl
scheme_is Password = refl

scheme_again : (scheme : Scheme) → scheme_of (scheme_name scheme) ≡ scheme
scheme_again Basic = refl
scheme_again Digest = refl
scheme_again Negotiate = refl
scheme_again Password = refl

scheme_plain : (scheme : Scheme) → plain (scheme_name scheme) ≡ true
scheme_plain Basic = refl
scheme_plain Digest = refl
scheme_plain Negotiate = refl
scheme_plain Password = refl

pub partition_again : (name : List ℕ) → NameHolds name → partition_of (word_of name) ≡ Some name
partition_again name h = ap (λ (v : List ℕ). result_ok (partition v)) (value_again name h.bytes) ∙ rw h.fit refl

abbrev pub space_words : ℕ → ProtectionSpace → List (List ℕ)
space_words n space =
    decimal n ∷ word_of space.site.partition ∷ target_name space.site.target ∷ word_of (origin_text space.site.origin) ∷ scheme_name space.scheme ∷ word_of space.realm ∷ []

six : (k n p t o s r e : List ℕ) → ((((k ++ n) ++ ((p ++ t) ++ o)) ++ s) ++ r) ++ e ≡ ((((((k ++ n) ++ p) ++ t) ++ o) ++ s) ++ r) ++ e
six k n p t o s r e = simp append_assoc

pub space_line_is : (n : ℕ) (space : ProtectionSpace) → space_line n space ≡ joins (codes "space") (space_words n space) ++ 10 ∷ []
space_line_is n space =
    six (codes "space") (32 ∷ decimal n) (32 ∷ word_of space.site.partition) (target_word space.site.target) (32 ∷ word_of (origin_text space.site.origin))
    (scheme_word space.scheme) (32 ∷ word_of space.realm) (10 ∷ [])
    ∙ rw (target_is space.site.target, scheme_is space.scheme) refl

pub space_plain : (n : ℕ) (space : ProtectionSpace) → n < 2 ^ 32 → SpaceHolds space → all_plain (space_words n space) ≡ true
space_plain n space small h =
    rw (
      plain_decimal n (omega (arith, small)),
      plain_word space.site.partition h.site.partition.bytes,
      target_plain space.site.target,
      plain_origin space.site.origin h.site.origin,
      scheme_plain space.scheme,
      plain_word space.realm h.realm,
    )
    refl

space_form_again : (n : ℕ) (space : ProtectionSpace) → SpaceHolds space → space_form (codes "space" ∷ space_words n space) ≡ Some space
space_form_again n space h =
    rw (
      partition_again space.site.partition h.site.partition,
      origin_again space.site.origin h.site.origin,
      target_again space.site.target,
      scheme_again space.scheme,
      value_again space.realm h.realm,
      h.fit,
    )
    refl

pub space_again : (n : ℕ) (space : ProtectionSpace) → n < 2 ^ 32 → SpaceHolds space → space_at n (space_line n space) ≡ Some space
space_again n space small h =
    let ws = ap words (space_line_is n space) ∙ words_again (codes "space") (space_words n space) refl (space_plain n space small h) in
    rw (ws, space_form_again n space h) (taken (space_line n) space)
