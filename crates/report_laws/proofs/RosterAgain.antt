-- The lines of the seed and of requests are read as those.
use Rattle.std.proofs.Common.{◌≡◌, ℕ, zero, suc, ◌/◌, ◌%◌, ◌^◌, ◌<◌, ◌&&◌, nat_lt, Bool, true, false, List, [], ◌∷◌, ◌++◌, length, drop, codes, Option, Some, None, Ok, refl, sym, ap, ◌∙◌, arith}
use Rattle.std.specs.Prelude.{bytes_eq, slice_index, cond}
use Rattle.std.specs.Result.{result_ok}
use Rattle.std.specs.Fmt.{decimal}
use Rattle.std.proofs.lemmas.Bool.{agree_below_at}
use Rattle.std.proofs.lemmas.Slice.Eq.{bytes_eq-Decides}
use borrow.Author.Tests.{ltb-true}
use Rattle.hex.specs.Hex.{encode_lower, encode_with, decode_sized, lower_digits}
use Rattle.hex.proofs.HexLemmas.{decode_of-encode_lower, decode_of-even, length-encode_with}
use Rattle.hex.proofs.Pairs.{decode_sized-pairs}
use Rattle.spaces.specs.Places.{place, IsPlaced}
use Rattle.spaces.specs.declared.place.Origin.{Origin}
use Rattle.spaces.specs.declared.roster.Method.{Method}
use Rattle.spaces.specs.declared.roster.Method.TheVariants.{Get, Head}
use Rattle.spaces.specs.declared.roster.Request.{Request}
use Rattle.session_text.specs.Words.{word_of, word_value}
use Rattle.report_lines.specs.Words.{origin_text}
use Rattle.report_lines.specs.RosterLines.{seed_line, request_line, method_word, proxy_word}
use Rattle.report_reading.specs.Words.{words, ◌>>=◌, method_of, origin_of, proxy_of, place_of}
use Rattle.report_reading.specs.Forms.{seed_form, request_form}
use Rattle.report_reading.specs.Reading.{if_written, seed_at, request_at}
use Rattle.report_laws.specs.Ranges.{are_bytes, OriginHolds, ProxyHolds, RequestHolds}
use Rattle.report_reading.proofs.Tests.{both}
use Rattle.report_laws.proofs.WordLemmas.{plain, all_plain, joins, words_again, plain_decimal, plain_word, value_again, and_true}
use Rattle.report_laws.proofs.LinesAgain.{taken, origin_again, origin_bytes, plain_origin, partition_again, text_is}

-- SEEDS

plain_pair : (b : ℕ) → nat_lt b 256 ≡ true → (nat_lt 32 (slice_index lower_digits (b / 16)) && nat_lt 32 (slice_index lower_digits (b % 16))) ≡ true
plain_pair b h =
    agree_below_at (λ b. nat_lt 32 (slice_index lower_digits (b / 16)) && nat_lt 32 (slice_index lower_digits (b % 16))) (λ b. true) 256 b refl (ltb-true b 256 h)

plain_hex : (seed : List ℕ) → are_bytes seed ≡ true → plain (encode_lower seed) ≡ true
unfolding encode_with
plain_hex [] h = refl
plain_hex (b ∷ seed) h =
    let parts = both (nat_lt b 256) (are_bytes seed) h in
    let digits = both (nat_lt 32 (slice_index lower_digits (b / 16))) (nat_lt 32 (slice_index lower_digits (b % 16))) (plain_pair b parts.0) in
    and_true _ _ digits.0 (and_true _ _ digits.1 (plain_hex seed parts.1))

hex_bytes : (seed : List ℕ) → are_bytes seed ≡ true → (i : ℕ) → slice_index seed i < 256
hex_bytes [] h i = omega arith
hex_bytes (b ∷ seed) h zero = ltb-true b 256 (both (nat_lt b 256) (are_bytes seed) h).0
hex_bytes (b ∷ seed) h (suc i) = hex_bytes seed (both (nat_lt b 256) (are_bytes seed) h).1 i

seed_decoded : (seed : List ℕ) → are_bytes seed ≡ true → length seed ≡ 32 → decode_sized (encode_lower seed) 32 ≡ Ok seed
seed_decoded seed h n =
    let len = length-encode_with lower_digits seed in
    decode_sized-pairs (encode_lower seed) 32 (omega (arith, len, n)) (omega (arith, len, n))
    ∙ sym (decode_of-even (encode_lower seed) (omega (arith, len, n)))
    ∙ decode_of-encode_lower seed (hex_bytes seed h)

pub seed_plain : (seed : List ℕ) → are_bytes seed ≡ true → all_plain (encode_lower seed ∷ []) ≡ true
seed_plain seed h = rw (plain_hex seed h) refl

pub seed_again : (seed : List ℕ) → are_bytes seed ≡ true → length seed ≡ 32 → seed_at (seed_line seed) ≡ Some seed
seed_again seed h n =
    let ws = words_again (codes "seed") (encode_lower seed ∷ []) refl (seed_plain seed h) in
    ap (λ (vs : List (List ℕ)). seed_form vs >>= if_written seed_line (seed_line seed)) ws
    ∙ ap (λ (o : Option (List ℕ)). o >>= if_written seed_line (seed_line seed)) (ap result_ok (seed_decoded seed h n))
    ∙ taken seed_line seed

-- REQUESTS

abbrev method_name : Method → List ℕ
method_name method = drop 1 (method_word method)

method_is : (method : Method) → method_word method ≡ 32 ∷ method_name method
method_is Get = refl
method_is Head = refl

method_again : (method : Method) → method_of (method_name method) ≡ method
method_again Get = refl
method_again Head = refl

method_plain : (method : Method) → plain (method_name method) ≡ true
method_plain Get = refl
method_plain Head = refl

abbrev proxy_name : Option Origin → List ℕ
proxy_name None = codes "-"
proxy_name (Some origin) = word_of (origin_text origin)

proxy_is : (proxy : Option Origin) → proxy_word proxy ≡ 32 ∷ proxy_name proxy
proxy_is None = refl
proxy_is (Some origin) = refl

proxy_plain : (proxy : Option Origin) → ProxyHolds proxy → plain (proxy_name proxy) ≡ true
proxy_plain None h = refl
proxy_plain (Some origin) h = plain_origin origin h

not_nothing : (host port : List ℕ) → host ++ 58 ∷ port ≡ [] → ⊥
not_nothing [] port h = absurd (cc h)
not_nothing (b ∷ host) port h = absurd (cc h)

-- the word of an origin is not `-`
no_dash : (origin : Origin) → OriginHolds origin → bytes_eq (word_of (origin_text origin)) (codes "-") ≡ false
no_dash origin h = by_test (bytes_eq (word_of (origin_text origin)) (codes "-")) refl where
  by_test : (t : Bool) → bytes_eq (word_of (origin_text origin)) (codes "-") ≡ t → t ≡ false
  by_test false e = refl
  by_test true e =
      let dash : word_of (origin_text origin) ≡ codes "-" = (bytes_eq-Decides (word_of (origin_text origin)) (codes "-")).0 e in
      let none : origin_text origin ≡ [] = sym (value_again (origin_text origin) (origin_bytes origin h)) ∙ ap word_value dash in
      absurd (not_nothing origin.host (decimal origin.port) (sym (text_is origin) ∙ none))

proxy_again : (proxy : Option Origin) → ProxyHolds proxy → proxy_of (proxy_name proxy) ≡ Some proxy
proxy_again None h = refl
proxy_again (Some origin) h =
    by_parts (bytes_eq (word_of (origin_text origin)) (codes "-")) (origin_of (word_of (origin_text origin))) (no_dash origin h) (origin_again origin h) where
      by_parts : (dash : Bool) (o : Option Origin) → dash ≡ false → o ≡ Some origin → cond dash (Some None) (o >>= λ origin. Some (Some origin)) ≡ Some (Some origin)
      by_parts dash o e is = rw (e, is) refl

place_again : (request : Request) → are_bytes request.place.text ≡ true → IsPlaced request → place_of (word_of request.place.text) ≡ Some request.place
place_again request h placed = ap (λ (v : List ℕ). result_ok (place v)) (value_again request.place.text h) ∙ ap result_ok placed

abbrev pub request_words : ℕ → Request → List (List ℕ)
request_words n request =
    decimal n ∷ method_name request.method ∷ word_of request.partition ∷ word_of request.place.text ∷ proxy_name request.proxy ∷ []

pub request_line_is : (n : ℕ) (request : Request) → request_line n request ≡ joins (codes "request") (request_words n request) ++ 10 ∷ []
request_line_is n request = rw (method_is request.method, proxy_is request.proxy) refl

pub request_plain : (n : ℕ) (request : Request) → n < 2 ^ 32 → RequestHolds request → all_plain (request_words n request) ≡ true
request_plain n request small h =
    rw (
      plain_decimal n (omega (arith, small)),
      method_plain request.method,
      plain_word request.partition h.partition.bytes,
      plain_word request.place.text h.text,
      proxy_plain request.proxy h.proxy,
    )
    refl

request_form_again : (n : ℕ) (request : Request) → RequestHolds request → IsPlaced request → request_form (codes "request" ∷ request_words n request) ≡ Some request
request_form_again n request h placed =
    rw (partition_again request.partition h.partition, place_again request h.text placed, proxy_again request.proxy h.proxy, method_again request.method) refl

pub request_again : (n : ℕ) (request : Request) → n < 2 ^ 32 → RequestHolds request → IsPlaced request → request_at n (request_line n request) ≡ Some request
request_again n request small h placed =
    let ws = ap words (request_line_is n request) ∙ words_again (codes "request") (request_words n request) refl (request_plain n request small h) in
    ap (λ (vs : List (List ℕ)). request_form vs >>= if_written (request_line n) (request_line n request)) ws
    ∙ ap (λ (o : Option Request). o >>= if_written (request_line n) (request_line n request)) (request_form_again n request h placed)
    ∙ taken (request_line n) request
