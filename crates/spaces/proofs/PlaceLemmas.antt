-- The text of a place is a URL of that place.
use Rattle.std.proofs.Common.{◌≡◌, ℕ, subst, Bool, true, false, cond, List, None, Result, Ok, Err, refl, ap, codes}
use Rattle.std.specs.Prelude.{bytes_eq, IfOk}
use Rattle.std.specs.Str.{is_utf8}
use Rattle.std.proofs.lemmas.Slice.Eq.{bytes_eq-Decides}
use Rattle.std.proofs.lemmas.Str.{IsUtf8-from_ascii, is_utf8-from_IsUtf8}
use Rattle.url.specs.declared.error.ParseError.{ParseError}
use Rattle.url.specs.declared.scheme.SchemeType.TheVariants.{SpecialNotFile}
use Rattle.url.specs.Parser.{parse_url}
use Rattle.url.specs.Parts.{Parts, serialize, kind_of, IsValid}
use Rattle.url.specs.Scheme.{scheme_type, default_port}
use Rattle.url.proofs.ValidLemmas.{IsAscii-serialize}
use Rattle.url.proofs.Theorems.{parse_url-serialize_special}
use Rattle.auth_text.specs.Gives.{GivesBy}
use Rattle.spaces.specs.declared.place.Place.{Place}
use Rattle.spaces.specs.declared.place.PlaceFault.{PlaceFault}
use Rattle.spaces.specs.declared.place.PlaceFault.TheVariants.{BadUrl, NotHttp, NoMemory}
use Rattle.spaces.specs.Places.{if_http, http_url, place, parts_place}

by_scheme : (u url : Parts) (t : Bool) → bytes_eq u.scheme (codes "http") ≡ t
    → ◌≡◌ {A = Result Parts PlaceFault} (cond t (Ok u) (Err NotHttp)) (Ok url) → bytes_eq url.scheme (codes "http") ≡ true
by_scheme u url true h is = let same : u ≡ url = cc is in subst (λ (v : Parts). bytes_eq v.scheme (codes "http") ≡ true) same h
by_scheme u url false h is = absurd (cc is)

by_parse : (r : Result Parts ParseError) (url : Parts) → if_http r ≡ Ok url → bytes_eq url.scheme (codes "http") ≡ true
by_parse (Ok u) url is = by_scheme u url (bytes_eq u.scheme (codes "http")) refl is
by_parse (Err e) url is = absurd (cc is)

by_utf8 : (text : List ℕ) (url : Parts) (t : Bool) → ◌≡◌ {A = Result Parts PlaceFault} (cond t (if_http (parse_url None text)) (Err BadUrl)) (Ok url)
    → bytes_eq url.scheme (codes "http") ≡ true
by_utf8 text url true is = by_parse (parse_url None text) url is
by_utf8 text url false is = absurd (cc is)

is_special : (url : Parts) → bytes_eq url.scheme (codes "http") ≡ true → kind_of url ≡ SpecialNotFile
unfolding scheme_type default_port
is_special url http = let is : url.scheme ≡ codes "http" = (bytes_eq-Decides url.scheme (codes "http")).0 http in ap scheme_type is

pub place_again : (text : List ℕ) (url : Parts) → http_url text ≡ Ok url → IsValid url → place (serialize url) ≡ Ok (parts_place url)
place_again text url is valid =
    let http = by_utf8 text url (is_utf8 text) is in
    let utf8 = is_utf8-from_IsUtf8 (serialize url) (IsUtf8-from_ascii (serialize url) (IsAscii-serialize url valid)) in
    let parsed = parse_url-serialize_special url None valid (is_special url http) in
    rw (utf8, parsed, http) refl

pub reads_again : (text : List ℕ) (url : Parts) (r : Result Place PlaceFault) → http_url text ≡ Ok url
    → GivesBy NoMemory (λ it. it) r (Ok (parts_place url)) → IfOk r (λ it. IsValid url) → IfOk r (λ it. place it.text ≡ Ok it)
reads_again text url (Err e) is given valid = tt
reads_again text url (Ok it) is given valid =
    let same : it ≡ parts_place url = cc in rw same (place_again text url is valid)
