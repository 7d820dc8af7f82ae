-- What a place is: the parts of an http URL, by the URL Standard.
use Rattle.std.specs.Prelude.{◌≡◌, ℕ, List, [], codes, bytes_eq, Option, None, unwrap_or, option_map, Result, Ok, Err, if◌then◌else◌, ◌&&◌}
use Rattle.std.specs.Str.{is_utf8}
use Rattle.std.specs.Result.{result_ok}
use Rattle.percent_encoding.specs.Percent.{percent_decode}
use Rattle.auth_text.specs.Login.{Login, login}
use Rattle.url.specs.Input.{is_empty}
use Rattle.url.specs.declared.error.ParseError.{ParseError}
use Rattle.url.specs.Parser.{parse_url}
use Rattle.url.specs.Parts.{Parts, serialize, nonempty_host}
use Rattle.url.specs.Host.{host_text}
use Rattle.spaces.specs.declared.place.Place.{Place}
use Rattle.spaces.specs.declared.place.PlaceFault.{PlaceFault}
use Rattle.spaces.specs.declared.place.PlaceFault.TheVariants.{BadUrl, NotHttp}
use Rattle.spaces.specs.declared.roster.Request.{Request}

-- an http URL
abbrev pub if_http : Result Parts ParseError → Result Parts PlaceFault
if_http (Ok url) = if bytes_eq url.scheme (codes "http") then Ok url else Err NotHttp
if_http (Err e) = Err BadUrl

-- the http URL that the bytes are
abbrev pub http_url : List ℕ → Result Parts PlaceFault
http_url text = if is_utf8 text then if_http (parse_url None text) else Err BadUrl

-- the percent-decoded user and password
abbrev pub login_of : List ℕ → List ℕ → Option Login
login_of user password =
    if is_empty user && is_empty password then None else result_ok (login user password)

abbrev pub url_login : Parts → Option Login
url_login url = login_of (percent_decode url.username) (percent_decode url.password)

-- the parts that a place keeps
abbrev pub parts_place : Parts → Place
parts_place url = record {
  text = serialize url;
  origin = record { host = unwrap_or (option_map host_text (nonempty_host url)) []; port = unwrap_or url.port 80 };
  path = url.path;
  query = url.query;
  identity = url_login url;
}

abbrev pub if_url : Result Parts PlaceFault → Result Place PlaceFault
if_url (Ok url) = Ok (parts_place url)
if_url (Err e) = Err e

-- the place that the bytes are
abbrev pub place : List ℕ → Result Place PlaceFault
place text = if_url (http_url text)

-- the request's place is the one that its text reads as
abbrev pub IsPlaced : Request → Type 0
IsPlaced request = place request.place.text ≡ Ok request.place
