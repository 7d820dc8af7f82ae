-- The forms of a line.
use Rattle.std.specs.Prelude.{ℕ, Bool, true, false, ◌==◌, drop, ◌&&◌, List, [], ◌∷◌, codes, bytes_eq, Option, Some, None, Result, Ok, Err, if◌then◌else◌}
use Rattle.auth_text.specs.Login.{Login, login}
use Rattle.spaces.specs.Places.{place}
use Rattle.spaces.specs.declared.place.Origin.{Origin}
use Rattle.spaces.specs.Partitions.{partition}
use Rattle.spaces.specs.declared.roster.Method.{Method}
use Rattle.spaces.specs.declared.roster.Method.TheVariants.{Get, Head}
use Rattle.spaces.specs.declared.site.Target.{Target}
use Rattle.spaces.specs.declared.site.Target.TheVariants.{Server, Proxy}
use Rattle.spaces.specs.declared.space.Scheme.{Scheme}
use Rattle.spaces.specs.declared.space.Scheme.TheVariants.{Basic, Digest, Negotiate}
use Rattle.spaces.specs.ProtectionSpaces.{ProtectionSpace}
use Rattle.session_text.specs.declared.line.Line.{Line}
use Rattle.session_text.specs.declared.line.Line.TheVariants.{Passed, Header, Workers, Default, Request as Requested, Link, Token, Answer}
use Rattle.link_trait.specs.declared.steps.Step.TheVariants.{Token as StepToken, Done, Refused, NoMechanism}
use Rattle.session_text.specs.declared.line.LineFault.{LineFault}
use Rattle.session_text.specs.declared.line.LineFault.TheVariants.{Bad}
use Rattle.session_text.specs.Cuts.{values, is_nothing, is_numeral, number}

infixl 10 ◌>>=◌
abbrev pub ◌>>=◌ : {A B : Type 0} → Result A LineFault → (A → Result B LineFault) → Result B LineFault
(Ok x) >>= f = f x
(Err e) >>= f = Err e

-- the value, or a line at fault
abbrev pub or_bad : {A E : Type 0} → Result A E → Result A LineFault
or_bad (Ok x) = Ok x
or_bad (Err e) = Err Bad

-- WORDS

abbrev pub number_of : List ℕ → Result ℕ LineFault
number_of word = if is_numeral word then Ok (number word) else Err Bad

abbrev pub origin_of : List ℕ → Result Origin LineFault
origin_of url = or_bad (place url) >>= λ p. Ok p.origin

abbrev pub method_of : List ℕ → Result Method LineFault
method_of word =
    if bytes_eq word (codes "GET") then Ok Get
    else if bytes_eq word (codes "HEAD") then Ok Head
    else Err Bad

abbrev pub target_of : List ℕ → Result Target LineFault
target_of word =
    if bytes_eq word (codes "server") then Ok Server
    else if bytes_eq word (codes "proxy") then Ok Proxy
    else Err Bad

-- `negotiate` stands with realm `-` alone
abbrev pub scheme_of : List ℕ → List ℕ → Result Scheme LineFault
scheme_of word realm =
    if bytes_eq word (codes "basic") then Ok Basic
    else if bytes_eq word (codes "digest") then Ok Digest
    else if bytes_eq word (codes "negotiate") && is_nothing realm then Ok Negotiate
    else Err Bad

-- FORMS

abbrev pub header : List (List ℕ) → Result Line LineFault
header (version ∷ []) = if bytes_eq version (codes "1") then Ok Header else Err Bad
header _ = Err Bad

abbrev pub workers : List (List ℕ) → Result Line LineFault
workers (n ∷ []) = number_of n >>= λ n. Ok (Workers n)
workers _ = Err Bad

abbrev pub default : List (List ℕ) → Result Line LineFault
default (url ∷ []) = origin_of url >>= λ origin. Ok (Default origin)
default _ = Err Bad

unfoldable pub requested : List ℕ → List ℕ → List ℕ → Option Origin → Result Line LineFault
requested method name url proxy = do
  m ← method_of method
  n ← or_bad (partition name)
  p ← or_bad (place url)
  Ok (Requested (record { method = m; partition = n; place = p; proxy = proxy }))

abbrev pub request : List (List ℕ) → Result Line LineFault
request (method ∷ name ∷ url ∷ []) = requested method name url None
request (method ∷ name ∷ url ∷ via ∷ proxy ∷ []) =
    if bytes_eq via (codes "via") then (origin_of proxy >>= λ origin. requested method name url (Some origin)) else Err Bad
request _ = Err Bad

abbrev pub link : List (List ℕ) → Result Line LineFault
link (bytes ∷ []) = Ok (Link bytes)
link _ = Err Bad

abbrev pub step_of : List ℕ → Result Line LineFault
step_of word =
    if bytes_eq word (codes "done") then Ok (Token Done)
    else if bytes_eq word (codes "refused") then Ok (Token Refused)
    else if bytes_eq word (codes "nomech") then Ok (Token NoMechanism)
    else Err Bad

abbrev pub token : List (List ℕ) → Result Line LineFault
token (word ∷ []) = step_of word
token (word ∷ value ∷ []) = if bytes_eq word (codes "bytes") then Ok (Token (StepToken value)) else Err Bad
token _ = Err Bad

unfoldable pub space : List ℕ → List ℕ → List ℕ → List ℕ → List ℕ → Result ProtectionSpace LineFault
space name target url scheme realm = do
  n ← or_bad (partition name)
  t ← target_of target
  o ← origin_of url
  s ← scheme_of scheme realm
  Ok (record { site = record { partition = n; target = t; origin = o }; scheme = s; realm = realm })

abbrev pub gift : List (List ℕ) → Result (Option Login) LineFault
gift (word ∷ []) = if bytes_eq word (codes "cancel") then Ok None else Err Bad
gift (word ∷ user ∷ password ∷ []) =
    if bytes_eq word (codes "give") then (or_bad (login user password) >>= λ l. Ok (Some l)) else Err Bad
gift _ = Err Bad

abbrev pub answer : List (List ℕ) → Result Line LineFault
answer (name ∷ target ∷ url ∷ scheme ∷ realm ∷ more) =
    space name target url scheme realm >>= λ s. gift more >>= λ g. Ok (Answer s g)
answer _ = Err Bad

unfoldable pub keyed : List ℕ → List (List ℕ) → Result Line LineFault
keyed key more =
    if bytes_eq key (codes "authfetch") then header more
    else if bytes_eq key (codes "workers") then workers more
    else if bytes_eq key (codes "default") then default more
    else if bytes_eq key (codes "request") then request more
    else if bytes_eq key (codes "answer") then answer more
    else Err Bad

-- the first word is this one
abbrev pub is_keyed : List (List ℕ) → List ℕ → Bool
is_keyed [] word = false
is_keyed (key ∷ more) word = bytes_eq key word

abbrev pub other : List (List ℕ) → Result Line LineFault
other [] = Err Bad
other (key ∷ more) = keyed key more

-- a line of these words
unfoldable pub form : List (List ℕ) → Result Line LineFault
form values =
    if is_keyed values (codes "link") then link (drop 1 values)
    else if is_keyed values (codes "token") then token (drop 1 values)
    else other values

-- a line that is passed over: empty, or begun by `#`
abbrev pub is_passed : List ℕ → Bool
is_passed [] = true
is_passed (b ∷ bytes) = b == 35

-- the line that the bytes are
abbrev pub line : List ℕ → Result Line LineFault
line text = if is_passed text then Ok Passed else (values text >>= form)
