-- The words of a line and what each is taken for. Of a word that is none of the right ones it matters only that something
-- comes: what was read counts only where the line is just what is written for it.
use Rattle.std.specs.Prelude.{ℕ, ◌+◌, ◌-◌, ◌==◌, List, [], ◌∷◌, length, take, drop, codes, bytes_eq, slice_index_or, Option, Some, None, if◌then◌else◌}
use Rattle.std.specs.List.{slice_split}
use Rattle.std.specs.Result.{result_ok}
use Rattle.auth_text.specs.Login.{Login, login}
use Rattle.session_text.specs.Words.{word_value}
use Rattle.spaces.specs.Places.{place}
use Rattle.spaces.specs.Partitions.{partition}
use Rattle.spaces.specs.declared.place.Origin.{Origin}
use Rattle.spaces.specs.declared.place.Place.{Place}
use Rattle.spaces.specs.declared.roster.Method.{Method}
use Rattle.spaces.specs.declared.roster.Method.TheVariants.{Get, Head}
use Rattle.spaces.specs.declared.site.Target.{Target}
use Rattle.spaces.specs.declared.site.Target.TheVariants.{Server, Proxy, Socks}
use Rattle.spaces.specs.declared.space.Scheme.{Scheme}
use Rattle.spaces.specs.declared.space.Scheme.TheVariants.{Basic, Digest, Negotiate, Password}
use Rattle.spaces.specs.declared.terms.Algorithm.{Algorithm}
use Rattle.spaces.specs.declared.terms.Algorithm.TheVariants.{Md5, Sha256}
use Rattle.spaces.specs.declared.terms.Qop.{Qop}
use Rattle.spaces.specs.declared.terms.Qop.TheVariants.{Auth, Missing}
use Rattle.report_reading.specs.Numbers.{code}

infixl 10 ◌>>=◌
abbrev pub ◌>>=◌ : {A B : Type 0} → Option A → (A → Option B) → Option B
(Some x) >>= f = f x
None >>= f = None

-- the line without its last byte, which is its line end
abbrev pub body : List ℕ → List ℕ
body line = take (length line - 1) line

-- the parts of a line between its spaces
abbrev pub words : List ℕ → List (List ℕ)
words line = slice_split (λ b. b == 32) (body line)

abbrev pub method_of : List ℕ → Method
method_of word = if bytes_eq word (codes "GET") then Get else Head

abbrev pub target_of : List ℕ → Target
target_of word = if bytes_eq word (codes "server") then Server else if bytes_eq word (codes "proxy") then Proxy else Socks

abbrev pub scheme_of : List ℕ → Scheme
scheme_of word =
    if bytes_eq word (codes "basic") then Basic
    else if bytes_eq word (codes "digest") then Digest
    else if bytes_eq word (codes "negotiate") then Negotiate
    else Password

abbrev pub algorithm_of : List ℕ → Algorithm
algorithm_of word = if bytes_eq word (codes "MD5") then Md5 else Sha256

abbrev pub qop_of : List ℕ → Qop
qop_of word = if bytes_eq word (codes "auth") then Auth else Missing

-- what stands before and behind the last colon
abbrev pub with_front : ℕ → Option (List ℕ × List ℕ) → List ℕ → Option (List ℕ × List ℕ)
with_front b (Some cut) bytes = Some (b ∷ cut.0, cut.1)
with_front b None bytes = if b == 58 then Some ([], bytes) else None

abbrev pub cut_last : List ℕ → Option (List ℕ × List ℕ)
cut_last [] = None
cut_last (b ∷ bytes) = with_front b (cut_last bytes) bytes

-- the cut at a place
abbrev pub cut_at : List ℕ → Option ℕ → Option (List ℕ × List ℕ)
cut_at bytes None = None
cut_at bytes (Some at) = Some (take at bytes, drop (at + 1) bytes)

-- host ":" port
abbrev pub origin_in : List ℕ → Option Origin
origin_in text = cut_last text >>= λ cut. Some (record { host = cut.0; port = code cut.1 })

abbrev pub origin_of : List ℕ → Option Origin
origin_of word = origin_in (word_value word)

-- `-` is no proxy
abbrev pub proxy_of : List ℕ → Option (Option Origin)
proxy_of word = if bytes_eq word (codes "-") then Some None else (origin_of word >>= λ origin. Some (Some origin))

abbrev pub partition_of : List ℕ → Option (List ℕ)
partition_of word = result_ok (partition (word_value word))

abbrev pub place_of : List ℕ → Option Place
place_of word = result_ok (place (word_value word))

abbrev pub login_of : List ℕ → List ℕ → Option Login
login_of user password = result_ok (login (word_value user) (word_value password))

-- the word at that place, from 0; where there is none, no bytes
abbrev pub word_at : List (List ℕ) → ℕ → List ℕ
word_at words at = slice_index_or words at []

abbrev pub opaque_of : List ℕ → List ℕ → Option (List ℕ)
opaque_of key word = if bytes_eq key (codes "opaque") then Some (word_value word) else None
