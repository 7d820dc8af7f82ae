-- What the words of the lines before the journal are taken for.
use Rattle.std.specs.Prelude.{ℕ, List, codes, bytes_eq, Option, Some, None, option_and_then, if◌then◌else◌}
use Rattle.std.specs.Result.{result_ok}
use Rattle.hex.specs.Hex.{decode_sized}
use Rattle.auth_text.specs.Login.{Login}
use Rattle.spaces.specs.declared.place.Origin.{Origin}
use Rattle.spaces.specs.declared.roster.Request.{Request}
use Rattle.spaces.specs.declared.site.Site.{Site}
use Rattle.spaces.specs.declared.space.Scheme.TheVariants.{Digest}
use Rattle.spaces.specs.declared.terms.Terms.{Terms}
use Rattle.spaces.specs.ProtectionSpaces.{ProtectionSpace, has_realm}
use Rattle.spaces.specs.Sites.{numbered, same_scheme}
use Rattle.auth_events.specs.declared.names.TermsName.{TermsName}
use Rattle.report_reading.specs.Numbers.{small}
use Rattle.report_reading.specs.Words.{◌>>=◌, word_at, method_of, target_of, scheme_of, algorithm_of, qop_of, origin_of, proxy_of, partition_of, place_of, login_of, opaque_of}
use Rattle.session_text.specs.Words.{word_value}

-- `seed h`
abbrev pub seed_form : List (List ℕ) → Option (List ℕ)
seed_form words = result_ok (decode_sized (word_at words 1) 32)

-- `default host:port`
abbrev pub default_form : List (List ℕ) → Option Origin
default_form words = origin_of (word_at words 1)

-- `request n method partition url proxy`
abbrev pub request_form : List (List ℕ) → Option Request
request_form words =
    partition_of (word_at words 3) >>= λ partition. place_of (word_at words 4) >>= λ place. proxy_of (word_at words 5) >>= λ proxy.
    Some (record { method = method_of (word_at words 2); partition = partition; place = place; proxy = proxy })

-- `partition target host:port`
abbrev pub site_form : List ℕ → List ℕ → List ℕ → Option Site
site_form partition target origin =
    partition_of partition >>= λ partition. origin_of origin >>= λ origin.
    Some (record { partition = partition; target = target_of target; origin = origin })

abbrev pub with_realm : Site → List ℕ → List ℕ → Option ProtectionSpace
with_realm site scheme realm =
    if has_realm (scheme_of scheme) realm then Some (record { site = site; scheme = scheme_of scheme; realm = realm }) else None

-- `space n partition target host:port scheme realm`
abbrev pub space_form : List (List ℕ) → Option ProtectionSpace
space_form words =
    site_form (word_at words 2) (word_at words 3) (word_at words 4) >>= λ site. with_realm site (word_at words 5) (word_value (word_at words 6))

-- the realm of a Digest space
abbrev pub digest_realm : ProtectionSpace → Option (List ℕ)
digest_realm space = if same_scheme space.scheme Digest then Some space.realm else None

-- the realm of the Digest space of that number
abbrev pub realm_at : List ProtectionSpace → ℕ → Option (List ℕ)
realm_at spaces s = option_and_then digest_realm (numbered spaces s)

-- the place of the word behind the opaque
abbrev pub behind_opaque : List ℕ → ℕ
behind_opaque key = if bytes_eq key (codes "opaque") then 10 else 9

-- `algorithm said qop noncetext opaque userhash`, from the word at place 4
abbrev pub terms_of : List (List ℕ) → List ℕ → Terms
terms_of words realm = record {
  algorithm = algorithm_of (word_at words 4);
  said = bytes_eq (word_at words 5) (codes "said");
  realm = realm;
  nonce = word_value (word_at words 7);
  opaque = opaque_of (word_at words 8) (word_at words 9);
  qop = qop_of (word_at words 6);
  userhash = bytes_eq (word_at words (behind_opaque (word_at words 8))) (codes "userhash");
}

-- `terms n space nonce ..`; the realm is that of the space
abbrev pub terms_form : List ProtectionSpace → List (List ℕ) → Option TermsName
terms_form spaces words =
    realm_at spaces (small (word_at words 2)) >>= λ realm.
    Some (record { space = small (word_at words 2); terms = terms_of words realm; nonce = small (word_at words 3) })

-- `text n user password`
abbrev pub text_form : List (List ℕ) → Option Login
text_form words = login_of (word_at words 2) (word_at words 3)
