-- What a request's trace is judged by: the request, and what numbers and gifts mean.
use Rattle.std.specs.Prelude.{◌≡◌, ℕ, Bool, true, false, ◌&&◌, ◌||◌, List, Option, Some, None, is_some, unwrap_or, option_map, if◌then◌else◌}
use Rattle.auth_text.specs.Login.{Login}
use Rattle.spaces.specs.declared.roster.Request.{Request}
use Rattle.spaces.specs.declared.roster.Roster.{Roster}
use Rattle.spaces.specs.declared.place.Origin.{Origin}
use Rattle.spaces.specs.declared.site.Target.{Target}
use Rattle.spaces.specs.declared.site.Target.TheVariants.{Server, Proxy}
use Rattle.spaces.specs.declared.space.Scheme.{Scheme}
use Rattle.spaces.specs.declared.space.Scheme.TheVariants.{Basic, Digest}
use Rattle.spaces.specs.declared.terms.Terms.{Terms}
use Rattle.spaces.specs.ProtectionSpaces.{ProtectionSpace}
use Rattle.spaces.specs.Sites.{numbered, same_target, same_scheme}
use Rattle.auth_events.specs.declared.journal.Gift.{Gift}
use Rattle.auth_events.specs.declared.journal.Entry.{Entry}
use Rattle.auth_events.specs.declared.names.TermsName.{TermsName}
use Rattle.auth_events.specs.Tables.{Tables, space_number, terms_number}
use Rattle.auth_events.specs.Identities.{identity}

-- names and journal enter a trace only by what they mean
pub record Setting : Type 0 where
  -- the request and its number
  pub number : ℕ
  pub request : Request
  -- what client nonces are made of
  pub seed : List ℕ
  -- `negotiate` challenges are answered, and not passed over
  pub has_negotiate : Bool
  -- the number of a space, where it has one, and the space of a number
  pub space_no : ProtectionSpace → Option ℕ
  pub space_of : ℕ → Option ProtectionSpace
  -- the number of a space's terms, where they have one, and the terms of a number
  pub terms_no : ℕ → Terms → Option ℕ
  pub terms_of : ℕ → Option TermsName
  -- the identity that a gift stands for
  pub identity_of : Gift → Option Login

-- what the names mean, and the entries, the latest first, of a book
abbrev pub setting_of : Roster → List ℕ → Tables → List Entry → ℕ → Request → Setting
setting_of roster seed names past number request = record {
  number = number;
  request = request;
  seed = seed;
  -- so far they are passed over
  has_negotiate = false;
  space_no = space_number names;
  space_of = numbered names.spaces;
  terms_no = terms_number names;
  terms_of = numbered names.terms;
  identity_of = identity roster names past;
}

-- the first that is there
abbrev pub or_else : {A : Type 0} → Option A → Option A → Option A
or_else None later = later
or_else (Some a) later = Some a

-- THE ROUTE

-- the request goes through a proxy
abbrev pub is_proxied : Setting → Bool
is_proxied s = is_some s.request.proxy

-- the first target of the route
abbrev pub first_target : Setting → Target
first_target s = if is_proxied s then Proxy else Server

-- where links go: to the proxy, or else to the server
abbrev pub next_hop : Setting → Origin
next_hop s = unwrap_or s.request.proxy s.request.place.origin

-- what the proxy gives, or else the server
abbrev pub for_route : {A : Type 0} → (Target → Option A) → Option A
for_route f = or_else (f Proxy) (f Server)

-- WHAT IS KNOWN

abbrev pub scheme_is : Setting → ℕ → Scheme → Bool
scheme_is s space scheme = unwrap_or (option_map (λ named. same_scheme named.scheme scheme) (s.space_of space)) false

-- Basic and Digest gifts are kept by path
abbrev pub is_by_path : Setting → ℕ → Bool
is_by_path s space = scheme_is s space Basic || scheme_is s space Digest

abbrev pub target_is : Setting → ℕ → Target → Bool
target_is s space t = unwrap_or (option_map (λ named. same_target named.site.target t) (s.space_of space)) false

-- the space of the gift and its identity are known
abbrev pub knows_gift : Setting → Gift → Bool
knows_gift s gift = is_some (s.space_of gift.space) && is_some (s.identity_of gift)

-- the terms of a Digest space are known
abbrev pub knows_terms : Setting → ℕ → ℕ → Bool
knows_terms s space terms = if scheme_is s space Digest then is_some (s.terms_of terms) else true

-- the number of a space stands for that space
abbrev pub IsNumbered : Setting → Type 0
IsNumbered s = (space : ProtectionSpace) (n : ℕ) → s.space_no space ≡ Some n → s.space_of n ≡ Some space
