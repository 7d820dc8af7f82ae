-- The names of a book: what its numbers stand for. Numbers begin at 1.
use Rattle.std.specs.Prelude.{◌≡◌, ℕ, suc, ◌+◌, ◌*◌, ◌≤◌, Bool, true, false, ◌&&◌, ◌==◌, nat_le, if◌then◌else◌, IsTrue, List, [], ◌∷◌, ◌++◌, length, map, reverse, Option, Some, is_some, option_map, unwrap_or, bytes_eq}
use Rattle.std.specs.List.{position_from, cons_option}
use Rattle.auth_text.specs.Login.{Login}
use Rattle.spaces.specs.declared.site.Site.{Site}
use Rattle.spaces.specs.declared.space.Scheme.TheVariants.{Digest}
use Rattle.spaces.specs.declared.terms.Terms.{Terms}
use Rattle.spaces.specs.ProtectionSpaces.{ProtectionSpace, has_realm}
use Rattle.spaces.specs.DigestTerms.{same_terms}
use Rattle.spaces.specs.Sites.{numbered, same_scheme, same_site, same_space}
use Rattle.auth_events.specs.declared.names.TermsName.{TermsName}
use Rattle.auth_events.specs.declared.names.NonceName.{NonceName}

-- four lists in order of number
pub record Tables : Type 0 where
  pub spaces : List ProtectionSpace
  pub terms : List TermsName
  pub nonces : List NonceName
  pub texts : List Login

-- nothing is named
abbrev pub no_names : Tables
no_names = record { spaces = []; terms = []; nonces = []; texts = [] }

-- the number of the first thing that passes the test
abbrev pub number_of : {A : Type 0} → (A → Bool) → List A → Option ℕ
number_of test things = option_map suc (position_from test 0 things)

-- the number of the space, where it has one
abbrev pub space_number : Tables → ProtectionSpace → Option ℕ
space_number names space = number_of (λ named. same_space named space) names.spaces

abbrev pub is_that_terms : ℕ → Terms → TermsName → Bool
is_that_terms s terms name = name.space == s && same_terms name.terms terms

-- the number of the space's terms, where they have one
abbrev pub terms_number : Tables → ℕ → Terms → Option ℕ
terms_number names s terms = number_of (is_that_terms s terms) names.terms

abbrev pub is_that_nonce : Site → List ℕ → NonceName → Bool
is_that_nonce site text name = same_site name.site site && bytes_eq name.text text

-- the number that the nonce of a site has, or else the next one
abbrev pub nonce_number : Tables → Site → List ℕ → ℕ
nonce_number names site text = unwrap_or (number_of (is_that_nonce site text) names.nonces) (length names.nonces + 1)

-- the number of the terms' nonce at the space's site
abbrev pub nonce_for : Tables → ℕ → Terms → ℕ
nonce_for names s terms = unwrap_or (option_map (λ space. nonce_number names space.site terms.nonce) (numbered names.spaces s)) 0

-- the site and the text of the terms' nonce: two realms of one site share it
abbrev pub nonce_named : Tables → TermsName → Option NonceName
nonce_named names name = option_map (λ space. record { site = space.site; text = name.terms.nonce }) (numbered names.spaces name.space)

-- the space is a Digest space with the terms' realm
abbrev pub is_home : Tables → ℕ → Terms → Bool
is_home names s terms = unwrap_or (option_map (λ space. same_scheme space.scheme Digest && bytes_eq space.realm terms.realm) (numbered names.spaces s)) false

-- with a space more
abbrev pub with_space : Tables → ProtectionSpace → Tables
with_space names space = record names { spaces = names.spaces ++ space ∷ [] }

-- the nonces, with that of the terms where its number is new
abbrev pub with_nonce : Tables → TermsName → List NonceName
with_nonce names name =
    if nat_le name.nonce (length names.nonces) then names.nonces else names.nonces ++ cons_option (nonce_named names name) []

-- with the space, where it has no number yet
abbrev pub with_new_space : Tables → ProtectionSpace → Tables
with_new_space names space = if is_some (space_number names space) then names else with_space names space

-- with terms more
abbrev pub with_terms : Tables → TermsName → Tables
with_terms names name = record names { terms = names.terms ++ name ∷ []; nonces = with_nonce names name }

-- with the terms of the space, where they have no number yet
abbrev pub with_new_terms : Tables → ℕ → Terms → Tables
with_new_terms names s terms =
    if is_some (terms_number names s terms)
    then names
    else with_terms names (record { space = s; terms = terms; nonce = nonce_for names s terms })

-- with a text more
abbrev pub with_text : Tables → Login → Tables
with_text names text = record names { texts = names.texts ++ text ∷ [] }

-- WHAT NAMES KEEP

abbrev pub larger : ℕ → ℕ → ℕ
larger a b = if nat_le a b then b else a

abbrev pub greatest : List ℕ → ℕ
greatest [] = 0
greatest (n ∷ earlier) = larger n (greatest earlier)

-- each number, the latest first, is one that stands before it, or the next one
abbrev pub is_rising : List ℕ → Bool
is_rising [] = true
is_rising (n ∷ earlier) = nat_le 1 n && nat_le n (greatest earlier + 1) && is_rising earlier

-- the nonce numbers of the terms, the latest first
abbrev pub nonce_numbers : List TermsName → List ℕ
nonce_numbers terms = reverse (map (λ name. name.nonce) terms)

-- no two things of the list are equal
abbrev pub IsNumberedOnce : {A : Type 0} → List A → Type 0
IsNumberedOnce {A} things = (thing : A) (i j : ℕ) → numbered things i ≡ Some thing → numbered things j ≡ Some thing → i ≡ j

-- the terms stand at home, and their nonce number names their site and nonce text
pub record AreAtHome (names : Tables) (name : TermsName) : Type 0 where
  pub home : IsTrue (is_home names name.space name.terms)
  pub nonce : numbered names.nonces name.nonce ≡ nonce_named names name

-- what the names of a book keep
pub record AreNames (names : Tables) : Type 0 where
  -- no two spaces are equal
  pub spaces : IsNumberedOnce names.spaces
  -- no two terms of one space are equal
  pub terms : (a b : TermsName) (i j : ℕ) → numbered names.terms i ≡ Some a → numbered names.terms j ≡ Some b → a.space ≡ b.space → a.terms ≡ b.terms → i ≡ j
  -- the space of terms is a Digest space with their realm, and their nonce is that of its site
  pub home : (name : TermsName) (i : ℕ) → numbered names.terms i ≡ Some name → AreAtHome names name
  -- one site and nonce text have one number
  pub nonces : IsNumberedOnce names.nonces
  -- the nonce numbers of the terms rise from 1 by first occurrence
  pub rising : IsTrue (is_rising (nonce_numbers names.terms))
  -- each nonce has terms
  pub used : greatest (nonce_numbers names.terms) ≡ length names.nonces
  -- a Negotiate space has the empty realm
  pub realms : (space : ProtectionSpace) (i : ℕ) → numbered names.spaces i ≡ Some space → IsTrue (has_realm space.scheme space.realm)

-- the limits: of each kind 64 for each request, and of nonces 16
pub record AreFew (requests : ℕ) (names : Tables) : Type 0 where
  pub spaces : length names.spaces ≤ 64 * requests
  pub terms : length names.terms ≤ 64 * requests
  pub nonces : length names.nonces ≤ 16 * requests
  pub texts : length names.texts ≤ 64 * requests
