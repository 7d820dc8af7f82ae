-- How many names each caller may make: for each request that it began, 64 spaces, 64 terms, 64 texts and 16 nonces.
use Rattle.std.specs.Prelude.{◌≡◌, ℕ, ◌+◌, ◌*◌, ◌≤◌, ◌<◌, ◌⊎◌, ◌==◌, nat_lt, if◌then◌else◌, Bool, true, false, IsTrue, List, [], ◌∷◌, ◌++◌, None, length, count_by, is_some}
use Rattle.spaces.specs.declared.terms.Terms.{Terms}
use Rattle.spaces.specs.ProtectionSpaces.{ProtectionSpace}
use Rattle.spaces.specs.Sites.{numbered}
use Rattle.auth_events.specs.declared.told.Told.{Told}
use Rattle.auth_events.specs.declared.told.Told.TheVariants.{Made, SpaceNamed, TermsNamed, TextNamed}
use Rattle.auth_events.specs.Book.{begins}
use Rattle.auth_events.specs.Tables.{Tables, no_names, space_number, terms_number, nonce_for}
use Rattle.auth_events.specs.Told.{entry_told, names_told, with_told}
use Rattle.book_laws.specs.Owners.{items_of, maker}

abbrev pub begins_request : Told → Bool
begins_request (Made entry) = begins entry.call
begins_request (SpaceNamed caller space) = false
begins_request (TermsNamed caller name) = false
begins_request (TextNamed caller text) = false

abbrev pub names_space : Told → Bool
names_space (Made entry) = false
names_space (SpaceNamed caller space) = true
names_space (TermsNamed caller name) = false
names_space (TextNamed caller text) = false

abbrev pub names_terms : Told → Bool
names_terms (Made entry) = false
names_terms (SpaceNamed caller space) = false
names_terms (TermsNamed caller name) = true
names_terms (TextNamed caller text) = false

abbrev pub names_text : Told → Bool
names_text (Made entry) = false
names_text (SpaceNamed caller space) = false
names_text (TermsNamed caller name) = false
names_text (TextNamed caller text) = true

-- the item's terms have a nonce whose number is behind those of all nonces named so far
abbrev pub names_nonce : Tables → Told → Bool
names_nonce names (Made entry) = false
names_nonce names (SpaceNamed caller space) = false
names_nonce names (TermsNamed caller name) = nat_lt (length names.nonces) name.nonce
names_nonce names (TextNamed caller text) = false

-- how many requests were begun, and how many spaces, terms and texts were named
abbrev pub begun : List Told → ℕ
begun told = count_by begins_request told

abbrev pub spaces_named : List Told → ℕ
spaces_named told = count_by names_space told

abbrev pub terms_named : List Told → ℕ
terms_named told = count_by names_terms told

abbrev pub texts_named : List Told → ℕ
texts_named told = count_by names_text told

-- how many nonces got their numbers by the caller's terms, where these names were told before the list
abbrev pub nonces_behind : ℕ → Tables → List Told → ℕ
nonces_behind c names [] = 0
nonces_behind c names (item ∷ rest) =
    (if maker item == c then (if names_nonce names item then 1 else 0) else 0) + nonces_behind c (with_told names item) rest

abbrev pub nonces_named : ℕ → List Told → ℕ
nonces_named c told = nonces_behind c no_names told

-- the caller has named no more than it may
abbrev pub IsWithinShare : List Told → ℕ → Type 0
IsWithinShare told c =
    (spaces_named (items_of c told) ≤ 64 * begun (items_of c told))
    × (terms_named (items_of c told) ≤ 64 * begun (items_of c told))
    × (texts_named (items_of c told) ≤ 64 * begun (items_of c told))
    × (nonces_named c told ≤ 16 * begun (items_of c told))

-- no caller has named more than it may
abbrev pub IsWithinShares : List Told → Type 0
IsWithinShares told = (c : ℕ) → IsWithinShare told c

-- WHAT A CALLER MAY NAME, by its own items and by all that it has seen

-- a space is left to it, or the space has its number
abbrev pub HasSpaceLeft : List Told → List Told → ProtectionSpace → Type 0
HasSpaceLeft mine seen space = (spaces_named mine < 64 * begun mine) ⊎ IsTrue (is_some (space_number (names_told seen) space))

-- terms are left to it, and a nonce or the nonce has its number; or the terms have theirs
abbrev pub HasTermsLeft : ℕ → List Told → List Told → ℕ → Terms → Type 0
HasTermsLeft c mine seen s terms =
    (terms_named mine < 64 * begun mine)
    × ((nonces_named c seen < 16 * begun mine) ⊎ IsTrue (is_some (numbered (names_told seen).nonces (nonce_for (names_told seen) s terms))))
    ⊎ IsTrue (is_some (terms_number (names_told seen) s terms))

-- a text is left to it
abbrev pub HasTextLeft : List Told → Type 0
HasTextLeft mine = texts_named mine < 64 * begun mine

-- WHAT A NAMING DOES

-- one new name of the caller was told, and the caller has named no more than it may
pub record AddsName (number : ℕ) (told more : List Told) : Type 0 where
  pub item : Told
  pub name : entry_told item ≡ None
  pub own : maker item ≡ number
  pub grows : more ≡ told ++ item ∷ []
  pub within : IsWithinShare more number

-- the list is as it was, or one name was added
abbrev pub IsNamedBy : ℕ → List Told → List Told → Type 0
IsNamedBy number told more = (more ≡ told) ⊎ AddsName number told more
