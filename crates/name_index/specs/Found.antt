-- Maps that know the numbers of names.
use Rattle.std.specs.Prelude.{ℕ, ◌≡◌, Bool, false, List, Option, None, Some, option_map, unwrap_or, if◌then◌else◌}
use Rattle.std.specs.BTreeMap.{BTreeMap, get}
use Rattle.std.specs.declared.cmp.Ordering.{Ordering}
use Rattle.spaces.specs.ProtectionSpaces.{ProtectionSpace}
use Rattle.spaces.specs.Sites.{numbered, same_site, same_space}
use Rattle.spaces.specs.declared.site.Site.{Site}
use Rattle.auth_events.specs.declared.names.NonceName.{NonceName}
use Rattle.auth_events.specs.Tables.{Tables, is_that_nonce, is_that_terms, number_of}
use Rattle.space_keys.specs.declared.keys.SiteKey.{SiteKey}
use Rattle.space_keys.specs.Keys.{IsKeyOfSite, IsKeyOfSpace, site_cmp, space_cmp}
use Rattle.name_index.specs.TermsKeys.{IsKeyOfTerms, terms_cmp}
use Rattle.name_index.specs.NonceKeys.{IsKeyOfNonce, nonce_cmp}
use Rattle.name_index.specs.declared.nonce_key.NonceKey.{NonceKey}
use Rattle.name_index.specs.declared.index.NameIndex.{NameIndex}

-- at the key of what has a number among the things, the map has that number
abbrev pub Finds : {K A X : Type 0} → (K → K → Ordering) → (K → A → Type 0) → (A → X → Bool) → BTreeMap K ℕ → List X → Type 0
Finds {K} {A} cmp IsKeyOf test map things =
    (key : K) (asked : A) (n : ℕ) → IsKeyOf key asked → number_of (test asked) things ≡ Some n → get cmp map key ≡ Some n

-- the number, where the thing of that number passes
abbrev pub checked : {X : Type 0} → (X → Bool) → List X → Option ℕ → Option ℕ
checked test things None = None
checked test things (Some n) = if unwrap_or (option_map test (numbered things n)) false then Some n else None

-- the number of the first space of the site
abbrev pub first_of_site : List ProtectionSpace → Site → Option ℕ
first_of_site spaces site = number_of (λ named. same_site named.site site) spaces

-- the map has the number of the first space of each site
abbrev pub KnowsSites : BTreeMap SiteKey ℕ → List ProtectionSpace → Type 0
KnowsSites map spaces = Finds site_cmp IsKeyOfSite (λ site named. same_site named.site site) map spaces

-- the map has the number of each nonce
abbrev pub KnowsNonces : BTreeMap NonceKey ℕ → List NonceName → Type 0
KnowsNonces map nonces = Finds nonce_cmp IsKeyOfNonce (λ asked named. is_that_nonce asked.0 asked.1 named) map nonces

-- the maps have the number of each named space, of all terms, of the first space of each site and of each nonce
abbrev pub KnowsNames : NameIndex → Tables → Type 0
KnowsNames index names = Finds space_cmp IsKeyOfSpace (λ space named. same_space named space) index.spaces names.spaces
    × Finds terms_cmp IsKeyOfTerms (λ asked named. is_that_terms asked.0 asked.1 named) index.terms names.terms
    × KnowsSites index.sites names.spaces
    × KnowsNonces index.nonces names.nonces
