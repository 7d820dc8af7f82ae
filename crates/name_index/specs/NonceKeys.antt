-- Keys that stand for the nonces of sites, and their order.
use Rattle.std.specs.Prelude.{ℕ, ◌≡◌, List}
use Rattle.std.specs.Cmp.Lexicographic.{slice_cmp}
use Rattle.std.specs.Ordering.{nat_cmp, ordering_then}
use Rattle.std.specs.declared.cmp.Ordering.{Ordering}
use Rattle.spaces.specs.declared.site.Site.{Site}
use Rattle.space_keys.specs.Keys.{IsKeyOfSite, site_cmp}
use Rattle.name_index.specs.declared.nonce_key.NonceKey.{NonceKey}

-- the key has the parts of the site, and the nonce's text
abbrev pub IsKeyOfNonce : NonceKey → Site × List ℕ → Type 0
IsKeyOfNonce key asked = IsKeyOfSite key.site asked.0 × (key.text.items ≡ asked.1)

-- keys in order, the sites' first
abbrev pub nonce_cmp : NonceKey → NonceKey → Ordering
nonce_cmp a b = ordering_then (site_cmp a.site b.site) (slice_cmp nat_cmp a.text.items b.text.items)
