-- Keys that stand for sites and spaces, and their order.
use Rattle.std.specs.Prelude.{ℕ, ◌≡◌}
use Rattle.std.specs.Cmp.Lexicographic.{slice_cmp}
use Rattle.std.specs.Ordering.{nat_cmp, ordering_then}
use Rattle.std.specs.declared.cmp.Ordering.{Ordering}
use Rattle.spaces.specs.ProtectionSpaces.{ProtectionSpace}
use Rattle.spaces.specs.declared.site.Site.{Site}
use Rattle.spaces.specs.declared.site.Target.{Target}
use Rattle.spaces.specs.declared.site.Target.TheVariants.{Server, Proxy, Socks}
use Rattle.spaces.specs.declared.space.Scheme.{Scheme}
use Rattle.spaces.specs.declared.space.Scheme.TheVariants.{Basic, Digest, Negotiate, Password}
use Rattle.space_keys.specs.declared.keys.SiteKey.{SiteKey}
use Rattle.space_keys.specs.declared.keys.SpaceKey.{SpaceKey}

-- a number for each target
abbrev pub target_number : Target → ℕ
target_number Server = 0
target_number Proxy = 1
target_number Socks = 2

-- a number for each scheme
abbrev pub scheme_number : Scheme → ℕ
scheme_number Basic = 0
scheme_number Digest = 1
scheme_number Negotiate = 2
scheme_number Password = 3

-- the key has the parts of the site
abbrev pub IsKeyOfSite : SiteKey → Site → Type 0
IsKeyOfSite key site = (key.partition.items ≡ site.partition) × (key.target ≡ target_number site.target)
    × (key.host.items ≡ site.origin.host) × (key.port ≡ site.origin.port)

-- the key has the parts of the space
abbrev pub IsKeyOfSpace : SpaceKey → ProtectionSpace → Type 0
IsKeyOfSpace key space =
    IsKeyOfSite key.site space.site × (key.scheme ≡ scheme_number space.scheme) × (key.realm.items ≡ space.realm)

-- keys in order, part by part
abbrev pub site_cmp : SiteKey → SiteKey → Ordering
site_cmp a b = ordering_then (slice_cmp nat_cmp a.partition.items b.partition.items)
    (ordering_then (nat_cmp a.target b.target) (ordering_then (slice_cmp nat_cmp a.host.items b.host.items) (nat_cmp a.port b.port)))

abbrev pub space_cmp : SpaceKey → SpaceKey → Ordering
space_cmp a b = ordering_then (site_cmp a.site b.site)
    (ordering_then (nat_cmp a.scheme b.scheme) (slice_cmp nat_cmp a.realm.items b.realm.items))
