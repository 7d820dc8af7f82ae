-- Two keys are equal in their order where what they stand for is the same.
use Rattle.std.proofs.Common.{◌≡◌, ◌∙◌, ℕ, ◌==◌, Bool, true, false, ◌&&◌, refl, ap, ap₂, arith, bytes_eq}
use Rattle.std.proofs.lemmas.Map.Text.{is_eq-slice_cmp}
use Rattle.std.specs.Ordering.{nat_cmp, ordering_then, is_eq}
use Rattle.std.specs.declared.cmp.Ordering.{Ordering}
use Rattle.std.specs.declared.cmp.Ordering.TheVariants.{Less, Equal, Greater}
use Rattle.spaces.specs.ProtectionSpaces.{ProtectionSpace}
use Rattle.spaces.specs.Sites.{same_scheme, same_site, same_space, same_target}
use Rattle.spaces.specs.declared.site.Site.{Site}
use Rattle.spaces.specs.declared.site.Target.{Target}
use Rattle.spaces.specs.declared.site.Target.TheVariants.{Server, Proxy, Socks}
use Rattle.spaces.specs.declared.space.Scheme.{Scheme}
use Rattle.spaces.specs.declared.space.Scheme.TheVariants.{Basic, Digest, Negotiate, Password}
use Rattle.space_keys.specs.declared.keys.SiteKey.{SiteKey}
use Rattle.space_keys.specs.declared.keys.SpaceKey.{SpaceKey}
use Rattle.space_keys.specs.Keys.{IsKeyOfSite, IsKeyOfSpace, scheme_number, site_cmp, space_cmp, target_number}

pub is_eq-then : (x y : Ordering) → is_eq (ordering_then x y) ≡ (is_eq x && is_eq y)
is_eq-then Less y = refl
is_eq-then Equal y = refl
is_eq-then Greater y = refl

pub is_eq-nat_cmp : (a b : ℕ) → is_eq (nat_cmp a b) ≡ (a == b)
is_eq-nat_cmp a b = grind arith

targets : (a b : Target) → (target_number a == target_number b) ≡ same_target a b
targets Server Server = refl
targets Server Proxy = refl
targets Server Socks = refl
targets Proxy Server = refl
targets Proxy Proxy = refl
targets Proxy Socks = refl
targets Socks Server = refl
targets Socks Proxy = refl
targets Socks Socks = refl

schemes : (a b : Scheme) → (scheme_number a == scheme_number b) ≡ same_scheme a b
schemes Basic Basic = refl
schemes Basic Digest = refl
schemes Basic Negotiate = refl
schemes Basic Password = refl
schemes Digest Basic = refl
schemes Digest Digest = refl
schemes Digest Negotiate = refl
schemes Digest Password = refl
schemes Negotiate Basic = refl
schemes Negotiate Digest = refl
schemes Negotiate Negotiate = refl
schemes Negotiate Password = refl
schemes Password Basic = refl
schemes Password Digest = refl
schemes Password Negotiate = refl
schemes Password Password = refl

four : (p t h o : Bool) → (p && (t && (h && o))) ≡ ((p && t) && (h && o))
four false t h o = refl
four true t h o = refl

three : (a b c : Bool) → (a && (b && c)) ≡ ((a && b) && c)
three false b c = refl
three true b c = refl

pub same_site_keys : (a b : SiteKey) (s t : Site) → IsKeyOfSite a s → IsKeyOfSite b t → is_eq (site_cmp a b) ≡ same_site s t
same_site_keys a b s t of_s of_t =
    let (partition, target, host, port) = of_s in
    let (partition', target', host', port') = of_t in
    is_eq-then _ _ ∙ ap₂ ◌&&◌ (is_eq-slice_cmp a.partition.items b.partition.items ∙ ap₂ bytes_eq partition partition')
    (is_eq-then _ _ ∙ ap₂ ◌&&◌ (is_eq-nat_cmp a.target b.target ∙ ap₂ ◌==◌ target target' ∙ targets s.target t.target)
    (is_eq-then _ _ ∙ ap₂ ◌&&◌ (is_eq-slice_cmp a.host.items b.host.items ∙ ap₂ bytes_eq host host')
    (is_eq-nat_cmp a.port b.port ∙ ap₂ ◌==◌ port port')))
    ∙ four (bytes_eq s.partition t.partition) (same_target s.target t.target) (bytes_eq s.origin.host t.origin.host) (s.origin.port == t.origin.port)

pub same_space_keys : (a b : SpaceKey) (s t : ProtectionSpace) → IsKeyOfSpace a s → IsKeyOfSpace b t → is_eq (space_cmp a b) ≡ same_space s t
same_space_keys a b s t of_s of_t =
    let (site, scheme, realm) = of_s in
    let (site', scheme', realm') = of_t in
    is_eq-then _ _ ∙ ap₂ ◌&&◌ (same_site_keys a.site b.site s.site t.site site site')
    (is_eq-then _ _ ∙ ap₂ ◌&&◌ (is_eq-nat_cmp a.scheme b.scheme ∙ ap₂ ◌==◌ scheme scheme' ∙ schemes s.scheme t.scheme)
    (is_eq-slice_cmp a.realm.items b.realm.items ∙ ap₂ bytes_eq realm realm'))
    ∙ three (same_site s.site t.site) (same_scheme s.scheme t.scheme) (bytes_eq s.realm t.realm)
