-- The sites of a request, and when two things are the same.
use Rattle.std.specs.Prelude.{ℕ, Bool, true, false, ◌&&◌, ◌==◌, ◌-◌, List, [], ◌∷◌, Option, None, Some, is_some, option_map, option_and_then, unwrap_or, slice_get, bytes_eq, if◌then◌else◌}
use Rattle.spaces.specs.declared.site.Target.{Target}
use Rattle.spaces.specs.declared.site.Target.TheVariants.{Server, Proxy, Socks}
use Rattle.spaces.specs.declared.place.Origin.{Origin}
use Rattle.spaces.specs.declared.site.Site.{Site}
use Rattle.spaces.specs.declared.space.Scheme.{Scheme}
use Rattle.spaces.specs.declared.space.Scheme.TheVariants.{Basic, Digest, Negotiate, Password}
use Rattle.spaces.specs.ProtectionSpaces.{ProtectionSpace}
use Rattle.spaces.specs.declared.roster.Request.{Request}

-- the thing of that number; things are numbered from 1
abbrev pub numbered : {A : Type 0} → List A → ℕ → Option A
numbered things n = if n == 0 then None else slice_get things (n - 1)

abbrev pub same_origin : Origin → Origin → Bool
same_origin a b = bytes_eq a.host b.host && a.port == b.port

abbrev pub same_target : Target → Target → Bool
same_target Server Server = true
same_target Proxy Proxy = true
same_target Socks Socks = true
same_target _ _ = false

abbrev pub same_site : Site → Site → Bool
same_site a b = bytes_eq a.partition b.partition && same_target a.target b.target && same_origin a.origin b.origin

abbrev pub same_scheme : Scheme → Scheme → Bool
same_scheme Basic Basic = true
same_scheme Digest Digest = true
same_scheme Negotiate Negotiate = true
same_scheme Password Password = true
same_scheme _ _ = false

abbrev pub same_space : ProtectionSpace → ProtectionSpace → Bool
same_space a b = same_site a.site b.site && same_scheme a.scheme b.scheme && bytes_eq a.realm b.realm

-- the request's site for the target, where the target is on its route: the proxy, where it has one, and the server
abbrev pub site : Request → Target → Option Site
site request Server = Some (record { partition = request.partition; target = Server; origin = request.place.origin })
site request Proxy = option_map (λ proxy. record { partition = request.partition; target = Proxy; origin = proxy }) request.proxy
site request Socks = None

-- the path that the target's credentials are noted for; 47 is `/`
abbrev pub path : Request → Target → List ℕ
path request Server = request.place.path
path request _ = 47 ∷ []

-- the target is on the request's route: the proxy, where it has one, and then the server
abbrev pub is_on_route : Request → Target → Bool
is_on_route request Server = true
is_on_route request Proxy = is_some request.proxy
is_on_route request Socks = false

-- there is a request of that number, and the target is on its route
abbrev pub is_routed : List Request → ℕ → Target → Bool
is_routed requests n target = unwrap_or (option_map (λ request. is_on_route request target) (numbered requests n)) false

-- the site of the numbered request for the target
abbrev pub site_of : List Request → ℕ → Target → Option Site
site_of requests n target = option_and_then (λ request. site request target) (numbered requests n)
