-- The method of a request line, and what the line names (RFC 7230, section 5.3).
use Rattle.std.specs.Prelude.{ℕ, Bool, ◌==◌, List, [], ◌∷◌, ◌++◌, codes, decimal, Option, Some, None, if◌then◌else◌}
use Rattle.spaces.specs.declared.roster.Method.{Method}
use Rattle.spaces.specs.declared.roster.Method.TheVariants.{Get, Head}
use Rattle.spaces.specs.declared.place.Origin.{Origin}
use Rattle.spaces.specs.declared.place.Place.{Place}

abbrev pub method_name : Method → List ℕ
method_name Get = codes "GET"
method_name Head = codes "HEAD"

-- `:` and the port, unless it is http's own
abbrev pub port_text : ℕ → List ℕ
port_text port = if port == 80 then [] else 58 ∷ decimal port

-- the host, and the port unless it is http's own
abbrev pub authority : Origin → List ℕ
authority origin = origin.host ++ port_text origin.port

-- `?` and the query, where there is one
abbrev pub query_text : Option (List ℕ) → List ℕ
query_text None = []
query_text (Some query) = 63 ∷ query

-- a proxy gets the scheme and the authority first
abbrev pub target_start : Origin → Bool → List ℕ
target_start origin proxy = if proxy then codes "http://" ++ authority origin else []

-- the request target: the absolute form for a proxy, else path and query alone; never a fragment or an identity
abbrev pub request_target : Place → Bool → List ℕ
request_target place proxy = target_start place.origin proxy ++ place.path ++ query_text place.query
