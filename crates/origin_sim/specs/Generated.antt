-- The generated session and its world: their servers, their proxy, and the requests that try them.
use Rattle.std.specs.Prelude.{ℕ, zero, suc, ◌%◌, ◌==◌, ◌&&◌, not, List, [], ◌∷◌, ◌++◌, codes, decimal, Option, Some, None, if◌then◌else◌}
use Rattle.auth_text.specs.Login.{Login}
use Rattle.link_trait.specs.Repeated.{times}
use Rattle.session_text.specs.declared.session.Session.{Session}
use Rattle.spaces.specs.declared.place.Origin.{Origin}
use Rattle.spaces.specs.declared.place.Place.{Place}
use Rattle.spaces.specs.declared.roster.Method.TheVariants.{Get}
use Rattle.spaces.specs.declared.roster.Request.{Request}
use Rattle.spaces.specs.declared.roster.Roster.{Roster}
use Rattle.spaces.specs.declared.site.Target.{Target}
use Rattle.spaces.specs.declared.site.Target.TheVariants.{Server, Proxy}
use Rattle.spaces.specs.declared.space.Scheme.{Scheme}
use Rattle.spaces.specs.declared.space.Scheme.TheVariants.{Basic, Digest}
use Rattle.spaces.specs.declared.terms.Algorithm.TheVariants.{Md5, Sha256}
use Rattle.spaces.specs.ProtectionSpaces.{ProtectionSpace}
use Rattle.origin_sim.specs.declared.rules.Kind.{Kind}
use Rattle.origin_sim.specs.declared.rules.Kind.TheVariants.{Open, Basic as BasicKind, Digest as DigestKind, Negotiate}
use Rattle.origin_sim.specs.declared.rules.Rule.{Rule}
use Rattle.origin_sim.specs.Worlds.{WorldState}

-- ---- the servers and the proxy

-- h0.example and so on
abbrev pub host_name : ℕ → List ℕ
host_name j = codes "h" ++ decimal j ++ codes ".example"

abbrev pub host : ℕ → Origin
host j = record { host = host_name j; port = 80 }

abbrev pub proxy : Origin
proxy = record { host = codes "proxy.example"; port = 3128 }

abbrev pub server_rule : ℕ → Kind → Rule
server_rule j kind = record { origin = host j; target = Server; kind = kind }

abbrev pub proxy_rule : Rule
proxy_rule = record { origin = proxy; target = Proxy; kind = BasicKind (codes "proxy") (codes "pu") (codes "pp") }

abbrev pub negotiate_kind : Kind
negotiate_kind = Negotiate (codes "a") (codes "b") (codes "c")

-- the rules, from number 1
unfoldable pub rules : List Rule
rules =
    proxy_rule
    ∷ server_rule 0 Open
    ∷ server_rule 1 (BasicKind (codes "r1") (codes "u1") (codes "p1"))
    ∷ server_rule 2 (DigestKind (codes "r2") (codes "u2") (codes "p2") Md5 20)
    ∷ server_rule 3 (DigestKind (codes "r3") (codes "u3") (codes "p3") Sha256 0)
    ∷ server_rule 4 negotiate_kind
    ∷ server_rule 5 Open
    ∷ []

-- ---- the requests

-- p0, p1 and p2
abbrev pub partition : ℕ → List ℕ
partition zero = codes "p0"
partition (suc zero) = codes "p1"
partition (suc (suc p)) = codes "p2"

abbrev pub path : ℕ → List ℕ
path i = codes "/d" ++ decimal (i % 7) ++ codes "/f" ++ decimal i

abbrev pub url : ℕ → List ℕ
url i = codes "http://" ++ host_name (i % 5) ++ path i

abbrev pub place : ℕ → Place
place i = record {
  text = url i;
  origin = host (i % 5);
  path = path i;
  query = None;
  identity = None;
}

-- every second request goes by the proxy, unless it goes to the Negotiate server
abbrev pub route : ℕ → Option Origin
route i = if i % 2 == 0 && not (i % 5 == 4) then Some proxy else None

abbrev pub request : ℕ → Request
request i = record { method = Get; partition = partition (i % 3); place = place i; proxy = route i }

-- the requests from number 1
abbrev pub requests : ℕ → List Request
requests zero = []
requests (suc n) = requests n ++ request (suc n) ∷ []

-- ---- the answers

abbrev pub space : ℕ → Target → Origin → Scheme → List ℕ → ProtectionSpace
space p target origin scheme realm = record {
  site = record { partition = partition p; target = target; origin = origin };
  scheme = scheme;
  realm = realm;
}

abbrev pub answer : ProtectionSpace → List ℕ → List ℕ → ProtectionSpace × Option Login
answer space user password = (space, Some (record { user = user; password = password }))

-- a server's space, with the user and the password that it accepts
abbrev pub server_answer : ℕ → ℕ → Scheme → List ℕ → List ℕ → List ℕ → ProtectionSpace × Option Login
server_answer p j scheme realm user password = answer (space p Server (host j) scheme realm) user password

-- for each rule that has a user and a password, those
unfoldable pub proxy_answer : ℕ → ProtectionSpace × Option Login
proxy_answer p = answer (space p Proxy proxy Basic (codes "proxy")) (codes "pu") (codes "pp")

unfoldable pub first_answer : ℕ → ProtectionSpace × Option Login
first_answer p = server_answer p 1 Basic (codes "r1") (codes "u1") (codes "p1")

unfoldable pub second_answer : ℕ → ProtectionSpace × Option Login
second_answer p = server_answer p 2 Digest (codes "r2") (codes "u2") (codes "p2")

unfoldable pub third_answer : ℕ → ProtectionSpace × Option Login
third_answer p = server_answer p 3 Digest (codes "r3") (codes "u3") (codes "p3")

-- a partition's answers, each so many times
abbrev pub answers_in : ℕ → ℕ → List (ProtectionSpace × Option Login)
answers_in count p =
    times count (proxy_answer p) ++ times count (first_answer p) ++ times count (second_answer p) ++ times count (third_answer p)

unfoldable pub answers : ℕ → List (ProtectionSpace × Option Login)
answers count = answers_in count 0 ++ answers_in count 1 ++ answers_in count 2

-- ---- both

abbrev pub roster : ℕ → Roster
roster n = record { requests = requests n; allowed = host 4 ∷ [] }

-- the session of so many requests
abbrev pub session : ℕ → Session
session n = record { workers = 1; roster = roster n; answers = answers 2048; links = []; steps = [] }

-- its world, which answered nothing yet
abbrev pub world : WorldState
world = record { number = 1; rules = rules; past = [] }
