-- The head of a request (RFC 7230, sections 3 and 5.4; RFC 7235, sections 4.2 and 4.4).
use Rattle.std.specs.Prelude.{ℕ, Bool, true, false, List, [], ◌++◌, codes, Option, Some, None}
use Rattle.auth_text.specs.Text.{crlf}
use Rattle.spaces.specs.declared.roster.Method.{Method}
use Rattle.spaces.specs.declared.place.Origin.{Origin}
use Rattle.spaces.specs.RequestTargets.{method_name, port_text}

-- the method, the request target and the version
abbrev pub request_line : Method → List ℕ → List ℕ
request_line method target = method_name method ++ codes " " ++ target ++ codes " HTTP/1.1" ++ crlf

abbrev pub host_line : Origin → List ℕ
host_line origin = codes "Host: " ++ origin.host ++ port_text origin.port ++ crlf

-- a field, where there is a value
abbrev pub field_line : List ℕ → Option (List ℕ) → List ℕ
field_line name None = []
field_line name (Some value) = name ++ codes ": " ++ value ++ crlf

abbrev pub connection_line : Bool → List ℕ
connection_line true = codes "Connection: keep-alive" ++ crlf
connection_line false = codes "Connection: close" ++ crlf

-- the head of a request for a target of the origin, with the credentials for a proxy and for the server, and whether the connection is to stay
abbrev pub head : Method → List ℕ → Origin → Option (List ℕ) → Option (List ℕ) → Bool → List ℕ
head method target origin proxy server keep =
    request_line method target ++ host_line origin
    ++ field_line (codes "Proxy-Authorization") proxy ++ field_line (codes "Authorization") server
    ++ connection_line keep ++ crlf
