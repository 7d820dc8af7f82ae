-- The session of the runs: two requests for one URL in two partitions, each challenged on its first link and answered on its second.
use Rattle.std.specs.Prelude.{ℕ, ◌==◌, true, List, [], ◌∷◌, ◌++◌, codes, Some, None, if◌then◌else◌}
use Rattle.auth_text.specs.Login.{Login}
use Rattle.spaces.specs.declared.place.Origin.{Origin}
use Rattle.spaces.specs.declared.roster.Request.{Request}
use Rattle.spaces.specs.declared.roster.Roster.{Roster}
use Rattle.spaces.specs.declared.roster.Method.TheVariants.{Get}
use Rattle.spaces.specs.declared.site.Target.TheVariants.{Server}
use Rattle.spaces.specs.declared.space.Scheme.TheVariants.{Basic}
use Rattle.spaces.specs.ProtectionSpaces.{ProtectionSpace}
use Rattle.wire_head.specs.declared.reply.Reply.{Reply}
use Rattle.link_trait.specs.declared.steps.Step.TheVariants.{NoMechanism}
use Rattle.trace_rule.specs.Heard.{ended}
use Rattle.run_rule.specs.Outside.{Outside}

-- REQUESTS

abbrev pub server : Origin
server = record { host = codes "h"; port = 80 }

abbrev pub request_in : List ℕ → Request
request_in partition = record {
  method = Get;
  partition = partition;
  place = record { text = codes "http://h/"; origin = server; path = codes "/"; query = None; identity = None };
  proxy = None;
}

abbrev pub first_request : Request
first_request = request_in (codes "p")

abbrev pub second_request : Request
second_request = request_in (codes "q")

-- a session of the first request alone, and one of both
abbrev pub one_request : Roster
one_request = record { requests = first_request ∷ []; allowed = [] }

abbrev pub two_requests : Roster
two_requests = record { requests = first_request ∷ second_request ∷ []; allowed = [] }

abbrev pub seed : List ℕ
seed = []

-- THE OUTSIDE

abbrev pub challenge : Reply
challenge = record { code = 401; stays = true; body = 0; fields = codes "Basic realm=x" ∷ []; server_info = []; proxy_info = [] }

abbrev pub answer : Reply
answer = record { code = 200; stays = true; body = 0; fields = []; server_info = []; proxy_info = [] }

abbrev pub challenge_bytes : List ℕ
challenge_bytes = codes "HTTP/1.1 401 No\r\nWWW-Authenticate: Basic realm=x\r\nContent-Length: 0\r\n\r\n"

abbrev pub answer_bytes : List ℕ
answer_bytes = codes "HTTP/1.1 200 OK\r\nContent-Length: 0\r\n\r\n"

abbrev pub login : Login
login = record { user = codes "u"; password = codes "p" }

-- each first link challenges and each other one answers, there is no mechanism, and the first prompt of each space is given
abbrev pub outside : Outside
outside = record {
  streams = λ link. ended (if link.nth == 1 then challenge_bytes else answer_bytes);
  steps = λ r n. NoMechanism;
  answers = λ space ordinal. if ordinal == 1 then Some login else None;
}

-- the space of a partition
abbrev pub space_in : List ℕ → ProtectionSpace
space_in partition = record {
  site = record { partition = partition; target = Server; origin = server };
  scheme = Basic;
  realm = codes "x";
}

-- HEADS

-- a head to a host, with these fields between
abbrev pub head_to : List ℕ → List ℕ → List ℕ
head_to host fields = codes "GET / HTTP/1.1\r\nHost: " ++ host ++ codes "\r\n" ++ fields ++ codes "Connection: close\r\n\r\n"

abbrev pub bare_head : List ℕ
bare_head = head_to (codes "h") []

-- with the identity that the prompt gave
abbrev pub full_head : List ℕ
full_head = head_to (codes "h") (codes "Authorization: Basic dTpw\r\n")
