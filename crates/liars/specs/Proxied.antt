-- A run of a request through a proxy: proxy and server challenge with one realm, and each is given its own identity.
use Rattle.std.specs.Prelude.{ℕ, ◌==◌, List, [], ◌∷◌, ◌++◌, codes, Some, None, if◌then◌else◌}
use Rattle.auth_text.specs.Login.{Login}
use Rattle.spaces.specs.declared.place.Origin.{Origin}
use Rattle.spaces.specs.declared.roster.Request.{Request}
use Rattle.spaces.specs.declared.roster.Roster.{Roster}
use Rattle.spaces.specs.declared.site.Target.TheVariants.{Server, Proxy}
use Rattle.spaces.specs.declared.space.Scheme.TheVariants.{Basic}
use Rattle.spaces.specs.Sites.{same_target}
use Rattle.spaces.specs.ProtectionSpaces.{ProtectionSpace}
use Rattle.auth_events.specs.declared.journal.Call.TheVariants.{Begin, Preempt, Select, Answer, Note, End}
use Rattle.auth_events.specs.declared.journal.BookReply.TheVariants.{Begun, Nothing, Lead, Given, Noted, Ended as RequestEnded}
use Rattle.auth_events.specs.declared.journal.Entry.{Entry}
use Rattle.wire_head.specs.declared.reply.Reply.{Reply}
use Rattle.link_trait.specs.declared.prompts.AskSeen.TheVariants.{Given as AskGiven}
use Rattle.auth_runs.specs.declared.event.Outcome.TheVariants.{Answered}
use Rattle.auth_runs.specs.declared.event.Event.{Event}
use Rattle.auth_runs.specs.declared.event.Event.TheVariants.{Called, Dialed, Headed, Replied, AskedFor, Ended}
use Rattle.auth_runs.specs.Runs.{Run}
use Rattle.trace_rule.specs.Heard.{ended}
use Rattle.run_rule.specs.Outside.{Outside}
use Rattle.liars.specs.Session.{first_request, seed, challenge, answer, challenge_bytes, answer_bytes, login, outside, space_in}
use Rattle.liars.specs.Honest.{made, gift, names_of}

-- THE SESSION

abbrev pub proxy : Origin
proxy = record { host = codes "x"; port = 80 }

abbrev pub proxied_request : Request
proxied_request = record first_request { proxy = Some proxy }

abbrev pub proxied_roster : Roster
proxied_roster = record { requests = proxied_request ∷ []; allowed = [] }

abbrev pub proxy_challenge : Reply
proxy_challenge = record challenge { code = 407 }

abbrev pub proxy_bytes : List ℕ
proxy_bytes = codes "HTTP/1.1 407 No\r\nProxy-Authenticate: Basic realm=x\r\nContent-Length: 0\r\n\r\n"

abbrev pub proxy_login : Login
proxy_login = record { user = codes "a"; password = codes "b" }

-- the first link's challenge is the proxy's, and the second one's is the server's; each has its identity
abbrev pub proxied_outside : Outside
proxied_outside = record outside {
  streams = λ link. ended (if link.nth == 1 then proxy_bytes else (if link.nth == 2 then challenge_bytes else answer_bytes));
  answers = λ space ordinal. if ordinal == 1 then Some (if same_target space.site.target Proxy then proxy_login else login) else None;
}

abbrev pub proxy_space : ProtectionSpace
proxy_space = record {
  site = record { partition = codes "p"; target = Proxy; origin = proxy };
  scheme = Basic;
  realm = codes "x";
}

-- a head with these fields between
abbrev pub proxied_head : List ℕ → List ℕ
proxied_head fields = codes "GET http://h/ HTTP/1.1\r\nHost: h\r\n" ++ fields ++ codes "Connection: close\r\n\r\n"

-- THE RUN

abbrev pub proxied_journal : List Entry
proxied_journal =
    made 1 1 Begin Begun ∷ made 1 1 (Preempt Proxy) Nothing ∷ made 1 1 (Preempt Server) Nothing
    ∷ made 1 1 (Select 1 0) (Lead 1 1) ∷ made 1 1 (Answer 1 1 0) (Given (gift 1) 0)
    ∷ made 1 1 (Select 2 0) (Lead 2 1) ∷ made 1 1 (Answer 2 2 0) (Given (gift 2) 0)
    ∷ made 1 1 (Note (gift 1)) Noted ∷ made 1 1 (Note (gift 2)) Noted ∷ made 1 1 End RequestEnded ∷ []

-- the events with these fields in the second and the third head
abbrev pub proxied_events : List ℕ → List ℕ → List Event
proxied_events second third =
    Called Begin Begun ∷ Called (Preempt Proxy) Nothing ∷ Called (Preempt Server) Nothing
    ∷ Dialed 1 ∷ Headed 1 (proxied_head []) ∷ Replied 1 proxy_challenge
    ∷ Called (Select 1 0) (Lead 1 1) ∷ AskedFor 1 AskGiven ∷ Called (Answer 1 1 0) (Given (gift 1) 0)
    ∷ Dialed 2 ∷ Headed 2 (proxied_head second) ∷ Replied 2 challenge
    ∷ Called (Select 2 0) (Lead 2 1) ∷ AskedFor 2 AskGiven ∷ Called (Answer 2 2 0) (Given (gift 2) 0)
    ∷ Dialed 3 ∷ Headed 3 (proxied_head third) ∷ Replied 3 answer
    ∷ Called (Note (gift 1)) Noted ∷ Called (Note (gift 2)) Noted ∷ Called End RequestEnded ∷ Ended (Answered 200) ∷ []

abbrev pub proxied_with : List ℕ → List ℕ → Run
proxied_with second third = record {
  seed = seed;
  roster = proxied_roster;
  names = names_of (proxy_space ∷ space_in (codes "p") ∷ []) (proxy_login ∷ login ∷ []);
  journal = proxied_journal;
  traces = proxied_events second third ∷ [];
}

-- the honest one: each identity to its own target
abbrev pub proxied : Run
proxied = proxied_with (codes "Proxy-Authorization: Basic YTpi\r\n") (codes "Proxy-Authorization: Basic YTpi\r\nAuthorization: Basic dTpw\r\n")

-- LIES

-- the proxy's identity goes to the server
abbrev pub proxys_to_the_server : Run
proxys_to_the_server = proxied_with (codes "Authorization: Basic YTpi\r\n") (codes "Proxy-Authorization: Basic YTpi\r\nAuthorization: Basic dTpw\r\n")

-- the server's identity goes to the proxy too
abbrev pub servers_to_the_proxy : Run
servers_to_the_proxy = proxied_with (codes "Proxy-Authorization: Basic YTpi\r\n") (codes "Proxy-Authorization: Basic dTpw\r\nAuthorization: Basic dTpw\r\n")
