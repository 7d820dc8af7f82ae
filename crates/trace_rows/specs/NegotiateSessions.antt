-- Worked requests with tokens: names, journal, links, and the events of each request.
use Rattle.std.proofs.Common.{ℕ, true, false, List, [], ◌∷◌, ◌++◌, reverse, codes, None, replicate}
use Rattle.spaces.specs.declared.roster.Request.{Request}
use Rattle.spaces.specs.declared.roster.Roster.{Roster}
use Rattle.spaces.specs.declared.roster.Method.TheVariants.{Get}
use Rattle.spaces.specs.declared.site.Target.TheVariants.{Server}
use Rattle.spaces.specs.declared.space.Scheme.TheVariants.{Negotiate}
use Rattle.auth_events.specs.declared.journal.Call.TheVariants.{Begin, Preempt, Select, End}
use Rattle.auth_events.specs.declared.journal.BookReply.TheVariants.{Begun, Nothing, Default, Ended as RequestEnded}
use Rattle.auth_events.specs.declared.journal.Entry.{Entry}
use Rattle.auth_events.specs.Tables.{Tables}
use Rattle.link_trait.specs.declared.steps.StepSeen.TheVariants.{Token}
use Rattle.auth_runs.specs.declared.event.Why.TheVariants.{BoundLost}
use Rattle.auth_runs.specs.declared.event.Outcome.TheVariants.{Answered, Refused}
use Rattle.auth_runs.specs.declared.event.Event.{Event}
use Rattle.auth_runs.specs.declared.event.Event.TheVariants.{Called, Dialed, Headed, Replied, LinkLost, Stepped, Ended}
use Rattle.trace_rule.specs.Settings.{Setting, setting_of}

-- the tokens of a context go over one link; a link that closes begins a new context

abbrev pub three_tokens_roster : Roster
three_tokens_roster = record { requests = ((record { method = Get; partition = (codes "main"); place = (record { text = (codes "http://s.example/"); origin = (record { host = (codes "s.example"); port = 80 }); path = (codes "/"); query = None; identity = None }); proxy = None }) ∷ []); allowed = ((record { host = (codes "s.example"); port = 80 }) ∷ []) }

abbrev pub three_tokens_names : Tables
three_tokens_names = record { spaces = ((record { site = (record { partition = (codes "main"); target = Server; origin = (record { host = (codes "s.example"); port = 80 }) }); scheme = Negotiate; realm = [] }) ∷ []); terms = []; nonces = []; texts = [] }

abbrev pub three_tokens_journal : List Entry
three_tokens_journal =
    (record { caller = 1; request = 1; call = Begin; reply = Begun })
    ∷ (record { caller = 1; request = 1; call = (Preempt Server); reply = Nothing })
    ∷ (record { caller = 1; request = 1; call = (Select 1 0); reply = Default })
    ∷ (record { caller = 1; request = 1; call = End; reply = RequestEnded })
    ∷ []

abbrev pub three_tokens_links : List (List (List ℕ))
three_tokens_links = (((codes "HTTP/1.1 401 Unauthorized" ++ (13 ∷ (10 ∷ (codes "WWW-Authenticate: Negotiate" ++ (13 ∷ (10 ∷ (codes "Content-Length: 0" ++ (13 ∷ (10 ∷ (13 ∷ (10 ∷ []))))))))))) ∷ (codes "HTTP/1.1 401 Unauthorized" ++ (13 ∷ (10 ∷ (codes "WWW-Authenticate: Negotiate cjE=" ++ (13 ∷ (10 ∷ (codes "Connection: close" ++ (13 ∷ (10 ∷ (codes "Content-Length: 0" ++ (13 ∷ (10 ∷ (13 ∷ (10 ∷ [])))))))))))))) ∷ (codes "HTTP/1.1 401 Unauthorized" ++ (13 ∷ (10 ∷ (codes "WWW-Authenticate: Negotiate cjI=" ++ (13 ∷ (10 ∷ (codes "Content-Length: 0" ++ (13 ∷ (10 ∷ (13 ∷ (10 ∷ (codes "HTTP/1.1 200 OK" ++ (13 ∷ (10 ∷ (codes "Content-Length: 2" ++ (13 ∷ (10 ∷ (13 ∷ (10 ∷ (codes "ok")))))))))))))))))))) ∷ []) ∷ [])

abbrev pub three_tokens_setting : ℕ → Request → Setting
three_tokens_setting n request = record (setting_of three_tokens_roster (replicate 32 0) three_tokens_names (reverse three_tokens_journal) n request) { has_negotiate = true }

abbrev pub three_tokens_1_request : Request
three_tokens_1_request = record { method = Get; partition = (codes "main"); place = (record { text = (codes "http://s.example/"); origin = (record { host = (codes "s.example"); port = 80 }); path = (codes "/"); query = None; identity = None }); proxy = None }

abbrev pub three_tokens_1 : List Event
three_tokens_1 =
    (Called Begin Begun)
    ∷ (Called (Preempt Server) Nothing)
    ∷ (Dialed 1)
    ∷ (Headed 1 (codes "GET / HTTP/1.1" ++ (13 ∷ (10 ∷ (codes "Host: s.example" ++ (13 ∷ (10 ∷ (codes "Connection: close" ++ (13 ∷ (10 ∷ (13 ∷ (10 ∷ []))))))))))))
    ∷ (Replied 1 (record { code = 401; stays = true; body = 0; fields = ((codes "Negotiate") ∷ []); server_info = []; proxy_info = [] }))
    ∷ (Called (Select 1 0) Default)
    ∷ (Stepped Server (Token (codes "one")))
    ∷ (Dialed 2)
    ∷ (Headed 2 (codes "GET / HTTP/1.1" ++ (13 ∷ (10 ∷ (codes "Host: s.example" ++ (13 ∷ (10 ∷ (codes "Authorization: Negotiate b25l" ++ (13 ∷ (10 ∷ (codes "Connection: keep-alive" ++ (13 ∷ (10 ∷ (13 ∷ (10 ∷ [])))))))))))))))
    ∷ (Replied 2 (record { code = 401; stays = false; body = 0; fields = ((codes "Negotiate cjE=") ∷ []); server_info = []; proxy_info = [] }))
    ∷ (LinkLost 2)
    ∷ (Stepped Server (Token (codes "two")))
    ∷ (Dialed 3)
    ∷ (Headed 3 (codes "GET / HTTP/1.1" ++ (13 ∷ (10 ∷ (codes "Host: s.example" ++ (13 ∷ (10 ∷ (codes "Authorization: Negotiate dHdv" ++ (13 ∷ (10 ∷ (codes "Connection: keep-alive" ++ (13 ∷ (10 ∷ (13 ∷ (10 ∷ [])))))))))))))))
    ∷ (Replied 3 (record { code = 401; stays = true; body = 0; fields = ((codes "Negotiate cjI=") ∷ []); server_info = []; proxy_info = [] }))
    ∷ (Stepped Server (Token (codes "three")))
    ∷ (Headed 3 (codes "GET / HTTP/1.1" ++ (13 ∷ (10 ∷ (codes "Host: s.example" ++ (13 ∷ (10 ∷ (codes "Authorization: Negotiate dGhyZWU=" ++ (13 ∷ (10 ∷ (codes "Connection: keep-alive" ++ (13 ∷ (10 ∷ (13 ∷ (10 ∷ [])))))))))))))))
    ∷ (Replied 3 (record { code = 200; stays = true; body = 2; fields = []; server_info = []; proxy_info = [] }))
    ∷ (Called End RequestEnded)
    ∷ (Ended (Answered 200))
    ∷ []

-- the second lost link ends the request

abbrev pub link_lost_twice_roster : Roster
link_lost_twice_roster = record { requests = ((record { method = Get; partition = (codes "main"); place = (record { text = (codes "http://s.example/"); origin = (record { host = (codes "s.example"); port = 80 }); path = (codes "/"); query = None; identity = None }); proxy = None }) ∷ []); allowed = ((record { host = (codes "s.example"); port = 80 }) ∷ []) }

abbrev pub link_lost_twice_names : Tables
link_lost_twice_names = record { spaces = ((record { site = (record { partition = (codes "main"); target = Server; origin = (record { host = (codes "s.example"); port = 80 }) }); scheme = Negotiate; realm = [] }) ∷ []); terms = []; nonces = []; texts = [] }

abbrev pub link_lost_twice_journal : List Entry
link_lost_twice_journal =
    (record { caller = 1; request = 1; call = Begin; reply = Begun })
    ∷ (record { caller = 1; request = 1; call = (Preempt Server); reply = Nothing })
    ∷ (record { caller = 1; request = 1; call = (Select 1 0); reply = Default })
    ∷ (record { caller = 1; request = 1; call = End; reply = RequestEnded })
    ∷ []

abbrev pub link_lost_twice_links : List (List (List ℕ))
link_lost_twice_links = (((codes "HTTP/1.1 401 Unauthorized" ++ (13 ∷ (10 ∷ (codes "WWW-Authenticate: Negotiate" ++ (13 ∷ (10 ∷ (codes "Content-Length: 0" ++ (13 ∷ (10 ∷ (13 ∷ (10 ∷ []))))))))))) ∷ (codes "HTTP/1.1 401 Unauthorized" ++ (13 ∷ (10 ∷ (codes "WWW-Authenticate: Negotiate cjE=" ++ (13 ∷ (10 ∷ (codes "Connection: close" ++ (13 ∷ (10 ∷ (codes "Content-Length: 0" ++ (13 ∷ (10 ∷ (13 ∷ (10 ∷ [])))))))))))))) ∷ (codes "HTTP/1.1 401 Unauthorized" ++ (13 ∷ (10 ∷ (codes "WWW-Authenticate: Negotiate cjI=" ++ (13 ∷ (10 ∷ (codes "Connection: close" ++ (13 ∷ (10 ∷ (codes "Content-Length: 0" ++ (13 ∷ (10 ∷ (13 ∷ (10 ∷ (codes "HTTP/1.1 200 OK" ++ (13 ∷ (10 ∷ (codes "Content-Length: 2" ++ (13 ∷ (10 ∷ (13 ∷ (10 ∷ (codes "ok"))))))))))))))))))))))) ∷ []) ∷ [])

abbrev pub link_lost_twice_setting : ℕ → Request → Setting
link_lost_twice_setting n request = record (setting_of link_lost_twice_roster (replicate 32 0) link_lost_twice_names (reverse link_lost_twice_journal) n request) { has_negotiate = true }

abbrev pub link_lost_twice_1_request : Request
link_lost_twice_1_request = record { method = Get; partition = (codes "main"); place = (record { text = (codes "http://s.example/"); origin = (record { host = (codes "s.example"); port = 80 }); path = (codes "/"); query = None; identity = None }); proxy = None }

abbrev pub link_lost_twice_1 : List Event
link_lost_twice_1 =
    (Called Begin Begun)
    ∷ (Called (Preempt Server) Nothing)
    ∷ (Dialed 1)
    ∷ (Headed 1 (codes "GET / HTTP/1.1" ++ (13 ∷ (10 ∷ (codes "Host: s.example" ++ (13 ∷ (10 ∷ (codes "Connection: close" ++ (13 ∷ (10 ∷ (13 ∷ (10 ∷ []))))))))))))
    ∷ (Replied 1 (record { code = 401; stays = true; body = 0; fields = ((codes "Negotiate") ∷ []); server_info = []; proxy_info = [] }))
    ∷ (Called (Select 1 0) Default)
    ∷ (Stepped Server (Token (codes "one")))
    ∷ (Dialed 2)
    ∷ (Headed 2 (codes "GET / HTTP/1.1" ++ (13 ∷ (10 ∷ (codes "Host: s.example" ++ (13 ∷ (10 ∷ (codes "Authorization: Negotiate b25l" ++ (13 ∷ (10 ∷ (codes "Connection: keep-alive" ++ (13 ∷ (10 ∷ (13 ∷ (10 ∷ [])))))))))))))))
    ∷ (Replied 2 (record { code = 401; stays = false; body = 0; fields = ((codes "Negotiate cjE=") ∷ []); server_info = []; proxy_info = [] }))
    ∷ (LinkLost 2)
    ∷ (Stepped Server (Token (codes "two")))
    ∷ (Dialed 3)
    ∷ (Headed 3 (codes "GET / HTTP/1.1" ++ (13 ∷ (10 ∷ (codes "Host: s.example" ++ (13 ∷ (10 ∷ (codes "Authorization: Negotiate dHdv" ++ (13 ∷ (10 ∷ (codes "Connection: keep-alive" ++ (13 ∷ (10 ∷ (13 ∷ (10 ∷ [])))))))))))))))
    ∷ (Replied 3 (record { code = 401; stays = false; body = 0; fields = ((codes "Negotiate cjI=") ∷ []); server_info = []; proxy_info = [] }))
    ∷ (LinkLost 3)
    ∷ (Called End RequestEnded)
    ∷ (Ended (Refused 401 BoundLost))
    ∷ []
