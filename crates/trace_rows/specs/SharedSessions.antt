-- Worked requests that share a prompt: names, journal, links, and the events of each request.
use Rattle.std.proofs.Common.{ℕ, true, List, [], ◌∷◌, ◌++◌, reverse, codes, None, replicate}
use Rattle.spaces.specs.declared.roster.Request.{Request}
use Rattle.spaces.specs.declared.roster.Roster.{Roster}
use Rattle.spaces.specs.declared.roster.Method.TheVariants.{Get}
use Rattle.spaces.specs.declared.site.Target.TheVariants.{Server}
use Rattle.spaces.specs.declared.space.Scheme.TheVariants.{Basic}
use Rattle.auth_events.specs.declared.journal.Call.TheVariants.{Begin, Preempt, Select, Answer, Lose, Take, Note, End}
use Rattle.auth_events.specs.declared.journal.BookReply.TheVariants.{Begun, Nothing, Follow, Lead, Given, Cancelled, Lost, Gave, Noted, Ended as RequestEnded}
use Rattle.auth_events.specs.declared.journal.Loss.TheVariants.{Fault}
use Rattle.auth_events.specs.declared.journal.Entry.{Entry}
use Rattle.auth_events.specs.Tables.{Tables}
use Rattle.link_trait.specs.declared.prompts.AskSeen.TheVariants.{Given as AskGiven, Cancel, Failed as AskFailed}
use Rattle.auth_runs.specs.declared.event.Why.TheVariants.{Cancelled as ByCancel}
use Rattle.auth_runs.specs.declared.event.Outcome.TheVariants.{Answered, Refused, PromptFailed}
use Rattle.auth_runs.specs.declared.event.Event.{Event}
use Rattle.auth_runs.specs.declared.event.Event.TheVariants.{Called, Dialed, Headed, Replied, AskedFor, Ended}
use Rattle.trace_rule.specs.Settings.{Setting, setting_of}

-- those who wait for a prompt take its cancel

abbrev pub cancelled_prompt_roster : Roster
cancelled_prompt_roster = record { requests = ((record { method = Get; partition = (codes "main"); place = (record { text = (codes "http://h.example/"); origin = (record { host = (codes "h.example"); port = 80 }); path = (codes "/"); query = None; identity = None }); proxy = None }) ∷ (record { method = Get; partition = (codes "main"); place = (record { text = (codes "http://h.example/"); origin = (record { host = (codes "h.example"); port = 80 }); path = (codes "/"); query = None; identity = None }); proxy = None }) ∷ (record { method = Get; partition = (codes "main"); place = (record { text = (codes "http://h.example/"); origin = (record { host = (codes "h.example"); port = 80 }); path = (codes "/"); query = None; identity = None }); proxy = None }) ∷ []); allowed = [] }

abbrev pub cancelled_prompt_names : Tables
cancelled_prompt_names = record { spaces = ((record { site = (record { partition = (codes "main"); target = Server; origin = (record { host = (codes "h.example"); port = 80 }) }); scheme = Basic; realm = (codes "x") }) ∷ []); terms = []; nonces = []; texts = [] }

abbrev pub cancelled_prompt_journal : List Entry
cancelled_prompt_journal =
    (record { caller = 3; request = 3; call = Begin; reply = Begun })
    ∷ (record { caller = 2; request = 2; call = Begin; reply = Begun })
    ∷ (record { caller = 2; request = 2; call = (Preempt Server); reply = Nothing })
    ∷ (record { caller = 3; request = 3; call = (Preempt Server); reply = Nothing })
    ∷ (record { caller = 1; request = 1; call = Begin; reply = Begun })
    ∷ (record { caller = 1; request = 1; call = (Preempt Server); reply = Nothing })
    ∷ (record { caller = 2; request = 2; call = (Select 1 0); reply = (Lead 1 1) })
    ∷ (record { caller = 1; request = 1; call = (Select 1 0); reply = (Follow 1) })
    ∷ (record { caller = 3; request = 3; call = (Select 1 0); reply = (Follow 1) })
    ∷ (record { caller = 2; request = 2; call = (Answer 1 0 0); reply = Cancelled })
    ∷ (record { caller = 2; request = 2; call = End; reply = RequestEnded })
    ∷ (record { caller = 3; request = 3; call = (Take 1); reply = Cancelled })
    ∷ (record { caller = 3; request = 3; call = End; reply = RequestEnded })
    ∷ (record { caller = 1; request = 1; call = (Take 1); reply = Cancelled })
    ∷ (record { caller = 1; request = 1; call = End; reply = RequestEnded })
    ∷ []

abbrev pub cancelled_prompt_links : List (List (List ℕ))
cancelled_prompt_links = (((codes "HTTP/1.1 401 Unauthorized" ++ (13 ∷ (10 ∷ (codes "WWW-Authenticate: Basic realm=\"x\"" ++ (13 ∷ (10 ∷ (codes "Content-Length: 0" ++ (13 ∷ (10 ∷ (13 ∷ (10 ∷ []))))))))))) ∷ (codes "HTTP/1.1 200 OK" ++ (13 ∷ (10 ∷ (codes "Content-Length: 2" ++ (13 ∷ (10 ∷ (13 ∷ (10 ∷ (codes "ok"))))))))) ∷ []) ∷ ((codes "HTTP/1.1 401 Unauthorized" ++ (13 ∷ (10 ∷ (codes "WWW-Authenticate: Basic realm=\"x\"" ++ (13 ∷ (10 ∷ (codes "Content-Length: 0" ++ (13 ∷ (10 ∷ (13 ∷ (10 ∷ []))))))))))) ∷ (codes "HTTP/1.1 200 OK" ++ (13 ∷ (10 ∷ (codes "Content-Length: 2" ++ (13 ∷ (10 ∷ (13 ∷ (10 ∷ (codes "ok"))))))))) ∷ []) ∷ ((codes "HTTP/1.1 401 Unauthorized" ++ (13 ∷ (10 ∷ (codes "WWW-Authenticate: Basic realm=\"x\"" ++ (13 ∷ (10 ∷ (codes "Content-Length: 0" ++ (13 ∷ (10 ∷ (13 ∷ (10 ∷ []))))))))))) ∷ (codes "HTTP/1.1 200 OK" ++ (13 ∷ (10 ∷ (codes "Content-Length: 2" ++ (13 ∷ (10 ∷ (13 ∷ (10 ∷ (codes "ok"))))))))) ∷ []) ∷ [])

abbrev pub cancelled_prompt_setting : ℕ → Request → Setting
cancelled_prompt_setting n request = record (setting_of cancelled_prompt_roster (replicate 32 0) cancelled_prompt_names (reverse cancelled_prompt_journal) n request) { has_negotiate = true }

abbrev pub cancelled_prompt_1_request : Request
cancelled_prompt_1_request = record { method = Get; partition = (codes "main"); place = (record { text = (codes "http://h.example/"); origin = (record { host = (codes "h.example"); port = 80 }); path = (codes "/"); query = None; identity = None }); proxy = None }

abbrev pub cancelled_prompt_1 : List Event
cancelled_prompt_1 =
    (Called Begin Begun)
    ∷ (Called (Preempt Server) Nothing)
    ∷ (Dialed 1)
    ∷ (Headed 1 (codes "GET / HTTP/1.1" ++ (13 ∷ (10 ∷ (codes "Host: h.example" ++ (13 ∷ (10 ∷ (codes "Connection: close" ++ (13 ∷ (10 ∷ (13 ∷ (10 ∷ []))))))))))))
    ∷ (Replied 1 (record { code = 401; stays = true; body = 0; fields = ((codes "Basic realm=\"x\"") ∷ []); server_info = []; proxy_info = [] }))
    ∷ (Called (Select 1 0) (Follow 1))
    ∷ (Called (Take 1) Cancelled)
    ∷ (Called End RequestEnded)
    ∷ (Ended (Refused 401 (ByCancel 1)))
    ∷ []

abbrev pub cancelled_prompt_2_request : Request
cancelled_prompt_2_request = record { method = Get; partition = (codes "main"); place = (record { text = (codes "http://h.example/"); origin = (record { host = (codes "h.example"); port = 80 }); path = (codes "/"); query = None; identity = None }); proxy = None }

abbrev pub cancelled_prompt_2 : List Event
cancelled_prompt_2 =
    (Called Begin Begun)
    ∷ (Called (Preempt Server) Nothing)
    ∷ (Dialed 1)
    ∷ (Headed 1 (codes "GET / HTTP/1.1" ++ (13 ∷ (10 ∷ (codes "Host: h.example" ++ (13 ∷ (10 ∷ (codes "Connection: close" ++ (13 ∷ (10 ∷ (13 ∷ (10 ∷ []))))))))))))
    ∷ (Replied 1 (record { code = 401; stays = true; body = 0; fields = ((codes "Basic realm=\"x\"") ∷ []); server_info = []; proxy_info = [] }))
    ∷ (Called (Select 1 0) (Lead 1 1))
    ∷ (AskedFor 1 Cancel)
    ∷ (Called (Answer 1 0 0) Cancelled)
    ∷ (Called End RequestEnded)
    ∷ (Ended (Refused 401 (ByCancel 1)))
    ∷ []

abbrev pub cancelled_prompt_3_request : Request
cancelled_prompt_3_request = record { method = Get; partition = (codes "main"); place = (record { text = (codes "http://h.example/"); origin = (record { host = (codes "h.example"); port = 80 }); path = (codes "/"); query = None; identity = None }); proxy = None }

abbrev pub cancelled_prompt_3 : List Event
cancelled_prompt_3 =
    (Called Begin Begun)
    ∷ (Called (Preempt Server) Nothing)
    ∷ (Dialed 1)
    ∷ (Headed 1 (codes "GET / HTTP/1.1" ++ (13 ∷ (10 ∷ (codes "Host: h.example" ++ (13 ∷ (10 ∷ (codes "Connection: close" ++ (13 ∷ (10 ∷ (13 ∷ (10 ∷ []))))))))))))
    ∷ (Replied 1 (record { code = 401; stays = true; body = 0; fields = ((codes "Basic realm=\"x\"") ∷ []); server_info = []; proxy_info = [] }))
    ∷ (Called (Select 1 0) (Follow 1))
    ∷ (Called (Take 1) Cancelled)
    ∷ (Called End RequestEnded)
    ∷ (Ended (Refused 401 (ByCancel 1)))
    ∷ []

-- those who wait for a prompt that failed take its loss

abbrev pub lost_prompt_roster : Roster
lost_prompt_roster = record { requests = ((record { method = Get; partition = (codes "main"); place = (record { text = (codes "http://h.example/"); origin = (record { host = (codes "h.example"); port = 80 }); path = (codes "/"); query = None; identity = None }); proxy = None }) ∷ (record { method = Get; partition = (codes "main"); place = (record { text = (codes "http://h.example/"); origin = (record { host = (codes "h.example"); port = 80 }); path = (codes "/"); query = None; identity = None }); proxy = None }) ∷ (record { method = Get; partition = (codes "main"); place = (record { text = (codes "http://h.example/"); origin = (record { host = (codes "h.example"); port = 80 }); path = (codes "/"); query = None; identity = None }); proxy = None }) ∷ []); allowed = [] }

abbrev pub lost_prompt_names : Tables
lost_prompt_names = record { spaces = ((record { site = (record { partition = (codes "main"); target = Server; origin = (record { host = (codes "h.example"); port = 80 }) }); scheme = Basic; realm = (codes "x") }) ∷ []); terms = []; nonces = []; texts = [] }

abbrev pub lost_prompt_journal : List Entry
lost_prompt_journal =
    (record { caller = 3; request = 3; call = Begin; reply = Begun })
    ∷ (record { caller = 2; request = 2; call = Begin; reply = Begun })
    ∷ (record { caller = 2; request = 2; call = (Preempt Server); reply = Nothing })
    ∷ (record { caller = 3; request = 3; call = (Preempt Server); reply = Nothing })
    ∷ (record { caller = 1; request = 1; call = Begin; reply = Begun })
    ∷ (record { caller = 1; request = 1; call = (Preempt Server); reply = Nothing })
    ∷ (record { caller = 2; request = 2; call = (Select 1 0); reply = (Lead 1 1) })
    ∷ (record { caller = 1; request = 1; call = (Select 1 0); reply = (Follow 1) })
    ∷ (record { caller = 3; request = 3; call = (Select 1 0); reply = (Follow 1) })
    ∷ (record { caller = 2; request = 2; call = (Lose 1 (Fault 5)); reply = (Lost (Fault 5)) })
    ∷ (record { caller = 2; request = 2; call = End; reply = RequestEnded })
    ∷ (record { caller = 3; request = 3; call = (Take 1); reply = (Lost (Fault 5)) })
    ∷ (record { caller = 3; request = 3; call = End; reply = RequestEnded })
    ∷ (record { caller = 1; request = 1; call = (Take 1); reply = (Lost (Fault 5)) })
    ∷ (record { caller = 1; request = 1; call = End; reply = RequestEnded })
    ∷ []

abbrev pub lost_prompt_links : List (List (List ℕ))
lost_prompt_links = (((codes "HTTP/1.1 401 Unauthorized" ++ (13 ∷ (10 ∷ (codes "WWW-Authenticate: Basic realm=\"x\"" ++ (13 ∷ (10 ∷ (codes "Content-Length: 0" ++ (13 ∷ (10 ∷ (13 ∷ (10 ∷ []))))))))))) ∷ (codes "HTTP/1.1 200 OK" ++ (13 ∷ (10 ∷ (codes "Content-Length: 2" ++ (13 ∷ (10 ∷ (13 ∷ (10 ∷ (codes "ok"))))))))) ∷ []) ∷ ((codes "HTTP/1.1 401 Unauthorized" ++ (13 ∷ (10 ∷ (codes "WWW-Authenticate: Basic realm=\"x\"" ++ (13 ∷ (10 ∷ (codes "Content-Length: 0" ++ (13 ∷ (10 ∷ (13 ∷ (10 ∷ []))))))))))) ∷ (codes "HTTP/1.1 200 OK" ++ (13 ∷ (10 ∷ (codes "Content-Length: 2" ++ (13 ∷ (10 ∷ (13 ∷ (10 ∷ (codes "ok"))))))))) ∷ []) ∷ ((codes "HTTP/1.1 401 Unauthorized" ++ (13 ∷ (10 ∷ (codes "WWW-Authenticate: Basic realm=\"x\"" ++ (13 ∷ (10 ∷ (codes "Content-Length: 0" ++ (13 ∷ (10 ∷ (13 ∷ (10 ∷ []))))))))))) ∷ (codes "HTTP/1.1 200 OK" ++ (13 ∷ (10 ∷ (codes "Content-Length: 2" ++ (13 ∷ (10 ∷ (13 ∷ (10 ∷ (codes "ok"))))))))) ∷ []) ∷ [])

abbrev pub lost_prompt_setting : ℕ → Request → Setting
lost_prompt_setting n request = record (setting_of lost_prompt_roster (replicate 32 0) lost_prompt_names (reverse lost_prompt_journal) n request) { has_negotiate = true }

abbrev pub lost_prompt_1_request : Request
lost_prompt_1_request = record { method = Get; partition = (codes "main"); place = (record { text = (codes "http://h.example/"); origin = (record { host = (codes "h.example"); port = 80 }); path = (codes "/"); query = None; identity = None }); proxy = None }

abbrev pub lost_prompt_1 : List Event
lost_prompt_1 =
    (Called Begin Begun)
    ∷ (Called (Preempt Server) Nothing)
    ∷ (Dialed 1)
    ∷ (Headed 1 (codes "GET / HTTP/1.1" ++ (13 ∷ (10 ∷ (codes "Host: h.example" ++ (13 ∷ (10 ∷ (codes "Connection: close" ++ (13 ∷ (10 ∷ (13 ∷ (10 ∷ []))))))))))))
    ∷ (Replied 1 (record { code = 401; stays = true; body = 0; fields = ((codes "Basic realm=\"x\"") ∷ []); server_info = []; proxy_info = [] }))
    ∷ (Called (Select 1 0) (Follow 1))
    ∷ (Called (Take 1) (Lost (Fault 5)))
    ∷ (Called End RequestEnded)
    ∷ (Ended (PromptFailed 5))
    ∷ []

abbrev pub lost_prompt_2_request : Request
lost_prompt_2_request = record { method = Get; partition = (codes "main"); place = (record { text = (codes "http://h.example/"); origin = (record { host = (codes "h.example"); port = 80 }); path = (codes "/"); query = None; identity = None }); proxy = None }

abbrev pub lost_prompt_2 : List Event
lost_prompt_2 =
    (Called Begin Begun)
    ∷ (Called (Preempt Server) Nothing)
    ∷ (Dialed 1)
    ∷ (Headed 1 (codes "GET / HTTP/1.1" ++ (13 ∷ (10 ∷ (codes "Host: h.example" ++ (13 ∷ (10 ∷ (codes "Connection: close" ++ (13 ∷ (10 ∷ (13 ∷ (10 ∷ []))))))))))))
    ∷ (Replied 1 (record { code = 401; stays = true; body = 0; fields = ((codes "Basic realm=\"x\"") ∷ []); server_info = []; proxy_info = [] }))
    ∷ (Called (Select 1 0) (Lead 1 1))
    ∷ (AskedFor 1 (AskFailed 5))
    ∷ (Called (Lose 1 (Fault 5)) (Lost (Fault 5)))
    ∷ (Called End RequestEnded)
    ∷ (Ended (PromptFailed 5))
    ∷ []

abbrev pub lost_prompt_3_request : Request
lost_prompt_3_request = record { method = Get; partition = (codes "main"); place = (record { text = (codes "http://h.example/"); origin = (record { host = (codes "h.example"); port = 80 }); path = (codes "/"); query = None; identity = None }); proxy = None }

abbrev pub lost_prompt_3 : List Event
lost_prompt_3 =
    (Called Begin Begun)
    ∷ (Called (Preempt Server) Nothing)
    ∷ (Dialed 1)
    ∷ (Headed 1 (codes "GET / HTTP/1.1" ++ (13 ∷ (10 ∷ (codes "Host: h.example" ++ (13 ∷ (10 ∷ (codes "Connection: close" ++ (13 ∷ (10 ∷ (13 ∷ (10 ∷ []))))))))))))
    ∷ (Replied 1 (record { code = 401; stays = true; body = 0; fields = ((codes "Basic realm=\"x\"") ∷ []); server_info = []; proxy_info = [] }))
    ∷ (Called (Select 1 0) (Follow 1))
    ∷ (Called (Take 1) (Lost (Fault 5)))
    ∷ (Called End RequestEnded)
    ∷ (Ended (PromptFailed 5))
    ∷ []

-- those who wait for a prompt take its one answer

abbrev pub shared_answer_roster : Roster
shared_answer_roster = record { requests = ((record { method = Get; partition = (codes "main"); place = (record { text = (codes "http://h.example/"); origin = (record { host = (codes "h.example"); port = 80 }); path = (codes "/"); query = None; identity = None }); proxy = None }) ∷ (record { method = Get; partition = (codes "main"); place = (record { text = (codes "http://h.example/"); origin = (record { host = (codes "h.example"); port = 80 }); path = (codes "/"); query = None; identity = None }); proxy = None }) ∷ (record { method = Get; partition = (codes "main"); place = (record { text = (codes "http://h.example/"); origin = (record { host = (codes "h.example"); port = 80 }); path = (codes "/"); query = None; identity = None }); proxy = None }) ∷ []); allowed = [] }

abbrev pub shared_answer_names : Tables
shared_answer_names = record { spaces = ((record { site = (record { partition = (codes "main"); target = Server; origin = (record { host = (codes "h.example"); port = 80 }) }); scheme = Basic; realm = (codes "x") }) ∷ []); terms = []; nonces = []; texts = ((record { user = (codes "u"); password = (codes "p") }) ∷ []) }

abbrev pub shared_answer_journal : List Entry
shared_answer_journal =
    (record { caller = 3; request = 3; call = Begin; reply = Begun })
    ∷ (record { caller = 2; request = 2; call = Begin; reply = Begun })
    ∷ (record { caller = 2; request = 2; call = (Preempt Server); reply = Nothing })
    ∷ (record { caller = 3; request = 3; call = (Preempt Server); reply = Nothing })
    ∷ (record { caller = 1; request = 1; call = Begin; reply = Begun })
    ∷ (record { caller = 1; request = 1; call = (Preempt Server); reply = Nothing })
    ∷ (record { caller = 2; request = 2; call = (Select 1 0); reply = (Lead 1 1) })
    ∷ (record { caller = 1; request = 1; call = (Select 1 0); reply = (Follow 1) })
    ∷ (record { caller = 3; request = 3; call = (Select 1 0); reply = (Follow 1) })
    ∷ (record { caller = 2; request = 2; call = (Answer 1 1 0); reply = (Given (record { space = 1; ordinal = 1 }) 0) })
    ∷ (record { caller = 2; request = 2; call = (Note (record { space = 1; ordinal = 1 })); reply = Noted })
    ∷ (record { caller = 2; request = 2; call = End; reply = RequestEnded })
    ∷ (record { caller = 3; request = 3; call = (Take 1); reply = (Gave (record { space = 1; ordinal = 1 })) })
    ∷ (record { caller = 1; request = 1; call = (Take 1); reply = (Gave (record { space = 1; ordinal = 1 })) })
    ∷ (record { caller = 1; request = 1; call = (Note (record { space = 1; ordinal = 1 })); reply = Noted })
    ∷ (record { caller = 1; request = 1; call = End; reply = RequestEnded })
    ∷ (record { caller = 3; request = 3; call = (Note (record { space = 1; ordinal = 1 })); reply = Noted })
    ∷ (record { caller = 3; request = 3; call = End; reply = RequestEnded })
    ∷ []

abbrev pub shared_answer_links : List (List (List ℕ))
shared_answer_links = (((codes "HTTP/1.1 401 Unauthorized" ++ (13 ∷ (10 ∷ (codes "WWW-Authenticate: Basic realm=\"x\"" ++ (13 ∷ (10 ∷ (codes "Content-Length: 0" ++ (13 ∷ (10 ∷ (13 ∷ (10 ∷ []))))))))))) ∷ (codes "HTTP/1.1 200 OK" ++ (13 ∷ (10 ∷ (codes "Content-Length: 2" ++ (13 ∷ (10 ∷ (13 ∷ (10 ∷ (codes "ok"))))))))) ∷ []) ∷ ((codes "HTTP/1.1 401 Unauthorized" ++ (13 ∷ (10 ∷ (codes "WWW-Authenticate: Basic realm=\"x\"" ++ (13 ∷ (10 ∷ (codes "Content-Length: 0" ++ (13 ∷ (10 ∷ (13 ∷ (10 ∷ []))))))))))) ∷ (codes "HTTP/1.1 200 OK" ++ (13 ∷ (10 ∷ (codes "Content-Length: 2" ++ (13 ∷ (10 ∷ (13 ∷ (10 ∷ (codes "ok"))))))))) ∷ []) ∷ ((codes "HTTP/1.1 401 Unauthorized" ++ (13 ∷ (10 ∷ (codes "WWW-Authenticate: Basic realm=\"x\"" ++ (13 ∷ (10 ∷ (codes "Content-Length: 0" ++ (13 ∷ (10 ∷ (13 ∷ (10 ∷ []))))))))))) ∷ (codes "HTTP/1.1 200 OK" ++ (13 ∷ (10 ∷ (codes "Content-Length: 2" ++ (13 ∷ (10 ∷ (13 ∷ (10 ∷ (codes "ok"))))))))) ∷ []) ∷ [])

abbrev pub shared_answer_setting : ℕ → Request → Setting
shared_answer_setting n request = record (setting_of shared_answer_roster (replicate 32 0) shared_answer_names (reverse shared_answer_journal) n request) { has_negotiate = true }

abbrev pub shared_answer_1_request : Request
shared_answer_1_request = record { method = Get; partition = (codes "main"); place = (record { text = (codes "http://h.example/"); origin = (record { host = (codes "h.example"); port = 80 }); path = (codes "/"); query = None; identity = None }); proxy = None }

abbrev pub shared_answer_1 : List Event
shared_answer_1 =
    (Called Begin Begun)
    ∷ (Called (Preempt Server) Nothing)
    ∷ (Dialed 1)
    ∷ (Headed 1 (codes "GET / HTTP/1.1" ++ (13 ∷ (10 ∷ (codes "Host: h.example" ++ (13 ∷ (10 ∷ (codes "Connection: close" ++ (13 ∷ (10 ∷ (13 ∷ (10 ∷ []))))))))))))
    ∷ (Replied 1 (record { code = 401; stays = true; body = 0; fields = ((codes "Basic realm=\"x\"") ∷ []); server_info = []; proxy_info = [] }))
    ∷ (Called (Select 1 0) (Follow 1))
    ∷ (Called (Take 1) (Gave (record { space = 1; ordinal = 1 })))
    ∷ (Dialed 2)
    ∷ (Headed 2 (codes "GET / HTTP/1.1" ++ (13 ∷ (10 ∷ (codes "Host: h.example" ++ (13 ∷ (10 ∷ (codes "Authorization: Basic dTpw" ++ (13 ∷ (10 ∷ (codes "Connection: close" ++ (13 ∷ (10 ∷ (13 ∷ (10 ∷ [])))))))))))))))
    ∷ (Replied 2 (record { code = 200; stays = true; body = 2; fields = []; server_info = []; proxy_info = [] }))
    ∷ (Called (Note (record { space = 1; ordinal = 1 })) Noted)
    ∷ (Called End RequestEnded)
    ∷ (Ended (Answered 200))
    ∷ []

abbrev pub shared_answer_2_request : Request
shared_answer_2_request = record { method = Get; partition = (codes "main"); place = (record { text = (codes "http://h.example/"); origin = (record { host = (codes "h.example"); port = 80 }); path = (codes "/"); query = None; identity = None }); proxy = None }

abbrev pub shared_answer_2 : List Event
shared_answer_2 =
    (Called Begin Begun)
    ∷ (Called (Preempt Server) Nothing)
    ∷ (Dialed 1)
    ∷ (Headed 1 (codes "GET / HTTP/1.1" ++ (13 ∷ (10 ∷ (codes "Host: h.example" ++ (13 ∷ (10 ∷ (codes "Connection: close" ++ (13 ∷ (10 ∷ (13 ∷ (10 ∷ []))))))))))))
    ∷ (Replied 1 (record { code = 401; stays = true; body = 0; fields = ((codes "Basic realm=\"x\"") ∷ []); server_info = []; proxy_info = [] }))
    ∷ (Called (Select 1 0) (Lead 1 1))
    ∷ (AskedFor 1 AskGiven)
    ∷ (Called (Answer 1 1 0) (Given (record { space = 1; ordinal = 1 }) 0))
    ∷ (Dialed 2)
    ∷ (Headed 2 (codes "GET / HTTP/1.1" ++ (13 ∷ (10 ∷ (codes "Host: h.example" ++ (13 ∷ (10 ∷ (codes "Authorization: Basic dTpw" ++ (13 ∷ (10 ∷ (codes "Connection: close" ++ (13 ∷ (10 ∷ (13 ∷ (10 ∷ [])))))))))))))))
    ∷ (Replied 2 (record { code = 200; stays = true; body = 2; fields = []; server_info = []; proxy_info = [] }))
    ∷ (Called (Note (record { space = 1; ordinal = 1 })) Noted)
    ∷ (Called End RequestEnded)
    ∷ (Ended (Answered 200))
    ∷ []

abbrev pub shared_answer_3_request : Request
shared_answer_3_request = record { method = Get; partition = (codes "main"); place = (record { text = (codes "http://h.example/"); origin = (record { host = (codes "h.example"); port = 80 }); path = (codes "/"); query = None; identity = None }); proxy = None }

abbrev pub shared_answer_3 : List Event
shared_answer_3 =
    (Called Begin Begun)
    ∷ (Called (Preempt Server) Nothing)
    ∷ (Dialed 1)
    ∷ (Headed 1 (codes "GET / HTTP/1.1" ++ (13 ∷ (10 ∷ (codes "Host: h.example" ++ (13 ∷ (10 ∷ (codes "Connection: close" ++ (13 ∷ (10 ∷ (13 ∷ (10 ∷ []))))))))))))
    ∷ (Replied 1 (record { code = 401; stays = true; body = 0; fields = ((codes "Basic realm=\"x\"") ∷ []); server_info = []; proxy_info = [] }))
    ∷ (Called (Select 1 0) (Follow 1))
    ∷ (Called (Take 1) (Gave (record { space = 1; ordinal = 1 })))
    ∷ (Dialed 2)
    ∷ (Headed 2 (codes "GET / HTTP/1.1" ++ (13 ∷ (10 ∷ (codes "Host: h.example" ++ (13 ∷ (10 ∷ (codes "Authorization: Basic dTpw" ++ (13 ∷ (10 ∷ (codes "Connection: close" ++ (13 ∷ (10 ∷ (13 ∷ (10 ∷ [])))))))))))))))
    ∷ (Replied 2 (record { code = 200; stays = true; body = 2; fields = []; server_info = []; proxy_info = [] }))
    ∷ (Called (Note (record { space = 1; ordinal = 1 })) Noted)
    ∷ (Called End RequestEnded)
    ∷ (Ended (Answered 200))
    ∷ []
