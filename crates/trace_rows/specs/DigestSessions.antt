-- Worked requests with Digest identities: names, journal, links, and the events of each request.
use Rattle.std.proofs.Common.{ℕ, true, false, List, [], ◌∷◌, ◌++◌, reverse, codes, None, replicate}
use Rattle.spaces.specs.declared.roster.Request.{Request}
use Rattle.spaces.specs.declared.roster.Roster.{Roster}
use Rattle.spaces.specs.declared.roster.Method.TheVariants.{Get}
use Rattle.spaces.specs.declared.site.Target.TheVariants.{Server}
use Rattle.spaces.specs.declared.space.Scheme.TheVariants.{Digest}
use Rattle.spaces.specs.declared.terms.Algorithm.TheVariants.{Md5}
use Rattle.spaces.specs.declared.terms.Qop.TheVariants.{Auth}
use Rattle.auth_events.specs.declared.journal.Call.TheVariants.{Begin, Preempt, Select, Reject, Renew, Answer, Note, End}
use Rattle.auth_events.specs.declared.journal.BookReply.TheVariants.{Begun, Ready, Nothing, Lead, Removed, Renewed, Given, Cancelled, Noted, Ended as RequestEnded}
use Rattle.auth_events.specs.declared.journal.Entry.{Entry}
use Rattle.auth_events.specs.Tables.{Tables}
use Rattle.link_trait.specs.declared.prompts.AskSeen.TheVariants.{Given as AskGiven, Cancel}
use Rattle.auth_runs.specs.declared.event.Why.TheVariants.{Cancelled as ByCancel}
use Rattle.auth_runs.specs.declared.event.Outcome.TheVariants.{Answered, Refused}
use Rattle.auth_runs.specs.declared.event.Event.{Event}
use Rattle.auth_runs.specs.declared.event.Event.TheVariants.{Called, Dialed, Drew, Headed, Replied, AskedFor, Ended}
use Rattle.trace_rule.specs.Settings.{Setting, setting_of}

-- a stale nonce is renewed without a prompt

abbrev pub stale_nonce_roster : Roster
stale_nonce_roster = record { requests = ((record { method = Get; partition = (codes "main"); place = (record { text = (codes "http://d.example/"); origin = (record { host = (codes "d.example"); port = 80 }); path = (codes "/"); query = None; identity = None }); proxy = None }) ∷ []); allowed = [] }

abbrev pub stale_nonce_names : Tables
stale_nonce_names = record { spaces = ((record { site = (record { partition = (codes "main"); target = Server; origin = (record { host = (codes "d.example"); port = 80 }) }); scheme = Digest; realm = (codes "d") }) ∷ []); terms = ((record { space = 1; terms = (record { algorithm = Md5; said = false; realm = (codes "d"); nonce = (codes "a"); opaque = None; qop = Auth; userhash = false }); nonce = 1 }) ∷ (record { space = 1; terms = (record { algorithm = Md5; said = false; realm = (codes "d"); nonce = (codes "b"); opaque = None; qop = Auth; userhash = false }); nonce = 2 }) ∷ []); nonces = ((record { site = (record { partition = (codes "main"); target = Server; origin = (record { host = (codes "d.example"); port = 80 }) }); text = (codes "a") }) ∷ (record { site = (record { partition = (codes "main"); target = Server; origin = (record { host = (codes "d.example"); port = 80 }) }); text = (codes "b") }) ∷ []); texts = ((record { user = (codes "u"); password = (codes "p") }) ∷ []) }

abbrev pub stale_nonce_journal : List Entry
stale_nonce_journal =
    (record { caller = 1; request = 1; call = Begin; reply = Begun })
    ∷ (record { caller = 1; request = 1; call = (Preempt Server); reply = Nothing })
    ∷ (record { caller = 1; request = 1; call = (Select 1 1); reply = (Lead 1 1) })
    ∷ (record { caller = 1; request = 1; call = (Answer 1 1 1); reply = (Given (record { space = 1; ordinal = 1 }) 0) })
    ∷ (record { caller = 1; request = 1; call = (Renew (record { space = 1; ordinal = 1 }) 2); reply = Renewed })
    ∷ (record { caller = 1; request = 1; call = (Note (record { space = 1; ordinal = 1 })); reply = Noted })
    ∷ (record { caller = 1; request = 1; call = End; reply = RequestEnded })
    ∷ []

abbrev pub stale_nonce_links : List (List (List ℕ))
stale_nonce_links = (((codes "HTTP/1.1 401 Unauthorized" ++ (13 ∷ (10 ∷ (codes "WWW-Authenticate: Digest realm=\"d\", nonce=\"a\", qop=\"auth\"" ++ (13 ∷ (10 ∷ (codes "Content-Length: 0" ++ (13 ∷ (10 ∷ (13 ∷ (10 ∷ []))))))))))) ∷ (codes "HTTP/1.1 401 Unauthorized" ++ (13 ∷ (10 ∷ (codes "WWW-Authenticate: Digest realm=\"d\", nonce=\"b\", qop=\"auth\", stale=TRUE" ++ (13 ∷ (10 ∷ (codes "Content-Length: 0" ++ (13 ∷ (10 ∷ (13 ∷ (10 ∷ []))))))))))) ∷ (codes "HTTP/1.1 200 OK" ++ (13 ∷ (10 ∷ (codes "Content-Length: 2" ++ (13 ∷ (10 ∷ (13 ∷ (10 ∷ (codes "ok"))))))))) ∷ []) ∷ [])

abbrev pub stale_nonce_setting : ℕ → Request → Setting
stale_nonce_setting n request = record (setting_of stale_nonce_roster (replicate 32 0) stale_nonce_names (reverse stale_nonce_journal) n request) { has_negotiate = true }

abbrev pub stale_nonce_1_request : Request
stale_nonce_1_request = record { method = Get; partition = (codes "main"); place = (record { text = (codes "http://d.example/"); origin = (record { host = (codes "d.example"); port = 80 }); path = (codes "/"); query = None; identity = None }); proxy = None }

abbrev pub stale_nonce_1 : List Event
stale_nonce_1 =
    (Called Begin Begun)
    ∷ (Called (Preempt Server) Nothing)
    ∷ (Dialed 1)
    ∷ (Headed 1 (codes "GET / HTTP/1.1" ++ (13 ∷ (10 ∷ (codes "Host: d.example" ++ (13 ∷ (10 ∷ (codes "Connection: close" ++ (13 ∷ (10 ∷ (13 ∷ (10 ∷ []))))))))))))
    ∷ (Replied 1 (record { code = 401; stays = true; body = 0; fields = ((codes "Digest realm=\"d\", nonce=\"a\", qop=\"auth\"") ∷ []); server_info = []; proxy_info = [] }))
    ∷ (Called (Select 1 1) (Lead 1 1))
    ∷ (AskedFor 1 AskGiven)
    ∷ (Called (Answer 1 1 1) (Given (record { space = 1; ordinal = 1 }) 0))
    ∷ (Dialed 2)
    ∷ (Drew Server 1 1 0)
    ∷ (Headed 2 (codes "GET / HTTP/1.1" ++ (13 ∷ (10 ∷ (codes "Host: d.example" ++ (13 ∷ (10 ∷ (codes "Authorization: Digest username=\"u\", realm=\"d\", nonce=\"a\", uri=\"/\", response=\"2c062ab5bddc0059236b3a2dfa4972c3\", qop=auth, nc=00000001, cnonce=\"35207447f23d120311d8b7ffb079329d\"" ++ (13 ∷ (10 ∷ (codes "Connection: close" ++ (13 ∷ (10 ∷ (13 ∷ (10 ∷ [])))))))))))))))
    ∷ (Replied 2 (record { code = 401; stays = true; body = 0; fields = ((codes "Digest realm=\"d\", nonce=\"b\", qop=\"auth\", stale=TRUE") ∷ []); server_info = []; proxy_info = [] }))
    ∷ (Called (Renew (record { space = 1; ordinal = 1 }) 2) Renewed)
    ∷ (Dialed 3)
    ∷ (Drew Server 2 1 0)
    ∷ (Headed 3 (codes "GET / HTTP/1.1" ++ (13 ∷ (10 ∷ (codes "Host: d.example" ++ (13 ∷ (10 ∷ (codes "Authorization: Digest username=\"u\", realm=\"d\", nonce=\"b\", uri=\"/\", response=\"2435921d39dd853dfc5f030b71a0d00b\", qop=auth, nc=00000001, cnonce=\"70d9427260d2b6f07be9f49e59e344f2\"" ++ (13 ∷ (10 ∷ (codes "Connection: close" ++ (13 ∷ (10 ∷ (13 ∷ (10 ∷ [])))))))))))))))
    ∷ (Replied 3 (record { code = 200; stays = true; body = 2; fields = []; server_info = []; proxy_info = [] }))
    ∷ (Called (Note (record { space = 1; ordinal = 1 })) Noted)
    ∷ (Called End RequestEnded)
    ∷ (Ended (Answered 200))
    ∷ []

-- the counts of a nonce go on over rejected identities and another realm

abbrev pub nonce_again_roster : Roster
nonce_again_roster = record { requests = ((record { method = Get; partition = (codes "main"); place = (record { text = (codes "http://d.example/"); origin = (record { host = (codes "d.example"); port = 80 }); path = (codes "/"); query = None; identity = None }); proxy = None }) ∷ (record { method = Get; partition = (codes "main"); place = (record { text = (codes "http://d.example/"); origin = (record { host = (codes "d.example"); port = 80 }); path = (codes "/"); query = None; identity = None }); proxy = None }) ∷ []); allowed = [] }

abbrev pub nonce_again_names : Tables
nonce_again_names = record { spaces = ((record { site = (record { partition = (codes "main"); target = Server; origin = (record { host = (codes "d.example"); port = 80 }) }); scheme = Digest; realm = (codes "d") }) ∷ (record { site = (record { partition = (codes "main"); target = Server; origin = (record { host = (codes "d.example"); port = 80 }) }); scheme = Digest; realm = (codes "e") }) ∷ []); terms = ((record { space = 1; terms = (record { algorithm = Md5; said = false; realm = (codes "d"); nonce = (codes "n"); opaque = None; qop = Auth; userhash = false }); nonce = 1 }) ∷ (record { space = 2; terms = (record { algorithm = Md5; said = false; realm = (codes "e"); nonce = (codes "n"); opaque = None; qop = Auth; userhash = false }); nonce = 1 }) ∷ []); nonces = ((record { site = (record { partition = (codes "main"); target = Server; origin = (record { host = (codes "d.example"); port = 80 }) }); text = (codes "n") }) ∷ []); texts = ((record { user = (codes "u"); password = (codes "p1") }) ∷ (record { user = (codes "u"); password = (codes "p2") }) ∷ (record { user = (codes "u"); password = (codes "p3") }) ∷ (record { user = (codes "u"); password = (codes "p") }) ∷ []) }

abbrev pub nonce_again_journal : List Entry
nonce_again_journal =
    (record { caller = 1; request = 1; call = Begin; reply = Begun })
    ∷ (record { caller = 1; request = 1; call = (Preempt Server); reply = Nothing })
    ∷ (record { caller = 1; request = 1; call = (Select 1 1); reply = (Lead 1 1) })
    ∷ (record { caller = 1; request = 1; call = (Answer 1 1 1); reply = (Given (record { space = 1; ordinal = 1 }) 0) })
    ∷ (record { caller = 1; request = 1; call = (Reject 1 1); reply = Removed })
    ∷ (record { caller = 1; request = 1; call = (Select 1 1); reply = (Lead 2 2) })
    ∷ (record { caller = 1; request = 1; call = (Answer 2 2 1); reply = (Given (record { space = 1; ordinal = 2 }) 0) })
    ∷ (record { caller = 1; request = 1; call = (Reject 1 2); reply = Removed })
    ∷ (record { caller = 1; request = 1; call = (Select 1 1); reply = (Lead 3 3) })
    ∷ (record { caller = 1; request = 1; call = (Answer 3 3 1); reply = (Given (record { space = 1; ordinal = 3 }) 0) })
    ∷ (record { caller = 1; request = 1; call = (Reject 1 3); reply = Removed })
    ∷ (record { caller = 1; request = 1; call = (Select 1 1); reply = (Lead 4 4) })
    ∷ (record { caller = 1; request = 1; call = (Answer 4 0 1); reply = Cancelled })
    ∷ (record { caller = 1; request = 1; call = End; reply = RequestEnded })
    ∷ (record { caller = 1; request = 2; call = Begin; reply = Begun })
    ∷ (record { caller = 1; request = 2; call = (Preempt Server); reply = Nothing })
    ∷ (record { caller = 1; request = 2; call = (Select 2 2); reply = (Lead 5 1) })
    ∷ (record { caller = 1; request = 2; call = (Answer 5 4 2); reply = (Given (record { space = 2; ordinal = 1 }) 0) })
    ∷ (record { caller = 1; request = 2; call = (Note (record { space = 2; ordinal = 1 })); reply = Noted })
    ∷ (record { caller = 1; request = 2; call = End; reply = RequestEnded })
    ∷ []

abbrev pub nonce_again_links : List (List (List ℕ))
nonce_again_links = (((codes "HTTP/1.1 401 Unauthorized" ++ (13 ∷ (10 ∷ (codes "WWW-Authenticate: Digest realm=\"d\", nonce=\"n\", qop=\"auth\"" ++ (13 ∷ (10 ∷ (codes "Content-Length: 0" ++ (13 ∷ (10 ∷ (13 ∷ (10 ∷ []))))))))))) ∷ (codes "HTTP/1.1 401 Unauthorized" ++ (13 ∷ (10 ∷ (codes "WWW-Authenticate: Digest realm=\"d\", nonce=\"n\", qop=\"auth\"" ++ (13 ∷ (10 ∷ (codes "Content-Length: 0" ++ (13 ∷ (10 ∷ (13 ∷ (10 ∷ []))))))))))) ∷ (codes "HTTP/1.1 401 Unauthorized" ++ (13 ∷ (10 ∷ (codes "WWW-Authenticate: Digest realm=\"d\", nonce=\"n\", qop=\"auth\"" ++ (13 ∷ (10 ∷ (codes "Content-Length: 0" ++ (13 ∷ (10 ∷ (13 ∷ (10 ∷ []))))))))))) ∷ (codes "HTTP/1.1 401 Unauthorized" ++ (13 ∷ (10 ∷ (codes "WWW-Authenticate: Digest realm=\"d\", nonce=\"n\", qop=\"auth\"" ++ (13 ∷ (10 ∷ (codes "Content-Length: 0" ++ (13 ∷ (10 ∷ (13 ∷ (10 ∷ []))))))))))) ∷ []) ∷ ((codes "HTTP/1.1 401 Unauthorized" ++ (13 ∷ (10 ∷ (codes "WWW-Authenticate: Digest realm=\"e\", nonce=\"n\", qop=\"auth\"" ++ (13 ∷ (10 ∷ (codes "Content-Length: 0" ++ (13 ∷ (10 ∷ (13 ∷ (10 ∷ []))))))))))) ∷ (codes "HTTP/1.1 200 OK" ++ (13 ∷ (10 ∷ (codes "Content-Length: 2" ++ (13 ∷ (10 ∷ (13 ∷ (10 ∷ (codes "ok"))))))))) ∷ []) ∷ [])

abbrev pub nonce_again_setting : ℕ → Request → Setting
nonce_again_setting n request = record (setting_of nonce_again_roster (replicate 32 0) nonce_again_names (reverse nonce_again_journal) n request) { has_negotiate = true }

abbrev pub nonce_again_1_request : Request
nonce_again_1_request = record { method = Get; partition = (codes "main"); place = (record { text = (codes "http://d.example/"); origin = (record { host = (codes "d.example"); port = 80 }); path = (codes "/"); query = None; identity = None }); proxy = None }

abbrev pub nonce_again_1 : List Event
nonce_again_1 =
    (Called Begin Begun)
    ∷ (Called (Preempt Server) Nothing)
    ∷ (Dialed 1)
    ∷ (Headed 1 (codes "GET / HTTP/1.1" ++ (13 ∷ (10 ∷ (codes "Host: d.example" ++ (13 ∷ (10 ∷ (codes "Connection: close" ++ (13 ∷ (10 ∷ (13 ∷ (10 ∷ []))))))))))))
    ∷ (Replied 1 (record { code = 401; stays = true; body = 0; fields = ((codes "Digest realm=\"d\", nonce=\"n\", qop=\"auth\"") ∷ []); server_info = []; proxy_info = [] }))
    ∷ (Called (Select 1 1) (Lead 1 1))
    ∷ (AskedFor 1 AskGiven)
    ∷ (Called (Answer 1 1 1) (Given (record { space = 1; ordinal = 1 }) 0))
    ∷ (Dialed 2)
    ∷ (Drew Server 1 1 0)
    ∷ (Headed 2 (codes "GET / HTTP/1.1" ++ (13 ∷ (10 ∷ (codes "Host: d.example" ++ (13 ∷ (10 ∷ (codes "Authorization: Digest username=\"u\", realm=\"d\", nonce=\"n\", uri=\"/\", response=\"4db3cd29a9eb80c889fe9bbf1cc514ac\", qop=auth, nc=00000001, cnonce=\"35207447f23d120311d8b7ffb079329d\"" ++ (13 ∷ (10 ∷ (codes "Connection: close" ++ (13 ∷ (10 ∷ (13 ∷ (10 ∷ [])))))))))))))))
    ∷ (Replied 2 (record { code = 401; stays = true; body = 0; fields = ((codes "Digest realm=\"d\", nonce=\"n\", qop=\"auth\"") ∷ []); server_info = []; proxy_info = [] }))
    ∷ (Called (Reject 1 1) Removed)
    ∷ (Called (Select 1 1) (Lead 2 2))
    ∷ (AskedFor 2 AskGiven)
    ∷ (Called (Answer 2 2 1) (Given (record { space = 1; ordinal = 2 }) 0))
    ∷ (Dialed 3)
    ∷ (Drew Server 1 2 1)
    ∷ (Headed 3 (codes "GET / HTTP/1.1" ++ (13 ∷ (10 ∷ (codes "Host: d.example" ++ (13 ∷ (10 ∷ (codes "Authorization: Digest username=\"u\", realm=\"d\", nonce=\"n\", uri=\"/\", response=\"a6a600bcf4d925b274a6020f0c44390e\", qop=auth, nc=00000002, cnonce=\"70d9427260d2b6f07be9f49e59e344f2\"" ++ (13 ∷ (10 ∷ (codes "Connection: close" ++ (13 ∷ (10 ∷ (13 ∷ (10 ∷ [])))))))))))))))
    ∷ (Replied 3 (record { code = 401; stays = true; body = 0; fields = ((codes "Digest realm=\"d\", nonce=\"n\", qop=\"auth\"") ∷ []); server_info = []; proxy_info = [] }))
    ∷ (Called (Reject 1 2) Removed)
    ∷ (Called (Select 1 1) (Lead 3 3))
    ∷ (AskedFor 3 AskGiven)
    ∷ (Called (Answer 3 3 1) (Given (record { space = 1; ordinal = 3 }) 0))
    ∷ (Dialed 4)
    ∷ (Drew Server 1 3 2)
    ∷ (Headed 4 (codes "GET / HTTP/1.1" ++ (13 ∷ (10 ∷ (codes "Host: d.example" ++ (13 ∷ (10 ∷ (codes "Authorization: Digest username=\"u\", realm=\"d\", nonce=\"n\", uri=\"/\", response=\"7b36119434c9887667834e2150424b69\", qop=auth, nc=00000003, cnonce=\"fc9cf544d09673da1213f239101ed3c3\"" ++ (13 ∷ (10 ∷ (codes "Connection: close" ++ (13 ∷ (10 ∷ (13 ∷ (10 ∷ [])))))))))))))))
    ∷ (Replied 4 (record { code = 401; stays = true; body = 0; fields = ((codes "Digest realm=\"d\", nonce=\"n\", qop=\"auth\"") ∷ []); server_info = []; proxy_info = [] }))
    ∷ (Called (Reject 1 3) Removed)
    ∷ (Called (Select 1 1) (Lead 4 4))
    ∷ (AskedFor 4 Cancel)
    ∷ (Called (Answer 4 0 1) Cancelled)
    ∷ (Called End RequestEnded)
    ∷ (Ended (Refused 401 (ByCancel 4)))
    ∷ []

abbrev pub nonce_again_2_request : Request
nonce_again_2_request = record { method = Get; partition = (codes "main"); place = (record { text = (codes "http://d.example/"); origin = (record { host = (codes "d.example"); port = 80 }); path = (codes "/"); query = None; identity = None }); proxy = None }

abbrev pub nonce_again_2 : List Event
nonce_again_2 =
    (Called Begin Begun)
    ∷ (Called (Preempt Server) Nothing)
    ∷ (Dialed 1)
    ∷ (Headed 1 (codes "GET / HTTP/1.1" ++ (13 ∷ (10 ∷ (codes "Host: d.example" ++ (13 ∷ (10 ∷ (codes "Connection: close" ++ (13 ∷ (10 ∷ (13 ∷ (10 ∷ []))))))))))))
    ∷ (Replied 1 (record { code = 401; stays = true; body = 0; fields = ((codes "Digest realm=\"e\", nonce=\"n\", qop=\"auth\"") ∷ []); server_info = []; proxy_info = [] }))
    ∷ (Called (Select 2 2) (Lead 5 1))
    ∷ (AskedFor 5 AskGiven)
    ∷ (Called (Answer 5 4 2) (Given (record { space = 2; ordinal = 1 }) 0))
    ∷ (Dialed 2)
    ∷ (Drew Server 1 4 3)
    ∷ (Headed 2 (codes "GET / HTTP/1.1" ++ (13 ∷ (10 ∷ (codes "Host: d.example" ++ (13 ∷ (10 ∷ (codes "Authorization: Digest username=\"u\", realm=\"e\", nonce=\"n\", uri=\"/\", response=\"e7aa3d12aa4d5874141af2c7215b5ada\", qop=auth, nc=00000004, cnonce=\"ff26306a195ae7edb84ab82a39480ae2\"" ++ (13 ∷ (10 ∷ (codes "Connection: close" ++ (13 ∷ (10 ∷ (13 ∷ (10 ∷ [])))))))))))))))
    ∷ (Replied 2 (record { code = 200; stays = true; body = 2; fields = []; server_info = []; proxy_info = [] }))
    ∷ (Called (Note (record { space = 2; ordinal = 1 })) Noted)
    ∷ (Called End RequestEnded)
    ∷ (Ended (Answered 200))
    ∷ []

-- the next nonce of an answer is used from the next request on

abbrev pub next_nonce_roster : Roster
next_nonce_roster = record { requests = ((record { method = Get; partition = (codes "main"); place = (record { text = (codes "http://d.example/a"); origin = (record { host = (codes "d.example"); port = 80 }); path = (codes "/a"); query = None; identity = None }); proxy = None }) ∷ (record { method = Get; partition = (codes "main"); place = (record { text = (codes "http://d.example/b"); origin = (record { host = (codes "d.example"); port = 80 }); path = (codes "/b"); query = None; identity = None }); proxy = None }) ∷ []); allowed = [] }

abbrev pub next_nonce_names : Tables
next_nonce_names = record { spaces = ((record { site = (record { partition = (codes "main"); target = Server; origin = (record { host = (codes "d.example"); port = 80 }) }); scheme = Digest; realm = (codes "d") }) ∷ []); terms = ((record { space = 1; terms = (record { algorithm = Md5; said = false; realm = (codes "d"); nonce = (codes "a"); opaque = None; qop = Auth; userhash = false }); nonce = 1 }) ∷ (record { space = 1; terms = (record { algorithm = Md5; said = false; realm = (codes "d"); nonce = (codes "b"); opaque = None; qop = Auth; userhash = false }); nonce = 2 }) ∷ []); nonces = ((record { site = (record { partition = (codes "main"); target = Server; origin = (record { host = (codes "d.example"); port = 80 }) }); text = (codes "a") }) ∷ (record { site = (record { partition = (codes "main"); target = Server; origin = (record { host = (codes "d.example"); port = 80 }) }); text = (codes "b") }) ∷ []); texts = ((record { user = (codes "u"); password = (codes "p") }) ∷ []) }

abbrev pub next_nonce_journal : List Entry
next_nonce_journal =
    (record { caller = 1; request = 1; call = Begin; reply = Begun })
    ∷ (record { caller = 1; request = 1; call = (Preempt Server); reply = Nothing })
    ∷ (record { caller = 1; request = 1; call = (Select 1 1); reply = (Lead 1 1) })
    ∷ (record { caller = 1; request = 1; call = (Answer 1 1 1); reply = (Given (record { space = 1; ordinal = 1 }) 0) })
    ∷ (record { caller = 1; request = 1; call = (Renew (record { space = 1; ordinal = 1 }) 2); reply = Renewed })
    ∷ (record { caller = 1; request = 1; call = (Note (record { space = 1; ordinal = 1 })); reply = Noted })
    ∷ (record { caller = 1; request = 1; call = End; reply = RequestEnded })
    ∷ (record { caller = 1; request = 2; call = Begin; reply = Begun })
    ∷ (record { caller = 1; request = 2; call = (Preempt Server); reply = (Ready (record { space = 1; ordinal = 1 }) 2 0) })
    ∷ (record { caller = 1; request = 2; call = (Note (record { space = 1; ordinal = 1 })); reply = Noted })
    ∷ (record { caller = 1; request = 2; call = End; reply = RequestEnded })
    ∷ []

abbrev pub next_nonce_links : List (List (List ℕ))
next_nonce_links = (((codes "HTTP/1.1 401 Unauthorized" ++ (13 ∷ (10 ∷ (codes "WWW-Authenticate: Digest realm=\"d\", nonce=\"a\", qop=\"auth\"" ++ (13 ∷ (10 ∷ (codes "Content-Length: 0" ++ (13 ∷ (10 ∷ (13 ∷ (10 ∷ []))))))))))) ∷ (codes "HTTP/1.1 200 OK" ++ (13 ∷ (10 ∷ (codes "Authentication-Info: nextnonce=\"b\"" ++ (13 ∷ (10 ∷ (codes "Content-Length: 2" ++ (13 ∷ (10 ∷ (13 ∷ (10 ∷ (codes "ok")))))))))))) ∷ []) ∷ ((codes "HTTP/1.1 200 OK" ++ (13 ∷ (10 ∷ (codes "Content-Length: 2" ++ (13 ∷ (10 ∷ (13 ∷ (10 ∷ (codes "ok"))))))))) ∷ []) ∷ [])

abbrev pub next_nonce_setting : ℕ → Request → Setting
next_nonce_setting n request = record (setting_of next_nonce_roster (replicate 32 0) next_nonce_names (reverse next_nonce_journal) n request) { has_negotiate = true }

abbrev pub next_nonce_1_request : Request
next_nonce_1_request = record { method = Get; partition = (codes "main"); place = (record { text = (codes "http://d.example/a"); origin = (record { host = (codes "d.example"); port = 80 }); path = (codes "/a"); query = None; identity = None }); proxy = None }

abbrev pub next_nonce_1 : List Event
next_nonce_1 =
    (Called Begin Begun)
    ∷ (Called (Preempt Server) Nothing)
    ∷ (Dialed 1)
    ∷ (Headed 1 (codes "GET /a HTTP/1.1" ++ (13 ∷ (10 ∷ (codes "Host: d.example" ++ (13 ∷ (10 ∷ (codes "Connection: close" ++ (13 ∷ (10 ∷ (13 ∷ (10 ∷ []))))))))))))
    ∷ (Replied 1 (record { code = 401; stays = true; body = 0; fields = ((codes "Digest realm=\"d\", nonce=\"a\", qop=\"auth\"") ∷ []); server_info = []; proxy_info = [] }))
    ∷ (Called (Select 1 1) (Lead 1 1))
    ∷ (AskedFor 1 AskGiven)
    ∷ (Called (Answer 1 1 1) (Given (record { space = 1; ordinal = 1 }) 0))
    ∷ (Dialed 2)
    ∷ (Drew Server 1 1 0)
    ∷ (Headed 2 (codes "GET /a HTTP/1.1" ++ (13 ∷ (10 ∷ (codes "Host: d.example" ++ (13 ∷ (10 ∷ (codes "Authorization: Digest username=\"u\", realm=\"d\", nonce=\"a\", uri=\"/a\", response=\"b0615992079e0795cfe24a9c57f9a99c\", qop=auth, nc=00000001, cnonce=\"35207447f23d120311d8b7ffb079329d\"" ++ (13 ∷ (10 ∷ (codes "Connection: close" ++ (13 ∷ (10 ∷ (13 ∷ (10 ∷ [])))))))))))))))
    ∷ (Replied 2 (record { code = 200; stays = true; body = 2; fields = []; server_info = ((codes "nextnonce=\"b\"") ∷ []); proxy_info = [] }))
    ∷ (Called (Renew (record { space = 1; ordinal = 1 }) 2) Renewed)
    ∷ (Called (Note (record { space = 1; ordinal = 1 })) Noted)
    ∷ (Called End RequestEnded)
    ∷ (Ended (Answered 200))
    ∷ []

abbrev pub next_nonce_2_request : Request
next_nonce_2_request = record { method = Get; partition = (codes "main"); place = (record { text = (codes "http://d.example/b"); origin = (record { host = (codes "d.example"); port = 80 }); path = (codes "/b"); query = None; identity = None }); proxy = None }

abbrev pub next_nonce_2 : List Event
next_nonce_2 =
    (Called Begin Begun)
    ∷ (Called (Preempt Server) (Ready (record { space = 1; ordinal = 1 }) 2 0))
    ∷ (Dialed 1)
    ∷ (Drew Server 2 1 0)
    ∷ (Headed 1 (codes "GET /b HTTP/1.1" ++ (13 ∷ (10 ∷ (codes "Host: d.example" ++ (13 ∷ (10 ∷ (codes "Authorization: Digest username=\"u\", realm=\"d\", nonce=\"b\", uri=\"/b\", response=\"97c7cec729708308dda70c1250384daa\", qop=auth, nc=00000001, cnonce=\"e3f82b9716e036ab9759c12103c1c1aa\"" ++ (13 ∷ (10 ∷ (codes "Connection: close" ++ (13 ∷ (10 ∷ (13 ∷ (10 ∷ [])))))))))))))))
    ∷ (Replied 1 (record { code = 200; stays = true; body = 2; fields = []; server_info = []; proxy_info = [] }))
    ∷ (Called (Note (record { space = 1; ordinal = 1 })) Noted)
    ∷ (Called End RequestEnded)
    ∷ (Ended (Answered 200))
    ∷ []
