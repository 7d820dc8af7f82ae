-- Runs with draws: two requests of one partition for one URL, the first challenged by Digest, and the second one ready with what was given.
use Rattle.std.specs.Prelude.{ℕ, ◌==◌, ◌&&◌, true, false, List, [], ◌∷◌, ◌++◌, codes, reverse, None, if◌then◌else◌}
use Rattle.spaces.specs.declared.roster.Roster.{Roster}
use Rattle.spaces.specs.declared.site.Target.TheVariants.{Server}
use Rattle.spaces.specs.declared.space.Scheme.TheVariants.{Digest}
use Rattle.spaces.specs.declared.terms.Terms.{Terms}
use Rattle.spaces.specs.declared.terms.Algorithm.TheVariants.{Md5}
use Rattle.spaces.specs.declared.terms.Qop.TheVariants.{Auth}
use Rattle.spaces.specs.ProtectionSpaces.{ProtectionSpace}
use Rattle.auth_events.specs.declared.journal.Call.TheVariants.{Begin, Preempt, Select, Answer, Note, End}
use Rattle.auth_events.specs.declared.journal.BookReply.TheVariants.{Begun, Nothing, Ready, Lead, Given, Noted, Ended as RequestEnded}
use Rattle.auth_events.specs.declared.journal.Entry.{Entry}
use Rattle.auth_events.specs.declared.names.TermsName.{TermsName}
use Rattle.auth_events.specs.declared.names.NonceName.{NonceName}
use Rattle.auth_events.specs.Tables.{Tables}
use Rattle.wire_head.specs.declared.reply.Reply.{Reply}
use Rattle.link_trait.specs.declared.prompts.AskSeen.TheVariants.{Given as AskGiven}
use Rattle.auth_runs.specs.declared.event.Event.{Event}
use Rattle.auth_runs.specs.declared.event.Event.TheVariants.{Called, Dialed, Drew, Headed, Replied, AskedFor}
use Rattle.auth_runs.specs.Runs.{Run}
use Rattle.trace_rule.specs.Settings.{setting_of}
use Rattle.trace_rule.specs.Heads.{head_text}
use Rattle.trace_rule.specs.Heard.{ended}
use Rattle.run_rule.specs.Outside.{Outside}
use Rattle.liars.specs.Session.{first_request, seed, answer, answer_bytes, login, space_in, outside, bare_head}
use Rattle.liars.specs.Honest.{made, gift, begun, closed, close}

-- THE SESSION

abbrev pub digest_challenge : Reply
digest_challenge = record { code = 401; stays = true; body = 0; fields = codes "Digest realm=x, nonce=n, qop=auth" ∷ []; server_info = []; proxy_info = [] }

abbrev pub digest_bytes : List ℕ
digest_bytes = codes "HTTP/1.1 401 No\r\nWWW-Authenticate: Digest realm=x, nonce=n, qop=auth\r\nContent-Length: 0\r\n\r\n"

-- the first link of the first request challenges, and each other one answers
abbrev pub drawn_outside : Outside
drawn_outside = record outside { streams = λ link. ended (if link.request == 1 && link.nth == 1 then digest_bytes else answer_bytes) }

abbrev pub drawn_roster : Roster
drawn_roster = record { requests = first_request ∷ first_request ∷ []; allowed = [] }

-- NAMES

abbrev pub digest_space : ProtectionSpace
digest_space = record (space_in (codes "p")) { scheme = Digest }

abbrev pub terms : Terms
terms = record { algorithm = Md5; said = false; realm = codes "x"; nonce = codes "n"; opaque = None; qop = Auth; userhash = false }

abbrev pub terms_name : TermsName
terms_name = record { space = 1; terms = terms; nonce = 1 }

abbrev pub nonce_name : NonceName
nonce_name = record { site = digest_space.site; text = codes "n" }

abbrev pub drawn_names : Tables
drawn_names = record { spaces = digest_space ∷ []; terms = terms_name ∷ []; nonces = nonce_name ∷ []; texts = login ∷ [] }

-- RUNS

abbrev pub drawn_journal : List Entry
drawn_journal =
    begun 1 1 ++ made 1 1 (Select 1 1) (Lead 1 1) ∷ made 1 1 (Answer 1 1 1) (Given (gift 1) 0) ∷ closed 1 1
    ++ made 1 2 Begin Begun ∷ made 1 2 (Preempt Server) (Ready (gift 1) 1 0) ∷ made 1 2 (Note (gift 1)) Noted ∷ made 1 2 End RequestEnded ∷ []

-- the head that has to stand behind these events of a request
abbrev pub head_behind : ℕ → List Event → List ℕ
head_behind r events = head_text (setting_of drawn_roster seed drawn_names (reverse drawn_journal) r first_request) (reverse events)

-- with that head, its answer and the end
abbrev pub sent : ℕ → ℕ → List Event → List Event
sent r link events = events ++ Headed link (head_behind r events) ∷ Replied link answer ∷ close 1

-- the first request up to its second head, which draws that count and epoch
abbrev pub given : List Event
given =
    Called Begin Begun ∷ Called (Preempt Server) Nothing ∷ Dialed 1 ∷ Headed 1 bare_head ∷ Replied 1 digest_challenge
    ∷ Called (Select 1 1) (Lead 1 1) ∷ AskedFor 1 AskGiven ∷ Called (Answer 1 1 1) (Given (gift 1) 0) ∷ Dialed 2 ∷ []

-- the second one up to its head
abbrev pub ready : List Event
ready = Called Begin Begun ∷ Called (Preempt Server) (Ready (gift 1) 1 0) ∷ Dialed 1 ∷ []

-- the first request draws the one count and epoch, and the second one the other count
abbrev pub drawing : ℕ → ℕ → ℕ → Run
drawing count epoch other = record {
  seed = seed;
  roster = drawn_roster;
  names = drawn_names;
  journal = drawn_journal;
  traces =
      sent 1 2 (given ++ Drew Server 1 count epoch ∷ [])
      ∷ sent 2 1 (ready ++ Drew Server 1 other 0 ∷ []) ∷ [];
}

-- the honest one
abbrev pub in_turn : Run
in_turn = drawing 1 0 2

-- LIES

-- one count is drawn twice
abbrev pub drawn_twice : Run
drawn_twice = drawing 1 0 1

-- the second count is drawn first
abbrev pub out_of_turn : Run
out_of_turn = drawing 2 0 1

-- a count is passed over
abbrev pub passed_over : Run
passed_over = drawing 1 0 3

-- a draw has an epoch that never was
abbrev pub future_epoch : Run
future_epoch = drawing 1 5 2

-- nothing is drawn for the second request
abbrev pub never_drawn : Run
never_drawn = record in_turn { traces = sent 1 2 (given ++ Drew Server 1 1 0 ∷ []) ∷ sent 2 1 ready ∷ [] }

-- the nonce has a second number, and so its count 1 is drawn again
abbrev pub nonce_twice : Run
nonce_twice = record in_turn { names = record drawn_names { nonces = nonce_name ∷ nonce_name ∷ [] } }
