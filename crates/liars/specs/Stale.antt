-- A run whose nonce gets stale: it is renewed without a question.
use Rattle.std.specs.Prelude.{ℕ, ◌==◌, List, [], ◌∷◌, ◌++◌, codes, reverse, if◌then◌else◌}
use Rattle.spaces.specs.declared.site.Target.TheVariants.{Server}
use Rattle.spaces.specs.declared.terms.Terms.{Terms}
use Rattle.auth_events.specs.declared.journal.Call.TheVariants.{Select, Reject, Renew, Answer, End}
use Rattle.auth_events.specs.declared.journal.BookReply.TheVariants.{Lead, Given, Removed, Renewed, Cancelled, Ended as RequestEnded}
use Rattle.auth_events.specs.declared.journal.Entry.{Entry}
use Rattle.auth_events.specs.declared.names.TermsName.{TermsName}
use Rattle.auth_events.specs.declared.names.NonceName.{NonceName}
use Rattle.auth_events.specs.Tables.{Tables}
use Rattle.wire_head.specs.declared.reply.Reply.{Reply}
use Rattle.link_trait.specs.declared.prompts.AskSeen.TheVariants.{Cancel}
use Rattle.auth_runs.specs.declared.event.Why.TheVariants.{Cancelled as ByCancel}
use Rattle.auth_runs.specs.declared.event.Outcome.TheVariants.{Refused}
use Rattle.auth_runs.specs.declared.event.Event.{Event}
use Rattle.auth_runs.specs.declared.event.Event.TheVariants.{Called, Dialed, Drew, Headed, Replied, AskedFor, Ended}
use Rattle.auth_runs.specs.Runs.{Run}
use Rattle.trace_rule.specs.Settings.{setting_of}
use Rattle.trace_rule.specs.Heads.{head_text}
use Rattle.trace_rule.specs.Heard.{ended}
use Rattle.run_rule.specs.Outside.{Outside}
use Rattle.liars.specs.Session.{one_request, first_request, seed, answer, answer_bytes, login, outside}
use Rattle.liars.specs.Honest.{made, gift, begun, closed, close}
use Rattle.liars.specs.Drawn.{digest_challenge, digest_bytes, digest_space, terms, terms_name, nonce_name, given}

-- THE SESSION

abbrev pub stale_challenge : Reply
stale_challenge = record digest_challenge { fields = codes "Digest realm=x, nonce=m, qop=auth, stale=true" ∷ [] }

abbrev pub stale_bytes : List ℕ
stale_bytes = codes "HTTP/1.1 401 No\r\nWWW-Authenticate: Digest realm=x, nonce=m, qop=auth, stale=true\r\nContent-Length: 0\r\n\r\n"

-- the first link challenges, the second one says that the nonce is stale, and the third one answers
abbrev pub stale_outside : Outside
stale_outside = record outside {
  streams = λ link. ended (if link.nth == 1 then digest_bytes else (if link.nth == 2 then stale_bytes else answer_bytes));
}

-- NAMES

abbrev pub new_terms : Terms
new_terms = record terms { nonce = codes "m" }

abbrev pub new_terms_name : TermsName
new_terms_name = record { space = 1; terms = new_terms; nonce = 2 }

abbrev pub new_nonce_name : NonceName
new_nonce_name = record { site = digest_space.site; text = codes "m" }

abbrev pub stale_names : Tables
stale_names = record {
  spaces = digest_space ∷ [];
  terms = terms_name ∷ new_terms_name ∷ [];
  nonces = nonce_name ∷ new_nonce_name ∷ [];
  texts = login ∷ [];
}

-- RUNS

abbrev pub start_entries : List Entry
start_entries = begun 1 1 ++ made 1 1 (Select 1 1) (Lead 1 1) ∷ made 1 1 (Answer 1 1 1) (Given (gift 1) 0) ∷ []

abbrev pub stale_journal : List Entry
stale_journal = start_entries ++ made 1 1 (Renew (gift 1) 2) Renewed ∷ closed 1 1

-- with the head that has to stand behind these events, and its reply
abbrev pub stale_sent : ℕ → List Event → Reply → List Event
stale_sent link events reply =
    events ++ Headed link (head_text (setting_of one_request seed stale_names (reverse stale_journal) 1 first_request) (reverse events)) ∷ Replied link reply ∷ []

-- up to the stale nonce
abbrev pub stale_start : List Event
stale_start = stale_sent 2 (given ++ Drew Server 1 1 0 ∷ []) stale_challenge

-- the honest one
abbrev pub renewed : Run
renewed = record {
  seed = seed;
  roster = one_request;
  names = stale_names;
  journal = stale_journal;
  traces = (stale_sent 3 (stale_start ++ Called (Renew (gift 1) 2) Renewed ∷ Dialed 3 ∷ Drew Server 2 1 0 ∷ []) answer ++ close 1) ∷ [];
}

-- the lie: the user is asked anew
abbrev pub asked_anew : Run
asked_anew = record renewed {
  journal =
      start_entries ++ made 1 1 (Reject 1 1) Removed ∷ made 1 1 (Select 1 2) (Lead 2 2) ∷ made 1 1 (Answer 2 0 2) Cancelled ∷ made 1 1 End RequestEnded ∷ [];
  traces =
      (stale_start ++ Called (Reject 1 1) Removed ∷ Called (Select 1 2) (Lead 2 2) ∷ AskedFor 2 Cancel ∷ Called (Answer 2 0 2) Cancelled
      ∷ Called End RequestEnded ∷ Ended (Refused 401 (ByCancel 2)) ∷ []) ∷ [];
}
