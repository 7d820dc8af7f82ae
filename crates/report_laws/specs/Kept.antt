-- What a run keeps, beside what its types hold.
use Rattle.std.specs.Prelude.{◌≡◌, ◌≤◌, ℕ, ⊤, ◌+◌, true, false, List, [], ◌∷◌, length, map, filter_map, Option, None, Some}
use Rattle.spaces.specs.Places.{IsPlaced}
use Rattle.wire_head.specs.Replies.{is_challenge}
use Rattle.wire_head.specs.declared.reply.Reply.{Reply}
use Rattle.auth_events.specs.Tables.{AreNames, AreFew}
use Rattle.auth_events.specs.Pages.{IsWithinRoom}
use Rattle.auth_events.specs.declared.journal.Entry.{Entry}
use Rattle.auth_events.specs.declared.journal.Call.{Call}
use Rattle.auth_events.specs.declared.journal.BookReply.{BookReply}
use Rattle.auth_runs.specs.declared.event.Event.{Event}
use Rattle.auth_runs.specs.declared.event.Event.TheVariants.{Called, Replied}
use Rattle.auth_runs.specs.Runs.{Run, Each, is_whole}
use Rattle.report_reading.specs.Reading.{next_call}
use Rattle.auth_report.specs.Steps.{own}

-- only a challenge has fields, and a challenge has no infos
pub record IsTidy (reply : Reply) : Type 0 where
  pub fields : is_challenge reply.code ≡ false → reply.fields ≡ []
  pub server_info : is_challenge reply.code ≡ true → reply.server_info ≡ []
  pub proxy_info : is_challenge reply.code ≡ true → reply.proxy_info ≡ []

-- a reply is tidy
abbrev pub IsTidyEvent : Event → Type 0
IsTidyEvent (Replied link reply) = IsTidy reply
IsTidyEvent _ = ⊤

-- a call is the next entry, and a reply is tidy
abbrev pub IsKeptEvent : Option Entry → Event → Type 0
IsKeptEvent next (Called call reply) = next_call next ≡ Some (Called call reply)
IsKeptEvent next (Replied link reply) = IsTidy reply
IsKeptEvent next _ = ⊤

-- the call of an event and its reply
abbrev pub called : Event → Option (Call × BookReply)
called (Called call reply) = Some (call, reply)
called _ = None

abbrev pub said : Entry → Call × BookReply
said entry = (entry.call, entry.reply)

-- the trace is whole, its calls are the request's entries in order, and its replies are tidy
pub record IsTraceOf (journal : List Entry) (r : ℕ) (events : List Event) : Type 0 where
  pub whole : is_whole events ≡ true
  pub calls : filter_map called events ≡ map said (own journal r)
  pub tidy : Each IsTidyEvent events

-- the traces are those of requests from r on
abbrev pub AreTraces : List Entry → ℕ → List (List Event) → Type 0
AreTraces journal r [] = ⊤
AreTraces journal r (events ∷ traces) = IsTraceOf journal r events × AreTraces journal (r + 1) traces

pub record IsKept (run : Run) : Type 0 where
  pub seed : length run.seed ≡ 32
  -- at most 2,048 requests, each at the place of its text
  pub few : length run.roster.requests ≤ 2048
  pub places : Each IsPlaced run.roster.requests
  -- the names, and their limits
  pub names : AreNames run.names
  pub few_names : AreFew (length run.roster.requests) run.names
  -- each entry is of a request of the roster, and none has more than 64
  pub journal : IsWithinRoom (length run.roster.requests) run.journal
  -- one trace for each request
  pub all_traced : length run.traces ≡ length run.roster.requests
  pub traces : AreTraces run.journal 1 run.traces
