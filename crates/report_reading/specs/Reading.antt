-- How a line is read: it is what its words are taken for, where just this line is written for that.
use Rattle.std.specs.Prelude.{ℕ, List, codes, bytes_eq, Option, Some, None, option_map, if◌then◌else◌}
use Rattle.auth_text.specs.Login.{Login}
use Rattle.spaces.specs.declared.place.Origin.{Origin}
use Rattle.spaces.specs.declared.roster.Request.{Request}
use Rattle.spaces.specs.ProtectionSpaces.{ProtectionSpace}
use Rattle.auth_events.specs.declared.names.TermsName.{TermsName}
use Rattle.auth_events.specs.declared.journal.Entry.{Entry}
use Rattle.auth_events.specs.Pages.{fits}
use Rattle.auth_runs.specs.declared.event.Event.{Event}
use Rattle.auth_runs.specs.declared.event.Event.TheVariants.{Called}
use Rattle.report_lines.specs.RosterLines.{seed_line, default_line, request_line}
use Rattle.report_lines.specs.NameLines.{space_line, terms_line, text_line}
use Rattle.report_lines.specs.EntryLines.{entry_line}
use Rattle.report_lines.specs.EventLines.{event_line}
use Rattle.report_reading.specs.Words.{◌>>=◌, words, word_at}
use Rattle.report_reading.specs.Forms.{seed_form, default_form, request_form, space_form, terms_form, text_form}
use Rattle.report_reading.specs.EntryForms.{entry_form}
use Rattle.report_reading.specs.EventForms.{event_form}

-- the thing, where just this line is written for it
abbrev pub if_written : {A : Type 0} → (A → List ℕ) → List ℕ → A → Option A
if_written written line thing = if bytes_eq (written thing) line then Some thing else None

abbrev pub seed_at : List ℕ → Option (List ℕ)
seed_at line = seed_form (words line) >>= if_written seed_line line

abbrev pub default_at : List ℕ → Option Origin
default_at line = default_form (words line) >>= if_written default_line line

abbrev pub request_at : ℕ → List ℕ → Option Request
request_at n line = request_form (words line) >>= if_written (request_line n) line

abbrev pub space_at : ℕ → List ℕ → Option ProtectionSpace
space_at n line = space_form (words line) >>= if_written (space_line n) line

abbrev pub terms_at : ℕ → List ProtectionSpace → List ℕ → Option TermsName
terms_at n spaces line = terms_form spaces (words line) >>= if_written (terms_line n) line

abbrev pub text_at : ℕ → List ℕ → Option Login
text_at n line = text_form (words line) >>= if_written (text_line n) line

-- the reply is one of the call's
abbrev pub if_fits : Entry → Option Entry
if_fits entry = if fits entry.call entry.reply then Some entry else None

abbrev pub entry_at : List ℕ → Option Entry
entry_at line = if_fits (entry_form (words line)) >>= if_written entry_line line

abbrev pub call_in : Entry → Event
call_in entry = Called entry.call entry.reply

abbrev pub next_call : Option Entry → Option Event
next_call next = option_map call_in next

-- a call is the next entry of the request, if there is one
abbrev pub event_of : Option Entry → List (List ℕ) → Option Event
event_of next words = if bytes_eq (word_at words 2) (codes "call") then next_call next else Some (event_form words)

abbrev pub event_at : Option Entry → ℕ → List ℕ → Option Event
event_at next r line = event_of next (words line) >>= if_written (event_line r) line
