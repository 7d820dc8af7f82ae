-- The lines of the traces.
use Rattle.std.specs.Prelude.{ℕ, ◌+◌, Bool, true, false, List, [], ◌∷◌, ◌++◌, codes, if◌then◌else◌}
use Rattle.wire_head.specs.declared.reply.Reply.{Reply}
use Rattle.wire_head.specs.declared.reply.WireFault.{WireFault}
use Rattle.wire_head.specs.declared.reply.WireFault.TheVariants.{BadHead, HeadTooLong, BadFraming, BodyTooLong, Cut}
use Rattle.wire_head.specs.Replies.{is_challenge}
use Rattle.link_trait.specs.declared.prompts.AskSeen.{AskSeen}
use Rattle.link_trait.specs.declared.prompts.AskSeen.TheVariants.{Given as AskGiven, Cancel as AskCancel, Failed as AskFailed, NoMemory as AskNoMemory}
use Rattle.link_trait.specs.declared.steps.StepSeen.{StepSeen}
use Rattle.link_trait.specs.declared.steps.StepSeen.TheVariants.{Token, Done, Refused as StepRefused, NoMechanism, Failed as StepFailed, NoMemory as StepNoMemory}
use Rattle.auth_runs.specs.declared.event.Why.{Why}
use Rattle.auth_runs.specs.declared.event.Why.TheVariants.{NoChallenge, Cancelled, Rounds, BoundLost}
use Rattle.auth_runs.specs.declared.event.Outcome.{Outcome}
use Rattle.auth_runs.specs.declared.event.Outcome.TheVariants.{Answered, Refused, BadReply, LinkFailed, ProviderFailed, PromptFailed, NoMemory}
use Rattle.auth_runs.specs.declared.event.Event.{Event}
use Rattle.auth_runs.specs.declared.event.Event.TheVariants.{Called, Dialed, DialFailed, Drew, Headed, WriteFailed, ReadFailed, Replied, Broken, LinkLost, AskedFor, Stepped, Ended}
use Rattle.report_lines.specs.Words.{number, value, target_word}
use Rattle.report_lines.specs.EntryLines.{three}

abbrev pub stays_word : Bool → List ℕ
stays_word true = codes " open"
stays_word false = codes " close"

abbrev pub fault_word : WireFault → List ℕ
fault_word BadHead = codes " head"
fault_word HeadTooLong = codes " headlong"
fault_word BadFraming = codes " framing"
fault_word BodyTooLong = codes " bodylong"
fault_word Cut = codes " cut"

abbrev pub count_words : ℕ → List ℕ
count_words count = number count

-- each field value as a word
abbrev pub field_words : List (List ℕ) → List ℕ
field_words [] = []
field_words (field ∷ fields) = value field ++ field_words fields

-- each info's value as a word, behind the word of its kind
abbrev pub info_words : List ℕ → List (List ℕ) → List ℕ
info_words kind [] = []
info_words kind (info ∷ infos) = kind ++ value info ++ info_words kind infos

-- the field values of a challenge, and the infos of another reply, the server's first
abbrev pub value_words : Reply → List ℕ
value_words reply =
    if is_challenge reply.code then field_words reply.fields
    else info_words (codes " info") reply.server_info ++ info_words (codes " proxyinfo") reply.proxy_info

-- `code open body` or `code close body`, then the values
abbrev pub reply_words : Reply → List ℕ
reply_words reply = number reply.code ++ stays_word reply.stays ++ number reply.body ++ value_words reply

abbrev pub ask_words : AskSeen → List ℕ
ask_words AskGiven = codes " given"
ask_words AskCancel = codes " cancel"
ask_words (AskFailed count) = codes " failed" ++ number count
ask_words AskNoMemory = codes " nomemory"

abbrev pub step_words : StepSeen → List ℕ
step_words (Token token) = codes " token" ++ value token
step_words Done = codes " done"
step_words StepRefused = codes " refused"
step_words NoMechanism = codes " nomech"
step_words (StepFailed count) = codes " failed" ++ number count
step_words StepNoMemory = codes " nomemory"

abbrev pub why_words : Why → List ℕ
why_words NoChallenge = codes " nochallenge"
why_words (Cancelled prompt) = codes " cancelled" ++ number prompt
why_words Rounds = codes " rounds"
why_words BoundLost = codes " boundlost"

abbrev pub outcome_words : Outcome → List ℕ
outcome_words (Answered code) = codes " answered" ++ number code
outcome_words (Refused code why) = codes " refused" ++ number code ++ why_words why
outcome_words (BadReply fault) = codes " badreply" ++ fault_word fault
outcome_words (LinkFailed count) = codes " linkfailed" ++ count_words count
outcome_words (ProviderFailed count) = codes " providerfailed" ++ count_words count
outcome_words (PromptFailed count) = codes " promptfailed" ++ count_words count
outcome_words NoMemory = codes " nomemory"

abbrev pub event_word : Event → List ℕ
event_word (Called call reply) = codes " call"
event_word (Dialed link) = codes " dial"
event_word (DialFailed link count) = codes " dialfailed"
event_word (Drew target nonce count epoch) = codes " draw"
event_word (Headed link bytes) = codes " head"
event_word (WriteFailed link count) = codes " writefailed"
event_word (ReadFailed link count) = codes " readfailed"
event_word (Replied link reply) = codes " reply"
event_word (Broken link fault) = codes " broken"
event_word (LinkLost link) = codes " lost"
event_word (AskedFor prompt seen) = codes " ask"
event_word (Stepped target step) = codes " step"
event_word (Ended outcome) = codes " outcome"

abbrev pub drawn_words : ℕ → ℕ → ℕ → List ℕ
drawn_words nonce count epoch = three nonce count epoch

-- what stands behind the event's word; a call is the next entry of its request, so nothing
abbrev pub event_values : Event → List ℕ
event_values (Called call reply) = []
event_values (Dialed link) = number link
event_values (DialFailed link count) = number link ++ number count
event_values (Drew target nonce count epoch) = target_word target ++ drawn_words nonce count epoch
event_values (Headed link bytes) = number link ++ value bytes
event_values (WriteFailed link count) = number link ++ number count
event_values (ReadFailed link count) = number link ++ number count
event_values (Replied link reply) = number link ++ reply_words reply
event_values (Broken link fault) = number link ++ fault_word fault
event_values (LinkLost link) = number link
event_values (AskedFor prompt seen) = number prompt ++ ask_words seen
event_values (Stepped target step) = target_word target ++ step_words step
event_values (Ended outcome) = outcome_words outcome

-- `t request event`
abbrev pub event_line : ℕ → Event → List ℕ
event_line r event = codes "t" ++ number r ++ event_word event ++ event_values event ++ codes "\n"

abbrev pub event_lines : ℕ → List Event → List ℕ
event_lines r [] = []
event_lines r (event ∷ events) = event_line r event ++ event_lines r events

-- the lines of traces, whose requests' numbers rise from r
abbrev pub trace_lines : ℕ → List (List Event) → List ℕ
trace_lines r [] = []
trace_lines r (events ∷ traces) = event_lines r events ++ trace_lines (r + 1) traces
