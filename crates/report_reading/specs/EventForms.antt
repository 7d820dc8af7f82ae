-- What the words of a line of a trace are taken for.
use Rattle.std.specs.Prelude.{ℕ, List, [], ◌∷◌, map, drop, codes, bytes_eq, if◌then◌else◌}
use Rattle.session_text.specs.Words.{word_value}
use Rattle.wire_head.specs.Replies.{is_challenge}
use Rattle.wire_head.specs.declared.reply.Reply.{Reply}
use Rattle.wire_head.specs.declared.reply.WireFault.{WireFault}
use Rattle.wire_head.specs.declared.reply.WireFault.TheVariants.{BadHead, HeadTooLong, BadFraming, BodyTooLong, Cut}
use Rattle.link_trait.specs.declared.prompts.AskSeen.{AskSeen}
use Rattle.link_trait.specs.declared.prompts.AskSeen.TheVariants.{Given as AskGiven, Cancel as AskCancel, Failed as AskFailed, NoMemory as AskNoMemory}
use Rattle.link_trait.specs.declared.steps.StepSeen.{StepSeen}
use Rattle.link_trait.specs.declared.steps.StepSeen.TheVariants.{Token, Done, Refused as StepRefused, NoMechanism, Failed as StepFailed, NoMemory as StepNoMemory}
use Rattle.auth_runs.specs.declared.event.Why.{Why}
use Rattle.auth_runs.specs.declared.event.Why.TheVariants.{NoChallenge, Cancelled, Rounds, BoundLost}
use Rattle.auth_runs.specs.declared.event.Outcome.{Outcome}
use Rattle.auth_runs.specs.declared.event.Outcome.TheVariants.{Answered, Refused, BadReply, LinkFailed, ProviderFailed, PromptFailed, NoMemory}
use Rattle.auth_runs.specs.declared.event.Event.{Event}
use Rattle.auth_runs.specs.declared.event.Event.TheVariants.{Dialed, DialFailed, Drew, Headed, WriteFailed, ReadFailed, Replied, Broken, LinkLost, AskedFor, Stepped, Ended}
use Rattle.report_reading.specs.Numbers.{code}
use Rattle.report_reading.specs.Words.{word_at, target_of}
use Rattle.report_reading.specs.EntryForms.{small_at, count_at}

abbrev pub code_at : List (List ℕ) → ℕ → ℕ
code_at words at = code (word_at words at)

abbrev pub fault_of : List ℕ → WireFault
fault_of word =
    if bytes_eq word (codes "head") then BadHead
    else if bytes_eq word (codes "headlong") then HeadTooLong
    else if bytes_eq word (codes "framing") then BadFraming
    else if bytes_eq word (codes "bodylong") then BodyTooLong
    else Cut

-- the field values of a challenge; another reply has none
abbrev pub fields_of : List (List ℕ) → List (List ℕ)
fields_of words = if is_challenge (code_at words 4) then map word_value (drop 7 words) else []

-- the values that stand behind this word, where words stand by pairs
abbrev pub values_behind : List ℕ → List (List ℕ) → List (List ℕ)
values_behind kind [] = []
values_behind kind (key ∷ []) = []
values_behind kind (key ∷ word ∷ words) =
    if bytes_eq key kind then word_value word ∷ values_behind kind words else values_behind kind words

-- the infos of that kind; a challenge has none
abbrev pub infos_of : List ℕ → List (List ℕ) → List (List ℕ)
infos_of kind words = if is_challenge (code_at words 4) then [] else values_behind kind (drop 7 words)

abbrev pub wire_reply_of : List (List ℕ) → Reply
wire_reply_of words = record {
  code = code_at words 4;
  stays = bytes_eq (word_at words 5) (codes "open");
  body = small_at words 6;
  fields = fields_of words;
  server_info = infos_of (codes "info") words;
  proxy_info = infos_of (codes "proxyinfo") words;
}

abbrev pub asked_of : List (List ℕ) → AskSeen
asked_of words =
    if bytes_eq (word_at words 4) (codes "given") then AskGiven
    else if bytes_eq (word_at words 4) (codes "cancel") then AskCancel
    else if bytes_eq (word_at words 4) (codes "failed") then AskFailed (count_at words 5)
    else AskNoMemory

abbrev pub step_of : List (List ℕ) → StepSeen
step_of words =
    if bytes_eq (word_at words 4) (codes "token") then Token (word_value (word_at words 5))
    else if bytes_eq (word_at words 4) (codes "done") then Done
    else if bytes_eq (word_at words 4) (codes "refused") then StepRefused
    else if bytes_eq (word_at words 4) (codes "nomech") then NoMechanism
    else if bytes_eq (word_at words 4) (codes "failed") then StepFailed (count_at words 5)
    else StepNoMemory

abbrev pub why_of : List (List ℕ) → Why
why_of words =
    if bytes_eq (word_at words 5) (codes "nochallenge") then NoChallenge
    else if bytes_eq (word_at words 5) (codes "cancelled") then Cancelled (small_at words 6)
    else if bytes_eq (word_at words 5) (codes "rounds") then Rounds
    else BoundLost

abbrev pub outcome_of : List (List ℕ) → Outcome
outcome_of words =
    if bytes_eq (word_at words 3) (codes "answered") then Answered (code_at words 4)
    else if bytes_eq (word_at words 3) (codes "refused") then Refused (code_at words 4) (why_of words)
    else if bytes_eq (word_at words 3) (codes "badreply") then BadReply (fault_of (word_at words 4))
    else if bytes_eq (word_at words 3) (codes "linkfailed") then LinkFailed (count_at words 4)
    else if bytes_eq (word_at words 3) (codes "providerfailed") then ProviderFailed (count_at words 4)
    else if bytes_eq (word_at words 3) (codes "promptfailed") then PromptFailed (count_at words 4)
    else NoMemory

-- `t request event`, where the event is no call
abbrev pub event_form : List (List ℕ) → Event
event_form words =
    if bytes_eq (word_at words 2) (codes "dial") then Dialed (small_at words 3)
    else if bytes_eq (word_at words 2) (codes "dialfailed") then DialFailed (small_at words 3) (count_at words 4)
    else if bytes_eq (word_at words 2) (codes "draw") then Drew (target_of (word_at words 3)) (small_at words 4) (small_at words 5) (small_at words 6)
    else if bytes_eq (word_at words 2) (codes "head") then Headed (small_at words 3) (word_value (word_at words 4))
    else if bytes_eq (word_at words 2) (codes "writefailed") then WriteFailed (small_at words 3) (count_at words 4)
    else if bytes_eq (word_at words 2) (codes "readfailed") then ReadFailed (small_at words 3) (count_at words 4)
    else if bytes_eq (word_at words 2) (codes "reply") then Replied (small_at words 3) (wire_reply_of words)
    else if bytes_eq (word_at words 2) (codes "broken") then Broken (small_at words 3) (fault_of (word_at words 4))
    else if bytes_eq (word_at words 2) (codes "lost") then LinkLost (small_at words 3)
    else if bytes_eq (word_at words 2) (codes "ask") then AskedFor (small_at words 3) (asked_of words)
    else if bytes_eq (word_at words 2) (codes "step") then Stepped (target_of (word_at words 3)) (step_of words)
    else Ended (outcome_of words)
