-- What the outside tells a request, by who tells it: a trace reads each teller's tape from its front.
use Rattle.std.specs.Prelude.{ℕ, ◌≡◌, Bool, true, false, List, [], ◌∷◌, drop, take, if◌then◌else◌}
use Rattle.auth_events.specs.declared.journal.Call.{Call}
use Rattle.auth_events.specs.declared.journal.Call.TheVariants.{Answer}
use Rattle.auth_events.specs.declared.journal.BookReply.{BookReply}
use Rattle.wire_head.specs.declared.reply.Reply.{Reply}
use Rattle.wire_head.specs.declared.reply.WireFault.{WireFault}
use Rattle.link_trait.specs.declared.prompts.AskSeen.{AskSeen}
use Rattle.link_trait.specs.declared.steps.StepSeen.{StepSeen}
use Rattle.auth_runs.specs.declared.event.Event.{Event}
use Rattle.auth_runs.specs.declared.event.Event.TheVariants.{Called, Dialed, DialFailed, Drew, Headed, WriteFailed, ReadFailed, Replied, Broken, LinkLost, AskedFor, Stepped, Ended}
use Rattle.trace_rule.specs.Settings.{Setting}
use Rattle.trace_rule.specs.Moves.{Want}
use Rattle.trace_rule.specs.Closings.{want}
use Rattle.trace_rule.specs.Moves.Want.{Calls, Answers, Asks, Steps, Dials, Draws, Writes, Reads, Loses, Ends, Rests}

-- who tells
pub data Teller : Type 0 where
  Book : Teller
  Words : Teller
  Dialer : Teller
  Links : Teller
  Prompter : Teller
  Provider : Teller
  Nobody : Teller

-- what is told; a book also tells the number of a text
pub data Tale : Type 0 where
  BookSaid : (text : ℕ) → (reply : BookReply) → Tale
  LinkMade : Tale
  DialFault : (count : ℕ) → Tale
  DrawGave : (count : ℕ) → (epoch : ℕ) → Tale
  ReplyRead : (reply : Reply) → Tale
  FaultRead : (fault : WireFault) → Tale
  EndRead : Tale
  WriteFault : (count : ℕ) → Tale
  ReadFault : (count : ℕ) → Tale
  PrompterSaid : (seen : AskSeen) → Tale
  ProviderSaid : (step : StepSeen) → Tale
  NothingSaid : Tale

abbrev pub text_in : Call → ℕ
text_in (Answer prompt text terms) = text
text_in _ = 0

abbrev pub tale : Event → Tale
tale (Called call reply) = BookSaid (text_in call) reply
tale (Dialed link) = LinkMade
tale (DialFailed link count) = DialFault count
tale (Drew target nonce count epoch) = DrawGave count epoch
tale (Headed link bytes) = NothingSaid
tale (WriteFailed link count) = WriteFault count
tale (ReadFailed link count) = ReadFault count
tale (Replied link reply) = ReplyRead reply
tale (Broken link fault) = FaultRead fault
tale (LinkLost link) = EndRead
tale (AskedFor prompt seen) = PrompterSaid seen
tale (Stepped target step) = ProviderSaid step
tale (Ended outcome) = NothingSaid

abbrev pub teller : Want → Teller
teller (Calls call) = Book
teller (Answers prompt terms) = Book
teller (Asks prompt) = Prompter
teller (Steps target asking) = Provider
teller (Dials link) = Dialer
teller (Draws target nonce) = Words
teller (Reads link) = Links
teller (Writes link bytes) = Nobody
teller (Loses link) = Nobody
teller (Ends outcome) = Nobody
teller Rests = Nobody

abbrev pub same_teller : Teller → Teller → Bool
same_teller Book Book = true
same_teller Words Words = true
same_teller Dialer Dialer = true
same_teller Links Links = true
same_teller Prompter Prompter = true
same_teller Provider Provider = true
same_teller _ _ = false

-- the tapes behind the first tale of one teller
abbrev pub wound : Teller → (Teller → List Tale) → Teller → List Tale
wound who tapes other = if same_teller who other then drop 1 (tapes other) else tapes other

-- what is wanted of a teller is the first tale of its tape
abbrev pub IsTold : Teller → Event → (Teller → List Tale) → Type 0
IsTold Nobody event tapes = Unit {0}
IsTold who event tapes = take 1 (tapes who) ≡ tale event ∷ []

-- the events behind a past, the earliest first, take their tales from the fronts of the tapes
abbrev pub AreTold : Setting → List Event → List Event → (Teller → List Tale) → Type 0
AreTold s past [] tapes = Unit {0}
AreTold s past (event ∷ events) tapes =
    IsTold (teller (want s past)) event tapes × AreTold s (event ∷ past) events (wound (teller (want s past)) tapes)
