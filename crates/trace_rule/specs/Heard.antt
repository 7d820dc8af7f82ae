-- What links say of a trace, the replies that follow its heads, and what prompters say of a journal.
use Rattle.std.specs.Prelude.{ℕ, ◌≡◌, ◌==◌, ◌&&◌, Bool, true, false, IsTrue, List, [], ◌∷◌, length, drop, find, Option, Some, None, option_and_then, Result, Ok, Err, if◌then◌else◌}
use Rattle.auth_text.specs.Login.{Login}
use Rattle.spaces.specs.ProtectionSpaces.{ProtectionSpace}
use Rattle.spaces.specs.Sites.{numbered}
use Rattle.auth_events.specs.declared.journal.Call.{Call}
use Rattle.auth_events.specs.declared.journal.Call.TheVariants.{Select, Answer}
use Rattle.auth_events.specs.declared.journal.BookReply.{BookReply}
use Rattle.auth_events.specs.declared.journal.BookReply.TheVariants.{Lead}
use Rattle.auth_events.specs.declared.journal.Entry.{Entry}
use Rattle.auth_events.specs.Tables.{Tables}
use Rattle.spaces.specs.declared.roster.Method.{Method}
use Rattle.link_trait.specs.declared.links.LinkName.{LinkName}
use Rattle.link_trait.specs.Links.{Stream}
use Rattle.wire_head.specs.Replies.{reply}
use Rattle.wire_head.specs.declared.reply.Reply.{Reply}
use Rattle.wire_head.specs.declared.reply.WireFault.{WireFault}
use Rattle.auth_runs.specs.declared.event.Event.{Event}
use Rattle.auth_runs.specs.declared.event.Event.TheVariants.{Headed, Replied, Broken, LinkLost}
use Rattle.trace_rule.specs.Holding.{has_reply}

-- REPLIES

-- the whole of what a peer sent
abbrev pub ended : List ℕ → Stream
ended bytes = record { bytes = bytes; ended = true }

abbrev pub reply_shown : Result (Option (Reply × ℕ)) WireFault → Option Reply
reply_shown (Ok (Some shown)) = Some shown.0
reply_shown (Ok None) = None
reply_shown (Err fault) = None

abbrev pub used_shown : Result (Option (Reply × ℕ)) WireFault → ℕ
used_shown (Ok (Some shown)) = shown.1
used_shown (Ok None) = 0
used_shown (Err fault) = 0

abbrev pub fault_shown : Result (Option (Reply × ℕ)) WireFault → Option WireFault
fault_shown (Ok shown) = None
fault_shown (Err fault) = Some fault

-- the reply to a request of that method that a stream shows, where it shows one
unfoldable pub reply_in : Method → Stream → Option Reply
reply_in method stream = reply_shown (reply method stream.bytes stream.ended)

-- how many bytes that reply has
unfoldable pub reply_len : Method → Stream → ℕ
reply_len method stream = used_shown (reply method stream.bytes stream.ended)

-- the fault that it shows in place of a reply
unfoldable pub fault_in : Method → Stream → Option WireFault
fault_in method stream = fault_shown (reply method stream.bytes stream.ended)

-- a stream behind the reply that it shows
abbrev pub behind_reply : Method → Stream → Stream
behind_reply method stream = record { bytes = drop (reply_len method stream) stream.bytes; ended = stream.ended }

-- the rest of a link's stream behind the replies that were taken
abbrev pub rest : (LinkName → Stream) → Method → ℕ → ℕ → List Event → Stream
rest streams method r link [] = streams (record { request = r; nth = link })
rest streams method r link (Replied on reply ∷ past) =
    if on == link then behind_reply method (rest streams method r link past) else rest streams method r link past
rest streams method r link (event ∷ past) = rest streams method r link past

-- the end, without a byte
abbrev pub is_at_end : Stream → Bool
is_at_end stream = stream.ended && length stream.bytes == 0

-- a link that gave a reply has ended without a byte more
abbrev pub is_gone : (LinkName → Stream) → Method → ℕ → ℕ → List Event → Bool
is_gone streams method r link past = has_reply link past && is_at_end (rest streams method r link past)

-- behind a head a reply or a fault is what the rest shows, and the link is lost exactly where it is gone; a link that is lost elsewhere did not stay
abbrev pub Hears : (LinkName → Stream) → Method → ℕ → Event → List Event → Type 0
Hears streams method r (Replied link reply) past = reply_in method (rest streams method r link past) ≡ Some reply
Hears streams method r (Broken link fault) past =
    (is_gone streams method r link past ≡ false) × (fault_in method (rest streams method r link past) ≡ Some fault)
Hears streams method r (LinkLost link) (Headed on bytes ∷ past) = IsTrue (is_gone streams method r link past)
Hears streams method r event past = Unit {0}

-- what follows each head of a past, the latest first, is what the links' streams show
abbrev pub IsHeard : (LinkName → Stream) → Method → ℕ → List Event → Type 0
IsHeard streams method r [] = Unit {0}
IsHeard streams method r (event ∷ past) = IsHeard streams method r past × Hears streams method r event past

-- PROMPTS

abbrev pub leads_to : BookReply → ℕ → Bool
leads_to (Lead number ordinal) prompt = number == prompt
leads_to reply prompt = false

abbrev pub ordinal_led : BookReply → ℕ
ordinal_led (Lead number ordinal) = ordinal
ordinal_led reply = 0

abbrev pub space_asked : Call → ℕ
space_asked (Select space terms) = space
space_asked call = 0

-- what stands for the prompt of that entry; none is a cancel
abbrev pub answer_to : (ProtectionSpace → ℕ → Option Login) → Tables → Option Entry → Option Login
answer_to answers names None = None
answer_to answers names (Some lead) =
    option_and_then (λ space. answers space (ordinal_led lead.reply)) (numbered names.spaces (space_asked lead.call))

-- an answer names what stands for its prompt's space and ordinal; text 0, a cancel, names nothing
abbrev pub IsAnswered : (ProtectionSpace → ℕ → Option Login) → Tables → List Entry → Call → Type 0
IsAnswered answers names journal (Answer prompt text terms) =
    numbered names.texts text ≡ answer_to answers names (find (λ entry. leads_to entry.reply prompt) journal)
IsAnswered answers names journal call = Unit {0}
