-- What the events of one request have to be: which event may follow a past, and which lists of events are traces.
use Rattle.std.specs.Prelude.{ℕ, ◌≡◌, ◌⊎◌, ◌==◌, Bool, true, false, not, ◌&&◌, ◌||◌, nat_le, IsTrue, List, [], ◌∷◌, length, reverse, Option, Some, None, is_some, unwrap_or, if◌then◌else◌}
use Rattle.std.specs.List.{list_any}
use Rattle.spaces.specs.declared.site.Target.{Target}
use Rattle.spaces.specs.declared.space.Scheme.TheVariants.{Negotiate}
use Rattle.auth_events.specs.declared.journal.Gift.{Gift}
use Rattle.auth_events.specs.declared.journal.Loss.{Loss}
use Rattle.auth_events.specs.declared.journal.Loss.TheVariants.{Fault, Memory}
use Rattle.auth_events.specs.declared.journal.Call.{Call}
use Rattle.auth_events.specs.declared.journal.Call.TheVariants.{Preempt, Select, Reject, Renew, Answer, Lose, Take, End}
use Rattle.auth_events.specs.declared.journal.BookReply.{BookReply}
use Rattle.auth_events.specs.declared.journal.BookReply.TheVariants.{Ready, Url, Cached, Default, Follow, Lead, Given, Lost, Gave, Ended as RequestEnded}
use Rattle.auth_events.specs.Pages.{fits}
use Rattle.auth_events.specs.Past.{is_removed}
use Rattle.wire_head.specs.declared.reply.Reply.{Reply}
use Rattle.wire_head.specs.Replies.{is_interim, is_challenge}
use Rattle.auth_runs.specs.declared.event.Outcome.TheVariants.{NoMemory}
use Rattle.auth_runs.specs.declared.event.Event.{Event}
use Rattle.auth_runs.specs.declared.event.Event.TheVariants.{Called, Dialed, DialFailed, Drew, Headed, WriteFailed, ReadFailed, Replied, Broken, LinkLost, AskedFor, Stepped, Ended}
use Rattle.auth_runs.specs.Runs.{ends}
use Rattle.trace_rule.specs.Settings.{Setting, scheme_is, is_by_path, target_is, knows_gift, knows_terms}
use Rattle.trace_rule.specs.Holding.{has_reply, terms_followed}
use Rattle.trace_rule.specs.Moves.{Want}
use Rattle.trace_rule.specs.Closings.{want}
use Rattle.trace_rule.specs.Moves.Want.{Calls, Answers, Asks, Steps, Dials, Draws, Writes, Reads, Loses, Ends, Rests}

-- WHAT MAY FOLLOW

abbrev pub same_loss : Loss → Loss → Bool
same_loss (Fault a) (Fault b) = a == b
same_loss Memory Memory = true
same_loss _ _ = false

abbrev pub space_prompted_by : ℕ → Event → Option ℕ
space_prompted_by p (Called (Select space terms) (Lead prompt ordinal)) = if prompt == p then Some space else None
space_prompted_by p (Called (Select space terms) (Follow prompt)) = if prompt == p then Some space else None
space_prompted_by p _ = None

-- the space of a prompt that the request leads or follows, or 0
abbrev pub space_prompted : List Event → ℕ → ℕ
space_prompted [] p = 0
space_prompted (event ∷ past) p = unwrap_or (space_prompted_by p event) (space_prompted past p)

-- the gift, with terms, can be held in that space
abbrev pub may_hold : Setting → Gift → ℕ → ℕ → Bool
may_hold s gift space terms = gift.space == space && knows_gift s gift && knows_terms s space terms

-- a gift that is ready is a Basic or Digest one of the target
abbrev pub ready_agrees : Setting → Target → BookReply → Bool
ready_agrees s target (Ready gift terms epoch) =
    target_is s gift.space target && is_by_path s gift.space && may_hold s gift gift.space terms
ready_agrees s target _ = true

-- the event settles the prompt
abbrev pub settles : ℕ → Event → Bool
settles p (Called (Answer prompt text terms) reply) = prompt == p
settles p (Called (Lose prompt loss) reply) = prompt == p
settles p _ = false

-- a gift that is chosen is one of the space, only a Negotiate space has a default identity, and a prompt that is led isn't settled
abbrev pub choice_agrees : Setting → List Event → ℕ → ℕ → BookReply → Bool
choice_agrees s past space terms (Url gift evicted) = may_hold s gift space terms
choice_agrees s past space terms (Cached gift) = may_hold s gift space terms
choice_agrees s past space terms Default = scheme_is s space Negotiate
choice_agrees s past space terms (Lead prompt ordinal) =
    is_some (s.space_of space) && (not (prompt == 0) && not (list_any (settles prompt) past))
choice_agrees s past space terms _ = is_some (s.space_of space)

-- a text gives a gift of the prompt's space, and no text cancels
abbrev pub answer_agrees : Setting → ℕ → ℕ → ℕ → BookReply → Bool
answer_agrees s space text terms (Given gift evicted) = not (text == 0) && may_hold s gift space terms
answer_agrees s space text terms _ = text == 0

-- a gift that is taken is one of the prompt's space
abbrev pub take_agrees : Setting → ℕ → ℕ → BookReply → Bool
take_agrees s space terms (Gave gift) = may_hold s gift space terms
take_agrees s space terms _ = true

abbrev pub loss_agrees : Loss → BookReply → Bool
loss_agrees loss (Lost told) = same_loss told loss
loss_agrees loss _ = false

-- the reply agrees with the call, and what both name is known
abbrev pub agrees : Setting → List Event → Call → BookReply → Bool
agrees s past (Preempt target) reply = ready_agrees s target reply
agrees s past (Select space terms) reply = choice_agrees s past space terms reply
agrees s past (Reject space ordinal) reply = is_some (s.space_of space) && not (ordinal == 0 && is_removed reply)
agrees s past (Renew gift terms) reply = knows_gift s gift && knows_terms s gift.space terms
agrees s past (Answer prompt text terms) reply = answer_agrees s (space_prompted past prompt) text terms reply
agrees s past (Lose prompt loss) reply = loss_agrees loss reply
agrees s past (Take prompt) reply = take_agrees s (space_prompted past prompt) (terms_followed past prompt) reply
agrees s past call reply = true

-- the call may have the reply
abbrev pub suits : Setting → List Event → Call → BookReply → Bool
suits s past call reply = fits call reply && agrees s past call reply

-- there can be such a reply: the code is a final one, only these two have challenges, and only the others have infos
abbrev pub can_be : Reply → Bool
can_be reply =
    nat_le reply.code 999 && not (is_interim reply.code)
    && (if is_challenge reply.code
    then length reply.server_info == 0 && length reply.proxy_info == 0
    else length reply.fields == 0)

abbrev pub IsCall : Setting → List Event → Call → Event → Type 0
IsCall s past call (Called made reply) = (made ≡ call) × IsTrue (suits s past made reply)
IsCall s past call _ = ⊥

-- a text of any number but 0
abbrev pub IsAnswer : Setting → List Event → ℕ → ℕ → Event → Type 0
IsAnswer s past p t (Called (Answer prompt text terms) reply) =
    (prompt ≡ p) × (terms ≡ t) × IsTrue (not (text == 0)) × IsTrue (suits s past (Answer prompt text terms) reply)
IsAnswer s past p t _ = ⊥

abbrev pub IsAsk : ℕ → Event → Type 0
IsAsk p (AskedFor prompt seen) = prompt ≡ p
IsAsk p _ = ⊥

abbrev pub IsStep : Target → Event → Type 0
IsStep t (Stepped target step) = target ≡ t
IsStep t _ = ⊥

abbrev pub IsDial : ℕ → Event → Type 0
IsDial link (Dialed on) = on ≡ link
IsDial link (DialFailed on count) = on ≡ link
IsDial link _ = ⊥

abbrev pub IsDraw : Target → ℕ → Event → Type 0
IsDraw t n (Drew target nonce count epoch) = (target ≡ t) × (nonce ≡ n)
IsDraw t n _ = ⊥

-- a link is lost here where it gave a reply before
abbrev pub IsRead : List Event → ℕ → Event → Type 0
IsRead past link (Replied on reply) = (on ≡ link) × IsTrue (can_be reply)
IsRead past link (Broken on fault) = on ≡ link
IsRead past link (LinkLost on) = (on ≡ link) × IsTrue (has_reply link past)
IsRead past link (WriteFailed on count) = on ≡ link
IsRead past link (ReadFailed on count) = on ≡ link
IsRead past link _ = ⊥

-- behind a past the event is what is wanted; the outside tells the rest of it
abbrev pub Follows : Setting → List Event → Want → Event → Type 0
Follows s past (Calls call) event = IsCall s past call event
Follows s past (Answers prompt terms) event = IsAnswer s past prompt terms event
Follows s past (Asks prompt) event = IsAsk prompt event
Follows s past (Steps target asking) event = IsStep target event
Follows s past (Dials link) event = IsDial link event
Follows s past (Draws target nonce) event = IsDraw target nonce event
Follows s past (Writes link bytes) event = event ≡ Headed link bytes
Follows s past (Reads link) event = IsRead past link event
Follows s past (Loses link) event = event ≡ LinkLost link
Follows s past (Ends outcome) event = event ≡ Ended outcome
Follows s past Rests event = ⊥

-- TRACES

-- each event is what was wanted
abbrev pub IsPast : Setting → List Event → Type 0
IsPast s [] = Unit {0}
IsPast s (event ∷ past) = IsPast s past × Follows s past (want s past) event

abbrev pub is_over : List Event → Bool
is_over [] = false
is_over (event ∷ past) = ends event

-- WANT OF MEMORY

abbrev pub is_follow : Event → Bool
is_follow (Called call (Follow prompt)) = true
is_follow _ = false

abbrev pub is_end : Event → Bool
is_end (Called End reply) = true
is_end _ = false

-- a request that has begun, and has not called `End`, may run out of memory, but not between following a prompt and taking its answer
abbrev pub may_cut : List Event → Bool
may_cut [] = false
may_cut (event ∷ past) = not (is_follow event) && not (list_any is_end (event ∷ past))

-- the prompt that the request leads and that isn't settled, or 0
abbrev pub prompt_open : List Event → List Event → ℕ
prompt_open whole [] = 0
prompt_open whole (Called (Select space terms) (Lead prompt ordinal) ∷ past) = if list_any (settles prompt) whole then 0 else prompt
prompt_open whole (event ∷ past) = prompt_open whole past

-- an open prompt is lost
abbrev pub with_loss : ℕ → List Event → List Event
with_loss p past = if p == 0 then past else Called (Lose p Memory) (Lost Memory) ∷ past

-- a past that ends there for want of memory
abbrev pub cut_short : List Event → List Event
cut_short past = Ended NoMemory ∷ Called End RequestEnded ∷ with_loss (prompt_open past past) past

-- the whole is a past that was cut short
pub record IsCutAt (s : Setting) (past whole : List Event) : Type 0 where
  pub is_past : IsPast s past
  pub may_cut : IsTrue (may_cut past)
  pub cut : whole ≡ cut_short past

abbrev pub IsCut : Setting → List Event → Type 0
IsCut s whole = (past : List Event) × IsCutAt s past whole

-- what was wanted, up to the outcome
abbrev pub IsRun : Setting → List Event → Type 0
IsRun s whole = IsPast s whole × IsTrue (is_over whole)

-- the events are a whole trace of the request
abbrev pub IsTrace : Setting → List Event → Type 0
IsTrace s events = IsRun s (reverse events) ⊎ IsCut s (reverse events)

-- the request met want of memory
abbrev pub is_spent : List Event → Bool
is_spent (Ended NoMemory ∷ past) = true
is_spent _ = false
