-- What comes next in a request, by what has happened: the table of its rule.
-- A past is a list of events, the latest first. `move` is the table: each row reads how the past ends.
use Rattle.std.specs.Prelude.{ℕ, ◌+◌, ◌==◌, Bool, true, false, not, ◌&&◌, nat_le, List, [], ◌∷◌, ◌++◌, drop, codes, Option, Some, None, is_some, is_none, unwrap_or, option_map, option_and_then, if◌then◌else◌}
use Rattle.std.specs.List.{list_any}
use Rattle.auth_text.specs.Login.{Login}
use Rattle.spaces.specs.declared.site.Target.{Target}
use Rattle.spaces.specs.declared.site.Target.TheVariants.{Server, Proxy}
use Rattle.spaces.specs.declared.space.Scheme.TheVariants.{Digest, Negotiate}
use Rattle.spaces.specs.declared.terms.Terms.{Terms}
use Rattle.spaces.specs.declared.terms.Qop.{Qop}
use Rattle.spaces.specs.declared.terms.Qop.TheVariants.{Auth}
use Rattle.spaces.specs.DigestTerms.{same_qop}
use Rattle.spaces.specs.Sites.{site}
use Rattle.auth_events.specs.declared.journal.Loss.{Loss}
use Rattle.auth_events.specs.declared.journal.Loss.TheVariants.{Fault, Memory}
use Rattle.auth_events.specs.declared.journal.Call.{Call}
use Rattle.auth_events.specs.declared.journal.Call.TheVariants.{Begin, Preempt, Select, Reject, Renew, Answer, Lose, Take, Note, End, Draw}
use Rattle.auth_events.specs.declared.journal.BookReply.{BookReply}
use Rattle.auth_events.specs.declared.journal.BookReply.TheVariants.{Follow, Lead, Cancelled, Lost}
use Rattle.wire_head.specs.declared.reply.Reply.{Reply}
use Rattle.link_trait.specs.declared.prompts.AskSeen.{AskSeen}
use Rattle.link_trait.specs.declared.prompts.AskSeen.TheVariants.{Given as AskGiven, Cancel, Failed as AskFailed, NoMemory as AskNoMemory}
use Rattle.link_trait.specs.declared.steps.StepSeen.{StepSeen}
use Rattle.link_trait.specs.declared.steps.StepSeen.TheVariants.{Token, Done, Refused as StepRefused, NoMechanism, Failed as StepFailed, NoMemory as StepNoMemory}
use Rattle.auth_runs.specs.declared.event.Outcome.{Outcome}
use Rattle.auth_runs.specs.declared.event.Outcome.TheVariants.{Answered, Refused, BadReply, LinkFailed, ProviderFailed, PromptFailed, NoMemory}
use Rattle.auth_runs.specs.declared.event.Why.TheVariants.{NoChallenge, Cancelled as ByCancel, Rounds, BoundLost}
use Rattle.auth_runs.specs.declared.event.Event.{Event}
use Rattle.auth_runs.specs.declared.event.Event.TheVariants.{Called, Dialed, DialFailed, Drew, Headed, WriteFailed, ReadFailed, Replied, Broken, LinkLost, AskedFor, Stepped, Ended}
use Rattle.trace_rule.specs.Settings.{Setting, first_target, for_route, scheme_is, is_by_path}
use Rattle.trace_rule.specs.Challenges.{Offer, supported, best, space_at, challenged, challenges_target}
use Rattle.trace_rule.specs.Holding.{Held, held, carried, bound, stays, links, has_link, is_lost, last_reply, code, negotiates, deciding}
use Rattle.trace_rule.specs.Holding.Decision.{Negotiating, Offering}
use Rattle.trace_rule.specs.Holding.{Decision}
use Rattle.trace_rule.specs.Heads.{head_text, drawn}

-- what the provider of tokens is asked
pub data Asking : Type 0 where
  -- to start a context with the service of that name, for an identity or the default one
  Start : (spn : List ℕ) → (identity : Option Login) → Asking
  -- to go on with the peer's token
  GoOn : (peer : List ℕ) → Asking

-- WHAT IS WANTED NEXT

-- one event more
pub data Want : Type 0 where
  Calls : Call → Want
  -- the answer to a prompt, with the text that is named for what was given
  Answers : (prompt : ℕ) → (terms : ℕ) → Want
  Asks : (prompt : ℕ) → Want
  Steps : (target : Target) → (asking : Asking) → Want
  Dials : (link : ℕ) → Want
  Draws : (target : Target) → (nonce : ℕ) → Want
  Writes : (link : ℕ) → (bytes : List ℕ) → Want
  Reads : (link : ℕ) → Want
  -- the bound link that is needed did not stay
  Loses : (link : ℕ) → Want
  Ends : Outcome → Want
  -- nothing may follow
  Rests : Want

-- one event more, or the end of the request
pub data Move : Type 0 where
  Goes : Want → Move
  Closes : Outcome → Move

-- by what is known; where it isn't, nothing may follow
abbrev pub known : {A : Type 0} → Option A → (A → Move) → Move
known None next = Goes Rests
known (Some a) next = next a

-- ON TO THE NEXT HEAD

abbrev pub first_want : Option Want → Want → Want
first_want None later = later
first_want (Some want) later = want

-- `HTTP@` and the target's host
abbrev pub spn : Setting → Target → List ℕ
spn s t = codes "HTTP@" ++ unwrap_or (option_map (λ place. place.origin.host) (site s.request t)) []

-- none for the default identity
abbrev pub identity_held : Setting → Held → Option Login
identity_held s h = if h.gift.ordinal == 0 then None else s.identity_of h.gift

-- a Negotiate identity without a context starts one
abbrev pub start_for : Setting → Target → Held → Option Want
start_for s t h =
    if scheme_is s h.gift.space Negotiate && is_none h.context then Some (Steps t (Start (spn s t) (identity_held s h))) else None

-- a bound link that did not stay is lost
abbrev pub loss_for : List Event → ℕ → Option Want
loss_for past link = if stays past link then None else Some (Loses link)

-- the next link is dialed where no bound link stands and none was dialed since the last head
abbrev pub dial_for : Setting → List Event → Option Want
dial_for s past = if is_none (bound s past) && not (has_link past) then Some (Dials (links past + 1)) else None

abbrev pub has_count : Qop → Bool
has_count qop = same_qop qop Auth

-- a count is drawn for Digest terms with qop auth, where none was drawn since the last head
abbrev pub draw_for : Setting → List Event → Target → Held → Option Want
draw_for s past t h =
    if scheme_is s h.gift.space Digest && is_none (drawn past t)
    then option_and_then (λ name. if has_count name.terms.qop then Some (Draws t name.nonce) else None) (s.terms_of h.terms)
    else None

-- the head goes over the bound link, or over the one that was dialed last
abbrev pub head_link : Setting → List Event → ℕ
head_link s past = unwrap_or (bound s past) (links past)

-- the first that applies
abbrev pub go : Setting → List Event → Want
go s past =
    first_want (for_route (λ t. option_and_then (start_for s t) (held s past t)))
    (first_want (option_and_then (loss_for past) (bound s past))
    (first_want (dial_for s past)
    (first_want (for_route (λ t. option_and_then (draw_for s past t) (held s past t)))
    (Writes (head_link s past) (head_text s past)))))

-- CHOICE OF A CHALLENGE

-- the number of an offer's terms, 0 where it has none
abbrev pub terms_offered : Setting → ℕ → Option Terms → Option ℕ
terms_offered s space None = Some 0
terms_offered s space (Some terms) = s.terms_no space terms

-- the number of an offer's space at the target
abbrev pub space_offered : Setting → Target → Offer → Option ℕ
space_offered s t offered = option_and_then (λ place. s.space_no (space_at place offered)) (site s.request t)

abbrev pub choose : Setting → ℕ → Target → Option Offer → Move
choose s status t None = Closes (Refused status NoChallenge)
choose s status t (Some offered) =
    known (space_offered s t offered) (λ space. known (terms_offered s space offered.terms) (λ terms. Goes (Calls (Select space terms))))

-- the best challenge of the last reply, where it is one
abbrev pub select : Setting → List Event → Move
select s past =
    known (last_reply past) (λ reply. known (challenged s reply) (λ t.
    choose s reply.code t (best (supported (negotiates s past t) reply))))

-- ROUNDS

abbrev pub is_round : Setting → List Event → Event → Bool
is_round s past (Replied link reply) = is_some (challenged s reply)
is_round s past (Stepped target StepRefused) = true
is_round s past (Stepped target Done) = true
is_round s past (Stepped target NoMechanism) = is_some (option_and_then (λ h. h.context) (held s past target))
is_round s past event = false

-- how many challenges and refusals there were
abbrev pub rounds : Setting → List Event → ℕ
rounds s [] = 0
rounds s (event ∷ past) = (if is_round s past event then 1 else 0) + rounds s past

abbrev pub is_last_round : Setting → List Event → Bool
is_last_round s past = nat_le 17 (rounds s past)

-- ANSWERED

-- the last reply is no challenge
abbrev pub is_answered : Setting → List Event → Bool
is_answered s past = unwrap_or (option_map (λ reply. is_none (challenged s reply)) (last_reply past)) false

-- THE TABLE

-- what is held is rejected
abbrev pub rejects : Held → Move
rejects h = Goes (Calls (Reject h.gift.space h.gift.ordinal))

-- a refusal of the provider rejects what is held; the seventeenth round ends the request
abbrev pub rejected : Setting → List Event → Option Held → Move
rejected s past before = if is_last_round s past then Closes (Refused (code past) Rounds) else known before rejects

-- a stale challenge renews the terms of what is held, and any other rejects it
abbrev pub renewed : Setting → Held → Bool → Option Terms → Move
renewed s h true (Some terms) = known (s.terms_no h.gift.space terms) (λ number. Goes (Calls (Renew h.gift number)))
renewed s h stale terms = rejects h

-- a token of the peer goes to the provider, unless the link did not stay
abbrev pub negotiated : Target → ℕ → Bool → Held → Option (List ℕ) → Move
negotiated t link stays h None = rejects h
negotiated t link stays h (Some peer) = if stays then Goes (Steps t (GoOn peer)) else Goes (Loses link)

-- by the challenge that decides
abbrev pub decided : Setting → List Event → ℕ → Bool → Target → Held → Option Decision → Move
decided s past link stays t h None = select s past
decided s past link stays t h (Some (Negotiating peer)) = negotiated t link stays h peer
decided s past link stays t h (Some (Offering offered)) = renewed s h offered.stale offered.terms

-- a challenge, where that is held for its target
abbrev pub weighed : Setting → List Event → ℕ → Reply → Target → Option Held → Move
weighed s past link reply t None = select s past
weighed s past link reply t (Some h) = decided s past link reply.stays t h (deciding s reply t h)

-- a reply ends the request, unless it is a challenge; so does the seventeenth round
abbrev pub replied : Setting → List Event → ℕ → Reply → Option Target → List Event → Move
replied s past link reply None before = Closes (Answered reply.code)
replied s past link reply (Some t) before =
    if is_last_round s past then Closes (Refused reply.code Rounds) else weighed s past link reply t (held s before t)

abbrev pub lost : Loss → Move
lost (Fault count) = Closes (PromptFailed count)
lost Memory = Closes NoMemory

-- by the book's reply to a call that chooses, settles a prompt or takes its answer
abbrev pub told : Setting → List Event → ℕ → BookReply → Move
told s past prompt (Lead led ordinal) = Goes (Asks led)
told s past prompt (Follow followed) = Goes (Calls (Take followed))
told s past prompt Cancelled = Closes (Refused (code past) (ByCancel prompt))
told s past prompt (Lost loss) = lost loss
told s past prompt reply = Goes (go s past)

abbrev pub terms_of_lead : ℕ → Event → Option ℕ
terms_of_lead p (Called (Select space terms) (Lead prompt ordinal)) = if prompt == p then Some terms else None
terms_of_lead p _ = None

-- the terms of the call that led the prompt
abbrev pub terms_led : List Event → ℕ → ℕ
terms_led [] p = 0
terms_led (event ∷ past) p = unwrap_or (terms_of_lead p event) (terms_led past p)

-- by what the prompter gave: its answer, a cancel, or its loss
abbrev pub asked : List Event → ℕ → AskSeen → Move
asked past p AskGiven = Goes (Answers p (terms_led past p))
asked past p Cancel = Goes (Calls (Answer p 0 (terms_led past p)))
asked past p (AskFailed count) = Goes (Calls (Lose p (Fault count)))
asked past p AskNoMemory = Goes (Calls (Lose p Memory))

-- by the provider's step, where that was held before it
abbrev pub stepped : Setting → List Event → StepSeen → Option Held → Move
stepped s past (Token token) before = Goes (go s past)
stepped s past (StepFailed count) before = Closes (ProviderFailed count)
stepped s past StepNoMemory before = Closes NoMemory
stepped s past NoMechanism before = if is_some (option_and_then (λ h. h.context) before) then rejected s past before else select s past
stepped s past step before = rejected s past before

-- the first lost link of the request is made up for by a new one, and the second ends it
abbrev pub link_lost : Setting → List Event → List Event → Move
link_lost s past before = if list_any is_lost before then Closes (Refused (code past) BoundLost) else Goes (go s past)

abbrev pub move : Setting → List Event → Move
move s [] = Goes (Calls Begin)
move s (Called Begin reply ∷ past) = Goes (Calls (Preempt (first_target s)))
move s (Called (Preempt Proxy) reply ∷ past) = Goes (Calls (Preempt Server))
move s (Called (Preempt target) reply ∷ past) = Goes (go s (Called (Preempt target) reply ∷ past))
move s (Called (Select space terms) reply ∷ past) = told s (Called (Select space terms) reply ∷ past) 0 reply
move s (Called (Reject space ordinal) reply ∷ past) = select s (Called (Reject space ordinal) reply ∷ past)
move s (Called (Renew gift terms) reply ∷ past) =
    if is_answered s past then move s past else Goes (go s (Called (Renew gift terms) reply ∷ past))
move s (Called (Answer prompt text terms) reply ∷ past) = told s (Called (Answer prompt text terms) reply ∷ past) prompt reply
move s (Called (Lose prompt loss) reply ∷ past) = told s (Called (Lose prompt loss) reply ∷ past) prompt reply
move s (Called (Take prompt) reply ∷ past) = told s (Called (Take prompt) reply ∷ past) prompt reply
-- the calls at the end follow what ends the request, and so does a renewal behind a reply that is no challenge
move s (Called (Note gift) reply ∷ past) = move s past
move s (Called End reply ∷ past) = move s past
move s (Called (Draw nonce) reply ∷ past) = Goes Rests
move s (AskedFor prompt given ∷ past) = asked past prompt given
move s (Stepped target step ∷ past) = stepped s (Stepped target step ∷ past) step (held s past target)
move s (Dialed link ∷ past) = Goes (go s (Dialed link ∷ past))
move s (DialFailed link count ∷ past) = Closes (LinkFailed count)
move s (Drew target nonce count epoch ∷ past) = Goes (go s (Drew target nonce count epoch ∷ past))
move s (Headed link bytes ∷ past) = Goes (Reads link)
move s (WriteFailed link count ∷ past) = Closes (LinkFailed count)
move s (ReadFailed link count ∷ past) = Closes (LinkFailed count)
move s (Replied link reply ∷ past) = replied s (Replied link reply ∷ past) link reply (challenged s reply) past
move s (Broken link fault ∷ past) = Closes (BadReply fault)
move s (LinkLost link ∷ past) = link_lost s (LinkLost link ∷ past) past
move s (Ended outcome ∷ past) = Goes Rests
