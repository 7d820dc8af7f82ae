-- A request waits for a prompt only right behind the choice that led or followed it, and where the prompter was asked.
use Rattle.std.proofs.Common.{◌≡◌, ◌⊎◌, inl, inr, ℕ, Bool, true, false, List, [], ◌∷◌, Option, Some, None, refl, sym, ap, ◌∙◌, subst, if◌then◌else◌}
use Rattle.std.specs.List.{list_any}
use Rattle.std.proofs.lemmas.Bool.{false≢true}
use Rattle.spaces.specs.declared.site.Target.{Target}
use Rattle.spaces.specs.declared.site.Target.TheVariants.{Server, Proxy, Socks}
use Rattle.spaces.specs.declared.terms.Terms.{Terms}
use Rattle.auth_events.specs.declared.journal.Gift.{Gift}
use Rattle.auth_events.specs.declared.journal.Loss.TheVariants.{Fault, Memory}
use Rattle.auth_events.specs.declared.journal.Call.{Call}
use Rattle.auth_events.specs.declared.journal.Call.TheVariants.{Begin, Preempt, Select, Reject, Renew, Answer, Lose, Take, Note, End, Draw}
use Rattle.auth_events.specs.declared.journal.BookReply.{BookReply}
use Rattle.auth_events.specs.declared.journal.BookReply.TheVariants.{Cancelled, Lost, Lead, Follow}
use Rattle.wire_head.specs.declared.reply.Reply.{Reply}
use Rattle.link_trait.specs.declared.prompts.AskSeen.TheVariants.{Given as AskGiven, Cancel, Failed as AskFailed, NoMemory as AskNoMemory}
use Rattle.link_trait.specs.declared.steps.StepSeen.{StepSeen}
use Rattle.link_trait.specs.declared.steps.StepSeen.TheVariants.{Token, Done, Refused as StepRefused, NoMechanism, Failed as StepFailed, NoMemory as StepNoMemory}
use Rattle.auth_runs.specs.declared.event.Event.{Event}
use Rattle.auth_runs.specs.declared.event.Event.TheVariants.{Called, Dialed, DialFailed, Drew, Headed, WriteFailed, ReadFailed, Replied, Broken, LinkLost, AskedFor, Stepped, Ended}
use Rattle.trace_rule.specs.Settings.{Setting}
use Rattle.trace_rule.specs.Challenges.{Offer, challenged, supported, best}
use Rattle.trace_rule.specs.Holding.{Held, Decision, held, deciding, negotiates, last_reply, is_lost}
use Rattle.trace_rule.specs.Holding.Decision.{Negotiating, Offering}
use Rattle.trace_rule.specs.Moves.{Want, Move, move, go, known, terms_offered, space_offered, choose, select, is_last_round, rejects, rejected, renewed, decided, weighed, replied, told, terms_led, stepped}
use Rattle.trace_rule.specs.Moves.Want.{Calls, Answers, Asks, Steps, Dials, Draws, Writes, Reads, Loses, Rests}
use Rattle.trace_rule.specs.Moves.Move.{Goes}
use Rattle.trace_rule.specs.Moves.{is_answered}
use Rattle.trace_rule.proofs.Reasons.{IsGoing, go_going, GoesOn}

-- WHAT ASKS

abbrev NoAsk : Move → Type 0
NoAsk (Goes (Asks p)) = ⊥
NoAsk (Goes (Answers p terms)) = ⊥
NoAsk _ = Unit {0}

going_no_ask : (w : Want) → IsGoing w → NoAsk (Goes w)
going_no_ask (Steps t asking) g = tt
going_no_ask (Loses link) g = tt
going_no_ask (Dials link) g = tt
going_no_ask (Draws t nonce) g = tt
going_no_ask (Writes link bytes) g = tt
going_no_ask _ g = absurd g

go_no_ask : (s : Setting) (past : List Event) → NoAsk (Goes (go s past))
go_no_ask s past = going_no_ask (go s past) (go_going s past)

known_no_ask : {A : Type 0} (o : Option A) (f : A → Move) → ((a : A) → NoAsk (f a)) → NoAsk (known o f)
known_no_ask None f h = tt
known_no_ask (Some a) f h = h a

if_no_ask : (b : Bool) (x y : Move) → NoAsk x → NoAsk y → NoAsk (if b then x else y)
if_no_ask true x y p q = p
if_no_ask false x y p q = q

choose_no_ask : (s : Setting) (status : ℕ) (t : Target) (o : Option Offer) → NoAsk (choose s status t o)
choose_no_ask s status t None = tt
choose_no_ask s status t (Some offered) =
    known_no_ask (space_offered s t offered) _ (λ space. known_no_ask (terms_offered s space offered.terms) (λ terms. Goes (Calls (Select space terms))) (λ terms. tt))

select_no_ask : (s : Setting) (past : List Event) → NoAsk (select s past)
select_no_ask s past =
    known_no_ask (last_reply past) _ (λ reply. known_no_ask (challenged s reply) (λ t. choose s reply.code t (best (supported (negotiates s past t) reply))) (λ t. choose_no_ask s reply.code t (best (supported (negotiates s past t) reply))))

rejected_no_ask : (s : Setting) (past : List Event) (o : Option Held) → NoAsk (rejected s past o)
rejected_no_ask s past o = if_no_ask (is_last_round s past) _ (known o rejects) tt (known_no_ask o rejects (λ h. tt))

stepped_no_ask : (s : Setting) (past : List Event) (step : StepSeen) (o : Option Held) → NoAsk (stepped s past step o)
stepped_no_ask s past (Token token) o = go_no_ask s past
stepped_no_ask s past (StepFailed count) o = tt
stepped_no_ask s past StepNoMemory o = tt
stepped_no_ask s past NoMechanism o = if_no_ask _ (rejected s past o) (select s past) (rejected_no_ask s past o) (select_no_ask s past)
stepped_no_ask s past StepRefused o = rejected_no_ask s past o
stepped_no_ask s past Done o = rejected_no_ask s past o

renewed_no_ask : (s : Setting) (h : Held) (b : Bool) (o : Option Terms) → NoAsk (renewed s h b o)
renewed_no_ask s h true (Some terms) = known_no_ask (s.terms_no h.gift.space terms) _ (λ number. tt)
renewed_no_ask s h true None = tt
renewed_no_ask s h false o = tt

decided_no_ask : (s : Setting) (past : List Event) (link : ℕ) (b : Bool) (t : Target) (h : Held) (d : Option Decision) → NoAsk (decided s past link b t h d)
decided_no_ask s past link b t h None = select_no_ask s past
decided_no_ask s past link b t h (Some (Negotiating None)) = tt
decided_no_ask s past link b t h (Some (Negotiating (Some peer))) = if_no_ask b _ _ tt tt
decided_no_ask s past link b t h (Some (Offering offered)) = renewed_no_ask s h offered.stale offered.terms

weighed_no_ask : (s : Setting) (past : List Event) (link : ℕ) (reply : Reply) (t : Target) (o : Option Held) → NoAsk (weighed s past link reply t o)
weighed_no_ask s past link reply t None = select_no_ask s past
weighed_no_ask s past link reply t (Some h) = decided_no_ask s past link reply.stays t h (deciding s reply t h)

replied_no_ask : (s : Setting) (past : List Event) (link : ℕ) (reply : Reply) (o : Option Target) (before : List Event) → NoAsk (replied s past link reply o before)
replied_no_ask s past link reply None before = tt
replied_no_ask s past link reply (Some t) before = if_no_ask (is_last_round s past) _ (weighed s past link reply t (held s before t)) tt (weighed_no_ask s past link reply t (held s before t))

-- the prompter is asked right behind a lead
abbrev pub IsLed : ℕ → List Event → Type 0
IsLed p past = (c : Call) × (o : ℕ) × (b : List Event) × (past ≡ Called c (Lead p o) ∷ b)

no : {P : Type 0} (m : Move) (p : ℕ) → NoAsk m → m ≡ Goes (Asks p) → P
no m p n e = absurd (subst NoAsk e n)

told_led : (s : Setting) (c : Call) (reply : BookReply) (b : List Event) (prompt p : ℕ) → told s (Called c reply ∷ b) prompt reply ≡ Goes (Asks p) → IsLed p (Called c reply ∷ b)
told_led s c (Lead led ordinal) b prompt p e = (c, ordinal, b, ap (λ x. Called c (Lead x ordinal) ∷ b) (ap asked_in e))
  where
    asked_in : Move → ℕ
    asked_in (Goes (Asks x)) = x
    asked_in _ = 0
told_led s c (Follow followed) b prompt p e = no (Goes (Calls (Take followed))) p tt e
told_led s c Cancelled b prompt p e = no _ p tt e
told_led s c (Lost (Fault count)) b prompt p e = no _ p tt e
told_led s c (Lost Memory) b prompt p e = no _ p tt e
told_led s c reply b prompt p e = no (Goes (go s (Called c reply ∷ b))) p (go_no_ask s (Called c reply ∷ b)) e

pub move_led : (s : Setting) (past : List Event) (p : ℕ) → move s past ≡ Goes (Asks p) → GoesOn s past → IsLed p past
move_led s [] p e never = no _ p tt e
move_led s (Called Begin reply ∷ past) p e never = no (Goes (Calls (Preempt _))) p tt e
move_led s (Called (Preempt Proxy) reply ∷ past) p e never = no (Goes (Calls (Preempt Server))) p tt e
move_led s (Called (Preempt Server) reply ∷ past) p e never = no (Goes (go s (Called (Preempt Server) reply ∷ past))) p (go_no_ask s (Called (Preempt Server) reply ∷ past)) e
move_led s (Called (Preempt Socks) reply ∷ past) p e never = no (Goes (go s (Called (Preempt Socks) reply ∷ past))) p (go_no_ask s (Called (Preempt Socks) reply ∷ past)) e
move_led s (Called (Select space terms) reply ∷ past) p e never = told_led s (Select space terms) reply past 0 p e
move_led s (Called (Reject space ordinal) reply ∷ past) p e never = no (select s (Called (Reject space ordinal) reply ∷ past)) p (select_no_ask s (Called (Reject space ordinal) reply ∷ past)) e
move_led s (Called (Renew gift terms) reply ∷ past) p e never = at (is_answered s past) refl e
  where
    at : (b : Bool) → is_answered s past ≡ b → (if b then move s past else Goes (go s (Called (Renew gift terms) reply ∷ past))) ≡ Goes (Asks p) → IsLed p (Called (Renew gift terms) reply ∷ past)
    at true k f = absurd (never past (Renew gift terms) reply refl k)
    at false k f = no (Goes (go s (Called (Renew gift terms) reply ∷ past))) p (go_no_ask s (Called (Renew gift terms) reply ∷ past)) f
move_led s (Called (Answer prompt text terms) reply ∷ past) p e never = told_led s (Answer prompt text terms) reply past prompt p e
move_led s (Called (Lose prompt loss) reply ∷ past) p e never = told_led s (Lose prompt loss) reply past prompt p e
move_led s (Called (Take prompt) reply ∷ past) p e never = told_led s (Take prompt) reply past prompt p e
move_led s (Called (Note gift) reply ∷ past) p e never = absurd (never past (Note gift) reply refl refl)
move_led s (Called End reply ∷ past) p e never = absurd (never past End reply refl refl)
move_led s (Called (Draw nonce) reply ∷ past) p e never = no (Goes Rests) p tt e
move_led s (AskedFor prompt AskGiven ∷ past) p e never = absurd (false≢true (ap asks e))
  where
    asks : Move → Bool
    asks (Goes (Asks q)) = true
    asks _ = false
move_led s (AskedFor prompt Cancel ∷ past) p e never = no (Goes (Calls (Answer prompt 0 (terms_led past prompt)))) p tt e
move_led s (AskedFor prompt (AskFailed count) ∷ past) p e never = no (Goes (Calls (Lose prompt (Fault count)))) p tt e
move_led s (AskedFor prompt AskNoMemory ∷ past) p e never = no (Goes (Calls (Lose prompt Memory))) p tt e
move_led s (Stepped target step ∷ past) p e never = no (stepped s (Stepped target step ∷ past) step (held s past target)) p (stepped_no_ask s (Stepped target step ∷ past) step (held s past target)) e
move_led s (Dialed link ∷ past) p e never = no (Goes (go s (Dialed link ∷ past))) p (go_no_ask s (Dialed link ∷ past)) e
move_led s (DialFailed link count ∷ past) p e never = no (move s (DialFailed link count ∷ past)) p tt e
move_led s (Drew target nonce count epoch ∷ past) p e never = no (Goes (go s (Drew target nonce count epoch ∷ past))) p (go_no_ask s (Drew target nonce count epoch ∷ past)) e
move_led s (Headed link bytes ∷ past) p e never = no (Goes (Reads link)) p tt e
move_led s (WriteFailed link count ∷ past) p e never = no (move s (WriteFailed link count ∷ past)) p tt e
move_led s (ReadFailed link count ∷ past) p e never = no (move s (ReadFailed link count ∷ past)) p tt e
move_led s (Replied link reply ∷ past) p e never = no (replied s (Replied link reply ∷ past) link reply (challenged s reply) past) p (replied_no_ask s (Replied link reply ∷ past) link reply (challenged s reply) past) e
move_led s (Broken link fault ∷ past) p e never = no (move s (Broken link fault ∷ past)) p tt e
move_led s (LinkLost link ∷ past) p e never = no (move s (LinkLost link ∷ past)) p (if_no_ask (list_any is_lost past) _ (Goes (go s (LinkLost link ∷ past))) tt (go_no_ask s (LinkLost link ∷ past))) e
move_led s (Ended outcome ∷ past) p e never = no (Goes Rests) p tt e

-- AN ANSWER IS WANTED RIGHT BEHIND THE ASKING

abbrev pub IsGivenBehind : ℕ → ℕ → List Event → Type 0
IsGivenBehind p terms past = (b : List Event) × (past ≡ AskedFor p AskGiven ∷ b) × (terms ≡ terms_led b p)

never : {P : Type 0} (m : Move) (p terms : ℕ) → NoAsk m → m ≡ Goes (Answers p terms) → P
never m p terms n e = absurd (subst NoAsk e n)

told_never : {P : Type 0} (s : Setting) (past : List Event) (prompt : ℕ) (reply : BookReply) (p terms : ℕ) → told s past prompt reply ≡ Goes (Answers p terms) → P
told_never s past prompt (Lead led ordinal) p terms e = absurd (false≢true (sym (ap asks e)))
  where
    asks : Move → Bool
    asks (Goes (Asks q)) = true
    asks _ = false
told_never s past prompt (Follow followed) p terms e = never (Goes (Calls (Take followed))) p terms tt e
told_never s past prompt Cancelled p terms e = never _ p terms tt e
told_never s past prompt (Lost (Fault count)) p terms e = never _ p terms tt e
told_never s past prompt (Lost Memory) p terms e = never _ p terms tt e
told_never s past prompt reply p terms e = never (Goes (go s past)) p terms (go_no_ask s past) e

pub given_behind : (s : Setting) (past : List Event) (p terms : ℕ) → move s past ≡ Goes (Answers p terms) → GoesOn s past → IsGivenBehind p terms past
given_behind s [] p terms e no_end = never _ p terms tt e
given_behind s (Called Begin reply ∷ past) p terms e no_end = never (Goes (Calls (Preempt _))) p terms tt e
given_behind s (Called (Preempt Proxy) reply ∷ past) p terms e no_end = never (Goes (Calls (Preempt Server))) p terms tt e
given_behind s (Called (Preempt Server) reply ∷ past) p terms e no_end = never (Goes (go s (Called (Preempt Server) reply ∷ past))) p terms (go_no_ask s (Called (Preempt Server) reply ∷ past)) e
given_behind s (Called (Preempt Socks) reply ∷ past) p terms e no_end = never (Goes (go s (Called (Preempt Socks) reply ∷ past))) p terms (go_no_ask s (Called (Preempt Socks) reply ∷ past)) e
given_behind s (Called (Select space ts) reply ∷ past) p terms e no_end = told_never s (Called (Select space ts) reply ∷ past) 0 reply p terms e
given_behind s (Called (Reject space ordinal) reply ∷ past) p terms e no_end = never (select s (Called (Reject space ordinal) reply ∷ past)) p terms (select_no_ask s (Called (Reject space ordinal) reply ∷ past)) e
given_behind s (Called (Renew gift ts) reply ∷ past) p terms e no_end = at (is_answered s past) refl e
  where
    at : (b : Bool) → is_answered s past ≡ b → (if b then move s past else Goes (go s (Called (Renew gift ts) reply ∷ past))) ≡ Goes (Answers p terms) → IsGivenBehind p terms (Called (Renew gift ts) reply ∷ past)
    at true k f = absurd (no_end past (Renew gift ts) reply refl k)
    at false k f = never (Goes (go s (Called (Renew gift ts) reply ∷ past))) p terms (go_no_ask s (Called (Renew gift ts) reply ∷ past)) f
given_behind s (Called (Answer prompt text ts) reply ∷ past) p terms e no_end = told_never s (Called (Answer prompt text ts) reply ∷ past) prompt reply p terms e
given_behind s (Called (Lose prompt loss) reply ∷ past) p terms e no_end = told_never s (Called (Lose prompt loss) reply ∷ past) prompt reply p terms e
given_behind s (Called (Take prompt) reply ∷ past) p terms e no_end = told_never s (Called (Take prompt) reply ∷ past) prompt reply p terms e
given_behind s (Called (Note gift) reply ∷ past) p terms e no_end = absurd (no_end past (Note gift) reply refl refl)
given_behind s (Called End reply ∷ past) p terms e no_end = absurd (no_end past End reply refl refl)
given_behind s (Called (Draw nonce) reply ∷ past) p terms e no_end = never (Goes Rests) p terms tt e
given_behind s (AskedFor prompt AskGiven ∷ past) p terms e no_end =
    (past, ap (λ x. AskedFor x AskGiven ∷ past) (ap prompt_in e), sym (ap terms_in e) ∙ ap (terms_led past) (ap prompt_in e))
  where
    prompt_in : Move → ℕ
    prompt_in (Goes (Answers q t)) = q
    prompt_in _ = 0

    terms_in : Move → ℕ
    terms_in (Goes (Answers q t)) = t
    terms_in _ = 0
given_behind s (AskedFor prompt Cancel ∷ past) p terms e no_end = never (Goes (Calls (Answer prompt 0 (terms_led past prompt)))) p terms tt e
given_behind s (AskedFor prompt (AskFailed count) ∷ past) p terms e no_end = never (Goes (Calls (Lose prompt (Fault count)))) p terms tt e
given_behind s (AskedFor prompt AskNoMemory ∷ past) p terms e no_end = never (Goes (Calls (Lose prompt Memory))) p terms tt e
given_behind s (Stepped target step ∷ past) p terms e no_end = never (stepped s (Stepped target step ∷ past) step (held s past target)) p terms (stepped_no_ask s (Stepped target step ∷ past) step (held s past target)) e
given_behind s (Dialed link ∷ past) p terms e no_end = never (Goes (go s (Dialed link ∷ past))) p terms (go_no_ask s (Dialed link ∷ past)) e
given_behind s (DialFailed link count ∷ past) p terms e no_end = never (move s (DialFailed link count ∷ past)) p terms tt e
given_behind s (Drew target nonce count epoch ∷ past) p terms e no_end = never (Goes (go s (Drew target nonce count epoch ∷ past))) p terms (go_no_ask s (Drew target nonce count epoch ∷ past)) e
given_behind s (Headed link bytes ∷ past) p terms e no_end = never (Goes (Reads link)) p terms tt e
given_behind s (WriteFailed link count ∷ past) p terms e no_end = never (move s (WriteFailed link count ∷ past)) p terms tt e
given_behind s (ReadFailed link count ∷ past) p terms e no_end = never (move s (ReadFailed link count ∷ past)) p terms tt e
given_behind s (Replied link reply ∷ past) p terms e no_end = never (replied s (Replied link reply ∷ past) link reply (challenged s reply) past) p terms (replied_no_ask s (Replied link reply ∷ past) link reply (challenged s reply) past) e
given_behind s (Broken link fault ∷ past) p terms e no_end = never (move s (Broken link fault ∷ past)) p terms tt e
given_behind s (LinkLost link ∷ past) p terms e no_end = never (move s (LinkLost link ∷ past)) p terms (if_no_ask (list_any is_lost past) _ (Goes (go s (LinkLost link ∷ past))) tt (go_no_ask s (LinkLost link ∷ past))) e
given_behind s (Ended outcome ∷ past) p terms e no_end = never (Goes Rests) p terms tt e
