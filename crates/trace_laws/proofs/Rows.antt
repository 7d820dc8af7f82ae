-- Which rows of the table go on to the next head, and which one reads; so what stands before a dial, a head and a reply.
use Rattle.std.proofs.Common.{◌≡◌, ◌⊎◌, inl, inr, ℕ, Bool, true, false, IsTrue, List, [], ◌∷◌, Option, Some, None, refl, sym, ap, ◌∙◌, subst, if◌then◌else◌}
use Rattle.std.specs.List.{list_any}
use Rattle.std.proofs.lemmas.Bool.{false≢true}
use Rattle.spaces.specs.declared.site.Target.{Target}
use Rattle.spaces.specs.declared.site.Target.TheVariants.{Server, Proxy, Socks}
use Rattle.spaces.specs.declared.terms.Terms.{Terms}
use Rattle.auth_events.specs.declared.journal.Loss.TheVariants.{Fault, Memory}
use Rattle.auth_events.specs.declared.journal.Call.{Call}
use Rattle.auth_events.specs.declared.journal.Call.TheVariants.{Begin, Preempt, Select, Reject, Renew, Answer, Lose, Take, Note, End, Draw}
use Rattle.auth_events.specs.declared.journal.BookReply.{BookReply}
use Rattle.auth_events.specs.declared.journal.BookReply.TheVariants.{Cancelled, Lost, Lead, Follow}
use Rattle.wire_head.specs.declared.reply.Reply.{Reply}
use Rattle.link_trait.specs.declared.prompts.AskSeen.{AskSeen}
use Rattle.link_trait.specs.declared.prompts.AskSeen.TheVariants.{Given as AskGiven, Cancel, Failed as AskFailed, NoMemory as AskNoMemory}
use Rattle.link_trait.specs.declared.steps.StepSeen.{StepSeen}
use Rattle.link_trait.specs.declared.steps.StepSeen.TheVariants.{Token, Done, Refused as StepRefused, NoMechanism, Failed as StepFailed, NoMemory as StepNoMemory}
use Rattle.auth_runs.specs.declared.event.Outcome.{Outcome}
use Rattle.auth_runs.specs.declared.event.Outcome.TheVariants.{Refused}
use Rattle.auth_runs.specs.declared.event.Why.TheVariants.{BoundLost}
use Rattle.auth_runs.specs.declared.event.Event.{Event}
use Rattle.auth_runs.specs.declared.event.Event.TheVariants.{Called, Dialed, DialFailed, Drew, Headed, WriteFailed, ReadFailed, Replied, Broken, LinkLost, AskedFor, Stepped, Ended}
use Rattle.trace_rule.specs.Settings.{Setting}
use Rattle.trace_rule.specs.Challenges.{Offer, challenged, supported, best}
use Rattle.trace_rule.specs.Holding.{Held, Decision, held, deciding, negotiates, last_reply, code, is_lost}
use Rattle.trace_rule.specs.Holding.Decision.{Negotiating, Offering}
use Rattle.trace_rule.specs.Moves.{Want, Move, Asking, move, go, known, terms_offered, space_offered, choose, select, is_last_round, rejects, rejected, renewed, decided, weighed, replied, told, asked, stepped, link_lost, is_answered}
use Rattle.trace_rule.specs.Moves.Want.{Calls, Answers, Asks, Steps, Dials, Draws, Writes, Reads, Loses, Ends, Rests}
use Rattle.trace_rule.specs.Moves.Asking.{Start, GoOn}
use Rattle.trace_rule.specs.Moves.Move.{Goes, Closes}
use Rattle.trace_rule.specs.Closings.{want, is_closing, carried_out}
use Rattle.trace_rule.specs.Traces.{IsPast, IsRead, Follows}
use Rattle.trace_rule.proofs.Reasons.{IsGoing, go_going, reason, closes_at, still_closes, closing_step, IsClosingStep}
use Rattle.trace_rule.proofs.Reasons.IsClosingStep.{by_call, by_outcome}

-- THE ROWS

-- neither a start, a dial, a draw, a head, a reading nor an outcome
abbrev pub IsAside : Move → Type 0
IsAside (Goes (Ends outcome)) = ⊥
IsAside (Goes (Steps t (Start spn identity))) = ⊥
IsAside (Goes (Dials link)) = ⊥
IsAside (Goes (Draws t n)) = ⊥
IsAside (Goes (Writes link bytes)) = ⊥
IsAside (Goes (Reads link)) = ⊥
IsAside _ = Unit {0}

-- a row goes on, or wants none of these
abbrev IsOnWay : Setting → List Event → Move → Type 0
IsOnWay s past m = (m ≡ Goes (go s past)) ⊎ IsAside m

known_aside : {A : Type 0} (o : Option A) (f : A → Move) → ((a : A) → IsAside (f a)) → IsAside (known o f)
known_aside None f h = tt
known_aside (Some a) f h = h a

if_aside : (b : Bool) (x y : Move) → IsAside x → IsAside y → IsAside (if b then x else y)
if_aside true x y p q = p
if_aside false x y p q = q

choose_aside : (s : Setting) (status : ℕ) (t : Target) (o : Option Offer) → IsAside (choose s status t o)
choose_aside s status t None = tt
choose_aside s status t (Some offered) =
    known_aside (space_offered s t offered) _ (λ space. known_aside (terms_offered s space offered.terms) (λ terms. Goes (Calls (Select space terms))) (λ terms. tt))

select_aside : (s : Setting) (past : List Event) → IsAside (select s past)
select_aside s past =
    known_aside (last_reply past) _ (λ reply. known_aside (challenged s reply) (λ t. choose s reply.code t (best (supported (negotiates s past t) reply))) (λ t. choose_aside s reply.code t (best (supported (negotiates s past t) reply))))

rejected_aside : (s : Setting) (past : List Event) (o : Option Held) → IsAside (rejected s past o)
rejected_aside s past o = if_aside (is_last_round s past) _ (known o rejects) tt (known_aside o rejects (λ h. tt))

renewed_aside : (s : Setting) (h : Held) (b : Bool) (o : Option Terms) → IsAside (renewed s h b o)
renewed_aside s h true (Some terms) = known_aside (s.terms_no h.gift.space terms) _ (λ number. tt)
renewed_aside s h true None = tt
renewed_aside s h false o = tt

decided_aside : (s : Setting) (past : List Event) (link : ℕ) (b : Bool) (t : Target) (h : Held) (d : Option Decision) → IsAside (decided s past link b t h d)
decided_aside s past link b t h None = select_aside s past
decided_aside s past link b t h (Some (Negotiating None)) = tt
decided_aside s past link b t h (Some (Negotiating (Some peer))) = if_aside b _ _ tt tt
decided_aside s past link b t h (Some (Offering offered)) = renewed_aside s h offered.stale offered.terms

weighed_aside : (s : Setting) (past : List Event) (link : ℕ) (reply : Reply) (t : Target) (o : Option Held) → IsAside (weighed s past link reply t o)
weighed_aside s past link reply t None = select_aside s past
weighed_aside s past link reply t (Some h) = decided_aside s past link reply.stays t h (deciding s reply t h)

replied_aside : (s : Setting) (past : List Event) (link : ℕ) (reply : Reply) (o : Option Target) (before : List Event) → IsAside (replied s past link reply o before)
replied_aside s past link reply None before = tt
replied_aside s past link reply (Some t) before = if_aside (is_last_round s past) _ (weighed s past link reply t (held s before t)) tt (weighed_aside s past link reply t (held s before t))

asked_aside : (past : List Event) (p : ℕ) (seen : AskSeen) → IsAside (asked past p seen)
asked_aside past p AskGiven = tt
asked_aside past p Cancel = tt
asked_aside past p (AskFailed count) = tt
asked_aside past p AskNoMemory = tt

told_way : (s : Setting) (past : List Event) (prompt : ℕ) (reply : BookReply) → IsOnWay s past (told s past prompt reply)
told_way s past prompt (Lead led ordinal) = inr tt
told_way s past prompt (Follow followed) = inr tt
told_way s past prompt Cancelled = inr tt
told_way s past prompt (Lost (Fault count)) = inr tt
told_way s past prompt (Lost Memory) = inr tt
told_way s past prompt reply = inl refl

stepped_way : (s : Setting) (past : List Event) (step : StepSeen) (o : Option Held) → IsOnWay s past (stepped s past step o)
stepped_way s past (Token token) o = inl refl
stepped_way s past (StepFailed count) o = inr tt
stepped_way s past StepNoMemory o = inr tt
stepped_way s past NoMechanism o = inr (if_aside _ (rejected s past o) (select s past) (rejected_aside s past o) (select_aside s past))
stepped_way s past StepRefused o = inr (rejected_aside s past o)
stepped_way s past Done o = inr (rejected_aside s past o)

lost_way : (s : Setting) (past before : List Event) → IsOnWay s past (link_lost s past before)
lost_way s past before = at (list_any is_lost before)
  where
    at : (b : Bool) → IsOnWay s past (if b then Closes (Refused (code past) BoundLost) else Goes (go s past))
    at true = inr tt
    at false = inl refl

-- a call at the end closes
end_way : (s : Setting) (call : Call) (reply : BookReply) (past : List Event) → IsPast s (Called call reply ∷ past) → is_closing s past call ≡ true → IsOnWay s (Called call reply ∷ past) (move s (Called call reply ∷ past))
end_way s call reply past run k =
    let c = closes_at s past call reply (λ x y. reason s past run.0 x y) k run.1 in
    inr (subst IsAside (sym (still_closes s past call reply k ∙ c.1)) tt)

renew_way : (s : Setting) (past : List Event) (call : Call) (reply : BookReply) (b : Bool) → (b ≡ true → IsOnWay s (Called call reply ∷ past) (move s past)) → IsOnWay s (Called call reply ∷ past) (if b then move s past else Goes (go s (Called call reply ∷ past)))
renew_way s past call reply true f = f refl
renew_way s past call reply false f = inl refl

-- each row goes on, reads behind a head, or wants none of these
pub data Row (s : Setting) (past : List Event) : Type 0 where
  goes_on : move s past ≡ Goes (go s past) → Row s past
  reads : (link : ℕ) → (bytes : List ℕ) → (before : List Event) → past ≡ Headed link bytes ∷ before → move s past ≡ Goes (Reads link) → Row s past
  aside : IsAside (move s past) → Row s past

row_of : (s : Setting) (past : List Event) → IsOnWay s past (move s past) → Row s past
row_of s past (inl e) = goes_on e
row_of s past (inr a) = aside a

pub row : (s : Setting) (past : List Event) → IsPast s past → Row s past
row s [] run = aside tt
row s (Called Begin reply ∷ past) run = aside tt
row s (Called (Preempt Proxy) reply ∷ past) run = aside tt
row s (Called (Preempt Server) reply ∷ past) run = goes_on refl
row s (Called (Preempt Socks) reply ∷ past) run = goes_on refl
row s (Called (Select space terms) reply ∷ past) run = row_of s (Called (Select space terms) reply ∷ past) (told_way s (Called (Select space terms) reply ∷ past) 0 reply)
row s (Called (Reject space ordinal) reply ∷ past) run = aside (select_aside s (Called (Reject space ordinal) reply ∷ past))
row s (Called (Renew gift terms) reply ∷ past) run =
    row_of s (Called (Renew gift terms) reply ∷ past) (renew_way s past (Renew gift terms) reply (is_answered s past) (λ k. subst (IsOnWay s (Called (Renew gift terms) reply ∷ past)) (still_closes s past (Renew gift terms) reply k) (end_way s (Renew gift terms) reply past run k)))
row s (Called (Answer prompt text terms) reply ∷ past) run = row_of s (Called (Answer prompt text terms) reply ∷ past) (told_way s (Called (Answer prompt text terms) reply ∷ past) prompt reply)
row s (Called (Lose prompt loss) reply ∷ past) run = row_of s (Called (Lose prompt loss) reply ∷ past) (told_way s (Called (Lose prompt loss) reply ∷ past) prompt reply)
row s (Called (Take prompt) reply ∷ past) run = row_of s (Called (Take prompt) reply ∷ past) (told_way s (Called (Take prompt) reply ∷ past) prompt reply)
row s (Called (Note gift) reply ∷ past) run = row_of s (Called (Note gift) reply ∷ past) (end_way s (Note gift) reply past run refl)
row s (Called End reply ∷ past) run = row_of s (Called End reply ∷ past) (end_way s End reply past run refl)
row s (Called (Draw nonce) reply ∷ past) run = aside tt
row s (AskedFor prompt seen ∷ past) run = aside (asked_aside past prompt seen)
row s (Stepped target step ∷ past) run = row_of s (Stepped target step ∷ past) (stepped_way s (Stepped target step ∷ past) step (held s past target))
row s (Dialed link ∷ past) run = goes_on refl
row s (DialFailed link count ∷ past) run = aside tt
row s (Drew target nonce count epoch ∷ past) run = goes_on refl
row s (Headed link bytes ∷ past) run = reads link bytes past refl refl
row s (WriteFailed link count ∷ past) run = aside tt
row s (ReadFailed link count ∷ past) run = aside tt
row s (Replied link reply ∷ past) run = aside (replied_aside s (Replied link reply ∷ past) link reply (challenged s reply) past)
row s (Broken link fault ∷ past) run = aside tt
row s (LinkLost link ∷ past) run = row_of s (LinkLost link ∷ past) (lost_way s (LinkLost link ∷ past) past)
row s (Ended outcome ∷ past) run = aside tt

-- WHAT STANDS BEFORE AN EVENT

-- on the way to a head
abbrev pub is_way : Event → Bool
is_way (Dialed link) = true
is_way (DialFailed link count) = true
is_way (Drew target nonce count epoch) = true
is_way (Headed link bytes) = true
is_way _ = false

-- behind a head; a lost link can stand elsewhere too
abbrev pub is_reading : Event → Bool
is_reading (Replied link reply) = true
is_reading (Broken link fault) = true
is_reading (WriteFailed link count) = true
is_reading (ReadFailed link count) = true
is_reading _ = false

-- these events are no step aside
abbrev IsPlain : Event → Type 0
IsPlain e = IsTrue (is_way e) ⊎ IsTrue (is_reading e)

no_close : {P : Type 0} (s : Setting) (past : List Event) (o : Outcome) (e : Event) → IsPlain e → move s past ≡ Closes o → Follows s past (want s past) e → P
no_close {P} s past o e plain closes next = at (closing_step s past o e closes next)
  where
    call : (c : Call) (reply : BookReply) → IsPlain (Called c reply) → P
    call c reply (inl h) = absurd (false≢true h)
    call c reply (inr h) = absurd (false≢true h)

    out : (x : Outcome) → IsPlain (Ended x) → P
    out x (inl h) = absurd (false≢true h)
    out x (inr h) = absurd (false≢true h)

    at : IsClosingStep s past o e → P
    at (by_call c reply p k) = call c reply (subst IsPlain p plain)
    at (by_outcome p) = out o (subst IsPlain p plain)

no_aside : {P : Type 0} (s : Setting) (past : List Event) (e : Event) → IsPlain e → IsAside (move s past) → Follows s past (want s past) e → P
no_aside {P} s past e plain a next = at (move s past) refl a next
  where
    lost : (link : ℕ) → IsPlain (LinkLost link) → P
    lost link (inl h) = absurd (false≢true h)
    lost link (inr h) = absurd (false≢true h)

    call : (w : Call) (x : Event) → IsPlain x → Follows s past (Calls w) x → P
    call w (Called c reply) (inl h) f = absurd (false≢true h)
    call w (Called c reply) (inr h) f = absurd (false≢true h)
    call w _ h f = absurd f

    answer : (p t : ℕ) (x : Event) → IsPlain x → Follows s past (Answers p t) x → P
    answer p t (Called (Answer prompt text terms) reply) (inl h) f = absurd (false≢true h)
    answer p t (Called (Answer prompt text terms) reply) (inr h) f = absurd (false≢true h)
    answer p t _ h f = absurd f

    ask : (p : ℕ) (x : Event) → IsPlain x → Follows s past (Asks p) x → P
    ask p (AskedFor prompt seen) (inl h) f = absurd (false≢true h)
    ask p (AskedFor prompt seen) (inr h) f = absurd (false≢true h)
    ask p _ h f = absurd f

    step : (t : Target) (peer : List ℕ) (x : Event) → IsPlain x → Follows s past (Steps t (GoOn peer)) x → P
    step t peer (Stepped target seen) (inl h) f = absurd (false≢true h)
    step t peer (Stepped target seen) (inr h) f = absurd (false≢true h)
    step t peer _ h f = absurd f

    at_want : (w : Want) → IsAside (Goes w) → Follows s past w e → P
    at_want (Calls w) a f = call w e plain f
    at_want (Answers p t) a f = answer p t e plain f
    at_want (Asks p) a f = ask p e plain f
    at_want (Steps t (GoOn peer)) a f = step t peer e plain f
    at_want (Loses link) a f = lost link (subst IsPlain f plain)
    at_want Rests a f = absurd f
    at_want _ a f = absurd a

    at : (m : Move) → move s past ≡ m → IsAside m → Follows s past (carried_out s past m) e → P
    at (Goes w) p a f = at_want w a f
    at (Closes o) p a f = no_close s past o e plain p (subst (λ m. Follows s past (carried_out s past m) e) (sym p) f)

-- a dial, a draw or a head is what is wanted on the way
pub way_from : (s : Setting) (past : List Event) (e : Event) → IsTrue (is_way e) → IsPast s (e ∷ past) → Follows s past (go s past) e
way_from s past e way run = at (row s past run.0)
  where
    no_read : (link : ℕ) (x : Event) → IsTrue (is_way x) → IsRead past link x → Follows s past (go s past) e
    no_read link (Replied on reply) h f = absurd (false≢true h)
    no_read link (Broken on fault) h f = absurd (false≢true h)
    no_read link (LinkLost on) h f = absurd (false≢true h)
    no_read link (WriteFailed on count) h f = absurd (false≢true h)
    no_read link (ReadFailed on count) h f = absurd (false≢true h)
    no_read link _ h f = absurd f

    at : Row s past → Follows s past (go s past) e
    at (goes_on m) = subst (λ x. Follows s past (carried_out s past x) e) m run.1
    at (reads link bytes before p m) = no_read link e way (subst (λ x. Follows s past (carried_out s past x) e) m run.1)
    at (aside a) = no_aside s past e (inl way) a run.1

abbrev pub IsReadBehind : List Event → Event → Type 0
IsReadBehind past e = (link : ℕ) × (bytes : List ℕ) × (before : List Event) × (past ≡ Headed link bytes ∷ before) × IsRead past link e

-- a reply or a fault stands right behind a head
pub read_from : (s : Setting) (past : List Event) (e : Event) → IsTrue (is_reading e) → IsPast s (e ∷ past) → IsReadBehind past e
read_from s past e reading run = at (row s past run.0)
  where
    step : (t : Target) (x : Event) → IsTrue (is_reading x) → (asking : Asking) → Follows s past (Steps t asking) x → IsReadBehind past e
    step t (Stepped target seen) h asking f = absurd (false≢true h)
    step t _ h asking f = absurd f

    dial : (link : ℕ) (x : Event) → IsTrue (is_reading x) → Follows s past (Dials link) x → IsReadBehind past e
    dial link (Dialed on) h f = absurd (false≢true h)
    dial link (DialFailed on count) h f = absurd (false≢true h)
    dial link _ h f = absurd f

    draw : (t : Target) (n : ℕ) (x : Event) → IsTrue (is_reading x) → Follows s past (Draws t n) x → IsReadBehind past e
    draw t n (Drew target nonce count epoch) h f = absurd (false≢true h)
    draw t n _ h f = absurd f

    no_way : (w : Want) → IsGoing w → Follows s past w e → IsReadBehind past e
    no_way (Steps t asking) g f = step t e reading asking f
    no_way (Loses link) g f = absurd (false≢true (sym (ap is_reading f) ∙ reading))
    no_way (Dials link) g f = dial link e reading f
    no_way (Draws t n) g f = draw t n e reading f
    no_way (Writes link bytes) g f = absurd (false≢true (sym (ap is_reading f) ∙ reading))
    no_way _ g f = absurd g

    at : Row s past → IsReadBehind past e
    at (goes_on m) = no_way (go s past) (go_going s past) (subst (λ x. Follows s past (carried_out s past x) e) m run.1)
    at (reads link bytes before p m) = (link, bytes, before, p, subst (λ x. Follows s past (carried_out s past x) e) m run.1)
    at (aside a) = no_aside s past e (inr reading) a run.1
