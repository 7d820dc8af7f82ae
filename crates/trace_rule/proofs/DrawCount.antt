-- A request draws few counts: for each head at most one for each target.
use Rattle.std.proofs.Common.{◌≡◌, ◌⊎◌, inl, inr, ℕ, ◌+◌, ◌*◌, ◌≤◌, Bool, true, false, not, ◌&&◌, List, [], ◌∷◌, drop, Option, Some, None, is_none, option_and_then, refl, sym, ap, ◌∙◌, subst, arith, if◌then◌else◌}
use Rattle.std.specs.List.{list_any}
use Rattle.spaces.specs.declared.site.Target.{Target}
use Rattle.spaces.specs.declared.site.Target.TheVariants.{Server, Proxy, Socks}
use Rattle.spaces.specs.declared.terms.Terms.{Terms}
use Rattle.auth_events.specs.declared.journal.Gift.{Gift}
use Rattle.auth_events.specs.declared.journal.Loss.TheVariants.{Fault, Memory}
use Rattle.auth_events.specs.declared.journal.Call.{Call}
use Rattle.auth_events.specs.declared.journal.Call.TheVariants.{Begin, Preempt, Select, Reject, Renew, Answer, Lose, Take, Note, End, Draw}
use Rattle.auth_events.specs.declared.journal.BookReply.{BookReply}
use Rattle.auth_events.specs.declared.journal.BookReply.TheVariants.{Cancelled, Lost, Lead, Follow}
use Rattle.wire_head.specs.declared.reply.Reply.{Reply}
use Rattle.link_trait.specs.declared.prompts.AskSeen.TheVariants.{Given as AskGiven, Cancel, Failed as AskFailed, NoMemory as AskNoMemory}
use Rattle.link_trait.specs.declared.steps.StepSeen.{StepSeen}
use Rattle.link_trait.specs.declared.steps.StepSeen.TheVariants.{Token, Done, Refused as StepRefused, NoMechanism, Failed as StepFailed, NoMemory as StepNoMemory}
use Rattle.auth_runs.specs.declared.event.Event.{Event}
use Rattle.auth_runs.specs.declared.event.Event.TheVariants.{Called, Dialed, DialFailed, Drew, Headed, WriteFailed, ReadFailed, Replied, Broken, LinkLost, AskedFor, Stepped, Ended}
use Rattle.trace_rule.specs.Settings.{Setting}
use Rattle.trace_rule.specs.Challenges.{Offer, challenged, supported, best}
use Rattle.trace_rule.specs.Holding.{Held, Decision, held, deciding, negotiates, last_reply, is_lost}
use Rattle.trace_rule.specs.Holding.Decision.{Negotiating, Offering}
use Rattle.trace_rule.specs.Moves.{Want, Move, move, go, known, terms_offered, space_offered, choose, select, is_last_round, rejects, rejected, renewed, decided, weighed, replied, told, stepped}
use Rattle.trace_rule.specs.Moves.Want.{Calls, Asks, Steps, Dials, Draws, Writes, Reads, Loses, Ends, Rests}
use Rattle.auth_runs.specs.declared.event.Outcome.{Outcome}
use Rattle.auth_runs.specs.declared.event.Outcome.TheVariants.{Refused}
use Rattle.auth_runs.specs.declared.event.Why.TheVariants.{BoundLost}
use Rattle.spaces.specs.declared.space.Scheme.TheVariants.{Digest}
use Rattle.trace_rule.specs.Settings.{for_route, or_else, scheme_is}
use Rattle.trace_rule.specs.Holding.{heads, bound, stays, links, has_link, code}
use Rattle.trace_rule.specs.Heads.{drawn, head_text}
use Rattle.trace_rule.specs.Moves.{asked, link_lost, first_want, start_for, spn, identity_held, loss_for, dial_for, draw_for, has_count, head_link}
use Rattle.trace_rule.specs.Moves.Asking.{Start}
use Rattle.trace_rule.specs.Moves.Move.{Goes, Closes}
use Rattle.link_trait.specs.declared.prompts.AskSeen.{AskSeen}
use Rattle.trace_rule.specs.Traces.{IsPast, Follows}
use Rattle.trace_rule.specs.Closings.{want, next_closing, closings, closings_made, carried_out}
use Rattle.trace_rule.specs.Counting.{draws}
use Rattle.trace_rule.proofs.HeadCount.{one, one_at_most, spent, spent_bound}
use Rattle.trace_rule.specs.Moves.{is_answered}
use Rattle.trace_rule.proofs.Reasons.{GoesOn, closing_never}

-- WHAT DRAWS

abbrev NoDraw : Move → Type 0
NoDraw (Goes (Draws t n)) = ⊥
NoDraw _ = Unit {0}

known_no_draw : {A : Type 0} (o : Option A) (f : A → Move) → ((a : A) → NoDraw (f a)) → NoDraw (known o f)
known_no_draw None f h = tt
known_no_draw (Some a) f h = h a

if_no_draw : (b : Bool) (x y : Move) → NoDraw x → NoDraw y → NoDraw (if b then x else y)
if_no_draw true x y p q = p
if_no_draw false x y p q = q

choose_no_draw : (s : Setting) (status : ℕ) (t : Target) (o : Option Offer) → NoDraw (choose s status t o)
choose_no_draw s status t None = tt
choose_no_draw s status t (Some offered) =
    known_no_draw (space_offered s t offered) _ (λ space. known_no_draw (terms_offered s space offered.terms) (λ terms. Goes (Calls (Select space terms))) (λ terms. tt))

select_no_draw : (s : Setting) (past : List Event) → NoDraw (select s past)
select_no_draw s past =
    known_no_draw (last_reply past) _ (λ reply. known_no_draw (challenged s reply) (λ t. choose s reply.code t (best (supported (negotiates s past t) reply))) (λ t. choose_no_draw s reply.code t (best (supported (negotiates s past t) reply))))

rejected_no_draw : (s : Setting) (past : List Event) (o : Option Held) → NoDraw (rejected s past o)
rejected_no_draw s past o = if_no_draw (is_last_round s past) _ (known o rejects) tt (known_no_draw o rejects (λ h. tt))

renewed_no_draw : (s : Setting) (h : Held) (b : Bool) (o : Option Terms) → NoDraw (renewed s h b o)
renewed_no_draw s h true (Some terms) = known_no_draw (s.terms_no h.gift.space terms) _ (λ number. tt)
renewed_no_draw s h true None = tt
renewed_no_draw s h false o = tt

decided_no_draw : (s : Setting) (past : List Event) (link : ℕ) (b : Bool) (t : Target) (h : Held) (d : Option Decision) → NoDraw (decided s past link b t h d)
decided_no_draw s past link b t h None = select_no_draw s past
decided_no_draw s past link b t h (Some (Negotiating None)) = tt
decided_no_draw s past link b t h (Some (Negotiating (Some peer))) = if_no_draw b _ _ tt tt
decided_no_draw s past link b t h (Some (Offering offered)) = renewed_no_draw s h offered.stale offered.terms

weighed_no_draw : (s : Setting) (past : List Event) (link : ℕ) (reply : Reply) (t : Target) (o : Option Held) → NoDraw (weighed s past link reply t o)
weighed_no_draw s past link reply t None = select_no_draw s past
weighed_no_draw s past link reply t (Some h) = decided_no_draw s past link reply.stays t h (deciding s reply t h)

replied_no_draw : (s : Setting) (past : List Event) (link : ℕ) (reply : Reply) (o : Option Target) (before : List Event) → NoDraw (replied s past link reply o before)
replied_no_draw s past link reply None before = tt
replied_no_draw s past link reply (Some t) before = if_no_draw (is_last_round s past) _ (weighed s past link reply t (held s before t)) tt (weighed_no_draw s past link reply t (held s before t))

-- a draw comes on the way to the next head

from : {P : Type 0} (m : Move) (t : Target) (n : ℕ) → NoDraw m → m ≡ Goes (Draws t n) → P
from m t n never e = absurd (subst NoDraw e never)

abbrev want_in : Move → Want
want_in (Goes w) = w
want_in (Closes o) = Rests

by_go : (s : Setting) (past : List Event) (t : Target) (n : ℕ) → Goes (go s past) ≡ Goes (Draws t n) → go s past ≡ Draws t n
by_go s past t n e = ap want_in e

by_told : (s : Setting) (past : List Event) (prompt : ℕ) (reply : BookReply) (t : Target) (n : ℕ) → told s past prompt reply ≡ Goes (Draws t n) → go s past ≡ Draws t n
by_told s past prompt (Lead led ordinal) t n e = from (Goes (Asks led)) t n tt e
by_told s past prompt (Follow followed) t n e = from (Goes (Calls (Take followed))) t n tt e
by_told s past prompt Cancelled t n e = from _ t n tt e
by_told s past prompt (Lost (Fault count)) t n e = from _ t n tt e
by_told s past prompt (Lost Memory) t n e = from _ t n tt e
by_told s past prompt reply t n e = by_go s past t n e

by_stepped : (s : Setting) (past : List Event) (step : StepSeen) (o : Option Held) (t : Target) (n : ℕ) → stepped s past step o ≡ Goes (Draws t n) → go s past ≡ Draws t n
by_stepped s past (Token token) o t n e = by_go s past t n e
by_stepped s past (StepFailed count) o t n e = from _ t n tt e
by_stepped s past StepNoMemory o t n e = from _ t n tt e
by_stepped s past NoMechanism o t n e = from (stepped s past NoMechanism o) t n (if_no_draw _ (rejected s past o) (select s past) (rejected_no_draw s past o) (select_no_draw s past)) e
by_stepped s past StepRefused o t n e = from (rejected s past o) t n (rejected_no_draw s past o) e
by_stepped s past Done o t n e = from (rejected s past o) t n (rejected_no_draw s past o) e

by_lost : (s : Setting) (past before : List Event) (t : Target) (n : ℕ) → link_lost s past before ≡ Goes (Draws t n) → go s past ≡ Draws t n
by_lost s past before t n e = at (list_any is_lost before) e
  where
    at : (b : Bool) → (if b then Closes (Refused (code past) BoundLost) else Goes (go s past)) ≡ Goes (Draws t n) → go s past ≡ Draws t n
    at true e = from (Closes (Refused (code past) BoundLost)) t n tt e
    at false e = by_go s past t n e

by_asked : (past : List Event) (p : ℕ) (seen : AskSeen) → NoDraw (asked past p seen)
by_asked past p AskGiven = tt
by_asked past p Cancel = tt
by_asked past p (AskFailed count) = tt
by_asked past p AskNoMemory = tt

pub drawn_by : (s : Setting) (past : List Event) (t : Target) (n : ℕ) → move s past ≡ Goes (Draws t n) → GoesOn s past → go s past ≡ Draws t n
drawn_by s [] t n e never = from _ t n tt e
drawn_by s (Called Begin reply ∷ past) t n e never = from (Goes (Calls (Preempt _))) t n tt e
drawn_by s (Called (Preempt Proxy) reply ∷ past) t n e never = from (Goes (Calls (Preempt Server))) t n tt e
drawn_by s (Called (Preempt Server) reply ∷ past) t n e never = by_go s (Called (Preempt Server) reply ∷ past) t n e
drawn_by s (Called (Preempt Socks) reply ∷ past) t n e never = by_go s (Called (Preempt Socks) reply ∷ past) t n e
drawn_by s (Called (Select space terms) reply ∷ past) t n e never = by_told s (Called (Select space terms) reply ∷ past) 0 reply t n e
drawn_by s (Called (Reject space ordinal) reply ∷ past) t n e never = from (select s (Called (Reject space ordinal) reply ∷ past)) t n (select_no_draw s (Called (Reject space ordinal) reply ∷ past)) e
drawn_by s (Called (Renew gift terms) reply ∷ past) t n e never = at (is_answered s past) refl e
  where
    at : (b : Bool) → is_answered s past ≡ b → (if b then move s past else Goes (go s (Called (Renew gift terms) reply ∷ past))) ≡ Goes (Draws t n) → go s (Called (Renew gift terms) reply ∷ past) ≡ Draws t n
    at true k f = absurd (never past (Renew gift terms) reply refl k)
    at false k f = by_go s (Called (Renew gift terms) reply ∷ past) t n f
drawn_by s (Called (Answer prompt text terms) reply ∷ past) t n e never = by_told s (Called (Answer prompt text terms) reply ∷ past) prompt reply t n e
drawn_by s (Called (Lose prompt loss) reply ∷ past) t n e never = by_told s (Called (Lose prompt loss) reply ∷ past) prompt reply t n e
drawn_by s (Called (Take prompt) reply ∷ past) t n e never = by_told s (Called (Take prompt) reply ∷ past) prompt reply t n e
drawn_by s (Called (Note gift) reply ∷ past) t n e never = absurd (never past (Note gift) reply refl refl)
drawn_by s (Called End reply ∷ past) t n e never = absurd (never past End reply refl refl)
drawn_by s (Called (Draw nonce) reply ∷ past) t n e never = from (Goes Rests) t n tt e
drawn_by s (AskedFor prompt seen ∷ past) t n e never = from (asked past prompt seen) t n (by_asked past prompt seen) e
drawn_by s (Stepped target step ∷ past) t n e never = by_stepped s (Stepped target step ∷ past) step (held s past target) t n e
drawn_by s (Dialed link ∷ past) t n e never = by_go s (Dialed link ∷ past) t n e
drawn_by s (DialFailed link count ∷ past) t n e never = from (move s (DialFailed link count ∷ past)) t n tt e
drawn_by s (Drew target nonce count epoch ∷ past) t n e never = by_go s (Drew target nonce count epoch ∷ past) t n e
drawn_by s (Headed link bytes ∷ past) t n e never = from (Goes (Reads link)) t n tt e
drawn_by s (WriteFailed link count ∷ past) t n e never = from (move s (WriteFailed link count ∷ past)) t n tt e
drawn_by s (ReadFailed link count ∷ past) t n e never = from (move s (ReadFailed link count ∷ past)) t n tt e
drawn_by s (Replied link reply ∷ past) t n e never = from (replied s (Replied link reply ∷ past) link reply (challenged s reply) past) t n (replied_no_draw s (Replied link reply ∷ past) link reply (challenged s reply) past) e
drawn_by s (Broken link fault ∷ past) t n e never = from (move s (Broken link fault ∷ past)) t n tt e
drawn_by s (LinkLost link ∷ past) t n e never = by_lost s (LinkLost link ∷ past) past t n e
drawn_by s (Ended outcome ∷ past) t n e never = from (Goes Rests) t n tt e

-- none was drawn for the target since the last head

abbrev IsOpenDraw : List Event → Want → Type 0
IsOpenDraw past (Draws t n) = (drawn past t ≡ None) × ((t ≡ Proxy) ⊎ (t ≡ Server))
IsOpenDraw past _ = Unit {0}

abbrev AreOpen : List Event → Option Want → Type 0
AreOpen past None = Unit {0}
AreOpen past (Some w) = IsOpenDraw past w

open_first : (past : List Event) (o : Option Want) (w : Want) → AreOpen past o → IsOpenDraw past w → IsOpenDraw past (first_want o w)
open_first past None w p q = q
open_first past (Some v) w p q = p

open_then : {A : Type 0} (past : List Event) (f : A → Option Want) → ((a : A) → AreOpen past (f a)) → (o : Option A) → AreOpen past (option_and_then f o)
open_then past f h None = tt
open_then past f h (Some a) = h a

open_or : (past : List Event) (a b : Option Want) → AreOpen past a → AreOpen past b → AreOpen past (or_else a b)
open_or past None b p q = q
open_or past (Some w) b p q = p

open_if : (past : List Event) (b : Bool) (o : Option Want) → AreOpen past o → AreOpen past (if b then o else None)
open_if past true o h = h
open_if past false o h = tt

open_unless : (past : List Event) (b : Bool) (o : Option Want) → AreOpen past o → AreOpen past (if b then None else o)
open_unless past true o h = tt
open_unless past false o h = h

starts_open : (s : Setting) (past : List Event) (t : Target) → AreOpen past (option_and_then (start_for s t) (held s past t))
starts_open s past t = open_then past (start_for s t) (λ h. open_if past _ (Some (Steps t (Start (spn s t) (identity_held s h)))) tt) (held s past t)

draws_open : (s : Setting) (past : List Event) (t : Target) → ((t ≡ Proxy) ⊎ (t ≡ Server)) → AreOpen past (option_and_then (draw_for s past t) (held s past t))
draws_open s past t route = open_then past (draw_for s past t) (λ h. at h (scheme_is s h.gift.space Digest) (drawn past t) refl) (held s past t)
  where
    at : (h : Held) (b : Bool) (o : Option ℕ) → drawn past t ≡ o → AreOpen past (if b && is_none o then option_and_then (λ name. if has_count name.terms.qop then Some (Draws t name.nonce) else None) (s.terms_of h.terms) else None)
    at h false o e = tt
    at h true (Some c) e = tt
    at h true None e = open_then past (λ name. if has_count name.terms.qop then Some (Draws t name.nonce) else None) (λ name. open_if past (has_count name.terms.qop) (Some (Draws t name.nonce)) (e, route)) (s.terms_of h.terms)

go_open : (s : Setting) (past : List Event) → IsOpenDraw past (go s past)
go_open s past =
    open_first past (for_route (λ t. option_and_then (start_for s t) (held s past t))) _
    (open_or past (option_and_then (start_for s Proxy) (held s past Proxy)) (option_and_then (start_for s Server) (held s past Server)) (starts_open s past Proxy) (starts_open s past Server))
    (open_first past (option_and_then (loss_for past) (bound s past)) _ (open_then past (loss_for past) (λ link. open_unless past (stays past link) (Some (Loses link)) tt) (bound s past))
    (open_first past (dial_for s past) _ (open_if past (is_none (bound s past) && not (has_link past)) (Some (Dials (links past + 1))) tt)
    (open_first past (for_route (λ t. option_and_then (draw_for s past t) (held s past t))) (Writes (head_link s past) (head_text s past))
    (open_or past (option_and_then (draw_for s past Proxy) (held s past Proxy)) (option_and_then (draw_for s past Server) (held s past Server)) (draws_open s past Proxy (inl refl)) (draws_open s past Server (inr refl))) tt)))

-- a draw follows only where none was drawn
draw_free : (s : Setting) (past : List Event) (t : Target) (n c epoch : ℕ) → IsPast s past → Follows s past (want s past) (Drew t n c epoch) → (drawn past t ≡ None) × ((t ≡ Proxy) ⊎ (t ≡ Server))
draw_free s past t n c epoch run next = at (move s past) refl next
  where
    by_draw : (u : Target) (k : ℕ) → move s past ≡ Goes (Draws u k) → t ≡ u → (drawn past t ≡ None) × ((t ≡ Proxy) ⊎ (t ≡ Server))
    by_draw u k e same =
        subst (λ x. (drawn past x ≡ None) × ((x ≡ Proxy) ⊎ (x ≡ Server))) (sym same)
        (subst (IsOpenDraw past) (drawn_by s past u k e (closing_never s past (Draws u k) run e)) (go_open s past))

    at_want : (w : Want) → move s past ≡ Goes w → Follows s past w (Drew t n c epoch) → (drawn past t ≡ None) × ((t ≡ Proxy) ⊎ (t ≡ Server))
    at_want (Draws u k) e f = by_draw u k e f.0
    at_want (Writes link bytes) e f = let clash : Drew t n c epoch ≡ Headed link bytes = f in cc
    at_want (Loses link) e f = let clash : Drew t n c epoch ≡ LinkLost link = f in cc
    at_want (Ends o) e f = let clash : Drew t n c epoch ≡ Ended o = f in cc
    at_want _ e f = absurd f

    at_list : (o : Outcome) (cs : List (Option Call)) → Follows s past (next_closing o cs) (Drew t n c epoch) → (drawn past t ≡ None) × ((t ≡ Proxy) ⊎ (t ≡ Server))
    at_list o [] f = let clash : Drew t n c epoch ≡ Ended o = f in cc
    at_list o (None ∷ cs) f = absurd f
    at_list o (Some x ∷ cs) f = absurd f

    at : (m : Move) → move s past ≡ m → Follows s past (carried_out s past m) (Drew t n c epoch) → (drawn past t ≡ None) × ((t ≡ Proxy) ⊎ (t ≡ Server))
    at (Goes w) e f = at_want w e f
    at (Closes o) e f = at_list o (drop (closings_made s past) (closings s past o)) f

-- HOW MANY

few : (s : Setting) (past : List Event) → IsPast s past → draws past ≤ spent past
few s [] run = omega arith
few s (Drew t n c epoch ∷ past) run = at (draw_free s past t n c epoch run.0 run.1) (few s past run.0)
  where
    at : (drawn past t ≡ None) × ((t ≡ Proxy) ⊎ (t ≡ Server)) → draws past ≤ spent past → draws (Drew t n c epoch ∷ past) ≤ spent (Drew t n c epoch ∷ past)
    at (none, inl proxy) h =
        let zero_drawn : one (drawn past Proxy) ≡ 0 = ap (λ x. one (drawn past x)) (sym proxy) ∙ ap one none in
        subst (λ x. draws (Drew x n c epoch ∷ past) ≤ spent (Drew x n c epoch ∷ past)) (sym proxy) (omega (arith, h, zero_drawn))
    at (none, inr server) h =
        let zero_drawn : one (drawn past Server) ≡ 0 = ap (λ x. one (drawn past x)) (sym server) ∙ ap one none in
        subst (λ x. draws (Drew x n c epoch ∷ past) ≤ spent (Drew x n c epoch ∷ past)) (sym server) (omega (arith, h, zero_drawn))
few s (Headed link bytes ∷ past) run = let h = few s past run.0 in omega (arith, h, one_at_most (drawn past Proxy), one_at_most (drawn past Server))
few s (_ ∷ past) run = few s past run.0

pub draws_bound : (s : Setting) (past : List Event) → IsPast s past → draws past ≤ 36
draws_bound s past run = omega (arith, few s past run, spent_bound s past run)
