-- Why a step of the provider is wanted: what is held is a Negotiate identity.
use Rattle.std.proofs.Common.{◌≡◌, ◌⊎◌, inl, inr, ℕ, ◌+◌, Bool, true, false, not, ◌&&◌, ◌==◌, IsTrue, List, [], ◌∷◌, Option, Some, None, is_some, is_none, option_and_then, option_map, refl, sym, ap, ◌∙◌, subst, if◌then◌else◌}
use Rattle.std.specs.List.{list_any}
use Rattle.std.proofs.lemmas.Bool.{false≢true}
use Rattle.spaces.specs.declared.site.Target.{Target}
use Rattle.spaces.specs.declared.site.Target.TheVariants.{Server, Proxy, Socks}
use Rattle.spaces.specs.declared.space.Scheme.TheVariants.{Negotiate}
use Rattle.spaces.specs.declared.terms.Terms.{Terms}
use Rattle.auth_events.specs.declared.journal.Gift.{Gift}
use Rattle.auth_events.specs.declared.journal.Loss.TheVariants.{Fault, Memory}
use Rattle.auth_events.specs.declared.journal.Call.{Call}
use Rattle.auth_events.specs.declared.journal.Call.TheVariants.{Begin, Preempt, Select, Reject, Renew, Answer, Lose, Take, Note, End, Draw}
use Rattle.auth_events.specs.declared.journal.BookReply.{BookReply}
use Rattle.auth_events.specs.declared.journal.BookReply.TheVariants.{Cancelled, Lost, Lead, Follow}
use Rattle.wire_head.specs.declared.reply.Reply.{Reply}
use Rattle.link_trait.specs.declared.prompts.AskSeen.{AskSeen}
use Rattle.link_trait.specs.declared.prompts.AskSeen.TheVariants.{Given as AskGiven, Cancel, Failed as AskFailed, NoMemory as AskNoMemory}
use Rattle.link_trait.specs.declared.steps.StepSeen.{StepSeen}
use Rattle.link_trait.specs.declared.steps.StepSeen.TheVariants.{Token, Done, Refused as StepRefused, NoMechanism, Failed as StepFailed, NoMemory as StepNoMemory}
use Rattle.auth_runs.specs.declared.event.Outcome.{Outcome}
use Rattle.auth_runs.specs.declared.event.Event.{Event}
use Rattle.auth_runs.specs.declared.event.Event.TheVariants.{Called, Dialed, DialFailed, Drew, Headed, WriteFailed, ReadFailed, Replied, Broken, LinkLost, AskedFor, Stepped, Ended}
use Rattle.trace_rule.specs.Settings.{Setting, is_proxied, for_route, or_else, scheme_is}
use Rattle.trace_rule.specs.Challenges.{Offer, challenged, supported, best}
use Rattle.trace_rule.specs.Holding.{Held, Context, Decision, held, deciding, bound, stays, links, has_link, negotiates, last_reply, is_lost}
use Rattle.trace_rule.specs.Holding.Decision.{Negotiating, Offering}
use Rattle.trace_rule.specs.Heads.{head_text}
use Rattle.trace_rule.specs.Moves.{Want, Move, Asking, move, go, known, first_want, start_for, spn, identity_held, loss_for, dial_for, draw_for, has_count, head_link, terms_offered, space_offered, choose, select, is_last_round, rejects, rejected, renewed, decided, weighed, replied, told, asked, stepped, link_lost, is_answered}
use Rattle.trace_rule.specs.Moves.Want.{Calls, Asks, Steps, Dials, Draws, Writes, Reads, Loses, Ends, Rests}
use Rattle.trace_rule.specs.Moves.Move.{Goes, Closes}
use Rattle.trace_rule.specs.Moves.Asking.{Start, GoOn}
use Rattle.trace_rule.specs.Closings.{want, is_closing, carried_out}
use Rattle.trace_rule.specs.Traces.{IsPast, Follows}
use Rattle.trace_rule.proofs.Reasons.{reason, closes_at, still_closes, closing_step, IsClosingStep}
use Rattle.trace_rule.proofs.Reasons.IsClosingStep.{by_call, by_outcome}

-- a context is started for a Negotiate identity without one, and goes on where the peer's token decides on one
abbrev pub IsStepFor : Setting → List Event → Target → Asking → Type 0
IsStepFor s past t (Start name identity) =
    (h : Held) × (held s past t ≡ Some h) × IsTrue (scheme_is s h.gift.space Negotiate) × (h.context ≡ None) × (name ≡ spn s t)
IsStepFor s past t (GoOn peer) =
    (link : ℕ) × (reply : Reply) × (before : List Event) × (h : Held) × (past ≡ Replied link reply ∷ before) × (held s before t ≡ Some h)
    × (deciding s reply t h ≡ Some (Negotiating (Some peer))) × (reply.stays ≡ true) × (challenged s reply ≡ Some t)

abbrev pub StepsOf : Setting → List Event → Move → Type 0
StepsOf s past (Goes (Steps t asking)) = IsStepFor s past t asking × ((t ≡ Proxy) ⊎ (t ≡ Server))
StepsOf s past _ = Unit {0}

-- ON THE WAY TO A HEAD

abbrev StepsIf : Setting → List Event → Option Want → Type 0
StepsIf s past None = Unit {0}
StepsIf s past (Some w) = StepsOf s past (Goes w)

first_steps : (s : Setting) (past : List Event) (o : Option Want) (w : Want) → StepsIf s past o → StepsOf s past (Goes w) → StepsOf s past (Goes (first_want o w))
first_steps s past None w p q = q
first_steps s past (Some v) w p q = p

or_steps : (s : Setting) (past : List Event) (a b : Option Want) → StepsIf s past a → StepsIf s past b → StepsIf s past (or_else a b)
or_steps s past None b p q = q
or_steps s past (Some w) b p q = p

if_steps : (s : Setting) (past : List Event) (b : Bool) (o : Option Want) → StepsIf s past o → StepsIf s past (if b then o else None)
if_steps s past true o h = h
if_steps s past false o h = tt

unless_steps : (s : Setting) (past : List Event) (b : Bool) (o : Option Want) → StepsIf s past o → StepsIf s past (if b then None else o)
unless_steps s past true o h = tt
unless_steps s past false o h = h

then_steps : {A : Type 0} (s : Setting) (past : List Event) (f : A → Option Want) → ((a : A) → StepsIf s past (f a)) → (o : Option A) → StepsIf s past (option_and_then f o)
then_steps s past f h None = tt
then_steps s past f h (Some a) = h a

none_there : {A : Type 0} (o : Option A) → IsTrue (is_none o) → o ≡ None
none_there None h = refl
none_there (Some a) h = absurd (false≢true h)

starts : (s : Setting) (past : List Event) (t : Target) → ((t ≡ Proxy) ⊎ (t ≡ Server)) → StepsIf s past (option_and_then (start_for s t) (held s past t))
starts s past t route = at (held s past t) refl
  where
    by : (h : Held) → held s past t ≡ Some h → (a : Bool) → scheme_is s h.gift.space Negotiate ≡ a → (b : Bool) → is_none h.context ≡ b → StepsIf s past (if a && b then Some (Steps t (Start (spn s t) (identity_held s h))) else None)
    by h e true n true c = ((h, e, n, none_there h.context c, refl), route)
    by h e true n false c = tt
    by h e false n b c = tt

    at : (o : Option Held) → held s past t ≡ o → StepsIf s past (option_and_then (start_for s t) o)
    at None e = tt
    at (Some h) e = by h e (scheme_is s h.gift.space Negotiate) refl (is_none h.context) refl

draws_no_step : (s : Setting) (past : List Event) (t : Target) → StepsIf s past (option_and_then (draw_for s past t) (held s past t))
draws_no_step s past t =
    then_steps s past (draw_for s past t)
    (λ h. if_steps s past _ (option_and_then (λ name. if has_count name.terms.qop then Some (Draws t name.nonce) else None) (s.terms_of h.terms))
    (then_steps s past (λ name. if has_count name.terms.qop then Some (Draws t name.nonce) else None) (λ name. if_steps s past (has_count name.terms.qop) (Some (Draws t name.nonce)) tt) (s.terms_of h.terms))) (held s past t)

pub go_steps : (s : Setting) (past : List Event) → StepsOf s past (Goes (go s past))
go_steps s past =
    first_steps s past (for_route (λ t. option_and_then (start_for s t) (held s past t))) _
    (or_steps s past (option_and_then (start_for s Proxy) (held s past Proxy)) (option_and_then (start_for s Server) (held s past Server)) (starts s past Proxy (inl refl)) (starts s past Server (inr refl)))
    (first_steps s past (option_and_then (loss_for past) (bound s past)) _ (then_steps s past (loss_for past) (λ link. unless_steps s past (stays past link) (Some (Loses link)) tt) (bound s past))
    (first_steps s past (dial_for s past) _ (if_steps s past (is_none (bound s past) && not (has_link past)) (Some (Dials (links past + 1))) tt)
    (first_steps s past (for_route (λ t. option_and_then (draw_for s past t) (held s past t))) (Writes (head_link s past) (head_text s past))
    (or_steps s past (option_and_then (draw_for s past Proxy) (held s past Proxy)) (option_and_then (draw_for s past Server) (held s past Server)) (draws_no_step s past Proxy) (draws_no_step s past Server)) tt)))

-- THE ROWS

known_steps : {A : Type 0} (s : Setting) (past : List Event) (o : Option A) (f : A → Move) → ((a : A) → StepsOf s past (f a)) → StepsOf s past (known o f)
known_steps s past None f h = tt
known_steps s past (Some a) f h = h a

either_steps : (s : Setting) (past : List Event) (b : Bool) (x y : Move) → StepsOf s past x → StepsOf s past y → StepsOf s past (if b then x else y)
either_steps s past true x y p q = p
either_steps s past false x y p q = q

choose_steps : (s : Setting) (past : List Event) (status : ℕ) (t : Target) (o : Option Offer) → StepsOf s past (choose s status t o)
choose_steps s past status t None = tt
choose_steps s past status t (Some offered) =
    known_steps s past (space_offered s t offered) _ (λ space. known_steps s past (terms_offered s space offered.terms) (λ terms. Goes (Calls (Select space terms))) (λ terms. tt))

select_steps : (s : Setting) (past : List Event) → StepsOf s past (select s past)
select_steps s past =
    known_steps s past (last_reply past) _ (λ reply. known_steps s past (challenged s reply) (λ t. choose s reply.code t (best (supported (negotiates s past t) reply))) (λ t. choose_steps s past reply.code t (best (supported (negotiates s past t) reply))))

rejected_steps : (s : Setting) (past : List Event) (o : Option Held) → StepsOf s past (rejected s past o)
rejected_steps s past o = either_steps s past (is_last_round s past) _ (known o rejects) tt (known_steps s past o rejects (λ h. tt))

renewed_steps : (s : Setting) (past : List Event) (h : Held) (b : Bool) (o : Option Terms) → StepsOf s past (renewed s h b o)
renewed_steps s past h true (Some terms) = known_steps s past (s.terms_no h.gift.space terms) _ (λ number. tt)
renewed_steps s past h true None = tt
renewed_steps s past h false o = tt

-- a challenge has a target of the route
challenged_route : (s : Setting) (reply : Reply) (t : Target) → challenged s reply ≡ Some t → (t ≡ Proxy) ⊎ (t ≡ Server)
challenged_route s reply Proxy e = inl refl
challenged_route s reply Server e = inr refl
challenged_route s reply Socks e = absurd (at (challenged s reply) e (never s reply))
  where
    is_socks : Option Target → Bool
    is_socks (Some Socks) = true
    is_socks _ = false

    never : (q : Setting) (r : Reply) → is_socks (challenged q r) ≡ false
    never q r = by (r.code == 401) (r.code == 407) (is_proxied q)
      where
        by : (a b c : Bool) → is_socks (if a then Some Server else (if b && c then Some Proxy else None)) ≡ false
        by true b c = refl
        by false true true = refl
        by false true false = refl
        by false false c = refl

    at : (o : Option Target) → o ≡ Some Socks → is_socks o ≡ false → ⊥
    at o e n = false≢true (sym n ∙ ap is_socks e)

decided_steps : (s : Setting) (link : ℕ) (reply : Reply) (before : List Event) (t : Target) (h : Held) → held s before t ≡ Some h → challenged s reply ≡ Some t → (d : Option Decision) → deciding s reply t h ≡ d
    → StepsOf s (Replied link reply ∷ before) (decided s (Replied link reply ∷ before) link reply.stays t h d)
decided_steps s link reply before t h q c None r = select_steps s (Replied link reply ∷ before)
decided_steps s link reply before t h q c (Some (Negotiating None)) r = tt
decided_steps s link reply before t h q c (Some (Negotiating (Some peer))) r = at reply.stays refl
  where
    at : (b : Bool) → reply.stays ≡ b → StepsOf s (Replied link reply ∷ before) (if b then Goes (Steps t (GoOn peer)) else Goes (Loses link))
    at true stay = ((link, reply, before, h, refl, q, r, stay, c), challenged_route s reply t c)
    at false stay = tt
decided_steps s link reply before t h q c (Some (Offering offered)) r = renewed_steps s (Replied link reply ∷ before) h offered.stale offered.terms

weighed_steps : (s : Setting) (link : ℕ) (reply : Reply) (before : List Event) (t : Target) → challenged s reply ≡ Some t → (o : Option Held) → held s before t ≡ o
    → StepsOf s (Replied link reply ∷ before) (weighed s (Replied link reply ∷ before) link reply t o)
weighed_steps s link reply before t c None q = select_steps s (Replied link reply ∷ before)
weighed_steps s link reply before t c (Some h) q = decided_steps s link reply before t h q c (deciding s reply t h) refl

replied_steps : (s : Setting) (link : ℕ) (reply : Reply) (before : List Event) (o : Option Target) → challenged s reply ≡ o → StepsOf s (Replied link reply ∷ before) (replied s (Replied link reply ∷ before) link reply o before)
replied_steps s link reply before None c = tt
replied_steps s link reply before (Some t) c =
    either_steps s (Replied link reply ∷ before) (is_last_round s (Replied link reply ∷ before)) _ (weighed s (Replied link reply ∷ before) link reply t (held s before t)) tt (weighed_steps s link reply before t c (held s before t) refl)

told_steps : (s : Setting) (past : List Event) (prompt : ℕ) (reply : BookReply) → StepsOf s past (told s past prompt reply)
told_steps s past prompt (Lead led ordinal) = tt
told_steps s past prompt (Follow followed) = tt
told_steps s past prompt Cancelled = tt
told_steps s past prompt (Lost (Fault count)) = tt
told_steps s past prompt (Lost Memory) = tt
told_steps s past prompt reply = go_steps s past

stepped_steps : (s : Setting) (past : List Event) (step : StepSeen) (o : Option Held) → StepsOf s past (stepped s past step o)
stepped_steps s past (Token token) o = go_steps s past
stepped_steps s past (StepFailed count) o = tt
stepped_steps s past StepNoMemory o = tt
stepped_steps s past NoMechanism o = either_steps s past _ (rejected s past o) (select s past) (rejected_steps s past o) (select_steps s past)
stepped_steps s past StepRefused o = rejected_steps s past o
stepped_steps s past Done o = rejected_steps s past o

asked_steps : (s : Setting) (past before : List Event) (p : ℕ) (seen : AskSeen) → StepsOf s past (asked before p seen)
asked_steps s past before p AskGiven = tt
asked_steps s past before p Cancel = tt
asked_steps s past before p (AskFailed count) = tt
asked_steps s past before p AskNoMemory = tt

by_end : (s : Setting) (call : Call) (reply : BookReply) (past : List Event) → IsPast s (Called call reply ∷ past) → is_closing s past call ≡ true → StepsOf s (Called call reply ∷ past) (move s (Called call reply ∷ past))
by_end s call reply past run k =
    let c = closes_at s past call reply (λ x y. reason s past run.0 x y) k run.1 in
    subst (StepsOf s (Called call reply ∷ past)) (sym (still_closes s past call reply k ∙ c.1)) tt

pub move_steps : (s : Setting) (past : List Event) → IsPast s past → StepsOf s past (move s past)
move_steps s [] run = tt
move_steps s (Called Begin reply ∷ past) run = tt
move_steps s (Called (Preempt Proxy) reply ∷ past) run = tt
move_steps s (Called (Preempt Server) reply ∷ past) run = go_steps s (Called (Preempt Server) reply ∷ past)
move_steps s (Called (Preempt Socks) reply ∷ past) run = go_steps s (Called (Preempt Socks) reply ∷ past)
move_steps s (Called (Select space terms) reply ∷ past) run = told_steps s (Called (Select space terms) reply ∷ past) 0 reply
move_steps s (Called (Reject space ordinal) reply ∷ past) run = select_steps s (Called (Reject space ordinal) reply ∷ past)
move_steps s (Called (Renew gift terms) reply ∷ past) run = at (is_answered s past) refl
  where
    at : (b : Bool) → is_answered s past ≡ b → StepsOf s (Called (Renew gift terms) reply ∷ past) (move s (Called (Renew gift terms) reply ∷ past))
    at true k = by_end s (Renew gift terms) reply past run k
    at false k = subst (λ b. StepsOf s (Called (Renew gift terms) reply ∷ past) (if b then move s past else Goes (go s (Called (Renew gift terms) reply ∷ past)))) (sym k) (go_steps s (Called (Renew gift terms) reply ∷ past))
move_steps s (Called (Answer prompt text terms) reply ∷ past) run = told_steps s (Called (Answer prompt text terms) reply ∷ past) prompt reply
move_steps s (Called (Lose prompt loss) reply ∷ past) run = told_steps s (Called (Lose prompt loss) reply ∷ past) prompt reply
move_steps s (Called (Take prompt) reply ∷ past) run = told_steps s (Called (Take prompt) reply ∷ past) prompt reply
move_steps s (Called (Note gift) reply ∷ past) run = by_end s (Note gift) reply past run refl
move_steps s (Called End reply ∷ past) run = by_end s End reply past run refl
move_steps s (Called (Draw nonce) reply ∷ past) run = tt
move_steps s (AskedFor prompt seen ∷ past) run = asked_steps s (AskedFor prompt seen ∷ past) past prompt seen
move_steps s (Stepped target step ∷ past) run = stepped_steps s (Stepped target step ∷ past) step (held s past target)
move_steps s (Dialed link ∷ past) run = go_steps s (Dialed link ∷ past)
move_steps s (DialFailed link count ∷ past) run = tt
move_steps s (Drew target nonce count epoch ∷ past) run = go_steps s (Drew target nonce count epoch ∷ past)
move_steps s (Headed link bytes ∷ past) run = tt
move_steps s (WriteFailed link count ∷ past) run = tt
move_steps s (ReadFailed link count ∷ past) run = tt
move_steps s (Replied link reply ∷ past) run = replied_steps s link reply past (challenged s reply) refl
move_steps s (Broken link fault ∷ past) run = tt
move_steps s (LinkLost link ∷ past) run = either_steps s (LinkLost link ∷ past) (list_any is_lost past) _ (Goes (go s (LinkLost link ∷ past))) tt (go_steps s (LinkLost link ∷ past))
move_steps s (Ended outcome ∷ past) run = tt

-- a step that follows was wanted
pub step_for : (s : Setting) (past : List Event) (t : Target) (step : StepSeen) → IsPast s (Stepped t step ∷ past) → (asking : Asking) × (want s past ≡ Steps t asking) × IsStepFor s past t asking × ((t ≡ Proxy) ⊎ (t ≡ Server))
step_for s past t step run = at (move s past) refl (move_steps s past run.0) run.1
  where
    open_want : (w : Want) → move s past ≡ Goes w → StepsOf s past (Goes w) → Follows s past w (Stepped t step) → (asking : Asking) × (want s past ≡ Steps t asking) × IsStepFor s past t asking × ((t ≡ Proxy) ⊎ (t ≡ Server))
    open_want (Steps u asking) e o f =
        (asking, ap (carried_out s past) e ∙ ap (λ x. Steps x asking) (sym f), subst (λ x. IsStepFor s past x asking) (sym f) o.0, subst (λ x. (x ≡ Proxy) ⊎ (x ≡ Server)) (sym f) o.1)
    open_want (Writes link bytes) e o f = let clash : Stepped t step ≡ Headed link bytes = f in cc
    open_want (Loses link) e o f = let clash : Stepped t step ≡ LinkLost link = f in cc
    open_want (Ends out) e o f = let clash : Stepped t step ≡ Ended out = f in cc
    open_want _ e o f = absurd f

    at : (m : Move) → move s past ≡ m → StepsOf s past m → Follows s past (carried_out s past m) (Stepped t step) → (asking : Asking) × (want s past ≡ Steps t asking) × IsStepFor s past t asking × ((t ≡ Proxy) ⊎ (t ≡ Server))
    at (Goes w) e o f = open_want w e o f
    at (Closes out) e o f = absurd (by (closing_step s past out (Stepped t step) e (subst (λ m. Follows s past (carried_out s past m) (Stepped t step)) (sym e) f)))
      where
        by : IsClosingStep s past out (Stepped t step) → ⊥
        by (by_call call reply p k) = let clash : Stepped t step ≡ Called call reply = p in cc
        by (by_outcome p) = let clash : Stepped t step ≡ Ended out = p in cc
