-- Why a call is wanted: what each call of the book rests on in the past.
use Rattle.std.proofs.Common.{◌≡◌, ℕ, Bool, true, false, not, ◌&&◌, ◌+◌, suc, zero, IsTrue, drop, unwrap_or, List, [], ◌∷◌, ◌++◌, Option, Some, None, is_some, is_none, option_and_then, option_map, refl, sym, ap, ◌∙◌, subst, if◌then◌else◌}
use Rattle.std.specs.List.{list_any}
use Rattle.std.proofs.lemmas.Bool.{false≢true}
use Rattle.spaces.specs.declared.site.Target.{Target}
use Rattle.spaces.specs.declared.site.Target.TheVariants.{Server, Proxy, Socks}
use Rattle.spaces.specs.declared.terms.Terms.{Terms}
use Rattle.auth_events.specs.declared.journal.Loss.{Loss}
use Rattle.auth_events.specs.declared.journal.Loss.TheVariants.{Fault, Memory}
use Rattle.auth_events.specs.declared.journal.Call.{Call}
use Rattle.auth_events.specs.declared.journal.Call.TheVariants.{Begin, Preempt, Select, Reject, Renew, Answer, Lose, Take, Note, End, Draw}
use Rattle.auth_events.specs.declared.journal.BookReply.{BookReply}
use Rattle.auth_events.specs.declared.journal.BookReply.TheVariants.{Cancelled, Lost, Lead, Follow}
use Rattle.wire_head.specs.declared.reply.Reply.{Reply}
use Rattle.link_trait.specs.declared.prompts.AskSeen.{AskSeen}
use Rattle.link_trait.specs.declared.prompts.AskSeen.TheVariants.{Given as AskGiven, Cancel, Failed as AskFailed, NoMemory as AskNoMemory}
use Rattle.link_trait.specs.declared.steps.StepSeen.{StepSeen}
use Rattle.link_trait.specs.declared.steps.StepSeen.TheVariants.{Token, Done, Refused as StepRefused, NoMechanism, Failed as StepFailed, NoMemory as StepNoMemory}
use Rattle.auth_runs.specs.declared.event.Outcome.{Outcome}
use Rattle.auth_runs.specs.declared.event.Outcome.TheVariants.{Answered, Refused}
use Rattle.auth_runs.specs.declared.event.Why.TheVariants.{Rounds, BoundLost}
use Rattle.auth_runs.specs.declared.event.Event.{Event}
use Rattle.auth_runs.specs.declared.event.Event.TheVariants.{Called, Dialed, DialFailed, Drew, Headed, WriteFailed, ReadFailed, Replied, Broken, LinkLost, AskedFor, Stepped, Ended}
use Rattle.trace_rule.specs.Settings.{Setting, first_target, for_route, or_else, is_by_path}
use Rattle.trace_rule.specs.Challenges.{Offer, challenged, supported, best}
use Rattle.trace_rule.specs.Holding.{Held, Decision, held, carried, bound, stays, links, has_link, deciding, negotiates, last_reply, code, is_lost}
use Rattle.trace_rule.specs.Holding.Decision.{Negotiating, Offering}
use Rattle.trace_rule.specs.Heads.{head_text}
use Rattle.trace_rule.specs.Moves.{Want, Move, move, go, known, first_want, start_for, spn, identity_held, loss_for, dial_for, draw_for, has_count, head_link, terms_offered, space_offered, choose, select, is_last_round, rejects, rejected, renewed, decided, weighed, replied, told, terms_led, asked, stepped, link_lost, is_answered}
use Rattle.trace_rule.specs.Closings.{want, with_nonce, renewal, closings, is_closing, closings_made, next_closing, carried_out}
use Rattle.trace_rule.specs.Moves.Want.{Calls, Answers, Asks, Steps, Dials, Draws, Writes, Loses, Ends, Rests}
use Rattle.trace_rule.specs.Moves.Move.{Goes, Closes}
use Rattle.trace_rule.specs.Moves.Asking.{Start, GoOn}
use Rattle.auth_events.specs.declared.journal.Gift.{Gift}
use Rattle.auth_events.specs.declared.names.TermsName.{TermsName}
use Rattle.auth_runs.specs.Runs.{Each}
use Rattle.trace_rule.specs.Traces.{IsPast, Follows}
use Rattle.trace_rule.proofs.AtEnd.{each_drop, closings_each}

-- GOING ON IS NO CALL

abbrev pub IsGoing : Want → Type 0
IsGoing (Steps t asking) = Unit {0}
IsGoing (Loses link) = Unit {0}
IsGoing (Dials link) = Unit {0}
IsGoing (Draws t nonce) = Unit {0}
IsGoing (Writes link bytes) = Unit {0}
IsGoing _ = ⊥

abbrev pub AreGoing : Option Want → Type 0
AreGoing None = Unit {0}
AreGoing (Some w) = IsGoing w

going_if : (b : Bool) (o : Option Want) → AreGoing o → AreGoing (if b then o else None)
going_if true o h = h
going_if false o h = tt

going_unless : (b : Bool) (o : Option Want) → AreGoing o → AreGoing (if b then None else o)
going_unless true o h = tt
going_unless false o h = h

going_then : {A : Type 0} (f : A → Option Want) → ((a : A) → AreGoing (f a)) → (o : Option A) → AreGoing (option_and_then f o)
going_then f h None = tt
going_then f h (Some a) = h a

going_or : (a b : Option Want) → AreGoing a → AreGoing b → AreGoing (or_else a b)
going_or None b p q = q
going_or (Some w) b p q = p

first_going : (o : Option Want) (w : Want) → AreGoing o → IsGoing w → IsGoing (first_want o w)
first_going None w p q = q
first_going (Some v) w p q = p

pub go_going : (s : Setting) (past : List Event) → IsGoing (go s past)
go_going s past =
    first_going (for_route (λ t. option_and_then (start_for s t) (held s past t))) _
    (going_or (option_and_then (start_for s Proxy) (held s past Proxy)) (option_and_then (start_for s Server) (held s past Server)) (starting Proxy) (starting Server))
    (first_going (option_and_then (loss_for past) (bound s past)) _
    (going_then (loss_for past) (λ link. going_unless (stays past link) (Some (Loses link)) tt) (bound s past))
    (first_going (dial_for s past) _ (going_if (is_none (bound s past) && not (has_link past)) (Some (Dials (links past + 1))) tt)
    (first_going (for_route (λ t. option_and_then (draw_for s past t) (held s past t))) (Writes (head_link s past) (head_text s past))
    (going_or (option_and_then (draw_for s past Proxy) (held s past Proxy)) (option_and_then (draw_for s past Server) (held s past Server)) (drawing Proxy) (drawing Server)) tt)))
  where
    starting : (t : Target) → AreGoing (option_and_then (start_for s t) (held s past t))
    starting t = going_then (start_for s t) (λ h. going_if _ (Some (Steps t (Start (spn s t) (identity_held s h)))) tt) (held s past t)

    drawing : (t : Target) → AreGoing (option_and_then (draw_for s past t) (held s past t))
    drawing t = going_then (draw_for s past t) (λ h. going_if _ (option_and_then (λ name. if has_count name.terms.qop then Some (Draws t name.nonce) else None) (s.terms_of h.terms)) (going_then (λ name. if has_count name.terms.qop then Some (Draws t name.nonce) else None) (λ name. going_if (has_count name.terms.qop) (Some (Draws t name.nonce)) tt) (s.terms_of h.terms))) (held s past t)

abbrev want_of : Move → Want
want_of (Goes w) = w
want_of (Closes o) = Rests

abbrev call_of : Want → Call
call_of (Calls call) = call
call_of _ = End

abbrev is_calls : Want → Bool
is_calls (Calls call) = true
is_calls _ = false

goes : (w : Want) (call : Call) → Goes w ≡ Goes (Calls call) → w ≡ Calls call
goes w call e = ap want_of e

no_go : {P : Type 0} (s : Setting) (past : List Event) (call : Call) → Goes (go s past) ≡ Goes (Calls call) → P
no_go s past call e = absurd (subst IsGoing (goes (go s past) call e) (go_going s past))

other_call : {P : Type 0} (w : Want) (call : Call) → is_calls w ≡ false → Goes w ≡ Goes (Calls call) → P
other_call w call no_call e = absurd (false≢true (sym no_call ∙ ap is_calls (goes w call e)))

no_close : {P : Type 0} (o : Outcome) (call : Call) → Closes o ≡ Goes (Calls call) → P
no_close o call e = absurd (false≢true (ap (λ m. is_calls (want_of m)) e))

same_call : (a call : Call) → Goes (Calls a) ≡ Goes (Calls call) → call ≡ a
same_call a call e = sym (ap call_of (goes (Calls a) call e))

-- WHY A CALL IS WANTED

-- the number of an offer's space at a target, and of its terms
pub record IsChoice (s : Setting) (past : List Event) (space terms : ℕ) : Type 0 where
  pub reply : Reply
  pub target : Target
  pub offered : Offer
  pub last : last_reply past ≡ Some reply
  pub of_target : challenged s reply ≡ Some target
  pub is_best : best (supported (negotiates s past target) reply) ≡ Some offered
  pub is_space : space_offered s target offered ≡ Some space
  pub is_terms : terms_offered s space offered.terms ≡ Some terms

-- a choice is made behind a reply, a rejection, or a provider without a mechanism
abbrev pub chooses_behind : List Event → Bool
chooses_behind (Called (Reject space ordinal) reply ∷ past) = true
chooses_behind (Stepped t NoMechanism ∷ past) = true
chooses_behind (Replied link reply ∷ past) = true
chooses_behind past = false

-- a rejection comes behind a challenge, or behind a refusal of the provider
abbrev pub is_refused : Setting → List Event → Event → Bool
is_refused s before (Replied link reply) = is_some (challenged s reply)
is_refused s before (Stepped t StepRefused) = true
is_refused s before (Stepped t Done) = true
is_refused s before (Stepped t NoMechanism) = is_some (option_and_then (λ (h : Held). h.context) (held s before t))
is_refused s before event = false

pub data Reason (s : Setting) (past : List Event) (call : Call) : Type 0 where
  begins : past ≡ [] → call ≡ Begin → Reason s past call
  preempts : (reply : BookReply) → (before : List Event) → past ≡ Called Begin reply ∷ before → call ≡ Preempt (first_target s) → Reason s past call
  preempts_server : (reply : BookReply) → (before : List Event) → past ≡ Called (Preempt Proxy) reply ∷ before → call ≡ Preempt Server → Reason s past call
  -- behind a challenge, a rejection, or a provider without a mechanism
  selects : (space terms : ℕ) → call ≡ Select space terms → IsChoice s past space terms → IsTrue (chooses_behind past) → Reason s past call
  -- what was held before the last event
  is_rejected : (event : Event) → (before : List Event) → (t : Target) → (h : Held) → past ≡ event ∷ before → held s before t ≡ Some h → call ≡ Reject h.gift.space h.gift.ordinal → IsTrue (is_refused s before event) → Reason s past call
  is_renewed : (link : ℕ) → (reply : Reply) → (before : List Event) → (t : Target) → (h : Held) → (offered : Offer) → (terms : Terms) → (number : ℕ)
      → past ≡ Replied link reply ∷ before → held s before t ≡ Some h → deciding s reply t h ≡ Some (Offering offered) → offered.terms ≡ Some terms
      → s.terms_no h.gift.space terms ≡ Some number → call ≡ Renew h.gift number → IsTrue (is_some (challenged s reply)) → Reason s past call
  cancels : (p : ℕ) → (before : List Event) → past ≡ AskedFor p Cancel ∷ before → call ≡ Answer p 0 (terms_led before p) → Reason s past call
  loses : (p : ℕ) → (seen : AskSeen) → (loss : Loss) → (before : List Event) → past ≡ AskedFor p seen ∷ before → call ≡ Lose p loss → Reason s past call
  takes : (made : Call) → (p : ℕ) → (before : List Event) → past ≡ Called made (Follow p) ∷ before → call ≡ Take p → Reason s past call

-- a call at the end has no such reason

abbrev pub is_answer : Call → Bool
is_answer (Answer prompt text terms) = true
is_answer _ = false

none_there : {A : Type 0} (o : Option A) → IsTrue (is_some o) → is_none o ≡ false
none_there None some = absurd (false≢true some)
none_there (Some a) some = refl

pub not_closing : (s : Setting) (past : List Event) (call : Call) → Reason s past call → is_closing s past call ≡ false
not_closing s past call (begins p e) = ap (is_closing s past) e
not_closing s past call (preempts reply before p e) = ap (is_closing s past) e
not_closing s past call (preempts_server reply before p e) = ap (is_closing s past) e
not_closing s past call (selects space terms e c k) = ap (is_closing s past) e
not_closing s past call (is_rejected event before t h p q e behind) = ap (is_closing s past) e
not_closing s past call (is_renewed link reply before t h offered terms number p q d o n e behind) =
    ap (is_closing s past) e ∙ (ap (is_answered s) p ∙ none_there (challenged s reply) behind)
not_closing s past call (cancels p before q e) = ap (is_closing s past) e
not_closing s past call (loses p seen loss before q e) = ap (is_closing s past) e
not_closing s past call (takes made p before q e) = ap (is_closing s past) e

-- by the rows

by_told : (s : Setting) (made : Call) (reply : BookReply) (before : List Event) (prompt : ℕ) (call : Call)
    → told s (Called made reply ∷ before) prompt reply ≡ Goes (Calls call) → Reason s (Called made reply ∷ before) call
by_told s made (Lead led ordinal) before prompt call e = other_call (Asks led) call refl e
by_told s made (Follow p) before prompt call e = takes made p before refl (same_call (Take p) call e)
by_told s made Cancelled before prompt call e = no_close _ call e
by_told s made (Lost (Fault count)) before prompt call e = no_close _ call e
by_told s made (Lost Memory) before prompt call e = no_close _ call e
by_told s made reply before prompt call e = no_go s (Called made reply ∷ before) call e

by_select : (s : Setting) (past : List Event) (call : Call) → IsTrue (chooses_behind past) → select s past ≡ Goes (Calls call) → Reason s past call
by_select s past call behind e = at (last_reply past) refl e
  where
    at_terms : (reply : Reply) (t : Target) (offered : Offer) (space : ℕ) → last_reply past ≡ Some reply → challenged s reply ≡ Some t → best (supported (negotiates s past t) reply) ≡ Some offered → space_offered s t offered ≡ Some space
        → (o : Option ℕ) → terms_offered s space offered.terms ≡ o → known o (λ terms. Goes (Calls (Select space terms))) ≡ Goes (Calls call) → Reason s past call
    at_terms reply t offered space l c b n None q e = other_call Rests call refl e
    at_terms reply t offered space l c b n (Some terms) q e =
        selects space terms (same_call (Select space terms) call e) (record { reply = reply; target = t; offered = offered; last = l; of_target = c; is_best = b; is_space = n; is_terms = q }) behind

    at_space : (reply : Reply) (t : Target) (offered : Offer) → last_reply past ≡ Some reply → challenged s reply ≡ Some t → best (supported (negotiates s past t) reply) ≡ Some offered
        → (o : Option ℕ) → space_offered s t offered ≡ o → known o (λ space. known (terms_offered s space offered.terms) (λ terms. Goes (Calls (Select space terms)))) ≡ Goes (Calls call) → Reason s past call
    at_space reply t offered l c b None q e = other_call Rests call refl e
    at_space reply t offered l c b (Some space) q e = at_terms reply t offered space l c b q (terms_offered s space offered.terms) refl e

    at_best : (reply : Reply) (t : Target) → last_reply past ≡ Some reply → challenged s reply ≡ Some t → (o : Option Offer) → best (supported (negotiates s past t) reply) ≡ o → choose s reply.code t o ≡ Goes (Calls call) → Reason s past call
    at_best reply t l c None q e = no_close _ call e
    at_best reply t l c (Some offered) q e = at_space reply t offered l c q (space_offered s t offered) refl e

    at_target : (reply : Reply) → last_reply past ≡ Some reply → (o : Option Target) → challenged s reply ≡ o → known o (λ t. choose s reply.code t (best (supported (negotiates s past t) reply))) ≡ Goes (Calls call) → Reason s past call
    at_target reply l None q e = other_call Rests call refl e
    at_target reply l (Some t) q e = at_best reply t l q (best (supported (negotiates s past t) reply)) refl e

    at : (o : Option Reply) → last_reply past ≡ o → known o (λ reply. known (challenged s reply) (λ t. choose s reply.code t (best (supported (negotiates s past t) reply)))) ≡ Goes (Calls call) → Reason s past call
    at None q e = other_call Rests call refl e
    at (Some reply) q e = at_target reply q (challenged s reply) refl e

by_asked : (s : Setting) (before : List Event) (p : ℕ) (seen : AskSeen) (call : Call) → asked before p seen ≡ Goes (Calls call) → Reason s (AskedFor p seen ∷ before) call
by_asked s before p AskGiven call e = other_call _ call refl e
by_asked s before p Cancel call e = cancels p before refl (same_call _ call e)
by_asked s before p (AskFailed count) call e = loses p (AskFailed count) (Fault count) before refl (same_call _ call e)
by_asked s before p AskNoMemory call e = loses p AskNoMemory Memory before refl (same_call _ call e)

by_rejects : (s : Setting) (event : Event) (before : List Event) (t : Target) (h : Held) (call : Call) → IsTrue (is_refused s before event) → held s before t ≡ Some h → rejects h ≡ Goes (Calls call) → Reason s (event ∷ before) call
by_rejects s event before t h call behind q e = is_rejected event before t h refl q (same_call _ call e) behind

by_rejected : (s : Setting) (event : Event) (before : List Event) (t : Target) (call : Call) → IsTrue (is_refused s before event) → rejected s (event ∷ before) (held s before t) ≡ Goes (Calls call) → Reason s (event ∷ before) call
by_rejected s event before t call behind e = at (is_last_round s (event ∷ before)) (held s before t) refl e
  where
    at : (b : Bool) (o : Option Held) → held s before t ≡ o → (if b then Closes (Refused (code (event ∷ before)) Rounds) else known o rejects) ≡ Goes (Calls call) → Reason s (event ∷ before) call
    at true o q e = no_close _ call e
    at false None q e = other_call Rests call refl e
    at false (Some h) q e = by_rejects s event before t h call behind q e

by_stepped : (s : Setting) (t : Target) (step : StepSeen) (before : List Event) (call : Call) → stepped s (Stepped t step ∷ before) step (held s before t) ≡ Goes (Calls call) → Reason s (Stepped t step ∷ before) call
by_stepped s t (Token token) before call e = no_go s (Stepped t (Token token) ∷ before) call e
by_stepped s t (StepFailed count) before call e = no_close _ call e
by_stepped s t StepNoMemory before call e = no_close _ call e
by_stepped s t NoMechanism before call e = at (is_some (option_and_then (λ (h : Held). h.context) (held s before t))) refl e
  where
    at : (b : Bool) → is_some (option_and_then (λ (h : Held). h.context) (held s before t)) ≡ b → (if b then rejected s (Stepped t NoMechanism ∷ before) (held s before t) else select s (Stepped t NoMechanism ∷ before)) ≡ Goes (Calls call) → Reason s (Stepped t NoMechanism ∷ before) call
    at true k e = by_rejected s (Stepped t NoMechanism) before t call k e
    at false k e = by_select s (Stepped t NoMechanism ∷ before) call refl e
by_stepped s t StepRefused before call e = by_rejected s (Stepped t StepRefused) before t call refl e
by_stepped s t Done before call e = by_rejected s (Stepped t Done) before t call refl e

by_decided : (s : Setting) (link : ℕ) (reply : Reply) (before : List Event) (t : Target) (h : Held) (call : Call) → IsTrue (is_some (challenged s reply)) → held s before t ≡ Some h
    → (d : Option Decision) → deciding s reply t h ≡ d → decided s (Replied link reply ∷ before) link reply.stays t h d ≡ Goes (Calls call) → Reason s (Replied link reply ∷ before) call
by_decided s link reply before t h call behind q None r e = by_select s (Replied link reply ∷ before) call refl e
by_decided s link reply before t h call behind q (Some (Negotiating None)) r e = by_rejects s (Replied link reply) before t h call behind q e
by_decided s link reply before t h call behind q (Some (Negotiating (Some peer))) r e = at reply.stays e
  where
    at : (b : Bool) → (if b then Goes (Steps t (GoOn peer)) else Goes (Loses link)) ≡ Goes (Calls call) → Reason s (Replied link reply ∷ before) call
    at true e = other_call _ call refl e
    at false e = other_call _ call refl e
by_decided s link reply before t h call behind q (Some (Offering offered)) r e = at offered.stale offered.terms refl e
  where
    at_number : (terms : Terms) → offered.terms ≡ Some terms → (o : Option ℕ) → s.terms_no h.gift.space terms ≡ o → known o (λ number. Goes (Calls (Renew h.gift number))) ≡ Goes (Calls call) → Reason s (Replied link reply ∷ before) call
    at_number terms a None n e = other_call Rests call refl e
    at_number terms a (Some number) n e = is_renewed link reply before t h offered terms number refl q r a n (same_call _ call e) behind

    at : (b : Bool) (o : Option Terms) → offered.terms ≡ o → renewed s h b o ≡ Goes (Calls call) → Reason s (Replied link reply ∷ before) call
    at true (Some terms) a e = at_number terms a (s.terms_no h.gift.space terms) refl e
    at true None a e = by_rejects s (Replied link reply) before t h call behind q e
    at false o a e = by_rejects s (Replied link reply) before t h call behind q e

by_replied : (s : Setting) (link : ℕ) (reply : Reply) (before : List Event) (call : Call) (o : Option Target) → challenged s reply ≡ o → replied s (Replied link reply ∷ before) link reply o before ≡ Goes (Calls call) → Reason s (Replied link reply ∷ before) call
by_replied s link reply before call None c e = no_close _ call e
by_replied s link reply before call (Some t) c e = at (is_last_round s (Replied link reply ∷ before)) (held s before t) refl e
  where
    at : (b : Bool) (o : Option Held) → held s before t ≡ o → (if b then Closes (Refused reply.code Rounds) else weighed s (Replied link reply ∷ before) link reply t o) ≡ Goes (Calls call) → Reason s (Replied link reply ∷ before) call
    at true o q e = no_close _ call e
    at false None q e = by_select s (Replied link reply ∷ before) call refl e
    at false (Some h) q e = by_decided s link reply before t h call (ap is_some c) q (deciding s reply t h) refl e

by_lost : (s : Setting) (link : ℕ) (before : List Event) (call : Call) → link_lost s (LinkLost link ∷ before) before ≡ Goes (Calls call) → Reason s (LinkLost link ∷ before) call
by_lost s link before call e = at (list_any is_lost before) e
  where
    at : (b : Bool) → (if b then Closes (Refused (code (LinkLost link ∷ before)) BoundLost) else Goes (go s (LinkLost link ∷ before))) ≡ Goes (Calls call) → Reason s (LinkLost link ∷ before) call
    at true e = no_close _ call e
    at false e = no_go s (LinkLost link ∷ before) call e

-- a call at the end is made only where the request closes
pub closes_at : (s : Setting) (past : List Event) (call : Call) (reply : BookReply) → ((call : Call) → move s past ≡ Goes (Calls call) → Reason s past call)
    → is_closing s past call ≡ true → Follows s past (want s past) (Called call reply) → (o : Outcome) × (move s past ≡ Closes o)
closes_at s past call reply reasons closing next = at (move s past) refl next
  where
    at_want : (w : Want) → move s past ≡ Goes w → Follows s past w (Called call reply) → (o : Outcome) × (move s past ≡ Closes o)
    at_want (Calls wanted) e f = absurd (false≢true (sym (ap (is_closing s past) f.0 ∙ not_closing s past wanted (reasons wanted e)) ∙ closing))
    at_want (Answers p t) e f = at_answer call closing f
      where
        at_answer : (c : Call) → is_closing s past c ≡ true → Follows s past (Answers p t) (Called c reply) → (o : Outcome) × (move s past ≡ Closes o)
        at_answer (Answer prompt text terms) k f = absurd (false≢true k)
        at_answer _ k f = absurd f
    at_want (Writes link bytes) e f = let clash : Called call reply ≡ Headed link bytes = f in cc
    at_want (Loses link) e f = let clash : Called call reply ≡ LinkLost link = f in cc
    at_want (Ends o) e f = let clash : Called call reply ≡ Ended o = f in cc
    at_want _ e f = absurd f

    at : (m : Move) → move s past ≡ m → Follows s past (carried_out s past m) (Called call reply) → (o : Outcome) × (move s past ≡ Closes o)
    at (Goes w) e f = at_want w e f
    at (Closes o) e f = (o, e)

by_renewal : (s : Setting) (gift : Gift) (terms : ℕ) (reply : BookReply) (past : List Event) → ((call : Call) → move s past ≡ Goes (Calls call) → Reason s past call)
    → Follows s past (want s past) (Called (Renew gift terms) reply) → (call : Call) → move s (Called (Renew gift terms) reply ∷ past) ≡ Goes (Calls call) → Reason s (Called (Renew gift terms) reply ∷ past) call
by_renewal s gift terms reply past reasons next call e = at (is_answered s past) refl e
  where
    at : (b : Bool) → is_answered s past ≡ b → (if b then move s past else Goes (go s (Called (Renew gift terms) reply ∷ past))) ≡ Goes (Calls call) → Reason s (Called (Renew gift terms) reply ∷ past) call
    at true k f = let closes = closes_at s past (Renew gift terms) reply reasons k next in no_close closes.0 call (sym closes.1 ∙ f)
    at false k f = no_go s (Called (Renew gift terms) reply ∷ past) call f

pub reason : (s : Setting) (past : List Event) → IsPast s past → (call : Call) → move s past ≡ Goes (Calls call) → Reason s past call
reason s [] run call e = begins refl (same_call Begin call e)
reason s (Called Begin reply ∷ past) run call e = preempts reply past refl (same_call _ call e)
reason s (Called (Preempt Proxy) reply ∷ past) run call e = preempts_server reply past refl (same_call _ call e)
reason s (Called (Preempt Server) reply ∷ past) run call e = no_go s (Called (Preempt Server) reply ∷ past) call e
reason s (Called (Preempt Socks) reply ∷ past) run call e = no_go s (Called (Preempt Socks) reply ∷ past) call e
reason s (Called (Select space terms) reply ∷ past) run call e = by_told s (Select space terms) reply past 0 call e
reason s (Called (Reject space ordinal) reply ∷ past) run call e = by_select s (Called (Reject space ordinal) reply ∷ past) call refl e
reason s (Called (Renew gift terms) reply ∷ past) run call e = by_renewal s gift terms reply past (λ c q. reason s past run.0 c q) run.1 call e
reason s (Called (Answer prompt text terms) reply ∷ past) run call e = by_told s (Answer prompt text terms) reply past prompt call e
reason s (Called (Lose prompt loss) reply ∷ past) run call e = by_told s (Lose prompt loss) reply past prompt call e
reason s (Called (Take prompt) reply ∷ past) run call e = by_told s (Take prompt) reply past prompt call e
reason s (Called (Note gift) reply ∷ past) run call e =
    let closes = closes_at s past (Note gift) reply (λ c q. reason s past run.0 c q) refl run.1 in no_close closes.0 call (sym closes.1 ∙ e)
reason s (Called End reply ∷ past) run call e =
    let closes = closes_at s past End reply (λ c q. reason s past run.0 c q) refl run.1 in no_close closes.0 call (sym closes.1 ∙ e)
reason s (Called (Draw nonce) reply ∷ past) run call e = other_call Rests call refl e
reason s (AskedFor prompt seen ∷ past) run call e = by_asked s past prompt seen call e
reason s (Stepped target step ∷ past) run call e = by_stepped s target step past call e
reason s (Dialed link ∷ past) run call e = no_go s (Dialed link ∷ past) call e
reason s (DialFailed link count ∷ past) run call e = no_close _ call e
reason s (Drew target nonce count epoch ∷ past) run call e = no_go s (Drew target nonce count epoch ∷ past) call e
reason s (Headed link bytes ∷ past) run call e = other_call _ call refl e
reason s (WriteFailed link count ∷ past) run call e = no_close _ call e
reason s (ReadFailed link count ∷ past) run call e = no_close _ call e
reason s (Replied link reply ∷ past) run call e = by_replied s link reply past call (challenged s reply) refl e
reason s (Broken link fault ∷ past) run call e = no_close _ call e
reason s (LinkLost link ∷ past) run call e = by_lost s link past call e
reason s (Ended outcome ∷ past) run call e = other_call Rests call refl e

-- WHO MADE A CALL

-- the call, where it is one, is one at the end
abbrev pub IsClosingIf : Setting → List Event → Option Call → Type 0
IsClosingIf s past None = Unit {0}
IsClosingIf s past (Some call) = is_closing s past call ≡ true

renewal_closing : (s : Setting) (past : List Event) → IsTrue (is_answered s past) → (h : Held) (nonce : List ℕ) → IsClosingIf s past (renewal s h nonce)
renewal_closing s past k h nonce = at (s.terms_of h.terms)
  where
    number : (o : Option ℕ) → IsClosingIf s past (option_map (Renew h.gift) o)
    number None = tt
    number (Some n) = k

    at : (o : Option TermsName) → IsClosingIf s past (option_and_then (λ (name : TermsName). option_map (Renew h.gift) (s.terms_no h.gift.space (with_nonce nonce name.terms))) o)
    at None = tt
    at (Some name) = number (s.terms_no h.gift.space (with_nonce nonce name.terms))

pub closings_closing : (s : Setting) (past : List Event) (o : Outcome) → Each (IsClosingIf s past) (closings s past o)
closings_closing s past o = closings_each s past o (IsClosingIf s past) (λ k t h nonce e d n. renewal_closing s past k h nonce) (λ t h e p. refl) refl

-- a call is wanted, is the answer to a prompt, or is one at the end
pub data MadeBy (s : Setting) (past : List Event) (call : Call) : Type 0 where
  wanted : move s past ≡ Goes (Calls call) → MadeBy s past call
  answers : (p text terms : ℕ) → call ≡ Answer p text terms → move s past ≡ Goes (Answers p terms) → MadeBy s past call
  at_end : (o : Outcome) → move s past ≡ Closes o → is_closing s past call ≡ true → MadeBy s past call

pub made_by : (s : Setting) (past : List Event) (call : Call) (reply : BookReply) → Follows s past (want s past) (Called call reply) → MadeBy s past call
made_by s past call reply next = at (move s past) refl next
  where
    at_answer : (p t : ℕ) → move s past ≡ Goes (Answers p t) → (c : Call) → call ≡ c → Follows s past (Answers p t) (Called c reply) → MadeBy s past call
    at_answer p t e (Answer prompt text terms) k f =
        answers p text t (k ∙ ap (λ x. Answer x text terms) f.0 ∙ ap (λ x. Answer p text x) f.1) e
    at_answer p t e _ k f = absurd f

    at_want : (w : Want) → move s past ≡ Goes w → Follows s past w (Called call reply) → MadeBy s past call
    at_want (Calls asked_for) e f = wanted (e ∙ ap (λ c. Goes (Calls c)) (sym f.0))
    at_want (Answers p t) e f = at_answer p t e call refl f
    at_want (Writes link bytes) e f = let clash : Called call reply ≡ Headed link bytes = f in cc
    at_want (Loses link) e f = let clash : Called call reply ≡ LinkLost link = f in cc
    at_want (Ends o) e f = let clash : Called call reply ≡ Ended o = f in cc
    at_want _ e f = absurd f

    at_list : (o : Outcome) → move s past ≡ Closes o → (cs : List (Option Call)) → Each (IsClosingIf s past) cs → Follows s past (next_closing o cs) (Called call reply) → MadeBy s past call
    at_list o e [] a f = let clash : Called call reply ≡ Ended o = f in cc
    at_list o e (None ∷ cs) a f = absurd f
    at_list o e (Some c ∷ cs) a f = at_end o e (ap (is_closing s past) f.0 ∙ a.0)

    at : (m : Move) → move s past ≡ m → Follows s past (carried_out s past m) (Called call reply) → MadeBy s past call
    at (Goes w) e f = at_want w e f
    at (Closes o) e f = at_list o e (drop (closings_made s past) (closings s past o)) (each_drop (IsClosingIf s past) (closings_made s past) (closings s past o) (closings_closing s past o)) f

-- a call that isn't the answer to a prompt or one at the end has a reason
pub made_for : (s : Setting) (past : List Event) (call : Call) (reply : BookReply) → IsPast s past → is_closing s past call ≡ false → is_answer call ≡ false → Follows s past (want s past) (Called call reply) → Reason s past call
made_for s past call reply run going other next = at (made_by s past call reply next)
  where
    at : MadeBy s past call → Reason s past call
    at (wanted e) = reason s past run call e
    at (answers p text terms e m) = absurd (false≢true (sym other ∙ ap is_answer e))
    at (at_end o m c) = absurd (false≢true (sym going ∙ c))

-- WHERE A REQUEST CLOSES

-- behind what closes comes a call at the end, or the outcome
pub data IsClosingStep (s : Setting) (past : List Event) (o : Outcome) (event : Event) : Type 0 where
  by_call : (call : Call) → (reply : BookReply) → event ≡ Called call reply → is_closing s past call ≡ true → IsClosingStep s past o event
  by_outcome : event ≡ Ended o → IsClosingStep s past o event

pub closing_step : (s : Setting) (past : List Event) (o : Outcome) (event : Event) → move s past ≡ Closes o → Follows s past (want s past) event → IsClosingStep s past o event
closing_step s past o event closes next =
    at (drop (closings_made s past) (closings s past o)) (each_drop (IsClosingIf s past) (closings_made s past) (closings s past o) (closings_closing s past o)) event (subst (λ m. Follows s past (carried_out s past m) event) closes next)
  where
    made : (c : Call) → is_closing s past c ≡ true → (x : Event) → Follows s past (Calls c) x → IsClosingStep s past o x
    made c k (Called d reply) f = by_call d reply refl (ap (is_closing s past) f.0 ∙ k)
    made c k _ f = absurd f

    at : (cs : List (Option Call)) → Each (IsClosingIf s past) cs → (x : Event) → Follows s past (next_closing o cs) x → IsClosingStep s past o x
    at [] a x f = by_outcome f
    at (None ∷ cs) a x f = absurd f
    at (Some c ∷ cs) a x f = made c a.0 x f

-- a call at the end changes nothing of that
pub still_closes : (s : Setting) (past : List Event) (call : Call) (reply : BookReply) → is_closing s past call ≡ true → move s (Called call reply ∷ past) ≡ move s past
still_closes s past (Renew gift terms) reply k = ap (λ b. if b then move s past else Goes (go s (Called (Renew gift terms) reply ∷ past))) k
still_closes s past (Note gift) reply k = refl
still_closes s past End reply k = refl
still_closes s past _ reply k = absurd (false≢true k)

-- an event is a call at the end
abbrev pub is_at_end : Setting → List Event → Event → Bool
is_at_end s past (Called call reply) = is_closing s past call
is_at_end s past _ = false

pub at_end_closes : (s : Setting) (past : List Event) (event : Event) → IsPast s past → is_at_end s past event ≡ true → Follows s past (want s past) event → (o : Outcome) × (move s (event ∷ past) ≡ Closes o)
at_end_closes s past (Called call reply) run k next =
    let c = closes_at s past call reply (λ x y. reason s past run x y) k next in (c.0, still_closes s past call reply k ∙ c.1)
at_end_closes s past _ run k next = absurd (false≢true k)

-- no call at the end stands there
abbrev pub GoesOn : Setting → List Event → Type 0
GoesOn s past = (q : List Event) (call : Call) (reply : BookReply) → past ≡ Called call reply ∷ q → is_closing s q call ≡ true → ⊥

-- behind a call at the end nothing is wanted but to close
pub closing_never : (s : Setting) (past : List Event) (w : Want) → IsPast s past → move s past ≡ Goes w → GoesOn s past
closing_never s past w run e q call reply same k = at (subst (IsPast s) same run) (ap (move s) (sym same) ∙ e)
  where
    is_close : Move → Bool
    is_close (Closes o) = true
    is_close (Goes v) = false

    at : IsPast s (Called call reply ∷ q) → move s (Called call reply ∷ q) ≡ Goes w → ⊥
    at r f =
        let c = closes_at s q call reply (λ x y. reason s q r.0 x y) k r.1 in
        false≢true (sym (ap is_close f) ∙ ap is_close (still_closes s q call reply k ∙ c.1))
