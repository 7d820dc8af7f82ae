-- Where no dial, write, read or ask fails, nothing else in a request tells of a fault.
use Rattle.std.proofs.Common.{◌≡◌, ℕ, Bool, true, false, ◌||◌, IsTrue, List, [], ◌∷◌, Option, Some, None, refl, sym, ap, ◌∙◌, subst, if◌then◌else◌}
use Rattle.std.specs.List.{list_any}
use Rattle.std.proofs.lemmas.Bool.{false≢true}
use Rattle.spaces.specs.declared.site.Target.{Target}
use Rattle.spaces.specs.declared.terms.Terms.{Terms}
use Rattle.auth_events.specs.declared.journal.BookReply.{BookReply}
use Rattle.auth_events.specs.declared.journal.BookReply.TheVariants.{Cancelled, Follow, Lead, Lost}
use Rattle.auth_events.specs.declared.journal.Call.{Call}
use Rattle.auth_events.specs.declared.journal.Call.TheVariants.{Begin, Preempt, Select, Reject, Renew, Answer, Lose, Take, Note, End, Draw}
use Rattle.auth_events.specs.Pages.{fits}
use Rattle.auth_events.specs.declared.journal.Loss.TheVariants.{Fault, Memory}
use Rattle.spaces.specs.declared.site.Target.TheVariants.{Proxy, Server, Socks}
use Rattle.wire_head.specs.declared.reply.Reply.{Reply}
use Rattle.link_trait.specs.declared.prompts.AskSeen.{AskSeen}
use Rattle.link_trait.specs.declared.prompts.AskSeen.TheVariants.{Given as AskGiven, Cancel, Failed as AskFailed, NoMemory as AskNoMemory}
use Rattle.auth_runs.specs.declared.event.Outcome.{Outcome}
use Rattle.auth_runs.specs.declared.event.Event.{Event}
use Rattle.auth_runs.specs.declared.event.Event.TheVariants.{Called, Dialed, DialFailed, Drew, Headed, WriteFailed, ReadFailed, Replied, Broken, LinkLost, AskedFor, Stepped, Ended}
use Rattle.trace_rule.specs.Challenges.{Offer, best, challenged, supported}
use Rattle.trace_rule.specs.Holding.{Decision, Held, deciding, held, is_lost, last_reply, negotiates}
use Rattle.trace_rule.specs.Holding.Decision.{Negotiating, Offering}
use Rattle.trace_rule.specs.Moves.{Move, Want, asked, choose, decided, go, is_answered, is_last_round, known, link_lost, move, renewed, replied, select, space_offered, terms_led, terms_offered, told, weighed}
use Rattle.trace_rule.specs.Moves.Move.{Goes, Closes}
use Rattle.trace_rule.specs.Moves.Want.{Calls, Ends, Loses, Writes}
use Rattle.trace_rule.specs.Closings.{carried_out, want}
use Rattle.trace_rule.specs.Settings.{Setting, first_target}
use Rattle.trace_rule.specs.Traces.{Follows, IsPast, agrees}
use Rattle.trace_rule.proofs.Knowing.{agrees_of}
use Rattle.trace_rule.proofs.Reasons.{IsClosingStep, IsGoing, Reason, closing_step, go_going, made_for}
use Rattle.trace_rule.proofs.Reasons.IsClosingStep.{by_call, by_outcome}
use Rattle.trace_rule.proofs.Reasons.Reason.{begins, preempts, preempts_server, selects, is_rejected, is_renewed, cancels, loses, takes}
use Rattle.trace_rule.proofs.Stages.{fits_of}
use Rattle.run_rule.specs.Failing.{is_by_fault, is_fault}
use Rattle.run_laws.proofs.Outsides.{or_both}
use Rattle.lone_laws.specs.Failing.{has_failed}

-- MOVES

-- the move closes by a fault, or has the outcome follow at once
abbrev is_bad : Move → Bool
is_bad (Closes outcome) = is_by_fault outcome
is_bad (Goes (Ends outcome)) = true
is_bad (Goes _) = false

good_known : {A : Type 0} (o : Option A) (f : A → Move) → ((a : A) → is_bad (f a) ≡ false) → is_bad (known o f) ≡ false
good_known None f h = refl
good_known (Some a) f h = h a

good_if : (b : Bool) (x y : Move) → is_bad x ≡ false → is_bad y ≡ false → is_bad (if b then x else y) ≡ false
good_if true x y p q = p
good_if false x y p q = q

good_choose : (s : Setting) (status : ℕ) (t : Target) (o : Option Offer) → is_bad (choose s status t o) ≡ false
good_choose s status t None = refl
good_choose s status t (Some offered) =
    good_known (space_offered s t offered) _ (λ space. good_known (terms_offered s space offered.terms) (λ terms. Goes (Calls (Select space terms))) (λ terms. refl))

good_select : (s : Setting) (past : List Event) → is_bad (select s past) ≡ false
good_select s past =
    good_known (last_reply past) _ (λ reply. good_known (challenged s reply) (λ t. choose s reply.code t (best (supported (negotiates s past t) reply))) (λ t. good_choose s reply.code t (best (supported (negotiates s past t) reply))))

good_renewed : (s : Setting) (h : Held) (b : Bool) (o : Option Terms) → is_bad (renewed s h b o) ≡ false
good_renewed s h true (Some terms) = good_known (s.terms_no h.gift.space terms) _ (λ number. refl)
good_renewed s h true None = refl
good_renewed s h false o = refl

good_decided : (s : Setting) (past : List Event) (link : ℕ) (b : Bool) (t : Target) (h : Held) (d : Option Decision) → is_bad (decided s past link b t h d) ≡ false
good_decided s past link b t h None = good_select s past
good_decided s past link b t h (Some (Negotiating None)) = refl
good_decided s past link b t h (Some (Negotiating (Some peer))) = good_if b _ _ refl refl
good_decided s past link b t h (Some (Offering offered)) = good_renewed s h offered.stale offered.terms

good_weighed : (s : Setting) (past : List Event) (link : ℕ) (reply : Reply) (t : Target) (o : Option Held) → is_bad (weighed s past link reply t o) ≡ false
good_weighed s past link reply t None = good_select s past
good_weighed s past link reply t (Some h) = good_decided s past link reply.stays t h (deciding s reply t h)

good_replied : (s : Setting) (past : List Event) (link : ℕ) (reply : Reply) (o : Option Target) (before : List Event) → is_bad (replied s past link reply o before) ≡ false
good_replied s past link reply None before = refl
good_replied s past link reply (Some t) before = good_if (is_last_round s past) _ (weighed s past link reply t (held s before t)) refl (good_weighed s past link reply t (held s before t))

good_asked : (past : List Event) (p : ℕ) (seen : AskSeen) → is_bad (asked past p seen) ≡ false
good_asked past p AskGiven = refl
good_asked past p Cancel = refl
good_asked past p (AskFailed count) = refl
good_asked past p AskNoMemory = refl

good_want : (w : Want) → IsGoing w → is_bad (Goes w) ≡ false
good_want (Ends outcome) g = absurd g
good_want _ g = refl

good_go : (s : Setting) (past : List Event) → is_bad (Goes (go s past)) ≡ false
good_go s past = good_want (go s past) (go_going s past)

good_lost : (s : Setting) (past before : List Event) → is_bad (link_lost s past before) ≡ false
good_lost s past before = good_if (list_any is_lost before) _ (Goes (go s past)) refl (good_go s past)

-- the reply tells of a fault
abbrev is_fault_told : BookReply → Bool
is_fault_told (Lost (Fault count)) = true
is_fault_told _ = false

good_told : (s : Setting) (past : List Event) (prompt : ℕ) (reply : BookReply) → is_fault_told reply ≡ false → is_bad (told s past prompt reply) ≡ false
good_told s past prompt (Lead led ordinal) e = refl
good_told s past prompt (Follow followed) e = refl
good_told s past prompt Cancelled e = refl
good_told s past prompt (Lost (Fault count)) e = absurd (false≢true (sym e))
good_told s past prompt (Lost Memory) e = refl
good_told s past prompt _ e = good_go s past

-- THE TABLE

-- the event takes a prompt's answer, or is a step of the provider
abbrev pub is_apart : Event → Bool
is_apart (Called (Take prompt) reply) = true
is_apart (Stepped target step) = true
is_apart _ = false

-- only a loss may have a reply that tells of a fault
fits_fault : (s : Setting) (past : List Event) (call : Call) (reply : BookReply) → Follows s past (want s past) (Called call reply) → is_apart (Called call reply) ≡ false → is_fault (Called call reply) ≡ false → is_fault_told reply ≡ false
fits_fault s past call (Lost (Fault b)) f apart calm = by call (fits_of s past call (Lost (Fault b)) f) apart calm (agrees_of s past call (Lost (Fault b)) f)
  where
    by : (c : Call) → IsTrue (fits c (Lost (Fault b))) → is_apart (Called c (Lost (Fault b))) ≡ false → is_fault (Called c (Lost (Fault b))) ≡ false → IsTrue (agrees s past c (Lost (Fault b))) → true ≡ false
    by (Lose p (Fault a)) fit apart' calm' agree = absurd (false≢true (sym calm'))
    by (Lose p Memory) fit apart' calm' agree = absurd (false≢true agree)
    by (Take p) fit apart' calm' agree = absurd (false≢true (sym apart'))
    by _ fit apart' calm' agree = absurd (false≢true fit)
fits_fault s past call _ f apart calm = refl

module _ (s : Setting) where
  good_move : (past : List Event) → IsPast s past → list_any is_apart past ≡ false → list_any is_fault past ≡ false → is_bad (move s past) ≡ false
  good_move [] run apart calm = refl
  good_move (Called Begin reply ∷ past) run apart calm = refl
  good_move (Called (Preempt Proxy) reply ∷ past) run apart calm = refl
  good_move (Called (Preempt Server) reply ∷ past) run apart calm = good_go s (Called (Preempt Server) reply ∷ past)
  good_move (Called (Preempt Socks) reply ∷ past) run apart calm = good_go s (Called (Preempt Socks) reply ∷ past)
  good_move (Called (Select space terms) reply ∷ past) run apart calm = good_told s (Called (Select space terms) reply ∷ past) 0 reply (fits_fault s past (Select space terms) reply run.1 refl refl)
  good_move (Called (Reject space ordinal) reply ∷ past) run apart calm = good_select s (Called (Reject space ordinal) reply ∷ past)
  good_move (Called (Renew gift terms) reply ∷ past) run apart calm =
      good_if (is_answered s past) (move s past) (Goes (go s (Called (Renew gift terms) reply ∷ past))) (good_move past run.0 apart calm) (good_go s (Called (Renew gift terms) reply ∷ past))
  good_move (Called (Answer prompt text terms) reply ∷ past) run apart calm = good_told s (Called (Answer prompt text terms) reply ∷ past) prompt reply (fits_fault s past (Answer prompt text terms) reply run.1 refl refl)
  good_move (Called (Lose prompt loss) reply ∷ past) run apart calm =
      good_told s (Called (Lose prompt loss) reply ∷ past) prompt reply (fits_fault s past (Lose prompt loss) reply run.1 refl (or_both (is_fault (Called (Lose prompt loss) reply)) (list_any is_fault past) calm).0)
  good_move (Called (Take prompt) reply ∷ past) run apart calm = absurd (false≢true (sym apart))
  good_move (Called (Note gift) reply ∷ past) run apart calm = good_move past run.0 apart calm
  good_move (Called End reply ∷ past) run apart calm = good_move past run.0 apart calm
  good_move (Called (Draw nonce) reply ∷ past) run apart calm = refl
  good_move (AskedFor prompt seen ∷ past) run apart calm = good_asked past prompt seen
  good_move (Stepped target step ∷ past) run apart calm = absurd (false≢true (sym apart))
  good_move (Dialed link ∷ past) run apart calm = good_go s (Dialed link ∷ past)
  good_move (DialFailed link count ∷ past) run apart calm = absurd (false≢true (sym calm))
  good_move (Drew target nonce count epoch ∷ past) run apart calm = good_go s (Drew target nonce count epoch ∷ past)
  good_move (Headed link bytes ∷ past) run apart calm = refl
  good_move (WriteFailed link count ∷ past) run apart calm = absurd (false≢true (sym calm))
  good_move (ReadFailed link count ∷ past) run apart calm = absurd (false≢true (sym calm))
  good_move (Replied link reply ∷ past) run apart calm = good_replied s (Replied link reply ∷ past) link reply (challenged s reply) past
  good_move (Broken link fault ∷ past) run apart calm = refl
  good_move (LinkLost link ∷ past) run apart calm = good_lost s (LinkLost link ∷ past) past
  good_move (Ended outcome ∷ past) run apart calm = refl

  -- A LOSS BY A FAULT

  -- behind an ask that did not fail no fault is told
  lost_behind : (p c q : ℕ) (reply : BookReply) (seen : AskSeen) (before : List Event) → has_failed (AskedFor q seen) ≡ false
      → Follows s (AskedFor q seen ∷ before) (want s (AskedFor q seen ∷ before)) (Called (Lose p (Fault c)) reply) → ⊥
  lost_behind p c q reply AskGiven before none f = f
  lost_behind p c q reply Cancel before none f = let clash : Lose p (Fault c) ≡ Answer q 0 (terms_led before q) = f.0 in cc
  lost_behind p c q reply (AskFailed count) before none f = false≢true (sym none)
  lost_behind p c q reply AskNoMemory before none f = let clash : Lose p (Fault c) ≡ Lose q Memory = f.0 in cc

  no_loss : (past : List Event) (p c : ℕ) (reply : BookReply) → IsPast s past → list_any has_failed past ≡ false → Follows s past (want s past) (Called (Lose p (Fault c)) reply) → ⊥
  no_loss past p c reply run none f = at (made_for s past (Lose p (Fault c)) reply run refl refl f)
    where
      call : Call
      call = Lose p (Fault c)

      at : Reason s past call → ⊥
      at (begins e k) = let clash : Lose p (Fault c) ≡ Begin = k in cc
      at (preempts r before e k) = let clash : Lose p (Fault c) ≡ Preempt (first_target s) = k in cc
      at (preempts_server r before e k) = let clash : Lose p (Fault c) ≡ Preempt Server = k in cc
      at (selects space terms k choice behind) = let clash : Lose p (Fault c) ≡ Select space terms = k in cc
      at (is_rejected event before t h e was k behind) = let clash : Lose p (Fault c) ≡ Reject h.gift.space h.gift.ordinal = k in cc
      at (is_renewed link r before t h offered terms number e was d same found k behind) = let clash : Lose p (Fault c) ≡ Renew h.gift number = k in cc
      at (cancels q before e k) = let clash : Lose p (Fault c) ≡ Answer q 0 (terms_led before q) = k in cc
      at (loses q seen loss before e k) =
          lost_behind p c q reply seen before (or_both (has_failed (AskedFor q seen)) (list_any has_failed before) (subst (λ l. list_any has_failed l ≡ false) e none)).0
          (subst (λ l. Follows s l (want s l) (Called (Lose p (Fault c)) reply)) e f)
      at (takes m q before e k) = let clash : Lose p (Fault c) ≡ Take q = k in cc

  -- THE OUTCOME

  no_outcome : (past : List Event) (o : Outcome) → is_bad (move s past) ≡ false → Follows s past (want s past) (Ended o) → is_by_fault o ≡ false
  no_outcome past o good f = at (move s past) refl good f
    where
      at_want : (w : Want) → is_bad (Goes w) ≡ false → Follows s past w (Ended o) → is_by_fault o ≡ false
      at_want (Ends x) g h = absurd (false≢true (sym g))
      at_want (Writes link bytes) g h = let clash : Ended o ≡ Headed link bytes = h in cc
      at_want (Loses link) g h = let clash : Ended o ≡ LinkLost link = h in cc
      at_want _ g h = absurd h

      at_close : (x : Outcome) → is_by_fault x ≡ false → IsClosingStep s past x (Ended o) → is_by_fault o ≡ false
      at_close x g (by_call c r p k) = let clash : Ended o ≡ Called c r = p in cc
      at_close x g (by_outcome p) = let same : o ≡ x = cc p in ap is_by_fault same ∙ g

      at : (m : Move) → move s past ≡ m → is_bad m ≡ false → Follows s past (carried_out s past m) (Ended o) → is_by_fault o ≡ false
      at (Goes w) e g h = at_want w g h
      at (Closes x) e g h = at_close x g (closing_step s past x (Ended o) e f)

  -- ALL EVENTS

  calm_event : (past : List Event) (e : Event) → IsPast s past → Follows s past (want s past) e → list_any has_failed past ≡ false → is_bad (move s past) ≡ false → is_apart e ≡ false → has_failed e ≡ false → is_fault e ≡ false
  calm_event past (Called (Lose p (Fault c)) reply) run f none good apart kept = absurd (no_loss past p c reply run none f)
  calm_event past (Ended o) run f none good apart kept = no_outcome past o good f
  calm_event past (DialFailed link count) run f none good apart kept = absurd (false≢true (sym kept))
  calm_event past (WriteFailed link count) run f none good apart kept = absurd (false≢true (sym kept))
  calm_event past (ReadFailed link count) run f none good apart kept = absurd (false≢true (sym kept))
  calm_event past (AskedFor p (AskFailed count)) run f none good apart kept = absurd (false≢true (sym kept))
  calm_event past (Stepped target step) run f none good apart kept = absurd (false≢true (sym apart))
  calm_event past _ run f none good apart kept = refl

  pub calm : (past : List Event) → IsPast s past → list_any is_apart past ≡ false → list_any has_failed past ≡ false → list_any is_fault past ≡ false
  calm [] run apart none = refl
  calm (e ∷ past) run apart none =
      let a = or_both (is_apart e) (list_any is_apart past) apart in
      let n = or_both (has_failed e) (list_any has_failed past) none in
      let rest : list_any is_fault past ≡ false = calm past run.0 a.1 n.1 in
      ap (λ b. b || list_any is_fault past) (calm_event past e run.0 run.1 n.1 (good_move past run.0 a.1 rest) a.0 n.0) ∙ rest
