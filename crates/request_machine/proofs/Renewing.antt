-- A gift is given other terms.
use Rattle.std.proofs.Common.{◌≡◌, ℕ, ◌+◌, true, false, nat_le, ◌&&◌, List, [], ◌∷◌, ◌++◌, Option, Some, None, refl, sym, ap, ◌∙◌, zero-add, if◌then◌else◌, IsTrue, IfSome, subst, unwrap_or, option_map, option_and_then, is_none, map, drop}
use Rattle.std.specs.List.{list_any}
use Rattle.spaces.specs.declared.site.Target.{Target}
use Rattle.spaces.specs.declared.site.Target.TheVariants.{Server, Proxy, Socks}
use Rattle.spaces.specs.declared.terms.Terms.{Terms}
use Rattle.auth_events.specs.declared.journal.Gift.{Gift}
use Rattle.auth_events.specs.declared.journal.Call.TheVariants.{Renew, End as CallEnd}
use Rattle.auth_events.specs.declared.journal.BookReply.{BookReply}
use Rattle.wire_head.specs.declared.reply.Reply.{Reply}
use Rattle.auth_runs.specs.declared.event.Event.{Event}
use Rattle.auth_runs.specs.declared.event.Event.TheVariants.{Called}
use Rattle.auth_runs.specs.declared.event.Outcome.{Outcome}
use Rattle.auth_runs.specs.declared.event.Outcome.TheVariants.{Answered, Refused, BadReply, LinkFailed, ProviderFailed, PromptFailed, NoMemory}
use Rattle.trace_rule.specs.Settings.{Setting, target_is}
use Rattle.trace_rule.specs.Challenges.{challenged}
use Rattle.trace_rule.specs.Holding.{held, last_reply, gift_held}
use Rattle.trace_rule.specs.Moves.{move, go, known, rounds, is_answered}
use Rattle.trace_rule.specs.Closings.{want, carried_out, next_closing, closings, closings_made, renewal_for, notes}
use Rattle.trace_rule.specs.Moves.Want.{Calls}
use Rattle.trace_rule.specs.Moves.Move.{Goes}
use Rattle.trace_rule.specs.Traces.{Follows, suits, is_end, may_cut}
use Rattle.request_machine.specs.declared.stage.Closing.{Closing}
use Rattle.request_machine.specs.declared.stage.Stage.TheVariants.{Go, NameRenewal, Renew as Renewing, NameLast, RenewLast}
use Rattle.request_machine.specs.Kept.{Kept, IsKept, IsStale, IsRenewalLeft, IsChallenged, IsAnswered, IsCarriedStill, AreCarriedBehind, AreReadyBehind, IsOfTarget, Ties, IsStage, IsOpen, is_after_end, can_stop, closings_left, renewals_behind, calls_left}
use Rattle.request_machine.specs.Gives.{AreTermsNamed}
use Rattle.request_machine.specs.Renewals.{stage_behind}
use Rattle.request_machine.specs.Told.{held_chosen}
use Rattle.request_machine.proofs.Quiet.{IsStill, IsNext, still_ties}
use Rattle.request_machine.proofs.Prompts.{open_behind}
use Rattle.request_machine.proofs.Replies.{no_follow}
use Rattle.request_machine.proofs.Sending.{only_end}
use Rattle.request_machine.proofs.Choosing.{staged}
use Rattle.request_machine.proofs.Selected.{chosen_held}
use Rattle.request_machine.proofs.Ending.{drop_one}

told_terms : (s : Setting) (m : Kept) (n k : ℕ) (terms : Terms) → m.unnamed_terms ≡ Some terms → AreTermsNamed s m n k → s.terms_no n terms ≡ Some k
told_terms s m n k terms is told = subst (λ o. IfSome o (λ terms. s.terms_no n terms ≡ Some k)) is told

-- a challenge is no answer
unanswered : (s : Setting) (past : List Event) (t : Target) → IsChallenged s past t → is_answered s past ≡ false
unanswered s past t = at (last_reply past)
  where
    at : (o : Option Reply) → option_and_then (challenged s) o ≡ Some t → unwrap_or (option_map (λ reply. is_none (challenged s reply)) o) false ≡ false
    at None is = absurd (cc)
    at (Some reply) is = ap is_none is

renew_still : (s : Setting) (past : List Event) (gift : Gift) (terms : ℕ) (reply : BookReply) → IsStill s past (Called (Renew gift terms) reply)
renew_still s past gift terms reply = record {
  drawn = λ t. refl;
  carried = λ t. refl;
  links = refl;
  heads = refl;
  code = refl;
  rounds = zero-add (rounds s past);
  is_dialed = refl;
  stays = λ link. refl;
  has_lost = refl;
  has_none = refl;
  prompt = open_behind past (Called (Renew gift terms) reply) (λ p. refl);
}

-- BEHIND A STALE CHALLENGE

-- the terms have a number
pub renewal_named_ties : (s : Setting) (m : Kept) (t : Target) (gift : Gift) (k : ℕ) → m.stage ≡ NameRenewal t gift → AreTermsNamed s m gift.space k → Ties s m → Ties s (record m { stage = Renewing t gift k })
renewal_named_ties s m x gift k same told t =
    let at : IsStage s m.past (NameRenewal x gift) = subst (IsStage s m.past) same t.stage in
    let kept : IsStale s m.past m.unnamed_terms gift = subst (IsKept s m) same t.kept in
    staged s m (Renewing x gift k) t
    (at.0, ap (carried_out s m.past) (kept.moves ∙ ap (λ o. known o (λ n. Goes (Calls (Renew gift n)))) (told_terms s m gift.space k kept.terms kept.are_unnamed told)), at.1, at.2)
    (ap is_after_end same) (ap can_stop same) (only_end s m (NameRenewal x gift) same t (λ n e. e)) tt

-- the gift was given them
pub renewed_ties : (s : Setting) (m : Kept) (t : Target) (gift : Gift) (k : ℕ) (reply : BookReply) → m.stage ≡ Renewing t gift k → IsTrue (suits s m.past (Renew gift k) reply) → Ties s m
    → Ties s (record m { past = Called (Renew gift k) reply ∷ m.past; stage = Go; proxy = held_chosen t gift k Proxy m.proxy; server = held_chosen t gift k Server m.server })
renewed_ties s m x gift k reply same suited t =
    let no_end : list_any is_end m.past ≡ false = t.ended ∙ ap is_after_end same in
    let at : IsStage s m.past (Renewing x gift k) = subst (IsStage s m.past) same t.stage in
    let event : Event = Called (Renew gift k) reply in
    let no_answer : is_answered s m.past ≡ false = unanswered s m.past x at.3 in
    still_ties s m event Go (held_chosen x gift k Proxy m.proxy) (held_chosen x gift k Server m.server) (renew_still s m.past gift k reply) t tt
    (chosen_held s m.past event Proxy x gift.space k gift m.proxy refl at.2 refl t.proxy)
    (chosen_held s m.past event Server x gift.space k gift m.server refl at.2 refl t.server)
    (record {
      stands = (
        (at.0, subst (λ v. Follows s m.past v event) (sym at.1) (refl, suited)),
        ap (λ b. carried_out s (event ∷ m.past) (if b then move s m.past else Goes (go s (event ∷ m.past)))) no_answer,
      );
      ended = no_end;
      may_stop = rw (no_follow s m.past (Renew gift k) reply (λ p. refl) suited, no_end) refl;
      open_still = ap (λ b. (if b then 1 else 0) + closings_made s m.past) no_answer ∙ zero-add (closings_made s m.past) ∙ subst (λ stage. IsOpen stage (closings_made s m.past)) same t.open_still;
    })

-- AT THE END

-- the terms with the next nonce have a number
pub last_named_ties : (s : Setting) (m : Kept) (t : Target) (gift : Gift) (c : Closing) (k : ℕ) → m.stage ≡ NameLast t gift c → AreTermsNamed s m gift.space k → Ties s m → Ties s (record m { stage = RenewLast t gift k c })
last_named_ties s m x gift c k same told t =
    let at : IsStage s m.past (NameLast x gift c) = subst (IsStage s m.past) same t.stage in
    let kept : AreReadyBehind m.server x × IsRenewalLeft s m.past m.unnamed_terms x gift c = subst (IsKept s m) same t.kept in
    staged s m (RenewLast x gift k c) t (
      at.0,
      kept.1.left ∙ ap (λ o. option_map (Renew gift) o ∷ (renewals_behind s m.past x ++ map Some (calls_left c))) (told_terms s m gift.space k kept.1.terms kept.1.are_unnamed told),
      at.1,
      at.2,
    )
    (ap is_after_end same) (ap can_stop same) tt kept.0

behind_renewal : (s : Setting) (past : List Event) (gift : Gift) (k : ℕ) (reply : BookReply) (o : Outcome) → closings s (Called (Renew gift k) reply ∷ past) o ≡ closings s past o
behind_renewal s past gift k reply (Answered status) = ap (λ n. (if is_answered s past && nat_le n 14 then renewal_for s past Proxy ++ renewal_for s past Server else []) ++ map Some (notes s past (Answered status) ++ CallEnd ∷ [])) (zero-add (rounds s past))
behind_renewal s past gift k reply (Refused status why) = refl
behind_renewal s past gift k reply (BadReply fault) = refl
behind_renewal s past gift k reply (LinkFailed count) = refl
behind_renewal s past gift k reply (ProviderFailed count) = refl
behind_renewal s past gift k reply (PromptFailed count) = refl
behind_renewal s past gift k reply NoMemory = refl

-- what the last head carried for another target is held still
carried_elsewhere : (s : Setting) (past : List Event) (gift : Gift) (k : ℕ) (reply : BookReply) (x : Target) → target_is s gift.space x ≡ false → IsCarriedStill s past x → IsCarriedStill s (Called (Renew gift k) reply ∷ past) x
carried_elsewhere s past gift k reply x other is = record { link = is.link; same = ap (λ b. if b then gift_held gift k None else held s past x) other ∙ is.same }

-- the gift was given them
pub renewed_last_ties : (s : Setting) (m : Kept) (t : Target) (gift : Gift) (k : ℕ) (c : Closing) (reply : BookReply) → m.stage ≡ RenewLast t gift k c → IsTrue (suits s m.past (Renew gift k) reply) → Ties s m
    → Ties s (record m { past = Called (Renew gift k) reply ∷ m.past; stage = stage_behind t c; proxy = held_chosen t gift k Proxy m.proxy; server = held_chosen t gift k Server m.server })
renewed_last_ties s m x gift k c reply same suited t =
    still_ties s m event (stage_behind x c) (held_chosen x gift k Proxy m.proxy) (held_chosen x gift k Server m.server) (renew_still s m.past gift k reply) t (keeps x (subst (IsKept s m) same t.kept))
    (chosen_held s m.past event Proxy x gift.space k gift m.proxy refl at.2 refl t.proxy)
    (chosen_held s m.past event Server x gift.space k gift m.server refl at.2 refl t.server)
    (next x at.2 at.3 left)
  where
    event : Event
    event = Called (Renew gift k) reply

    whole : List Event
    whole = Called (Renew gift k) reply ∷ m.past

    at : IsStage s m.past (RenewLast x gift k c)
    at = subst (IsStage s m.past) same t.stage

    no_end : list_any is_end m.past ≡ false
    no_end = t.ended ∙ ap is_after_end same

    calls : closings_left s m.past c.outcome ≡ Some (Renew gift k) ∷ (renewals_behind s m.past x ++ map Some (calls_left c))
    calls = at.1

    wanted : want s m.past ≡ Calls (Renew gift k)
    wanted = ap (carried_out s m.past) at.0.closes ∙ ap (next_closing c.outcome) calls

    answers : IsAnswered s (Called (Renew gift k) reply ∷ m.past) c
    answers = record {
      is_past = (at.0.is_past, subst (λ v. Follows s m.past v (Called (Renew gift k) reply)) (sym wanted) (refl, suited));
      closes = ap (λ b. if b then move s m.past else Goes (go s (Called (Renew gift k) reply ∷ m.past))) at.0.answered ∙ at.0.closes;
      answered = at.0.answered;
    }

    left : closings_left s (Called (Renew gift k) reply ∷ m.past) c.outcome ≡ renewals_behind s m.past x ++ map Some (calls_left c)
    left =
        ap (λ b. drop ((if b then 1 else 0) + closings_made s m.past) (closings s (Called (Renew gift k) reply ∷ m.past) c.outcome)) at.0.answered
        ∙ ap (drop (1 + closings_made s m.past)) (behind_renewal s m.past gift k reply c.outcome)
        ∙ drop_one (closings_made s m.past) (closings s m.past c.outcome) (Some (Renew gift k)) (renewals_behind s m.past x ++ map Some (calls_left c)) calls

    stops : may_cut (Called (Renew gift k) reply ∷ m.past) ≡ true
    stops = rw (no_follow s m.past (Renew gift k) reply (λ p. refl) suited, no_end) refl

    keeps : (y : Target) → AreReadyBehind m.server y
        → IsKept s (record m { past = Called (Renew gift k) reply ∷ m.past; stage = stage_behind y c; proxy = held_chosen y gift k Proxy m.proxy; server = held_chosen y gift k Server m.server }) (stage_behind y c)
    keeps Proxy ready = ready
    keeps Server ready = tt
    keeps Socks ready = tt

    next : (y : Target) → IsOfTarget s gift.space y → AreCarriedBehind s m.past y → closings_left s (Called (Renew gift k) reply ∷ m.past) c.outcome ≡ renewals_behind s m.past y ++ map Some (calls_left c)
        → IsNext s (Called (Renew gift k) reply ∷ m.past) (stage_behind y c)
    next Proxy of carried_behind rest = record {
      stands = (answers, rest, carried_elsewhere s m.past gift k reply Server (of Server) carried_behind);
      ended = no_end;
      may_stop = stops;
      open_still = tt;
    }
    next Server of carried_behind rest = record {
      stands = (answers.is_past, answers.closes, rest);
      ended = no_end;
      may_stop = stops;
      open_still = tt;
    }
    next Socks of carried_behind rest = record {
      stands = (answers.is_past, answers.closes, rest);
      ended = no_end;
      may_stop = stops;
      open_still = tt;
    }
