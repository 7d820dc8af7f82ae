-- What is held is rejected.
use Rattle.std.proofs.Common.{◌≡◌, Bool, true, false, List, ◌∷◌, Option, Some, None, option_map, option_and_then, unwrap_or, refl, sym, ap, ◌∙◌, zero-add, if◌then◌else◌, IsTrue, subst}
use Rattle.std.specs.List.{list_any}
use Rattle.spaces.specs.declared.site.Target.{Target}
use Rattle.spaces.specs.declared.site.Target.TheVariants.{Server, Proxy}
use Rattle.spaces.specs.Sites.{same_target}
use Rattle.auth_events.specs.declared.journal.Gift.{Gift}
use Rattle.auth_events.specs.declared.journal.Call.TheVariants.{Reject}
use Rattle.auth_events.specs.declared.journal.BookReply.{BookReply}
use Rattle.wire_head.specs.declared.reply.Reply.{Reply}
use Rattle.auth_runs.specs.declared.event.Event.{Event}
use Rattle.auth_runs.specs.declared.event.Event.TheVariants.{Called}
use Rattle.trace_rule.specs.Settings.{Setting, is_proxied}
use Rattle.trace_rule.specs.Challenges.{challenged}
use Rattle.trace_rule.specs.Holding.{held, code, last_reply}
use Rattle.trace_rule.specs.Moves.{move, select, rounds}
use Rattle.trace_rule.specs.Closings.{closings_made}
use Rattle.trace_rule.specs.Traces.{IsPast, Follows, suits, is_end, may_cut}
use Rattle.request_machine.specs.declared.holding.Holding.{Holding}
use Rattle.request_machine.specs.declared.stage.Stage.TheVariants.{Reject as Rejecting}
use Rattle.request_machine.specs.Kept.{Kept, Ties, IsKept, IsStage, IsOpen, IsHeld, is_after_end}
use Rattle.request_machine.specs.Replies.{challenged_told, stage_again}
use Rattle.request_machine.specs.Told.{held_rejected}
use Rattle.request_machine.proofs.Quiet.{IsNext, still_ties}
use Rattle.request_machine.proofs.Prompts.{open_behind}
use Rattle.request_machine.proofs.Replies.{no_follow}

rejected_held : (s : Setting) (past : List Event) (event : Event) (x t : Target) (h : Option Holding) → held s (event ∷ past) x ≡ (if same_target x t then None else held s past x) → IsHeld s past x h → IsHeld s (event ∷ past) x (held_rejected t x h)
rejected_held s past event x t h by is = at (same_target x t) by
  where
    at : (b : Bool) → held s (event ∷ past) x ≡ (if b then None else held s past x) → IsHeld s (event ∷ past) x (if b then None else h)
    at true e = record { is_held = e; is_known = tt; of_target = tt }
    at false e = record { is_held = e ∙ is.is_held; is_known = is.is_known; of_target = is.of_target }

-- whom the last reply challenges
challenged_by_code : (s : Setting) (o : Option Reply) → option_and_then (challenged s) o ≡ challenged_told (is_proxied s) (unwrap_or (option_map (λ (reply : Reply). reply.code) o) 0)
challenged_by_code s None = refl
challenged_by_code s (Some reply) = refl

pub challenged_last : (s : Setting) (m : Kept) → Ties s m → option_and_then (challenged s) (last_reply m.past) ≡ challenged_told m.is_proxied m.code
challenged_last s m t = challenged_by_code s (last_reply m.past) ∙ ap (λ b. challenged_told b (code m.past)) t.route ∙ ap (challenged_told m.is_proxied) t.code

-- the best challenge of the last reply is chosen
pub kept_again : (s : Setting) (m : Kept) (o : Option Target) → IsKept s m (stage_again o)
kept_again s m None = tt
kept_again s m (Some t) = tt

pub next_again : (s : Setting) (past : List Event) (o : Option Target) → IsPast s past → move s past ≡ select s past → option_and_then (challenged s) (last_reply past) ≡ o → list_any is_end past ≡ false → may_cut past ≡ true → closings_made s past ≡ 0
    → IsNext s past (stage_again o)
next_again s past None run moves is no_end may made = record { stands = record { is_past = run; may_cut = may }; ended = no_end; may_stop = may; open_still = tt }
next_again s past (Some t) run moves is no_end may made = record { stands = (run, moves, is); ended = no_end; may_stop = may; open_still = made }

pub rejected_ties : (s : Setting) (m : Kept) (t : Target) (gift : Gift) (reply : BookReply) → m.stage ≡ Rejecting t gift → IsTrue (suits s m.past (Reject gift.space gift.ordinal) reply) → Ties s m
    → Ties s (record m {
      past = Called (Reject gift.space gift.ordinal) reply ∷ m.past;
      stage = stage_again (challenged_told m.is_proxied m.code);
      proxy = held_rejected t Proxy m.proxy;
      server = held_rejected t Server m.server;
    })
rejected_ties s m x gift reply same suited t =
    let no_end : list_any is_end m.past ≡ false = t.ended ∙ ap is_after_end same in
    let at : IsStage s m.past (Rejecting x gift) = subst (IsStage s m.past) same t.stage in
    let event : Event = Called (Reject gift.space gift.ordinal) reply in
    let proxy : Option Holding = held_rejected x Proxy m.proxy in
    let server : Option Holding = held_rejected x Server m.server in
    let told : Option Target = challenged_told m.is_proxied m.code in
    still_ties s m event (stage_again told) proxy server
    (record {
      drawn = λ y. refl;
      carried = λ y. refl;
      links = refl;
      heads = refl;
      code = refl;
      rounds = zero-add (rounds s m.past);
      is_dialed = refl;
      stays = λ link. refl;
      has_lost = refl;
      has_none = refl;
      prompt = open_behind m.past event (λ p. refl);
    }) t (kept_again s (record m { past = event ∷ m.past; stage = stage_again told; proxy = proxy; server = server }) told)
    (rejected_held s m.past event Proxy x m.proxy (ap (λ b. if b then None else held s m.past Proxy) (at.2 Proxy)) t.proxy)
    (rejected_held s m.past event Server x m.server (ap (λ b. if b then None else held s m.past Server) (at.2 Server)) t.server)
    (next_again s (event ∷ m.past) told (at.0, subst (λ v. Follows s m.past v event) (sym at.1) (refl, suited)) refl (challenged_last s m t) no_end
    (rw (no_follow s m.past (Reject gift.space gift.ordinal) reply (λ p. refl) suited, no_end) refl)
    (zero-add (closings_made s m.past) ∙ subst (λ stage. IsOpen stage (closings_made s m.past)) same t.open_still))
