-- The first stages, and what the book tells of what is held.
use Rattle.std.proofs.Common.{◌≡◌, ℕ, false, List, [], ◌∷◌, Option, Some, None, refl, sym, ap, ◌∙◌, zero-add, IsTrue, IfSome, subst, is_some, option_map, unwrap_or, Result, Ok, Err, IfOk, Bool, true}
use Rattle.std.specs.List.{list_any}
use Rattle.auth_text.specs.Login.{Login}
use Rattle.spaces.specs.declared.site.Target.{Target}
use Rattle.spaces.specs.declared.site.Target.TheVariants.{Server, Proxy}
use Rattle.spaces.specs.declared.roster.Request.{Request}
use Rattle.spaces.specs.declared.roster.Roster.{Roster}
use Rattle.spaces.specs.Sites.{numbered}
use Rattle.spaces.specs.ProtectionSpaces.{ProtectionSpace}
use Rattle.auth_events.specs.declared.journal.Call.{Call}
use Rattle.auth_events.specs.declared.journal.BookReply.{BookReply}
use Rattle.auth_events.specs.declared.journal.Call.TheVariants.{Begin, Preempt}
use Rattle.auth_runs.specs.declared.event.Event.{Event}
use Rattle.auth_runs.specs.declared.event.Event.TheVariants.{Called}
use Rattle.trace_rule.specs.Settings.{Setting}
use Rattle.trace_rule.specs.Closings.{closings_made}
use Rattle.trace_rule.specs.Moves.Want.{Calls}
use Rattle.trace_rule.specs.Traces.{suits, IsPast, Follows, is_end}
use Rattle.request_machine.specs.declared.holding.Holding.{Holding}
use Rattle.request_machine.specs.declared.holding.NamedTerms.{NamedTerms}
use Rattle.request_machine.specs.declared.stage.Piece.{Piece}
use Rattle.request_machine.specs.declared.stage.Stage.{Stage}
use Rattle.request_machine.specs.declared.stage.Stage.TheVariants.{Call as Calling, Go, Learn}
use Rattle.request_machine.specs.Kept.{IsSettingOf, Kept, Ties, IsStage, IsOf, IsOpen, IsHeld, terms_kept, is_after_end, can_stop}
use Rattle.request_machine.specs.Told.{is_first, target_of, held_first, with_space, with_identity, with_named}
use Rattle.request_machine.proofs.Quiet.{quiet_ties, still_ties, begin_still, preempt_still, same_held}
use Rattle.request_machine.proofs.Targets.{ready_target}
use Rattle.request_machine.proofs.Replies.{ready_is_held, no_follow}

-- in a stage that calls the book the next event is that call with a reply that suits it
pub call_is_past : (s : Setting) (past : List Event) (stage : Stage) (call : Call) (reply : BookReply) → stage ≡ Calling call → IsStage s past stage → IsTrue (suits s past call reply)
    → IsPast s (Called call reply ∷ past)
call_is_past s past stage call reply same stands suited =
    let at : IsStage s past (Calling call) = subst (IsStage s past) same stands in
    (at.0, subst (λ w. Follows s past w (Called call reply)) (sym at.1) (refl, suited))

pub new_ties : (s : Setting) (request : Request) (number : ℕ) (seed : List ℕ) → IsOf s request number seed
    → Ties s (record {
      number = number;
      seed = seed;
      is_proxied = is_some request.proxy;
      past = [];
      stage = Calling Begin;
      proxy = None;
      server = None;
      drawn_proxy = None;
      drawn_server = None;
      noted_proxy = None;
      noted_server = None;
      links = 0;
      heads = 0;
      code = 0;
      rounds = 0;
      is_dialed = false;
      stays = true;
      has_lost = false;
      has_none = false;
      prompt = 0;
      given = None;
      peer = None;
      unnamed_space = None;
      unnamed_terms = None;
      space = None;
      link = None;
    })
new_ties s request number seed same = record {
  same_number = same.same_number;
  same_seed = same.same_seed;
  passes_over = same.passes_over;
  route = ap (λ (r : Request). is_some r.proxy) same.same_request;
  stage = (tt, refl);
  proxy = record { is_held = refl; is_known = tt; of_target = tt };
  server = record { is_held = refl; is_known = tt; of_target = tt };
  drawn_proxy = refl;
  drawn_server = refl;
  noted_proxy = refl;
  noted_server = refl;
  links = refl;
  heads = refl;
  code = refl;
  rounds = refl;
  is_dialed = refl;
  stays = refl;
  has_lost = refl;
  has_none = refl;
  ended = refl;
  may_stop = refl;
  prompt = refl;
  open_still = refl;
  kept = refl;
}

first_preempts : (proxied : Bool) → IsTrue (is_first (Preempt (target_of proxied)))
first_preempts true = refl
first_preempts false = refl

pub begun_ties : (s : Setting) (m : Kept) (reply : BookReply) → m.stage ≡ Calling Begin → IsTrue (suits s m.past Begin reply) → Ties s m
    → Ties s (record m { past = Called Begin reply ∷ m.past; stage = Calling (Preempt (target_of m.is_proxied)) })
begun_ties s m reply same suited t =
    let no_end : list_any is_end m.past ≡ false = t.ended ∙ ap is_after_end same in
    quiet_ties s m (Called Begin reply) (Calling (Preempt (target_of m.is_proxied))) (begin_still s m.past reply) (λ x. refl) t (first_preempts m.is_proxied) (record {
      stands = (call_is_past s m.past m.stage Begin reply same t.stage suited, ap (λ b. Calls (Preempt (target_of b))) t.route);
      ended = no_end;
      may_stop = rw (no_follow s m.past Begin reply (λ p. refl) suited, no_end) refl;
      open_still = zero-add (closings_made s m.past) ∙ subst (λ stage. IsOpen stage (closings_made s m.past)) same t.open_still;
    })

-- what is held for the proxy behind its preemption
pub preempted_proxy_ties : (s : Setting) (m : Kept) (reply : BookReply) → m.stage ≡ Calling (Preempt Proxy) → IsTrue (suits s m.past (Preempt Proxy) reply) → Ties s m
    → Ties s (record m { past = Called (Preempt Proxy) reply ∷ m.past; stage = Calling (Preempt Server); proxy = held_first reply m.proxy })
preempted_proxy_ties s m reply same suited t =
    let no_end : list_any is_end m.past ≡ false = t.ended ∙ ap is_after_end same in
    still_ties s m (Called (Preempt Proxy) reply) (Calling (Preempt Server)) (held_first reply m.proxy) m.server (preempt_still s m.past Proxy reply) t refl
    (ready_is_held s m.past Proxy (Called (Preempt Proxy) reply) reply m.proxy (λ gift terms epoch e. ready_target s Proxy gift terms epoch (subst (λ r. IsTrue (suits s m.past (Preempt Proxy) r)) e suited)) t.proxy refl)
    (same_held s m.past (Called (Preempt Proxy) reply) Server m.server refl t.server)
    (record {
      stands = (call_is_past s m.past m.stage (Preempt Proxy) reply same t.stage suited, refl);
      ended = no_end;
      may_stop = rw (no_follow s m.past (Preempt Proxy) reply (λ p. refl) suited, no_end) refl;
      open_still = zero-add (closings_made s m.past) ∙ subst (λ stage. IsOpen stage (closings_made s m.past)) same t.open_still;
    })

-- what is held for the server behind its preemption
pub preempted_server_ties : (s : Setting) (m : Kept) (reply : BookReply) → m.stage ≡ Calling (Preempt Server) → IsTrue (suits s m.past (Preempt Server) reply) → Ties s m
    → Ties s (record m { past = Called (Preempt Server) reply ∷ m.past; stage = Go; server = held_first reply m.server })
preempted_server_ties s m reply same suited t =
    let no_end : list_any is_end m.past ≡ false = t.ended ∙ ap is_after_end same in
    still_ties s m (Called (Preempt Server) reply) Go m.proxy (held_first reply m.server) (preempt_still s m.past Server reply) t tt
    (same_held s m.past (Called (Preempt Server) reply) Proxy m.proxy refl t.proxy)
    (ready_is_held s m.past Server (Called (Preempt Server) reply) reply m.server (λ gift terms epoch e. ready_target s Server gift terms epoch (subst (λ r. IsTrue (suits s m.past (Preempt Server) r)) e suited)) t.server refl)
    (record {
      stands = (call_is_past s m.past m.stage (Preempt Server) reply same t.stage suited, refl);
      ended = no_end;
      may_stop = rw (no_follow s m.past (Preempt Server) reply (λ p. refl) suited, no_end) refl;
      open_still = zero-add (closings_made s m.past) ∙ subst (λ stage. IsOpen stage (closings_made s m.past)) same t.open_still;
    })

-- WHAT THE BOOK TELLS OF WHAT IS HELD

-- what was told leaves the request on its way
pub learned_ties : (s : Setting) (m : Kept) (t : Target) (piece : Piece) (proxy server : Option Holding) → m.stage ≡ Learn t piece → Ties s m
    → IsHeld s m.past Proxy proxy → IsHeld s m.past Server server → Ties s (record m { stage = Go; proxy = proxy; server = server })
learned_ties s m x piece proxy server same t held_proxy held_server = record {
  same_number = t.same_number;
  same_seed = t.same_seed;
  passes_over = t.passes_over;
  route = t.route;
  stage = subst (IsStage s m.past) same t.stage;
  proxy = held_proxy;
  server = held_server;
  drawn_proxy = t.drawn_proxy;
  drawn_server = t.drawn_server;
  noted_proxy = t.noted_proxy;
  noted_server = t.noted_server;
  links = t.links;
  heads = t.heads;
  code = t.code;
  rounds = t.rounds;
  is_dialed = t.is_dialed;
  stays = t.stays;
  has_lost = t.has_lost;
  has_none = t.has_none;
  ended = t.ended ∙ ap is_after_end same;
  may_stop = t.may_stop ∙ ap can_stop same;
  prompt = t.prompt;
  open_still = subst (λ stage. IsOpen stage (closings_made s m.past)) same t.open_still;
  kept = tt;
}

pub held_with_space : (s : Setting) (past : List Event) (t : Target) (h : Option Holding) (space : ProtectionSpace) → IfSome h (λ o. s.space_of o.gift.space ≡ Some space) → IsHeld s past t h
    → IsHeld s past t (option_map (with_space space) h)
held_with_space s past t None space told is = is
held_with_space s past t (Some h) space told is = record { is_held = is.is_held; is_known = record { space = told; identity = is.is_known.identity; named = is.is_known.named }; of_target = is.of_target }

pub held_with_identity : (s : Setting) (past : List Event) (t : Target) (h : Option Holding) (identity : Login) → IfSome h (λ o. s.identity_of o.gift ≡ Some identity) → IsHeld s past t h
    → IsHeld s past t (option_map (with_identity identity) h)
held_with_identity s past t None identity told is = is
held_with_identity s past t (Some h) identity told is = record { is_held = is.is_held; is_known = record { space = is.is_known.space; identity = told; named = is.is_known.named }; of_target = is.of_target }

pub held_with_named : (s : Setting) (past : List Event) (t : Target) (h : Option Holding) (named : NamedTerms) → IfSome h (λ o. s.terms_of o.terms ≡ Some (terms_kept o named)) → IsHeld s past t h
    → IsHeld s past t (option_map (with_named named) h)
held_with_named s past t None named told is = is
held_with_named s past t (Some h) named told is = record { is_held = is.is_held; is_known = record { space = is.is_known.space; identity = is.is_known.identity; named = told }; of_target = is.of_target }

-- the setting's request is the one that the roster has
pub of_setting : (s : Setting) (roster : Roster) (number : ℕ) (seed : List ℕ) (request : Request) → IsSettingOf s roster number seed → numbered roster.requests number ≡ Some request → IsOf s request number seed
of_setting s roster number seed request of found = record {
  same_number = of.same_number;
  same_request = ap (λ o. unwrap_or o s.request) (sym of.is_request ∙ found);
  same_seed = of.same_seed;
  passes_over = of.passes_over;
}

pub ties_of_setting : {E : Type 0} (roster : Roster) (number : ℕ) (seed : List ℕ) (request : Request) (result : Result Kept E) → numbered roster.requests number ≡ Some request
    → IfOk result (λ machine. (s : Setting) → IsOf s request number seed → Ties s machine) → IfOk result (λ machine. (s : Setting) → IsSettingOf s roster number seed → Ties s machine)
ties_of_setting roster number seed request (Ok machine) found ties = λ s of. ties s (of_setting s roster number seed request of found)
ties_of_setting roster number seed request (Err fault) found ties = tt
