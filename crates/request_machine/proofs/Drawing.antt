-- Counts that are drawn.
use Rattle.std.proofs.Common.{◌≡◌, ℕ, ◌==◌, Bool, true, false, List, ◌∷◌, Option, Some, None, refl, sym, ap, ◌∙◌, zero-add, if◌then◌else◌, IfSome, subst, option_map, option_and_then, unwrap_or}
use Rattle.std.specs.List.{list_any}
use Rattle.spaces.specs.declared.site.Target.{Target}
use Rattle.spaces.specs.declared.site.Target.TheVariants.{Server, Proxy}
use Rattle.auth_runs.specs.declared.event.Event.{Event}
use Rattle.auth_runs.specs.declared.event.Event.TheVariants.{Drew}
use Rattle.trace_rule.specs.Settings.{Setting}
use Rattle.trace_rule.specs.Holding.{held, held_drew}
use Rattle.trace_rule.specs.Moves.{rounds}
use Rattle.trace_rule.specs.Closings.{want, closings_made}
use Rattle.trace_rule.specs.Moves.Want.{Draws}
use Rattle.trace_rule.specs.Traces.{Follows, is_end}
use Rattle.request_machine.specs.declared.holding.Holding.{Holding}
use Rattle.request_machine.specs.declared.stage.Stage.TheVariants.{Go, Draw}
use Rattle.request_machine.specs.Kept.{Kept, Ties, IsStage, IsOpen, IsHeld, held_kept, is_after_end, can_stop}
use Rattle.request_machine.specs.Told.{IsReady}
use Rattle.request_machine.specs.Heads.{nonce_next, kept_drew, bound_told}
use Rattle.request_machine.proofs.Going.{draw_of}
use Rattle.request_machine.proofs.Sending.{wants}
use Rattle.request_machine.proofs.Quiet.{same_held}
use Rattle.request_machine.proofs.Prompts.{open_behind}

draw_next : (count : Option ℕ) (h : Option Holding) (t : Target) (o : Option ℕ) → nonce_next count h ≡ o → draw_of count h t ≡ option_map (Draws t) o
draw_next None h t o is = ap (option_map (Draws t)) is
draw_next (Some n) h t o is = ap (option_map (Draws t)) is

to_draw : (s : Setting) (m : Kept) (t : Target) (n : ℕ) → m.stage ≡ Go → want s m.past ≡ Draws t n → Ties s m → Ties s (record m { stage = Draw t n })
to_draw s m x n same wanted t = record {
  same_number = t.same_number;
  same_seed = t.same_seed;
  passes_over = t.passes_over;
  route = t.route;
  stage = ((subst (IsStage s m.past) same t.stage).0, wanted);
  proxy = t.proxy;
  server = t.server;
  drawn_proxy = t.drawn_proxy;
  drawn_server = t.drawn_server;
  noted_proxy = t.noted_proxy;
  noted_server = t.noted_server;
  links = t.links;
  heads = t.heads;
  code = t.code;
  rounds = t.rounds;
  is_dialed = t.is_dialed;
  stays = t.stays;
  has_lost = t.has_lost;
  has_none = t.has_none;
  ended = t.ended ∙ ap is_after_end same;
  may_stop = t.may_stop ∙ ap can_stop same;
  prompt = t.prompt;
  open_still = subst (λ stage. IsOpen stage (closings_made s m.past)) same t.open_still;
  kept = tt;
}

-- a count is drawn for the proxy next
pub draws_proxy_ties : (s : Setting) (m : Kept) (n : ℕ) → m.stage ≡ Go → m.is_dialed ≡ true → IfSome m.proxy IsReady → IfSome m.server IsReady → bound_told m ≡ None → nonce_next m.drawn_proxy m.proxy ≡ Some n → Ties s m
    → Ties s (record m { stage = Draw Proxy n })
draws_proxy_ties s m n same dialed proxy server free next t =
    to_draw s m Proxy n same (wants s m (Draws Proxy n) same t proxy server free (rw (dialed, draw_next m.drawn_proxy m.proxy Proxy (Some n) next) refl)) t

-- a count is drawn for the server next
pub draws_server_ties : (s : Setting) (m : Kept) (n : ℕ) → m.stage ≡ Go → m.is_dialed ≡ true → IfSome m.proxy IsReady → IfSome m.server IsReady → bound_told m ≡ None
    → nonce_next m.drawn_proxy m.proxy ≡ None → nonce_next m.drawn_server m.server ≡ Some n → Ties s m → Ties s (record m { stage = Draw Server n })
draws_server_ties s m n same dialed proxy server free none next t =
    to_draw s m Server n same (wants s m (Draws Server n) same t proxy server free
    (rw (dialed, draw_next m.drawn_proxy m.proxy Proxy None none, draw_next m.drawn_server m.server Server (Some n) next) refl)) t

-- an identity that was ready with another epoch is dropped
drew_held : (s : Setting) (past : List Event) (t : Target) (event : Event) (epoch : ℕ) (h : Option Holding) → held s (event ∷ past) t ≡ option_and_then (held_drew epoch) (held s past t) → IsHeld s past t h
    → IsHeld s (event ∷ past) t (option_and_then (kept_drew epoch) h)
drew_held s past t event epoch None same is = record { is_held = same ∙ ap (option_and_then (held_drew epoch)) is.is_held; is_known = tt; of_target = tt }
drew_held s past t event epoch (Some h) same is =
    at (unwrap_or h.preemptive epoch == epoch) (same ∙ ap (option_and_then (held_drew epoch)) is.is_held)
  where
    at : (b : Bool) → held s (event ∷ past) t ≡ (if b then Some (held_kept h) else None) → IsHeld s (event ∷ past) t (if b then Some h else None)
    at true e = record { is_held = e; is_known = is.is_known; of_target = is.of_target }
    at false e = record { is_held = e; is_known = tt; of_target = tt }

pub drew_proxy_ties : (s : Setting) (m : Kept) (n count epoch : ℕ) → m.stage ≡ Draw Proxy n → Ties s m
    → Ties s (record m { past = Drew Proxy n count epoch ∷ m.past; stage = Go; proxy = option_and_then (kept_drew epoch) m.proxy; drawn_proxy = Some count })
drew_proxy_ties s m n count epoch same t =
    let no_end : list_any is_end m.past ≡ false = t.ended ∙ ap is_after_end same in
    let at : IsStage s m.past (Draw Proxy n) = subst (IsStage s m.past) same t.stage in
    let event : Event = Drew Proxy n count epoch in
    record {
      same_number = t.same_number;
      same_seed = t.same_seed;
      passes_over = t.passes_over;
      route = t.route;
      stage = ((at.0, subst (λ v. Follows s m.past v event) (sym at.1) (refl, refl)), refl);
      proxy = drew_held s m.past Proxy event epoch m.proxy refl t.proxy;
      server = same_held s m.past event Server m.server refl t.server;
      drawn_proxy = refl;
      drawn_server = t.drawn_server;
      noted_proxy = t.noted_proxy;
      noted_server = t.noted_server;
      links = t.links;
      heads = t.heads;
      code = t.code;
      rounds = zero-add (rounds s m.past) ∙ t.rounds;
      is_dialed = t.is_dialed;
      stays = t.stays;
      has_lost = t.has_lost;
      has_none = t.has_none;
      ended = no_end;
      may_stop = rw no_end refl;
      prompt = open_behind m.past event (λ p. refl) ∙ t.prompt;
      open_still = subst (λ stage. IsOpen stage (closings_made s m.past)) same t.open_still;
      kept = tt;
    }

pub drew_server_ties : (s : Setting) (m : Kept) (n count epoch : ℕ) → m.stage ≡ Draw Server n → Ties s m
    → Ties s (record m { past = Drew Server n count epoch ∷ m.past; stage = Go; server = option_and_then (kept_drew epoch) m.server; drawn_server = Some count })
drew_server_ties s m n count epoch same t =
    let no_end : list_any is_end m.past ≡ false = t.ended ∙ ap is_after_end same in
    let at : IsStage s m.past (Draw Server n) = subst (IsStage s m.past) same t.stage in
    let event : Event = Drew Server n count epoch in
    record {
      same_number = t.same_number;
      same_seed = t.same_seed;
      passes_over = t.passes_over;
      route = t.route;
      stage = ((at.0, subst (λ v. Follows s m.past v event) (sym at.1) (refl, refl)), refl);
      proxy = same_held s m.past event Proxy m.proxy refl t.proxy;
      server = drew_held s m.past Server event epoch m.server refl t.server;
      drawn_proxy = t.drawn_proxy;
      drawn_server = refl;
      noted_proxy = t.noted_proxy;
      noted_server = t.noted_server;
      links = t.links;
      heads = t.heads;
      code = t.code;
      rounds = zero-add (rounds s m.past) ∙ t.rounds;
      is_dialed = t.is_dialed;
      stays = t.stays;
      has_lost = t.has_lost;
      has_none = t.has_none;
      ended = no_end;
      may_stop = rw no_end refl;
      prompt = open_behind m.past event (λ p. refl) ∙ t.prompt;
      open_still = subst (λ stage. IsOpen stage (closings_made s m.past)) same t.open_still;
      kept = tt;
    }
