-- Dials and heads, where all is told of what is held.
use Rattle.std.proofs.Common.{◌≡◌, ℕ, ◌+◌, true, false, ◌||◌, List, [], ◌∷◌, Option, Some, None, refl, sym, ap, ◌∙◌, zero-add, if◌then◌else◌, IfSome, arith, subst, option_map, option_and_then, drop}
use Rattle.std.specs.List.{list_any}
use Rattle.spaces.specs.declared.site.Target.{Target}
use Rattle.spaces.specs.declared.site.Target.TheVariants.{Server, Proxy}
use Rattle.auth_events.specs.declared.journal.Call.TheVariants.{End as CallEnd}
use Rattle.auth_runs.specs.declared.event.Event.{Event}
use Rattle.auth_runs.specs.declared.event.Event.TheVariants.{Dialed, DialFailed, Headed}
use Rattle.auth_runs.specs.declared.event.Outcome.TheVariants.{LinkFailed}
use Rattle.trace_rule.specs.Settings.{Setting, scheme_is}
use Rattle.spaces.specs.declared.space.Scheme.TheVariants.{Basic, Digest}
use Rattle.trace_rule.specs.Holding.{held_headed, links}
use Rattle.trace_rule.specs.Heads.{head_text}
use Rattle.trace_rule.specs.Moves.{Want, rounds}
use Rattle.trace_rule.specs.Closings.{want, closings_made}
use Rattle.trace_rule.specs.Moves.Want.{Dials}
use Rattle.trace_rule.specs.Traces.{IsPast, Follows, is_end}
use Rattle.request_machine.specs.declared.holding.Context.{Context}
use Rattle.request_machine.specs.declared.holding.Holding.{Holding}
use Rattle.request_machine.specs.declared.stage.Stage.{Stage}
use Rattle.request_machine.specs.declared.stage.Stage.TheVariants.{Go, Close}
use Rattle.request_machine.specs.Kept.{IsKept, Kept, Ties, IsStage, IsOpen, IsHeld, held_kept, context_kept, is_after_end, can_stop, gift_carried, gift_by_path}
use Rattle.request_machine.specs.Told.{IsReady, is_live, carried_on_told, headed_told, scheme_told, gift_told, closing_by}
use Rattle.request_machine.specs.Heads.{bound_told}
use Rattle.trace_laws.proofs.LastLinks.{later_unread}
use Rattle.request_machine.proofs.Quiet.{quiet_ties, same_held, dial_failed_still}
use Rattle.request_machine.proofs.Prompts.{open_behind}
use Rattle.request_machine.proofs.Going.{go_is_told, go_told, told_scheme}

-- on the way to a head a request wants what its fields say
pub wants : (s : Setting) (m : Kept) (w : Want) → m.stage ≡ Go → Ties s m → IfSome m.proxy IsReady → IfSome m.server IsReady → bound_told m ≡ None → go_told m (head_text s m.past) ≡ w → want s m.past ≡ w
wants s m w same t proxy server free is = (subst (IsStage s m.past) same t.stage).1 ∙ go_is_told s m t proxy server free ∙ is

pub next_past : (s : Setting) (m : Kept) (w : Want) (event : Event) → m.stage ≡ Go → Ties s m → want s m.past ≡ w → Follows s m.past w event → IsPast s (event ∷ m.past)
next_past s m w event same t is follows = ((subst (IsStage s m.past) same t.stage).0, subst (λ v. Follows s m.past v event) (sym is) follows)

pub dials_next : (m : Kept) (text : List ℕ) → m.is_dialed ≡ false → go_told m text ≡ Dials (m.links + 1)
dials_next m text undialed = rw undialed refl

pub dialed_ties : (s : Setting) (m : Kept) → m.stage ≡ Go → m.is_dialed ≡ false → IfSome m.proxy IsReady → IfSome m.server IsReady → bound_told m ≡ None → Ties s m
    → Ties s (record m { past = Dialed (m.links + 1) ∷ m.past; links = m.links + 1; is_dialed = true; stays = true })
dialed_ties s m same undialed proxy server free t =
    let no_end : list_any is_end m.past ≡ false = t.ended ∙ ap is_after_end same in
    let past : IsPast s (Dialed (m.links + 1) ∷ m.past) =
    next_past s m (Dials (m.links + 1)) (Dialed (m.links + 1)) same t (wants s m (Dials (m.links + 1)) same t proxy server free (dials_next m (head_text s m.past) undialed)) refl in
    record {
      same_number = t.same_number;
      same_seed = t.same_seed;
      passes_over = t.passes_over;
      route = t.route;
      stage = subst (IsStage s (Dialed (m.links + 1) ∷ m.past)) (sym same) (past, refl);
      proxy = same_held s m.past (Dialed (m.links + 1)) Proxy m.proxy refl t.proxy;
      server = same_held s m.past (Dialed (m.links + 1)) Server m.server refl t.server;
      drawn_proxy = t.drawn_proxy;
      drawn_server = t.drawn_server;
      noted_proxy = t.noted_proxy;
      noted_server = t.noted_server;
      links = ap (λ n. n + 1) t.links;
      heads = t.heads;
      code = t.code;
      rounds = zero-add (rounds s m.past) ∙ t.rounds;
      is_dialed = refl;
      stays = (later_unread s m.past (m.links + 1) past.0 (let links : links m.past ≡ m.links = t.links in omega (arith, links))).1;
      has_lost = t.has_lost;
      has_none = t.has_none;
      ended = t.ended;
      may_stop = (rw no_end refl) ∙ sym (ap can_stop same);
      prompt = open_behind m.past (Dialed (m.links + 1)) (λ p. refl) ∙ t.prompt;
      open_still = t.open_still;
      kept = subst (IsKept s (record m { past = Dialed (m.links + 1) ∷ m.past; links = m.links + 1; is_dialed = true })) (sym same) tt;
    }

-- the calls at the end, where the last event brings no note
pub only_end : (s : Setting) (m : Kept) (stage : Stage) → m.stage ≡ stage → Ties s m → ((n : ℕ) → IsOpen stage n → n ≡ 0) → closings_made s m.past ≡ 0
only_end s m stage same t says = says (closings_made s m.past) (subst (λ x. IsOpen x (closings_made s m.past)) same t.open_still)

pub dial_failed_ties : (s : Setting) (m : Kept) (count : ℕ) → m.stage ≡ Go → m.is_dialed ≡ false → IfSome m.proxy IsReady → IfSome m.server IsReady → bound_told m ≡ None → Ties s m
    → Ties s (record m { past = DialFailed (m.links + 1) count ∷ m.past; stage = Close (closing_by (LinkFailed count)) })
dial_failed_ties s m count same undialed proxy server free t =
    let no_end : list_any is_end m.past ≡ false = t.ended ∙ ap is_after_end same in
    quiet_ties s m (DialFailed (m.links + 1) count) (Close (closing_by (LinkFailed count))) (dial_failed_still s m.past (m.links + 1) count) (λ x. refl) t tt (record {
      stands = (
        next_past s m (Dials (m.links + 1)) (DialFailed (m.links + 1) count) same t (wants s m (Dials (m.links + 1)) same t proxy server free (dials_next m (head_text s m.past) undialed)) refl,
        refl,
        ap (λ n. drop n (Some CallEnd ∷ [])) (only_end s m Go same t (λ n e. e)),
      );
      ended = no_end;
      may_stop = rw no_end refl;
      open_still = tt;
    })

-- HEADS

-- a head carries the token of each context, and binds its link
held_over : (link : ℕ) (h : Holding) → held_headed link (held_kept h) ≡ held_kept (headed_told link h)
held_over link h = at h.context
  where
    at : (c : Option Context) → held_headed link (record (held_kept h) { context = option_map context_kept c }) ≡ record (held_kept h) { context = option_map context_kept (option_map (carried_on_told link) c) }
    at None = refl
    at (Some c) = refl

pub held_behind : (s : Setting) (past : List Event) (t : Target) (link : ℕ) (bytes : List ℕ) (h : Option Holding) → IsHeld s past t h → IsHeld s (Headed link bytes ∷ past) t (option_map (headed_told link) h)
held_behind s past t link bytes None is = record { is_held = ap (option_map (held_headed link)) is.is_held; is_known = tt; of_target = tt }
held_behind s past t link bytes (Some h) is = record {
  is_held = ap (option_map (held_headed link)) is.is_held ∙ ap Some (held_over link h);
  is_known = record { space = is.is_known.space; identity = is.is_known.identity; named = is.is_known.named };
  of_target = is.of_target;
}

-- all is told of it still
pub ready_behind : (link : ℕ) (h : Option Holding) → IfSome h IsReady → IfSome (option_map (headed_told link) h) IsReady
ready_behind link None ready = tt
ready_behind link (Some h) ready = record { space = ready.space; context = λ e. live h.context ∙ ready.context e; identity = ready.identity; named = ready.named }
  where
    live : (c : Option Context) → is_live (option_map (carried_on_told link) c) ≡ is_live c
    live None = refl
    live (Some c) = refl

pub carried_told : (s : Setting) (past : List Event) (t : Target) (link : ℕ) (bytes : List ℕ) (h : Option Holding) → IsHeld s past t h → IfSome h IsReady → gift_carried s (Headed link bytes ∷ past) t ≡ option_and_then gift_told h
carried_told s past t link bytes None is ready = ap (option_and_then (gift_by_path s)) is.is_held
carried_told s past t link bytes (Some h) is ready =
    ap (option_and_then (gift_by_path s)) is.is_held
    ∙ ap (λ b. if b || scheme_is s h.gift.space Digest then Some h.gift else None) (told_scheme s h.gift.space Basic h.space is.is_known.space ready.space)
    ∙ ap (λ b. if scheme_told h.space Basic || b then Some h.gift else None) (told_scheme s h.gift.space Digest h.space is.is_known.space ready.space)
