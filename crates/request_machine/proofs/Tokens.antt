-- Steps of the provider of tokens, by what they make of what is held.
use Rattle.std.proofs.Common.{◌≡◌, ℕ, ◌+◌, Bool, true, false, List, [], ◌∷◌, drop, Option, Some, None, is_some, option_map, option_and_then, IsSome, IfSome, refl, sym, ap, ◌∙◌, subst, zero-add, if◌then◌else◌}
use Rattle.std.proofs.lemmas.Bool.{false≢true}
use Rattle.std.specs.List.{list_any}
use Rattle.spaces.specs.declared.site.Target.{Target}
use Rattle.spaces.specs.declared.site.Target.TheVariants.{Server, Proxy, Socks}
use Rattle.spaces.specs.Sites.{same_target}
use Rattle.auth_events.specs.declared.journal.Call.TheVariants.{End as CallEnd}
use Rattle.link_trait.specs.declared.steps.StepSeen.{StepSeen}
use Rattle.link_trait.specs.declared.steps.StepSeen.TheVariants.{Token, NoMechanism, Failed, NoMemory as SeenNoMemory}
use Rattle.auth_runs.specs.declared.event.Event.{Event}
use Rattle.auth_runs.specs.declared.event.Event.TheVariants.{Stepped}
use Rattle.auth_runs.specs.declared.event.Outcome.{Outcome}
use Rattle.auth_runs.specs.declared.event.Outcome.TheVariants.{ProviderFailed, NoMemory}
use Rattle.trace_rule.specs.Settings.{Setting}
use Rattle.trace_rule.specs.Holding.{Held, held, held_stepped, with_token, is_no_mechanism}
use Rattle.trace_rule.specs.Moves.{Asking, rounds, move, select, rejected}
use Rattle.trace_rule.specs.Moves.Move.{Closes}
use Rattle.trace_rule.specs.Closings.{closings, closings_made}
use Rattle.trace_rule.specs.Traces.{IsPast, Follows}
use Rattle.request_machine.specs.declared.holding.Context.{Context}
use Rattle.request_machine.specs.declared.holding.Holding.{Holding}
use Rattle.request_machine.specs.declared.stage.Stage.{Stage}
use Rattle.request_machine.specs.declared.stage.Stage.TheVariants.{Go, Close}
use Rattle.request_machine.specs.Kept.{Kept, Ties, IsKept, IsHeld, held_kept, context_kept}
use Rattle.request_machine.specs.Changed.{holding, put_held}
use Rattle.request_machine.specs.Told.{held_rejected, closing_by}
use Rattle.request_machine.specs.Contexts.{IsBefore, with_context}
use Rattle.request_machine.specs.Replies.{challenged_told, stage_again}
use Rattle.request_machine.proofs.Quiet.{IsNext, same_held}
use Rattle.request_machine.proofs.Prompts.{open_behind}
use Rattle.request_machine.proofs.Rejected.{challenged_last, kept_again, next_again}

pub step_past : (s : Setting) (m : Kept) (t : Target) (asking : Asking) (step : StepSeen) → IsBefore s m t asking → IsPast s (Stepped t step ∷ m.past)
step_past s m t asking step b = (b.is_past, subst (λ w. Follows s m.past w (Stepped t step)) (sym b.wanted) refl)

-- A STEP

-- a step changes the stage, what is held, the rounds, and whether there is a mechanism
pub step_ties : (s : Setting) (m : Kept) (t : Target) (step : StepSeen) (stage : Stage) (proxy server : Option Holding) (n : ℕ) (none : Bool)
    → rounds s (Stepped t step ∷ m.past) ≡ n → list_any is_no_mechanism (Stepped t step ∷ m.past) ≡ none → Ties s m
    → IsKept s (record m { past = Stepped t step ∷ m.past; stage = stage; proxy = proxy; server = server; rounds = n; has_none = none }) stage
    → IsHeld s (Stepped t step ∷ m.past) Proxy proxy → IsHeld s (Stepped t step ∷ m.past) Server server → IsNext s (Stepped t step ∷ m.past) stage
    → Ties s (record m { past = Stepped t step ∷ m.past; stage = stage; proxy = proxy; server = server; rounds = n; has_none = none })
step_ties s m x step stage proxy server n none counted said t kept held_proxy held_server next = record {
  same_number = t.same_number;
  same_seed = t.same_seed;
  passes_over = t.passes_over;
  route = t.route;
  stage = next.stands;
  proxy = held_proxy;
  server = held_server;
  drawn_proxy = t.drawn_proxy;
  drawn_server = t.drawn_server;
  noted_proxy = t.noted_proxy;
  noted_server = t.noted_server;
  links = t.links;
  heads = t.heads;
  code = t.code;
  rounds = counted;
  is_dialed = t.is_dialed;
  stays = t.stays;
  has_lost = t.has_lost;
  has_none = said;
  ended = next.ended;
  may_stop = next.may_stop;
  prompt = open_behind m.past (Stepped x step) (λ p. refl) ∙ t.prompt;
  open_still = next.open_still;
  kept = kept;
}

-- A TOKEN

kept_with : (token : List ℕ) (h : Holding) → with_token token (held_kept h) ≡ held_kept (with_context token h)
kept_with token h = at h.context
  where
    at : (c : Option Context) → with_token token (record (held_kept h) { context = option_map context_kept c }) ≡ held_kept (with_context token (record h { context = c }))
    at None = refl
    at (Some c) = refl

token_held : (s : Setting) (past : List Event) (t x : Target) (token : List ℕ) (h : Option Holding) → held s (Stepped t (Token token) ∷ past) x ≡ option_and_then (held_stepped (Token token)) (held s past x) → IsHeld s past x h
    → IsHeld s (Stepped t (Token token) ∷ past) x (option_map (with_context token) h)
token_held s past t x token None same is = record { is_held = same ∙ ap (option_and_then (held_stepped (Token token))) is.is_held; is_known = tt; of_target = tt }
token_held s past t x token (Some h) same is = record {
  is_held = same ∙ ap (option_and_then (held_stepped (Token token))) is.is_held ∙ ap Some (kept_with token h);
  is_known = record { space = is.is_known.space; identity = is.is_known.identity; named = is.is_known.named };
  of_target = is.of_target;
}

-- the context has a token for the next head
pub token_ties : (s : Setting) (m : Kept) (t : Target) (asking : Asking) (token : List ℕ) → IsBefore s m t asking → IsSome (holding m t) → Ties s m
    → Ties s (record (put_held t (option_map (with_context token) (holding m t)) m) { past = Stepped t (Token token) ∷ m.past; stage = Go })
token_ties s m x asking token b some t = by x b some
  where
    next : (y : Target) → IsBefore s m y asking → IsNext s (Stepped y (Token token) ∷ m.past) Go
    next y before = record { stands = (step_past s m y asking (Token token) before, refl); ended = before.no_end; may_stop = (let no_end = before.no_end in rw no_end refl); open_still = before.none_made }

    by : (y : Target) → IsBefore s m y asking → IsSome (holding m y) → Ties s (record (put_held y (option_map (with_context token) (holding m y)) m) { past = Stepped y (Token token) ∷ m.past; stage = Go })
    by Proxy before is =
        step_ties s m Proxy (Token token) Go (option_map (with_context token) m.proxy) m.server m.rounds m.has_none (zero-add (rounds s m.past) ∙ t.rounds) t.has_none t tt
        (token_held s m.past Proxy Proxy token m.proxy refl t.proxy) (same_held s m.past (Stepped Proxy (Token token)) Server m.server refl t.server) (next Proxy before)
    by Server before is =
        step_ties s m Server (Token token) Go m.proxy (option_map (with_context token) m.server) m.rounds m.has_none (zero-add (rounds s m.past) ∙ t.rounds) t.has_none t tt
        (same_held s m.past (Stepped Server (Token token)) Proxy m.proxy refl t.proxy) (token_held s m.past Server Server token m.server refl t.server) (next Server before)
    by Socks before is = absurd (false≢true is)

-- A FAILURE

-- the request closes, and nothing is noted
pub closed_ties : (s : Setting) (m : Kept) (t : Target) (asking : Asking) (step : StepSeen) (o : Outcome) → move s (Stepped t step ∷ m.past) ≡ Closes o → closings s (Stepped t step ∷ m.past) o ≡ Some CallEnd ∷ []
    → ((x : Target) → held s (Stepped t step ∷ m.past) x ≡ held s m.past x) → rounds s (Stepped t step ∷ m.past) ≡ rounds s m.past → list_any is_no_mechanism (Stepped t step ∷ m.past) ≡ list_any is_no_mechanism m.past
    → IsBefore s m t asking → Ties s m → Ties s (record m { past = Stepped t step ∷ m.past; stage = Close (closing_by o) })
closed_ties s m x asking step o closes left same round none b t =
    step_ties s m x step (Close (closing_by o)) m.proxy m.server m.rounds m.has_none (round ∙ t.rounds) (none ∙ t.has_none) t tt
    (same_held s m.past (Stepped x step) Proxy m.proxy (same Proxy) t.proxy) (same_held s m.past (Stepped x step) Server m.server (same Server) t.server)
    (record {
      stands = (step_past s m x asking step b, closes, ap (drop (closings_made s (Stepped x step ∷ m.past))) left ∙ ap (λ n. drop n (Some CallEnd ∷ [])) b.none_made);
      ended = b.no_end;
      may_stop = (let no_end = b.no_end in rw no_end refl);
      open_still = tt;
    })

pub some_of : (b : Bool) (o : Option Held) → (if b then option_and_then (λ (h : Held). Some h) o else o) ≡ o
some_of true None = refl
some_of true (Some h) = refl
some_of false o = refl

pub step_failed_ties : (s : Setting) (m : Kept) (t : Target) (asking : Asking) (count : ℕ) → IsBefore s m t asking → Ties s m
    → Ties s (record m { past = Stepped t (Failed count) ∷ m.past; stage = Close (closing_by (ProviderFailed count)) })
step_failed_ties s m x asking count b t =
    closed_ties s m x asking (Failed count) (ProviderFailed count) refl refl (λ y. some_of (same_target x y) (held s m.past y)) (zero-add (rounds s m.past)) refl b t

pub step_spent_ties : (s : Setting) (m : Kept) (t : Target) (asking : Asking) → IsBefore s m t asking → Ties s m
    → Ties s (record m { past = Stepped t SeenNoMemory ∷ m.past; stage = Close (closing_by NoMemory) })
step_spent_ties s m x asking b t =
    closed_ties s m x asking SeenNoMemory NoMemory refl refl (λ y. some_of (same_target x y) (held s m.past y)) (zero-add (rounds s m.past)) refl b t

-- NO MECHANISM

free_told : (s : Setting) (past : List Event) (t : Target) (o : Option Holding) → IsHeld s past t o → IfSome o (λ h. h.context ≡ None) → is_some (option_and_then (λ (h : Held). h.context) (held s past t)) ≡ false
free_told s past t None is free = ap (λ x. is_some (option_and_then (λ (h : Held). h.context) x)) is.is_held
free_told s past t (Some h) is free = ap (λ x. is_some (option_and_then (λ (h : Held). h.context) x)) is.is_held ∙ ap (λ c. is_some (option_map context_kept c)) free

dropped_held : (s : Setting) (past : List Event) (t x : Target) (o : Option Holding) → held s (Stepped t NoMechanism ∷ past) x ≡ option_and_then (held_stepped NoMechanism) (held s past x) → IsHeld s past x o → IfSome o (λ h. h.context ≡ None)
    → IsHeld s (Stepped t NoMechanism ∷ past) x None
dropped_held s past t x None same is free = record { is_held = same ∙ ap (option_and_then (held_stepped NoMechanism)) is.is_held; is_known = tt; of_target = tt }
dropped_held s past t x (Some h) same is free = record {
  is_held = same ∙ ap (option_and_then (held_stepped NoMechanism)) is.is_held ∙ ap (λ c. if is_some (option_map context_kept c) then Some (held_kept h) else None) free;
  is_known = tt;
  of_target = tt;
}

-- what is held is dropped, and the last reply's challenges are looked at again
pub none_ties : (s : Setting) (m : Kept) (t : Target) (asking : Asking) → IsBefore s m t asking → IsSome (holding m t) → IfSome (holding m t) (λ h. h.context ≡ None) → Ties s m
    → Ties s (record m {
      past = Stepped t NoMechanism ∷ m.past;
      stage = stage_again (challenged_told m.is_proxied m.code);
      proxy = held_rejected t Proxy m.proxy;
      server = held_rejected t Server m.server;
      has_none = true;
    })
none_ties s m x asking b some free t = by x b some free
  where
    free_at : (y : Target) → IfSome (holding m y) (λ h. h.context ≡ None) → IsSome (holding m y) → is_some (option_and_then (λ (h : Held). h.context) (held s m.past y)) ≡ false
    free_at Proxy none some = free_told s m.past Proxy m.proxy t.proxy none
    free_at Server none some = free_told s m.past Server m.server t.server none
    free_at Socks none some = absurd (false≢true some)

    round : (y : Target) → is_some (option_and_then (λ (h : Held). h.context) (held s m.past y)) ≡ false → rounds s (Stepped y NoMechanism ∷ m.past) ≡ m.rounds
    round y none = ap (λ c. (if c then 1 else 0) + rounds s m.past) none ∙ zero-add (rounds s m.past) ∙ t.rounds

    next : (y : Target) → IsBefore s m y asking → is_some (option_and_then (λ (h : Held). h.context) (held s m.past y)) ≡ false → IsNext s (Stepped y NoMechanism ∷ m.past) (stage_again (challenged_told m.is_proxied m.code))
    next y before none =
        next_again s (Stepped y NoMechanism ∷ m.past) (challenged_told m.is_proxied m.code) (step_past s m y asking NoMechanism before)
        (ap (λ c. if c then rejected s (Stepped y NoMechanism ∷ m.past) (held s m.past y) else select s (Stepped y NoMechanism ∷ m.past)) none)
        (challenged_last s m t) before.no_end (let no_end = before.no_end in rw no_end refl) before.none_made

    by : (y : Target) → IsBefore s m y asking → IsSome (holding m y) → IfSome (holding m y) (λ h. h.context ≡ None)
        → Ties s (record m { past = Stepped y NoMechanism ∷ m.past; stage = stage_again (challenged_told m.is_proxied m.code); proxy = held_rejected y Proxy m.proxy; server = held_rejected y Server m.server; has_none = true })
    by Proxy before is none =
        step_ties s m Proxy NoMechanism (stage_again (challenged_told m.is_proxied m.code)) None m.server m.rounds true (round Proxy (free_at Proxy none is)) refl t
        (kept_again s (record m { past = Stepped Proxy NoMechanism ∷ m.past; stage = stage_again (challenged_told m.is_proxied m.code); proxy = None; server = m.server; rounds = m.rounds; has_none = true }) (challenged_told m.is_proxied m.code))
        (dropped_held s m.past Proxy Proxy m.proxy refl t.proxy none) (same_held s m.past (Stepped Proxy NoMechanism) Server m.server refl t.server) (next Proxy before (free_at Proxy none is))
    by Server before is none =
        step_ties s m Server NoMechanism (stage_again (challenged_told m.is_proxied m.code)) m.proxy None m.rounds true (round Server (free_at Server none is)) refl t
        (kept_again s (record m { past = Stepped Server NoMechanism ∷ m.past; stage = stage_again (challenged_told m.is_proxied m.code); proxy = m.proxy; server = None; rounds = m.rounds; has_none = true }) (challenged_told m.is_proxied m.code))
        (same_held s m.past (Stepped Server NoMechanism) Proxy m.proxy refl t.proxy) (dropped_held s m.past Server Server m.server refl t.server none) (next Server before (free_at Server none is))
    by Socks before is none = absurd (false≢true is)

-- what is held changes beside the past
pub stepped_put : (t : Target) (f : Holding → Holding) (past : List Event) (m : Kept) → put_held t (option_map f (holding (record m { past = past }) t)) (record m { past = past }) ≡ record (put_held t (option_map f (holding m t)) m) { past = past }
stepped_put Proxy f past m = refl
stepped_put Server f past m = refl
stepped_put Socks f past m = refl
