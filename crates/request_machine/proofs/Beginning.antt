-- Where a context is to begin, and what the provider is asked for it.
use Rattle.std.proofs.Common.{◌≡◌, ℕ, ◌==◌, Bool, true, false, ◌&&◌, List, Option, Some, None, is_none, option_map, option_and_then, IsSome, IfSome, refl, ap, ◌∙◌, subst, if◌then◌else◌}
use Rattle.std.proofs.lemmas.Bool.{false≢true}
use Rattle.auth_text.specs.Login.{Login}
use Rattle.spaces.specs.declared.site.Target.{Target}
use Rattle.spaces.specs.declared.site.Target.TheVariants.{Server, Proxy, Socks}
use Rattle.spaces.specs.declared.space.Scheme.TheVariants.{Negotiate}
use Rattle.spaces.specs.ProtectionSpaces.{ProtectionSpace}
use Rattle.link_trait.specs.declared.steps.Step.{Step}
use Rattle.link_trait.specs.declared.steps.Step.TheVariants.{Token as GaveToken, Done as GaveDone, Refused as GaveRefused, NoMechanism as GaveNoMechanism, Failed as HasFailed, NoMemory as LacksMemory}
use Rattle.auth_runs.specs.declared.event.Event.{Event}
use Rattle.negotiate_handler.specs.Contexts.{begun}
use Rattle.negotiate_handler.specs.declared.context.Stepped.TheVariants.{Refused as IsRefused}
use Rattle.negotiate_handler.specs.declared.context.Said.TheVariants.{NoMechanism as SaidNoMechanism}
use Rattle.trace_rule.specs.Settings.{Setting, or_else, for_route}
use Rattle.trace_rule.specs.Holding.{held, bound}
use Rattle.trace_rule.specs.Heads.{head_text}
use Rattle.trace_rule.specs.Moves.{Want, Asking, first_want, start_for, loss_for, dial_for, draw_for, head_link, spn, identity_held, known}
use Rattle.trace_rule.specs.Moves.Want.{Steps, Writes}
use Rattle.trace_rule.specs.Moves.Asking.{Start}
use Rattle.request_machine.specs.declared.holding.Holding.{Holding}
use Rattle.request_machine.specs.declared.stage.Stage.TheVariants.{Go}
use Rattle.request_machine.specs.Kept.{Kept, Ties, IsStage, IsHeld, IsKnown, held_kept, context_kept, is_after_end}
use Rattle.request_machine.specs.Changed.{holding}
use Rattle.request_machine.specs.Told.{IsStartable, scheme_told}
use Rattle.request_machine.specs.Contexts.{identity_told, start_told, CanStart, IsStarting, IsBefore}
use Rattle.request_machine.proofs.Going.{told_scheme, no_start}
use Rattle.request_machine.proofs.Sending.{only_end}

-- WHERE A STEP IS WANTED

-- the identity that the provider is told is the gift's
told_identity : (s : Setting) (h : Holding) → IsKnown s h → IsStartable h → identity_held s (held_kept h) ≡ identity_told h
told_identity s h known can = at (h.gift.ordinal == 0) h.identity known.identity can.identity
  where
    at : (b : Bool) (o : Option Login) → IfSome o (λ identity. s.identity_of h.gift ≡ Some identity) → (b ≡ false → IsSome o) → (if b then None else s.identity_of h.gift) ≡ (if b then None else o)
    at true o is some = refl
    at false None is some = absurd (false≢true (some refl))
    at false (Some login) is some = is

-- a context that can begin is wanted
starts : (s : Setting) (past : List Event) (t : Target) (h : Holding) → IsHeld s past t (Some h) → IsStartable h → option_and_then (start_for s t) (held s past t) ≡ Some (Steps t (start_told s.request t h))
starts s past t h is can =
    ap (option_and_then (start_for s t)) is.is_held
    ∙ ap (λ b. if b && is_none (option_map context_kept h.context) then Some (Steps t (Start (spn s t) (identity_held s (held_kept h)))) else None)
    (told_scheme s h.gift.space Negotiate h.space is.is_known.space (some_space h.space can.negotiate) ∙ can.negotiate)
    ∙ ap (λ c. if is_none (option_map context_kept c) then Some (Steps t (Start (spn s t) (identity_held s (held_kept h)))) else None) can.free
    ∙ ap (λ login. Some (Steps t (Start (spn s t) login))) (told_identity s h is.is_known can)
  where
    some_space : (o : Option ProtectionSpace) → scheme_told o Negotiate ≡ true → IsSome o
    some_space None e = absurd (false≢true e)
    some_space (Some space) e = refl

abbrev rest_of : Setting → List Event → Want
rest_of s past =
    first_want (option_and_then (loss_for past) (bound s past)) (first_want (dial_for s past)
    (first_want (for_route (λ x. option_and_then (draw_for s past x) (held s past x))) (Writes (head_link s past) (head_text s past))))

-- of what is held for the target
abbrev pub IsAsking : Setting → Option Holding → Target → Asking → Type 0
IsAsking s None t asking = ⊥
IsAsking s (Some h) t asking = asking ≡ start_told s.request t h

abbrev start_of : Setting → List Event → Target → Option Want
start_of s past y = option_and_then (start_for s y) (held s past y)

-- on the way to a head a context that is to begin is wanted first
pub start_before : (s : Setting) (m : Kept) (t : Target) → m.stage ≡ Go → IsStarting m t → Ties s m → (asking : Asking) × IsBefore s m t asking × IsAsking s (holding m t) t asking
start_before s m x same can t =
    let at : IsStage s m.past Go = subst (IsStage s m.past) same t.stage in
    let found = by x can in (
      found.0,
      record {
        is_past = at.0;
        wanted = at.1 ∙ ap (λ o. first_want o (rest_of s m.past)) found.1;
        no_end = t.ended ∙ ap is_after_end same;
        none_made = only_end s m Go same t (λ n e. e);
      },
      found.2,
    )
  where
    on_proxy : (o : Option Holding) → IsHeld s m.past Proxy o → CanStart o → (asking : Asking) × (or_else (start_of s m.past Proxy) (start_of s m.past Server) ≡ Some (Steps Proxy asking)) × IsAsking s o Proxy asking
    on_proxy None is can = absurd can
    on_proxy (Some h) is can = (start_told s.request Proxy h, ap (λ o. or_else o (start_of s m.past Server)) (starts s m.past Proxy h is can), refl)

    on_server : (o : Option Holding) → IsHeld s m.past Server o → CanStart o → start_of s m.past Proxy ≡ None → (asking : Asking) × (or_else (start_of s m.past Proxy) (start_of s m.past Server) ≡ Some (Steps Server asking)) × IsAsking s o Server asking
    on_server None is can none = absurd can
    on_server (Some h) is can none = (start_told s.request Server h, ap (λ o. or_else o (start_of s m.past Server)) none ∙ starts s m.past Server h is can, refl)

    by : (y : Target) → IsStarting m y → (asking : Asking) × (or_else (start_of s m.past Proxy) (start_of s m.past Server) ≡ Some (Steps y asking)) × IsAsking s (holding m y) y asking
    by Proxy can = on_proxy m.proxy t.proxy can
    by Server can = on_server m.server t.server can.1 (no_start s m.past Proxy m.proxy t.proxy can.0)
    by Socks can = absurd can

-- BY WHAT THE MACHINE CALLS

-- the beginning of a context is no refusal by want of a mechanism
pub begun_never : (step : Step) (faults : ℕ) → begun step faults ≡ IsRefused SaidNoMechanism → ⊥
begun_never (GaveToken token) faults e = cc e
begun_never GaveDone faults e = cc e
begun_never GaveRefused faults e = cc e
begun_never GaveNoMechanism faults e = cc e
begun_never HasFailed faults e = cc e
begun_never LacksMemory faults e = cc e

-- a context can begin of something that is held, and that has none
pub can_hold : (o : Option Holding) → CanStart o → IsSome o
can_hold None can = absurd can
can_hold (Some h) can = refl

pub can_free : (o : Option Holding) → CanStart o → IfSome o (λ h. h.context ≡ None)
can_free None can = absurd can
can_free (Some h) can = can.free

pub starts_held : (m : Kept) (t : Target) → IsStarting m t → CanStart (holding m t)
starts_held m Proxy can = can
starts_held m Server can = can.1
starts_held m Socks can = absurd can
