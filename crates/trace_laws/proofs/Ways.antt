-- What is wanted on the way to the next head, and on which ground.
use Rattle.std.proofs.Common.{◌≡◌, ℕ, ◌+◌, Bool, true, false, not, ◌&&◌, List, Option, Some, None, is_none, option_and_then, refl, if◌then◌else◌}
use Rattle.spaces.specs.declared.site.Target.{Target}
use Rattle.spaces.specs.declared.site.Target.TheVariants.{Server, Proxy}
use Rattle.spaces.specs.declared.space.Scheme.TheVariants.{Digest, Negotiate}
use Rattle.auth_events.specs.declared.names.TermsName.{TermsName}
use Rattle.auth_runs.specs.declared.event.Event.{Event}
use Rattle.trace_rule.specs.Settings.{Setting, for_route, or_else, scheme_is}
use Rattle.trace_rule.specs.Holding.{Held, held, bound, stays, links, has_link}
use Rattle.trace_rule.specs.Heads.{head_text, drawn}
use Rattle.trace_rule.specs.Moves.{Want, go, first_want, start_for, spn, identity_held, loss_for, dial_for, draw_for, has_count, head_link}
use Rattle.trace_rule.specs.Moves.Want.{Steps, Dials, Draws, Writes, Loses}
use Rattle.trace_rule.specs.Moves.Asking.{Start}

-- nothing that is held for the target starts a context
abbrev pub HasNoStart : Setting → List Event → Target → Type 0
HasNoStart s past t = option_and_then (start_for s t) (held s past t) ≡ None

pub data Way (s : Setting) (past : List Event) (w : Want) : Type 0 where
  starts : (t : Target) → (h : Held) → held s past t ≡ Some h → w ≡ Steps t (Start (spn s t) (identity_held s h)) → Way s past w
  loses : (link : ℕ) → bound s past ≡ Some link → stays past link ≡ false → w ≡ Loses link → Way s past w
  dials : bound s past ≡ None → has_link past ≡ false → w ≡ Dials (links past + 1) → Way s past w
  draws : (t : Target) → (h : Held) → (name : TermsName) → held s past t ≡ Some h → s.terms_of h.terms ≡ Some name → w ≡ Draws t name.nonce → Way s past w
  writes : HasNoStart s past Proxy → HasNoStart s past Server → w ≡ Writes (head_link s past) (head_text s past) → Way s past w

abbrev WayIf : Setting → List Event → Option Want → Type 0
WayIf s past None = Unit {0}
WayIf s past (Some w) = Way s past w

or_way : (s : Setting) (past : List Event) (a b : Option Want) → WayIf s past a → WayIf s past b → WayIf s past (or_else a b)
or_way s past None b p q = q
or_way s past (Some w) b p q = p

start_way : (s : Setting) (past : List Event) (t : Target) → WayIf s past (option_and_then (start_for s t) (held s past t))
start_way s past t = at (held s past t) refl
  where
    by : (h : Held) → held s past t ≡ Some h → (b : Bool) → WayIf s past (if b then Some (Steps t (Start (spn s t) (identity_held s h))) else None)
    by h e true = starts t h e refl
    by h e false = tt

    at : (o : Option Held) → held s past t ≡ o → WayIf s past (option_and_then (start_for s t) o)
    at None e = tt
    at (Some h) e = by h e (scheme_is s h.gift.space Negotiate && is_none h.context)

loss_way : (s : Setting) (past : List Event) → WayIf s past (option_and_then (loss_for past) (bound s past))
loss_way s past = at (bound s past) refl
  where
    by : (link : ℕ) → bound s past ≡ Some link → (b : Bool) → stays past link ≡ b → WayIf s past (if b then None else Some (Loses link))
    by link e true k = tt
    by link e false k = loses link e k refl

    at : (o : Option ℕ) → bound s past ≡ o → WayIf s past (option_and_then (loss_for past) o)
    at None e = tt
    at (Some link) e = by link e (stays past link) refl

dial_way : (s : Setting) (past : List Event) → WayIf s past (dial_for s past)
dial_way s past = at (bound s past) (has_link past) refl refl
  where
    at : (a : Option ℕ) (b : Bool) → bound s past ≡ a → has_link past ≡ b → WayIf s past (if is_none a && not b then Some (Dials (links past + 1)) else None)
    at None false free e = dials free e refl
    at None true free e = tt
    at (Some link) b free e = tt

draw_way : (s : Setting) (past : List Event) (t : Target) → WayIf s past (option_and_then (draw_for s past t) (held s past t))
draw_way s past t = at (held s past t) refl
  where
    count : (h : Held) (name : TermsName) → held s past t ≡ Some h → s.terms_of h.terms ≡ Some name → (b : Bool) → WayIf s past (if b then Some (Draws t name.nonce) else None)
    count h name e n true = draws t h name e n refl
    count h name e n false = tt

    named : (h : Held) → held s past t ≡ Some h → (o : Option TermsName) → s.terms_of h.terms ≡ o → WayIf s past (option_and_then (λ name. if has_count name.terms.qop then Some (Draws t name.nonce) else None) o)
    named h e None n = tt
    named h e (Some name) n = count h name e n (has_count name.terms.qop)

    by : (h : Held) → held s past t ≡ Some h → (b : Bool) → WayIf s past (if b then option_and_then (λ name. if has_count name.terms.qop then Some (Draws t name.nonce) else None) (s.terms_of h.terms) else None)
    by h e true = named h e (s.terms_of h.terms) refl
    by h e false = tt

    at : (o : Option Held) → held s past t ≡ o → WayIf s past (option_and_then (draw_for s past t) o)
    at None e = tt
    at (Some h) e = by h e (scheme_is s h.gift.space Digest && is_none (drawn past t))

-- neither of two is there
or_none : {A : Type 0} (a b : Option A) → or_else a b ≡ None → (a ≡ None) × (b ≡ None)
or_none None b e = (refl, e)
or_none (Some x) b e = let clash : Some x ≡ None = e in cc

first_way : (s : Setting) (past : List Event) (o : Option Want) (w : Want) → WayIf s past o → (o ≡ None → Way s past w) → Way s past (first_want o w)
first_way s past None w p q = q refl
first_way s past (Some v) w p q = p

pub way : (s : Setting) (past : List Event) → Way s past (go s past)
way s past =
    first_way s past (for_route (λ t. option_and_then (start_for s t) (held s past t))) _
    (or_way s past (option_and_then (start_for s Proxy) (held s past Proxy)) (option_and_then (start_for s Server) (held s past Server)) (start_way s past Proxy) (start_way s past Server))
    (λ none. first_way s past (option_and_then (loss_for past) (bound s past)) _ (loss_way s past)
    (λ stay. first_way s past (dial_for s past) _ (dial_way s past)
    (λ dialed. first_way s past (for_route (λ t. option_and_then (draw_for s past t) (held s past t))) (Writes (head_link s past) (head_text s past))
    (or_way s past (option_and_then (draw_for s past Proxy) (held s past Proxy)) (option_and_then (draw_for s past Server) (held s past Server)) (draw_way s past Proxy) (draw_way s past Server))
    (λ drew. let both = or_none (option_and_then (start_for s Proxy) (held s past Proxy)) (option_and_then (start_for s Server) (held s past Server)) none in writes both.0 both.1 refl))))
