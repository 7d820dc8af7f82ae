-- The way to the next head, where all is told of what is held and no link is bound.
use Rattle.std.proofs.Common.{◌≡◌, ℕ, ◌+◌, Bool, true, false, not, ◌&&◌, List, Option, Some, None, is_none, unwrap_or, option_map, option_and_then, IsSome, IfSome, refl, ap, ◌∙◌, if◌then◌else◌}
use Rattle.std.proofs.lemmas.Bool.{false≢true}
use Rattle.spaces.specs.declared.site.Target.{Target}
use Rattle.spaces.specs.declared.site.Target.TheVariants.{Server, Proxy}
use Rattle.spaces.specs.declared.space.Scheme.{Scheme}
use Rattle.spaces.specs.declared.space.Scheme.TheVariants.{Digest, Negotiate}
use Rattle.spaces.specs.ProtectionSpaces.{ProtectionSpace}
use Rattle.spaces.specs.Sites.{same_scheme}
use Rattle.auth_events.specs.declared.names.TermsName.{TermsName}
use Rattle.auth_runs.specs.declared.event.Event.{Event}
use Rattle.trace_rule.specs.Settings.{Setting, scheme_is, for_route, or_else}
use Rattle.trace_rule.specs.Holding.{held, bound, links, has_link, context_of}
use Rattle.trace_rule.specs.Holding.{Context as HeldContext}
use Rattle.trace_rule.specs.Heads.{drawn, head_text}
use Rattle.trace_rule.specs.Moves.{Want, go, first_want, start_for, loss_for, dial_for, draw_for, head_link, has_count, identity_held, spn}
use Rattle.trace_rule.specs.Moves.Want.{Steps, Dials, Draws, Writes}
use Rattle.trace_rule.specs.Moves.Asking.{Start}
use Rattle.request_machine.specs.declared.holding.Context.{Context}
use Rattle.request_machine.specs.declared.holding.Holding.{Holding}
use Rattle.request_machine.specs.declared.holding.NamedTerms.{NamedTerms}
use Rattle.request_machine.specs.Kept.{Kept, Ties, IsHeld, held_kept, context_kept, terms_kept}
use Rattle.request_machine.specs.Told.{scheme_told, IsReady, is_live, link_told, nonce_told, counted_nonce}
use Rattle.request_machine.specs.Heads.{bound_told}

-- the scheme of a gift's space is the one that was told
pub told_scheme : (s : Setting) (n : ℕ) (scheme : Scheme) (space : Option ProtectionSpace) → IfSome space (λ named. s.space_of n ≡ Some named) → IsSome space
    → scheme_is s n scheme ≡ scheme_told space scheme
told_scheme s n scheme None known some = absurd (false≢true some)
told_scheme s n scheme (Some space) known some = ap (λ o. unwrap_or (option_map (λ (named : ProtectionSpace). same_scheme named.scheme scheme) o) false) known

-- no context is started
pub no_start : (s : Setting) (past : List Event) (t : Target) (h : Option Holding) → IsHeld s past t h → IfSome h IsReady → option_and_then (start_for s t) (held s past t) ≡ None
no_start s past t None is ready = ap (option_and_then (start_for s t)) is.is_held
no_start s past t (Some h) is ready =
    ap (option_and_then (start_for s t)) is.is_held
    ∙ ap (λ b. if b && is_none (option_map context_kept h.context) then Some (Steps t (Start (spn s t) (identity_held s (held_kept h)))) else None)
    (told_scheme s h.gift.space Negotiate h.space is.is_known.space ready.space)
    ∙ at (Some (Steps t (Start (spn s t) (identity_held s (held_kept h))))) (scheme_told h.space Negotiate) h.context ready.context
  where
    at : (w : Option Want) (b : Bool) (c : Option Context) → (b ≡ true → is_live c ≡ true) → (if b && is_none (option_map context_kept c) then w else None) ≡ None
    at w false c live = refl
    at w true None live = absurd (false≢true (live refl))
    at w true (Some c) live = refl

-- the link that is bound is the one that was told
link_kept : (h : Option Holding) → option_and_then (λ (x : HeldContext). x.link) (context_of (option_map held_kept h)) ≡ link_told h
link_kept None = refl
link_kept (Some h) = at h.context
  where
    at : (c : Option Context) → option_and_then (λ (x : HeldContext). x.link) (option_map context_kept c) ≡ option_and_then (λ (x : Context). x.link) c
    at None = refl
    at (Some c) = refl

pub bound_is_told : (s : Setting) (m : Kept) → Ties s m → bound s m.past ≡ bound_told m
bound_is_told s m t =
    ap (λ c. or_else (option_and_then (λ (x : HeldContext). x.link) (context_of c)) (option_and_then (λ (x : HeldContext). x.link) (context_of (held s m.past Server)))) t.proxy.is_held
    ∙ ap (λ o. or_else o (option_and_then (λ (x : HeldContext). x.link) (context_of (held s m.past Server)))) (link_kept m.proxy)
    ∙ ap (λ c. or_else (link_told m.proxy) (option_and_then (λ (x : HeldContext). x.link) (context_of c))) t.server.is_held
    ∙ ap (or_else (link_told m.proxy)) (link_kept m.server)

abbrev draw_by : Target → Bool → Bool → Option TermsName → Option Want
draw_by t digest free name = if digest && free then option_and_then (λ (n : TermsName). if has_count n.terms.qop then Some (Draws t n.nonce) else None) name else None

-- the count that is wanted is that of the nonce that was told
pub draw_wanted : (s : Setting) (past : List Event) (t : Target) (h : Option Holding) (count : Option ℕ) → IsHeld s past t h → IfSome h IsReady → drawn past t ≡ count
    → option_and_then (draw_for s past t) (held s past t) ≡ (if is_none count then option_map (Draws t) (option_and_then nonce_told h) else None)
draw_wanted s past t None count is ready counted = ap (option_and_then (draw_for s past t)) is.is_held ∙ none_of (is_none count)
  where
    none_of : (b : Bool) → ◌≡◌ {A = Option Want} None (if b then None else None)
    none_of true = refl
    none_of false = refl
draw_wanted s past t (Some h) count is ready counted =
    ap (option_and_then (draw_for s past t)) is.is_held
    ∙ ap (λ b. draw_by t b (is_none (drawn past t)) (s.terms_of h.terms)) (told_scheme s h.gift.space Digest h.space is.is_known.space ready.space)
    ∙ ap (λ (c : Option ℕ). draw_by t (scheme_told h.space Digest) (is_none c) (s.terms_of h.terms)) counted
    ∙ at (scheme_told h.space Digest) (is_none count) h.named is.is_known.named ready.named
  where
    counts : (named : NamedTerms) (b : Bool) → (if b then Some (Draws t named.nonce) else None) ≡ option_map (Draws t) (if b then Some named.nonce else None)
    counts named true = refl
    counts named false = refl

    at : (digest free : Bool) (named : Option NamedTerms) → IfSome named (λ n. s.terms_of h.terms ≡ Some (terms_kept h n)) → (digest ≡ true → IsSome named)
        → draw_by t digest free (s.terms_of h.terms) ≡ (if free then option_map (Draws t) (if digest then option_and_then counted_nonce named else None) else None)
    at false true named known same = refl
    at false false named known same = refl
    at true false named known same = refl
    at true true None known same = absurd (false≢true (same refl))
    at true true (Some named) known same = ap (λ o. draw_by t true true o) known ∙ counts named (has_count named.terms.qop)

abbrev go_of : Option Want → Option Want → Option Want → Option Want → Want → Want
go_of start loss dial draw write = first_want start (first_want loss (first_want dial (first_want draw write)))

abbrev pub draw_of : Option ℕ → Option Holding → Target → Option Want
draw_of count h t = if is_none count then option_map (Draws t) (option_and_then nonce_told h) else None

-- what the machine's fields say of the way to the next head
abbrev pub go_told : Kept → List ℕ → Want
go_told m text =
    first_want (if m.is_dialed then None else Some (Dials (m.links + 1)))
    (first_want (or_else (draw_of m.drawn_proxy m.proxy Proxy) (draw_of m.drawn_server m.server Server)) (Writes m.links text))

pub go_is_told : (s : Setting) (m : Kept) → Ties s m → IfSome m.proxy IsReady → IfSome m.server IsReady → bound_told m ≡ None → go s m.past ≡ go_told m (head_text s m.past)
go_is_told s m t proxy server free =
    let unbound : bound s m.past ≡ None = bound_is_told s m t ∙ free in
    let starts : for_route (λ x. option_and_then (start_for s x) (held s m.past x)) ≡ None =
    ap (λ o. or_else o (option_and_then (start_for s Server) (held s m.past Server))) (no_start s m.past Proxy m.proxy t.proxy proxy)
    ∙ no_start s m.past Server m.server t.server server in
    let draws : for_route (λ x. option_and_then (draw_for s m.past x) (held s m.past x)) ≡ or_else (draw_of m.drawn_proxy m.proxy Proxy) (draw_of m.drawn_server m.server Server) =
    ap (λ o. or_else o (option_and_then (draw_for s m.past Server) (held s m.past Server))) (draw_wanted s m.past Proxy m.proxy m.drawn_proxy t.proxy proxy t.drawn_proxy)
    ∙ ap (or_else (draw_of m.drawn_proxy m.proxy Proxy)) (draw_wanted s m.past Server m.server m.drawn_server t.server server t.drawn_server) in
    ap (λ a. go_of a (option_and_then (loss_for m.past) (bound s m.past)) (dial_for s m.past) (for_route (λ x. option_and_then (draw_for s m.past x) (held s m.past x))) (Writes (head_link s m.past) (head_text s m.past))) starts
    ∙ ap (λ b. go_of None (option_and_then (loss_for m.past) b) (if is_none b && not (has_link m.past) then Some (Dials (links m.past + 1)) else None) (for_route (λ x. option_and_then (draw_for s m.past x) (held s m.past x)))
    (Writes (unwrap_or b (links m.past)) (head_text s m.past))) unbound
    ∙ ap (λ d. go_of None None (if not d then Some (Dials (links m.past + 1)) else None) (for_route (λ x. option_and_then (draw_for s m.past x) (held s m.past x))) (Writes (links m.past) (head_text s m.past))) t.is_dialed
    ∙ ap (λ n. go_of None None (if not m.is_dialed then Some (Dials (n + 1)) else None) (for_route (λ x. option_and_then (draw_for s m.past x) (held s m.past x))) (Writes n (head_text s m.past))) t.links
    ∙ ap (λ d. go_of None None (if not m.is_dialed then Some (Dials (m.links + 1)) else None) d (Writes m.links (head_text s m.past))) draws
    ∙ turned m.is_dialed
  where
    turned : (b : Bool) → first_want (if not b then Some (Dials (m.links + 1)) else None) (first_want (or_else (draw_of m.drawn_proxy m.proxy Proxy) (draw_of m.drawn_server m.server Server)) (Writes m.links (head_text s m.past)))
        ≡ first_want (if b then None else Some (Dials (m.links + 1))) (first_want (or_else (draw_of m.drawn_proxy m.proxy Proxy) (draw_of m.drawn_server m.server Server)) (Writes m.links (head_text s m.past)))
    turned true = refl
    turned false = refl
