-- Heads, by what was told of what is held.
use Rattle.std.proofs.Common.{◌≡◌, ℕ, ◌+◌, Bool, true, false, ◌||◌, List, ◌∷◌, Option, Some, None, refl, sym, ap, ◌∙◌, zero-add, if◌then◌else◌, IfSome, IsSome, subst, option_map, option_and_then, is_some, unwrap_or}
use Rattle.std.proofs.lemmas.Bool.{false≢true}
use Rattle.std.specs.List.{list_any}
use Rattle.auth_text.specs.Login.{Login}
use Rattle.spaces.specs.declared.roster.Request.{Request}
use Rattle.spaces.specs.declared.site.Target.{Target}
use Rattle.spaces.specs.declared.site.Target.TheVariants.{Server, Proxy}
use Rattle.spaces.specs.declared.space.Scheme.TheVariants.{Digest, Negotiate}
use Rattle.spaces.specs.RequestTargets.{request_target}
use Rattle.auth_events.specs.declared.names.TermsName.{TermsName}
use Rattle.digest_handler.specs.ClientNonces.{client_nonce}
use Rattle.digest_handler.specs.Credentials.{digest_credentials}
use Rattle.wire_head.specs.RequestHeads.{head}
use Rattle.auth_runs.specs.declared.event.Event.{Event}
use Rattle.auth_runs.specs.declared.event.Event.TheVariants.{Headed}
use Rattle.trace_rule.specs.Settings.{Setting, scheme_is, or_else}
use Rattle.trace_rule.specs.Holding.{Held, held, heads, context_of, unsent}
use Rattle.negotiate_handler.specs.Tokens.{negotiate_credentials}
use Rattle.trace_rule.specs.Heads.{head_text, field, field_of, digest_field, credentials, drawn, keeps}
use Rattle.trace_rule.specs.Moves.{rounds}
use Rattle.trace_rule.specs.Closings.{want, closings_made}
use Rattle.trace_rule.specs.Moves.Want.{Draws, Writes}
use Rattle.trace_rule.specs.Traces.{is_end}
use Rattle.request_machine.specs.declared.holding.Context.{Context}
use Rattle.request_machine.specs.declared.holding.Holding.{Holding}
use Rattle.request_machine.specs.declared.holding.NamedTerms.{NamedTerms}
use Rattle.request_machine.specs.declared.stage.Stage.TheVariants.{Go, Read}
use Rattle.request_machine.specs.Kept.{Kept, Ties, IsOpen, IsHeld, held_kept, context_kept, terms_kept, is_after_end}
use Rattle.request_machine.specs.Told.{IsReady, scheme_told, unsent_told, context_held, headed_told, gift_told}
use Rattle.request_machine.specs.Heads.{nonce_next, digest_told, field_told, bound_told, keeps_told, head_told}
use Rattle.request_machine.proofs.Going.{go_told, draw_of, told_scheme, bound_is_told}
use Rattle.request_machine.proofs.Sending.{wants, next_past, held_behind, ready_behind, carried_told}
use Rattle.request_machine.proofs.Prompts.{open_behind}

-- NO COUNT IS DRAWN ANY MORE

no_draw : (count : Option ℕ) (h : Option Holding) (t : Target) → nonce_next count h ≡ None → draw_of count h t ≡ None
no_draw None h t none = ap (option_map (Draws t)) none
no_draw (Some n) h t none = refl

pub writes_next : (m : Kept) (text : List ℕ) → m.is_dialed ≡ true → nonce_next m.drawn_proxy m.proxy ≡ None → nonce_next m.drawn_server m.server ≡ None → go_told m text ≡ Writes m.links text
writes_next m text dialed proxy server = rw (dialed, no_draw m.drawn_proxy m.proxy Proxy proxy, no_draw m.drawn_server m.server Server server) refl

-- THE FIELDS

identity_held : (o : Option Login) → (e : Option Login) → IfSome o (λ login. e ≡ Some login) → IsSome o → e ≡ o
identity_held None e known some = absurd (false≢true some)
identity_held (Some login) e known some = known

abbrev field_by : Setting → List Event → Target → Held → Bool → Bool → Option Login → Option TermsName → Option (List ℕ)
field_by s past t h negotiate digest login name =
    if negotiate then option_map negotiate_credentials (option_and_then unsent h.context)
    else (if digest then option_and_then (λ (n : TermsName). option_map (digest_field s past t n.terms) login) name else option_map credentials login)

-- the same credentials, by what was told
digest_same : (s : Setting) (m : Kept) (request : Request) (t : Target) (count : Option ℕ) (named : NamedTerms) (login : Login) → s.request ≡ request → Ties s m → drawn m.past t ≡ count
    → digest_field s m.past t named.terms login ≡ digest_told m request t count login named
digest_same s m request t count named login same ties counted =
    ap (λ (r : Request). digest_credentials named.terms login r.method (request_target r.place (is_some r.proxy)) (unwrap_or (drawn m.past t) 0) (client_nonce s.seed s.number (heads m.past + 1) t)) same
    ∙ ap (λ b. digest_credentials named.terms login request.method (request_target request.place b) (unwrap_or (drawn m.past t) 0) (client_nonce s.seed s.number (heads m.past + 1) t)) (ap (λ (r : Request). is_some r.proxy) (sym same) ∙ ties.route)
    ∙ ap (λ (c : Option ℕ). digest_credentials named.terms login request.method (request_target request.place m.is_proxied) (unwrap_or c 0) (client_nonce s.seed s.number (heads m.past + 1) t)) counted
    ∙ ap (λ x. digest_credentials named.terms login request.method (request_target request.place m.is_proxied) (unwrap_or count 0) (client_nonce x s.number (heads m.past + 1) t)) ties.same_seed
    ∙ ap (λ x. digest_credentials named.terms login request.method (request_target request.place m.is_proxied) (unwrap_or count 0) (client_nonce m.seed x (heads m.past + 1) t)) ties.same_number
    ∙ ap (λ x. digest_credentials named.terms login request.method (request_target request.place m.is_proxied) (unwrap_or count 0) (client_nonce m.seed m.number (x + 1) t)) ties.heads

pub field_is_told : (s : Setting) (m : Kept) (request : Request) (t : Target) (count : Option ℕ) (h : Option Holding) → s.request ≡ request → Ties s m → IsHeld s m.past t h → IfSome h IsReady → drawn m.past t ≡ count
    → field s m.past t ≡ option_and_then (field_told m request t count) h
field_is_told s m request t count None same ties is ready counted = ap (option_and_then (field_of s m.past t)) is.is_held
field_is_told s m request t count (Some h) same ties is ready counted =
    ap (option_and_then (field_of s m.past t)) is.is_held
    ∙ ap (λ b. field_by s m.past t (held_kept h) b (scheme_is s h.gift.space Digest) (s.identity_of h.gift) (s.terms_of h.terms)) (told_scheme s h.gift.space Negotiate h.space is.is_known.space ready.space)
    ∙ ap (λ b. field_by s m.past t (held_kept h) (scheme_told h.space Negotiate) b (s.identity_of h.gift) (s.terms_of h.terms)) (told_scheme s h.gift.space Digest h.space is.is_known.space ready.space)
    ∙ at (scheme_told h.space Negotiate) ready.identity
  where
    named_at : (digest : Bool) (login : Option Login) (named : Option NamedTerms) → IfSome named (λ n. s.terms_of h.terms ≡ Some (terms_kept h n)) → (digest ≡ true → IsSome named)
        → field_by s m.past t (held_kept h) false digest login (s.terms_of h.terms)
        ≡ (if digest then option_and_then (λ n. option_map (λ l. digest_told m request t count l n) login) named else option_map credentials login)
    named_at false login named known is = refl
    named_at true login None known is = absurd (false≢true (is refl))
    named_at true None (Some named) known is = ap (λ o. option_and_then (λ (n : TermsName). option_map (digest_field s m.past t n.terms) None) o) known
    named_at true (Some login) (Some named) known is =
        ap (λ o. option_and_then (λ (n : TermsName). option_map (digest_field s m.past t n.terms) (Some login)) o) known
        ∙ ap Some (digest_same s m request t count named login same ties counted)

    sent_at : (c : Option Context) → option_map negotiate_credentials (option_and_then unsent (option_map context_kept c)) ≡ option_map negotiate_credentials (option_and_then unsent_told c)
    sent_at None = refl
    sent_at (Some c) = refl

    at : (b : Bool) → (b ≡ false → IsSome h.identity)
        → field_by s m.past t (held_kept h) b (scheme_told h.space Digest) (s.identity_of h.gift) (s.terms_of h.terms)
        ≡ (if b then option_map negotiate_credentials (option_and_then unsent_told h.context)
        else (if scheme_told h.space Digest then option_and_then (λ n. option_map (λ l. digest_told m request t count l n) h.identity) h.named else option_map credentials h.identity))
    at true some = sent_at h.context
    at false some =
        ap (λ login. field_by s m.past t (held_kept h) false (scheme_told h.space Digest) login (s.terms_of h.terms)) (identity_held h.identity (s.identity_of h.gift) is.is_known.identity (some refl))
        ∙ named_at (scheme_told h.space Digest) h.identity h.named is.is_known.named ready.named

-- whether the link is kept behind it
unsent_kept : (h : Option Holding) → option_and_then unsent (context_of (option_map held_kept h)) ≡ option_and_then unsent_told (context_held h)
unsent_kept None = refl
unsent_kept (Some h) = at h.context
  where
    at : (c : Option Context) → option_and_then unsent (option_map context_kept c) ≡ option_and_then unsent_told c
    at None = refl
    at (Some c) = refl

either_first : (x : Bool) (a b : Option (List ℕ)) → (x || is_some (or_else a b)) ≡ ((x || is_some a) || is_some b)
either_first true a b = refl
either_first false None b = refl
either_first false (Some t) b = refl

keeps_is_told : (s : Setting) (m : Kept) → Ties s m → keeps s m.past ≡ keeps_told m
keeps_is_told s m t =
    ap (λ o. is_some o || is_some (or_else (option_and_then unsent (context_of (held s m.past Proxy))) (option_and_then unsent (context_of (held s m.past Server))))) (bound_is_told s m t)
    ∙ ap (λ h. is_some (bound_told m) || is_some (or_else (option_and_then unsent (context_of h)) (option_and_then unsent (context_of (held s m.past Server))))) t.proxy.is_held
    ∙ ap (λ o. is_some (bound_told m) || is_some (or_else o (option_and_then unsent (context_of (held s m.past Server))))) (unsent_kept m.proxy)
    ∙ ap (λ h. is_some (bound_told m) || is_some (or_else (option_and_then unsent_told (context_held m.proxy)) (option_and_then unsent (context_of h)))) t.server.is_held
    ∙ ap (λ o. is_some (bound_told m) || is_some (or_else (option_and_then unsent_told (context_held m.proxy)) o)) (unsent_kept m.server)
    ∙ either_first (is_some (bound_told m)) (option_and_then unsent_told (context_held m.proxy)) (option_and_then unsent_told (context_held m.server))

-- the bytes of the next head
pub head_is_told : (s : Setting) (m : Kept) (request : Request) → s.request ≡ request → IfSome m.proxy IsReady → IfSome m.server IsReady → Ties s m → head_text s m.past ≡ head_told m request
head_is_told s m request same proxy server t =
    ap (λ (r : Request). head r.method (request_target r.place (is_some r.proxy)) r.place.origin (field s m.past Proxy) (field s m.past Server) (keeps s m.past)) same
    ∙ ap (λ b. head request.method (request_target request.place b) request.place.origin (field s m.past Proxy) (field s m.past Server) (keeps s m.past)) (ap (λ (r : Request). is_some r.proxy) (sym same) ∙ t.route)
    ∙ ap (λ f. head request.method (request_target request.place m.is_proxied) request.place.origin f (field s m.past Server) (keeps s m.past)) (field_is_told s m request Proxy m.drawn_proxy m.proxy same t t.proxy proxy t.drawn_proxy)
    ∙ ap (λ f. head request.method (request_target request.place m.is_proxied) request.place.origin (option_and_then (field_told m request Proxy m.drawn_proxy) m.proxy) f (keeps s m.past)) (field_is_told s m request Server m.drawn_server m.server same t t.server server t.drawn_server)
    ∙ ap (λ b. head request.method (request_target request.place m.is_proxied) request.place.origin (option_and_then (field_told m request Proxy m.drawn_proxy) m.proxy) (option_and_then (field_told m request Server m.drawn_server) m.server) b) (keeps_is_told s m t)

pub headed_ties : (s : Setting) (m : Kept) (request : Request) (bytes : List ℕ) → m.stage ≡ Go → m.is_dialed ≡ true → IfSome m.proxy IsReady → IfSome m.server IsReady → bound_told m ≡ None
    → nonce_next m.drawn_proxy m.proxy ≡ None → nonce_next m.drawn_server m.server ≡ None → bytes ≡ head_told m request → s.request ≡ request → Ties s m
    → Ties s (record m {
      past = Headed m.links bytes ∷ m.past;
      stage = Read m.links;
      proxy = option_map (headed_told m.links) m.proxy;
      server = option_map (headed_told m.links) m.server;
      heads = m.heads + 1;
      is_dialed = false;
      drawn_proxy = None;
      drawn_server = None;
      noted_proxy = option_and_then gift_told m.proxy;
      noted_server = option_and_then gift_told m.server;
    })
headed_ties s m request bytes same dialed proxy server free undrawn_proxy undrawn_server is_head same_request t =
    let no_end : list_any is_end m.past ≡ false = t.ended ∙ ap is_after_end same in
    let text : head_text s m.past ≡ bytes = head_is_told s m request same_request proxy server t ∙ sym is_head in
    let wanted : want s m.past ≡ Writes m.links bytes = wants s m (Writes m.links (head_text s m.past)) same t proxy server free (writes_next m (head_text s m.past) dialed undrawn_proxy undrawn_server) ∙ ap (Writes m.links) text in
    record {
      same_number = t.same_number;
      same_seed = t.same_seed;
      passes_over = t.passes_over;
      route = t.route;
      stage = (next_past s m (Writes m.links bytes) (Headed m.links bytes) same t wanted refl, refl, λ x. refl);
      proxy = held_behind s m.past Proxy m.links bytes m.proxy t.proxy;
      server = held_behind s m.past Server m.links bytes m.server t.server;
      drawn_proxy = refl;
      drawn_server = refl;
      noted_proxy = carried_told s m.past Proxy m.links bytes m.proxy t.proxy proxy;
      noted_server = carried_told s m.past Server m.links bytes m.server t.server server;
      links = t.links;
      heads = ap (λ n. n + 1) t.heads;
      code = t.code;
      rounds = zero-add (rounds s m.past) ∙ t.rounds;
      is_dialed = refl;
      stays = t.stays;
      has_lost = t.has_lost;
      has_none = t.has_none;
      ended = no_end;
      may_stop = rw no_end refl;
      prompt = open_behind m.past (Headed m.links bytes) (λ p. refl) ∙ t.prompt;
      open_still = subst (λ stage. IsOpen stage (closings_made s m.past)) same t.open_still;
      kept = (ready_behind m.links m.proxy proxy, ready_behind m.links m.server server);
    }
