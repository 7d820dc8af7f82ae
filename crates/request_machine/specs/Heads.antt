-- The next head, by what a machine knows.
use Rattle.std.specs.Prelude.{ℕ, ◌+◌, ◌==◌, ◌||◌, Bool, List, Option, Some, None, is_some, is_none, unwrap_or, option_map, option_and_then, if◌then◌else◌}
use Rattle.auth_text.specs.Login.{Login}
use Rattle.spaces.specs.declared.roster.Request.{Request}
use Rattle.spaces.specs.declared.site.Target.{Target}
use Rattle.spaces.specs.declared.site.Target.TheVariants.{Server, Proxy}
use Rattle.spaces.specs.declared.space.Scheme.TheVariants.{Digest, Negotiate}
use Rattle.spaces.specs.RequestTargets.{request_target}
use Rattle.digest_handler.specs.ClientNonces.{client_nonce}
use Rattle.digest_handler.specs.Credentials.{digest_credentials}
use Rattle.negotiate_handler.specs.Tokens.{negotiate_credentials}
use Rattle.wire_head.specs.RequestHeads.{head}
use Rattle.trace_rule.specs.Settings.{or_else}
use Rattle.trace_rule.specs.Heads.{credentials}
use Rattle.request_machine.specs.declared.holding.Holding.{Holding}
use Rattle.request_machine.specs.declared.holding.NamedTerms.{NamedTerms}
use Rattle.request_machine.specs.Kept.{Kept}
use Rattle.request_machine.specs.Told.{scheme_told, nonce_told, unsent_told, link_told, has_unsent}

-- THE NEXT HEAD

-- the nonce of which a count is drawn next
abbrev pub nonce_next : Option ℕ → Option Holding → Option ℕ
nonce_next count h = if is_none count then option_and_then nonce_told h else None

-- an identity that was ready with another epoch than that of its draw is dropped
abbrev pub kept_drew : ℕ → Holding → Option Holding
kept_drew epoch h = if unwrap_or h.preemptive epoch == epoch then Some h else None

-- the credentials of an identity of which all is told
abbrev pub digest_told : Kept → Request → Target → Option ℕ → Login → NamedTerms → List ℕ
digest_told m request t count login named =
    digest_credentials named.terms login request.method (request_target request.place m.is_proxied) (unwrap_or count 0) (client_nonce m.seed m.number (m.heads + 1) t)

abbrev pub field_told : Kept → Request → Target → Option ℕ → Holding → Option (List ℕ)
field_told m request t count h =
    if scheme_told h.space Negotiate then option_map negotiate_credentials (option_and_then unsent_told h.context)
    else (if scheme_told h.space Digest then option_and_then (λ named. option_map (λ login. digest_told m request t count login named) h.identity) h.named
    else option_map credentials h.identity)

-- the link that a context has bound
abbrev pub bound_told : Kept → Option ℕ
bound_told m = or_else (link_told m.proxy) (link_told m.server)

-- the next head carries a token, or goes over a bound link
abbrev pub keeps_told : Kept → Bool
keeps_told m = is_some (bound_told m) || has_unsent m.proxy || has_unsent m.server

abbrev pub head_told : Kept → Request → List ℕ
head_told m request =
    head request.method (request_target request.place m.is_proxied) request.place.origin
    (option_and_then (field_told m request Proxy m.drawn_proxy) m.proxy) (option_and_then (field_told m request Server m.drawn_server) m.server) (keeps_told m)
