-- Credentials by what they are made of.
use Rattle.std.specs.Prelude.{ℕ, List, Option, unwrap_or, option_map, option_and_then, if◌then◌else◌}
use Rattle.auth_text.specs.Login.{Login}
use Rattle.spaces.specs.declared.roster.Request.{Request}
use Rattle.spaces.specs.declared.site.Target.{Target}
use Rattle.spaces.specs.declared.space.Scheme.TheVariants.{Digest, Negotiate}
use Rattle.spaces.specs.RequestTargets.{request_target}
use Rattle.digest_handler.specs.ClientNonces.{client_nonce}
use Rattle.digest_handler.specs.Credentials.{digest_credentials}
use Rattle.negotiate_handler.specs.Tokens.{negotiate_credentials}
use Rattle.trace_rule.specs.Heads.{credentials}
use Rattle.request_machine.specs.declared.holding.Holding.{Holding}
use Rattle.request_machine.specs.declared.holding.NamedTerms.{NamedTerms}
use Rattle.request_machine.specs.declared.fields.Maker.{Maker}
use Rattle.request_machine.specs.Told.{scheme_told, unsent_told}

abbrev pub digest_made : Maker → Request → Target → Option ℕ → Login → NamedTerms → List ℕ
digest_made maker request t count login named =
    digest_credentials named.terms login request.method (request_target request.place maker.is_proxied) (unwrap_or count 0) (client_nonce maker.seed maker.number maker.head t)

abbrev pub field_made : Maker → Request → Target → Option ℕ → Holding → Option (List ℕ)
field_made maker request t count h =
    if scheme_told h.space Negotiate then option_map negotiate_credentials (option_and_then unsent_told h.context)
    else (if scheme_told h.space Digest then option_and_then (λ named. option_map (λ login. digest_made maker request t count login named) h.identity) h.named
    else option_map credentials h.identity)
