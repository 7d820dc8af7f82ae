use Rattle.std.proofs.Common.{◌≡◌, if◌then◌else◌, length}
use Rattle.std.specs.Prelude.{◌==◌}
use Rattle.spaces.specs.declared.roster.Method.TheVariants.{Get}
use Rattle.digest_handler.specs.Credentials.{digest_credentials}
use Rattle.bench_core.specs.declared.respond.TheConstants.{URI, CLIENT_NONCE}
use Rattle.bench_core.proofs.respond.made.Given as goal

abbrev pub invariant-loop-request : goal.invariant-loop-request
invariant-loop-request l = l.made ≡ (if length (digest_credentials l.fn.terms l.fn.login Get URI.now 1 CLIENT_NONCE.now) == l.fn.len then l._request else 0)
