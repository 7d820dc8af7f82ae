-- The renewals at the end: the terms that a gift went out with, under the nonce that the last reply gave for the next request.
use Rattle.std.specs.Prelude.{ℕ, nat_le, List, Option, None, option_map, option_and_then, if◌then◌else◌}
use Rattle.spaces.specs.declared.site.Target.{Target}
use Rattle.spaces.specs.declared.site.Target.TheVariants.{Server, Proxy, Socks}
use Rattle.spaces.specs.declared.space.Scheme.TheVariants.{Digest}
use Rattle.trace_rule.specs.NextNonces.{next}
use Rattle.trace_rule.specs.Closings.{with_nonce}
use Rattle.request_machine.specs.declared.holding.Holding.{Holding}
use Rattle.request_machine.specs.declared.renew.Renewal.{Renewal}
use Rattle.request_machine.specs.declared.stage.Closing.{Closing}
use Rattle.request_machine.specs.declared.stage.Stage.{Stage}
use Rattle.request_machine.specs.declared.stage.Stage.TheVariants.{NextNonce, Close}
use Rattle.request_machine.specs.Kept.{Kept}
use Rattle.request_machine.specs.Changed.{holding}
use Rattle.request_machine.specs.Told.{scheme_told}

-- an answered request looks for next nonces where it had at most 14 rounds
abbrev pub stage_answered : ℕ → Closing → Stage
stage_answered rounds c = if nat_le rounds 14 then NextNonce Proxy c else Close c

-- where a request stands behind the renewal for a target
abbrev pub stage_behind : Target → Closing → Stage
stage_behind Proxy c = NextNonce Server c
stage_behind Server c = Close c
stage_behind Socks c = Close c

-- a Digest identity that is held goes on with its terms under that nonce
abbrev pub renewal_told : Option (List ℕ) → Holding → Option Renewal
renewal_told nonce h =
    if scheme_told h.space Digest then option_and_then (λ named. option_map (λ n. record { gift = h.gift; terms = with_nonce n named.terms }) nonce) h.named else None

abbrev pub renewal_at : Kept → Target → Option Renewal
renewal_at m t = option_and_then (renewal_told (next m.past t)) (holding m t)
