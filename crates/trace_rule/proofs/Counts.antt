-- What bounds are counted by.
use Rattle.std.proofs.Common.{ℕ, ◌+◌, List, [], ◌∷◌, is_some, option_and_then, if◌then◌else◌}
use Rattle.link_trait.specs.declared.steps.StepSeen.TheVariants.{NoMechanism}
use Rattle.auth_runs.specs.declared.event.Event.{Event}
use Rattle.auth_runs.specs.declared.event.Event.TheVariants.{LinkLost, Stepped}
use Rattle.trace_rule.specs.Settings.{Setting}
use Rattle.trace_rule.specs.Holding.{Held, held}

-- how often a provider without a mechanism could not start a context
abbrev pub drops : Setting → List Event → ℕ
drops s [] = 0
drops s (Stepped target NoMechanism ∷ past) =
    (if is_some (option_and_then (λ (h : Held). h.context) (held s past target)) then 0 else 1) + drops s past
drops s (event ∷ past) = drops s past

-- how many links were lost
abbrev pub losts : List Event → ℕ
losts [] = 0
losts (LinkLost link ∷ past) = 1 + losts past
losts (event ∷ past) = losts past
