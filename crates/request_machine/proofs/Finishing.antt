-- The events of a request that is over are a whole trace.
use Rattle.std.proofs.Common.{◌≡◌, ◌⊎◌, IsTrue, reverse, sym, subst}
use Rattle.std.proofs.lemmas.List.{reverse-reverse}
use Rattle.auth_runs.specs.Runs.{is_whole}
use Rattle.trace_rule.specs.Settings.{Setting}
use Rattle.trace_rule.specs.Traces.{IsRun, IsCut, IsTrace}
use Rattle.trace_laws.proofs.Outcomes.{whole_traces}
use Rattle.request_machine.specs.declared.stage.Stage.TheVariants.{Over}
use Rattle.request_machine.specs.Kept.{Kept, Ties, IsStage}
use Rattle.request_machine.specs.Rooms.{HasSetting}

pub over_trace : (s : Setting) (m : Kept) → m.stage ≡ Over → Ties s m → IsTrace s (reverse m.past)
over_trace s m over t =
    subst (λ l. IsRun s l ⊎ IsCut s l) (sym (reverse-reverse m.past)) (subst (IsStage s m.past) over t.stage)

pub over_whole : (m : Kept) → m.stage ≡ Over → HasSetting m → IsTrue (is_whole (reverse m.past))
over_whole m over tied = whole_traces tied.setting (reverse m.past) (over_trace tied.setting m over tied.ties)
