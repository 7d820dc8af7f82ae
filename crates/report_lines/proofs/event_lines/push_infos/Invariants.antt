use Rattle.std.proofs.Common.{◌≡◌, ◌++◌, drop}
use Rattle.report_lines.specs.EventLines as spec
use Rattle.report_lines.proofs.event_lines.push_infos.Given as goal

abbrev pub invariant-loop-info : goal.invariant-loop-info
invariant-loop-info l = l.out ++ spec.info_words l.kind (drop l.info-index l.infos) ≡ l.fn.out ++ spec.info_words l.kind l.infos
