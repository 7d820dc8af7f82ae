use Rattle.std.proofs.Common.{◌==◌, ap, ◌∙◌}
use Rattle.std.specs.List.{position_from}
use Rattle.wire_head.proofs.HeadLimits.{same_lines}
use Rattle.wire_head.proofs.head_limits.is_too_long_behind.Goals as goal

pub returns-in-None : goal.returns-in-None
returns-in-None c =
    same_lines c.args.at c.args.before c.args.front.now c.requires.short (c.in-None.ensures.value ∙ ap (position_from (λ b. b == 10) 0) c.rest_of.ensures)
