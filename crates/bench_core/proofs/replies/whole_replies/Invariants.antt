use Rattle.std.proofs.Common.{◌≡◌, if◌then◌else◌}
use Rattle.std.specs.Prelude.{false}
use Rattle.spaces.specs.declared.roster.Method.TheVariants.{Get}
use Rattle.wire_head.specs.Replies.{reply}
use Rattle.bench_core.specs.Replies.{is_whole}
use Rattle.bench_core.proofs.replies.whole_replies.Given as goal

abbrev pub invariant-loop-reading : goal.invariant-loop-reading
invariant-loop-reading l = l.whole ≡ (if is_whole (reply Get l.fn.text false) then l._reading else 0)
