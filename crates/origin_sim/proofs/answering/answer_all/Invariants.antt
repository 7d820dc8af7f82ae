use Rattle.std.proofs.Common.{◌≤◌, ◌-◌, length, drop}
use Rattle.origin_sim.specs.Worlds.{IsBehind}
use Rattle.origin_sim.specs.Peers.{IsAnswering}
use Rattle.origin_sim.proofs.answering.answer_all.Given as goal

abbrev pub invariant-heads : goal.invariant-heads
invariant-heads l = record {
  within : l.at ≤ length l.text;
  answering : IsAnswering l.fn.world l.name l.to l.text (drop l.at l.text) l.fn.replies l.replies l.world;
  behind : IsBehind l.fn.world l.world;
}

abbrev pub decreases-heads : goal.decreases-heads
decreases-heads l = length l.text - l.at
