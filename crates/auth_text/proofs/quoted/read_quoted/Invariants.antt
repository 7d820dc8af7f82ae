use Rattle.std.proofs.Common.{◌≡◌, drop, false}
use Rattle.auth_text.specs.Quoted.{behind, closing}
use Rattle.auth_text.proofs.quoted.read_quoted.Given as goal

abbrev pub invariant-loop-i : goal.invariant-loop-i
invariant-loop-i l = behind l.value l.i (closing l.is_escaped (drop l.i l.body)) ≡ closing false l.body
