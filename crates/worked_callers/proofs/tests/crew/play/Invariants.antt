use Rattle.worked_callers.specs.Crews.{IsNumbered}
use Rattle.worked_callers.proofs.tests.crew.play.Given as goal

abbrev pub invariant-loop-row : goal.invariant-loop-row
invariant-loop-row g l = IsNumbered l.shared 1 l.crew.one × IsNumbered l.shared 2 l.crew.two × IsNumbered l.shared 3 l.crew.three
