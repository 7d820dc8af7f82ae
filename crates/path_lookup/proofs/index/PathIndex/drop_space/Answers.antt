use Rattle.std.proofs.Common.{sym, subst, arith}
use Rattle.path_lookup.specs.Notes.{AreWithinRows}
use Rattle.path_lookup.proofs.Rows.{rows_dropped}
use Rattle.path_lookup.proofs.index.PathIndex.drop_space.Goals as goal

pub invariant_of-self : goal.invariant_of-self
invariant_of-self c = (
  subst (AreWithinRows c.self.inside.spaces) (sym c.drop_notes.ensures.notes) (rows_dropped c.self.inside.spaces c.args.space c.self.inside.notes.items c.self.invariant.0),
  omega (arith, c.self.invariant.1, c.drop_notes.ensures.capacity),
)
