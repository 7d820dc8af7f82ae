use Rattle.std.proofs.Common.{ap, arith, ◌∙◌}
use Rattle.std.specs.Prelude.{slice_set}
use Rattle.std.proofs.lemmas.List.{get_or_default}
use Rattle.std.proofs.lemmas.List.Edits.{map_over_more}
use Rattle.auth_cache.specs.Cached.{retermed}
use Rattle.auth_cache.proofs.cache.write_terms.Goals as goal

pub loop-held-preserved : goal.loop-held-preserved
loop-held-preserved c =
    ap (λ v. slice_set c.loop-held.entries c.loop-held.held-index v) c.retermed.ensures
    ∙ map_over_more (retermed c.args.space c.args.terms) c.args.entries.now c.loop-held.entries c.loop-held.held-index _ (omega arith) c.loop-held.invariant (get_or_default c.loop-held.entries c.loop-held.held-index _ _ (omega arith))
