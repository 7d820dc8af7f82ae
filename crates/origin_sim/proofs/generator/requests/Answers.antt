use Rattle.std.proofs.Common.{List, [], ◌∷◌, ◌++◌, ap, sym, ◌∙◌}
use Rattle.spaces.specs.declared.roster.Request.{Request}
use Rattle.origin_sim.specs.Generated.{requests}
use Rattle.origin_sim.proofs.RequestLemmas.{requests_step}
use Rattle.origin_sim.proofs.generator.requests.Goals as goal

pub loop-i-preserved : goal.loop-i-preserved
loop-i-preserved c =
    c.in_ok-push.ensures.ok
    ∙ ap (λ (before : List Request). before ++ c.in_ok-request.field-0 ∷ []) c.loop-i.invariant
    ∙ ap (λ (last : Request). requests c.loop-i.i ++ last ∷ []) c.in_ok-request.ensures
    ∙ sym (requests_step c.loop-i.i)
