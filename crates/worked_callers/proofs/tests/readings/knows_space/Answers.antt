use Rattle.std.proofs.Common.{◌∙◌, sym, ap, List}
use Rattle.std.specs.Prelude.{is_some}
use Rattle.spaces.specs.Sites.{numbered}
use Rattle.auth_events.specs.declared.told.Told.{Told}
use Rattle.auth_events.specs.Tables.{Tables}
use Rattle.auth_events.specs.Told.{names_told}
use Rattle.worked_callers.proofs.tests.readings.knows_space.Goals as goal

pub returns-clause-knows : goal.returns-clause-knows
returns-clause-knows g c =
    let it = c.read.ensures.found in
    it.3
    ∙ (ap (λ (t : Tables). is_some (numbered t.spaces c.args.space)) (sym (g.met.B.Controller.told_names it.0))
    ∙ ap (λ (l : List Told). is_some (numbered (names_told l).spaces c.args.space)) it.2)
