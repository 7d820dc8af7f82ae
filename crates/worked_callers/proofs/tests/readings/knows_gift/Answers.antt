use Rattle.std.proofs.Common.{◌∙◌, ap, List}
use Rattle.std.specs.Prelude.{is_some}
use Rattle.auth_events.specs.declared.told.Told.{Told}
use Rattle.auth_events.specs.Identities.{giving}
use Rattle.auth_events.specs.Told.{past}
use Rattle.worked_callers.proofs.tests.readings.knows_gift.Goals as goal

pub returns-clause-knows : goal.returns-clause-knows
returns-clause-knows g c =
    let it = c.read.ensures.found in
    it.3 ∙ ap (λ (l : List Told). is_some (giving (past l) c.args.gift)) it.2
