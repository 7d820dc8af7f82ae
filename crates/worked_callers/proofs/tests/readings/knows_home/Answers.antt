use Rattle.std.proofs.Common.{◌∙◌, sym, ap, List}
use Rattle.auth_events.specs.declared.told.Told.{Told}
use Rattle.auth_events.specs.Tables.{Tables, is_home}
use Rattle.auth_events.specs.Told.{names_told}
use Rattle.book_laws.specs.Owners.{items_of}
use Rattle.worked_callers.proofs.tests.readings.knows_home.Goals as goal

pub returns-clause-knows : goal.returns-clause-knows
returns-clause-knows g c =
    let it = c.read.ensures.found in
    it.3
    ∙ (ap (λ (t : Tables). is_home t c.args.space c.args.terms.now) (sym (g.met.B.Controller.told_names it.0))
    ∙ ap (λ (l : List Told). is_home (names_told l) c.args.space c.args.terms.now) it.2)

pub returns-clause-own : goal.returns-clause-own
returns-clause-own g c =
    let it = c.read.ensures.found in
    it.1.mine ∙ ap (items_of c.args.caller.number) it.2
