use Rattle.std.proofs.Common.{◌∙◌, sym, ap, List, ℕ}
use Rattle.spaces.specs.declared.roster.Roster.{Roster}
use Rattle.auth_events.specs.declared.told.Told.{Told}
use Rattle.auth_events.specs.Tables.{Tables}
use Rattle.auth_events.specs.Book.{allowed}
use Rattle.auth_events.specs.Told.{names_told, past}
use Rattle.worked_callers.proofs.calls.may_call.Goals as goal

pub returns-clause-may : goal.returns-clause-may
returns-clause-may g c =
    let it = c.read.ensures.found in
    let after = c.read.result.0 in
    let same =
    it.3
    ∙ (ap (λ (t : Tables). allowed c.args.roster.now t (past (g.B.Controller.told it.0)) c.args.by c.args.request c.args.call) (sym (g.met.B.Controller.told_names it.0))
    ∙ (ap (λ (l : List Told). allowed c.args.roster.now (names_told l) (past l) c.args.by c.args.request c.args.call) it.2
    ∙ (ap (λ (r : Roster). allowed r (names_told after.seen) (past after.seen) c.args.by c.args.request c.args.call) (sym c.requires.roster)
    ∙ ap (λ (n : ℕ). allowed c.args.shared.now.roster (names_told after.seen) (past after.seen) n c.args.request c.args.call) (sym (c.read.ensures.same.number ∙ c.requires.number))))) in
    (λ yes. sym same ∙ yes, λ yes. same ∙ yes)
