-- The space may be named, and has the number that the book tells.
use Rattle.std.proofs.Common.{subst}
use Rattle.auth_events.specs.Tables.{Tables}
use Rattle.auth_events.specs.Told.{MayNameSpace}
use Rattle.std.specs.Prelude.{All}
use Rattle.auth_events.specs.Pages.{IsPage}
use Rattle.auth_controller.specs.Answering.{IsGivenAs}
use Rattle.auth_controller.proofs.Arms.{space_answered_by, legal_told, setting_by}
use Rattle.auth_controller.proofs.Naming.{space_may}
use Rattle.auth_controller.proofs.answers.answer_space.Goals as goal

pub space_no-told-requires : goal.space_no-told-requires
space_no-told-requires g c =
    let book = c.args.book.now in
    subst (λ (t : Tables). MayNameSpace (g.B.Controller.roster book) t c.args.space) (g.met.B.Controller.told_names book)
    (space_may (g.B.Controller.roster book) (g.B.Controller.told book) c.args.machine.now c.requires.serving c.args.space c.requires.need)

pub give-requires : goal.give-requires
give-requires g c =
    let book = c.args.book.now in
    setting_by (g.B.Controller.roster book) (g.B.Controller.told book) c.args.machine.now c.requires.serving

pub returns-clause-roster : goal.returns-clause-roster
returns-clause-roster g c = c.space_no-told.ensures.roster

pub returns-clause-given : goal.returns-clause-given
returns-clause-given g c =
    let book = c.args.book.now in
    let after = c.space_no-told.new.self in
    let pages = c.journal.result.now in
    (space_answered_by (g.B.Controller.roster book) (g.B.Controller.told book) (g.B.Controller.told after) c.args.machine.now c.give.new.machine c.requires.serving (g.B.Controller.names book) (g.B.Controller.names after)
    (g.met.B.Controller.told_names book) (g.met.B.Controller.told_names after) pages.requests
    (subst (λ l. All (IsPage pages.requests) l) c.journal.ensures.entries c.entries-entries.ensures.within.pages)
    (legal_told (g.B.Controller.roster book) (g.B.Controller.roster after) (g.B.Controller.names after) (g.B.Controller.told after) c.space_no-told.ensures.roster (g.met.B.Controller.told_names after) (g.met.B.Controller.no_draw after) (g.met.B.Controller.legal after))
    (g.met.B.Controller.are_names after) c.args.space c.space_no-told.result c.requires.need
    (subst (λ x. IsGivenAs x c.args.machine.now c.give.new.machine) c.number_given.ensures c.give.ensures)
    c.space_no-told.ensures.number c.space_no-told.ensures.told c.space_no-told.ensures.told_err).0

pub returns-clause-serving : goal.returns-clause-serving
returns-clause-serving g c =
    let book = c.args.book.now in
    let after = c.space_no-told.new.self in
    let pages = c.journal.result.now in
    (space_answered_by (g.B.Controller.roster book) (g.B.Controller.told book) (g.B.Controller.told after) c.args.machine.now c.give.new.machine c.requires.serving (g.B.Controller.names book) (g.B.Controller.names after)
    (g.met.B.Controller.told_names book) (g.met.B.Controller.told_names after) pages.requests
    (subst (λ l. All (IsPage pages.requests) l) c.journal.ensures.entries c.entries-entries.ensures.within.pages)
    (legal_told (g.B.Controller.roster book) (g.B.Controller.roster after) (g.B.Controller.names after) (g.B.Controller.told after) c.space_no-told.ensures.roster (g.met.B.Controller.told_names after) (g.met.B.Controller.no_draw after) (g.met.B.Controller.legal after))
    (g.met.B.Controller.are_names after) c.args.space c.space_no-told.result c.requires.need
    (subst (λ x. IsGivenAs x c.args.machine.now c.give.new.machine) c.number_given.ensures c.give.ensures)
    c.space_no-told.ensures.number c.space_no-told.ensures.told c.space_no-told.ensures.told_err).1
