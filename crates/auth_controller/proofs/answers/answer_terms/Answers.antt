-- The terms may be named, and have the number that the book tells.
use Rattle.std.proofs.Common.{subst}
use Rattle.std.proofs.Common.{IsTrue}
use Rattle.auth_events.specs.Tables.{Tables, is_home}
use Rattle.auth_events.specs.Told.{MayNameTerms}
use Rattle.std.specs.Prelude.{All}
use Rattle.auth_events.specs.Pages.{IsPage}
use Rattle.auth_controller.specs.Answering.{IsGivenAs}
use Rattle.auth_controller.proofs.Arms.{terms_answered_by, legal_told, setting_by}
use Rattle.auth_controller.proofs.NamingTerms.{need_home, need_may}
use Rattle.auth_controller.proofs.answers.answer_terms.Goals as goal

pub terms_no-told-requires-clause-home : goal.terms_no-told-requires-clause-home
terms_no-told-requires-clause-home g c =
    let book = c.args.book.now in
    subst (λ (t : Tables). IsTrue (is_home t c.args.space c.args.terms)) (g.met.B.Controller.told_names book)
    (need_home (g.B.Controller.roster book) (g.B.Controller.told book) c.args.machine.now c.requires.serving c.args.space c.args.terms c.requires.need)

pub terms_no-told-requires-clause-few : goal.terms_no-told-requires-clause-few
terms_no-told-requires-clause-few g c =
    let book = c.args.book.now in
    subst (λ (t : Tables). MayNameTerms (g.B.Controller.roster book) t c.args.space c.args.terms) (g.met.B.Controller.told_names book)
    (need_may (g.B.Controller.roster book) (g.B.Controller.told book) c.args.machine.now c.requires.serving c.args.space c.args.terms c.requires.need)

pub give-requires : goal.give-requires
give-requires g c =
    let book = c.args.book.now in
    setting_by (g.B.Controller.roster book) (g.B.Controller.told book) c.args.machine.now c.requires.serving

pub returns-clause-roster : goal.returns-clause-roster
returns-clause-roster g c = c.terms_no-told.ensures.roster

pub returns-clause-given : goal.returns-clause-given
returns-clause-given g c =
    let book = c.args.book.now in
    let after = c.terms_no-told.new.self in
    let pages = c.journal.result.now in
    (terms_answered_by (g.B.Controller.roster book) (g.B.Controller.told book) (g.B.Controller.told after) c.args.machine.now c.give.new.machine c.requires.serving (g.B.Controller.names book) (g.B.Controller.names after)
    (g.met.B.Controller.told_names book) (g.met.B.Controller.told_names after) pages.requests
    (subst (λ l. All (IsPage pages.requests) l) c.journal.ensures.entries c.entries-entries.ensures.within.pages)
    (legal_told (g.B.Controller.roster book) (g.B.Controller.roster after) (g.B.Controller.names after) (g.B.Controller.told after) c.terms_no-told.ensures.roster (g.met.B.Controller.told_names after) (g.met.B.Controller.no_draw after) (g.met.B.Controller.legal after))
    (g.met.B.Controller.are_names after) c.args.space c.args.terms c.terms_no-told.result c.requires.need
    (subst (λ x. IsGivenAs x c.args.machine.now c.give.new.machine) c.numbers_given.ensures c.give.ensures)
    c.terms_no-told.ensures.number c.terms_no-told.ensures.told c.terms_no-told.ensures.told_err).0

pub returns-clause-serving : goal.returns-clause-serving
returns-clause-serving g c =
    let book = c.args.book.now in
    let after = c.terms_no-told.new.self in
    let pages = c.journal.result.now in
    (terms_answered_by (g.B.Controller.roster book) (g.B.Controller.told book) (g.B.Controller.told after) c.args.machine.now c.give.new.machine c.requires.serving (g.B.Controller.names book) (g.B.Controller.names after)
    (g.met.B.Controller.told_names book) (g.met.B.Controller.told_names after) pages.requests
    (subst (λ l. All (IsPage pages.requests) l) c.journal.ensures.entries c.entries-entries.ensures.within.pages)
    (legal_told (g.B.Controller.roster book) (g.B.Controller.roster after) (g.B.Controller.names after) (g.B.Controller.told after) c.terms_no-told.ensures.roster (g.met.B.Controller.told_names after) (g.met.B.Controller.no_draw after) (g.met.B.Controller.legal after))
    (g.met.B.Controller.are_names after) c.args.space c.args.terms c.terms_no-told.result c.requires.need
    (subst (λ x. IsGivenAs x c.args.machine.now c.give.new.machine) c.numbers_given.ensures c.give.ensures)
    c.terms_no-told.ensures.number c.terms_no-told.ensures.told c.terms_no-told.ensures.told_err).1
