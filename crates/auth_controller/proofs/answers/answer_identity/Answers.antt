-- The identity may be read, and is so.
use Rattle.std.proofs.Common.{◌≡◌, sym, subst}
use Rattle.std.proofs.Common.{Some}
use Rattle.std.specs.Prelude.{IfOk}
use Rattle.auth_events.specs.Identities.{identity}
use Rattle.auth_events.specs.Tables.{Tables}
use Rattle.auth_events.specs.Told.{past}
use Rattle.auth_controller.specs.Answering.{IsGivenAs}
use Rattle.auth_controller.proofs.Arms.{setting_by}
use Rattle.auth_controller.proofs.Reading.{identity_there, identity_answered}
use Rattle.auth_controller.proofs.answers.answer_identity.Goals as goal

pub identity_of-told-requires : goal.identity_of-told-requires
identity_of-told-requires g c =
    let book = c.args.book.now in
    identity_there (g.B.Controller.roster book) (g.B.Controller.told book) c.args.machine.now c.requires.serving c.args.gift c.requires.need

pub give-requires : goal.give-requires
give-requires g c =
    let book = c.args.book.now in
    setting_by (g.B.Controller.roster book) (g.B.Controller.told book) c.args.machine.now c.requires.serving

pub returns-clause-given : goal.returns-clause-given
returns-clause-given g c =
    let book = c.args.book.now in
    (identity_answered (g.B.Controller.roster book) (g.B.Controller.told book) c.args.machine.now c.requires.serving c.args.gift c.requires.need c.give.new.machine c.identity_of-told.result
    (subst (λ (t : Tables). IfOk c.identity_of-told.result (λ is. identity (g.B.Controller.roster book) t (past (g.B.Controller.told book)) c.args.gift ≡ Some is)) (sym (g.met.B.Controller.told_names book)) c.identity_of-told.ensures)
    (subst (λ x. IsGivenAs x c.args.machine.now c.give.new.machine) c.identity_given.ensures c.give.ensures)).0

pub returns-clause-serving : goal.returns-clause-serving
returns-clause-serving g c =
    let book = c.args.book.now in
    (identity_answered (g.B.Controller.roster book) (g.B.Controller.told book) c.args.machine.now c.requires.serving c.args.gift c.requires.need c.give.new.machine c.identity_of-told.result
    (subst (λ (t : Tables). IfOk c.identity_of-told.result (λ is. identity (g.B.Controller.roster book) t (past (g.B.Controller.told book)) c.args.gift ≡ Some is)) (sym (g.met.B.Controller.told_names book)) c.identity_of-told.ensures)
    (subst (λ x. IsGivenAs x c.args.machine.now c.give.new.machine) c.identity_given.ensures c.give.ensures)).1
