-- The space may be read, and is so.
use Rattle.std.proofs.Common.{◌≡◌, sym, subst}
use Rattle.std.proofs.Common.{IsTrue, Some, is_some}
use Rattle.std.specs.Prelude.{IfOk}
use Rattle.spaces.specs.Sites.{numbered}
use Rattle.auth_events.specs.Tables.{Tables}
use Rattle.auth_controller.specs.Answering.{IsGivenAs}
use Rattle.auth_controller.proofs.Arms.{setting_by}
use Rattle.auth_controller.proofs.Reading.{space_there, space_answered}
use Rattle.auth_controller.proofs.answers.answer_space_of.Goals as goal

pub space_of-told-requires : goal.space_of-told-requires
space_of-told-requires g c =
    let book = c.args.book.now in
    subst (λ (t : Tables). IsTrue (is_some (numbered t.spaces c.args.space))) (g.met.B.Controller.told_names book) (space_there (g.B.Controller.roster book) (g.B.Controller.told book) c.args.machine.now c.requires.serving c.args.space c.requires.need)

pub give-requires : goal.give-requires
give-requires g c =
    let book = c.args.book.now in
    setting_by (g.B.Controller.roster book) (g.B.Controller.told book) c.args.machine.now c.requires.serving

pub returns-clause-given : goal.returns-clause-given
returns-clause-given g c =
    let book = c.args.book.now in
    (space_answered (g.B.Controller.roster book) (g.B.Controller.told book) c.args.machine.now c.requires.serving c.args.space c.requires.need c.give.new.machine c.space_of-told.result
    (subst (λ (t : Tables). IfOk c.space_of-told.result (λ is. numbered t.spaces c.args.space ≡ Some is)) (sym (g.met.B.Controller.told_names book)) c.space_of-told.ensures)
    (subst (λ x. IsGivenAs x c.args.machine.now c.give.new.machine) c.space_given.ensures c.give.ensures)).0

pub returns-clause-serving : goal.returns-clause-serving
returns-clause-serving g c =
    let book = c.args.book.now in
    (space_answered (g.B.Controller.roster book) (g.B.Controller.told book) c.args.machine.now c.requires.serving c.args.space c.requires.need c.give.new.machine c.space_of-told.result
    (subst (λ (t : Tables). IfOk c.space_of-told.result (λ is. numbered t.spaces c.args.space ≡ Some is)) (sym (g.met.B.Controller.told_names book)) c.space_of-told.ensures)
    (subst (λ x. IsGivenAs x c.args.machine.now c.give.new.machine) c.space_given.ensures c.give.ensures)).1
