use Rattle.std.proofs.Common.{subst, arith}
use Rattle.auth_events.specs.Tables.{AreFew, Tables}
use Rattle.auth_events.specs.Told.{names_told, past}
use Rattle.serving_laws.specs.Draws.{AreEpochs}
use Rattle.serving_laws.specs.Rooms.{begun}
use Rattle.lone_caller.proofs.Going.{there}
use Rattle.worked_requests.proofs.First.{first_ready}
use Rattle.worked_requests.proofs.Behind.{second_of_two, second_undialed}
use Rattle.worked_requests.proofs.prompting.serve_both.Goals as goal

pub serve_alone-requires-clause-draws : goal.serve_alone-requires-clause-draws
serve_alone-requires-clause-draws g c = (first_ready c.args.roster.now (g.B.Controller.told c.args.book.now) c.args.words.now 2 c.requires.two c.requires.untold c.requires.words).few_draws

pub serve_alone-requires-clause-epochs : goal.serve_alone-requires-clause-epochs
serve_alone-requires-clause-epochs g c =
    subst (λ (t : Tables). AreEpochs t (past (g.B.Controller.told c.args.book.now)) c.args.words.now) (g.met.B.Controller.told_names c.args.book.now)
    (first_ready c.args.roster.now (g.B.Controller.told c.args.book.now) c.args.words.now 2 c.requires.two c.requires.untold c.requires.words).epochs

pub serve_alone-requires-2-clause-request : goal.serve_alone-requires-2-clause-request
serve_alone-requires-2-clause-request g c = there c.args.roster.now 1 (omega (arith, c.requires.two))

pub serve_alone-requires-2-clause-unserved : goal.serve_alone-requires-2-clause-unserved
serve_alone-requires-2-clause-unserved g c =
    (second_of_two c.args.roster.now _ (g.B.Controller.told c.args.book.now) (g.B.Controller.told c.serve_alone.new.book) c.args.words.now c.serve_alone.new.words c.in_ok-first.first
    c.requires.two c.requires.untold c.requires.words c.in_ok-first.ensures.served).unserved

pub serve_alone-requires-2-clause-settled : goal.serve_alone-requires-2-clause-settled
serve_alone-requires-2-clause-settled g c =
    (second_of_two c.args.roster.now _ (g.B.Controller.told c.args.book.now) (g.B.Controller.told c.serve_alone.new.book) c.args.words.now c.serve_alone.new.words c.in_ok-first.first
    c.requires.two c.requires.untold c.requires.words c.in_ok-first.ensures.served).settled

pub serve_alone-requires-2-clause-few : goal.serve_alone-requires-2-clause-few
serve_alone-requires-2-clause-few g c =
    subst (AreFew (begun (past (g.B.Controller.told c.serve_alone.new.book)))) (g.met.B.Controller.told_names c.serve_alone.new.book)
    (second_of_two c.args.roster.now _ (g.B.Controller.told c.args.book.now) (g.B.Controller.told c.serve_alone.new.book) c.args.words.now c.serve_alone.new.words c.in_ok-first.first
    c.requires.two c.requires.untold c.requires.words c.in_ok-first.ensures.served).few

pub serve_alone-requires-2-clause-words : goal.serve_alone-requires-2-clause-words
serve_alone-requires-2-clause-words g c =
    (second_of_two c.args.roster.now _ (g.B.Controller.told c.args.book.now) (g.B.Controller.told c.serve_alone.new.book) c.args.words.now c.serve_alone.new.words c.in_ok-first.first
    c.requires.two c.requires.untold c.requires.words c.in_ok-first.ensures.served).as_many

pub serve_alone-requires-2-clause-draws : goal.serve_alone-requires-2-clause-draws
serve_alone-requires-2-clause-draws g c =
    (second_of_two c.args.roster.now _ (g.B.Controller.told c.args.book.now) (g.B.Controller.told c.serve_alone.new.book) c.args.words.now c.serve_alone.new.words c.in_ok-first.first
    c.requires.two c.requires.untold c.requires.words c.in_ok-first.ensures.served).few_draws

pub serve_alone-requires-2-clause-epochs : goal.serve_alone-requires-2-clause-epochs
serve_alone-requires-2-clause-epochs g c =
    subst (λ (t : Tables). AreEpochs t (past (g.B.Controller.told c.serve_alone.new.book)) c.serve_alone.new.words) (g.met.B.Controller.told_names c.serve_alone.new.book)
    (second_of_two c.args.roster.now _ (g.B.Controller.told c.args.book.now) (g.B.Controller.told c.serve_alone.new.book) c.args.words.now c.serve_alone.new.words c.in_ok-first.first
    c.requires.two c.requires.untold c.requires.words c.in_ok-first.ensures.served).epochs

pub serve_alone-requires-2-clause-undialed : goal.serve_alone-requires-2-clause-undialed
serve_alone-requires-2-clause-undialed g c n =
    second_undialed c.args.roster.now _ (names_told (g.B.Controller.told c.serve_alone.new.book)) (past (g.B.Controller.told c.serve_alone.new.book))
    c.requires.two c.requires.undialed c.in_ok-first.ensures.carried n
