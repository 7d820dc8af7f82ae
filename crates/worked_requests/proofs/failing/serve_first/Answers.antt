use Rattle.std.proofs.Common.{refl, sym, subst}
use Rattle.auth_events.specs.Tables.{AreFew, Tables}
use Rattle.auth_events.specs.Told.{past}
use Rattle.link_trait.specs.Links.{IsUndialed}
use Rattle.serving_laws.specs.Draws.{AreEpochs}
use Rattle.serving_laws.specs.Rooms.{begun}
use Rattle.worked_requests.proofs.First.{first_ready, first_there}
use Rattle.worked_requests.proofs.failing.serve_first.Goals as goal

pub serve_alone-requires-clause-request : goal.serve_alone-requires-clause-request
serve_alone-requires-clause-request g c = first_there c.args.roster.now c.requires.one

pub serve_alone-requires-clause-unserved : goal.serve_alone-requires-clause-unserved
serve_alone-requires-clause-unserved g c =
    (first_ready c.args.roster.now (g.B.Controller.told c.args.book.now) c.args.words.now 1 c.requires.one c.requires.untold c.requires.words).unserved

pub serve_alone-requires-clause-settled : goal.serve_alone-requires-clause-settled
serve_alone-requires-clause-settled g c =
    (first_ready c.args.roster.now (g.B.Controller.told c.args.book.now) c.args.words.now 1 c.requires.one c.requires.untold c.requires.words).settled

pub serve_alone-requires-clause-few : goal.serve_alone-requires-clause-few
serve_alone-requires-clause-few g c =
    subst (AreFew (begun (past (g.B.Controller.told c.args.book.now)))) (g.met.B.Controller.told_names c.args.book.now)
    (first_ready c.args.roster.now (g.B.Controller.told c.args.book.now) c.args.words.now 1 c.requires.one c.requires.untold c.requires.words).few

pub serve_alone-requires-clause-words : goal.serve_alone-requires-clause-words
serve_alone-requires-clause-words g c =
    (first_ready c.args.roster.now (g.B.Controller.told c.args.book.now) c.args.words.now 1 c.requires.one c.requires.untold c.requires.words).as_many

pub serve_alone-requires-clause-draws : goal.serve_alone-requires-clause-draws
serve_alone-requires-clause-draws g c =
    (first_ready c.args.roster.now (g.B.Controller.told c.args.book.now) c.args.words.now 1 c.requires.one c.requires.untold c.requires.words).few_draws

pub serve_alone-requires-clause-epochs : goal.serve_alone-requires-clause-epochs
serve_alone-requires-clause-epochs g c =
    subst (λ (t : Tables). AreEpochs t (past (g.B.Controller.told c.args.book.now)) c.args.words.now) (g.met.B.Controller.told_names c.args.book.now)
    (first_ready c.args.roster.now (g.B.Controller.told c.args.book.now) c.args.words.now 1 c.requires.one c.requires.untold c.requires.words).epochs

pub serve_alone-requires-clause-undialed : goal.serve_alone-requires-clause-undialed
serve_alone-requires-clause-undialed g c n = subst (IsUndialed (record { request = 1; nth = n })) (sym c.requires.undialed) refl
