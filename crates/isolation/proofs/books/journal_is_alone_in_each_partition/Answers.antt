use Rattle.auth_events.specs.Told.{journal}
use Rattle.isolation.proofs.books.journal_is_alone_in_each_partition.Goals as goal
use Rattle.isolation.proofs.Law.{alone_legal}

pub returns : goal.returns
returns g c = λ partition.
    alone_legal (g.B.Controller.roster c.args.book.now) (g.B.Controller.names c.args.book.now) partition
    (g.met.B.Controller.are_names c.args.book.now) (journal (g.B.Controller.told c.args.book.now)) (g.met.B.Controller.legal c.args.book.now)
