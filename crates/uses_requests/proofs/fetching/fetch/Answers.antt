use Rattle.uses_requests.proofs.First.{first_epochs, first_few, first_ready, first_there, obeyed}
use Rattle.uses_requests.proofs.fetching.fetch.Goals as goal

pub serve_alone-requires-clause-request : goal.serve_alone-requires-clause-request
serve_alone-requires-clause-request g c = first_there c.args.roster.now.requests c.requires.some

pub serve_alone-requires-clause-unserved : goal.serve_alone-requires-clause-unserved
serve_alone-requires-clause-unserved g c = (first_ready c.args.roster.now _ c.in_ok-words.words c.in_ok-book.ensures.told c.in_ok-words.ensures).unserved

pub serve_alone-requires-clause-settled : goal.serve_alone-requires-clause-settled
serve_alone-requires-clause-settled g c = (first_ready c.args.roster.now _ c.in_ok-words.words c.in_ok-book.ensures.told c.in_ok-words.ensures).settled

pub serve_alone-requires-clause-few : goal.serve_alone-requires-clause-few
serve_alone-requires-clause-few g c = first_few c.args.roster.now _ _ c.in_ok-words.words c.in_ok-book.ensures.told c.in_ok-book.ensures.names c.in_ok-words.ensures

pub serve_alone-requires-clause-words : goal.serve_alone-requires-clause-words
serve_alone-requires-clause-words g c = (first_ready c.args.roster.now _ c.in_ok-words.words c.in_ok-book.ensures.told c.in_ok-words.ensures).as_many

pub serve_alone-requires-clause-draws : goal.serve_alone-requires-clause-draws
serve_alone-requires-clause-draws g c = (first_ready c.args.roster.now _ c.in_ok-words.words c.in_ok-book.ensures.told c.in_ok-words.ensures).few_draws

pub serve_alone-requires-clause-epochs : goal.serve_alone-requires-clause-epochs
serve_alone-requires-clause-epochs g c = first_epochs c.args.roster.now _ _ c.in_ok-words.words c.in_ok-book.ensures.told c.in_ok-book.ensures.names c.in_ok-words.ensures

pub returns-clause-trace : goal.returns-clause-trace
returns-clause-trace g c found is = obeyed _ _ _ _ _ _ _ _ _ (c.in_ok-trace.ensures.served found is)
