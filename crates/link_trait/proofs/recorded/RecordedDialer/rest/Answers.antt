use Rattle.link_trait.specs.Links.{stream_in}
use Rattle.link_trait.proofs.LogLemmas.{none_left}
use Rattle.link_trait.proofs.recorded.RecordedDialer.rest.Goals as goal

pub returns-clause-more : goal.returns-clause-more
returns-clause-more c = λ left.
    none_left (stream_in c.args.self.now.links) c.args.self.now.log.traffic c.args.name c.args.self.now.read_out
    (λ none. left (rw (c.behind.ensures, c.place.ensures, c.stream_in.ensures) none))
