use Rattle.challenge_tokens.proofs.NameLemmas.{popped}
use Rattle.challenge_tokens.proofs.params.Params.pop.Goals as goal

pub invariant_of-self : goal.invariant_of-self
invariant_of-self c = popped c.pop.result c.self.inside.items c.pop.new.self c.self.invariant c.pop.ensures
