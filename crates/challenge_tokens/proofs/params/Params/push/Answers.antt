use Rattle.challenge_tokens.proofs.NameLemmas.{pushed}
use Rattle.challenge_tokens.proofs.params.Params.push.Goals as goal

pub invariant_of-self : goal.invariant_of-self
invariant_of-self c =
    pushed c.push.result c.self.inside.items c.push.new.self c.args.param c.self.invariant c.requires.lower
    (rw c.self.view_is c.requires.fresh) c.push.ensures.ok c.push.ensures.err
