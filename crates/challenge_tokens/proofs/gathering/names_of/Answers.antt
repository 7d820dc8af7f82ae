use Rattle.challenge_tokens.proofs.IndexLemmas.{index_more}
use Rattle.challenge_tokens.proofs.gathering.names_of.Goals as goal

pub loop-param-preserved : goal.loop-param-preserved
loop-param-preserved c =
    index_more c.loop-param.names c.push_name.new.names c.args.params.now c.loop-param.param-index c.param-item.result c.as_slice.result.now
    c.loop-param-test.true c.param-item.is c.as_slice.ensures c.loop-param.invariant c.in_ok-push_name.ensures.names
