use Rattle.challenge_tokens.proofs.IndexLemmas.{index_joined}
use Rattle.challenge_tokens.proofs.gathering.long_names.Goals as goal

pub returns-clause-names : goal.returns-clause-names
returns-clause-names c =
    index_joined c.args.names c.push_name.new.names c.args.params.now c.args.more.now c.as_slice.result.now c.as_slice.ensures c.requires
    c.in_ok-is_new.ensures.names
