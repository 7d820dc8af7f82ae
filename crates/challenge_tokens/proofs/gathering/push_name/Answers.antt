use Rattle.challenge_tokens.proofs.IndexLemmas.{name_inserted}
use Rattle.challenge_tokens.proofs.gathering.push_name.Goals as goal

pub returns-clause-names : goal.returns-clause-names
returns-clause-names c q =
    name_inserted c.args.names.now c.insert.new.self c.in_ok-from_slice.field-0 c.args.name.now c.in_ok-from_slice.ensures.items c.in_ok-added.ensures.keys q
