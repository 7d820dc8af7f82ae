use Rattle.challenge_tokens.proofs.WritingLemmas.{token68_again}
use Rattle.challenge_tokens.proofs.laws.token68_reads_back.Goals as goal

pub returns : goal.returns
returns c = token68_again
