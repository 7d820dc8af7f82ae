use Rattle.challenge_tokens.proofs.SpelledFields.{spelled_field}
use Rattle.challenge_tokens.proofs.laws.spellings_are_read.Goals as goal

pub returns : goal.returns
returns c = spelled_field
