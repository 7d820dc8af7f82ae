use Rattle.auth_text.proofs.QuotedLemmas.{quoted_again}
use Rattle.auth_text.proofs.quoted.quoted_reads_back.Goals as goal

pub returns : goal.returns
returns c = quoted_again
