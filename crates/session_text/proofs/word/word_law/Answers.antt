use Rattle.session_text.proofs.WordLemmas.{word_again}
use Rattle.session_text.proofs.word.word_law.Goals as goal

pub returns : goal.returns
returns c = word_again
