use Rattle.plain_book.proofs.Steps.{words_counted}
use Rattle.plain_book.proofs.words.words_count_steps.Goals as goal

pub returns : goal.returns
returns c = words_counted
