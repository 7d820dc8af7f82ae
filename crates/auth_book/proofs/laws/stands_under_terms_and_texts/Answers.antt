use Rattle.auth_book.proofs.AddSpace.{stands_with_terms, stands_with_text}
use Rattle.auth_book.proofs.laws.stands_under_terms_and_texts.Goals as goal

pub returns-clause-terms : goal.returns-clause-terms
returns-clause-terms c = λ roster names name past index are few legal stands. stands_with_terms roster names are past legal index stands name

pub returns-clause-texts : goal.returns-clause-texts
returns-clause-texts c = λ roster names text past index are few legal stands. stands_with_text roster names are past legal index stands text
