use Rattle.auth_book.proofs.Deciding.{replies_so}
use Rattle.auth_book.proofs.laws.replies_as_the_book.Goals as goal

pub returns : goal.returns
returns c = λ roster names past index are few legal stands caller r call may. replies_so roster names are few past legal index stands caller r call may
