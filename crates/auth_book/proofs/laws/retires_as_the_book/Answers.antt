use Rattle.std.proofs.Common.{sym}
use Rattle.auth_book.proofs.RetiredHere.{retired_here}
use Rattle.auth_book.proofs.laws.retires_as_the_book.Goals as goal

pub returns : goal.returns
returns c = λ roster names past entry index legal stands. sym (retired_here roster names past legal.0 index stands entry legal.1)
