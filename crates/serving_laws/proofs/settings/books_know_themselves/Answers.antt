use Rattle.serving_laws.proofs.Knowing.{knows_itself}
use Rattle.serving_laws.proofs.settings.books_know_themselves.Goals as goal

pub returns : goal.returns
returns c = knows_itself
