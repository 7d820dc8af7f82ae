use Rattle.serving_laws.proofs.Knowing.{knew_before}
use Rattle.serving_laws.proofs.settings.what_is_known_was_known.Goals as goal

pub returns : goal.returns
returns c = knew_before
