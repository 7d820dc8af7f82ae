use Rattle.serving_laws.proofs.Calling.{text_taken}
use Rattle.serving_laws.proofs.calls.next_texts_are_taken.Goals as goal

pub returns : goal.returns
returns c = text_taken
