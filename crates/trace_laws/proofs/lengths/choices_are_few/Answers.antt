use Rattle.trace_laws.proofs.Choices.{few_choices}
use Rattle.trace_laws.proofs.lengths.choices_are_few.Goals as goal

pub returns : goal.returns
returns c = few_choices
