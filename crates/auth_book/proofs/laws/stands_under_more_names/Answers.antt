use Rattle.auth_book.proofs.AddSpace.{stands_with_space}
use Rattle.auth_book.proofs.laws.stands_under_more_names.Goals as goal

pub returns : goal.returns
returns c = λ roster names space past index after are legal stands count grown has_record partitions prompts led requests epochs. stands_with_space roster names space are past legal index after stands grown count has_record partitions prompts led requests epochs
