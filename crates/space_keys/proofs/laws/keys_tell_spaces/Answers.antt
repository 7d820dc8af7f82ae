use Rattle.space_keys.proofs.KeyLemmas.{same_space_keys}
use Rattle.space_keys.proofs.laws.keys_tell_spaces.Goals as goal

pub returns : goal.returns
returns c = same_space_keys
