use Rattle.space_keys.proofs.KeyLemmas.{same_site_keys}
use Rattle.space_keys.proofs.laws.keys_tell_sites.Goals as goal

pub returns : goal.returns
returns c = same_site_keys
