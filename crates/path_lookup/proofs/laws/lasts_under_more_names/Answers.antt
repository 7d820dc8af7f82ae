use Rattle.path_lookup.proofs.Lasting.{lasts}
use Rattle.path_lookup.proofs.laws.lasts_under_more_names.Goals as goal

pub returns : goal.returns
returns c = λ roster names more sites more_sites partition past notes legal legal_more same sites_same has.
    lasts roster names more sites more_sites partition past notes legal legal_more same sites_same has
