use Rattle.auth_events.specs.Book.{is_of_partition}
use Rattle.path_lookup.proofs.Deepest.{deepest_is, site_partition}
use Rattle.path_lookup.proofs.laws.finds_by_path.Goals as goal

pub returns : goal.returns
returns c = λ roster names sites past notes n place path legal has agree.
    deepest_is roster names sites (is_of_partition names place.partition) past legal notes has n place path (site_partition names place) agree
