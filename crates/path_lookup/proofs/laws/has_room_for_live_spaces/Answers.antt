use Rattle.path_lookup.proofs.Lasting.{free_row}
use Rattle.path_lookup.proofs.laws.has_room_for_live_spaces.Goals as goal

pub returns : goal.returns
returns c = λ roster names sites partition past notes s legal has in_it lives. free_row roster names sites partition past legal notes has s in_it lives
