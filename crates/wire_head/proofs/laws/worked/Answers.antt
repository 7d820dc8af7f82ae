use Rattle.std.proofs.Common.{refl}
use Rattle.httparse.proofs.OnLiterals.{httparse_on_literals}
use Rattle.wire_head.proofs.laws.worked.Goals as goal

pub returns : goal.returns
unfolding httparse_on_literals
returns c = record { cut = refl; lengths = refl; no_head = refl; too_long = refl; interim = refl; blank_first = refl; blank_only = refl; chunked = refl; info = refl; both_infos = refl; challenge = refl }
