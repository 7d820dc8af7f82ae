use Rattle.std.proofs.Common.{refl}
use Rattle.isolation.proofs.worked.worked_partitions.Goals as goal

pub returns : goal.returns
returns c =
    record {
      shared = ((((((((((((((((((((((tt, (refl, refl, refl)), (refl, refl, refl)), (refl, refl, refl)), (refl, refl, refl)), (refl, refl, refl)), (refl, refl, refl)), (refl, refl, refl)), (refl, refl, refl)), (refl, refl, refl)), (refl, refl, refl)), (refl, refl, refl)), (refl, refl, refl)), (refl, refl, refl)), (refl, refl, refl)), (refl, refl, refl)), (refl, refl, refl)), (refl, refl, refl)), (refl, refl, refl)), (refl, refl, refl)), (refl, refl, refl)), (refl, refl, refl)), (refl, refl, refl));
      alone_p = refl;
      alone_q = refl;
      legal_p = ((((((((tt, (refl, refl, refl)), (refl, refl, refl)), (refl, refl, refl)), (refl, refl, refl)), (refl, refl, refl)), (refl, refl, refl)), (refl, refl, refl)), (refl, refl, refl));
      legal_q = ((((((((((((((tt, (refl, refl, refl)), (refl, refl, refl)), (refl, refl, refl)), (refl, refl, refl)), (refl, refl, refl)), (refl, refl, refl)), (refl, refl, refl)), (refl, refl, refl)), (refl, refl, refl)), (refl, refl, refl)), (refl, refl, refl)), (refl, refl, refl)), (refl, refl, refl)), (refl, refl, refl));
      full = refl;
    }
