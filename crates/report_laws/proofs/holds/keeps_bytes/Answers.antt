use Rattle.std.proofs.Common.{arith}
use Rattle.report_laws.proofs.WordLemmas.{are_bytes_by}
use Rattle.report_laws.proofs.holds.keeps_bytes.Goals as goal

pub returns : goal.returns
returns c = are_bytes_by c.args.bytes.now (λ i within. let h = c.type_inv.bytes i in omega (arith, h.fits))
