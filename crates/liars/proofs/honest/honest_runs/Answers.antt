use Rattle.liars.proofs.Kept.{honest_one, honest_two, honest_two_callers, honest_cut}
use Rattle.liars.proofs.Proxying.{honest_proxied}
use Rattle.liars.proofs.Sharing.{honest_sharing}
use Rattle.liars.proofs.Drawing.{honest_draws}
use Rattle.liars.proofs.Renewing.{honest_renewal}
use Rattle.liars.proofs.honest.honest_runs.Goals as goal

pub returns : goal.returns
returns c = record {
  one = honest_one;
  two = honest_two;
  two_callers = honest_two_callers;
  proxied = honest_proxied;
  shared = honest_sharing;
  cut = honest_cut;
  renewed = honest_renewal;
  draws = honest_draws;
}
