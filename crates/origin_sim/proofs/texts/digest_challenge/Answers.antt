use Rattle.std.proofs.Common.{refl}
use Rattle.origin_sim.proofs.texts.digest_challenge.Goals as goal

pub returns : goal.returns
returns c =
    rw (
      c.in_ok-push_stale.ensures,
      c.in_ok-push_named-3.ensures,
      c.in_ok-push_algorithm.ensures,
      c.in_ok-push_named-2.ensures,
      c.in_ok-push_named.ensures,
      c.new-text.ensures,
    ) refl
