use Rattle.std.proofs.Common.{◌≡◌, List, subst}
use Rattle.std.proofs.Math.Logic.{∥∥₁_map}
use Rattle.link_trait.specs.declared.dialer.Dial.{Dial}
use Rattle.link_trait.specs.declared.dialer.Traffic.{Traffic}
use Rattle.origin_sim.specs.Worlds.{since}
use Rattle.origin_sim.specs.Exchanges.{IsSimulated}
use Rattle.origin_sim.proofs.sim_dialer.SimDialer.world.Goals as goal

pub returns-clause-simulates : goal.returns-clause-simulates
returns-clause-simulates c = λ dials traffic is_dials is_traffic.
    let it = c.args.self.now in
    let start = since it.before it.world in
    let same_dials : it.log.dials ≡ dials = cc is_dials in
    let same_traffic : it.log.traffic ≡ traffic = cc is_traffic in
    ∥∥₁_map it.serving (λ was. (
      was.exchanges,
      subst (λ (events : List Traffic). IsSimulated start dials events was.exchanges it.world) same_traffic
          (subst (λ (ds : List Dial). IsSimulated start ds it.log.traffic was.exchanges it.world) same_dials was.simulated),
    ))
