use Rattle.std.proofs.Common.{◌≡◌, sym, ◌∙◌, false}
use Rattle.link_trait.specs.Links.{has_link}
use Rattle.origin_sim.specs.Peers.{names_of}
use Rattle.origin_sim.proofs.PeerLemmas.{first_place, no_place}
use Rattle.origin_sim.proofs.peers.place_of.Goals as goal

pub unreachable-requires : goal.unreachable-requires
unreachable-requires c =
    let none : has_link c.args.name (names_of c.args.peers.now) ≡ false =
    no_place c.args.name c.args.peers.now 0 (sym c.in-None.ensures.value) in
    cc (sym none ∙ c.requires)

pub returns-clause-first : goal.returns-clause-first
returns-clause-first c = first_place c.args.name c.args.peers.now c.in-Some.place (sym c.in-Some.ensures.value)
