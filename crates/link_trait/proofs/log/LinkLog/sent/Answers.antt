use Rattle.std.proofs.Common.{◌≡◌, sym, subst, refl, true}
use Rattle.link_trait.specs.declared.dialer.Traffic.{Traffic}
use Rattle.link_trait.specs.declared.dialer.Traffic.TheVariants.{Sent}
use Rattle.link_trait.specs.Links.{has_link}
use Rattle.link_trait.specs.Recorded.{LogState, names_of}
use Rattle.link_trait.proofs.LogLemmas.{found, dialed_event, placed_event, ended_last_event}
use Rattle.link_trait.proofs.log.LinkLog.sent.Goals as goal

pub invariant_of-self-2 : goal.invariant_of-self-2
invariant_of-self-2 c =
    let it = c.self.inside in
    let name = c.args.name in
    let event : Traffic = Sent name c.in_ok-bytes.bytes in
    let has : has_link name (names_of it.«open».items) ≡ true =
    subst (λ (log : LogState). has_link name log.opened ≡ true) (sym c.self.view_is) c.requires in
    let open_link = found name it.«open».items it.dials it.traffic c.self.invariant.1 has in (
      rw c.in_ok-push.ensures.ok (dialed_event it.traffic event it.dials c.self.invariant.0 open_link.0),
      rw c.in_ok-push.ensures.ok (placed_event it.«open».items it.dials it.traffic event (λ _. refl) c.self.invariant.1),
      rw c.in_ok-push.ensures.ok (ended_last_event it.traffic event (λ _ _. refl) c.self.invariant.2),
    )

pub returns-clause-kept : goal.returns-clause-kept
returns-clause-kept c = let kept = invariant_of-self-2 c in record { dialed = kept.0; ended_last = kept.2 }
