use Rattle.std.proofs.Common.{◌≡◌, ◌∙◌, ℕ, ◌+◌, [], ◌∷◌, ◌++◌, sym, subst, true, false, ap, length}
use Rattle.link_trait.specs.declared.dialer.Traffic.TheVariants.{Received}
use Rattle.link_trait.specs.Links.{has_link, has_ended, heard_on}
use Rattle.link_trait.specs.Recorded.{LogState, names_of}
use Rattle.link_trait.proofs.LogLemmas.{found, dialed_event, placed_received, names_moved, ended_last_received}
use Rattle.link_trait.proofs.log.LinkLog.received.Goals as goal

pub invariant_of-self-2 : goal.invariant_of-self-2
invariant_of-self-2 c =
    let it = c.self.inside in
    let name = c.args.name in
    let bytes = c.in_ok-bytes.bytes in
    let place = c.place.result + length c.args.bytes.now in
    let has : has_link name (names_of it.«open».items) ≡ true =
    subst (λ (log : LogState). has_link name log.opened ≡ true) (sym c.self.view_is) c.requires.«open» in
    let more : has_ended name it.traffic ≡ false =
    subst (λ (log : LogState). has_ended name log.traffic ≡ false) (sym c.self.view_is) c.requires.more in
    let open_link = found name it.«open».items it.dials it.traffic c.self.invariant.1 has in
    let at : place ≡ length (heard_on name it.traffic) + length bytes =
    rw c.in_ok-bytes.ensures (ap (λ (n : ℕ). n + length c.args.bytes.now)
    (c.place.ensures ∙ ap (λ (log : LogState). length (heard_on name log.traffic)) (sym c.self.view_is))) in (
      rw c.in_ok-push.ensures.ok (dialed_event it.traffic (Received name bytes) it.dials c.self.invariant.0 open_link.0),
      rw (c.move_to.ensures, c.in_ok-push.ensures.ok)
          (placed_received it.«open».items it.dials it.traffic name bytes place at c.self.invariant.1),
      rw c.in_ok-push.ensures.ok (ended_last_received it.traffic name bytes more c.self.invariant.2),
    )

pub returns-clause-ok : goal.returns-clause-ok
returns-clause-ok c =
    rw (c.move_to.ensures, names_moved, c.in_ok-push.ensures.ok, c.in_ok-bytes.ensures)
    (ap (λ (log : LogState). record {
      dials = log.dials;
      traffic = log.traffic ++ Received c.args.name c.args.bytes.now ∷ [];
      opened = log.opened;
    }) c.self.view_is)

pub returns-clause-kept : goal.returns-clause-kept
returns-clause-kept c = let kept = invariant_of-self-2 c in record { dialed = kept.0; ended_last = kept.2 }
