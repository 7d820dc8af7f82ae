use Rattle.std.proofs.Common.{◌≡◌, ◌∷◌, [], List, sym, subst, false}
use Rattle.link_trait.specs.declared.dialer.Dial.{Dial}
use Rattle.link_trait.specs.Links.{has_dial}
use Rattle.link_trait.specs.Recorded.{LogState}
use Rattle.link_trait.proofs.LogLemmas.{dialed_more, placed_dialed}
use Rattle.link_trait.proofs.log.LinkLog.dialed.Goals as goal

pub invariant_of-self-2 : goal.invariant_of-self-2
invariant_of-self-2 c =
    let it = c.self.inside in
    let name = c.args.name in
    let to = c.in_ok-to.to in
    let more : List Dial = record { link = name; to = to } ∷ [] in
    let hasnt : has_dial name it.dials ≡ false =
    subst (λ (log : LogState). has_dial name log.dials ≡ false) (sym c.self.view_is) c.requires in (
      rw c.in_ok-push.ensures.ok (dialed_more it.traffic it.dials more c.self.invariant.0),
      rw (c.push_reserved.ensures.items, c.reserve.ensures.items, c.in_ok-push.ensures.ok)
          (placed_dialed it.«open».items it.dials it.traffic name to c.self.invariant.0 c.self.invariant.1 hasnt),
      c.self.invariant.2,
    )

pub returns-clause-kept : goal.returns-clause-kept
returns-clause-kept c = let kept = invariant_of-self-2 c in record { dialed = kept.0; ended_last = kept.2 }
