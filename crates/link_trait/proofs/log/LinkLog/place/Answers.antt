use Rattle.std.proofs.Common.{◌≡◌, ◌∙◌, sym, subst, ap, length, true}
use Rattle.link_trait.specs.Links.{has_link, heard_on}
use Rattle.link_trait.specs.Recorded.{LogState, names_of, place_in}
use Rattle.link_trait.proofs.LogLemmas.{found}
use Rattle.link_trait.proofs.log.LinkLog.place.Goals as goal

pub returns : goal.returns
returns c =
    let it = c.self.inside in
    let name = c.args.name in
    let has : has_link name (names_of it.«open».items) ≡ true =
    subst (λ (log : LogState). has_link name log.opened ≡ true) (sym c.self.view_is) c.requires in
    c.place_in.ensures
    ∙ ap (place_in name) c.as_slice.ensures.value
    ∙ (found name it.«open».items it.dials it.traffic c.self.invariant.1 has).1
    ∙ ap (λ (log : LogState). length (heard_on name log.traffic)) c.self.view_is
