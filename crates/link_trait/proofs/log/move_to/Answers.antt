use Rattle.std.proofs.Common.{◌≡◌, ◌<◌, get_or, length, arith}
use Rattle.std.proofs.lemmas.Grind.{common_steps}
use Rattle.std.proofs.lemmas.List.{get_or_default}
use Rattle.std.proofs.lemmas.List.Edits.{map_over_more}
use Rattle.link_trait.specs.declared.log.OpenLink.{OpenLink}
use Rattle.link_trait.specs.Recorded.{moved}
use Rattle.link_trait.proofs.log.move_to.Goals as goal

pub loop-link-preserved : goal.loop-link-preserved
loop-link-preserved c =
    let links = c.args.«open».now.items in
    let items = c.loop-link.link-items in
    let i = c.loop-link.link-index in
    let link : OpenLink = get_or items i (record { name = record { request = 0; nth = 0 }; place = 0 }) in
    let within : i < length links = grind (arith, common_steps) in
    let read : link ≡ get_or items i link =
    get_or_default items i _ _ (grind (arith, common_steps)) in
    rw c.moved.ensures (map_over_more (moved c.args.name c.args.place) links items i link within c.loop-link.invariant read)
