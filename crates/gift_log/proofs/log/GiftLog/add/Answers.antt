-- One link more, and the number of the space's latest.
use Rattle.std.proofs.Common.{◌≡◌, ◌∙◌, ◌+◌, ◌++◌, ◌∷◌, ◌<◌, [], List, length, sym, subst, ap, arith}
use Rattle.std.proofs.lemmas.Grind.{common_steps}
use Rattle.std.proofs.lemmas.List.{length_push}
use Rattle.std.proofs.lemmas.Option.{slice_get-get_or}
use Rattle.std.specs.Prelude.{slice_set}
use Rattle.gift_log.specs.declared.log.Link.{Link}
use Rattle.gift_log.specs.Gifts.{GiftList}
use Rattle.gift_log.specs.Links.{AreLinked, kept_at}
use Rattle.gift_log.proofs.LinkLemmas.{length_map, linked_more}
use Rattle.gift_log.proofs.log.GiftLog.add.Goals as goal

pub invariant_of-self : goal.invariant_of-self
invariant_of-self c =
    let links = c.self.inside.links.items in
    let latest = c.self.inside.latest.items in
    let s = c.args.given.gift.space in
    let link : Link = record { given = c.args.given; before = c.index-before.result.now } in
    let within : s < length latest = omega (arith, c.requires.space, ap (λ (g : GiftList). g.spaces) c.self.view_is) in
    let is : c.index-before.result.now ≡ kept_at latest s = grind (arith, common_steps, slice_get-get_or latest s 0 within) in
    let pushed : c.push_reserved.new.self.items ≡ links ++ link ∷ [] = c.push_reserved.ensures.items in
    let longer : length c.push_reserved.new.self.items ≡ length links + 1 = ap (λ (xs : List Link). length xs) pushed ∙ length_push links link in
    let number : c.len.result ≡ length links + 1 = grind (arith, common_steps) in (
      subst (λ (xs : List Link). AreLinked xs (slice_set latest s c.len.result)) (sym pushed)
          (subst (λ n. AreLinked (links ++ link ∷ []) (slice_set latest s n)) (sym number) (linked_more links latest link c.self.invariant.0 within is)),
      omega (
        arith,
        longer,
        c.requires.room,
        ap (λ (g : GiftList). length g.givings) c.self.view_is,
        length_map (λ (one : Link). one.given) links,
        ap (λ (g : GiftList). g.room) c.self.view_is,
      ),
      grind (arith, common_steps),
    )
