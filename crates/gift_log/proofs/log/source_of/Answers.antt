-- Each link that is looked at is one of the gift's space.
use Rattle.std.proofs.Common.{◌≡◌, ◌∙◌, ◌-◌, ◌≤◌, sym, arith}
use Rattle.std.proofs.lemmas.Bool.Decides.{nat_tests}
use Rattle.std.proofs.lemmas.Option.{slice_get-get_or}
use Rattle.gift_log.specs.declared.log.Link.{Link}
use Rattle.gift_log.specs.declared.log.Source.TheVariants.{Url}
use Rattle.gift_log.proofs.LinkLemmas.{back_at, found_at, on_at, over_at, within_at}
use Rattle.gift_log.proofs.log.source_of.Goals as goal

abbrev nothing : Link
nothing = record { given = record { gift = record { space = 0; ordinal = 0 }; source = Url 0 }; before = 0 }

pub bounds-links-number : goal.bounds-links-number
bounds-links-number c =
    let some : 1 ≤ c.loop-number.number = grind (arith, nat_tests) in
    within_at c.args.links.now c.args.latest.now c.args.gift c.requires c.loop-number.number c.loop-number.invariant some

pub returns-then-eq : goal.returns-then-eq
returns-then-eq c =
    let links = c.args.links.now in
    let number = c.loop-number.number in
    let some : 1 ≤ number = grind (arith, nat_tests) in
    let within = within_at links c.args.latest.now c.args.gift c.requires number c.loop-number.invariant some in
    sym (found_at links c.args.latest.now c.args.gift c.requires number c.loop-number.invariant some _ (slice_get-get_or links (number - 1) nothing within) (sym c.eq.ensures ∙ c.if-eq.true))

pub loop-number-smaller : goal.loop-number-smaller
loop-number-smaller c =
    let links = c.args.links.now in
    let number = c.loop-number.number in
    let some : 1 ≤ number = grind (arith, nat_tests) in
    let within = within_at links c.args.latest.now c.args.gift c.requires number c.loop-number.invariant some in
    back_at links c.args.latest.now c.args.gift c.requires number c.loop-number.invariant some _ (slice_get-get_or links (number - 1) nothing within)

pub loop-number-preserved : goal.loop-number-preserved
loop-number-preserved c =
    let links = c.args.links.now in
    let number = c.loop-number.number in
    let some : 1 ≤ number = grind (arith, nat_tests) in
    let within = within_at links c.args.latest.now c.args.gift c.requires number c.loop-number.invariant some in
    on_at links c.args.latest.now c.args.gift c.requires number c.loop-number.invariant some _ (slice_get-get_or links (number - 1) nothing within) (sym c.eq.ensures ∙ c.if-eq.false)

pub returns : goal.returns
returns c =
    let none : c.loop-number.number ≡ 0 = grind (arith, nat_tests) in
    sym (over_at c.args.links.now c.args.latest.now c.args.gift c.requires c.loop-number.number c.loop-number.invariant none)
