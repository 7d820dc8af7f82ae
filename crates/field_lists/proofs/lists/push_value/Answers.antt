use Rattle.std.proofs.Common.{rules, tests, ◌++◌, ◌==◌, ◌∙◌, ap}
use Rattle.std.proofs.lemmas.Iterator.Consumers.{YieldsList-end}
use Rattle.std.proofs.lemmas.Iterator.Splits.{YieldsList-from_slice_split}
use Rattle.field_lists.specs.Elements.{of_pieces}
use Rattle.field_lists.proofs.lists.push_value.Goals as goal

pub returns : goal.returns
returns c =
    let road = YieldsList-from_slice_split _ (λ b. b == 44) c.args.value.now (cc) (cc) (cc) (λ x r q k. search (rules, tests)) in
    let all = YieldsList-end road c.loop-piece.yielded _ c.loop-piece.yielded_by _ _ c.in-None.is c.next.ensures.steps in
    c.loop-piece.invariant ∙ ap (λ ps. c.args.them.now ++ of_pieces ps) all.0
