use Rattle.std.proofs.Common.{◌≡◌, ap, sym, arith}
use Rattle.origin_sim.specs.Generated.{partition}
use Rattle.origin_sim.proofs.generator.partition_name.Goals as goal

pub returns-in-0 : goal.returns-in-0
returns-in-0 c = ap partition (sym c.in-0.is)

pub returns-in-1 : goal.returns-in-1
returns-in-1 c = ap partition (sym c.in-1.is)

pub returns-in_default : goal.returns-in_default
returns-in_default c =
    let two : c.args.p ≡ 2 = omega arith in
    ap partition (sym two)
