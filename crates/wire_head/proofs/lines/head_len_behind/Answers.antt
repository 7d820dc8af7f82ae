use Rattle.std.proofs.Common.{◌≡◌, ◌+◌, Some, None}
use Rattle.wire_head.specs.Lines.{head_len}
use Rattle.wire_head.proofs.HeadLengthLemmas.{found_from, some_within}
use Rattle.wire_head.proofs.lines.head_len_behind.Goals as goal

pub returns-in-Some : goal.returns-in-Some
returns-in-Some c =
    let found : Some (c.saturating_sub-from.result + c.in-Some.n) ≡ head_len c.args.text.now =
    found_from c.saturating_sub-from.result c.args.before c.args.text.now c.rest_of.result.now (Some c.in-Some.n) c.saturating_sub-from.ensures
    c.requires.within c.requires.none c.rest_of.ensures c.in-Some.ensures.value in
    record { value = found; within = some_within c.args.text.now (c.saturating_sub-from.result + c.in-Some.n) found }

pub returns-in-None-clause-value : goal.returns-in-None-clause-value
returns-in-None-clause-value c =
    found_from c.saturating_sub-from.result c.args.before c.args.text.now c.rest_of.result.now None c.saturating_sub-from.ensures
    c.requires.within c.requires.none c.rest_of.ensures c.in-None.ensures.value
