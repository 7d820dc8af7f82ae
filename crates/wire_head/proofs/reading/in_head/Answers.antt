use Rattle.std.proofs.Common.{take, sym, ap, ◌∙◌, arith}
use Rattle.wire_head.specs.Lines.{head_len}
use Rattle.wire_head.proofs.HeadSteps.{front_none, front_short, room_some, head_on_by, head_over_by, head_past}
use Rattle.wire_head.proofs.reading.in_head.Goals as goal

pub overflow_sub-result : goal.overflow_sub-result
overflow_sub-result c =
    let some = ap head_len (sym c.as_slice.ensures) ∙ sym c.in-Some.ensures.value in
    let past = head_past c.args.front c.front_of.result.now c.extend_from_slice.new.self c.in-Some.n c.requires.state.0 c.in_ok-extend_from_slice.ensures.ok some in
    omega (arith, past, c.len-before.ensures)

pub returns-in-None : goal.returns-in-None
returns-in-None c =
    let room = room_some c.args.at c.len-before.result c.min.result c.min-used.result c.args.front c.args.text.now c.requires.state c.requires.bytes c.len-before.ensures c.min.ensures c.min-used.ensures in
    let none = ap head_len (sym c.as_slice.ensures) ∙ sym c.in-None.ensures.value in
    head_on_by c.args.method c.args.at c.args.front c.args.text.now c.front_of.result.now c.extend_from_slice.new.self c.min-used.result
    c.unended_head.result c.requires.state room c.front_of.ensures c.in_ok-extend_from_slice.ensures.ok none c.unended_head.ensures

pub returns-in_ok-next-in-Some : goal.returns-in_ok-next-in-Some
returns-in_ok-next-in-Some c =
    let room = room_some c.args.at c.len-before.result c.min.result c.min-used.result c.args.front c.args.text.now c.requires.state c.requires.bytes c.len-before.ensures c.min.ensures c.min-used.ensures in
    let some = ap head_len (sym c.as_slice.ensures) ∙ sym c.in-Some.ensures.value in
    let last = c.front_of-in-Some.ensures ∙ ap (take c.in-Some.n) c.as_slice-in-Some.ensures in
    head_over_by c.args.method c.args.at c.args.front c.args.text.now c.front_of.result.now c.extend_from_slice.new.self
    c.front_of-in-Some.result.now c.len-before.result c.min-used.result c.in-Some.n c.in_ok-next-in-Some.next c.requires.state room.1
    c.front_of.ensures c.in_ok-extend_from_slice.ensures.ok some last c.len-before.ensures c.in_ok-next-in-Some.ensures

pub head_len_behind-requires : goal.head_len_behind-requires
head_len_behind-requires c =
    let front = front_none c.args.front c.front_of.result.now c.extend_from_slice.new.self c.as_slice.result.now c.len-before.result c.requires.state.0 c.len-before.ensures c.in_ok-extend_from_slice.ensures.ok c.as_slice.ensures in
    record { within = front.0; none = front.1 }

pub unended_head-requires-clause-within : goal.unended_head-requires-clause-within
unended_head-requires-clause-within c =
    (front_short c.args.at c.len-before.result c.args.front c.front_of.result.now c.extend_from_slice.new.self c.requires.state.1 c.len-before.ensures c.in_ok-extend_from_slice.ensures.ok).0

pub unended_head-requires-clause-short : goal.unended_head-requires-clause-short
unended_head-requires-clause-short c =
    (front_short c.args.at c.len-before.result c.args.front c.front_of.result.now c.extend_from_slice.new.self c.requires.state.1 c.len-before.ensures c.in_ok-extend_from_slice.ensures.ok).1
