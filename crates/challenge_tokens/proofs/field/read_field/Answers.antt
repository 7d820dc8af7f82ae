use Rattle.std.proofs.Common.{◌≡◌, ◌+◌, ◌<◌, length, subst, IfOk, arith, length-drop}
use Rattle.challenge_tokens.specs.declared.challenge.FieldRead.{FieldRead}
use Rattle.challenge_tokens.proofs.SeamLemmas.{sees, seen_within, refused_there, all_read, more_read}
use Rattle.challenge_tokens.proofs.field.read_field.Goals as goal

pub overflow_add-n : goal.overflow_add-n
overflow_add-n c =
    let r = c.pieces.reading in
    let blank = c.blank_len-blank.result in
    let text = c.pieces.rest.now in
    let known = sees r blank text c.rest_of.result.now c.in_ok-next.field-0 c.blank_len-blank.ensures.value c.rest_of.ensures c.in_ok-next.ensures in
    omega (arith, seen_within r c.in-Goes.next blank c.in-Goes.len text c.in_ok-next.field-0 known c.in-Goes.is)

pub overflow_add-at : goal.overflow_add-at
overflow_add-at c =
    let r = c.pieces.reading in
    let blank = c.blank_len-blank.result in
    let text = c.pieces.rest.now in
    let known = sees r blank text c.rest_of.result.now c.in_ok-next.field-0 c.blank_len-blank.ensures.value c.rest_of.ensures c.in_ok-next.ensures in
    omega (arith, seen_within r c.in-Goes.next blank c.in-Goes.len text c.in_ok-next.field-0 known c.in-Goes.is)

pub overflow_add-at-in-Goes : goal.overflow_add-at-in-Goes
overflow_add-at-in-Goes c =
    let r = c.pieces.reading in
    let blank = c.blank_len-blank.result in
    let text = c.pieces.rest.now in
    let known = sees r blank text c.rest_of.result.now c.in_ok-next.field-0 c.blank_len-blank.ensures.value c.rest_of.ensures c.in_ok-next.ensures in
    omega (arith, seen_within r c.in-Goes.next blank c.in-Goes.len text c.in_ok-next.field-0 known c.in-Goes.is)

pub overflow_add-n-in-Goes : goal.overflow_add-n-in-Goes
overflow_add-n-in-Goes c =
    let r = c.pieces.reading in
    let blank = c.blank_len-blank.result in
    let text = c.pieces.rest.now in
    let known = sees r blank text c.rest_of.result.now c.in_ok-next.field-0 c.blank_len-blank.ensures.value c.rest_of.ensures c.in_ok-next.ensures in
    omega (arith, seen_within r c.in-Goes.next blank c.in-Goes.len text c.in_ok-next.field-0 known c.in-Goes.is)

pub rest_of-rest-requires : goal.rest_of-rest-requires
rest_of-rest-requires c =
    let r = c.pieces.reading in
    let blank = c.blank_len-blank.result in
    let text = c.pieces.rest.now in
    let known = sees r blank text c.rest_of.result.now c.in_ok-next.field-0 c.blank_len-blank.ensures.value c.rest_of.ensures c.in_ok-next.ensures in
    omega (arith, seen_within r c.in-Goes.next blank c.in-Goes.len text c.in_ok-next.field-0 known c.in-Goes.is)

pub returns-in-Refused : goal.returns-in-Refused
returns-in-Refused c =
    let r = c.pieces.reading in
    let blank = c.blank_len-blank.result in
    let text = c.pieces.rest.now in
    let known = sees r blank text c.rest_of.result.now c.in_ok-next.field-0 c.blank_len-blank.ensures.value c.rest_of.ensures c.in_ok-next.ensures in
    let P = λ (x : FieldRead). IfOk c.field-in-Refused.result (λ read. read ≡ x) in
    subst P
    (refused_there c.args.value.now r c.in-Refused.last c.pieces.at blank text c.in_ok-next.field-0 known c.in-Refused.is c.pieces.invariant.1)
    c.field-in-Refused.ensures

pub returns-then-n-rest : goal.returns-then-n-rest
returns-then-n-rest c =
    let r = c.pieces.reading in
    let blank = c.blank_len-blank.result in
    let text = c.pieces.rest.now in
    let known = sees r blank text c.rest_of.result.now c.in_ok-next.field-0 c.blank_len-blank.ensures.value c.rest_of.ensures c.in_ok-next.ensures in
    let P = λ (x : FieldRead). IfOk c.field.result (λ read. read ≡ x) in
    subst P
    (all_read c.args.value.now r c.in-Goes.next c.pieces.at blank c.in-Goes.len text c.in_ok-next.field-0 known c.in-Goes.is (omega arith)
    c.pieces.invariant.1)
    c.field.ensures

pub pieces-preserved : goal.pieces-preserved
pieces-preserved c =
    let r = c.pieces.reading in
    let blank = c.blank_len-blank.result in
    let text = c.pieces.rest.now in
    let known = sees r blank text c.rest_of.result.now c.in_ok-next.field-0 c.blank_len-blank.ensures.value c.rest_of.ensures c.in_ok-next.ensures in
    let len = c.in-Goes.len in
    let more : blank + len < length text = omega (arith, seen_within r c.in-Goes.next blank len text c.in_ok-next.field-0 known c.in-Goes.is) in
    let later = more_read c.args.value.now r c.in-Goes.next c.pieces.at blank len text c.in_ok-next.field-0 known c.in-Goes.is more c.pieces.invariant.1 in
    rw c.rest_of-rest.ensures (omega (arith, length-drop (blank + len + 1) text, c.pieces.invariant.0), later)
