use Rattle.std.proofs.Common.{◌<◌, length, ◌∙◌, arith}
use Rattle.challenge_tokens.proofs.InfoLemmas.{Meets, goes_within, ends_there, all_gathered, more_gathered}
use Rattle.challenge_tokens.proofs.info.read_info.Goals as goal

pub returns-then-n-text : goal.returns-then-n-text
returns-then-n-text c =
    let more = c.rest_of-text.result.now in
    let meets : Meets c.pieces.so_far c.blank_len.result c.pieces.rest.now more c.in_ok-more.field-0 =
    record { blanks = c.blank_len.ensures.value; behind = c.rest_of-text.ensures; next_is = c.in_ok-more.ensures } in
    c.into_params.ensures
    ∙ all_gathered c.args.value.now c.pieces.so_far c.in-Goes.more c.blank_len.result c.in-Goes.n c.pieces.rest.now more c.in_ok-more.field-0 meets c.in-Goes.is
    (omega arith) c.pieces.invariant

pub overflow_add-n : goal.overflow_add-n
overflow_add-n c =
    let more = c.rest_of-text.result.now in
    let meets : Meets c.pieces.so_far c.blank_len.result c.pieces.rest.now more c.in_ok-more.field-0 =
    record { blanks = c.blank_len.ensures.value; behind = c.rest_of-text.ensures; next_is = c.in_ok-more.ensures } in
    omega (arith, goes_within c.pieces.so_far c.in-Goes.more c.blank_len.result c.in-Goes.n c.pieces.rest.now more c.in_ok-more.field-0 meets c.in-Goes.is)

pub rest_of-rest-requires : goal.rest_of-rest-requires
rest_of-rest-requires c =
    let more = c.rest_of-text.result.now in
    let meets : Meets c.pieces.so_far c.blank_len.result c.pieces.rest.now more c.in_ok-more.field-0 =
    record { blanks = c.blank_len.ensures.value; behind = c.rest_of-text.ensures; next_is = c.in_ok-more.ensures } in
    omega (arith, goes_within c.pieces.so_far c.in-Goes.more c.blank_len.result c.in-Goes.n c.pieces.rest.now more c.in_ok-more.field-0 meets c.in-Goes.is)

pub pieces-preserved : goal.pieces-preserved
pieces-preserved c =
    let more = c.rest_of-text.result.now in
    let meets : Meets c.pieces.so_far c.blank_len.result c.pieces.rest.now more c.in_ok-more.field-0 =
    record { blanks = c.blank_len.ensures.value; behind = c.rest_of-text.ensures; next_is = c.in_ok-more.ensures } in
    let some : c.in-Goes.n < length more =
    omega (arith, goes_within c.pieces.so_far c.in-Goes.more c.blank_len.result c.in-Goes.n c.pieces.rest.now more c.in_ok-more.field-0 meets c.in-Goes.is) in
    rw c.rest_of-rest.ensures
    (more_gathered c.args.value.now c.pieces.so_far c.in-Goes.more c.blank_len.result c.in-Goes.n c.pieces.rest.now more c.in_ok-more.field-0 meets c.in-Goes.is
    some c.pieces.invariant)

pub returns-in-Ends : goal.returns-in-Ends
returns-in-Ends c =
    let more = c.rest_of-text.result.now in
    let meets : Meets c.pieces.so_far c.blank_len.result c.pieces.rest.now more c.in_ok-more.field-0 =
    record { blanks = c.blank_len.ensures.value; behind = c.rest_of-text.ensures; next_is = c.in_ok-more.ensures } in
    c.into_params-in-Ends.ensures
    ∙ ends_there c.args.value.now c.pieces.so_far c.in-Ends.last c.blank_len.result c.pieces.rest.now more c.in_ok-more.field-0 meets c.in-Ends.is c.pieces.invariant
