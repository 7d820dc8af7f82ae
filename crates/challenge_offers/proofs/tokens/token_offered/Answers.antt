use Rattle.std.proofs.Common.{◌≡◌, ◌∙◌, ◌<◌, length, Some, None, arith, sym}
use Rattle.trace_rule.specs.Challenges.{challenges_in}
use Rattle.challenge_offers.specs.Tokens.{token_among}
use Rattle.challenge_offers.proofs.Peers.{told_in, found_here, found_behind}
use Rattle.challenge_offers.proofs.tokens.token_offered.Goals as goal

pub returns-in-Some : goal.returns-in-Some
returns-in-Some c =
    let item = c.field-item.result in
    let told = c.as_slice-in-loop-field.result.now in
    let within : c.loop-field.field-index < length c.as_slice-field-items.result.now = omega arith in
    let same = told_in item c.as_slice.result.now c.in_ok-read.read told c.as_slice.ensures c.in_ok-read.ensures c.as_slice-in-loop-field.ensures in
    let found : token_among (challenges_in item) ≡ Some c.in-Some.token = sym same ∙ sym c.in_ok-token.ensures ∙ c.in-Some.is in
    sym (c.loop-field.invariant ∙ found_here c.as_slice-field-items.result.now c.loop-field.field-index item c.in-Some.token within c.field-item.is found)

pub loop-field-preserved : goal.loop-field-preserved
loop-field-preserved c =
    let item = c.field-item.result in
    let told = c.as_slice-in-loop-field.result.now in
    let within : c.loop-field.field-index < length c.as_slice-field-items.result.now = omega arith in
    let same = told_in item c.as_slice.result.now c.in_ok-read.read told c.as_slice.ensures c.in_ok-read.ensures c.as_slice-in-loop-field.ensures in
    let none : token_among (challenges_in item) ≡ None = sym same ∙ sym c.in_ok-token.ensures ∙ c.in_default.is in
    c.loop-field.invariant ∙ found_behind c.as_slice-field-items.result.now c.loop-field.field-index item within c.field-item.is none
