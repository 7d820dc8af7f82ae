use Rattle.std.proofs.Common.{◌<◌, arith}
use Rattle.std.proofs.lemmas.List.Elements.{All-from_get_or}
use Rattle.session_text.proofs.WordLemmas.{same_encoding}
use Rattle.session_text.proofs.word.escape.Goals as goal

pub returns : goal.returns
returns c =
    let small = All-from_get_or (λ b. b < 256) c.args.value.now 0 (λ i within. omega (arith, c.type_inv.value i)) in
    rw (c.in_ok-append_to.ensures.ok, c.new-text.ensures.bytes, c.percent_encode.ensures.text) (same_encoding _ small)
