use Rattle.std.proofs.Common.{sym, ap, ◌∙◌, refl}
use Rattle.wire_head.specs.HeadLines.{head_read}
use Rattle.wire_head.proofs.HeadBackLemmas.{is_found, is_not_found}
use Rattle.wire_head.proofs.head_reader.read_head.Goals as goal

pub returns-in-Ok-Some : goal.returns-in-Ok-Some
returns-in-Ok-Some c =
    is_found c.args.bytes.now c.in-Some.length c.in-Ok-Some.head (sym c.in-Some.ensures.value)
    (ap head_read (sym c.front_of.ensures) ∙ sym c.in-Ok-Some.ensures ∙ c.in-Ok-Some.field-0-is)

pub returns-in-Ok-None : goal.returns-in-Ok-None
returns-in-Ok-None c = (
  rw (← c.in-Some.ensures.value) refl,
  is_not_found c.args.bytes.now c.in-Some.length (sym c.in-Some.ensures.value)
      (ap head_read (sym c.front_of.ensures) ∙ sym c.in-Ok-None.ensures ∙ c.in-Ok-None.field-0-is),
)
