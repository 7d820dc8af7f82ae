use Rattle.std.proofs.Common.{◌≡◌, take}
use Rattle.wire_head.specs.HeaderFields.{values_of}
use Rattle.wire_head.proofs.header_fields.values_of.Given as goal

abbrev pub invariant-loop-field : goal.invariant-loop-field
invariant-loop-field l = l.them ≡ values_of l.name (take l.field-index l.fields)
