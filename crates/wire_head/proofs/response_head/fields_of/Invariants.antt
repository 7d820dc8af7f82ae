use Rattle.std.proofs.Common.{◌≡◌, map, take}
use Rattle.httparse.specs.Spans.{header_bytes}
use Rattle.wire_head.specs.ResponseHeads.{field_of}
use Rattle.wire_head.proofs.response_head.fields_of.Given as goal

abbrev pub invariant-loop-span : goal.invariant-loop-span
invariant-loop-span l = l.them ≡ map field_of (map (header_bytes l.bytes) (take l.span-index l.spans))
