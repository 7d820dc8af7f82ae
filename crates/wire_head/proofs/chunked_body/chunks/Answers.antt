use Rattle.std.proofs.Common.{◌+◌, ◌≤◌, length, drop, arith, ◌∙◌, ap, sym, length-drop}
use Rattle.std.proofs.lemmas.List.{drop-drop}
use Rattle.wire_head.specs.ChunkedBodies.{longer, chunk, chunks}
use Rattle.wire_head.proofs.ChunkLemmas.{data_step, longer_longer}
use Rattle.wire_head.proofs.chunked_body.chunks.Goals as goal

pub chunks-preserved : goal.chunks-preserved
chunks-preserved c =
    let at = c.chunks.at in
    let text = c.args.text.now in
    let inside = c.in-Data.ensures.within in
    let within : c.in-Data.n ≤ length (drop at text) = rw c.rest_of.ensures at inside.1 in
    let first = data_step (drop at text) c.in-Data.n c.in-Data.more (ap chunk (sym c.rest_of.ensures) ∙ sym c.in-Data.ensures.value) inside.0 within in (
      omega (arith, length-drop at text, within),
      omega (arith, inside.0),
      ap (λ xs. longer (at + c.in-Data.n) (c.chunks.size + c.in-Data.more) (chunks 0 xs)) (sym (drop-drop c.in-Data.n at text))
          ∙ sym (longer_longer at c.chunks.size c.in-Data.n c.in-Data.more (chunks 0 (drop c.in-Data.n (drop at text))))
          ∙ ap (longer at c.chunks.size) (sym first)
          ∙ c.chunks.invariant.2,
    )
