use Rattle.std.proofs.Common.{◌≡◌, ◌∙◌, Some, length, sym, ap}
use Rattle.std.proofs.lemmas.Result.{IfOk-weaker}
use Rattle.wire_head.specs.Lines.{cut_at}
use Rattle.wire_head.specs.HeadLines.{from_lines, if_written}
use Rattle.wire_head.proofs.head_reader.whole_head.Goals as goal

pub returns-in-Some : goal.returns-in-Some
returns-in-Some c =
    let text = c.args.text.now in
    let parts : from_lines (length text) (cut_at 10 text) ≡ Some c.in-Some.head =
    ap (from_lines (length text)) (sym c.in_ok-lines.ensures) ∙ sym c.in_ok-head.ensures ∙ c.in-Some.is in
    IfOk-weaker c.if_written.result _ _ (λ read m. m ∙ ap (if_written text) (sym parts)) c.if_written.ensures
