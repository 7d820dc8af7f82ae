use Rattle.std.proofs.Common.{◌≡◌, ◌++◌, ◌-◌, ℕ, List, length, sym, ap, ◌∙◌}
use Rattle.spaces.specs.declared.roster.Method.{Method}
use Rattle.wire_head.specs.Replies.{progress}
use Rattle.wire_head.specs.declared.progress.Progress.TheVariants.{Open, Whole}
use Rattle.wire_head.proofs.UsedLemmas.{whole_answer}
use Rattle.wire_head.proofs.laws.plain_reader.PlainReader.feed.Goals as goal

pub returns-in-Ok-Whole-clause-answer : goal.returns-in-Ok-Whole-clause-answer
returns-in-Ok-Whole-clause-answer c method fed is =
    let inside_method : c.self.inside.method ≡ method = search in
    let inside_bytes : c.self.inside.bytes ≡ fed = search in
    let undecided : progress method fed ≡ Open c.self.inside.at_end = search in
    let text : c.as_slice.result.now ≡ fed ++ c.args.bytes.now =
    c.as_slice.ensures ∙ c.in-Ok.ensures.ok ∙ ap (λ (t : List ℕ). t ++ c.args.bytes.now) inside_bytes in
    let same : progress c.self.inside.method c.as_slice.result.now ≡ progress method (fed ++ c.args.bytes.now) =
    ap (λ (m : Method). progress m c.as_slice.result.now) inside_method ∙ ap (progress method) text in
    let whole : progress method (fed ++ c.args.bytes.now) ≡ Whole c.in-Ok-Whole.reply c.in-Ok-Whole.n =
    sym same ∙ sym c.in-Ok-Whole.ensures ∙ c.in-Ok-Whole.field-0-is in
    let ends : c.saturating_sub.result ≡ c.in-Ok-Whole.n - length fed =
    c.saturating_sub.ensures ∙ ap (λ (k : ℕ). c.in-Ok-Whole.n - k) (c.len-before.ensures ∙ ap length inside_bytes) in
    whole_answer method fed c.args.bytes.now c.self.inside.at_end c.in-Ok-Whole.reply c.in-Ok-Whole.n c.saturating_sub.result undecided whole ends
