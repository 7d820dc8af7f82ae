use Rattle.std.proofs.Common.{◌≡◌, length, sym, ap, subst, ◌∙◌}
use Rattle.wire_head.specs.declared.progress.Progress.TheVariants.{Whole, Fault}
use Rattle.wire_head.specs.declared.state.Next.TheVariants.{On, Over}
use Rattle.wire_head.specs.Feeding.{Reading, IsFed}
use Rattle.wire_head.specs.ReadingRuns.{IsAllNext}
use Rattle.wire_head.proofs.FeedLemmas.{read_as, more_answer, whole_reply, fault_reply}
use Rattle.wire_head.proofs.reader.ReplyReader.feed.Goals as goal

pub returns-in-On-clause-answer : goal.returns-in-On-clause-answer
returns-in-On-clause-answer c method fed is =
    let r : Reading = record { method = c.self.inside.method; state = c.self.inside.state } in
    let was : IsFed r method fed = subst (λ (x : Reading). IsFed x method fed) (sym c.self.view_is) is in
    let read = read_as r.method r.state c.replace-state.result c.args.bytes.now c.in-Ok.field-0 (On c.in-On.state) c.in-Ok.ensures.read c.replace-state.ensures.value c.in-On.is in
    let all : c.in-Ok.field-0.used ≡ length c.args.bytes.now = subst (IsAllNext c.in-Ok.field-0.used (length c.args.bytes.now)) c.in-On.is c.in-Ok.ensures.all in
    (more_answer r method fed c.args.bytes.now c.in-Ok.field-0.used c.in-On.state was read all, all)

pub returns-in-Over-Whole-clause-answer : goal.returns-in-Over-Whole-clause-answer
returns-in-Over-Whole-clause-answer c method fed is =
    let r : Reading = record { method = c.self.inside.method; state = c.self.inside.state } in
    let was : IsFed r method fed = subst (λ (x : Reading). IsFed x method fed) (sym c.self.view_is) is in
    let read = read_as r.method r.state c.replace-state.result c.args.bytes.now c.in-Ok.field-0 (Over (Whole c.in-Over-Whole.reply c.in-Over-Whole.field-0-1))
    c.in-Ok.ensures.read c.replace-state.ensures.value (c.in-Over-Whole.is ∙ ap Over c.in-Over-Whole.field-0-is) in
    whole_reply r method fed c.args.bytes.now c.in-Ok.field-0.used c.in-Over-Whole.field-0-1 c.in-Over-Whole.reply was read

pub returns-in-Over-Fault-clause-answer : goal.returns-in-Over-Fault-clause-answer
returns-in-Over-Fault-clause-answer c method fed is =
    let r : Reading = record { method = c.self.inside.method; state = c.self.inside.state } in
    let was : IsFed r method fed = subst (λ (x : Reading). IsFed x method fed) (sym c.self.view_is) is in
    let read = read_as r.method r.state c.replace-state.result c.args.bytes.now c.in-Ok.field-0 (Over (Fault c.in-Over-Fault.fault))
    c.in-Ok.ensures.read c.replace-state.ensures.value (c.in-Over-Fault.is ∙ ap Over c.in-Over-Fault.field-0-is) in
    fault_reply r method fed c.args.bytes.now c.in-Ok.field-0.used c.in-Over-Fault.fault was read
