use Rattle.std.proofs.Common.{◌<◌, ◌++◌, ℕ, List, length, sym, ap, subst, ◌∙◌, append_assoc}
use Rattle.std.specs.Slice.Iter.{chunks_rest}
use Rattle.spaces.specs.declared.roster.Method.TheVariants.{Get}
use Rattle.bench_core.proofs.ReplyLemmas.{whole_text, spoilt_text, more_text}
use Rattle.bench_core.proofs.replies.is_whole_reply.Goals as goal

-- src/replies.rt:37:1
pub returns-in-Whole : goal.returns-in-Whole
returns-in-Whole c =
    let inv = c.loop-piece.invariant in
    whole_text inv.2 c.in-Some.piece.now (chunks_rest c.next.new.self) c.args.text.now (length inv.2) (length c.in-Some.piece.now)
    c.feed.result c.in-Whole.field-0 (ap (λ (x : List ℕ). inv.2 ++ x) (sym c.in-Some.ensures.steps.1.0) ∙ inv.5)
    (c.feed.ensures.answer Get inv.2 inv.3) c.in-Whole.is

-- src/replies.rt:37:1
pub returns-in-Fault : goal.returns-in-Fault
returns-in-Fault c =
    let inv = c.loop-piece.invariant in
    spoilt_text inv.2 c.in-Some.piece.now (chunks_rest c.next.new.self) c.args.text.now (length inv.2) (length c.in-Some.piece.now)
    c.feed.result c.in-Fault.field-0 (ap (λ (x : List ℕ). inv.2 ++ x) (sym c.in-Some.ensures.steps.1.0) ∙ inv.5)
    (c.feed.ensures.answer Get inv.2 inv.3) c.in-Fault.is

pub loop-piece-preserved : goal.loop-piece-preserved
loop-piece-preserved c =
    let inv = c.loop-piece.invariant in
    let piece = c.in-Some.piece.now in
    let more = more_text inv.2 piece (length inv.2) (length piece) c.feed.result (c.feed.ensures.answer Get inv.2 inv.3) c.in-More.is in (
      subst (λ (n : ℕ). 0 < n) (sym c.in-Some.ensures.steps.0) inv.0,
      tt,
      inv.2 ++ piece,
      c.feed.ensures.fed Get inv.2 inv.3 more.1,
      more.0,
      append_assoc inv.2 piece (chunks_rest c.next.new.self) ∙ ap (λ (x : List ℕ). inv.2 ++ x) (sym c.in-Some.ensures.steps.1.0) ∙ inv.5,
    )
