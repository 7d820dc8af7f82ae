use Rattle.std.proofs.Common.{◌∙◌, sym, ap, ap₂, subst₂}
use Rattle.link_trait.specs.Prompts.{answer_in}
use Rattle.link_trait.specs.Index.{at_runs, nth_answer, AreEnds}
use Rattle.link_trait.proofs.table.AnswerTable.answer_to.Goals as goal

pub answer_among-requires : goal.answer_among-requires
answer_among-requires c =
    let (_, ends) = c.self.invariant c.in_ok-key.key c.args.space.now c.in_ok-key.ensures in
    subst₂ AreEnds (sym c.as_slice.ensures) (sym c.runs_at-runs.ensures) ends

pub returns : goal.returns
returns c =
    let (found, _) = c.self.invariant c.in_ok-key.key c.args.space.now c.in_ok-key.ensures in
    c.answer_among.ensures ∙ ap₂ (λ all runs. nth_answer (at_runs all runs) c.args.ordinal) c.as_slice.ensures c.runs_at-runs.ensures
    ∙ ap (λ answers. nth_answer answers c.args.ordinal) found ∙ ap (λ answers. answer_in answers c.args.space.now c.args.ordinal) c.self.view_is
