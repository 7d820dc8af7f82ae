use Rattle.std.proofs.Common.{◌≡◌, count_by, is_some, take}
use Rattle.link_trait.specs.Prompts.{answer_in}
use Rattle.bench_core.proofs.prompts.given.Given as goal

abbrev pub invariant-loop-ask : goal.invariant-loop-ask
invariant-loop-ask l = (answer_in l.prompter.answers ≡ answer_in l.fn.prompter.answers)
    × (l.given ≡ count_by (λ ask. is_some (answer_in l.fn.prompter.answers ask.space ask.ordinal)) (take l.ask-index l.prompts))
