use Rattle.std.proofs.Common.{ap, unwrap_or, []}
use Rattle.link_trait.specs.Prompts.{answer_in}
use Rattle.bench_core.proofs.prompts.is_given.Goals as goal

pub returns-clause-answers : goal.returns-clause-answers
returns-clause-answers c = ap (λ found. unwrap_or found (answer_in [])) c.ask.ensures.answers
