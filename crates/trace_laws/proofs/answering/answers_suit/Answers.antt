use Rattle.trace_laws.proofs.Suiting.{calls_suited}
use Rattle.trace_laws.proofs.answering.answers_suit.Goals as goal

pub returns : goal.returns
returns c = λ negotiate roster seed names entries caller r request past call reply v w step.
    calls_suited negotiate roster seed names entries caller r request past v call reply w step
