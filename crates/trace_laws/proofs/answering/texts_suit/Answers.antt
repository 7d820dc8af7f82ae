use Rattle.trace_laws.proofs.Suiting.{texts_suited}
use Rattle.trace_laws.proofs.answering.texts_suit.Goals as goal

pub returns : goal.returns
returns c = λ negotiate roster seed names entries caller r request past p text t reply v w some step.
    texts_suited negotiate roster seed names entries caller r request past v p text t reply w some step
