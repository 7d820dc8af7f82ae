use Rattle.std.proofs.Common.{◌∙◌, ap}
use Rattle.negotiate_handler.specs.declared.context.Stepped.TheVariants.{Refused}
use Rattle.request_machine.proofs.machine.Machine.stepped.Goals as goal

pub stepped_refused-requires-clause-begun : goal.stepped_refused-requires-clause-begun
stepped_refused-requires-clause-begun c = λ e. c.requires.begun (c.in-Refused.is ∙ ap Refused e)
