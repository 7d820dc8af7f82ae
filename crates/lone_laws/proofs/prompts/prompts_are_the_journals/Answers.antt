use Rattle.lone_laws.proofs.Leads.{answers_agree}
use Rattle.lone_laws.proofs.prompts.prompts_are_the_journals.Goals as goal

pub returns : goal.returns
returns c = answers_agree
