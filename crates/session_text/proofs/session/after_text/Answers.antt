use Rattle.session_text.proofs.PlayLemmas.{next_playable}
use Rattle.session_text.proofs.session.after_text.Goals as goal

pub returns-in-Ok-with_line-clause-playable : goal.returns-in-Ok-with_line-clause-playable
returns-in-Ok-with_line-clause-playable c =
    λ playable. next_playable c.args.reading c.in-Ok-with_line.reading c.in-Ok.line playable c.in-Ok.ensures.right c.in-Ok-with_line.ensures
