use Rattle.link_trait.specs.Tokens.{taken_by}
use Rattle.link_trait.proofs.TokenLemmas.{unanswered_quiet}
use Rattle.link_trait.proofs.script_tokens.ScriptTokensTokens.start.Goals as goal

pub returns-then-not-is_answered-clause-quiet : goal.returns-then-not-is_answered-clause-quiet
returns-then-not-is_answered-clause-quiet c = λ quiet.
    let it = c.args.self.now in (
      rw c.unanswered.ensures.script quiet,
      unanswered_quiet it.script c.args.request (taken_by c.args.request it.taken) c.in-Ok.step c.unanswered.result
          c.in-Ok.ensures c.unanswered.ensures.step quiet,
    )
