use Rattle.std.proofs.Common.{sym, ◌∙◌}
use Rattle.challenge_tokens.proofs.QuoteLemmas.{quote_within, quote_value, quote_none}
use Rattle.challenge_tokens.proofs.scan.quoted_value.Goals as goal

pub ended-requires : goal.ended-requires
ended-requires c =
    quote_within c.args.text.now c.in-Some.value c.in-Some.n c.requires (sym c.in-Some.is ∙ c.in_ok-value.ensures)

pub returns-in-Some-clause-value : goal.returns-in-Some-clause-value
returns-in-Some-clause-value c =
    c.ended.ensures.value ∙ quote_value c.args.text.now c.in-Some.value c.in-Some.n c.requires (sym c.in-Some.is ∙ c.in_ok-value.ensures)

pub returns-in-None-clause-value : goal.returns-in-None-clause-value
returns-in-None-clause-value c = quote_none c.args.text.now c.requires (sym c.in-None.is ∙ c.in_ok-value.ensures)
