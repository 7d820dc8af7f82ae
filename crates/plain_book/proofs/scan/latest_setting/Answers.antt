-- What a search from the end finds.
use Rattle.std.proofs.Common.{◌∙◌, rules, tests}
use Rattle.std.proofs.lemmas.Iterator.Search.{find_from_yields_List}
use Rattle.std.proofs.lemmas.Iterator.Adapters.{YieldsList-from_rev_slice}
use Rattle.auth_events.specs.declared.journal.Entry.{Entry}
use Rattle.plain_book.specs.Moves.{sets_terms}
use Rattle.plain_book.proofs.scan.latest_setting.Goals as goal

pub returns : goal.returns
returns c =
    c.copied.ensures
    ∙ find_from_yields_List (λ (entry : Entry). sets_terms entry c.args.space) _ _ _ c.find.ensures.ran (YieldsList-from_rev_slice c.args.entries.now cc) (λ x b q k. search (rules, tests))
