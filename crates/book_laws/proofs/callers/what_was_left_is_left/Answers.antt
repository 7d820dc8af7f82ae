use Rattle.std.proofs.Common.{List, sym, subst}
use Rattle.auth_events.specs.declared.told.Told.{Told}
use Rattle.auth_events.specs.Told.{names_told}
use Rattle.book_laws.specs.Owners.{items_of}
use Rattle.book_laws.specs.Shares.{HasSpaceLeft, HasTermsLeft, HasTextLeft}
use Rattle.book_laws.proofs.Lifting.{past_legal}
use Rattle.book_laws.proofs.Sharing.{may_name_space, may_name_terms, may_name_text, space_left_now, terms_left_now}
use Rattle.book_laws.proofs.callers.what_was_left_is_left.Goals as goal

pub returns-clause-spaces : goal.returns-clause-spaces
returns-clause-spaces g = λ roster callers c seen told space shared within has low high left.
    may_name_space roster callers c told (past_legal roster (names_told told) told shared.plain shared.legal) shared.owned within low high space
    (space_left_now c seen told has.kept (items_of c told) space (subst (λ (l : List Told). HasSpaceLeft l seen space) (sym has.own) left))

pub returns-clause-terms : goal.returns-clause-terms
returns-clause-terms g = λ roster callers c seen told s terms shared within has low high left.
    may_name_terms roster callers c told (past_legal roster (names_told told) told shared.plain shared.legal) shared.owned within low high s terms
    (terms_left_now c seen told has.kept (items_of c told) s terms has.own (subst (λ (l : List Told). HasTermsLeft c l seen s terms) (sym has.own) left))

pub returns-clause-texts : goal.returns-clause-texts
returns-clause-texts g = λ roster callers c seen told shared within has low high left.
    may_name_text roster callers c told (past_legal roster (names_told told) told shared.plain shared.legal) shared.owned within low high
    (subst HasTextLeft (sym has.own) left)
