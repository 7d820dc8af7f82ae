use Rattle.std.proofs.Common.{ap, sym, subst, ◌≡◌, ◌∙◌, ◌++◌, List}
use Rattle.std.specs.Prelude.{IsTrue}
use Rattle.auth_events.specs.declared.told.Told.{Told}
use Rattle.auth_events.specs.Book.{IsLegalPast, allowed}
use Rattle.auth_events.specs.Told.{names_told, past}
use Rattle.book_laws.specs.Owners.{IsOwned, items_of, owner}
use Rattle.book_laws.proofs.Lifting.{lifted, past_legal}
use Rattle.book_laws.proofs.callers.what_was_allowed_is_allowed.Goals as goal

pub returns : goal.returns
returns c = λ roster callers seen told r call shared has may.
    let whole : seen ++ has.kept.0 ≡ told = has.kept.1 in
    subst (λ (l : List Told). IsTrue (allowed roster (names_told l) (past l) (owner callers r) r call)) whole
    (lifted roster callers seen has.kept.0 r call
    (subst (λ (l : List Told). IsLegalPast roster (names_told l) (past l)) (sym whole) (past_legal roster (names_told told) told shared.plain shared.legal))
    (subst (IsOwned callers) (sym whole) shared.owned) (ap (items_of (owner callers r)) whole ∙ has.own) may)
