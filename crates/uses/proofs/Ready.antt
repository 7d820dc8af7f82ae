-- A gift that is ready was given before.
use Rattle.std.proofs.Common.{◌≡◌, ℕ, IsTrue, List, ◌∷◌, is_some, refl, sym, ap, ◌∙◌, subst}
use Rattle.spaces.specs.declared.roster.Roster.{Roster}
use Rattle.spaces.specs.declared.site.Target.TheVariants.{Server}
use Rattle.auth_events.specs.declared.journal.BookReply.TheVariants.{Ready}
use Rattle.auth_events.specs.declared.journal.Call.TheVariants.{Preempt}
use Rattle.auth_events.specs.declared.journal.Entry.{Entry}
use Rattle.auth_events.specs.declared.journal.Gift.{Gift}
use Rattle.auth_events.specs.declared.told.Told.{Told}
use Rattle.auth_events.specs.Book.{IsLegal}
use Rattle.auth_events.specs.Identities.{giving}
use Rattle.auth_events.specs.Tables.{Tables}
use Rattle.auth_events.specs.Told.{has_no_draw, journal, past, told_after}
use Rattle.book_laws.proofs.Lifting.{past_legal}
use Rattle.book_laws.proofs.Stepping.{past-push}
use Rattle.trace_laws.proofs.Givings.{told_given}
use Rattle.auth_events.specs.Book.{IsLegalPast}
use Rattle.uses.specs.Recalls.{IsReady}

module _ (roster : Roster) (names : Tables) (told more : List Told) (r : ℕ) (gift : Gift) (terms epoch : ℕ) where
  abbrev pub made : Entry
  made = record { caller = r; request = r; call = Preempt Server; reply = Ready gift terms epoch }

  module _ (is : more ≡ told_after told made) where
    stands : past more ≡ made ∷ past told
    stands = ap past is ∙ past-push told made

    pub is_ready : IsReady r gift (past more)
    is_ready = subst (IsReady r gift) (sym stands) (refl, refl, refl)

    pub was_given : IsTrue (has_no_draw more) → IsLegal roster names (journal more) → IsTrue (is_some (giving (past more) gift))
    was_given none legal =
        let l : IsLegalPast roster names (made ∷ past told) = subst (IsLegalPast roster names) stands (past_legal roster names more none legal) in
        subst (λ p. IsTrue (is_some (giving p gift))) (sym stands) (told_given roster names (past told) l.0 made l.1 gift refl)
