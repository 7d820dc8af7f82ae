-- The laws of a book that stands on a ledger.
use Rattle.std.proofs.Common.{◌≡◌, sym, subst, ap, length, List, ◌∙◌}
use Rattle.std.proofs.Math.Logic.{∥∥₁_elim}
use Rattle.std.proofs.Props.{props}
use Rattle.std.specs.Prelude.{IsTrue, reverse, not, take}
use Rattle.std.specs.List.{list_all}
use Rattle.spaces.specs.declared.roster.Roster.{Roster}
use Rattle.auth_events.specs.declared.journal.Entry.{Entry}
use Rattle.auth_events.specs.declared.told.NewName.{NewName}
use Rattle.auth_events.specs.Tables.{Tables, AreNames, AreFew}
use Rattle.auth_events.specs.Book.{IsLegal, draws, without_draws}
use Rattle.auth_events.specs.Told.{IsLegalThroughout, journal, names_told, has_no_draw}
use Rattle.auth_events.specs.Ledgers.{IsKept, told_of}
use Rattle.auth_events.proofs.Weave.{journal-weave}
use Rattle.auth_events.proofs.Legal.{IsLegal-journal, no_draws, all_pass}
use Rattle.auth_events.proofs.Once.{IsLegalPast-prop, same_names_prop, AreNames-prop, AreFew-prop}

module _ (roster : Roster) (names : Tables) (made : List NewName) (entries : List Entry) (kept : ∥ IsKept roster names made entries ∥₁) where
  pub legal : IsLegal roster names (journal (told_of names made entries))
  legal =
      subst (IsLegal roster names) (sym (journal-weave names made 0 entries))
      (∥∥₁_elim kept (IsLegalPast-prop roster names (reverse (without_draws entries))) (λ k. IsLegal-journal roster names entries k.legal))

  pub legal_throughout : IsLegalThroughout roster (told_of names made entries)
  legal_throughout n =
      let first = take n (told_of names made entries) in
      ∥∥₁_elim kept (IsLegalPast-prop roster (names_told first) (reverse (without_draws (journal first)))) (λ k. k.throughout n)

  pub no_draw : IsTrue (has_no_draw (told_of names made entries))
  no_draw =
      ap (list_all (λ entry. not (draws entry.call))) (journal-weave names made 0 entries)
      ∙ ∥∥₁_elim kept (Prim.hlevel props) (λ k. all_pass (λ entry. not (draws entry.call)) entries (no_draws roster names entries k.legal))

  pub told_names : names_told (told_of names made entries) ≡ names
  told_names = ∥∥₁_elim kept (same_names_prop (names_told (told_of names made entries)) names) (λ k. k.told)

  pub are_names : AreNames names
  are_names = ∥∥₁_elim kept (AreNames-prop names) (λ k. k.are_names)

  pub few : AreFew (length roster.requests) names
  few = ∥∥₁_elim kept (AreFew-prop (length roster.requests) names) (λ k. k.within)
