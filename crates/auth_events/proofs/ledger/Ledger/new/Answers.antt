-- An empty ledger.
use Rattle.std.proofs.Common.{◌≤◌, [], length, ap, sym, subst, ◌∙◌}
use Rattle.spaces.specs.declared.roster.Roster.{Roster}
use Rattle.auth_events.specs.Pages.{Pages}
use Rattle.auth_events.specs.Ledgers.{IsKept}
use Rattle.auth_events.proofs.Keeping.{IsKept-new}
use Rattle.auth_events.proofs.ledger.Ledger.new.Goals as goal

pub invariant_of-result : goal.invariant_of-result
invariant_of-result c =
    let r : Roster = c.in_ok-roster.roster in
    record {
      few = subst (λ (roster : Roster). length roster.requests ≤ 2048) (sym c.in_ok-roster.ensures) c.requires;
      requests = ap (λ (p : Pages). p.requests) c.in_ok-journal.ensures ∙ c.len.ensures;
      kept = ∣ subst (λ (p : Pages). IsKept r c.new-2.result c.new-3.result.items p.entries) (sym c.in_ok-journal.ensures)
          (subst (λ made. IsKept r c.new-2.result made []) (sym c.new-3.ensures.items)
          (subst (λ names. IsKept r names [] []) (sym c.new-2.ensures) (IsKept-new r))) ∣₁;
    }
