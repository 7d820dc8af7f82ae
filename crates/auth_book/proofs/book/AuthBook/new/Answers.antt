-- Maps without entries know that nothing is named, and nothing was given.
use Rattle.std.proofs.Common.{◌∙◌, length, ap, sym, subst, arith}
use Rattle.spaces.specs.declared.roster.Roster.{Roster}
use Rattle.auth_events.specs.Tables.{Tables}
use Rattle.gift_log.specs.Gifts.{GiftList, givings_of}
use Rattle.name_index.specs.Found.{KnowsNames}
use Rattle.auth_book.proofs.book.AuthBook.new.Goals as goal

pub invariant_of-result-clause-knows : goal.invariant_of-result-clause-knows
invariant_of-result-clause-knows c =
    subst (KnowsNames c.new-numbers.result) (sym c.in_ok-ledger.ensures.names) c.new-numbers.ensures

pub invariant_of-result-clause-given : goal.invariant_of-result-clause-given
invariant_of-result-clause-given c =
    ap (λ (g : GiftList). g.givings) c.reserve_space.ensures.rest
    ∙ (ap (λ (g : GiftList). g.givings) c.in_ok-gifts.ensures ∙ sym (ap givings_of c.in_ok-ledger.ensures.entries))

pub invariant_of-result-clause-room : goal.invariant_of-result-clause-room
invariant_of-result-clause-room c =
    omega (
      arith,
      c.len.ensures,
      ap (λ (g : GiftList). g.room) c.reserve_space.ensures.rest,
      ap (λ (g : GiftList). g.room) c.in_ok-gifts.ensures,
      ap (λ (roster : Roster). length roster.requests) c.in_ok-ledger.ensures.roster,
    )

pub invariant_of-result-clause-known : goal.invariant_of-result-clause-known
invariant_of-result-clause-known c =
    omega (arith, c.in_ok-reserve_space.ensures.ok, ap (λ (names : Tables). length names.spaces) c.in_ok-ledger.ensures.names)
