use Rattle.std.proofs.Common.{◌∙◌, ◌*◌, ◌<◌, ◌≤◌, sym, subst, ap, arith, length, reverse, ◌++◌, ◌∷◌, []}
use Rattle.std.specs.Prelude.{option_to_list}
use Rattle.spaces.specs.declared.roster.Roster.{Roster}
use Rattle.auth_events.specs.Ledgers.{IsKept}
use Rattle.gift_log.specs.Gifts.{GiftList, given_by, givings_of}
use Rattle.name_index.specs.Found.{KnowsNames}
use Rattle.auth_events.specs.Tables.{Tables}
use Rattle.auth_book.specs.Indices.{StandsFor}
use Rattle.auth_book.specs.Fits.{made}
use Rattle.auth_book.proofs.Gifts.{finds_room, givings_with}
use Rattle.auth_book.proofs.Booking.{of_book, may_decide, reply_said, retired_said, stands_later, stands_still}
use Rattle.auth_book.proofs.book.AuthBook.answer_call.Goals as goal

pub decide-did-requires-clause-book : goal.decide-did-requires-clause-book
decide-did-requires-clause-book c =
    let s = c.args.self.now in
    let l = c.args.self.now.ledger in
    of_book l.roster l.names l.made.items l.journal.entries l.kept l.few s.index s.stands c.args.caller c.args.request c.args.call c.requires c.roster.result.now c.names.result.now c.roster.ensures c.names.ensures

pub decide-did-requires-clause-may : goal.decide-did-requires-clause-may
decide-did-requires-clause-may c =
    let s = c.args.self.now in
    let l = c.args.self.now.ledger in
    may_decide l.roster l.names l.made.items l.journal.entries l.kept l.few s.index s.stands c.args.caller c.args.request c.args.call c.requires c.roster.result.now c.names.result.now c.roster.ensures c.names.ensures

pub append-requires-clause-reply : goal.append-requires-clause-reply
append-requires-clause-reply c =
    let s = c.args.self.now in
    let l = c.args.self.now.ledger in
    reply_said l.roster l.names l.made.items l.journal.entries l.kept l.few s.index s.stands c.args.caller c.args.request c.args.call c.requires c.roster.result.now c.names.result.now c.roster.ensures c.names.ensures c.decide-did.result.reply c.decide-did.ensures.reply

pub returns-then-not-is_pending-clause-reply : goal.returns-then-not-is_pending-clause-reply
returns-then-not-is_pending-clause-reply c =
    let s = c.args.self.now in
    let l = c.args.self.now.ledger in
    reply_said l.roster l.names l.made.items l.journal.entries l.kept l.few s.index s.stands c.args.caller c.args.request c.args.call c.requires c.roster.result.now c.names.result.now c.roster.ensures c.names.ensures c.decide-did.result.reply c.decide-did.ensures.reply

pub returns-else-not-is_pending-clause-reply : goal.returns-else-not-is_pending-clause-reply
returns-else-not-is_pending-clause-reply c =
    let s = c.args.self.now in
    let l = c.args.self.now.ledger in
    reply_said l.roster l.names l.made.items l.journal.entries l.kept l.few s.index s.stands c.args.caller c.args.request c.args.call c.requires c.roster.result.now c.names.result.now c.roster.ensures c.names.ensures c.decide-did.result.reply c.decide-did.ensures.reply

pub returns-then-not-is_pending-clause-retired : goal.returns-then-not-is_pending-clause-retired
returns-then-not-is_pending-clause-retired c =
    let s = c.args.self.now in
    let l = c.args.self.now.ledger in
    retired_said l.roster l.names l.made.items l.journal.entries l.kept l.few s.index s.stands c.args.caller c.args.request c.args.call c.requires c.roster.result.now c.names.result.now c.roster.ensures c.names.ensures c.decide-did.result.reply c.decide-did.result.retired c.decide-did.ensures.retired

pub returns-else-not-is_pending-clause-retired : goal.returns-else-not-is_pending-clause-retired
returns-else-not-is_pending-clause-retired c =
    let s = c.args.self.now in
    let l = c.args.self.now.ledger in
    retired_said l.roster l.names l.made.items l.journal.entries l.kept l.few s.index s.stands c.args.caller c.args.request c.args.call c.requires c.roster.result.now c.names.result.now c.roster.ensures c.names.ensures c.decide-did.result.reply c.decide-did.result.retired c.decide-did.ensures.retired

pub tell-requires : goal.tell-requires
tell-requires c =
    let s = c.args.self.now in
    let l = c.args.self.now.ledger in
    let after = c.append.new.self in
    let entry = made c.args.caller c.args.request c.args.call c.decide-did.result.reply in
    finds_room after.roster after.names after.made.items l.journal.entries entry
    (subst (λ es. ∥ IsKept after.roster after.names after.made.items es ∥₁) c.append.ensures.entries after.kept)
    s.gifts.givings s.gifts.room s.gifts.spaces s.given
    (subst (λ (rs : Roster). 64 * length rs.requests ≤ s.gifts.room) (sym c.append.ensures.roster) s.room)
    (subst (λ (ns : Tables). length ns.spaces < s.gifts.spaces) (sym c.append.ensures.names) s.known)

pub invariant_of-self : goal.invariant_of-self
invariant_of-self c =
    let s = c.args.self.now in
    let l = c.args.self.now.ledger in
    (record {
      rows = c.decide-did.ensures.rows ∙ (s.rows ∙ ap (λ (ns : Tables). length ns.spaces) (sym c.append.ensures.names));
      stands =
          subst (λ es. ∥ StandsFor c.decide-did.new.self c.append.new.self.roster c.append.new.self.names (reverse es) ∥₁) (sym c.append.ensures.entries)
          (subst (λ rs. ∥ StandsFor c.decide-did.new.self rs c.append.new.self.names (reverse (l.journal.entries ++ made c.args.caller c.args.request c.args.call c.decide-did.result.reply ∷ [])) ∥₁) (sym c.append.ensures.roster)
          (subst (λ ns. ∥ StandsFor c.decide-did.new.self l.roster ns (reverse (l.journal.entries ++ made c.args.caller c.args.request c.args.call c.decide-did.result.reply ∷ [])) ∥₁) (sym c.append.ensures.names)
          (stands_later l.roster l.names l.made.items l.journal.entries l.kept l.few s.index s.stands c.args.caller c.args.request c.args.call c.requires c.roster.result.now c.names.result.now c.roster.ensures c.names.ensures c.decide-did.result.reply c.decide-did.new.self c.decide-did.ensures.stands (sym c.is_pending.ensures ∙ c.if-not-is_pending.true))));
      knows = subst (KnowsNames s.numbers) (sym c.append.ensures.names) s.knows;
      given =
          ap (λ (g : GiftList). g.givings) c.tell.ensures
          ∙ (ap (λ xs. xs ++ option_to_list (given_by (made c.args.caller c.args.request c.args.call c.decide-did.result.reply))) s.given
          ∙ sym (ap givings_of c.append.ensures.entries ∙ givings_with l.journal.entries (made c.args.caller c.args.request c.args.call c.decide-did.result.reply)));
      room = omega (arith, s.room, ap (λ (rs : Roster). length rs.requests) c.append.ensures.roster, ap (λ (g : GiftList). g.room) c.tell.ensures);
      known = omega (arith, s.known, ap (λ (ns : Tables). length ns.spaces) c.append.ensures.names, ap (λ (g : GiftList). g.spaces) c.tell.ensures);
    })

pub invariant_of-self-else-not-is_pending : goal.invariant_of-self-else-not-is_pending
invariant_of-self-else-not-is_pending c =
    let s = c.args.self.now in
    let l = c.args.self.now.ledger in
    (record {
      rows = c.decide-did.ensures.rows ∙ s.rows;
      stands = stands_still l.roster l.names l.made.items l.journal.entries l.kept l.few s.index s.stands c.args.caller c.args.request c.args.call c.requires c.roster.result.now c.names.result.now c.roster.ensures c.names.ensures c.decide-did.result.reply c.decide-did.new.self c.decide-did.ensures.stands (sym c.is_pending.ensures ∙ c.if-not-is_pending.false);
      knows = s.knows;
      given = s.given;
      room = s.room;
      known = s.known;
    })
