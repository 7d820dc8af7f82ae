-- The space that is named gets its row, and the index stands for the journal under the names with it.
use Rattle.std.proofs.Common.{◌≡◌, [], Some, ◌∙◌, ◌<◌, List, length, ap, sym, subst, arith}
use Rattle.std.proofs.Math.Logic.{∥∥₁_map}
use Rattle.std.specs.Prelude.{IfSome, IsTrue, is_some, reverse}
use Rattle.spaces.specs.declared.roster.Roster.{Roster}
use Rattle.spaces.specs.declared.site.Site.{Site}
use Rattle.spaces.specs.ProtectionSpaces.{ProtectionSpace}
use Rattle.auth_events.specs.Pages.{Pages}
use Rattle.auth_events.specs.Tables.{Tables, with_space}
use Rattle.gift_log.specs.Gifts.{GiftList, givings_of}
use Rattle.name_index.specs.Found.{KnowsNames, first_of_site}
use Rattle.auth_book.specs.declared.index.SpaceRow.{SpaceRow}
use Rattle.auth_book.specs.Parts.{part_of}
use Rattle.auth_book.specs.Indices.{StandsFor, space_row}
use Rattle.auth_book.proofs.Parts.{pushed_length}
use Rattle.auth_book.proofs.Booking.{is_more, last_is, last_site, lasts_with_space, one_more}
use Rattle.auth_book.proofs.book.AuthBook.name_space.Goals as goal

pub invariant_of-self : goal.invariant_of-self
invariant_of-self c =
    let s = c.args.self.now in
    let l = s.ledger in
    (record {
      rows = ap (λ (rows : List SpaceRow). length rows) c.prepare.ensures.rows ∙ s.rows;
      stands = ∥∥₁_map s.stands (c.prepare.ensures.stands l.roster l.names (reverse l.journal.entries));
      knows = s.knows;
      given = s.given;
      room = s.room;
      known = s.known;
    })

pub invariant_of-self-in-Break-branch-2 : goal.invariant_of-self-in-Break-branch-2
invariant_of-self-in-Break-branch-2 c =
    let s = c.args.self.now in
    let l = s.ledger in
    (record {
      rows = ap (λ (rows : List SpaceRow). length rows) c.prepare.ensures.rows ∙ s.rows;
      stands = ∥∥₁_map s.stands (c.prepare.ensures.stands l.roster l.names (reverse l.journal.entries));
      knows = s.knows;
      given = ap (λ (g : GiftList). g.givings) c.reserve_space.ensures.rest ∙ s.given;
      room = omega (arith, s.room, ap (λ (g : GiftList). g.room) c.reserve_space.ensures.rest);
      known = omega (arith, s.known, c.reserve_space.ensures.more);
    })

pub note_space-requires-clause-knows : goal.note_space-requires-clause-knows
note_space-requires-clause-knows c =
    let s = c.args.self.now in
    subst (KnowsNames s.numbers) (sym c.names-2.ensures) s.knows

pub invariant_of-self-in-Break-branch-3 : goal.invariant_of-self-in-Break-branch-3
invariant_of-self-in-Break-branch-3 c =
    let s = c.args.self.now in
    let l = s.ledger in
    (record {
      rows = ap (λ (rows : List SpaceRow). length rows) c.prepare.ensures.rows ∙ s.rows;
      stands = ∥∥₁_map s.stands (c.prepare.ensures.stands l.roster l.names (reverse l.journal.entries));
      knows = subst (KnowsNames c.note_space.new.self) c.names-2.ensures c.note_space.ensures.knows;
      given = ap (λ (g : GiftList). g.givings) c.reserve_space.ensures.rest ∙ s.given;
      room = omega (arith, s.room, ap (λ (g : GiftList). g.room) c.reserve_space.ensures.rest);
      known = omega (arith, s.known, c.reserve_space.ensures.more);
    })

pub invariant_of-self-in-Break-branch-4 : goal.invariant_of-self-in-Break-branch-4
invariant_of-self-in-Break-branch-4 c =
    let s = c.args.self.now in
    let l = s.ledger in
    let more = c.name_space.new.self in
    (record {
      rows = ap (λ (rows : List SpaceRow). length rows) c.prepare.ensures.rows ∙ (s.rows ∙ ap (λ (ns : Tables). length ns.spaces) (sym c.in_err-number.ensures.names));
      stands =
          subst (λ (journal : Pages). ∥ StandsFor c.prepare.new.self more.roster more.names (reverse journal.entries) ∥₁) (sym c.name_space.ensures.entries)
          (subst (λ (roster : Roster). ∥ StandsFor c.prepare.new.self roster more.names (reverse l.journal.entries) ∥₁) (sym c.name_space.ensures.roster)
          (subst (λ (ns : Tables). ∥ StandsFor c.prepare.new.self l.roster ns (reverse l.journal.entries) ∥₁) (sym c.in_err-number.ensures.names)
          (∥∥₁_map s.stands (c.prepare.ensures.stands l.roster l.names (reverse l.journal.entries)))));
      knows = subst (KnowsNames c.note_space.new.self) (c.names-2.ensures ∙ sym c.in_err-number.ensures.names) c.note_space.ensures.knows;
      given =
          ap (λ (g : GiftList). g.givings) c.reserve_space.ensures.rest
          ∙ (s.given ∙ sym (ap (λ (journal : Pages). givings_of journal.entries) c.name_space.ensures.entries));
      room = omega (arith, s.room, ap (λ (g : GiftList). g.room) c.reserve_space.ensures.rest, ap (λ (roster : Roster). length roster.requests) c.name_space.ensures.roster);
      known = omega (arith, s.known, c.reserve_space.ensures.more, ap (λ (ns : Tables). length ns.spaces) c.in_err-number.ensures.names);
    })

pub add_space_at-requires-clause-site : goal.add_space_at-requires-clause-site
add_space_at-requires-clause-site c =
    let l = c.args.self.now.ledger in
    let space = c.args.space.now in
    let first = subst (λ (ns : Tables). first_of_site (with_space ns space).spaces space.site ≡ Some c.in_ok-site.site) c.names-2.ensures c.in_ok-site.ensures.first in
    last_site l.names c.names-3.result.now space c.requires.new (c.names-3.ensures ∙ c.in_ok-number.ensures.named) c.in_ok-site.site first

pub add_space_at-requires-clause-record : goal.add_space_at-requires-clause-record
add_space_at-requires-clause-record c =
    let l = c.args.self.now.ledger in
    let parts = c.prepare.new.self.partitions in
    subst (λ found. IfSome found (λ (one : ProtectionSpace). IsTrue (is_some (part_of parts one.site.partition))))
    (sym (last_is l.names c.names-3.result.now c.args.space.now c.requires.new (c.names-3.ensures ∙ c.in_ok-number.ensures.named)))
    (subst (λ (site : Site). IsTrue (is_some (part_of parts site.partition))) c.site.ensures c.in_ok-prepare.ensures.record)

pub invariant_of-self-2 : goal.invariant_of-self-2
invariant_of-self-2 c =
    let s = c.args.self.now in
    let l = s.ledger in
    let more = c.name_space.new.self in
    let prepared = c.prepare.new.self in
    let index = c.add_space_at.new.self in
    let rows = s.rows in
    let one = one_more l.names more.names c.args.space.now c.requires.new c.in_ok-number.ensures.named in
    (record {
      rows = omega (
        arith,
        rows,
        one,
        ap (λ (rows : List SpaceRow). length rows) c.prepare.ensures.rows,
        ap (λ (rows : List SpaceRow). length rows) c.add_space_at.ensures.row,
        pushed_length prepared.spaces.items (space_row c.names-3.result.now prepared.partitions [] (length c.names-3.result.now.spaces)),
      );
      stands =
          subst (λ (journal : Pages). ∥ StandsFor index more.roster more.names (reverse journal.entries) ∥₁) (sym c.name_space.ensures.entries)
          (subst (λ (roster : Roster). ∥ StandsFor index roster more.names (reverse l.journal.entries) ∥₁) (sym c.name_space.ensures.roster)
          (subst (λ (ns : Tables). ∥ StandsFor index l.roster ns (reverse l.journal.entries) ∥₁) c.names-3.ensures
          (lasts_with_space l.roster l.names l.made.items l.journal.entries l.kept prepared (∥∥₁_map s.stands (c.prepare.ensures.stands l.roster l.names (reverse l.journal.entries)))
          c.args.space.now c.names-3.result.now index c.requires.new (c.names-3.ensures ∙ c.in_ok-number.ensures.named) c.add_space_at.ensures.stands)));
      knows =
          subst (KnowsNames c.note_space.new.self)
          (ap (λ (ns : Tables). with_space ns c.args.space.now) c.names-2.ensures ∙ sym (is_more l.names more.names c.args.space.now c.requires.new c.in_ok-number.ensures.named))
          c.in_ok-site.ensures.next;
      given =
          ap (λ (g : GiftList). g.givings) c.reserve_space.ensures.rest
          ∙ (s.given ∙ sym (ap (λ (journal : Pages). givings_of journal.entries) c.name_space.ensures.entries));
      room = omega (arith, s.room, ap (λ (g : GiftList). g.room) c.reserve_space.ensures.rest, ap (λ (roster : Roster). length roster.requests) c.name_space.ensures.roster);
      known = omega (arith, one, c.in_ok-reserve_space.ensures.ok, c.spaces_len-next.ensures.len, ap (λ (ns : Tables). length ns.spaces) c.names.ensures);
    })
