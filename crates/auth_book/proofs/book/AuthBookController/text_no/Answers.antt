use Rattle.std.proofs.Common.{◌∙◌, length, ap, sym, subst, arith}
use Rattle.std.specs.Prelude.{reverse}
use Rattle.spaces.specs.declared.roster.Roster.{Roster}
use Rattle.auth_events.specs.Pages.{Pages}
use Rattle.auth_events.specs.Tables.{with_text}
use Rattle.gift_log.specs.Gifts.{givings_of}
use Rattle.auth_book.specs.Indices.{StandsFor}
use Rattle.auth_book.proofs.Booking.{known_after, lasts_after, lasts_with_text}
use Rattle.auth_book.proofs.book.AuthBookController.text_no.Goals as goal

pub invariant_of-self : goal.invariant_of-self
invariant_of-self c =
    let s = c.args.self.now in
    let l = c.args.self.now.ledger in
    let more = c.text_no.new.self in
    let lasts =
    lasts_after l.roster l.names l.made.items l.journal.entries l.kept s.index s.stands c.text_no.result more.names
    (lasts_with_text l.roster l.names l.made.items l.journal.entries l.kept s.index s.stands c.args.identity.now more.names) c.text_no.ensures.named c.text_no.ensures.names in
    (record {
      rows = s.rows ∙ lasts.0;
      stands =
          subst (λ (journal : Pages). ∥ StandsFor s.index more.roster more.names (reverse journal.entries) ∥₁) (sym c.text_no.ensures.entries)
          (subst (λ (roster : Roster). ∥ StandsFor s.index roster more.names (reverse l.journal.entries) ∥₁) (sym c.text_no.ensures.roster) lasts.1);
      knows = known_after c.text_no.result s.numbers l.names (with_text l.names c.args.identity.now) more.names s.knows s.knows c.text_no.ensures.named c.text_no.ensures.names;
      given = s.given ∙ sym (ap (λ (journal : Pages). givings_of journal.entries) c.text_no.ensures.entries);
      room = omega (arith, s.room, ap (λ (roster : Roster). length roster.requests) c.text_no.ensures.roster);
      known = omega (arith, s.known, lasts.0);
    })
