-- The index stands for the journal under the names with the terms, and the maps know them.
use Rattle.std.proofs.Common.{◌∙◌, length, ap, sym, subst, arith}
use Rattle.std.specs.Prelude.{reverse}
use Rattle.spaces.specs.declared.roster.Roster.{Roster}
use Rattle.auth_events.specs.Pages.{Pages}
use Rattle.auth_events.specs.Tables.{Tables, nonce_for, with_new_terms, with_terms}
use Rattle.gift_log.specs.Gifts.{givings_of}
use Rattle.name_index.specs.Found.{KnowsNames}
use Rattle.auth_book.specs.Indices.{StandsFor}
use Rattle.auth_book.proofs.Booking.{known_after, lasts_after, lasts_with_terms, new_terms}
use Rattle.auth_book.proofs.book.AuthBook.name_terms.Goals as goal

pub nonce_for-requires : goal.nonce_for-requires
nonce_for-requires c =
    let s = c.args.self.now in
    subst (KnowsNames s.numbers) (sym c.names.ensures) s.knows

pub note_terms-requires-clause-knows : goal.note_terms-requires-clause-knows
note_terms-requires-clause-knows c =
    let s = c.args.self.now in
    subst (KnowsNames s.numbers) (sym c.names-2.ensures) s.knows

pub invariant_of-self-in-Break-branch-2 : goal.invariant_of-self-in-Break-branch-2
invariant_of-self-in-Break-branch-2 c =
    let s = c.args.self.now in
    (record {
      rows = s.rows;
      stands = s.stands;
      knows = subst (KnowsNames c.note_terms.new.self) c.names-2.ensures c.note_terms.ensures.knows;
      given = s.given;
      room = s.room;
      known = s.known;
    })

pub invariant_of-self-2 : goal.invariant_of-self-2
invariant_of-self-2 c =
    let s = c.args.self.now in
    let l = c.args.self.now.ledger in
    let more = c.name_terms.new.self in
    let space = c.args.space in
    let terms = c.args.terms.now in
    let lasts =
    lasts_after l.roster l.names l.made.items l.journal.entries l.kept s.index s.stands c.name_terms.result more.names
    (lasts_with_terms l.roster l.names l.made.items l.journal.entries l.kept s.index s.stands space terms more.names) c.name_terms.ensures.named c.name_terms.ensures.names in
    (record {
      rows = s.rows ∙ lasts.0;
      stands =
          subst (λ (journal : Pages). ∥ StandsFor s.index more.roster more.names (reverse journal.entries) ∥₁) (sym c.name_terms.ensures.entries)
          (subst (λ (roster : Roster). ∥ StandsFor s.index roster more.names (reverse l.journal.entries) ∥₁) (sym c.name_terms.ensures.roster) lasts.1);
      knows =
          known_after c.name_terms.result c.note_terms.new.self l.names (with_new_terms l.names space terms) more.names
          (subst (KnowsNames c.note_terms.new.self) c.names-2.ensures c.note_terms.ensures.knows)
          (subst (KnowsNames c.note_terms.new.self)
          (ap (λ (ns : Tables). with_terms ns (record { space = space; terms = terms; nonce = c.in_ok-nonce.nonce })) c.names-2.ensures
          ∙ (ap (λ n. with_terms l.names (record { space = space; terms = terms; nonce = n })) (c.in_ok-nonce.ensures ∙ ap (λ (ns : Tables). nonce_for ns space terms) c.names.ensures)
          ∙ sym (new_terms l.names space terms c.requires.new)))
          c.in_ok-note_terms.ensures.next)
          c.name_terms.ensures.named c.name_terms.ensures.names;
      given = s.given ∙ sym (ap (λ (journal : Pages). givings_of journal.entries) c.name_terms.ensures.entries);
      room = omega (arith, s.room, ap (λ (roster : Roster). length roster.requests) c.name_terms.ensures.roster);
      known = omega (arith, s.known, lasts.0);
    })
