-- The journal has room, and stays legal.
use Rattle.std.proofs.Common.{ap, sym, subst, length, ◌∙◌}
use Rattle.std.proofs.Math.Logic.{∥∥₁_elim, ∥∥₁_map}
use Rattle.auth_events.specs.Pages.{Pages, HasRoomFor}
use Rattle.auth_events.specs.Ledgers.{IsKept}
use Rattle.auth_events.proofs.Keeping.{HasRoomFor-prop, room_of_kept, IsKept-entry}
use Rattle.auth_events.proofs.ledger.Ledger.append.Goals as goal

pub push-requires : goal.push-requires
push-requires c =
    let l = c.args.self.now in
    let room = ∥∥₁_elim l.kept (HasRoomFor-prop (length l.roster.requests) l.journal.entries c.args.entry) (λ kept. room_of_kept l.roster l.names l.made.items l.journal.entries kept c.args.entry c.requires.may c.requires.reply c.requires.done) in
    subst (λ n. HasRoomFor (record { requests = n; entries = l.journal.entries }) c.args.entry) (sym l.requests) room

pub invariant_of-self : goal.invariant_of-self
invariant_of-self c =
    let l = c.args.self.now in
    record {
      few = l.few;
      requests = ap (λ (p : Pages). p.requests) c.push.ensures ∙ l.requests;
      kept = ∥∥₁_map l.kept (λ kept. subst (λ (p : Pages). IsKept l.roster l.names l.made.items p.entries) (sym c.push.ensures) (IsKept-entry l.roster l.names l.made.items l.journal.entries kept c.args.entry c.requires.may c.requires.reply c.requires.done));
    }
