-- A text more.
use Rattle.std.proofs.Common.{◌++◌, ◌∷◌, [], length, ap, ◌∙◌, arith}
use Rattle.std.proofs.Math.Logic.{∥∥₁_elim, ∥∥₁_map}
use Rattle.auth_events.specs.declared.told.NewName.{NewName}
use Rattle.auth_events.specs.declared.told.NameKind.TheVariants.{Text as OfText}
use Rattle.auth_events.specs.Tables.{with_text}
use Rattle.auth_events.specs.Ledgers.{told_of}
use Rattle.auth_events.proofs.Once.{same_told_prop}
use Rattle.auth_events.proofs.RoomLemmas.{length-le-room}
use Rattle.auth_events.proofs.Keeping.{kept_with_text, told_with_text}
use Rattle.auth_events.proofs.ledger.Ledger.text_no.Goals as goal
use Rattle.auth_events.specs.declared.told.Told.TheVariants.{TextNamed}

pub overflow_cast-before : goal.overflow_cast-before
overflow_cast-before c =
    let l = c.args.self.now in
    omega (arith, ap length c.entries.ensures.entries, length-le-room l.journal.requests l.journal.entries c.entries.ensures.within, l.requests, l.few)

pub invariant_of-self-2 : goal.invariant_of-self-2
invariant_of-self-2 c =
    let l = c.args.self.now in
    let name : NewName = record { kind = OfText; number = c.texts_len-number.result; caller = c.args.caller; before = length c.entries.result.now } in
    record {
      few = l.few;
      requests = l.requests;
      kept = ∥∥₁_map l.kept (λ kept. kept_with_text l.roster l.names l.made.items l.journal.entries c.push_text.new.self c.push_reserved.new.self.items c.args.caller c.texts_len-number.result (length c.entries.result.now) c.in_ok-copy.copy kept
          c.requires
          c.in_ok-push_text.ensures.ok c.texts_len-number.ensures.len (ap length c.entries.ensures.entries)
          (c.push_reserved.ensures.items ∙ ap (λ made. made ++ name ∷ []) c.in_ok-reserve.ensures.items));
    }

pub returns-clause-told : goal.returns-clause-told
returns-clause-told c =
    let l = c.args.self.now in
    let name : NewName = record { kind = OfText; number = c.texts_len-number.result; caller = c.args.caller; before = length c.entries.result.now } in
    ∥∥₁_elim l.kept (same_told_prop _ _) (λ kept. told_with_text l.roster l.names l.made.items l.journal.entries c.push_text.new.self c.push_reserved.new.self.items c.args.caller c.texts_len-number.result (length c.entries.result.now) c.in_ok-copy.copy kept
    c.in_ok-push_text.ensures.ok c.texts_len-number.ensures.len (ap length c.entries.ensures.entries)
    (c.push_reserved.ensures.items ∙ ap (λ made. made ++ name ∷ []) c.in_ok-reserve.ensures.items)
    ∙ ap (λ text. told_of l.names l.made.items l.journal.entries ++ TextNamed c.args.caller text ∷ []) c.in_ok-copy.ensures)

pub returns-clause-named : goal.returns-clause-named
returns-clause-named c = c.in_ok-push_text.ensures.ok ∙ ap (with_text c.args.self.now.names) c.in_ok-copy.ensures
