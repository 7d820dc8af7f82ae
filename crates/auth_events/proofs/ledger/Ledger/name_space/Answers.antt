-- A space more.
use Rattle.std.proofs.Common.{◌≡◌, ℕ, cond, Option, ◌++◌, ◌∷◌, [], ◌+◌, length, ap, sym, subst, ◌∙◌, arith, Some, length-append}
use Rattle.std.proofs.Math.Logic.{∥∥₁_elim, ∥∥₁_map}
use Rattle.std.specs.Prelude.{is_some}
use Rattle.spaces.specs.Sites.{numbered}
use Rattle.auth_events.specs.declared.told.NewName.{NewName}
use Rattle.auth_events.specs.declared.told.NameKind.TheVariants.{Space as OfSpace}
use Rattle.auth_events.specs.Tables.{Tables, space_number, with_space}
use Rattle.auth_events.specs.Told.{told_space, MayNameSpace}
use Rattle.auth_events.specs.Ledgers.{told_of}
use Rattle.auth_events.proofs.Numbers.{numbered-last}
use Rattle.auth_events.proofs.Once.{same_told_prop}
use Rattle.auth_events.proofs.RoomLemmas.{length-le-room}
use Rattle.auth_events.proofs.Keeping.{kept_with_space, told_with_space}
use Rattle.auth_events.proofs.ledger.Ledger.name_space.Goals as goal

pub overflow_cast-before : goal.overflow_cast-before
overflow_cast-before c =
    let l = c.args.self.now in
    omega (arith, ap length c.entries.ensures.entries, length-le-room l.journal.requests l.journal.entries c.entries.ensures.within, l.requests, l.few)

pub push_space-requires-clause-new : goal.push_space-requires-clause-new
push_space-requires-clause-new c = ap (space_number c.args.self.now.names) c.in_ok-copy.ensures ∙ c.requires.new

pub invariant_of-self-2 : goal.invariant_of-self-2
invariant_of-self-2 c =
    let l = c.args.self.now in
    let copied : c.in_ok-copy.copy ≡ c.args.space.now = c.in_ok-copy.ensures in
    let name : NewName = record { kind = OfSpace; number = c.spaces_len-number.result; caller = c.args.caller; before = length c.entries.result.now } in
    record {
      few = l.few;
      requests = l.requests;
      kept = ∥∥₁_map l.kept (λ kept. kept_with_space l.roster l.names l.made.items l.journal.entries c.push_space.new.self c.push_reserved.new.self.items c.args.caller c.spaces_len-number.result (length c.entries.result.now) c.in_ok-copy.copy kept
          c.in_ok-push_space.ensures.fit
          (subst (MayNameSpace l.roster l.names) (sym copied) c.requires.may) (ap (space_number l.names) copied ∙ c.requires.new)
          c.in_ok-push_space.ensures.ok c.spaces_len-number.ensures.len (ap length c.entries.ensures.entries)
          (c.push_reserved.ensures.items ∙ ap (λ made. made ++ name ∷ []) c.in_ok-reserve.ensures.items));
    }

pub returns-clause-number : goal.returns-clause-number
returns-clause-number c =
    let l = c.args.self.now in
    let spaces = ap (λ (t : Tables). t.spaces) c.in_ok-push_space.ensures.ok in
    let last : c.spaces_len-number.result ≡ length l.names.spaces + 1 = c.spaces_len-number.ensures.len ∙ (ap length spaces ∙ length-append l.names.spaces (c.in_ok-copy.copy ∷ [])) in
    ap (λ xs. numbered xs c.spaces_len-number.result) spaces
    ∙ (ap (numbered (l.names.spaces ++ c.in_ok-copy.copy ∷ [])) last
    ∙ (numbered-last l.names.spaces c.in_ok-copy.copy ∙ ap Some c.in_ok-copy.ensures))

pub returns-clause-told : goal.returns-clause-told
returns-clause-told c =
    let l = c.args.self.now in
    let copied : c.in_ok-copy.copy ≡ c.args.space.now = c.in_ok-copy.ensures in
    let name : NewName = record { kind = OfSpace; number = c.spaces_len-number.result; caller = c.args.caller; before = length c.entries.result.now } in
    ∥∥₁_elim l.kept (same_told_prop _ _) (λ kept. told_with_space l.roster l.names l.made.items l.journal.entries c.push_space.new.self c.push_reserved.new.self.items c.args.caller c.spaces_len-number.result (length c.entries.result.now) c.in_ok-copy.copy kept
    (ap (space_number l.names) copied ∙ c.requires.new)
    c.in_ok-push_space.ensures.ok c.spaces_len-number.ensures.len (ap length c.entries.ensures.entries)
    (c.push_reserved.ensures.items ∙ ap (λ made. made ++ name ∷ []) c.in_ok-reserve.ensures.items)
    ∙ ap (told_space c.args.caller l.names (told_of l.names l.made.items l.journal.entries)) copied)

pub returns-clause-named : goal.returns-clause-named
returns-clause-named c =
    let l = c.args.self.now in
    c.in_ok-push_space.ensures.ok
    ∙ (ap (with_space l.names) c.in_ok-copy.ensures
    ∙ sym (ap (λ (o : Option ℕ). cond (is_some o) l.names (with_space l.names c.args.space.now)) c.requires.new))
