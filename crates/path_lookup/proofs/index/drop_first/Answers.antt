use Rattle.std.proofs.Common.{◌≡◌, ◌-◌, ap, ◌∙◌, sym, arith, Some, None}
use Rattle.std.specs.List.{position_from, remove}
use Rattle.path_lookup.specs.Notes.{is_of}
use Rattle.path_lookup.proofs.Rows.{drop_at, drop_none}
use Rattle.path_lookup.proofs.index.drop_first.Goals as goal

pub returns-in-Some-clause-notes : goal.returns-in-Some-clause-notes
returns-in-Some-clause-notes c =
    let found : position_from (is_of c.args.space) 0 c.args.notes.now.items ≡ Some c.in-Some.at = cc in
    let at : c.in-Some.at ≡ c.in-Some.at - 0 = omega arith in
    c.remove.ensures.items ∙ (ap (remove c.args.notes.now.items) at ∙ sym (drop_at c.args.space 0 c.args.notes.now.items c.in-Some.at found).0)

pub returns-in_default-clause-notes : goal.returns-in_default-clause-notes
returns-in_default-clause-notes c =
    let none : position_from (is_of c.args.space) 0 c.args.notes.now.items ≡ None = cc in
    sym (drop_none c.args.space 0 c.args.notes.now.items none)
