use Rattle.std.proofs.Common.{◌++◌, ◌∷◌, [], length, ap, sym, subst, ◌∙◌, arith}
use Rattle.std.specs.Prelude.{IsTrue}
use Rattle.path_lookup.specs.declared.index.Note.{Note}
use Rattle.path_lookup.specs.Notes.{AreWithinRows, Index, has_free_row, with_room}
use Rattle.path_lookup.proofs.Rows.{room_left, rows_kept}
use Rattle.path_lookup.proofs.index.PathIndex.add.Goals as goal

pub push_reserved-requires : goal.push_reserved-requires
push_reserved-requires c =
    let note : Note = record { space = c.args.space; site = c.args.site; request = c.args.request; target = c.args.target } in
    let free : IsTrue (has_free_row c.self.inside.spaces c.self.inside.notes.items c.args.space) = subst (λ (v : Index). IsTrue (has_free_row v.spaces v.notes c.args.space)) (sym c.self.view_is) c.requires.row in
    let left = c.make_room.ensures.notes ∙ ap (with_room c.args.space) c.drop_covered.ensures.notes in
    let room = room_left c.args.roster.now c.self.inside.spaces note c.self.inside.notes.items c.self.invariant.0 free _ c.self.invariant.1 in
    omega (arith, room, ap length left, c.make_room.ensures.capacity, c.drop_covered.ensures.capacity)

pub invariant_of-self : goal.invariant_of-self
invariant_of-self c =
    let note : Note = record { space = c.args.space; site = c.args.site; request = c.args.request; target = c.args.target } in
    let free : IsTrue (has_free_row c.self.inside.spaces c.self.inside.notes.items c.args.space) = subst (λ (v : Index). IsTrue (has_free_row v.spaces v.notes c.args.space)) (sym c.self.view_is) c.requires.row in
    let left = c.make_room.ensures.notes ∙ ap (with_room c.args.space) c.drop_covered.ensures.notes in (
      subst (AreWithinRows c.self.inside.spaces) (sym (c.push_reserved.ensures.items ∙ ap (λ ns. ns ++ note ∷ []) left))
          (rows_kept c.args.roster.now c.self.inside.spaces note c.self.inside.notes.items c.self.invariant.0 free),
      omega (arith, c.self.invariant.1, c.make_room.ensures.capacity, c.drop_covered.ensures.capacity, c.push_reserved.ensures.capacity),
    )
