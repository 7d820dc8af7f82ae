use Rattle.std.proofs.Common.{◌+◌, ap}
use Rattle.name_index.proofs.Knowing.{space_more, space_noted}
use Rattle.name_index.proofs.index.NameIndex.note_space.Goals as goal

pub returns-clause-knows : goal.returns-clause-knows
returns-clause-knows c =
    let s = c.args.self.now in (
      space_noted s.spaces c.insert.new.self c.args.names.now c.in_ok-key.key c.args.space.now (c.spaces_len.result + 1)
          c.requires.knows.0 c.requires.new c.in_ok-key.ensures c.in_ok-insert.ensures.updates,
      c.requires.knows.1,
      c.note_site.ensures.knows,
      c.requires.knows.3,
    )

pub returns-clause-next : goal.returns-clause-next
returns-clause-next c =
    let s = c.args.self.now in (
      space_more s.spaces c.insert.new.self c.args.names.now c.in_ok-key.key c.args.space.now (c.spaces_len.result + 1)
          c.requires.knows.0 c.requires.new c.in_ok-key.ensures c.in_ok-insert.ensures.updates (ap (λ n. n + 1) c.spaces_len.ensures.len),
      c.requires.knows.1,
      c.in_ok-first.ensures.next,
      c.requires.knows.3,
    )
