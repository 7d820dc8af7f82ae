use Rattle.std.proofs.Common.{◌+◌, ap}
use Rattle.name_index.proofs.Knowing.{terms_more, terms_noted}
use Rattle.name_index.proofs.index.NameIndex.note_terms.Goals as goal

pub returns-clause-knows : goal.returns-clause-knows
returns-clause-knows c =
    let s = c.args.self.now in (
      c.requires.knows.0,
      terms_noted s.terms c.insert.new.self c.args.names.now c.in_ok-key.key (c.args.space, c.args.terms.now) (c.terms_len.result + 1)
          c.requires.knows.1 c.requires.new c.in_ok-key.ensures c.in_ok-insert.ensures.updates,
      c.requires.knows.2,
      c.note_nonce.ensures.knows,
    )

pub returns-clause-next : goal.returns-clause-next
returns-clause-next c =
    let s = c.args.self.now in (
      c.requires.knows.0,
      terms_more s.terms c.insert.new.self c.args.names.now c.in_ok-key.key (c.args.space, c.args.terms.now) (c.terms_len.result + 1)
          c.requires.knows.1 c.requires.new c.in_ok-key.ensures c.in_ok-insert.ensures.updates c.args.nonce (ap (λ n. n + 1) c.terms_len.ensures.len),
      c.requires.knows.2,
      c.in_ok-note_nonce.ensures.next,
    )
