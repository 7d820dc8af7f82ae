use Rattle.std.proofs.Common.{ap, ◌∙◌, sym, ◌∷◌, Some}
use Rattle.atomic_table.specs.Table.{rest}
use Rattle.turnstile.specs.Names.{id_of}
use Rattle.turnstile.proofs.turnstile.Turnstile.put_back.Goals as goal

pub returns-clause-full : goal.returns-clause-full
returns-clause-full g c =
    let e = c.exchange-old.ensures in (
      c.args.deposit,
      ap (λ m. m.1) e.3 ∙ ap (λ l. (0, Some c.args.deposit) ∷ rest l) c.requires.empty,
      c.requires.deposit.0 ∙ sym (ap (λ m. id_of m.0.history.table) e.3),
      c.requires.deposit.1 ∙ sym (ap (λ m. m.0.history.passes) e.3),
      ap (λ m. m.0.fixed) e.3 ∙ c.requires.deposit.2,
    )
