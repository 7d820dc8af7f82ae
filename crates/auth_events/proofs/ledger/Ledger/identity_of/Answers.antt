-- A gift that was given has an identity.
use Rattle.std.proofs.Common.{sym, ap, ◌∙◌}
use Rattle.std.proofs.Math.Logic.{∥∥₁_elim}
use Rattle.std.proofs.lemmas.Bool.{false≢true}
use Rattle.std.specs.Prelude.{reverse, is_some, option_copied}
use Rattle.auth_events.proofs.Given.{given_identity}
use Rattle.auth_events.proofs.ledger.Ledger.identity_of.Goals as goal

pub unreachable-requires : goal.unreachable-requires
unreachable-requires c =
    let l = c.args.self.now in
    ∥∥₁_elim l.kept (λ x y. absurd x) (λ kept.
    false≢true (ap is_some (sym (ap option_copied c.in-None.is) ∙ c.identity.ensures) ∙ given_identity l.roster l.names (reverse l.journal.entries) c.args.gift kept.legal c.requires))
