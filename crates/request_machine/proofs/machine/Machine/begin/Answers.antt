use Rattle.std.proofs.Common.{◌≡◌, ◌∙◌, Option, IfSome, option_copied, sym, subst, ap, refl}
use Rattle.auth_text.specs.Login.{Login}
use Rattle.link_trait.specs.Tokens.{starting}
use Rattle.negotiate_handler.specs.Contexts.{HasAnswered}
use Rattle.request_machine.specs.declared.holding.Holding.{Holding}
use Rattle.request_machine.specs.Kept.{Kept}
use Rattle.request_machine.specs.Contexts.{identity_told, IsBegunBy}
use Rattle.request_machine.proofs.Beginning.{begun_never}
use Rattle.request_machine.proofs.machine.Machine.begin.Goals as goal

pub returns-clause-gift : goal.returns-clause-gift
returns-clause-gift g c =
    subst (λ (o : Option Holding). IfSome o (λ h. h.gift ≡ c.in-Some.held.now.gift)) (sym (ap option_copied c.in-Some.is) ∙ c.holding.ensures) refl

pub returns-clause-begun : goal.returns-clause-begun
returns-clause-begun g c =
    let by = c.begin-stepped.ensures.answered in
    subst (λ (o : Option Holding). IfSome o (λ h. IsBegunBy h c.args.self.now.number c.args.spn.now c.begin-stepped.result (g.T.Tokens.told c.args.tokens.now) (g.T.Tokens.told c.begin-stepped.new.tokens)
    (g.T.Tokens.script c.args.tokens.now) (g.T.Tokens.taken c.args.tokens.now) (g.T.Tokens.taken c.begin-stepped.new.tokens) (g.T.Tokens.faults c.begin-stepped.new.tokens)))
    (sym (ap option_copied c.in-Some.is) ∙ c.holding.ensures)
    (record {
      step = by.0;
      answered = subst (λ n. HasAnswered (g.T.Tokens.told c.args.tokens.now) (g.T.Tokens.told c.begin-stepped.new.tokens) (starting by.0 n c.args.spn.now (identity_told c.in-Some.held.now))
          (g.T.Tokens.script c.args.tokens.now) (g.T.Tokens.taken c.args.tokens.now) (g.T.Tokens.taken c.begin-stepped.new.tokens) n by.0) (ap (λ (v : Kept). v.number) c.self.view_is)
          (subst (λ (login : Option Login). HasAnswered (g.T.Tokens.told c.args.tokens.now) (g.T.Tokens.told c.begin-stepped.new.tokens) (starting by.0 c.self.inside.number c.args.spn.now login)
          (g.T.Tokens.script c.args.tokens.now) (g.T.Tokens.taken c.args.tokens.now) (g.T.Tokens.taken c.begin-stepped.new.tokens) c.self.inside.number by.0) c.identity_told.ensures by.1);
      comes_to = by.2;
    })

pub returns-clause-never : goal.returns-clause-never
returns-clause-never g c = λ e. begun_never c.begin-stepped.ensures.answered.0 (g.T.Tokens.faults c.begin-stepped.new.tokens) (sym c.begin-stepped.ensures.answered.2 ∙ e)
