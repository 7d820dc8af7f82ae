use Rattle.std.proofs.Common.{◌∙◌, ℕ, List, [], Option, unwrap_or, sym, ap, subst}
use Rattle.connection_binding.specs.declared.ends.ReadEnd.TheVariants.{NoMemory}
use Rattle.connection_binding.specs.Readings.{IsOver}
use Rattle.connection_binding.proofs.PieceLemmas.{state_of, nothing_read, over_same}
use Rattle.connection_binding.proofs.bound.BoundLink.read.Goals as goal

pub returns-in_default-clause-reply : goal.returns-in_default-clause-reply
returns-in_default-clause-reply g c =
    subst (λ (left : List ℕ). IsOver c.args.self.now c.args.method (g.D.Dialer.streams c.args.dialer.now) (g.D.Dialer.traffic c.args.dialer.now) (g.D.Dialer.traffic c.args.dialer.now) NoMemory left)
    (sym (ap (λ (w : Option (List ℕ)). unwrap_or w []) c.take.ensures.after))
    (nothing_read c.args.self.now c.args.method (g.D.Dialer.streams c.args.dialer.now) (g.D.Dialer.traffic c.args.dialer.now))

pub returns-clause-reply : goal.returns-clause-reply
returns-clause-reply g c =
    over_same c.args.self.now (state_of c.self.inside.name c.in-Ok.window c.self.inside.has_replied) c.args.method (g.D.Dialer.streams c.args.dialer.now) (g.D.Dialer.traffic c.args.dialer.now)
    (g.D.Dialer.traffic c.read_reply-end.new.dialer) c.read_reply-end.result c.read_reply-end.new.window
    (ap (λ (kept : List ℕ). state_of c.self.inside.name kept c.self.inside.has_replied) (c.in-Ok.ensures.ok ∙ ap (λ (w : Option (List ℕ)). unwrap_or w []) c.take.ensures.value) ∙ c.self.view_is)
    c.read_reply-end.ensures.reply
