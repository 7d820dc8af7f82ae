use Rattle.std.proofs.Common.{◌∙◌, ◌≤◌, length, drop, sym, subst, ap}
use Rattle.connection_binding.proofs.WindowLemmas.{window_taken}
use Rattle.connection_binding.proofs.window.Window.take.Goals as goal

pub returns : goal.returns
returns c =
    let fits = subst (λ v. c.args.count ≤ length v) (sym c.self.view_is) c.requires in
    window_taken c.self.inside.from c.self.inside.to c.args.count c.self.inside.bytes.items fits ∙ ap (drop c.args.count) c.self.view_is
