use Rattle.std.proofs.Common.{◌≡◌, IsTrue, reverse, sym, subst, ap, ◌∙◌}
use Rattle.std.proofs.lemmas.List.{reverse-reverse}
use Rattle.auth_runs.specs.Runs.{is_whole}
use Rattle.trace_rule.specs.Traces.{IsTrace}
use Rattle.request_machine.specs.Kept.{Kept}
use Rattle.request_machine.proofs.Finishing.{over_trace, over_whole}
use Rattle.request_machine.proofs.machine.Machine.finish.Goals as goal

pub new-requires : goal.new-requires
new-requires c =
    let e : c.of_vec.result ≡ reverse c.args.self.past = c.of_vec.ensures ∙ sym (reverse-reverse c.self.inside.events.items) ∙ ap (λ (v : Kept). reverse v.past) c.self.view_is in
    subst (λ l. IsTrue (is_whole l)) (sym e) (over_whole c.args.self c.requires.over c.requires.tied)

pub returns-clause-trace : goal.returns-clause-trace
returns-clause-trace c = λ s t.
    let e : c.of_vec.result ≡ reverse c.args.self.past = c.of_vec.ensures ∙ sym (reverse-reverse c.self.inside.events.items) ∙ ap (λ (v : Kept). reverse v.past) c.self.view_is in
    subst (IsTrace s) (sym (c.new.ensures ∙ e)) (over_trace s c.args.self c.requires.over t)
