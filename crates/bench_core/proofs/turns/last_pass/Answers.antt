use Rattle.std.proofs.Common.{◌≡◌, ◌+◌, ◌∷◌, [], ap, ◌∙◌, sym, subst, length}
use Rattle.std.proofs.lemmas.List.{length-append}
use Rattle.std.specs.List.{slice_get}
use Rattle.turnstile.specs.Passes.{IsNewPass}
use Rattle.turnstile.proofs.Places.{last_place, same_place}
use Rattle.bench_core.proofs.turns.last_pass.Goals as goal

pub returns-clause-pass : goal.returns-clause-pass
returns-clause-pass c =
    let e = c.in-Some.ensures.last in
    let front = c.pop.new.self.list in
    let long : length c.args.passes.now.list ≡ length front + 1 = ap length e ∙ length-append front (c.in-Some.last ∷ []) in
    let there = ap (λ l. slice_get l (length front)) e ∙ last_place front c.in-Some.last in
    subst (λ n. IsNewPass c.args.lock.now n c.in-Some.last) (sym long) (c.requires.new (length front) c.in-Some.last there)

pub returns-clause-rest : goal.returns-clause-rest
returns-clause-rest c k p there =
    let e = c.in-Some.ensures.last in
    c.requires.new k p (ap (λ l. slice_get l k) e ∙ same_place c.pop.new.self.list (c.in-Some.last ∷ []) k p there)
