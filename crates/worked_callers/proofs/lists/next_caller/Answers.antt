use Rattle.std.proofs.Common.{◌∷◌, [], ap, ◌∙◌, length}
use Rattle.std.specs.List.{slice_get}
use Rattle.turnstile.proofs.Places.{last_place, same_place}
use Rattle.worked_callers.proofs.lists.next_caller.Goals as goal

pub returns-clause-caller : goal.returns-clause-caller
returns-clause-caller g c =
    let e = c.in-Some.ensures.last in
    let front = c.pop.new.self.list in
    c.requires.new (length front) c.in-Some.last (ap (λ l. slice_get l (length front)) e ∙ last_place front c.in-Some.last)

pub returns-clause-rest : goal.returns-clause-rest
returns-clause-rest g c k p there =
    let e = c.in-Some.ensures.last in
    c.requires.new k p (ap (λ l. slice_get l k) e ∙ same_place c.pop.new.self.list (c.in-Some.last ∷ []) k p there)
