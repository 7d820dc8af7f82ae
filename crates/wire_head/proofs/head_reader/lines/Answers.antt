use Rattle.std.proofs.Common.{List, ℕ, [], ◌∷◌, ◌++◌, ◌∙◌, ap, sym}
use Rattle.wire_head.proofs.CutLemmas.{line_step, cut_none}
use Rattle.wire_head.proofs.head_reader.lines.Goals as goal

pub lines-preserved : goal.lines-preserved
lines-preserved c =
    rw (c.in_ok-push-in-Some.ensures.ok, c.in_ok-from_slice-in-Some.ensures, c.behind_at_most-rest.ensures, c.front_at_most.ensures)
    (line_step c.in-Some.i c.lines.rest.now c.lines.them (sym c.in-Some.ensures.value) ∙ c.lines.invariant)

pub returns-in-None : goal.returns-in-None
returns-in-None c =
    c.in_ok-push-in-None.ensures.ok
    ∙ ap (λ (x : List ℕ). c.lines.them ++ x ∷ []) c.in_ok-from_slice-in-None.ensures
    ∙ ap (λ (ls : List (List ℕ)). c.lines.them ++ ls) (sym (cut_none 10 0 c.lines.rest.now (sym c.in-None.ensures.value)))
    ∙ c.lines.invariant
