use Rattle.std.proofs.Common.{◌≡◌, ◌++◌, ◌+◌, ◌-◌, vec_len, replicate, reverse, arith, ap, sym, subst, ◌∙◌}
use Rattle.std.proofs.lemmas.List.{take_all}
use Rattle.prompt_queue.specs.Rows.{AreKept}
use Rattle.prompt_queue.proofs.Keeping.{kept_with_room}
use Rattle.prompt_queue.proofs.queue.PromptQueue.add_space.Goals as goal

pub invariant_of-self : goal.invariant_of-self
invariant_of-self c =
    let rows = c.self.inside.rows.items in
    let prompts = reverse c.self.inside.prompts.items in
    let more = c.args.space + 1 - vec_len c.self.inside.rows in
    let filled : c.resize.new.self.items ≡ rows ++ replicate more (record { latest = 0; led = 0 }) =
    c.in_ok-resize.ensures.items ∙ ap (λ xs. xs ++ replicate more (record { latest = 0; led = 0 })) (take_all (c.args.space + 1) rows (omega arith)) in
    (subst (λ all. AreKept all prompts) (sym filled) (kept_with_room rows prompts more c.self.invariant.0), c.self.invariant.1, c.self.invariant.2)
