use Rattle.std.proofs.Common.{◌≡◌, ◌-◌, List, length, get_or, set, reverse, ap, sym, subst, ◌∙◌}
use Rattle.std.specs.Prelude.{IsTrue, is_some}
use Rattle.prompt_queue.specs.declared.queue.Prompt.{Prompt}
use Rattle.prompt_queue.specs.Prompts.{Queue, prompt_of}
use Rattle.prompt_queue.specs.Rows.{AreKept}
use Rattle.prompt_queue.proofs.Places.{ended_in}
use Rattle.prompt_queue.proofs.Keeping.{kept_ended}
use Rattle.prompt_queue.proofs.queue.PromptQueue.end.Goals as goal

pub invariant_of-self : goal.invariant_of-self
invariant_of-self c =
    let prompts = c.self.inside.prompts.items in
    let kept = c.self.invariant.0 in
    let written = c.index_mut.result.now in
    let led = subst (λ (queue : Queue). IsTrue (is_some (prompt_of queue.prompts c.args.prompt))) (sym c.self.view_is) c.requires.led in
    let read : written ≡ get_or prompts (c.args.prompt - 1) written = c.index_mut.ensures.value ∙ ap (λ at. get_or prompts at written) c.place-at.ensures.place in
    let ended = ap (λ at. reverse (set prompts at (record written { ending = c.args.outcome }))) c.place-at.ensures.place
    ∙ ended_in prompts c.args.prompt c.args.outcome written kept.numbered led read in
    (subst (λ xs. AreKept c.self.inside.rows.items xs) (sym ended) (kept_ended c.self.inside.rows.items (reverse prompts) c.args.prompt c.args.outcome c.requires.ends kept), c.self.invariant.1, c.self.invariant.2)

pub returns : goal.returns
returns c =
    let prompts = c.self.inside.prompts.items in
    let kept = c.self.invariant.0 in
    let written = c.index_mut.result.now in
    let led = subst (λ (queue : Queue). IsTrue (is_some (prompt_of queue.prompts c.args.prompt))) (sym c.self.view_is) c.requires.led in
    let read : written ≡ get_or prompts (c.args.prompt - 1) written = c.index_mut.ensures.value ∙ ap (λ at. get_or prompts at written) c.place-at.ensures.place in
    let ended = ap (λ at. reverse (set prompts at (record written { ending = c.args.outcome }))) c.place-at.ensures.place
    ∙ ended_in prompts c.args.prompt c.args.outcome written kept.numbered led read in
    let all : List Prompt → Queue = λ xs. record { requests = c.self.inside.requests; spaces = length c.self.inside.rows.items; prompts = xs } in
    rw (← c.self.view_is) (ap all ended)
