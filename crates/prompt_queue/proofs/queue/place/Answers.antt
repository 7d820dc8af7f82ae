use Rattle.std.proofs.Common.{◌-◌, arith, sym, ◌∙◌}
use Rattle.std.proofs.lemmas.Option.{slice_get-get_or}
use Rattle.prompt_queue.specs.declared.queue.Prompt.{Prompt}
use Rattle.prompt_queue.specs.declared.queue.PromptTake.TheVariants.{Pending}
use Rattle.prompt_queue.proofs.Places.{IsAt, is_at}
use Rattle.prompt_queue.proofs.queue.place.Goals as goal

pub overflow_sub-result : goal.overflow_sub-result
overflow_sub-result c = (is_at c.args.prompts.now c.args.prompt c.requires.numbered c.requires.led).from_one

pub returns-clause-within : goal.returns-clause-within
returns-clause-within c =
    let at : IsAt c.args.prompts.now c.args.prompt = is_at c.args.prompts.now c.args.prompt c.requires.numbered c.requires.led in
    omega (arith, at.from_one, at.within)

pub returns-clause-there : goal.returns-clause-there
returns-clause-there c =
    let at : IsAt c.args.prompts.now c.args.prompt = is_at c.args.prompts.now c.args.prompt c.requires.numbered c.requires.led in
    let any : Prompt = record { number = 0; space = 0; request = 0; ending = Pending } in
    at.there any ∙ sym (slice_get-get_or c.args.prompts.now (c.args.prompt - 1) any (omega (arith, at.from_one, at.within)))
