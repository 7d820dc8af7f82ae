use Rattle.std.proofs.Common.{get_or, ◌≡◌, false, cond, arith, refl, ap, sym, ◌∙◌, Some, None}
use Rattle.std.specs.Prelude.{option_map}
use Rattle.prompt_queue.specs.declared.queue.PromptTake.{PromptTake}
use Rattle.prompt_queue.specs.declared.queue.PromptTake.TheVariants.{Pending, Gave, Cancelled, Lost}
use Rattle.prompt_queue.specs.Prompts.{is_pending}
use Rattle.prompt_queue.proofs.Latest.{Tells, latest_tells}
use Rattle.prompt_queue.proofs.queue.open_number.Goals as goal

not_pending : (taken : PromptTake) → (taken ≡ Pending → ⊥) → is_pending taken ≡ false
not_pending Pending other = absurd (other refl)
not_pending (Gave ordinal) other = refl
not_pending Cancelled other = refl
not_pending (Lost loss) other = refl

pub returns-then-latest-eq0 : goal.returns-then-latest-eq0
returns-then-latest-eq0 c =
    let kept = c.requires.kept in
    let tells : Tells c.args.prompts.now c.args.space 0 = latest_tells c.args.prompts.now c.args.space 0 kept.numbered kept.apart (sym c.if-latest-eq0.true ∙ ap (λ row. row.latest) (kept.each c.args.space _ c.requires.added)) in
    sym (ap (λ found. option_map (λ prompt. prompt.number) found) (tells.none refl))

pub bounds : goal.bounds
bounds c =
    let kept = c.requires.kept in
    let tells = latest_tells c.args.prompts.now c.args.space _ kept.numbered kept.apart (ap (λ row. row.latest) (kept.each c.args.space (record { latest = 0; led = 0 }) c.requires.added)) in
    omega (arith, tells.within c.if-latest-eq0.false)

pub returns-in-Pending : goal.returns-in-Pending
returns-in-Pending c =
    let kept = c.requires.kept in
    let tells = latest_tells c.args.prompts.now c.args.space _ kept.numbered kept.apart (ap (λ row. row.latest) (kept.each c.args.space (record { latest = 0; led = 0 }) c.requires.added)) in
    sym (tells.some c.if-latest-eq0.false _ ∙ ap (λ taken. cond (is_pending taken) (Some (get_or c.args.rows.now c.args.space (record { latest = 0; led = 0 })).latest) None) c.in-Pending.is)

pub returns-in_default : goal.returns-in_default
returns-in_default c =
    let kept = c.requires.kept in
    let tells = latest_tells c.args.prompts.now c.args.space _ kept.numbered kept.apart (ap (λ row. row.latest) (kept.each c.args.space (record { latest = 0; led = 0 }) c.requires.added)) in
    sym (tells.some c.if-latest-eq0.false _ ∙ ap (λ is. cond is (Some (get_or c.args.rows.now c.args.space (record { latest = 0; led = 0 })).latest) None) (not_pending _ c.in_default.not-Pending))
