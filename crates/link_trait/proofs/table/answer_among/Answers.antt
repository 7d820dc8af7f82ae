use Rattle.std.proofs.Common.{◌≡◌, ◌∙◌, ◌<◌, ◌≤◌, length, sym, ap, arith, Some, None, slice_get, option_copied}
use Rattle.std.proofs.lemmas.Grind.{common_steps}
use Rattle.std.proofs.lemmas.Option.{slice_get_read, slice_get_past}
use Rattle.link_trait.specs.Index.{at_runs}
use Rattle.link_trait.proofs.IndexLemmas.{ends_rise, nth_is, past_runs, in_run}
use Rattle.link_trait.proofs.table.answer_among.Goals as goal

pub first_behind-requires : goal.first_behind-requires
first_behind-requires c = ends_rise c.args.answers.now c.args.runs.now c.requires

pub returns-in_err-run : goal.returns-in_err-run
returns-in_err-run c =
    let all = c.args.answers.now in
    let runs = c.args.runs.now in
    let at = c.in_ok-at.at in
    let past : length runs ≤ c.first_behind.result = grind arith in
    ap option_copied c.from_residual-in_err-run.ensures
    ∙ sym (nth_is (at_runs all runs) c.args.ordinal at (grind arith)
    ∙ past_runs all runs c.first_behind.result at c.requires c.first_behind.ensures.bound past c.first_behind.ensures.parted.0)

pub returns-in_err-get : goal.returns-in_err-get
returns-in_err-get c =
    let all = c.args.answers.now in
    let runs = c.args.runs.now in
    let at = c.in_ok-at.at in
    let i = c.first_behind.result in
    let run = c.in_ok-run.run'.now in
    let within : i < length runs = grind arith in
    let past : length all ≤ run.place = grind arith in
    let here : slice_get runs i ≡ Some run = slice_get_read runs (length runs) i run (grind arith) within (grind arith) in
    ap option_copied c.from_residual-in_err-get.ensures
    ∙ sym (nth_is (at_runs all runs) c.args.ordinal at (grind arith)
    ∙ in_run all runs i at run None c.requires here (slice_get_past all run.place past) c.first_behind.ensures.parted.0 (grind (arith, common_steps, c.first_behind.ensures.parted.1 i run)))

pub returns : goal.returns
returns c =
    let all = c.args.answers.now in
    let runs = c.args.runs.now in
    let at = c.in_ok-at.at in
    let i = c.first_behind.result in
    let run = c.in_ok-run.run'.now in
    let it = c.in_ok-get.field-0.now in
    let within : i < length runs = grind arith in
    let placed : run.place < length all = grind arith in
    let here : slice_get runs i ≡ Some run = slice_get_read runs (length runs) i run (grind arith) within (grind arith) in
    let found : slice_get all run.place ≡ Some it = slice_get_read all (length all) run.place it (grind arith) placed (grind arith) in
    c.as_ref.ensures.value
    ∙ sym (nth_is (at_runs all runs) c.args.ordinal at (grind arith)
    ∙ in_run all runs i at run (Some it) c.requires here found c.first_behind.ensures.parted.0 (grind (arith, common_steps, c.first_behind.ensures.parted.1 i run)))
