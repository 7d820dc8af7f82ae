-- Where nothing fails, a request ends well.
use Rattle.std.proofs.Common.{IsTrue, ◌≡◌, ℕ, Bool, true, false, List, [], ◌∷◌, reverse, refl, sym, ap, ◌∙◌, ◌⊎◌, inl, inr}
use Rattle.std.specs.Prelude.{not, ◌||◌}
use Rattle.std.specs.List.{list_any}
use Rattle.std.proofs.lemmas.Bool.{false≢true, not-true}
use Rattle.auth_events.proofs.Reversed.{list_any-reverse}
use Rattle.auth_runs.specs.declared.event.Outcome.{Outcome}
use Rattle.auth_runs.specs.declared.event.Outcome.TheVariants.{NoMemory}
use Rattle.auth_runs.specs.declared.event.Event.{Event}
use Rattle.auth_runs.specs.declared.event.Event.TheVariants.{Ended}
use Rattle.auth_runs.specs.Runs.{Run, trace}
use Rattle.trace_rule.specs.Settings.{Setting}
use Rattle.trace_rule.specs.Traces.{IsRun, IsCut, is_over, is_spent}
use Rattle.trace_rule.proofs.Knowing.{both_of}
use Rattle.run_rule.specs.Outside.{Outside}
use Rattle.run_rule.specs.Failing.{is_by_fault, is_fault, wants_memory, is_faultless}
use Rattle.run_rule.specs.Runs.{IsServedIn}
use Rattle.run_rule.specs.Laws.{IsEndedWell}

abbrev IsEnded : List Event → Type 0
IsEnded past = (outcome : Outcome) × (before : List Event) × (past ≡ Ended outcome ∷ before)

over : (past : List Event) → IsTrue (is_over past) → IsEnded past
over [] is = absurd (false≢true is)
over (Ended outcome ∷ past) is = (outcome, past, refl)
over (_ ∷ past) is = absurd (false≢true is)

ended : (s : Setting) (past : List Event) → IsRun s past ⊎ IsCut s past → IsEnded past
ended s past (inl run) = over past run.1
ended s past (inr cut) = (NoMemory, _, cut.1.cut)

first_is_false : (a b : Bool) → (a || b) ≡ false → a ≡ false
first_is_false true b is = is
first_is_false false b is = refl

ends_well : (past : List Event) → IsEnded past → list_any is_fault past ≡ false → IsEndedWell past
ends_well past end none =
    (end.0, end.1, end.2, first_is_false (is_by_fault end.0) (list_any is_fault end.1) (ap (list_any is_fault) (sym end.2) ∙ none))

pub request_ends_well : (outside : Outside) (run : Run) (r : ℕ) → IsServedIn outside run r → IsTrue (is_faultless (trace run r)) → IsEndedWell (reverse (trace run r))
request_ends_well outside run r served faultless =
    let calm = both_of (not (list_any is_fault (trace run r))) (is_spent (reverse (trace run r)) || not (list_any wants_memory (trace run r))) faultless in
    let none : list_any is_fault (trace run r) ≡ false = not-true (list_any is_fault (trace run r)) calm.0 in
    ends_well (reverse (trace run r)) (ended _ (reverse (trace run r)) served.is_trace) (list_any-reverse is_fault (trace run r) ∙ none)
