-- A script without failures gives none.
use Rattle.std.proofs.Common.{◌≡◌, ◌≢◌, ◌⊎◌, inl, inr, ℕ, suc, zero, ◌-◌, ◌==◌, Bool, true, false, List, [], ◌∷◌, refl, subst, arith}
use Rattle.std.specs.Prelude.{slice_get, unwrap_or, if◌then◌else◌}
use Rattle.std.specs.List.{list_all}
use Rattle.std.specs.declared.option.Option.{Option}
use Rattle.std.specs.declared.option.Option.TheVariants.{None}
use Rattle.link_trait.specs.declared.steps.Step.{Step}
use Rattle.link_trait.specs.declared.steps.Step.TheVariants.{NoMechanism, Failed, NoMemory}
use Rattle.link_trait.specs.Tokens.{is_answered, are_answered, is_quiet, are_quiet, step_at}
use Rattle.link_trait.proofs.LogLemmas.{and_front, and_rest, all_kept}

quiet_place : (steps : List Step) (place : ℕ) → list_all is_quiet steps ≡ true → is_quiet (unwrap_or (slice_get steps place) NoMechanism) ≡ true
quiet_place [] place quiet = refl
quiet_place (step ∷ steps) zero quiet = and_front (is_quiet step) _ quiet
quiet_place (step ∷ steps) (suc place) quiet = quiet_place steps place (and_rest (is_quiet step) _ quiet)

quiet_request : (script : List (List Step)) (request : ℕ) → are_quiet script ≡ true → list_all is_quiet (unwrap_or (slice_get script request) []) ≡ true
quiet_request [] request quiet = refl
quiet_request (steps ∷ script) zero quiet = and_front (list_all is_quiet steps) _ quiet
quiet_request (steps ∷ script) (suc request) quiet = quiet_request script request (and_rest (list_all is_quiet steps) _ quiet)

quiet_if : (none : Bool) (steps : Option (List Step)) → list_all is_quiet (unwrap_or steps []) ≡ true
    → list_all is_quiet (unwrap_or (if none then None else steps) []) ≡ true
quiet_if true steps quiet = refl
quiet_if false steps quiet = quiet

quiet_step : (script : List (List Step)) (request place : ℕ) → are_quiet script ≡ true → is_quiet (step_at script request place) ≡ true
quiet_step script request place quiet =
    quiet_place _ place (quiet_if (request == 0) (slice_get script (request - 1)) (quiet_request script (request - 1) quiet))

not_failed : (step : Step) → is_quiet step ≡ true → step ≢ Failed
not_failed step quiet failed =
    let wrong : is_quiet Failed ≡ true = subst (λ (s : Step). is_quiet s ≡ true) failed quiet in
    grind (arith, wrong)

quiet_result : (step result : Step) → is_quiet step ≡ true → (result ≡ NoMemory) ⊎ (result ≡ step) → is_quiet result ≡ true
quiet_result step result quiet is = elim is [
  | inl none ↦ rw none refl
  | inr same ↦ rw same quiet
]

pub unanswered_quiet : (script : List (List Step)) (request place : ℕ) (step result : Step) → step ≡ step_at script request place
    → (result ≡ NoMemory) ⊎ (result ≡ step) → are_quiet script ≡ true → result ≢ Failed
unanswered_quiet script request place step result next is quiet =
    not_failed result (quiet_result step result (rw next (quiet_step script request place quiet)) is)

answered_step : (step : Step) → is_answered step ≡ true → is_quiet step ≡ true
answered_step step answered = grind (arith, answered)

-- a script of answers alone has no failure
pub answered_quiet : (script : List (List Step)) → are_answered script ≡ true → are_quiet script ≡ true
answered_quiet script answered =
    all_kept (λ steps. list_all is_answered steps) (λ steps. list_all is_quiet steps) script
    (λ steps each. all_kept is_answered is_quiet steps answered_step each) answered
