-- What providers of tokens answer.
use Rattle.std.specs.Prelude.{ℕ, Bool, true, false, ◌≡◌, ◌⊎◌, ◌==◌, ◌≤◌, List, [], ◌∷◌, filter, length, slice_get, unwrap_or, if◌then◌else◌}
use Rattle.std.proofs.Common.{get_or}
use Rattle.std.specs.List.{list_all}
use Rattle.std.specs.declared.option.Option.{Option}
use Rattle.std.specs.declared.option.Option.TheVariants.{None, Some}
use Rattle.auth_text.specs.Login.{Login}
use Rattle.spaces.specs.Sites.{numbered}
use Rattle.link_trait.specs.declared.steps.Step.{Step}
use Rattle.link_trait.specs.declared.steps.Step.TheVariants.{NoMechanism, Failed, NoMemory}
use Rattle.link_trait.specs.declared.tokens.TokenCall.{TokenCall}
use Rattle.link_trait.specs.declared.tokens.TokenCall.TheVariants.{Started, WentOn}

-- the call was answered: it didn't fail, and there was memory
abbrev pub is_answered : Step → Bool
is_answered Failed = false
is_answered NoMemory = false
is_answered step = true

-- every step of the script is an answer: none fails, and none wants memory
abbrev pub are_answered : List (List Step) → Bool
are_answered script = list_all (λ steps. list_all is_answered steps) script

-- an answered start is told, with its arguments and its step
abbrev pub starting : Step → ℕ → List ℕ → Option Login → List TokenCall
starting step request spn identity = if is_answered step then Started request spn identity step ∷ [] else []

-- an answered step onward is told, with its arguments and its step
abbrev pub going_on : Step → ℕ → List ℕ → List TokenCall
going_on step request token = if is_answered step then WentOn request token step ∷ [] else []

-- a call takes a step of the script, unless there is no memory
abbrev pub taking : Step → ℕ → List ℕ
taking NoMemory request = []
taking step request = request ∷ []

-- the request's step at a place, from 0; past the end there is no mechanism
abbrev pub step_at : List (List Step) → ℕ → ℕ → Step
step_at script request place = unwrap_or (slice_get (unwrap_or (numbered script request) []) place) NoMechanism

-- how many calls of the request took a step
abbrev pub taken_by : ℕ → List ℕ → ℕ
taken_by request taken = length (filter (λ other. other == request) taken)

-- the places of the requests up to 2,048; those that aren't listed are 0
abbrev pub ArePlaces : List ℕ → List ℕ → Type 0
ArePlaces places taken = (n : ℕ) → n ≤ 2048 → get_or places n 0 ≡ taken_by n taken

-- where the script is known, a call has memory for none or answers a step of its request's script; where the calls before are known, it is the next one
abbrev pub IsStepBy : Option (List (List Step)) → Option (List ℕ) → ℕ → Step → Type 0
IsStepBy None taken request step = Unit {0}
IsStepBy (Some script) None request step = (step ≡ NoMemory) ⊎ ((place : ℕ) × (step ≡ step_at script request place))
IsStepBy (Some script) (Some taken) request step = (step ≡ NoMemory) ⊎ (step ≡ step_at script request (taken_by request taken))

-- a step that isn't a failure
abbrev pub is_quiet : Step → Bool
is_quiet Failed = false
is_quiet step = true

-- no step of the script is a failure
abbrev pub are_quiet : List (List Step) → Bool
are_quiet script = list_all (λ steps. list_all is_quiet steps) script

-- a provider in memory: its script, the calls that it answered, the requests of those that took a step, and its failures
pub record TokensState : Type 0 where
  pub script : List (List Step)
  pub told : List TokenCall
  pub taken : List ℕ
  pub faults : ℕ
