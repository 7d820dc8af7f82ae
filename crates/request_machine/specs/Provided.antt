-- What a provider of tokens tells of a request that is being served: what it was asked, and how often it failed.
use Rattle.std.specs.Prelude.{ℕ, ◌≡◌, ◌⊎◌, ◌<◌, Bool, true, IsTrue, List, [], ◌∷◌, ◌++◌, length, filter_map, Some, None}
use Rattle.std.specs.declared.option.Option.{Option}
use Rattle.spaces.specs.declared.roster.Request.{Request}
use Rattle.spaces.specs.declared.site.Target.{Target}
use Rattle.link_trait.specs.Told.{grown}
use Rattle.link_trait.specs.declared.steps.Step.{Step}
use Rattle.link_trait.specs.declared.steps.StepSeen.{StepSeen}
use Rattle.link_trait.specs.declared.steps.StepSeen.TheVariants.{Token, NoMechanism, Failed, NoMemory}
use Rattle.link_trait.specs.declared.tokens.TokenCall.{TokenCall}
use Rattle.negotiate_handler.specs.declared.context.Stepped.{Stepped as Came}
use Rattle.negotiate_handler.specs.declared.context.Stepped.TheVariants.{Ready, Refused as CameRefused, NoMechanism as CameWithout, Failed as CameFailed, NoMemory as CameSpent}
use Rattle.auth_runs.specs.declared.event.Event.{Event}
use Rattle.auth_runs.specs.declared.event.Event.TheVariants.{Stepped}
use Rattle.trace_rule.specs.Settings.{Setting}
use Rattle.trace_rule.specs.Closings.{want}
use Rattle.trace_rule.specs.Telling.{asks, call_told}
use Rattle.request_machine.specs.Kept.{Kept, Ties}
use Rattle.request_machine.specs.Linked.{way, is_ending}
use Rattle.request_machine.specs.Failed.{RoseBy}
use Rattle.request_machine.specs.Contexts.{seen_said}

-- STEPS OF A PAST

-- the pasts that end in a step of the provider, the latest first
abbrev pub steps : List Event → List (List Event)
steps [] = []
steps (Stepped target seen ∷ past) = (Stepped target seen ∷ past) ∷ steps past
steps (event ∷ past) = steps past

abbrev pub step_fault : Event → Option ℕ
step_fault (Stepped target (Failed count)) = Some count
step_fault _ = None

-- the counts of steps that failed, the latest first
abbrev pub step_faults : List Event → List ℕ
step_faults past = filter_map step_fault past

-- nothing happened, or the provider took one step
abbrev pub IsStepMore : List Event → List Event → Type 0
IsStepMore before now = (now ≡ before) ⊎ (target : Target) × (seen : StepSeen) × (now ≡ Stepped target seen ∷ before)

-- the step is seen by what it came to; where there is no memory for a copy of its token, the request ends as if the provider had had none
abbrev pub IsSeenBy : Came → Target → Kept → Kept → Type 0
IsSeenBy (Ready token) t m n =
    (n.past ≡ Stepped t (Token token) ∷ m.past) ⊎ (n.past ≡ Stepped t NoMemory ∷ m.past) × (is_ending (way n.stage) ≡ true)
IsSeenBy (CameRefused said) t m n = n.past ≡ Stepped t (seen_said said) ∷ m.past
IsSeenBy CameWithout t m n = n.past ≡ Stepped t NoMechanism ∷ m.past
IsSeenBy (CameFailed count) t m n = n.past ≡ Stepped t (Failed count) ∷ m.past
IsSeenBy CameSpent t m n = n.past ≡ Stepped t NoMemory ∷ m.past

-- WHAT THE PROVIDER WAS ASKED

-- the last step was answered, and its token could not be copied
pub record IsOneMore (s : Setting) (past : List Event) (calls : List TokenCall) : Type 0 where
  pub base : List Event
  pub target : Target
  pub last : steps past ≡ (Stepped target NoMemory ∷ base) ∷ steps base
  pub step : Step
  pub call : TokenCall
  pub is_call : call_told s (want s base) step ≡ Some call
  pub order : calls ≡ asks s base ++ call ∷ []

-- these calls were answered so far: where no head follows, one more may have been
abbrev pub IsAskedSoFar : Setting → Bool → List Event → List TokenCall → Type 0
IsAskedSoFar s ending past calls = (calls ≡ asks s past) ⊎ IsTrue ending × IsOneMore s past calls

-- FROM TURN TO TURN

-- the calls that are told grow by those of the past
abbrev pub TellsAsks : Request → Kept → Kept → Option (List TokenCall) → Option (List TokenCall) → Type 0
TellsAsks request m n old new =
    (s : Setting) (before : Option (List TokenCall)) (calls : List TokenCall) → s.request ≡ request → Ties s m
    → old ≡ grown before calls → IsAskedSoFar s (is_ending (way m.stage)) m.past calls
    → (more : List TokenCall) × (new ≡ grown before more) × IsAskedSoFar s (is_ending (way n.stage)) n.past more

-- the provider's count rose to those that the new events keep
abbrev pub TellsStepFaults : Bool → Kept → Kept → ℕ → ℕ → Type 0
TellsStepFaults sticks m n old new =
    (first : ℕ) → RoseBy sticks first (step_faults m.past) old → RoseBy sticks first (step_faults n.past) new

-- what a provider shows
pub record Shown : Type 0 where
  pub told : Option (List TokenCall)
  pub script : Option (List (List Step))
  pub faults : ℕ

abbrev pub shown : Option (List TokenCall) → Option (List (List Step)) → ℕ → Shown
shown told script faults = record { told = told; script = script; faults = faults }

-- the provider shows what the new events say
pub record TellsSteps (request : Request) (sticks : Bool) (m n : Kept) (old new : Shown) : Type 0 where
  pub asked : TellsAsks request m n old.told new.told
  pub script : new.script ≡ old.script
  pub faults : TellsStepFaults sticks m n old.faults new.faults

-- the provider is as it was where it took no step
abbrev pub IsTouchedBySteps : {A : Type 0} → A → A → List Event → List Event → Type 0
IsTouchedBySteps old new before now =
    (new ≡ old) × (steps now ≡ steps before) ⊎ length (steps before) < length (steps now)
