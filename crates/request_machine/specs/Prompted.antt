-- What a prompter tells of a request that is being served: what it was asked, and what it answered.
use Rattle.std.specs.Prelude.{ℕ, ◌≡◌, Bool, true, false, IsSome, IfSome, List, [], ◌∷◌, ◌++◌, Some, None}
use Rattle.std.specs.List.{list_all}
use Rattle.std.specs.declared.option.Option.{Option}
use Rattle.auth_text.specs.Login.{Login}
use Rattle.spaces.specs.declared.roster.Request.{Request}
use Rattle.spaces.specs.ProtectionSpaces.{ProtectionSpace}
use Rattle.auth_events.specs.declared.journal.Call.TheVariants.{Select}
use Rattle.auth_events.specs.declared.journal.BookReply.TheVariants.{Lead}
use Rattle.link_trait.specs.Told.{grown}
use Rattle.link_trait.specs.declared.prompts.Ask.{Ask as Asked}
use Rattle.link_trait.specs.declared.prompts.AskSeen.{AskSeen}
use Rattle.link_trait.specs.declared.prompts.AskSeen.TheVariants.{Given, Cancel, Failed, NoMemory}
use Rattle.auth_runs.specs.declared.event.Event.{Event}
use Rattle.auth_runs.specs.declared.event.Event.TheVariants.{Called, AskedFor}
use Rattle.trace_rule.specs.Settings.{Setting}
use Rattle.trace_rule.specs.Telling.{ask_of, prompted}
use Rattle.request_machine.specs.declared.gave.Gave.{Gave}
use Rattle.request_machine.specs.declared.gave.Gave.TheVariants.{Space}
use Rattle.request_machine.specs.declared.stage.Stage.{Stage}
use Rattle.request_machine.specs.declared.stage.Stage.TheVariants.{Ask}
use Rattle.request_machine.specs.Kept.{Kept, Ties}

-- what stands for the first of the prompts; none is a cancel
abbrev pub answer_to_first : (ProtectionSpace → ℕ → Option Login) → List Asked → Option Login
answer_to_first answers [] = None
answer_to_first answers (ask ∷ asks) = answers ask.space ask.ordinal

-- what stands for the prompt of that number, by its space and ordinal
abbrev pub answer_at : Setting → (ProtectionSpace → ℕ → Option Login) → List Event → ℕ → Option Login
answer_at s answers past p = answer_to_first answers (ask_of s past p)

-- an identity was given where the answer is one, and a cancel where it is none
abbrev pub IsSeen : Option Login → AskSeen → Type 0
IsSeen answer Given = IsSome answer
IsSeen answer Cancel = answer ≡ None
IsSeen answer (Failed count) = Unit {0}
IsSeen answer NoMemory = Unit {0}

-- each prompt was answered by what stands for it
abbrev pub AreAnswered : Setting → (ProtectionSpace → ℕ → Option Login) → List Event → Type 0
AreAnswered s answers [] = Unit {0}
AreAnswered s answers (AskedFor p seen ∷ past) = AreAnswered s answers past × IsSeen (answer_at s answers past p) seen
AreAnswered s answers (event ∷ past) = AreAnswered s answers past

-- the identity that was given last is what stands for its prompt
abbrev pub HasGiven : Setting → (ProtectionSpace → ℕ → Option Login) → List Event → Option Login → Type 0
HasGiven s answers (AskedFor p Given ∷ past) given = given ≡ answer_at s answers past p
HasGiven s answers past given = Unit {0}

-- a space that was told for a prompt that was led last is that of the prompt
abbrev pub IsSpaceLed : Setting → List Event → Option ProtectionSpace → Type 0
IsSpaceLed s (Called (Select n terms) (Lead p ordinal) ∷ past) space = IfSome space (λ named. s.space_of n ≡ Some named)
IsSpaceLed s past space = Unit {0}

-- what stands for the prompts was answered, and the identity that is kept is what stands for the last one
pub record IsAnsweredBy (s : Setting) (answers : ProtectionSpace → ℕ → Option Login) (m : Kept) : Type 0 where
  pub seen : AreAnswered s answers m.past
  pub given : HasGiven s answers m.past m.given

-- a prompter of such answers told this of the request so far, behind what it told before
pub record IsPrompted (s : Setting) (before : Option (List Asked)) (answers : Option (ProtectionSpace → ℕ → Option Login)) (m : Kept) (asks : Option (List Asked)) : Type 0 where
  pub told : asks ≡ grown before (prompted s m.past)
  pub answered : IfSome answers (λ answer. IsAnsweredBy s answer m)
  pub space : IsSpaceLed s m.past m.space

-- FROM TURN TO TURN

-- no prompter tells of the event, and it leads no prompt
abbrev pub is_unprompted : Event → Bool
is_unprompted (Called call reply) = false
is_unprompted (AskedFor p seen) = false
is_unprompted _ = true

-- the machine went on without its prompter
pub record IsUnprompted (m n : Kept) : Type 0 where
  pub more : List Event
  pub order : n.past ≡ more ++ m.past
  pub unprompted : list_all is_unprompted more ≡ true
  pub given : n.given ≡ m.given
  pub space : n.space ≡ m.space

-- the prompts that are told grow by those that were answered, as they stand
abbrev pub TellsPrompts : Request → Kept → Kept → Option (ProtectionSpace → ℕ → Option Login) → Option (List Asked) → Option (List Asked) → Type 0
TellsPrompts request m n answers old new =
    (s : Setting) (before : Option (List Asked)) → s.request ≡ request → Ties s m → IsPrompted s before answers m old → IsPrompted s before answers n new

-- BEHIND WHAT THE CALLER GIVES

-- a space that is told is kept where the user is asked next
abbrev pub space_told : Kept → Stage → ProtectionSpace → Option ProtectionSpace
space_told m (Ask p ordinal) space = Some space
space_told m stage space = m.space

abbrev pub space_given : Kept → Gave → Option ProtectionSpace
space_given m (Space space) = space_told m m.stage space
space_given m gave = m.space
