-- What prompters answer.
use Rattle.std.specs.Prelude.{ℕ, ◌≡◌, List, [], ◌∷◌, filter, map, slice_get, Some, None, option_and_then}
use Rattle.std.specs.declared.option.Option.{Option}
use Rattle.auth_text.specs.Login.{Login}
use Rattle.spaces.specs.ProtectionSpaces.{ProtectionSpace}
use Rattle.spaces.specs.Sites.{same_space, numbered}
use Rattle.link_trait.specs.declared.prompts.Ask.{Ask}
use Rattle.link_trait.specs.declared.prompts.Asked.{Asked}
use Rattle.link_trait.specs.declared.prompts.Asked.TheVariants.{Given, Cancel, Failed, NoMemory}
use Rattle.link_trait.specs.Faults.{Counted}

-- the answers of a space, in order
abbrev pub answers_of : List (ProtectionSpace × Option Login) → ProtectionSpace → List (ProtectionSpace × Option Login)
answers_of answers space = filter (λ answer. same_space answer.0 space) answers

-- the nth answer of a space is for its prompt of ordinal n; none is a cancel
abbrev pub answer_in : List (ProtectionSpace × Option Login) → ProtectionSpace → ℕ → Option Login
answer_in answers space ordinal = option_and_then (λ answer. answer.1) (numbered (answers_of answers space) ordinal)

-- an answered prompt is told, with its space and ordinal
abbrev pub asking : Asked → ProtectionSpace → ℕ → List Ask
asking (Given login) space ordinal = record { space = space; ordinal = ordinal } ∷ []
asking Cancel space ordinal = record { space = space; ordinal = ordinal } ∷ []
asking Failed space ordinal = []
asking NoMemory space ordinal = []

-- a prompt that was answered, with its answer; none is a cancel
pub record Answered : Type 0 where
  pub ask : Ask
  pub answer : Option Login

-- an answered prompt is told, with its answer
abbrev pub answering : Asked → ProtectionSpace → ℕ → List Answered
answering (Given login) space ordinal = record { ask = record { space = space; ordinal = ordinal }; answer = Some login } ∷ []
answering Cancel space ordinal = record { ask = record { space = space; ordinal = ordinal }; answer = None } ∷ []
answering Failed space ordinal = []
answering NoMemory space ordinal = []

-- the prompts that were answered
abbrev pub asks_of : List Answered → List Ask
asks_of answered = map (λ it. it.ask) answered

-- a space's prompt of an ordinal has one answer, however often it is asked
abbrev pub AreAlike : List Answered → Type 0
AreAlike answered = (i j : ℕ) (a b : Answered) → slice_get answered i ≡ Some a → slice_get answered j ≡ Some b
    → a.ask ≡ b.ask → a.answer ≡ b.answer

-- the same, where they are told
abbrev pub AreAnsweredAlike : Option (List Answered) → Type 0
AreAnsweredAlike None = Unit {0}
AreAnsweredAlike (Some answered) = AreAlike answered

-- the prompt, with the answer that a list of answers has for it
abbrev pub answered_by : List (ProtectionSpace × Option Login) → Ask → Answered
answered_by answers ask = record { ask = ask; answer = answer_in answers ask.space ask.ordinal }

-- what is given is the answer, and a cancel has none
abbrev pub IsAnswer : Option Login → Asked → Type 0
IsAnswer answer (Given login) = answer ≡ Some login
IsAnswer answer Cancel = answer ≡ None
IsAnswer answer Failed = Unit {0}
IsAnswer answer NoMemory = Unit {0}

-- the same, where the answers are known
abbrev pub IsAnswerBy : Option (ProtectionSpace → ℕ → Option Login) → Asked → ProtectionSpace → ℕ → Type 0
IsAnswerBy None asked space ordinal = Unit {0}
IsAnswerBy (Some answers) asked space ordinal = IsAnswer (answers space ordinal) asked

-- a prompter in memory: its answers, and the prompts that it answered
pub record PrompterState : Type 0 where
  pub answers : List (ProtectionSpace × Option Login)
  pub asks : List Ask

-- the same, with its calls
pub record FailingState : Type 0 where
  pub script : PrompterState
  pub counts : Counted
