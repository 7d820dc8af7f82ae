-- The texts by which a request answers its prompts.
use Rattle.std.specs.Prelude.{ℕ, ◌≡◌, List, [], ◌∷◌, Some, None}
use Rattle.std.specs.declared.option.Option.{Option}
use Rattle.auth_text.specs.Login.{Login}
use Rattle.spaces.specs.ProtectionSpaces.{ProtectionSpace}
use Rattle.spaces.specs.Sites.{numbered}
use Rattle.auth_events.specs.declared.journal.Call.TheVariants.{Answer}
use Rattle.auth_events.specs.Tables.{Tables}
use Rattle.auth_runs.specs.declared.event.Event.{Event}
use Rattle.auth_runs.specs.declared.event.Event.TheVariants.{Called}
use Rattle.trace_rule.specs.Settings.{Setting}
use Rattle.request_machine.specs.declared.gave.Gave.{Gave}
use Rattle.request_machine.specs.declared.gave.Gave.TheVariants.{Number}
use Rattle.request_machine.specs.declared.stage.Stage.{Stage}
use Rattle.request_machine.specs.declared.stage.Stage.TheVariants.{Answer as Answering, NameText}
use Rattle.request_machine.specs.Kept.{Kept}
use Rattle.request_machine.specs.Prompted.{answer_at}

-- the text names the answer; a cancel has no text
abbrev pub IsTextOf : Tables → ℕ → Option Login → Type 0
IsTextOf names text None = text ≡ 0
IsTextOf names text (Some login) = numbered names.texts text ≡ Some login

-- each answer was given to the book by its text
abbrev pub AreTextsOf : Setting → (ProtectionSpace → ℕ → Option Login) → Tables → List Event → Type 0
AreTextsOf s answers names [] = Unit {0}
AreTextsOf s answers names (Called (Answer p text terms) reply ∷ past) = AreTextsOf s answers names past × IsTextOf names text (answer_at s answers past p)
AreTextsOf s answers names (event ∷ past) = AreTextsOf s answers names past

-- WHILE IT IS SERVED

-- the text that was told for the next call is that of the prompt's answer
abbrev pub IsTextAt : Setting → (ProtectionSpace → ℕ → Option Login) → Tables → List Event → Stage → Type 0
IsTextAt s answers names past (Answering p text) = IsTextOf names text (answer_at s answers past p.number)
IsTextAt s answers names past stage = Unit {0}

pub record AreTextsTold (s : Setting) (answers : ProtectionSpace → ℕ → Option Login) (names : Tables) (m : Kept) : Type 0 where
  pub made : AreTextsOf s answers names m.past
  pub next : IsTextAt s answers names m.past m.stage

-- the number that is given for a text names the identity that was given
abbrev pub IsTextGiven : Tables → Kept → Stage → Gave → Type 0
IsTextGiven names m (NameText p) (Number n) = numbered names.texts n ≡ m.given
IsTextGiven names m stage gave = Unit {0}
