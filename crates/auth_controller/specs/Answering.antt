-- What an answer to a machine's need makes of the machine, and of what one caller serves.
use Rattle.std.specs.Prelude.{ℕ, ◌≡◌, ◌<◌, ◌⊎◌, true, false, IsTrue, List, length, Result, Ok, Err}
use Rattle.spaces.specs.declared.roster.Request.{Request}
use Rattle.spaces.specs.declared.roster.Roster.{Roster}
use Rattle.spaces.specs.declared.terms.Terms.{Terms}
use Rattle.spaces.specs.ProtectionSpaces.{ProtectionSpace}
use Rattle.auth_text.specs.Login.{Login}
use Rattle.auth_text.specs.declared.items.NoMemory.{NoMemory}
use Rattle.auth_events.specs.declared.controller.TermsRef.{TermsRef}
use Rattle.auth_events.specs.declared.journal.Drawn.{Drawn}
use Rattle.auth_events.specs.declared.told.Told.{Told}
use Rattle.auth_events.specs.Told.{names_told, past}
use Rattle.trace_rule.specs.Settings.{Setting}
use Rattle.serving_laws.specs.Knowing.{KnowsBook}
use Rattle.request_machine.specs.declared.gave.Gave.{Gave}
use Rattle.request_machine.specs.declared.gave.Gave.TheVariants.{Number, Ref, Space, Identity, Terms as TermsGiven, NoMemory as NoneGiven}
use Rattle.request_machine.specs.Gives.{IsTold, past_given}
use Rattle.request_machine.specs.Kept.{Kept, Ties}
use Rattle.request_machine.specs.Linked.{IsLinked, is_ending, way}
use Rattle.request_machine.specs.Prompted.{space_given as space_kept}
use Rattle.request_machine.specs.Turns.{is_asking}
use Rattle.request_machine.specs.Work.{is_answer, is_unspent, is_waiting, stage_told, work_left}
use Rattle.book_laws.specs.Owners.{AddsOwn}
use Rattle.auth_controller.specs.Serving.{IsServing}
use Rattle.auth_controller.specs.Texts.{IsTextGiven}

-- THE MACHINE

-- the machine was given this
pub record IsGivenAs (gave : Gave) (m n : Kept) : Type 0 where
  pub past : n.past ≡ past_given m gave
  pub number : n.number ≡ m.number
  pub seed : n.seed ≡ m.seed
  pub link : n.link ≡ m.link
  pub links : n.links ≡ m.links
  pub linked : IsLinked m → IsLinked n
  pub ends : is_ending (way m.stage) ≡ true → is_ending (way n.stage) ≡ true
  pub given : n.given ≡ m.given
  pub space : n.space ≡ space_kept m gave
  pub ties : (s : Setting) → IsTold s m m.stage gave → Ties s m → Ties s n
  pub stage : IsTrue (is_answer m.stage gave) → n.stage ≡ stage_told m m.stage gave
  pub left : is_asking m ≡ true → IsTrue (is_answer m.stage gave) → work_left n < work_left m
  pub free : length m.past < length n.past → is_waiting n.stage ≡ false
  pub nearer : length m.past < length n.past → work_left n < work_left m
  pub unspent : is_unspent m.stage ≡ false → is_unspent n.stage ≡ false

-- ONE CALLER

-- one caller serves the machine's request
pub record HasServing (roster : Roster) (told : List Told) (words : List Drawn) (m : Kept) : Type 0 where
  pub before : List Told
  pub first : List Drawn
  pub request : Request
  pub serving : IsServing roster before told first words request m

-- by what the book and the words have told
pub record HasServingBy (roster : Roster) (told : List Told) (m : Kept) : Type 0 where
  pub words : List Drawn
  pub has : HasServing roster told words m

-- by each setting that knows the book then it is so
abbrev pub IsSo : Roster → List Told → List Told → Kept → Gave → Type 0
IsSo roster told more m gave =
    (words : List Drawn) (before : List Told) (first : List Drawn) (request : Request) → IsServing roster before told first words request m
    → (s : Setting) → KnowsBook roster m.seed (names_told more) (past more) m.number request s → IsTold s m m.stage gave

-- the machine was given an answer or an event that is so, and less work is left
pub record IsGiven (roster : Roster) (told more : List Told) (m n : Kept) : Type 0 where
  pub gave : Gave
  pub as_it : IsGivenAs gave m n
  pub so : IsSo roster told more m gave
  pub text : IsTextGiven (names_told more) m m.stage gave
  pub heard : IsTrue (is_answer m.stage gave) ⊎ (length m.past < length n.past)
  pub left : work_left n < work_left m

-- the book told more of caller 1, and the machine's request is served on
pub record IsServedOn (roster : Roster) (told more : List Told) (words later : List Drawn) (m n : Kept) : Type 0 where
  pub adds : AddsOwn 1 told more
  pub on : (before : List Told) (first : List Drawn) (request : Request)
      → IsServing roster before told first words request m → IsServing roster before more first later request n

-- whatever the words have told, which tell nothing
abbrev pub IsServedOnBy : Roster → List Told → List Told → Kept → Kept → Type 0
IsServedOnBy roster told more m n = (words : List Drawn) → IsServedOn roster told more words words m n

-- WHAT IS GIVEN

abbrev pub number_given : Result ℕ NoMemory → Gave
number_given (Ok number) = Number number
number_given (Err none) = NoneGiven

abbrev pub numbers_given : Result TermsRef NoMemory → Gave
numbers_given (Ok numbers) = Ref numbers
numbers_given (Err none) = NoneGiven

abbrev pub space_given : Result ProtectionSpace NoMemory → Gave
space_given (Ok space) = Space space
space_given (Err none) = NoneGiven

abbrev pub identity_given : Result Login NoMemory → Gave
identity_given (Ok identity) = Identity identity
identity_given (Err none) = NoneGiven

abbrev pub terms_given : Result (Terms × ℕ) NoMemory → Gave
terms_given (Ok told) = TermsGiven told.0 told.1
terms_given (Err none) = NoneGiven
