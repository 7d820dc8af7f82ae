-- The link of a machine: where one is open, which one it is, and what else of its request is open or was dialed.
use Rattle.std.specs.Prelude.{ℕ, ◌≡◌, ◌==◌, ◌<◌, Bool, true, false, not, List, filter, Option, None, IfSome, is_some, unwrap_or, option_map}
use Rattle.auth_text.specs.Login.{Login}
use Rattle.spaces.specs.ProtectionSpaces.{ProtectionSpace}
use Rattle.link_trait.specs.declared.links.LinkName.{LinkName}
use Rattle.link_trait.specs.declared.dialer.Dial.{Dial}
use Rattle.link_trait.specs.Links.{has_link, IsUndialed}
use Rattle.request_machine.specs.declared.stage.Stage.{Stage}
use Rattle.request_machine.specs.declared.stage.Stage.TheVariants.{Ask, Read, NextNonce, NameLast, RenewLast, Close, End, Spent, SpentEnd, SpentOver, Over}
use Rattle.request_machine.specs.Kept.{Kept}

-- WHERE A REQUEST IS, BY ITS LINK

pub data Way : Type 0 where
  -- on the way to a head, for which a link was dialed or is to be
  Onward : Way
  -- the user is asked on that way
  Asking : Way
  -- the link's reply is read
  Reading : (link : ℕ) → Way
  -- no head follows
  Ending : Way

abbrev pub way : Stage → Way
way (Ask p ordinal) = Asking
way (Read link) = Reading link
way (NextNonce t c) = Ending
way (NameLast t gift c) = Ending
way (RenewLast t gift terms c) = Ending
way (Close c) = Ending
way (End outcome) = Ending
way Spent = Ending
way SpentEnd = Ending
way SpentOver = Ending
way Over = Ending
way stage = Onward

-- a request goes on as it was, or ends
abbrev pub goes_on : Way → Way → Bool
goes_on before Ending = true
goes_on Onward Onward = true
goes_on Onward Asking = true
goes_on Asking Asking = true
goes_on (Reading link) (Reading on) = on == link
goes_on before now = false

-- neither a reply is read nor the user asked
abbrev pub is_away : Way → Bool
is_away Onward = true
is_away Ending = true
is_away way = false

abbrev pub is_ending : Way → Bool
is_ending Ending = true
is_ending way = false

-- what a machine keeps of its request, its link and its prompt
pub record Line : Type 0 where
  pub number : ℕ
  pub seed : List ℕ
  pub links : ℕ
  pub is_dialed : Bool
  pub link : Option LinkName
  pub space : Option ProtectionSpace
  pub given : Option Login

abbrev pub line : Kept → Line
line m = record { number = m.number; seed = m.seed; links = m.links; is_dialed = m.is_dialed; link = m.link; space = m.space; given = m.given }

-- nothing was dialed or told yet
abbrev pub first_line : ℕ → List ℕ → Line
first_line number seed = record { number = number; seed = seed; links = 0; is_dialed = false; link = None; space = None; given = None }

-- on the way to a head a link is open where one was dialed, and before its reply the last one is; a space is told where the user is asked
abbrev pub IsLinkedOn : Way → Line → Type 0
IsLinkedOn Onward l = (is_some l.link ≡ l.is_dialed) × (l.space ≡ None)
IsLinkedOn Asking l = is_some l.link ≡ l.is_dialed
IsLinkedOn (Reading link) l = (is_some l.link ≡ true) × (l.is_dialed ≡ false) × (l.space ≡ None) × (link ≡ l.links)
IsLinkedOn Ending l = Unit {0}

abbrev pub IsLinked : Kept → Type 0
IsLinked m = IsLinkedOn (way m.stage) (line m)

-- WHAT ELSE OF THE REQUEST IS OPEN OR WAS DIALED

-- the numbered link of the request
abbrev pub nth_link : Line → ℕ → LinkName
nth_link l n = record { request = l.number; nth = n }

-- the machine's link is the last one that was dialed, and no other of the request's is open
pub record IsOnlyLink (l : Line) (opened : List LinkName) : Type 0 where
  pub last : IfSome l.link (λ link. link ≡ nth_link l l.links)
  pub only : (n : ℕ) → has_link (nth_link l n) opened ≡ unwrap_or (option_map (λ link. link.nth == n) l.link) false

-- where dials are told, none is of a later link of the request
abbrev pub AreDialsOf : Line → Option (List Dial) → Type 0
AreDialsOf l dials = (n : ℕ) → l.links < n → IsUndialed (nth_link l n) dials

-- the links of other requests
abbrev pub of_others : ℕ → List LinkName → List LinkName
of_others number opened = filter (λ name. not (name.request == number)) opened

-- the machine went on with its own links alone
pub record IsDriven (m n : Kept) (opened_before opened : List LinkName) (dials : Option (List Dial)) : Type 0 where
  pub number : n.number ≡ m.number
  pub seed : n.seed ≡ m.seed
  pub linked : IsLinked n
  pub only : IsOnlyLink (line n) opened
  pub dialed : AreDialsOf (line n) dials
  pub others : of_others m.number opened ≡ of_others m.number opened_before
