-- What holds in every legal history, in the words of its subject.
-- A past is the list of the entries of calls, the latest first.
use Rattle.std.specs.Prelude.{◌≡◌, ◌≤◌, ℕ, Bool, false, not, ◌&&◌, ◌==◌, if◌then◌else◌, IsTrue, List, [], ◌∷◌, ◌++◌, length, reverse, count_by, All, AllPairs, Any, Some, option_map, unwrap_or}
use Rattle.std.specs.List.{list_any}
use Rattle.spaces.specs.declared.roster.Roster.{Roster}
use Rattle.spaces.specs.Paths.{covers}
use Rattle.auth_events.specs.declared.journal.Gift.{Gift}
use Rattle.auth_events.specs.declared.journal.Call.{Call}
use Rattle.auth_events.specs.declared.journal.Call.TheVariants.{Preempt, Select, Answer, Take}
use Rattle.auth_events.specs.declared.journal.BookReply.{BookReply}
use Rattle.auth_events.specs.declared.journal.Entry.{Entry}
use Rattle.auth_events.specs.Past.{gift_given, gives, takes_away, current, live, live_spaces, live_rivals, terms, is_lead, selects, settles, settled, prompt_led, prompt_followed, taken_from}
use Rattle.auth_events.specs.Book.{NotedDir, without_draws, dirs, takes, gift_told, is_of_partition, is_rival, is_site_of, own, space_named, target_of}
use Rattle.auth_events.specs.Tables.{Tables}

-- the past of a history
abbrev pub past_of : List Entry → List Entry
past_of history = reverse (without_draws history)

-- LIVE SPACES

-- an entry gave credentials of the space, and neither it nor a later one took them away
pub record WasGivenAndKept (past : List Entry) (s : ℕ) : Type 0 where
  pub later : List Entry
  pub giving : Entry
  pub earlier : List Entry
  pub order : past ≡ later ++ giving ∷ earlier
  pub given : IsTrue (gives giving s)
  pub kept : All (λ entry. takes_away entry s ≡ false) (later ++ giving ∷ [])

-- at most 32 spaces of one partition are live, and the list of live spaces has each once
pub record AreFewLive (names : Tables) (past : List Entry) : Type 0 where
  pub few : (partition : List ℕ) → length (live_rivals (is_of_partition names partition) past) ≤ 32
  pub once : (s : ℕ) → count_by (λ space. space == s) (live_spaces past) ≡ (if live past s then 1 else 0)

-- after the entry the space has the gift, the terms and the directories that it had before
pub record IsAsBefore (roster : Roster) (names : Tables) (past : List Entry) (entry : Entry) (s : ℕ) : Type 0 where
  pub same_live : live (entry ∷ past) s ≡ live past s
  pub same_gift : current (entry ∷ past) s ≡ current past s
  pub same_terms : terms (entry ∷ past) s ≡ terms past s
  pub same_dirs : dirs roster names (entry ∷ past) s ≡ dirs roster names past s

-- where the entry gives credentials in a space, each space of another partition is as before
abbrev pub LeavesOthersAlone : Roster → Tables → List Entry → Entry → Type 0
LeavesOthersAlone roster names past entry =
    (gift : Gift) (s : ℕ) → gift_given entry.reply ≡ Some gift → is_rival names gift.space s ≡ false → IsAsBefore roster names past entry s

-- each entry of the past does so
abbrev pub LeaveOthersAlone : Roster → Tables → List Entry → Type 0
LeaveOthersAlone roster names [] = Unit {0}
LeaveOthersAlone roster names (entry ∷ past) = LeaveOthersAlone roster names past × LeavesOthersAlone roster names past entry

-- DIRECTORIES

-- neither directory covers the other
abbrev pub NeitherCovers : NotedDir → NotedDir → Type 0
NeitherCovers a b = (covers a.dir b.dir ≡ false) × (covers b.dir a.dir ≡ false)

-- at most ten directories, none of which covers another
pub record AreFewAndApart (dirs : List NotedDir) : Type 0 where
  pub few : length dirs ≤ 10
  pub apart : AllPairs NeitherCovers dirs

-- PROMPTS

-- the entry leads a prompt of the space that is open at the past's end
abbrev pub leads_open : List Entry → ℕ → Entry → Bool
leads_open past s entry = is_lead entry.reply && selects entry.call s && not (settled past (prompt_led entry.reply))

-- at most one prompt of the space is open
abbrev pub HasOneOpenPrompt : List Entry → ℕ → Type 0
HasOneOpenPrompt past s = count_by (leads_open past s) past ≤ 1

-- the prompt has at most one answer or loss
abbrev pub IsSettledOnce : List Entry → ℕ → Type 0
IsSettledOnce past p = count_by (λ entry. settles entry.call p) past ≤ 1

-- the reply is what those who wait take from an answer or a loss of the prompt
abbrev pub IsTakenFrom : List Entry → ℕ → BookReply → Type 0
IsTakenFrom past p reply = Any (λ settler. IsTrue (settles settler.call p) × (reply ≡ taken_from settler.reply)) past

-- what each entry of the past takes from a prompt was answered or lost before it
abbrev pub AreTakenFromBefore : List Entry → Type 0
AreTakenFromBefore [] = Unit {0}
AreTakenFromBefore (entry ∷ past) = AreTakenFromBefore past × ((p : ℕ) → IsTrue (takes entry.call p) → IsTakenFrom past p entry.reply)

-- IDENTITIES

-- the space has a name, and its partition, target and origin are those of one of the request's sites
abbrev pub is_site_named : Roster → Tables → ℕ → ℕ → Bool
is_site_named roster names r s = unwrap_or (option_map (is_site_of roster r) (space_named names s)) false

-- the request asks for the space: for its target, in its call, or in the call by which it leads or follows the prompt
abbrev pub IsAsked : Tables → List Entry → ℕ → Call → ℕ → Type 0
IsAsked names past r (Preempt target) s = target_of names s ≡ target
IsAsked names past r (Select space terms) s = s ≡ space
IsAsked names past r (Answer prompt text terms) s = IsTrue (list_any (λ entry. selects entry.call s && prompt_led entry.reply == prompt) (own past r))
IsAsked names past r (Take prompt) s = IsTrue (list_any (λ entry. selects entry.call s && prompt_followed entry.reply == prompt) (own past r))
IsAsked names past r call s = ⊥

-- a gift that the entry tells its request is of a space of the request, which it asks for
abbrev pub IsToldAtHome : Roster → Tables → List Entry → Entry → Type 0
IsToldAtHome roster names past entry =
    (gift : Gift) → gift_told entry.reply ≡ Some gift → IsTrue (is_site_named roster names entry.request gift.space) × IsAsked names past entry.request entry.call gift.space

-- each gift of the past is told at home
abbrev pub AreToldAtHome : Roster → Tables → List Entry → Type 0
AreToldAtHome roster names [] = Unit {0}
AreToldAtHome roster names (entry ∷ past) = AreToldAtHome roster names past × IsToldAtHome roster names past entry
