-- Failures of a request's dialer and prompter, by the counts that its events keep.
use Rattle.std.specs.Prelude.{ℕ, ◌≤◌, Bool, List, [], ◌∷◌, filter_map, Some, None}
use Rattle.std.specs.declared.option.Option.{Option}
use Rattle.link_trait.specs.Faults.{Rose}
use Rattle.link_trait.specs.declared.prompts.AskSeen.TheVariants.{Failed}
use Rattle.auth_runs.specs.declared.event.Event.{Event}
use Rattle.auth_runs.specs.declared.event.Event.TheVariants.{DialFailed, WriteFailed, ReadFailed, AskedFor}
use Rattle.request_machine.specs.Kept.{Kept}

abbrev pub link_fault : Event → Option ℕ
link_fault (DialFailed link count) = Some count
link_fault (WriteFailed link count) = Some count
link_fault (ReadFailed link count) = Some count
link_fault _ = None

-- the counts of dials, writes and reads that failed, the latest first
abbrev pub link_faults : List Event → List ℕ
link_faults past = filter_map link_fault past

abbrev pub ask_fault : Event → Option ℕ
ask_fault (AskedFor prompt (Failed count)) = Some count
ask_fault _ = None

-- the counts of asks that failed, the latest first
abbrev pub ask_faults : List Event → List ℕ
ask_faults past = filter_map ask_fault past

-- from the first count to the last one the count rose to each of these, the latest first
abbrev pub RoseBy : Bool → ℕ → List ℕ → ℕ → Type 0
RoseBy sticks first [] last = first ≤ last
RoseBy sticks first (count ∷ counts) last = (between : ℕ) × RoseBy sticks first counts between × Rose sticks between count × (count ≤ last)

-- FROM TURN TO TURN

-- the dialer's count rose to those that the new events keep
abbrev pub TellsLinkFaults : Bool → Kept → Kept → ℕ → ℕ → Type 0
TellsLinkFaults sticks m n old new = (first : ℕ) → RoseBy sticks first (link_faults m.past) old → RoseBy sticks first (link_faults n.past) new

-- the prompter's did
abbrev pub TellsAskFaults : Bool → Kept → Kept → ℕ → ℕ → Type 0
TellsAskFaults sticks m n old new = (first : ℕ) → RoseBy sticks first (ask_faults m.past) old → RoseBy sticks first (ask_faults n.past) new
