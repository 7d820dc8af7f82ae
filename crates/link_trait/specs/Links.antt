-- Links of a dialer: what was dialed, which are open, and what went over them.
use Rattle.std.specs.Prelude.{ℕ, ◌≡◌, ◌⊎◌, Bool, false, not, ◌&&◌, ◌==◌, true, List, [], ◌∷◌, take, drop, length, filter, Some, None, unwrap_or, option_and_then, if◌then◌else◌}
use Rattle.std.specs.List.{list_all, list_any, flat_map}
use Rattle.std.specs.declared.option.Option.{Option}
use Rattle.spaces.specs.declared.place.Origin.{Origin}
use Rattle.spaces.specs.Sites.{numbered}
use Rattle.link_trait.specs.declared.streams.Got.{Got}
use Rattle.link_trait.specs.declared.streams.Got.TheVariants.{Bytes as GotBytes, End as GotEnd, Failed as GotFailed, NoMemory as GotNoMemory}
use Rattle.link_trait.specs.declared.links.LinkName.{LinkName}
use Rattle.link_trait.specs.declared.dialer.Dialed.{Dialed}
use Rattle.link_trait.specs.declared.dialer.Dialed.TheVariants.{Link, Failed as DialFailed, NoMemory as DialNoMemory}
use Rattle.link_trait.specs.declared.dialer.Wrote.{Wrote}
use Rattle.link_trait.specs.declared.dialer.Wrote.TheVariants.{All as WroteAll, Failed as WroteFailed, NoMemory as WroteNoMemory}
use Rattle.link_trait.specs.declared.dialer.Dial.{Dial}
use Rattle.link_trait.specs.declared.dialer.Traffic.{Traffic}
use Rattle.link_trait.specs.declared.dialer.Traffic.TheVariants.{Sent, Received, Ended}
use Rattle.link_trait.specs.Told.{grown}

-- two names are of one link
abbrev pub same_link : LinkName → LinkName → Bool
same_link a b = a.request == b.request && a.nth == b.nth

-- the link stands in the list
abbrev pub has_link : LinkName → List LinkName → Bool
has_link name names = list_any (λ other. same_link other name) names

-- the list without the link
abbrev pub without_link : LinkName → List LinkName → List LinkName
without_link name names = filter (λ other. not (same_link other name)) names

-- the link was dialed
abbrev pub has_dial : LinkName → List Dial → Bool
has_dial name dials = list_any (λ dial. same_link dial.link name) dials

-- the link whose traffic this is
abbrev pub link_of : Traffic → LinkName
link_of (Sent link bytes) = link
link_of (Received link bytes) = link
link_of (Ended link) = link

-- traffic is of dialed links alone
abbrev pub are_dialed : List Traffic → List Dial → Bool
are_dialed traffic dials = list_all (λ event. has_dial (link_of event) dials) traffic

-- the same, where both are told
abbrev pub AreDialed : Option (List Traffic) → Option (List Dial) → Type 0
AreDialed (Some traffic) (Some dials) = are_dialed traffic dials ≡ true
AreDialed (Some traffic) None = Unit {0}
AreDialed None dials = Unit {0}

-- where the dials are told, the link was not dialed
abbrev pub IsUndialed : LinkName → Option (List Dial) → Type 0
IsUndialed name None = Unit {0}
IsUndialed name (Some dials) = has_dial name dials ≡ false

-- a dial that gave a link is told, with the origin
abbrev pub dialing : Dialed → LinkName → Origin → List Dial
dialing Link name to = record { link = name; to = to } ∷ []
dialing DialFailed name to = []
dialing DialNoMemory name to = []

-- a dial that gave a link leaves it open
abbrev pub opening : Dialed → LinkName → List LinkName
opening Link name = name ∷ []
opening DialFailed name = []
opening DialNoMemory name = []

-- nothing was written, or a prefix of the bytes
abbrev pub SendsPart : Option (List Traffic) → Option (List Traffic) → LinkName → List ℕ → Type 0
SendsPart old new name bytes = (new ≡ old) ⊎ ((n : ℕ) × (new ≡ grown old (Sent name (take n bytes) ∷ [])))

-- all bytes were written, or after a failure a prefix of them
abbrev pub Sends : Option (List Traffic) → Option (List Traffic) → Wrote → LinkName → List ℕ → Type 0
Sends old new WroteAll name bytes = new ≡ grown old (Sent name bytes ∷ [])
Sends old new WroteFailed name bytes = SendsPart old new name bytes
Sends old new WroteNoMemory name bytes = SendsPart old new name bytes

-- what a read gave is told: the bytes, or that the end was read
abbrev pub receiving : Got → LinkName → List ℕ → List Traffic
receiving (GotBytes n) name buf = Received name (take n buf) ∷ []
receiving GotEnd name buf = Ended name ∷ []
receiving GotFailed name buf = []
receiving GotNoMemory name buf = []

-- the bytes that were read on the link, out of one event
abbrev pub heard_in : LinkName → Traffic → List ℕ
heard_in name (Received link bytes) = if same_link link name then bytes else []
heard_in name (Sent link bytes) = []
heard_in name (Ended link) = []

-- the bytes that were read on the link
abbrev pub heard_on : LinkName → List Traffic → List ℕ
heard_on name traffic = flat_map (heard_in name) traffic

-- the event is that the link's end was read
abbrev pub is_end_of : LinkName → Traffic → Bool
is_end_of name (Ended link) = same_link link name
is_end_of name (Sent link bytes) = false
is_end_of name (Received link bytes) = false

-- the link's end was read
abbrev pub has_ended : LinkName → List Traffic → Bool
has_ended name traffic = list_any (is_end_of name) traffic

-- what a peer sent, and whether it has ended
pub record Stream : Type 0 where
  pub bytes : List ℕ
  pub ended : Bool

-- what was read of the link: the bytes, and whether its end was
abbrev pub read_on : LinkName → List Traffic → Stream
read_on name traffic = record { bytes = heard_on name traffic; ended = has_ended name traffic }

-- behind a link's end no bytes of it were read
abbrev pub are_ended_last : List Traffic → Bool
are_ended_last [] = true
are_ended_last (Ended link ∷ later) = length (heard_on link later) == 0 && are_ended_last later
are_ended_last (Sent link bytes ∷ later) = are_ended_last later
are_ended_last (Received link bytes ∷ later) = are_ended_last later

-- the same, where it is told
abbrev pub AreEndedLast : Option (List Traffic) → Type 0
AreEndedLast None = Unit {0}
AreEndedLast (Some traffic) = are_ended_last traffic ≡ true

-- where what the peers send is known, so is what was read of it
abbrev pub IsKnownWith : Option (LinkName → List ℕ) → Option (List Traffic) → Type 0
IsKnownWith None traffic = Unit {0}
IsKnownWith (Some streams) (Some traffic) = Unit {0}
IsKnownWith (Some streams) None = ⊥

-- the bytes are the next ones of the rest, and the end is answered only where none is left
abbrev pub GivesNext : List ℕ → Got → List ℕ → Type 0
GivesNext rest (GotBytes n) buf = take n rest ≡ take n buf
GivesNext rest GotEnd buf = rest ≡ []
GivesNext rest GotFailed buf = Unit {0}
GivesNext rest GotNoMemory buf = Unit {0}

-- where streams and traffic are known, a read goes on in the link's stream behind what was read
abbrev pub GivesFromStream : Option (LinkName → List ℕ) → Option (List Traffic) → Got → LinkName → List ℕ → Type 0
GivesFromStream (Some streams) (Some traffic) got name buf = GivesNext (drop (length (heard_on name traffic)) (streams name)) got buf
GivesFromStream (Some streams) None got name buf = Unit {0}
GivesFromStream None traffic got name buf = Unit {0}

-- the recorded stream of a link: of the numbered request's links the numbered one, else empty
abbrev pub stream_in : List (List (List ℕ)) → LinkName → List ℕ
stream_in links name = unwrap_or (option_and_then (λ streams. numbered streams name.nth) (numbered links name.request)) []
