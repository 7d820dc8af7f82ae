-- How the calls on a link end, in the words of the dialer that they call.
use Rattle.std.specs.Prelude.{ℕ, ◌≡◌, Bool, true, false}
use Rattle.link_trait.specs.declared.links.LinkName.{LinkName}
use Rattle.link_trait.specs.declared.dialer.Dialed.{Dialed}
use Rattle.link_trait.specs.declared.dialer.Dialed.TheVariants.{Link as DialerLink, Failed as DialerFailed, NoMemory as DialerNoMemory}
use Rattle.link_trait.specs.declared.dialer.Wrote.{Wrote}
use Rattle.link_trait.specs.declared.dialer.Wrote.TheVariants.{All as WroteAll, Failed as WroteFailed, NoMemory as WroteNoMemory}
use Rattle.link_trait.specs.Faults.{Rose}
use Rattle.connection_binding.specs.declared.ends.DialEnd.{DialEnd}
use Rattle.connection_binding.specs.declared.ends.DialEnd.TheVariants.{Link, Failed as DialFailed, NoMemory as DialNoMemory}
use Rattle.connection_binding.specs.declared.ends.SendEnd.{SendEnd}
use Rattle.connection_binding.specs.declared.ends.SendEnd.TheVariants.{All, Failed as SendFailed, NoMemory as SendNoMemory}
use Rattle.connection_binding.specs.declared.ends.ReadEnd.{ReadEnd}
use Rattle.connection_binding.specs.declared.ends.ReadEnd.TheVariants.{Whole, Broken, Lost, Failed as ReadFailed, NoMemory as ReadNoMemory}

-- what the dialer answered to the dial
abbrev pub dialed_by : DialEnd → Dialed
dialed_by (Link link) = DialerLink
dialed_by (DialFailed count) = DialerFailed
dialed_by DialNoMemory = DialerNoMemory

-- a link that is given has that name
abbrev pub IsGiven : DialEnd → LinkName → Type 0
IsGiven (Link link) name = link ≡ name
IsGiven (DialFailed count) name = Unit {0}
IsGiven DialNoMemory name = Unit {0}

-- what the dialer answered to the write
abbrev pub wrote_by : SendEnd → Wrote
wrote_by All = WroteAll
wrote_by (SendFailed count) = WroteFailed
wrote_by SendNoMemory = WroteNoMemory

-- the dialer's count rose, and to this
abbrev pub RoseTo : Bool → ℕ → ℕ → ℕ → Type 0
RoseTo sticks before now count = Rose sticks before now × (count ≡ now)

-- a failure comes with the count to which it rose
abbrev pub IsDialFault : Bool → ℕ → ℕ → DialEnd → Type 0
IsDialFault sticks before now (Link link) = Unit {0}
IsDialFault sticks before now (DialFailed count) = RoseTo sticks before now count
IsDialFault sticks before now DialNoMemory = Unit {0}

abbrev pub IsSendFault : Bool → ℕ → ℕ → SendEnd → Type 0
IsSendFault sticks before now All = Unit {0}
IsSendFault sticks before now (SendFailed count) = RoseTo sticks before now count
IsSendFault sticks before now SendNoMemory = Unit {0}

abbrev pub IsReadFault : Bool → ℕ → ℕ → ReadEnd → Type 0
IsReadFault sticks before now (Whole reply) = Unit {0}
IsReadFault sticks before now (Broken fault) = Unit {0}
IsReadFault sticks before now Lost = Unit {0}
IsReadFault sticks before now (ReadFailed count) = RoseTo sticks before now count
IsReadFault sticks before now ReadNoMemory = Unit {0}

-- the reading did not fail
abbrev pub IsNoReadFault : ReadEnd → Type 0
IsNoReadFault (Whole reply) = Unit {0}
IsNoReadFault (Broken fault) = Unit {0}
IsNoReadFault Lost = Unit {0}
IsNoReadFault (ReadFailed count) = ⊥
IsNoReadFault ReadNoMemory = Unit {0}

-- the reading gave a reply
abbrev pub is_whole : ReadEnd → Bool
is_whole (Whole reply) = true
is_whole (Broken fault) = false
is_whole Lost = false
is_whole (ReadFailed count) = false
is_whole ReadNoMemory = false
