-- What a dialer into a world tells behind a call.
use Rattle.std.specs.Prelude.{ℕ, List, [], ◌∷◌, ◌++◌}
use Rattle.link_trait.specs.declared.links.LinkName.{LinkName}
use Rattle.link_trait.specs.declared.streams.Got.{Got}
use Rattle.link_trait.specs.declared.dialer.Dialed.{Dialed}
use Rattle.link_trait.specs.declared.dialer.Wrote.{Wrote}
use Rattle.link_trait.specs.declared.dialer.Wrote.TheVariants.{All, Failed, NoMemory}
use Rattle.link_trait.specs.declared.dialer.Traffic.{Traffic}
use Rattle.link_trait.specs.declared.dialer.Traffic.TheVariants.{Sent}
use Rattle.link_trait.specs.Links.{dialing, opening, receiving, without_link}
use Rattle.link_trait.specs.Recorded.{LogState}
use Rattle.spaces.specs.declared.place.Origin.{Origin}

-- a dial
abbrev pub dialed : Dialed → LinkName → Origin → LogState → LogState
dialed result name to log = record {
  dials = log.dials ++ dialing result name to;
  traffic = log.traffic;
  opened = log.opened ++ opening result name;
}

-- a write is of all bytes or of none
abbrev pub sending : Wrote → LinkName → List ℕ → List Traffic
sending All name bytes = Sent name bytes ∷ []
sending Failed name bytes = []
sending NoMemory name bytes = []

abbrev pub written : Wrote → LinkName → List ℕ → LogState → LogState
written result name bytes log = record {
  dials = log.dials;
  traffic = log.traffic ++ sending result name bytes;
  opened = log.opened;
}

-- a read
abbrev pub read : Got → LinkName → List ℕ → LogState → LogState
read result name buf log = record {
  dials = log.dials;
  traffic = log.traffic ++ receiving result name buf;
  opened = log.opened;
}

-- a link is closed
abbrev pub closed : LinkName → LogState → LogState
closed name log = record { dials = log.dials; traffic = log.traffic; opened = without_link name log.opened }
