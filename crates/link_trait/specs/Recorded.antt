-- What a dialer of recorded links keeps, and its place in each stream.
use Rattle.std.specs.Prelude.{ℕ, ◌≡◌, Bool, true, ◌&&◌, ◌==◌, nat_le, not, List, map, filter, find, length, unwrap_or, option_map, if◌then◌else◌}
use Rattle.std.specs.List.{list_all}
use Rattle.link_trait.specs.declared.links.LinkName.{LinkName}
use Rattle.link_trait.specs.declared.dialer.Dial.{Dial}
use Rattle.link_trait.specs.declared.dialer.Traffic.{Traffic}
use Rattle.link_trait.specs.declared.dialer.Traffic.TheVariants.{Sent, Received, Ended}
use Rattle.link_trait.specs.declared.log.OpenLink.{OpenLink}
use Rattle.link_trait.specs.Links.{same_link, has_dial, heard_on, are_dialed, are_ended_last}

-- an open link was dialed, and its place is the number of bytes that were read on it
abbrev pub is_placed : List Dial → List Traffic → OpenLink → Bool
is_placed dials traffic open_link = has_dial open_link.name dials && open_link.place == length (heard_on open_link.name traffic)

abbrev pub are_placed : List OpenLink → List Dial → List Traffic → Bool
are_placed links dials traffic = list_all (is_placed dials traffic) links

-- the names of open links
abbrev pub names_of : List OpenLink → List LinkName
names_of links = map (λ open_link. open_link.name) links

-- the place of the link that is found first
abbrev pub place_in : LinkName → List OpenLink → ℕ
place_in name links = unwrap_or (option_map (λ open_link. open_link.place) (find (λ open_link. same_link open_link.name name) links)) 0

-- the open links, with one of them at another place
abbrev pub moved : LinkName → ℕ → OpenLink → OpenLink
moved name place open_link = record { name = open_link.name; place = if same_link name open_link.name then place else open_link.place }

-- the open links but one
abbrev pub closed : LinkName → List OpenLink → List OpenLink
closed name links = filter (λ open_link. not (same_link open_link.name name)) links

-- the dials, what went over the links, and the open links
pub record LogState : Type 0 where
  pub dials : List Dial
  pub traffic : List Traffic
  pub opened : List LinkName

-- traffic is of dialed links alone, and no bytes of a link were read behind its end
pub record IsKept (log : LogState) : Type 0 where
  pub dialed : are_dialed log.traffic log.dials ≡ true
  pub ended_last : are_ended_last log.traffic ≡ true

-- the event isn't a link's end, or the whole of its stream was read
abbrev pub is_read_out : (LinkName → List ℕ) → List Traffic → Traffic → Bool
is_read_out streams traffic (Ended link) = nat_le (length (streams link)) (length (heard_on link traffic))
is_read_out streams traffic (Sent link bytes) = true
is_read_out streams traffic (Received link bytes) = true

-- a link's end was read only where the whole of its stream was
abbrev pub are_read_out : (LinkName → List ℕ) → List Traffic → Bool
are_read_out streams traffic = list_all (is_read_out streams traffic) traffic
