-- What goes over the links of a dialer into a world: the heads that come whole, the world's answers, and what is read of them.
use Rattle.std.specs.Prelude.{ℕ, ◌≡◌, ◌==◌, ◌&&◌, Bool, true, false, List, [], ◌∷◌, ◌++◌, length, reverse, find, Option, Some, None, option_map, if◌then◌else◌}
use Rattle.std.specs.List.{list_all, flat_map}
use Rattle.link_trait.specs.declared.links.LinkName.{LinkName}
use Rattle.link_trait.specs.declared.dialer.Dial.{Dial}
use Rattle.link_trait.specs.declared.dialer.Traffic.{Traffic}
use Rattle.link_trait.specs.declared.dialer.Traffic.TheVariants.{Sent, Received, Ended}
use Rattle.link_trait.specs.Links.{same_link, heard_on, has_ended}
use Rattle.spaces.specs.declared.place.Origin.{Origin}
use Rattle.wire_head.specs.Lines.{head_len}
use Rattle.origin_sim.specs.Worlds.{WorldState, IsAnswer}

-- a head that came whole on a link, the origin that the link goes to, and the world's reply
pub record Exchange : Type 0 where
  pub link : LinkName
  pub to : Origin
  pub head : List ℕ
  pub reply : List ℕ

-- the world answers one head after the other
abbrev pub AreAnswered : WorldState → List Exchange → WorldState → Type 0
AreAnswered old [] new = new ≡ old
AreAnswered old (it ∷ more) new = (between : WorldState) × IsAnswer old it.link it.to it.head it.reply between × AreAnswered between more new

-- the origin that the link was dialed to
abbrev pub dialed_to : LinkName → List Dial → Option Origin
dialed_to name dials = option_map (λ dial. dial.to) (find (λ dial. same_link dial.link name) dials)

-- each head went to the origin that its link was dialed to
abbrev pub AreTo : List Dial → List Exchange → Type 0
AreTo dials [] = Unit {0}
AreTo dials (it ∷ more) = (dialed_to it.link dials ≡ Some it.to) × AreTo dials more

-- the bytes that were written to the link
abbrev pub written_in : LinkName → Traffic → List ℕ
written_in name (Sent link bytes) = if same_link link name then bytes else []
written_in name (Received link bytes) = []
written_in name (Ended link) = []

abbrev pub written_on : LinkName → List Traffic → List ℕ
written_on name traffic = flat_map (written_in name) traffic

-- the heads that came on the link
abbrev pub heads_on : LinkName → List Exchange → List ℕ
heads_on name exchanges = flat_map (λ it. if same_link it.link name then it.head else []) exchanges

-- the replies to them
abbrev pub replies_on : LinkName → List Exchange → List ℕ
replies_on name exchanges = flat_map (λ it. if same_link it.link name then it.reply else []) exchanges

abbrev pub ends_at : Option ℕ → ℕ → Bool
ends_at None n = false
ends_at (Some m) n = m == n

-- the bytes are a whole head: they end with their first blank line
abbrev pub is_whole : List ℕ → Bool
is_whole head = ends_at (head_len head) (length head)

-- whole heads that came on the link
abbrev pub are_on : LinkName → List Exchange → Bool
are_on name exchanges = list_all (λ it. same_link it.link name && is_whole it.head) exchanges

-- what was written is these heads, and at most the front of another one
abbrev pub IsCut : List ℕ → List ℕ → Type 0
IsCut written heads = (part : List ℕ) × (written ≡ heads ++ part) × (head_len part ≡ None)

-- the exchanges that the traffic makes, latest event first: a write brings the heads that it makes whole; bytes that are read are the next ones of the replies; an end is read where none is left, and then again
abbrev pub AreOf : List Traffic → List Exchange → Type 0
AreOf [] exchanges = exchanges ≡ []
AreOf (Sent link bytes ∷ past) exchanges =
    (earlier : List Exchange) × (more : List Exchange) × AreOf past earlier × (exchanges ≡ earlier ++ more) × (are_on link more ≡ true)
    × IsCut (written_on link (reverse past) ++ bytes) (heads_on link exchanges)
AreOf (Received link bytes ∷ past) exchanges =
    AreOf past exchanges × ((rest : List ℕ) × (replies_on link exchanges ≡ heard_on link (reverse past) ++ (bytes ++ rest)))
AreOf (Ended link ∷ past) exchanges =
    AreOf past exchanges × (has_ended link (reverse past) ≡ false → replies_on link exchanges ≡ heard_on link (reverse past))

-- what went over the links are these exchanges, by which the world became another
pub record IsSimulated (start : WorldState) (dials : List Dial) (traffic : List Traffic) (exchanges : List Exchange) (now : WorldState) : Type 0 where
  pub answered : AreAnswered start exchanges now
  pub dialed : AreTo dials exchanges
  pub told : AreOf (reverse traffic) exchanges

-- there are such exchanges
abbrev pub Simulates : WorldState → List Dial → List Traffic → WorldState → Type 0
Simulates start dials traffic now = (exchanges : List Exchange) × IsSimulated start dials traffic exchanges now
