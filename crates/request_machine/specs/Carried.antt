-- What a dialer tells of a request that is being served: what was written for it, and what its links gave.
use Rattle.std.specs.Prelude.{ℕ, ◌≡◌, ◌⊎◌, ◌==◌, ◌<◌, ◌&&◌, ◌||◌, Bool, true, false, IsTrue, List, [], ◌∷◌, filter_map, Some, None, is_some}
use Rattle.std.specs.List.{list_any}
use Rattle.std.specs.declared.option.Option.{Option}
use Rattle.spaces.specs.declared.roster.Method.{Method}
use Rattle.spaces.specs.declared.roster.Request.{Request}
use Rattle.auth_events.specs.declared.journal.Call.TheVariants.{End as CallEnd}
use Rattle.link_trait.specs.declared.links.LinkName.{LinkName}
use Rattle.link_trait.specs.declared.dialer.Traffic.{Traffic}
use Rattle.link_trait.specs.declared.dialer.Traffic.TheVariants.{Sent, Received, Ended as LinkEnded}
use Rattle.link_trait.specs.Links.{Stream, heard_on, read_on}
use Rattle.link_trait.specs.Told.{grown}
use Rattle.auth_runs.specs.declared.event.Event.{Event}
use Rattle.auth_runs.specs.declared.event.Event.TheVariants.{Called, Headed, ReadFailed, Replied, Broken, LinkLost}
use Rattle.connection_binding.specs.declared.ends.ReadEnd.{ReadEnd}
use Rattle.connection_binding.specs.declared.ends.ReadEnd.TheVariants.{Whole, Broken as BrokenEnd, Lost, Failed, NoMemory}
use Rattle.trace_rule.specs.Settings.{Setting}
use Rattle.trace_rule.specs.Telling.{Written, sends, is_short, IsShortOf}
use Rattle.trace_rule.specs.Heard.{ended, IsHeard}
use Rattle.request_machine.specs.Kept.{Kept, Ties}
use Rattle.request_machine.specs.Linked.{line, nth_link, way, is_ending}

-- WHAT WAS WRITTEN

abbrev pub written : Traffic → Option Written
written (Sent link bytes) = Some (record { link = link; bytes = bytes })
written (Received link bytes) = None
written (LinkEnded link) = None

-- what was written, in order
abbrev pub sent : List Traffic → List Written
sent traffic = filter_map written traffic

-- a head was written last
abbrev pub is_at_head : List Event → Bool
is_at_head (Headed link bytes ∷ past) = true
is_at_head past = false

-- and the request was ended behind it
abbrev pub is_ended_at_head : List Event → Bool
is_ended_at_head (Called CallEnd reply ∷ past) = is_at_head past
is_ended_at_head past = false

-- where no head follows, a front of the last one may be all that is there: its write failed, or memory ran out in it
abbrev pub is_short_at : Bool → List Event → Bool
is_short_at ending past = ending && (is_short past || (is_at_head past || is_ended_at_head past))

-- that was written so far: the heads, but for the last one where its write did not succeed
abbrev pub IsSentAt : Setting → Bool → List Event → List Written → Type 0
IsSentAt s ending past written = (written ≡ sends s past) ⊎ IsTrue (is_short_at ending past) × IsShortOf (sends s past) written

-- WHAT LINKS GAVE

-- the event says what a link gave
abbrev pub is_heard_on : ℕ → Event → Bool
is_heard_on link (Replied on reply) = on == link
is_heard_on link (Broken on fault) = on == link
is_heard_on link (LinkLost on) = on == link
is_heard_on link _ = false

abbrev pub silence : Stream
silence = record { bytes = []; ended = false }

-- nothing was read of the link, and no event says what it gave
pub record IsUntouched (m : Kept) (more : List Traffic) (n : ℕ) : Type 0 where
  pub unheard : list_any (is_heard_on n) m.past ≡ false
  pub unread : read_on (nth_link (line m) n) more ≡ silence

-- links that were not dialed yet are untouched, and so is the link that is open
pub record AreUntouched (m : Kept) (more : List Traffic) : Type 0 where
  pub later : (n : ℕ) → m.links < n → IsUntouched m more n
  pub last : is_some m.link ≡ true → IsUntouched m more m.links

-- where it is told, no bytes of the request's links were read
abbrev pub IsSilent : ℕ → Option (List Traffic) → Type 0
IsSilent number None = Unit {0}
IsSilent number (Some traffic) = (n : ℕ) → heard_on (record { request = number; nth = n }) traffic ≡ []

-- where it is known what the peers send, what follows each head is what their whole streams show
abbrev pub IsRecorded : Option (LinkName → List ℕ) → Method → ℕ → List Event → Type 0
IsRecorded None method r past = Unit {0}
IsRecorded (Some streams) method r past = IsHeard (λ name. ended (streams name)) method r past

-- of a dialer of such streams, this is what it told of the request so far, behind what it told before
pub record IsCarried (s : Setting) (streams : Option (LinkName → List ℕ)) (before : Option (List Traffic)) (m : Kept) (more : List Traffic) : Type 0 where
  pub sent : IsSentAt s (is_ending (way m.stage)) m.past (sent more)
  pub heard : IsHeard (λ name. read_on name more) s.request.method s.number m.past
  pub recorded : IsSilent s.number before → IsRecorded streams s.request.method s.number m.past
  pub untouched : AreUntouched m more

-- what a reading adds to a past; want of memory adds nothing
abbrev pub ReadsInto : ℕ → ReadEnd → List Event → List Event → Type 0
ReadsInto link (Whole reply) before now = (now ≡ Replied link reply ∷ before) ⊎ (now ≡ before)
ReadsInto link (BrokenEnd fault) before now = now ≡ Broken link fault ∷ before
ReadsInto link Lost before now = ⊥
ReadsInto link (Failed count) before now = now ≡ ReadFailed link count ∷ before
ReadsInto link NoMemory before now = now ≡ before

-- FROM TURN TO TURN

-- the traffic that is told grows by what the past says was written and heard
abbrev pub TellsTraffic : Request → Kept → Kept → Option (LinkName → List ℕ) → Option (List Traffic) → Option (List Traffic) → Type 0
TellsTraffic request m n streams old new =
    (s : Setting) (before : Option (List Traffic)) (more : List Traffic) → s.request ≡ request → Ties s m
    → old ≡ grown before more → IsCarried s streams before m more
    → (further : List Traffic) × (new ≡ grown before further) × IsCarried s streams before n further
