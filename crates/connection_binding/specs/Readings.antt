-- What the reading of a reply takes from its link, and what it answers.
use Rattle.std.specs.Prelude.{ℕ, ◌≡◌, ◌⊎◌, ◌+◌, ◌≤◌, ◌==◌, ◌&&◌, Bool, true, false, List, [], ◌++◌, length, take, drop, Option, Some, None, Result, Ok, Err}
use Rattle.std.specs.List.{list_all}
use Rattle.spaces.specs.declared.roster.Method.{Method}
use Rattle.link_trait.specs.declared.links.LinkName.{LinkName}
use Rattle.link_trait.specs.declared.dialer.Traffic.{Traffic}
use Rattle.link_trait.specs.declared.dialer.Traffic.TheVariants.{Sent, Received, Ended}
use Rattle.link_trait.specs.Told.{grown}
use Rattle.link_trait.specs.Links.{Stream, same_link, heard_on, has_ended, read_on}
use Rattle.wire_head.specs.declared.reply.Reply.{Reply}
use Rattle.wire_head.specs.declared.reply.WireFault.{WireFault}
use Rattle.wire_head.specs.Feeding.{Reading, IsFed}
use Rattle.wire_head.specs.Replies.{reply}
use Rattle.connection_binding.specs.LinkStates.{LinkState, new_link}
use Rattle.connection_binding.specs.declared.ends.ReadEnd.{ReadEnd}
use Rattle.connection_binding.specs.declared.ends.ReadEnd.TheVariants.{Whole, Broken, Lost, Failed, NoMemory}
use Rattle.connection_binding.specs.declared.reading.Piece.{Piece}
use Rattle.connection_binding.specs.declared.reading.Piece.TheVariants.{More, AtEnd, Over}
use Rattle.connection_binding.specs.Ends.{IsReadFault, IsNoReadFault}

-- what was read of a link, behind what it kept
abbrev pub behind : LinkState → Stream → Stream
behind link read = record { bytes = link.kept ++ read.bytes; ended = read.ended }

-- a link that gave a reply before has ended without a byte more
abbrev pub is_gone : LinkState → Stream → Bool
is_gone link rest = rest.ended && (length rest.bytes == 0 && link.has_replied)

-- the rest of a link shows the answer, and behind a reply so much of it is left for the next one. A failure comes only where it shows nothing yet, and want of memory at any place
abbrev pub Shows : LinkState → Method → Stream → ReadEnd → List ℕ → Type 0
Shows link method rest (Whole shown) left = (n : ℕ) × (reply method rest.bytes rest.ended ≡ Ok (Some (shown, n))) × (left ≡ drop n rest.bytes)
Shows link method rest (Broken fault) left = (reply method rest.bytes rest.ended ≡ Err fault) × (is_gone link rest ≡ false) × (left ≡ [])
Shows link method rest Lost left = (is_gone link rest ≡ true) × (left ≡ [])
Shows link method rest (Failed count) left = (reply method rest.bytes rest.ended ≡ Ok None) × (left ≡ [])
Shows link method rest NoMemory left = left ≡ []

-- the event is that bytes of the link were read, or its end
abbrev pub is_read_of : LinkName → Traffic → Bool
is_read_of link (Received on bytes) = same_link on link
is_read_of link (Ended on) = same_link on link
is_read_of link (Sent on bytes) = false

-- the bytes are the next ones of the rest, and the end was read only where they are all of it
pub record IsNextOf (rest : List ℕ) (read : Stream) : Type 0 where
  pub front : take (length read.bytes) rest ≡ read.bytes
  pub whole : read.ended ≡ true → rest ≡ read.bytes

-- the same of the link's stream behind what was read of it before, where both are known
abbrev pub IsOfStream : Option (LinkName → List ℕ) → Option (List Traffic) → LinkName → Stream → Type 0
IsOfStream (Some streams) (Some traffic) link read = IsNextOf (drop (length (heard_on link traffic)) (streams link)) read
IsOfStream (Some streams) None link read = Unit {0}
IsOfStream None traffic link read = Unit {0}

-- a reading of a link: what it kept, with what was read of it now, shows the answer, and nothing was read behind what decides
pub record IsNextRead (link : LinkState) (method : Method) (streams : Option (LinkName → List ℕ)) (old new : Option (List Traffic)) (end : ReadEnd) : Type 0 where
  -- what was read while there was no answer, and the read that decided, where one did
  pub front : List Traffic
  pub last : List Traffic
  pub grew : new ≡ grown old (front ++ last)
  pub of_link : list_all (is_read_of link.name) (front ++ last) ≡ true
  pub undecided : (front ++ last ≡ []) ⊎ (reply method (link.kept ++ heard_on link.name front) (has_ended link.name front) ≡ Ok None)
  pub one : length last ≤ 1
  -- what is left for the next reading
  pub left : List ℕ
  pub shows : Shows link method (behind link (read_on link.name (front ++ last))) end left
  pub of_stream : IsOfStream streams old link.name (read_on link.name (front ++ last))

-- the first reading of a new link
abbrev pub IsReplyRead : LinkName → Method → Option (LinkName → List ℕ) → Option (List Traffic) → Option (List Traffic) → ReadEnd → Type 0
IsReplyRead link method streams old new end = IsNextRead (new_link link) method streams old new end

-- WITHIN A READING

-- the reader was fed what the link kept and all that was read, which is so many bytes at least and shows nothing yet; the flag tells whether the link is gone, if it ends here
pub record IsUndecided (link : LinkState) (method : Method) (streams : Option (LinkName → List ℕ)) (old new : Option (List Traffic)) (least : ℕ) (gone : Bool) (reader : Reading) : Type 0 where
  pub pieces : List Traffic
  pub bytes : List ℕ
  pub grew : new ≡ grown old pieces
  pub of_link : list_all (is_read_of link.name) pieces ≡ true
  pub read : read_on link.name pieces ≡ record { bytes = bytes; ended = false }
  pub fed : IsFed reader method (link.kept ++ bytes)
  pub undecided : reply method (link.kept ++ bytes) false ≡ Ok None
  pub gone_here : gone ≡ is_gone link (record { bytes = link.kept ++ bytes; ended = true })
  pub long : least ≤ length bytes
  pub of_stream : IsOfStream streams old link.name (record { bytes = bytes; ended = false })

-- what all bytes of an ended link show; the flag tells whether it is gone
abbrev pub IsShownAtEnd : Bool → Result (Option (Reply × ℕ)) WireFault → ReadEnd → Type 0
IsShownAtEnd true told end = end ≡ Lost
IsShownAtEnd false told (Whole shown) = (n : ℕ) × (told ≡ Ok (Some (shown, n)))
IsShownAtEnd false told (Broken fault) = told ≡ Err fault
IsShownAtEnd false told Lost = ⊥
IsShownAtEnd false told (Failed count) = ⊥
IsShownAtEnd false told NoMemory = ⊥

-- a reading is over, with this left
abbrev pub IsOver : LinkState → Method → Option (LinkName → List ℕ) → Option (List Traffic) → Option (List Traffic) → ReadEnd → List ℕ → Type 0
IsOver link method streams old new end left = (read : IsNextRead link method streams old new end) × (left ≡ read.left)

-- the link's end was read: what the text now shows is the answer
pub record IsEnded (link : LinkState) (method : Method) (streams : Option (LinkName → List ℕ)) (old new : Option (List Traffic)) (gone : Bool) (reader : Reading) : Type 0 where
  pub text : List ℕ
  pub fed : IsFed reader method text
  pub over : (end : ReadEnd) → IsShownAtEnd gone (reply method text true) end → IsOver link method streams old new end []

-- what one read did to a reading, with this left
abbrev pub IsPieceOf : LinkState → Method → Option (LinkName → List ℕ) → Option (List Traffic) → Option (List Traffic) → ℕ → Bool → Reading → Piece → List ℕ → Type 0
IsPieceOf link method streams old new least gone reader More left = IsUndecided link method streams old new (least + 1) false reader × (left ≡ [])
IsPieceOf link method streams old new least gone reader AtEnd left = IsEnded link method streams old new gone reader × (left ≡ [])
IsPieceOf link method streams old new least gone reader (Over end) left = IsOver link method streams old new end left

-- what a text shows that may go on, and what of it is left behind a reply
abbrev pub IsShown : Result (Option (Reply × ℕ)) WireFault → List ℕ → ReadEnd → List ℕ → Type 0
IsShown told text (Whole shown) left = (n : ℕ) × (told ≡ Ok (Some (shown, n))) × (left ≡ drop n text)
IsShown told text (Broken fault) left = (told ≡ Err fault) × (left ≡ [])
IsShown told text Lost left = ⊥
IsShown told text (Failed count) left = ⊥
IsShown told text NoMemory left = left ≡ []

-- what a reader answers to the last piece of a text, where that is an end, with this left
abbrev pub IsFedAnswer : Result (Option (Reply × ℕ)) WireFault → List ℕ → Option ReadEnd → List ℕ → Type 0
IsFedAnswer told text None left = (told ≡ Ok None) × (left ≡ [])
IsFedAnswer told text (Some end) left = IsShown told text end left

-- what a piece did that was fed
abbrev pub piece_of : Option ReadEnd → Piece
piece_of None = More
piece_of (Some end) = Over end

abbrev pub IsPieceFault : Bool → ℕ → ℕ → Piece → Type 0
IsPieceFault sticks before now More = Unit {0}
IsPieceFault sticks before now AtEnd = Unit {0}
IsPieceFault sticks before now (Over end) = IsReadFault sticks before now end

abbrev pub IsNoPieceFault : Piece → Type 0
IsNoPieceFault More = Unit {0}
IsNoPieceFault AtEnd = Unit {0}
IsNoPieceFault (Over end) = IsNoReadFault end
