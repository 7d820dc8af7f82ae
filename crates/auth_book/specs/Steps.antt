-- What an entry does to an index, part by part.
use Rattle.std.specs.Prelude.{◌≡◌, ℕ, ◌+◌, ◌==◌, ◌&&◌, ◌||◌, not, List, [], ◌∷◌, ◌++◌, Option, None, Some, if◌then◌else◌}
use Rattle.spaces.specs.declared.site.Target.TheVariants.{Server, Proxy, Socks}
use Rattle.spaces.specs.Sites.{numbered, same_target}
use Rattle.auth_events.specs.declared.journal.Gift.{Gift}
use Rattle.auth_events.specs.declared.journal.Call.{Call}
use Rattle.auth_events.specs.declared.journal.BookReply.{BookReply}
use Rattle.auth_events.specs.Past.{gift_given, is_lead}
use Rattle.auth_events.specs.Book.{is_default, is_url, nonce_of, space_selected, target_of}
use Rattle.auth_events.specs.Tables.{Tables}
use Rattle.auth_cache.specs.declared.cache.Held.{Held}
use Rattle.auth_cache.specs.Cached.{evicted, held_in}
use Rattle.spaces.specs.declared.roster.Roster.{Roster}
use Rattle.auth_cache.specs.Histories.{Change, change, entries_after}
use Rattle.path_lookup.specs.Histories.{notes_after}
use Rattle.prompt_queue.specs.Histories.{prompts_after}
use Rattle.history_laws.specs.Partitions.{space_about}
use Rattle.auth_book.specs.declared.index.BookIndex.{BookIndex}
use Rattle.auth_book.specs.declared.partitions.PartRow.{PartRow}
use Rattle.auth_book.specs.Replies.{entries_in}
use Rattle.auth_cache.specs.Histories.Change.{Same, Put, Touch, Set, Remove}
use Rattle.auth_book.specs.declared.index.RequestRow.{RequestRow}
use Rattle.auth_book.specs.declared.index.SpaceRow.{SpaceRow}
use Rattle.auth_book.specs.Rooms.{set_number}

-- one giving more
abbrev pub given_once_more : SpaceRow → SpaceRow
given_once_more row = record row { givings = row.givings + 1 }

-- with what is given counted
abbrev pub rows_with : List SpaceRow → ℕ → Option SpaceRow → List SpaceRow
rows_with rows s None = rows
rows_with rows s (Some row) = set_number rows s (given_once_more row)

abbrev pub rows_given : List SpaceRow → Option Gift → List SpaceRow
rows_given rows None = rows
rows_given rows (Some gift) = rows_with rows gift.space (numbered rows gift.space)

abbrev pub rows_after : BookReply → List SpaceRow → List SpaceRow
rows_after reply rows = rows_given rows (gift_given reply)

-- with the space of a prompt that is led
abbrev pub led_after : Call → BookReply → List ℕ → List ℕ
led_after call reply led = if is_lead reply then led ++ space_selected call ∷ [] else led

-- with what the reply tells its request
abbrev pub row_told : Tables → Call → BookReply → RequestRow → RequestRow
row_told names call reply row = record {
  url = is_url reply || row.url;
  default_server = is_default reply && same_target (target_of names (space_selected call)) Server || row.default_server;
  default_proxy = is_default reply && same_target (target_of names (space_selected call)) Proxy || row.default_proxy;
  default_socks = is_default reply && same_target (target_of names (space_selected call)) Socks || row.default_socks;
}

abbrev pub requests_with : Tables → ℕ → Call → BookReply → List RequestRow → Option RequestRow → List RequestRow
requests_with names r call reply rows None = rows
requests_with names r call reply rows (Some row) = set_number rows r (row_told names call reply row)

abbrev pub requests_after : Tables → ℕ → Call → BookReply → List RequestRow → List RequestRow
requests_after names r call reply rows = requests_with names r call reply rows (numbered rows r)

-- the nonce of the old terms, where the new ones have another, or 0
abbrev pub nonce_swapped : Tables → ℕ → ℕ → ℕ
nonce_swapped names old new =
    if old == 0 then 0 else (if not (new == 0) && nonce_of names new == nonce_of names old then 0 else nonce_of names old)

abbrev pub nonce_dropped : Tables → Option Held → ℕ
nonce_dropped names None = 0
nonce_dropped names (Some held) = if held.terms == 0 then 0 else nonce_of names held.terms

abbrev pub nonce_replaced : Tables → ℕ → Option Held → Option Held → ℕ
nonce_replaced names new (Some held) other = nonce_swapped names held.terms new
nonce_replaced names new None other = nonce_dropped names other

-- the nonce that a change takes out of a live space, or 0
abbrev pub nonce_out : Tables → Change → List Held → ℕ
nonce_out names (Put held) entries =
    nonce_replaced names held.terms (held_in entries held.gift.space) (evicted 32 entries held.gift.space)
nonce_out names (Set s t) entries = nonce_replaced names t (held_in entries s) None
nonce_out names (Remove s) entries = nonce_dropped names (held_in entries s)
nonce_out names (Touch s) entries = 0
nonce_out names Same entries = 0

-- one entry more takes the nonce out; 0 is none
abbrev pub epochs_with : List ℕ → ℕ → Option ℕ → List ℕ
epochs_with epochs n None = epochs
epochs_with epochs n (Some epoch) = set_number epochs n (epoch + 1)

abbrev pub epochs_after : ℕ → List ℕ → List ℕ
epochs_after n epochs = epochs_with epochs n (numbered epochs n)

-- with what an entry about one of its spaces does to the record of a partition
abbrev pub part_told : Roster → Tables → ℕ → ℕ → Call → BookReply → PartRow → PartRow
part_told roster names site r call reply part = record part {
  cache = record part.cache { entries = entries_after 32 call reply part.cache.entries };
  paths = record part.paths { notes = notes_after roster names (λ _. site) r call reply part.paths.notes };
}

abbrev pub parts_with : List PartRow → ℕ → (PartRow → PartRow) → Option PartRow → List PartRow
parts_with parts number told None = parts
parts_with parts number told (Some part) = set_number parts number (told part)

-- with what is told to the record of that number
abbrev pub parts_told : List PartRow → ℕ → (PartRow → PartRow) → List PartRow
parts_told parts number told = parts_with parts number told (numbered parts number)

abbrev pub parts_by_row : Roster → Tables → ℕ → Call → BookReply → List PartRow → Option SpaceRow → List PartRow
parts_by_row roster names r call reply parts None = parts
parts_by_row roster names r call reply parts (Some row) =
    parts_told parts row.partition (part_told roster names row.site r call reply)

-- an entry is told to the record of the partition of the space that it is about
abbrev pub parts_after : Roster → Tables → ℕ → Call → BookReply → BookIndex → List PartRow
parts_after roster names r call reply index =
    parts_by_row roster names r call reply index.partitions (numbered index.spaces.items (space_about call reply))

-- the nonce that the entry takes out of a live space, read off the cache of its partition
abbrev pub retired_in : Tables → Call → BookReply → BookIndex → ℕ
retired_in names call reply index = nonce_out names (change call reply) (entries_in index (space_about call reply))

-- the index has been told the entry of the request, part by part
pub record IsTold (roster : Roster) (names : Tables) (r : ℕ) (call : Call) (reply : BookReply) (index after : BookIndex) : Type 0 where
  pub partitions : after.partitions ≡ parts_after roster names r call reply index
  pub prompts : after.prompts.prompts ≡ prompts_after r call reply index.prompts.prompts
  pub prompt_room : after.prompts.requests ≡ index.prompts.requests
  pub spaces : after.spaces.items ≡ rows_after reply index.spaces.items
  pub requests : after.requests.items ≡ requests_after names r call reply index.requests.items
  pub led : after.led.items ≡ led_after call reply index.led.items
  pub led_room : after.led.room ≡ index.led.room
  pub epochs : after.epochs.items ≡ epochs_after (retired_in names call reply index) index.epochs.items
