-- When an index stands for a history, under a roster and names.
-- A past is the list of the entries of calls, the latest first.
use Rattle.std.specs.Prelude.{◌≡◌, ◌≤◌, ◌*◌, ℕ, Bool, ◌&&◌, IsTrue, is_some, List, length, map, filter, reverse, Some, option_map, unwrap_or}
use Rattle.std.specs.List.{list_any}
use Rattle.spaces.specs.declared.roster.Roster.{Roster}
use Rattle.spaces.specs.declared.site.Target.{Target}
use Rattle.spaces.specs.declared.site.Target.TheVariants.{Server, Proxy, Socks}
use Rattle.spaces.specs.ProtectionSpaces.{ProtectionSpace}
use Rattle.spaces.specs.Sites.{numbered, same_target}
use Rattle.auth_events.specs.declared.journal.Entry.{Entry}
use Rattle.auth_events.specs.Past.{givings, is_lead}
use Rattle.auth_events.specs.Book.{epoch, is_default, is_of_partition, own, space_named, space_selected, target_of, was_url_told}
use Rattle.auth_events.specs.Tables.{Tables}
use Rattle.auth_cache.specs.Histories.{HasLive}
use Rattle.path_lookup.specs.Histories.{HasDirs}
use Rattle.prompt_queue.specs.Histories.{prompts_of}
use Rattle.auth_book.specs.declared.partitions.PartRow.{PartRow}
use Rattle.auth_book.specs.declared.index.BookIndex.{BookIndex}
use Rattle.auth_book.specs.declared.index.SpaceRow.{SpaceRow}
use Rattle.auth_book.specs.declared.index.RequestRow.{RequestRow}
use Rattle.auth_book.specs.Parts.{entries_at, notes_at, part_number, part_of}
use Rattle.auth_book.specs.SiteNumbers.{site_no}

-- the reply `Default` stands in the request's entries for a space of the target
abbrev pub was_default_for : Tables → List Entry → ℕ → Target → Bool
was_default_for names past r target =
    list_any (λ entry. is_default entry.reply && same_target (target_of names (space_selected entry.call)) target) (own past r)

-- the number of the record of the space's partition, or 0
abbrev pub part_no : Tables → List PartRow → ℕ → ℕ
part_no names parts s = unwrap_or (option_map (λ space. part_number parts space.site.partition) (space_named names s)) 0

-- the row of a space: the first space of its site, how often it was given, and the record of its partition
abbrev pub space_row : Tables → List PartRow → List Entry → ℕ → SpaceRow
space_row names parts past s = record { site = site_no names s; givings = givings past s; partition = part_no names parts s }

-- the row of a request: whether `Url` was answered to it, and `Default` for a space of each target
abbrev pub request_row : Tables → List Entry → ℕ → RequestRow
request_row names past r = record {
  url = was_url_told past r;
  default_server = was_default_for names past r Server;
  default_proxy = was_default_for names past r Proxy;
  default_socks = was_default_for names past r Socks;
}

-- the space of each prompt
abbrev pub spaces_led : List Entry → List ℕ
spaces_led past = reverse (map (λ entry. space_selected entry.call) (filter (λ entry. is_lead entry.reply) past))

pub record StandsFor (index : BookIndex) (roster : Roster) (names : Tables) (past : List Entry) : Type 0 where
  -- the record of each partition has its live spaces in order of touch, each with its gift and its terms
  pub caches : (partition : List ℕ) → HasLive (is_of_partition names partition) past (entries_at (part_of index.partitions partition))
  -- and the directories of these spaces, in the order in which they were added
  pub paths : (partition : List ℕ) → HasDirs roster names (site_no names) (is_of_partition names partition) past (notes_at (part_of index.partitions partition))
  -- the partition of each named space has a record
  pub records : (space : ProtectionSpace) (s : ℕ) → numbered names.spaces s ≡ Some space → IsTrue (is_some (part_of index.partitions space.site.partition))
  -- the prompts, each with its answer or loss
  pub prompts : index.prompts.prompts ≡ prompts_of past
  pub prompt_room : index.prompts.requests ≡ length roster.requests
  -- a row of each named space, and of each request
  pub spaces : (s : ℕ) → numbered index.spaces.items s ≡ option_map (λ _. space_row names index.partitions past s) (numbered names.spaces s)
  pub requests : (r : ℕ) → numbered index.requests.items r ≡ option_map (λ _. request_row names past r) (numbered roster.requests r)
  -- the space of each prompt
  pub led : index.led.items ≡ spaces_led past
  pub led_room : 32 * length roster.requests ≤ index.led.room
  -- the epoch of each nonce that a name may have
  pub epoch_count : length index.epochs.items ≡ 16 * length roster.requests
  pub epochs : (n : ℕ) → 1 ≤ n → n ≤ 16 * length roster.requests → numbered index.epochs.items n ≡ Some (epoch names past n)
