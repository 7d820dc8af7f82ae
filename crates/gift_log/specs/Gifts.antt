-- Givings, and where the identities of their gifts are.
use Rattle.std.specs.Prelude.{ℕ, List, Option, find, filter_map, reverse, option_and_then, option_map, if◌then◌else◌}
use Rattle.auth_text.specs.Login.{Login}
use Rattle.spaces.specs.declared.roster.Roster.{Roster}
use Rattle.spaces.specs.Sites.{numbered}
use Rattle.auth_events.specs.declared.journal.Entry.{Entry}
use Rattle.auth_events.specs.declared.journal.Gift.{Gift}
use Rattle.auth_events.specs.Tables.{Tables}
use Rattle.auth_events.specs.Past.{gift_given}
use Rattle.auth_events.specs.Book.{is_url, same_gift}
use Rattle.auth_events.specs.Identities.{text_in}
use Rattle.gift_log.specs.declared.log.Given.{Given}
use Rattle.gift_log.specs.declared.log.Source.{Source}
use Rattle.gift_log.specs.declared.log.Source.TheVariants.{Url, Text}

-- what a log is seen as
pub record GiftList : Type 0 where
  -- there is room for so many givings, and for the spaces below this number
  pub room : ℕ
  pub spaces : ℕ
  -- in order
  pub givings : List Given

-- where the identity is that the entry gives: in its request's URL, or the text that it answers with
abbrev pub source_of : Entry → Source
source_of entry = if is_url entry.reply then Url entry.request else Text (text_in entry.call)

-- what the entry gives
abbrev pub given_by : Entry → Option Given
given_by entry = option_map (λ gift. record { gift = gift; source = source_of entry }) (gift_given entry.reply)

-- the givings of the entries
abbrev pub givings_of : List Entry → List Given
givings_of entries = filter_map given_by entries

-- where the identity of the gift is, by its last giving
abbrev pub source_found : List Given → Gift → Option Source
source_found givings gift = option_map (λ given. given.source) (find (λ given. same_gift given.gift gift) (reverse givings))

-- the identity that is there
abbrev pub identity_at : Roster → Tables → Source → Option Login
identity_at roster names (Url r) = option_and_then (λ request. request.place.identity) (numbered roster.requests r)
identity_at roster names (Text n) = numbered names.texts n

-- the identity of the gift
abbrev pub identity_found : Roster → Tables → List Given → Gift → Option Login
identity_found roster names givings gift = option_and_then (identity_at roster names) (source_found givings gift)
