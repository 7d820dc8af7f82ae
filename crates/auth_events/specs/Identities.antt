-- Whose credentials a gift is.
use Rattle.std.specs.Prelude.{ℕ, if◌then◌else◌, List, Option, find, option_and_then}
use Rattle.auth_text.specs.Login.{Login}
use Rattle.spaces.specs.declared.roster.Roster.{Roster}
use Rattle.spaces.specs.Sites.{numbered}
use Rattle.auth_events.specs.declared.journal.Gift.{Gift}
use Rattle.auth_events.specs.declared.journal.Entry.{Entry}
use Rattle.auth_events.specs.declared.journal.Call.{Call}
use Rattle.auth_events.specs.declared.journal.Call.TheVariants.{Answer}
use Rattle.auth_events.specs.Tables.{Tables}
use Rattle.auth_events.specs.Past.{gift_given}
use Rattle.auth_events.specs.Book.{is_that_gift, is_url}

-- the entry that gave the gift
abbrev pub giving : List Entry → Gift → Option Entry
giving past gift = find (λ entry. is_that_gift (gift_given entry.reply) gift) past

abbrev pub text_in : Call → ℕ
text_in (Answer prompt text terms) = text
text_in _ = 0

-- what the entry gives: the identity of its request's URL, or the text that it answers with
abbrev pub identity_given : Roster → Tables → Entry → Option Login
identity_given roster names entry =
    if is_url entry.reply
    then option_and_then (λ request. request.place.identity) (numbered roster.requests entry.request)
    else numbered names.texts (text_in entry.call)

-- the identity that the gift stands for
abbrev pub identity : Roster → Tables → List Entry → Gift → Option Login
identity roster names past gift = option_and_then (identity_given roster names) (giving past gift)
