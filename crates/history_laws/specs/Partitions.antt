-- Which entries are about a partition: those that what is kept of its live spaces has to be told.
use Rattle.std.specs.Prelude.{ℕ, Bool, option_map, unwrap_or}
use Rattle.auth_events.specs.declared.journal.Call.{Call}
use Rattle.auth_events.specs.declared.journal.Call.TheVariants.{Reject, Note}
use Rattle.auth_events.specs.declared.journal.BookReply.{BookReply}
use Rattle.auth_events.specs.Past.{gift_used}

-- the space that an entry rejects, or of the gift that it notes, gives, answers once more or renews; 0 is none
abbrev pub space_about : Call → BookReply → ℕ
space_about (Reject space ordinal) reply = space
space_about (Note gift) reply = gift.space
space_about call reply = unwrap_or (option_map (λ gift. gift.space) (gift_used call reply)) 0

-- the entry is about a space that passes the test
abbrev pub concerns : (ℕ → Bool) → Call → BookReply → Bool
concerns is_in call reply = is_in (space_about call reply)
