-- Draws of one caller: nobody draws beside it, so each count and epoch is that of its moment.
use Rattle.std.specs.Prelude.{◌+◌, ◌==◌, Bool, true, false, ◌&&◌, List, [], ◌∷◌, length}
use Rattle.auth_events.specs.Tables.{Tables}
use Rattle.auth_events.specs.declared.journal.Call.{Call}
use Rattle.auth_events.specs.declared.journal.Call.TheVariants.{Draw}
use Rattle.auth_events.specs.declared.journal.BookReply.{BookReply}
use Rattle.auth_events.specs.declared.journal.BookReply.TheVariants.{Drawn}
use Rattle.auth_events.specs.declared.journal.Entry.{Entry}
use Rattle.auth_events.specs.Book.{epoch, without_draws}
use Rattle.auth_events.specs.Fresh.{draws_of}

-- behind a past a draw gives the next count of its nonce, and the epoch that the past has
abbrev pub is_next_draw : Tables → List Entry → Call → BookReply → Bool
is_next_draw names past (Draw nonce) (Drawn count at) =
    count == length (draws_of past nonce) + 1 && at == epoch names (without_draws past) nonce
is_next_draw names past (Draw nonce) reply = false
is_next_draw names past call reply = true

-- each draw of a past, the latest first, is the next one
abbrev pub are_next_draws : Tables → List Entry → Bool
are_next_draws names [] = true
are_next_draws names (entry ∷ past) = are_next_draws names past && is_next_draw names past entry.call entry.reply
