-- What the words of a line of the journal are taken for.
use Rattle.std.specs.Prelude.{ℕ, ◌+◌, Bool, List, drop, codes, bytes_eq, if◌then◌else◌}
use Rattle.std.specs.List.{position_or_len}
use Rattle.auth_events.specs.declared.journal.Gift.{Gift}
use Rattle.auth_events.specs.declared.journal.Loss.{Loss}
use Rattle.auth_events.specs.declared.journal.Loss.TheVariants.{Fault, Memory}
use Rattle.auth_events.specs.declared.journal.Entry.{Entry}
use Rattle.auth_events.specs.declared.journal.Call.{Call}
use Rattle.auth_events.specs.declared.journal.Call.TheVariants.{Begin, Preempt, Select, Reject, Renew, Answer, Lose, Take, Note, End}
use Rattle.auth_events.specs.declared.journal.BookReply.{BookReply}
use Rattle.auth_events.specs.declared.journal.BookReply.TheVariants.{Begun, Ready, Nothing, Url, Cached, Default, Follow, Lead, Removed, Kept, Renewed, Given, Cancelled, Lost, Gave, Noted, Ended}
use Rattle.report_reading.specs.Numbers.{small, count}
use Rattle.report_reading.specs.Words.{word_at, target_of}

-- the number in the word at that place
abbrev pub small_at : List (List ℕ) → ℕ → ℕ
small_at words at = small (word_at words at)

abbrev pub count_at : List (List ℕ) → ℕ → ℕ
count_at words at = count (word_at words at)

abbrev pub gift_at : List (List ℕ) → ℕ → Gift
gift_at words at = record { space = small_at words at; ordinal = small_at words (at + 1) }

abbrev pub loss_at : List (List ℕ) → ℕ → Loss
loss_at words at = if bytes_eq (word_at words at) (codes "fault") then Fault (count_at words (at + 1)) else Memory

-- the call of these words, from the one at place 3
abbrev pub call_of : List (List ℕ) → Call
call_of words =
    if bytes_eq (word_at words 3) (codes "begin") then Begin
    else if bytes_eq (word_at words 3) (codes "preempt") then Preempt (target_of (word_at words 4))
    else if bytes_eq (word_at words 3) (codes "select") then Select (small_at words 4) (small_at words 5)
    else if bytes_eq (word_at words 3) (codes "reject") then Reject (small_at words 4) (small_at words 5)
    else if bytes_eq (word_at words 3) (codes "renew") then Renew (gift_at words 4) (small_at words 6)
    else if bytes_eq (word_at words 3) (codes "answer") then Answer (small_at words 4) (small_at words 5) (small_at words 6)
    else if bytes_eq (word_at words 3) (codes "lose") then Lose (small_at words 4) (loss_at words 5)
    else if bytes_eq (word_at words 3) (codes "take") then Take (small_at words 4)
    else if bytes_eq (word_at words 3) (codes "note") then Note (gift_at words 4)
    else End

-- the reply of these words
abbrev pub reply_of : List (List ℕ) → BookReply
reply_of words =
    if bytes_eq (word_at words 0) (codes "begun") then Begun
    else if bytes_eq (word_at words 0) (codes "ready") then Ready (gift_at words 1) (small_at words 3) (small_at words 4)
    else if bytes_eq (word_at words 0) (codes "nothing") then Nothing
    else if bytes_eq (word_at words 0) (codes "url") then Url (gift_at words 1) (small_at words 3)
    else if bytes_eq (word_at words 0) (codes "cached") then Cached (gift_at words 1)
    else if bytes_eq (word_at words 0) (codes "default") then Default
    else if bytes_eq (word_at words 0) (codes "follow") then Follow (small_at words 1)
    else if bytes_eq (word_at words 0) (codes "lead") then Lead (small_at words 1) (small_at words 2)
    else if bytes_eq (word_at words 0) (codes "removed") then Removed
    else if bytes_eq (word_at words 0) (codes "kept") then Kept (small_at words 1)
    else if bytes_eq (word_at words 0) (codes "renewed") then Renewed
    else if bytes_eq (word_at words 0) (codes "given") then Given (gift_at words 1) (small_at words 3)
    else if bytes_eq (word_at words 0) (codes "cancelled") then Cancelled
    else if bytes_eq (word_at words 0) (codes "lost") then Lost (loss_at words 1)
    else if bytes_eq (word_at words 0) (codes "gave") then Gave (gift_at words 1)
    else if bytes_eq (word_at words 0) (codes "noted") then Noted
    else Ended

abbrev pub is_equals : List ℕ → Bool
is_equals word = bytes_eq word (codes "=")

-- what stands behind the word `=`
abbrev pub behind_equals : List (List ℕ) → List (List ℕ)
behind_equals words = drop (position_or_len is_equals words + 1) words

-- `e caller request call = reply`
abbrev pub entry_form : List (List ℕ) → Entry
entry_form words = record {
  caller = small_at words 1;
  request = small_at words 2;
  call = call_of words;
  reply = reply_of (behind_equals words);
}
