-- What one partition has of a history alone.
-- Names and roster are shared, and each of their numbers stands for one thing: so requests, spaces, terms, nonces and texts keep their numbers.
-- A prompt's number tells how many prompts were led before it, whoever led them: so a partition's prompts are numbered among its own.
use Rattle.std.specs.Prelude.{ℕ, ◌+◌, Bool, false, ◌==◌, List, length, option_map, unwrap_or, filter, map, bytes_eq}
use Rattle.spaces.specs.declared.roster.Roster.{Roster}
use Rattle.spaces.specs.Sites.{numbered}
use Rattle.auth_events.specs.declared.journal.Call.{Call}
use Rattle.auth_events.specs.declared.journal.Call.TheVariants.{Answer, Lose, Take}
use Rattle.auth_events.specs.declared.journal.BookReply.{BookReply}
use Rattle.auth_events.specs.declared.journal.BookReply.TheVariants.{Follow, Lead}
use Rattle.auth_events.specs.declared.journal.Entry.{Entry}
use Rattle.auth_events.specs.Tables.{number_of}
use Rattle.auth_events.specs.Past.{is_lead, prompt_led}
use Rattle.auth_events.specs.Book.{without_draws}

-- the call, with another number for its prompt
abbrev pub call_renumbered : (ℕ → ℕ) → Call → Call
call_renumbered number (Answer prompt text terms) = Answer (number prompt) text terms
call_renumbered number (Lose prompt loss) = Lose (number prompt) loss
call_renumbered number (Take prompt) = Take (number prompt)
call_renumbered number call = call

-- the reply, with another number for its prompt
abbrev pub reply_renumbered : (ℕ → ℕ) → BookReply → BookReply
reply_renumbered number (Follow prompt) = Follow (number prompt)
reply_renumbered number (Lead prompt ordinal) = Lead (number prompt) ordinal
reply_renumbered number reply = reply

abbrev pub renumbered : (ℕ → ℕ) → Entry → Entry
renumbered number entry = record { caller = entry.caller; request = entry.request; call = call_renumbered number entry.call; reply = reply_renumbered number entry.reply }

module _ (roster : Roster) (partition : List ℕ) where
  -- the request is one of the partition
  abbrev pub is_in : ℕ → Bool
  is_in r = unwrap_or (option_map (λ request. bytes_eq request.partition partition) (numbered roster.requests r)) false

  -- the entries of the partition's requests
  abbrev pub entries_in : List Entry → List Entry
  entries_in history = filter (λ entry. is_in entry.request) history

  -- the prompts that the partition led, in order
  abbrev pub prompts_in : List Entry → List ℕ
  prompts_in history = map (λ entry. prompt_led entry.reply) (filter (λ entry. is_lead entry.reply) (entries_in (without_draws history)))

  -- the prompt's number among them; a prompt that isn't among them has the next one
  abbrev pub prompt_in : List Entry → ℕ → ℕ
  prompt_in history p = unwrap_or (number_of (λ own. own == p) (prompts_in history)) (length (prompts_in history) + 1)

  -- the history as the partition has it alone
  abbrev pub alone_in : List Entry → List Entry
  alone_in history = map (renumbered (prompt_in history)) (entries_in history)

  -- the call as the partition makes it alone
  abbrev pub call_in : List Entry → Call → Call
  call_in history call = call_renumbered (prompt_in history) call

  -- the reply as the partition gets it alone
  abbrev pub reply_in : List Entry → BookReply → BookReply
  reply_in history reply = reply_renumbered (prompt_in history) reply
