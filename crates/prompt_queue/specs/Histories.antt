-- The prompts of a book's past, as a queue keeps them.
use Rattle.std.specs.Prelude.{◌≡◌, ℕ, IsTrue, List, Some, is_some, map, filter}
use Rattle.auth_events.specs.declared.journal.Call.{Call}
use Rattle.auth_events.specs.declared.journal.Call.TheVariants.{Select, Answer, Lose, Take}
use Rattle.auth_events.specs.declared.journal.BookReply.{BookReply}
use Rattle.auth_events.specs.declared.journal.BookReply.TheVariants.{Lead, Follow, Given, Cancelled, Lost, Pending, Gave}
use Rattle.auth_events.specs.declared.journal.Entry.{Entry}
use Rattle.auth_events.specs.Past.{is_lead, prompt_led, end}
use Rattle.auth_events.specs.Book.{space_selected}
use Rattle.prompt_queue.specs.declared.queue.Prompt.{Prompt}
use Rattle.prompt_queue.specs.declared.queue.Joined.{Joined}
use Rattle.prompt_queue.specs.declared.queue.Joined.TheVariants.{Lead as Leads, Follow as Follows}
use Rattle.prompt_queue.specs.declared.queue.PromptTake.{PromptTake}
use Rattle.prompt_queue.specs.declared.queue.PromptTake.TheVariants.{Pending as IsPending, Gave as HasGiven, Cancelled as IsCancelled, Lost as IsLost}
use Rattle.prompt_queue.specs.Prompts.{prompt_of, ending_of, with_joined, answered, with_ending}

-- the reply of a book that joins a prompt
abbrev pub reply_joined : Joined → BookReply
reply_joined (Leads prompt ordinal) = Lead prompt ordinal
reply_joined (Follows prompt) = Follow prompt

-- the reply of a book of which the prompt's end is taken; its gift is one of the prompt's space
abbrev pub reply_taken : ℕ → PromptTake → BookReply
reply_taken s IsPending = Pending
reply_taken s (HasGiven ordinal) = Gave (record { space = s; ordinal = ordinal })
reply_taken s IsCancelled = Cancelled
reply_taken s (IsLost loss) = Lost loss

-- what is taken, by that reply
abbrev pub taken_by : BookReply → PromptTake
taken_by (Gave gift) = HasGiven gift.ordinal
taken_by Cancelled = IsCancelled
taken_by (Lost loss) = IsLost loss
taken_by reply = IsPending

-- the prompt that the entry led: its number, its space, the request that leads it, and how it ended
abbrev pub prompt_in : List Entry → Entry → Prompt
prompt_in past entry =
    record { number = prompt_led entry.reply; space = space_selected entry.call; request = entry.request; ending = taken_by (end past (prompt_led entry.reply)) }

-- the prompts of the past, the latest first: one of each reply `Lead`
abbrev pub prompts_of : List Entry → List Prompt
prompts_of past = map (prompt_in past) (filter (λ entry. is_lead entry.reply) past)

-- what a queue is told of an entry: a prompt that was led, its answer, or its loss
abbrev pub prompts_after : ℕ → Call → BookReply → List Prompt → List Prompt
prompts_after r (Select s t) (Lead p o) prompts = with_joined prompts s r (Leads p o)
prompts_after r (Answer p text t) (Given gift evicted) prompts = with_ending prompts p (answered gift.ordinal)
prompts_after r (Answer p text t) Cancelled prompts = with_ending prompts p (answered 0)
prompts_after r (Lose p loss) reply prompts = with_ending prompts p (IsLost loss)
prompts_after r call reply prompts = prompts

-- the queue may be told so
abbrev pub MayBeTold : Call → List Prompt → Type 0
MayBeTold (Answer p text t) prompts = ending_of prompts p ≡ Some IsPending
MayBeTold (Lose p loss) prompts = ending_of prompts p ≡ Some IsPending
MayBeTold (Take p) prompts = IsTrue (is_some (prompt_of prompts p))
MayBeTold call prompts = Unit {0}
