-- Pasts in which every request that began has its end. A past is the list of entries, the latest first.
use Rattle.std.specs.Prelude.{◌≡◌, ℕ, Bool, true, false, ◌&&◌, ◌==◌, IsTrue, List, ◌∷◌, ◌++◌, count_by}
use Rattle.std.specs.List.{list_any}
use Rattle.auth_events.specs.declared.journal.BookReply.{BookReply}
use Rattle.auth_events.specs.declared.journal.BookReply.TheVariants.{Follow}
use Rattle.auth_events.specs.declared.journal.Entry.{Entry}
use Rattle.auth_events.specs.Past.{is_lead, prompt_led, prompt_followed, settles}
use Rattle.auth_events.specs.Book.{begins, ends, own, takes}

abbrev pub has_begun : List Entry → ℕ → Bool
has_begun past r = list_any (λ entry. begins entry.call) (own past r)

abbrev pub has_ended : List Entry → ℕ → Bool
has_ended past r = list_any (λ entry. ends entry.call) (own past r)

-- every request that began has its end
abbrev pub HaveAllEnded : List Entry → Type 0
HaveAllEnded past = (r : ℕ) → IsTrue (has_begun past r) → IsTrue (has_ended past r)

-- every prompt has exactly one answer or loss
abbrev pub AreAllSettled : List Entry → Type 0
AreAllSettled past =
    (later : List Entry) (lead : Entry) (before : List Entry) → past ≡ later ++ lead ∷ before
    → IsTrue (is_lead lead.reply)
    → count_by (λ entry. settles entry.call (prompt_led lead.reply)) past ≡ 1

abbrev pub is_follow : BookReply → Bool
is_follow (Follow prompt) = true
is_follow _ = false

-- the request takes the end of the prompt
abbrev pub takes_end : ℕ → ℕ → Entry → Bool
takes_end r p entry = entry.request == r && takes entry.call p

-- every request that follows a prompt takes its end behind that, exactly once
abbrev pub AreAllTaken : List Entry → Type 0
AreAllTaken past =
    (later : List Entry) (follow : Entry) (before : List Entry) → past ≡ later ++ follow ∷ before
    → IsTrue (is_follow follow.reply)
    → count_by (takes_end follow.request (prompt_followed follow.reply)) later ≡ 1
