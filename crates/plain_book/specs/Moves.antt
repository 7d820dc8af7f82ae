-- What an entry moves: the space that it gives or takes away, and the one whose terms it sets.
use Rattle.std.specs.Prelude.{ℕ, Bool, false, not, ◌&&◌, ◌||◌, ◌==◌, if◌then◌else◌, List, Option, None, Some, option_map}
use Rattle.std.specs.List.{list_any}
use Rattle.auth_events.specs.declared.journal.Call.{Call}
use Rattle.auth_events.specs.declared.journal.Call.TheVariants.{Reject}
use Rattle.auth_events.specs.declared.journal.Entry.{Entry}
use Rattle.auth_events.specs.Past.{takes_away, gives, touches, gift_used, is_ready, is_removed, evicted_by}

-- the entry gives the space or takes it away
abbrev pub changes : Entry → ℕ → Bool
changes entry s = takes_away entry s || gives entry s

-- the entry sets the terms of the space
abbrev pub sets_terms : Entry → ℕ → Bool
sets_terms entry s = touches entry s && not (is_ready entry.reply)

-- the space whose terms the entry sets
abbrev pub space_set : Entry → Option ℕ
space_set entry = if is_ready entry.reply then None else option_map (λ gift. gift.space) (gift_used entry.call entry.reply)

abbrev pub space_rejected : Call → Option ℕ
space_rejected (Reject space ordinal) = Some space
space_rejected _ = None

-- the space that the entry takes away
abbrev pub space_taken : Entry → Option ℕ
space_taken entry =
    if is_removed entry.reply
    then space_rejected entry.call
    else (if evicted_by entry.reply == 0 then None else Some (evicted_by entry.reply))

-- there is a number, it passes the test, and it is one of the list
abbrev pub passes_in : (ℕ → Bool) → List ℕ → Option ℕ → Bool
passes_in test xs None = false
passes_in test xs (Some x) = test x && list_any (λ y. y == x) xs
