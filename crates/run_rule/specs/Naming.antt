-- Names are used: what a run's calls name, and in which order.
use Rattle.std.specs.Prelude.{ℕ, ◌+◌, ◌==◌, Bool, true, ◌&&◌, List, [], ◌∷◌, length, reverse, filter_map, Option, Some, None, if◌then◌else◌}
use Rattle.std.specs.List.{list_all, list_any, range_with_len}
use Rattle.auth_events.specs.Tables.{Tables, is_rising}
use Rattle.auth_events.specs.declared.journal.Call.{Call}
use Rattle.auth_events.specs.declared.journal.Call.TheVariants.{Select, Reject, Renew, Answer}
use Rattle.auth_events.specs.declared.journal.Entry.{Entry}

-- the space that a call names
abbrev pub space_in : Call → Option ℕ
space_in (Select space terms) = Some space
space_in (Reject space ordinal) = Some space
space_in call = None

abbrev pub unless_zero : ℕ → Option ℕ
unless_zero n = if n == 0 then None else Some n

-- the terms that a call names
abbrev pub terms_in : Call → Option ℕ
terms_in (Select space terms) = unless_zero terms
terms_in (Renew gift terms) = unless_zero terms
terms_in (Answer prompt text terms) = unless_zero terms
terms_in call = None

-- the text that a call names
abbrev pub text_in : Call → Option ℕ
text_in (Answer prompt text terms) = unless_zero text
text_in call = None

-- the numbers that the calls name, the latest first
abbrev pub numbers_in : (Call → Option ℕ) → List Entry → List ℕ
numbers_in number journal = reverse (filter_map (λ entry. number entry.call) journal)

-- USE

-- each number up to the count occurs
abbrev pub are_all_used : List ℕ → ℕ → Bool
are_all_used numbers count = list_all (λ n. list_any (λ used. used == n) numbers) (range_with_len 1 count)

-- a call names each space, terms and text
abbrev pub are_names_used : Tables → List Entry → Bool
are_names_used names journal =
    are_all_used (numbers_in space_in journal) (length names.spaces)
    && are_all_used (numbers_in terms_in journal) (length names.terms)
    && are_all_used (numbers_in text_in journal) (length names.texts)

-- ORDER

-- each number, the latest first, is that of its turn
abbrev pub are_in_turn : List ℕ → Bool
are_in_turn [] = true
are_in_turn (n ∷ earlier) = n == length earlier + 1 && are_in_turn earlier

-- the numbers of spaces and of terms rise by first occurrence, and the nth answer with a text names text n
abbrev pub are_names_in_order : List Entry → Bool
are_names_in_order journal =
    is_rising (numbers_in space_in journal) && is_rising (numbers_in terms_in journal)
    && are_in_turn (numbers_in text_in journal)
