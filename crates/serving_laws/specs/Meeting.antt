-- The names that a request makes are met in its calls.
use Rattle.std.specs.Prelude.{ℕ, ◌≡◌, ◌+◌, ◌==◌, ◌&&◌, nat_le, Bool, true, IsTrue, List, [], ◌∷◌, length, filter_map, Option, None}
use Rattle.std.specs.List.{cons_option}
use Rattle.auth_events.specs.declared.journal.Call.{Call}
use Rattle.auth_events.specs.declared.journal.Entry.{Entry}
use Rattle.auth_events.specs.Tables.{Tables, greatest, larger}
use Rattle.run_rule.specs.Naming.{space_in, terms_in, text_in}

-- the numbers that the calls of the entries name, the latest first
abbrev pub numbers_of : (Call → Option ℕ) → List Entry → List ℕ
numbers_of number entries = filter_map (λ entry. number entry.call) entries

-- each number, the latest first, is one of the first k, one that stands before it, or the next one
abbrev pub is_rising_behind : ℕ → List ℕ → Bool
is_rising_behind k [] = true
is_rising_behind k (n ∷ earlier) = nat_le 1 n && nat_le n (larger k (greatest earlier) + 1) && is_rising_behind k earlier

-- the numbers behind the first k, up to the count, rise in the order of first use, and each is used
abbrev pub are_met : ℕ → List ℕ → ℕ → Bool
are_met k numbers count = is_rising_behind k numbers && larger k (greatest numbers) == count

-- each number, the latest first, is that of its turn behind the first k
abbrev pub are_in_turn_behind : ℕ → List ℕ → Bool
are_in_turn_behind k [] = true
are_in_turn_behind k (n ∷ earlier) = n == k + length earlier + 1 && are_in_turn_behind k earlier

-- the numbers that were told for the next call, which no call names yet
pub record Pending : Type 0 where
  pub space : Option ℕ
  pub terms : Option ℕ
  pub text : Option ℕ

abbrev pub none_pending : Pending
none_pending = record { space = None; terms = None; text = None }

-- the entries' calls, and the next one with what is pending, name each space, terms and text that is named anew: spaces and terms in the order of their numbers, and each text once, in its turn
pub record AreMetWith (old new : Tables) (entries : List Entry) (pending : Pending) : Type 0 where
  pub spaces : IsTrue (are_met (length old.spaces) (cons_option pending.space (numbers_of space_in entries)) (length new.spaces))
  pub terms : IsTrue (are_met (length old.terms) (cons_option pending.terms (numbers_of terms_in entries)) (length new.terms))
  pub in_turn : IsTrue (are_in_turn_behind (length old.texts) (cons_option pending.text (numbers_of text_in entries)))
  pub texts : length new.texts ≡ length old.texts + length (cons_option pending.text (numbers_of text_in entries))

-- nothing is pending
abbrev pub AreNamesMet : Tables → Tables → List Entry → Type 0
AreNamesMet old new entries = AreMetWith old new entries none_pending
