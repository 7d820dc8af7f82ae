-- What a space holds, and its terms, are told by the latest entry that moved it.
use Rattle.std.proofs.Common.{◌≡◌, ℕ, Bool, true, false, ◌||◌, cond, List, [], ◌∷◌, refl, ap, sym, Option, Some, None}
use Rattle.std.specs.Prelude.{find, option_map, option_and_then, unwrap_or}
use Rattle.auth_events.specs.declared.journal.Gift.{Gift}
use Rattle.auth_events.specs.declared.journal.Entry.{Entry}
use Rattle.auth_events.specs.Past.{current, gift_given, gives, takes_away, terms, terms_in}
use Rattle.plain_book.specs.Moves.{changes, sets_terms}

-- what the space holds by an entry that changed it
abbrev pub held_by : ℕ → Entry → Option Gift
held_by s entry = cond (takes_away entry s) None (gift_given entry.reply)

pub current_latest : (past : List Entry) (s : ℕ) → current past s ≡ option_and_then (held_by s) (find (λ entry. changes entry s) past)
current_latest [] s = refl
current_latest (entry ∷ past) s = at (takes_away entry s) refl (gives entry s) (current_latest past s)
  where
    at : (t : Bool) → takes_away entry s ≡ t → (g : Bool) → current past s ≡ option_and_then (held_by s) (find (λ e. changes e s) past) → cond t None (cond g (gift_given entry.reply) (current past s)) ≡ option_and_then (held_by s) (cond (t || g) (Some entry) (find (λ e. changes e s) past))
    at true is g before = sym (ap (λ b. cond b None (gift_given entry.reply)) is)
    at false is true before = sym (ap (λ b. cond b None (gift_given entry.reply)) is)
    at false is false before = before

pub terms_latest : (past : List Entry) (s : ℕ) → terms past s ≡ unwrap_or (option_map (λ (entry : Entry). terms_in entry.call) (find (λ entry. sets_terms entry s) past)) 0
terms_latest [] s = refl
terms_latest (entry ∷ past) s = at (sets_terms entry s) (terms_latest past s)
  where
    at : (b : Bool) → terms past s ≡ unwrap_or (option_map (λ (e : Entry). terms_in e.call) (find (λ e. sets_terms e s) past)) 0 → cond b (terms_in entry.call) (terms past s) ≡ unwrap_or (option_map (λ (e : Entry). terms_in e.call) (cond b (Some entry) (find (λ e. sets_terms e s) past))) 0
    at true before = refl
    at false before = before
