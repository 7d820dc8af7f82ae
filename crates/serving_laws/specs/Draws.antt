-- The draws of a request that one caller serves, and the words that give them.
use Rattle.std.specs.Prelude.{ℕ, ◌≡◌, ◌≤◌, ◌+◌, ◌==◌, if◌then◌else◌, List, [], ◌∷◌, ◌++◌, length}
use Rattle.auth_events.specs.declared.journal.Drawn.{Drawn}
use Rattle.auth_events.specs.declared.journal.Entry.{Entry}
use Rattle.auth_events.specs.Book.{epoch}
use Rattle.auth_events.specs.Tables.{Tables}
use Rattle.auth_runs.specs.declared.event.Event.{Event}
use Rattle.auth_runs.specs.declared.event.Event.TheVariants.{Drew}
use Rattle.plain_book.specs.Words.{draws_of, retirements_of, with_retirement}
use Rattle.serving_laws.specs.Alone.{entries_of}

-- how often a past drew the nonce
abbrev pub times_drawn : List Event → ℕ → ℕ
times_drawn [] n = 0
times_drawn (Drew target nonce count epoch ∷ past) n = (if nonce == n then 1 else 0) + times_drawn past n
times_drawn (event ∷ past) n = times_drawn past n

-- each draw of the past gave the next count of its nonce, behind those that the words had given before, and the epoch that the book had at that moment
abbrev pub AreNextDraws : Tables → List Entry → List Drawn → ℕ → List Event → Type 0
AreNextDraws names before first r [] = Unit {0}
AreNextDraws names before first r (Drew target nonce count at ∷ past) =
    AreNextDraws names before first r past
    × (count ≡ draws_of first nonce + times_drawn past nonce + 1)
    × (at ≡ epoch names (entries_of r past ++ before) nonce)
AreNextDraws names before first r (event ∷ past) = AreNextDraws names before first r past

-- each word has the epoch that the book's entries make of its nonce
abbrev pub AreEpochs : Tables → List Entry → List Drawn → Type 0
AreEpochs names entries words = (n : ℕ) → 1 ≤ n → n ≤ length words → retirements_of words n ≡ epoch names entries n

-- with one retirement of the nonce more, unless it is 0
abbrev pub with_retired : List Drawn → ℕ → List Drawn
with_retired words n = if n == 0 then words else with_retirement words n

-- the words gave the draws of the past and no other, and have the epochs of the entries
pub record AreWords (names : Tables) (before entries : List Entry) (first words : List Drawn) (r : ℕ) (past : List Event) : Type 0 where
  pub as_many : length words ≡ length first
  pub counts : (n : ℕ) → 1 ≤ n → n ≤ length words → draws_of words n ≡ draws_of first n + times_drawn past n
  pub epochs : AreEpochs names entries words
  pub draws : AreNextDraws names before first r past
