-- The nonces that calls take out are few, and within the words.
use Rattle.std.proofs.Common.{◌≡◌, ℕ, zero, suc, ◌+◌, ◌*◌, ◌^◌, ◌≤◌, ◌<◌, Bool, true, false, ◌==◌, cond, List, [], ◌∷◌, length, sym, subst, arith}
use Rattle.auth_events.specs.declared.journal.Drawn.{Drawn}
use Rattle.auth_events.specs.declared.journal.Entry.{Entry}
use Rattle.auth_events.specs.Book.{epoch, takes_out}
use Rattle.auth_events.specs.Tables.{Tables}
use Rattle.plain_book.specs.Words.{retirements_of}
use Rattle.serving_laws.specs.Draws.{AreEpochs, with_retired}
use Rattle.serving_laws.proofs.Words.{epochs_behind}

-- an entry takes a nonce out at most once
epoch_few : (names : Tables) (entries : List Entry) (n : ℕ) → epoch names entries n ≤ length entries
epoch_few names [] n = omega arith
epoch_few names (entry ∷ past) n = at (takes_out names entry past n) (epoch_few names past n)
  where
    at : (b : Bool) → epoch names past n ≤ length past → cond b 1 0 + epoch names past n ≤ length (entry ∷ past)
    at true few = omega (arith, few)
    at false few = omega (arith, few)

pub few_retirements : (names : Tables) (entries : List Entry) (words : List Drawn) (requests n : ℕ) → AreEpochs names entries words → n ≤ length words
    → length entries ≤ 64 * requests → length words ≡ 16 * requests → length words ≤ 32768 → retirements_of words n < 2 ^ 31
few_retirements names entries words requests zero epochs within room as_many few = omega arith
few_retirements names entries words requests (suc n) epochs within room as_many few =
    omega (arith, epochs (suc n) (omega arith) within, epoch_few names entries (suc n), room, as_many, few)

-- the words have the epochs of the entries behind a call
pub epochs_with : (names after : Tables) → after ≡ names → (entries later : List Entry) (words more : List Drawn) (out : ℕ) → more ≡ with_retired words out
    → out ≤ length words → ((n : ℕ) → 0 < n → epoch names later n ≡ epoch names entries n + cond (out == n) 1 0)
    → AreEpochs names entries words → AreEpochs after later more
epochs_with names after same entries later words more out retired within rise are =
    subst (λ t. AreEpochs t later more) (sym same) (subst (AreEpochs names later) (sym retired) (epochs_behind words out within names entries later rise are))
