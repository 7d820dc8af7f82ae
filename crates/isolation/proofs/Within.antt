-- The numbers and places of a whole past, seen from its earlier parts.
use Rattle.std.proofs.Common.{◌≡◌, ℕ, ◌+◌, ◌<◌, ◌≤◌, Bool, true, false, ◌&&◌, ◌||◌, List, [], ◌∷◌, length, refl, ap, sym, subst, ◌∙◌, Option, Some, arith}
use Rattle.std.specs.Prelude.{IsTrue, is_some, unwrap_or, nat_lt, ◌==◌}
use Rattle.std.proofs.lemmas.Bool.Decides.{nat_tests}
use Rattle.std.proofs.Math.Bool.{and-false}
use Rattle.spaces.specs.declared.roster.Roster.{Roster}
use Rattle.auth_events.specs.declared.journal.Entry.{Entry}
use Rattle.auth_events.specs.Tables.{Tables}
use Rattle.auth_events.specs.Past.{is_lead, prompt_led, lead, leads}
use Rattle.auth_events.specs.Book.{IsLegalPast}
use Rattle.auth_events.proofs.Numbers.{or_right}
use Rattle.auth_events.proofs.Same.{number_refl}
use Rattle.history_laws.proofs.Leading.{lead_stays}
use Rattle.history_laws.proofs.Prompting.{one_if}
use Rattle.isolation.specs.Partitions.{renumbered}
use Rattle.isolation.proofs.Parts.{kept, shrink}
use Rattle.isolation.proofs.Places.{ArePlaced}
use Rattle.isolation.proofs.Placing.{before, stands}
use Rattle.isolation.proofs.Numbering.{one, place, number_in, led_own, place_stays, place_led}

not_lt : (n k : ℕ) → k ≤ n → nat_lt n k ≡ false
not_lt n k le = grind (arith, nat_tests)

is_lt : (n k : ℕ) → n < k → nat_lt n k ≡ true
is_lt n k lt = grind (arith, nat_tests)

module _ (roster : Roster) (names : Tables) (keep : Entry → Bool) where
  -- all entries are counted
  before_all : (f : ℕ → ℕ) (past : List Entry) (k : ℕ) → length past ≤ k → before keep past k ≡ length (shrink f keep past)
  before_all f [] k le = refl
  before_all f (entry ∷ past) k le = at (keep entry) (before_all f past k (omega (arith, le)))
    where
      at : (a : Bool) → before keep past k ≡ length (shrink f keep past) → one_if (a && nat_lt (length past) k) + before keep past k ≡ length (kept a (renumbered f entry) (shrink f keep past))
      at false rest = omega (arith, rest)
      at true rest =
          let here : one_if (nat_lt (length past) k) ≡ 1 = ap one_if (is_lt (length past) k (omega (arith, le))) in
          omega (arith, rest, here)

  before_below : (entry : Entry) (past : List Entry) (k : ℕ) → k ≤ length past → before keep (entry ∷ past) k ≡ before keep past k
  before_below entry past k le =
      let none : one_if (keep entry && nat_lt (length past) k) ≡ 0 = ap one_if (ap (λ c. keep entry && c) (not_lt (length past) k le) ∙ and-false (keep entry)) in
      omega (arith, none)

  module _ (whole : List Entry) where
    -- the whole past tells of the prompts and places of an earlier part what that part tells
    pub record IsWithin (past : List Entry) : Type 0 where
      pub numbers : (p n : ℕ) → place (led_own keep past) p ≡ Some n → place (led_own keep whole) p ≡ Some n
      pub places : (k : ℕ) → k ≤ length past → before keep whole k ≡ before keep past k
      pub stood : (k : ℕ) → IsTrue (stands keep past k) → IsTrue (stands keep whole k)
      pub led : (p : ℕ) → IsTrue (is_some (lead past p)) → lead whole p ≡ lead past p

    pub within_tail : (entry : Entry) (past : List Entry) → IsLegalPast roster names (entry ∷ past) → IsWithin (entry ∷ past) → IsWithin past
    within_tail entry past legal within =
        record {
          numbers = λ p n found. within.numbers p n (place_stays (led_own keep past) (one (keep entry && is_lead entry.reply) (prompt_led entry.reply)) p n found);
          places = λ k le. within.places k (omega (arith, le)) ∙ before_below entry past k le;
          stood = λ k is. within.stood k (or_right (keep entry && length past == k) (stands keep past k) is);
          led = λ p some. (let stays = lead_stays roster names entry past legal p some in within.led p (subst (λ (o : Option Entry). IsTrue (is_some o)) (sym stays) some) ∙ stays);
        }

    pub are_placed : (f : ℕ → ℕ) (mine : ℕ → Bool) (past : List Entry) → IsLegalPast roster names past → IsWithin past → ArePlaced roster names f keep mine (before keep whole) (λ k. IsTrue (stands keep whole k)) past
    are_placed f mine [] legal within = tt
    are_placed f mine (entry ∷ past) legal within =
        let older = within_tail entry past legal within in
        (are_placed f mine past legal.0 older, λ is. (within.stood (length past) (here is), older.places (length past) (omega arith) ∙ before_all f past (length past) (omega arith)))
      where
        here : IsTrue (keep entry) → IsTrue (stands keep (entry ∷ past) (length past))
        here is = ap (λ a. a && length past == length past || stands keep past (length past)) is ∙ ap (λ b. b || stands keep past (length past)) (number_refl (length past))

    -- a prompt that one leads has the next number
    pub next_number : (f : ℕ → ℕ) (entry : Entry) (past : List Entry) → IsLegalPast roster names (entry ∷ past) → IsWithin (entry ∷ past) → IsTrue (keep entry) → IsTrue (is_lead entry.reply) → number_in (led_own keep whole) (leads past + 1) ≡ leads (shrink f keep past) + 1
    next_number f entry past legal within own led =
        ap (λ o. unwrap_or o (length (led_own keep whole) + 1)) (within.numbers (leads past + 1) (leads (shrink f keep past) + 1) (place_led keep roster names f entry past legal own led))
