-- The prompts that one's own entries led, each with its number among them.
use Rattle.std.proofs.Common.{◌≡◌, ℕ, suc, ◌+◌, ◌<◌, Bool, true, false, ◌&&◌, ◌||◌, cond, List, [], ◌∷◌, ◌++◌, length, refl, ap, sym, ◌∙◌, Option, Some, None, arith}
use Rattle.std.specs.Prelude.{IsTrue, is_some, option_map, unwrap_or, ◌==◌}
use Rattle.std.specs.List.{position_from}
use Rattle.std.proofs.lemmas.Bool.Decides.{nat_tests}
use Rattle.std.proofs.lemmas.Bool.{false≢true}
use Rattle.std.proofs.lemmas.List.{length-append}
use Rattle.std.proofs.lemmas.List.Sums.{sum_by-cons}
use Rattle.spaces.specs.declared.roster.Roster.{Roster}
use Rattle.auth_text.proofs.LoginLemmas.{position_from-append-Some, position_from-append-None}
use Rattle.auth_events.specs.declared.journal.Entry.{Entry}
use Rattle.auth_events.specs.Tables.{Tables, number_of}
use Rattle.auth_events.specs.Past.{is_lead, prompt_led, lead, leads}
use Rattle.auth_events.specs.Book.{IsLegalPast}
use Rattle.auth_events.proofs.Numbers.{IsFound, first_numbered}
use Rattle.auth_events.proofs.Same.{number_same, number_refl}
use Rattle.history_laws.proofs.Leading.{new_number}
use Rattle.isolation.specs.Partitions.{renumbered}
use Rattle.isolation.proofs.Parts.{kept, shrink, lead_moved}
use Rattle.isolation.proofs.Prompts.{IsNumbering}

abbrev pub one : Bool → ℕ → List ℕ
one true n = n ∷ []
one false n = []

-- the number of the prompt in a list, if it has one
abbrev pub place : List ℕ → ℕ → Option ℕ
place prompts p = number_of (λ own. own == p) prompts

-- its number, or else the next one
abbrev pub number_in : List ℕ → ℕ → ℕ
number_in prompts p = unwrap_or (place prompts p) (length prompts + 1)

-- THE FIRST THAT PASSES

some_push : (t : ℕ → Bool) (k : ℕ) (xs : List ℕ) (d : Bool) (n : ℕ) → is_some (position_from t k (xs ++ one d n)) ≡ (is_some (position_from t k xs) || d && t n)
some_push t k [] false n = refl
some_push t k [] true n = at (t n)
  where
    at : (b : Bool) → is_some (cond b (Some k) None) ≡ b
    at true = refl
    at false = refl
some_push t k (x ∷ xs) d n = at (t x) (some_push t (k + 1) xs d n)
  where
    at : (b : Bool) → is_some (position_from t (k + 1) (xs ++ one d n)) ≡ (is_some (position_from t (k + 1) xs) || d && t n) → is_some (cond b (Some k) (position_from t (k + 1) (xs ++ one d n))) ≡ (is_some (cond b (Some k) (position_from t (k + 1) xs)) || d && t n)
    at true rest = refl
    at false rest = rest

some_place : (xs : List ℕ) (p : ℕ) → is_some (place xs p) ≡ is_some (position_from (λ own. own == p) 0 xs)
some_place xs p = at (position_from (λ own. own == p) 0 xs)
  where
    at : (o : Option ℕ) → is_some (option_map suc o) ≡ is_some o
    at None = refl
    at (Some k) = refl

pub is_none : (o : Option ℕ) → is_some o ≡ false → o ≡ None
is_none None none = refl
is_none (Some n) none = absurd (false≢true (sym none))

-- the one at the end, where it stands there alone
place_last : (xs : List ℕ) (p : ℕ) → is_some (place xs p) ≡ false → place (xs ++ p ∷ []) p ≡ Some (length xs + 1)
place_last xs p none =
    let before = is_none (position_from (λ own. own == p) 0 xs) (sym (some_place xs p) ∙ none) in
    let next : suc (0 + length xs) ≡ length xs + 1 = omega arith in
    ap (option_map suc) (position_from-append-None (λ own. own == p) 0 xs (p ∷ []) before)
    ∙ (ap (λ b. option_map suc (cond b (Some (0 + length xs)) None)) (number_refl p) ∙ ap Some next)

-- a number stays, whatever comes behind
pub place_stays : (xs ys : List ℕ) (p n : ℕ) → place xs p ≡ Some n → place (xs ++ ys) p ≡ Some n
place_stays xs ys p n found = at (position_from (λ own. own == p) 0 xs) refl found
  where
    at : (o : Option ℕ) → position_from (λ own. own == p) 0 xs ≡ o → option_map suc o ≡ Some n → place (xs ++ ys) p ≡ Some n
    at None is found' = absurd (false≢true (ap is_some found'))
    at (Some k) is found' = ap (option_map suc) (position_from-append-Some (λ own. own == p) 0 k xs ys is) ∙ found'

place_positive : (xs : List ℕ) (p n : ℕ) → place xs p ≡ Some n → (n == 0) ≡ false
place_positive xs p n found = at (position_from (λ own. own == p) 0 xs) found
  where
    at : (o : Option ℕ) → option_map suc o ≡ Some n → (n == 0) ≡ false
    at None found' = absurd (false≢true (ap is_some found'))
    at (Some k) found' = let next : suc k ≡ n = ap (λ o. unwrap_or o n) found' in grind (arith, nat_tests)

-- two prompts with one number are one
place_once : (xs : List ℕ) (p q n : ℕ) → place xs p ≡ Some n → place xs q ≡ Some n → p ≡ q
place_once xs p q n at_p at_q =
    let found_p : IsFound (λ own. own == p) xs n = first_numbered (λ own. own == p) xs n at_p in
    let found_q : IsFound (λ own. own == q) xs n = first_numbered (λ own. own == q) xs n at_q in
    let same : found_p.thing ≡ found_q.thing = ap (λ o. unwrap_or o 0) (sym found_p.is_there ∙ found_q.is_there) in
    sym (number_same found_p.thing p found_p.passes) ∙ (same ∙ number_same found_q.thing q found_q.passes)

module _ (keep : Entry → Bool) where
  -- the prompts that one's own entries led, in order
  abbrev pub led_own : List Entry → List ℕ
  led_own [] = []
  led_own (entry ∷ past) = led_own past ++ one (keep entry && is_lead entry.reply) (prompt_led entry.reply)

  -- the prompt is one's own
  abbrev pub owned : List Entry → ℕ → Bool
  owned past p = unwrap_or (option_map keep (lead past p)) false

  -- there are as many in one's own part
  pub led_length : (f : ℕ → ℕ) (past : List Entry) → length (led_own past) ≡ leads (shrink f keep past)
  led_length f [] = refl
  led_length f (entry ∷ past) =
      length-append (led_own past) (one (keep entry && is_lead entry.reply) (prompt_led entry.reply))
      ∙ at (keep entry) (is_lead entry.reply) refl (led_length f past)
    where
      at : (a b : Bool) → is_lead entry.reply ≡ b → length (led_own past) ≡ leads (shrink f keep past) → length (led_own past) + length (one (a && b) (prompt_led entry.reply)) ≡ leads (kept a (renumbered f entry) (shrink f keep past))
      at false b is before = omega (arith, before)
      at true b is before =
          let more = sum_by-cons (λ e. cond (is_lead e.reply) 1 0) (renumbered f entry) (shrink f keep past) in
          let this : ◌≡◌ {A = ℕ} (cond (is_lead (renumbered f entry).reply) 1 0) (cond b 1 0) = ap (λ c. cond c 1 0) (lead_moved f entry.reply ∙ is) in
          omega (arith, before, more, this, counted b)
        where
          counted : (c : Bool) → length (one (true && c) (prompt_led entry.reply)) ≡ cond c 1 0
          counted true = refl
          counted false = refl

  module _ (roster : Roster) (names : Tables) where
    pub number_of_lead : (entry : Entry) (past : List Entry) → IsLegalPast roster names (entry ∷ past) → IsTrue (is_lead entry.reply) → prompt_led entry.reply ≡ leads past + 1
    number_of_lead entry past legal led = new_number roster names past entry.request entry.call entry.reply legal.1.1 legal.1.2 led

    pub leads_counted : (entry : Entry) (past : List Entry) → leads (entry ∷ past) ≡ cond (is_lead entry.reply) 1 0 + leads past
    leads_counted entry past = sum_by-cons (λ e. cond (is_lead e.reply) 1 0) entry past

    -- no prompt has a number that no lead can have
    pub unled : (past : List Entry) → IsLegalPast roster names past → (p : ℕ) → ((k : ℕ) → k < leads past → (k + 1 == p) ≡ false) → lead past p ≡ None
    unled [] legal p never = refl
    unled (entry ∷ past) legal p never =
        at (is_lead entry.reply) refl (unled past legal.0 p (λ k less. never k (omega (arith, less, leads_counted entry past))))
      where
        at : (b : Bool) → is_lead entry.reply ≡ b → lead past p ≡ None → cond (b && prompt_led entry.reply == p) (Some entry) (lead past p) ≡ None
        at false is older = older
        at true is older =
            let counted : ◌≡◌ {A = ℕ} (cond (is_lead entry.reply) 1 0) 1 = ap (λ c. cond c 1 0) is in
            ap (λ n. cond (n == p) (Some entry) (lead past p)) (number_of_lead entry past legal is)
            ∙ (ap (λ c. cond c (Some entry) (lead past p)) (never (leads past) (omega (arith, counted, leads_counted entry past))) ∙ older)

    pub unled_zero : (past : List Entry) → IsLegalPast roster names past → lead past 0 ≡ None
    unled_zero past legal = unled past legal 0 (λ k less. positive k)
      where
        positive : (k : ℕ) → (k + 1 == 0) ≡ false
        positive k = grind (arith, nat_tests)

    pub unled_next : (past : List Entry) → IsLegalPast roster names past → lead past (leads past + 1) ≡ None
    unled_next past legal = unled past legal (leads past + 1) (λ k less. smaller k less)
      where
        smaller : (k : ℕ) → k < leads past → (k + 1 == leads past + 1) ≡ false
        smaller k less = grind (arith, nat_tests)

    -- one's own prompts are those in the list
    pub owned_place : (past : List Entry) → IsLegalPast roster names past → (p : ℕ) → is_some (place (led_own past) p) ≡ owned past p
    owned_place [] legal p = refl
    owned_place (entry ∷ past) legal p =
        some_place (led_own (entry ∷ past)) p
        ∙ (some_push (λ own. own == p) 0 (led_own past) (keep entry && is_lead entry.reply) (prompt_led entry.reply)
        ∙ (ap (λ b. b || keep entry && is_lead entry.reply && prompt_led entry.reply == p) (sym (some_place (led_own past) p) ∙ owned_place past legal.0 p)
        ∙ at (is_lead entry.reply) refl (prompt_led entry.reply == p) refl))
      where
        or_none : (a b c : Bool) → (a || b && false && c) ≡ a
        or_none true b c = refl
        or_none false true c = refl
        or_none false false c = refl

        or_no : (a b : Bool) → (a || b && true && false) ≡ a
        or_no true b = refl
        or_no false true = refl
        or_no false false = refl

        or_all : (b : Bool) → (false || b && true && true) ≡ b
        or_all true = refl
        or_all false = refl

        at : (b : Bool) → is_lead entry.reply ≡ b → (c : Bool) → (prompt_led entry.reply == p) ≡ c → (owned past p || keep entry && b && c) ≡ unwrap_or (option_map keep (cond (b && c) (Some entry) (lead past p))) false
        at false is c same = or_none (owned past p) (keep entry) c
        at true is false other = or_no (owned past p) (keep entry)
        at true is true same =
            let number = sym (number_same (prompt_led entry.reply) p same) ∙ number_of_lead entry past legal is in
            ap (λ o. unwrap_or (option_map keep o) false || keep entry && true && true) (ap (lead past) number ∙ unled_next past legal.0) ∙ or_all (keep entry)

    -- a prompt that isn't one's own has the next number
    pub number_other : (f : ℕ → ℕ) (past : List Entry) → IsLegalPast roster names past → (p : ℕ) → owned past p ≡ false → number_in (led_own past) p ≡ leads (shrink f keep past) + 1
    number_other f past legal p other =
        ap (λ o. unwrap_or o (length (led_own past) + 1)) (is_none (place (led_own past) p) (owned_place past legal p ∙ other)) ∙ ap (λ n. n + 1) (led_length f past)

    -- and so has one that is just led
    pub place_led : (f : ℕ → ℕ) (entry : Entry) (past : List Entry) → IsLegalPast roster names (entry ∷ past) → IsTrue (keep entry) → IsTrue (is_lead entry.reply) → place (led_own (entry ∷ past)) (leads past + 1) ≡ Some (leads (shrink f keep past) + 1)
    place_led f entry past legal own led =
        ap (λ b. place (led_own past ++ one (b && is_lead entry.reply) (prompt_led entry.reply)) (leads past + 1)) own
        ∙ (ap (λ b. place (led_own past ++ one b (prompt_led entry.reply)) (leads past + 1)) led
        ∙ (ap (λ n. place (led_own past ++ n ∷ []) (leads past + 1)) (number_of_lead entry past legal led)
        ∙ (place_last (led_own past) (leads past + 1) (owned_place past legal.0 (leads past + 1) ∙ ap (λ o. unwrap_or (option_map keep o) false) (unled_next past legal.0))
        ∙ ap (λ n. Some (n + 1)) (led_length f past))))

    abbrev Found : List Entry → ℕ → Type 0
    Found past p = (n : ℕ) × (place (led_own past) p ≡ Some n)

    pub numbering : (past : List Entry) → IsLegalPast roster names past → IsNumbering (number_in (led_own past)) (owned past)
    numbering past legal =
        record {
          once = λ p q own_p own_q. by p q (found p own_p) (found q own_q) (p == q) refl;
          some = λ p own_p. positive p (found p own_p);
          zero = ap (λ o. unwrap_or (option_map keep o) false) (unled_zero past legal);
        }
      where
        found : (p : ℕ) → IsTrue (owned past p) → Found past p
        found p own = of (place (led_own past) p) refl (owned_place past legal p ∙ own)
          where
            of : (o : Option ℕ) → place (led_own past) p ≡ o → IsTrue (is_some o) → Found past p
            of None is some = absurd (false≢true some)
            of (Some n) is some = (n, is)

        number_is : (p : ℕ) (at : Found past p) → number_in (led_own past) p ≡ at.0
        number_is p at = ap (λ o. unwrap_or o (length (led_own past) + 1)) at.1

        positive : (p : ℕ) → Found past p → (number_in (led_own past) p == 0) ≡ false
        positive p at = ap (λ n. n == 0) (number_is p at) ∙ place_positive (led_own past) p at.0 at.1

        unlike : (p q : ℕ) (at_p : Found past p) (at_q : Found past q) → (p == q) ≡ false → (b : Bool) → (at_p.0 == at_q.0) ≡ b → b ≡ false
        unlike p q at_p at_q other false is = refl
        unlike p q at_p at_q other true is =
            let same = place_once (led_own past) p q at_q.0 (at_p.1 ∙ ap Some (number_same at_p.0 at_q.0 is)) at_q.1 in
            absurd (false≢true (sym other ∙ (ap (λ n. p == n) (sym same) ∙ number_refl p)))

        by : (p q : ℕ) → Found past p → Found past q → (b : Bool) → (p == q) ≡ b → (number_in (led_own past) p == number_in (led_own past) q) ≡ b
        by p q at_p at_q true is =
            ap (λ n. number_in (led_own past) p == number_in (led_own past) n) (sym (number_same p q is)) ∙ number_refl (number_in (led_own past) p)
        by p q at_p at_q false is =
            ap (λ n. n == number_in (led_own past) q) (number_is p at_p) ∙ (ap (λ n. at_p.0 == n) (number_is q at_q) ∙ unlike p q at_p at_q is (at_p.0 == at_q.0) refl)
