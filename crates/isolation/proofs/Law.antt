-- From pasts to histories.
use Rattle.std.proofs.Common.{◌≡◌, ℕ, ◌+◌, Bool, true, false, not, ◌&&◌, cond, List, [], ◌∷◌, ◌++◌, length, refl, ap, sym, subst, ◌∙◌}
use Rattle.std.specs.Prelude.{IsTrue, filter, map, reverse, unwrap_or}
use Rattle.std.proofs.lemmas.List.{map-append, reverse-append, reverse-reverse}
use Rattle.std.proofs.lemmas.List.Elements.{filter-append}
use Rattle.spaces.specs.declared.roster.Roster.{Roster}
use Rattle.auth_events.specs.declared.journal.Call.{Call}
use Rattle.auth_events.specs.declared.journal.Call.TheVariants.{Answer, Lose, Take}
use Rattle.auth_events.specs.declared.journal.Entry.{Entry}
use Rattle.auth_events.specs.Tables.{Tables, AreNames}
use Rattle.auth_events.specs.Past.{is_lead, prompt_led}
use Rattle.auth_events.specs.Book.{IsLegal, IsLegalPast, allowed, answer, without_draws, draws}
use Rattle.history_laws.specs.Laws.{past_of}
use Rattle.auth_events.proofs.Numbers.{and_right}
use Rattle.isolation.specs.Partitions.{is_in, entries_in, prompt_in, alone_in, call_in, reply_in, renumbered, call_renumbered, reply_renumbered}
use Rattle.isolation.proofs.Lists.{filter_both, filter_reverse, map_reverse}
use Rattle.isolation.proofs.Parts.{kept, shrink}
use Rattle.isolation.proofs.Home.{keep}
use Rattle.isolation.proofs.Numbering.{one, place, number_in, led_own}
use Rattle.isolation.proofs.Alone.{part_of_whole, same_answer, same_allowed}

pub shrink_is : (f : ℕ → ℕ) (own : Entry → Bool) (xs : List Entry) → map (renumbered f) (filter own xs) ≡ shrink f own xs
shrink_is f own [] = refl
shrink_is f own (x ∷ xs) = at (own x) (shrink_is f own xs)
  where
    at : (b : Bool) → map (renumbered f) (filter own xs) ≡ shrink f own xs → map (renumbered f) (cond b (x ∷ filter own xs) (filter own xs)) ≡ kept b (renumbered f x) (shrink f own xs)
    at true before = ap (λ ys. renumbered f x ∷ ys) before
    at false before = before

pub draws_moved : (f : ℕ → ℕ) (call : Call) → draws (call_renumbered f call) ≡ draws call
draws_moved f (Answer p x t) = refl
draws_moved f (Lose p l) = refl
draws_moved f (Take p) = refl
draws_moved f call = refl

drawless : (f : ℕ → ℕ) (xs : List Entry) → without_draws (map (renumbered f) xs) ≡ map (renumbered f) (without_draws xs)
drawless f [] = refl
drawless f (x ∷ xs) =
    ap (λ b. cond (not b) (renumbered f x ∷ without_draws (map (renumbered f) xs)) (without_draws (map (renumbered f) xs))) (draws_moved f x.call) ∙ at (not (draws x.call)) (drawless f xs)
  where
    at : (b : Bool) → without_draws (map (renumbered f) xs) ≡ map (renumbered f) (without_draws xs) → cond b (renumbered f x ∷ without_draws (map (renumbered f) xs)) (without_draws (map (renumbered f) xs)) ≡ map (renumbered f) (cond b (x ∷ without_draws xs) (without_draws xs))
    at true before = ap (λ ys. renumbered f x ∷ ys) before
    at false before = before

-- the list of prompts that one's own entries led, from either end
abbrev leads_in : (Entry → Bool) → List Entry → List ℕ
leads_in own xs = map (λ entry. prompt_led entry.reply) (filter (λ entry. is_lead entry.reply) (filter own xs))

leads_push : (own : Entry → Bool) (xs : List Entry) (x : Entry) → leads_in own (xs ++ x ∷ []) ≡ leads_in own xs ++ one (own x && is_lead x.reply) (prompt_led x.reply)
leads_push own xs x =
    ap (λ ys. map (λ (e : Entry). prompt_led e.reply) (filter (λ (e : Entry). is_lead e.reply) ys)) (filter-append own xs (x ∷ []))
    ∙ (ap (map (λ (e : Entry). prompt_led e.reply)) (filter-append (λ (e : Entry). is_lead e.reply) (filter own xs) (filter own (x ∷ [])))
    ∙ (map-append (λ (e : Entry). prompt_led e.reply) (filter (λ (e : Entry). is_lead e.reply) (filter own xs)) (filter (λ (e : Entry). is_lead e.reply) (filter own (x ∷ [])))
    ∙ ap (λ ys. leads_in own xs ++ ys) (last (own x) (is_lead x.reply) refl)))
  where
    last : (a b : Bool) → is_lead x.reply ≡ b → map (λ (e : Entry). prompt_led e.reply) (filter (λ (e : Entry). is_lead e.reply) (cond a (x ∷ []) [])) ≡ one (a && b) (prompt_led x.reply)
    last false b is = refl
    last true true is = ap (λ b. map (λ (e : Entry). prompt_led e.reply) (cond b (x ∷ []) [])) is
    last true false is = ap (λ b. map (λ (e : Entry). prompt_led e.reply) (cond b (x ∷ []) [])) is

led_is : (own : Entry → Bool) (past : List Entry) → leads_in own (reverse past) ≡ led_own own past
led_is own [] = refl
led_is own (entry ∷ past) =
    ap (leads_in own) (reverse-append (entry ∷ []) past)
    ∙ (leads_push own (reverse past) entry ∙ ap (λ xs. xs ++ one (own entry && is_lead entry.reply) (prompt_led entry.reply)) (led_is own past))

module _ (roster : Roster) (names : Tables) (partition : List ℕ) where
  abbrev own : Entry → Bool
  own = keep roster names partition

  number_is : (history : List Entry) → prompt_in roster partition history ≡ number_in (led_own own (past_of history))
  number_is history =
      ap (λ xs. λ p. unwrap_or (place xs p) (length xs + 1))
      (ap (leads_in own) (sym (reverse-reverse (without_draws history))) ∙ led_is own (past_of history))

  abbrev part : List Entry → List Entry
  part history = shrink (number_in (led_own own (past_of history))) own (past_of history)

  alone_is : (history : List Entry) → past_of (alone_in roster partition history) ≡ part history
  alone_is history =
      ap reverse (drawless (prompt_in roster partition history) (entries_in roster partition history))
      ∙ (ap (λ xs. reverse (map (renumbered (prompt_in roster partition history)) xs)) (filter_both (λ e. not (draws e.call)) (λ e. is_in roster partition e.request) history)
      ∙ (sym (map_reverse (renumbered (prompt_in roster partition history)) (entries_in roster partition (without_draws history)))
      ∙ (ap (map (renumbered (prompt_in roster partition history))) (sym (filter_reverse own (without_draws history)))
      ∙ (shrink_is (prompt_in roster partition history) own (past_of history)
      ∙ ap (λ f. shrink f own (past_of history)) (number_is history)))))

  -- entries of other partitions add nothing
  pub others_add_nothing : (earlier later : List Entry) (entry : Entry) → is_in roster partition entry.request ≡ false → alone_in roster partition (earlier ++ entry ∷ later) ≡ alone_in roster partition (earlier ++ later)
  others_add_nothing earlier later entry other =
      ap (λ xs. map (renumbered (λ p. unwrap_or (place (leads_in own (without_draws (earlier ++ entry ∷ later))) p) (length (leads_in own (without_draws (earlier ++ entry ∷ later))) + 1))) xs) (dropped earlier)
      ∙ ap (λ xs. map (renumbered (λ p. unwrap_or (place xs p) (length xs + 1))) (entries_in roster partition (earlier ++ later))) same_leads
    where
      dropped : (xs : List Entry) → filter own (xs ++ entry ∷ later) ≡ filter own (xs ++ later)
      dropped xs =
          filter-append own xs (entry ∷ later)
          ∙ (ap (λ b. filter own xs ++ cond b (entry ∷ filter own later) (filter own later)) other ∙ sym (filter-append own xs later))

      same_leads : leads_in own (without_draws (earlier ++ entry ∷ later)) ≡ leads_in own (without_draws (earlier ++ later))
      same_leads =
          ap (λ xs. map (λ (e : Entry). prompt_led e.reply) (filter (λ (e : Entry). is_lead e.reply) xs))
          (filter_both own (λ e. not (draws e.call)) (earlier ++ entry ∷ later)
          ∙ (ap (filter (λ (e : Entry). not (draws e.call))) (dropped earlier) ∙ sym (filter_both own (λ e. not (draws e.call)) (earlier ++ later))))

  module _ (are : AreNames names) (history : List Entry) (legal : IsLegal roster names history) where
    -- what a partition has alone of a legal history is legal
    pub alone_legal : IsLegal roster names (alone_in roster partition history)
    alone_legal = subst (IsLegalPast roster names) (sym (alone_is history)) (part_of_whole roster names are partition (past_of history) legal)

    -- its requests may ask the same
    pub allowed_alike : (caller r : ℕ) (call : Call) → IsTrue (is_in roster partition r) → allowed roster names (past_of (alone_in roster partition history)) caller r (call_in roster partition history call) ≡ allowed roster names (past_of history) caller r call
    allowed_alike caller r call here =
        ap (λ past. allowed roster names past caller r (call_in roster partition history call)) (alone_is history)
        ∙ (ap (λ f. allowed roster names (part history) caller r (call_renumbered f call)) (number_is history)
        ∙ same_allowed roster names are partition (past_of history) legal r here caller call)

    -- and get the same replies
    pub answered_alike : (caller r : ℕ) (call : Call) → IsTrue (is_in roster partition r) → IsTrue (allowed roster names (past_of history) caller r call) → answer roster names (past_of (alone_in roster partition history)) r (call_in roster partition history call) ≡ reply_in roster partition history (answer roster names (past_of history) r call)
    answered_alike caller r call here may =
        ap (λ past. answer roster names past r (call_in roster partition history call)) (alone_is history)
        ∙ (ap (λ f. answer roster names (part history) r (call_renumbered f call)) (number_is history)
        ∙ (same_answer roster names are partition (past_of history) legal r here call (and_right _ _ may)
        ∙ sym (ap (λ f. reply_renumbered f (answer roster names (past_of history) r call)) (number_is history))))

  -- where a partition has the same alone of two histories, its requests may ask the same and get the same replies
  module _ (are : AreNames names) (one_history other_history : List Entry) (legal_one : IsLegal roster names one_history) (legal_other : IsLegal roster names other_history)
      (same : alone_in roster partition one_history ≡ alone_in roster partition other_history) (caller r : ℕ) (one_call other_call : Call) (here : IsTrue (is_in roster partition r))
      (same_call : call_in roster partition one_history one_call ≡ call_in roster partition other_history other_call) where
    pub allowed_with_either : allowed roster names (past_of one_history) caller r one_call ≡ allowed roster names (past_of other_history) caller r other_call
    allowed_with_either =
        sym (allowed_alike are one_history legal_one caller r one_call here)
        ∙ (ap (λ xs. allowed roster names (past_of xs) caller r (call_in roster partition one_history one_call)) same
        ∙ (ap (λ call. allowed roster names (past_of (alone_in roster partition other_history)) caller r call) same_call
        ∙ allowed_alike are other_history legal_other caller r other_call here))

    pub answered_with_either : IsTrue (allowed roster names (past_of one_history) caller r one_call) → reply_in roster partition one_history (answer roster names (past_of one_history) r one_call) ≡ reply_in roster partition other_history (answer roster names (past_of other_history) r other_call)
    answered_with_either may =
        sym (answered_alike are one_history legal_one caller r one_call here may)
        ∙ (ap (λ xs. answer roster names (past_of xs) r (call_in roster partition one_history one_call)) same
        ∙ (ap (answer roster names (past_of (alone_in roster partition other_history)) r) same_call
        ∙ answered_alike are other_history legal_other caller r other_call here (sym allowed_with_either ∙ may)))
