-- The law on fresh histories.
use Rattle.std.proofs.Common.{◌≡◌, ℕ, Bool, true, false, not, ◌&&◌, cond, List, [], ◌∷◌, length, refl, ap, sym, subst, ◌∙◌}
use Rattle.std.specs.Prelude.{All, IsTrue, filter, map, reverse}
use Rattle.std.specs.List.{list_all, range_with_len}
use Rattle.std.proofs.lemmas.List.Sums.{AllPass-from_list_all}
use Rattle.spaces.specs.declared.roster.Roster.{Roster}
use Rattle.auth_events.specs.declared.journal.Entry.{Entry}
use Rattle.auth_events.specs.Tables.{Tables, AreNames}
use Rattle.auth_events.specs.Book.{IsLegal, IsLegalPast, draws, without_draws}
use Rattle.auth_events.specs.Fresh.{draws_of, is_right_draw, counts_once, epochs_rise, draws_fit, fresh_nonce, fresh}
use Rattle.auth_events.proofs.Legal.{All-reverse}
use Rattle.auth_events.proofs.Numbers.{and_left, and_right, both}
use Rattle.isolation.specs.Partitions.{entries_in, prompt_in, alone_in, renumbered}
use Rattle.isolation.proofs.Parts.{shrink}
use Rattle.isolation.proofs.Home.{keep, opposite, opposite'}
use Rattle.isolation.proofs.Freshness.{IsDrawKept, IsDrawLost, draws_kept, draws_lost, right_moved}
use Rattle.isolation.proofs.Fresh.{ours}
use Rattle.isolation.proofs.Drawn.{sides, own_fit, lost_fit}
use Rattle.isolation.proofs.Lists.{map_reverse, filter_reverse}
use Rattle.isolation.proofs.Law.{shrink_is}

all_more : (p q : ℕ → Bool) → ((n : ℕ) → IsTrue (p n) → IsTrue (q n)) → (xs : List ℕ) → IsTrue (list_all p xs) → IsTrue (list_all q xs)
all_more p q more [] all = refl
all_more p q more (x ∷ xs) all = both (q x) (list_all q xs) (more x (and_left (p x) (list_all p xs) all)) (all_more p q more xs (and_right (p x) (list_all p xs) all))

module _ (roster : Roster) (names : Tables) (are : AreNames names) (partition : List ℕ) where
  abbrev own : Entry → Bool
  own = keep roster names partition

  right_part : (f : ℕ → ℕ) (xs : List Entry) → IsTrue (list_all (λ e. is_right_draw names e.call e.reply) xs) → IsTrue (list_all (λ e. is_right_draw names e.call e.reply) (map (renumbered f) (filter own xs)))
  right_part f [] all = refl
  right_part f (x ∷ xs) all =
      at (own x) (right_part f xs (and_right (is_right_draw names x.call x.reply) (list_all (λ e. is_right_draw names e.call e.reply) xs) all))
    where
      at : (b : Bool) → IsTrue (list_all (λ e. is_right_draw names e.call e.reply) (map (renumbered f) (filter own xs))) → IsTrue (list_all (λ e. is_right_draw names e.call e.reply) (map (renumbered f) (cond b (x ∷ filter own xs) (filter own xs))))
      at false rest = rest
      at true rest =
          both (is_right_draw names (renumbered f x).call (renumbered f x).reply) (list_all (λ e. is_right_draw names e.call e.reply) (map (renumbered f) (filter own xs)))
          (right_moved names f x.call x.reply ∙ and_left (is_right_draw names x.call x.reply) (list_all (λ e. is_right_draw names e.call e.reply) xs) all) rest

  fresh_part : (f : ℕ → ℕ) (whole : List Entry) → IsLegalPast roster names (without_draws whole) → All (λ e. IsTrue (is_right_draw names e.call e.reply)) whole → (n : ℕ) → IsTrue (fresh_nonce names whole n) → IsTrue (fresh_nonce names (shrink f own whole) n)
  fresh_part f whole legal right n is_fresh = at (ours roster names are partition n) refl
    where
      first : IsTrue (counts_once names (draws_of whole n) && epochs_rise names (draws_of whole n))
      first = and_left (counts_once names (draws_of whole n) && epochs_rise names (draws_of whole n)) (draws_fit names whole whole n) is_fresh

      fit : IsTrue (draws_fit names whole whole n)
      fit = and_right (counts_once names (draws_of whole n) && epochs_rise names (draws_of whole n)) (draws_fit names whole whole n) is_fresh

      at : (b : Bool) → ours roster names are partition n ≡ b → IsTrue (fresh_nonce names (shrink f own whole) n)
      at true is =
          let all = sides roster names are partition f n (IsDrawKept f own n) whole (λ entry none out. none (opposite (own entry) (ours roster names are partition n) out is)) whole legal right fit in
          both (counts_once names (draws_of (shrink f own whole) n) && epochs_rise names (draws_of (shrink f own whole) n)) (draws_fit names (shrink f own whole) (shrink f own whole) n)
          (subst (λ made. IsTrue (counts_once names made && epochs_rise names made)) (sym (draws_kept f own n whole all)) first)
          (own_fit roster names are partition f n is whole legal whole legal fit)
      at false is =
          let all = sides roster names are partition f n (IsDrawLost f own n) whole (λ entry none here. none (opposite' (own entry) (ours roster names are partition n) here is)) whole legal right fit in
          both (counts_once names (draws_of (shrink f own whole) n) && epochs_rise names (draws_of (shrink f own whole) n)) (draws_fit names (shrink f own whole) (shrink f own whole) n)
          (subst (λ made. IsTrue (counts_once names made && epochs_rise names made)) (sym (draws_lost f own n whole all)) refl)
          (lost_fit roster names are partition f n (shrink f own whole) whole all)

  reverse_alone : (history : List Entry) → shrink (prompt_in roster partition history) own (reverse history) ≡ reverse (alone_in roster partition history)
  reverse_alone history =
      sym (shrink_is (prompt_in roster partition history) own (reverse history))
      ∙ (ap (map (renumbered (prompt_in roster partition history))) (filter_reverse own history)
      ∙ map_reverse (renumbered (prompt_in roster partition history)) (entries_in roster partition history))

  -- what a partition has alone of a fresh history is fresh
  pub alone_fresh : (history : List Entry) → IsLegal roster names history → IsTrue (fresh names history) → IsTrue (fresh names (alone_in roster partition history))
  alone_fresh history legal is_fresh =
      let right = and_left (list_all (λ e. is_right_draw names e.call e.reply) history) (list_all (fresh_nonce names (reverse history)) (range_with_len 1 (length names.nonces))) is_fresh in
      let nonces = and_right (list_all (λ e. is_right_draw names e.call e.reply) history) (list_all (fresh_nonce names (reverse history)) (range_with_len 1 (length names.nonces))) is_fresh in
      both (list_all (λ e. is_right_draw names e.call e.reply) (alone_in roster partition history)) (list_all (fresh_nonce names (reverse (alone_in roster partition history))) (range_with_len 1 (length names.nonces)))
      (right_part (prompt_in roster partition history) history right)
      (all_more (fresh_nonce names (reverse history)) (fresh_nonce names (reverse (alone_in roster partition history)))
      (λ n is. subst (λ past. IsTrue (fresh_nonce names past n)) (reverse_alone history)
      (fresh_part (prompt_in roster partition history) (reverse history) (subst (IsLegalPast roster names) (sym (filter_reverse (λ e. not (draws e.call)) history)) legal) (All-reverse (λ e. IsTrue (is_right_draw names e.call e.reply)) history (AllPass-from_list_all (λ e. is_right_draw names e.call e.reply) history right)) n is))
      (range_with_len 1 (length names.nonces)) nonces)
