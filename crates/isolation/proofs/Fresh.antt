-- What a partition has alone of a fresh history is fresh.
use Rattle.std.proofs.Common.{◌≡◌, ℕ, Bool, true, false, not, ◌&&◌, ◌||◌, cond, List, [], ◌∷◌, refl, ap, sym, subst, ◌∙◌, Option, Some, None}
use Rattle.std.specs.Prelude.{All, IsTrue, ◌==◌}
use Rattle.std.specs.List.{list_any}
use Rattle.std.proofs.lemmas.Bool.{false≢true}
use Rattle.std.proofs.lemmas.List.Elements.{All-head, All-tail}
use Rattle.spaces.specs.declared.roster.Roster.{Roster}
use Rattle.spaces.specs.Sites.{numbered}
use Rattle.auth_events.specs.declared.journal.Gift.{Gift}
use Rattle.auth_events.specs.declared.journal.Call.{Call}
use Rattle.auth_events.specs.declared.journal.Call.TheVariants.{Preempt, Select, Renew, Answer, Draw}
use Rattle.auth_events.specs.declared.journal.BookReply.{BookReply}
use Rattle.auth_events.specs.declared.journal.BookReply.TheVariants.{Ready, Drawn}
use Rattle.auth_events.specs.declared.journal.Entry.{Entry}
use Rattle.auth_events.specs.Tables.{Tables, AreNames}
use Rattle.auth_events.specs.Pages.{fits}
use Rattle.auth_events.specs.Past.{terms_in, terms, current, is_ready}
use Rattle.auth_events.specs.Book.{IsLegalPast, IsStep, allowed_call, answer, begins, no_entry, is_open, draws, without_draws, own, nonce_of, has_terms, was_told, scheme_is, is_digest, preempt_answer, ready, space_by_path, space_of_prompt, gift_told}
use Rattle.auth_events.specs.Fresh.{terms_ready, is_right_draw, has_nonce, knows}
use Rattle.auth_events.proofs.Numbers.{and_left, and_right, is_not}
use Rattle.auth_events.proofs.Same.{number_same}
use Rattle.history_laws.proofs.Homes.{selected_site, leader_site, answered_led}
use Rattle.history_laws.proofs.Telling.{all_told, current_space}
use Rattle.isolation.specs.Partitions.{is_in}
use Rattle.isolation.proofs.Home.{mine, site_side, renewed_site, either, some_same}
use Rattle.isolation.proofs.Nonces.{select_fits, fits_some, answer_fits, terms_home, nonce_side, nonce_ours}

module _ (roster : Roster) (names : Tables) (are : AreNames names) (partition : List ℕ) where
  abbrev pub ours : ℕ → Bool
  ours n = nonce_ours roster names are partition (numbered names.nonces n)

  -- a request of known terms' space has the terms' nonce on its side
  by_terms : (r s t n : ℕ) → is_in roster partition r ≡ mine roster names partition s → ((t == 0) ≡ false → IsTrue (has_terms names s t)) → IsTrue (has_nonce names t n) → is_in roster partition r ≡ ours n
  by_terms r s t n side has knows_it =
      let some = is_not (t == 0) (and_left (not (t == 0)) (nonce_of names t == n) knows_it) in
      side ∙ (sym (nonce_side roster names are partition s t (has some)) ∙ ap ours (number_same (nonce_of names t) n (and_right (not (t == 0)) (nonce_of names t == n) knows_it)))

  module _ (entry : Entry) (past : List Entry) (legal : IsLegalPast roster names past) (step : IsStep roster names past entry) (n : ℕ) where
    by_call : (call : Call) → IsTrue (allowed_call roster names past entry.request call) → IsTrue (has_nonce names (terms_in call) n) → is_in roster partition entry.request ≡ ours n
    by_call (Select s t) may it = by_terms entry.request s t n (site_side roster names partition entry.request s (selected_site roster names past entry.request s t may)) (λ some. fits_some roster names s t some (select_fits roster names past entry.request s t may)) it
    by_call (Renew gift t) may it = by_terms entry.request gift.space t n (site_side roster names partition entry.request gift.space (renewed_site roster names past legal entry.request gift t may)) (λ some. and_right (was_told past entry.request gift && scheme_is names is_digest gift.space) (has_terms names gift.space t) may) it
    by_call (Answer p x t) may it = by_terms entry.request (space_of_prompt past p) t n (site_side roster names partition entry.request (space_of_prompt past p) (leader_site roster names past legal entry.request p (answered_led roster names past entry.request p x t may))) (λ some. fits_some roster names (space_of_prompt past p) t some (answer_fits roster names past legal entry.request p x t may)) it
    by_call call may it = absurd (false≢true it)

    by_ready : (call : Call) (reply : BookReply) → entry.reply ≡ reply → IsTrue (fits call reply) → reply ≡ answer roster names past entry.request call → IsTrue (has_nonce names (terms_ready reply) n) → is_in roster partition entry.request ≡ ours n
    by_ready (Preempt target) (Ready gift t e) here fit is it = of (space_by_path roster names past entry.request target) is
      where
        side : is_in roster partition entry.request ≡ mine roster names partition gift.space
        side = site_side roster names partition entry.request gift.space ((all_told roster names (entry ∷ past) (legal, step)).1 gift (ap gift_told here)).0

        found : (s : ℕ) (o : Option Gift) → current past s ≡ o → Ready gift t e ≡ ready names past s o → is_in roster partition entry.request ≡ ours n
        found s None none is' = absurd (false≢true (sym (ap is_ready is')))
        found s (Some held) holds is' =
            let same_gift : gift ≡ held = some_same gift held (ap gift_told is') in
            let same_space : gift.space ≡ s = ap (λ (g : Gift). g.space) same_gift ∙ current_space past s held holds in
            let same_terms : t ≡ terms past s = ap terms_ready is' in
            by_terms entry.request s (terms past s) n (side ∙ ap (mine roster names partition) same_space) (λ some. terms_home roster names past legal s some) (subst (λ k. IsTrue (has_nonce names k n)) same_terms it)

        of : (o : Option ℕ) → Ready gift t e ≡ preempt_answer names past o → is_in roster partition entry.request ≡ ours n
        of None is' = absurd (false≢true (sym (ap is_ready is')))
        of (Some s) is' = found s (current past s) refl is'
    by_ready call (Ready gift t e) here fit is it = absurd (false≢true fit)
    by_ready call reply here fit is it = absurd (false≢true it)

    pub step_side : IsTrue (has_nonce names (terms_in entry.call) n || has_nonce names (terms_ready entry.reply) n) → is_in roster partition entry.request ≡ ours n
    step_side it =
        either (has_nonce names (terms_in entry.call) n) (has_nonce names (terms_ready entry.reply) n)
        (by_call entry.call (and_right (cond (begins entry.call) (no_entry past entry.request) (is_open past entry.caller entry.request)) (allowed_call roster names past entry.request entry.call) step.0))
        (by_ready entry.call entry.reply refl step.2 step.1) it

  right_knows_none : (call : Call) (reply : BookReply) (n : ℕ) → IsTrue (draws call) → IsTrue (is_right_draw names call reply) → (has_nonce names (terms_in call) n || has_nonce names (terms_ready reply) n) ≡ false
  right_knows_none (Draw nonce) (Drawn count e) n draw right = refl
  right_knows_none (Draw nonce) reply n draw right = absurd (false≢true right)
  right_knows_none call reply n draw right = absurd (false≢true draw)

  abbrev IsRight : Entry → Type 0
  IsRight entry = IsTrue (is_right_draw names entry.call entry.reply)

  -- who knows a nonce is of its partition
  pub knows_side : (past : List Entry) → IsLegalPast roster names (without_draws past) → All IsRight past → (r n : ℕ) → IsTrue (knows names past r n) → is_in roster partition r ≡ ours n
  knows_side [] legal right r n it = absurd (false≢true it)
  knows_side (entry ∷ past) legal right r n it = split (draws entry.call) refl legal (λ older. knows_side past older (All-tail IsRight entry past right) r n)
    where
      of : (b : Bool) → (entry.request == r) ≡ b → (IsTrue (has_nonce names (terms_in entry.call) n || has_nonce names (terms_ready entry.reply) n) → is_in roster partition entry.request ≡ ours n) → IsTrue (list_any (λ e. has_nonce names (terms_in e.call) n || has_nonce names (terms_ready e.reply) n) (cond b (entry ∷ own past r) (own past r))) → (IsTrue (knows names past r n) → is_in roster partition r ≡ ours n) → is_in roster partition r ≡ ours n
      of true is here it' before =
          either (has_nonce names (terms_in entry.call) n || has_nonce names (terms_ready entry.reply) n) (knows names past r n)
          (λ this. ap (is_in roster partition) (sym (number_same entry.request r is)) ∙ here this) before it'
      of false is here it' before = before it'

      split : (d : Bool) → draws entry.call ≡ d → IsLegalPast roster names (cond (not d) (entry ∷ without_draws past) (without_draws past)) → (IsLegalPast roster names (without_draws past) → IsTrue (knows names past r n) → is_in roster partition r ≡ ours n) → is_in roster partition r ≡ ours n
      split true is legal' rest =
          of (entry.request == r) refl (λ this. absurd (false≢true (sym (right_knows_none entry.call entry.reply n is (All-head IsRight entry past right)) ∙ this))) it
          (rest legal')
      split false is legal' rest =
          of (entry.request == r) refl (step_side entry (without_draws past) legal'.0 legal'.1 n) it
          (rest legal'.0)
