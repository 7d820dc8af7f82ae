-- What a partition has alone of a fresh history is fresh.
use Rattle.std.proofs.Common.{◌≡◌, ℕ, Bool, true, false, ◌||◌, List, [], ◌∷◌, refl, ap, sym, ◌∙◌, None}
use Rattle.std.specs.Prelude.{All, IsTrue, ◌==◌}
use Rattle.std.specs.List.{cons_option}
use Rattle.std.proofs.lemmas.List.Elements.{All-head, All-tail}
use Rattle.auth_events.specs.declared.journal.Call.{Call}
use Rattle.auth_events.specs.declared.journal.Call.TheVariants.{Answer, Lose, Take, Draw}
use Rattle.auth_events.specs.declared.journal.BookReply.{BookReply}
use Rattle.auth_events.specs.declared.journal.BookReply.TheVariants.{Follow, Lead}
use Rattle.auth_events.specs.declared.journal.Entry.{Entry}
use Rattle.auth_events.specs.Tables.{Tables}
use Rattle.auth_events.specs.Past.{terms_in}
use Rattle.auth_events.specs.Fresh.{draw_in, draws_of, terms_ready, is_right_draw, has_nonce, knows}
use Rattle.isolation.specs.Partitions.{call_renumbered, reply_renumbered, renumbered}
use Rattle.isolation.proofs.Parts.{kept, shrink, terms_moved}
use Rattle.isolation.proofs.Prompts.{own_shrunk, any_entry}

pub draw_moved : (f : ℕ → ℕ) (call : Call) (reply : BookReply) (n : ℕ) → draw_in (call_renumbered f call) (reply_renumbered f reply) n ≡ draw_in call reply n
draw_moved f (Draw nonce) (Follow p) n = refl
draw_moved f (Draw nonce) (Lead p o) n = refl
draw_moved f (Draw nonce) reply n = refl
draw_moved f (Answer p x t) reply n = refl
draw_moved f (Lose p l) reply n = refl
draw_moved f (Take p) reply n = refl
draw_moved f call reply n = refl

ready_terms_moved : (f : ℕ → ℕ) (reply : BookReply) → terms_ready (reply_renumbered f reply) ≡ terms_ready reply
ready_terms_moved f (Follow p) = refl
ready_terms_moved f (Lead p o) = refl
ready_terms_moved f reply = refl

pub right_moved : (names : Tables) (f : ℕ → ℕ) (call : Call) (reply : BookReply) → is_right_draw names (call_renumbered f call) (reply_renumbered f reply) ≡ is_right_draw names call reply
right_moved names f (Draw nonce) (Follow p) = refl
right_moved names f (Draw nonce) (Lead p o) = refl
right_moved names f (Draw nonce) reply = refl
right_moved names f (Answer p x t) reply = refl
right_moved names f (Lose p l) reply = refl
right_moved names f (Take p) reply = refl
right_moved names f call reply = refl

module _ (f : ℕ → ℕ) (keep : Entry → Bool) (n : ℕ) where
  -- every draw of the nonce is kept
  abbrev pub IsDrawKept : Entry → Type 0
  IsDrawKept entry = keep entry ≡ false → draw_in entry.call entry.reply n ≡ None

  -- no draw of the nonce is
  abbrev pub IsDrawLost : Entry → Type 0
  IsDrawLost entry = IsTrue (keep entry) → draw_in entry.call entry.reply n ≡ None

  pub draws_kept : (past : List Entry) → All IsDrawKept past → draws_of (shrink f keep past) n ≡ draws_of past n
  draws_kept [] all = refl
  draws_kept (entry ∷ past) all = at (keep entry) refl (draws_kept past (All-tail IsDrawKept entry past all))
    where
      at : (b : Bool) → keep entry ≡ b → draws_of (shrink f keep past) n ≡ draws_of past n → draws_of (kept b (renumbered f entry) (shrink f keep past)) n ≡ draws_of (entry ∷ past) n
      at true is before = ap (λ o. cons_option o (draws_of (shrink f keep past) n)) (draw_moved f entry.call entry.reply n) ∙ ap (cons_option (draw_in entry.call entry.reply n)) before
      at false is before = before ∙ sym (ap (λ o. cons_option o (draws_of past n)) (All-head IsDrawKept entry past all is))

  pub draws_lost : (past : List Entry) → All IsDrawLost past → draws_of (shrink f keep past) n ≡ []
  draws_lost [] all = refl
  draws_lost (entry ∷ past) all = at (keep entry) refl (draws_lost past (All-tail IsDrawLost entry past all))
    where
      at : (b : Bool) → keep entry ≡ b → draws_of (shrink f keep past) n ≡ [] → draws_of (kept b (renumbered f entry) (shrink f keep past)) n ≡ []
      at true is before = ap (λ o. cons_option o (draws_of (shrink f keep past) n)) (draw_moved f entry.call entry.reply n ∙ All-head IsDrawLost entry past all is) ∙ before
      at false is before = before

  -- a request of one's own knows the nonce by the same entries
  pub knows_same : (names : Tables) (r : ℕ) → ((entry : Entry) → IsTrue (entry.request == r) → IsTrue (keep entry)) → (past : List Entry) → knows names (shrink f keep past) r n ≡ knows names past r n
  knows_same names r here past =
      own_shrunk f keep r here (λ (e : Entry). Unit {0})
      (λ e. has_nonce names (terms_in e.call) n || has_nonce names (terms_ready e.reply) n) (λ e. has_nonce names (terms_in e.call) n || has_nonce names (terms_ready e.reply) n)
      (λ entry u is. ap (λ t. has_nonce names t n || has_nonce names (terms_ready (reply_renumbered f entry.reply)) n) (terms_moved f entry.call) ∙ ap (λ t. has_nonce names (terms_in entry.call) n || has_nonce names t n) (ready_terms_moved f entry.reply))
      past (any_entry past)
