-- A part of a past: the entries that pass a test, with their prompts numbered anew.
use Rattle.std.proofs.Common.{◌≡◌, ℕ, ◌+◌, Bool, true, false, ◌||◌, cond, List, [], ◌∷◌, refl, ap, sym, ◌∙◌, Some, arith}
use Rattle.std.specs.Prelude.{All, IsTrue, find, option_map, count_by}
use Rattle.std.specs.List.{list_any}
use Rattle.std.proofs.lemmas.Bool.{false≢true}
use Rattle.std.proofs.lemmas.List.Elements.{All-head, All-tail}
use Rattle.std.proofs.lemmas.List.Sums.{sum_by-cons}
use Rattle.auth_events.specs.declared.journal.Call.{Call}
use Rattle.auth_events.specs.declared.journal.Call.TheVariants.{Answer, Lose, Take}
use Rattle.auth_events.specs.declared.journal.BookReply.{BookReply}
use Rattle.auth_events.specs.declared.journal.BookReply.TheVariants.{Follow, Lead, Renewed}
use Rattle.auth_events.specs.declared.journal.Entry.{Entry}
use Rattle.auth_events.specs.Past.{gift_given, evicted_by, is_removed, rejects, takes_away, gift_renewed, gift_used, is_ready, terms_in, is_lead, selects}
use Rattle.auth_events.specs.Book.{gift_told, notes, is_noted, is_url, is_default, begins, ends, terms_selected, space_selected}
use Rattle.isolation.specs.Partitions.{call_renumbered, reply_renumbered, renumbered}

abbrev pub kept : Bool → Entry → List Entry → List Entry
kept true entry past = entry ∷ past
kept false entry past = past

abbrev pub shrink : (ℕ → ℕ) → (Entry → Bool) → List Entry → List Entry
shrink f keep [] = []
shrink f keep (entry ∷ past) = kept (keep entry) (renumbered f entry) (shrink f keep past)

-- WHAT A NEW NUMBER OF A PROMPT LEAVES AS IT WAS

module _ (f : ℕ → ℕ) where
  pub given_moved : (reply : BookReply) → gift_given (reply_renumbered f reply) ≡ gift_given reply
  given_moved (Follow p) = refl
  given_moved (Lead p o) = refl
  given_moved reply = refl

  pub told_moved : (reply : BookReply) → gift_told (reply_renumbered f reply) ≡ gift_told reply
  told_moved (Follow p) = refl
  told_moved (Lead p o) = refl
  told_moved reply = refl

  pub evicted_moved : (reply : BookReply) → evicted_by (reply_renumbered f reply) ≡ evicted_by reply
  evicted_moved (Follow p) = refl
  evicted_moved (Lead p o) = refl
  evicted_moved reply = refl

  pub removed_moved : (reply : BookReply) → is_removed (reply_renumbered f reply) ≡ is_removed reply
  removed_moved (Follow p) = refl
  removed_moved (Lead p o) = refl
  removed_moved reply = refl

  pub ready_moved : (reply : BookReply) → is_ready (reply_renumbered f reply) ≡ is_ready reply
  ready_moved (Follow p) = refl
  ready_moved (Lead p o) = refl
  ready_moved reply = refl

  pub noted_moved : (reply : BookReply) → is_noted (reply_renumbered f reply) ≡ is_noted reply
  noted_moved (Follow p) = refl
  noted_moved (Lead p o) = refl
  noted_moved reply = refl

  pub url_moved : (reply : BookReply) → is_url (reply_renumbered f reply) ≡ is_url reply
  url_moved (Follow p) = refl
  url_moved (Lead p o) = refl
  url_moved reply = refl

  pub default_moved : (reply : BookReply) → is_default (reply_renumbered f reply) ≡ is_default reply
  default_moved (Follow p) = refl
  default_moved (Lead p o) = refl
  default_moved reply = refl

  pub lead_moved : (reply : BookReply) → is_lead (reply_renumbered f reply) ≡ is_lead reply
  lead_moved (Follow p) = refl
  lead_moved (Lead p o) = refl
  lead_moved reply = refl

  pub rejects_moved : (call : Call) (s : ℕ) → rejects (call_renumbered f call) s ≡ rejects call s
  rejects_moved (Answer p x t) s = refl
  rejects_moved (Lose p l) s = refl
  rejects_moved (Take p) s = refl
  rejects_moved call s = refl

  pub notes_moved : (call : Call) (s : ℕ) → notes (call_renumbered f call) s ≡ notes call s
  notes_moved (Answer p x t) s = refl
  notes_moved (Lose p l) s = refl
  notes_moved (Take p) s = refl
  notes_moved call s = refl

  pub selects_moved : (call : Call) (s : ℕ) → selects (call_renumbered f call) s ≡ selects call s
  selects_moved (Answer p x t) s = refl
  selects_moved (Lose p l) s = refl
  selects_moved (Take p) s = refl
  selects_moved call s = refl

  pub terms_moved : (call : Call) → terms_in (call_renumbered f call) ≡ terms_in call
  terms_moved (Answer p x t) = refl
  terms_moved (Lose p l) = refl
  terms_moved (Take p) = refl
  terms_moved call = refl

  pub renewed_moved : (call : Call) → gift_renewed (call_renumbered f call) ≡ gift_renewed call
  renewed_moved (Answer p x t) = refl
  renewed_moved (Lose p l) = refl
  renewed_moved (Take p) = refl
  renewed_moved call = refl

  pub begins_moved : (call : Call) → begins (call_renumbered f call) ≡ begins call
  begins_moved (Answer p x t) = refl
  begins_moved (Lose p l) = refl
  begins_moved (Take p) = refl
  begins_moved call = refl

  pub ends_moved : (call : Call) → ends (call_renumbered f call) ≡ ends call
  ends_moved (Answer p x t) = refl
  ends_moved (Lose p l) = refl
  ends_moved (Take p) = refl
  ends_moved call = refl

  pub terms_selected_moved : (call : Call) → terms_selected (call_renumbered f call) ≡ terms_selected call
  terms_selected_moved (Answer p x t) = refl
  terms_selected_moved (Lose p l) = refl
  terms_selected_moved (Take p) = refl
  terms_selected_moved call = refl

  pub space_selected_moved : (call : Call) → space_selected (call_renumbered f call) ≡ space_selected call
  space_selected_moved (Answer p x t) = refl
  space_selected_moved (Lose p l) = refl
  space_selected_moved (Take p) = refl
  space_selected_moved call = refl

  pub used_moved : (call : Call) (reply : BookReply) → gift_used (call_renumbered f call) (reply_renumbered f reply) ≡ gift_used call reply
  used_moved call (Follow p) = refl
  used_moved call (Lead p o) = refl
  used_moved call Renewed = renewed_moved call
  used_moved call reply = refl

  pub taken_moved : (entry : Entry) (s : ℕ) → takes_away (renumbered f entry) s ≡ takes_away entry s
  taken_moved entry s =
      let a = rejects_moved entry.call s in
      let b = removed_moved entry.reply in
      let c = evicted_moved entry.reply in
      cc

-- TESTS ON THE PART

module _ (f : ℕ → ℕ) (keep : Entry → Bool) where
  -- the test passes nothing that is left out, and its fellow agrees on what is kept
  pub record Agrees (q q' : Entry → Bool) (entry : Entry) : Type 0 where
    pub out : keep entry ≡ false → q entry ≡ false
    pub within : IsTrue (keep entry) → q' (renumbered f entry) ≡ q entry

  pub any_shrunk : (q q' : Entry → Bool) (past : List Entry) → All (Agrees q q') past → list_any q' (shrink f keep past) ≡ list_any q past
  any_shrunk q q' [] all = refl
  any_shrunk q q' (entry ∷ past) all = at (keep entry) refl (any_shrunk q q' past (All-tail (Agrees q q') entry past all))
    where
      at : (b : Bool) → keep entry ≡ b → list_any q' (shrink f keep past) ≡ list_any q past → list_any q' (kept b (renumbered f entry) (shrink f keep past)) ≡ list_any q (entry ∷ past)
      at true is before =
          ap (λ b. b || list_any q' (shrink f keep past)) ((All-head (Agrees q q') entry past all).within is) ∙ ap (λ b. q entry || b) before
      at false is before = before ∙ sym (ap (λ b. b || list_any q past) ((All-head (Agrees q q') entry past all).out is))

  pub count_shrunk : (q q' : Entry → Bool) (past : List Entry) → All (Agrees q q') past → count_by q' (shrink f keep past) ≡ count_by q past
  count_shrunk q q' [] all = refl
  count_shrunk q q' (entry ∷ past) all = at (keep entry) refl (count_shrunk q q' past (All-tail (Agrees q q') entry past all))
    where
      at : (b : Bool) → keep entry ≡ b → count_by q' (shrink f keep past) ≡ count_by q past → count_by q' (kept b (renumbered f entry) (shrink f keep past)) ≡ count_by q (entry ∷ past)
      at true is before =
          sum_by-cons (λ e. cond (q' e) 1 0) (renumbered f entry) (shrink f keep past)
          ∙ (ap (λ b. cond b 1 0 + count_by q' (shrink f keep past)) ((All-head (Agrees q q') entry past all).within is)
          ∙ (ap (λ n. cond (q entry) 1 0 + n) before ∙ sym (sum_by-cons (λ e. cond (q e) 1 0) entry past)))
      at false is before =
          let one = sum_by-cons (λ e. cond (q e) 1 0) entry past in
          let none : ◌≡◌ {A = ℕ} (cond (q entry) 1 0) 0 = ap (λ b. cond b 1 0) ((All-head (Agrees q q') entry past all).out is) in
          omega (arith, before, one, none)

  pub find_shrunk : (q q' : Entry → Bool) (past : List Entry) → All (Agrees q q') past → find q' (shrink f keep past) ≡ option_map (renumbered f) (find q past)
  find_shrunk q q' [] all = refl
  find_shrunk q q' (entry ∷ past) all = at (keep entry) refl (q entry) refl (find_shrunk q q' past (All-tail (Agrees q q') entry past all))
    where
      at : (b : Bool) → keep entry ≡ b → (c : Bool) → q entry ≡ c → find q' (shrink f keep past) ≡ option_map (renumbered f) (find q past) → find q' (kept b (renumbered f entry) (shrink f keep past)) ≡ option_map (renumbered f) (cond c (Some entry) (find q past))
      at true is true found before =
          ap (λ b. cond b (Some (renumbered f entry)) (find q' (shrink f keep past))) ((All-head (Agrees q q') entry past all).within is ∙ found)
      at true is false found before =
          ap (λ b. cond b (Some (renumbered f entry)) (find q' (shrink f keep past))) ((All-head (Agrees q q') entry past all).within is ∙ found) ∙ before
      at false is true found before = absurd (false≢true (sym ((All-head (Agrees q q') entry past all).out is) ∙ found))
      at false is false found before = before
