-- The draws of a part.
use Rattle.std.proofs.Common.{◌≡◌, ℕ, Bool, true, false, not, ◌&&◌, cond, List, [], ◌∷◌, refl, ap, sym, subst, ◌∙◌, Option, Some, None}
use Rattle.std.specs.Prelude.{All, IsTrue, nat_le}
use Rattle.std.proofs.lemmas.List.Elements.{All-nil, All-cons, All-head, All-tail}
use Rattle.spaces.specs.declared.roster.Roster.{Roster}
use Rattle.auth_events.specs.declared.journal.Entry.{Entry}
use Rattle.auth_events.specs.Tables.{Tables, AreNames}
use Rattle.auth_events.specs.Book.{IsLegalPast, draws, without_draws, epoch}
use Rattle.auth_events.specs.Fresh.{DrawMade, draw_in, is_right_draw, knows, draws_fit}
use Rattle.auth_events.proofs.Numbers.{and_left, and_right, both}
use Rattle.auth_events.proofs.Same.{number_same}
use Rattle.isolation.specs.Partitions.{is_in, renumbered}
use Rattle.isolation.proofs.Parts.{kept, shrink}
use Rattle.isolation.proofs.Rivals.{IsApart}
use Rattle.isolation.proofs.Epochs.{epoch_shrunk}
use Rattle.isolation.proofs.Home.{keep, mine, is_apart}
use Rattle.isolation.proofs.Nonces.{none_other}
use Rattle.isolation.proofs.Freshness.{IsDrawLost, knows_same, draw_moved}
use Rattle.isolation.proofs.Fresh.{ours, knows_side}
use Rattle.isolation.proofs.Law.{draws_moved}

-- what is asked of one draw
abbrev draw_fits : Tables → List Entry → List Entry → ℕ → ℕ → Option DrawMade → Bool
draw_fits names whole past r n None = true
draw_fits names whole past r n (Some draw) = nat_le (epoch names (without_draws past) n) draw.epoch && nat_le draw.epoch (epoch names (without_draws whole) n) && knows names past r n

fits_is : (names : Tables) (whole past : List Entry) (entry : Entry) (n : ℕ) (o : Option DrawMade) → draw_in entry.call entry.reply n ≡ o → draws_fit names whole (entry ∷ past) n ≡ (draws_fit names whole past n && draw_fits names whole past entry.request n o)
fits_is names whole past entry n None is = cc
fits_is names whole past entry n (Some draw) is = cc

module _ (roster : Roster) (names : Tables) (are : AreNames names) (partition : List ℕ) (f : ℕ → ℕ) where
  abbrev pub own : Entry → Bool
  own = keep roster names partition

  abbrev pub IsRight : Entry → Type 0
  IsRight entry = IsTrue (is_right_draw names entry.call entry.reply)

  older_legal : (entry : Entry) (past : List Entry) → IsLegalPast roster names (without_draws (entry ∷ past)) → IsLegalPast roster names (without_draws past)
  older_legal entry past legal = at (draws entry.call) legal
    where
      at : (b : Bool) → IsLegalPast roster names (cond (not b) (entry ∷ without_draws past) (without_draws past)) → IsLegalPast roster names (without_draws past)
      at true legal' = legal'
      at false legal' = legal'.0

  -- the part without draws is the part of what has no draws
  drawless_shrunk : (past : List Entry) → without_draws (shrink f own past) ≡ shrink f own (without_draws past)
  drawless_shrunk [] = refl
  drawless_shrunk (entry ∷ past) = at (own entry) refl (draws entry.call) refl (drawless_shrunk past)
    where
      at : (b : Bool) → own entry ≡ b → (d : Bool) → draws entry.call ≡ d → without_draws (shrink f own past) ≡ shrink f own (without_draws past) → without_draws (kept b (renumbered f entry) (shrink f own past)) ≡ shrink f own (cond (not d) (entry ∷ without_draws past) (without_draws past))
      at false out true draw before = before
      at false out false draw before = before ∙ sym (ap (λ b. kept b (renumbered f entry) (shrink f own (without_draws past))) out)
      at true is true draw before = ap (λ d. cond (not d) (renumbered f entry ∷ without_draws (shrink f own past)) (without_draws (shrink f own past))) (draws_moved f entry.call ∙ draw) ∙ before
      at true is false draw before =
          ap (λ d. cond (not d) (renumbered f entry ∷ without_draws (shrink f own past)) (without_draws (shrink f own past))) (draws_moved f entry.call ∙ draw)
          ∙ (ap (λ ys. renumbered f entry ∷ ys) before ∙ sym (ap (λ b. kept b (renumbered f entry) (shrink f own (without_draws past))) is))

  all_spaces : (past : List Entry) → IsLegalPast roster names past → All (IsApart own (mine roster names partition)) past
  all_spaces [] legal = All-nil (IsApart own (mine roster names partition))
  all_spaces (entry ∷ past) legal = All-cons (IsApart own (mine roster names partition)) entry past (is_apart roster names partition entry past legal.0 legal.1) (all_spaces past legal.0)

  module _ (n : ℕ) where
    epoch_same : IsTrue (ours roster names are partition n) → (past : List Entry) → IsLegalPast roster names (without_draws past) → epoch names (without_draws (shrink f own past)) n ≡ epoch names (without_draws past) n
    epoch_same is past legal =
        ap (λ xs. epoch names xs n) (drawless_shrunk past)
        ∙ epoch_shrunk names f own (mine roster names partition) (without_draws past) (all_spaces (without_draws past) legal) n (none_other roster names are partition f own n is (without_draws past) legal)

    -- each draw is of a request of the nonce's partition
    draw_side : (whole past : List Entry) (entry : Entry) → IsLegalPast roster names (without_draws past) → All IsRight past → IsTrue (draws_fit names whole (entry ∷ past) n) → (o : Option DrawMade) → draw_in entry.call entry.reply n ≡ o → (own entry ≡ ours roster names are partition n → ⊥) → o ≡ None
    draw_side whole past entry legal right fit None is unlike = refl
    draw_side whole past entry legal right fit (Some draw) is unlike =
        let this = and_right (draws_fit names whole past n) (draw_fits names whole past entry.request n (Some draw)) (subst IsTrue (fits_is names whole past entry n (Some draw) is) fit) in
        absurd (unlike (knows_side roster names are partition past legal right entry.request n
        (and_right (nat_le (epoch names (without_draws past) n) draw.epoch && nat_le draw.epoch (epoch names (without_draws whole) n)) (knows names past entry.request n) this)))

    older_fit : (whole past : List Entry) (entry : Entry) → IsTrue (draws_fit names whole (entry ∷ past) n) → IsTrue (draws_fit names whole past n)
    older_fit whole past entry fit = and_left (draws_fit names whole past n) (draw_fits names whole past entry.request n (draw_in entry.call entry.reply n)) (subst IsTrue (fits_is names whole past entry n (draw_in entry.call entry.reply n) refl) fit)

    pub sides : (P : Entry → Type 0) (whole : List Entry) → ((entry : Entry) → ((own entry ≡ ours roster names are partition n → ⊥) → draw_in entry.call entry.reply n ≡ None) → P entry) → (past : List Entry) → IsLegalPast roster names (without_draws past) → All IsRight past → IsTrue (draws_fit names whole past n) → All P past
    sides P whole make [] legal right fit = All-nil P
    sides P whole make (entry ∷ past) legal right fit =
        let older = older_legal entry past legal in
        let right' = All-tail IsRight entry past right in
        All-cons P entry past (make entry (λ unlike. draw_side whole past entry older right' fit (draw_in entry.call entry.reply n) refl unlike))
        (sides P whole make past older right' (older_fit whole past entry fit))

    -- draws fit the part

    pub own_fit : IsTrue (ours roster names are partition n) → (whole : List Entry) → IsLegalPast roster names (without_draws whole) → (past : List Entry) → IsLegalPast roster names (without_draws past) → IsTrue (draws_fit names whole past n) → IsTrue (draws_fit names (shrink f own whole) (shrink f own past) n)
    own_fit is whole whole_legal [] legal fit = refl
    own_fit is whole whole_legal (entry ∷ past) legal fit = at (own entry) refl (own_fit is whole whole_legal past (older_legal entry past legal) (older_fit whole past entry fit))
      where
        older : IsLegalPast roster names (without_draws past)
        older = older_legal entry past legal

        this : IsTrue (own entry) → (o : Option DrawMade) → IsTrue (draw_fits names whole past entry.request n o) → IsTrue (draw_fits names (shrink f own whole) (shrink f own past) entry.request n o)
        this here None fit' = refl
        this here (Some draw) fit' =
            let before = epoch_same is past older in
            let all = epoch_same is whole whole_legal in
            let known = knows_same f own n names entry.request (λ e same. ap (is_in roster partition) (number_same e.request entry.request same) ∙ here) past in
            subst IsTrue (sym (ap (λ a. nat_le a draw.epoch && nat_le draw.epoch (epoch names (without_draws (shrink f own whole)) n) && knows names (shrink f own past) entry.request n) before
            ∙ (ap (λ a. nat_le (epoch names (without_draws past) n) draw.epoch && nat_le draw.epoch a && knows names (shrink f own past) entry.request n) all
            ∙ ap (λ k. nat_le (epoch names (without_draws past) n) draw.epoch && nat_le draw.epoch (epoch names (without_draws whole) n) && k) known))) fit'

        at : (b : Bool) → own entry ≡ b → IsTrue (draws_fit names (shrink f own whole) (shrink f own past) n) → IsTrue (draws_fit names (shrink f own whole) (kept b (renumbered f entry) (shrink f own past)) n)
        at false out before = before
        at true here before =
            subst IsTrue (sym (fits_is names (shrink f own whole) (shrink f own past) (renumbered f entry) n (draw_in entry.call entry.reply n) (draw_moved f entry.call entry.reply n)))
            (both (draws_fit names (shrink f own whole) (shrink f own past) n) (draw_fits names (shrink f own whole) (shrink f own past) entry.request n (draw_in entry.call entry.reply n)) before
            (this here (draw_in entry.call entry.reply n) (and_right (draws_fit names whole past n) (draw_fits names whole past entry.request n (draw_in entry.call entry.reply n)) (subst IsTrue (fits_is names whole past entry n (draw_in entry.call entry.reply n) refl) fit))))

    pub lost_fit : (whole past : List Entry) → All (IsDrawLost f own n) past → IsTrue (draws_fit names whole (shrink f own past) n)
    lost_fit whole [] all = refl
    lost_fit whole (entry ∷ past) all = at (own entry) refl (lost_fit whole past (All-tail (IsDrawLost f own n) entry past all))
      where
        at : (b : Bool) → own entry ≡ b → IsTrue (draws_fit names whole (shrink f own past) n) → IsTrue (draws_fit names whole (kept b (renumbered f entry) (shrink f own past)) n)
        at false out before = before
        at true here before =
            subst IsTrue (sym (fits_is names whole (shrink f own past) (renumbered f entry) n None (draw_moved f entry.call entry.reply n ∙ All-head (IsDrawLost f own n) entry past all here)))
            (both (draws_fit names whole (shrink f own past) n) true before refl)
