-- A nonce that only one's own spaces have leaves them at the same entries in one's own part of the past.
use Rattle.std.proofs.Common.{◌≡◌, ℕ, ◌+◌, Bool, true, false, not, ◌&&◌, ◌||◌, cond, List, [], ◌∷◌, refl, ap, sym, ◌∙◌, arith}
use Rattle.std.specs.Prelude.{All, IsTrue, filter}
use Rattle.std.specs.List.{list_any}
use Rattle.std.proofs.Math.Bool.{and-not_self}
use Rattle.std.proofs.lemmas.List.Elements.{All-head, All-tail, filter_passes}
use Rattle.auth_events.specs.declared.journal.Entry.{Entry}
use Rattle.auth_events.specs.Tables.{Tables}
use Rattle.auth_events.specs.Past.{spaces_given}
use Rattle.auth_events.specs.Book.{holds_nonce, is_left, takes_out, epoch}
use Rattle.isolation.specs.Partitions.{renumbered}
use Rattle.isolation.proofs.Parts.{kept, shrink}
use Rattle.isolation.proofs.Rivals.{IsApart, live_shrunk, terms_shrunk, given_shrunk}

any_same : (mine p q : ℕ → Bool) → ((s : ℕ) → IsTrue (mine s) → p s ≡ q s) → (xs : List ℕ) → All (λ s. IsTrue (mine s)) xs → list_any p xs ≡ list_any q xs
any_same mine p q same [] all = refl
any_same mine p q same (x ∷ xs) all =
    ap (λ b. b || list_any p xs) (same x (All-head (λ s. IsTrue (mine s)) x xs all)) ∙ ap (λ b. q x || b) (any_same mine p q same xs (All-tail (λ s. IsTrue (mine s)) x xs all))

any_own : (mine p : ℕ → Bool) → ((s : ℕ) → mine s ≡ false → p s ≡ false) → (xs : List ℕ) → list_any p (filter mine xs) ≡ list_any p xs
any_own mine p none [] = refl
any_own mine p none (x ∷ xs) = at (mine x) refl (any_own mine p none xs)
  where
    at : (b : Bool) → mine x ≡ b → list_any p (filter mine xs) ≡ list_any p xs → list_any p (cond b (x ∷ filter mine xs) (filter mine xs)) ≡ (p x || list_any p xs)
    at true is before = ap (λ b. p x || b) before
    at false is before = before ∙ sym (ap (λ b. b || list_any p xs) (none x is))

any_none : (p : ℕ → Bool) (mine : ℕ → Bool) → ((s : ℕ) → IsTrue (mine s) → p s ≡ false) → (xs : List ℕ) → All (λ s. IsTrue (mine s)) xs → list_any p xs ≡ false
any_none p mine none [] all = refl
any_none p mine none (x ∷ xs) all =
    ap (λ b. b || list_any p xs) (none x (All-head (λ s. IsTrue (mine s)) x xs all)) ∙ any_none p mine none xs (All-tail (λ s. IsTrue (mine s)) x xs all)

left_false : (a b : Bool) → a ≡ false → (a && b) ≡ false
left_false a b is = ap (λ c. c && b) is

module _ (names : Tables) (f : ℕ → ℕ) (keep : Entry → Bool) (mine : ℕ → Bool) where
  pub holds_shrunk : (past : List Entry) → All (IsApart keep mine) past → (n s : ℕ) → IsTrue (mine s) → holds_nonce names (shrink f keep past) n s ≡ holds_nonce names past n s
  holds_shrunk past all n s own =
      let lives = live_shrunk f keep mine past all s own in
      let has = terms_shrunk f keep mine past all s own in
      cc

  -- before each entry no other space has the nonce
  abbrev pub NoOtherHas : ℕ → List Entry → Type 0
  NoOtherHas n [] = Unit {0}
  NoOtherHas n (entry ∷ past) = NoOtherHas n past × ((s : ℕ) → mine s ≡ false → holds_nonce names past n s ≡ false)

  module _ (entry : Entry) (past : List Entry) (all : All (IsApart keep mine) (entry ∷ past)) (n : ℕ) (none : (s : ℕ) → mine s ≡ false → holds_nonce names past n s ≡ false) where
    older : All (IsApart keep mine) past
    older = All-tail (IsApart keep mine) entry past all

    left_only : (s : ℕ) → mine s ≡ false → is_left names past (entry ∷ past) n s ≡ false
    left_only s foreign = left_false (holds_nonce names past n s) (not (holds_nonce names (entry ∷ past) n s)) (none s foreign)

    afterwards : (b : Bool) → keep entry ≡ b → (s : ℕ) → IsTrue (mine s) → holds_nonce names (kept b (renumbered f entry) (shrink f keep past)) n s ≡ holds_nonce names (entry ∷ past) n s
    afterwards b is s own = ap (λ c. holds_nonce names (kept c (renumbered f entry) (shrink f keep past)) n s) (sym is) ∙ holds_shrunk (entry ∷ past) all n s own

    taken_kept : IsTrue (keep entry) → takes_out names (renumbered f entry) (shrink f keep past) n ≡ takes_out names entry past n
    taken_kept is =
        ap (list_any (is_left names (shrink f keep past) (renumbered f entry ∷ shrink f keep past) n)) (given_shrunk f keep mine past older)
        ∙ (any_same mine (is_left names (shrink f keep past) (renumbered f entry ∷ shrink f keep past) n) (is_left names past (entry ∷ past) n)
        (λ s own. (let before = holds_shrunk past older n s own in let after = afterwards true is s own in cc))
        (filter mine (spaces_given past)) (filter_passes mine (spaces_given past))
        ∙ any_own mine (is_left names past (entry ∷ past) n) left_only (spaces_given past))

    taken_none : keep entry ≡ false → takes_out names entry past n ≡ false
    taken_none is =
        sym (any_own mine (is_left names past (entry ∷ past) n) left_only (spaces_given past))
        ∙ any_none (is_left names past (entry ∷ past) n) mine
        (λ s own. (let same : holds_nonce names (entry ∷ past) n s ≡ holds_nonce names past n s = sym (afterwards false is s own) ∙ holds_shrunk past older n s own in ap (λ b. holds_nonce names past n s && not b) same ∙ and-not_self (holds_nonce names past n s)))
        (filter mine (spaces_given past)) (filter_passes mine (spaces_given past))

  pub epoch_shrunk : (past : List Entry) → All (IsApart keep mine) past → (n : ℕ) → NoOtherHas n past → epoch names (shrink f keep past) n ≡ epoch names past n
  epoch_shrunk [] all n none = refl
  epoch_shrunk (entry ∷ past) all n none = at (keep entry) refl (epoch_shrunk past (All-tail (IsApart keep mine) entry past all) n none.0)
    where
      at : (b : Bool) → keep entry ≡ b → epoch names (shrink f keep past) n ≡ epoch names past n → epoch names (kept b (renumbered f entry) (shrink f keep past)) n ≡ epoch names (entry ∷ past) n
      at true is before =
          ap (λ b. cond b 1 0 + epoch names (shrink f keep past) n) (taken_kept entry past all n none.1 is) ∙ ap (λ k. cond (takes_out names entry past n) 1 0 + k) before
      at false is before =
          let same : ◌≡◌ {A = ℕ} (cond (takes_out names entry past n) 1 0) 0 = ap (λ b. cond b 1 0) (taken_none entry past all n none.1 is) in
          omega (arith, before, same)
