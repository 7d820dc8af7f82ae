-- The map that has the number of each partition's record.
use Rattle.std.proofs.Common.{◌≡◌, ℕ, ◌+◌, Bool, true, false, cond, List, [], ◌∷◌, ◌++◌, length, refl, ap, sym, subst, ◌∙◌, arith, Option, Some, None, Vec, BTreeMap}
use Rattle.std.specs.Prelude.{bytes_eq, is_some, unwrap_or}
use Rattle.std.specs.BTreeMap.{UpdatesBy}
use Rattle.std.specs.Cmp.{eq_by_cmp_equiv}
use Rattle.std.specs.Cmp.Lexicographic.{nat_list_cmp_total, nat_list_eq_equiv, slice_cmp}
use Rattle.std.specs.Map.{AreApart, IsKeyTest, KeepsOthers, lookup}
use Rattle.std.specs.Ordering.{is_eq, nat_cmp}
use Rattle.std.specs.declared.alloc.Global.{Global}
use Rattle.std.proofs.lemmas.Map.Text.{is_eq-slice_cmp}
use Rattle.spaces.specs.Sites.{numbered}
use Rattle.auth_events.specs.Tables.{number_of}
use Rattle.auth_events.proofs.Numbers.{IsFound, first_numbered, numbered_in}
use Rattle.auth_events.proofs.Same.{bytes_same}
use Rattle.auth_book.specs.declared.partitions.PartRow.{PartRow}
use Rattle.auth_book.specs.Rooms.{set_number}
use Rattle.auth_book.specs.Parts.{HasNumbers, number_at, part_number}
use Rattle.auth_book.proofs.Parts.{is_its, name_kept, number_passed, number_pushed}

abbrev Numbers : Type 0
Numbers = BTreeMap (Vec ℕ Global) ℕ

apart : (bs cs ks : List ℕ) → bytes_eq bs cs ≡ false → is_eq (slice_cmp nat_cmp bs ks) ≡ true → is_eq (slice_cmp nat_cmp cs ks) ≡ false
apart bs cs ks other same =
    is_eq-slice_cmp cs ks
    ∙ (nat_list_eq_equiv.symm cs ks ∙ sym (nat_list_eq_equiv.congr bs ks cs (sym (is_eq-slice_cmp bs ks) ∙ same)) ∙ other)

module _ {K : Type 0} (eq : K → K → Bool) (test : K → Bool) where
  other_entries : {X : Type 0} (old new : List (K × X)) → KeepsOthers eq test old new → (other : K → Bool) → IsKeyTest eq other → AreApart test other → lookup other new ≡ lookup other old
  unfolding KeepsOthers
  other_entries old new keeps = keeps

-- a number that is written for a name is there, and all others stay
number_written : (old new : Numbers) (name : List ℕ) (number : ℕ)
    → UpdatesBy (λ (a b : Vec ℕ Global). slice_cmp nat_cmp a.items b.items) (λ key. slice_cmp nat_cmp name key.items) old new (Some number)
    → (other : List ℕ) → number_at new other ≡ cond (bytes_eq name other) (Some number) (number_at old other)
number_written old new name number updates other = at (bytes_eq name other) refl
  where
    at : (b : Bool) → bytes_eq name other ≡ b → number_at new other ≡ cond b (Some number) (number_at old other)
    at true same = subst (λ n. number_at new n ≡ Some number) (bytes_same name other same) updates.1
    at false differs =
        other_entries _ _ _ _ updates.3 _ (λ x y. (eq_by_cmp_equiv nat_list_cmp_total).congr other x.items y.items)
        (λ key. apart name other key.items differs)

-- one record more
pub numbers_more : (old new : Numbers) (parts : List PartRow) (row : PartRow) (name : Vec ℕ Global)
    → UpdatesBy (λ (a b : Vec ℕ Global). slice_cmp nat_cmp a.items b.items) (λ key. slice_cmp nat_cmp name.items key.items) old new (Some (length parts + 1))
    → row.partition ≡ name.items → number_of (is_its name.items) parts ≡ None → HasNumbers old parts → HasNumbers new (parts ++ row ∷ [])
numbers_more old new parts row name updates is unknown has other =
    number_written old new name.items (length parts + 1) updates other ∙ at (bytes_eq name.items other) refl
  where
    its : (b : Bool) → bytes_eq name.items other ≡ b → is_its other row ≡ b
    its b same = ap (λ p. bytes_eq p other) is ∙ same

    at : (b : Bool) → bytes_eq name.items other ≡ b → cond b (Some (length parts + 1)) (number_at old other) ≡ number_of (is_its other) (parts ++ row ∷ [])
    at true same =
        sym (number_pushed (is_its other) parts row (subst (λ n. number_of (is_its n) parts ≡ None) (bytes_same name.items other same) unknown) (its true same))
    at false differs = has other ∙ sym (number_passed (is_its other) parts row (its false differs))

-- a record is written, and its partition stays
pub numbers_kept : (numbers : Numbers) (parts : List PartRow) (k : ℕ) (old new : PartRow) → numbered parts k ≡ Some old → new.partition ≡ old.partition
    → HasNumbers numbers parts → HasNumbers numbers (set_number parts k new)
numbers_kept numbers parts k old new there same has other = has other ∙ sym (name_kept parts k old new other there same)

-- what has no record has no number
pub no_number : (parts : List PartRow) (p : List ℕ) (n : ℕ) → n ≡ part_number parts p → n ≡ 0 → number_of (is_its p) parts ≡ None
no_number parts p n is none = at (number_of (is_its p) parts) refl
  where
    at : (o : Option ℕ) → number_of (is_its p) parts ≡ o → o ≡ None
    at None found = refl
    at (Some k) found =
        let first : IsFound (is_its p) parts k = first_numbered (is_its p) parts k found in
        let number = (numbered_in parts k (ap is_some first.is_there)).0 in
        absurd (omega (arith, number, sym is ∙ none, ap (λ o. unwrap_or o 0) found))
