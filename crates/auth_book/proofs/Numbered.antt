-- Items by number, one of which is written.
use Rattle.std.proofs.Common.{◌≡◌, ℕ, zero, suc, ◌-◌, ◌<◌, ◌≤◌, true, false, cond, get_or, List, [], ◌∷◌, length, refl, ap, sym, ◌∙◌, arith, Option, Some, None}
use Rattle.std.specs.Prelude.{is_some, slice_get, slice_set, ◌==◌}
use Rattle.std.proofs.lemmas.Bool.Decides.{nat_tests}
use Rattle.std.proofs.lemmas.Bool.{false≢true}
use Rattle.std.proofs.lemmas.Option.{slice_get-get_or}
use Rattle.std.proofs.lemmas.List.{get_or-set_same, length-set}
use Rattle.spaces.specs.Sites.{numbered}
use Rattle.auth_events.proofs.Numbers.{numbered_in, numbered_suc}
use Rattle.auth_book.specs.Rooms.{set_number}

-- the place of a number
pub place_of : {T : Type 0} (items : List T) (n : ℕ) → 1 ≤ n → numbered items n ≡ slice_get items (n - 1)
place_of {T} items n from = ap (λ b. cond {A = Option T} b None (slice_get items (n - 1))) (positive n from)
  where
    positive : (m : ℕ) → 1 ≤ m → (m == 0) ≡ false
    positive m some = grind (arith, nat_tests)

pub written : {T : Type 0} (items : List T) (n : ℕ) (old new : T) → numbered items n ≡ Some old → numbered (set_number items n new) n ≡ Some new
written items n old new is =
    let from : (1 ≤ n) × (n ≤ length items) = numbered_in items n (ap is_some is) in
    let first = from.0 in
    let within : n - 1 < length items = omega (arith, from.0, from.1) in
    place_of (set_number items n new) n first
    ∙ (slice_get-get_or (slice_set items (n - 1) new) (n - 1) new (omega (arith, within, length-set items (n - 1) new))
    ∙ ap Some (get_or-set_same items (n - 1) new new within))

get_out : {T : Type 0} (items : List T) (k : ℕ) → length items ≤ k → slice_get items k ≡ None
get_out [] k out = refl
get_out (x ∷ items) zero out = absurd (omega arith)
get_out (x ∷ items) (suc k) out = get_out items k (omega arith)

slice_other : {T : Type 0} (items : List T) (k j : ℕ) (new : T) → (k ≡ j → ⊥) → slice_get (slice_set items j new) k ≡ slice_get items k
slice_other [] k j new apart = refl
slice_other (x ∷ items) zero zero new apart = absurd (apart refl)
slice_other (x ∷ items) zero (suc j) new apart = refl
slice_other (x ∷ items) (suc k) zero new apart = refl
slice_other (x ∷ items) (suc k) (suc j) new apart = slice_other items k j new (λ same. apart (ap suc same))

-- the others stay
pub others : {T : Type 0} (items : List T) (n m : ℕ) (new : T) → 1 ≤ n → (n == m) ≡ false → numbered (set_number items n new) m ≡ numbered items m
others items n zero new first other = refl
others items n (suc k) new first other =
    numbered_suc (set_number items n new) k
    ∙ (slice_other items k (n - 1) new (λ same. absurd (apart n k first other same)) ∙ sym (numbered_suc items k))
  where
    apart : (n k : ℕ) → 1 ≤ n → (n == suc k) ≡ false → k ≡ n - 1 → ⊥
    apart n k first other same =
        let is : n ≡ suc k = omega arith in
        false≢true (sym other ∙ (ap (λ m. m == suc k) is ∙ same_number (suc k)))
      where
        same_number : (a : ℕ) → (a == a) ≡ true
        same_number a = grind (arith, nat_tests)

-- the item that is read at the place of its number
pub there_at : {T : Type 0} (items : List T) (n : ℕ) (x : T) → 1 ≤ n → n ≤ length items → x ≡ get_or items (n - 1) x → numbered items n ≡ Some x
there_at items n x from within read =
    place_of items n from ∙ (slice_get-get_or items (n - 1) x (omega (arith, from, within)) ∙ ap Some (sym read))
