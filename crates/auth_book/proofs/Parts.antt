-- The records of partitions: one of them is told something, or one more is made.
use Rattle.std.proofs.Common.{◌≡◌, Bor, ℕ, zero, suc, ◌+◌, ◌-◌, ◌≤◌, Bool, true, false, cond, List, [], ◌∷◌, ◌++◌, length, refl, ap, sym, subst, ◌∙◌, inl, inr, arith, Option, Some, None}
use Rattle.std.specs.Prelude.{IfSome, IsTrue, is_some, option_copied, option_map, unwrap_or, slice_get, slice_set, bytes_eq, ◌==◌}
use Rattle.std.specs.List.{position_from}
use Rattle.std.proofs.lemmas.Bool.Decides.{nat_tests}
use Rattle.std.proofs.lemmas.Bool.{false≢true}
use Rattle.std.proofs.lemmas.Option.{none-some}
use Rattle.spaces.specs.Sites.{numbered}
use Rattle.auth_events.specs.Tables.{number_of}
use Rattle.auth_events.proofs.Numbers.{IsFound, first_numbered, none_numbered, numbered_in, numbered-append, numbered-last, numbered-push}
use Rattle.auth_events.proofs.Same.{bytes_same, bytes_refl, number_same, number_refl}
use Rattle.auth_book.specs.declared.partitions.PartRow.{PartRow}
use Rattle.auth_book.specs.Rooms.{set_number}
use Rattle.auth_book.specs.Parts.{ArePartRows, new_part, part_number, part_of, with_part}
use Rattle.auth_book.specs.Steps.{parts_told, parts_with}
use Rattle.auth_book.proofs.Numbered.{others, place_of, written}

abbrev pub is_its : List ℕ → PartRow → Bool
is_its partition part = bytes_eq part.partition partition

-- THE RECORD OF A PARTITION

-- is of the partition
pub found_part : (parts : List PartRow) (q : List ℕ) (row : PartRow) → part_of parts q ≡ Some row → row.partition ≡ q
found_part parts q row there = at (number_of (is_its q) parts) refl there
  where
    at : (o : Option ℕ) → number_of (is_its q) parts ≡ o → numbered parts (unwrap_or o 0) ≡ Some row → row.partition ≡ q
    at None none is = absurd (none-some row is)
    at (Some n) found is =
        let first : IsFound (is_its q) parts n = first_numbered (is_its q) parts n found in
        let same : first.thing ≡ row = let both : Some first.thing ≡ Some row = sym first.is_there ∙ is in cc in
        bytes_same row.partition q (subst (λ part. is_its q part ≡ true) same first.passes)

-- is there where one is of it
pub has_part : (parts : List PartRow) (q : List ℕ) (row : PartRow) (n : ℕ) → numbered parts n ≡ Some row → row.partition ≡ q → IsTrue (is_some (part_of parts q))
has_part parts q row n there is = at (number_of (is_its q) parts) refl
  where
    at : (o : Option ℕ) → number_of (is_its q) parts ≡ o → IsTrue (is_some (numbered parts (unwrap_or o 0)))
    at None none = absurd (false≢true (sym (none_numbered (is_its q) parts none n row there) ∙ subst (λ p. bytes_eq row.partition p ≡ true) is (bytes_refl row.partition)))
    at (Some m) found = ap is_some (first_numbered (is_its q) parts m found).is_there

-- two partitions share a record where they are one
pub same_number : (parts : List PartRow) (p q : List ℕ) → IsTrue (is_some (part_of parts p)) → (part_number parts q == part_number parts p) ≡ bytes_eq p q
same_number parts p q some = at (bytes_eq p q) refl (part_number parts q == part_number parts p) refl
  where
    one : (o : Option PartRow) → part_of parts p ≡ o → IsTrue (is_some o) → part_number parts q ≡ part_number parts p → p ≡ q
    one None none some' is = absurd (false≢true some')
    one (Some row) there some' is = sym (found_part parts p row there) ∙ found_part parts q row (ap (numbered parts) is ∙ there)

    at : (b : Bool) → bytes_eq p q ≡ b → (c : Bool) → (part_number parts q == part_number parts p) ≡ c → (part_number parts q == part_number parts p) ≡ bytes_eq p q
    at true same c is = subst (λ r. (part_number parts r == part_number parts p) ≡ true) (bytes_same p q same) (number_refl (part_number parts p)) ∙ sym same
    at false other true is =
        absurd (false≢true (sym other ∙ subst (λ r. bytes_eq p r ≡ true) (one (part_of parts p) refl some (number_same (part_number parts q) (part_number parts p) is)) (bytes_refl p)))
    at false other false is = is ∙ sym other

-- A RECORD IS TOLD SOMETHING

position_kept : {A : Type 0} (t : A → Bool) (n : ℕ) (xs : List A) (j : ℕ) (x y : A) → slice_get xs j ≡ Some x → t y ≡ t x → position_from t n (slice_set xs j y) ≡ position_from t n xs
position_kept t n [] j x y there same = refl
position_kept t n (z ∷ xs) zero x y there same =
    let is : z ≡ x = cc in
    ap (λ b. cond b (Some n) (position_from t (n + 1) xs)) (same ∙ ap t (sym is))
position_kept t n (z ∷ xs) (suc j) x y there same =
    ap (λ o. cond (t z) (Some n) o) (position_kept t (n + 1) xs j x y there same)

pub name_kept : (parts : List PartRow) (k : ℕ) (old new : PartRow) (q : List ℕ) → numbered parts k ≡ Some old → new.partition ≡ old.partition → number_of (is_its q) (set_number parts k new) ≡ number_of (is_its q) parts
name_kept parts k old new q there same =
    ap (option_map suc)
    (position_kept (is_its q) 0 parts (k - 1) old new (sym (place_of parts k (numbered_in parts k (ap is_some there)).0) ∙ there) (ap (λ p. bytes_eq p q) same))

number_kept : (parts : List PartRow) (k : ℕ) (old new : PartRow) (q : List ℕ) → numbered parts k ≡ Some old → new.partition ≡ old.partition → part_number (set_number parts k new) q ≡ part_number parts q
number_kept parts k old new q there same = ap (λ o. unwrap_or o 0) (name_kept parts k old new q there same)

module _ (told : PartRow → PartRow) (same : (part : PartRow) → (told part).partition ≡ part.partition) where
  -- numbers stay
  pub told_number : (parts : List PartRow) (k : ℕ) (q : List ℕ) → part_number (parts_told parts k told) q ≡ part_number parts q
  told_number parts k q = at (numbered parts k) refl
    where
      at : (o : Option PartRow) → numbered parts k ≡ o → part_number (parts_with parts k told o) q ≡ part_number parts q
      at None none = refl
      at (Some old) there = number_kept parts k old (told old) q there (same old)

  -- and what is told to one record the others don't see
  pub told_part : (parts : List PartRow) (k : ℕ) (q : List ℕ) → part_of (parts_told parts k told) q ≡ cond (part_number parts q == k) (option_map told (part_of parts q)) (part_of parts q)
  told_part parts k q = ap (numbered (parts_told parts k told)) (told_number parts k q) ∙ at (numbered parts k) refl (part_number parts q == k) refl
    where
      n : ℕ
      n = part_number parts q

      flip : (a b : ℕ) → (a == b) ≡ false → (b == a) ≡ false
      flip a b other = grind (arith, nat_tests)

      at : (o : Option PartRow) → numbered parts k ≡ o → (b : Bool) → (part_number parts q == k) ≡ b → numbered (parts_with parts k told o) (part_number parts q) ≡ cond b (option_map told (numbered parts (part_number parts q))) (numbered parts (part_number parts q))
      at None none true is =
          let here : numbered parts (part_number parts q) ≡ None = ap (numbered parts) (number_same (part_number parts q) k is) ∙ none in
          here ∙ sym (ap (option_map told) here)
      at None none false is = refl
      at (Some old) there true is =
          let here = number_same (part_number parts q) k is in
          ap (numbered (set_number parts k (told old))) here
          ∙ (written parts k old (told old) there ∙ sym (ap (option_map told) (ap (numbered parts) here ∙ there)))
      at (Some old) there false other =
          others parts k (part_number parts q) (told old) (numbered_in parts k (ap is_some there)).0 (flip (part_number parts q) k other)

-- ONE RECORD MORE

pub position_more : {A : Type 0} (t : A → Bool) (k : ℕ) (xs : List A) (y : A) → is_some (position_from t k xs) ≡ true → position_from t k (xs ++ y ∷ []) ≡ position_from t k xs
position_more t k [] y some = absurd (false≢true some)
position_more t k (x ∷ xs) y some = at (t x) some (λ rest. position_more t (k + 1) xs y rest)
  where
    at : (b : Bool) → is_some (cond b (Some k) (position_from t (k + 1) xs)) ≡ true → (is_some (position_from t (k + 1) xs) ≡ true → position_from t (k + 1) (xs ++ y ∷ []) ≡ position_from t (k + 1) xs) → cond b (Some k) (position_from t (k + 1) (xs ++ y ∷ [])) ≡ cond b (Some k) (position_from t (k + 1) xs)
    at true there before = refl
    at false there before = before there

pub number_more : {A : Type 0} (t : A → Bool) (xs : List A) (y : A) → is_some (number_of t xs) ≡ true → number_of t (xs ++ y ∷ []) ≡ number_of t xs
number_more t xs y some = ap (option_map suc) (position_more t 0 xs y (at (position_from t 0 xs) some))
  where
    at : (o : Option ℕ) → is_some (option_map suc o) ≡ true → is_some o ≡ true
    at None is = is
    at (Some k) is = refl

position_pushed : {A : Type 0} (t : A → Bool) (k : ℕ) (xs : List A) (y : A) → position_from t k xs ≡ None → t y ≡ true → position_from t k (xs ++ y ∷ []) ≡ Some (k + length xs)
position_pushed t k [] y none passes = ap (λ b. cond {A = Option ℕ} b (Some k) None) passes ∙ ap Some (omega arith)
position_pushed t k (x ∷ xs) y none passes = at (t x) none (λ rest. position_pushed t (k + 1) xs y rest passes)
  where
    at : (b : Bool) → cond b (Some k) (position_from t (k + 1) xs) ≡ None → (position_from t (k + 1) xs ≡ None → position_from t (k + 1) (xs ++ y ∷ []) ≡ Some (k + 1 + length xs)) → cond b (Some k) (position_from t (k + 1) (xs ++ y ∷ [])) ≡ Some (k + suc (length xs))
    at true none' later = absurd cc
    at false none' later = later none' ∙ ap Some (omega arith)

position_passed : {A : Type 0} (t : A → Bool) (k : ℕ) (xs : List A) (y : A) → t y ≡ false → position_from t k (xs ++ y ∷ []) ≡ position_from t k xs
position_passed t k [] y fails = ap (λ b. cond {A = Option ℕ} b (Some k) None) fails
position_passed t k (x ∷ xs) y fails = ap (λ o. cond (t x) (Some k) o) (position_passed t (k + 1) xs y fails)

-- the first that passes comes last
pub number_pushed : {A : Type 0} (t : A → Bool) (xs : List A) (y : A) → number_of t xs ≡ None → t y ≡ true → number_of t (xs ++ y ∷ []) ≡ Some (length xs + 1)
number_pushed t xs y none passes = ap (option_map suc) (position_pushed t 0 xs y (at (position_from t 0 xs) none) passes) ∙ ap Some (omega arith)
  where
    at : (o : Option ℕ) → option_map suc o ≡ None → o ≡ None
    at None is = refl
    at (Some k) is = absurd cc

-- one that doesn't pass comes last
pub number_passed : {A : Type 0} (t : A → Bool) (xs : List A) (y : A) → t y ≡ false → number_of t (xs ++ y ∷ []) ≡ number_of t xs
number_passed t xs y fails = ap (option_map suc) (position_passed t 0 xs y fails)

some_number : (parts : List PartRow) (q : List ℕ) → IsTrue (is_some (part_of parts q)) → is_some (number_of (is_its q) parts) ≡ true
some_number parts q some = at (number_of (is_its q) parts) some
  where
    at : (o : Option ℕ) → IsTrue (is_some (numbered parts (unwrap_or o 0))) → is_some o ≡ true
    at None is = absurd (false≢true is)
    at (Some n) is = refl

pushed_number : (parts : List PartRow) (new : PartRow) (q : List ℕ) → IsTrue (is_some (part_of parts q)) → part_number (parts ++ new ∷ []) q ≡ part_number parts q
pushed_number parts new q some = ap (λ o. unwrap_or o 0) (number_more (is_its q) parts new (some_number parts q some))

-- what is read of a record stays, where the new one has nothing yet
pushed_reads : {X : Type 0} (read : Option PartRow → X) (parts : List PartRow) (new : PartRow) (q : List ℕ) → read (Some new) ≡ read None → read (part_of (parts ++ new ∷ []) q) ≡ read (part_of parts q)
pushed_reads read parts new q nothing = at (is_some (part_of parts q)) refl
  where
    none : (o : Option PartRow) → is_some o ≡ false → o ≡ None
    none None is = refl
    none (Some row) is = absurd (false≢true (sym is))

    of : is_some (part_of parts q) ≡ false → (o : Option PartRow) → part_of (parts ++ new ∷ []) q ≡ o → read o ≡ read None
    of unknown None is = refl
    of unknown (Some row) is =
        elim (numbered-push parts new row (part_number (parts ++ new ∷ []) q) is) [
          | inl there ↦ absurd (false≢true (sym unknown ∙ has_part parts q row (part_number (parts ++ new ∷ []) q) there (found_part (parts ++ new ∷ []) q row is)))
          | inr last ↦ ap (λ r. read (Some r)) (sym last.1) ∙ nothing
        ]

    at : (b : Bool) → is_some (part_of parts q) ≡ b → read (part_of (parts ++ new ∷ []) q) ≡ read (part_of parts q)
    at true some = ap read (ap (numbered (parts ++ new ∷ [])) (pushed_number parts new q some) ∙ numbered-append parts (new ∷ []) (part_number parts q) some)
    at false unknown = of unknown (part_of (parts ++ new ∷ []) q) refl ∙ sym (ap read (none (part_of parts q) unknown))

module _ (parts : List PartRow) (p : List ℕ) where
  pub prepared_reads : {X : Type 0} (read : Option PartRow → X) (q : List ℕ) → read (Some (new_part p)) ≡ read None → read (part_of (with_part parts p) q) ≡ read (part_of parts q)
  prepared_reads read q nothing = at (is_some (part_of parts p))
    where
      at : (b : Bool) → read (part_of (cond b parts (parts ++ new_part p ∷ [])) q) ≡ read (part_of parts q)
      at true = refl
      at false = pushed_reads read parts (new_part p) q nothing

  pub prepared_number : (q : List ℕ) → IsTrue (is_some (part_of parts q)) → part_number (with_part parts p) q ≡ part_number parts q
  prepared_number q some = at (is_some (part_of parts p))
    where
      at : (b : Bool) → part_number (cond b parts (parts ++ new_part p ∷ [])) q ≡ part_number parts q
      at true = refl
      at false = pushed_number parts (new_part p) q some

  pub prepared_there : IsTrue (is_some (part_of (with_part parts p) p))
  prepared_there = at (is_some (part_of parts p)) refl
    where
      at : (b : Bool) → is_some (part_of parts p) ≡ b → IsTrue (is_some (part_of (cond b parts (parts ++ new_part p ∷ [])) p))
      at true some = some
      at false none = has_part (parts ++ new_part p ∷ []) p (new_part p) (length parts + 1) (numbered-last parts (new_part p)) refl

  pub prepared_still : (q : List ℕ) → IsTrue (is_some (part_of parts q)) → IsTrue (is_some (part_of (with_part parts p) q))
  prepared_still q some = at (is_some (part_of parts p))
    where
      at : (b : Bool) → IsTrue (is_some (part_of (cond b parts (parts ++ new_part p ∷ [])) q))
      at true = some
      at false = ap is_some (ap (numbered (parts ++ new_part p ∷ [])) (pushed_number parts (new_part p) q some) ∙ numbered-append parts (new_part p ∷ []) (part_number parts q) some) ∙ some

-- WHAT RECORDS KEEP

pub no_parts : ArePartRows []
no_parts = record {
  apart = λ a b i j at_i at_j same. absurd (nowhere i a at_i);
  bound = λ part i at_i. absurd (nowhere i part at_i);
  room = λ part i at_i. absurd (nowhere i part at_i);
}
  where
    nowhere : (i : ℕ) (a : PartRow) → numbered [] i ≡ Some a → ⊥
    nowhere i a is = let range = numbered_in {A = PartRow} [] i (ap is_some is) in omega (arith, range.0, range.1)

-- as it was, but for what its cache and its directories have
pub record IsLike (old new : PartRow) : Type 0 where
  pub partition : new.partition ≡ old.partition
  pub bound : new.cache.bound ≡ old.cache.bound
  pub room : new.paths.spaces ≡ old.paths.spaces

record WasLike (parts : List PartRow) (i : ℕ) (new : PartRow) : Type 0 where
  old : PartRow
  there : numbered parts i ≡ Some old
  like : IsLike old new

pub parts_kept : (parts : List PartRow) (k : ℕ) (old new : PartRow) → ArePartRows parts → numbered parts k ≡ Some old → IsLike old new → ArePartRows (set_number parts k new)
parts_kept parts k old new are there like = record {
  apart = λ a b i j at_i at_j same. (let x = was i a at_i in let y = was j b at_j in are.apart x.old y.old i j x.there y.there (sym x.like.partition ∙ (same ∙ y.like.partition)));
  bound = λ part i at_i. (let x = was i part at_i in x.like.bound ∙ are.bound x.old i x.there);
  room = λ part i at_i. (let x = was i part at_i in x.like.room ∙ are.room x.old i x.there);
}
  where
    was : (i : ℕ) (a : PartRow) → numbered (set_number parts k new) i ≡ Some a → WasLike parts i a
    was i a is = at (k == i) refl
      where
        at : (b : Bool) → (k == i) ≡ b → WasLike parts i a
        at true here =
            let same = number_same k i here in
            let one : new ≡ a = let both : Some new ≡ Some a = sym (written parts k old new there) ∙ (ap (numbered (set_number parts k new)) same ∙ is) in cc in
            record { old = old; there = subst (λ n. numbered parts n ≡ Some old) same there; like = subst (λ x. IsLike old x) one like }
        at false other =
            record { old = a; there = sym (others parts k i new (numbered_in parts k (ap is_some there)).0 other) ∙ is; like = record { partition = refl; bound = refl; room = refl } }

pub parts_pushed : (parts : List PartRow) (p : List ℕ) → ArePartRows parts → is_some (part_of parts p) ≡ false → ArePartRows (parts ++ new_part p ∷ [])
parts_pushed parts p are unknown = record {
  apart = apart;
  bound = λ part i at_i. elim (numbered-push parts (new_part p) part i at_i) [
    | inl there ↦ are.bound part i there
    | inr last ↦ ap (λ (row : PartRow). row.cache.bound) (sym last.1)
  ];
  room = λ part i at_i. elim (numbered-push parts (new_part p) part i at_i) [
    | inl there ↦ are.room part i there
    | inr last ↦ ap (λ (row : PartRow). row.paths.spaces) (sym last.1)
  ];
}
  where
    new_here : (a : PartRow) (i : ℕ) → numbered parts i ≡ Some a → a.partition ≡ p → ⊥
    new_here a i there is = false≢true (sym unknown ∙ has_part parts p a i there is)

    apart : (a b : PartRow) (i j : ℕ) → numbered (parts ++ new_part p ∷ []) i ≡ Some a → numbered (parts ++ new_part p ∷ []) j ≡ Some b → a.partition ≡ b.partition → i ≡ j
    apart a b i j at_i at_j same =
        elim (numbered-push parts (new_part p) a i at_i) [
          | inl old_i ↦ elim (numbered-push parts (new_part p) b j at_j) [
            | inl old_j ↦ are.apart a b i j old_i old_j same
            | inr new_j ↦ absurd (new_here a i old_i (same ∙ ap (λ (row : PartRow). row.partition) (sym new_j.1)))
          ]
          | inr new_i ↦ elim (numbered-push parts (new_part p) b j at_j) [
            | inl old_j ↦ absurd (new_here b j old_j (sym same ∙ ap (λ (row : PartRow). row.partition) (sym new_i.1)))
            | inr new_j ↦ new_i.0 ∙ sym new_j.0
          ]
        ]

-- NUMBERS OF RECORDS

pub known_part : (parts : List PartRow) (p : List ℕ) (n : ℕ) → n ≡ part_number parts p → 1 ≤ n → parts ≡ with_part parts p
known_part parts p n is some = ap (λ b. cond b parts (parts ++ new_part p ∷ [])) (sym (at (number_of (is_its p) parts) refl))
  where
    at : (o : Option ℕ) → number_of (is_its p) parts ≡ o → is_some (part_of parts p) ≡ true
    at None none = absurd (omega (arith, some, is, ap (λ o. unwrap_or o 0) none))
    at (Some m) found =
        ap (λ o. is_some (numbered parts (unwrap_or o 0))) found ∙ ap is_some (first_numbered (is_its p) parts m found).is_there

pub unknown_part : (parts : List PartRow) (p : List ℕ) (n : ℕ) → n ≡ part_number parts p → n ≡ 0 → is_some (part_of parts p) ≡ false
unknown_part parts p n is none = ap (λ m. is_some (numbered parts m)) (sym is ∙ none)

pub part_is_new : (parts : List PartRow) (p : List ℕ) → is_some (part_of parts p) ≡ false → parts ++ new_part p ∷ [] ≡ with_part parts p
part_is_new parts p unknown = sym (ap (λ b. cond b parts (parts ++ new_part p ∷ [])) unknown)

pub pushed_length : {A : Type 0} (xs : List A) (x : A) → length (xs ++ x ∷ []) ≡ length xs + 1
pushed_length [] x = refl
pushed_length (y ∷ xs) x = omega (arith, pushed_length xs x)

-- the cache of each record has room for 32 spaces
pub bound_at : (parts : List PartRow) → ArePartRows parts → (n : ℕ) (o : Option (Bor PartRow)) → option_copied o ≡ numbered parts n → IfSome o (λ row. row.now.cache.bound ≡ 32)
bound_at parts are n None is = tt
bound_at parts are n (Some row) is = are.bound row.now n (sym is)
