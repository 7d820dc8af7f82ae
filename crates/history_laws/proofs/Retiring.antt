-- A nonce that is retired was taken out.
use Rattle.std.proofs.Common.{◌≡◌, ℕ, Bool, true, false, ◌||◌, cond, List, [], ◌∷◌, refl, ap, sym, subst, Some}
use Rattle.std.specs.Prelude.{IsTrue, find, option_map, unwrap_or}
use Rattle.std.specs.List.{list_any}
use Rattle.auth_events.specs.declared.journal.Entry.{Entry}
use Rattle.auth_events.specs.Tables.{Tables}
use Rattle.auth_events.specs.Past.{spaces_given, terms}
use Rattle.auth_events.specs.Book.{is_left, takes_out, retired, nonce_of}

or_true : (a b : Bool) → IsTrue b → IsTrue (a || b)
or_true true b _ = refl
or_true false b q = q

found_any : (f : ℕ → ℕ) (p : ℕ → ℕ → Bool) (n : ℕ) (xs : List ℕ) → (n ≡ 0 → ⊥) → unwrap_or (option_map f (find (λ s. p (f s) s) xs)) 0 ≡ n → IsTrue (list_any (p n) xs)
found_any f p n [] not_zero is = absurd (not_zero (sym is))
found_any f p n (x ∷ xs) not_zero is = at (p (f x) x) refl is (λ same. found_any f p n xs not_zero same)
  where
    at : (b : Bool) → p (f x) x ≡ b → unwrap_or (option_map f (cond b (Some x) (find (λ s. p (f s) s) xs))) 0 ≡ n
        → (unwrap_or (option_map f (find (λ s. p (f s) s) xs)) 0 ≡ n → IsTrue (list_any (p n) xs)) → IsTrue (p n x || list_any (p n) xs)
    at true is_p same rest = ap (λ b. b || list_any (p n) xs) (subst (λ m. p m x ≡ true) same is_p)
    at false is_not same rest = or_true (p n x) (list_any (p n) xs) (rest same)

pub retired_takes_out : (names : Tables) (past : List Entry) (entry : Entry) (n : ℕ) → (n ≡ 0 → ⊥) → retired names entry past ≡ n → IsTrue (takes_out names entry past n)
retired_takes_out names past entry n not_zero is =
    found_any (λ s. nonce_of names (terms past s)) (is_left names past (entry ∷ past)) n (spaces_given past) not_zero is
