-- Parameters with distinct names: one more at the end, the last one gone, and folded names.
use Rattle.std.proofs.Common.{◌≡◌, ◌↔◌, ℕ, Bool, true, false, not, ◌&&◌, ◌||◌, List, [], ◌∷◌, ◌++◌, Option, Some, None, Ok, Err, Result, refl, sym, ◌∙◌, IsTrue, MatchOption, OnOk, OnErr, bytes_eq, arith}
use Rattle.std.specs.Char.{is_ascii_uppercase, to_ascii_lowercase}
use Rattle.std.proofs.lemmas.Bool.{false≢true}
use Rattle.std.proofs.lemmas.Bool.Decides.{same_from_decides}
use Rattle.std.proofs.lemmas.Slice.Eq.{bytes_eq-Decides}
use Rattle.auth_text.specs.Text.{folded}
use Rattle.challenge_tokens.specs.declared.params.Param.{Param}
use Rattle.challenge_tokens.specs.Names.{is_lower, has_name, are_params, is_same_name}

pub both : (a b : Bool) → (a && b) ≡ true → (a ≡ true) × (b ≡ true)
both true b h = (refl, h)
both false b h = absurd (false≢true h)

pub none_of : (a b : Bool) → (a || b) ≡ false → (a ≡ false) × (b ≡ false)
none_of false b h = (refl, h)
none_of true b h = absurd (false≢true (sym h))

pub eq_sym : (a b : List ℕ) → bytes_eq a b ≡ bytes_eq b a
eq_sym a b =
    let there = bytes_eq-Decides a b in
    let back = bytes_eq-Decides b a in
    same_from_decides (bytes_eq a b) (bytes_eq b a) there ((λ e. sym (back.0 e)), (λ e. back.1 (sym e)))

-- ---- one more at the end

has_name-push : (name : List ℕ) (xs : List Param) (p : Param) → has_name name xs ≡ false → bytes_eq p.name name ≡ false
    → has_name name (xs ++ p ∷ []) ≡ false
has_name-push name [] p none other = rw other refl
has_name-push name (x ∷ xs) p none other =
    let parts = none_of (bytes_eq x.name name) (has_name name xs) none in
    rw (parts.0) (has_name-push name xs p parts.1 other)

pub not_true : (a : Bool) → not a ≡ true → a ≡ false
not_true false h = refl
not_true true h = absurd (false≢true h)

are_params-push : (xs : List Param) (p : Param) → are_params xs ≡ true → is_lower p.name ≡ true → has_name p.name xs ≡ false
    → are_params (xs ++ p ∷ []) ≡ true
are_params-push [] p fit lower fresh = rw lower refl
are_params-push (x ∷ xs) p fit lower fresh =
    let all = both (is_lower x.name && not (has_name x.name xs)) (are_params xs) fit in
    let first = both (is_lower x.name) (not (has_name x.name xs)) all.0 in
    let parts = none_of (bytes_eq x.name p.name) (has_name p.name xs) fresh in
    let other = eq_sym p.name x.name ∙ parts.0 in
    let none = has_name-push x.name xs p (not_true (has_name x.name xs) first.1) other in
    rw (first.0, none) (are_params-push xs p all.1 lower parts.1)

pub pushed : {A E : Type 0} (r : Result A E) (old new : List Param) (p : Param) → IsTrue (are_params old)
    → IsTrue (is_lower p.name) → has_name p.name old ≡ false → OnOk r (new ≡ old ++ p ∷ []) → OnErr r (new ≡ old)
    → IsTrue (are_params new)
pushed (Ok x) old new p fit lower fresh ok err = rw ok (are_params-push old p fit lower fresh)
pushed (Err e) old new p fit lower fresh ok err = rw err fit

-- ---- the last one gone

has_name-front : (name : List ℕ) (xs : List Param) (p : Param) → has_name name (xs ++ p ∷ []) ≡ false → has_name name xs ≡ false
has_name-front name [] p none = refl
has_name-front name (x ∷ xs) p none =
    let parts = none_of (bytes_eq x.name name) (has_name name (xs ++ p ∷ [])) none in
    rw (parts.0) (has_name-front name xs p parts.1)

are_params-front : (xs : List Param) (p : Param) → are_params (xs ++ p ∷ []) ≡ true → are_params xs ≡ true
are_params-front [] p fit = refl
are_params-front (x ∷ xs) p fit =
    let all = both (is_lower x.name && not (has_name x.name (xs ++ p ∷ []))) (are_params (xs ++ p ∷ [])) fit in
    let first = both (is_lower x.name) (not (has_name x.name (xs ++ p ∷ []))) all.0 in
    let none = has_name-front x.name xs p (not_true (has_name x.name (xs ++ p ∷ [])) first.1) in
    rw (first.0, none) (are_params-front xs p all.1)

pub popped : (r : Option Param) (old new : List Param) → IsTrue (are_params old)
    → MatchOption r ((old ≡ []) × (new ≡ [])) (λ last. old ≡ new ++ last ∷ []) → IsTrue (are_params new)
popped None old new fit gone = rw gone.1 refl
popped (Some last) old new fit gone = are_params-front new last (rw gone at fit)

-- ---- names without letter case

pub decided_name : (r : Bool) (a b : List ℕ) → IsTrue r ↔ (folded a ≡ folded b) → r ≡ is_same_name a b
decided_name r a b same = same_from_decides r (is_same_name a b) same (bytes_eq-Decides (folded a) (folded b))

lower_byte : (b : ℕ) (t : Bool) → is_ascii_uppercase b ≡ t → not (is_ascii_uppercase (to_ascii_lowercase b)) ≡ true
lower_byte b true e = grind (arith, e)
lower_byte b false e = grind (arith, e)

-- a folded name is in lower case
pub is_lower-folded : (name : List ℕ) → is_lower (folded name) ≡ true
is_lower-folded [] = refl
is_lower-folded (b ∷ name) = rw (lower_byte b (is_ascii_uppercase b) refl) (is_lower-folded name)

kept_byte : (b : ℕ) → not (is_ascii_uppercase b) ≡ true → to_ascii_lowercase b ≡ b
kept_byte b e = grind (arith, not_true (is_ascii_uppercase b) e)

-- a name in lower case stays when it is folded
pub folded-lower : (name : List ℕ) → is_lower name ≡ true → folded name ≡ name
folded-lower [] e = refl
folded-lower (b ∷ name) e =
    let parts = both (not (is_ascii_uppercase b)) (is_lower name) e in
    rw (kept_byte b parts.0, folded-lower name parts.1) refl
