-- Lists of held entries: what is found in them, and their order.
use Rattle.std.proofs.Common.{◌≡◌, ℕ, suc, ◌<◌, ◌≤◌, Bool, true, false, not, ◌||◌, cond, get_or, List, [], ◌∷◌, ◌++◌, length, refl, ap, sym, subst, ◌∙◌, arith, Option, Some, None}
use Rattle.std.specs.Prelude.{All, AllPairs, IfSome, IsTrue, is_some, filter, option_map, slice_get, nat_lt, ◌==◌}
use Rattle.std.proofs.lemmas.Bool.Decides.{nat_tests}
use Rattle.std.proofs.lemmas.Bool.{false≢true}
use Rattle.std.proofs.lemmas.List.Elements.{All-nil, All-cons, All-head, All-tail}
use Rattle.std.proofs.lemmas.List.Sums.{length-filter, count_by-le-length}
use Rattle.auth_events.specs.declared.journal.Entry.{Entry}
use Rattle.auth_events.specs.Past.{age, touches}
use Rattle.auth_events.proofs.Same.{number_same, number_refl}
use Rattle.auth_cache.specs.declared.cache.Held.{Held}
use Rattle.auth_cache.specs.Cached.{evicted, held_in, retermed, with_terms, without}

-- WHAT IS FOUND

pub found_without : (u s : ℕ) (xs : List Held) → held_in (without u xs) s ≡ cond (u == s) None (held_in xs s)
found_without u s [] = at (u == s)
  where
    at : (b : Bool) → ◌≡◌ {A = Option Held} None (cond b None None)
    at true = refl
    at false = refl
found_without u s (x ∷ xs) = at (x.gift.space == u) refl (x.gift.space == s) refl (u == s) refl (found_without u s xs)
  where
    at : (a : Bool) → (x.gift.space == u) ≡ a → (b : Bool) → (x.gift.space == s) ≡ b → (c : Bool) → (u == s) ≡ c → held_in (without u xs) s ≡ cond (u == s) None (held_in xs s) → held_in (cond (not a) (x ∷ without u xs) (without u xs)) s ≡ cond c None (cond b (Some x) (held_in xs s))
    at true is_u b is_s true same before = before ∙ ap (λ t. cond t None (held_in xs s)) same
    at true is_u true is_s false other before =
        absurd (false≢true (sym other ∙ subst (λ n. (n == s) ≡ true) (number_same x.gift.space u is_u) is_s))
    at true is_u false is_s false other before = before ∙ ap (λ t. cond t None (held_in xs s)) other
    at false not_u true is_s true same before =
        absurd (false≢true (sym not_u ∙ subst (λ n. (x.gift.space == n) ≡ true) (sym (number_same u s same)) is_s))
    at false not_u true is_s false other before = ap (λ t. cond t (Some x) (held_in (without u xs) s)) is_s
    at false not_u false not_s c is before = ap (λ t. cond t (Some x) (held_in (without u xs) s)) not_s ∙ before ∙ ap (λ t. cond t None (held_in xs s)) is

pub found_push : (xs : List Held) (h : Held) (s : ℕ) → (h.gift.space == s) ≡ false → held_in (xs ++ h ∷ []) s ≡ held_in xs s
found_push [] h s other = ap (λ b. cond b (Some h) None) other
found_push (x ∷ xs) h s other = ap (λ o. cond (x.gift.space == s) (Some x) o) (found_push xs h s other)

pub found_pushed : (xs : List Held) (h : Held) → held_in xs h.gift.space ≡ None → held_in (xs ++ h ∷ []) h.gift.space ≡ Some h
found_pushed [] h none = ap (λ b. cond b (Some h) None) (number_refl h.gift.space)
found_pushed (x ∷ xs) h none = at (x.gift.space == h.gift.space) none (λ rest. found_pushed xs h rest)
  where
    at : (b : Bool) → cond b (Some x) (held_in xs h.gift.space) ≡ None → (held_in xs h.gift.space ≡ None → held_in (xs ++ h ∷ []) h.gift.space ≡ Some h) → cond b (Some x) (held_in (xs ++ h ∷ []) h.gift.space) ≡ Some h
    at true found before = absurd cc
    at false found before = before found

space_kept : (u t : ℕ) (x : Held) → (retermed u t x).gift.space ≡ x.gift.space
space_kept u t x = at (x.gift.space == u)
  where
    at : (b : Bool) → (cond b (record x { terms = t }) x).gift.space ≡ x.gift.space
    at true = refl
    at false = refl

pub found_terms : (u t s : ℕ) (xs : List Held) → held_in (with_terms u t xs) s ≡ option_map (retermed u t) (held_in xs s)
found_terms u t s [] = refl
found_terms u t s (x ∷ xs) =
    ap (λ n. cond (n == s) (Some (retermed u t x)) (held_in (with_terms u t xs) s)) (space_kept u t x)
    ∙ ap (λ o. cond (x.gift.space == s) (Some (retermed u t x)) o) (found_terms u t s xs)
    ∙ at (x.gift.space == s)
  where
    at : (b : Bool) → cond b (Some (retermed u t x)) (option_map (retermed u t) (held_in xs s)) ≡ option_map (retermed u t) (cond b (Some x) (held_in xs s))
    at true = refl
    at false = refl

pub without_terms : (u t : ℕ) (xs : List Held) → without u (with_terms u t xs) ≡ without u xs
without_terms u t [] = refl
without_terms u t (x ∷ xs) = at (x.gift.space == u) refl (without_terms u t xs)
  where
    rest : List Held
    rest = without u (with_terms u t xs)

    at : (b : Bool) → (x.gift.space == u) ≡ b → without u (with_terms u t xs) ≡ without u xs → cond (not ((retermed u t x).gift.space == u)) (retermed u t x ∷ rest) rest ≡ without u (x ∷ xs)
    at true is before =
        ap (λ n. cond (not (n == u)) (retermed u t x ∷ rest) rest) (space_kept u t x)
        ∙ (ap (λ b. cond (not b) (retermed u t x ∷ rest) rest) is
        ∙ (before
        ∙ sym (ap (λ b. cond (not b) (x ∷ without u xs) (without u xs)) is)))
    at false is before =
        ap (λ n. cond (not (n == u)) (retermed u t x ∷ rest) rest) (space_kept u t x)
        ∙ (ap (λ b. cond (not b) (retermed u t x ∷ rest) rest) is
        ∙ (ap (λ b. cond b (record x { terms = t }) x ∷ rest) is
        ∙ (ap (λ ys. x ∷ ys) before
        ∙ sym (ap (λ b. cond (not b) (x ∷ without u xs) (without u xs)) is))))

-- the found entry is of the space, and is one of the list
pub found_space : (s : ℕ) (xs : List Held) (h : Held) → held_in xs s ≡ Some h → h.gift.space ≡ s
found_space s [] h found = absurd cc
found_space s (x ∷ xs) h found = at (x.gift.space == s) refl found (λ rest. found_space s xs h rest)
  where
    at : (b : Bool) → (x.gift.space == s) ≡ b → cond b (Some x) (held_in xs s) ≡ Some h → (held_in xs s ≡ Some h → h.gift.space ≡ s) → h.gift.space ≡ s
    at true is this before = let same : x ≡ h = cc in ap (λ (k : Held). k.gift.space) (sym same) ∙ number_same x.gift.space s is
    at false is later before = before later

pub found_holds : (P : Held → Type 0) (s : ℕ) (xs : List Held) (h : Held) → All P xs → held_in xs s ≡ Some h → P h
found_holds P s [] h all found = absurd cc
found_holds P s (x ∷ xs) h all found = at (x.gift.space == s) found (λ rest. found_holds P s xs h (All-tail P x xs all) rest)
  where
    at : (b : Bool) → cond b (Some x) (held_in xs s) ≡ Some h → (held_in xs s ≡ Some h → P h) → P h
    at true this before = let same : x ≡ h = cc in subst P same (All-head P x xs all)
    at false later before = before later

pub none_there : (s : ℕ) (xs : List Held) → held_in xs s ≡ None → without s xs ≡ xs
none_there s [] none = refl
none_there s (x ∷ xs) none = at (x.gift.space == s) none (λ rest. none_there s xs rest)
  where
    at : (b : Bool) → cond b (Some x) (held_in xs s) ≡ None → (held_in xs s ≡ None → without s xs ≡ xs) → cond (not b) (x ∷ without s xs) (without s xs) ≡ x ∷ xs
    at true found before = absurd cc
    at false found before = ap (λ ys. x ∷ ys) (before found)

pub no_longer : (s : ℕ) (xs : List Held) → length (without s xs) ≤ length xs
no_longer s xs =
    omega (arith, length-filter (λ held. not (held.gift.space == s)) xs, count_by-le-length (λ held. not (held.gift.space == s)) xs)

-- without an entry that was there it is shorter
pub without_fewer : (s : ℕ) (xs : List Held) → IfSome (held_in xs s) (λ held. length (without s xs) < length xs)
without_fewer s [] = tt
without_fewer s (x ∷ xs) = at (x.gift.space == s) (held_in xs s) (without_fewer s xs)
  where
    at : (b : Bool) (o : Option Held) → IfSome o (λ held. length (without s xs) < length xs) → IfSome (cond b (Some x) o) (λ held. length (cond (not b) (x ∷ without s xs) (without s xs)) < length (x ∷ xs))
    at true o before = omega (arith, no_longer s xs)
    at false None before = before
    at false (Some held) before = omega (arith, before)

pub taken_fewer : (s : ℕ) (xs ys : List Held) (o : Option Held) → ys ≡ without s xs → o ≡ held_in xs s → IfSome o (λ held. length ys < length xs)
taken_fewer s xs ys o left taken =
    subst (λ (zs : List Held). IfSome o (λ held. length zs < length xs)) (sym left)
    (subst (λ (p : Option Held). IfSome p (λ held. length (without s xs) < length xs)) (sym taken) (without_fewer s xs))

-- each entry of a list is found, it or one of the same space
pub found_there : (xs : List Held) → All (λ h. is_some (held_in xs h.gift.space) ≡ true) xs
found_there [] = All-nil (λ h. is_some (held_in [] h.gift.space) ≡ true)
found_there (x ∷ xs) =
    All-cons (λ h. is_some (held_in (x ∷ xs) h.gift.space) ≡ true) x xs
    (ap (λ b. is_some (cond b (Some x) (held_in xs x.gift.space))) (number_refl x.gift.space))
    (λ k d within. at (x.gift.space == (get_or xs k d).gift.space) (held_in xs (get_or xs k d).gift.space) (found_there xs k d within))
  where
    at : (b : Bool) (o : Option Held) → is_some o ≡ true → is_some (cond b (Some x) o) ≡ true
    at true o there = refl
    at false o there = there

-- ORDER

-- of two entries the second was touched later
abbrev pub Touched : List Entry → Held → Held → Type 0
Touched past a b = age past b.gift.space < age past a.gift.space

age_more : (entry : Entry) (past : List Entry) (s : ℕ) → touches entry s ≡ false → age (entry ∷ past) s ≡ suc (age past s)
age_more entry past s untouched = ap (λ b. cond b 0 (suc (age past s))) untouched

pub age_none : (entry : Entry) (past : List Entry) (s : ℕ) → IsTrue (touches entry s) → age (entry ∷ past) s ≡ 0
age_none entry past s touched = ap (λ b. cond b 0 (suc (age past s))) touched

-- the order of entries that are not touched stays
pub order_stays : (entry : Entry) (past : List Entry) (xs : List Held) → All (λ h. touches entry h.gift.space ≡ false) xs → AllPairs (Touched past) xs → AllPairs (Touched (entry ∷ past)) xs
order_stays entry past xs untouched order =
    λ i j d before within.
    omega (arith, order i j d before within, age_more entry past _ (untouched i d (omega arith)), age_more entry past _ (untouched j d within))

pub AllPairs-tail : (past : List Entry) (x : Held) (xs : List Held) → AllPairs (Touched past) (x ∷ xs) → AllPairs (Touched past) xs
AllPairs-tail past x xs pairs = λ i j d before within. pairs (suc i) (suc j) d (omega arith) (omega arith)

pub AllPairs-first : (past : List Entry) (x : Held) (xs : List Held) → AllPairs (Touched past) (x ∷ xs) → All (Touched past x) xs
AllPairs-first past x xs pairs = λ j d within. pairs 0 (suc j) d (omega arith) (omega arith)

-- entries in order are of different spaces
apart : (past : List Entry) (x y : Held) → Touched past x y → (y.gift.space == x.gift.space) ≡ false
apart past x y later = at (y.gift.space == x.gift.space) refl
  where
    at : (b : Bool) → (y.gift.space == x.gift.space) ≡ b → b ≡ false
    at true same = absurd (omega (arith, ap (age past) (number_same y.gift.space x.gift.space same)))
    at false other = refl

pub first_alone : (past : List Entry) (x : Held) (xs : List Held) → AllPairs (Touched past) (x ∷ xs) → All (λ h. (h.gift.space == x.gift.space) ≡ false) xs
first_alone past x xs pairs = λ j d within. apart past x (get_or xs j d) (AllPairs-first past x xs pairs j d within)

filter_all : (p : Held → Bool) (xs : List Held) → All (λ x. p x ≡ false) xs → filter (λ x. not (p x)) xs ≡ xs
filter_all p [] all = refl
filter_all p (x ∷ xs) all =
    ap (λ b. cond (not b) (x ∷ filter (λ y. not (p y)) xs) (filter (λ y. not (p y)) xs)) (All-head (λ y. p y ≡ false) x xs all)
    ∙ ap (λ ys. x ∷ ys) (filter_all p xs (All-tail (λ y. p y ≡ false) x xs all))

-- without its first entry
pub without_first : (past : List Entry) (x : Held) (xs : List Held) → AllPairs (Touched past) (x ∷ xs) → without x.gift.space (x ∷ xs) ≡ xs
without_first past x xs pairs =
    ap (λ b. cond (not b) (x ∷ without x.gift.space xs) (without x.gift.space xs)) (number_refl x.gift.space)
    ∙ filter_all (λ h. h.gift.space == x.gift.space) xs (first_alone past x xs pairs)

-- WHAT GOES

pub lt_is : (a b : ℕ) → a < b → nat_lt a b ≡ true
lt_is a b less = grind (arith, nat_tests)

-- nobody where the space is there, or where there is room
pub nobody_goes : (bound s : ℕ) (xs : List Held) → length xs ≤ bound → (is_some (held_in xs s) || nat_lt (length xs) bound) ≡ true → evicted bound xs s ≡ None
nobody_goes bound s xs fit test = ap (λ b. cond b None (slice_get (without s xs) 0)) (lt_is (length (without s xs)) bound (at (held_in xs s) (without_fewer s xs) test))
  where
    room : (n : ℕ) → length (without s xs) ≤ n → nat_lt n bound ≡ true → length (without s xs) < bound
    room n le less = grind (arith, nat_tests)

    at : (o : Option Held) → IfSome o (λ held. length (without s xs) < length xs) → (is_some o || nat_lt (length xs) bound) ≡ true → length (without s xs) < bound
    at None none is = room (length xs) (no_longer s xs) is
    at (Some held) fewer is = omega (arith, fewer, fit)

-- and else the first
pub first_goes : (bound s : ℕ) (xs : List Held) → (is_some (held_in xs s) || nat_lt (length xs) bound) ≡ false → evicted bound xs s ≡ slice_get xs 0
first_goes bound s xs test = at (held_in xs s) refl test
  where
    at : (o : Option Held) → held_in xs s ≡ o → (is_some o || nat_lt (length xs) bound) ≡ false → evicted bound xs s ≡ slice_get xs 0
    at None none full =
        ap (λ ys. cond (nat_lt (length ys) bound) None (slice_get ys 0)) (none_there s xs none) ∙ ap (λ b. cond b None (slice_get xs 0)) full
    at (Some h) there full = absurd (false≢true (sym full))
