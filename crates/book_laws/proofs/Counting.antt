-- Where each caller keeps its share of names, all of them keep the limit.
use Rattle.std.proofs.Common.{◌≡◌, ℕ, zero, suc, ◌+◌, ◌*◌, ◌-◌, ◌<◌, ◌≤◌, ◌%◌, Bool, true, false, cond, List, [], ◌∷◌, ◌++◌, length, Option, Some, None, refl, ap, sym, subst, ◌∙◌, arith, length-append}
use Rattle.std.specs.Prelude.{All, IsTrue, ◌==◌, filter, reverse, count_by, sum_by, nat_le, nat_lt}
use Rattle.std.specs.List.{cons_option, fold, range_with_len}
use Rattle.std.proofs.lemmas.Bool.{false≢true, leb-true, leb-false, lt-ltb}
use Rattle.std.proofs.lemmas.List.{reverse-append}
use Rattle.std.proofs.lemmas.List.Sums.{sum_by-cons, sum_by-append, count_by-le-length}
use Rattle.std.proofs.lemmas.List.Elements.{All-head, All-tail, All-nil, All-cons, All-weaker}
use Rattle.spaces.specs.declared.roster.Roster.{Roster}
use Rattle.auth_events.specs.declared.journal.Entry.{Entry}
use Rattle.auth_events.specs.declared.journal.Call.{Call}
use Rattle.auth_events.specs.declared.journal.Call.TheVariants.{Begin}
use Rattle.auth_events.specs.declared.told.Told.{Told}
use Rattle.auth_events.specs.declared.told.Told.TheVariants.{Made, SpaceNamed, TermsNamed, TextNamed}
use Rattle.auth_events.specs.declared.names.NonceName.{NonceName}
use Rattle.auth_events.specs.declared.names.TermsName.{TermsName}
use Rattle.auth_events.specs.Tables.{Tables, no_names, nonce_named, with_nonce}
use Rattle.auth_events.specs.Book.{IsLegalPast, allowed_call, begins, is_open, no_entry, own}
use Rattle.auth_events.specs.Told.{journal, names_told, past, with_told}
use Rattle.auth_events.proofs.Numbers.{and_left, and_right, numbered_in}
use Rattle.auth_events.proofs.Same.{number_same, number_refl}
use Rattle.book_laws.specs.Owners.{IsOwned, IsOwnedItem, items_of, maker, owner}
use Rattle.book_laws.specs.Shares.{IsWithinShares, begins_request, begun, names_nonce, names_space, names_terms, names_text, nonces_behind, nonces_named, spaces_named, terms_named, texts_named}

-- SUMS OVER NUMBERS

sum-both : (f g : ℕ → ℕ) (xs : List ℕ) → sum_by (λ c. f c + g c) xs ≡ sum_by f xs + sum_by g xs
sum-both f g [] = refl
sum-both f g (x ∷ xs) = omega (arith, sum_by-cons (λ c. f c + g c) x xs, sum_by-cons f x xs, sum_by-cons g x xs, sum-both f g xs)

sum-same : (f g : ℕ → ℕ) (xs : List ℕ) → ((c : ℕ) → f c ≡ g c) → sum_by f xs ≡ sum_by g xs
sum-same f g [] same = refl
sum-same f g (x ∷ xs) same = omega (arith, sum_by-cons f x xs, sum_by-cons g x xs, same x, sum-same f g xs same)

sum-none : (f : ℕ → ℕ) (a n : ℕ) → ((c : ℕ) → a ≤ c → f c ≡ 0) → sum_by f (range_with_len a n) ≡ 0
sum-none f a zero none = refl
sum-none f a (suc n) none = omega (arith, sum_by-cons f a (range_with_len (a + 1) n), none a (omega arith), sum-none f (a + 1) n (λ c le. none c (omega arith)))

sum-64 : (f : ℕ → ℕ) (a n : ℕ) → sum_by (λ c. 64 * f c) (range_with_len a n) ≡ 64 * sum_by f (range_with_len a n)
sum-64 f a zero = omega arith
sum-64 f a (suc n) = omega (arith, sum_by-cons (λ c. 64 * f c) a (range_with_len (a + 1) n), sum_by-cons f a (range_with_len (a + 1) n), sum-64 f (a + 1) n)

sum-16 : (f : ℕ → ℕ) (a n : ℕ) → sum_by (λ c. 16 * f c) (range_with_len a n) ≡ 16 * sum_by f (range_with_len a n)
sum-16 f a zero = omega arith
sum-16 f a (suc n) = omega (arith, sum_by-cons (λ c. 16 * f c) a (range_with_len (a + 1) n), sum_by-cons f a (range_with_len (a + 1) n), sum-16 f (a + 1) n)

sum-at-most : (f : ℕ → ℕ) (a n : ℕ) → ((c : ℕ) → f c ≤ 1) → sum_by f (range_with_len a n) ≤ n
sum-at-most f a zero most = omega arith
sum-at-most f a (suc n) most = omega (arith, sum_by-cons f a (range_with_len (a + 1) n), most a, sum-at-most f (a + 1) n most)

sum-le : (f g : ℕ → ℕ) (a n : ℕ) → ((c : ℕ) → f c ≤ g c) → sum_by f (range_with_len a n) ≤ sum_by g (range_with_len a n)
sum-le f g a zero le = omega arith
sum-le f g a (suc n) le = omega (arith, sum_by-cons f a (range_with_len (a + 1) n), sum_by-cons g a (range_with_len (a + 1) n), le a, sum-le f g (a + 1) n le)

more : (x y : ℕ) → y ≤ x → (x ≡ y → ⊥) → y + 1 ≤ x
more x y le apart = omega arith

sum-less : (f g : ℕ → ℕ) (a n one : ℕ) → ((c : ℕ) → f c ≤ g c) → a ≤ one → one < a + n → f one < g one → sum_by f (range_with_len a n) < sum_by g (range_with_len a n)
sum-less f g a zero one le low high less = absurd (omega arith)
sum-less f g a (suc n) one le low high less = at (a == one) refl (λ later. sum-less f g (a + 1) n one le later (omega arith) less)
  where
    at : (b : Bool) → (a == one) ≡ b → (a + 1 ≤ one → sum_by f (range_with_len (a + 1) n) < sum_by g (range_with_len (a + 1) n)) → sum_by f (range_with_len a (suc n)) < sum_by g (range_with_len a (suc n))
    at true same rest =
        let here : f a < g a = subst (λ c. f c < g c) (sym (number_same a one same)) less in
        omega (arith, sum_by-cons f a (range_with_len (a + 1) n), sum_by-cons g a (range_with_len (a + 1) n), here, sum-le f g (a + 1) n le)
    at false other rest =
        let above = more one a low (λ same. false≢true (sym other ∙ subst (λ c. IsTrue (a == c)) (sym same) (number_refl a))) in
        omega (arith, sum_by-cons f a (range_with_len (a + 1) n), sum_by-cons g a (range_with_len (a + 1) n), le a, rest above)

-- what has one number is counted once in a range that has the number
once-in : (k w a n : ℕ) → a ≤ k → k < a + n → sum_by (λ c. cond (k == c) w 0) (range_with_len a n) ≡ w
once-in k w a zero low high = absurd (omega arith)
once-in k w a (suc n) low high = at (k == a) refl (λ later. once-in k w (a + 1) n later (omega arith))
  where
    apart : (c : ℕ) → k < c → cond (k == c) w 0 ≡ 0
    apart c lt = one (k == c) refl
      where
        one : (b : Bool) → (k == c) ≡ b → cond b w 0 ≡ 0
        one true same = absurd (omega (arith, number_same k c same))
        one false other = refl

    at : (b : Bool) → (k == a) ≡ b → (a + 1 ≤ k → sum_by (λ c. cond (k == c) w 0) (range_with_len (a + 1) n) ≡ w) → sum_by (λ c. cond (k == c) w 0) (range_with_len a (suc n)) ≡ w
    at true same rest =
        sum_by-cons (λ c. cond (k == c) w 0) a (range_with_len (a + 1) n)
        ∙ omega (arith, ap (λ b. cond {A = ℕ} b w 0) same, sum-none (λ c. cond (k == c) w 0) (a + 1) n (λ c le. apart c (omega (arith, number_same k a same))))
    at false other rest =
        sum_by-cons (λ c. cond (k == c) w 0) a (range_with_len (a + 1) n)
        ∙ omega (arith, ap (λ b. cond {A = ℕ} b w 0) other, rest (more k a low (λ same. false≢true (sym other ∙ subst (λ c. IsTrue (k == c)) same (number_refl k)))))

-- EACH NUMBER'S SHARE OF A LIST

module _ {A : Type 0} (key : A → ℕ) (p : A → Bool) where
  share : List A → ℕ → ℕ
  share xs c = count_by p (filter (λ x. key x == c) xs)

  -- one more thing, in its own share
  share-next : (x : A) (xs : List A) (c : ℕ) → share (x ∷ xs) c ≡ cond (key x == c) (cond (p x) 1 0) 0 + share xs c
  unfolding share
  share-next x xs c = at (key x == c)
    where
      at : (b : Bool) → count_by p (cond b (x ∷ filter (λ y. key y == c) xs) (filter (λ y. key y == c) xs)) ≡ cond b (cond (p x) 1 0) 0 + count_by p (filter (λ y. key y == c) xs)
      at true = sum_by-cons (λ y. cond (p y) 1 0) x (filter (λ y. key y == c) xs)
      at false = omega arith

  -- the shares add up to the whole
  shares-add : (a n : ℕ) (xs : List A) → All (λ x. IsTrue (p x) → (a ≤ key x) × (key x < a + n)) xs → count_by p xs ≡ sum_by (share xs) (range_with_len a n)
  unfolding share
  shares-add a n [] within = sym (sum-none (share []) a n (λ c le. refl))
  shares-add a n (x ∷ xs) within =
      let w = cond (p x) 1 0 in
      let rest = shares-add a n xs (All-tail (λ y. IsTrue (p y) → (a ≤ key y) × (key y < a + n)) x xs within) in
      let here : sum_by (λ c. cond (key x == c) w 0) (range_with_len a n) ≡ w = one (p x) refl (All-head (λ y. IsTrue (p y) → (a ≤ key y) × (key y < a + n)) x xs within) in
      sum_by-cons (λ y. cond (p y) 1 0) x xs
      ∙ omega (arith, here, rest, sum-both (λ c. cond (key x == c) w 0) (share xs) (range_with_len a n), sum-same (share (x ∷ xs)) (λ c. cond (key x == c) w 0 + share xs c) (range_with_len a n) (share-next x xs))
    where
      nothing : (b : Bool) → ◌≡◌ {A = ℕ} (cond b 0 0) 0
      nothing true = refl
      nothing false = refl

      one : (b : Bool) → p x ≡ b → (IsTrue (p x) → (a ≤ key x) × (key x < a + n)) → sum_by (λ c. cond (key x == c) (cond b 1 0) 0) (range_with_len a n) ≡ cond b 1 0
      one true is in_range = once-in (key x) 1 a n (in_range is).0 (in_range is).1
      one false is in_range = sum-none (λ c. cond (key x == c) 0 0) a n (λ c le. nothing (key x == c))

-- REQUESTS ARE BEGUN ONCE

sum-reverse : (f : Entry → ℕ) (xs : List Entry) → sum_by f (reverse xs) ≡ sum_by f xs
sum-reverse f [] = refl
sum-reverse f (x ∷ xs) =
    ap (sum_by f) (reverse-append (x ∷ []) xs)
    ∙ omega (arith, sum_by-append f (reverse xs) (x ∷ []), sum_by-cons f x xs, sum_by-cons f x [], sum-reverse f xs)

begun-journal : (told : List Told) → begun told ≡ count_by (λ (e : Entry). begins e.call) (journal told)
begun-journal [] = refl
begun-journal (Made entry ∷ told) = omega (arith, sum_by-cons (λ x. cond (begins_request x) 1 0) (Made entry) told, sum_by-cons (λ (e : Entry). cond (begins e.call) 1 0) entry (journal told), begun-journal told)
begun-journal (SpaceNamed caller space ∷ told) = omega (arith, sum_by-cons (λ x. cond (begins_request x) 1 0) (SpaceNamed caller space) told, begun-journal told)
begun-journal (TermsNamed caller name ∷ told) = omega (arith, sum_by-cons (λ x. cond (begins_request x) 1 0) (TermsNamed caller name) told, begun-journal told)
begun-journal (TextNamed caller text ∷ told) = omega (arith, sum_by-cons (λ x. cond (begins_request x) 1 0) (TextNamed caller text) told, begun-journal told)

begun-past : (told : List Told) → begun told ≡ count_by (λ (e : Entry). begins e.call) (past told)
begun-past told = begun-journal told ∙ sym (sum-reverse (λ e. cond (begins e.call) 1 0) (journal told))

module _ (roster : Roster) (names : Tables) where
  begun_in_roster : (before : List Entry) (r : ℕ) (call : Call) → IsTrue (allowed_call roster names before r call) → IsTrue (begins call) → (1 ≤ r) × (r < 1 + length roster.requests)
  begun_in_roster before r Begin may is = let found = numbered_in roster.requests r may in (found.0, omega (arith, found.1))
  begun_in_roster before r call may is = absurd (false≢true is)

  all_in_roster : (entries : List Entry) → IsLegalPast roster names entries → All (λ e. IsTrue (begins e.call) → (1 ≤ e.request) × (e.request < 1 + length roster.requests)) entries
  all_in_roster [] legal = All-nil (λ e. IsTrue (begins e.call) → (1 ≤ e.request) × (e.request < 1 + length roster.requests))
  all_in_roster (e ∷ entries) legal =
      All-cons (λ e. IsTrue (begins e.call) → (1 ≤ e.request) × (e.request < 1 + length roster.requests)) e entries
      (begun_in_roster entries e.request e.call (and_right _ (allowed_call roster names entries e.request e.call) legal.1.0)) (all_in_roster entries legal.0)

  begun_once : (entries : List Entry) → IsLegalPast roster names entries → (r : ℕ) → count_by (λ (e : Entry). begins e.call) (own entries r) ≤ 1
  begun_once [] legal r = omega arith
  begun_once (e ∷ entries) legal r = at (e.request == r) refl (begun_once entries legal.0 r)
    where
      first : (b : Bool) → begins e.call ≡ b → IsTrue (cond b (no_entry entries e.request) (is_open entries e.caller e.request)) → count_by (λ (x : Entry). begins x.call) (own entries e.request) ≤ 1 → cond b 1 0 + count_by (λ (x : Entry). begins x.call) (own entries e.request) ≤ 1
      first false is may before = omega (arith, before)
      first true is may before =
          let none : length (own entries e.request) ≡ 0 = number_same (length (own entries e.request)) 0 may in
          omega (arith, none, count_by-le-length (λ (x : Entry). begins x.call) (own entries e.request))

      at : (b : Bool) → (e.request == r) ≡ b → count_by (λ (x : Entry). begins x.call) (own entries r) ≤ 1 → count_by (λ (x : Entry). begins x.call) (cond b (e ∷ own entries r) (own entries r)) ≤ 1
      at false other before = before
      at true same before =
          let is = number_same e.request r same in
          let here = subst (λ k. cond (begins e.call) 1 0 + count_by (λ (x : Entry). begins x.call) (own entries k) ≤ 1) is
          (first (begins e.call) refl (and_left _ (allowed_call roster names entries e.request e.call) legal.1.0) (subst (λ k. count_by (λ (x : Entry). begins x.call) (own entries k) ≤ 1) (sym is) before)) in
          omega (arith, sum_by-cons (λ (x : Entry). cond (begins x.call) 1 0) e (own entries r), here)

  pub begun_few : (entries : List Entry) → IsLegalPast roster names entries → count_by (λ (e : Entry). begins e.call) entries ≤ length roster.requests
  unfolding share
  begun_few entries legal =
      omega (
        arith,
        shares-add (λ (e : Entry). e.request) (λ e. begins e.call) 1 (length roster.requests) entries (all_in_roster entries legal),
        sum-at-most (share (λ (e : Entry). e.request) (λ e. begins e.call) entries) 1 (length roster.requests) (begun_once entries legal),
      )

-- ROOM FOR NAMES

spaces-told : (names : Tables) (told : List Told) → length (fold with_told names told).spaces ≡ length names.spaces + spaces_named told
spaces-told names [] = omega arith
spaces-told names (Made entry ∷ told) = omega (arith, spaces-told names told, sum_by-cons (λ x. cond (names_space x) 1 0) (Made entry) told)
spaces-told names (SpaceNamed caller space ∷ told) = omega (arith, spaces-told (with_told names (SpaceNamed caller space)) told, length-append names.spaces (space ∷ []), sum_by-cons (λ x. cond (names_space x) 1 0) (SpaceNamed caller space) told)
spaces-told names (TermsNamed caller name ∷ told) = omega (arith, spaces-told (with_told names (TermsNamed caller name)) told, sum_by-cons (λ x. cond (names_space x) 1 0) (TermsNamed caller name) told)
spaces-told names (TextNamed caller text ∷ told) = omega (arith, spaces-told (with_told names (TextNamed caller text)) told, sum_by-cons (λ x. cond (names_space x) 1 0) (TextNamed caller text) told)

terms-told : (names : Tables) (told : List Told) → length (fold with_told names told).terms ≡ length names.terms + terms_named told
terms-told names [] = omega arith
terms-told names (Made entry ∷ told) = omega (arith, terms-told names told, sum_by-cons (λ x. cond (names_terms x) 1 0) (Made entry) told)
terms-told names (SpaceNamed caller space ∷ told) = omega (arith, terms-told (with_told names (SpaceNamed caller space)) told, sum_by-cons (λ x. cond (names_terms x) 1 0) (SpaceNamed caller space) told)
terms-told names (TermsNamed caller name ∷ told) = omega (arith, terms-told (with_told names (TermsNamed caller name)) told, length-append names.terms (name ∷ []), sum_by-cons (λ x. cond (names_terms x) 1 0) (TermsNamed caller name) told)
terms-told names (TextNamed caller text ∷ told) = omega (arith, terms-told (with_told names (TextNamed caller text)) told, sum_by-cons (λ x. cond (names_terms x) 1 0) (TextNamed caller text) told)

texts-told : (names : Tables) (told : List Told) → length (fold with_told names told).texts ≡ length names.texts + texts_named told
texts-told names [] = omega arith
texts-told names (Made entry ∷ told) = omega (arith, texts-told names told, sum_by-cons (λ x. cond (names_text x) 1 0) (Made entry) told)
texts-told names (SpaceNamed caller space ∷ told) = omega (arith, texts-told (with_told names (SpaceNamed caller space)) told, sum_by-cons (λ x. cond (names_text x) 1 0) (SpaceNamed caller space) told)
texts-told names (TermsNamed caller name ∷ told) = omega (arith, texts-told (with_told names (TermsNamed caller name)) told, sum_by-cons (λ x. cond (names_text x) 1 0) (TermsNamed caller name) told)
texts-told names (TextNamed caller text ∷ told) = omega (arith, texts-told (with_told names (TextNamed caller text)) told, length-append names.texts (text ∷ []), sum_by-cons (λ x. cond (names_text x) 1 0) (TextNamed caller text) told)

maker_in : (callers : ℕ) → 1 ≤ callers → (item : Told) → IsOwnedItem callers item → (1 ≤ maker item) × (maker item < 1 + callers)
maker_in callers some (Made entry) owned =
    let is = number_same entry.caller (owner callers entry.request) owned in
    let rest : (entry.request - 1) % callers < callers = omega arith in
    (omega (arith, is), omega (arith, is, rest))
maker_in callers some (SpaceNamed caller space) owned = (leb-true 1 caller (and_left (nat_le 1 caller) (nat_le caller callers) owned), omega (arith, leb-true caller callers (and_right (nat_le 1 caller) (nat_le caller callers) owned)))
maker_in callers some (TermsNamed caller name) owned = (leb-true 1 caller (and_left (nat_le 1 caller) (nat_le caller callers) owned), omega (arith, leb-true caller callers (and_right (nat_le 1 caller) (nat_le caller callers) owned)))
maker_in callers some (TextNamed caller text) owned = (leb-true 1 caller (and_left (nat_le 1 caller) (nat_le caller callers) owned), omega (arith, leb-true caller callers (and_right (nat_le 1 caller) (nat_le caller callers) owned)))

-- each nonce got its number by some caller's terms
more-nonces : (names : Tables) (name : TermsName) → length (with_nonce names name) ≤ length names.nonces + cond (nat_lt (length names.nonces) name.nonce) 1 0
more-nonces names name = at (nat_le name.nonce (length names.nonces)) refl
  where
    one : (o : Option NonceName) → length (names.nonces ++ cons_option o []) ≤ length names.nonces + 1
    one None = omega (arith, length-append names.nonces [])
    one (Some nonce) = omega (arith, length-append names.nonces (nonce ∷ []))

    at : (b : Bool) → nat_le name.nonce (length names.nonces) ≡ b → length (cond b names.nonces (names.nonces ++ cons_option (nonce_named names name) [])) ≤ length names.nonces + cond (nat_lt (length names.nonces) name.nonce) 1 0
    at true is = omega arith
    at false is = omega (arith, one (nonce_named names name), ap (λ b. cond {A = ℕ} b 1 0) (lt-ltb (length names.nonces) name.nonce (leb-false name.nonce (length names.nonces) is)))

nonces-told : (callers : ℕ) → 1 ≤ callers → (names : Tables) (told : List Told) → IsOwned callers told → length (fold with_told names told).nonces ≤ length names.nonces + sum_by (λ c. nonces_behind c names told) (range_with_len 1 callers)
nonces-told callers some names [] owned = omega arith
nonces-told callers some names (item ∷ told) owned =
    let made = maker_in callers some item (All-head (IsOwnedItem callers) item told owned) in
    let w : ℕ = cond (names_nonce names item) 1 0 in
    omega (
      arith,
      one item,
      nonces-told callers some (with_told names item) told (All-tail (IsOwnedItem callers) item told owned),
      sum-both (λ c. cond (maker item == c) w 0) (λ c. nonces_behind c (with_told names item) told) (range_with_len 1 callers),
      once-in (maker item) w 1 callers made.0 made.1,
    )
  where
    one : (item : Told) → length (with_told names item).nonces ≤ length names.nonces + cond (names_nonce names item) 1 0
    one (Made entry) = omega arith
    one (SpaceNamed caller space) = omega arith
    one (TermsNamed caller name) = more-nonces names name
    one (TextNamed caller text) = omega arith

-- Where each caller keeps its share, and one has some left, the roster's limit isn't reached.
module _ (roster : Roster) (callers : ℕ) (told : List Told) (legal : IsLegalPast roster (names_told told) (past told)) (some : 1 ≤ callers) (owned : IsOwned callers told) (within : IsWithinShares told) (c : ℕ) (low : 1 ≤ c) (high : c ≤ callers) where
  made_by : (p : Told → Bool) → count_by p told ≡ sum_by (share maker p told) (range_with_len 1 callers)
  made_by p =
      shares-add maker p 1 callers told
      (All-weaker (IsOwnedItem callers) (λ item. IsTrue (p item) → (1 ≤ maker item) × (maker item < 1 + callers)) (λ item is passes. maker_in callers some item is) told owned)

  all_begun : sum_by (share maker begins_request told) (range_with_len 1 callers) ≤ length roster.requests
  all_begun = omega (arith, made_by begins_request, begun-past told, begun_few roster (names_told told) (past told) legal)

  room_for : (p : Told → Bool) → ((k : ℕ) → count_by p (items_of k told) ≤ 64 * begun (items_of k told)) → count_by p (items_of c told) < 64 * begun (items_of c told) → count_by p told < 64 * length roster.requests
  unfolding share
  room_for p each left =
      let less = sum-less (share maker p told) (λ k. 64 * share maker begins_request told k) 1 callers c each low (omega arith) left in
      omega (arith, made_by p, all_begun, less, sum-64 (share maker begins_request told) 1 callers)

  pub room_for_space : spaces_named (items_of c told) < 64 * begun (items_of c told) → length (names_told told).spaces < 64 * length roster.requests
  room_for_space left = omega (arith, spaces-told no_names told, room_for names_space (λ k. (within k).0) left)

  pub room_for_terms : terms_named (items_of c told) < 64 * begun (items_of c told) → length (names_told told).terms < 64 * length roster.requests
  room_for_terms left = omega (arith, terms-told no_names told, room_for names_terms (λ k. (within k).1) left)

  pub room_for_text : texts_named (items_of c told) < 64 * begun (items_of c told) → length (names_told told).texts < 64 * length roster.requests
  room_for_text left = omega (arith, texts-told no_names told, room_for names_text (λ k. (within k).2) left)

  pub room_for_nonce : nonces_named c told < 16 * begun (items_of c told) → length (names_told told).nonces < 16 * length roster.requests
  unfolding share
  room_for_nonce left =
      let less = sum-less (λ k. nonces_named k told) (λ k. 16 * share maker begins_request told k) 1 callers c (λ k. (within k).3) low (omega arith) left in
      omega (arith, nonces-told callers some no_names told owned, all_begun, less, sum-16 (share maker begins_request told) 1 callers)
