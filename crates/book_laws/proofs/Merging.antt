-- Draws inserted into a legal journal: it stays legal, and becomes fresh.
use Rattle.std.proofs.Common.{◌≡◌, ◌≢◌, ℕ, zero, suc, ◌+◌, ◌-◌, ◌<◌, ◌≤◌, ◌^◌, Bool, true, false, not, ◌&&◌, ◌||◌, cond, List, [], ◌∷◌, ◌++◌, length, get_or, map, refl, ap, sym, subst, ◌∙◌, inl, inr, arith, append_assoc, Option, Some, None}
use Rattle.std.specs.Prelude.{All, Contains, IsTrue, ◌==◌, nat_lt, nat_le, is_some, option_map, unwrap_or, reverse, count_by, sum_by, flat_map}
use Rattle.std.specs.List.{list_any, list_all, range_with_len, cons_option}
use Rattle.std.proofs.lemmas.Bool.{false≢true, cases_lt, lt-ltb, le-leb, leb-true, eq-eqb, not-false}
use Rattle.std.proofs.lemmas.List.{reverse-append, append-nil}
use Rattle.std.proofs.lemmas.List.Sums.{sum_by-cons, sum_by-append, count_by-le-length}
use Rattle.std.proofs.lemmas.List.Elements.{All-head, All-tail, All-nil, All-cons, All-append, All-weaker, All-contains_itself}
use Rattle.spaces.specs.Sites.{numbered}
use Rattle.spaces.specs.declared.roster.Roster.{Roster}
use Rattle.spaces.specs.ProtectionSpaces.{ProtectionSpace}
use Rattle.nonce_words.specs.declared.draw.NonceDraw.{NonceDraw}
use Rattle.nonce_words.specs.Fresh.{IsFresh, times_given, once_up_to}
use Rattle.nonce_words.specs.Fresh as Words
use Rattle.auth_events.specs.declared.journal.Entry.{Entry}
use Rattle.auth_events.specs.declared.journal.Call.{Call}
use Rattle.auth_events.specs.declared.journal.Call.TheVariants.{Begin, Preempt, Select, Reject, Renew, Answer, Lose, Take, Note, End, Draw}
use Rattle.auth_events.specs.declared.journal.BookReply.{BookReply}
use Rattle.auth_events.specs.declared.journal.BookReply.TheVariants.{Drawn}
use Rattle.auth_events.specs.declared.names.TermsName.{TermsName}
use Rattle.auth_events.specs.declared.names.NonceName.{NonceName}
use Rattle.auth_events.specs.Tables.{Tables, AreNames}
use Rattle.auth_events.specs.Pages.{count_of}
use Rattle.auth_events.specs.Past.{terms_in}
use Rattle.auth_events.specs.Book.{IsLegal, IsLegalPast, draws, without_draws, own, epoch, nonce_of}
use Rattle.auth_events.specs.Fresh.{DrawMade, StepTold, counts_once, draw_in, draws_behind, draws_fit, draws_in_front, draws_of, epochs_rise, fresh, fresh_nonce, has_nonce, is_right_draw, knows, merge, merge_behind, terms_ready, trace_of}
use Rattle.auth_events.specs.Fresh.StepTold.{DidCall, DidDraw}
use Rattle.auth_events.proofs.Numbers.{and_left, and_right, both, some_of_test, or_left, or_right}
use Rattle.auth_events.proofs.Same.{number_same, number_refl}
use Rattle.book_laws.specs.Drawing.{AreDraws, AreDrawnInTime, IsDrawnAfter, calls_in, drawn_behind, drawn_in}

-- LISTS

sum-same : {A : Type 0} (f g : A → ℕ) → ((x : A) → f x ≡ g x) → (xs : List A) → sum_by f xs ≡ sum_by g xs
sum-same f g same [] = refl
sum-same f g same (x ∷ xs) = omega (arith, sum_by-cons f x xs, sum_by-cons g x xs, same x, sum-same f g same xs)

sum-reverse : {A : Type 0} (f : A → ℕ) (xs : List A) → sum_by f (reverse xs) ≡ sum_by f xs
sum-reverse f [] = refl
sum-reverse f (x ∷ xs) =
    ap (sum_by f) (reverse-append (x ∷ []) xs)
    ∙ omega (arith, sum_by-append f (reverse xs) (x ∷ []), sum_by-cons f x xs, sum_by-cons f x [], sum-reverse f xs)

sum-map : {A B : Type 0} (f : B → ℕ) (h : A → B) (xs : List A) → sum_by f (map h xs) ≡ sum_by (λ x. f (h x)) xs
sum-map f h [] = refl
sum-map f h (x ∷ xs) = omega (arith, sum_by-cons f (h x) (map h xs), sum_by-cons (λ y. f (h y)) x xs, sum-map f h xs)

onto-cons : {A : Type 0} (x : A) (xs before : List A) → reverse (x ∷ xs) ++ before ≡ reverse xs ++ (x ∷ before)
onto-cons x xs before = ap (λ l. l ++ before) (reverse-append (x ∷ []) xs) ∙ append_assoc (reverse xs) (x ∷ []) before

onto-append : {A : Type 0} (xs ys before : List A) → reverse (xs ++ ys) ++ before ≡ reverse ys ++ (reverse xs ++ before)
onto-append xs ys before = ap (λ l. l ++ before) (reverse-append xs ys) ∙ append_assoc (reverse ys) (reverse xs) before

all-list : {A : Type 0} (p : A → Bool) (xs : List A) → All (λ x. IsTrue (p x)) xs → IsTrue (list_all p xs)
all-list p [] all = refl
all-list p (x ∷ xs) all = both (p x) (list_all p xs) (All-head (λ y. IsTrue (p y)) x xs all) (all-list p xs (All-tail (λ y. IsTrue (p y)) x xs all))

list-all : {A : Type 0} (p : A → Bool) (xs : List A) → IsTrue (list_all p xs) → All (λ x. IsTrue (p x)) xs
list-all p [] all = All-nil (λ x. IsTrue (p x))
list-all p (x ∷ xs) all = All-cons (λ y. IsTrue (p y)) x xs (and_left (p x) (list_all p xs) all) (list-all p xs (and_right (p x) (list_all p xs) all))

all_left : {A : Type 0} (P : A → Type 0) (xs ys : List A) → All P (xs ++ ys) → All P xs
all_left P [] ys all = All-nil P
all_left P (x ∷ xs) ys all = All-cons P x xs (All-head P x (xs ++ ys) all) (all_left P xs ys (All-tail P x (xs ++ ys) all))

all_right : {A : Type 0} (P : A → Type 0) (xs ys : List A) → All P (xs ++ ys) → All P ys
all_right P [] ys all = all
all_right P (x ∷ xs) ys all = all_right P xs ys (All-tail P x (xs ++ ys) all)

-- a test that nothing passes
none-count : {A : Type 0} (p : A → Bool) (xs : List A) → All (λ x. p x ≡ false) xs → count_by p xs ≡ 0
none-count p [] none = refl
none-count p (x ∷ xs) none =
    omega (arith, sum_by-cons (λ y. cond (p y) 1 0) x xs, ap (λ b. cond {A = ℕ} b 1 0) (All-head (λ y. p y ≡ false) x xs none), none-count p xs (All-tail (λ y. p y ≡ false) x xs none))

count-none : {A : Type 0} (p : A → Bool) (xs : List A) → count_by p xs ≡ 0 → All (λ x. p x ≡ false) xs
count-none p [] none = All-nil (λ x. p x ≡ false)
count-none p (x ∷ xs) none = at (p x) refl (count-none p xs)
  where
    counted : count_by p (x ∷ xs) ≡ cond (p x) 1 0 + count_by p xs
    counted = sum_by-cons (λ y. cond (p y) 1 0) x xs

    at : (b : Bool) → p x ≡ b → (count_by p xs ≡ 0 → All (λ y. p y ≡ false) xs) → All (λ y. p y ≡ false) (x ∷ xs)
    at true is rest = absurd (omega (arith, counted, none, ap (λ b. cond {A = ℕ} b 1 0) is))
    at false is rest = All-cons (λ y. p y ≡ false) x xs is (rest (omega (arith, counted, none)))

some-count : {A : Type 0} (p : A → Bool) (xs : List A) → 0 < count_by p xs → (x : A) × Contains xs x × IsTrue (p x)
some-count p [] some = absurd (omega arith)
some-count {A} p (x ∷ xs) some = at (p x) refl (some-count p xs)
  where
    counted : count_by p (x ∷ xs) ≡ cond (p x) 1 0 + count_by p xs
    counted = sum_by-cons (λ y. cond (p y) 1 0) x xs

    at : (b : Bool) → p x ≡ b → (0 < count_by p xs → (y : A) × Contains xs y × IsTrue (p y)) → (y : A) × Contains (x ∷ xs) y × IsTrue (p y)
    at true is rest = (x, (0, omega arith, refl), is)
    at false is rest =
        let found = rest (omega (arith, counted, some, ap (λ b. cond {A = ℕ} b 1 0) is)) in
        (found.0, (suc found.1.0, omega (arith, found.1.1), found.1.2), found.2)

-- what holds of all that pass a test of their own that counts them
of_counted : {A : Type 0} (same : A → A → Bool) (P : A → Type 0) → ((x : A) → IsTrue (same x x)) → (xs : List A) → ((x : A) → 0 < count_by (same x) xs → P x) → All P xs
of_counted same P itself [] each = All-nil P
of_counted {A} same P itself (x ∷ xs) each =
    All-cons P x xs
    (each x (omega (arith, counted x, ap (λ b. cond {A = ℕ} b 1 0) (itself x))))
    (of_counted same P itself xs (λ y some. each y (omega (arith, counted y, some))))
  where
    counted : (y : A) → count_by (same y) (x ∷ xs) ≡ cond (same y x) 1 0 + count_by (same y) xs
    counted y = sum_by-cons (λ z. cond (same y z) 1 0) x xs

length-count : {A : Type 0} (xs : List A) → length xs ≡ count_by (λ x. true) xs
length-count [] = refl
length-count (x ∷ xs) = omega (arith, sum_by-cons (λ y. cond {A = ℕ} true 1 0) x xs, length-count xs)

all-range : (p : ℕ → Bool) (a n : ℕ) → ((c : ℕ) → a ≤ c → c < a + n → IsTrue (p c)) → IsTrue (list_all p (range_with_len a n))
all-range p a zero each = refl
all-range p a (suc n) each =
    both (p a) (list_all p (range_with_len (a + 1) n)) (each a (omega arith) (omega arith)) (all-range p (a + 1) n (λ c le lt. each c (omega arith) (omega arith)))

-- THE DRAWS OF A TRACE

-- a draw as an entry
abbrev entry_of : ℕ → ℕ → NonceDraw → Entry
entry_of c r d = record { caller = c; request = r; call = Draw d.nonce; reply = Drawn d.count d.epoch }

draws_are : (c r : ℕ) (steps : List StepTold) (k : ℕ) → draws_behind c r steps k ≡ map (entry_of c r) (drawn_behind steps k)
draws_are c r [] k = refl
draws_are c r (DidCall ∷ steps) zero = refl
draws_are c r (DidCall ∷ steps) (suc k) = draws_are c r steps k
draws_are c r (DidDraw n m e ∷ steps) zero = ap (λ (l : List Entry). entry_of c r (record { nonce = n; count = m; epoch = e }) ∷ l) (draws_are c r steps 0)
draws_are c r (DidDraw n m e ∷ steps) (suc k) = draws_are c r steps (suc k)

-- the draws that stand behind more than k calls
abbrev drawn_after : List StepTold → ℕ → List NonceDraw
drawn_after [] k = []
drawn_after (DidCall ∷ steps) zero = drawn_in steps
drawn_after (DidCall ∷ steps) (suc k) = drawn_after steps k
drawn_after (DidDraw n c e ∷ steps) k = drawn_after steps k

parts : (steps : List StepTold) → drawn_in steps ≡ drawn_behind steps 0 ++ drawn_after steps 0
parts [] = refl
parts (DidCall ∷ steps) = refl
parts (DidDraw n c e ∷ steps) = ap (λ (l : List NonceDraw). record { nonce = n; count = c; epoch = e } ∷ l) (parts steps)

after-next : (steps : List StepTold) (k : ℕ) → drawn_after steps k ≡ drawn_behind steps (suc k) ++ drawn_after steps (suc k)
after-next [] k = refl
after-next (DidCall ∷ steps) zero = parts steps
after-next (DidCall ∷ steps) (suc k) = after-next steps k
after-next (DidDraw n c e ∷ steps) k = after-next steps k

after-all : (steps : List StepTold) → drawn_after steps (calls_in steps) ≡ []
after-all [] = refl
after-all (DidCall ∷ steps) = after-all steps
after-all (DidDraw n c e ∷ steps) = after-all steps

all_behind : (P : NonceDraw → Type 0) (steps : List StepTold) (k : ℕ) → All P (drawn_in steps) → All P (drawn_behind steps k)
all_behind P [] k all = All-nil P
all_behind P (DidCall ∷ steps) zero all = All-nil P
all_behind P (DidCall ∷ steps) (suc k) all = all_behind P steps k all
all_behind P (DidDraw n c e ∷ steps) zero all =
    All-cons P _ (drawn_behind steps 0) (All-head P _ (drawn_in steps) all) (all_behind P steps 0 (All-tail P _ (drawn_in steps) all))
all_behind P (DidDraw n c e ∷ steps) (suc k) all = all_behind P steps (suc k) (All-tail P _ (drawn_in steps) all)

all_of_trace : (P : NonceDraw → Type 0) (traces : List (List StepTold)) (j : ℕ) → All P (flat_map drawn_in traces) → All P (drawn_in (get_or traces j []))
all_of_trace P [] zero all = All-nil P
all_of_trace P [] (suc j) all = All-nil P
all_of_trace P (t ∷ ts) zero all = all_left P (drawn_in t) (flat_map drawn_in ts) all
all_of_trace P (t ∷ ts) (suc j) all = all_of_trace P ts j (all_right P (drawn_in t) (flat_map drawn_in ts) all)

-- SUMS OVER TRACES

-- the sum of f over the traces, by the numbers of their requests
abbrev total : (List StepTold → ℕ → ℕ) → ℕ → List (List StepTold) → ℕ
total f r [] = 0
total f r (t ∷ ts) = f t r + total f (r + 1) ts

total-same : (f h : List StepTold → ℕ → ℕ) (low r : ℕ) (ts : List (List StepTold)) → low ≤ r → ((t : List StepTold) (q : ℕ) → low ≤ q → f t q ≡ h t q) → total f r ts ≡ total h r ts
total-same f h low r [] le same = refl
total-same f h low r (t ∷ ts) le same = omega (arith, same t r le, total-same f h low (r + 1) ts (omega arith) same)

-- one request's term changes by d
total-step : (f h : List StepTold → ℕ → ℕ) (one d : ℕ) (r : ℕ) (ts : List (List StepTold)) → ((t : List StepTold) (q : ℕ) → q ≢ one → f t q ≡ h t q) → (j : ℕ) → one ≡ r + j → j < length ts → f (get_or ts j []) one ≡ d + h (get_or ts j []) one → total f r ts ≡ d + total h r ts
total-step f h one d r [] other j at lt here = absurd (omega arith)
total-step f h one d r (t ∷ ts) other zero at lt here =
    let same : one ≡ r = omega arith in
    let first : f t r ≡ d + h t r = subst (λ q. f t q ≡ d + h t q) same here in
    let rest = total-same f h (r + 1) (r + 1) ts (omega arith) (λ t' q le. other t' q (λ is. absurd (omega arith))) in
    omega (arith, first, rest)
total-step f h one d r (t ∷ ts) other (suc j) at lt here =
    let first = other t r (λ is. absurd (omega arith)) in
    let rest = total-step f h one d (r + 1) ts other j (omega arith) (omega arith) here in
    omega (arith, first, rest)

total-none : (f : List StepTold → ℕ → ℕ) (r : ℕ) (ts : List (List StepTold)) → ((j : ℕ) → j < length ts → f (get_or ts j []) (r + j) ≡ 0) → total f r ts ≡ 0
total-none f r [] none = refl
total-none f r (t ∷ ts) none =
    let first : f t r ≡ 0 = subst (λ q. f t q ≡ 0) (omega arith) (none 0 (omega arith)) in
    let rest = total-none f (r + 1) ts (λ j lt. subst (λ q. f (get_or ts j []) q ≡ 0) (omega arith) (none (suc j) (omega arith))) in
    omega (arith, first, rest)

count-next : (r : ℕ) (entry : Entry) (past : List Entry) → count_of r (entry ∷ past) ≡ cond (entry.request == r) 1 0 + count_of r past
count-next r entry past = sum_by-cons (λ e. cond (e.request == r) 1 0) entry past

cond-true : (b : Bool) → b ≡ true → ◌≡◌ {A = ℕ} (cond b 1 0) 1
cond-true b is = ap (λ x. cond {A = ℕ} x 1 0) is

cond-false : (b : Bool) → b ≡ false → ◌≡◌ {A = ℕ} (cond b 1 0) 0
cond-false b is = ap (λ x. cond {A = ℕ} x 1 0) is

is-other : (a b : ℕ) → b ≢ a → (a == b) ≡ false
is-other a b other = at (a == b) refl
  where
    at : (x : Bool) → (a == b) ≡ x → x ≡ false
    at true same = absurd (other (sym (number_same a b same)))
    at false same = refl

module _ (f : Entry → ℕ) (g : NonceDraw → ℕ) (is_draw : (c r : ℕ) (d : NonceDraw) → f (entry_of c r d) ≡ g d) (traces : List (List StepTold)) where
  sum-draws : (c r : ℕ) (steps : List StepTold) (k : ℕ) → sum_by f (draws_behind c r steps k) ≡ sum_by g (drawn_behind steps k)
  sum-draws c r steps k =
      ap (sum_by f) (draws_are c r steps k) ∙ sum-map f (entry_of c r) (drawn_behind steps k) ∙ sum-same (λ d. f (entry_of c r d)) g (is_draw c r) (drawn_behind steps k)

  -- what is left of each trace behind the entries of a past
  left : List Entry → List StepTold → ℕ → ℕ
  left past t q = sum_by g (drawn_after t (count_of q past))

  sum-behind : (past rest : List Entry) → All (λ e. f e ≡ 0) rest → All (λ e. (1 ≤ e.request) × (e.request ≤ length traces)) rest → ((r : ℕ) → 1 ≤ r → r ≤ length traces → calls_in (trace_of traces r) ≡ count_of r past + count_of r rest) → sum_by f (merge_behind traces past rest) ≡ total (left past) 1 traces
  unfolding left
  sum-behind past [] none within calls =
      sym (total-none (left past) 1 traces (λ j lt.
      (let all = calls (1 + j) (omega arith) (omega arith) in
      let same : calls_in (get_or traces j []) ≡ count_of (1 + j) past = ap (λ i. calls_in (get_or traces i [])) (omega arith) ∙ all ∙ omega arith in
      ap (λ k. sum_by g (drawn_after (get_or traces j []) k)) (sym same) ∙ ap (sum_by g) (after-all (get_or traces j [])))))
  sum-behind past (entry ∷ rest) none within calls =
      let one = entry.request in
      let t = trace_of traces one in
      let k = count_of one past in
      let range = All-head (λ e. (1 ≤ e.request) × (e.request ≤ length traces)) entry rest within in
      let later = sum-behind (entry ∷ past) rest (All-tail (λ e. f e ≡ 0) entry rest none) (All-tail (λ e. (1 ≤ e.request) × (e.request ≤ length traces)) entry rest within)
      (λ r low high. omega (arith, calls r low high, count-next r entry past, count-next r entry rest)) in
      let next : count_of one (entry ∷ past) ≡ suc k = count-next one entry past ∙ omega (arith, cond-true (one == one) (number_refl one)) in
      let here : left past t one ≡ sum_by g (drawn_behind t (suc k)) + left (entry ∷ past) t one =
      ap (sum_by g) (after-next t k) ∙ sum_by-append g (drawn_behind t (suc k)) (drawn_after t (suc k)) ∙ ap (λ i. sum_by g (drawn_behind t (suc k)) + sum_by g (drawn_after t i)) (sym next) in
      let step = total-step (left past) (left (entry ∷ past)) one (sum_by g (drawn_behind t (suc k))) 1 traces
      (λ t' q apart. ap (λ i. sum_by g (drawn_after t' i)) (sym (count-next q entry past ∙ omega (arith, cond-false (one == q) (is-other one q apart)))))
      (one - 1) (omega (arith, range)) (omega (arith, range)) here in
      let behind = sum-draws entry.caller one t (k + 1) in
      let first = All-head (λ e. f e ≡ 0) entry rest none in
      let number : k + 1 ≡ suc k = omega arith in
      let behind' = behind ∙ ap (λ i. sum_by g (drawn_behind t i)) number in
      sum_by-cons f entry (draws_behind entry.caller one t (k + 1) ++ merge_behind traces (entry ∷ past) rest)
      ∙ omega (arith, sum_by-append f (draws_behind entry.caller one t (k + 1)) (merge_behind traces (entry ∷ past) rest), first, behind', later, step)

  -- with nothing in front, all draws of the traces are left
  left-all : (r : ℕ) (ts : List (List StepTold)) → All (λ t. drawn_behind t 0 ≡ []) ts → total (left []) r ts ≡ sum_by g (flat_map drawn_in ts)
  unfolding left
  left-all r [] front = refl
  left-all r (t ∷ ts) front =
      let here : drawn_in t ≡ drawn_after t 0 = parts t ∙ ap (λ (l : List NonceDraw). l ++ drawn_after t 0) (All-head (λ t. drawn_behind t 0 ≡ []) t ts front) in
      omega (arith, ap (sum_by g) here, left-all (r + 1) ts (All-tail (λ t. drawn_behind t 0 ≡ []) t ts front), sum_by-append g (drawn_in t) (flat_map drawn_in ts))

front-none : (r : ℕ) (ts : List (List StepTold)) → All (λ t. drawn_behind t 0 ≡ []) ts → draws_in_front r ts ≡ []
front-none r [] front = refl
front-none r (t ∷ ts) front =
    let first = draws_are 0 r t 0 ∙ ap (map (entry_of 0 r)) (All-head (λ t. drawn_behind t 0 ≡ []) t ts front) in
    let rest = front-none (r + 1) ts (All-tail (λ t. drawn_behind t 0 ≡ []) t ts front) in
    ap (λ (l : List Entry). l ++ draws_in_front (r + 1) ts) first ∙ rest

-- WITHOUT THE DRAWS

without-append : (xs ys : List Entry) → without_draws (xs ++ ys) ≡ without_draws xs ++ without_draws ys
without-append [] ys = refl
without-append (x ∷ xs) ys = at (draws x.call) (without-append xs ys)
  where
    at : (b : Bool) → without_draws (xs ++ ys) ≡ without_draws xs ++ without_draws ys → cond (not b) (x ∷ without_draws (xs ++ ys)) (without_draws (xs ++ ys)) ≡ cond (not b) (x ∷ without_draws xs) (without_draws xs) ++ without_draws ys
    at true rest = rest
    at false rest = ap (λ (l : List Entry). x ∷ l) rest

without-reverse : (xs : List Entry) → without_draws (reverse xs) ≡ reverse (without_draws xs)
without-reverse [] = refl
without-reverse (x ∷ xs) =
    ap without_draws (reverse-append (x ∷ []) xs) ∙ without-append (reverse xs) (x ∷ []) ∙ ap (λ (l : List Entry). l ++ without_draws (x ∷ [])) (without-reverse xs) ∙ at (draws x.call)
  where
    at : (b : Bool) → reverse (without_draws xs) ++ cond (not b) (x ∷ []) [] ≡ reverse (cond (not b) (x ∷ without_draws xs) (without_draws xs))
    at true = append-nil (reverse (without_draws xs))
    at false = sym (reverse-append (x ∷ []) (without_draws xs))

without-draws : (c r : ℕ) (ds : List NonceDraw) → without_draws (map (entry_of c r) ds) ≡ []
without-draws c r [] = refl
without-draws c r (d ∷ ds) = without-draws c r ds

abbrev NoDraw : Entry → Type 0
NoDraw entry = draws entry.call ≡ false

-- a history that is as it was without its draws has none
fewer-draws : (ys : List Entry) → length (without_draws ys) ≤ length ys
fewer-draws [] = omega arith
fewer-draws (y ∷ ys) = one (draws y.call) (fewer-draws ys)
  where
    one : (b : Bool) → length (without_draws ys) ≤ length ys → length (cond (not b) (y ∷ without_draws ys) (without_draws ys)) ≤ length (y ∷ ys)
    one true rest = omega (arith, rest)
    one false rest = omega (arith, rest)

none-by-length : (ys : List Entry) → length (without_draws ys) ≡ length ys → All NoDraw ys
none-by-length [] long = All-nil NoDraw
none-by-length (y ∷ ys) long = one (draws y.call) refl long (fewer-draws ys) (none-by-length ys)
  where
    one : (b : Bool) → draws y.call ≡ b → length (cond (not b) (y ∷ without_draws ys) (without_draws ys)) ≡ length (y ∷ ys) → length (without_draws ys) ≤ length ys → (length (without_draws ys) ≡ length ys → All NoDraw ys) → All NoDraw (y ∷ ys)
    one true is same le rest = absurd (omega arith)
    one false is same le rest = All-cons NoDraw y ys is (rest (omega arith))

no-draws : (xs : List Entry) → without_draws xs ≡ xs → All NoDraw xs
no-draws xs same = none-by-length xs (ap length same)

without-behind : (traces : List (List StepTold)) (past rest : List Entry) → All NoDraw rest → without_draws (merge_behind traces past rest) ≡ rest
without-behind traces past [] none = refl
without-behind traces past (entry ∷ rest) none =
    let later = without-behind traces (entry ∷ past) rest (All-tail NoDraw entry rest none) in
    let k = count_of entry.request past + 1 in
    let ds = draws_behind entry.caller entry.request (trace_of traces entry.request) k in
    let nothing : without_draws ds ≡ [] = ap without_draws (draws_are entry.caller entry.request (trace_of traces entry.request) k) ∙ without-draws entry.caller entry.request (drawn_behind (trace_of traces entry.request) k) in
    ap (λ b. cond (not b) (entry ∷ without_draws (ds ++ merge_behind traces (entry ∷ past) rest)) (without_draws (ds ++ merge_behind traces (entry ∷ past) rest))) (All-head NoDraw entry rest none)
    ∙ ap (λ (l : List Entry). entry ∷ l) (without-append ds (merge_behind traces (entry ∷ past) rest) ∙ ap (λ (l : List Entry). l ++ without_draws (merge_behind traces (entry ∷ past) rest)) nothing ∙ later)

-- COUNTING DRAWS

abbrev made : NonceDraw → DrawMade
made d = record { count = d.count; epoch = d.epoch }

abbrev weight : (DrawMade → Bool) → Option DrawMade → ℕ
weight q None = 0
weight q (Some m) = cond (q m) 1 0

counted-draws : (q : DrawMade → Bool) (xs : List Entry) (n : ℕ) → count_by q (draws_of xs n) ≡ sum_by (λ e. weight q (draw_in e.call e.reply n)) xs
counted-draws q [] n = refl
counted-draws q (x ∷ xs) n = at (draw_in x.call x.reply n) (counted-draws q xs n) ∙ sym (sum_by-cons (λ e. weight q (draw_in e.call e.reply n)) x xs)
  where
    at : (o : Option DrawMade) → count_by q (draws_of xs n) ≡ sum_by (λ e. weight q (draw_in e.call e.reply n)) xs → count_by q (cons_option o (draws_of xs n)) ≡ weight q o + sum_by (λ e. weight q (draw_in e.call e.reply n)) xs
    at None rest = omega (arith, rest)
    at (Some m) rest = omega (arith, sum_by-cons (λ y. cond (q y) 1 0) m (draws_of xs n), rest)

none-drawn : (call : Call) (reply : BookReply) (n : ℕ) → draws call ≡ false → draw_in call reply n ≡ None
none-drawn Begin reply n none = refl
none-drawn (Preempt target) reply n none = refl
none-drawn (Select s t) reply n none = refl
none-drawn (Reject s o) reply n none = refl
none-drawn (Renew gift t) reply n none = refl
none-drawn (Answer p x t) reply n none = refl
none-drawn (Lose p loss) reply n none = refl
none-drawn (Take p) reply n none = refl
none-drawn (Note gift) reply n none = refl
none-drawn End reply n none = refl
none-drawn (Draw m) reply n none = absurd (false≢true (sym none))

weigh : (q : DrawMade → Bool) (n : ℕ) (d : NonceDraw) → weight q (cond (d.nonce == n) (Some (made d)) None) ≡ cond (d.nonce == n && q (made d)) 1 0
weigh q n d = at (d.nonce == n)
  where
    at : (b : Bool) → weight q (cond b (Some (made d)) None) ≡ cond (b && q (made d)) 1 0
    at true = refl
    at false = refl

none-weight : (q : DrawMade → Bool) (n : ℕ) (xs : List Entry) → All NoDraw xs → All (λ e. weight q (draw_in e.call e.reply n) ≡ 0) xs
none-weight q n [] none = All-nil (λ e. weight q (draw_in e.call e.reply n) ≡ 0)
none-weight q n (x ∷ xs) none =
    All-cons (λ e. weight q (draw_in e.call e.reply n) ≡ 0) x xs (ap (weight q) (none-drawn x.call x.reply n (All-head NoDraw x xs none))) (none-weight q n xs (All-tail NoDraw x xs none))

module _ (names : Tables) (journal : List Entry) (traces : List (List StepTold)) (drawn : List NonceDraw) (all : AreDraws names journal traces drawn) (none : All NoDraw journal) where
  merged-is : merge journal traces ≡ merge_behind traces [] journal
  merged-is = ap (λ (l : List Entry). l ++ merge_behind traces [] journal) (front-none 1 traces all.front)

  counted : (q : DrawMade → Bool) (n : ℕ) → count_by q (draws_of (reverse (merge journal traces)) n) ≡ count_by (λ d. d.nonce == n && q (made d)) drawn
  counted q n =
      let f = λ (e : Entry). weight q (draw_in e.call e.reply n) in
      let g = λ (d : NonceDraw). weight q (cond (d.nonce == n) (Some (made d)) None) in
      counted-draws q (reverse (merge journal traces)) n
      ∙ sum-reverse f (merge journal traces)
      ∙ ap (sum_by f) merged-is
      ∙ sum-behind f g (λ c r d. refl) traces [] journal (none-weight q n journal none) all.requests (λ r low high. all.calls r low high ∙ omega arith)
      ∙ left-all f g (λ c r d. refl) traces 1 traces all.front
      ∙ sum-same g (λ d. cond (d.nonce == n && q (made d)) 1 0) (weigh q n) (flat_map drawn_in traces)
      ∙ all.times (λ d. d.nonce == n && q (made d))

  and-true : (b : Bool) → (b && true) ≡ b
  and-true true = refl
  and-true false = refl

  drawn-length : (n : ℕ) → length (draws_of (reverse (merge journal traces)) n) ≡ Words.draws_of drawn n
  drawn-length n =
      length-count (draws_of (reverse (merge journal traces)) n) ∙ counted (λ m. true) n
      ∙ sum-same (λ d. cond (d.nonce == n && true) 1 0) (λ d. cond (d.nonce == n) 1 0) (λ d. ap (λ b. cond {A = ℕ} b 1 0) (and-true (d.nonce == n))) drawn

  once-is : (k c : ℕ) → 1 ≤ c → c ≤ k → once_up_to k c ≡ 1
  once-is k c low high = ap (λ b. cond {A = ℕ} b 1 0) (both (nat_lt 0 c) (nat_le c k) (lt-ltb 0 c (omega arith)) (le-leb c k high))

  counts-once : (n : ℕ) → IsTrue (counts_once names (draws_of (reverse (merge journal traces)) n))
  counts-once n =
      let m = draws_of (reverse (merge journal traces)) n in
      both _ _
      (le-leb (length m) (2 ^ 30) (omega (arith, drawn-length n, count_by-le-length (λ (d : NonceDraw). d.nonce == n) drawn, all.few)))
      (all-range (λ c. count_by (λ draw. draw.count == c) m == 1) 1 (length m) (λ c low high.
      eq-eqb (count_by (λ draw. draw.count == c) m) 1
      (counted (λ draw. draw.count == c) n ∙ all.fresh.once n c ∙ once-is (Words.draws_of drawn n) c low (omega (arith, drawn-length n)))))

  same_made : DrawMade → DrawMade → Bool
  same_made a b = a.count == b.count && a.epoch == b.epoch

  -- a draw of the merged history is one of the words
  record IsOne (n : ℕ) (a : DrawMade) : Type 0 where
    draw : NonceDraw
    there : Contains drawn draw
    nonce : draw.nonce ≡ n
    count : a.count ≡ draw.count
    epoch : a.epoch ≡ draw.epoch

  one_of : (n : ℕ) (a : DrawMade) → 0 < count_by (same_made a) (draws_of (reverse (merge journal traces)) n) → IsOne n a
  unfolding same_made
  one_of n a some =
      let found = some-count (λ d. d.nonce == n && (a.count == d.count && a.epoch == d.epoch)) drawn (omega (arith, some, counted (same_made a) n)) in
      let d = found.0 in
      let same = and_right (d.nonce == n) (a.count == d.count && a.epoch == d.epoch) found.2 in
      record {
        draw = d;
        there = found.1;
        nonce = number_same d.nonce n (and_left (d.nonce == n) (a.count == d.count && a.epoch == d.epoch) found.2);
        count = number_same a.count d.count (and_left (a.count == d.count) (a.epoch == d.epoch) same);
        epoch = number_same a.epoch d.epoch (and_right (a.count == d.count) (a.epoch == d.epoch) same);
      }

  itself : (a : DrawMade) → IsTrue (same_made a a)
  unfolding same_made
  itself a = both (a.count == a.count) (a.epoch == a.epoch) (number_refl a.count) (number_refl a.epoch)

  epochs-rise : (n : ℕ) → IsTrue (epochs_rise names (draws_of (reverse (merge journal traces)) n))
  epochs-rise n =
      let m = draws_of (reverse (merge journal traces)) n in
      let test = λ (a b : DrawMade). nat_lt b.count a.count || nat_le a.epoch b.epoch in
      all-list (λ a. list_all (test a) m) m
      (of_counted same_made (λ a. IsTrue (list_all (test a) m)) itself m (λ a some_a.
      all-list (test a) m
      (of_counted same_made (λ b. IsTrue (test a b)) itself m (λ b some_b.
      rises n a b (one_of n a some_a) (one_of n b some_b)))))
    where
      rises : (n : ℕ) (a b : DrawMade) → IsOne n a → IsOne n b → IsTrue (nat_lt b.count a.count || nat_le a.epoch b.epoch)
      rises n a b x y =
          elim (cases_lt b.count a.count) [
            | inl lt ↦ or_left (nat_lt b.count a.count) (nat_le a.epoch b.epoch) (lt-ltb b.count a.count lt)
            | inr le ↦
                (let rise = all.fresh.rising x.draw y.draw x.there y.there (x.nonce ∙ sym y.nonce) (omega (arith, x.count, y.count, le)) in
                or_right (nat_lt b.count a.count) (nat_le a.epoch b.epoch) (le-leb a.epoch b.epoch (omega (arith, x.epoch, y.epoch, rise))))
          ]

  -- no draw has an epoch above the journal's
  none-above : All (λ d. d.epoch ≤ epoch names (reverse journal) d.nonce) (flat_map drawn_in traces)
  none-above =
      let above = λ (d : NonceDraw). not (nat_le d.epoch (epoch names (reverse journal) d.nonce)) in
      let bounds = All-weaker (Contains drawn) (λ d. above d ≡ false) (λ d there. ap not (le-leb d.epoch (epoch names (reverse journal) d.nonce) (all.fresh.bound d there))) drawn (All-contains_itself drawn) in
      All-weaker (λ d. above d ≡ false) (λ d. d.epoch ≤ epoch names (reverse journal) d.nonce) (λ d is. leb-true d.epoch (epoch names (reverse journal) d.nonce) (not-false _ is)) (flat_map drawn_in traces)
      (count-none above (flat_map drawn_in traces) (all.times above ∙ none-count above drawn bounds))

-- WHERE DRAWS STAND

any-elim : {Q : Type 0} (p : Entry → Bool) (xs : List Entry) → IsTrue (list_any p xs) → ((x : Entry) → IsTrue (p x) → Q) → Q
any-elim p [] any each = absurd (false≢true any)
any-elim {Q} p (x ∷ xs) any each = at (p x) refl any (λ rest. any-elim p xs rest each)
  where
    at : (b : Bool) → p x ≡ b → IsTrue (b || list_any p xs) → (IsTrue (list_any p xs) → Q) → Q
    at true is some rest = each x is
    at false is some rest = rest some

or-either : {Q : Type 0} (a b : Bool) → IsTrue (a || b) → (IsTrue a → Q) → (IsTrue b → Q) → Q
or-either true b either first second = first refl
or-either false b either first second = second either

module _ (names : Tables) where
  knows-more : (xs : List Entry) (r n : ℕ) → IsTrue (knows names (without_draws xs) r n) → IsTrue (knows names xs r n)
  knows-more [] r n known = known
  knows-more (x ∷ xs) r n known = at (draws x.call) known (knows-more xs r n)
    where
      weaker : (a : Bool) → IsTrue (knows names xs r n) → IsTrue (list_any (λ e. has_nonce names (terms_in e.call) n || has_nonce names (terms_ready e.reply) n) (cond a (x ∷ own xs r) (own xs r)))
      weaker true k = or_right (has_nonce names (terms_in x.call) n || has_nonce names (terms_ready x.reply) n) _ k
      weaker false k = k

      inner : (a : Bool) → (IsTrue (knows names (without_draws xs) r n) → IsTrue (knows names xs r n)) → IsTrue (list_any (λ e. has_nonce names (terms_in e.call) n || has_nonce names (terms_ready e.reply) n) (cond a (x ∷ own (without_draws xs) r) (own (without_draws xs) r))) → IsTrue (list_any (λ e. has_nonce names (terms_in e.call) n || has_nonce names (terms_ready e.reply) n) (cond a (x ∷ own xs r) (own xs r)))
      inner true more k =
          or-either (has_nonce names (terms_in x.call) n || has_nonce names (terms_ready x.reply) n) _ k
          (λ first. or_left (has_nonce names (terms_in x.call) n || has_nonce names (terms_ready x.reply) n) _ first)
          (λ rest. or_right (has_nonce names (terms_in x.call) n || has_nonce names (terms_ready x.reply) n) _ (more rest))
      inner false more k = more k

      at : (b : Bool) → IsTrue (knows names (cond (not b) (x ∷ without_draws xs) (without_draws xs)) r n) → (IsTrue (knows names (without_draws xs) r n) → IsTrue (knows names xs r n)) → IsTrue (knows names (x ∷ xs) r n)
      at true k more = weaker (x.request == r) (more k)
      at false k more = inner (x.request == r) more k

  -- a nonce of terms is named
  nonce_named_of : AreNames names → (t n : ℕ) → 1 ≤ n → IsTrue (has_nonce names t n) → IsTrue (is_some (numbered names.nonces n))
  nonce_named_of kept t n low has = at (numbered names.terms t) refl (number_same _ n (and_right (not (t == 0)) (nonce_of names t == n) has))
    where
      at : (o : Option TermsName) → numbered names.terms t ≡ o → unwrap_or (option_map (λ (name : TermsName). name.nonce) o) 0 ≡ n → IsTrue (is_some (numbered names.nonces n))
      at None is same = absurd (omega arith)
      at (Some name) is same =
          let home = kept.home name t is in
          subst (λ k. IsTrue (is_some (numbered names.nonces k))) same
          (ap is_some home.nonce ∙ some-mapped (numbered names.spaces name.space) (some_of_test _ _ home.home))
        where
          some-mapped : (o : Option ProtectionSpace) → IsTrue (is_some o) → IsTrue (is_some {T = NonceName} (option_map (λ space. record { site = space.site; text = name.terms.nonce }) o))
          some-mapped None some = absurd (false≢true some)
          some-mapped (Some space) some = refl

  known_named : AreNames names → (past : List Entry) (r n : ℕ) → 1 ≤ n → IsTrue (knows names past r n) → IsTrue (is_some (numbered names.nonces n))
  known_named kept past r n low known =
      any-elim (λ e. has_nonce names (terms_in e.call) n || has_nonce names (terms_ready e.reply) n) (own past r) known
      (λ e either. or-either (has_nonce names (terms_in e.call) n) (has_nonce names (terms_ready e.reply) n) either
      (nonce_named_of kept (terms_in e.call) n low) (nonce_named_of kept (terms_ready e.reply) n low))

  -- ONE MORE ENTRY

  fits_plain : (whole past : List Entry) (c r : ℕ) (call : Call) (reply : BookReply) (n : ℕ) → draws call ≡ false → IsTrue (draws_fit names whole past n) → IsTrue (draws_fit names whole (record { caller = c; request = r; call = call; reply = reply } ∷ past) n)
  fits_plain whole past c r Begin reply n none fit = both _ true fit refl
  fits_plain whole past c r (Preempt target) reply n none fit = both _ true fit refl
  fits_plain whole past c r (Select s t) reply n none fit = both _ true fit refl
  fits_plain whole past c r (Reject s o) reply n none fit = both _ true fit refl
  fits_plain whole past c r (Renew gift t) reply n none fit = both _ true fit refl
  fits_plain whole past c r (Answer p x t) reply n none fit = both _ true fit refl
  fits_plain whole past c r (Lose p loss) reply n none fit = both _ true fit refl
  fits_plain whole past c r (Take p) reply n none fit = both _ true fit refl
  fits_plain whole past c r (Note gift) reply n none fit = both _ true fit refl
  fits_plain whole past c r End reply n none fit = both _ true fit refl
  fits_plain whole past c r (Draw m) reply n none fit = absurd (false≢true (sym none))

  fits_drawn : (whole past : List Entry) (c r : ℕ) (d : NonceDraw) (n : ℕ) → IsTrue (draws_fit names whole past n) → (d.nonce ≡ n → IsTrue (nat_le (epoch names (without_draws past) n) d.epoch && nat_le d.epoch (epoch names (without_draws whole) n) && knows names past r n)) → IsTrue (draws_fit names whole (entry_of c r d ∷ past) n)
  fits_drawn whole past c r d n fit here = at (d.nonce == n) refl
    where
      at : (b : Bool) → (d.nonce == n) ≡ b → IsTrue (draws_fit names whole (entry_of c r d ∷ past) n)
      at true is = rw is (both _ _ fit (here (number_same d.nonce n is)))
      at false is = rw is (both _ true fit refl)

  module _ (whole : List Entry) (n : ℕ) (traces : List (List StepTold)) (below : All (λ d. d.epoch ≤ epoch names (without_draws whole) d.nonce) (flat_map drawn_in traces)) where
    record Fits (past before : List Entry) : Type 0 where
      plain : without_draws before ≡ past
      fit : IsTrue (draws_fit names whole before n)

    fits_draws : (past : List Entry) (c r : ℕ) (ds : List NonceDraw) (before : List Entry) → Fits past before → All (IsDrawnAfter names past r) ds → All (λ d. d.epoch ≤ epoch names (without_draws whole) d.nonce) ds → Fits past (reverse (map (entry_of c r) ds) ++ before)
    fits_draws past c r [] before fits after low = fits
    fits_draws past c r (d ∷ ds) before fits after low =
        let one = All-head (IsDrawnAfter names past r) d ds after in
        let high = All-head (λ d. d.epoch ≤ epoch names (without_draws whole) d.nonce) d ds low in
        subst (Fits past) (sym (onto-cons (entry_of c r d) (map (entry_of c r) ds) before))
        (fits_draws past c r ds (entry_of c r d ∷ before)
        (record {
          plain = fits.plain;
          fit =
              fits_drawn whole before c r d n fits.fit (λ same.
              subst (λ k. IsTrue (nat_le (epoch names (without_draws before) k) d.epoch && nat_le d.epoch (epoch names (without_draws whole) k) && knows names before r k)) same
              (both (nat_le (epoch names (without_draws before) d.nonce) d.epoch && nat_le d.epoch (epoch names (without_draws whole) d.nonce)) (knows names before r d.nonce)
              (both (nat_le (epoch names (without_draws before) d.nonce) d.epoch) (nat_le d.epoch (epoch names (without_draws whole) d.nonce))
              (le-leb _ d.epoch (subst (λ (p : List Entry). epoch names p d.nonce ≤ d.epoch) (sym fits.plain) one.late))
              (le-leb d.epoch _ high))
              (knows-more before r d.nonce (subst (λ (p : List Entry). IsTrue (knows names p r d.nonce)) (sym fits.plain) one.known))));
        })
        (All-tail (IsDrawnAfter names past r) d ds after) (All-tail (λ d. d.epoch ≤ epoch names (without_draws whole) d.nonce) d ds low))

    fits_all : (past rest before : List Entry) → Fits past before → All NoDraw rest → AreDrawnInTime names traces past rest → IsTrue (draws_fit names whole (reverse (merge_behind traces past rest) ++ before) n)
    fits_all past [] before fits none in_time = fits.fit
    fits_all past (entry ∷ rest) before fits none in_time =
        let plain = All-head NoDraw entry rest none in
        let c = entry.caller in
        let r = entry.request in
        let t = trace_of traces r in
        let k = count_of r past + 1 in
        let ds = drawn_behind t k in
        let m = merge_behind traces (entry ∷ past) rest in
        let low = λ (d : NonceDraw). d.epoch ≤ epoch names (without_draws whole) d.nonce in
        let first : Fits (entry ∷ past) (entry ∷ before) = record {
          plain = ap (λ b. cond (not b) (entry ∷ without_draws before) (without_draws before)) plain ∙ ap (λ (l : List Entry). entry ∷ l) fits.plain;
          fit = fits_plain whole before c r entry.call entry.reply n plain fits.fit;
        } in
        let drawn = fits_draws (entry ∷ past) c r ds (entry ∷ before) first in_time.0 (all_behind low t k (all_of_trace low traces (r - 1) below)) in
        subst (λ (l : List Entry). IsTrue (draws_fit names whole l n))
        (sym (onto-cons entry (draws_behind c r t k ++ m) before ∙ onto-append (draws_behind c r t k) m (entry ∷ before) ∙ ap (λ (l : List Entry). reverse m ++ (reverse l ++ (entry ∷ before))) (draws_are c r t k)))
        (fits_all (entry ∷ past) rest (reverse (map (entry_of c r) ds) ++ (entry ∷ before)) drawn (All-tail NoDraw entry rest none) in_time.1)

  -- EACH DRAW IS RIGHT

  abbrev Right : Entry → Type 0
  Right entry = IsTrue (is_right_draw names entry.call entry.reply)

  right_plain : (call : Call) (reply : BookReply) → draws call ≡ false → IsTrue (is_right_draw names call reply)
  right_plain Begin reply none = refl
  right_plain (Preempt target) reply none = refl
  right_plain (Select s t) reply none = refl
  right_plain (Reject s o) reply none = refl
  right_plain (Renew gift t) reply none = refl
  right_plain (Answer p x t) reply none = refl
  right_plain (Lose p loss) reply none = refl
  right_plain (Take p) reply none = refl
  right_plain (Note gift) reply none = refl
  right_plain End reply none = refl
  right_plain (Draw m) reply none = absurd (false≢true (sym none))

  right_draws : AreNames names → (past : List Entry) (c r : ℕ) (ds : List NonceDraw) → All (IsDrawnAfter names past r) ds → All Right (map (entry_of c r) ds)
  right_draws kept past c r [] after = All-nil Right
  right_draws kept past c r (d ∷ ds) after =
      let one = All-head (IsDrawnAfter names past r) d ds after in
      All-cons Right (entry_of c r d) (map (entry_of c r) ds) (known_named kept past r d.nonce one.named one.known) (right_draws kept past c r ds (All-tail (IsDrawnAfter names past r) d ds after))

  right_all : AreNames names → (traces : List (List StepTold)) (past rest : List Entry) → All NoDraw rest → AreDrawnInTime names traces past rest → All Right (merge_behind traces past rest)
  right_all kept traces past [] none in_time = All-nil Right
  right_all kept traces past (entry ∷ rest) none in_time =
      let t = trace_of traces entry.request in
      let k = count_of entry.request past + 1 in
      let m = merge_behind traces (entry ∷ past) rest in
      let drawn : All Right (draws_behind entry.caller entry.request t k) = subst (All Right) (sym (draws_are entry.caller entry.request t k)) (right_draws kept (entry ∷ past) entry.caller entry.request (drawn_behind t k) in_time.0) in
      All-cons Right entry (draws_behind entry.caller entry.request t k ++ m) (right_plain entry.call entry.reply (All-head NoDraw entry rest none))
      (All-append Right (draws_behind entry.caller entry.request t k) m drawn (right_all kept traces (entry ∷ past) rest (All-tail NoDraw entry rest none) in_time.1))

-- THE LAW

module _ (names : Tables) (journal : List Entry) (traces : List (List StepTold)) (drawn : List NonceDraw) (all : AreDraws names journal traces drawn) (plain : without_draws journal ≡ journal) where
  none : All NoDraw journal
  none = no-draws journal plain

  pub merged-entries : without_draws (merge journal traces) ≡ journal
  merged-entries = ap without_draws (merged-is names journal traces drawn all none) ∙ without-behind traces [] journal none

  pub merged-legal : (roster : Roster) → IsLegal roster names journal → IsLegal roster names (merge journal traces)
  merged-legal roster legal = subst (λ (l : List Entry). IsLegalPast roster names (reverse l)) (plain ∙ sym merged-entries) legal

  merged-fits : (n : ℕ) → IsTrue (draws_fit names (reverse (merge journal traces)) (reverse (merge journal traces)) n)
  merged-fits n =
      let whole = reverse (merge journal traces) in
      let last : without_draws whole ≡ reverse journal = without-reverse (merge journal traces) ∙ ap reverse merged-entries in
      let below = subst (λ (p : List Entry). All (λ (d : NonceDraw). d.epoch ≤ epoch names p d.nonce) (flat_map drawn_in traces)) (sym last) (none-above names journal traces drawn all none) in
      let fit = fits_all names whole n traces below [] journal [] (record { plain = refl; fit = refl }) none all.in_time in
      subst (λ (l : List Entry). IsTrue (draws_fit names whole l n)) (append-nil (reverse (merge_behind traces [] journal)) ∙ ap reverse (sym (merged-is names journal traces drawn all none))) fit

  pub merged-fresh : AreNames names → IsTrue (fresh names (merge journal traces))
  merged-fresh kept =
      let history = merge journal traces in
      both (list_all (λ entry. is_right_draw names entry.call entry.reply) history) _
      (all-list (λ entry. is_right_draw names entry.call entry.reply) history (subst (All (Right names)) (sym (merged-is names journal traces drawn all none)) (right_all names kept traces [] journal none all.in_time)))
      (all-range (fresh_nonce names (reverse history)) 1 (length names.nonces) (λ n low high.
      both _ _ (both _ _ (counts-once names journal traces drawn all none n) (epochs-rise names journal traces drawn all none n)) (merged-fits n)))
