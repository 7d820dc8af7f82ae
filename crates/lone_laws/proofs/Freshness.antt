-- A history in which each draw is the next one of its nonce, and of a request that knows the nonce, is fresh.
use Rattle.std.proofs.Common.{◌≡◌, ℕ, zero, suc, ◌+◌, ◌≤◌, ◌<◌, ◌^◌, ◌==◌, Bool, true, false, not, ◌&&◌, ◌||◌, cond, IsTrue, List, [], ◌∷◌, ◌++◌, inl, inr, length, reverse, Some, None, is_some, refl, sym, ap, ◌∙◌, subst, arith}
use Rattle.std.specs.Prelude.{count_by, nat_le, nat_lt}
use Rattle.std.specs.List.{cons_option, list_all, list_any, range_with_len}
use Rattle.std.proofs.lemmas.Bool.{cases_lt, eq-eqb, false≢true, le-leb, lt-ltb}
use Rattle.std.proofs.lemmas.List.{reverse-append, reverse-reverse}
use Rattle.std.proofs.lemmas.List.Sums.{sum_by-cons}
use Rattle.spaces.specs.Sites.{numbered}
use Rattle.auth_events.specs.declared.journal.BookReply.{BookReply}
use Rattle.auth_events.specs.declared.journal.BookReply.TheVariants.{Drawn}
use Rattle.auth_events.specs.declared.journal.Call.{Call}
use Rattle.auth_events.specs.declared.journal.Call.TheVariants.{Begin, Preempt, Select, Reject, Renew, Answer, Lose, Take, Note, End, Draw}
use Rattle.auth_events.specs.declared.journal.Entry.{Entry}
use Rattle.auth_events.specs.Book.{draws, epoch, own, takes_out, without_draws}
use Rattle.auth_events.specs.Fresh.{DrawMade, counts_once, draw_in, draws_fit, draws_of, epochs_rise, fresh, fresh_nonce, has_nonce, is_right_draw, knows, terms_ready}
use Rattle.auth_events.specs.Past.{terms_in}
use Rattle.auth_events.specs.Tables.{Tables}
use Rattle.auth_events.proofs.Numbers.{and_left, and_right, both, or_left, or_right}
use Rattle.auth_events.proofs.Same.{number_refl, number_same}
use Rattle.trace_rule.proofs.Knowing.{both_of as both_parts}
use Rattle.run_rule.specs.Drawing.{are_next_draws, is_next_draw}

-- LISTS

all_range : (p : ℕ → Bool) (a n : ℕ) → ((c : ℕ) → a ≤ c → c < a + n → IsTrue (p c)) → IsTrue (list_all p (range_with_len a n))
all_range p a zero each = refl
all_range p a (suc n) each =
    both (p a) (list_all p (range_with_len (a + 1) n)) (each a (omega arith) (omega arith)) (all_range p (a + 1) n (λ c le lt. each c (omega (arith, le)) (omega (arith, lt))))

all_both : {A : Type 0} (f g : A → Bool) (xs : List A) → IsTrue (list_all f xs) → IsTrue (list_all g xs) → IsTrue (list_all (λ x. f x && g x) xs)
all_both f g [] p q = refl
all_both f g (x ∷ xs) p q =
    both (f x && g x) (list_all (λ y. f y && g y) xs) (both (f x) (g x) (and_left (f x) (list_all f xs) p) (and_left (g x) (list_all g xs) q))
    (all_both f g xs (and_right (f x) (list_all f xs) p) (and_right (g x) (list_all g xs) q))

all_weaker : {A : Type 0} (f g : A → Bool) → ((x : A) → IsTrue (f x) → IsTrue (g x)) → (xs : List A) → IsTrue (list_all f xs) → IsTrue (list_all g xs)
all_weaker f g so [] p = refl
all_weaker f g so (x ∷ xs) p = both (g x) (list_all g xs) (so x (and_left (f x) (list_all f xs) p)) (all_weaker f g so xs (and_right (f x) (list_all f xs) p))

all_append : {A : Type 0} (f : A → Bool) (xs ys : List A) → IsTrue (list_all f xs) → IsTrue (list_all f ys) → IsTrue (list_all f (xs ++ ys))
all_append f [] ys p q = q
all_append f (x ∷ xs) ys p q = both (f x) (list_all f (xs ++ ys)) (and_left (f x) (list_all f xs) p) (all_append f xs ys (and_right (f x) (list_all f xs) p) q)

all_reverse : {A : Type 0} (f : A → Bool) (xs : List A) → IsTrue (list_all f xs) → IsTrue (list_all f (reverse xs))
all_reverse f [] p = refl
all_reverse f (x ∷ xs) p =
    subst (λ l. IsTrue (list_all f l)) (sym (reverse-append (x ∷ []) xs))
    (all_append f (reverse xs) (x ∷ []) (all_reverse f xs (and_right (f x) (list_all f xs) p)) (both (f x) true (and_left (f x) (list_all f xs) p) refl))

counted_by : (c : ℕ) (d : DrawMade) (made : List DrawMade) → count_by (λ (x : DrawMade). x.count == c) (d ∷ made) ≡ cond (d.count == c) 1 0 + count_by (λ (x : DrawMade). x.count == c) made
counted_by c d made = sum_by-cons (λ (x : DrawMade). cond (x.count == c) 1 0) d made

other_count : (a b : ℕ) → (a ≡ b → ⊥) → (a == b) ≡ false
other_count a b differ = at (a == b) refl
  where
    at : (x : Bool) → (a == b) ≡ x → x ≡ false
    at true e = absurd (differ (number_same a b e))
    at false e = refl

-- COUNTS

-- each draw, the latest first, has the count of its turn, and no earlier one a later epoch
abbrev AreInTurn : List DrawMade → Type 0
AreInTurn [] = Unit {0}
AreInTurn (d ∷ made) = AreInTurn made × (d.count ≡ length made + 1) × IsTrue (list_all (λ b. nat_le b.epoch d.epoch) made)

no_count : (made : List DrawMade) → AreInTurn made → (c : ℕ) → length made < c → count_by (λ (x : DrawMade). x.count == c) made ≡ 0
no_count [] turn c high = refl
no_count (d ∷ made) turn c high =
    let other : (d.count == c) ≡ false = other_count d.count c (λ e. omega (arith, e, turn.1, high)) in
    let zero_here : cond {A = ℕ} (d.count == c) 1 0 ≡ 0 = ap (λ b. cond {A = ℕ} b 1 0) other in
    omega (arith, counted_by c d made, zero_here, no_count made turn.0 c (omega (arith, high)))

one_count : (made : List DrawMade) → AreInTurn made → (c : ℕ) → 1 ≤ c → c ≤ length made → count_by (λ (x : DrawMade). x.count == c) made ≡ 1
one_count [] turn c low high = absurd (omega (arith, low, high))
one_count (d ∷ made) turn c low high = at (d.count == c) refl (one_count made turn.0 c low)
  where
    below : (d.count == c) ≡ false → c ≤ length made
    below f =
        elim (cases_lt (length made) c) [
          | inl over ↦ (let same : d.count ≡ c = omega (arith, over, high, turn.1) in absurd (false≢true (sym f ∙ (ap (λ x. x == c) same ∙ number_refl c))))
          | inr le ↦ le
        ]

    at : (b : Bool) → (d.count == c) ≡ b → (c ≤ length made → count_by (λ (x : DrawMade). x.count == c) made ≡ 1) → count_by (λ (x : DrawMade). x.count == c) (d ∷ made) ≡ 1
    at true e earlier =
        let same : d.count ≡ c = number_same d.count c e in
        let one_here : cond {A = ℕ} (d.count == c) 1 0 ≡ 1 = ap (λ b. cond {A = ℕ} b 1 0) e in
        omega (arith, counted_by c d made, one_here, no_count made turn.0 c (omega (arith, same, turn.1)))
    at false e earlier =
        let zero_here : cond {A = ℕ} (d.count == c) 1 0 ≡ 0 = ap (λ b. cond {A = ℕ} b 1 0) e in
        omega (arith, counted_by c d made, zero_here, earlier (below e))

counts_low : (made : List DrawMade) → AreInTurn made → (top : ℕ) → length made < top → IsTrue (list_all (λ (b : DrawMade). nat_lt b.count top) made)
counts_low [] turn top high = refl
counts_low (d ∷ made) turn top high =
    both (nat_lt d.count top) (list_all (λ (b : DrawMade). nat_lt b.count top) made) (lt-ltb d.count top (omega (arith, turn.1, high))) (counts_low made turn.0 top (omega (arith, high)))

abbrev later_or_lower : DrawMade → DrawMade → Bool
later_or_lower a b = nat_lt b.count a.count || nat_le a.epoch b.epoch

rises : (made : List DrawMade) → AreInTurn made → IsTrue (list_all (λ a. list_all (later_or_lower a) made) made)
rises [] turn = refl
rises (d ∷ made) turn =
    both (list_all (later_or_lower d) (d ∷ made)) (list_all (λ a. list_all (later_or_lower a) (d ∷ made)) made)
    (both (later_or_lower d d) (list_all (later_or_lower d) made) (or_right (nat_lt d.count d.count) (nat_le d.epoch d.epoch) (le-leb d.epoch d.epoch (omega arith)))
    (all_weaker (λ b. nat_lt b.count d.count) (later_or_lower d) (λ b h. or_left (nat_lt b.count d.count) (nat_le d.epoch b.epoch) h) made (counts_low made turn.0 d.count (omega (arith, turn.1)))))
    (all_both (λ a. later_or_lower a d) (λ a. list_all (later_or_lower a) made) made
    (all_weaker (λ a. nat_le a.epoch d.epoch) (λ a. later_or_lower a d) (λ a h. or_right (nat_lt d.count a.count) (nat_le a.epoch d.epoch) h) made turn.2)
    (rises made turn.0))

module _ (names : Tables) where
  -- EPOCHS

  epoch_up : (entry : Entry) (past : List Entry) (n : ℕ) → epoch names (without_draws past) n ≤ epoch names (without_draws (entry ∷ past)) n
  epoch_up entry past n = at (draws entry.call)
    where
      more : (b : Bool) (k : ℕ) → k ≤ cond b 1 0 + k
      more true k = omega arith
      more false k = omega arith

      at : (b : Bool) → epoch names (without_draws past) n ≤ epoch names (cond (not b) (entry ∷ without_draws past) (without_draws past)) n
      at true = omega arith
      at false = more (takes_out names entry (without_draws past) n) (epoch names (without_draws past) n)

  abbrev is_low : ℕ → DrawMade → Bool
  is_low top b = nat_le b.epoch top

  -- a draw that the next entry is
  turn_at : (past : List Entry) (n : ℕ) (call : Call) (reply : BookReply) → IsTrue (is_next_draw names past call reply) → AreInTurn (draws_of past n) → IsTrue (list_all (is_low (epoch names (without_draws past) n)) (draws_of past n))
      → AreInTurn (cons_option (draw_in call reply n) (draws_of past n))
  turn_at past n (Draw m) (Drawn c e) next turn low = at (m == n) refl
    where
      parts : IsTrue (c == length (draws_of past m) + 1) × IsTrue (e == epoch names (without_draws past) m)
      parts = both_parts (c == length (draws_of past m) + 1) (e == epoch names (without_draws past) m) next

      at : (b : Bool) → (m == n) ≡ b → AreInTurn (cons_option (cond b (Some (record { count = c; epoch = e })) None) (draws_of past n))
      at true is =
          let same : m ≡ n = number_same m n is in (
            turn,
            number_same c (length (draws_of past m) + 1) parts.0 ∙ ap (λ x. length (draws_of past x) + 1) same,
            subst (λ k. IsTrue (list_all (is_low k) (draws_of past n))) (sym (number_same e (epoch names (without_draws past) m) parts.1 ∙ ap (epoch names (without_draws past)) same)) low,
          )
      at false is = turn
  turn_at past n (Draw m) _ next turn low = absurd (false≢true next)
  turn_at past n _ reply next turn low = turn

  low_at : (past : List Entry) (n top : ℕ) (call : Call) (reply : BookReply) → IsTrue (is_next_draw names past call reply) → epoch names (without_draws past) n ≤ top → IsTrue (list_all (is_low top) (draws_of past n))
      → IsTrue (list_all (is_low top) (cons_option (draw_in call reply n) (draws_of past n)))
  low_at past n top (Draw m) (Drawn c e) next le low = at (m == n) refl
    where
      parts : IsTrue (c == length (draws_of past m) + 1) × IsTrue (e == epoch names (without_draws past) m)
      parts = both_parts (c == length (draws_of past m) + 1) (e == epoch names (without_draws past) m) next

      at : (b : Bool) → (m == n) ≡ b → IsTrue (list_all (is_low top) (cons_option (cond b (Some (record { count = c; epoch = e })) None) (draws_of past n)))
      at true is =
          let same : e ≡ epoch names (without_draws past) n = number_same e (epoch names (without_draws past) m) parts.1 ∙ ap (epoch names (without_draws past)) (number_same m n is) in
          both (nat_le e top) (list_all (is_low top) (draws_of past n)) (le-leb e top (omega (arith, same, le))) low
      at false is = low
  low_at past n top (Draw m) _ next le low = absurd (false≢true next)
  low_at past n top _ reply next le low = low

  abbrev AreNext : List Entry → Type 0
  AreNext past = IsTrue (are_next_draws names past)

  low_all : (past : List Entry) (n top : ℕ) → AreNext past → epoch names (without_draws past) n ≤ top → IsTrue (list_all (is_low top) (draws_of past n))
  low_all [] n top next le = refl
  low_all (entry ∷ past) n top next le =
      let parts = both_parts (are_next_draws names past) (is_next_draw names past entry.call entry.reply) next in
      let up = epoch_up entry past n in
      let here : epoch names (without_draws past) n ≤ top = omega (arith, up, le) in
      low_at past n top entry.call entry.reply parts.1 here (low_all past n top parts.0 here)

  in_turn : (past : List Entry) (n : ℕ) → AreNext past → AreInTurn (draws_of past n)
  in_turn [] n next = tt
  in_turn (entry ∷ past) n next =
      let parts = both_parts (are_next_draws names past) (is_next_draw names past entry.call entry.reply) next in
      turn_at past n entry.call entry.reply parts.1 (in_turn past n parts.0) (low_all past n (epoch names (without_draws past) n) parts.0 (omega arith))

  -- WHO DRAWS

  -- the request of the draw knows the nonce, which is named
  abbrev pub IsKnownDraw : List Entry → ℕ → Call → Type 0
  IsKnownDraw entries r (Draw m) = IsTrue (knows names entries r m) × IsTrue (is_some (numbered names.nonces m))
  IsKnownDraw entries r call = Unit {0}

  -- so it is of each draw, by the entries before it
  abbrev pub AreKnownDraws : List Entry → Type 0
  AreKnownDraws [] = Unit {0}
  AreKnownDraws (entry ∷ past) = AreKnownDraws past × IsKnownDraw (without_draws past) entry.request entry.call

  abbrev knowing : ℕ → Entry → Bool
  knowing n e = has_nonce names (terms_in e.call) n || has_nonce names (terms_ready e.reply) n

  knows_more : (xs : List Entry) (r n : ℕ) → IsTrue (knows names (without_draws xs) r n) → IsTrue (knows names xs r n)
  knows_more [] r n known = known
  knows_more (x ∷ xs) r n known = at (draws x.call) known (knows_more xs r n)
    where
      either : (a b c : Bool) → IsTrue (a || b) → (IsTrue b → IsTrue c) → IsTrue (a || c)
      either true b c h f = refl
      either false b c h f = f h

      weaker : (a : Bool) → IsTrue (knows names xs r n) → IsTrue (list_any (knowing n) (cond a (x ∷ own xs r) (own xs r)))
      weaker true k = or_right (knowing n x) (list_any (knowing n) (own xs r)) k
      weaker false k = k

      inner : (a : Bool) → (IsTrue (knows names (without_draws xs) r n) → IsTrue (knows names xs r n)) → IsTrue (list_any (knowing n) (cond a (x ∷ own (without_draws xs) r) (own (without_draws xs) r))) → IsTrue (list_any (knowing n) (cond a (x ∷ own xs r) (own xs r)))
      inner true more k = either (knowing n x) (list_any (knowing n) (own (without_draws xs) r)) (list_any (knowing n) (own xs r)) k more
      inner false more k = more k

      at : (b : Bool) → IsTrue (knows names (cond (not b) (x ∷ without_draws xs) (without_draws xs)) r n) → (IsTrue (knows names (without_draws xs) r n) → IsTrue (knows names xs r n)) → IsTrue (knows names (x ∷ xs) r n)
      at true k more = weaker (x.request == r) (more k)
      at false k more = inner (x.request == r) more k

  -- EACH DRAW FITS

  fit_at : (whole past : List Entry) (w r n : ℕ) (call : Call) (reply : BookReply) → IsTrue (draws_fit names whole past n) → IsTrue (is_next_draw names past call reply) → IsKnownDraw (without_draws past) r call
      → epoch names (without_draws past) n ≤ epoch names (without_draws whole) n → IsTrue (draws_fit names whole (record { caller = w; request = r; call = call; reply = reply } ∷ past) n)
  fit_at whole past w r n (Draw m) (Drawn c e) fit next known le = at (m == n) refl
    where
      parts : IsTrue (c == length (draws_of past m) + 1) × IsTrue (e == epoch names (without_draws past) m)
      parts = both_parts (c == length (draws_of past m) + 1) (e == epoch names (without_draws past) m) next

      at : (b : Bool) → (m == n) ≡ b → IsTrue (draws_fit names whole (record { caller = w; request = r; call = Draw m; reply = Drawn c e } ∷ past) n)
      at true is =
          let same : e ≡ epoch names (without_draws past) n = number_same e (epoch names (without_draws past) m) parts.1 ∙ ap (epoch names (without_draws past)) (number_same m n is) in
          rw is (both _ _ fit
          (both _ (knows names past r n)
          (both (nat_le (epoch names (without_draws past) n) e) (nat_le e (epoch names (without_draws whole) n)) (le-leb _ e (omega (arith, same))) (le-leb e _ (omega (arith, same, le))))
          (knows_more past r n (subst (λ k. IsTrue (knows names (without_draws past) r k)) (number_same m n is) known.0))))
      at false is = rw is (both _ true fit refl)
  fit_at whole past w r n (Draw m) _ fit next known le = absurd (false≢true next)
  fit_at whole past w r n Begin reply fit next known le = both _ true fit refl
  fit_at whole past w r n (Preempt target) reply fit next known le = both _ true fit refl
  fit_at whole past w r n (Select s t) reply fit next known le = both _ true fit refl
  fit_at whole past w r n (Reject s o) reply fit next known le = both _ true fit refl
  fit_at whole past w r n (Renew gift t) reply fit next known le = both _ true fit refl
  fit_at whole past w r n (Answer p x t) reply fit next known le = both _ true fit refl
  fit_at whole past w r n (Lose p loss) reply fit next known le = both _ true fit refl
  fit_at whole past w r n (Take p) reply fit next known le = both _ true fit refl
  fit_at whole past w r n (Note gift) reply fit next known le = both _ true fit refl
  fit_at whole past w r n End reply fit next known le = both _ true fit refl

  fit_all : (whole past : List Entry) (n : ℕ) → AreNext past → AreKnownDraws past → epoch names (without_draws past) n ≤ epoch names (without_draws whole) n → IsTrue (draws_fit names whole past n)
  fit_all whole [] n next known le = refl
  fit_all whole (entry ∷ past) n next known le =
      let parts = both_parts (are_next_draws names past) (is_next_draw names past entry.call entry.reply) next in
      let up = epoch_up entry past n in
      let here : epoch names (without_draws past) n ≤ epoch names (without_draws whole) n = omega (arith, up, le) in
      fit_at whole past entry.caller entry.request n entry.call entry.reply (fit_all whole past n parts.0 known.0 here) parts.1 known.1 here

  -- EACH DRAW IS RIGHT

  right_at : (past : List Entry) (r : ℕ) (call : Call) (reply : BookReply) → IsTrue (is_next_draw names past call reply) → IsKnownDraw (without_draws past) r call → IsTrue (is_right_draw names call reply)
  right_at past r (Draw m) (Drawn c e) next known = known.1
  right_at past r (Draw m) _ next known = absurd (false≢true next)
  right_at past r _ reply next known = refl

  right_all : (past : List Entry) → AreNext past → AreKnownDraws past → IsTrue (list_all (λ (entry : Entry). is_right_draw names entry.call entry.reply) past)
  right_all [] next known = refl
  right_all (entry ∷ past) next known =
      let parts = both_parts (are_next_draws names past) (is_next_draw names past entry.call entry.reply) next in
      both (is_right_draw names entry.call entry.reply) (list_all (λ (e : Entry). is_right_draw names e.call e.reply) past)
      (right_at past entry.request entry.call entry.reply parts.1 known.1) (right_all past parts.0 known.0)

  -- THE HISTORY

  pub fresh_history : (past : List Entry) → AreNext past → AreKnownDraws past → ((n : ℕ) → 1 ≤ n → n ≤ length names.nonces → length (draws_of past n) ≤ 2 ^ 30) → IsTrue (fresh names (reverse past))
  fresh_history past next known few =
      both (list_all (λ (entry : Entry). is_right_draw names entry.call entry.reply) (reverse past)) (list_all (fresh_nonce names (reverse (reverse past))) (range_with_len 1 (length names.nonces)))
      (all_reverse (λ (entry : Entry). is_right_draw names entry.call entry.reply) past (right_all past next known))
      (subst (λ l. IsTrue (list_all (fresh_nonce names l) (range_with_len 1 (length names.nonces)))) (sym (reverse-reverse past))
      (all_range (fresh_nonce names past) 1 (length names.nonces) (λ n low high. nonce n (few n low (omega (arith, high))))))
    where
      nonce : (n : ℕ) → length (draws_of past n) ≤ 2 ^ 30 → IsTrue (fresh_nonce names past n)
      nonce n small =
          let made = draws_of past n in
          let turn : AreInTurn made = in_turn past n next in
          both (counts_once names made && epochs_rise names made) (draws_fit names past past n)
          (both (counts_once names made) (epochs_rise names made)
          (both (nat_le (length made) (2 ^ 30)) (list_all (λ c. count_by (λ (draw : DrawMade). draw.count == c) made == 1) (range_with_len 1 (length made)))
          (le-leb (length made) (2 ^ 30) small)
          (all_range (λ c. count_by (λ (draw : DrawMade). draw.count == c) made == 1) 1 (length made)
          (λ c low high. eq-eqb (count_by (λ (draw : DrawMade). draw.count == c) made) 1 (one_count made turn c low (omega (arith, high))))))
          (rises made turn))
          (fit_all past past n next known (omega arith))
