-- Draws seen through weights: the order in which they lie in the seats' lists then plays no part.
use Rattle.std.proofs.Common.{◌≡◌, ℕ, zero, suc, ◌+◌, ◌<◌, ◌≤◌, ◌≢◌, ◌⊎◌, ◌&&◌, ◌==◌, List, [], ◌∷◌, sym, refl, ap, ◌∙◌, subst, inl, inr, ⊎_elim, arith, cond, eq-eqb, ne_eqb, sum_by, Contains}
use Rattle.std.proofs.lemmas.List.Sums.{sum_by-cons}
use mathlib.Core.Logic.{dite}
use native.Mathlib.Decide.{ℕ_discrete, dec_le}
use Rattle.nonce_words.specs.Fresh.{IsFresh, once_up_to}
use Rattle.nonce_words.specs.declared.draw.NonceDraw.{NonceDraw}

-- the sum of a weight over all draws
abbrev pub Weigh : Type 0
Weigh = (NonceDraw → ℕ) → ℕ

abbrev pub draw : ℕ → ℕ → ℕ → NonceDraw
draw n c e = record { nonce = n; count = c; epoch = e }

-- 1 where the draw is of the nonce n, and else 0
abbrev pub is_of : ℕ → NonceDraw → ℕ
is_of n d = cond (d.nonce == n) 1 0

-- .. and its count is c
abbrev pub is_at : ℕ → ℕ → NonceDraw → ℕ
is_at n c d = cond (d.nonce == n && d.count == c) 1 0

-- .. and its epoch is that of e
abbrev pub is_just : NonceDraw → NonceDraw → ℕ
is_just e d = cond (d.nonce == e.nonce) (cond (d.count == e.count) (cond (d.epoch == e.epoch) 1 0) 0) 0

-- `IsFresh` by weights
pub record IsFreshBy (W : Weigh) (E : ℕ → ℕ) : Type 0 where
  pub once : (n c : ℕ) → W (is_at n c) ≡ once_up_to (W (is_of n)) c
  pub rising : (d e : NonceDraw) → 0 < W (is_just d) → 0 < W (is_just e) → d.nonce ≡ e.nonce → d.count ≤ e.count → d.epoch ≤ e.epoch
  pub bound : (d : NonceDraw) → 0 < W (is_just d) → d.epoch ≤ E d.nonce

pub is_of-here : (n c e : ℕ) → is_of n (draw n c e) ≡ 1
is_of-here n c e = ap (λ b. cond b 1 0) (eq-eqb n n refl)

pub is_of-else : (n m c e : ℕ) → n ≢ m → is_of m (draw n c e) ≡ 0
is_of-else n m c e ne = ap (λ b. cond b 1 0) (ne_eqb n m ne)

pub is_at-here : (n c e : ℕ) → is_at n c (draw n c e) ≡ 1
is_at-here n c e = ap (λ b. cond (b && c == c) 1 0) (eq-eqb n n refl) ∙ ap (λ b. cond b 1 0) (eq-eqb c c refl)

pub is_at-nonce : (n m c k e : ℕ) → n ≢ m → is_at m k (draw n c e) ≡ 0
is_at-nonce n m c k e ne = ap (λ b. cond (b && c == k) 1 0) (ne_eqb n m ne)

pub is_at-count : (n m c k e : ℕ) → c ≢ k → is_at m k (draw n c e) ≡ 0
is_at-count n m c k e ne = dite (ℕ_discrete n m) (λ is. ap (λ b. cond (b && c == k) 1 0) (eq-eqb n m is) ∙ ap (λ b. cond b 1 0) (ne_eqb c k ne)) (λ not. is_at-nonce n m c k e not)

-- where it isn't 0, the two are the same
pub is_just-same : (e d : NonceDraw) → 0 < is_just e d → (d.nonce ≡ e.nonce) × (d.count ≡ e.count) × (d.epoch ≡ e.epoch)
is_just-same e d h = grind arith

pub is_just-self : (d : NonceDraw) → is_just d d ≡ 1
is_just-self d = grind arith

pub is_just-at : (e d : NonceDraw) → is_just e d ≤ is_at e.nonce e.count d
is_just-at e d = grind arith

same_draw : (d e : NonceDraw) → (d.nonce ≡ e.nonce) × (d.count ≡ e.count) × (d.epoch ≡ e.epoch) → d ≡ e
same_draw d e s i = record { nonce = s.0 i; count = s.1 i; epoch = s.2 i }

-- what a list contains has weight
pub contains_weighs : (l : List NonceDraw) (d : NonceDraw) → Contains l d → 0 < sum_by (is_just d) l
contains_weighs [] d h = absurd (omega (arith, h.1))
contains_weighs (x ∷ xs) d (zero, within, is) = omega (arith, sum_by-cons (is_just d) x xs, ap (is_just d) is, is_just-self d)
contains_weighs (x ∷ xs) d (suc k, within, is) = omega (arith, sum_by-cons (is_just d) x xs, contains_weighs xs d (k, omega arith, is))

pub weighs_contains : (l : List NonceDraw) (d : NonceDraw) → 0 < sum_by (is_just d) l → Contains l d
weighs_contains [] d h = absurd (omega arith)
weighs_contains (x ∷ xs) d h = dite (dec_le 1 (is_just d x))
    (λ here. (0, omega arith, same_draw x d (is_just-same d x here)))
    (λ not. let w = weighs_contains xs d (omega (arith, sum_by-cons (is_just d) x xs)) in (suc w.0, omega (arith, w.1), w.2))

pub by_weights : (l : List NonceDraw) (E : ℕ → ℕ) → IsFresh l E → IsFreshBy (λ f. sum_by f l) E
by_weights l E f = record {
  once = f.once;
  rising = λ d e h i. f.rising d e (weighs_contains l d h) (weighs_contains l e i);
  bound = λ d h. f.bound d (weighs_contains l d h);
}

pub of_weights : (l : List NonceDraw) (E : ℕ → ℕ) → IsFreshBy (λ f. sum_by f l) E → IsFresh l E
of_weights l E f = record {
  once = f.once;
  rising = λ d e h i. f.rising d e (contains_weighs l d h) (contains_weighs l e i);
  bound = λ d h. f.bound d (contains_weighs l d h);
}

once_none : (k : ℕ) → once_up_to k (k + 1) ≡ 0
once_none k = grind arith

once_last : (k : ℕ) → once_up_to (k + 1) (k + 1) ≡ 1
once_last k = grind arith

once_else : (c k : ℕ) → c ≢ k + 1 → once_up_to (k + 1) c ≡ once_up_to k c
once_else c k ne = grind arith

once_le : (c k : ℕ) → 0 < once_up_to k c → c ≤ k
once_le c k h = grind arith

-- one more draw, of the next count and the epoch of now
module _ (W W' : Weigh) (E : ℕ → ℕ) (n : ℕ) (f : IsFreshBy W E) (gains : (g : NonceDraw → ℕ) → W' g ≡ W g + g (draw n (W (is_of n) + 1) (E n))) (within : (d : NonceDraw) → W (is_just d) ≤ W (is_at d.nonce d.count)) where
  abbrev next : NonceDraw
  next = draw n (W (is_of n) + 1) (E n)

  once : (m c : ℕ) → W' (is_at m c) ≡ once_up_to (W' (is_of m)) c
  once m c = dite (ℕ_discrete n m)
      (λ is. let k : ℕ = W (is_of n) in let more : W' (is_of n) ≡ k + 1 = gains (is_of n) ∙ ap (λ (i : ℕ). k + i) (is_of-here n (k + 1) (E n)) in
      subst (λ (x : ℕ). W' (is_at x c) ≡ once_up_to (W' (is_of x)) c) is (
      dite (ℕ_discrete c (k + 1))
      (λ last. subst (λ (x : ℕ). W' (is_at n x) ≡ once_up_to (W' (is_of n)) x) (sym last) (omega (arith, gains (is_at n (k + 1)), is_at-here n (k + 1) (E n), f.once n (k + 1), once_none k, once_last k, ap (λ (i : ℕ). once_up_to i (k + 1)) more)))
      (λ ne. omega (arith, gains (is_at n c), is_at-count n n (k + 1) c (E n) (λ e. ne (sym e)), f.once n c, once_else c k ne, ap (λ (i : ℕ). once_up_to i c) more))))
      (λ ne. let k : ℕ = W (is_of n) in let same : W' (is_of m) ≡ W (is_of m) = omega (arith, gains (is_of m), is_of-else n m (k + 1) (E n) ne) in
      omega (arith, gains (is_at m c), is_at-nonce n m (k + 1) c (E n) ne, f.once m c, ap (λ (i : ℕ). once_up_to i c) same))

  -- a draw is an old one or the new one
  cases : (d : NonceDraw) → 0 < W' (is_just d) → (0 < W (is_just d)) ⊎ (0 < is_just d next)
  cases d h = let g = gains (is_just d) in dite (dec_le 1 (W (is_just d))) (λ old. inl old) (λ none. inr (omega arith))

  pub draws_fresh : IsFreshBy W' E
  draws_fresh = record {
    once = once;
    bound = λ d h. ⊎_elim (λ (old : 0 < W (is_just d)). f.bound d old) (λ (new : 0 < is_just d next). let s = is_just-same d next new in omega (arith, s.2, ap E s.0)) (cases d h);
    rising = λ d e h i same le.
        ⊎_elim
        (λ (old : 0 < W (is_just d)).
        ⊎_elim (λ (old' : 0 < W (is_just e)). f.rising d e old old' same le) (λ (new' : 0 < is_just e next). let s = is_just-same e next new' in omega (arith, f.bound d old, s.2, ap E s.0, ap E same)) (cases e i))
        (λ (new : 0 < is_just d next).
        let s = is_just-same d next new in
        ⊎_elim
        (λ (old' : 0 < W (is_just e)).
        let at : 0 < W (is_at e.nonce e.count) = omega (arith, within e) in
        let few : e.count ≤ W (is_of e.nonce) = once_le e.count (W (is_of e.nonce)) (omega (arith, f.once e.nonce e.count)) in
        let k : W (is_of n) ≡ W (is_of e.nonce) = ap (λ (x : ℕ). W (is_of x)) (s.0 ∙ same) in
        absurd (omega (arith, s.1)))
        (λ (new' : 0 < is_just e next). let s' = is_just-same e next new' in omega (arith, s.2, s'.2))
        (cases e i))
        (cases d h);
  }

-- the same draws, and epochs that rose
pub later : (W W' : Weigh) (E E' : ℕ → ℕ) → IsFreshBy W E → ((g : NonceDraw → ℕ) → W' g ≡ W g) → ((m : ℕ) → E m ≤ E' m) → IsFreshBy W' E'
later W W' E E' f same rose = let back : W ≡ W' = λ i g. sym (same g) i in subst (λ (X : Weigh). IsFreshBy X E') back (record {
  once = f.once;
  bound = λ d h. omega (arith, f.bound d h, rose d.nonce);
  rising = f.rising;
})
