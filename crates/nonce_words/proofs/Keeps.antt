-- Each kind of step keeps the rule.
use Rattle.std.proofs.Common.{◌≡◌, ℕ, ◌+◌, ◌*◌, ◌/◌, ◌%◌, ◌^◌, ◌<◌, ◌≤◌, ◌≢◌, List, [], ◌∷◌, ◌++◌, length, get_or, set, sym, refl, ap, ◌∙◌, subst, ⊎_elim, arith, length-set, get_or-set_same, get_or-set_other, sum, sum_by}
use Rattle.std.proofs.lemmas.List.{length-append}
use Rattle.std.proofs.lemmas.List.Sums.{sum_by-append}
use mathlib.Core.Logic.{dite}
use mathlib.Core.Option.{none, some}
use native.Mathlib.Decide.{ℕ_discrete}
use lib.ListN.{get_elem?}
use Rattle.atomic_table.specs.Table.{State, Me, step, keeps, stepped, Allows, Splits, Joins}
use Rattle.atomic_table.proofs.Lists.{at_set, at_snoc, set_else}
use Rattle.nonce_words.specs.Fresh.{IsFresh, draws_of}
use Rattle.nonce_words.specs.Rule.{drawn_in, epoch_in, IsKept, raised, with_draw, drew, retired, book_part, draw_part, without, only, noted, joined, spent}
use Rattle.nonce_words.specs.declared.rule.Tally.{Tally}
use Rattle.nonce_words.specs.declared.draw.NonceDraw.{NonceDraw}
use Rattle.nonce_words.proofs.Totals.{sum_by-set, term_le, sum_by_le, sum_by_alone, sum_by-flat_map, sum_by-ones, sum_by-plus, get_le, sum-raised, raised-here, raised-else, greater-get}
use Rattle.nonce_words.proofs.Weights.{draw, is_of, is_at, is_just, IsFreshBy, by_weights, of_weights, draws_fresh, later, is_of-here, is_of-else, is_just-at}

-- a weight over the draws of all seats
abbrev weigh : List Tally → (NonceDraw → ℕ) → ℕ
weigh views f = sum_by (λ v. sum_by f v.drawn) views

-- what a seat drew and may draw
abbrev share : Tally → ℕ
share v = v.quota + length v.drawn

abbrev made_by : Tally → ℕ
made_by v = sum v.made

weigh-drawn : (views : List Tally) (f : NonceDraw → ℕ) → sum_by f (drawn_in views) ≡ weigh views f
weigh-drawn views f = sum_by-flat_map f (λ v. v.drawn) views

weighed : (views : List Tally) (E : ℕ → ℕ) → IsFresh (drawn_in views) E → IsFreshBy (weigh views) E
weighed views E f = later (λ g. sum_by g (drawn_in views)) (weigh views) E E (by_weights (drawn_in views) E f) (λ g. sym (weigh-drawn views g)) (λ m. omega arith)

unweighed : (views : List Tally) (E : ℕ → ℕ) → IsFreshBy (weigh views) E → IsFresh (drawn_in views) E
unweighed views E f = of_weights (drawn_in views) E (later (weigh views) (λ g. sum_by g (drawn_in views)) E E f (weigh-drawn views) (λ m. omega arith))

-- no more draws of a nonce than draws, and no more of these than the quotas leave
few_counts : (views : List Tally) (id n : ℕ) (v : Tally) → get_elem? views id ≡ some v → sum_by share views ≡ 1073741824 → weigh views (is_of n) + v.quota ≤ 1073741824
few_counts views id n v at shares =
    let a = sum_by_le (λ v. sum_by (is_of n) v.drawn) (λ v. length v.drawn) (λ u. omega (arith, sum_by_le (is_of n) (λ _. 1) (λ d. grind arith) u.drawn, sum_by-ones u.drawn)) views in
    let b = sum_by-plus (λ v. v.quota) (λ v. length v.drawn) views in
    omega (arith, term_le (λ v. v.quota) views id v at)

few_epochs : (n : ℕ) (views : List Tally) → sum_by made_by views ≤ 2147483648 → epoch_in views n ≤ 2147483648
few_epochs n views few = omega (arith, sum_by_le (λ v. get_or v.made n 0) made_by (λ v. get_le v.made n) views)

within : (views : List Tally) (d : NonceDraw) → weigh views (is_just d) ≤ weigh views (is_at d.nonce d.count)
within views d = sum_by_le (λ v. sum_by (is_just d) v.drawn) (λ v. sum_by (is_at d.nonce d.count) v.drawn) (λ v. sum_by_le (is_just d) (is_at d.nonce d.count) (is_just-at d) v.drawn) views

empty : {A : Type 0} (g : A → ℕ) (l : List A) → length l ≡ 0 → sum_by g l ≡ 0
empty g [] e = refl
empty g (x ∷ xs) e = absurd (omega arith)

module _ {S : Type 0} where
  pub draws_keep : (nonces slots id : ℕ) (me : Me S Tally) (n : ℕ) → 0 < n → n ≤ nonces → 0 < me.0.quota → Allows (IsKept nonces) slots id me n (λ x. (x + 1) % 2 ^ 64) (drew (step slots n 1 0 none) me)
  draws_keep nonces slots id me n some_nonce inside some_left s k wide at small =
      let v : Tally = me.0 in
      let E : ℕ = epoch_in s.views n in
      let C : ℕ = weigh s.views (is_of n) in
      let x : ℕ = get_or s.words n 0 in
      let here : n < length s.words = omega (arith, k.wide) in
      let is : x ≡ E * 4294967296 + C = omega (arith, k.words n here, weigh-drawn s.views (is_of n)) in
      let few : C + v.quota ≤ 1073741824 = few_counts s.views id n v at k.shares in
      let low : E ≤ 2147483648 = few_epochs n s.views k.few in
      let count : x % 4294967296 ≡ C = omega arith in
      let epoch : x / 4294967296 ≡ E = omega arith in
      let w : Tally = with_draw v (draw n (C + 1) E) in
      let views : List Tally = set s.views id w in
      let gained : (g : NonceDraw → ℕ) → weigh views g ≡ weigh s.views g + g (draw n (C + 1) E) = λ g. omega (arith, sum_by-set (λ u. sum_by g u.drawn) s.views id v w at, sum_by-append g v.drawn (draw n (C + 1) E ∷ [])) in
      let epochs : (m : ℕ) → epoch_in views m ≡ epoch_in s.views m = λ m. omega (arith, sum_by-set (λ u. get_or u.made m 0) s.views id v w at) in
      let same : epoch_in views ≡ epoch_in s.views = λ i m. epochs m i in
      let next : ℕ = (x + 1) % 2 ^ 64 in
      let stays : next ≡ E * 4294967296 + (C + 1) = omega arith in (
        with_draw v (draw n (x % 4294967296 + 1) (x / 4294967296)),
        keeps,
        tt,
        subst (λ (u : Tally). IsKept nonces (stepped s n next id me.1 u keeps)) (λ i. with_draw v (draw n (sym count i + 1) (sym epoch i))) (record {
          wide = length-set s.words n next ∙ k.wide;
          unused = get_or-set_other s.words n 0 next 0 (λ e. absurd (omega arith)) ∙ k.unused;
          words = λ m h. dite (ℕ_discrete n m)
              (λ e. subst (λ (j : ℕ). get_or (set s.words n next) j 0 ≡ epoch_in views j * 4294967296 + draws_of (drawn_in views) j) e
              (omega (arith, get_or-set_same s.words n next 0 here, epochs n, weigh-drawn views (is_of n), gained (is_of n), is_of-here n (C + 1) E)))
              (λ ne. let h' : m < length s.words = omega (arith, length-set s.words n next) in omega (arith, get_or-set_other s.words n m next 0 (λ e. ne (sym e)), k.words m h', epochs m, weigh-drawn views (is_of m), weigh-drawn s.views (is_of m), gained (is_of m), is_of-else n m (C + 1) E ne));
          fresh = unweighed views (epoch_in views) (subst (IsFreshBy (weigh views)) (sym same) (draws_fresh (weigh s.views) (weigh views) (epoch_in s.views) n (weighed s.views (epoch_in s.views) k.fresh) gained (within s.views)));
          known = λ j u e m. ⊎_elim (λ t. omega (arith, ap (λ (z : Tally). get_or z.known m 0) (sym t.1), k.known id v at m, epochs m)) (λ t. omega (arith, k.known j u t.1 m, epochs m)) (at_set s.views id j w u e);
          shares = omega (arith, k.shares, sum_by-set share s.views id v w at, length-append v.drawn (draw n (C + 1) E ∷ []));
          books = omega (arith, k.books, sum_by-set (λ u. u.books) s.views id v w at);
          others = λ j u e none. ⊎_elim (λ t. ap (λ (z : Tally). z.made) (sym t.1) ∙ k.others id v at (ap (λ (z : Tally). z.books) t.1 ∙ none)) (λ t. k.others j u t.1 none) (at_set s.views id j w u e);
          few = omega (arith, k.few, sum_by-set made_by s.views id v w at);
        }),
        (refl, omega (arith, k.known id v at n), omega arith),
      )

  pub retires_keep : (nonces slots id : ℕ) (me : Me S Tally) (n : ℕ) → 0 < n → n ≤ nonces → me.0.books ≡ 1 → made_by me.0 < 2147483648 → Allows (IsKept nonces) slots id me n (λ x. (x + 4294967296) % 2 ^ 64) (retired (step slots n 4294967296 0 none) me)
  retires_keep nonces slots id me n some_nonce inside book room s k wide at small =
      let v : Tally = me.0 in
      let E : ℕ = epoch_in s.views n in
      let C : ℕ = weigh s.views (is_of n) in
      let x : ℕ = get_or s.words n 0 in
      let here : n < length s.words = omega (arith, k.wide) in
      let is : x ≡ E * 4294967296 + C = omega (arith, k.words n here, weigh-drawn s.views (is_of n)) in
      let few : C + v.quota ≤ 1073741824 = few_counts s.views id n v at k.shares in
      let low : E ≤ 2147483648 = few_epochs n s.views k.few in
      let w : Tally = record v { made = raised v.made n } in
      let views : List Tally = set s.views id w in
      let same : (g : NonceDraw → ℕ) → weigh views g ≡ weigh s.views g = λ g. omega (arith, sum_by-set (λ u. sum_by g u.drawn) s.views id v w at) in
      let more : epoch_in views n ≡ E + 1 = omega (arith, sum_by-set (λ u. get_or u.made n 0) s.views id v w at, raised-here v.made n) in
      let else : (m : ℕ) → m ≢ n → epoch_in views m ≡ epoch_in s.views m = λ m ne. omega (arith, sum_by-set (λ u. get_or u.made m 0) s.views id v w at, raised-else v.made n m ne) in
      let rose : (m : ℕ) → epoch_in s.views m ≤ epoch_in views m = λ m. dite (ℕ_discrete m n) (λ e. subst (λ (j : ℕ). epoch_in s.views j ≤ epoch_in views j) (sym e) (omega arith)) (λ ne. omega (arith, else m ne)) in
      let next : ℕ = (x + 4294967296) % 2 ^ 64 in
      let stays : next ≡ (E + 1) * 4294967296 + C = omega arith in
      let all : sum_by made_by s.views ≡ made_by v = sum_by_alone (λ u. u.books) made_by s.views id v (λ j u e none. ap (λ (l : List ℕ). sum l) (k.others j u e none)) at (k.books ∙ sym book) in (
        w,
        keeps,
        tt,
        record {
          wide = length-set s.words n next ∙ k.wide;
          unused = get_or-set_other s.words n 0 next 0 (λ e. absurd (omega arith)) ∙ k.unused;
          words = λ m h. dite (ℕ_discrete m n)
              (λ e. subst (λ (j : ℕ). get_or (set s.words n next) j 0 ≡ epoch_in views j * 4294967296 + draws_of (drawn_in views) j) (sym e)
              (omega (arith, get_or-set_same s.words n next 0 here, weigh-drawn views (is_of n), same (is_of n))))
              (λ ne. let h' : m < length s.words = omega (arith, length-set s.words n next) in omega (arith, get_or-set_other s.words n m next 0 ne, k.words m h', else m ne, weigh-drawn views (is_of m), weigh-drawn s.views (is_of m), same (is_of m)));
          fresh = unweighed views (epoch_in views) (later (weigh s.views) (weigh views) (epoch_in s.views) (epoch_in views) (weighed s.views (epoch_in s.views) k.fresh) same rose);
          known = λ j u e m. ⊎_elim (λ t. omega (arith, ap (λ (z : Tally). get_or z.known m 0) (sym t.1), k.known id v at m, rose m)) (λ t. omega (arith, k.known j u t.1 m, rose m)) (at_set s.views id j w u e);
          shares = omega (arith, k.shares, sum_by-set share s.views id v w at);
          books = omega (arith, k.books, sum_by-set (λ u. u.books) s.views id v w at);
          others = λ j u e none. ⊎_elim (λ t. let b = ap (λ (z : Tally). z.books) t.1 in absurd (omega (arith, book))) (λ t. k.others j u t.1 none) (at_set s.views id j w u e);
          few = omega (arith, all, sum_by-set made_by s.views id v w at, sum-raised v.made n);
        },
        refl,
      )

  -- the views changed, and nothing that the rule adds up
  recount : (nonces : ℕ) (s : State S Tally) → IsKept nonces s → (views : List Tally) → ((g : NonceDraw → ℕ) → weigh views g ≡ weigh s.views g) → ((m : ℕ) → epoch_in views m ≡ epoch_in s.views m)
      → sum_by share views ≡ sum_by share s.views → sum_by (λ u. u.books) views ≡ sum_by (λ u. u.books) s.views → sum_by made_by views ≡ sum_by made_by s.views
      → ((j : ℕ) (u : Tally) → get_elem? views j ≡ some u → ((m : ℕ) → get_or u.known m 0 ≤ epoch_in s.views m) × (u.books ≡ 0 → u.made ≡ []))
      → IsKept nonces record { words = s.words; homes = s.homes; views = views }
  recount nonces s k views same epochs shares books all each = record {
    wide = k.wide;
    unused = k.unused;
    words = λ m h. omega (arith, k.words m h, weigh-drawn views (is_of m), weigh-drawn s.views (is_of m), same (is_of m), epochs m);
    fresh = unweighed views (epoch_in views) (later (weigh s.views) (weigh views) (epoch_in s.views) (epoch_in views) (weighed s.views (epoch_in s.views) k.fresh) same (λ m. omega (arith, epochs m)));
    known = λ j u e m. omega (arith, (each j u e).0 m, epochs m);
    shares = shares ∙ k.shares;
    books = books ∙ k.books;
    others = λ j u e. (each j u e).1;
    few = omega (arith, k.few);
  }

  -- a view is cut in two, and nothing that is added up is lost
  cuts : (nonces id : ℕ) (v left right : Tally) → ((g : NonceDraw → ℕ) → sum_by g left.drawn + sum_by g right.drawn ≡ sum_by g v.drawn) → ((m : ℕ) → get_or left.made m 0 + get_or right.made m 0 ≡ get_or v.made m 0)
      → share left + share right ≡ share v → left.books + right.books ≡ v.books → made_by left + made_by right ≡ made_by v
      → ((s : State S Tally) → IsKept nonces s → get_elem? s.views id ≡ some v → (m : ℕ) → (get_or left.known m 0 ≤ epoch_in s.views m) × (get_or right.known m 0 ≤ epoch_in s.views m))
      → (left.books ≡ 0 → v.made ≡ [] → left.made ≡ []) × (left.books ≡ 0 → v.books ≡ 0) × (right.books ≡ 0 → right.made ≡ [])
      → Splits (IsKept {S = S} nonces) id v left right
  cuts nonces id v left right draws made shares books all known others s k at =
      let views : List Tally = set s.views id left ++ right ∷ [] in
      let sums : (g : Tally → ℕ) → g left + g right ≡ g v → sum_by g views ≡ sum_by g s.views = λ g e. omega (arith, sum_by-append g (set s.views id left) (right ∷ []), sum_by-set g s.views id v left at) in
      recount nonces s k views (λ g. sums (λ u. sum_by g u.drawn) (draws g)) (λ m. sums (λ u. get_or u.made m 0) (made m)) (sums share shares) (sums (λ u. u.books) books) (sums made_by all)
      (λ j u e. ⊎_elim
      (λ (x : get_elem? (set s.views id left) j ≡ some u). ⊎_elim
      (λ t. subst (λ (z : Tally). ((m : ℕ) → get_or z.known m 0 ≤ epoch_in s.views m) × (z.books ≡ 0 → z.made ≡ [])) t.1 ((λ m. (known s k at m).0), λ none. others.0 none (k.others id v at (others.1 none))))
      (λ t. (k.known j u t.1, k.others j u t.1)) (at_set s.views id j left u x))
      (λ (x : right ≡ u). subst (λ (z : Tally). ((m : ℕ) → get_or z.known m 0 ≤ epoch_in s.views m) × (z.books ≡ 0 → z.made ≡ [])) x ((λ m. (known s k at m).1), others.2))
      (at_snoc (set s.views id left) right u j e))

  pub opens : (nonces id : ℕ) (v : Tally) → Splits (IsKept {S = S} nonces) id v (book_part v) (draw_part v)
  opens nonces id v = cuts nonces id v (book_part v) (draw_part v) (λ g. omega arith) (λ m. omega arith) (omega arith) (omega arith) (omega arith) (λ s k at m. (omega arith, omega arith)) ((λ none none'. none'), (λ none. none), λ none. refl)

  pub moves : (nonces id : ℕ) (v : Tally) (amount : ℕ) → amount ≤ v.quota → Splits (IsKept {S = S} nonces) id v (without amount v) (only amount v)
  moves nonces id v amount enough = cuts nonces id v (without amount v) (only amount v) (λ g. omega arith) (λ m. omega arith) (omega arith) (omega arith) (omega arith) (λ s k at m. (k.known id v at m, k.known id v at m)) ((λ none none'. none'), (λ none. none), λ none. refl)

  pub notes : (nonces id : ℕ) (v : Tally) → Splits (IsKept {S = S} nonces) id v v (noted v)
  notes nonces id v = cuts nonces id v v (noted v) (λ g. omega arith) (λ m. omega arith) (omega arith) (omega arith) (omega arith)
      (λ s k at m. (k.known id v at m, term_le (λ u. get_or u.made m 0) s.views id v at)) ((λ none none'. none'), (λ none. none), λ none. refl)

  pub joins : (nonces id : ℕ) (v : Tally) (other : ℕ) (w : Tally) → w.books ≡ 0 → Joins (IsKept {S = S} nonces) id v other w (joined v w) spent
  joins nonces id v other w plain s k at apart there =
      let half : List Tally = set s.views id (joined v w) in
      let views : List Tally = set half other spent in
      let there' : get_elem? s.views other ≡ some w = sym (set_else s.views id other (joined v w) apart) ∙ there in
      let none : w.made ≡ [] = k.others other w there' plain in
      let sums : (g : Tally → ℕ) → g spent ≡ 0 → g (joined v w) ≡ g v + g w → sum_by g views ≡ sum_by g s.views = λ g e e'. omega (arith, sum_by-set g half other w spent there, sum_by-set g s.views id v (joined v w) at) in
      recount nonces s k views (λ g. sums (λ u. sum_by g u.drawn) refl (sum_by-append g v.drawn w.drawn)) (λ m. sums (λ u. get_or u.made m 0) refl (omega (arith, ap (λ (l : List ℕ). get_or l m 0) none)))
      (sums share refl (omega (arith, length-append v.drawn w.drawn))) (sums (λ u. u.books) refl (omega arith)) (sums made_by refl (omega (arith, ap (λ (l : List ℕ). sum l) none)))
      (λ j u e. ⊎_elim
      (λ t. subst (λ (z : Tally). ((m : ℕ) → get_or z.known m 0 ≤ epoch_in s.views m) × (z.books ≡ 0 → z.made ≡ [])) t.1 ((λ m. omega arith), λ _. refl))
      (λ t. ⊎_elim
      (λ t'. subst (λ (z : Tally). ((m : ℕ) → get_or z.known m 0 ≤ epoch_in s.views m) × (z.books ≡ 0 → z.made ≡ [])) t'.1
      ((λ m. let a = greater-get v.known w.known m in let b = k.known id v at m in let d = k.known other w there' m in grind arith), λ none'. k.others id v at none'))
      (λ t'. (k.known j u t'.1, k.others j u t'.1)) (at_set s.views id j (joined v w) u t.1))
      (at_set half other j spent u e))

  -- what is known of the book's seat, where all draws are its own
  pub closes : (nonces id : ℕ) (s : State S Tally) (v : Tally) → IsKept nonces s → get_elem? s.views id ≡ some v → v.books ≡ 1 → share v ≡ 1073741824 → IsFresh v.drawn (λ n. get_or v.made n 0)
  closes nonces id s v k at book all =
      let draws : (g : NonceDraw → ℕ) → weigh s.views g ≡ sum_by g v.drawn = λ g. sum_by_alone share (λ u. sum_by g u.drawn) s.views id v (λ j u e none. empty g u.drawn (omega arith)) at (k.shares ∙ sym all) in
      let made : (m : ℕ) → epoch_in s.views m ≡ get_or v.made m 0 = λ m. sum_by_alone (λ u. u.books) (λ u. get_or u.made m 0) s.views id v (λ j u e none. ap (λ (l : List ℕ). get_or l m 0) (k.others j u e none)) at (k.books ∙ sym book) in
      of_weights v.drawn (λ n. get_or v.made n 0) (later (weigh s.views) (λ f. sum_by f v.drawn) (epoch_in s.views) (λ n. get_or v.made n 0) (weighed s.views (epoch_in s.views) k.fresh) (λ g. sym (draws g)) (λ m. omega (arith, made m)))
