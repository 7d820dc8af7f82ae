-- Each step keeps the rule of the history.
use Rattle.std.proofs.Common.{◌≡◌, ℕ, zero, suc, ◌+◌, ◌%◌, ◌^◌, ◌<◌, ◌≤◌, ◌==◌, ◌≢◌, List, [], ◌∷◌, ◌++◌, length, drop, get_or, set, sym, refl, ap, ◌∙◌, subst, ⊎_elim, arith, cond, eq-eqb, ne_eqb, length-set, get_or-set_same, append_assoc}
use Rattle.std.proofs.lemmas.List.{length-append, append-nil}
use mathlib.Core.Option.{none, some, some-injective, some-ne-none}
use mathlib.Core.List.{IsPrefix}
use lib.ListN.{get_elem?}
use lib.Seq.{set-get_or}
use Rattle.atomic_table.specs.Table.{State, Me, step, keeps, Allows, Splits, Joins, opening}
use Rattle.atomic_table.proofs.Lists.{at_set, at_snoc, set_else, set_again}
use Rattle.turnstile.specs.Totals.{total, is, once_within, Each}
use Rattle.turnstile.specs.Passes.{items_of, added, IsMade}
use Rattle.std.proofs.Math.Seq.{drop-append_seam}
use Rattle.std.proofs.lemmas.List.Elements.{filter-append}
use Rattle.turnstile.specs.History.{past, keeping, numbers, IsOwn, Fits, Recorded, founder, spent, founds, founded, without_home, with_home_only, brings, joined, looks, publishes}
use Rattle.turnstile.specs.declared.history.Past.{Past}
use Rattle.turnstile.specs.declared.history.Kept.{Kept}
use Rattle.turnstile.proofs.Totals.{total-append, total-set, term_le, terms_le, total_alone, each_set, each_snoc, is_here, is_else}

once_le : (n k : ℕ) → once_within n k ≤ 1
once_le n k = grind arith

once_in : (n k : ℕ) → 0 < once_within n k → n ≤ k
once_in n k h = grind arith

once_none : (n : ℕ) → once_within n 0 ≡ 0
once_none n = grind arith

once_more : (n k : ℕ) → 0 < n → once_within n (k + 1) ≡ once_within n k + is n (k + 1)
once_more n k h = grind arith

each_cons : {A : Type 0} (P : A → Type 0) (x : A) (xs : List A) → P x → Each P xs → Each P (x ∷ xs)
each_cons P x xs p ps zero y e = subst P (some-injective x y e) p
each_cons P x xs p ps (suc k) y e = ps k y e

each_nil : {A : Type 0} (P : A → Type 0) → Each P []
each_nil P k x e = absurd (some-ne-none x (sym e))

each_append : {A : Type 0} (P : A → Type 0) (xs ys : List A) → Each P xs → Each P ys → Each P (xs ++ ys)
each_append P [] ys p q = q
each_append P (x ∷ xs) ys p q = each_cons P x (xs ++ ys) (p 0 x refl) (each_append P xs ys (λ k. p (suc k)) q)

module _ {I : Type 0} where
  prefix_self : (xs : List I) → IsPrefix xs xs
  prefix_self xs = ([], append-nil xs)

  prefix_more : (xs ys zs : List I) → IsPrefix xs ys → IsPrefix xs (ys ++ zs)
  prefix_more xs ys zs p = (p.0 ++ zs, sym (append_assoc xs p.0 zs) ∙ ap (λ w. w ++ zs) p.1)

  -- what begins with a list is that list with what was added
  pub prefix_added : (xs ys : List I) → IsPrefix xs ys → ys ≡ xs ++ added xs ys
  prefix_added xs ys p = sym p.1 ∙ ap (λ l. xs ++ l) (sym (ap (λ l. drop (length xs) l) (sym p.1) ∙ drop-append_seam xs p.0))

  module _ (by : I → ℕ) where
    pub of-all : (n : ℕ) (ys : List I) → Each (λ y. by y ≡ n) ys → items_of by n ys ≡ ys
    of-all n [] h = refl
    of-all n (y ∷ ys) h = ap (λ c. cond c (y ∷ items_of by n ys) (items_of by n ys)) (eq-eqb (by y) n (h 0 y refl)) ∙ ap (λ w. y ∷ w) (of-all n ys (λ k. h (suc k)))

    pub of-none : (n m : ℕ) (ys : List I) → m ≢ n → Each (λ y. by y ≡ n) ys → items_of by m ys ≡ []
    of-none n m [] ne h = refl
    of-none n m (y ∷ ys) ne h = ap (λ c. cond c (y ∷ items_of by m ys) (items_of by m ys)) (ne_eqb (by y) m (λ e. ne (sym e ∙ h 0 y refl))) ∙ of-none n m ys ne (λ k. h (suc k))

    absent : (n : ℕ) (u : Past I) → numbers n u ≡ 0 → (u.number ≢ n) × Each (λ (k : Kept I). k.number ≢ n) u.kept
    absent n u none-there = (
      (λ e. absurd (omega (arith, ap (is n) e, is_here n))),
      λ j k at e. absurd (omega (arith, term_le (λ (x : Kept I). is n x.number) u.kept j k at, ap (is n) e, is_here n)),
    )

    -- a view that has none of the new items still fits
    grown : (log ys : List I) (n : ℕ) (u : Past I) → Fits by log u → Each (λ y. by y ≡ n) ys → u.number ≢ n → Each (λ (k : Kept I). k.number ≢ n) u.kept → u.home ≡ 0 → Fits by (log ++ ys) u
    grown log ys n u f new own others away = record {
      seen = prefix_more u.seen log ys f.seen;
      olds = λ j o at. prefix_more o log ys (f.olds j o at);
      mine = λ some-number. f.mine some-number ∙ sym (filter-append (λ item. by item == u.number) log ys ∙ (ap (λ w. items_of by u.number log ++ w) (of-none n u.number ys own new) ∙ append-nil (items_of by u.number log)));
      kept = λ j k at. ((f.kept j k at).0, (f.kept j k at).1 ∙ sym (filter-append (λ item. by item == k.number) log ys ∙ (ap (λ w. items_of by k.number log ++ w) (of-none n k.number ys (others j k at) new) ∙ append-nil (items_of by k.number log))));
      whole = λ has. absurd (omega arith);
      maker = f.maker;
    }

    fits_spent : (log : List I) → Fits by log spent
    fits_spent log = record {
      seen = (log, refl);
      olds = each_nil (λ o. IsPrefix o log);
      mine = λ h. absurd (omega arith);
      kept = each_nil (IsOwn by log);
      whole = λ h. absurd (omega arith);
      maker = λ _. refl;
    }

    module _ {X : Type 0} where
      pub publishes_keep : (slots id : ℕ) (me : Me X (Past I)) (ys : List I) (k : ℕ) → k ≡ length ys → 0 < me.0.home → 0 < me.0.number → Each (λ y. by y ≡ me.0.number) ys → length me.0.seen + k < 4294967296
          → Allows (Recorded {X = X} by) slots id me 0 (λ x. (x + k) % 2 ^ 64) (publishes ys (step slots 0 k 0 none) me)
      publishes_keep slots id me ys k many has numbered new room s r wide at small =
          let v : Past I = me.0 in
          let n : ℕ = v.number in
          let x : ℕ = get_or s.words 0 0 in
          let next : ℕ = (x + k) % 2 ^ 64 in
          let log : List I = r.log in
          let f : Fits by log v = r.fits id v at in
          let is-whole : v.seen ≡ log = f.whole has in
          let w : Past I = past v.number v.home v.made (v.seen ++ ys) (v.mine ++ ys) v.olds v.kept in
          let long : x ≡ length log = r.long in
          let seen-long : length v.seen ≡ length log = ap length is-whole in
          let one : total (numbers n) s.views ≤ 1 = omega (arith, r.once n numbered, once_le n (total (λ u. u.made) s.views)) in
          let mine-is : is n n ≡ 1 = is_here n in
          let kept-else : Each (λ (y : Kept I). y.number ≢ n) v.kept = λ j y there e. absurd (omega (arith, one, term_le (numbers n) s.views id v at, term_le (λ (q : Kept I). is n q.number) v.kept j y there, ap (is n) e, mine-is)) in
          let views : List (Past I) = set s.views id w in
          let same-made : total (λ u. u.made) views ≡ total (λ u. u.made) s.views = omega (arith, total-set (λ u. u.made) s.views id v w at) in
          let made_more : (m : ℕ) → IsMade (total (λ u. u.made) s.views) m → IsMade (total (λ u. u.made) views) m = λ m h. (h.0, omega (arith, h.1, same-made)) in
          let own-made : Each (λ y. IsMade (total (λ u. u.made) s.views) (by y)) ys = λ i y there. let e = new i y there in let within = once_in n (total (λ u. u.made) s.views) (omega (arith, r.once n numbered, term_le (numbers n) s.views id v at, mine-is)) in (omega (arith, e), omega (arith, e, within)) in (
            w,
            keeps,
            tt,
            record {
              log = log ++ ys;
              wide = length-set s.words 0 next ∙ r.wide;
              long = get_or-set_same s.words 0 next 0 (omega (arith, r.wide)) ∙ omega (arith, length-append log ys);
              homes = omega (arith, r.homes, total-set (λ u. u.home) s.views id v w at);
              numbered = each_append (λ item. IsMade (total (λ u. u.made) views) (by item)) log ys (λ i y there. made_more (by y) (r.numbered i y there)) (λ i y there. made_more (by y) (own-made i y there));
              once = λ m some-number. let made : total (λ u. u.made) views ≡ total (λ u. u.made) s.views = omega (arith, total-set (λ u. u.made) s.views id v w at) in omega (arith, r.once m some-number, total-set (numbers m) s.views id v w at, ap (once_within m) made);
              fits = λ j u e. ⊎_elim
                  (λ t. subst (Fits by (log ++ ys)) t.1 (record {
                    seen = subst (λ l. IsPrefix (l ++ ys) (log ++ ys)) (sym is-whole) (prefix_self (log ++ ys));
                    olds = λ i o there. prefix_more o log ys (f.olds i o there);
                    mine = λ _. ap (λ l. l ++ ys) (f.mine numbered) ∙ sym (filter-append (λ item. by item == n) log ys ∙ ap (λ l. items_of by n log ++ l) (of-all n ys new));
                    kept = λ i y there. ((f.kept i y there).0, (f.kept i y there).1 ∙ sym (filter-append (λ item. by item == y.number) log ys ∙ (ap (λ l. items_of by y.number log ++ l) (of-none n y.number ys (kept-else i y there) new) ∙ append-nil (items_of by y.number log))));
                    whole = λ _. ap (λ l. l ++ ys) is-whole;
                    maker = f.maker;
                  }))
                  (λ t.
                  let none-there : numbers n u ≡ 0 = omega (arith, one, terms_le (numbers n) s.views id j v u t.0 at t.1, mine-is) in
                  let away : u.home ≡ 0 = omega (arith, r.homes, terms_le (λ y. y.home) s.views id j v u t.0 at t.1) in
                  let a = absent n u none-there in
                  grown log ys n u (r.fits j u t.1) new a.0 a.1 away)
                  (at_set s.views id j w u e);
            },
            refl,
          )

      pub looks_keep : (slots id : ℕ) (me : Me X (Past I)) → 0 < me.0.home → Allows (Recorded {X = X} by) slots id me 0 (λ x. x) (looks by (step slots 0 0 0 none) me)
      looks_keep slots id me has s r wide at small =
          let v : Past I = me.0 in
          let f : Fits by r.log v = r.fits id v at in
          let back : r.log ≡ v.seen = sym (f.whole has) in
          let g : Fits by v.seen v = subst (λ (l : List I). Fits by l v) back f in
          let alone : total (λ u. u.home) s.views ≡ v.home = omega (arith, r.homes, term_le (λ (u : Past I). u.home) s.views id v at) in
          let made : total (λ u. u.made) s.views ≡ v.made = total_alone (λ u. u.home) (λ u. u.made) s.views id v (λ j u e away. (r.fits j u e).maker away) at alone in
          let numbered : Each (λ item. IsMade v.made (by item)) v.seen = subst (λ l. Each (λ item. IsMade v.made (by item)) l) back (subst (λ m. Each (λ item. IsMade m (by item)) r.log) made r.numbered) in (
            v,
            keeps,
            tt,
            subst (λ (t : List ℕ × List (Past I)). Recorded {X = X} by record { words = t.0; homes = s.homes; views = t.1 }) (λ j. (sym (set-get_or s.words 0 0) j, sym (set_again s.views id v at) j)) r,
            (refl, g.olds, g.mine, g.kept, numbered),
          )

      -- the views changed, and nothing that the rule adds up
      recount : (s : State X (Past I)) (r : Recorded by s) (views : List (Past I)) → total (λ u. u.home) views ≡ total (λ u. u.home) s.views → ((n : ℕ) → 0 < n → total (numbers n) views ≡ total (numbers n) s.views)
          → total (λ u. u.made) views ≡ total (λ u. u.made) s.views → ((j : ℕ) (u : Past I) → get_elem? views j ≡ some u → Fits by r.log u) → Recorded {X = X} by record { words = s.words; homes = s.homes; views = views }
      recount s r views homes same made fits = record {
        log = r.log;
        wide = r.wide;
        long = r.long;
        homes = homes ∙ r.homes;
        once = λ n h. same n h ∙ (r.once n h ∙ ap (once_within n) (sym made));
        numbered = subst (λ m. Each (λ item. IsMade m (by item)) r.log) (sym made) r.numbered;
        fits = fits;
      }

      pub home_in : (id : ℕ) (v : Past I) (other : ℕ) (w : Past I) → v.home ≡ 0 → w.home ≡ 1 → w.number ≡ 0 → w.kept ≡ [] → Joins (Recorded {X = X} by) id v other w (brings v w) spent
      home_in id v other w out has unnumbered no-kept s r at apart there =
          let half : List (Past I) = set s.views id (brings v w) in
          let views : List (Past I) = set half other spent in
          let there' : get_elem? s.views other ≡ some w = sym (set_else s.views id other (brings v w) apart) ∙ there in
          let f : Fits by r.log v = r.fits id v at in
          let g : Fits by r.log w = r.fits other w there' in
          let sum : (h : Past I → ℕ) → h spent ≡ 0 → h (brings v w) ≡ h v + h w → total h views ≡ total h s.views = λ h e e'. omega (arith, total-set h half other w spent there, total-set h s.views id v (brings v w) at) in
          let sees : w.seen ≡ r.log = g.whole (omega arith) in
          recount s r views (sum (λ u. u.home) refl (omega arith))
          (λ n some-number. let zero-is : is n 0 ≡ 0 = is_else n 0 (λ e. omega arith) in sum (numbers n) (omega (arith, zero-is)) (omega (arith, zero-is, ap (is n) unnumbered, ap (total (λ (y : Kept I). is n y.number)) no-kept)))
          (sum (λ u. u.made) refl (omega (arith, f.maker out)))
          (each_set (Fits by r.log) half other spent (fits_spent r.log) (each_set (Fits by r.log) s.views id (brings v w) (record {
            seen = g.seen;
            olds = each_cons (λ o. IsPrefix o r.log) v.seen v.olds f.seen f.olds;
            mine = f.mine;
            kept = f.kept;
            whole = λ _. sees;
            maker = λ none-there. absurd (omega arith);
          }) r.fits))

      pub home_out : (id : ℕ) (v : Past I) → v.home ≡ 1 → Splits (Recorded {X = X} by) id v (without_home v) (with_home_only v)
      home_out id v has s r at =
          let left : Past I = without_home v in
          let right : Past I = with_home_only v in
          let half : List (Past I) = set s.views id left in
          let views : List (Past I) = half ++ right ∷ [] in
          let f : Fits by r.log v = r.fits id v at in
          let sum : (h : Past I → ℕ) → h left + h right ≡ h v → total h views ≡ total h s.views = λ h e. omega (arith, total-append h half (right ∷ []), total-set h s.views id v left at) in
          recount s r views (sum (λ u. u.home) (omega arith))
          (λ n some-number. let zero-is : is n 0 ≡ 0 = is_else n 0 (λ e. omega arith) in sum (numbers n) (omega (arith, zero-is)))
          (sum (λ u. u.made) (omega arith))
          (each_snoc (Fits by r.log) half right (record {
            seen = f.seen;
            olds = each_nil (λ o. IsPrefix o r.log);
            mine = λ h. absurd (omega arith);
            kept = each_nil (IsOwn by r.log);
            whole = λ _. f.whole (omega arith);
            maker = λ none-there. absurd (omega arith);
          }) (each_set (Fits by r.log) s.views id left (record {
            seen = f.seen;
            olds = f.olds;
            mine = f.mine;
            kept = f.kept;
            whole = λ h. absurd (omega arith);
            maker = λ _. refl;
          }) r.fits))

      -- a pass is joined into another
      pub joins : (id : ℕ) (v : Past I) (other : ℕ) (w : Past I) → w.home ≡ 0 → 0 < w.number → Joins (Recorded {X = X} by) id v other w (joined v w) spent
      joins id v other w out numbered s r at apart there =
          let half : List (Past I) = set s.views id (joined v w) in
          let views : List (Past I) = set half other spent in
          let there' : get_elem? s.views other ≡ some w = sym (set_else s.views id other (joined v w) apart) ∙ there in
          let f : Fits by r.log v = r.fits id v at in
          let g : Fits by r.log w = r.fits other w there' in
          let sum : (h : Past I → ℕ) → h spent ≡ 0 → h (joined v w) ≡ h v + h w → total h views ≡ total h s.views = λ h e e'. omega (arith, total-set h half other w spent there, total-set h s.views id v (joined v w) at) in
          recount s r views (sum (λ u. u.home) refl (omega arith))
          (λ n some-number. let zero-is : is n 0 ≡ 0 = is_else n 0 (λ e. omega arith) in sum (numbers n) (omega (arith, zero-is)) (omega (arith, total-append (λ (y : Kept I). is n y.number) v.kept w.kept)))
          (sum (λ u. u.made) refl (omega (arith, g.maker out)))
          (each_set (Fits by r.log) half other spent (fits_spent r.log) (each_set (Fits by r.log) s.views id (joined v w) (record {
            seen = f.seen;
            olds = each_cons (λ o. IsPrefix o r.log) w.seen (v.olds ++ w.olds) g.seen (each_append (λ o. IsPrefix o r.log) v.olds w.olds f.olds g.olds);
            mine = f.mine;
            kept = each_cons (IsOwn by r.log) (keeping w.number w.mine) (v.kept ++ w.kept) (numbered, g.mine numbered) (each_append (IsOwn by r.log) v.kept w.kept f.kept g.kept);
            whole = f.whole;
            maker = f.maker;
          }) r.fits))

      -- a pass is made, before anything is told
      pub makes : (id : ℕ) (v : Past I) → v.home ≡ 1 → v.seen ≡ [] → Splits (Recorded {X = X} by) id v (founds v) (founded v)
      makes id v has fresh s r at =
          let left : Past I = founds v in
          let right : Past I = founded v in
          let half : List (Past I) = set s.views id left in
          let views : List (Past I) = half ++ right ∷ [] in
          let f : Fits by r.log v = r.fits id v at in
          let no-log : r.log ≡ [] = sym (f.whole (omega arith)) ∙ fresh in
          let made : total (λ u. u.made) s.views ≡ v.made = total_alone (λ u. u.home) (λ u. u.made) s.views id v (λ j u e away. (r.fits j u e).maker away) at (r.homes ∙ sym has) in
          let more : total (λ u. u.made) views ≡ v.made + 1 = omega (arith, total-append (λ (u : Past I). u.made) half (right ∷ []), total-set (λ u. u.made) s.views id v left at) in
          record {
            log = r.log;
            wide = r.wide;
            long = r.long;
            homes = omega (arith, r.homes, total-append (λ (u : Past I). u.home) half (right ∷ []), total-set (λ u. u.home) s.views id v left at);
            numbered = λ i y there. let h = r.numbered i y there in (h.0, omega (arith, h.1, made, more));
            once = λ n some-number. omega (arith, r.once n some-number, total-append (numbers n) half (right ∷ []), total-set (numbers n) s.views id v left at, once_more n v.made some-number, ap (once_within n) made, ap (once_within n) more);
            fits = each_snoc (Fits by r.log) half right (record {
              seen = (r.log, refl);
              olds = each_nil (λ o. IsPrefix o r.log);
              mine = λ _. sym (ap (items_of by (v.made + 1)) no-log);
              kept = each_nil (IsOwn by r.log);
              whole = λ h. absurd (omega arith);
              maker = λ _. refl;
            }) (each_set (Fits by r.log) s.views id left (record {
              seen = f.seen;
              olds = f.olds;
              mine = f.mine;
              kept = f.kept;
              whole = f.whole;
              maker = λ away. absurd (omega arith);
            }) r.fits);
          }

      pub opens : Recorded {X = X} by (opening (0 ∷ []) [] founder)
      opens =
          record {
            log = [];
            wide = refl;
            long = refl;
            homes = refl;
            numbered = each_nil (λ item. IsMade 0 (by item));
            once = λ n h. omega (arith, is_else n 0 (λ e. omega arith), once_none n);
            fits = λ j u e. ⊎_elim (λ (x : get_elem? [] j ≡ some u). absurd (some-ne-none u (sym x))) (λ (x : founder ≡ u). subst (Fits by []) x (record {
              seen = ([], refl);
              olds = each_nil (λ o. IsPrefix o []);
              mine = λ h. absurd (omega arith);
              kept = each_nil (IsOwn by []);
              whole = λ h. refl;
              maker = λ none-there. refl;
            })) (at_snoc [] founder u j e);
          }
