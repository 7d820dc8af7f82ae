use Rattle.std.proofs.Common.{◌≡◌, ℕ, zero, suc, List, [], ◌∷◌, ◌++◌, length, sym, refl, ap, ◌∙◌, subst, inl, inr, ⊎_elim, Some, None, append_assoc}
use mathlib.Core.Option.{some, some-injective}
use lib.ListN.{get_elem?}
use Rattle.atomic_table.proofs.Lists.{at_longer, at_last}
use Rattle.turnstile.specs.Totals.{Each}
use mathlib.Core.List.{IsPrefix}
use Rattle.turnstile.specs.History.{keeping, joined, IsOwn}
use Rattle.turnstile.specs.Passes.{PassView, items_of, IsIn}
use Rattle.turnstile.specs.Knows.{Knows}
use Rattle.turnstile.specs.declared.history.Past.{Past}

module _ {I F : Type 0} where
  pub knows_more : (v w : Past I) (p : PassView I F) → Knows v p → Knows (joined v w) p
  knows_more v w p k = ⊎_elim (λ t. inl t) (λ t. inr ((suc t.0.0, at_longer v.olds w.olds t.0.0 p.seen t.0.1), (suc t.1.0, at_longer v.kept w.kept t.1.0 (keeping p.number p.mine) t.1.1))) k

  pub knows_new : (v w : Past I) (p : PassView I F) → w.number ≡ p.number → w.seen ≡ p.seen → w.mine ≡ p.mine → Knows (joined v w) p
  knows_new v w p number seen mine = inr ((0, ap some seen), (0, λ i. some (keeping (number i) (mine i))))

  pub each_more : (v w : Past I) (p : PassView I F) (rest : List (PassView I F)) → Each (Knows v) rest → w.number ≡ p.number → w.seen ≡ p.seen → w.mine ≡ p.mine → Each (Knows (joined v w)) (p ∷ rest)
  each_more v w p rest h number seen mine zero y e = subst (Knows (joined v w)) (some-injective p y e) (knows_new v w p number seen mine)
  each_more v w p rest h number seen mine (suc k) y e = knows_more v w y (h k y e)

pub of_popped : {A : Type 0} (P : A → Type 0) (all front back rest : List A) (p : A) → all ≡ front ++ rest → front ≡ back ++ p ∷ [] → Each P all → P p
of_popped P all front back rest p e e' h = h (length back) p (ap (λ l. get_elem? l (length back)) (e ∙ ap (λ l. l ++ rest) e') ∙ at_longer (back ++ p ∷ []) rest (length back) p (at_last back p (length back) refl))

pub moved : {A : Type 0} (all front back rest : List A) (p : A) → all ≡ front ++ rest → front ≡ back ++ p ∷ [] → all ≡ back ++ p ∷ rest
moved all front back rest p e e' = e ∙ (ap (λ l. l ++ rest) e' ∙ append_assoc back (p ∷ []) rest)

pub parts_of : {A : Type 0} (P : A → Type 0) (all back : List A) (p : A) → all ≡ back ++ p ∷ [] → Each P all → P p × Each P back
parts_of P all back p e h = (
  h (length back) p (ap (λ l. get_elem? l (length back)) e ∙ at_last back p (length back) refl),
  λ k x at. h k x (ap (λ l. get_elem? l k) e ∙ at_longer back (p ∷ []) k x at),
)

module _ {I F : Type 0} (by : I → ℕ) where
  pub known_ends : (log : List I) (v : Past I) (p : PassView I F) → Knows v p → Each (λ o. IsPrefix o log) (v.seen ∷ v.olds) → v.mine ≡ items_of by v.number log → Each (IsOwn by log) v.kept
      → IsIn by log p
  known_ends log v p k olds mine kept = ⊎_elim
      (λ t. (subst (λ l. IsPrefix l log) (sym t.1) (olds 0 v.seen refl), t.2 ∙ (mine ∙ ap (λ n. items_of by n log) (sym t.0))))
      (λ t. (olds (suc t.0.0) p.seen t.0.1, (kept t.1.0 (keeping p.number p.mine) t.1.1).1))
      k

pub some_same : {A : Type 0} (x y : A) → Some x ≡ Some y → x ≡ y
some_same x y e = cc e

pub some_not_none : {A : Type 0} (x : A) → Some x ≡ None → ⊥
some_not_none x e = absurd (cc e)
