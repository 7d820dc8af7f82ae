-- The one that is longest, and of equal ones added last, among found directories.
use Rattle.std.proofs.Common.{◌≡◌, ◌≢◌, ℕ, suc, ◌<◌, Bool, true, false, ◌&&◌, ◌||◌, cond, List, [], ◌∷◌, length, refl, ap, sym, subst, ◌∙◌, ◌⊎◌, inl, inr, arith, Option, Some, None}
use Rattle.std.specs.Prelude.{All, AllPairs, IsTrue, filter, fold, option_map, ◌==◌, nat_lt}
use Rattle.std.proofs.lemmas.Bool.Decides.{nat_tests}
use Rattle.std.proofs.lemmas.Bool.{false≢true}
use Rattle.std.proofs.lemmas.List.Elements.{All-head, All-tail}
use Rattle.spaces.specs.declared.roster.Roster.{Roster}
use Rattle.auth_events.specs.Book.{Found, better, longer}
use Rattle.auth_events.proofs.Numbers.{and_left, and_right, both}
use Rattle.path_lookup.specs.Notes.{dir_at}
use Rattle.path_lookup.specs.Histories.{Placed, noted_dir}

abbrev lg : ℕ → ℕ → ℕ → ℕ → Bool
lg la pa lb pb = nat_lt lb la || la == lb && nat_lt pb pa

lg_trans : (la pa lb pb lc pc : ℕ) → IsTrue (lg la pa lb pb) → IsTrue (lg lb pb lc pc) → IsTrue (lg la pa lc pc)
lg_trans la pa lb pb lc pc ab bc = grind (arith, nat_tests)

lg_not : (la pa lb pb : ℕ) → IsTrue (lg la pa lb pb) → IsTrue (lg lb pb la pa) → ⊥
lg_not la pa lb pb ab ba = grind (arith, nat_tests)

lg_other : (la pa lb pb : ℕ) → pa ≢ pb → lg la pa lb pb ≡ false → IsTrue (lg lb pb la pa)
lg_other la pa lb pb apart fails = grind (arith, nat_tests)

lg_later : (la pa lb pb : ℕ) → nat_lt la lb ≡ false → pb < pa → IsTrue (lg la pa lb pb)
lg_later la pa lb pb fails later = grind (arith, nat_tests)

lg_longer : (la pa lb pb : ℕ) → nat_lt lb la ≡ true → IsTrue (lg la pa lb pb)
lg_longer la pa lb pb longer_it = ap (λ b. b || la == lb && nat_lt pb pa) longer_it

abbrev pub over : Found → Found → Type 0
over a b = IsTrue (longer a.noted b.noted)

over_trans : (a b c : Found) → over a b → over b c → over a c
over_trans a b c ab bc = lg_trans (length a.noted.dir) a.noted.place (length b.noted.dir) b.noted.place (length c.noted.dir) c.noted.place ab bc

over_not : (a b : Found) → over a b → over b a → ⊥
over_not a b ab ba = lg_not (length a.noted.dir) a.noted.place (length b.noted.dir) b.noted.place ab ba

-- TOPS

abbrev pub IsTop : (Found → Type 0) → Option Found → Type 0
IsTop P None = (f : Found) → P f → ⊥
IsTop P (Some b) = P b × ((f : Found) → P f → (f ≡ b) ⊎ over b f)

pub top_same : (P : Found → Type 0) (a b : Option Found) → IsTop P a → IsTop P b → a ≡ b
top_same P None None ta tb = refl
top_same P None (Some b) ta tb = absurd (ta b tb.0)
top_same P (Some a) None ta tb = absurd (tb a ta.0)
top_same P (Some a) (Some b) ta tb =
    elim (ta.1 b tb.0) [
      | inl same ↦ ap Some (sym same)
      | inr ab ↦ elim (tb.1 a ta.0) [
        | inl same ↦ ap Some same
        | inr ba ↦ absurd (over_not a b ab ba)
      ]
    ]

pub top_as : (P Q : Found → Type 0) (o : Option Found) → ((f : Found) → P f → Q f) → ((f : Found) → Q f → P f) → IsTop P o → IsTop Q o
top_as P Q None to from top = λ f q. top f (from f q)
top_as P Q (Some b) to from top = (to b top.0, λ f q. top.1 f (from f q))

pub join : (P Q : Found → Type 0) (a b : Option Found) → ((f g : Found) → P f → Q g → (f ≡ g) ⊎ (f.noted.place ≢ g.noted.place)) → IsTop P a → IsTop Q b → IsTop (λ f. P f ⊎ Q f) (better a b)
join P Q None None apart ta tb =
    λ f either. elim either [
      | inl p ↦ ta f p
      | inr q ↦ tb f q
    ]
join P Q None (Some b) apart ta tb = (
  inr tb.0,
  λ f either. elim either [
    | inl p ↦ absurd (ta f p)
    | inr q ↦ tb.1 f q
  ],
)
join P Q (Some a) None apart ta tb = (
  inl ta.0,
  λ f either. elim either [
    | inl p ↦ ta.1 f p
    | inr q ↦ absurd (tb f q)
  ],
)
join P Q (Some a) (Some b) apart ta tb = at (longer a.noted b.noted) refl
  where
    turn : longer a.noted b.noted ≡ false → (a ≡ b) ⊎ over b a
    turn fails = elim (apart a b ta.0 tb.0) [
      | inl same ↦ inl same
      | inr differ ↦ inr (lg_other (length a.noted.dir) a.noted.place (length b.noted.dir) b.noted.place differ fails)
    ]

    under_b : longer a.noted b.noted ≡ false → (f : Found) → P f → (f ≡ b) ⊎ over b f
    under_b fails f p = elim (ta.1 f p) [
      | inl is_a ↦ elim (turn fails) [
        | inl same ↦ inl (is_a ∙ same)
        | inr ba ↦ inr (subst (over b) (sym is_a) ba)
      ]
      | inr af ↦ elim (turn fails) [
        | inl same ↦ inr (subst (λ g. over g f) same af)
        | inr ba ↦ inr (over_trans b a f ba af)
      ]
    ]

    under_a : longer a.noted b.noted ≡ true → (f : Found) → Q f → (f ≡ a) ⊎ over a f
    under_a ab f q = elim (tb.1 f q) [
      | inl is_b ↦ inr (subst (over a) (sym is_b) ab)
      | inr bf ↦ inr (over_trans a b f ab bf)
    ]

    at : (t : Bool) → longer a.noted b.noted ≡ t → IsTop (λ f. P f ⊎ Q f) (cond t (Some a) (Some b))
    at true ab = (
      inl ta.0,
      λ f either. elim either [
        | inl p ↦ ta.1 f p
        | inr q ↦ under_a ab f q
      ],
    )
    at false fails = (
      inr tb.0,
      λ f either. elim either [
        | inl p ↦ under_b fails f p
        | inr q ↦ tb.1 f q
      ],
    )

-- WHAT IS FOUND AT NOTES

module _ (roster : Roster) where
  abbrev pub found_of : Placed → Found
  found_of one = record { space = one.note.space; noted = noted_dir roster one }

  abbrev pub In : (Placed → Bool) → Found → List Placed → Type 0
  In good f [] = ⊥
  In good f (one ∷ placed) = (IsTrue (good one) × (found_of one ≡ f)) ⊎ In good f placed

  abbrev pub InOrder : List Placed → Type 0
  InOrder placed = AllPairs (λ a b. a.place < b.place) placed

  pub order_rest : (one : Placed) (placed : List Placed) → InOrder (one ∷ placed) → InOrder placed
  order_rest one placed order = λ i j d before within. order (suc i) (suc j) d (omega arith) (omega arith)

  pub order_first : (one : Placed) (placed : List Placed) → InOrder (one ∷ placed) → All (λ b. one.place < b.place) placed
  order_first one placed order = λ j d within. order 0 (suc j) d (omega arith) (omega arith)

  -- the note at which something is found
  pub at_note : (P : Placed → Type 0) (good : Placed → Bool) (f : Found) (placed : List Placed) → All P placed → In good f placed → (one : Placed) × P one × IsTrue (good one) × (found_of one ≡ f)
  at_note P good f [] all there = absurd there
  at_note P good f (one ∷ placed) all there = at there (λ later. at_note P good f placed (All-tail P one placed all) later)
    where
      at : (IsTrue (good one) × (found_of one ≡ f)) ⊎ In good f placed → (In good f placed → (o : Placed) × P o × IsTrue (good o) × (found_of o ≡ f)) → (o : Placed) × P o × IsTrue (good o) × (found_of o ≡ f)
      at (inl here) before = (one, All-head P one placed all, here.0, here.1)
      at (inr later) before = before later

  after_all : (good : Placed → Bool) (n : ℕ) (f : Found) (placed : List Placed) → All (λ one. n < one.place) placed → In good f placed → n < f.noted.place
  after_all good n f placed all there =
      let found = at_note (λ one. n < one.place) good f placed all there in
      subst (λ (g : Found). n < g.noted.place) found.3 found.1

  pub in_distinct : (a b : Placed → Bool) (f g : Found) (placed : List Placed) → InOrder placed → In a f placed → In b g placed → (f ≡ g) ⊎ (f.noted.place ≢ g.noted.place)
  in_distinct a b f g [] order there here = absurd there
  in_distinct a b f g (one ∷ placed) order there here =
      at there here (λ x y. in_distinct a b f g placed (order_rest one placed order) x y)
    where
      at : (IsTrue (a one) × (found_of one ≡ f)) ⊎ In a f placed → (IsTrue (b one) × (found_of one ≡ g)) ⊎ In b g placed → (In a f placed → In b g placed → (f ≡ g) ⊎ (f.noted.place ≢ g.noted.place)) → (f ≡ g) ⊎ (f.noted.place ≢ g.noted.place)
      at (inl x) (inl y) before = inl (sym x.1 ∙ y.1)
      at (inl x) (inr y) before =
          let later = after_all b one.place g placed (order_first one placed order) y in
          let first : one.place ≡ f.noted.place = ap (λ (h : Found). h.noted.place) x.1 in
          inr (λ same. absurd (omega (arith, later, first, same)))
      at (inr x) (inl y) before =
          let later = after_all a one.place f placed (order_first one placed order) x in
          let first : one.place ≡ g.noted.place = ap (λ (h : Found). h.noted.place) y.1 in
          inr (λ same. absurd (omega (arith, later, first, same)))
      at (inr x) (inr y) before = before x y

  pub in_as : (P : Placed → Type 0) (a b : Placed → Bool) → ((one : Placed) → P one → IsTrue (a one) → IsTrue (b one)) → (f : Found) (placed : List Placed) → All P placed → In a f placed → In b f placed
  in_as P a b to f [] all there = there
  in_as P a b to f (one ∷ placed) all there = at there (λ later. in_as P a b to f placed (All-tail P one placed all) later)
    where
      at : (IsTrue (a one) × (found_of one ≡ f)) ⊎ In a f placed → (In a f placed → In b f placed) → (IsTrue (b one) × (found_of one ≡ f)) ⊎ In b f placed
      at (inl here) before = inl (to one (All-head P one placed all) here.0, here.1)
      at (inr later) before = inr (before later)

  pub in_split : (a b c : Placed → Bool) → ((one : Placed) → IsTrue (a one) → IsTrue (b one) ⊎ IsTrue (c one)) → (f : Found) (placed : List Placed) → In a f placed → In b f placed ⊎ In c f placed
  in_split a b c to f [] there = absurd there
  in_split a b c to f (one ∷ placed) there = at there (λ later. in_split a b c to f placed later)
    where
      at : (IsTrue (a one) × (found_of one ≡ f)) ⊎ In a f placed → (In a f placed → In b f placed ⊎ In c f placed) → ((IsTrue (b one) × (found_of one ≡ f)) ⊎ In b f placed) ⊎ ((IsTrue (c one) × (found_of one ≡ f)) ⊎ In c f placed)
      at (inl here) before = elim (to one here.0) [
        | inl is_b ↦ inl (inl (is_b, here.1))
        | inr is_c ↦ inr (inl (is_c, here.1))
      ]
      at (inr later) before = elim (before later) [
        | inl x ↦ inl (inr x)
        | inr y ↦ inr (inr y)
      ]

  pub in_filtered : (p a : Placed → Bool) (f : Found) (placed : List Placed) → In a f (filter p placed) → In (λ one. p one && a one) f placed
  in_filtered p a f [] there = there
  in_filtered p a f (one ∷ placed) there = at (p one) refl there (λ later. in_filtered p a f placed later)
    where
      at : (t : Bool) → p one ≡ t → In a f (cond t (one ∷ filter p placed) (filter p placed)) → (In a f (filter p placed) → In (λ o. p o && a o) f placed) → (IsTrue (p one && a one) × (found_of one ≡ f)) ⊎ In (λ o. p o && a o) f placed
      at true is (inl here) before = inl (both (p one) (a one) is here.0, here.1)
      at true is (inr later) before = inr (before later)
      at false is later before = inr (before later)

  pub filtered_in : (p a : Placed → Bool) (f : Found) (placed : List Placed) → In (λ one. p one && a one) f placed → In a f (filter p placed)
  filtered_in p a f [] there = there
  filtered_in p a f (one ∷ placed) there = at (p one) refl there (λ later. filtered_in p a f placed later)
    where
      at : (t : Bool) → p one ≡ t → (IsTrue (p one && a one) × (found_of one ≡ f)) ⊎ In (λ o. p o && a o) f placed → (In (λ o. p o && a o) f placed → In a f (filter p placed)) → In a f (cond t (one ∷ filter p placed) (filter p placed))
      at true is (inl here) before = inl (and_right (p one) (a one) here.0, here.1)
      at true is (inr later) before = inr (before later)
      at false is (inl here) before = absurd (false≢true (sym is ∙ and_left (p one) (a one) here.0))
      at false is (inr later) before = before later

  -- THE BEST NOTE

  module _ (good : Placed → Bool) where
    abbrev pub better_placed : Option Placed → Placed → Option Placed
    better_placed None one = Some one
    better_placed (Some best) one = cond (nat_lt (length (dir_at roster one.note)) (length (dir_at roster best.note))) (Some best) (Some one)

    abbrev pub best_step : Option Placed → Placed → Option Placed
    best_step best one = cond (good one) (better_placed best one) best

    newer : (P : Found → Type 0) (o : Option Placed) (one : Placed) → IsTop P (option_map found_of o) → ((f : Found) → P f → f.noted.place < one.place) → IsTop (λ f. P f ⊎ (found_of one ≡ f)) (option_map found_of (better_placed o one))
    newer P None one top later = (
      inr refl,
      λ f either. elim either [
        | inl p ↦ absurd (top f p)
        | inr is ↦ inl (sym is)
      ],
    )
    newer P (Some best) one top later = at (nat_lt (length (dir_at roster one.note)) (length (dir_at roster best.note))) refl
      where
        beats : nat_lt (length (dir_at roster one.note)) (length (dir_at roster best.note)) ≡ false → (f : Found) → P f → over (found_of one) f
        beats fails f p =
            let first : over (found_of one) (found_of best) = lg_later (length (dir_at roster one.note)) one.place (length (dir_at roster best.note)) best.place fails (later (found_of best) top.0) in
            elim (top.1 f p) [
              | inl is ↦ subst (over (found_of one)) (sym is) first
              | inr bf ↦ over_trans (found_of one) (found_of best) f first bf
            ]

        at : (t : Bool) → nat_lt (length (dir_at roster one.note)) (length (dir_at roster best.note)) ≡ t → IsTop (λ f. P f ⊎ (found_of one ≡ f)) (option_map found_of (cond t (Some best) (Some one)))
        at true shorter = (
          inl top.0,
          λ f either. elim either [
            | inl p ↦ top.1 f p
            | inr is ↦ inr (subst (over (found_of best)) is (lg_longer (length (dir_at roster best.note)) best.place (length (dir_at roster one.note)) one.place shorter))
          ],
        )
        at false fails = (
          inr refl,
          λ f either. elim either [
            | inl p ↦ inr (beats fails f p)
            | inr is ↦ inl (sym is)
          ],
        )

    pub scan : (P : Found → Type 0) (o : Option Placed) (placed : List Placed) → IsTop P (option_map found_of o) → ((f : Found) → P f → All (λ one. f.noted.place < one.place) placed) → InOrder placed → IsTop (λ f. P f ⊎ In good f placed) (option_map found_of (fold best_step o placed))
    scan P o [] top later order =
        top_as P (λ f. P f ⊎ ⊥) (option_map found_of o) (λ f p. inl p) (λ f either. elim either [
          | inl p ↦ p
          | inr fails ↦ absurd fails
        ]) top
    scan P o (one ∷ placed) top later order =
        at (good one) refl
        (λ more. scan (λ f. P f ⊎ (found_of one ≡ f)) (better_placed o one) placed more after (order_rest one placed order))
        (scan P o placed top (λ f p. All-tail (λ b. f.noted.place < b.place) one placed (later f p)) (order_rest one placed order))
      where
        after : (f : Found) → P f ⊎ (found_of one ≡ f) → All (λ b. f.noted.place < b.place) placed
        after f (inl p) = All-tail (λ b. f.noted.place < b.place) one placed (later f p)
        after f (inr is) = subst (λ (g : Found). All (λ b. g.noted.place < b.place) placed) is (order_first one placed order)

        Q : Found → Type 0
        Q f = P f ⊎ In good f (one ∷ placed)

        with_it : IsTrue (good one) → (f : Found) → (P f ⊎ (found_of one ≡ f)) ⊎ In good f placed → P f ⊎ ((IsTrue (good one) × (found_of one ≡ f)) ⊎ In good f placed)
        with_it is f (inl (inl p)) = inl p
        with_it is f (inl (inr here)) = inr (inl (is, here))
        with_it is f (inr rest) = inr (inr rest)

        back : (f : Found) → P f ⊎ ((IsTrue (good one) × (found_of one ≡ f)) ⊎ In good f placed) → (P f ⊎ (found_of one ≡ f)) ⊎ In good f placed
        back f (inl p) = inl (inl p)
        back f (inr (inl here)) = inl (inr here.1)
        back f (inr (inr rest)) = inr rest

        without_it : good one ≡ false → (f : Found) → P f ⊎ ((IsTrue (good one) × (found_of one ≡ f)) ⊎ In good f placed) → P f ⊎ In good f placed
        without_it fails f (inl p) = inl p
        without_it fails f (inr (inl here)) = absurd (false≢true (sym fails ∙ here.0))
        without_it fails f (inr (inr rest)) = inr rest

        or_more : (f : Found) → P f ⊎ In good f placed → P f ⊎ ((IsTrue (good one) × (found_of one ≡ f)) ⊎ In good f placed)
        or_more f (inl p) = inl p
        or_more f (inr rest) = inr (inr rest)

        at : (t : Bool) → good one ≡ t → (IsTop (λ f. P f ⊎ (found_of one ≡ f)) (option_map found_of (better_placed o one)) → IsTop (λ f. (P f ⊎ (found_of one ≡ f)) ⊎ In good f placed) (option_map found_of (fold best_step (better_placed o one) placed))) → IsTop (λ f. P f ⊎ In good f placed) (option_map found_of (fold best_step o placed)) → IsTop (λ f. P f ⊎ ((IsTrue (good one) × (found_of one ≡ f)) ⊎ In good f placed)) (option_map found_of (fold best_step (cond t (better_placed o one) o) placed))
        at true is with_one without_one =
            top_as (λ f. (P f ⊎ (found_of one ≡ f)) ⊎ In good f placed) (λ f. P f ⊎ ((IsTrue (good one) × (found_of one ≡ f)) ⊎ In good f placed)) (option_map found_of (fold best_step (better_placed o one) placed)) (with_it is) back
            (with_one (newer P o one top (λ f p. All-head (λ b. f.noted.place < b.place) one placed (later f p))))
        at false fails with_one without_one =
            top_as (λ f. P f ⊎ In good f placed) (λ f. P f ⊎ ((IsTrue (good one) × (found_of one ≡ f)) ⊎ In good f placed)) (option_map found_of (fold best_step o placed)) or_more (without_it fails) without_one
