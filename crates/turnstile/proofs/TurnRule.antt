-- Each step keeps the rule of the turns.
use Rattle.std.proofs.Common.{◌≡◌, ℕ, eqb, ◌+◌, ◌%◌, ◌^◌, ◌<◌, ◌≤◌, List, [], ◌∷◌, ◌++◌, length, get_or, set, sym, refl, ap, ◌∙◌, subst, ⊎_elim, arith, Option, Some, length-set, get_or-set_same, get_or-set_other}
use mathlib.Core.Logic.{dite}
use mathlib.Core.Option.{none, some, some-injective, some-ne-none}
use native.Mathlib.Decide.{ℕ_discrete}
use prog.Atomic.{either}
use lib.ListN.{get_elem?}
use lib.Seq.{set-get_or}
use Rattle.atomic_table.specs.Table.{State, Me, step, Act, keeps, takes, gives, stepped, rest, carried_after, Allows, Splits, Joins, opening}
use Rattle.turnstile.specs.declared.history.HistoryName.{HistoryName}
use Rattle.atomic_table.proofs.Lists.{at_set, set_here, set_else, set_again, one_turn, exchanged}
use Rattle.turnstile.specs.Totals.{total, is, between}
use Rattle.turnstile.specs.Turns as turns
use Rattle.turnstile.specs.Turns.{turn, waiting, holding, resting, fewer, single, both, gone, Ordered, Took, draws, draws_at, advances}
use Rattle.turnstile.specs.declared.turns.Turn.{Turn}
use Rattle.turnstile.proofs.Totals.{total-append, total-set, term_le, terms_le, total_le, total_zero, total_alone, each_set, each_snoc, is_here, between_in, between_le, between_next, between_served, between_none}

module _ {A F : Type 0} (fits : HistoryName → Option F → A → Type 0) (P : ℕ) (z : HistoryName) (f : Option F) where
  abbrev Holds : State (Option A) (Turn F) → Type 0
  Holds = Ordered fits P z f

  pub draws_keep : (slots id : ℕ) (me : Me (Option A) (Turn F)) → 0 < me.0.parts → me.0.tickets ≡ [] → me.0.holds ≡ 0 → Allows Holds slots id me 0 (λ x. (x + 1) % 2 ^ 64) (draws (step slots 0 1 0 none) me)
  draws_keep slots id me some-part no-ticket idle s k wide at small =
      let v : Turn F = me.0 in
      let T : ℕ = k.next in
      let w : Turn F = waiting v T in
      let views : List (Turn F) = set s.views id w in
      let x : ℕ = get_or s.words 0 0 in
      let next : ℕ = (x + 1) % 2 ^ 64 in
      let is_T : x ≡ T % 18446744073709551616 = k.next_is in (
        w,
        keeps,
        tt,
        record {
          serving = k.serving;
          next = T + 1;
          wide = length-set s.words 0 next ∙ k.wide;
          next_is = get_or-set_same s.words 0 next 0 (omega (arith, k.wide)) ∙ omega arith;
          serving_is = get_or-set_other s.words 0 1 next 0 (λ e. omega arith) ∙ k.serving_is;
          few = k.few;
          parts = omega (arith, k.parts, total-set (λ u. u.parts) s.views id v w at);
          count = omega (arith, k.count, total-set (λ u. length u.tickets) s.views id v w at, ap length no-ticket);
          out = λ n. omega (arith, k.out n, total-set (λ u. total (is n) u.tickets) s.views id v w at, ap (total (is n)) no-ticket, between_next n k.serving T (omega (arith, k.count)));
          bound = each_set (λ u. length u.tickets ≤ u.parts) s.views id w (omega arith) k.bound;
          same = each_set (λ u. 0 < u.parts → (u.history ≡ z) × (u.fixed ≡ f)) s.views id w (k.same id v at) k.same;
          turns = each_set (λ u. 0 < u.holds → u.tickets ≡ k.serving ∷ []) s.views id w (λ h. absurd (omega arith)) k.turns;
          one = omega (arith, k.one, total-set (λ u. u.holds) s.views id v w at);
          home = λ e. k.home (omega (arith, total-set (λ u. u.holds) s.views id v w at));
        },
        (T, refl, is_T),
      )

  -- nothing changed
  unmoved : (s : State (Option A) (Turn F)) (id i : ℕ) (v : Turn F) (c : List (ℕ × Option A)) → get_elem? s.views id ≡ some v → Holds s → Holds (stepped s i (get_or s.words i 0) id c v keeps)
  unmoved s id i v c at k = subst (λ (t : List ℕ × List (Turn F)). Holds record { words = t.0; homes = s.homes; views = t.1 }) (λ j. (sym (set-get_or s.words i 0) j, sym (set_again s.views id v at) j)) k

  -- a ticket is drawn where it is the one that was looked for
  pub draws_at_keep : (slots id : ℕ) (me : Me (Option A) (Turn F)) (old new : ℕ) → new ≡ (old + 1) % 2 ^ 64 → 0 < me.0.parts → me.0.tickets ≡ [] → me.0.holds ≡ 0
      → Allows Holds slots id me 0 (λ n. either (eqb n old) new n) (draws_at (step slots 0 old new none) me)
  draws_at_keep slots id me old new above some-part no-ticket idle s k wide at small =
      let x : ℕ = get_or s.words 0 0 in
      exchanged x old new (λ y. (w : Turn F) × (a : Act (Option A)) × Rattle.atomic_table.specs.Table.Valid s.homes me.1 a × Holds (stepped s 0 y id me.1 w a) × draws_at (step slots 0 old new none) me x (w, carried_after me.1 a))
      (λ hit.
      let d = draws_keep slots id me some-part no-ticket idle s k wide at small in
      let next : (x + 1) % 2 ^ 64 ≡ new = ap (λ (n : ℕ). (n + 1) % 2 ^ 64) hit ∙ sym above in
      (d.0, d.1, d.2, subst (λ (n : ℕ). Holds (stepped s 0 n id me.1 d.0 d.1)) next d.3, ((λ _. d.4), λ ne. absurd (ne hit))))
      (λ miss. (me.0, keeps, tt, unmoved s id 0 me.0 me.1 at k, ((λ e. absurd (miss e)), λ _. refl)))

  -- whose ticket is served, nobody has the turn
  free : (s : State (Option A) (Turn F)) (k : Holds s) (id : ℕ) (v : Turn F) → get_elem? s.views id ≡ some v → v.holds ≡ 0 → v.tickets ≡ k.serving ∷ [] → total (λ u. u.holds) s.views ≡ 0
  free s k id v at idle served = total_zero (λ u. u.holds) s.views (λ j u e. dite (ℕ_discrete j id)
      (λ is-me. let same : u ≡ v = some-injective u v (sym e ∙ (ap (get_elem? s.views) is-me ∙ at)) in ap (λ (y : Turn F). y.holds) same ∙ idle)
      (λ other. dite (ℕ_discrete u.holds 0) (λ none. none) (λ some-turn.
      let theirs : u.tickets ≡ k.serving ∷ [] = k.turns j u e (omega arith) in
      let two = terms_le (λ y. total (is k.serving) y.tickets) s.views id j v u other at e in
      absurd (omega (arith, ap (total (is k.serving)) served, ap (total (is k.serving)) theirs, is_here k.serving, k.out k.serving, between_le k.serving k.serving k.next)))))

  abbrev Goes : State (Option A) (Turn F) → ℕ → Me (Option A) (Turn F) → Type 0
  Goes s id me = (w : Turn F) × (a : Act (Option A)) × Rattle.atomic_table.specs.Table.Valid s.homes me.1 a × Holds (stepped s 1 (get_or s.words 1 0) id me.1 w a) × Took fits me (w, carried_after me.1 a)

  -- whose ticket is served takes the turn
  served : (s : State (Option A) (Turn F)) (k : Holds s) (id : ℕ) (me : Me (Option A) (Turn F)) → get_elem? s.views id ≡ some me.0 → 0 < me.0.parts → me.0.holds ≡ 0 → me.0.tickets ≡ k.serving ∷ [] → Goes s id me
  served s k id me at some-part idle mine =
      let v : Turn F = me.0 in
      let nobody = free s k id v at idle mine in
      let h = k.home nobody in
      let w : Turn F = holding v in
      let x : ℕ = get_or s.words 1 0 in
      let like = k.same id v at some-part in (
        w,
        takes 0 (Some h.0),
        h.1,
        subst (λ (ws : List ℕ). Holds record { words = ws; homes = set s.homes 0 none; views = set s.views id w }) (sym (set-get_or s.words 1 0)) record {
          serving = k.serving;
          next = k.next;
          wide = k.wide;
          next_is = k.next_is;
          serving_is = k.serving_is;
          few = k.few;
          parts = omega (arith, k.parts, total-set (λ u. u.parts) s.views id v w at);
          count = omega (arith, k.count, total-set (λ u. length u.tickets) s.views id v w at);
          out = λ n. omega (arith, k.out n, total-set (λ u. total (is n) u.tickets) s.views id v w at);
          bound = each_set (λ u. length u.tickets ≤ u.parts) s.views id w (k.bound id v at) k.bound;
          same = each_set (λ u. 0 < u.parts → (u.history ≡ z) × (u.fixed ≡ f)) s.views id w (k.same id v at) k.same;
          turns = each_set (λ u. 0 < u.holds → u.tickets ≡ k.serving ∷ []) s.views id w (λ _. mine) k.turns;
          one = omega (arith, total-set (λ u. u.holds) s.views id v w at);
          home = λ e. absurd (omega (arith, total-set (λ u. u.holds) s.views id v w at));
        },
        (h.0, refl, subst (λ (y : HistoryName). fits y v.fixed h.0) (sym like.0) (subst (λ (y : Option F). fits z y h.0) (sym like.1) h.2)),
      )

  pub takes_keep : (slots id : ℕ) (me : Me (Option A) (Turn F)) (t : ℕ) → 0 < me.0.parts → me.0.tickets ≡ t ∷ [] → me.0.holds ≡ 0 → Allows Holds slots id me 1 (λ x. x) (turns.takes fits (step slots 1 0 0 none) me)
  takes_keep slots id me t some-part mine idle s k wide at small =
      let v : Turn F = me.0 in
      let x : ℕ = get_or s.words 1 0 in
      let here : 0 < between t k.serving k.next = omega (arith, term_le (λ u. total (is t) u.tickets) s.views id v at, ap (total (is t)) mine, is_here t, k.out t) in
      let inside = between_in t k.serving k.next here in
      let near : k.next ≤ k.serving + P = omega (arith, k.count, k.parts, total_le (λ u. length u.tickets) (λ u. u.parts) s.views k.bound) in
      dite (ℕ_discrete x (t % 18446744073709551616))
      (λ hit.
      let same : k.serving ≡ t = one_turn k.serving t 18446744073709551616 inside.0 (omega (arith, k.few)) (sym k.serving_is ∙ hit) in
      let g = served s k id me at some-part idle (mine ∙ ap (λ (n : ℕ). n ∷ []) (sym same)) in
      (g.0, g.1, g.2, g.3, (t, mine, (λ _. g.4), λ ne. absurd (ne hit))))
      (λ miss. (v, keeps, tt, unmoved s id 1 v me.1 at k, (t, mine, (λ e. absurd (miss e)), λ _. refl)))

  advances_keep : (slots id : ℕ) (v : Turn F) (a : A) (more : List (ℕ × Option A)) → slots ≡ 1 → 0 < v.parts → 0 < v.holds → fits v.history v.fixed a
      → Allows Holds slots id (v, (0, Some a) ∷ more) 1 (λ x. (x + 1) % 2 ^ 64) (advances (step slots 1 1 0 none) (v, (0, Some a) ∷ more))
  advances_keep slots id v a more single-slot some-part has fit s k wide at small =
      let w : Turn F = resting v in
      let N : ℕ = k.serving in
      let x : ℕ = get_or s.words 1 0 in
      let next : ℕ = (x + 1) % 2 ^ 64 in
      let mine : v.tickets ≡ N ∷ [] = k.turns id v at has in
      let is_N : x ≡ N % 18446744073709551616 = k.serving_is in
      let like = k.same id v at some-part in
      let here : total (is N) v.tickets ≡ 1 = ap (total (is N)) mine ∙ omega (arith, is_here N) in
      let inside = between_in N N k.next (omega (arith, k.out N, term_le (λ u. total (is N) u.tickets) s.views id v at)) in (
        w,
        gives,
        tt,
        record {
          serving = N + 1;
          next = k.next;
          wide = length-set s.words 1 next ∙ k.wide;
          next_is = get_or-set_other s.words 1 0 next 0 (λ e. omega arith) ∙ k.next_is;
          serving_is = get_or-set_same s.words 1 next 0 (omega (arith, k.wide)) ∙ omega arith;
          few = k.few;
          parts = omega (arith, k.parts, total-set (λ u. u.parts) s.views id v w at);
          count = omega (arith, k.count, total-set (λ u. length u.tickets) s.views id v w at, ap length mine);
          out = λ n. omega (arith, k.out n, total-set (λ u. total (is n) u.tickets) s.views id v w at, ap (total (is n)) mine, between_served n N k.next inside.1);
          bound = each_set (λ u. length u.tickets ≤ u.parts) s.views id w (omega arith) k.bound;
          same = each_set (λ u. 0 < u.parts → (u.history ≡ z) × (u.fixed ≡ f)) s.views id w (k.same id v at) k.same;
          turns = λ j u e h. ⊎_elim (λ t. absurd (omega (arith, ap (λ (y : Turn F). y.holds) t.1))) (λ t. absurd (omega (arith, k.one, terms_le (λ y. y.holds) s.views id j v u t.0 at t.1))) (at_set s.views id j w u e);
          one = omega (arith, k.one, total-set (λ u. u.holds) s.views id v w at);
          home = λ _. (a, set_here s.homes 0 (some (Some a)) (omega arith), subst (λ (y : HistoryName). fits y f a) like.0 (subst (λ (y : Option F). fits v.history y a) like.1 fit));
        },
        refl,
      )

  pub advances_at : (slots id : ℕ) (me : Me (Option A) (Turn F)) (a : A) (more : List (ℕ × Option A)) → me.1 ≡ (0, Some a) ∷ more → slots ≡ 1 → 0 < me.0.parts → 0 < me.0.holds → fits me.0.history me.0.fixed a
      → Allows Holds slots id me 1 (λ x. (x + 1) % 2 ^ 64) (advances (step slots 1 1 0 none) me)
  advances_at slots id me a more e single-slot some-part has fit =
      subst (λ (c : List (ℕ × Option A)). Allows Holds slots id (me.0, c) 1 (λ x. (x + 1) % 2 ^ 64) (advances (step slots 1 1 0 none) (me.0, c))) (sym e) (advances_keep slots id me.0 a more single-slot some-part has fit)

  -- two seats that have no ticket are joined
  pub together : (id : ℕ) (v : Turn F) (other : ℕ) (w : Turn F) → 0 < v.parts → w.tickets ≡ [] → w.holds ≡ 0 → Joins Holds id v other w (both v w) gone
  together id v other w some-part no-ticket idle s k at apart there =
      let half : List (Turn F) = set s.views id (both v w) in
      let views : List (Turn F) = set half other gone in
      let there' : get_elem? s.views other ≡ some w = sym (set_else s.views id other (both v w) apart) ∙ there in
      let sum : (g : Turn F → ℕ) → g gone ≡ 0 → g (both v w) ≡ g v + g w → total g views ≡ total g s.views = λ g e e'. omega (arith, total-set g half other w gone there, total-set g s.views id v (both v w) at) in
      record {
        serving = k.serving;
        next = k.next;
        wide = k.wide;
        next_is = k.next_is;
        serving_is = k.serving_is;
        few = k.few;
        parts = sum (λ u. u.parts) refl refl ∙ k.parts;
        count = omega (arith, k.count, sum (λ u. length u.tickets) refl (omega (arith, ap length no-ticket)));
        out = λ n. sum (λ u. total (is n) u.tickets) refl (omega (arith, ap (total (is n)) no-ticket)) ∙ k.out n;
        bound = each_set (λ u. length u.tickets ≤ u.parts) half other gone (omega arith) (each_set (λ u. length u.tickets ≤ u.parts) s.views id (both v w) (omega (arith, k.bound id v at)) k.bound);
        same = each_set (λ u. 0 < u.parts → (u.history ≡ z) × (u.fixed ≡ f)) half other gone (λ h. absurd (omega arith)) (each_set (λ u. 0 < u.parts → (u.history ≡ z) × (u.fixed ≡ f)) s.views id (both v w) (λ _. k.same id v at some-part) k.same);
        turns = each_set (λ u. 0 < u.holds → u.tickets ≡ k.serving ∷ []) half other gone (λ h. absurd (omega arith)) (each_set (λ u. 0 < u.holds → u.tickets ≡ k.serving ∷ []) s.views id (both v w) (k.turns id v at) k.turns);
        one = omega (arith, k.one, sum (λ u. u.holds) refl (omega arith));
        home = λ e. k.home (omega (arith, sum (λ u. u.holds) refl (omega arith)));
      }

  -- a pass is split off
  pub splits : (id : ℕ) (v : Turn F) → 0 < v.parts → v.tickets ≡ [] → v.holds ≡ 0 → Splits Holds id v (fewer v) (single v)
  splits id v more no-ticket idle s k at =
      let half : List (Turn F) = set s.views id (fewer v) in
      let views : List (Turn F) = half ++ single v ∷ [] in
      let sum : (g : Turn F → ℕ) → g (fewer v) + g (single v) ≡ g v → total g views ≡ total g s.views = λ g e. omega (arith, total-append g half (single v ∷ []), total-set g s.views id v (fewer v) at) in
      record {
        serving = k.serving;
        next = k.next;
        wide = k.wide;
        next_is = k.next_is;
        serving_is = k.serving_is;
        few = k.few;
        parts = sum (λ u. u.parts) (omega arith) ∙ k.parts;
        count = omega (arith, k.count, sum (λ u. length u.tickets) (omega arith));
        out = λ n. sum (λ u. total (is n) u.tickets) (omega arith) ∙ k.out n;
        bound = each_snoc (λ u. length u.tickets ≤ u.parts) half (single v) (omega arith) (each_set (λ u. length u.tickets ≤ u.parts) s.views id (fewer v) (omega (arith, ap length no-ticket)) k.bound);
        same = each_snoc (λ u. 0 < u.parts → (u.history ≡ z) × (u.fixed ≡ f)) half (single v) (λ _. k.same id v at (omega arith)) (each_set (λ u. 0 < u.parts → (u.history ≡ z) × (u.fixed ≡ f)) s.views id (fewer v) (λ _. k.same id v at (omega arith)) k.same);
        turns = each_snoc (λ u. 0 < u.holds → u.tickets ≡ k.serving ∷ []) half (single v) (λ h. absurd (omega arith)) (each_set (λ u. 0 < u.holds → u.tickets ≡ k.serving ∷ []) s.views id (fewer v) (λ h. absurd (omega arith)) k.turns);
        one = omega (arith, k.one, sum (λ u. u.holds) (omega arith));
        home = λ e. k.home (omega (arith, sum (λ u. u.holds) (omega arith)));
      }

  -- where one seat has all parts and no ticket, the state is at home
  pub closes : (s : State (Option A) (Turn F)) (id : ℕ) (v : Turn F) → Holds s → get_elem? s.views id ≡ some v → v.parts ≡ P → v.holds ≡ 0 → (a : A) × (get_elem? s.homes 0 ≡ some (some (Some a))) × fits z f a
  closes s id v k at all idle = k.home (total_alone (λ u. u.parts) (λ u. u.holds) s.views id v (λ j u e none-left. dite (ℕ_discrete u.holds 0) (λ none-held. none-held)
      (λ held. absurd (omega (arith, k.bound j u e, ap length (k.turns j u e (omega arith)))))) at (k.parts ∙ sym all) ∙ idle)

  pub opens : (a : A) → fits z f a → P < 4294967296 → Holds (opening (0 ∷ 0 ∷ []) (Some a ∷ []) (turn P [] 0 f z))
  opens a fit small =
      let v : Turn F = turn P [] 0 f z in
      record {
        serving = 0;
        next = 0;
        wide = refl;
        next_is = refl;
        serving_is = refl;
        few = small;
        parts = omega arith;
        count = refl;
        out = λ n. sym (between_none n);
        bound = each_snoc (λ u. length u.tickets ≤ u.parts) [] v (omega arith) (λ j u e. absurd (some-ne-none u (sym e)));
        same = each_snoc (λ u. 0 < u.parts → (u.history ≡ z) × (u.fixed ≡ f)) [] v (λ _. (refl, refl)) (λ j u e. absurd (some-ne-none u (sym e)));
        turns = each_snoc (λ u. 0 < u.holds → u.tickets ≡ 0 ∷ []) [] v (λ h. absurd (omega arith)) (λ j u e. absurd (some-ne-none u (sym e)));
        one = omega arith;
        home = λ _. (a, refl, fit);
      }

  pub opens_with : (old items : List (Option A)) (a : A) → old ≡ [] → items ≡ old ++ Some a ∷ [] → fits z f a → P < 4294967296 → Holds (opening (0 ∷ 0 ∷ []) items (turn P [] 0 f z))
  opens_with old items a none-yet e fit small = subst (λ l. Holds (opening (0 ∷ 0 ∷ []) l (turn P [] 0 f z))) (sym (e ∙ ap (λ l. l ++ Some a ∷ []) none-yet)) (opens a fit small)
