-- One entry more, and the entries of a cache of the spaces that pass a test.
use Rattle.std.proofs.Common.{◌≡◌, ℕ, suc, Bool, true, false, not, ◌&&◌, cond, get_or, List, [], ◌∷◌, ◌++◌, refl, ap, sym, subst, ◌∙◌, arith, Option, Some, None}
use Rattle.std.specs.Prelude.{All, AllPairs, IsTrue, bytes_eq, is_some, option_map, option_to_list, unwrap_or, ◌==◌}
use Rattle.std.proofs.lemmas.Bool.Decides.{nat_tests}
use Rattle.std.proofs.lemmas.Bool.{false≢true}
use Rattle.std.proofs.lemmas.List.Elements.{filter_passes}
use Rattle.std.proofs.lemmas.List.Kept.{AllPairs-filter}
use Rattle.std.proofs.lemmas.List.Quantifiers.{all_pairs_push}
use Rattle.spaces.specs.ProtectionSpaces.{ProtectionSpace}
use Rattle.spaces.specs.Sites.{numbered}
use Rattle.auth_events.specs.declared.journal.Gift.{Gift}
use Rattle.auth_events.specs.declared.journal.Entry.{Entry}
use Rattle.auth_events.specs.Tables.{Tables}
use Rattle.auth_events.specs.Book.{is_of_partition}
use Rattle.auth_events.specs.Past.{age, current, gives, is_ready, live, takes_away, terms, terms_in, touches}
use Rattle.auth_events.proofs.Same.{number_same, number_refl}
use Rattle.history_laws.proofs.Apart.{differ}
use Rattle.history_laws.proofs.Holding.{current_taken, current_kept}
use Rattle.auth_cache.specs.declared.cache.Held.{Held}
use Rattle.auth_cache.specs.Cached.{held_in, retermed, touched, with_terms, without}
use Rattle.auth_cache.specs.Histories.{HasLive, held_after}
use Rattle.auth_cache.proofs.Lists.{Touched, found_there, found_without, found_push, found_pushed, found_terms, without_terms, found_space, order_stays, age_none}

-- the entry leaves the space as it is
pub record Leaves (entry : Entry) (past : List Entry) (s : ℕ) : Type 0 where
  pub held : held_after (entry ∷ past) s ≡ held_after past s
  pub untouched : touches entry s ≡ false

-- an entry that neither takes the space away nor gives nor touches it
pub leaves_by : (entry : Entry) (past : List Entry) (s : ℕ) → takes_away entry s ≡ false → gives entry s ≡ false → touches entry s ≡ false → Leaves entry past s
leaves_by entry past s kept given untouched = record {
  held =
      ap (λ (held : Option Gift). option_map (λ gift. record { gift = gift; terms = terms (entry ∷ past) s }) held) (current_kept entry past s kept given)
      ∙ ap (λ t. option_map (λ (gift : Gift). record { gift = gift; terms = t }) (current past s)) (ap (λ b. cond (b && not (is_ready entry.reply)) (terms_in entry.call) (terms past s)) untouched);
  untouched = untouched;
}

pub held_taken : (entry : Entry) (past : List Entry) (s : ℕ) → IsTrue (takes_away entry s) → held_after (entry ∷ past) s ≡ None
held_taken entry past s taken =
    ap (λ (held : Option Gift). option_map (λ gift. record { gift = gift; terms = terms (entry ∷ past) s }) held) (current_taken entry past s taken)

-- what the cache has of the space
abbrev pub kept_in : (ℕ → Bool) → List Entry → ℕ → Option Held
kept_in is_in past s = cond (is_in s) (held_after past s) None

-- an empty cache, where no space that passes is live
pub none_live : (is_in : ℕ → Bool) (past : List Entry) → ((s : ℕ) → is_in s ≡ true → live past s ≡ false) → HasLive is_in past []
none_live is_in past dead = record {
  each = λ s. at s (is_in s) refl (current past s) refl;
  order = λ i j d before within. absurd (omega arith);
}
  where
    at : (s : ℕ) (b : Bool) → is_in s ≡ b → (o : Option Gift) → current past s ≡ o → ◌≡◌ {A = Option Held} None (cond b (option_map (λ (gift : Gift). record { gift = gift; terms = terms past s }) o) None)
    at s false out o is = refl
    at s true passes None is = refl
    at s true passes (Some gift) is = absurd (false≢true (sym (dead s passes) ∙ ap is_some is))

-- the same entries under more names
pub lasts : (names more : Tables) (partition : List ℕ) (past : List Entry) (xs : List Held) → ((s : ℕ) → live past s ≡ true → numbered more.spaces s ≡ numbered names.spaces s) → HasLive (is_of_partition names partition) past xs → HasLive (is_of_partition more partition) past xs
lasts names more partition past xs same has = record { each = λ s. has.each s ∙ at s (current past s) refl; order = has.order }
  where
    none_in : (a b : Bool) → ◌≡◌ {A = Option Held} (cond a None None) (cond b None None)
    none_in true true = refl
    none_in true false = refl
    none_in false true = refl
    none_in false false = refl

    Kept : Bool → ℕ → Option Gift → Option Held
    Kept b s o = cond b (option_map (λ (gift : Gift). record { gift = gift; terms = terms past s }) o) None

    at : (s : ℕ) (o : Option Gift) → current past s ≡ o → Kept (is_of_partition names partition s) s o ≡ Kept (is_of_partition more partition s) s o
    at s None is = none_in (is_of_partition names partition s) (is_of_partition more partition s)
    at s (Some gift) is =
        ap (λ o. Kept (unwrap_or (option_map (λ (space : ProtectionSpace). bytes_eq space.site.partition partition) o) false) s (Some gift)) (sym (same s (ap is_some is)))

-- a cache has entries of spaces that pass the test
all_pass : (is_in : ℕ → Bool) (past : List Entry) (xs : List Held) → HasLive is_in past xs → All (λ h. is_in h.gift.space ≡ true) xs
all_pass is_in past xs has = λ k d within.
    of (is_in (get_or xs k d).gift.space) (held_after past (get_or xs k d).gift.space) (sym (ap is_some (has.each (get_or xs k d).gift.space)) ∙ found_there xs k d within)
  where
    of : (b : Bool) (o : Option Held) → is_some (cond b o None) ≡ true → b ≡ true
    of true o there = refl
    of false o there = absurd (false≢true there)

module _ (is_in : ℕ → Bool) (entry : Entry) (past : List Entry) where
  pub leaves_held : (s : ℕ) → Leaves entry past s → kept_in is_in past s ≡ kept_in is_in (entry ∷ past) s
  leaves_held s leaves = ap (λ o. cond (is_in s) o None) (sym leaves.held)

  -- an entry that leaves each space that passes
  pub nothing_moves : (xs : List Held) → HasLive is_in past xs → ((s : ℕ) → is_in s ≡ true → Leaves entry past s) → HasLive is_in (entry ∷ past) xs
  nothing_moves xs has leaves = record {
    each = λ s. has.each s ∙ at s (is_in s) refl;
    order = order_stays entry past xs (λ k d within. (leaves (get_or xs k d).gift.space (all_pass is_in past xs has k d within)).untouched) has.order;
  }
    where
      at : (s : ℕ) (b : Bool) → is_in s ≡ b → cond b (held_after past s) None ≡ cond b (held_after (entry ∷ past) s) None
      at s true passes = sym (leaves s passes).held
      at s false out = refl

  -- an entry that is about one space, which doesn't pass
  pub other_moves : (xs : List Held) (u : ℕ) → HasLive is_in past xs → is_in u ≡ false → ((s : ℕ) → (u == s) ≡ false → Leaves entry past s) → HasLive is_in (entry ∷ past) xs
  other_moves xs u has out leaves = nothing_moves xs has (λ s passes. leaves s (differ is_in u s out passes))

  -- an entry that takes a space away
  pub one_goes : (xs : List Held) (u : ℕ) → HasLive is_in past xs → IsTrue (takes_away entry u) → ((s : ℕ) → (u == s) ≡ false → Leaves entry past s) → ((s : ℕ) → touches entry s ≡ false) → HasLive is_in (entry ∷ past) (without u xs)
  one_goes xs u has taken leaves untouched = record {
    each = λ s. found_without u s xs ∙ at s (u == s) refl;
    order = order_stays entry past (without u xs) (λ k d within. untouched (get_or (without u xs) k d).gift.space) (AllPairs-filter (Touched past) (λ held. not (held.gift.space == u)) xs has.order);
  }
    where
      none_in : (b : Bool) → ◌≡◌ {A = Option Held} None (cond b None None)
      none_in true = refl
      none_in false = refl

      at : (s : ℕ) (b : Bool) → (u == s) ≡ b → cond b None (held_in xs s) ≡ kept_in is_in (entry ∷ past) s
      at s true same =
          none_in (is_in s)
          ∙ ap (λ o. cond (is_in s) o None) (sym (held_taken entry past s (subst (λ n. IsTrue (takes_away entry n)) (number_same u s same) taken)))
      at s false other = has.each s ∙ leaves_held s (leaves s other)

  -- an entry that touches one space, which comes last
  pub one_comes : (ys : List Held) (h : Held) → AllPairs (Touched past) ys → All (λ k. not (k.gift.space == h.gift.space) ≡ true) ys → ((s : ℕ) → touches entry s ≡ (h.gift.space == s)) → ((s : ℕ) → (h.gift.space == s) ≡ false → held_in ys s ≡ kept_in is_in (entry ∷ past) s) → held_in ys h.gift.space ≡ None → kept_in is_in (entry ∷ past) h.gift.space ≡ Some h → HasLive is_in (entry ∷ past) (ys ++ h ∷ [])
  one_comes ys h order others touched_is elsewhere none here = record {
    each = λ s. at s (h.gift.space == s) refl;
    order = all_pairs_push (Touched (entry ∷ past)) ys h (order_stays entry past ys untouched order) last;
  }
    where
      flip : (a b : ℕ) → not (a == b) ≡ true → (b == a) ≡ false
      flip a b other = grind (arith, nat_tests)

      untouched : All (λ k. touches entry k.gift.space ≡ false) ys
      untouched = λ k d within. touched_is (get_or ys k d).gift.space ∙ flip (get_or ys k d).gift.space h.gift.space (others k d within)

      last : All (λ k. Touched (entry ∷ past) k h) ys
      last = λ k d within.
          omega (arith, age_none entry past h.gift.space (touched_is h.gift.space ∙ number_refl h.gift.space), ap (λ b. cond {A = ℕ} b 0 (suc (age past (get_or ys k d).gift.space))) (untouched k d within))

      at : (s : ℕ) (b : Bool) → (h.gift.space == s) ≡ b → held_in (ys ++ h ∷ []) s ≡ kept_in is_in (entry ∷ past) s
      at s true same =
          subst (λ n. held_in (ys ++ h ∷ []) n ≡ kept_in is_in (entry ∷ past) n) (number_same h.gift.space s same)
          (found_pushed ys h none ∙ sym here)
      at s false other = found_push ys h s other ∙ elsewhere s other

  -- an entry that touches a space which was there, and may give it other terms
  module _ (xs : List Held) (has : HasLive is_in past xs) (u : ℕ) (touched_is : (s : ℕ) → touches entry s ≡ (u == s)) (leaves : (s : ℕ) → (u == s) ≡ false → Leaves entry past s) (held : Held) (there : held_in xs u ≡ Some held) where
    pub touched_comes : (h : Held) → h.gift.space ≡ u → kept_in is_in (entry ∷ past) u ≡ Some h → HasLive is_in (entry ∷ past) (without u xs ++ h ∷ [])
    touched_comes h is here =
        one_comes (without u xs) h (AllPairs-filter (Touched past) (λ k. not (k.gift.space == u)) xs has.order)
        (subst (λ n. All (λ k. not (k.gift.space == n) ≡ true) (without u xs)) (sym is) (filter_passes (λ k. not (k.gift.space == u)) xs))
        (λ s. touched_is s ∙ ap (λ n. n == s) (sym is))
        (λ s other. let apart : (u == s) ≡ false = ap (λ n. n == s) (sym is) ∙ other in found_without u s xs ∙ (ap (λ b. cond b None (held_in xs s)) apart ∙ (has.each s ∙ leaves_held s (leaves s apart))))
        (found_without u h.gift.space xs ∙ ap (λ b. cond b None (held_in xs h.gift.space)) (ap (λ n. u == n) is ∙ number_refl u))
        (ap (λ n. kept_in is_in (entry ∷ past) n) is ∙ here)

    -- as it was
    pub touch_moves : kept_in is_in (entry ∷ past) u ≡ Some held → HasLive is_in (entry ∷ past) (touched u xs)
    touch_moves here =
        subst (λ o. HasLive is_in (entry ∷ past) (without u xs ++ option_to_list o)) (sym there)
        (touched_comes held (found_space u xs held there) here)

    -- with other terms
    pub set_moves : (t : ℕ) → kept_in is_in (entry ∷ past) u ≡ Some (record held { terms = t }) → HasLive is_in (entry ∷ past) (touched u (with_terms u t xs))
    set_moves t here =
        let is = found_space u xs held there in
        let new : retermed u t held ≡ record held { terms = t } = ap (λ b. cond b (record held { terms = t }) held) (ap (λ n. n == u) is ∙ number_refl u) in
        let found : held_in (with_terms u t xs) u ≡ Some (record held { terms = t }) = found_terms u t u xs ∙ (ap (option_map (retermed u t)) there ∙ ap Some new) in
        subst (λ zs. HasLive is_in (entry ∷ past) (zs ++ option_to_list (held_in (with_terms u t xs) u))) (sym (without_terms u t xs))
        (subst (λ o. HasLive is_in (entry ∷ past) (without u xs ++ option_to_list o)) (sym found)
        (touched_comes (record held { terms = t }) is here))
