-- A cache that is told the entries of a legal past about its partition has the partition's live spaces.
use Rattle.std.proofs.Common.{◌≡◌, ℕ, Bool, true, false, not, ◌&&◌, ◌||◌, cond, List, [], ◌∷◌, ◌++◌, length, drop, refl, ap, sym, subst, ◌∙◌, ◌⊎◌, inl, inr, arith, Option, Some, None}
use Rattle.std.specs.Prelude.{All, AllPairs, IsTrue, is_some, option_map, unwrap_or, slice_get, ◌==◌, nat_lt}
use Rattle.std.proofs.lemmas.Bool.Decides.{nat_tests}
use Rattle.std.proofs.lemmas.Bool.{false≢true}
use Rattle.std.proofs.lemmas.Option.{none-some}
use Rattle.std.proofs.lemmas.List.Elements.{All-tail, All-head, filter_passes}
use Rattle.std.proofs.lemmas.List.Kept.{AllPairs-filter}
use Rattle.spaces.specs.declared.roster.Roster.{Roster}
use Rattle.auth_events.specs.declared.journal.Gift.{Gift}
use Rattle.auth_events.specs.declared.journal.Entry.{Entry}
use Rattle.auth_events.specs.declared.journal.Call.{Call}
use Rattle.auth_events.specs.declared.journal.Call.TheVariants.{Begin, Preempt, Select, Reject, Renew, Answer, Lose, Take, Note, End}
use Rattle.auth_events.specs.declared.journal.BookReply.{BookReply}
use Rattle.auth_events.specs.declared.journal.BookReply.TheVariants.{Begun, Ready, Nothing, Url, Cached, Default, Follow, Lead, Removed, Kept, Renewed, Given, Cancelled, Lost, Gave, Noted, Ended}
use Rattle.auth_events.specs.Tables.{Tables}
use Rattle.auth_events.specs.Pages.{fits}
use Rattle.auth_events.specs.Past.{current, gives, gift_given, evicted_by, is_of, is_ready, takes_away, terms, terms_in, touches, evicted}
use Rattle.auth_events.specs.Book.{IsLegalPast, IsStep, first_choice, is_of_partition, is_rival, is_that_gift, preempt_answer, ready, same_gift, select_answer, space_by_path}
use Rattle.auth_events.proofs.Numbers.{and_left, and_right}
use Rattle.auth_events.proofs.Same.{number_same, number_refl}
use Rattle.history_laws.specs.Partitions.{concerns}
use Rattle.history_laws.proofs.Apart.{all_left_alone, differ, no_rival}
use Rattle.history_laws.proofs.Holding.{current_kept}
use Rattle.history_laws.proofs.Leaving.{and_false, no_space, GivesNone, GivesNext, gives_next}
use Rattle.history_laws.proofs.Rooms.{live_given, zero_unused}
use Rattle.history_laws.proofs.Telling.{current_space}
use Rattle.auth_cache.specs.declared.cache.Held.{Held}
use Rattle.auth_cache.specs.Cached.{held_in, put_in, touched, with_terms, without, evicted as evicted_in}
use Rattle.auth_cache.specs.Histories.{HasLive, held_after, entries_after, entries_told}
use Rattle.auth_cache.proofs.Lists.{Touched, found_without, AllPairs-tail, without_first}
use Rattle.auth_cache.proofs.Steps.{Leaves, kept_in, leaves_by, leaves_held, held_taken, nothing_moves, one_goes, one_comes, other_moves, touch_moves, set_moves}
use Rattle.auth_cache.proofs.Evictions.{evicts}

-- WHAT A SPACE HOLDS

gift_of_parts : (s s' o o' : ℕ) → s ≡ s' → o ≡ o' → ◌≡◌ {A = Gift} (record { space = s; ordinal = o }) (record { space = s'; ordinal = o' })
gift_of_parts s s' o o' same_s same_o = cc

pub same_gift_is : (a b : Gift) → IsTrue (same_gift a b) → a ≡ b
same_gift_is a b same =
    gift_of_parts a.space b.space a.ordinal b.ordinal
    (number_same a.space b.space (and_left (a.space == b.space) (a.ordinal == b.ordinal) same)) (number_same a.ordinal b.ordinal (and_right (a.space == b.space) (a.ordinal == b.ordinal) same))

-- the gift that is kept, and acted on, is the one that the space holds
pub that_gift : (past : List Entry) (gift : Gift) (done other : BookReply) → done ≡ cond (is_that_gift (current past gift.space) gift) done other → (done ≡ other → ⊥) → current past gift.space ≡ Some gift
that_gift past gift done other is apart = at (current past gift.space) is
  where
    of : (held : Gift) (b : Bool) → same_gift held gift ≡ b → done ≡ cond b done other → Some held ≡ Some gift
    of held true same is' = ap Some (same_gift_is held gift same)
    of held false same is' = absurd (apart is')

    at : (o : Option Gift) → done ≡ cond (is_that_gift o gift) done other → o ≡ Some gift
    at None is' = absurd (apart is')
    at (Some held) is' = of held (same_gift held gift) refl is'

-- a cached gift is the one that the space holds
pub cached_gift : (rival : ℕ → Bool) (past : List Entry) (s : ℕ) (gift : Gift) (url : Bool) (held : Option Gift) (ambient : Bool) (led : Option Entry) → Cached gift ≡ select_answer rival past s (first_choice url held ambient led) → held ≡ Some gift
cached_gift rival past s gift true held ambient led is = absurd cc
cached_gift rival past s gift false (Some other) ambient led is = cc
cached_gift rival past s gift false None true led is = absurd cc
cached_gift rival past s gift false None false (Some entry) is = absurd cc
cached_gift rival past s gift false None false None is = absurd cc

-- a ready gift is the one that its space holds, with its terms
pub ready_gift : (names : Tables) (past : List Entry) (gift : Gift) (t epoch : ℕ) (found : Option ℕ) → Ready gift t epoch ≡ preempt_answer names past found → current past gift.space ≡ Some gift
ready_gift names past gift t epoch None is = absurd cc
ready_gift names past gift t epoch (Some s) is = at (current past s) refl is
  where
    at : (o : Option Gift) → current past s ≡ o → Ready gift t epoch ≡ ready names past s o → current past gift.space ≡ Some gift
    at None is_o is' = absurd cc
    at (Some other) is_o is' =
        let same : other ≡ gift = cc in
        let holds : current past s ≡ Some gift = is_o ∙ ap Some same in
        ap (current past) (current_space past s gift holds) ∙ holds

held_is : (past : List Entry) (gift : Gift) → current past gift.space ≡ Some gift → held_after past gift.space ≡ Some (record { gift = gift; terms = terms past gift.space })
held_is past gift is = ap (option_map (λ g. record { gift = g; terms = terms past gift.space })) is

-- nothing is evicted and nothing is rejected
abbrev entry_of : ℕ → ℕ → Call → BookReply → Entry
entry_of caller r call reply = record { caller = caller; request = r; call = call; reply = reply }

no_zero : (s : ℕ) → (not (s == 0) && 0 == s) ≡ false
no_zero s = no_space false s refl

-- A GIVING

module _ (is_in : ℕ → Bool) (entry : Entry) (past : List Entry) (xs : List Held) (has : HasLive is_in past xs) (h : Held) (gone : ℕ)
    (gives_is : (s : ℕ) → gives entry s ≡ (h.gift.space == s)) (touches_is : (s : ℕ) → touches entry s ≡ (h.gift.space == s)) (takes_is : (s : ℕ) → takes_away entry s ≡ (not (s == 0) && gone == s))
    (gift_is : gift_given entry.reply ≡ Some h.gift) (fresh : is_ready entry.reply ≡ false) (terms_is : terms_in entry.call ≡ h.terms) (in_it : is_in h.gift.space ≡ true) (zero_dead : held_after past 0 ≡ None)
    (gone_is : gone ≡ unwrap_or (option_map (λ (k : Held). k.gift.space) (evicted_in 32 xs h.gift.space)) 0) where
  abbrev u : ℕ
  u = h.gift.space

  abbrev zs : List Held
  zs = without h.gift.space xs

  comes : (not (u == 0) && gone == u) ≡ false → kept_in is_in (entry ∷ past) u ≡ Some h
  comes stays =
      ap (λ b. cond b (held_after (entry ∷ past) u) None) in_it
      ∙ (ap (λ b. option_map (λ (gift : Gift). record { gift = gift; terms = terms (entry ∷ past) u }) (cond b None (cond (gives entry u) (gift_given entry.reply) (current past u)))) (takes_is u ∙ stays)
      ∙ (ap (λ b. option_map (λ (gift : Gift). record { gift = gift; terms = terms (entry ∷ past) u }) (cond b (gift_given entry.reply) (current past u))) (gives_is u ∙ number_refl u)
      ∙ (ap (option_map (λ (gift : Gift). record { gift = gift; terms = terms (entry ∷ past) u })) gift_is
      ∙ (ap (λ b. Some (record { gift = h.gift; terms = cond (b && not (is_ready entry.reply)) (terms_in entry.call) (terms past u) })) (touches_is u ∙ number_refl u)
      ∙ (ap (λ b. Some (record { gift = h.gift; terms = cond (not b) (terms_in entry.call) (terms past u) })) fresh
      ∙ ap (λ t. Some (record { gift = h.gift; terms = t })) terms_is)))))

  leaves : (s : ℕ) → (u == s) ≡ false → (not (s == 0) && gone == s) ≡ false → Leaves entry past s
  leaves s other stays = leaves_by entry past s (takes_is s ∙ stays) (gives_is s ∙ other) (touches_is s ∙ other)

  abbrev Gone : List Held → Bool → Type 0
  Gone ys b = gone ≡ unwrap_or (option_map (λ (k : Held). k.gift.space) (cond b None (slice_get ys 0))) 0

  others : All (λ k. not (k.gift.space == u) ≡ true) zs
  others = filter_passes (λ k. not (k.gift.space == u)) xs

  order : AllPairs (Touched past) zs
  order = AllPairs-filter (Touched past) (λ k. not (k.gift.space == u)) xs has.order

  without_u : held_in zs u ≡ None
  without_u = found_without u u xs ∙ ap (λ b. cond b None (held_in xs u)) (number_refl u)

  before : (s : ℕ) → (u == s) ≡ false → held_in zs s ≡ kept_in is_in past s
  before s other = found_without u s xs ∙ (ap (λ b. cond b None (held_in xs s)) other ∙ has.each s)

  roomy : gone ≡ 0 → HasLive is_in (entry ∷ past) (zs ++ h ∷ [])
  roomy none =
      one_comes is_in entry past zs h order others touches_is
      (λ s other. before s other ∙ leaves_held is_in entry past s (leaves s other (ap (λ n. not (s == 0) && n == s) none ∙ no_zero s)))
      without_u (comes (ap (λ n. not (u == 0) && n == u) none ∙ no_zero u))

  full : (v : Held) (rest : List Held) → zs ≡ v ∷ rest → gone ≡ v.gift.space → HasLive is_in (entry ∷ past) (rest ++ h ∷ [])
  full v rest is goes =
      one_comes is_in entry past rest h (AllPairs-tail past v rest ordered) (All-tail (λ k. not (k.gift.space == u) ≡ true) v rest apart) touches_is elsewhere
      (in_rest u ∙ ap (λ o. cond (v.gift.space == u) None o) without_u ∙ none_in (v.gift.space == u))
      (comes (ap (λ n. not (u == 0) && n == u) goes ∙ (ap (λ b. not (u == 0) && b) not_u ∙ and_false (not (u == 0)))))
    where
      none_in : (b : Bool) → ◌≡◌ {A = Option Held} (cond b None None) None
      none_in true = refl
      none_in false = refl

      ordered : AllPairs (Touched past) (v ∷ rest)
      ordered = subst (λ ys. AllPairs (Touched past) ys) is order

      apart : All (λ k. not (k.gift.space == u) ≡ true) (v ∷ rest)
      apart = subst (λ ys. All (λ k. not (k.gift.space == u) ≡ true) ys) is others

      not_u : (v.gift.space == u) ≡ false
      not_u = at (v.gift.space == u) (All-head (λ k. not (k.gift.space == u) ≡ true) v rest apart)
        where
          at : (b : Bool) → not b ≡ true → b ≡ false
          at true other = absurd (false≢true other)
          at false other = refl

      in_rest : (s : ℕ) → held_in rest s ≡ cond (v.gift.space == s) None (held_in zs s)
      in_rest s =
          ap (λ ys. held_in ys s) (sym (without_first past v rest ordered) ∙ ap (without v.gift.space) (sym is))
          ∙ found_without v.gift.space s zs

      elsewhere : (s : ℕ) → (u == s) ≡ false → held_in rest s ≡ kept_in is_in (entry ∷ past) s
      elsewhere s other = in_rest s ∙ at (v.gift.space == s) refl (s == 0) refl
        where
          gone_none : (b c : Bool) → (s == 0) ≡ b → (v.gift.space == s) ≡ true → ◌≡◌ {A = Option Held} None (kept_in is_in (entry ∷ past) s)
          gone_none true c zero_it same =
              sym (sym (leaves_held is_in entry past s (leaves s other (ap (λ b. not b && gone == s) zero_it)))
              ∙ (ap (λ n. kept_in is_in past n) (number_same s 0 zero_it)
              ∙ (ap (λ o. cond (is_in 0) o None) zero_dead
              ∙ none_in (is_in 0))))
          gone_none false c positive same =
              sym (ap (λ o. cond (is_in s) o None) (held_taken entry past s (takes_is s ∙ (ap (λ b. not b && gone == s) positive ∙ (ap (λ n. n == s) goes ∙ same))))
              ∙ none_in (is_in s))

          at : (b : Bool) → (v.gift.space == s) ≡ b → (c : Bool) → (s == 0) ≡ c → cond b None (held_in zs s) ≡ kept_in is_in (entry ∷ past) s
          at true same c is_c = gone_none c c is_c same
          at false differ c is_c =
              before s other
              ∙ leaves_held is_in entry past s (leaves s other (ap (λ n. not (s == 0) && n == s) goes ∙ (ap (λ b. not (s == 0) && b) differ ∙ and_false (not (s == 0)))))

  pub put_moves : HasLive is_in (entry ∷ past) (put_in 32 xs h)
  put_moves = at (nat_lt (length zs) 32) refl gone_is zs refl
    where
      at : (b : Bool) → nat_lt (length zs) 32 ≡ b → Gone zs b → (ys : List Held) → zs ≡ ys → HasLive is_in (entry ∷ past) (cond b zs (drop 1 zs) ++ h ∷ [])
      at true room goes ys is = roomy goes
      at false none goes [] is = absurd (short (length zs) (ap length is) none)
        where
          short : (n : ℕ) → n ≡ 0 → nat_lt n 32 ≡ false → ⊥
          short n zero_it none = grind (arith, nat_tests)
      at false none goes (v ∷ rest) is =
          subst (λ ys. HasLive is_in (entry ∷ past) (drop 1 ys ++ h ∷ [])) (sym is)
          (full v rest is (goes ∙ ap (λ ys. unwrap_or (option_map (λ (k : Held). k.gift.space) (slice_get ys 0)) 0) is))

-- EACH ENTRY

module _ (roster : Roster) (names : Tables) (partition : List ℕ) (past : List Entry) (legal : IsLegalPast roster names past) (xs : List Held) (has : HasLive (is_of_partition names partition) past xs) where
  abbrev is_in : ℕ → Bool
  is_in = is_of_partition names partition

  dead_zero : held_after past 0 ≡ None
  dead_zero = at (current past 0) refl
    where
      at : (o : Option Gift) → current past 0 ≡ o → option_map {U = Held} (λ (gift : Gift). record { gift = gift; terms = terms past 0 }) o ≡ None
      at None is = refl
      at (Some gift) is = absurd (omega (arith, zero_unused roster names past legal, live_given past 0 (ap is_some is)))

  abbrev Has : ℕ → ℕ → Call → BookReply → Type 0
  Has caller r call reply = HasLive is_in (entry_of caller r call reply ∷ past) (entries_told is_in 32 call reply xs)

  there : (gift : Gift) → current past gift.space ≡ Some gift → is_in gift.space ≡ true → held_in xs gift.space ≡ Some (record { gift = gift; terms = terms past gift.space })
  there gift is in_it = has.each gift.space ∙ (ap (λ b. cond b (held_after past gift.space) None) in_it ∙ held_is past gift is)

  -- an entry that is about one space, which is of the partition or isn't
  told : (entry : Entry) (u : ℕ) (after : List Held) → ((s : ℕ) → (u == s) ≡ false → Leaves entry past s) → (is_in u ≡ true → HasLive is_in (entry ∷ past) after) → HasLive is_in (entry ∷ past) (cond (is_in u) after xs)
  told entry u after leaves here = at (is_in u) refl
    where
      at : (b : Bool) → is_in u ≡ b → HasLive is_in (entry ∷ past) (cond b after xs)
      at true in_it = here in_it
      at false out = other_moves is_in entry past xs u has out leaves

  -- what is given is next, and the first goes where there is no room
  goes : (gift : Gift) (gone : ℕ) (call : Call) (reply : BookReply) → gift_given reply ≡ Some gift → evicted_by reply ≡ gone → GivesNone reply ⊎ GivesNext names past call reply → is_in gift.space ≡ true → gone ≡ unwrap_or (option_map (λ (k : Held). k.gift.space) (evicted_in 32 xs gift.space)) 0
  goes gift gone call reply is gone_is (inl none) in_it = absurd (none-some gift (sym none.0 ∙ is))
  goes gift gone call reply is gone_is (inr next) in_it =
      let space : next.space ≡ gift.space = ap (λ o. unwrap_or (option_map (λ (g : Gift). g.space) o) 0) (sym next.gift ∙ is) in
      sym gone_is ∙ (next.evicts ∙ (ap (λ s. evicted (is_rival names s) past s) space ∙ sym (evicts roster names partition past legal xs has gift.space in_it)))

  -- a giving in another partition
  given_there : (entry : Entry) (gift : Gift) → IsStep roster names past entry → gift_given entry.reply ≡ Some gift → ((s : ℕ) → touches entry s ≡ (gift.space == s)) → is_in gift.space ≡ false → HasLive is_in (entry ∷ past) xs
  given_there entry gift is given touches_is out = nothing_moves is_in entry past xs has leaves
    where
      leaves : (s : ℕ) → is_in s ≡ true → Leaves entry past s
      leaves s passes =
          let alone = (all_left_alone roster names (entry ∷ past) (legal, is)).1 gift s given (no_rival names partition gift.space s out passes) in
          record {
            held =
                ap (λ (o : Option Gift). option_map (λ (g : Gift). record { gift = g; terms = terms (entry ∷ past) s }) o) alone.same_gift
                ∙ ap (λ t. option_map (λ (g : Gift). record { gift = g; terms = t }) (current past s)) alone.same_terms;
            untouched = touches_is s ∙ differ is_in gift.space s out passes;
          }

  is_url : (caller r s t : ℕ) (gift : Gift) (gone : ℕ) → IsStep roster names past (entry_of caller r (Select s t) (Url gift gone)) → Has caller r (Select s t) (Url gift gone)
  is_url caller r s t gift gone is = at (is_in gift.space) refl
    where
      entry : Entry
      entry = entry_of caller r (Select s t) (Url gift gone)

      at : (b : Bool) → is_in gift.space ≡ b → HasLive is_in (entry ∷ past) (cond b (put_in 32 xs (record { gift = gift; terms = t })) xs)
      at true in_it =
          put_moves is_in entry past xs has (record { gift = gift; terms = t }) gone
          (λ n. refl) (λ n. refl) (λ n. refl) refl refl refl in_it dead_zero (goes gift gone (Select s t) (Url gift gone) refl refl (gives_next roster names past entry is) in_it)
      at false out = given_there entry gift is refl (λ n. refl) out

  is_given : (caller r p x t : ℕ) (gift : Gift) (gone : ℕ) → IsStep roster names past (entry_of caller r (Answer p x t) (Given gift gone)) → Has caller r (Answer p x t) (Given gift gone)
  is_given caller r p x t gift gone is = at (is_in gift.space) refl
    where
      entry : Entry
      entry = entry_of caller r (Answer p x t) (Given gift gone)

      at : (b : Bool) → is_in gift.space ≡ b → HasLive is_in (entry ∷ past) (cond b (put_in 32 xs (record { gift = gift; terms = t })) xs)
      at true in_it =
          put_moves is_in entry past xs has (record { gift = gift; terms = t }) gone
          (λ n. refl) (λ n. refl) (λ n. refl) refl refl refl in_it dead_zero (goes gift gone (Answer p x t) (Given gift gone) refl refl (gives_next roster names past entry is) in_it)
      at false out = given_there entry gift is refl (λ n. refl) out

  quiet : (caller r : ℕ) (call : Call) (reply : BookReply) → entries_after 32 call reply xs ≡ xs → ((s : ℕ) → takes_away (entry_of caller r call reply) s ≡ false) → gift_given reply ≡ None → ((s : ℕ) → touches (entry_of caller r call reply) s ≡ false) → Has caller r call reply
  quiet caller r call reply same kept none untouched = at (concerns is_in call reply)
    where
      entry : Entry
      entry = entry_of caller r call reply

      still : HasLive is_in (entry ∷ past) xs
      still = nothing_moves is_in entry past xs has (λ s passes. leaves_by entry past s (kept s) (ap (λ gift. is_of gift s) none) (untouched s))

      at : (b : Bool) → HasLive is_in (entry ∷ past) (cond b (entries_after 32 call reply xs) xs)
      at true = subst (HasLive is_in (entry ∷ past)) (sym same) still
      at false = still

  -- the gift that is answered once more, or renewed, gets other terms
  retermed : (entry : Entry) (gift : Gift) (t : ℕ) → ((s : ℕ) → takes_away entry s ≡ false) → gift_given entry.reply ≡ None → ((s : ℕ) → touches entry s ≡ (gift.space == s)) → is_ready entry.reply ≡ false → terms_in entry.call ≡ t → current past gift.space ≡ Some gift → HasLive is_in (entry ∷ past) (cond (is_in gift.space) (touched gift.space (with_terms gift.space t xs)) xs)
  retermed entry gift t kept none touches_is fresh terms_is holds =
      told entry gift.space (touched gift.space (with_terms gift.space t xs)) leaves
      (λ in_it. set_moves is_in entry past xs has gift.space touches_is leaves (record { gift = gift; terms = terms past gift.space }) (there gift holds in_it) t (here in_it))
    where
      leaves : (s : ℕ) → (gift.space == s) ≡ false → Leaves entry past s
      leaves s other = leaves_by entry past s (kept s) (ap (λ g. is_of g s) none) (touches_is s ∙ other)

      here : is_in gift.space ≡ true → kept_in is_in (entry ∷ past) gift.space ≡ Some (record { gift = gift; terms = t })
      here in_it =
          ap (λ b. cond b (held_after (entry ∷ past) gift.space) None) in_it
          ∙ (ap (λ o. option_map (λ (g : Gift). record { gift = g; terms = terms (entry ∷ past) gift.space }) o) (current_kept entry past gift.space (kept gift.space) (ap (λ g. is_of g gift.space) none) ∙ holds)
          ∙ (ap (λ b. Some (record { gift = gift; terms = cond (b && not (is_ready entry.reply)) (terms_in entry.call) (terms past gift.space) })) (touches_is gift.space ∙ number_refl gift.space)
          ∙ (ap (λ b. Some (record { gift = gift; terms = cond (not b) (terms_in entry.call) (terms past gift.space) })) fresh
          ∙ ap (λ n. Some (record { gift = gift; terms = n })) terms_is)))

  is_readied : (caller r t epoch : ℕ) (call : Call) (gift : Gift) → ((s : ℕ) → takes_away (entry_of caller r call (Ready gift t epoch)) s ≡ false) → current past gift.space ≡ Some gift → HasLive is_in (entry_of caller r call (Ready gift t epoch) ∷ past) (cond (is_in gift.space) (touched gift.space xs) xs)
  is_readied caller r t epoch call gift kept holds =
      told entry gift.space (touched gift.space xs) leaves
      (λ in_it. touch_moves is_in entry past xs has gift.space (λ n. refl) leaves (record { gift = gift; terms = terms past gift.space }) (there gift holds in_it) (here in_it))
    where
      entry : Entry
      entry = entry_of caller r call (Ready gift t epoch)

      leaves : (s : ℕ) → (gift.space == s) ≡ false → Leaves entry past s
      leaves s other = leaves_by entry past s (kept s) refl other

      here : is_in gift.space ≡ true → kept_in is_in (entry ∷ past) gift.space ≡ Some (record { gift = gift; terms = terms past gift.space })
      here in_it =
          ap (λ b. cond b (held_after (entry ∷ past) gift.space) None) in_it
          ∙ (ap (λ o. option_map (λ (g : Gift). record { gift = g; terms = terms (entry ∷ past) gift.space }) o) (current_kept entry past gift.space (kept gift.space) refl ∙ holds)
          ∙ ap (λ b. Some (record { gift = gift; terms = cond b (terms_in call) (terms past gift.space) })) (and_false (gift.space == gift.space)))

  is_removed : (caller r s o : ℕ) → Has caller r (Reject s o) Removed
  is_removed caller r s o =
      told entry s (without s xs) leaves
      (λ in_it. one_goes is_in entry past xs s has (ap (λ b. b && true || not (s == 0) && 0 == s) (number_refl s)) leaves (λ n. refl))
    where
      entry : Entry
      entry = entry_of caller r (Reject s o) Removed

      leaves : (n : ℕ) → (s == n) ≡ false → Leaves entry past n
      leaves n other = leaves_by entry past n (ap (λ b. b && true || not (n == 0) && 0 == n) other ∙ no_zero n) refl refl

  step : (caller r : ℕ) (call : Call) (reply : BookReply) → IsStep roster names past (entry_of caller r call reply) → IsTrue (fits call reply) → Has caller r call reply
  step caller r Begin Begun is fit = quiet caller r Begin Begun refl no_zero refl (λ s. refl)
  step caller r (Preempt target) (Ready gift t epoch) is fit =
      is_readied caller r t epoch (Preempt target) gift no_zero (ready_gift names past gift t epoch (space_by_path roster names past r target) is.1)
  step caller r (Preempt target) Nothing is fit = quiet caller r (Preempt target) Nothing refl no_zero refl (λ s. refl)
  step caller r (Select s t) (Url gift gone) is fit = is_url caller r s t gift gone is
  step caller r (Select s t) (Cached gift) is fit =
      let holds = cached_gift (is_rival names s) past s gift _ (current past s) _ _ is.1 in
      retermed (entry_of caller r (Select s t) (Cached gift)) gift t no_zero refl (λ n. refl) refl refl (ap (current past) (current_space past s gift holds) ∙ holds)
  step caller r (Select s t) Default is fit = quiet caller r (Select s t) Default refl no_zero refl (λ n. refl)
  step caller r (Select s t) (Follow p) is fit = quiet caller r (Select s t) (Follow p) refl no_zero refl (λ n. refl)
  step caller r (Select s t) (Lead p o) is fit = quiet caller r (Select s t) (Lead p o) refl no_zero refl (λ n. refl)
  step caller r (Reject s o) Removed is fit = is_removed caller r s o
  step caller r (Reject s o) (Kept n) is fit = quiet caller r (Reject s o) (Kept n) refl (λ m. no_space ((s == m) && false) m (and_false (s == m))) refl (λ m. refl)
  step caller r (Renew gift t) Renewed is fit = retermed (entry_of caller r (Renew gift t) Renewed) gift t no_zero refl (λ n. refl) refl refl (that_gift past gift Renewed (Kept _) is.1 (λ same. cc))
  step caller r (Renew gift t) (Kept n) is fit = quiet caller r (Renew gift t) (Kept n) refl no_zero refl (λ m. refl)
  step caller r (Answer p x t) (Given gift gone) is fit = is_given caller r p x t gift gone is
  step caller r (Answer p x t) Cancelled is fit = quiet caller r (Answer p x t) Cancelled refl no_zero refl (λ m. refl)
  step caller r (Lose p loss) (Lost told) is fit = quiet caller r (Lose p loss) (Lost told) refl no_zero refl (λ m. refl)
  step caller r (Take p) (Gave gift) is fit = quiet caller r (Take p) (Gave gift) refl no_zero refl (λ m. refl)
  step caller r (Take p) Cancelled is fit = quiet caller r (Take p) Cancelled refl no_zero refl (λ m. refl)
  step caller r (Take p) (Lost told) is fit = quiet caller r (Take p) (Lost told) refl no_zero refl (λ m. refl)
  step caller r (Note gift) Noted is fit = quiet caller r (Note gift) Noted refl no_zero refl (λ m. refl)
  step caller r (Note gift) (Kept n) is fit = quiet caller r (Note gift) (Kept n) refl no_zero refl (λ m. refl)
  step caller r End Ended is fit = quiet caller r End Ended refl no_zero refl (λ m. refl)
  step caller r call reply is fit = absurd (false≢true fit)

  pub keeps_live : (entry : Entry) → IsStep roster names past entry → HasLive is_in (entry ∷ past) (entries_told is_in 32 entry.call entry.reply xs)
  keeps_live entry is = step entry.caller entry.request entry.call entry.reply is is.2
