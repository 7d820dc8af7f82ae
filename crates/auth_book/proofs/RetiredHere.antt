-- The nonce that is retired, entry by entry.
use Rattle.std.proofs.Common.{◌≡◌, ℕ, Bool, true, false, not, ◌&&◌, cond, List, [], ◌∷◌, ◌++◌, length, drop, refl, ap, sym, subst, ◌∙◌, ◌⊎◌, inl, inr, Option, Some, None}
use Rattle.std.specs.Prelude.{IsTrue, is_some, option_map, option_to_list, unwrap_or, slice_get, ◌==◌, nat_lt}
use Rattle.std.proofs.lemmas.Bool.{false≢true}
use Rattle.std.proofs.lemmas.Option.{none-some}
use Rattle.spaces.specs.declared.roster.Roster.{Roster}
use Rattle.auth_events.specs.declared.journal.Gift.{Gift}
use Rattle.auth_events.specs.declared.journal.Entry.{Entry}
use Rattle.auth_events.specs.declared.journal.Call.{Call}
use Rattle.auth_events.specs.declared.journal.Call.TheVariants.{Begin, Preempt, Select, Reject, Renew, Answer, Lose, Take, Note, End}
use Rattle.auth_events.specs.declared.journal.BookReply.{BookReply}
use Rattle.auth_events.specs.declared.journal.BookReply.TheVariants.{Begun, Ready, Nothing, Url, Cached, Default, Follow, Lead, Removed, Kept, Renewed, Given, Cancelled, Lost, Gave, Noted, Ended}
use Rattle.auth_events.specs.Tables.{Tables}
use Rattle.auth_events.specs.Pages.{fits}
use Rattle.auth_events.specs.Past.{current, evicted, evicted_by, gift_given, live, takes_away, terms}
use Rattle.auth_events.specs.Book.{IsLegalPast, IsStep, gift_told, holds_nonce, is_of_partition, is_rival, is_site_of, nonce_of, retired, space_named}
use Rattle.auth_events.proofs.Numbers.{some_of_test}
use Rattle.auth_events.proofs.Same.{number_same, number_refl}
use Rattle.history_laws.proofs.Leaving.{GivesNone, GivesNext, moved, gives_next}
use Rattle.history_laws.proofs.Telling.{all_told}
use Rattle.history_laws.specs.Partitions.{space_about}
use Rattle.auth_cache.specs.declared.cache.Held.{Held}
use Rattle.auth_cache.specs.Cached.{held_in, put_in, retermed, touched, with_terms, without, with_room, evicted as evicted_from}
use Rattle.auth_cache.specs.Histories.{Change, HasLive, change, changed, entries_after, held_after}
use Rattle.auth_cache.specs.Histories.Change.{Same, Put, Touch, Set, Remove}
use Rattle.auth_cache.proofs.Lists.{found_without, found_pushed, found_space, found_terms, none_there}
use Rattle.auth_cache.proofs.Steps.{held_taken}
use Rattle.auth_cache.proofs.Evictions.{evicts}
use Rattle.auth_cache.proofs.HistoryLemmas.{keeps_live, that_gift}
use Rattle.auth_book.specs.declared.index.BookIndex.{BookIndex}
use Rattle.auth_book.specs.Indices.{StandsFor}
use Rattle.auth_book.specs.Replies.{entries_in}
use Rattle.auth_book.proofs.Here.{Named, from_part, held_none, live_named, zero_unheld}
use Rattle.auth_book.specs.Steps.{nonce_dropped, nonce_out, nonce_replaced, nonce_swapped, retired_in}
use Rattle.auth_book.proofs.Retired.{leaves, retired_is}

-- what is held has the nonce
abbrev nonce_held : Tables → ℕ → Option Held → Bool
nonce_held names n None = false
nonce_held names n (Some h) = not (h.terms == 0) && nonce_of names h.terms == n

-- the nonce that is left, by what was held before and is held afterwards
abbrev left_value : Tables → Option Held → Option Held → ℕ
left_value names None after = 0
left_value names (Some h) after =
    cond (not (h.terms == 0) && nonce_of names h.terms == nonce_of names h.terms && not (nonce_held names (nonce_of names h.terms) after)) (nonce_of names h.terms) 0

holds_held : (names : Tables) (past : List Entry) (n s : ℕ) → holds_nonce names past n s ≡ nonce_held names n (held_after past s)
holds_held names past n s = at (current past s)
  where
    at : (o : Option Gift) → (is_some o && not (terms past s == 0) && nonce_of names (terms past s) == n) ≡ nonce_held names n (option_map (λ (gift : Gift). record { gift = gift; terms = terms past s }) o)
    at None = refl
    at (Some gift) = refl

-- ON LISTS

swapped : (names : Tables) (old new : Held) → left_value names (Some old) (Some new) ≡ nonce_swapped names old.terms new.terms
swapped names old new = at (old.terms == 0) (nonce_of names old.terms == nonce_of names old.terms) (number_refl (nonce_of names old.terms)) (not (new.terms == 0) && nonce_of names new.terms == nonce_of names old.terms)
  where
    at : (a t : Bool) → t ≡ true → (w : Bool) → cond (not a && t && not w) (nonce_of names old.terms) 0 ≡ cond a 0 (cond w 0 (nonce_of names old.terms))
    at true t is w = refl
    at false true is true = refl
    at false true is false = refl
    at false false is w = absurd (false≢true is)

dropped : (names : Tables) (o : Option Held) → left_value names o None ≡ nonce_dropped names o
dropped names None = refl
dropped names (Some h) = at (h.terms == 0) (nonce_of names h.terms == nonce_of names h.terms) (number_refl (nonce_of names h.terms))
  where
    at : (a t : Bool) → t ≡ true → cond (not a && t && true) (nonce_of names h.terms) 0 ≡ cond a 0 (nonce_of names h.terms)
    at true t is = refl
    at false true is = refl
    at false false is = absurd (false≢true is)

set_value : (names : Tables) (s t : ℕ) (xs : List Held) → left_value names (held_in xs s) (held_in (touched s (with_terms s t xs)) s) ≡ nonce_replaced names t (held_in xs s) None
set_value names s t xs = at (held_in xs s) refl
  where
    none_s : (ys : List Held) → held_in (without s ys) s ≡ None
    none_s ys = found_without s s ys ∙ ap (λ b. cond b None (held_in ys s)) (number_refl s)

    at : (o : Option Held) → held_in xs s ≡ o → left_value names o (held_in (touched s (with_terms s t xs)) s) ≡ nonce_replaced names t o None
    at None none = refl
    at (Some h) there =
        let is : h.gift.space ≡ s = found_space s xs h there in
        let new : Held = record h { terms = t } in
        let found : held_in (with_terms s t xs) s ≡ Some new = found_terms s t s xs ∙ (ap (option_map (retermed s t)) there ∙ ap (λ b. Some (cond b (record h { terms = t }) h)) (ap (λ n. n == s) is ∙ number_refl s)) in
        ap (λ o. left_value names (Some h) (held_in (without s (with_terms s t xs) ++ option_to_list o) s)) found
        ∙ (ap (left_value names (Some h)) (subst (λ n. held_in (without s (with_terms s t xs) ++ new ∷ []) n ≡ Some new) is (found_pushed (without s (with_terms s t xs)) new (subst (λ n. held_in (without s (with_terms s t xs)) n ≡ None) (sym is) (none_s (with_terms s t xs)))))
        ∙ swapped names h new)

none_after : (s : ℕ) (zs : List Held) → held_in zs s ≡ None → held_in (drop 1 zs) s ≡ None
none_after s [] none = none
none_after s (z ∷ zs) none = at (z.gift.space == s) none
  where
    at : (b : Bool) → cond b (Some z) (held_in zs s) ≡ None → held_in zs s ≡ None
    at true this = absurd (none-some z (sym this))
    at false later = later

put_there : (h : Held) (xs : List Held) → held_in (put_in 32 xs h) h.gift.space ≡ Some h
put_there h xs = found_pushed (with_room 32 (without h.gift.space xs)) h (at (nat_lt (length (without h.gift.space xs)) 32))
  where
    none : held_in (without h.gift.space xs) h.gift.space ≡ None
    none = found_without h.gift.space h.gift.space xs ∙ ap (λ b. cond b None (held_in xs h.gift.space)) (number_refl h.gift.space)

    at : (b : Bool) → held_in (cond b (without h.gift.space xs) (drop 1 (without h.gift.space xs))) h.gift.space ≡ None
    at true = none
    at false = none_after h.gift.space (without h.gift.space xs) none

-- what goes for a space that isn't there is there
gone_there : (s : ℕ) (xs : List Held) (v : Held) → held_in xs s ≡ None → evicted_from 32 xs s ≡ Some v → held_in xs v.gift.space ≡ Some v
gone_there s xs v none goes_it = of xs (at (nat_lt (length xs) 32) (sym (ap (λ ys. cond (nat_lt (length ys) 32) None (slice_get ys 0)) (none_there s xs none)) ∙ goes_it))
  where
    at : (b : Bool) → cond b None (slice_get xs 0) ≡ Some v → slice_get xs 0 ≡ Some v
    at true is = absurd (none-some v is)
    at false is = is

    of : (ys : List Held) → slice_get ys 0 ≡ Some v → held_in ys v.gift.space ≡ Some v
    of [] is = absurd (none-some v is)
    of (y ∷ ys) is =
        let same : y ≡ v = cc in
        ap (λ b. cond b (Some y) (held_in ys v.gift.space)) (ap (λ (k : Held). k.gift.space == v.gift.space) same ∙ number_refl v.gift.space) ∙ ap Some same

-- ENTRY BY ENTRY

abbrev entry_of : ℕ → ℕ → Call → BookReply → Entry
entry_of caller r call reply = record { caller = caller; request = r; call = call; reply = reply }

none_in : (b : Bool) → ◌≡◌ {A = Option Held} (cond b None None) None
none_in true = refl
none_in false = refl

-- nothing goes out of an empty cache
pub nothing_out : (names : Tables) (change : Change) → nonce_out names change [] ≡ 0
nothing_out names Same = refl
nothing_out names (Put held) = refl
nothing_out names (Touch s) = refl
nothing_out names (Set s t) = refl
nothing_out names (Remove s) = refl

module _ (roster : Roster) (names : Tables) (past : List Entry) (legal : IsLegalPast roster names past) (caller r : ℕ) (call : Call) (reply : BookReply) (step : IsStep roster names past (entry_of caller r call reply)) where
  abbrev entry : Entry
  entry = entry_of caller r call reply

  quiet : moved names past call reply ≡ 0 → retired names entry past ≡ 0
  quiet none =
      retired_is roster names past legal entry step
      ∙ (ap (λ s. cond (leaves roster names past legal entry step s) (nonce_of names (terms past s)) 0) none
      ∙ ap (λ o. cond ((is_some o && not (terms past 0 == 0) && nonce_of names (terms past 0) == nonce_of names (terms past 0)) && not (holds_nonce names (entry ∷ past) (nonce_of names (terms past 0)) 0)) (nonce_of names (terms past 0)) 0) (zero_unheld roster names past legal))

  -- read off the cache of a partition
  module _ (p : List ℕ) (xs : List Held) (has : HasLive (is_of_partition names p) past xs) (has_after : HasLive (is_of_partition names p) (entry ∷ past) (entries_after 32 call reply xs)) where
    abbrev after : List Held
    after = entries_after 32 call reply xs

    abbrev mine : ℕ → Bool
    mine = is_of_partition names p

    held_is : (s : ℕ) → mine s ≡ true → held_in xs s ≡ held_after past s
    held_is s own = has.each s ∙ ap (λ b. cond b (held_after past s) None) own

    after_is : (s : ℕ) → mine s ≡ true → held_in after s ≡ held_after (entry ∷ past) s
    after_is s own = has_after.each s ∙ ap (λ b. cond b (held_after (entry ∷ past) s) None) own

    zero_none : held_in xs 0 ≡ None
    zero_none = has.each 0 ∙ (ap (λ o. cond (mine 0) o None) (held_none roster names past legal 0 (zero_unheld roster names past legal)) ∙ none_in (mine 0))

    some_terms : (s : ℕ) (h : Held) → mine s ≡ true → held_in xs s ≡ Some h → terms past s ≡ h.terms
    some_terms s h own there = at (current past s) (sym there ∙ held_is s own)
      where
        at : (o : Option Gift) → Some h ≡ option_map (λ (gift : Gift). record { gift = gift; terms = terms past s }) o → terms past s ≡ h.terms
        at None is = absurd (none-some h (sym is))
        at (Some gift) is = let same : h ≡ record { gift = gift; terms = terms past s } = cc in ap (λ (k : Held). k.terms) (sym same)

    value_is : (s : ℕ) → mine s ≡ true → cond (leaves roster names past legal entry step s) (nonce_of names (terms past s)) 0 ≡ left_value names (held_in xs s) (held_in after s)
    value_is s own = at (held_in xs s) refl
      where
        at : (o : Option Held) → held_in xs s ≡ o → cond (leaves roster names past legal entry step s) (nonce_of names (terms past s)) 0 ≡ left_value names o (held_in after s)
        at None none =
            ap (λ b. cond (b && not (holds_nonce names (entry ∷ past) (nonce_of names (terms past s)) s)) (nonce_of names (terms past s)) 0)
            (holds_held names past (nonce_of names (terms past s)) s ∙ ap (nonce_held names (nonce_of names (terms past s))) (sym (held_is s own) ∙ none))
        at (Some h) there =
            ap (λ b. cond (b && not (holds_nonce names (entry ∷ past) (nonce_of names (terms past s)) s)) (nonce_of names (terms past s)) 0)
            (holds_held names past (nonce_of names (terms past s)) s ∙ ap (nonce_held names (nonce_of names (terms past s))) (sym (held_is s own) ∙ there))
            ∙ (ap (λ b. cond (not (h.terms == 0) && nonce_of names h.terms == nonce_of names (terms past s) && not b) (nonce_of names (terms past s)) 0)
            (holds_held names (entry ∷ past) (nonce_of names (terms past s)) s ∙ ap (nonce_held names (nonce_of names (terms past s))) (sym (after_is s own)))
            ∙ ap (λ t. cond (not (h.terms == 0) && nonce_of names h.terms == nonce_of names t && not (nonce_held names (nonce_of names t) (held_in after s))) (nonce_of names t) 0) (some_terms s h own there))

    retired_value : (s : ℕ) → mine s ≡ true → moved names past call reply ≡ s → retired names entry past ≡ left_value names (held_in xs s) (held_in after s)
    retired_value s own moves =
        retired_is roster names past legal entry step
        ∙ (ap (λ n. cond (leaves roster names past legal entry step n) (nonce_of names (terms past n)) 0) moves ∙ value_is s own)

    -- what is held is of the partition
    held_own : (s : ℕ) (h : Held) → held_in xs s ≡ Some h → mine s ≡ true
    held_own s h there = at (mine s) (sym (has.each s) ∙ there)
      where
        at : (b : Bool) → cond b (held_after past s) None ≡ Some h → b ≡ true
        at true is = refl
        at false is = absurd (none-some h is)

    put_value : (h : Held) (gone : ℕ) → mine h.gift.space ≡ true → moved names past call reply ≡ cond (live past h.gift.space) h.gift.space gone → after ≡ put_in 32 xs h → gone ≡ unwrap_or (option_map (λ (k : Held). k.gift.space) (evicted_from 32 xs h.gift.space)) 0 → ((s : ℕ) → takes_away entry s ≡ (not (s == 0) && gone == s)) → retired names entry past ≡ nonce_replaced names h.terms (held_in xs h.gift.space) (evicted_from 32 xs h.gift.space)
    put_value h gone own moves is gone_is takes = at (held_in xs h.gift.space) refl
      where
        lives_is : (o : Option Held) → held_in xs h.gift.space ≡ o → live past h.gift.space ≡ is_some o
        lives_is o there = of (current past h.gift.space) refl
          where
            both_some : (g : Option Gift) → is_some {T = Held} (option_map (λ (gift : Gift). record { gift = gift; terms = terms past h.gift.space }) g) ≡ is_some g
            both_some None = refl
            both_some (Some gift) = refl

            of : (g : Option Gift) → current past h.gift.space ≡ g → is_some g ≡ is_some o
            of g is_g = sym (ap is_some (sym there ∙ (held_is h.gift.space own ∙ ap (option_map (λ (gift : Gift). record { gift = gift; terms = terms past h.gift.space })) is_g)) ∙ both_some g)

        at : (o : Option Held) → held_in xs h.gift.space ≡ o → retired names entry past ≡ nonce_replaced names h.terms o (evicted_from 32 xs h.gift.space)
        at (Some old) there =
            retired_value h.gift.space own (moves ∙ ap (λ b. cond b h.gift.space gone) (lives_is (Some old) there))
            ∙ (ap (λ o. left_value names o (held_in after h.gift.space)) there
            ∙ (ap (left_value names (Some old)) (ap (λ ys. held_in ys h.gift.space) is ∙ put_there h xs)
            ∙ swapped names old h))
        at None none = of (evicted_from 32 xs h.gift.space) refl gone_is
          where
            here : moved names past call reply ≡ gone
            here = moves ∙ ap (λ b. cond b h.gift.space gone) (lives_is None none)

            of : (e : Option Held) → evicted_from 32 xs h.gift.space ≡ e → gone ≡ unwrap_or (option_map (λ (k : Held). k.gift.space) e) 0 → retired names entry past ≡ nonce_dropped names e
            of None nobody gone_zero = quiet (here ∙ gone_zero)
            of (Some v) somebody gone_v =
                let there : held_in xs gone ≡ Some v = ap (held_in xs) gone_v ∙ gone_there h.gift.space xs v none somebody in
                let mine_gone = held_own gone v there in
                let some : (gone == 0) ≡ false = nonzero (gone == 0) refl there in
                let dead : held_in after gone ≡ None = after_is gone mine_gone ∙ held_taken entry past gone (takes gone ∙ (ap (λ b. not b && gone == gone) some ∙ number_refl gone)) in
                retired_value gone mine_gone here
                ∙ (ap (λ o. left_value names o (held_in after gone)) there ∙ (ap (left_value names (Some v)) dead ∙ dropped names (Some v)))
              where
                nonzero : (b : Bool) → (gone == 0) ≡ b → held_in xs gone ≡ Some v → b ≡ false
                nonzero true zero_it there = absurd (none-some v (sym zero_none ∙ (ap (held_in xs) (sym (number_same gone 0 zero_it)) ∙ there)))
                nonzero false some there = refl

    set_out : (s t : ℕ) → mine s ≡ true → moved names past call reply ≡ s → after ≡ touched s (with_terms s t xs) → retired names entry past ≡ nonce_replaced names t (held_in xs s) None
    set_out s t own moves is =
        retired_value s own moves
        ∙ (ap (λ ys. left_value names (held_in xs s) (held_in ys s)) is ∙ set_value names s t xs)

    remove_out : (s : ℕ) → mine s ≡ true → moved names past call reply ≡ s → after ≡ without s xs → retired names entry past ≡ nonce_dropped names (held_in xs s)
    remove_out s own moves is =
        retired_value s own moves
        ∙ (ap (left_value names (held_in xs s)) (ap (λ ys. held_in ys s) is ∙ (found_without s s xs ∙ ap (λ b. cond b None (held_in xs s)) (number_refl s)))
        ∙ dropped names (held_in xs s))

  -- read off the cache of the partition of the space that the entry is about
  module _ (index : BookIndex) (stands : StandsFor index roster names past) where
    from_own : Named names (space_about call reply) → ((p : List ℕ) (xs : List Held) → is_of_partition names p (space_about call reply) ≡ true → HasLive (is_of_partition names p) past xs → HasLive (is_of_partition names p) (entry ∷ past) (entries_after 32 call reply xs) → retired names entry past ≡ nonce_out names (change call reply) xs) → retired names entry past ≡ retired_in names call reply index
    from_own named each =
        from_part roster names past legal index stands ℕ (space_about call reply) named (nonce_out names (change call reply)) (retired names entry past)
        (λ p xs own has. each p xs own has
        (subst (λ b. HasLive (is_of_partition names p) (entry ∷ past) (cond b (entries_after 32 call reply xs) xs)) own (keeps_live roster names p past legal xs has entry step)))

    -- where nothing goes, whatever the cache
    quiet_here : moved names past call reply ≡ 0 → ((xs : List Held) → nonce_out names (change call reply) xs ≡ 0) → retired names entry past ≡ retired_in names call reply index
    quiet_here none still = quiet none ∙ sym (still (entries_in index (space_about call reply)))

    put_here : (gift : Gift) (t gone : ℕ) → gift_given reply ≡ Some gift → evicted_by reply ≡ gone → Named names gift.space → space_about call reply ≡ gift.space → change call reply ≡ Put (record { gift = gift; terms = t }) → moved names past call reply ≡ cond (live past gift.space) gift.space gone → ((s : ℕ) → takes_away entry s ≡ (not (s == 0) && gone == s)) → retired names entry past ≡ retired_in names call reply index
    put_here gift t gone given gone_is named about put moves takes =
        from_own (subst (Named names) (sym about) named)
        (λ p xs own has has_after.
        (let own_gift = subst (λ s. is_of_partition names p s ≡ true) about own in
        put_value p xs has has_after (record { gift = gift; terms = t }) gone own_gift moves (ap (λ c. changed 32 c xs) put) (goes p xs has own_gift (gives_next roster names past entry step)) takes
        ∙ sym (ap (λ c. nonce_out names c xs) put)))
      where
        goes : (p : List ℕ) (xs : List Held) → HasLive (is_of_partition names p) past xs → is_of_partition names p gift.space ≡ true → GivesNone reply ⊎ GivesNext names past call reply → gone ≡ unwrap_or (option_map (λ (k : Held). k.gift.space) (evicted_from 32 xs gift.space)) 0
        goes p xs has own (inl none) = absurd (none-some gift (sym none.0 ∙ given))
        goes p xs has own (inr next) =
            let space : next.space ≡ gift.space = ap (λ o. unwrap_or (option_map (λ (g : Gift). g.space) o) 0) (sym next.gift ∙ given) in
            sym gone_is ∙ (next.evicts ∙ (ap (λ s. evicted (is_rival names s) past s) space ∙ sym (evicts roster names p past legal xs has gift.space own)))

    set_here : (s t : ℕ) → Named names s → space_about call reply ≡ s → change call reply ≡ Set s t → moved names past call reply ≡ s → retired names entry past ≡ retired_in names call reply index
    set_here s t named about set moves =
        from_own (subst (Named names) (sym about) named)
        (λ p xs own has has_after.
        (set_out p xs has has_after s t (subst (λ n. is_of_partition names p n ≡ true) about own) moves (ap (λ c. changed 32 c xs) set)
        ∙ sym (ap (λ c. nonce_out names c xs) set)))

    remove_here : (s : ℕ) → Named names s → space_about call reply ≡ s → change call reply ≡ Remove s → moved names past call reply ≡ s → retired names entry past ≡ retired_in names call reply index
    remove_here s named about remove moves =
        from_own (subst (Named names) (sym about) named)
        (λ p xs own has has_after.
        (remove_out p xs has has_after s (subst (λ n. is_of_partition names p n ≡ true) about own) moves (ap (λ c. changed 32 c xs) remove)
        ∙ sym (ap (λ c. nonce_out names c xs) remove)))

module _ (roster : Roster) (names : Tables) (past : List Entry) (legal : IsLegalPast roster names past) (index : BookIndex) (stands : StandsFor index roster names past) where
  told_named : (entry : Entry) → IsStep roster names past entry → (gift : Gift) → gift_told entry.reply ≡ Some gift → Named names gift.space
  told_named entry step gift told =
      some_of_test (is_site_of roster entry.request) (space_named names gift.space) ((all_told roster names (entry ∷ past) (legal, step)).1 gift told).0

  held_named : (gift : Gift) → current past gift.space ≡ Some gift → Named names gift.space
  held_named gift holds = live_named roster names past legal gift.space (ap is_some holds)

  silent : (caller r : ℕ) (call : Call) (reply : BookReply) → IsStep roster names past (entry_of caller r call reply) → moved names past call reply ≡ 0 → ((xs : List Held) → nonce_out names (change call reply) xs ≡ 0) → retired names (entry_of caller r call reply) past ≡ retired_in names call reply index
  silent caller r call reply step = quiet_here roster names past legal caller r call reply step index stands

  -- the nonce that is retired is the one that the change takes out
  retired_step : (caller r : ℕ) (call : Call) (reply : BookReply) → (step : IsStep roster names past (entry_of caller r call reply)) → IsTrue (fits call reply) → retired names (entry_of caller r call reply) past ≡ retired_in names call reply index
  retired_step caller r Begin Begun step fit = silent caller r Begin Begun step refl (λ xs. refl)
  retired_step caller r (Preempt target) (Ready gift t epoch) step fit = silent caller r (Preempt target) (Ready gift t epoch) step refl (λ xs. refl)
  retired_step caller r (Preempt target) Nothing step fit = silent caller r (Preempt target) Nothing step refl (λ xs. refl)
  retired_step caller r (Select s t) (Url gift gone) step fit =
      put_here roster names past legal caller r (Select s t) (Url gift gone) step index stands gift t gone refl refl (told_named (entry_of caller r (Select s t) (Url gift gone)) step gift refl) refl refl refl (λ n. refl)
  retired_step caller r (Select s t) (Cached gift) step fit =
      set_here roster names past legal caller r (Select s t) (Cached gift) step index stands gift.space t (told_named (entry_of caller r (Select s t) (Cached gift)) step gift refl) refl refl refl
  retired_step caller r (Select s t) Default step fit = silent caller r (Select s t) Default step refl (λ xs. refl)
  retired_step caller r (Select s t) (Follow p) step fit = silent caller r (Select s t) (Follow p) step refl (λ xs. refl)
  retired_step caller r (Select s t) (Lead p o) step fit = silent caller r (Select s t) (Lead p o) step refl (λ xs. refl)
  retired_step caller r (Reject s o) Removed step fit =
      remove_here roster names past legal caller r (Reject s o) Removed step index stands s (held_named (record { space = s; ordinal = o }) (that_gift past (record { space = s; ordinal = o }) Removed (Kept _) step.1 (λ same. cc))) refl refl refl
  retired_step caller r (Reject s o) (Kept n) step fit = silent caller r (Reject s o) (Kept n) step refl (λ xs. refl)
  retired_step caller r (Renew gift t) Renewed step fit =
      set_here roster names past legal caller r (Renew gift t) Renewed step index stands gift.space t (held_named gift (that_gift past gift Renewed (Kept _) step.1 (λ same. cc))) refl refl refl
  retired_step caller r (Renew gift t) (Kept n) step fit = silent caller r (Renew gift t) (Kept n) step refl (λ xs. refl)
  retired_step caller r (Answer p x t) (Given gift gone) step fit =
      put_here roster names past legal caller r (Answer p x t) (Given gift gone) step index stands gift t gone refl refl (told_named (entry_of caller r (Answer p x t) (Given gift gone)) step gift refl) refl refl refl (λ n. refl)
  retired_step caller r (Answer p x t) Cancelled step fit = silent caller r (Answer p x t) Cancelled step refl (λ xs. refl)
  retired_step caller r (Lose p loss) (Lost told) step fit = silent caller r (Lose p loss) (Lost told) step refl (λ xs. refl)
  retired_step caller r (Take p) (Gave gift) step fit = silent caller r (Take p) (Gave gift) step refl (λ xs. refl)
  retired_step caller r (Take p) Cancelled step fit = silent caller r (Take p) Cancelled step refl (λ xs. refl)
  retired_step caller r (Take p) (Lost told) step fit = silent caller r (Take p) (Lost told) step refl (λ xs. refl)
  retired_step caller r (Note gift) Noted step fit = silent caller r (Note gift) Noted step refl (λ xs. refl)
  retired_step caller r (Note gift) (Kept n) step fit = silent caller r (Note gift) (Kept n) step refl (λ xs. refl)
  retired_step caller r End Ended step fit = silent caller r End Ended step refl (λ xs. refl)
  retired_step caller r call reply step fit = absurd (false≢true fit)

  pub retired_here : (entry : Entry) → IsStep roster names past entry → retired names entry past ≡ retired_in names entry.call entry.reply index
  retired_here entry step = retired_step entry.caller entry.request entry.call entry.reply step step.2
