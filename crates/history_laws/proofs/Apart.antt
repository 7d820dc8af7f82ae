-- Who gives credentials in one partition leaves the spaces of every other one as they were.
use Rattle.std.proofs.Common.{◌≡◌, ℕ, ◌<◌, Bool, true, false, not, ◌&&◌, ◌||◌, cond, List, [], ◌∷◌, length, refl, ap, sym, subst, ◌∙◌, ◌⊎◌, inl, inr, arith, Option, Some, None}
use Rattle.std.specs.Prelude.{IsTrue, is_some, option_map, unwrap_or, ◌==◌, nat_le, bytes_eq}
use Rattle.std.proofs.lemmas.Bool.Decides.{nat_tests}
use Rattle.std.proofs.lemmas.Bool.{false≢true}
use Rattle.std.proofs.lemmas.Option.{none-some}
use Rattle.spaces.specs.declared.roster.Roster.{Roster}
use Rattle.spaces.specs.ProtectionSpaces.{ProtectionSpace}
use Rattle.auth_events.specs.declared.journal.Gift.{Gift}
use Rattle.auth_events.specs.declared.journal.Call.{Call}
use Rattle.auth_events.specs.declared.journal.BookReply.{BookReply}
use Rattle.auth_events.specs.declared.journal.BookReply.TheVariants.{Url, Given}
use Rattle.auth_events.specs.declared.journal.Entry.{Entry}
use Rattle.auth_events.specs.Tables.{Tables}
use Rattle.auth_events.specs.Past.{age, evicted, evicted_by, gift_given, gift_used, gives, is_of, is_ready, is_removed, live, live_rivals, live_spaces, rejects, takes_away, terms, terms_in, touches, victim}
use Rattle.auth_events.specs.Book.{IsLegalPast, IsStep, is_noted, is_of_partition, is_rival, is_site_of, notes, space_named}
use Rattle.history_laws.specs.Laws.{IsAsBefore, LeaveOthersAlone, LeavesOthersAlone, is_site_named}
use Rattle.auth_events.proofs.Numbers.{and_right}
use Rattle.auth_events.proofs.Same.{bytes_refl, bytes_same, number_same}
use Rattle.history_laws.proofs.Holding.{current_kept}
use Rattle.history_laws.proofs.Leaving.{GivesNext, GivesNone, and_false, gives_next}
use Rattle.history_laws.proofs.Homes.{asked_site}
use Rattle.history_laws.proofs.Rooms.{greatest_passes}

-- WHAT A GIVING ISN'T

unremoved : (reply : BookReply) (gift : Gift) → gift_given reply ≡ Some gift → is_removed reply ≡ false
unremoved (Url g gone) gift given = refl
unremoved (Given g gone) gift given = refl
unremoved reply gift given = absurd (false≢true (ap is_some given))

unnoted : (reply : BookReply) (gift : Gift) → gift_given reply ≡ Some gift → is_noted reply ≡ false
unnoted (Url g gone) gift given = refl
unnoted (Given g gone) gift given = refl
unnoted reply gift given = absurd (false≢true (ap is_some given))

used : (call : Call) (reply : BookReply) (gift : Gift) → gift_given reply ≡ Some gift → gift_used call reply ≡ gift_given reply
used call (Url g gone) gift given = refl
used call (Given g gone) gift given = refl
used call reply gift given = absurd (false≢true (ap is_some given))

-- WHO IS EVICTED

zero_is : (s : ℕ) → 0 ≡ s → (s == 0) ≡ false → ⊥
zero_is s same some = absurd (grind (arith, nat_tests))

some_rival : (n : ℕ) → IsTrue (nat_le 32 n) → 0 < n
some_rival n full = grind (arith, nat_tests)

-- a rival is evicted, or nobody
evicted_rival : (rival : ℕ → Bool) (past : List Entry) (u s : ℕ) → rival s ≡ false → (not (s == 0) && evicted rival past u == s) ≡ false
evicted_rival rival past u s apart = of (s == 0) (evicted rival past u == s) refl refl
  where
    by : (d : Bool) → (not (live past u) && nat_le 32 (length (live_rivals rival past))) ≡ d → (s == 0) ≡ false → cond d (victim rival past) 0 ≡ s → ⊥
    by false room some is = zero_is s is some
    by true full some is =
        let passes = greatest_passes (age past) rival (live_spaces past) (some_rival (length (live_rivals rival past)) (and_right (not (live past u)) (nat_le 32 (length (live_rivals rival past))) full)) in
        false≢true (sym apart ∙ subst (λ n. IsTrue (rival n)) is passes)

    of : (b c : Bool) → (s == 0) ≡ b → (evicted rival past u == s) ≡ c → (not b && c) ≡ false
    of true c zero same = refl
    of false false some same = refl
    of false true some same =
        absurd (by (not (live past u) && nat_le 32 (length (live_rivals rival past))) refl some (number_same (evicted rival past u) s same))

-- a space that is named competes with itself
rival_itself : (names : Tables) (test : ProtectionSpace → Bool) (s : ℕ) → IsTrue (unwrap_or (option_map test (space_named names s)) false) → IsTrue (is_rival names s s)
rival_itself names test s named = of (space_named names s) named
  where
    of : (o : Option ProtectionSpace) → IsTrue (unwrap_or (option_map test o) false) → IsTrue (unwrap_or (option_map (λ (space : ProtectionSpace). unwrap_or (option_map (λ (held : ProtectionSpace). bytes_eq held.site.partition space.site.partition) o) false) o) false)
    of None named' = absurd (false≢true named')
    of (Some space) named' = bytes_refl space.site.partition

-- a space that passes is another than one that doesn't
pub differ : (is_in : ℕ → Bool) (u s : ℕ) → is_in u ≡ false → is_in s ≡ true → (u == s) ≡ false
differ is_in u s out passes = of (u == s) refl
  where
    of : (b : Bool) → (u == s) ≡ b → b ≡ false
    of true same = absurd (false≢true (sym out ∙ subst (λ n. is_in n ≡ true) (sym (number_same u s same)) passes))
    of false other = refl

-- a space of a partition competes with none of another one
pub no_rival : (names : Tables) (partition : List ℕ) (u s : ℕ) → is_of_partition names partition u ≡ false → is_of_partition names partition s ≡ true → is_rival names u s ≡ false
no_rival names partition u s out own = of (space_named names u) out
  where
    same : (o : Option ProtectionSpace) (other : List ℕ) → IsTrue (unwrap_or (option_map (λ (space : ProtectionSpace). bytes_eq space.site.partition partition) o) false) → IsTrue (unwrap_or (option_map (λ (space : ProtectionSpace). bytes_eq space.site.partition other) o) false) → other ≡ partition
    same None other is_own is_other = absurd (false≢true is_own)
    same (Some space) other is_own is_other = sym (bytes_same space.site.partition other is_other) ∙ bytes_same space.site.partition partition is_own

    by : (other : List ℕ) → bytes_eq other partition ≡ false → (b : Bool) → is_of_partition names other s ≡ b → b ≡ false
    by other apart true is =
        absurd (false≢true (sym apart ∙ subst (λ p. IsTrue (bytes_eq p partition)) (sym (same (space_named names s) other own is)) (bytes_refl partition)))
    by other apart false is = refl

    of : (o : Option ProtectionSpace) → unwrap_or (option_map (λ (space : ProtectionSpace). bytes_eq space.site.partition partition) o) false ≡ false → unwrap_or (option_map (λ (space : ProtectionSpace). is_of_partition names space.site.partition s) o) false ≡ false
    of None out' = refl
    of (Some space) out' = by space.site.partition out' (is_of_partition names space.site.partition s) refl

module _ (roster : Roster) (names : Tables) (past : List Entry) (entry : Entry) (gift : Gift) (s : ℕ) (given : gift_given entry.reply ≡ Some gift) where
  module _ (next : GivesNext names past entry.call entry.reply) (named : IsTrue (is_site_named roster names entry.request next.space)) (apart : is_rival names next.space s ≡ false) where
    not_given : gives entry s ≡ false
    not_given = ap (λ g. is_of g s) next.gift ∙ of (next.space == s) refl
      where
        of : (b : Bool) → (next.space == s) ≡ b → b ≡ false
        of false other = refl
        of true same =
            absurd (false≢true (sym apart ∙ subst (λ n. IsTrue (is_rival names next.space n)) (number_same next.space s same) (rival_itself names (is_site_of roster entry.request) next.space named)))

    kept : takes_away entry s ≡ false
    kept =
        ap (λ b. rejects entry.call s && b || not (s == 0) && evicted_by entry.reply == s) (unremoved entry.reply gift given)
        ∙ ap (λ b. b || not (s == 0) && evicted_by entry.reply == s) (and_false (rejects entry.call s))
        ∙ ap (λ n. not (s == 0) && n == s) next.evicts
        ∙ evicted_rival (is_rival names next.space) past next.space s apart

    untouched : touches entry s ≡ false
    untouched = ap (λ g. is_of g s) (used entry.call entry.reply gift given) ∙ not_given

    not_noted : (notes entry.call s && is_noted entry.reply) ≡ false
    not_noted = ap (λ b. notes entry.call s && b) (unnoted entry.reply gift given) ∙ and_false (notes entry.call s)

    as_before : IsAsBefore roster names past entry s
    as_before = record {
      same_live = ap is_some (current_kept entry past s kept not_given);
      same_gift = current_kept entry past s kept not_given;
      same_terms = ap (λ b. cond (b && not (is_ready entry.reply)) (terms_in entry.call) (terms past s)) untouched;
      same_dirs = let taken = kept in let noted = not_noted in cc;
    }

module _ (roster : Roster) (names : Tables) where
  left_alone : (past : List Entry) → IsLegalPast roster names past → (entry : Entry) → IsStep roster names past entry → LeavesOthersAlone roster names past entry
  left_alone past legal entry step gift s given apart = of (gives_next roster names past entry step)
    where
      of : GivesNone entry.reply ⊎ GivesNext names past entry.call entry.reply → IsAsBefore roster names past entry s
      of (inl none) = absurd (none-some gift (sym none.0 ∙ given))
      of (inr next) =
          let space : gift.space ≡ next.space = ap (λ o. unwrap_or (option_map (λ (g : Gift). g.space) o) 0) (sym given ∙ next.gift) in
          let named = subst (λ n. IsTrue (is_site_named roster names entry.request n)) (sym next.asked) (asked_site roster names past legal entry step next.asks) in
          as_before roster names past entry gift s given next named (subst (λ n. is_rival names n s ≡ false) space apart)

  pub all_left_alone : (past : List Entry) → IsLegalPast roster names past → LeaveOthersAlone roster names past
  all_left_alone [] legal = tt
  all_left_alone (entry ∷ past) legal = (all_left_alone past legal.0, left_alone past legal.0 entry legal.1)
