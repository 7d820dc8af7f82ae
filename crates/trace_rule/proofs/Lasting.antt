-- A trace that was judged by what a book knew is one by all that it knows later.
use Rattle.std.proofs.Common.{◌≡◌, ◌⊎◌, inl, inr, ℕ, suc, ◌+◌, ◌≤◌, Bool, true, false, ◌==◌, cond, IsTrue, List, [], ◌∷◌, ◌++◌, Option, Some, None, is_some, option_and_then, option_map, refl, sym, ap, ◌∙◌, subst, arith}
use Rattle.std.specs.List.{position_from}
use Rattle.std.proofs.lemmas.Bool.{false≢true, eqb-true}
use Rattle.std.proofs.lemmas.List.Sums.{sum_by-cons}
use Rattle.auth_text.specs.Login.{Login}
use Rattle.spaces.specs.declared.roster.Request.{Request}
use Rattle.spaces.specs.declared.roster.Roster.{Roster}
use Rattle.spaces.specs.Sites.{numbered, same_space}
use Rattle.auth_events.specs.declared.journal.Gift.{Gift}
use Rattle.auth_events.specs.declared.journal.Entry.{Entry}
use Rattle.auth_events.specs.Tables.{Tables, number_of, is_that_terms}
use Rattle.auth_events.specs.Past.{gift_given, gives, givings, is_of}
use Rattle.auth_events.specs.Book.{IsLegalPast, is_that_gift, is_url}
use Rattle.auth_events.specs.Identities.{giving, identity, identity_given, text_in}
use Rattle.auth_events.proofs.Numbers.{numbered-append}
use Rattle.history_laws.proofs.Prompting.{one_if}
use Rattle.history_laws.proofs.Leaving.{GivesNext, GivesNone, gives_next}
use Rattle.auth_runs.specs.declared.event.Event.{Event}
use Rattle.trace_rule.specs.Settings.{setting_of}
use Rattle.trace_rule.specs.Traces.{IsTrace}
use Rattle.trace_rule.specs.Growing.{KnowsMore, NamesGrow}
use Rattle.trace_rule.proofs.Knowing.{both_of}
use Rattle.trace_rule.proofs.Growing.{trace_more}

-- NUMBERS

position_stays : {A : Type 0} (p : A → Bool) (i k : ℕ) (xs ys : List A) → position_from p i xs ≡ Some k → position_from p i (xs ++ ys) ≡ Some k
position_stays {A} p i k [] ys found = let clash : None ≡ Some k = found in cc
position_stays {A} p i k (x ∷ xs) ys found = at (p x) (λ f. position_stays p (i + 1) k xs ys f) found
  where
    at : (b : Bool) → (position_from p (i + 1) xs ≡ Some k → position_from p (i + 1) (xs ++ ys) ≡ Some k) → cond b (Some i) (position_from p (i + 1) xs) ≡ Some k → cond b (Some i) (position_from p (i + 1) (xs ++ ys)) ≡ Some k
    at true later f = f
    at false later f = later f

number_stays : {A : Type 0} (p : A → Bool) (xs ys : List A) (n : ℕ) → number_of p xs ≡ Some n → number_of p (xs ++ ys) ≡ Some n
number_stays p xs ys n found = at (position_from p 0 xs) refl found
  where
    at : (o : Option ℕ) → position_from p 0 xs ≡ o → option_map suc o ≡ Some n → number_of p (xs ++ ys) ≡ Some n
    at None e f = let clash : None ≡ Some n = f in cc
    at (Some k) e f = ap (option_map suc) (position_stays p 0 k xs ys e) ∙ f

thing_stays : {A : Type 0} (xs ys : List A) (n : ℕ) (a : A) → numbered xs n ≡ Some a → numbered (xs ++ ys) n ≡ Some a
thing_stays xs ys n a found = numbered-append xs ys n (ap is_some found) ∙ found

-- GIFTS

counted : (entry : Entry) (past : List Entry) (s : ℕ) → givings (entry ∷ past) s ≡ one_if (gives entry s) + givings past s
counted entry past s = sum_by-cons (λ e. cond (gives e s) 1 0) entry past

-- a gift that was given is one of its space's givings
given_low : (roster : Roster) (names : Tables) (past : List Entry) (gift : Gift) → IsLegalPast roster names past → IsTrue (is_some (giving past gift)) → gift.ordinal ≤ givings past gift.space
given_low roster names [] gift legal given = absurd (false≢true given)
given_low roster names (entry ∷ past) gift legal given = at (is_that_gift (gift_given entry.reply) gift) refl (λ g. given_low roster names past gift legal.0 g) given
  where
    here : GivesNone entry.reply ⊎ GivesNext names past entry.call entry.reply → IsTrue (is_that_gift (gift_given entry.reply) gift) → gift.ordinal ≤ givings (entry ∷ past) gift.space
    here (inl none) it = absurd (false≢true (sym (ap (λ o. is_that_gift o gift) none.0) ∙ it))
    here (inr next) it =
        let tests = both_of (next.space == gift.space) (givings past next.space + 1 == gift.ordinal) (sym (ap (λ o. is_that_gift o gift) next.gift) ∙ it) in
        let space : next.space ≡ gift.space = eqb-true next.space gift.space tests.0 in
        let ordinal : givings past next.space + 1 ≡ gift.ordinal = eqb-true (givings past next.space + 1) gift.ordinal tests.1 in
        let same : givings past gift.space + 1 ≡ gift.ordinal = subst (λ u. givings past u + 1 ≡ gift.ordinal) space ordinal in
        let more : givings (entry ∷ past) gift.space ≡ one_if (next.space == gift.space) + givings past gift.space = counted entry past gift.space ∙ ap (λ o. one_if (is_of o gift.space) + givings past gift.space) next.gift in
        let one : one_if (next.space == gift.space) ≡ 1 = ap one_if tests.0 in
        omega (arith, same, more, one)

    at : (b : Bool) → is_that_gift (gift_given entry.reply) gift ≡ b → (IsTrue (is_some (giving past gift)) → gift.ordinal ≤ givings past gift.space) → IsTrue (is_some (cond b (Some entry) (giving past gift))) → gift.ordinal ≤ givings (entry ∷ past) gift.space
    at true it earlier g = here (gives_next roster names past entry legal.1) it
    at false it earlier g =
        let before : gift.ordinal ≤ givings past gift.space = earlier g in
        let more : givings (entry ∷ past) gift.space ≡ one_if (gives entry gift.space) + givings past gift.space = counted entry past gift.space in
        omega (arith, before, more)

-- it isn't given again
not_again : (roster : Roster) (names : Tables) (entry : Entry) (past : List Entry) (gift : Gift) → IsLegalPast roster names (entry ∷ past) → IsTrue (is_some (giving past gift)) → is_that_gift (gift_given entry.reply) gift ≡ false
not_again roster names entry past gift legal given = at (is_that_gift (gift_given entry.reply) gift) refl
  where
    here : GivesNone entry.reply ⊎ GivesNext names past entry.call entry.reply → IsTrue (is_that_gift (gift_given entry.reply) gift) → ⊥
    here (inl none) it = false≢true (sym (ap (λ o. is_that_gift o gift) none.0) ∙ it)
    here (inr next) it =
        let tests = both_of (next.space == gift.space) (givings past next.space + 1 == gift.ordinal) (sym (ap (λ o. is_that_gift o gift) next.gift) ∙ it) in
        let space : next.space ≡ gift.space = eqb-true next.space gift.space tests.0 in
        let ordinal : givings past next.space + 1 ≡ gift.ordinal = eqb-true (givings past next.space + 1) gift.ordinal tests.1 in
        let same : givings past gift.space + 1 ≡ gift.ordinal = subst (λ u. givings past u + 1 ≡ gift.ordinal) space ordinal in
        let low : gift.ordinal ≤ givings past gift.space = given_low roster names past gift legal.0 given in
        omega (arith, same, low)

    at : (b : Bool) → is_that_gift (gift_given entry.reply) gift ≡ b → b ≡ false
    at true it = absurd (here (gives_next roster names past entry legal.1) it)
    at false it = refl

giving_stays : (roster : Roster) (names : Tables) (later past : List Entry) (gift : Gift) → IsLegalPast roster names (later ++ past) → IsTrue (is_some (giving past gift)) → giving (later ++ past) gift ≡ giving past gift
giving_stays roster names [] past gift legal given = refl
giving_stays roster names (entry ∷ later) past gift legal given =
    let before : giving (later ++ past) gift ≡ giving past gift = giving_stays roster names later past gift legal.0 given in
    ap (λ b. cond b (Some entry) (giving (later ++ past) gift)) (not_again roster names entry (later ++ past) gift legal (ap is_some before ∙ given)) ∙ before

-- IDENTITIES

identity_given_stays : (roster : Roster) (names more : Tables) → NamesGrow names more → (entry : Entry) (login : Login) → identity_given roster names entry ≡ Some login → identity_given roster more entry ≡ Some login
identity_given_stays roster names more grow entry login found = at (is_url entry.reply) found
  where
    at : (b : Bool) → cond b (option_and_then (λ (request : Request). request.place.identity) (numbered roster.requests entry.request)) (numbered names.texts (text_in entry.call)) ≡ Some login
        → cond b (option_and_then (λ (request : Request). request.place.identity) (numbered roster.requests entry.request)) (numbered more.texts (text_in entry.call)) ≡ Some login
    at true f = f
    at false f = ap (λ texts. numbered texts (text_in entry.call)) grow.texts ∙ thing_stays names.texts grow.new_texts (text_in entry.call) login f

identity_stays : (roster : Roster) (names more : Tables) → NamesGrow names more → (later past : List Entry) → IsLegalPast roster more (later ++ past) → (gift : Gift) (login : Login)
    → identity roster names past gift ≡ Some login → identity roster more (later ++ past) gift ≡ Some login
identity_stays roster names more grow later past legal gift login found = at (giving past gift) refl found
  where
    at : (o : Option Entry) → giving past gift ≡ o → option_and_then (identity_given roster names) o ≡ Some login → identity roster more (later ++ past) gift ≡ Some login
    at None e f = let clash : None ≡ Some login = f in cc
    at (Some entry) e f =
        ap (option_and_then (identity_given roster more)) (giving_stays roster more later past gift legal (ap is_some e) ∙ e) ∙ identity_given_stays roster names more grow entry login f

-- SETTINGS

pub later_knows : (roster : Roster) (seed : List ℕ) (names more : Tables) → NamesGrow names more → (later past : List Entry) → IsLegalPast roster more (later ++ past) → (number : ℕ) (request : Request)
    → KnowsMore (setting_of roster seed names past number request) (setting_of roster seed more (later ++ past) number request)
later_knows roster seed names more grow later past legal number request = record {
  space_no = λ space n found. ap (number_of (λ named. same_space named space)) grow.spaces ∙ number_stays (λ named. same_space named space) names.spaces grow.new_spaces n found;
  space_of = λ n space found. ap (λ things. numbered things n) grow.spaces ∙ thing_stays names.spaces grow.new_spaces n space found;
  terms_no = λ s terms n found. ap (number_of (is_that_terms s terms)) grow.terms ∙ number_stays (is_that_terms s terms) names.terms grow.new_terms n found;
  terms_of = λ n name found. ap (λ things. numbered things n) grow.terms ∙ thing_stays names.terms grow.new_terms n name found;
  identity_of = λ gift login found. identity_stays roster names more grow later past legal gift login found;
}

pub lasts : (roster : Roster) (seed : List ℕ) (names more : Tables) (later past : List Entry) (number : ℕ) (request : Request) (events : List Event)
    → NamesGrow names more → IsLegalPast roster more (later ++ past)
    → IsTrace (setting_of roster seed names past number request) events → IsTrace (setting_of roster seed more (later ++ past) number request) events
lasts roster seed names more later past number request events grow legal trace =
    trace_more (setting_of roster seed names past number request) (setting_of roster seed more (later ++ past) number request) (later_knows roster seed names more grow later past legal number request) events trace
