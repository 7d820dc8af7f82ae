-- A gift that was given isn't given again, so it stands for one identity for good.
use Rattle.std.proofs.Common.{◌≡◌, ◌⊎◌, inl, inr, ◌+◌, ◌≤◌, Bool, true, false, not, ◌==◌, cond, IsTrue, List, [], ◌∷◌, ◌++◌, Option, Some, None, is_some, option_and_then, refl, sym, ap, ◌∙◌, subst, arith}
use Rattle.std.specs.List.{list_all}
use mathlib.Core.List.{IsPrefix}
use Rattle.std.proofs.lemmas.Bool.{false≢true, eqb-true}
use Rattle.std.proofs.lemmas.List.Elements.{filter_map-append}
use Rattle.std.proofs.lemmas.List.Sums.{sum_by-cons}
use Rattle.auth_text.specs.Login.{Login}
use Rattle.spaces.specs.declared.roster.Request.{Request}
use Rattle.spaces.specs.declared.roster.Roster.{Roster}
use Rattle.spaces.specs.Sites.{numbered}
use Rattle.auth_events.specs.declared.journal.Gift.{Gift}
use Rattle.auth_events.specs.declared.journal.Entry.{Entry}
use Rattle.auth_events.specs.declared.told.Told.{Told}
use Rattle.auth_events.specs.Tables.{Tables}
use Rattle.auth_events.specs.Past.{gift_given, gives, givings, is_of}
use Rattle.auth_events.specs.Book.{IsLegal, IsLegalPast, draws, is_that_gift, is_url}
use Rattle.auth_events.specs.Identities.{giving, identity, identity_given, text_in}
use Rattle.auth_events.specs.Told.{entry_told, has_no_draw, journal, names_told, past}
use Rattle.auth_events.proofs.Given.{given_identity}
use Rattle.auth_events.proofs.Numbers.{and_left, and_right, both, numbered-append}
use Rattle.history_laws.proofs.Prompting.{one_if}
use Rattle.history_laws.proofs.Leaving.{GivesNext, GivesNone, gives_next}
use Rattle.book_laws.proofs.Growing.{NamesGrow, grow_told}
use Rattle.book_laws.proofs.Lifting.{past-append, past_legal}

module _ (roster : Roster) (names : Tables) (gift : Gift) where
  -- the gift is the next one of its space
  next_one : (entry : Entry) (past : List Entry) → GivesNone entry.reply ⊎ GivesNext names past entry.call entry.reply → IsTrue (is_that_gift (gift_given entry.reply) gift) → (givings past gift.space + 1 ≡ gift.ordinal) × (gives entry gift.space ≡ true)
  next_one entry past (inl none) it = absurd (false≢true (sym (ap (λ o. is_that_gift o gift) none.0) ∙ it))
  next_one entry past (inr next) it =
      let tests = sym (ap (λ o. is_that_gift o gift) next.gift) ∙ it in
      let here : (next.space == gift.space) ≡ true = and_left (next.space == gift.space) (givings past next.space + 1 == gift.ordinal) tests in
      let ordinal = eqb-true (givings past next.space + 1) gift.ordinal (and_right (next.space == gift.space) (givings past next.space + 1 == gift.ordinal) tests) in
      (subst (λ u. givings past u + 1 ≡ gift.ordinal) (eqb-true next.space gift.space here) ordinal, ap (λ o. is_of o gift.space) next.gift ∙ here)

  -- a gift that was given is one of its space's givings
  given_low : (past : List Entry) → IsLegalPast roster names past → IsTrue (is_some (giving past gift)) → gift.ordinal ≤ givings past gift.space
  given_low [] legal given = absurd (false≢true given)
  given_low (entry ∷ past) legal given = at (is_that_gift (gift_given entry.reply) gift) refl (λ g. given_low past legal.0 g) given
    where
      counted : givings (entry ∷ past) gift.space ≡ one_if (gives entry gift.space) + givings past gift.space
      counted = sum_by-cons (λ e. cond (gives e gift.space) 1 0) entry past

      at : (b : Bool) → is_that_gift (gift_given entry.reply) gift ≡ b → (IsTrue (is_some (giving past gift)) → gift.ordinal ≤ givings past gift.space) → IsTrue (is_some (cond b (Some entry) (giving past gift))) → gift.ordinal ≤ givings (entry ∷ past) gift.space
      at true it earlier g = let next = next_one entry past (gives_next roster names past entry legal.1) it in omega (arith, counted, next.0, ap one_if next.1)
      at false it earlier g = omega (arith, counted, earlier g)

  giving_stays : (later past : List Entry) → IsLegalPast roster names (later ++ past) → IsTrue (is_some (giving past gift)) → giving (later ++ past) gift ≡ giving past gift
  giving_stays [] past legal given = refl
  giving_stays (entry ∷ later) past legal given = at (is_that_gift (gift_given entry.reply) gift) refl (giving_stays later past legal.0 given)
    where
      at : (b : Bool) → is_that_gift (gift_given entry.reply) gift ≡ b → giving (later ++ past) gift ≡ giving past gift → cond b (Some entry) (giving (later ++ past) gift) ≡ giving past gift
      at true it before = absurd (let next = next_one entry (later ++ past) (gives_next roster names (later ++ past) entry legal.1) it in omega (arith, next.0, given_low (later ++ past) legal.0 (ap is_some before ∙ given)))
      at false it before = before

text_stays : (roster : Roster) (names more : Tables) → NamesGrow names more → (entry : Entry) → IsTrue (is_some (identity_given roster names entry)) → identity_given roster more entry ≡ identity_given roster names entry
text_stays roster names more grow entry some = at (is_url entry.reply) some
  where
    at : (b : Bool) → IsTrue (is_some (cond b (option_and_then (λ (request : Request). request.place.identity) (numbered roster.requests entry.request)) (numbered names.texts (text_in entry.call))))
        → cond b (option_and_then (λ (request : Request). request.place.identity) (numbered roster.requests entry.request)) (numbered more.texts (text_in entry.call)) ≡ cond b (option_and_then (λ (request : Request). request.place.identity) (numbered roster.requests entry.request)) (numbered names.texts (text_in entry.call))
    at true s = refl
    at false s = ap (λ (l : List Login). numbered l (text_in entry.call)) grow.texts ∙ numbered-append names.texts grow.new_texts (text_in entry.call) s

identity_stays : (roster : Roster) (seen more : List Told) (gift : Gift) → IsLegalPast roster (names_told seen) (past seen) → IsLegalPast roster (names_told (seen ++ more)) (past (seen ++ more)) → IsTrue (is_some (giving (past seen) gift)) → (giving (past (seen ++ more)) gift ≡ giving (past seen) gift) × (identity roster (names_told (seen ++ more)) (past (seen ++ more)) gift ≡ identity roster (names_told seen) (past seen) gift)
identity_stays roster seen more gift first whole given =
    let same : giving (past (seen ++ more)) gift ≡ giving (past seen) gift = ap (λ (l : List Entry). giving l gift) (past-append seen more) ∙ giving_stays roster (names_told (seen ++ more)) gift (past more) (past seen) (subst (IsLegalPast roster (names_told (seen ++ more))) (past-append seen more) whole) given in
    (same, ap (option_and_then (identity_given roster (names_told (seen ++ more)))) same ∙ at (giving (past seen) gift) (given_identity roster (names_told seen) (past seen) gift first given))
  where
    at : (o : Option Entry) → IsTrue (is_some (option_and_then (identity_given roster (names_told seen)) o)) → option_and_then (identity_given roster (names_told (seen ++ more))) o ≡ option_and_then (identity_given roster (names_told seen)) o
    at None some = refl
    at (Some entry) some = text_stays roster (names_told seen) (names_told (seen ++ more)) (grow_told seen more) entry some

plain_front : (xs ys : List Entry) (p : Entry → Bool) → IsTrue (list_all p (xs ++ ys)) → IsTrue (list_all p xs)
plain_front [] ys p all = refl
plain_front (x ∷ xs) ys p all = both (p x) (list_all p xs) (and_left (p x) (list_all p (xs ++ ys)) all) (plain_front xs ys p (and_right (p x) (list_all p (xs ++ ys)) all))

-- a gift that the caller has seen given stands for the identity that it stood for
pub identity_kept : (roster : Roster) (seen told : List Told) (gift : Gift) → IsTrue (has_no_draw told) → IsLegal roster (names_told told) (journal told) → IsPrefix seen told → IsLegal roster (names_told seen) (journal seen) → IsTrue (is_some (giving (past seen) gift)) → (giving (past told) gift ≡ giving (past seen) gift) × (identity roster (names_told told) (past told) gift ≡ identity roster (names_told seen) (past seen) gift)
identity_kept roster seen told gift plain legal kept first given =
    let more = kept.0 in
    let no_draw = λ (entry : Entry). not (draws entry.call) in
    let front = plain_front (journal seen) (journal more) no_draw (subst (λ (l : List Entry). IsTrue (list_all no_draw l)) (sym (ap journal kept.1) ∙ filter_map-append entry_told seen more) plain) in
    subst (λ (l : List Told). (giving (past l) gift ≡ giving (past seen) gift) × (identity roster (names_told l) (past l) gift ≡ identity roster (names_told seen) (past seen) gift)) kept.1
    (identity_stays roster seen more gift (past_legal roster (names_told seen) seen front first)
    (subst (λ (l : List Told). IsLegalPast roster (names_told l) (past l)) (sym kept.1) (past_legal roster (names_told told) told plain legal)) given)
