-- The names of a book with terms more, and the setting in which they have their number.
use Rattle.std.proofs.Common.{◌≡◌, ℕ, suc, ◌+◌, ◌==◌, Bool, true, false, cond, IsTrue, List, [], ◌∷◌, ◌++◌, Option, Some, None, is_some, option_map, refl, sym, ap, ◌∙◌}
use Rattle.std.specs.List.{position_from}
use Rattle.std.proofs.lemmas.Bool.{false≢true}
use Rattle.spaces.specs.declared.roster.Request.{Request}
use Rattle.spaces.specs.declared.roster.Roster.{Roster}
use Rattle.spaces.specs.declared.terms.Terms.{Terms}
use Rattle.spaces.specs.DigestTerms.{same_terms}
use Rattle.spaces.specs.Sites.{numbered}
use Rattle.auth_events.specs.declared.journal.Entry.{Entry}
use Rattle.auth_events.specs.declared.names.TermsName.{TermsName}
use Rattle.auth_events.specs.Tables.{Tables, is_that_terms, nonce_for, number_of, terms_number, with_new_terms, with_terms}
use Rattle.auth_events.proofs.Naming.{named_terms, some_is}
use Rattle.auth_events.proofs.Numbers.{both, numbered-append}
use Rattle.auth_events.proofs.Same.{number_refl, terms_refl}
use Rattle.trace_rule.specs.Settings.{Setting, setting_of}
use Rattle.serving_laws.specs.Knowing.{KnowsBook}

-- A LIST WITH MORE

position_stays : {A : Type 0} (p : A → Bool) (i k : ℕ) (xs ys : List A) → position_from p i xs ≡ Some k → position_from p i (xs ++ ys) ≡ Some k
position_stays {A} p i k [] ys found = let clash : None ≡ Some k = found in cc
position_stays {A} p i k (x ∷ xs) ys found = at (p x) (λ f. position_stays p (i + 1) k xs ys f) found
  where
    at : (b : Bool) → (position_from p (i + 1) xs ≡ Some k → position_from p (i + 1) (xs ++ ys) ≡ Some k) → cond b (Some i) (position_from p (i + 1) xs) ≡ Some k → cond b (Some i) (position_from p (i + 1) (xs ++ ys)) ≡ Some k
    at true later f = f
    at false later f = later f

number_stays : {A : Type 0} (p : A → Bool) (xs ys : List A) (n : ℕ) → number_of p xs ≡ Some n → number_of p (xs ++ ys) ≡ Some n
number_stays p xs ys n found = at (position_from p 0 xs) refl found
  where
    at : (o : Option ℕ) → position_from p 0 xs ≡ o → option_map suc o ≡ Some n → number_of p (xs ++ ys) ≡ Some n
    at None e f = let clash : None ≡ Some n = f in cc
    at (Some k) e f = ap (option_map suc) (position_stays p 0 k xs ys e) ∙ f

-- what passes the test has a place
place_there : {A : Type 0} (p : A → Bool) (i : ℕ) (xs : List A) (x : A) → p x ≡ true → IsTrue (is_some (position_from p i (xs ++ x ∷ [])))
place_there p i [] x passes = ap (λ b. is_some (cond b (Some i) None)) passes
place_there p i (y ∷ xs) x passes = at (p y) (place_there p (i + 1) xs x passes)
  where
    at : (b : Bool) → IsTrue (is_some (position_from p (i + 1) (xs ++ x ∷ []))) → IsTrue (is_some (cond b (Some i) (position_from p (i + 1) (xs ++ x ∷ []))))
    at true later = refl
    at false later = later

number_there : {A : Type 0} (p : A → Bool) (xs : List A) (x : A) → p x ≡ true → IsTrue (is_some (number_of p (xs ++ x ∷ [])))
number_there p xs x passes = at (position_from p 0 (xs ++ x ∷ [])) (place_there p 0 xs x passes)
  where
    at : (o : Option ℕ) → IsTrue (is_some o) → IsTrue (is_some (option_map suc o))
    at None some = absurd (false≢true some)
    at (Some k) some = refl

-- NAMES WITH TERMS MORE

module _ (names : Tables) (space : ℕ) (terms : Terms) where
  abbrev name : TermsName
  name = record { space = space; terms = terms; nonce = nonce_for names space terms }

  abbrev pub more_names : Tables
  more_names = with_new_terms names space terms

  pub terms_stay : (s : ℕ) (t : Terms) (n : ℕ) → terms_number names s t ≡ Some n → terms_number more_names s t ≡ Some n
  terms_stay s t n found = at (is_some (terms_number names space terms))
    where
      at : (b : Bool) → terms_number (cond b names (with_terms names name)) s t ≡ Some n
      at true = found
      at false = number_stays (is_that_terms s t) names.terms (name ∷ []) n found

  pub names_stay : (n : ℕ) (x : TermsName) → numbered names.terms n ≡ Some x → numbered more_names.terms n ≡ Some x
  names_stay n x found = at (is_some (terms_number names space terms))
    where
      at : (b : Bool) → numbered (cond b names (with_terms names name)).terms n ≡ Some x
      at true = found
      at false = numbered-append names.terms (name ∷ []) n (ap is_some found) ∙ found

  number_is : IsTrue (is_some (terms_number more_names space terms))
  number_is = at (is_some (terms_number names space terms)) refl
    where
      at : (b : Bool) → is_some (terms_number names space terms) ≡ b → IsTrue (is_some (terms_number (cond b names (with_terms names name)) space terms))
      at true is = is
      at false is = number_there (is_that_terms space terms) names.terms name (both (space == space) (same_terms terms terms) (number_refl space) (terms_refl terms))

  -- the terms have a number
  pub numbered_now : (k : ℕ) × (terms_number more_names space terms ≡ Some k)
  numbered_now = at (terms_number more_names space terms) refl number_is
    where
      at : (o : Option ℕ) → terms_number more_names space terms ≡ o → IsTrue (is_some o) → (k : ℕ) × (terms_number more_names space terms ≡ Some k)
      at None is some = absurd (false≢true some)
      at (Some k) is some = (k, is)

  -- which is that of no other terms
  pub only_terms : (t : Terms) (k : ℕ) → terms_number more_names space t ≡ Some k → terms_number more_names space terms ≡ Some k → t ≡ terms
  only_terms t k one other =
      let a = named_terms more_names space t k one in
      let b = named_terms more_names space terms k other in
      sym a.3 ∙ (ap (λ (x : TermsName). x.terms) (some_is a.0 b.0 (sym a.1 ∙ b.1)) ∙ b.3)

  -- and they stand there
  pub stands_now : (k : ℕ) → terms_number more_names space terms ≡ Some k → IsTrue (is_some (numbered more_names.terms k))
  stands_now k is = ap is_some (named_terms more_names space terms k is).1

  -- THE SETTING

  module _ (roster : Roster) (seed : List ℕ) (entries : List Entry) (r : ℕ) (request : Request) where
    abbrev pub there : Setting
    there = record (setting_of roster seed names entries r request) { terms_no = terms_number more_names; terms_of = numbered more_names.terms }

    pub knows_there : KnowsBook roster seed names entries r request there
    knows_there = record {
      same_number = refl;
      same_request = refl;
      same_seed = refl;
      no_negotiate = refl;
      knows = record {
        space_no = λ s n found. found;
        space_of = λ n s found. found;
        terms_no = terms_stay;
        terms_of = names_stay;
        identity_of = λ gift login found. found;
      };
    }
