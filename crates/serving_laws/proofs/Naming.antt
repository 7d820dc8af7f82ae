-- What a name and a call make of the names that are met.
use Rattle.std.proofs.Common.{◌≡◌, ◌⊎◌, inl, inr, ℕ, ◌+◌, ◌≤◌, Bool, true, false, not, ◌&&◌, ◌==◌, cond, IsTrue, List, [], ◌∷◌, ◌++◌, length, Option, Some, None, is_some, option_map, unwrap_or, refl, sym, ap, ◌∙◌, subst, arith, length-append}
use Rattle.std.specs.Prelude.{IfSome, filter_map}
use Rattle.std.specs.List.{cons_option}
use Rattle.std.proofs.lemmas.Bool.{false≢true, eq-eqb, eqb-true}
use Rattle.auth_text.specs.Login.{Login}
use Rattle.spaces.specs.declared.roster.Roster.{Roster}
use Rattle.spaces.specs.declared.terms.Terms.{Terms}
use Rattle.spaces.specs.DigestTerms.{same_terms}
use Rattle.spaces.specs.ProtectionSpaces.{ProtectionSpace}
use Rattle.spaces.specs.Sites.{numbered}
use Rattle.auth_events.specs.declared.journal.BookReply.{BookReply}
use Rattle.auth_events.specs.declared.journal.Call.{Call}
use Rattle.auth_events.specs.declared.journal.Call.TheVariants.{Answer, Reject, Renew, Select}
use Rattle.auth_events.specs.declared.journal.Entry.{Entry}
use Rattle.auth_events.specs.declared.names.TermsName.{TermsName}
use Rattle.auth_events.specs.Book.{IsLegalPast, IsStep, allowed, allowed_call, fits_space, has_terms, is_digest, is_open, is_site_of, scheme_is, space_named, space_of_prompt}
use Rattle.auth_events.specs.Tables.{Tables, is_that_terms, nonce_for, space_number, terms_number, with_new_space, with_new_terms, with_space, with_terms, with_text}
use Rattle.auth_events.proofs.Naming.{unnamed_space}
use Rattle.auth_events.proofs.Numbers.{and_left, and_right, both, none_numbered, numbered-push, numbered_in, some_of_test}
use Rattle.auth_events.proofs.Same.{number_refl, terms_refl}
use Rattle.history_laws.proofs.Homes.{selected_site}
use Rattle.run_rule.specs.Naming.{space_in, terms_in, text_in, unless_zero}
use Rattle.trace_laws.specs.Answering.{made}
use Rattle.trace_laws.proofs.Givings.{answered_fits, may_of, renewed_fits, selected_fits}
use Rattle.serving_laws.specs.Meeting.{AreMetWith, Pending, are_in_turn_behind, are_met, numbers_of}
use Rattle.serving_laws.proofs.Meeting.{met_again, met_next}

-- ONE NAME

-- a thing that is named, or is named now, is met
met_named : {A : Type 0} (k : ℕ) (numbers : List ℕ) (things more : List A) (a : A) (n : ℕ) → IsTrue (are_met k numbers (length things)) → numbered more n ≡ Some a
    → (more ≡ things) ⊎ (b : A) × (more ≡ things ++ b ∷ []) × ((m : ℕ) → numbered things m ≡ Some a → ⊥) → IsTrue (are_met k (n ∷ numbers) (length more))
met_named k numbers things more a n met is (inl same) =
    let within : (1 ≤ n) × (n ≤ length things) = numbered_in things n (ap is_some (subst (λ l. numbered l n ≡ Some a) same is)) in
    subst (λ l. IsTrue (are_met k (n ∷ numbers) (length l))) (sym same) (met_again k numbers (length things) met n within.0 within.1)
met_named k numbers things more a n met is (inr (b, pushed, unnamed)) =
    by (numbered-push things b a n (subst (λ l. numbered l n ≡ Some a) pushed is))
  where
    longer : length more ≡ length things + 1
    longer = ap length pushed ∙ length-append things (b ∷ [])

    by : (numbered things n ≡ Some a) ⊎ ((n ≡ length things + 1) × (b ≡ a)) → IsTrue (are_met k (n ∷ numbers) (length more))
    by (inl old) = absurd (unnamed n old)
    by (inr new) =
        subst (λ x. IsTrue (are_met k (x ∷ numbers) (length more))) (sym new.0)
        (subst (λ x. IsTrue (are_met k ((length things + 1) ∷ numbers) x)) (sym longer) (met_next k numbers (length things) met))

-- the number of a space that was asked for is pending
pub space_pending : (old names : Tables) (entries : List Entry) (pending : Pending) (space : ProtectionSpace) (n : ℕ) → AreMetWith old names entries pending → pending.space ≡ None
    → numbered (with_new_space names space).spaces n ≡ Some space → AreMetWith old (with_new_space names space) entries (record pending { space = Some n })
space_pending old names entries pending space n met none is = at (space_number names space) refl is
  where
    numbers : List ℕ
    numbers = numbers_of space_in entries

    before : IsTrue (are_met (length old.spaces) numbers (length names.spaces))
    before = subst (λ o. IsTrue (are_met (length old.spaces) (cons_option o numbers) (length names.spaces))) none met.spaces

    at : (o : Option ℕ) → space_number names space ≡ o → numbered (with_new_space names space).spaces n ≡ Some space → AreMetWith old (with_new_space names space) entries (record pending { space = Some n })
    at (Some m) found told =
        let same : with_new_space names space ≡ names = ap (λ o. cond (is_some o) names (with_space names space)) found in
        subst (λ t. AreMetWith old t entries (record pending { space = Some n })) (sym same)
        (record { spaces = met_named (length old.spaces) numbers names.spaces names.spaces space n before (subst (λ (t : Tables). numbered t.spaces n ≡ Some space) same told) (inl refl); terms = met.terms; in_turn = met.in_turn; texts = met.texts })
    at None unnamed told =
        let same : with_new_space names space ≡ with_space names space = ap (λ o. cond (is_some o) names (with_space names space)) unnamed in
        subst (λ t. AreMetWith old t entries (record pending { space = Some n })) (sym same)
        (record {
          spaces = met_named (length old.spaces) numbers names.spaces (names.spaces ++ space ∷ []) space n before (subst (λ (t : Tables). numbered t.spaces n ≡ Some space) same told) (inr (space, refl, unnamed_space names space unnamed));
          terms = met.terms;
          in_turn = met.in_turn;
          texts = met.texts;
        })

-- so is that of terms
pub terms_pending : (old names : Tables) (entries : List Entry) (pending : Pending) (s : ℕ) (terms : Terms) (n nonce : ℕ) → AreMetWith old names entries pending → pending.terms ≡ None
    → numbered (with_new_terms names s terms).terms n ≡ Some (record { space = s; terms = terms; nonce = nonce }) → AreMetWith old (with_new_terms names s terms) entries (record pending { terms = Some n })
terms_pending old names entries pending s terms n nonce met none is = at (terms_number names s terms) refl is
  where
    numbers : List ℕ
    numbers = numbers_of terms_in entries

    name : TermsName
    name = record { space = s; terms = terms; nonce = nonce_for names s terms }

    before : IsTrue (are_met (length old.terms) numbers (length names.terms))
    before = subst (λ o. IsTrue (are_met (length old.terms) (cons_option o numbers) (length names.terms))) none met.terms

    unnamed_terms : terms_number names s terms ≡ None → (m : ℕ) → numbered names.terms m ≡ Some (record { space = s; terms = terms; nonce = nonce }) → ⊥
    unnamed_terms unnamed m there =
        false≢true (sym (none_numbered (is_that_terms s terms) names.terms unnamed m (record { space = s; terms = terms; nonce = nonce }) there)
        ∙ both (s == s) (same_terms terms terms) (number_refl s) (terms_refl terms))

    at : (o : Option ℕ) → terms_number names s terms ≡ o → numbered (with_new_terms names s terms).terms n ≡ Some (record { space = s; terms = terms; nonce = nonce })
        → AreMetWith old (with_new_terms names s terms) entries (record pending { terms = Some n })
    at (Some m) found told =
        let same : with_new_terms names s terms ≡ names = ap (λ o. cond (is_some o) names (with_terms names name)) found in
        subst (λ t. AreMetWith old t entries (record pending { terms = Some n })) (sym same)
        (record {
          spaces = met.spaces;
          terms = met_named (length old.terms) numbers names.terms names.terms (record { space = s; terms = terms; nonce = nonce }) n before (subst (λ (t : Tables). numbered t.terms n ≡ Some (record { space = s; terms = terms; nonce = nonce })) same told) (inl refl);
          in_turn = met.in_turn;
          texts = met.texts;
        })
    at None unnamed told =
        let same : with_new_terms names s terms ≡ with_terms names name = ap (λ o. cond (is_some o) names (with_terms names name)) unnamed in
        subst (λ t. AreMetWith old t entries (record pending { terms = Some n })) (sym same)
        (record {
          spaces = met.spaces;
          terms = met_named (length old.terms) numbers names.terms (names.terms ++ name ∷ []) (record { space = s; terms = terms; nonce = nonce }) n before
              (subst (λ (t : Tables). numbered t.terms n ≡ Some (record { space = s; terms = terms; nonce = nonce })) same told) (inr (name, refl, unnamed_terms unnamed));
          in_turn = met.in_turn;
          texts = met.texts;
        })

-- and that of a text
pub text_pending : (old names : Tables) (entries : List Entry) (pending : Pending) (text : Login) → AreMetWith old names entries pending → pending.text ≡ None
    → AreMetWith old (with_text names text) entries (record pending { text = Some (length names.texts + 1) })
text_pending old names entries pending text met none = record {
  spaces = met.spaces;
  terms = met.terms;
  in_turn =
      both (length names.texts + 1 == length old.texts + length numbers + 1) (are_in_turn_behind (length old.texts) numbers)
      (eq-eqb (length names.texts + 1) (length old.texts + length numbers + 1) (omega (arith, as_many)))
      (subst (λ o. IsTrue (are_in_turn_behind (length old.texts) (cons_option o numbers))) none met.in_turn);
  texts = omega (arith, as_many, length-append names.texts (text ∷ []));
}
  where
    numbers : List ℕ
    numbers = numbers_of text_in entries

    as_many : length names.texts ≡ length old.texts + length numbers
    as_many = subst (λ o. length names.texts ≡ length old.texts + length (cons_option o numbers)) none met.texts

-- ONE CALL

-- a call names what is pending, or, where nothing is, what is named
met_called : (k : ℕ) (p m : Option ℕ) (numbers : List ℕ) (count : ℕ) → IsTrue (are_met k (cons_option p numbers) count)
    → (p ≡ m) ⊎ (p ≡ None) × IfSome m (λ n. (1 ≤ n) × (n ≤ count)) → IsTrue (are_met k (cons_option m numbers) count)
met_called k p m numbers count met (inl same) = subst (λ o. IsTrue (are_met k (cons_option o numbers) count)) same met
met_called k p None numbers count met (inr (none, within)) = subst (λ o. IsTrue (are_met k (cons_option o numbers) count)) none met
met_called k p (Some n) numbers count met (inr (none, within)) =
    met_again k numbers count (subst (λ o. IsTrue (are_met k (cons_option o numbers) count)) none met) n within.0 within.1

-- what the call names is pending, or, where nothing is pending, it was named before
pub record IsPendingFor (names : Tables) (pending : Pending) (call : Call) : Type 0 where
  pub of_space : (pending.space ≡ space_in call) ⊎ (pending.space ≡ None) × IfSome (space_in call) (λ n. IsTrue (is_some (numbered names.spaces n)))
  pub of_terms : (pending.terms ≡ terms_in call) ⊎ (pending.terms ≡ None) × IfSome (terms_in call) (λ n. IsTrue (is_some (numbered names.terms n)))
  pub of_text : pending.text ≡ text_in call

in_range : {A : Type 0} (things : List A) (m : Option ℕ) → IfSome m (λ n. IsTrue (is_some (numbered things n))) → IfSome m (λ n. (1 ≤ n) × (n ≤ length things))
in_range things None named = named
in_range things (Some n) named = numbered_in things n named

pub call_met : (old names : Tables) (r : ℕ) (entries : List Entry) (pending : Pending) (call : Call) (reply : BookReply) → AreMetWith old names entries pending → IsPendingFor names pending call
    → AreMetWith old names (made 1 r call reply ∷ entries) (record { space = None; terms = None; text = None })
call_met old names r entries pending call reply met is = record {
  spaces = met_called (length old.spaces) pending.space (space_in call) (numbers_of space_in entries) (length names.spaces) met.spaces (by names.spaces pending.space (space_in call) is.of_space);
  terms = met_called (length old.terms) pending.terms (terms_in call) (numbers_of terms_in entries) (length names.terms) met.terms (by names.terms pending.terms (terms_in call) is.of_terms);
  in_turn = subst (λ o. IsTrue (are_in_turn_behind (length old.texts) (cons_option o (numbers_of text_in entries)))) is.of_text met.in_turn;
  texts = subst (λ o. length names.texts ≡ length old.texts + length (cons_option o (numbers_of text_in entries))) is.of_text met.texts;
}
  where
    by : {A : Type 0} (things : List A) (p m : Option ℕ) → (p ≡ m) ⊎ (p ≡ None) × IfSome m (λ n. IsTrue (is_some (numbered things n))) → (p ≡ m) ⊎ (p ≡ None) × IfSome m (λ n. (1 ≤ n) × (n ≤ length things))
    by things p m (inl same) = inl same
    by things p m (inr (none, named)) = inr (none, in_range things m named)

-- the terms of a legal call are named
pub fit_terms : (names : Tables) (s t : ℕ) → IsTrue (fits_space names s t) → IfSome (unless_zero t) (λ n. IsTrue (is_some (numbered names.terms n)))
fit_terms names s t fit = at (scheme_is names is_digest s) fit
  where
    zero_none : (b : Bool) → (t == 0) ≡ b → IsTrue b → IfSome (cond b None (Some t)) (λ n. IsTrue (is_some (numbered names.terms n)))
    zero_none true is some = tt
    zero_none false is some = absurd (false≢true some)

    some_named : (b : Bool) → IsTrue (has_terms names s t) → IfSome (cond b None (Some t)) (λ n. IsTrue (is_some (numbered names.terms n)))
    some_named true has = tt
    some_named false has = some_of_test (λ (name : TermsName). name.space == s) (numbered names.terms t) has

    at : (b : Bool) → IsTrue (cond b (has_terms names s t) (t == 0)) → IfSome (unless_zero t) (λ n. IsTrue (is_some (numbered names.terms n)))
    at true has = some_named (t == 0) has
    at false none = zero_none (t == 0) refl none
