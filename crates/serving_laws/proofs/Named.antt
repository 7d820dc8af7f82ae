-- What a request of one caller may name, and how many names there are then.
use Rattle.std.proofs.Common.{◌≡◌, ◌⊎◌, inl, inr, ℕ, ◌+◌, ◌*◌, ◌≤◌, ◌<◌, Bool, true, false, cond, IsTrue, List, [], ◌∷◌, ◌++◌, length, Option, Some, None, is_some, refl, sym, ap, ◌∙◌, subst, arith, if◌then◌else◌}
use Rattle.std.specs.Prelude.{filter_map}
use Rattle.std.specs.List.{cons_option}
use Rattle.std.proofs.lemmas.Bool.{false≢true}
use Rattle.std.proofs.lemmas.List.{append-nil, length-map}
use Rattle.std.proofs.lemmas.List.Sums.{fold-append}
use Rattle.auth_text.specs.Login.{Login}
use Rattle.spaces.specs.declared.roster.Roster.{Roster}
use Rattle.spaces.specs.declared.terms.Terms.{Terms}
use Rattle.spaces.specs.ProtectionSpaces.{ProtectionSpace}
use Rattle.spaces.specs.Sites.{numbered}
use Rattle.auth_events.specs.declared.journal.BookReply.{BookReply}
use Rattle.auth_events.specs.declared.journal.Call.{Call}
use Rattle.auth_events.specs.declared.names.TermsName.{TermsName}
use Rattle.auth_events.specs.declared.told.Told.{Told}
use Rattle.auth_events.specs.declared.told.Told.TheVariants.{SpaceNamed, TermsNamed, TextNamed}
use Rattle.auth_events.specs.Tables.{AreFew, Tables, is_home, no_names, nonce_for, space_number, terms_number, with_new_space, with_new_terms, with_space, with_terms, with_text}
use Rattle.auth_events.specs.Told.{MayNameSpace, MayNameTerms, names_told, told_space, told_terms, with_told}
use Rattle.auth_events.proofs.Naming.{length-with_nonce}
use Rattle.auth_runs.specs.declared.event.Event.{Event}
use Rattle.auth_runs.specs.declared.event.Event.TheVariants.{Called}
use Rattle.run_rule.specs.Naming.{space_in, terms_in, text_in}
use Rattle.trace_rule.specs.Entries.{calls, made_in}
use Rattle.trace_rule.specs.Settings.{IsNumbered, Setting}
use Rattle.trace_rule.specs.Traces.{IsPast}
use Rattle.trace_rule.proofs.Drops.{calls_bound}
use Rattle.trace_laws.specs.Lengths.{gives_terms, terms_given}
use Rattle.serving_laws.specs.Alone.{entries_of}
use Rattle.serving_laws.specs.Meeting.{AreMetWith, Pending, none_pending, numbers_of}
use Rattle.serving_laws.specs.Rooms.{HasNamed}
use Rattle.serving_laws.proofs.Entries.{made_calls}
use Rattle.serving_laws.proofs.Meeting.{met_few}
use Rattle.serving_laws.proofs.Naming.{IsPendingFor, call_met, space_pending, terms_pending, text_pending}

abbrev one_if : Bool → ℕ
one_if b = if b then 1 else 0

-- NAMES OF A TOLD LIST

pub space_told : (told : List Told) (space : ProtectionSpace) → names_told (told_space 1 (names_told told) told space) ≡ with_new_space (names_told told) space
space_told told space = at (is_some (space_number (names_told told) space))
  where
    at : (b : Bool) → names_told (cond b told (told ++ SpaceNamed 1 space ∷ [])) ≡ cond b (names_told told) (with_space (names_told told) space)
    at true = refl
    at false = fold-append with_told no_names told (SpaceNamed 1 space ∷ [])

pub terms_told : (told : List Told) (s : ℕ) (terms : Terms) → names_told (told_terms 1 (names_told told) told s terms) ≡ with_new_terms (names_told told) s terms
terms_told told s terms = at (is_some (terms_number (names_told told) s terms))
  where
    name : TermsName
    name = record { space = s; terms = terms; nonce = nonce_for (names_told told) s terms }

    at : (b : Bool) → names_told (cond b told (told ++ TermsNamed 1 name ∷ [])) ≡ cond b (names_told told) (with_terms (names_told told) name)
    at true = refl
    at false = fold-append with_told no_names told (TermsNamed 1 name ∷ [])

pub text_told : (told : List Told) (text : Login) → names_told (told ++ TextNamed 1 text ∷ []) ≡ with_text (names_told told) text
text_told told text = fold-append with_told no_names told (TextNamed 1 text ∷ [])

-- HOW MANY

few_found : {A B : Type 0} (f : A → Option B) (xs : List A) → length (filter_map f xs) ≤ length xs
few_found f [] = omega arith
few_found {A} {B} f (x ∷ xs) = at (f x) (few_found f xs)
  where
    at : (o : Option B) → length (filter_map f xs) ≤ length xs → length (cons_option o (filter_map f xs)) ≤ length (x ∷ xs)
    at None few = omega (arith, few)
    at (Some y) few = omega (arith, few)

with_one : (o : Option ℕ) (numbers : List ℕ) → length (cons_option o numbers) ≤ length numbers + 1
with_one None numbers = omega arith
with_one (Some n) numbers = omega arith

-- a request has at most 56 entries
pub entries_few : (s : Setting) → IsNumbered s → (r : ℕ) (past : List Event) → IsPast s past → length (entries_of r past) ≤ 56
entries_few s means r past run = omega (arith, sym (length-map (entries_of r past) made_in) ∙ ap length (made_calls r past), calls_bound s means past run)

module _ (old names : Tables) (r : ℕ) (past : List Event) (pending : Pending) (has : HasNamed old names r past pending) where
  abbrev mine : (Call → Option ℕ) → List ℕ
  mine number = numbers_of number (entries_of r past)

  spaces_few : length names.spaces ≤ length old.spaces + length (cons_option pending.space (mine space_in))
  spaces_few = met_few (length old.spaces) (cons_option pending.space (mine space_in)) (length names.spaces) has.met.spaces

  terms_few : length names.terms ≤ length old.terms + length (cons_option pending.terms (mine terms_in))
  terms_few = met_few (length old.terms) (cons_option pending.terms (mine terms_in)) (length names.terms) has.met.terms

  -- with what is pending the names are few
  pub named_few : (begun : ℕ) → AreFew begun old → length (entries_of r past) ≤ 56 → terms_given past + (if is_some pending.terms then 1 else 0) ≤ 16 → AreFew (begun + 1) names
  named_few begun few short given = record {
    spaces = omega (arith, spaces_few, with_one pending.space (mine space_in), few_found (λ entry. space_in entry.call) (entries_of r past), short, few.spaces);
    terms = omega (arith, terms_few, with_one pending.terms (mine terms_in), few_found (λ entry. terms_in entry.call) (entries_of r past), short, few.terms);
    nonces = omega (arith, has.nonces, given, few.nonces);
    texts = omega (arith, has.met.texts, with_one pending.text (mine text_in), few_found (λ entry. text_in entry.call) (entries_of r past), short, few.texts);
  }

  -- WHAT MAY BE NAMED

  module _ (roster : Roster) (begun : ℕ) (few : AreFew begun old) (left : begun < length roster.requests) (short : length (entries_of r past) ≤ 56) where
    pub may_space : (space : ProtectionSpace) → MayNameSpace roster names space
    may_space space = inl (omega (arith, spaces_few, with_one pending.space (mine space_in), few_found (λ entry. space_in entry.call) (entries_of r past), short, few.spaces, left))

    pub may_terms : (s : ℕ) (terms : Terms) → pending.terms ≡ None → terms_given past < 16 → MayNameTerms roster names s terms
    may_terms s terms none given =
        let nothing : ◌≡◌ {A = ℕ} (if is_some pending.terms then 1 else 0) 0 = ap {B = ℕ} (λ o. if is_some o then 1 else 0) none in
        inl (
          omega (arith, terms_few, with_one pending.terms (mine terms_in), few_found (λ entry. terms_in entry.call) (entries_of r past), short, few.terms, left),
          inl (omega (arith, has.nonces, nothing, given, few.nonces, left)),
        )

    pub may_text : length names.texts < 64 * length roster.requests
    may_text = omega (arith, has.met.texts, with_one pending.text (mine text_in), few_found (λ entry. text_in entry.call) (entries_of r past), short, few.texts, left)

  -- WHAT IS NAMED THEN

  pub with_space_has : (space : ProtectionSpace) (n : ℕ) → pending.space ≡ None → numbered (with_new_space names space).spaces n ≡ Some space
      → HasNamed old (with_new_space names space) r past (record pending { space = Some n })
  with_space_has space n none is = record {
    met = space_pending old names (entries_of r past) pending space n has.met none is;
    nonces = subst (λ (k : ℕ). k ≤ length old.nonces + (terms_given past + (if is_some pending.terms then 1 else 0))) (sym (at (is_some (space_number names space)))) has.nonces;
  }
    where
      at : (b : Bool) → length (cond b names (with_space names space)).nonces ≡ length names.nonces
      at true = refl
      at false = refl

  pub with_terms_has : (s : ℕ) (terms : Terms) (n nonce : ℕ) → pending.terms ≡ None → IsTrue (is_home names s terms)
      → numbered (with_new_terms names s terms).terms n ≡ Some (record { space = s; terms = terms; nonce = nonce })
      → HasNamed old (with_new_terms names s terms) r past (record pending { terms = Some n })
  with_terms_has s terms n nonce none home is = record {
    met = terms_pending old names (entries_of r past) pending s terms n nonce has.met none is;
    nonces =
        let nothing : ◌≡◌ {A = ℕ} (if is_some pending.terms then 1 else 0) 0 = ap {B = ℕ} (λ o. if is_some o then 1 else 0) none in
        omega (arith, at (is_some (terms_number names s terms)), has.nonces, nothing);
  }
    where
      name : TermsName
      name = record { space = s; terms = terms; nonce = nonce_for names s terms }

      at : (b : Bool) → length (cond b names (with_terms names name)).nonces ≤ length names.nonces + 1
      at true = omega arith
      at false = (length-with_nonce names name home refl).0

  pub with_text_has : (text : Login) → pending.text ≡ None → HasNamed old (with_text names text) r past (record pending { text = Some (length names.texts + 1) })
  with_text_has text none = record {
    met = text_pending old names (entries_of r past) pending text has.met none;
    nonces = has.nonces;
  }

  -- WHAT IS MET THEN

  pub call_has : (call : Call) (reply : BookReply) → IsPendingFor names pending call → (IsTrue (is_some pending.terms) → IsTrue (gives_terms call)) → HasNamed old names r (Called call reply ∷ past) none_pending
  call_has call reply is gives = record {
    met = call_met old names r (entries_of r past) pending call reply has.met is;
    nonces = omega (arith, has.nonces, at (is_some pending.terms) (gives_terms call) gives);
  }
    where
      at : (a b : Bool) → (IsTrue a → IsTrue b) → one_if a ≤ one_if b
      at true b h = let one : one_if b ≡ 1 = ap one_if (h refl) in omega (arith, one)
      at false b h = omega arith
