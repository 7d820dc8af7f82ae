-- A call that comes next in a run comes next by the names so far, with what it names.
use Rattle.std.proofs.Common.{◌≡◌, ℕ, ◌+◌, ◌≤◌, Bool, true, false, ◌==◌, cond, IsTrue, List, ◌++◌, length, Option, Some, None, refl, sym, ap, ◌∙◌, subst, append_assoc, arith}
use Rattle.std.specs.Prelude.{is_some, option_and_then, option_map, unwrap_or}
use Rattle.std.proofs.lemmas.Bool.Decides.{nat_tests}
use Rattle.spaces.specs.declared.roster.Request.{Request}
use Rattle.spaces.specs.declared.roster.Roster.{Roster}
use Rattle.spaces.specs.declared.terms.Terms.{Terms}
use Rattle.spaces.specs.ProtectionSpaces.{ProtectionSpace}
use Rattle.spaces.specs.Sites.{numbered}
use Rattle.auth_events.specs.declared.journal.Call.{Call}
use Rattle.auth_events.specs.declared.journal.Call.TheVariants.{Select, Renew}
use Rattle.auth_events.specs.declared.journal.Entry.{Entry}
use Rattle.auth_events.specs.Tables.{Tables, AreNames, nonce_for, space_number, terms_number, with_new_space, with_new_terms, with_space, with_terms}
use Rattle.auth_events.proofs.Naming.{named_space, named_terms}
use Rattle.auth_events.proofs.Numbers.{numbered_in}
use Rattle.trace_rule.specs.Growing.{NamesGrow}
use Rattle.trace_rule.specs.Moves.{Want, terms_offered}
use Rattle.trace_rule.specs.Moves.Want.{Calls, Rests}
use Rattle.trace_rule.specs.Settings.{Setting, setting_of}
use Rattle.trace_rule.proofs.Wishes.{IsFounded, Wish, call_if, granted}
use Rattle.trace_rule.proofs.Wishes.Wish.{Sure, Chooses, Renews}
use Rattle.run_rule.specs.Naming.{space_in, terms_in}
use Rattle.run_laws.proofs.NamedSoFar.{IsNamedSoFar, IsSpaceNamed, IsTermsNamed, grow_not, grow_space, grow_terms, name_space, name_terms}

-- the names, with what the wish names
abbrev pub named : Tables → Wish → Tables
named names (Sure w) = names
named names (Chooses space None) = with_new_space names space
named names (Chooses space (Some terms)) = with_new_terms (with_new_space names space) (unwrap_or (space_number (with_new_space names space) space) 0) terms
named names (Renews gift terms) = with_new_terms names gift.space terms

-- what a call names is named, or is the next thing
pub record IsInTurn (names : Tables) (call : Call) : Type 0 where
  pub space : (n : ℕ) → space_in call ≡ Some n → n ≤ length names.spaces + 1
  pub terms : (t : ℕ) → terms_in call ≡ Some t → t ≤ length names.terms + 1

-- what is wanted is granted by the names so far
pub record IsNamed (front names : Tables) (x : Wish) (s : Tables → Setting) (w : Want) : Type 0 where
  pub so_far : IsNamedSoFar (named front x) names
  pub are_names : AreNames (named front x)
  pub grow : NamesGrow front (named front x)
  pub same_texts : (named front x).texts ≡ front.texts
  pub is_wanted : granted (s (named front x)) x ≡ w

pub grow_on : (a b c : Tables) → NamesGrow a b → NamesGrow b c → NamesGrow a c
grow_on a b c p q = record {
  new_spaces = p.new_spaces ++ q.new_spaces;
  new_terms = p.new_terms ++ q.new_terms;
  new_texts = p.new_texts ++ q.new_texts;
  spaces = q.spaces ∙ (ap (λ l. l ++ q.new_spaces) p.spaces ∙ append_assoc a.spaces p.new_spaces q.new_spaces);
  terms = q.terms ∙ (ap (λ l. l ++ q.new_terms) p.terms ∙ append_assoc a.terms p.new_terms q.new_terms);
  texts = q.texts ∙ (ap (λ l. l ++ q.new_texts) p.texts ∙ append_assoc a.texts p.new_texts q.new_texts);
}

space_keeps_terms : (names : Tables) (space : ProtectionSpace) → (with_new_space names space).terms ≡ names.terms
space_keeps_terms names space = at (is_some (space_number names space))
  where
    at : (b : Bool) → (cond b names (with_space names space)).terms ≡ names.terms
    at true = refl
    at false = refl

space_keeps_texts : (names : Tables) (space : ProtectionSpace) → (with_new_space names space).texts ≡ names.texts
space_keeps_texts names space = at (is_some (space_number names space))
  where
    at : (b : Bool) → (cond b names (with_space names space)).texts ≡ names.texts
    at true = refl
    at false = refl

terms_keep_spaces : (names : Tables) (s : ℕ) (terms : Terms) → (with_new_terms names s terms).spaces ≡ names.spaces
terms_keep_spaces names s terms = at (is_some (terms_number names s terms))
  where
    at : (b : Bool) → (cond b names (with_terms names (record { space = s; terms = terms; nonce = nonce_for names s terms }))).spaces ≡ names.spaces
    at true = refl
    at false = refl

terms_keep_texts : (names : Tables) (s : ℕ) (terms : Terms) → (with_new_terms names s terms).texts ≡ names.texts
terms_keep_texts names s terms = at (is_some (terms_number names s terms))
  where
    at : (b : Bool) → (cond b names (with_terms names (record { space = s; terms = terms; nonce = nonce_for names s terms }))).texts ≡ names.texts
    at true = refl
    at false = refl

-- a number of terms isn't 0
terms_told : (names : Tables) (s : ℕ) (terms : Terms) (space t : ℕ) → terms_number names s terms ≡ Some t → terms_in (Select space t) ≡ Some t
terms_told names s terms space t found =
    let there = named_terms names s terms t found in
    let range = numbered_in names.terms t (ap is_some there.1) in
    let low : (t == 0) ≡ false = (let le = range.0 in grind (arith, nat_tests, le)) in
    ap (λ b. cond b None (Some t)) low

module _ (roster : Roster) (seed : List ℕ) (r : ℕ) (request : Request) (front names : Tables) (journal all : List Entry)
    (so_far : IsNamedSoFar front names) (are : AreNames front) (all_are : AreNames names) where
  abbrev in_run : Setting
  in_run = setting_of roster seed names all r request

  abbrev so : Tables → Setting
  so x = setting_of roster seed x journal r request

  abbrev IsWell : Wish → Want → Type 0
  IsWell x w = IsNamed front names x so w

  none : {P : Type 0} (w : Want) → Rests ≡ w → (w ≡ Rests → ⊥) → P
  none w e never = absurd (never (sym e))

  one_space : (space : ProtectionSpace) (n : ℕ) → space_number names space ≡ Some n → n ≤ length front.spaces + 1 → IsSpaceNamed front names space n
  one_space space n found le = name_space front names so_far are all_are space n found le

  chosen : (space : ProtectionSpace) (w : Want) → granted in_run (Chooses space None) ≡ w → (w ≡ Rests → ⊥) → ((call : Call) → w ≡ Calls call → IsInTurn front call) → IsWell (Chooses space None) w
  chosen space w is never turn = at (space_number names space) refl is
    where
      at : (o : Option ℕ) → space_number names space ≡ o → call_if (option_and_then (λ n. option_map (Select n) (terms_offered in_run n None)) o) ≡ w → IsWell (Chooses space None) w
      at None e k = none w k never
      at (Some n) e k =
          let well = one_space space n e ((turn (Select n 0) (sym k)).space n refl) in
          record {
            so_far = well.so_far;
            are_names = well.are_names;
            grow = grow_space front space;
            same_texts = space_keeps_texts front space;
            is_wanted = ap (λ o. call_if (option_and_then (λ m. option_map (Select m) (terms_offered (so (with_new_space front space)) m None)) o)) well.number ∙ k;
          }

  chosen_with : (space : ProtectionSpace) (terms : Terms) (w : Want) → granted in_run (Chooses space (Some terms)) ≡ w → (w ≡ Rests → ⊥) → ((call : Call) → w ≡ Calls call → IsInTurn front call)
      → IsWell (Chooses space (Some terms)) w
  chosen_with space terms w is never turn = at (space_number names space) refl is
    where
      first : Tables
      first = with_new_space front space

      well_named : (n t : ℕ) → IsSpaceNamed front names space n → terms_number names n terms ≡ Some t → t ≤ length front.terms + 1 → Calls (Select n t) ≡ w → IsWell (Chooses space (Some terms)) w
      well_named n t well found le k =
          let le' : t ≤ length first.terms + 1 = subst (λ l. t ≤ length l + 1) (sym (space_keeps_terms front space)) le in
          let known : IsTrue (is_some (numbered first.spaces n)) = ap is_some (named_space first space n well.number) in
          let more : IsTermsNamed first names n terms t = name_terms first names well.so_far well.are_names all_are n terms t known found le' in
          let same : with_new_terms first n terms ≡ named front (Chooses space (Some terms)) = sym (ap (λ o. with_new_terms first (unwrap_or o 0) terms) well.number) in
          let spaces : space_number (with_new_terms first n terms) space ≡ Some n = ap (λ l. space_number (record first { spaces = l }) space) (terms_keep_spaces first n terms) ∙ well.number in
          record {
            so_far = subst (λ x. IsNamedSoFar x names) same more.so_far;
            are_names = subst AreNames same more.are_names;
            grow = subst (NamesGrow front) same (grow_on front first (with_new_terms first n terms) (grow_space front space) (grow_terms first n terms));
            same_texts = subst (λ x. x.texts ≡ front.texts) same (terms_keep_texts first n terms ∙ space_keeps_texts front space);
            is_wanted =
                subst (λ x. granted (so x) (Chooses space (Some terms)) ≡ w) same
                (ap (λ o. call_if (option_and_then (λ m. option_map (Select m) (terms_number (with_new_terms first n terms) m terms)) o)) spaces
                ∙ (ap (λ o. call_if (option_map (Select n) o)) more.number ∙ k));
          }

      by_terms : (n : ℕ) → space_number names space ≡ Some n → (o : Option ℕ) → terms_number names n terms ≡ o → call_if (option_map (Select n) o) ≡ w → IsWell (Chooses space (Some terms)) w
      by_terms n e None f k = none w k never
      by_terms n e (Some t) f k =
          let turned = turn (Select n t) (sym k) in well_named n t (one_space space n e (turned.space n refl)) f (turned.terms t (terms_told names n terms n t f)) k

      at : (o : Option ℕ) → space_number names space ≡ o → call_if (option_and_then (λ n. option_map (Select n) (terms_offered in_run n (Some terms))) o) ≡ w → IsWell (Chooses space (Some terms)) w
      at None e k = none w k never
      at (Some n) e k = by_terms n e (terms_number names n terms) refl k

  -- what is wanted in the run is wanted by the names so far, with what it names
  pub named_well : (x : Wish) → IsFounded (so front) x → (w : Want) → granted in_run x ≡ w → (w ≡ Rests → ⊥) → ((call : Call) → w ≡ Calls call → IsInTurn front call) → IsWell x w
  named_well (Sure v) f w is never turn = record { so_far = so_far; are_names = are; grow = grow_not front; same_texts = refl; is_wanted = is }
  named_well (Chooses space None) f w is never turn = chosen space w is never turn
  named_well (Chooses space (Some terms)) f w is never turn = chosen_with space terms w is never turn
  named_well (Renews gift terms) f w is never turn = at (terms_number names gift.space terms) refl is
    where
      at : (o : Option ℕ) → terms_number names gift.space terms ≡ o → call_if (option_map (Renew gift) o) ≡ w → IsWell (Renews gift terms) w
      at None e k = none w k never
      at (Some t) e k =
          let turned = turn (Renew gift t) (sym k) in
          let more : IsTermsNamed front names gift.space terms t = name_terms front names so_far are all_are gift.space terms t f e (turned.terms t (terms_told names gift.space terms 0 t e)) in
          record {
            so_far = more.so_far;
            are_names = more.are_names;
            grow = grow_terms front gift.space terms;
            same_texts = terms_keep_texts front gift.space terms;
            is_wanted = ap (λ o. call_if (option_map (Renew gift) o)) more.number ∙ k;
          }
