-- What a ledger keeps when an entry or a name is added.
use Rattle.std.proofs.Common.{◌≡◌, ℕ, ◌+◌, ◌*◌, ◌<◌, ◌≤◌, false, cond, List, [], ◌∷◌, ◌++◌, length, refl, ap, sym, subst, ◌∙◌, inl, inr, ◌⊎◌, arith, Option, Some, None, length-append}
use Rattle.std.specs.Prelude.{IsTrue, is_some, reverse, option_map}
use Rattle.std.proofs.lemmas.List.Elements.{All-nil, All-push, All-weaker}
use Rattle.std.proofs.Props.{props}
use Rattle.std.proofs.lemmas.Bool.{false≢true}
use Rattle.auth_text.specs.Login.{Login}
use Rattle.spaces.specs.ProtectionSpaces.{ProtectionSpace, has_realm}
use Rattle.spaces.specs.declared.roster.Roster.{Roster}
use Rattle.spaces.specs.Sites.{numbered}
use Rattle.auth_events.specs.declared.journal.Entry.{Entry}
use Rattle.auth_events.specs.declared.names.TermsName.{TermsName}
use Rattle.auth_events.specs.declared.told.Told.{Told}
use Rattle.auth_events.specs.declared.told.Told.TheVariants.{Made, SpaceNamed, TermsNamed, TextNamed}
use Rattle.auth_events.specs.declared.told.NewName.{NewName}
use Rattle.auth_events.specs.declared.told.NameKind.{NameKind}
use Rattle.auth_events.specs.declared.told.NameKind.TheVariants.{Space as OfSpace, Terms as OfTerms, Text as OfText}
use Rattle.auth_events.specs.Tables.{Tables, no_names, with_space, with_terms, with_text, space_number, terms_number, nonce_for, is_home, AreNames, AreFew}
use Rattle.auth_events.specs.Pages.{HasRoomFor}
use Rattle.auth_events.specs.Book.{allowed, answer}
use Rattle.auth_events.specs.Told.{IsNamed, is_pending, name_told, with_told, told_space, told_terms, MayNameSpace, MayNameTerms}
use Rattle.auth_events.specs.Ledgers.{IsKept, told_of}
use Rattle.auth_events.proofs.Numbers.{numbered-last}
use Rattle.auth_events.proofs.RoomLemmas.{IsWithinRoom-push}
use Rattle.auth_events.proofs.Legal.{IsLegal-journal, IsLegal-push, room_for}
use Rattle.auth_events.proofs.MoreNames.{Extends, extends_by_space, extends_by_terms, extends_by_text, legal-more}
use Rattle.auth_events.proofs.Naming.{AreNames-none, AreNames-space, AreNames-terms, AreNames-text, length-with_nonce}
use Rattle.auth_events.proofs.Weave.{journal-weave, named-more, throughout_more, throughout_none, weave_after, weave_named, told_named, told_entry}

pub HasRoomFor-prop : (n : ℕ) (entries : List Entry) (entry : Entry) → IsProp (HasRoomFor (record { requests = n; entries = entries }) entry)
HasRoomFor-prop n entries entry = Prim.hlevel props

pub IsKept-new : (roster : Roster) → IsKept roster no_names [] []
IsKept-new roster = record {
  legal = tt;
  pages = record { pages = All-nil _; few = λ r. omega arith };
  before = All-nil _;
  named = All-nil _;
  told = refl;
  throughout = throughout_none roster;
  are_names = AreNames-none;
  within = record { spaces = omega arith; terms = omega arith; nonces = omega arith; texts = omega arith };
}

module _ (roster : Roster) (names : Tables) (made : List NewName) (entries : List Entry) (kept : IsKept roster names made entries) where
  pub room_of_kept : (entry : Entry) → IsTrue (allowed roster names (reverse entries) entry.caller entry.request entry.call) → entry.reply ≡ answer roster names (reverse entries) entry.request entry.call → is_pending entry.reply ≡ false → HasRoomFor (record { requests = length roster.requests; entries = entries }) entry
  room_of_kept entry may is done = room_for roster names (length roster.requests) entries entry kept.pages refl may is done

  pub IsKept-entry : (entry : Entry) → IsTrue (allowed roster names (reverse entries) entry.caller entry.request entry.call) → entry.reply ≡ answer roster names (reverse entries) entry.request entry.call → is_pending entry.reply ≡ false → IsKept roster names made (entries ++ entry ∷ [])
  IsKept-entry entry may is done =
      let room = room_of_kept entry may is done in
      record {
        legal = IsLegal-push roster names entries entry kept.legal may is room.page.fit;
        pages = IsWithinRoom-push (length roster.requests) entries entry kept.pages room;
        before = All-weaker (λ name. name.before ≤ length entries) (λ name. name.before ≤ length (entries ++ entry ∷ [])) (λ name le. omega (arith, length-append entries (entry ∷ []))) made kept.before;
        named = kept.named;
        told = told_entry names made entries entry kept.before kept.told;
        throughout = throughout_more roster (told_of names made entries) (told_of names made (entries ++ entry ∷ [])) (Made entry) names (entries ++ entry ∷ [])
            (weave_after names made entries entry false kept.before) (told_entry names made entries entry kept.before kept.told) (journal-weave names made 0 (entries ++ entry ∷ []))
            (IsLegal-journal roster names (entries ++ entry ∷ []) (IsLegal-push roster names entries entry kept.legal may is room.page.fit)) kept.throughout;
        are_names = kept.are_names;
        within = kept.within;
      }

  IsKept-name : (more : Tables) (name : NewName) (item : Told) → Extends names more → name_told more name ≡ Some item → name.before ≡ length entries → with_told names item ≡ more → AreNames more → AreFew (length roster.requests) more → IsKept roster more (made ++ name ∷ []) entries
  IsKept-name more name item ext is before with_it are_names within = record {
    legal = legal-more roster names more ext (length roster.requests) entries kept.pages.pages kept.legal;
    pages = kept.pages;
    before = All-push (λ (one : NewName). one.before ≤ length entries) made name kept.before (omega (arith, before));
    named = All-push (IsNamed more) made name (named-more names more ext made kept.named) (ap is_some is);
    told = told_named names more ext made entries name item kept.named before is kept.told with_it;
    throughout = throughout_more roster (told_of names made entries) (told_of more (made ++ name ∷ []) entries) item more entries
        (weave_named names more ext made entries name item kept.named before is) (told_named names more ext made entries name item kept.named before is kept.told with_it) (journal-weave more (made ++ name ∷ []) 0 entries)
        (IsLegal-journal roster more entries (legal-more roster names more ext (length roster.requests) entries kept.pages.pages kept.legal)) kept.throughout;
    are_names = are_names;
    within = within;
  }

  few_spaces : (space : ProtectionSpace) → MayNameSpace roster names space → space_number names space ≡ None → length names.spaces < 64 * length roster.requests
  few_spaces space (inl few) none = few
  few_spaces space (inr found) none = absurd (false≢true (sym (ap is_some none) ∙ found))

  pub IsKept-space : (caller : ℕ) (space : ProtectionSpace) → IsTrue (has_realm space.scheme space.realm) → MayNameSpace roster names space → space_number names space ≡ None → IsKept roster (with_space names space) (made ++ record { kind = OfSpace; number = length names.spaces + 1; caller = caller; before = length entries } ∷ []) entries
  IsKept-space caller space fit may none =
      IsKept-name (with_space names space) (record { kind = OfSpace; number = length names.spaces + 1; caller = caller; before = length entries }) (SpaceNamed caller space)
      (extends_by_space names space) (ap (option_map (λ s. SpaceNamed caller s)) (numbered-last names.spaces space)) refl refl
      (AreNames-space names space kept.are_names fit none)
      (record {
        spaces = omega (arith, length-append names.spaces (space ∷ []), few_spaces space may none);
        terms = kept.within.terms;
        nonces = kept.within.nonces;
        texts = kept.within.texts;
      })

  pub IsKept-text : (caller : ℕ) (text : Login) → length names.texts < 64 * length roster.requests → IsKept roster (with_text names text) (made ++ record { kind = OfText; number = length names.texts + 1; caller = caller; before = length entries } ∷ []) entries
  IsKept-text caller text few =
      IsKept-name (with_text names text) (record { kind = OfText; number = length names.texts + 1; caller = caller; before = length entries }) (TextNamed caller text)
      (extends_by_text names text) (ap (option_map (λ t. TextNamed caller t)) (numbered-last names.texts text)) refl refl
      (AreNames-text names text kept.are_names)
      (record {
        spaces = kept.within.spaces;
        terms = kept.within.terms;
        nonces = kept.within.nonces;
        texts = omega (arith, length-append names.texts (text ∷ []));
      })

  pub few_terms : (name : TermsName) → MayNameTerms roster names name.space name.terms → terms_number names name.space name.terms ≡ None → (length names.terms < 64 * length roster.requests) × ((length names.nonces < 16 * length roster.requests) ⊎ IsTrue (is_some (numbered names.nonces (nonce_for names name.space name.terms))))
  few_terms name (inl few) none = few
  few_terms name (inr found) none = absurd (false≢true (sym (ap is_some none) ∙ found))

  pub IsKept-terms : (caller : ℕ) (name : TermsName) → IsTrue (is_home names name.space name.terms) → MayNameTerms roster names name.space name.terms → terms_number names name.space name.terms ≡ None → name.nonce ≡ nonce_for names name.space name.terms → IsKept roster (with_terms names name) (made ++ record { kind = OfTerms; number = length names.terms + 1; caller = caller; before = length entries } ∷ []) entries
  IsKept-terms caller name home may none is =
      let few = few_terms name may none in
      let few_here = few.0 in
      IsKept-name (with_terms names name) (record { kind = OfTerms; number = length names.terms + 1; caller = caller; before = length entries }) (TermsNamed caller name)
      (extends_by_terms names name) (ap (option_map (λ n. TermsNamed caller n)) (numbered-last names.terms name)) refl refl
      (AreNames-terms names name kept.are_names home none is)
      (record {
        spaces = kept.within.spaces;
        terms = omega (arith, length-append names.terms (name ∷ []), few_here);
        nonces = elim few.1 [
          | inl room ↦ (let more = (length-with_nonce names name home is).0 in let room' = room in omega arith)
          | inr found ↦ (let same = (length-with_nonce names name home is).1 found in let before = kept.within.nonces in omega arith)
        ];
        texts = kept.within.texts;
      })

name_of_parts : (kind : NameKind) (n n' caller b b' : ℕ) → n ≡ n' → b ≡ b' → ◌≡◌ {A = NewName} (record { kind = kind; number = n; caller = caller; before = b }) (record { kind = kind; number = n'; caller = caller; before = b' })
name_of_parts kind n n' caller b b' same_n same_b = cc

module _ (roster : Roster) (names : Tables) (made : List NewName) (entries : List Entry) (more : Tables) (more_made : List NewName) (caller number before : ℕ) where
  pub kept_with_space : (space : ProtectionSpace) → IsKept roster names made entries → IsTrue (has_realm space.scheme space.realm) → MayNameSpace roster names space → space_number names space ≡ None → more ≡ with_space names space → number ≡ length more.spaces → before ≡ length entries → more_made ≡ made ++ record { kind = OfSpace; number = number; caller = caller; before = before } ∷ [] → IsKept roster more more_made entries
  kept_with_space space kept fit may none is count place grown =
      let number_is : number ≡ length names.spaces + 1 = count ∙ (ap (λ (t : Tables). length t.spaces) is ∙ length-append names.spaces (space ∷ [])) in
      let grown' = grown ∙ ap (λ name. made ++ name ∷ []) (name_of_parts OfSpace number (length names.spaces + 1) caller before (length entries) number_is place) in
      subst (λ t. IsKept roster t more_made entries) (sym is) (subst (λ ms. IsKept roster (with_space names space) ms entries) (sym grown') (IsKept-space roster names made entries kept caller space fit may none))

  pub told_with_space : (space : ProtectionSpace) → IsKept roster names made entries → space_number names space ≡ None → more ≡ with_space names space → number ≡ length more.spaces → before ≡ length entries → more_made ≡ made ++ record { kind = OfSpace; number = number; caller = caller; before = before } ∷ [] → told_of more more_made entries ≡ told_space caller names (told_of names made entries) space
  told_with_space space kept none is count place grown =
      let name : NewName = record { kind = OfSpace; number = number; caller = caller; before = before } in
      let number_is : number ≡ length names.spaces + 1 = count ∙ (ap (λ (t : Tables). length t.spaces) is ∙ length-append names.spaces (space ∷ [])) in
      let told : name_told (with_space names space) name ≡ Some (SpaceNamed caller space) = ap (option_map (λ s. SpaceNamed caller s)) (ap (numbered (names.spaces ++ space ∷ [])) number_is ∙ numbered-last names.spaces space) in
      ap (λ ms. told_of more ms entries) grown
      ∙ (ap (λ t. told_of t (made ++ name ∷ []) entries) is
      ∙ (weave_named names (with_space names space) (extends_by_space names space) made entries name (SpaceNamed caller space) kept.named place told
      ∙ sym (ap (λ (o : Option ℕ). cond (is_some o) (told_of names made entries) (told_of names made entries ++ SpaceNamed caller space ∷ [])) none)))

  pub kept_with_text : (text : Login) → IsKept roster names made entries → length names.texts < 64 * length roster.requests → more ≡ with_text names text → number ≡ length more.texts → before ≡ length entries → more_made ≡ made ++ record { kind = OfText; number = number; caller = caller; before = before } ∷ [] → IsKept roster more more_made entries
  kept_with_text text kept few is count place grown =
      let number_is : number ≡ length names.texts + 1 = count ∙ (ap (λ (t : Tables). length t.texts) is ∙ length-append names.texts (text ∷ [])) in
      let grown' = grown ∙ ap (λ name. made ++ name ∷ []) (name_of_parts OfText number (length names.texts + 1) caller before (length entries) number_is place) in
      subst (λ t. IsKept roster t more_made entries) (sym is) (subst (λ ms. IsKept roster (with_text names text) ms entries) (sym grown') (IsKept-text roster names made entries kept caller text few))

  pub told_with_text : (text : Login) → IsKept roster names made entries → more ≡ with_text names text → number ≡ length more.texts → before ≡ length entries → more_made ≡ made ++ record { kind = OfText; number = number; caller = caller; before = before } ∷ [] → told_of more more_made entries ≡ told_of names made entries ++ TextNamed caller text ∷ []
  told_with_text text kept is count place grown =
      let name : NewName = record { kind = OfText; number = number; caller = caller; before = before } in
      let number_is : number ≡ length names.texts + 1 = count ∙ (ap (λ (t : Tables). length t.texts) is ∙ length-append names.texts (text ∷ [])) in
      let told : name_told (with_text names text) name ≡ Some (TextNamed caller text) = ap (option_map (λ t. TextNamed caller t)) (ap (numbered (names.texts ++ text ∷ [])) number_is ∙ numbered-last names.texts text) in
      ap (λ ms. told_of more ms entries) grown
      ∙ (ap (λ t. told_of t (made ++ name ∷ []) entries) is
      ∙ weave_named names (with_text names text) (extends_by_text names text) made entries name (TextNamed caller text) kept.named place told)

  pub kept_with_terms : (one : TermsName) → IsKept roster names made entries → IsTrue (is_home names one.space one.terms) → MayNameTerms roster names one.space one.terms → terms_number names one.space one.terms ≡ None → one.nonce ≡ nonce_for names one.space one.terms → more ≡ with_terms names one → number ≡ length more.terms → before ≡ length entries → more_made ≡ made ++ record { kind = OfTerms; number = number; caller = caller; before = before } ∷ [] → IsKept roster more more_made entries
  kept_with_terms one kept home may none nonce is count place grown =
      let number_is : number ≡ length names.terms + 1 = count ∙ (ap (λ (t : Tables). length t.terms) is ∙ length-append names.terms (one ∷ [])) in
      let grown' = grown ∙ ap (λ name. made ++ name ∷ []) (name_of_parts OfTerms number (length names.terms + 1) caller before (length entries) number_is place) in
      subst (λ t. IsKept roster t more_made entries) (sym is) (subst (λ ms. IsKept roster (with_terms names one) ms entries) (sym grown') (IsKept-terms roster names made entries kept caller one home may none nonce))

  pub told_with_terms : (one : TermsName) → IsKept roster names made entries → terms_number names one.space one.terms ≡ None → one.nonce ≡ nonce_for names one.space one.terms → more ≡ with_terms names one → number ≡ length more.terms → before ≡ length entries → more_made ≡ made ++ record { kind = OfTerms; number = number; caller = caller; before = before } ∷ [] → told_of more more_made entries ≡ told_terms caller names (told_of names made entries) one.space one.terms
  told_with_terms one kept none nonce is count place grown =
      let name : NewName = record { kind = OfTerms; number = number; caller = caller; before = before } in
      let number_is : number ≡ length names.terms + 1 = count ∙ (ap (λ (t : Tables). length t.terms) is ∙ length-append names.terms (one ∷ [])) in
      let told : name_told (with_terms names one) name ≡ Some (TermsNamed caller one) = ap (option_map (λ t. TermsNamed caller t)) (ap (numbered (names.terms ++ one ∷ [])) number_is ∙ numbered-last names.terms one) in
      let item : TermsName = record { space = one.space; terms = one.terms; nonce = nonce_for names one.space one.terms } in
      ap (λ ms. told_of more ms entries) grown
      ∙ (ap (λ t. told_of t (made ++ name ∷ []) entries) is
      ∙ (weave_named names (with_terms names one) (extends_by_terms names one) made entries name (TermsNamed caller one) kept.named place told
      ∙ (ap (λ n. told_of names made entries ++ TermsNamed caller (record { space = one.space; terms = one.terms; nonce = n }) ∷ []) nonce
      ∙ sym (ap (λ (o : Option ℕ). cond (is_some o) (told_of names made entries) (told_of names made entries ++ TermsNamed caller item ∷ [])) none))))
