-- Maps that know the names of a book, and one name more.
use Rattle.std.proofs.Common.{◌≡◌, ◌∙◌, ℕ, ◌+◌, ◌==◌, Bool, true, ◌&&◌, List, length, Option, Some, None, sym, BTreeMap}
use Rattle.std.specs.Prelude.{IsTrue}
use Rattle.std.specs.BTreeMap.{Updates, get}
use Rattle.std.specs.Coded.{Coded, Coded-set, codes}
use Rattle.std.specs.Ordering.{is_eq}
use Rattle.std.specs.declared.cmp.Ordering.{Ordering}
use Rattle.spaces.specs.ProtectionSpaces.{ProtectionSpace}
use Rattle.spaces.specs.Sites.{same_space}
use Rattle.spaces.specs.DigestTerms.{same_terms}
use Rattle.spaces.specs.declared.terms.Terms.{Terms}
use Rattle.auth_events.specs.declared.names.TermsName.{TermsName}
use Rattle.auth_events.specs.Tables.{Tables, is_that_terms, space_number, terms_number, with_space, with_terms}
use Rattle.auth_events.proofs.Numbers.{and_left, and_right, both}
use Rattle.auth_events.proofs.Same.{number_refl, number_same, space_refl, space_same, terms_refl, terms_same}
use Rattle.space_keys.specs.declared.keys.SpaceKey.{SpaceKey}
use Rattle.space_keys.specs.Keys.{IsKeyOfSite, IsKeyOfSpace, site_cmp, space_cmp}
use Rattle.space_keys.proofs.KeyLemmas.{same_space_keys}
use Rattle.name_index.specs.declared.terms_key.TermsKey.{TermsKey}
use Rattle.name_index.specs.TermsKeys.{IsKeyOfTerms, terms_cmp}
use Rattle.name_index.specs.declared.index.NameIndex.{NameIndex}
use Rattle.name_index.specs.Found.{Finds, KnowsNames, checked}
use Rattle.name_index.proofs.TermsKeyLemmas.{same_terms_keys}
use Rattle.name_index.specs.NonceKeys.{IsKeyOfNonce, nonce_cmp}
use Rattle.name_index.proofs.FoundLemmas.{found_is, grown, noted}
use Rattle.name_index.proofs.Sites.{is_of_that_site}
use Rattle.name_index.proofs.Nonces.{is_asked_nonce}

-- SPACES

abbrev pub is_that_space : ProtectionSpace → ProtectionSpace → Bool
is_that_space space named = same_space named space

abbrev pub FindsSpaces : BTreeMap SpaceKey ℕ → Tables → Type 0
FindsSpaces map names = Finds space_cmp IsKeyOfSpace is_that_space map names.spaces

one_space : (a b : SpaceKey) (s t : ProtectionSpace) → IsKeyOfSpace a s → IsKeyOfSpace b t → is_eq (space_cmp a b) ≡ true → s ≡ t
one_space a b s t of_s of_t same = space_same s t (sym (same_space_keys a b s t of_s of_t) ∙ same)

one_space_key : (a b : SpaceKey) (s : ProtectionSpace) → IsKeyOfSpace a s → IsKeyOfSpace b s → is_eq (space_cmp a b) ≡ true
one_space_key a b s of_a of_b = same_space_keys a b s s of_a of_b ∙ space_refl s

pub space_found : (map : BTreeMap SpaceKey ℕ) (names : Tables) (key : SpaceKey) (space : ProtectionSpace) → FindsSpaces map names → IsKeyOfSpace key space
    → checked (is_that_space space) names.spaces (get space_cmp map key) ≡ space_number names space
space_found map names key space finds of_it = found_is space_cmp IsKeyOfSpace is_that_space map names.spaces key space finds of_it

module _ (old new : BTreeMap SpaceKey ℕ) (names : Tables) (key : SpaceKey) (space : ProtectionSpace) (n : ℕ) (finds : FindsSpaces old names) (unknown : space_number names space ≡ None) (of_it : IsKeyOfSpace key space) (updates : Updates space_cmp old new key (Some n)) where
  pub space_noted : FindsSpaces new names
  space_noted = noted space_cmp IsKeyOfSpace is_that_space one_space old new names.spaces key space n finds unknown of_it updates

  pub space_more : n ≡ length names.spaces + 1 → FindsSpaces new (with_space names space)
  space_more next =
      grown space_cmp IsKeyOfSpace is_that_space one_space old new names.spaces key space n finds unknown of_it updates one_space_key space
      (λ x same. sym (space_same space x same)) next

-- TERMS

abbrev pub are_those_terms : ℕ × Terms → TermsName → Bool
are_those_terms asked named = is_that_terms asked.0 asked.1 named

abbrev pub FindsTerms : BTreeMap TermsKey ℕ → Tables → Type 0
FindsTerms map names = Finds terms_cmp IsKeyOfTerms are_those_terms map names.terms

pair_of_parts : (s t : ℕ) (x y : Terms) → s ≡ t → x ≡ y → ◌≡◌ {A = ℕ × Terms} (s, x) (t, y)
pair_of_parts s t x y same_s same_x = cc

same_pair : (x y : ℕ × Terms) → IsTrue ((x.0 == y.0) && same_terms x.1 y.1) → x ≡ y
same_pair x y same =
    pair_of_parts x.0 y.0 x.1 y.1 (number_same x.0 y.0 (and_left (x.0 == y.0) (same_terms x.1 y.1) same)) (terms_same x.1 y.1 (and_right (x.0 == y.0) (same_terms x.1 y.1) same))

one_terms : (a b : TermsKey) (x y : ℕ × Terms) → IsKeyOfTerms a x → IsKeyOfTerms b y → is_eq (terms_cmp a b) ≡ true → x ≡ y
one_terms a b x y of_x of_y same = same_pair x y (sym (same_terms_keys a b x y of_x of_y) ∙ same)

one_terms_key : (a b : TermsKey) (x : ℕ × Terms) → IsKeyOfTerms a x → IsKeyOfTerms b x → is_eq (terms_cmp a b) ≡ true
one_terms_key a b x of_a of_b = same_terms_keys a b x x of_a of_b ∙ both (x.0 == x.0) (same_terms x.1 x.1) (number_refl x.0) (terms_refl x.1)

pub terms_found : (map : BTreeMap TermsKey ℕ) (names : Tables) (key : TermsKey) (asked : ℕ × Terms) → FindsTerms map names → IsKeyOfTerms key asked
    → checked (are_those_terms asked) names.terms (get terms_cmp map key) ≡ terms_number names asked.0 asked.1
terms_found map names key asked finds of_it = found_is terms_cmp IsKeyOfTerms are_those_terms map names.terms key asked finds of_it

module _ (old new : BTreeMap TermsKey ℕ) (names : Tables) (key : TermsKey) (asked : ℕ × Terms) (n : ℕ) (finds : FindsTerms old names) (unknown : terms_number names asked.0 asked.1 ≡ None) (of_it : IsKeyOfTerms key asked) (updates : Updates terms_cmp old new key (Some n)) where
  pub terms_noted : FindsTerms new names
  terms_noted = noted terms_cmp IsKeyOfTerms are_those_terms one_terms old new names.terms key asked n finds unknown of_it updates

  pub terms_more : (nonce : ℕ) → n ≡ length names.terms + 1 → FindsTerms new (with_terms names (record { space = asked.0; terms = asked.1; nonce = nonce }))
  terms_more nonce next =
      grown terms_cmp IsKeyOfTerms are_those_terms one_terms old new names.terms key asked n finds unknown of_it updates one_terms_key (record { space = asked.0; terms = asked.1; nonce = nonce })
      (λ x same. sym (same_pair asked x same)) next

-- ONE PROOF AT MOST

code_of_number : Coded (Option ℕ)
code_of_number = Prim.hlevel codes

finds-prop : {K A X : Type 0} (cmp : K → K → Ordering) (IsKeyOf : K → A → Type 0) (test : A → X → Bool) (map : BTreeMap K ℕ) (things : List X) → IsProp (Finds cmp IsKeyOf test map things)
finds-prop cmp IsKeyOf test map things f g = λ i key asked n of_it found. Coded-set code_of_number (get cmp map key) (Some n) (f key asked n of_it found) (g key asked n of_it found) i

pub KnowsNames-prop : (index : NameIndex) (names : Tables) → IsProp (KnowsNames index names)
KnowsNames-prop index names f g = λ i. (
  finds-prop space_cmp IsKeyOfSpace is_that_space index.spaces names.spaces f.0 g.0 i,
  finds-prop terms_cmp IsKeyOfTerms are_those_terms index.terms names.terms f.1 g.1 i,
  finds-prop site_cmp IsKeyOfSite is_of_that_site index.sites names.spaces f.2 g.2 i,
  finds-prop nonce_cmp IsKeyOfNonce is_asked_nonce index.nonces names.nonces f.3 g.3 i,
)
