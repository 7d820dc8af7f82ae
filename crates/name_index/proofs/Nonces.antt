-- Maps that know the nonces of a book, and one nonce more.
use Rattle.std.proofs.Common.{◌≡◌, ◌∙◌, ℕ, ◌+◌, ◌<◌, ◌≤◌, Bool, true, false, ◌&&◌, cond, List, [], ◌∷◌, ◌++◌, length, Option, Some, None, refl, ap, sym, subst, arith, bytes_eq, BTreeMap}
use Rattle.std.specs.Prelude.{IsTrue, is_some, nat_le, option_map, unwrap_or}
use Rattle.std.specs.BTreeMap.{Updates, get}
use Rattle.std.specs.List.{cons_option}
use Rattle.std.specs.Ordering.{is_eq}
use Rattle.std.proofs.lemmas.Bool.Decides.{nat_tests}
use Rattle.spaces.specs.ProtectionSpaces.{ProtectionSpace}
use Rattle.spaces.specs.Sites.{numbered, same_site}
use Rattle.spaces.specs.declared.site.Site.{Site}
use Rattle.spaces.specs.declared.terms.Terms.{Terms}
use Rattle.auth_events.specs.declared.names.NonceName.{NonceName}
use Rattle.auth_events.specs.declared.names.TermsName.{TermsName}
use Rattle.auth_events.specs.Tables.{Tables, is_that_nonce, nonce_for, nonce_named, nonce_number, number_of, with_nonce}
use Rattle.auth_events.proofs.Numbers.{and_left, and_right, both, first_numbered, numbered_in}
use Rattle.auth_events.proofs.Same.{bytes_refl, bytes_same, site_refl, site_same}
use Rattle.space_keys.specs.Keys.{IsKeyOfSite}
use Rattle.name_index.specs.declared.nonce_key.NonceKey.{NonceKey}
use Rattle.name_index.specs.NonceKeys.{IsKeyOfNonce, nonce_cmp}
use Rattle.name_index.specs.Found.{KnowsNonces, checked}
use Rattle.name_index.proofs.NonceKeyLemmas.{same_nonce_keys}
use Rattle.name_index.proofs.FoundLemmas.{found_is, grown, noted}

abbrev pub is_asked_nonce : Site × List ℕ → NonceName → Bool
is_asked_nonce asked named = is_that_nonce asked.0 asked.1 named

asked_of_parts : (s t : Site) (x y : List ℕ) → s ≡ t → x ≡ y → ◌≡◌ {A = Site × List ℕ} (s, x) (t, y)
asked_of_parts s t x y same_s same_x = cc

same_asked : (x y : Site × List ℕ) → IsTrue (same_site x.0 y.0 && bytes_eq x.1 y.1) → x ≡ y
same_asked x y same =
    asked_of_parts x.0 y.0 x.1 y.1 (site_same x.0 y.0 (and_left (same_site x.0 y.0) (bytes_eq x.1 y.1) same)) (bytes_same x.1 y.1 (and_right (same_site x.0 y.0) (bytes_eq x.1 y.1) same))

one_nonce : (a b : NonceKey) (x y : Site × List ℕ) → IsKeyOfNonce a x → IsKeyOfNonce b y → is_eq (nonce_cmp a b) ≡ true → x ≡ y
one_nonce a b x y of_x of_y same = same_asked x y (sym (same_nonce_keys a b x y of_x of_y) ∙ same)

one_nonce_key : (a b : NonceKey) (x : Site × List ℕ) → IsKeyOfNonce a x → IsKeyOfNonce b x → is_eq (nonce_cmp a b) ≡ true
one_nonce_key a b x of_a of_b = same_nonce_keys a b x x of_a of_b ∙ both (same_site x.0 x.0) (bytes_eq x.1 x.1) (site_refl x.0) (bytes_refl x.1)

-- a key of what is written otherwise
pub key_of_same : (key : NonceKey) (s t : Site) (x y : List ℕ) → s ≡ t → x ≡ y → IsKeyOfNonce key (s, x) → IsKeyOfNonce key (t, y)
key_of_same key s t x y same_s same_x of_it = (subst (IsKeyOfSite key.site) same_s of_it.0, of_it.1 ∙ same_x)

-- WHAT IS READ

pub nonce_found : (map : BTreeMap NonceKey ℕ) (names : Tables) (key : NonceKey) (asked : Site × List ℕ) → KnowsNonces map names.nonces → IsKeyOfNonce key asked
    → checked (is_asked_nonce asked) names.nonces (get nonce_cmp map key) ≡ number_of (is_asked_nonce asked) names.nonces
nonce_found map names key asked knows of_it = found_is nonce_cmp IsKeyOfNonce is_asked_nonce map names.nonces key asked knows of_it

pub nonce_for_named : (names : Tables) (s : ℕ) (terms : Terms) (space : ProtectionSpace) → numbered names.spaces s ≡ Some space → nonce_for names s terms ≡ nonce_number names space.site terms.nonce
nonce_for_named names s terms space at = ap (λ (o : Option ProtectionSpace). unwrap_or (option_map (λ (one : ProtectionSpace). nonce_number names one.site terms.nonce) o) 0) at

pub nonce_for_none : (names : Tables) (s : ℕ) (terms : Terms) → numbered names.spaces s ≡ None → nonce_for names s terms ≡ 0
nonce_for_none names s terms at = ap (λ (o : Option ProtectionSpace). unwrap_or (option_map (λ (one : ProtectionSpace). nonce_number names one.site terms.nonce) o) 0) at

-- THE NEXT NONCE

-- with terms whose nonce has its number already
pub no_more : (names : Tables) (name : TermsName) → name.nonce ≤ length names.nonces → with_nonce names name ≡ names.nonces
no_more names name old =
    let le : nat_le name.nonce (length names.nonces) ≡ true = grind (arith, nat_tests) in
    ap (λ b. cond b names.nonces (names.nonces ++ cons_option (nonce_named names name) [])) le

-- what is known of the nonce of terms, where its number is new
pub record IsNext (names : Tables) (name : TermsName) (site : Site) : Type 0 where
  pub unknown : number_of (is_that_nonce site name.terms.nonce) names.nonces ≡ None
  pub next : name.nonce ≡ length names.nonces + 1
  pub more : with_nonce names name ≡ names.nonces ++ record { site = site; text = name.terms.nonce } ∷ []

pub is_next : (names : Tables) (name : TermsName) (space : ProtectionSpace) → numbered names.spaces name.space ≡ Some space → name.nonce ≡ nonce_for names name.space name.terms → length names.nonces < name.nonce → IsNext names name space.site
is_next names name space at is above = by (number_of test names.nonces) refl
  where
    test : NonceName → Bool
    test = is_that_nonce space.site name.terms.nonce

    number : name.nonce ≡ nonce_number names space.site name.terms.nonce
    number = is ∙ nonce_for_named names name.space name.terms space at

    new : nat_le name.nonce (length names.nonces) ≡ false
    new = grind (arith, nat_tests)

    named : nonce_named names name ≡ Some (record { site = space.site; text = name.terms.nonce })
    named = ap (option_map (λ (one : ProtectionSpace). record { site = one.site; text = name.terms.nonce })) at

    by : (o : Option ℕ) → number_of test names.nonces ≡ o → IsNext names name space.site
    by (Some k) found =
        let there = first_numbered test names.nonces k found in
        let range = numbered_in names.nonces k (ap is_some there.is_there) in
        let same : name.nonce ≡ k = number ∙ ap (λ (o : Option ℕ). unwrap_or o (length names.nonces + 1)) found in
        absurd (omega (arith, range.1, same, above))
    by None none = record {
      unknown = none;
      next = number ∙ ap (λ (o : Option ℕ). unwrap_or o (length names.nonces + 1)) none;
      more = ap (λ b. cond b names.nonces (names.nonces ++ cons_option (nonce_named names name) [])) new ∙ ap (λ o. names.nonces ++ cons_option o []) named;
    }

module _ (old new : BTreeMap NonceKey ℕ) (names : Tables) (key : NonceKey) (asked : Site × List ℕ) (n : ℕ) (knows : KnowsNonces old names.nonces) (unknown : number_of (is_asked_nonce asked) names.nonces ≡ None) (of_it : IsKeyOfNonce key asked) (updates : Updates nonce_cmp old new key (Some n)) where
  pub nonce_noted : KnowsNonces new names.nonces
  nonce_noted = noted nonce_cmp IsKeyOfNonce is_asked_nonce one_nonce old new names.nonces key asked n knows unknown of_it updates

  pub nonce_more : n ≡ length names.nonces + 1 → KnowsNonces new (names.nonces ++ record { site = asked.0; text = asked.1 } ∷ [])
  nonce_more next =
      grown nonce_cmp IsKeyOfNonce is_asked_nonce one_nonce old new names.nonces key asked n knows unknown of_it updates one_nonce_key (record { site = asked.0; text = asked.1 })
      (λ x same. sym (same_asked asked x same)) next
