-- What names keep when a space, terms or a text is named.
use Rattle.std.proofs.Common.{◌≡◌, ℕ, ◌+◌, ◌*◌, ◌<◌, ◌≤◌, Bool, true, false, ◌&&◌, cond, List, [], ◌∷◌, ◌++◌, length, refl, ap, sym, subst, ◌∙◌, inl, inr, ◌⊎◌, arith, Option, Some, None, length-append}
use Rattle.std.specs.Prelude.{IsTrue, ◌==◌, bytes_eq, map, reverse, nat_le, option_map, unwrap_or, is_some}
use Rattle.std.specs.List.{cons_option}
use Rattle.std.proofs.lemmas.List.{reverse-append, map-append}
use Rattle.std.proofs.lemmas.Bool.Decides.{nat_tests}
use Rattle.std.proofs.lemmas.Bool.{false≢true}
use Rattle.auth_text.specs.Login.{Login}
use Rattle.spaces.specs.declared.site.Site.{Site}
use Rattle.spaces.specs.declared.terms.Terms.{Terms}
use Rattle.spaces.specs.declared.space.Scheme.TheVariants.{Digest}
use Rattle.spaces.specs.ProtectionSpaces.{ProtectionSpace, has_realm}
use Rattle.spaces.specs.DigestTerms.{same_terms}
use Rattle.spaces.specs.Sites.{numbered, same_scheme, same_site, same_space}
use Rattle.auth_events.specs.declared.names.TermsName.{TermsName}
use Rattle.auth_events.specs.declared.names.NonceName.{NonceName}
use Rattle.auth_events.specs.Tables.{Tables, no_names, number_of, space_number, is_that_terms, terms_number, is_that_nonce, nonce_number, nonce_for, nonce_named, is_home, with_space, with_nonce, with_terms, with_text, larger, greatest, is_rising, nonce_numbers, IsNumberedOnce, AreAtHome, AreNames, AreFew}
use Rattle.auth_events.proofs.Numbers.{some_of_test, both, numbered_in, none_named, numbered-append, numbered-last, numbered-push, once_nil, once-push, none_numbered, first_numbered}
use Rattle.auth_events.proofs.Same.{site_same, site_refl, space_refl, space_same, terms_refl, terms_same, bytes_same, bytes_refl, number_same, number_refl}
use Rattle.auth_events.proofs.Numbers.{and_left, and_right}

pub AreNames-none : AreNames no_names
AreNames-none = record {
  spaces = once_nil;
  terms = λ a b i j at_i at_j space terms. absurd (none_named i a at_i);
  home = λ name i at. absurd (none_named i name at);
  nonces = once_nil;
  rising = refl;
  used = refl;
  realms = λ space i at. absurd (none_named i space at);
}

-- a space that has no number isn't named
pub unnamed_space : (names : Tables) (space : ProtectionSpace) → space_number names space ≡ None → (n : ℕ) → numbered names.spaces n ≡ Some space → ⊥
unnamed_space names space none n at = false≢true (sym (none_numbered (λ named. same_space named space) names.spaces none n space at) ∙ space_refl space)

-- a number that was found is the space's
pub named_space : (names : Tables) (space : ProtectionSpace) (n : ℕ) → space_number names space ≡ Some n → numbered names.spaces n ≡ Some space
named_space names space n found =
    let at = first_numbered (λ named. same_space named space) names.spaces n found in
    at.is_there ∙ ap Some (space_same at.thing space at.passes)

home-same : (names : Tables) (space : ProtectionSpace) (name : TermsName) → AreAtHome names name → AreAtHome (with_space names space) name
home-same names space name at =
    let same : numbered (names.spaces ++ space ∷ []) name.space ≡ numbered names.spaces name.space = numbered-append names.spaces (space ∷ []) name.space (some_of_test _ _ at.home) in
    record {
      home = ap (λ (o : Option ProtectionSpace). unwrap_or (option_map (λ s. same_scheme s.scheme Digest && bytes_eq s.realm name.terms.realm) o) false) same ∙ at.home;
      nonce = at.nonce ∙ sym (ap (option_map (λ (s : ProtectionSpace). record { site = s.site; text = name.terms.nonce })) same);
    }

pub AreNames-space : (names : Tables) (space : ProtectionSpace) → AreNames names → IsTrue (has_realm space.scheme space.realm) → space_number names space ≡ None → AreNames (with_space names space)
AreNames-space names space kept fit none = record {
  spaces = once-push names.spaces space kept.spaces (unnamed_space names space none);
  terms = kept.terms;
  home = λ name i at. home-same names space name (kept.home name i at);
  nonces = kept.nonces;
  rising = kept.rising;
  used = kept.used;
  realms = λ other i at. elim (numbered-push names.spaces space other i at) [
    | inl old ↦ kept.realms other i old
    | inr new ↦ subst (λ (s : ProtectionSpace). IsTrue (has_realm s.scheme s.realm)) new.1 fit
  ];
}

pub AreNames-text : (names : Tables) (text : Login) → AreNames names → AreNames (with_text names text)
AreNames-text names text kept = record {
  spaces = kept.spaces;
  terms = kept.terms;
  home = λ name i at. record { home = (kept.home name i at).home; nonce = (kept.home name i at).nonce };
  nonces = kept.nonces;
  rising = kept.rising;
  used = kept.used;
  realms = kept.realms;
}

nonce_of_parts : (s s' : Site) (t t' : List ℕ) → s ≡ s' → t ≡ t' → ◌≡◌ {A = NonceName} (record { site = s; text = t }) (record { site = s'; text = t' })
nonce_of_parts s s' t t' same_s same_t = cc

-- what is known of the nonce of terms that are to be named
record IsKnown (names : Tables) (name : TermsName) (nonce : NonceName) : Type 0 where
  old : numbered names.nonces name.nonce ≡ Some nonce
  range : (1 ≤ name.nonce) × (name.nonce ≤ length names.nonces)
  same : with_nonce names name ≡ names.nonces

record IsNew (names : Tables) (name : TermsName) (nonce : NonceName) : Type 0 where
  next : name.nonce ≡ length names.nonces + 1
  fresh : (n : ℕ) → numbered names.nonces n ≡ Some nonce → ⊥
  more : with_nonce names name ≡ names.nonces ++ nonce ∷ []

le_true : (a b : ℕ) → a ≤ b → nat_le a b ≡ true
le_true a b le = grind (arith, nat_tests)

le_false : (a b : ℕ) → b < a → nat_le a b ≡ false
le_false a b lt = grind (arith, nat_tests)

known_or_new : (names : Tables) (name : TermsName) (space : ProtectionSpace) → numbered names.spaces name.space ≡ Some space → name.nonce ≡ nonce_number names space.site name.terms.nonce → IsKnown names name (record { site = space.site; text = name.terms.nonce }) ⊎ IsNew names name (record { site = space.site; text = name.terms.nonce })
known_or_new names name space at is = by (number_of test names.nonces) refl
  where
    test : NonceName → Bool
    test = is_that_nonce space.site name.terms.nonce

    nonce : NonceName
    nonce = record { site = space.site; text = name.terms.nonce }

    named : nonce_named names name ≡ Some nonce
    named = ap (option_map (λ (s : ProtectionSpace). record { site = s.site; text = name.terms.nonce })) at

    by : (o : Option ℕ) → number_of test names.nonces ≡ o → IsKnown names name nonce ⊎ IsNew names name nonce
    by (Some k) found =
        let number : name.nonce ≡ k = is ∙ ap (λ (o : Option ℕ). unwrap_or o (length names.nonces + 1)) found in
        let there = first_numbered test names.nonces k found in
        let thing : NonceName = there.thing in
        let equal : thing ≡ nonce =
        nonce_of_parts thing.site space.site thing.text name.terms.nonce
        (site_same thing.site space.site (and_left (same_site thing.site space.site) (bytes_eq thing.text name.terms.nonce) there.passes))
        (bytes_same thing.text name.terms.nonce (and_right (same_site thing.site space.site) (bytes_eq thing.text name.terms.nonce) there.passes)) in
        let old : numbered names.nonces name.nonce ≡ Some nonce = ap (numbered names.nonces) number ∙ (there.is_there ∙ ap Some equal) in
        let range = numbered_in names.nonces name.nonce (ap is_some old) in
        let le = le_true name.nonce (length names.nonces) range.1 in
        inl (record {
          old = old;
          range = range;
          same = ap (λ b. cond b names.nonces (names.nonces ++ cons_option (nonce_named names name) [])) le;
        })
    by None none =
        let next : name.nonce ≡ length names.nonces + 1 = is ∙ ap (λ (o : Option ℕ). unwrap_or o (length names.nonces + 1)) none in
        let gt = le_false name.nonce (length names.nonces) (omega arith) in
        inr (record {
          next = next;
          fresh = λ n there. false≢true (sym (none_numbered test names.nonces none n nonce there) ∙ both (same_site space.site space.site) (bytes_eq name.terms.nonce name.terms.nonce) (site_refl space.site) (bytes_refl name.terms.nonce));
          more = ap (λ b. cond b names.nonces (names.nonces ++ cons_option (nonce_named names name) [])) gt ∙ ap (λ o. names.nonces ++ cons_option o []) named;
        })

-- terms that have no number aren't named
unnamed_terms : (names : Tables) (name a : TermsName) (n : ℕ) → terms_number names name.space name.terms ≡ None → numbered names.terms n ≡ Some a → a.space ≡ name.space → a.terms ≡ name.terms → ⊥
unnamed_terms names name a n none at same_space same_terms' =
    let passes : IsTrue (is_that_terms name.space name.terms a) =
    both (a.space == name.space) (same_terms a.terms name.terms)
    (subst (λ s. IsTrue (a.space == s)) same_space (number_refl a.space))
    (subst (λ t. IsTrue (same_terms a.terms t)) same_terms' (terms_refl a.terms)) in
    false≢true (sym (none_numbered (is_that_terms name.space name.terms) names.terms none n a at) ∙ passes)

-- a number that was found is that of the terms
pub named_terms : (names : Tables) (s : ℕ) (terms : Terms) (n : ℕ) → terms_number names s terms ≡ Some n → (name : TermsName) × (numbered names.terms n ≡ Some name) × (name.space ≡ s) × (name.terms ≡ terms)
named_terms names s terms n found =
    let at = first_numbered (is_that_terms s terms) names.terms n found in
    let name : TermsName = at.thing in
    (name, at.is_there, number_same name.space s (and_left (name.space == s) (same_terms name.terms terms) at.passes), terms_same name.terms terms (and_right (name.space == s) (same_terms name.terms terms) at.passes))

nonce_numbers-push : (terms : List TermsName) (name : TermsName) → nonce_numbers (terms ++ name ∷ []) ≡ name.nonce ∷ nonce_numbers terms
nonce_numbers-push terms name =
    ap reverse (map-append (λ (n : TermsName). n.nonce) terms (name ∷ [])) ∙ reverse-append (map (λ (n : TermsName). n.nonce) terms) (name.nonce ∷ [])

rising-push : (n : ℕ) (earlier : List ℕ) (top : ℕ) → greatest earlier ≡ top → 1 ≤ n → n ≤ top + 1 → IsTrue (is_rising earlier) → IsTrue (is_rising (n ∷ earlier))
rising-push n earlier top is low high rising =
    both (nat_le 1 n && nat_le n (greatest earlier + 1)) (is_rising earlier)
    (both (nat_le 1 n) (nat_le n (greatest earlier + 1)) (le_true 1 n low) (le_true n (greatest earlier + 1) (omega arith))) rising

larger-left : (a b : ℕ) → b < a → larger a b ≡ a
larger-left a b lt = ap (λ c. cond c b a) (le_false a b lt)

larger-right : (a b : ℕ) → a ≤ b → larger a b ≡ b
larger-right a b le = ap (λ c. cond c b a) (le_true a b le)

at_home-more : (names : Tables) (name a : TermsName) (nonces : List NonceName) → (n : NonceName) → nonces ≡ names.nonces ++ n ∷ [] → AreAtHome names a → numbered nonces a.nonce ≡ nonce_named names a
at_home-more names name a nonces n more at =
    let named : IsTrue (is_some (nonce_named names a)) = some_nonce (numbered names.spaces a.space) (some_of_test _ _ at.home) in
    ap (λ ns. numbered ns a.nonce) more ∙ (numbered-append names.nonces (n ∷ []) a.nonce (ap is_some at.nonce ∙ named) ∙ at.nonce)
  where
    some_nonce : (o : Option ProtectionSpace) → IsTrue (is_some o) → IsTrue (is_some {T = NonceName} (option_map (λ (s : ProtectionSpace). record { site = s.site; text = a.terms.nonce }) o))
    some_nonce None some = absurd (false≢true some)
    some_nonce (Some s) some = refl

module _ (names : Tables) (name : TermsName) (kept : AreNames names) (home : IsTrue (is_home names name.space name.terms)) (none : terms_number names name.space name.terms ≡ None) where
  terms_once : (a b : TermsName) (i j : ℕ) → numbered (names.terms ++ name ∷ []) i ≡ Some a → numbered (names.terms ++ name ∷ []) j ≡ Some b → a.space ≡ b.space → a.terms ≡ b.terms → i ≡ j
  terms_once a b i j at_i at_j space terms =
      elim (numbered-push names.terms name a i at_i) [
        | inl old_i ↦ elim (numbered-push names.terms name b j at_j) [
          | inl old_j ↦ kept.terms a b i j old_i old_j space terms
          | inr new_j ↦ absurd (unnamed_terms names name a i none old_i (space ∙ sym (ap (λ (n : TermsName). n.space) new_j.1)) (terms ∙ sym (ap (λ (n : TermsName). n.terms) new_j.1)))
        ]
        | inr new_i ↦ elim (numbered-push names.terms name b j at_j) [
          | inl old_j ↦ absurd (unnamed_terms names name b j none old_j (sym space ∙ sym (ap (λ (n : TermsName). n.space) new_i.1)) (sym terms ∙ sym (ap (λ (n : TermsName). n.terms) new_i.1)))
          | inr new_j ↦ new_i.0 ∙ sym new_j.0
        ]
      ]

  with_known : (nonce : NonceName) → nonce_named names name ≡ Some nonce → IsKnown names name nonce → AreNames (with_terms names name)
  with_known nonce named known = record {
    spaces = kept.spaces;
    terms = terms_once;
    home = λ a i at. elim (numbered-push names.terms name a i at) [
      | inl old ↦ (let before = kept.home a i old in record { home = before.home; nonce = ap (λ ns. numbered ns a.nonce) known.same ∙ before.nonce })
      | inr new ↦ subst (AreAtHome (with_terms names name)) new.1 (record { home = home; nonce = ap (λ ns. numbered ns name.nonce) known.same ∙ (known.old ∙ sym named) })
    ];
    nonces = subst (λ ns. IsNumberedOnce ns) (sym known.same) kept.nonces;
    rising = subst (λ ns. IsTrue (is_rising ns)) (sym (nonce_numbers-push names.terms name)) (rising-push name.nonce (nonce_numbers names.terms) (length names.nonces) kept.used known.range.0 (let high = known.range.1 in omega arith) kept.rising);
    used = ap greatest (nonce_numbers-push names.terms name) ∙ (larger-right name.nonce (greatest (nonce_numbers names.terms)) (let high = known.range.1 in let used = kept.used in omega arith) ∙ (kept.used ∙ sym (ap length known.same)));
    realms = kept.realms;
  }

  with_new : (nonce : NonceName) → nonce_named names name ≡ Some nonce → IsNew names name nonce → AreNames (with_terms names name)
  with_new nonce named new_nonce = record {
    spaces = kept.spaces;
    terms = terms_once;
    home = λ a i at. elim (numbered-push names.terms name a i at) [
      | inl old ↦ (let before = kept.home a i old in record { home = before.home; nonce = at_home-more names name a (with_nonce names name) nonce new_nonce.more before })
      | inr new ↦ subst (AreAtHome (with_terms names name)) new.1 (record {
        home = home;
        nonce = ap (λ ns. numbered ns name.nonce) new_nonce.more ∙ (ap (numbered (names.nonces ++ nonce ∷ [])) new_nonce.next ∙ (numbered-last names.nonces nonce ∙ sym named));
      })
    ];
    nonces = subst (λ ns. IsNumberedOnce ns) (sym new_nonce.more) (once-push names.nonces nonce kept.nonces new_nonce.fresh);
    rising = subst (λ ns. IsTrue (is_rising ns)) (sym (nonce_numbers-push names.terms name)) (rising-push name.nonce (nonce_numbers names.terms) (length names.nonces) kept.used (let next = new_nonce.next in omega arith) (let next = new_nonce.next in omega arith) kept.rising);
    used =
        ap greatest (nonce_numbers-push names.terms name)
        ∙ (larger-left name.nonce (greatest (nonce_numbers names.terms)) (let next = new_nonce.next in let used = kept.used in omega arith)
        ∙ (new_nonce.next ∙ sym (ap length new_nonce.more ∙ length-append names.nonces (nonce ∷ []))));
    realms = kept.realms;
  }

  pub AreNames-terms : name.nonce ≡ nonce_for names name.space name.terms → AreNames (with_terms names name)
  AreNames-terms is = by (numbered names.spaces name.space) refl (some_of_test _ _ home)
    where
      by : (o : Option ProtectionSpace) → numbered names.spaces name.space ≡ o → IsTrue (is_some o) → AreNames (with_terms names name)
      by None at some = absurd (false≢true some)
      by (Some space) at some =
          let nonce : NonceName = record { site = space.site; text = name.terms.nonce } in
          let named : nonce_named names name ≡ Some nonce = ap (option_map (λ (s : ProtectionSpace). record { site = s.site; text = name.terms.nonce })) at in
          let number : name.nonce ≡ nonce_number names space.site name.terms.nonce = is ∙ ap (λ (o : Option ProtectionSpace). unwrap_or (option_map (λ (s : ProtectionSpace). nonce_number names s.site name.terms.nonce) o) 0) at in
          elim (known_or_new names name space at number) [
            | inl known ↦ with_known nonce named known
            | inr new_nonce ↦ with_new nonce named new_nonce
          ]

-- what the lists keep after a push, whether it was refused or not

pub space_pushed : (names : Tables) (space : ProtectionSpace) (done : Bool) (spaces : List ProtectionSpace) → spaces ≡ cond done (names.spaces ++ space ∷ []) names.spaces → AreNames names × AreFew 2048 names → IsTrue (has_realm space.scheme space.realm) → space_number names space ≡ None → length names.spaces < 131072 → AreNames (record names { spaces = spaces }) × AreFew 2048 (record names { spaces = spaces })
space_pushed names space true spaces is kept fit none few =
    subst (λ xs. AreNames (record names { spaces = xs }) × AreFew 2048 (record names { spaces = xs })) (sym is)
    (AreNames-space names space kept.0 fit none, record { spaces = omega (arith, length-append names.spaces (space ∷ [])); terms = kept.1.terms; nonces = kept.1.nonces; texts = kept.1.texts })
space_pushed names space false spaces is kept fit none few =
    subst (λ xs. AreNames (record names { spaces = xs }) × AreFew 2048 (record names { spaces = xs })) (sym is) kept

pub text_pushed : (names : Tables) (text : Login) (done : Bool) (texts : List Login) → texts ≡ cond done (names.texts ++ text ∷ []) names.texts → AreNames names × AreFew 2048 names → length names.texts < 131072 → AreNames (record names { texts = texts }) × AreFew 2048 (record names { texts = texts })
text_pushed names text true texts is kept few =
    subst (λ xs. AreNames (record names { texts = xs }) × AreFew 2048 (record names { texts = xs })) (sym is)
    (AreNames-text names text kept.0, record { spaces = kept.1.spaces; terms = kept.1.terms; nonces = kept.1.nonces; texts = omega (arith, length-append names.texts (text ∷ [])) })
text_pushed names text false texts is kept few =
    subst (λ xs. AreNames (record names { texts = xs }) × AreFew 2048 (record names { texts = xs })) (sym is) kept

module _ (names : Tables) (name : TermsName) (kept : AreNames names × AreFew 2048 names) (few : length names.terms < 131072) (home : IsTrue (is_home names name.space name.terms)) (none : terms_number names name.space name.terms ≡ None) (is : name.nonce ≡ nonce_for names name.space name.terms) where
  pub old_nonce_pushed : (done : Bool) (terms : List TermsName) → terms ≡ cond done (names.terms ++ name ∷ []) names.terms → name.nonce ≤ length names.nonces → AreNames (record names { terms = terms }) × AreFew 2048 (record names { terms = terms })
  old_nonce_pushed true terms same le =
      let nonces : with_nonce names name ≡ names.nonces = ap (λ b. cond b names.nonces (names.nonces ++ cons_option (nonce_named names name) [])) (le_true name.nonce (length names.nonces) le) in
      let more = subst (λ ns. AreNames (record names { terms = names.terms ++ name ∷ []; nonces = ns })) nonces (AreNames-terms names name kept.0 home none is) in
      subst (λ xs. AreNames (record names { terms = xs }) × AreFew 2048 (record names { terms = xs })) (sym same)
      (more, record { spaces = kept.1.spaces; terms = omega (arith, length-append names.terms (name ∷ [])); nonces = kept.1.nonces; texts = kept.1.texts })
  old_nonce_pushed false terms same le =
      subst (λ xs. AreNames (record names { terms = xs }) × AreFew 2048 (record names { terms = xs })) (sym same) kept

  pub new_nonce_pushed : (nonce : NonceName) (terms : List TermsName) (nonces : List NonceName) → nonce_named names name ≡ Some nonce → length names.nonces < name.nonce → name.nonce ≤ 32768 → terms ≡ names.terms ++ name ∷ [] → nonces ≡ names.nonces ++ nonce ∷ [] → AreNames (record names { terms = terms; nonces = nonces }) × AreFew 2048 (record names { terms = terms; nonces = nonces })
  new_nonce_pushed nonce terms nonces named gt high same_terms' same_nonces =
      let with_it : with_nonce names name ≡ nonces =
      ap (λ b. cond b names.nonces (names.nonces ++ cons_option (nonce_named names name) [])) (le_false name.nonce (length names.nonces) gt)
      ∙ (ap (λ o. names.nonces ++ cons_option o []) named ∙ sym same_nonces) in
      let more = subst (λ ns. AreNames (record names { terms = names.terms ++ name ∷ []; nonces = ns })) with_it (AreNames-terms names name kept.0 home none is) in
      subst (λ xs. AreNames (record names { terms = xs; nonces = nonces }) × AreFew 2048 (record names { terms = xs; nonces = nonces })) (sym same_terms') (
        more,
        record {
          spaces = kept.1.spaces;
          terms = omega (arith, length-append names.terms (name ∷ []));
          nonces = omega (arith, ap length same_nonces, length-append names.nonces (nonce ∷ []));
          texts = kept.1.texts;
        },
      )

-- the nonces grow by one at most, and not at all where the nonce has its number
pub length-with_nonce : (names : Tables) (name : TermsName) → IsTrue (is_home names name.space name.terms) → name.nonce ≡ nonce_for names name.space name.terms → (length (with_nonce names name) ≤ length names.nonces + 1) × (IsTrue (is_some (numbered names.nonces (nonce_for names name.space name.terms))) → length (with_nonce names name) ≡ length names.nonces)
length-with_nonce names name home is = by (numbered names.spaces name.space) refl (some_of_test _ _ home)
  where
    by : (o : Option ProtectionSpace) → numbered names.spaces name.space ≡ o → IsTrue (is_some o) → (length (with_nonce names name) ≤ length names.nonces + 1) × (IsTrue (is_some (numbered names.nonces (nonce_for names name.space name.terms))) → length (with_nonce names name) ≡ length names.nonces)
    by None at some = absurd (false≢true some)
    by (Some space) at some =
        let nonce : NonceName = record { site = space.site; text = name.terms.nonce } in
        let number : name.nonce ≡ nonce_number names space.site name.terms.nonce = is ∙ ap (λ (o : Option ProtectionSpace). unwrap_or (option_map (λ (s : ProtectionSpace). nonce_number names s.site name.terms.nonce) o) 0) at in
        elim (known_or_new names name space at number) [
          | inl known ↦ (let same = ap length known.same in (omega arith, λ found. same))
          | inr new_nonce ↦
              (let more = ap length new_nonce.more ∙ length-append names.nonces (nonce ∷ []) in
              let next = new_nonce.next in (
                omega arith,
                λ found. (let range = numbered_in names.nonces (nonce_for names name.space name.terms) found in let high = range.1 in absurd (omega (arith, is, next, high))),
              ))
        ]

-- the nonce of terms that are to be named is one of few
pub nonce_for-few : (names : Tables) (s : ℕ) (terms : Terms) (n : ℕ) → AreFew n names → ((length names.nonces < 16 * n) ⊎ IsTrue (is_some (numbered names.nonces (nonce_for names s terms)))) → nonce_for names s terms ≤ 16 * n
nonce_for-few names s terms n few (inr found) = let range = numbered_in names.nonces (nonce_for names s terms) found in let high = range.1 in let all = few.nonces in omega arith
nonce_for-few names s terms n few (inl room) = by (numbered names.spaces s)
  where
    of_space : (space : ProtectionSpace) (o : Option ℕ) → number_of (is_that_nonce space.site terms.nonce) names.nonces ≡ o → unwrap_or o (length names.nonces + 1) ≤ 16 * n
    of_space space None is = omega (arith, room)
    of_space space (Some k) is =
        let there = first_numbered (is_that_nonce space.site terms.nonce) names.nonces k is in
        let range = numbered_in names.nonces k (ap is_some there.is_there) in
        let high = range.1 in
        omega (arith, room, high)

    by : (o : Option ProtectionSpace) → unwrap_or (option_map (λ (space : ProtectionSpace). nonce_number names space.site terms.nonce) o) 0 ≤ 16 * n
    by None = omega arith
    by (Some space) = of_space space (number_of (is_that_nonce space.site terms.nonce) names.nonces) refl

-- a terms name by its space and its terms
pub terms_name_is : (name : TermsName) (s : ℕ) (terms : Terms) → name.space ≡ s → name.terms ≡ terms → ◌≡◌ {A = TermsName} (record { space = name.space; terms = name.terms; nonce = name.nonce }) (record { space = s; terms = terms; nonce = name.nonce })
terms_name_is name s terms same_space' same_terms' = parts name.space s name.terms terms name.nonce same_space' same_terms'
  where
    parts : (s s' : ℕ) (t t' : Terms) (n : ℕ) → s ≡ s' → t ≡ t' → ◌≡◌ {A = TermsName} (record { space = s; terms = t; nonce = n }) (record { space = s'; terms = t'; nonce = n })
    parts s s' t t' n same_s same_t = cc

pub some_is : (a b : TermsName) → Some a ≡ Some b → a ≡ b
some_is a b same = cc
