-- Names so far are a front of all names of a run, and the next thing that is named is the next one of the run.
use Rattle.std.proofs.Common.{◌≡◌, ◌⊎◌, inl, inr, ℕ, zero, suc, ◌+◌, ◌<◌, ◌≤◌, Bool, true, false, ◌&&◌, ◌==◌, cond, IsTrue, List, [], ◌∷◌, ◌++◌, length, reverse, map, Option, Some, None, refl, sym, ap, ◌∙◌, subst, append_assoc, arith}
use Rattle.std.specs.Prelude.{is_some, unwrap_or, option_map, slice_get, nat_le, bytes_eq}
use Rattle.std.specs.List.{cons_option}
use Rattle.std.proofs.lemmas.Bool.{false≢true}
use Rattle.std.proofs.lemmas.Bool.Decides.{nat_tests}
use Rattle.std.proofs.lemmas.List.{reverse-append, map-append, append-nil}
use Rattle.spaces.specs.declared.terms.Terms.{Terms}
use Rattle.spaces.specs.declared.site.Site.{Site}
use Rattle.spaces.specs.declared.space.Scheme.TheVariants.{Digest}
use Rattle.spaces.specs.DigestTerms.{same_terms}
use Rattle.spaces.specs.ProtectionSpaces.{ProtectionSpace}
use Rattle.spaces.specs.Sites.{numbered, same_scheme, same_site}
use Rattle.auth_events.specs.declared.names.NonceName.{NonceName}
use Rattle.auth_events.specs.declared.names.TermsName.{TermsName}
use Rattle.auth_events.specs.Tables.{Tables, AreNames, greatest, is_home, is_rising, is_that_nonce, is_that_terms, nonce_for, nonce_named, nonce_number, nonce_numbers, number_of, space_number, terms_number, with_new_space, with_new_terms, with_nonce, with_space, with_terms}
use Rattle.auth_events.proofs.Numbers.{and_left, and_right, both, first_numbered, none_numbered, numbered-append, numbered-last, numbered_in, numbered_suc}
use Rattle.auth_events.proofs.Naming.{AreNames-space, AreNames-terms, named_space, named_terms, unnamed_space}
use Rattle.auth_events.proofs.Same.{bytes_refl, bytes_same, number_refl, site_refl, site_same, terms_refl}
use Rattle.trace_rule.specs.Growing.{NamesGrow}
use Rattle.trace_rule.proofs.Knowing.{both_of}

-- LISTS

stays : {A : Type 0} (zs xs ys : List A) (n : ℕ) (a : A) → zs ≡ xs ++ ys → numbered xs n ≡ Some a → numbered zs n ≡ Some a
stays zs xs ys n a e found = ap (λ l. numbered l n) e ∙ (numbered-append xs ys n (ap is_some found) ∙ found)

next_get : {A : Type 0} (xs ys : List A) (j : ℕ) (a : A) → slice_get (xs ++ ys) j ≡ Some a → j ≤ length xs → (slice_get xs j ≡ Some a) ⊎ ((j ≡ length xs) × ((rest : List A) × (ys ≡ a ∷ rest)))
next_get [] [] j a found le = let none : None ≡ Some a = found in cc
next_get [] (y ∷ ys) zero a found le = let same : y ≡ a = cc in inr (refl, (ys, ap (λ z. z ∷ ys) same))
next_get [] (y ∷ ys) (suc j) a found le = absurd (omega (arith, le))
next_get (x ∷ xs) ys zero a found le = inl found
next_get (x ∷ xs) ys (suc j) a found le =
    elim (next_get xs ys j a found (omega (arith, le))) [
      | inl old ↦ inl old
      | inr new ↦ inr (let place = new.0 in omega (arith, place), new.1)
    ]

-- what has a number in a longer list has it in the front, or is the first thing behind it
pub next_of : {A : Type 0} (xs ys : List A) (n : ℕ) (a : A) → numbered (xs ++ ys) n ≡ Some a → n ≤ length xs + 1 → (numbered xs n ≡ Some a) ⊎ ((n ≡ length xs + 1) × ((rest : List A) × (ys ≡ a ∷ rest)))
next_of xs ys zero a found le = inl found
next_of xs ys (suc k) a found le =
    elim (next_get xs ys k a (sym (numbered_suc (xs ++ ys) k) ∙ found) (omega (arith, le))) [
      | inl old ↦ inl (numbered_suc xs k ∙ old)
      | inr new ↦ inr (let place = new.0 in omega (arith, place), new.1)
    ]

-- one thing more of the front
pub one_more : {A : Type 0} (zs xs ys : List A) (a : A) (rest : List A) → zs ≡ xs ++ ys → ys ≡ a ∷ rest → zs ≡ (xs ++ a ∷ []) ++ rest
one_more zs xs ys a rest e f = e ∙ (ap (λ l. xs ++ l) f ∙ sym (append_assoc xs (a ∷ []) rest))

-- THE FRONT

-- the names are those of the front, and more behind them
pub record IsNamedSoFar (front names : Tables) : Type 0 where
  pub grow : NamesGrow front names
  pub new_nonces : List NonceName
  pub nonces : names.nonces ≡ front.nonces ++ new_nonces

pub grow_not : (names : Tables) → NamesGrow names names
grow_not names = record {
  new_spaces = [];
  new_terms = [];
  new_texts = [];
  spaces = sym (append-nil names.spaces);
  terms = sym (append-nil names.terms);
  texts = sym (append-nil names.texts);
}

pub grow_space : (names : Tables) (space : ProtectionSpace) → NamesGrow names (with_new_space names space)
grow_space names space = at (is_some (space_number names space))
  where
    at : (b : Bool) → NamesGrow names (cond b names (with_space names space))
    at true = grow_not names
    at false = record {
      new_spaces = space ∷ [];
      new_terms = [];
      new_texts = [];
      spaces = refl;
      terms = sym (append-nil names.terms);
      texts = sym (append-nil names.texts);
    }

pub grow_terms : (names : Tables) (s : ℕ) (terms : Terms) → NamesGrow names (with_new_terms names s terms)
grow_terms names s terms = at (is_some (terms_number names s terms))
  where
    name : TermsName
    name = record { space = s; terms = terms; nonce = nonce_for names s terms }

    at : (b : Bool) → NamesGrow names (cond b names (with_terms names name))
    at true = grow_not names
    at false = record {
      new_spaces = [];
      new_terms = name ∷ [];
      new_texts = [];
      spaces = sym (append-nil names.spaces);
      terms = refl;
      texts = sym (append-nil names.texts);
    }

-- a named space is found by its number
found_space : (names : Tables) → AreNames names → (space : ProtectionSpace) (n : ℕ) → numbered names.spaces n ≡ Some space → space_number names space ≡ Some n
found_space names are space n there = at (space_number names space) refl
  where
    at : (o : Option ℕ) → space_number names space ≡ o → space_number names space ≡ Some n
    at None e = absurd (unnamed_space names space e n there)
    at (Some k) e = e ∙ ap Some (are.spaces space k n (named_space names space k e) there)

-- terms that have no number aren't named
unnamed : (names : Tables) (name : TermsName) (s : ℕ) (terms : Terms) (n : ℕ) → terms_number names s terms ≡ None → numbered names.terms n ≡ Some name → name.space ≡ s → name.terms ≡ terms → ⊥
unnamed names name s terms n none there space same =
    let passes : IsTrue (is_that_terms s terms name) =
    both (name.space == s) (same_terms name.terms terms) (subst (λ z. IsTrue (name.space == z)) space (number_refl name.space)) (subst (λ z. IsTrue (same_terms name.terms z)) same (terms_refl name.terms)) in
    false≢true (sym (none_numbered (is_that_terms s terms) names.terms none n name there) ∙ passes)

found_terms : (names : Tables) → AreNames names → (s : ℕ) (terms : Terms) (n : ℕ) (name : TermsName) → numbered names.terms n ≡ Some name → name.space ≡ s → name.terms ≡ terms → terms_number names s terms ≡ Some n
found_terms names are s terms n name there space same = at (terms_number names s terms) refl
  where
    at : (o : Option ℕ) → terms_number names s terms ≡ o → terms_number names s terms ≡ Some n
    at None e = absurd (unnamed names name s terms n e there space same)
    at (Some k) e =
        let found = named_terms names s terms k e in
        e ∙ ap Some (are.terms found.0 name k n found.1 there (found.2 ∙ sym space) (found.3 ∙ sym same))

-- SPACES

-- the space has its number in the front too
pub record IsSpaceNamed (front names : Tables) (space : ProtectionSpace) (n : ℕ) : Type 0 where
  pub so_far : IsNamedSoFar (with_new_space front space) names
  pub are_names : AreNames (with_new_space front space)
  pub number : space_number (with_new_space front space) space ≡ Some n

pub name_space : (front names : Tables) → IsNamedSoFar front names → AreNames front → AreNames names → (space : ProtectionSpace) (n : ℕ) → space_number names space ≡ Some n → n ≤ length front.spaces + 1
    → IsSpaceNamed front names space n
name_space front names so_far are all space n found le = by (space_number front space) refl
  where
    there : numbered names.spaces n ≡ Some space
    there = named_space names space n found

    by : (o : Option ℕ) → space_number front space ≡ o → IsSpaceNamed front names space n
    by (Some k) e =
        let same : front ≡ with_new_space front space = sym (ap (λ o. cond (is_some o) front (with_space front space)) e) in
        let one : k ≡ n = all.spaces space k n (stays names.spaces front.spaces so_far.grow.new_spaces k space so_far.grow.spaces (named_space front space k e)) there in
        record {
          so_far = subst (λ x. IsNamedSoFar x names) same so_far;
          are_names = subst AreNames same are;
          number = subst (λ x. space_number x space ≡ Some n) same (e ∙ ap Some one);
        }
    by None e =
        let same : with_space front space ≡ with_new_space front space = sym (ap (λ o. cond (is_some o) front (with_space front space)) e) in
        elim (next_of front.spaces so_far.grow.new_spaces n space (ap (λ l. numbered l n) (sym so_far.grow.spaces) ∙ there) le) [
          | inl old ↦ absurd (unnamed_space front space e n old)
          | inr new ↦
              (let rest : List ProtectionSpace = new.1.0 in
              let are' : AreNames (with_space front space) = AreNames-space front space are (all.realms space n there) e in
              record {
                so_far = subst (λ x. IsNamedSoFar x names) same (record {
                  grow = record {
                    new_spaces = rest;
                    new_terms = so_far.grow.new_terms;
                    new_texts = so_far.grow.new_texts;
                    spaces = one_more names.spaces front.spaces so_far.grow.new_spaces space rest so_far.grow.spaces new.1.1;
                    terms = so_far.grow.terms;
                    texts = so_far.grow.texts;
                  };
                  new_nonces = so_far.new_nonces;
                  nonces = so_far.nonces;
                });
                are_names = subst AreNames same are';
                number =
                    subst (λ x. space_number x space ≡ Some n) same
                    (found_space (with_space front space) are' space n (ap (numbered (front.spaces ++ space ∷ [])) new.0 ∙ numbered-last front.spaces space));
              })
        ]

-- TERMS

pub rising_behind : (later earlier : List ℕ) → IsTrue (is_rising (later ++ earlier)) → IsTrue (is_rising earlier)
rising_behind [] earlier h = h
rising_behind (n ∷ later) earlier h = rising_behind later earlier (and_right (nat_le 1 n && nat_le n (greatest (later ++ earlier) + 1)) (is_rising (later ++ earlier)) h)

numbers_append : (xs ys : List TermsName) → nonce_numbers (xs ++ ys) ≡ nonce_numbers ys ++ nonce_numbers xs
numbers_append xs ys = ap reverse (map-append (λ (n : TermsName). n.nonce) xs ys) ∙ reverse-append (map (λ (n : TermsName). n.nonce) xs) (map (λ (n : TermsName). n.nonce) ys)

le_true : (a b : ℕ) → a ≤ b → nat_le a b ≡ true
le_true a b le = grind (arith, nat_tests)

le_false : (a b : ℕ) → b < a → nat_le a b ≡ false
le_false a b lt = grind (arith, nat_tests)

pub at_least : (a b : ℕ) → IsTrue (nat_le a b) → a ≤ b
at_least a b h = grind (arith, nat_tests)

same_nonce : (s s' : Site) (t t' : List ℕ) → s ≡ s' → t ≡ t' → ◌≡◌ {A = NonceName} (record { site = s; text = t }) (record { site = s'; text = t' })
same_nonce s s' t t' same_s same_t = cc

same_name : (name : TermsName) (s : ℕ) (terms : Terms) (n : ℕ) → name.space ≡ s → name.terms ≡ terms → name.nonce ≡ n → name ≡ record { space = s; terms = terms; nonce = n }
same_name name s terms n space same number = parts name.space s name.terms terms name.nonce n space same number
  where
    parts : (s s' : ℕ) (t t' : Terms) (n n' : ℕ) → s ≡ s' → t ≡ t' → n ≡ n' → ◌≡◌ {A = TermsName} (record { space = s; terms = t; nonce = n }) (record { space = s'; terms = t'; nonce = n' })
    parts s s' t t' n n' same_s same_t same_n = cc

is_nonce : (thing : NonceName) (site : Site) (text : List ℕ) → IsTrue (is_that_nonce site text thing) → thing ≡ record { site = site; text = text }
is_nonce thing site text h =
    same_nonce thing.site site thing.text text (site_same thing.site site (and_left (same_site thing.site site) (bytes_eq thing.text text) h))
    (bytes_same thing.text text (and_right (same_site thing.site site) (bytes_eq thing.text text) h))

-- the terms have their number in the front too
pub record IsTermsNamed (front names : Tables) (s : ℕ) (terms : Terms) (t : ℕ) : Type 0 where
  pub so_far : IsNamedSoFar (with_new_terms front s terms) names
  pub are_names : AreNames (with_new_terms front s terms)
  pub number : terms_number (with_new_terms front s terms) s terms ≡ Some t

module _ (front names : Tables) (so_far : IsNamedSoFar front names) (are : AreNames front) (all : AreNames names) where
  -- the nonce number of the next terms is the one that the front has for them
  next_nonce : (s : ℕ) (space : ProtectionSpace) (terms : Terms) (name : TermsName) (t : ℕ) (rest : List TermsName) → numbered front.spaces s ≡ Some space → numbered names.terms t ≡ Some name
      → name.space ≡ s → name.terms ≡ terms → so_far.grow.new_terms ≡ name ∷ rest
      → (name.nonce ≡ nonce_for front s terms) × ((more : List NonceName) × (names.nonces ≡ with_nonce front name ++ more))
  next_nonce s space terms name t rest at_s there same_s same_t new = by (number_of test front.nonces) refl
    where
      test : NonceName → Bool
      test = is_that_nonce space.site terms.nonce

      nonce : NonceName
      nonce = record { site = space.site; text = terms.nonce }

      site : numbered names.spaces name.space ≡ Some space
      site = ap (numbered names.spaces) same_s ∙ stays names.spaces front.spaces so_far.grow.new_spaces s space so_far.grow.spaces at_s

      named_as : (x : Tables) → numbered x.spaces name.space ≡ Some space → nonce_named x name ≡ Some nonce
      named_as x at =
          ap (option_map (λ (z : ProtectionSpace). record { site = z.site; text = name.terms.nonce })) at
          ∙ ap (λ (z : Terms). Some (record { site = space.site; text = z.nonce })) same_t

      numbered_so : numbered names.nonces name.nonce ≡ Some nonce
      numbered_so = (all.home name t there).nonce ∙ named_as names site

      in_front : (k : ℕ) → number_of test front.nonces ≡ Some k → numbered front.nonces k ≡ Some nonce
      in_front k e = let found = first_numbered test front.nonces k e in found.is_there ∙ ap Some (is_nonce found.thing space.site terms.nonce found.passes)

      once : (k : ℕ) → number_of test front.nonces ≡ Some k → k ≡ name.nonce
      once k e = all.nonces nonce k name.nonce (stays names.nonces front.nonces so_far.new_nonces k nonce so_far.nonces (in_front k e)) numbered_so

      for_it : nonce_for front s terms ≡ unwrap_or (number_of test front.nonces) (length front.nonces + 1)
      for_it = ap (λ o. unwrap_or (option_map (λ (z : ProtectionSpace). nonce_number front z.site terms.nonce) o) 0) at_s

      rising : IsTrue (is_rising (name.nonce ∷ nonce_numbers front.terms))
      rising =
          let whole : names.terms ≡ (front.terms ++ name ∷ []) ++ rest = one_more names.terms front.terms so_far.grow.new_terms name rest so_far.grow.terms new in
          let split : nonce_numbers names.terms ≡ nonce_numbers rest ++ (name.nonce ∷ nonce_numbers front.terms) =
          ap nonce_numbers whole ∙ (numbers_append (front.terms ++ name ∷ []) rest ∙ ap (λ l. nonce_numbers rest ++ l) (numbers_append front.terms (name ∷ []))) in
          rising_behind (nonce_numbers rest) (name.nonce ∷ nonce_numbers front.terms) (subst (λ l. IsTrue (is_rising l)) split all.rising)

      high : name.nonce ≤ length front.nonces + 1
      high =
          let parts = both_of (nat_le 1 name.nonce && nat_le name.nonce (greatest (nonce_numbers front.terms) + 1)) (is_rising (nonce_numbers front.terms)) rising in
          let le = at_least name.nonce (greatest (nonce_numbers front.terms) + 1) (and_right (nat_le 1 name.nonce) (nat_le name.nonce (greatest (nonce_numbers front.terms) + 1)) parts.0) in
          let top = are.used in
          omega (arith, le, top)

      in_place : numbered (front.nonces ++ so_far.new_nonces) name.nonce ≡ Some nonce
      in_place = ap (λ l. numbered l name.nonce) (sym so_far.nonces) ∙ numbered_so

      by : (o : Option ℕ) → number_of test front.nonces ≡ o → (name.nonce ≡ nonce_for front s terms) × ((more : List NonceName) × (names.nonces ≡ with_nonce front name ++ more))
      by (Some k) e =
          let same : k ≡ name.nonce = once k e in
          let range = numbered_in front.nonces k (ap is_some (in_front k e)) in
          let old : nat_le name.nonce (length front.nonces) ≡ true = (let le = range.1 in le_true name.nonce (length front.nonces) (omega (arith, le, same))) in (
            sym (for_it ∙ (ap (λ o. unwrap_or o (length front.nonces + 1)) e ∙ same)),
            (so_far.new_nonces, so_far.nonces ∙ sym (ap (λ b. cond b front.nonces (front.nonces ++ cons_option (nonce_named front name) []) ++ so_far.new_nonces) old)),
          )
      by None e =
          elim (next_of front.nonces so_far.new_nonces name.nonce nonce in_place high) [
            | inl old ↦
                absurd (false≢true (sym (none_numbered test front.nonces e name.nonce nonce old) ∙ both (same_site space.site space.site) (bytes_eq terms.nonce terms.nonce) (site_refl space.site) (bytes_refl terms.nonce)))
            | inr last ↦
                (let place = last.0 in
                let gone : nat_le name.nonce (length front.nonces) ≡ false = le_false name.nonce (length front.nonces) (omega (arith, place)) in
                let here : nonce_named front name ≡ Some nonce = named_as front (ap (numbered front.spaces) same_s ∙ at_s) in
                let pushed : with_nonce front name ≡ front.nonces ++ nonce ∷ [] =
                ap (λ b. cond b front.nonces (front.nonces ++ cons_option (nonce_named front name) [])) gone ∙ ap (λ o. front.nonces ++ cons_option o []) here in (
                  sym (for_it ∙ (ap (λ o. unwrap_or o (length front.nonces + 1)) e ∙ sym place)),
                  (last.1.0, one_more names.nonces front.nonces so_far.new_nonces nonce last.1.0 so_far.nonces last.1.1 ∙ ap (λ l. l ++ last.1.0) (sym pushed)),
                ))
          ]

  pub name_terms : (s : ℕ) (terms : Terms) (t : ℕ) → IsTrue (is_some (numbered front.spaces s)) → terms_number names s terms ≡ Some t → t ≤ length front.terms + 1 → IsTermsNamed front names s terms t
  name_terms s terms t known found le = by_space (numbered front.spaces s) refl known
    where
      name : TermsName
      name = (named_terms names s terms t found).0

      there : numbered names.terms t ≡ Some name
      there = (named_terms names s terms t found).1

      same_s : name.space ≡ s
      same_s = (named_terms names s terms t found).2

      same_t : name.terms ≡ terms
      same_t = (named_terms names s terms t found).3

      new_name : TermsName
      new_name = record { space = s; terms = terms; nonce = nonce_for front s terms }

      pushed : (space : ProtectionSpace) → numbered front.spaces s ≡ Some space → terms_number front s terms ≡ None → t ≡ length front.terms + 1 → (rest : List TermsName) → so_far.grow.new_terms ≡ name ∷ rest
          → IsTermsNamed front names s terms t
      pushed space at_s e place rest new =
          let nonce = next_nonce s space terms name t rest at_s there same_s same_t new in
          let same : with_terms front name ≡ with_new_terms front s terms =
          ap (with_terms front) (same_name name s terms (nonce_for front s terms) same_s same_t nonce.0) ∙ sym (ap (λ o. cond (is_some o) front (with_terms front new_name)) e) in
          let in_front : numbered front.spaces name.space ≡ Some space = ap (numbered front.spaces) same_s ∙ at_s in
          let in_all : numbered names.spaces name.space ≡ Some space = stays names.spaces front.spaces so_far.grow.new_spaces name.space space so_far.grow.spaces in_front in
          let home : IsTrue (is_home front name.space name.terms) =
          subst (λ o. IsTrue (unwrap_or (option_map (λ (z : ProtectionSpace). same_scheme z.scheme Digest && bytes_eq z.realm name.terms.realm) o) false)) (in_all ∙ sym in_front) (all.home name t there).home in
          let none : terms_number front name.space name.terms ≡ None = ap (λ z. terms_number front z name.terms) same_s ∙ (ap (terms_number front s) same_t ∙ e) in
          let number : name.nonce ≡ nonce_for front name.space name.terms = nonce.0 ∙ sym (ap (λ z. nonce_for front z name.terms) same_s ∙ ap (nonce_for front s) same_t) in
          let are' : AreNames (with_terms front name) = AreNames-terms front name are home none number in
          record {
            so_far = subst (λ x. IsNamedSoFar x names) same (record {
              grow = record {
                new_spaces = so_far.grow.new_spaces;
                new_terms = rest;
                new_texts = so_far.grow.new_texts;
                spaces = so_far.grow.spaces;
                terms = one_more names.terms front.terms so_far.grow.new_terms name rest so_far.grow.terms new;
                texts = so_far.grow.texts;
              };
              new_nonces = nonce.1.0;
              nonces = nonce.1.1;
            });
            are_names = subst AreNames same are';
            number =
                subst (λ x. terms_number x s terms ≡ Some t) same
                (found_terms (with_terms front name) are' s terms t name (ap (numbered (front.terms ++ name ∷ [])) place ∙ numbered-last front.terms name) same_s same_t);
          }

      by_number : (space : ProtectionSpace) → numbered front.spaces s ≡ Some space → (o : Option ℕ) → terms_number front s terms ≡ o → IsTermsNamed front names s terms t
      by_number space at_s (Some k) e =
          let same : front ≡ with_new_terms front s terms = sym (ap (λ o. cond (is_some o) front (with_terms front new_name)) e) in
          let before = named_terms front s terms k e in
          let one : k ≡ t =
          all.terms before.0 name k t (stays names.terms front.terms so_far.grow.new_terms k before.0 so_far.grow.terms before.1) there (before.2 ∙ sym same_s) (before.3 ∙ sym same_t) in
          record {
            so_far = subst (λ x. IsNamedSoFar x names) same so_far;
            are_names = subst AreNames same are;
            number = subst (λ x. terms_number x s terms ≡ Some t) same (e ∙ ap Some one);
          }
      by_number space at_s None e =
          elim (next_of front.terms so_far.grow.new_terms t name (ap (λ l. numbered l t) (sym so_far.grow.terms) ∙ there) le) [
            | inl old ↦ absurd (unnamed front name s terms t e old same_s same_t)
            | inr new ↦ pushed space at_s e new.0 new.1.0 new.1.1
          ]

      by_space : (o : Option ProtectionSpace) → numbered front.spaces s ≡ o → IsTrue (is_some o) → IsTermsNamed front names s terms t
      by_space None e some = absurd (false≢true some)
      by_space (Some space) e some = by_number space e (terms_number front s terms) refl
