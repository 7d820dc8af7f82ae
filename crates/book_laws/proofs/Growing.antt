-- Names that were told keep their numbers when more are told.
use Rattle.std.proofs.Common.{◌≡◌, ℕ, suc, ◌+◌, Bool, true, false, cond, List, [], ◌∷◌, ◌++◌, Option, Some, None, length, refl, ap, sym, subst, ◌∙◌, arith, append_assoc}
use Rattle.std.specs.Prelude.{IsTrue, is_some, option_map, unwrap_or, nat_le, bytes_eq, ◌&&◌}
use Rattle.std.specs.List.{cons_option, fold, position_from}
use Rattle.std.proofs.lemmas.Bool.{false≢true}
use Rattle.std.proofs.lemmas.List.{append-nil}
use Rattle.std.proofs.lemmas.List.Sums.{fold-append}
use Rattle.spaces.specs.declared.space.Scheme.TheVariants.{Digest}
use Rattle.spaces.specs.declared.terms.Terms.{Terms}
use Rattle.spaces.specs.ProtectionSpaces.{ProtectionSpace}
use Rattle.spaces.specs.Sites.{numbered, same_scheme}
use Rattle.auth_text.specs.Login.{Login}
use Rattle.auth_events.specs.declared.names.NonceName.{NonceName}
use Rattle.auth_events.specs.declared.names.TermsName.{TermsName}
use Rattle.auth_events.specs.declared.told.Told.{Told}
use Rattle.auth_events.specs.declared.told.Told.TheVariants.{Made, SpaceNamed, TermsNamed, TextNamed}
use Rattle.auth_events.specs.Tables.{Tables, is_home, is_that_nonce, is_that_terms, nonce_for, nonce_named, nonce_number, number_of, terms_number}
use Rattle.auth_events.specs.Told.{names_told, with_told}
use Rattle.auth_events.proofs.Numbers.{first_numbered, numbered-append, numbered_in, some_of_test}

-- each list of names is the front of the later one
pub record NamesGrow (names more : Tables) : Type 0 where
  pub new_spaces : List ProtectionSpace
  pub spaces : more.spaces ≡ names.spaces ++ new_spaces
  pub new_terms : List TermsName
  pub terms : more.terms ≡ names.terms ++ new_terms
  pub new_nonces : List NonceName
  pub nonces : more.nonces ≡ names.nonces ++ new_nonces
  pub new_texts : List Login
  pub texts : more.texts ≡ names.texts ++ new_texts

grow_none : (names : Tables) → NamesGrow names names
grow_none names = record {
  new_spaces = [];
  spaces = sym (append-nil names.spaces);
  new_terms = [];
  terms = sym (append-nil names.terms);
  new_nonces = [];
  nonces = sym (append-nil names.nonces);
  new_texts = [];
  texts = sym (append-nil names.texts);
}

joined : {A : Type 0} (a b c new newer : List A) → b ≡ a ++ new → c ≡ b ++ newer → c ≡ a ++ (new ++ newer)
joined a b c new newer first then = then ∙ (ap (λ l. l ++ newer) first ∙ append_assoc a new newer)

grow_twice : (a b c : Tables) → NamesGrow a b → NamesGrow b c → NamesGrow a c
grow_twice a b c first then = record {
  new_spaces = first.new_spaces ++ then.new_spaces;
  spaces = joined a.spaces b.spaces c.spaces first.new_spaces then.new_spaces first.spaces then.spaces;
  new_terms = first.new_terms ++ then.new_terms;
  terms = joined a.terms b.terms c.terms first.new_terms then.new_terms first.terms then.terms;
  new_nonces = first.new_nonces ++ then.new_nonces;
  nonces = joined a.nonces b.nonces c.nonces first.new_nonces then.new_nonces first.nonces then.nonces;
  new_texts = first.new_texts ++ then.new_texts;
  texts = joined a.texts b.texts c.texts first.new_texts then.new_texts first.texts then.texts;
}

grow_one : (names : Tables) (item : Told) → NamesGrow names (with_told names item)
grow_one names (Made entry) = grow_none names
grow_one names (SpaceNamed caller space) = record {
  new_spaces = space ∷ [];
  spaces = refl;
  new_terms = [];
  terms = sym (append-nil names.terms);
  new_nonces = [];
  nonces = sym (append-nil names.nonces);
  new_texts = [];
  texts = sym (append-nil names.texts);
}
grow_one names (TermsNamed caller name) = at (nat_le name.nonce (length names.nonces)) refl
  where
    at : (b : Bool) → nat_le name.nonce (length names.nonces) ≡ b → NamesGrow names (with_told names (TermsNamed caller name))
    at true is = record {
      new_spaces = [];
      spaces = sym (append-nil names.spaces);
      new_terms = name ∷ [];
      terms = refl;
      new_nonces = [];
      nonces = ap (λ b. cond b names.nonces (names.nonces ++ cons_option (nonce_named names name) [])) is ∙ sym (append-nil names.nonces);
      new_texts = [];
      texts = sym (append-nil names.texts);
    }
    at false is = record {
      new_spaces = [];
      spaces = sym (append-nil names.spaces);
      new_terms = name ∷ [];
      terms = refl;
      new_nonces = cons_option (nonce_named names name) [];
      nonces = ap (λ b. cond b names.nonces (names.nonces ++ cons_option (nonce_named names name) [])) is;
      new_texts = [];
      texts = sym (append-nil names.texts);
    }
grow_one names (TextNamed caller text) = record {
  new_spaces = [];
  spaces = sym (append-nil names.spaces);
  new_terms = [];
  terms = sym (append-nil names.terms);
  new_nonces = [];
  nonces = sym (append-nil names.nonces);
  new_texts = text ∷ [];
  texts = refl;
}

grow_fold : (names : Tables) (more : List Told) → NamesGrow names (fold with_told names more)
grow_fold names [] = grow_none names
grow_fold names (item ∷ more) = grow_twice names (with_told names item) (fold with_told (with_told names item) more) (grow_one names item) (grow_fold (with_told names item) more)

pub grow_told : (seen more : List Told) → NamesGrow (names_told seen) (names_told (seen ++ more))
grow_told seen more = subst (NamesGrow (names_told seen)) (sym (fold-append with_told _ seen more)) (grow_fold (names_told seen) more)

-- NUMBERS

position_stays : {A : Type 0} (p : A → Bool) (i k : ℕ) (xs ys : List A) → position_from p i xs ≡ Some k → position_from p i (xs ++ ys) ≡ Some k
position_stays {A} p i k [] ys found = let clash : None ≡ Some k = found in cc
position_stays {A} p i k (x ∷ xs) ys found = at (p x) (λ f. position_stays p (i + 1) k xs ys f) found
  where
    at : (b : Bool) → (position_from p (i + 1) xs ≡ Some k → position_from p (i + 1) (xs ++ ys) ≡ Some k) → cond b (Some i) (position_from p (i + 1) xs) ≡ Some k → cond b (Some i) (position_from p (i + 1) (xs ++ ys)) ≡ Some k
    at true later f = f
    at false later f = later f

number_stays : {A : Type 0} (p : A → Bool) (xs ys : List A) (n : ℕ) → number_of p xs ≡ Some n → number_of p (xs ++ ys) ≡ Some n
number_stays p xs ys n found = at (position_from p 0 xs) refl found
  where
    at : (o : Option ℕ) → position_from p 0 xs ≡ o → option_map suc o ≡ Some n → number_of p (xs ++ ys) ≡ Some n
    at None e f = let clash : None ≡ Some n = f in cc
    at (Some k) e f = ap (option_map suc) (position_stays p 0 k xs ys e) ∙ f

some_stays : {A : Type 0} (p : A → Bool) (xs ys : List A) → IsTrue (is_some (number_of p xs)) → IsTrue (is_some (number_of p (xs ++ ys)))
some_stays p xs ys some = at (number_of p xs) refl some
  where
    at : (o : Option ℕ) → number_of p xs ≡ o → IsTrue (is_some o) → IsTrue (is_some (number_of p (xs ++ ys)))
    at None is s = absurd (false≢true s)
    at (Some n) is s = ap is_some (number_stays p xs ys n is)

module _ (names more : Tables) (grow : NamesGrow names more) where
  -- terms keep their number
  pub terms_keep : (s : ℕ) (terms : Terms) → IsTrue (is_some (terms_number names s terms)) → IsTrue (is_some (terms_number more s terms))
  terms_keep s terms some = subst (λ (l : List TermsName). IsTrue (is_some (number_of (is_that_terms s terms) l))) (sym grow.terms) (some_stays (is_that_terms s terms) names.terms grow.new_terms some)

  space_keeps : (s : ℕ) → IsTrue (is_some (numbered names.spaces s)) → numbered more.spaces s ≡ numbered names.spaces s
  space_keeps s some = ap (λ (l : List ProtectionSpace). numbered l s) grow.spaces ∙ numbered-append names.spaces grow.new_spaces s some

  -- terms stay at home
  pub home_stays : (s : ℕ) (terms : Terms) → IsTrue (is_home names s terms) → IsTrue (is_home more s terms)
  home_stays s terms home =
      ap (λ (o : Option ProtectionSpace). unwrap_or (option_map (λ (space : ProtectionSpace). same_scheme space.scheme Digest && bytes_eq space.realm terms.realm) o) false) (space_keeps s (some_of_test _ _ home)) ∙ home

  -- a nonce keeps its number
  pub nonce_keeps : (s : ℕ) (terms : Terms) → IsTrue (is_some (numbered names.nonces (nonce_for names s terms))) → IsTrue (is_some (numbered more.nonces (nonce_for more s terms)))
  nonce_keeps s terms known = at (numbered names.spaces s) refl known
    where
      stays : (space : ProtectionSpace) → numbered more.spaces s ≡ Some space → (o : Option ℕ) → number_of (is_that_nonce space.site terms.nonce) names.nonces ≡ o → IsTrue (is_some (numbered names.nonces (unwrap_or o (length names.nonces + 1)))) → IsTrue (is_some (numbered more.nonces (nonce_for more s terms)))
      stays space is None none k = let range = numbered_in names.nonces (length names.nonces + 1) k in absurd (omega (arith, range.1))
      stays space is (Some n) found k =
          let later : number_of (is_that_nonce space.site terms.nonce) more.nonces ≡ Some n = ap (number_of (is_that_nonce space.site terms.nonce)) grow.nonces ∙ number_stays (is_that_nonce space.site terms.nonce) names.nonces grow.new_nonces n found in
          let number : nonce_for more s terms ≡ n = ap (λ (o : Option ProtectionSpace). unwrap_or (option_map (λ (space : ProtectionSpace). nonce_number more space.site terms.nonce) o) 0) is ∙ ap (λ o. unwrap_or o (length more.nonces + 1)) later in
          let there = first_numbered (is_that_nonce space.site terms.nonce) names.nonces n found in
          ap (λ m. is_some (numbered more.nonces m)) number
          ∙ (ap (λ (l : List NonceName). is_some (numbered l n)) grow.nonces ∙ (ap is_some (numbered-append names.nonces grow.new_nonces n (ap is_some there.is_there)) ∙ ap is_some there.is_there))

      at : (o : Option ProtectionSpace) → numbered names.spaces s ≡ o → IsTrue (is_some (numbered names.nonces (unwrap_or (option_map (λ (space : ProtectionSpace). nonce_number names space.site terms.nonce) o) 0))) → IsTrue (is_some (numbered more.nonces (nonce_for more s terms)))
      at None is k = absurd (false≢true k)
      at (Some space) is k = stays space (space_keeps s (ap is_some is) ∙ is) (number_of (is_that_nonce space.site terms.nonce) names.nonces) refl k
