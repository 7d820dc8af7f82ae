-- What a call and a new name do to the callers' shares of names.
use Rattle.std.proofs.Common.{◌≡◌, ℕ, ◌+◌, ◌*◌, ◌<◌, ◌≤◌, ◌⊎◌, Bool, true, false, cond, List, [], ◌∷◌, ◌++◌, length, drop, refl, ap, sym, subst, ◌∙◌, arith, inl, inr, Option, Some, None}
use Rattle.std.specs.Prelude.{All, IsTrue, ◌==◌, ◌&&◌, is_some, count_by, nat_le, nat_lt, reverse}
use Rattle.std.specs.List.{cons_option, fold}
use mathlib.Core.List.{IsPrefix}
use Rattle.std.proofs.lemmas.Bool.{false≢true, le-leb, ltb-true}
use Rattle.std.proofs.lemmas.List.{append-nil}
use Rattle.std.proofs.lemmas.List.Sums.{sum_by-append, sum_by-cons}
use Rattle.std.proofs.lemmas.List.Elements.{All-nil, All-cons, All-head, All-tail, All-push, filter_map-append}
use Rattle.std.proofs.lemmas.List.Prefix.{front_rest}
use Rattle.spaces.specs.Sites.{numbered}
use Rattle.spaces.specs.ProtectionSpaces.{ProtectionSpace}
use Rattle.spaces.specs.declared.roster.Roster.{Roster}
use Rattle.spaces.specs.declared.terms.Terms.{Terms}
use Rattle.auth_text.specs.Login.{Login}
use Rattle.auth_events.specs.declared.journal.Entry.{Entry}
use Rattle.auth_events.specs.declared.names.TermsName.{TermsName}
use Rattle.auth_events.specs.declared.told.Told.{Told}
use Rattle.auth_events.specs.declared.told.Told.TheVariants.{Made, SpaceNamed, TermsNamed, TextNamed}
use Rattle.auth_events.specs.Tables.{Tables, is_home, no_names, nonce_for, space_number, terms_number}
use Rattle.auth_events.specs.Pages.{IsPage}
use Rattle.auth_events.specs.Book.{IsLegalPast, epoch}
use Rattle.auth_events.specs.Told.{MayNameSpace, MayNameTerms, entry_told, is_pending, journal, names_told, past, told_after, told_space, told_terms, with_told}
use Rattle.auth_events.proofs.Legal.{All-reverse}
use Rattle.auth_events.proofs.Numbers.{both, numbered_in}
use Rattle.auth_events.proofs.Same.{number_same, number_refl}
use Rattle.auth_events.proofs.MoreNames.{Extends, epoch-same}
use Rattle.auth_events.proofs.Naming.{named_space, unnamed_space}
use Rattle.book_laws.specs.Owners.{AddsOwn, IsOwned, IsOwnedItem, items_of, maker}
use Rattle.book_laws.specs.Shares.{HasSpaceLeft, HasTermsLeft, HasTextLeft, IsNamedBy, IsWithinShare, IsWithinShares, begins_request, begun, names_nonce, names_space, names_terms, names_text, nonces_behind, nonces_named, spaces_named, terms_named, texts_named}
use Rattle.book_laws.proofs.Growing.{NamesGrow, grow_told, home_stays, nonce_keeps, terms_keep}
use Rattle.book_laws.proofs.Lifting.{extends_more, filter-append, nothing_added}
use Rattle.book_laws.proofs.Counting.{room_for_nonce, room_for_space, room_for_terms, room_for_text}

-- what is left of the caller's share once it has made the item
abbrev IsLeft : List Told → ℕ → Told → Type 0
IsLeft told c item =
    (spaces_named (items_of c told) + cond (names_space item) 1 0 ≤ 64 * begun (items_of c told))
    × (terms_named (items_of c told) + cond (names_terms item) 1 0 ≤ 64 * begun (items_of c told))
    × (texts_named (items_of c told) + cond (names_text item) 1 0 ≤ 64 * begun (items_of c told))
    × (nonces_named c told + cond (names_nonce (names_told told) item) 1 0 ≤ 16 * begun (items_of c told))

-- the items of a caller, with one item more
items-push : (c : ℕ) (told : List Told) (item : Told) → items_of c (told ++ item ∷ []) ≡ items_of c told ++ cond (maker item == c) (item ∷ []) []
items-push c told item = filter-append (λ x. maker x == c) told (item ∷ [])

count-push : (p : Told → Bool) (c : ℕ) (told : List Told) (item : Told) → count_by p (items_of c (told ++ item ∷ [])) ≡ count_by p (items_of c told) + cond (maker item == c) (cond (p item) 1 0) 0
count-push p c told item = ap (count_by p) (items-push c told item) ∙ (sum_by-append (λ x. cond (p x) 1 0) (items_of c told) (cond (maker item == c) (item ∷ []) []) ∙ ap (λ n. count_by p (items_of c told) + n) (one (maker item == c)))
  where
    one : (b : Bool) → count_by p (cond b (item ∷ []) []) ≡ cond b (cond (p item) 1 0) 0
    one true = sum_by-cons (λ x. cond (p x) 1 0) item [] ∙ omega arith
    one false = refl

-- what the caller's terms number of nonces
nonces-append : (c : ℕ) (names : Tables) (told more : List Told) → nonces_behind c names (told ++ more) ≡ nonces_behind c names told + nonces_behind c (fold with_told names told) more
nonces-append c names [] more = omega arith
nonces-append c names (item ∷ told) more = omega (arith, nonces-append c (with_told names item) told more)

nonces-push : (c : ℕ) (told : List Told) (item : Told) → nonces_named c (told ++ item ∷ []) ≡ nonces_named c told + cond (maker item == c) (cond (names_nonce (names_told told) item) 1 0) 0
nonces-push c told item = omega (arith, nonces-append c no_names told (item ∷ []))

-- items of others number none
nonces-none : (c : ℕ) (names : Tables) (more : List Told) → items_of c more ≡ [] → nonces_behind c names more ≡ 0
nonces-none c names [] none = refl
nonces-none c names (item ∷ more) none = at (maker item == c) none (nonces-none c (with_told names item) more)
  where
    at : (b : Bool) → cond b (item ∷ items_of c more) (items_of c more) ≡ [] → (items_of c more ≡ [] → nonces_behind c (with_told names item) more ≡ 0) → cond b (cond (names_nonce names item) 1 0) 0 + nonces_behind c (with_told names item) more ≡ 0
    at true gone rest = absurd (omega (arith, ap length gone))
    at false gone rest = omega (arith, rest gone)

-- what a caller has named of nonces stands in what it has seen
pub nonces_seen : (c : ℕ) (seen told : List Told) → IsPrefix seen told → items_of c told ≡ items_of c seen → nonces_named c told ≡ nonces_named c seen
nonces_seen c seen told kept mine =
    let more = kept.0 in
    let none = nothing_added (items_of c seen) (items_of c more) (sym (filter-append (λ item. maker item == c) seen more) ∙ (ap (items_of c) kept.1 ∙ mine)) in
    sym (ap (nonces_named c) kept.1) ∙ omega (arith, nonces-append c no_names seen more, nonces-none c (names_told seen) more none)

weighs : (b : Bool) (w : ℕ) → b ≡ true → cond b w 0 ≡ w
weighs b w is = ap (λ x. cond {A = ℕ} x w 0) is

weighs_not : (b : Bool) (w : ℕ) → b ≡ false → ◌≡◌ {A = ℕ} (cond b w 0) 0
weighs_not b w is = ap (λ x. cond {A = ℕ} x w 0) is

-- one item more, by a caller that had it left
share_push : (told : List Told) (item : Told) (c : ℕ) → IsWithinShare told c → (maker item ≡ c → IsLeft told c item) → IsWithinShare (told ++ item ∷ []) c
share_push told item c within own = at (maker item == c) refl
  where
    counted : (p : Told → Bool) → count_by p (items_of c (told ++ item ∷ [])) ≡ count_by p (items_of c told) + cond (maker item == c) (cond (p item) 1 0) 0
    counted p = count-push p c told item

    at : (b : Bool) → (maker item == c) ≡ b → IsWithinShare (told ++ item ∷ []) c
    at true same =
        let left = own (number_same (maker item) c same) in
        let w = λ (p : Told → Bool). weighs (maker item == c) (cond (p item) 1 0) same in (
          omega (arith, counted names_space, counted begins_request, w names_space, left.0),
          omega (arith, counted names_terms, counted begins_request, w names_terms, left.1),
          omega (arith, counted names_text, counted begins_request, w names_text, left.2),
          omega (arith, nonces-push c told item, counted begins_request, weighs (maker item == c) (cond (names_nonce (names_told told) item) 1 0) same, left.3),
        )
    at false other =
        let w = λ (p : Told → Bool). weighs_not (maker item == c) (cond (p item) 1 0) other in (
          omega (arith, counted names_space, counted begins_request, w names_space, within.0),
          omega (arith, counted names_terms, counted begins_request, w names_terms, within.1),
          omega (arith, counted names_text, counted begins_request, w names_text, within.2),
          omega (arith, nonces-push c told item, counted begins_request, weighs_not (maker item == c) (cond (names_nonce (names_told told) item) 1 0) other, within.3),
        )

-- an entry names nothing
pub shares_after : (told more : List Told) (entry : Entry) → IsWithinShares told → more ≡ told_after told entry → IsWithinShares more
shares_after told more entry within after = at (is_pending entry.reply) after
  where
    at : (b : Bool) → more ≡ cond b told (told ++ Made entry ∷ []) → IsWithinShares more
    at true same = subst IsWithinShares (sym same) within
    at false same =
        subst IsWithinShares (sym same)
        (λ c. share_push told (Made entry) c (within c) (λ is. (omega (arith, (within c).0), omega (arith, (within c).1), omega (arith, (within c).2), omega (arith, (within c).3))))

-- a name of one caller leaves the others' shares
pub shares_named : (number : ℕ) (told more : List Told) → IsWithinShares told → IsNamedBy number told more → IsWithinShares more
shares_named number told more within (inl same) = subst IsWithinShares (sym same) within
shares_named number told more within (inr adds) = λ c. at c (number == c) refl
  where
    at : (c : ℕ) (b : Bool) → (number == c) ≡ b → IsWithinShare more c
    at c true same = subst (IsWithinShare more) (number_same number c same) adds.within
    at c false other =
        subst (λ (l : List Told). IsWithinShare l c) (sym adds.grows)
        (share_push told adds.item c (within c) (λ is. absurd (false≢true (sym other ∙ (ap (λ k. number == k) (sym is ∙ adds.own) ∙ number_refl number)))))

-- a space that has its number keeps it
number_kept : (names more : Tables) (space : ProtectionSpace) → Extends names more → IsTrue (is_some (space_number names space)) → IsTrue (is_some (space_number more space))
number_kept names more space ext some = at (space_number names space) refl some
  where
    found : (n : ℕ) → numbered more.spaces n ≡ Some space → (o : Option ℕ) → space_number more space ≡ o → IsTrue (is_some o)
    found n there None is = absurd (unnamed_space more space is n there)
    found n there (Some m) is = refl

    at : (o : Option ℕ) → space_number names space ≡ o → IsTrue (is_some o) → IsTrue (is_some (space_number more space))
    at None is s = absurd (false≢true s)
    at (Some n) is s =
        let there = named_space names space n is in
        found n (ext.spaces n (ap is_some there) ∙ there) (space_number more space) refl

-- WHAT A CALLER MAY NAME BY WHAT IT HAS SEEN, it may name by all that was told, and the book may name it

module _ (c : ℕ) (seen told : List Told) (kept : IsPrefix seen told) where
  grown_names : NamesGrow (names_told seen) (names_told told)
  grown_names = subst (λ (l : List Told). NamesGrow (names_told seen) (names_told l)) kept.1 (grow_told seen kept.0)

  pub space_left_now : (mine : List Told) (space : ProtectionSpace) → HasSpaceLeft mine seen space → HasSpaceLeft mine told space
  space_left_now mine space (inl left) = inl left
  space_left_now mine space (inr named) =
      inr (number_kept (names_told seen) (names_told told) space (subst (λ (l : List Told). Extends (names_told seen) (names_told l)) kept.1 (extends_more seen kept.0)) named)

  pub terms_left_now : (mine : List Told) (s : ℕ) (terms : Terms) → items_of c told ≡ items_of c seen → HasTermsLeft c mine seen s terms → HasTermsLeft c mine told s terms
  terms_left_now mine s terms own (inl (left, inl nonce)) = inl (left, inl (omega (arith, nonce, nonces_seen c seen told kept own)))
  terms_left_now mine s terms own (inl (left, inr known)) = inl (left, inr (nonce_keeps (names_told seen) (names_told told) grown_names s terms known))
  terms_left_now mine s terms own (inr named) = inr (terms_keep (names_told seen) (names_told told) grown_names s terms named)

  pub home_now : (s : ℕ) (terms : Terms) → IsTrue (is_home (names_told seen) s terms) → IsTrue (is_home (names_told told) s terms)
  home_now s terms home = home_stays (names_told seen) (names_told told) grown_names s terms home

module _ (roster : Roster) (callers number : ℕ) (told : List Told) (legal : IsLegalPast roster (names_told told) (past told)) (owned : IsOwned callers told) (within : IsWithinShares told) (low : 1 ≤ number) (high : number ≤ callers) where
  pub may_name_space : (space : ProtectionSpace) → HasSpaceLeft (items_of number told) told space → MayNameSpace roster (names_told told) space
  may_name_space space (inl left) = inl (room_for_space roster callers told legal (omega arith) owned within number low high left)
  may_name_space space (inr named) = inr named

  pub may_name_terms : (s : ℕ) (terms : Terms) → HasTermsLeft number (items_of number told) told s terms → MayNameTerms roster (names_told told) s terms
  may_name_terms s terms (inl (left, inl nonce)) = inl (room_for_terms roster callers told legal (omega arith) owned within number low high left, inl (room_for_nonce roster callers told legal (omega arith) owned within number low high nonce))
  may_name_terms s terms (inl (left, inr known)) = inl (room_for_terms roster callers told legal (omega arith) owned within number low high left, inr known)
  may_name_terms s terms (inr named) = inr named

  pub may_name_text : HasTextLeft (items_of number told) → length (names_told told).texts < 64 * length roster.requests
  may_name_text left = room_for_text roster callers told legal (omega arith) owned within number low high left

-- A NEW NAME, or none

module _ (number : ℕ) (told : List Told) (within : IsWithinShares told) where
  pub space_named_by : (space : ProtectionSpace) → HasSpaceLeft (items_of number told) told space → IsNamedBy number told (told_space number (names_told told) told space)
  space_named_by space may = at (is_some (space_number (names_told told) space)) refl may
    where
      at : (b : Bool) → is_some (space_number (names_told told) space) ≡ b → HasSpaceLeft (items_of number told) told space → IsNamedBy number told (cond b told (told ++ SpaceNamed number space ∷ []))
      at true is either = inl refl
      at false is (inr named) = absurd (false≢true (sym is ∙ named))
      at false is (inl left) = inr (record {
        item = SpaceNamed number space;
        name = refl;
        own = refl;
        grows = refl;
        within = share_push told (SpaceNamed number space) number (within number) (λ same. (omega (arith, left), omega (arith, (within number).1), omega (arith, (within number).2), omega (arith, (within number).3)));
      })

  pub terms_named_by : (s : ℕ) (terms : Terms) → HasTermsLeft number (items_of number told) told s terms → IsNamedBy number told (told_terms number (names_told told) told s terms)
  terms_named_by s terms may = at (is_some (terms_number (names_told told) s terms)) refl may
    where
      names : Tables
      names = names_told told

      name : TermsName
      name = record { space = s; terms = terms; nonce = nonce_for names s terms }

      old_nonce : (b : Bool) → nat_lt (length names.nonces) (nonce_for names s terms) ≡ b → IsTrue (is_some (numbered names.nonces (nonce_for names s terms))) → ◌≡◌ {A = ℕ} (cond b 1 0) 0
      old_nonce true is known = absurd (omega (arith, ltb-true (length names.nonces) (nonce_for names s terms) is, (numbered_in names.nonces (nonce_for names s terms) known).1))
      old_nonce false is known = refl

      at_most : (b : Bool) → cond b 1 0 ≤ 1
      at_most true = omega arith
      at_most false = omega arith

      nonces : ((nonces_named number told < 16 * begun (items_of number told)) ⊎ IsTrue (is_some (numbered names.nonces (nonce_for names s terms)))) → nonces_named number told + cond (nat_lt (length names.nonces) (nonce_for names s terms)) 1 0 ≤ 16 * begun (items_of number told)
      nonces (inl left) = omega (arith, left, at_most (nat_lt (length names.nonces) (nonce_for names s terms)))
      nonces (inr known) = omega (arith, (within number).3, old_nonce (nat_lt (length names.nonces) (nonce_for names s terms)) refl known)

      at : (b : Bool) → is_some (terms_number names s terms) ≡ b → HasTermsLeft number (items_of number told) told s terms → IsNamedBy number told (cond b told (told ++ TermsNamed number name ∷ []))
      at true is either = inl refl
      at false is (inr named) = absurd (false≢true (sym is ∙ named))
      at false is (inl left) = inr (record {
        item = TermsNamed number name;
        name = refl;
        own = refl;
        grows = refl;
        within = share_push told (TermsNamed number name) number (within number) (λ same. (omega (arith, (within number).0), omega (arith, left.0), omega (arith, (within number).2), nonces left.1));
      })

  pub text_named_by : (text : Login) → HasTextLeft (items_of number told) → IsNamedBy number told (told ++ TextNamed number text ∷ [])
  text_named_by text left = inr (record {
    item = TextNamed number text;
    name = refl;
    own = refl;
    grows = refl;
    within = share_push told (TextNamed number text) number (within number) (λ same. (omega (arith, (within number).0), omega (arith, (within number).1), omega (arith, left), omega (arith, (within number).3)));
  })

-- WHAT IS LEFT BY A NAMING

pub adds_none : (number : ℕ) (told : List Told) → AddsOwn number told told
adds_none number told = record { items = []; grows = append-nil told; own = All-nil (λ item. maker item ≡ number) }

-- epochs don't change by names
pub epochs_grown : (roster : Roster) (number n : ℕ) (told more : List Told) → AddsOwn number told more → journal more ≡ journal told → IsLegalPast roster (names_told told) (past told) → (requests : ℕ) → All (IsPage requests) (journal told) → epoch (names_told more) (past more) n ≡ epoch (names_told told) (past told) n
epochs_grown roster number n told more adds same legal requests pages =
    let ext = subst (λ (l : List Told). Extends (names_told told) (names_told l)) adds.grows (extends_more told adds.items) in
    ap (λ (j : List Entry). epoch (names_told more) (reverse j) n) same
    ∙ sym (epoch-same roster (names_told told) (names_told more) ext requests (past told) (All-reverse (IsPage requests) (journal told) pages) legal n)

own-all : (number : ℕ) (items : List Told) → All (λ item. maker item ≡ number) items → items_of number items ≡ items
own-all number [] own = refl
own-all number (item ∷ items) own =
    ap (λ b. cond b (item ∷ items_of number items) (items_of number items)) (subst (λ k. IsTrue (maker item == k)) (All-head (λ x. maker x ≡ number) item items own) (number_refl (maker item)))
    ∙ ap (λ (l : List Told). item ∷ l) (own-all number items (All-tail (λ x. maker x ≡ number) item items own))

-- what a turn asks of what was added
module _ (number : ℕ) (told more : List Told) (adds : AddsOwn number told more) where
  pub added_is : drop (length told) more ≡ adds.items
  added_is = front_rest more told adds.items (sym adds.grows)

  pub added_own : All (λ item. maker item ≡ number) (drop (length told) more)
  added_own = subst (All (λ item. maker item ≡ number)) (sym added_is) adds.own

  pub mine_grown : items_of number told ++ drop (length told) more ≡ items_of number more
  mine_grown =
      ap (λ (l : List Told). items_of number told ++ l) (added_is ∙ sym (own-all number adds.items adds.own))
      ∙ sym (ap (items_of number) (sym adds.grows) ∙ filter-append (λ item. maker item == number) told adds.items)

module _ (callers number : ℕ) (told more : List Told) (low : 1 ≤ number) (high : number ≤ callers) where
  pub named_adds : IsNamedBy number told more → AddsOwn number told more
  named_adds (inl same) = subst (AddsOwn number told) (sym same) (adds_none number told)
  named_adds (inr adds) = record { items = adds.item ∷ []; grows = sym adds.grows; own = All-cons (λ item. maker item ≡ number) adds.item [] adds.own (All-nil (λ item. maker item ≡ number)) }

  pub named_journal : IsNamedBy number told more → journal more ≡ journal told
  named_journal (inl same) = ap journal same
  named_journal (inr adds) =
      ap journal adds.grows
      ∙ (filter_map-append entry_told told (adds.item ∷ []) ∙ (ap (λ (o : Option Entry). journal told ++ cons_option o []) adds.name ∙ append-nil (journal told)))

  pub named_owned : IsOwned callers told → IsNamedBy number told more → IsOwned callers more
  named_owned owned (inl same) = subst (IsOwned callers) (sym same) owned
  named_owned owned (inr adds) = subst (IsOwned callers) (sym adds.grows) (All-push (IsOwnedItem callers) told adds.item owned (one adds.item adds.name adds.own))
    where
      in_range : (k : ℕ) → k ≡ number → IsTrue (nat_le 1 k && nat_le k callers)
      in_range k is = both (nat_le 1 k) (nat_le k callers) (le-leb 1 k (omega (arith, is, low))) (le-leb k callers (omega (arith, is, high)))

      one : (item : Told) → entry_told item ≡ None → maker item ≡ number → IsOwnedItem callers item
      one (Made entry) name own = let clash : Some entry ≡ None = name in cc
      one (SpaceNamed caller space) name own = in_range caller own
      one (TermsNamed caller terms) name own = in_range caller own
      one (TextNamed caller text) name own = in_range caller own
