-- What one call does to the told list, to the epochs and to the numbers that are kept beside them.
use Rattle.std.proofs.Common.{◌≡◌, ℕ, ◌+◌, ◌<◌, ◌≤◌, Bool, true, false, cond, List, [], ◌∷◌, ◌++◌, length, drop, refl, ap, sym, subst, ◌∙◌, arith, length-append, Option, Some, None}
use Rattle.std.specs.Prelude.{All, IsTrue, ◌==◌, is_some, option_map, unwrap_or, find}
use Rattle.std.specs.List.{fold}
use mathlib.Core.List.{IsPrefix}
use Rattle.std.proofs.lemmas.Bool.{false≢true}
use Rattle.std.proofs.lemmas.List.{append-nil}
use Rattle.std.proofs.lemmas.List.Elements.{All-nil, All-cons, All-push, filter_map-append}
use Rattle.std.proofs.lemmas.List.Prefix.{front_rest}
use Rattle.spaces.specs.Sites.{numbered}
use Rattle.spaces.specs.ProtectionSpaces.{ProtectionSpace}
use Rattle.spaces.specs.declared.roster.Roster.{Roster}
use Rattle.auth_events.specs.declared.journal.Entry.{Entry}
use Rattle.auth_events.specs.declared.names.TermsName.{TermsName}
use Rattle.auth_events.specs.declared.names.NonceName.{NonceName}
use Rattle.auth_events.specs.declared.told.Told.{Told}
use Rattle.auth_events.specs.declared.told.Told.TheVariants.{Made, SpaceNamed, TermsNamed, TextNamed}
use Rattle.auth_events.specs.Tables.{Tables, AreNames, no_names}
use Rattle.auth_events.specs.Past.{spaces_given, terms}
use Rattle.auth_events.specs.Book.{IsLegalPast, IsStep, epoch, is_left, nonce_of, retired, takes_out}
use Rattle.auth_events.specs.Told.{entry_told, is_pending, journal, names_told, past, retired_by, told_after, with_told}
use Rattle.auth_events.proofs.Numbers.{numbered_in, some_of_test}
use Rattle.auth_events.proofs.Same.{number_same, number_refl}
use Rattle.history_laws.proofs.Leaving.{takes_out_retired}
use Rattle.history_laws.proofs.Retiring.{retired_takes_out}
use Rattle.book_laws.specs.Owners.{AddsOwn, IsOwned, IsOwnedItem, maker, owner}
use Rattle.book_laws.proofs.Lifting.{past-append, filter-append}

-- LENGTHS

abbrev sizes : Tables → ℕ
sizes names = length names.spaces + length names.terms + length names.texts

told-sizes : (names : Tables) (told : List Told) → length told + sizes names ≡ length (journal told) + sizes (fold with_told names told)
told-sizes names [] = omega arith
told-sizes names (Made entry ∷ told) = omega (arith, told-sizes names told)
told-sizes names (SpaceNamed caller space ∷ told) = omega (arith, told-sizes (with_told names (SpaceNamed caller space)) told, length-append names.spaces (space ∷ []))
told-sizes names (TermsNamed caller name ∷ told) = omega (arith, told-sizes (with_told names (TermsNamed caller name)) told, length-append names.terms (name ∷ []))
told-sizes names (TextNamed caller text ∷ told) = omega (arith, told-sizes (with_told names (TextNamed caller text)) told, length-append names.texts (text ∷ []))

-- a told list is as long as its journal and its names
pub told-length : (names : Tables) (told : List Told) → names_told told ≡ names → length told ≡ length (journal told) + length names.spaces + length names.terms + length names.texts
told-length names told same = omega (arith, told-sizes no_names told, ap sizes same)

-- THE NONCE THAT IS TAKEN OUT

-- an epoch rises by one where the entry retires its nonce
epoch-step : (roster : Roster) (names : Tables) (before : List Entry) (entry : Entry) → IsStep roster names before entry → (n : ℕ) → 0 < n → epoch names (entry ∷ before) n ≡ epoch names before n + cond (retired names entry before == n) 1 0
epoch-step roster names before entry step n some = at (takes_out names entry before n) refl (retired names entry before == n) refl
  where
    at : (b : Bool) → takes_out names entry before n ≡ b → (a : Bool) → (retired names entry before == n) ≡ a → cond b 1 0 + epoch names before n ≡ epoch names before n + cond a 1 0
    at true out true same = omega arith
    at false out false same = omega arith
    at true out false same = absurd (false≢true (sym same ∙ subst (λ m. IsTrue (retired names entry before == m)) (takes_out_retired roster names before entry step n out) (number_refl (retired names entry before))))
    at false out true same = absurd (false≢true (sym out ∙ retired_takes_out names before entry n (λ zero_is. omega (arith, zero_is, some)) (number_same (retired names entry before) n same)))

nonce_within : (names : Tables) → AreNames names → (t : ℕ) → nonce_of names t ≤ length names.nonces
nonce_within names kept t = at (numbered names.terms t) refl
  where
    some-mapped : (name : TermsName) (o : Option ProtectionSpace) → IsTrue (is_some o) → IsTrue (is_some {T = NonceName} (option_map (λ space. record { site = space.site; text = name.terms.nonce }) o))
    some-mapped name None some = absurd (false≢true some)
    some-mapped name (Some space) some = refl

    at : (o : Option TermsName) → numbered names.terms t ≡ o → unwrap_or (option_map (λ (name : TermsName). name.nonce) o) 0 ≤ length names.nonces
    at None is = omega arith
    at (Some name) is =
        let home = kept.home name t is in
        (numbered_in names.nonces name.nonce (ap is_some home.nonce ∙ some-mapped name (numbered names.spaces name.space) (some_of_test _ _ home.home))).1

retired_within : (names : Tables) → AreNames names → (entry : Entry) (before : List Entry) → retired names entry before ≤ length names.nonces
retired_within names kept entry before = at (find (λ s. is_left names before (entry ∷ before) (nonce_of names (terms before s)) s) (spaces_given before))
  where
    at : (o : Option ℕ) → unwrap_or (option_map (λ s. nonce_of names (terms before s)) o) 0 ≤ length names.nonces
    at None = omega arith
    at (Some s) = nonce_within names kept (terms before s)

-- ONE CALL

pub past-push : (told : List Told) (entry : Entry) → past (told ++ Made entry ∷ []) ≡ entry ∷ past told
past-push told entry = past-append told (Made entry ∷ [])

module _ (names : Tables) (told more : List Told) (entry : Entry) (out : ℕ) (after : more ≡ told_after told entry) (out_is : out ≡ retired_by names (past told) entry) where
  pub out_within : AreNames names → out ≤ length names.nonces
  out_within kept = subst (λ n. n ≤ length names.nonces) (sym out_is) (at (is_pending entry.reply))
    where
      at : (b : Bool) → cond b 0 (retired names entry (past told)) ≤ length names.nonces
      at true = omega arith
      at false = retired_within names kept entry (past told)

  pub epochs_after : (roster : Roster) → IsLegalPast roster names (past more) → (n : ℕ) → 0 < n → epoch names (past more) n ≡ epoch names (past told) n + cond (out == n) 1 0
  epochs_after roster legal n some = at (is_pending entry.reply) after out_is
    where
      none : (k : ℕ) → k ≡ 0 → (b : Bool) → (k == n) ≡ b → ◌≡◌ {A = ℕ} (cond b 1 0) 0
      none k zero_is true same = absurd (omega (arith, number_same k n same))
      none k zero_is false same = refl

      at : (b : Bool) → more ≡ cond b told (told ++ Made entry ∷ []) → out ≡ cond b 0 (retired names entry (past told)) → epoch names (past more) n ≡ epoch names (past told) n + cond (out == n) 1 0
      at true same is = ap (λ (l : List Told). epoch names (past l) n) same ∙ omega (arith, none out is (out == n) refl)
      at false same is =
          let whole : past more ≡ entry ∷ past told = ap past same ∙ past-push told entry in
          ap (λ (l : List Entry). epoch names l n) whole
          ∙ epoch-step roster names (past told) entry (subst (IsLegalPast roster names) whole legal).1 n some
          ∙ ap (λ k. epoch names (past told) n + cond (k == n) 1 0) (sym is)

  pub counted_after : length (journal told) + cond (out == 0) 0 1 ≤ length (journal more)
  counted_after = at (is_pending entry.reply) after out_is
    where
      at : (b : Bool) → more ≡ cond b told (told ++ Made entry ∷ []) → out ≡ cond b 0 (retired names entry (past told)) → length (journal told) + cond (out == 0) 0 1 ≤ length (journal more)
      at true same is = omega (arith, ap (λ (l : List Told). length (journal l)) same, ap (λ k. cond {A = ℕ} (k == 0) 0 1) is)
      at false same is =
          omega (arith, at_most (out == 0), ap (λ (l : List Told). length (journal l)) same, ap length (filter_map-append entry_told told (Made entry ∷ [])), length-append (journal told) (entry ∷ []))
        where
          at_most : (b : Bool) → cond b 0 1 ≤ 1
          at_most true = omega arith
          at_most false = omega arith

  pub owned_after : (callers : ℕ) → IsOwned callers told → entry.caller ≡ owner callers entry.request → IsOwned callers more
  owned_after callers owned home = at (is_pending entry.reply) after
    where
      at : (b : Bool) → more ≡ cond b told (told ++ Made entry ∷ []) → IsOwned callers more
      at true same = subst (IsOwned callers) (sym same) owned
      at false same = subst (IsOwned callers) (sym same) (All-push (IsOwnedItem callers) told (Made entry) owned (subst (λ k. IsTrue (entry.caller == k)) home (number_refl entry.caller)))

-- what a call adds is its caller's
pub adds_after : (told more : List Told) (entry : Entry) → more ≡ told_after told entry → AddsOwn entry.caller told more
adds_after told more entry after = at (is_pending entry.reply) after
  where
    at : (b : Bool) → more ≡ cond b told (told ++ Made entry ∷ []) → AddsOwn entry.caller told more
    at true same = record { items = []; grows = append-nil told ∙ sym same; own = All-nil (λ item. maker item ≡ entry.caller) }
    at false same = record { items = Made entry ∷ []; grows = sym same; own = All-cons (λ item. maker item ≡ entry.caller) (Made entry) [] refl (All-nil (λ item. maker item ≡ entry.caller)) }

-- a list of the caller's own grows by the same
pub items_after : (told more : List Told) (entry : Entry) (after : more ≡ told_after told entry) (mine : List Told) → mine ++ (adds_after told more entry after).items ≡ told_after mine entry
items_after told more entry after mine =
    ap (λ (l : List Told). mine ++ l) (sym (front_rest more told (adds_after told more entry after).items (sym (adds_after told more entry after).grows))) ∙ at (is_pending entry.reply) after
  where
    at : (b : Bool) → more ≡ cond b told (told ++ Made entry ∷ []) → mine ++ drop (length told) more ≡ cond b mine (mine ++ Made entry ∷ [])
    at true same = ap (λ (l : List Told). mine ++ l) (front_rest more told [] (same ∙ sym (append-nil told))) ∙ append-nil mine
    at false same = ap (λ (l : List Told). mine ++ l) (front_rest more told (Made entry ∷ []) same)
