-- A book that decides by an index which stands for its journal.
use Rattle.std.proofs.Common.{◌≡◌, ℕ, ◌+◌, ◌≤◌, Bool, true, false, cond, List, [], ◌∷◌, ◌++◌, length, refl, ap, sym, subst, ◌∙◌, Option, Some, None}
use Rattle.std.proofs.Math.Logic.{∥∥₁_elim, ∥∥₁_map}
use Rattle.std.proofs.Props.{props}
use Rattle.std.specs.Coded.{Coded, Coded-set, codes}
use Rattle.std.specs.Prelude.{IfOk, IsTrue, OnErr, OnOk, Result, Ok, Err, is_some, option_map, reverse, unwrap_or}
use Rattle.std.proofs.lemmas.List.{reverse-append}
use Rattle.spaces.specs.declared.roster.Roster.{Roster}
use Rattle.auth_events.specs.declared.journal.Entry.{Entry}
use Rattle.auth_events.specs.declared.journal.Call.{Call}
use Rattle.auth_events.specs.declared.journal.BookReply.{BookReply}
use Rattle.auth_events.specs.declared.told.NewName.{NewName}
use Rattle.auth_text.specs.Login.{Login}
use Rattle.spaces.specs.ProtectionSpaces.{ProtectionSpace}
use Rattle.spaces.specs.declared.terms.Terms.{Terms}
use Rattle.spaces.specs.Sites.{numbered}
use Rattle.auth_events.proofs.Numbers.{numbered-last}
use Rattle.auth_book.proofs.Parts.{pushed_length}
use Rattle.auth_events.specs.declared.names.TermsName.{TermsName}
use Rattle.auth_events.specs.Tables.{AreNames, Tables, nonce_for, space_number, terms_number, with_new_space, with_new_terms, with_space, with_terms, with_text}
use Rattle.auth_events.specs.Book.{IsLegalPast, allowed, answer, retired}
use Rattle.auth_events.specs.Told.{is_pending, retired_by}
use Rattle.auth_events.specs.Ledgers.{IsKept}
use Rattle.auth_events.specs.declared.controller.TermsRef.{TermsRef}
use Rattle.auth_events.proofs.Naming.{named_terms, terms_name_is}
use Rattle.auth_events.proofs.LedgerLaws.{are_names, few}
use Rattle.auth_events.proofs.Once.{IsLegalPast-prop}
use Rattle.name_index.specs.declared.index.NameIndex.{NameIndex}
use Rattle.name_index.specs.Found.{KnowsNames, first_of_site}
use Rattle.auth_book.specs.declared.index.BookIndex.{BookIndex}
use Rattle.auth_book.specs.SiteNumbers.{site_no, site_number}
use Rattle.auth_book.specs.Indices.{StandsFor}
use Rattle.auth_book.proofs.AddSpace.{stands_with_terms, stands_with_text}
use Rattle.auth_book.specs.Fits.{AreOfBook, MayDecide, made, past_after}

code_of_reply : Coded BookReply
code_of_reply = Prim.hlevel codes

reply_prop : (a b : BookReply) → IsProp (a ≡ b)
reply_prop = Coded-set code_of_reply

number_prop : (a b : ℕ) → IsProp (a ≡ b)
number_prop a b = Prim.hlevel props

-- what is said of every history
abbrev Says : (Roster → Tables → List Entry → ℕ → Type 0) → BookIndex → ℕ → Call → Roster → Tables → Type 0
Says P index r call roster names =
    (past : List Entry) (caller : ℕ) → IsLegalPast roster names past → StandsFor index roster names past → IsTrue (allowed roster names past caller r call) → P roster names past caller

module _ (roster : Roster) (names : Tables) (log : List NewName) (entries : List Entry) (kept : ∥ IsKept roster names log entries ∥₁) (small : length roster.requests ≤ 2048) (index : BookIndex) (stands : ∥ StandsFor index roster names (reverse entries) ∥₁) (caller r : ℕ) (call : Call) (may : IsTrue (allowed roster names (reverse entries) caller r call)) (roster' : Roster) (names' : Tables) (same_roster : roster' ≡ roster) (same_names : names' ≡ names) where
  legal : IsLegalPast roster names (reverse entries)
  legal = ∥∥₁_elim kept (IsLegalPast-prop roster names (reverse entries)) (λ k. k.legal)

  pub of_book : AreOfBook roster' names'
  of_book =
      subst (λ rs. AreOfBook rs names') (sym same_roster)
      (subst (λ ns. AreOfBook roster ns) (sym same_names)
      (record { are_names = are_names roster names log entries kept; few = few roster names log entries kept; requests = small }))

  pub may_decide : ∥ MayDecide index roster' names' r call ∥₁
  may_decide =
      subst (λ rs. ∥ MayDecide index rs names' r call ∥₁) (sym same_roster)
      (subst (λ ns. ∥ MayDecide index roster ns r call ∥₁) (sym same_names)
      (∥∥₁_map stands (λ there. record { past = reverse entries; caller = caller; legal = legal; stands = there; may = may })))

  said_here : (P : Roster → Tables → List Entry → ℕ → Type 0) → Says P index r call roster' names' → StandsFor index roster names (reverse entries) → P roster names (reverse entries) caller
  said_here P says there =
      subst (λ ns. Says P index r call roster ns) same_names (subst (λ rs. Says P index r call rs names') same_roster says) (reverse entries) caller legal there may

  pub reply_said : (reply : BookReply) → Says (λ rs ns past c. reply ≡ answer rs ns past r call) index r call roster' names' → reply ≡ answer roster names (reverse entries) r call
  reply_said reply says = ∥∥₁_elim stands (reply_prop _ _) (λ there. said_here (λ rs ns past c. reply ≡ answer rs ns past r call) says there)

  pub retired_said : (reply : BookReply) (out : ℕ) → Says (λ rs ns past c. out ≡ retired_by ns past (made c r call reply)) index r call roster' names' → out ≡ cond (is_pending reply) 0 (retired names (made caller r call reply) (reverse entries))
  retired_said reply out says = ∥∥₁_elim stands (number_prop _ _) (λ there. said_here (λ rs ns past c. out ≡ retired_by ns past (made c r call reply)) says there)

  pub stands_said : (reply : BookReply) (after : BookIndex) → Says (λ rs ns past c. StandsFor after rs ns (past_after past (made c r call reply))) index r call roster' names' → ∥ StandsFor after roster names (cond (is_pending reply) (reverse entries) (made caller r call reply ∷ reverse entries)) ∥₁
  stands_said reply after says = ∥∥₁_map stands (λ there. said_here (λ rs ns past c. StandsFor after rs ns (past_after past (made c r call reply))) says there)

  -- the index stands for the journal as it is then
  pub stands_later : (reply : BookReply) (after : BookIndex) → Says (λ rs ns past c. StandsFor after rs ns (past_after past (made c r call reply))) index r call roster' names' → is_pending reply ≡ false → ∥ StandsFor after roster names (reverse (entries ++ made caller r call reply ∷ [])) ∥₁
  stands_later reply after says done =
      subst (λ past. ∥ StandsFor after roster names past ∥₁) (sym (reverse-append entries (made caller r call reply ∷ [])))
      (subst (λ b. ∥ StandsFor after roster names (cond b (reverse entries) (made caller r call reply ∷ reverse entries)) ∥₁) done (stands_said reply after says))

  pub stands_still : (reply : BookReply) (after : BookIndex) → Says (λ rs ns past c. StandsFor after rs ns (past_after past (made c r call reply))) index r call roster' names' → is_pending reply ≡ true → ∥ StandsFor after roster names (reverse entries) ∥₁
  stands_still reply after says waits =
      subst (λ b. ∥ StandsFor after roster names (cond b (reverse entries) (made caller r call reply ∷ reverse entries)) ∥₁) waits (stands_said reply after says)

-- NAMING

module _ (names more : Tables) (space : ProtectionSpace) (unnamed : space_number names space ≡ None) (is : more ≡ with_new_space names space) where
  pub is_more : more ≡ with_space names space
  is_more = is ∙ ap (λ o. cond (is_some o) names (with_space names space)) unnamed

  pub one_more : length more.spaces ≡ length names.spaces + 1
  one_more = ap (λ (ns : Tables). length ns.spaces) is_more ∙ pushed_length names.spaces space

  -- the space that is named is the last one
  pub last_is : numbered more.spaces (length more.spaces) ≡ Some space
  last_is =
      ap (λ (ns : Tables). numbered ns.spaces (length ns.spaces)) is_more
      ∙ (ap (numbered (names.spaces ++ space ∷ [])) (pushed_length names.spaces space) ∙ numbered-last names.spaces space)

  -- the number of its site
  pub last_site : (first : ℕ) → first_of_site (with_space names space).spaces space.site ≡ Some first → first ≡ site_no more (length more.spaces)
  last_site first known =
      sym (ap (λ (o : Option ProtectionSpace). unwrap_or (option_map (λ (one : ProtectionSpace). site_number more one.site) o) 0) last_is
      ∙ (ap (λ (ns : Tables). unwrap_or (first_of_site ns.spaces space.site) 0) is_more ∙ ap (λ (o : Option ℕ). unwrap_or o 0) known))

module _ (roster : Roster) (names : Tables) (log : List NewName) (entries : List Entry) (kept : ∥ IsKept roster names log entries ∥₁) (index : BookIndex) (stands : ∥ StandsFor index roster names (reverse entries) ∥₁) where
  legal_now : IsLegalPast roster names (reverse entries)
  legal_now = ∥∥₁_elim kept (IsLegalPast-prop roster names (reverse entries)) (λ k. k.legal)

  -- the index has a row of each space, and stands for the journal
  abbrev Lasts : Tables → Type 0
  Lasts more = (length names.spaces ≡ length more.spaces) × ∥ StandsFor index roster more (reverse entries) ∥₁

  lasts_same : (more : Tables) → more ≡ names → Lasts more
  lasts_same more is = subst Lasts (sym is) (refl, stands)

  -- whether the names grew or stayed
  pub lasts_after : {T E A : Type 0} (result : Result T E) (more : Tables) → (A → Lasts more) → OnOk result A → OnErr result (more ≡ names) → Lasts more
  lasts_after (Ok x) more grown ok err = grown ok
  lasts_after (Err e) more grown ok err = lasts_same more err

  pub lasts_with_terms : (s : ℕ) (terms : Terms) (more : Tables) → more ≡ with_new_terms names s terms → Lasts more
  lasts_with_terms s terms more is = subst Lasts (sym is) (at (is_some (terms_number names s terms)))
    where
      one : TermsName
      one = record { space = s; terms = terms; nonce = nonce_for names s terms }

      at : (b : Bool) → Lasts (cond b names (with_terms names (record { space = s; terms = terms; nonce = nonce_for names s terms })))
      at true = (refl, stands)
      at false = (refl, ∥∥₁_map stands (λ there. stands_with_terms roster names (are_names roster names log entries kept) (reverse entries) legal_now index there one))

  pub lasts_with_text : (text : Login) (more : Tables) → more ≡ with_text names text → Lasts more
  lasts_with_text text more is =
      subst Lasts (sym is) (refl, ∥∥₁_map stands (λ there. stands_with_text roster names (are_names roster names log entries kept) (reverse entries) legal_now index there text))

  -- a space more is named, and gets its row
  pub lasts_with_space : (space : ProtectionSpace) (more : Tables) (after : BookIndex) → space_number names space ≡ None → more ≡ with_new_space names space
      → ((rs : Roster) (before : Tables) (one : ProtectionSpace) (past : List Entry) → more ≡ with_space before one → AreNames before → IsLegalPast rs before past → StandsFor index rs before past → StandsFor after rs more past)
      → ∥ StandsFor after roster more (reverse entries) ∥₁
  lasts_with_space space more after unnamed is added =
      ∥∥₁_map stands (added roster names space (reverse entries) (is_more names more space unnamed is) (are_names roster names log entries kept) legal_now)

-- WHAT THE MAPS KNOW

-- whether the names grew or stayed
pub known_after : {T E : Type 0} (result : Result T E) (numbers : NameIndex) (names grown more : Tables) → KnowsNames numbers names → KnowsNames numbers grown → OnOk result (more ≡ grown) → OnErr result (more ≡ names) → KnowsNames numbers more
known_after (Ok x) numbers names grown more before after ok err = subst (KnowsNames numbers) (sym ok) after
known_after (Err e) numbers names grown more before after ok err = subst (KnowsNames numbers) (sym err) before

-- terms that have no number get the next one
pub new_terms : (names : Tables) (s : ℕ) (terms : Terms) → terms_number names s terms ≡ None
    → with_new_terms names s terms ≡ with_terms names (record { space = s; terms = terms; nonce = nonce_for names s terms })
new_terms names s terms unnamed =
    ap (λ o. cond (is_some o) names (with_terms names (record { space = s; terms = terms; nonce = nonce_for names s terms }))) unnamed

-- the numbers that are read off the name of terms are those of the terms
pub named_ref : (names : Tables) (s : ℕ) (terms : Terms) (number : ℕ) (found : TermsRef) → terms_number names s terms ≡ Some number → found.terms ≡ number
    → option_map (λ (name : TermsName). name.nonce) (numbered names.terms number) ≡ Some found.nonce
    → numbered names.terms found.terms ≡ Some (record { space = s; terms = terms; nonce = found.nonce })
named_ref names s terms number found is same nonce =
    let its = named_terms names s terms number is in
    let its_nonce : its.0.nonce ≡ found.nonce = let both : Some its.0.nonce ≡ Some found.nonce = sym (ap (option_map (λ (name : TermsName). name.nonce)) its.1) ∙ nonce in cc in
    ap (numbered names.terms) same
    ∙ (its.1 ∙ ap Some (terms_name_is its.0 s terms its.2 its.3 ∙ ap (λ n. record { space = s; terms = terms; nonce = n }) its_nonce))

-- a copy of what was found
pub copied_is : {T E : Type 0} (result : Result T E) (found : T) (o : Option T) → o ≡ Some found → IfOk result (λ copy. copy ≡ found) → IfOk result (λ copy. o ≡ Some copy)
copied_is (Ok copy) found o is same = is ∙ ap Some (sym same)
copied_is (Err e) found o is same = tt
