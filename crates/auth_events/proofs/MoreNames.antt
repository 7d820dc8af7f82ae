-- A legal journal stays legal when things are named anew.
use Rattle.std.proofs.Common.{◌≡◌, ℕ, zero, suc, ◌≤◌, Bool, true, false, not, ◌&&◌, ◌||◌, cond, List, [], ◌∷◌, length, refl, ap, sym, subst, ◌∙◌, inl, inr, arith, length-append, Option, Some, None}
use Rattle.std.specs.Prelude.{All, reverse, IsTrue, ◌==◌, option_map, option_and_then, unwrap_or, is_some, nat_le, bytes_eq, filter}
use Rattle.std.specs.List.{list_any}
use Rattle.std.proofs.lemmas.List.Elements.{All-head, All-tail, All-filter}
use Rattle.spaces.specs.Sites.{numbered, same_origin, same_site}
use Rattle.spaces.specs.declared.roster.Roster.{Roster}
use Rattle.spaces.specs.declared.site.Site.{Site}
use Rattle.spaces.specs.ProtectionSpaces.{ProtectionSpace}
use Rattle.spaces.specs.declared.space.Scheme.{Scheme}
use Rattle.spaces.specs.declared.site.Target.TheVariants.{Server}
use Rattle.auth_events.specs.declared.journal.Gift.{Gift}
use Rattle.auth_events.specs.declared.journal.Entry.{Entry}
use Rattle.auth_events.specs.declared.journal.Call.{Call}
use Rattle.auth_events.specs.declared.journal.Call.TheVariants.{Begin, Preempt, Select, Reject, Renew, Answer, Lose, Take, Note, End, Draw}
use Rattle.auth_events.specs.declared.journal.BookReply.TheVariants.{Ready, Url, Given, Cancelled}
use Rattle.auth_events.specs.Tables.{Tables, with_space, with_terms, with_text}
use Rattle.auth_events.specs.Pages.{IsPage}
use Rattle.auth_events.specs.Past.{age, current, evicted, greatest_by, live, live_rivals, live_spaces, settled, lead, terms, spaces_given}
use Rattle.auth_events.specs.Book.{IsLegalPast, allowed_call, answer, scheme_is, is_digest, target_of, is_of_site, nonce_of, has_terms, fits_space, holds_nonce, is_left, epoch, epoch_of_terms, terms_selected, dirs, found_in, best_found, by_path, is_allowed_origin, choice, is_site_of, space_named, waits, was_told, is_led_by, select_answer, Found, better, is_basic, is_negotiate, path_of, preempt_answer, ready, is_rival, is_of_partition, next_gift, space_of_prompt, Choice}
use Rattle.auth_events.specs.Book.Choice.{ByUrl, ByCache, ByDefault, ByFollowing, ByLeading}
use Rattle.auth_events.specs.declared.names.TermsName.{TermsName}
use Rattle.auth_events.proofs.Numbers.{some_of_test, and_left, and_right, both, numbered-append}
use Rattle.auth_events.proofs.Legal.{All-reverse}
use Rattle.auth_events.proofs.NamedThings.{one_of, nat_le-more, NamesSpace, select_named, step_of, terms_named, given_named, prompt_named}
use Rattle.auth_text.specs.Login.{Login}

-- every number keeps its meaning
pub record Extends (names more : Tables) : Type 0 where
  pub spaces : (s : ℕ) → IsTrue (is_some (numbered names.spaces s)) → numbered more.spaces s ≡ numbered names.spaces s
  pub terms : (t : ℕ) → IsTrue (is_some (numbered names.terms t)) → numbered more.terms t ≡ numbered names.terms t
  pub text : (x : ℕ) → IsTrue (is_some (numbered names.texts x)) → numbered more.texts x ≡ numbered names.texts x
  pub texts : length names.texts ≤ length more.texts

list_any-same : {A : Type 0} (p q : A → Bool) → ((x : A) → p x ≡ q x) → (xs : List A) → list_any p xs ≡ list_any q xs
list_any-same p q same [] = refl
list_any-same p q same (x ∷ xs) = ap (λ b. b || list_any p xs) (same x) ∙ ap (λ b. q x || b) (list_any-same p q same xs)

best_found-same : (p q : ℕ → Option Found) (P : ℕ → Type 0) → ((s : ℕ) → P s → p s ≡ q s) → (ss : List ℕ) → All P ss → best_found p ss ≡ best_found q ss
best_found-same p q P same [] all = refl
best_found-same p q P same (s ∷ ss) all =
    ap (λ found. better found (best_found p ss)) (same s (All-head P s ss all)) ∙ ap (better (q s)) (best_found-same p q P same ss (All-tail P s ss all))

filter-same : (p q : ℕ → Bool) (P : ℕ → Type 0) → ((s : ℕ) → P s → p s ≡ q s) → (ss : List ℕ) → All P ss → filter p ss ≡ filter q ss
filter-same p q P same [] all = refl
filter-same p q P same (s ∷ ss) all =
    ap (λ b. cond b (s ∷ filter p ss) (filter p ss)) (same s (All-head P s ss all)) ∙ ap (λ rest. cond (q s) (s ∷ rest) rest) (filter-same p q P same ss (All-tail P s ss all))

module _ (roster : Roster) (names more : Tables) (ext : Extends names more) where
  pub scheme-same : (test : Scheme → Bool) (s : ℕ) → NamesSpace roster names s → scheme_is names test s ≡ scheme_is more test s
  scheme-same test s named = ap (λ o. unwrap_or (option_map (λ (space : ProtectionSpace). test space.scheme) o) false) (sym (ext.spaces s named))

  pub target-same : (s : ℕ) → NamesSpace roster names s → target_of names s ≡ target_of more s
  target-same s named = ap (λ o. unwrap_or (option_map (λ (space : ProtectionSpace). space.site.target) o) Server) (sym (ext.spaces s named))

  site-same : (place : Site) (s : ℕ) → NamesSpace roster names s → is_of_site names place s ≡ is_of_site more place s
  site-same place s named = ap (λ o. unwrap_or (option_map (λ (space : ProtectionSpace). same_site space.site place) o) false) (sym (ext.spaces s named))

  origin-same : (s : ℕ) → NamesSpace roster names s → is_allowed_origin roster names s ≡ is_allowed_origin roster more s
  origin-same s named = ap (λ o. unwrap_or (option_map (λ (space : ProtectionSpace). list_any (same_origin space.site.origin) roster.allowed) o) false) (sym (ext.spaces s named))

  terms-same : (s t : ℕ) → IsTrue (is_some (numbered names.terms t)) → has_terms names s t ≡ has_terms more s t
  terms-same s t named = ap (λ o. unwrap_or (option_map (λ (name : TermsName). name.space == s) o) false) (sym (ext.terms t named))

  nonce-same : (t : ℕ) → IsTrue (is_some (numbered names.terms t)) → nonce_of names t ≡ nonce_of more t
  nonce-same t named = ap (λ o. unwrap_or (option_map (λ (name : TermsName). name.nonce) o) 0) (sym (ext.terms t named))

  -- who competes with whom
  rival-same : (s other : ℕ) → NamesSpace roster names s → NamesSpace roster names other → is_rival names s other ≡ is_rival more s other
  rival-same s other named named' =
      sym
      (ap (λ o. unwrap_or (option_map (λ (space : ProtectionSpace). is_of_partition more space.site.partition other) o) false) (ext.spaces s named)
      ∙ ap (λ o. unwrap_or (option_map (λ (space : ProtectionSpace). unwrap_or (option_map (λ (held : ProtectionSpace). bytes_eq held.site.partition space.site.partition) o) false) (numbered names.spaces s)) false) (ext.spaces other named'))

  -- directories need the target alone
  pub dirs-same : (past : List Entry) (s : ℕ) → NamesSpace roster names s → dirs roster names past s ≡ dirs roster more past s
  dirs-same [] s named = refl
  dirs-same (entry ∷ past) s named =
      let target = target-same s named in
      let before = dirs-same past s named in
      cc

  found-same : (past : List Entry) (place : Site) (p : List ℕ) (s : ℕ) → NamesSpace roster names s → found_in roster names past place p s ≡ found_in roster more past place p s
  found-same past place p s named =
      let basic = scheme-same is_basic s named in
      let digest = scheme-same is_digest s named in
      let of_site = site-same place s named in
      let in_dirs = dirs-same past s named in
      cc

  module _ (n : ℕ) where
    holds-same : (past : List Entry) → All (IsPage n) past → IsLegalPast roster names past → (nonce s : ℕ) → holds_nonce names past nonce s ≡ holds_nonce more past nonce s
    holds-same past pages legal nonce s =
        elim (terms_named roster names n past pages legal s) [
          | inl none ↦ no_terms (live past s) (terms past s) none
          | inr named ↦ ap (λ k. live past s && not (terms past s == 0) && k == nonce) (nonce-same (terms past s) named)
        ]
      where
        no_terms : (b : Bool) (t : ℕ) → t ≡ 0 → (b && not (t == 0) && nonce_of names t == nonce) ≡ (b && not (t == 0) && nonce_of more t == nonce)
        no_terms true zero none = refl
        no_terms false zero none = refl
        no_terms b (suc t) none = absurd (omega arith)

    pub epoch-same : (past : List Entry) → All (IsPage n) past → IsLegalPast roster names past → (nonce : ℕ) → epoch names past nonce ≡ epoch more past nonce
    epoch-same [] pages legal nonce = refl
    epoch-same (entry ∷ past) pages legal nonce =
        let older = All-tail (IsPage n) entry past pages in
        let out = list_any-same (is_left names past (entry ∷ past) nonce) (is_left more past (entry ∷ past) nonce)
        (λ s. (let before = holds-same past older legal.0 nonce s in let after = holds-same (entry ∷ past) pages legal nonce s in cc)) (spaces_given past) in
        let rest = epoch-same past older legal.0 nonce in
        cc

    epoch_of_terms-same : (past : List Entry) → All (IsPage n) past → IsLegalPast roster names past → (s : ℕ) → epoch_of_terms names past (terms past s) ≡ epoch_of_terms more past (terms past s)
    epoch_of_terms-same past pages legal s =
        elim (terms_named roster names n past pages legal s) [
          | inl none ↦ no_epoch (terms past s) none
          | inr named ↦
              (let nonce = nonce-same (terms past s) named in
              let same = epoch-same past pages legal (nonce_of names (terms past s)) in
              cc)
        ]
      where
        no_epoch : (t : ℕ) → t ≡ 0 → epoch_of_terms names past t ≡ epoch_of_terms more past t
        no_epoch zero none = refl
        no_epoch (suc t) none = absurd (omega arith)

    ready-same : (past : List Entry) → All (IsPage n) past → IsLegalPast roster names past → (s : ℕ) (held : Option Gift) → ready names past s held ≡ ready more past s held
    ready-same past pages legal s None = refl
    ready-same past pages legal s (Some gift) = ap (λ k. Ready gift (terms past s) k) (epoch_of_terms-same past pages legal s)

    preempt-same : (past : List Entry) → All (IsPage n) past → IsLegalPast roster names past → (s : Option ℕ) → preempt_answer names past s ≡ preempt_answer more past s
    preempt-same past pages legal None = refl
    preempt-same past pages legal (Some s) = ready-same past pages legal s (current past s)

    path-same : (past : List Entry) → All (IsPage n) past → IsLegalPast roster names past → (p : List ℕ) (place : Option Site) → option_and_then (λ place. by_path roster names past place p) place ≡ option_and_then (λ place. by_path roster more past place p) place
    path-same past pages legal p None = refl
    path-same past pages legal p (Some place) =
        ap (option_map (λ (found : Found). found.space))
        (best_found-same (found_in roster names past place p) (found_in roster more past place p) (NamesSpace roster names) (found-same past place p) (spaces_given past) (given_named roster names n past pages legal))

    evicted-same : (past : List Entry) → All (IsPage n) past → IsLegalPast roster names past → (s : ℕ) → NamesSpace roster names s → evicted (is_rival names s) past s ≡ evicted (is_rival more s) past s
    evicted-same past pages legal s named =
        let given = given_named roster names n past pages legal in
        let rivals : live_rivals (is_rival names s) past ≡ live_rivals (is_rival more s) past =
        filter-same (is_rival names s) (is_rival more s) (NamesSpace roster names) (λ other named'. rival-same s other named named') (live_spaces past) (All-filter (live past) (NamesSpace roster names) (spaces_given past) given) in
        ap (λ rivals. cond (not (live past s) && nat_le 32 (length rivals)) (greatest_by (age past) rivals) 0) rivals

    select-same : (past : List Entry) → All (IsPage n) past → IsLegalPast roster names past → (s : ℕ) → NamesSpace roster names s → (how : Choice) → select_answer (is_rival names s) past s how ≡ select_answer (is_rival more s) past s how
    select-same past pages legal s named ByUrl = ap (λ gone. Url (next_gift past s) gone) (evicted-same past pages legal s named)
    select-same past pages legal s named (ByCache gift) = refl
    select-same past pages legal s named ByDefault = refl
    select-same past pages legal s named (ByFollowing p) = refl
    select-same past pages legal s named ByLeading = refl

    choice-same : (past : List Entry) (r s : ℕ) → NamesSpace roster names s → choice roster names past r s ≡ choice roster more past r s
    choice-same past r s named =
        let target = target-same s named in
        let negotiate = scheme-same is_negotiate s named in
        let origin = origin-same s named in
        cc

    answer-same : (past : List Entry) → All (IsPage n) past → IsLegalPast roster names past → (r : ℕ) (call : Call) → IsTrue (allowed_call roster names past r call) → answer roster names past r call ≡ answer roster more past r call
    answer-same past pages legal r Begin may = refl
    answer-same past pages legal r (Preempt target) may =
        ap (preempt_answer names past) (path-same past pages legal (path_of roster r target) _) ∙ preempt-same past pages legal _
    answer-same past pages legal r (Select s t) may =
        let named = (select_named roster names past r s t may).space in
        ap (select_answer (is_rival names s) past s) (choice-same past r s named) ∙ select-same past pages legal s named (choice roster more past r s)
    answer-same past pages legal r (Reject space ordinal) may = refl
    answer-same past pages legal r (Renew gift t) may = refl
    answer-same past pages legal r (Answer prompt text t) may =
        let s = space_of_prompt past prompt in
        ap (λ gone. cond (text == 0) Cancelled (Given (next_gift past s) gone)) (evicted-same past pages legal s (prompt_named roster names n past pages legal r prompt text t may))
    answer-same past pages legal r (Lose prompt loss) may = refl
    answer-same past pages legal r (Take prompt) may = refl
    answer-same past pages legal r (Note gift) may = refl
    answer-same past pages legal r End may = refl
    answer-same past pages legal r (Draw nonce) may = refl

    -- what was allowed still is

    fits-more : (s t : ℕ) → NamesSpace roster names s → IsTrue (fits_space names s t) → IsTrue (fits_space more s t)
    fits-more s t named = at (scheme_is names is_digest s) (scheme_is more is_digest s) (scheme-same is_digest s named)
      where
        at : (b b' : Bool) → b ≡ b' → IsTrue (cond b (has_terms names s t) (t == 0)) → IsTrue (cond b' (has_terms more s t) (t == 0))
        at true true same fit = subst IsTrue (terms-same s t (some_of_test _ _ fit)) fit
        at false false same fit = fit
        at true false same fit = cc
        at false true same fit = cc

    pub allowed-more : (past : List Entry) (r : ℕ) (call : Call) → IsTrue (allowed_call roster names past r call) → IsTrue (allowed_call roster more past r call)
    allowed-more past r Begin may = may
    allowed-more past r (Preempt target) may = may
    allowed-more past r (Select s t) may =
        let of_site = λ (o : Option ProtectionSpace). unwrap_or (option_map (is_site_of roster r) o) false in
        let named = (select_named roster names past r s t may).space in
        let free = and_right (of_site (space_named names s) && fits_space names s t) (not (waits past r)) may in
        let first = and_left (of_site (space_named names s) && fits_space names s t) (not (waits past r)) may in
        both (of_site (space_named more s) && fits_space more s t) (not (waits past r))
        (both (of_site (space_named more s)) (fits_space more s t)
        (subst (λ o. IsTrue (of_site o)) (sym (ext.spaces s named)) (and_left (of_site (space_named names s)) (fits_space names s t) first))
        (fits-more s t named (and_right (of_site (space_named names s)) (fits_space names s t) first)))
        free
    allowed-more past r (Reject space ordinal) may = may
    allowed-more past r (Renew gift t) may =
        let has = and_right (was_told past r gift && scheme_is names is_digest gift.space) (has_terms names gift.space t) may in
        let first = and_left (was_told past r gift && scheme_is names is_digest gift.space) (has_terms names gift.space t) may in
        let digest = and_right (was_told past r gift) (scheme_is names is_digest gift.space) first in
        let same = scheme-same is_digest gift.space (some_of_test _ _ digest) in
        let same_terms = terms-same gift.space t (some_of_test _ _ has) in
        cc
    allowed-more past r (Answer prompt text t) may =
        let led = is_led_by past r prompt && not (settled past prompt) in
        let with_terms = unwrap_or (option_map (λ (entry : Entry). terms_selected entry.call == t) (lead past prompt)) false in
        let first = and_left (led && nat_le text (length names.texts)) with_terms may in
        let text_named = nat_le-more text (length names.texts) (length more.texts) ext.texts (and_right led (nat_le text (length names.texts)) first) in
        both (led && nat_le text (length more.texts)) with_terms (both led (nat_le text (length more.texts)) (and_left led (nat_le text (length names.texts)) first) text_named)
        (and_right (led && nat_le text (length names.texts)) with_terms may)
    allowed-more past r (Lose prompt loss) may = may
    allowed-more past r (Take prompt) may = may
    allowed-more past r (Note gift) may =
        let either = and_right (was_told past r gift) (scheme_is names is_basic gift.space || scheme_is names is_digest gift.space) may in
        let named = one_of (scheme_is names is_basic gift.space) (scheme_is names is_digest gift.space) (λ basic. some_of_test _ _ basic) (λ digest. some_of_test _ _ digest) either in
        let basic = scheme-same is_basic gift.space named in
        let digest = scheme-same is_digest gift.space named in
        cc
    allowed-more past r End may = may
    allowed-more past r (Draw nonce) may = may

    pub IsLegal-more : (past : List Entry) → All (IsPage n) past → IsLegalPast roster names past → IsLegalPast roster more past
    IsLegal-more [] pages legal = tt
    IsLegal-more (entry ∷ past) pages legal =
        let older = All-tail (IsPage n) entry past pages in
        let page = All-head (IsPage n) entry past pages in
        let did = step_of roster names n past entry page legal.1 in (
          IsLegal-more past older legal.0,
          (
            both _ _ (and_left _ (allowed_call roster names past entry.request entry.call) legal.1.0) (allowed-more past entry.request entry.call did.0),
            did.1 ∙ answer-same past older legal.0 entry.request entry.call did.0,
            legal.1.2,
          ),
        )

-- with a space more
pub extends_by_space : (names : Tables) (space : ProtectionSpace) → Extends names (with_space names space)
extends_by_space names space = record {
  spaces = numbered-append names.spaces (space ∷ []);
  terms = λ t named. refl;
  text = λ x named. refl;
  texts = omega arith;
}

-- with terms more
pub extends_by_terms : (names : Tables) (name : TermsName) → Extends names (with_terms names name)
extends_by_terms names name = record {
  spaces = λ s named. refl;
  terms = numbered-append names.terms (name ∷ []);
  text = λ x named. refl;
  texts = omega arith;
}

-- with a text more
pub extends_by_text : (names : Tables) (text : Login) → Extends names (with_text names text)
extends_by_text names text = record {
  spaces = λ s named. refl;
  terms = λ t named. refl;
  text = numbered-append names.texts (text ∷ []);
  texts = omega (arith, length-append names.texts (text ∷ []));
}

-- a journal whose past is legal stays so when every number keeps its meaning
pub legal-more : (roster : Roster) (names more : Tables) → Extends names more → (n : ℕ) (journal : List Entry) → All (IsPage n) journal → IsLegalPast roster names (reverse journal) → IsLegalPast roster more (reverse journal)
legal-more roster names more ext n journal pages legal =
    IsLegal-more roster names more ext n (reverse journal) (All-reverse (IsPage n) journal pages) legal
