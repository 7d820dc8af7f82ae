-- What a legal past gives, leads and touches has a name.
use Rattle.std.proofs.Common.{◌≡◌, ℕ, ◌≤◌, Bool, true, false, not, ◌&&◌, ◌||◌, cond, List, [], ◌∷◌, length, refl, ap, sym, subst, inl, inr, ◌⊎◌, arith, Option, Some, None}
use Rattle.std.specs.Prelude.{All, IsTrue, ◌==◌, option_map, unwrap_or, is_some, nat_le}
use Rattle.std.proofs.lemmas.List.Elements.{All-head, All-tail, All-nil, All-cons}
use Rattle.std.proofs.lemmas.Bool.Decides.{nat_tests}
use Rattle.std.proofs.lemmas.Bool.{false≢true}
use Rattle.spaces.specs.Sites.{numbered}
use Rattle.spaces.specs.declared.roster.Roster.{Roster}
use Rattle.auth_events.specs.declared.journal.Gift.{Gift}
use Rattle.auth_events.specs.declared.journal.Entry.{Entry}
use Rattle.auth_events.specs.declared.journal.Call.{Call}
use Rattle.auth_events.specs.declared.journal.Call.TheVariants.{Begin, Preempt, Select, Reject, Renew, Answer, Lose, Take, Note, End, Draw}
use Rattle.auth_events.specs.declared.journal.BookReply.{BookReply}
use Rattle.auth_events.specs.declared.journal.BookReply.TheVariants.{Url, Lead, Given, Cancelled}
use Rattle.auth_events.specs.Tables.{Tables}
use Rattle.auth_events.specs.Pages.{IsPage, fits}
use Rattle.auth_events.specs.Past.{settled, evicted, first_space, is_lead, lead, prompt_led, terms, terms_in, touches, is_ready, gift_given, spaces_given}
use Rattle.auth_events.specs.Book.{IsLegalPast, IsStep, allowed_call, answer, scheme_is, is_digest, has_terms, fits_space, terms_selected, space_selected, space_of_prompt, choice, is_site_of, space_named, waits, was_told, is_led_by, select_answer, given_answer, next_gift, Choice, is_rival}
use Rattle.auth_events.specs.Book.Choice.{ByUrl, ByCache, ByDefault, ByFollowing, ByLeading}
use Rattle.std.specs.List.{cons_option}
use Rattle.auth_events.proofs.Numbers.{some_of_test, and_left, and_right}

-- what a lead's entry called
lead_select : (call : Call) (reply : BookReply) → IsTrue (fits call reply) → IsTrue (is_lead reply) → (s : ℕ) × (t : ℕ) × (call ≡ Select s t)
lead_select (Select s t) reply fit led = (s, t, refl)
lead_select Begin (Lead p o) fit led = absurd (false≢true fit)
lead_select Begin reply fit led = absurd (false≢true led)
lead_select (Preempt target) (Lead p o) fit led = absurd (false≢true fit)
lead_select (Preempt target) reply fit led = absurd (false≢true led)
lead_select (Reject space ordinal) (Lead p o) fit led = absurd (false≢true fit)
lead_select (Reject space ordinal) reply fit led = absurd (false≢true led)
lead_select (Renew gift t) (Lead p o) fit led = absurd (false≢true fit)
lead_select (Renew gift t) reply fit led = absurd (false≢true led)
lead_select (Answer prompt text t) (Lead p o) fit led = absurd (false≢true fit)
lead_select (Answer prompt text t) reply fit led = absurd (false≢true led)
lead_select (Lose prompt loss) (Lead p o) fit led = absurd (false≢true fit)
lead_select (Lose prompt loss) reply fit led = absurd (false≢true led)
lead_select (Take prompt) (Lead p o) fit led = absurd (false≢true fit)
lead_select (Take prompt) reply fit led = absurd (false≢true led)
lead_select (Note gift) (Lead p o) fit led = absurd (false≢true fit)
lead_select (Note gift) reply fit led = absurd (false≢true led)
lead_select End (Lead p o) fit led = absurd (false≢true fit)
lead_select End reply fit led = absurd (false≢true led)
lead_select (Draw nonce) reply fit led = absurd (false≢true fit)

-- what a giving entry called
pub given_call : (call : Call) (reply : BookReply) (g : Gift) → IsTrue (fits call reply) → gift_given reply ≡ Some g → ((s : ℕ) × (t : ℕ) × (call ≡ Select s t)) ⊎ ((p : ℕ) × (x : ℕ) × (t : ℕ) × (call ≡ Answer p x t))
given_call (Select s t) reply g fit given = inl (s, t, refl)
given_call (Answer p x t) reply g fit given = inr (p, x, t, refl)
given_call Begin (Url gift' evicted) g fit given = absurd (false≢true fit)
given_call Begin (Given gift' evicted) g fit given = absurd (false≢true fit)
given_call Begin reply g fit given = cc
given_call (Preempt target) (Url gift' evicted) g fit given = absurd (false≢true fit)
given_call (Preempt target) (Given gift' evicted) g fit given = absurd (false≢true fit)
given_call (Preempt target) reply g fit given = cc
given_call (Reject space ordinal) (Url gift' evicted) g fit given = absurd (false≢true fit)
given_call (Reject space ordinal) (Given gift' evicted) g fit given = absurd (false≢true fit)
given_call (Reject space ordinal) reply g fit given = cc
given_call (Renew gift t) (Url gift' evicted) g fit given = absurd (false≢true fit)
given_call (Renew gift t) (Given gift' evicted) g fit given = absurd (false≢true fit)
given_call (Renew gift t) reply g fit given = cc
given_call (Lose prompt loss) (Url gift' evicted) g fit given = absurd (false≢true fit)
given_call (Lose prompt loss) (Given gift' evicted) g fit given = absurd (false≢true fit)
given_call (Lose prompt loss) reply g fit given = cc
given_call (Take prompt) (Url gift' evicted) g fit given = absurd (false≢true fit)
given_call (Take prompt) (Given gift' evicted) g fit given = absurd (false≢true fit)
given_call (Take prompt) reply g fit given = cc
given_call (Note gift) (Url gift' evicted) g fit given = absurd (false≢true fit)
given_call (Note gift) (Given gift' evicted) g fit given = absurd (false≢true fit)
given_call (Note gift) reply g fit given = cc
given_call End (Url gift' evicted) g fit given = absurd (false≢true fit)
given_call End (Given gift' evicted) g fit given = absurd (false≢true fit)
given_call End reply g fit given = cc
given_call (Draw nonce) (Url gift' evicted) g fit given = absurd (false≢true fit)
given_call (Draw nonce) (Given gift' evicted) g fit given = absurd (false≢true fit)
given_call (Draw nonce) reply g fit given = cc

select_gives : (rival : ℕ → Bool) (past : List Entry) (s : ℕ) (how : Choice) (g : Gift) → gift_given (select_answer rival past s how) ≡ Some g → g.space ≡ s
select_gives rival past s ByUrl g given = let same : next_gift past s ≡ g = cc in ap (λ (h : Gift). h.space) (sym same)
select_gives rival past s (ByCache gift) g given = cc
select_gives rival past s ByDefault g given = cc
select_gives rival past s (ByFollowing p) g given = cc
select_gives rival past s ByLeading g given = cc

answer_gives : (rival : ℕ → Bool) (past : List Entry) (s x : ℕ) (g : Gift) → gift_given (given_answer rival past s x) ≡ Some g → g.space ≡ s
answer_gives rival past s x g = at (x == 0)
  where
    at : (b : Bool) → gift_given (cond b Cancelled (Given (next_gift past s) (evicted rival past s))) ≡ Some g → g.space ≡ s
    at true given = cc
    at false given = let same : next_gift past s ≡ g = cc in ap (λ (h : Gift). h.space) (sym same)

pub one_of : {P : Type 0} (a b : Bool) → (IsTrue a → P) → (IsTrue b → P) → IsTrue (a || b) → P
one_of true b left right either = left refl
one_of false b left right either = right either

pub nat_le-more : (a b c : ℕ) → b ≤ c → IsTrue (nat_le a b) → IsTrue (nat_le a c)
nat_le-more a b c le test = grind (arith, nat_tests)

module _ (roster : Roster) (names : Tables) where
  abbrev pub NamesSpace : ℕ → Type 0
  NamesSpace s = IsTrue (is_some (numbered names.spaces s))

  -- no terms, or terms that are named
  abbrev IsTermsNumber : ℕ → Type 0
  IsTermsNumber t = (t ≡ 0) ⊎ IsTrue (is_some (numbered names.terms t))

  fits_number : (s t : ℕ) → IsTrue (fits_space names s t) → IsTermsNumber t
  fits_number s t = at (scheme_is names is_digest s)
    where
      at : (b : Bool) → IsTrue (cond b (has_terms names s t) (t == 0)) → IsTermsNumber t
      at true fit = inr (some_of_test _ _ fit)
      at false fit = inl (grind (arith, nat_tests))

  -- the space and the terms of a `Select` are named
  pub record IsSelect (call : Call) : Type 0 where
    pub space : NamesSpace (space_selected call)
    pub terms : IsTermsNumber (terms_selected call)

  pub select_named : (past : List Entry) (r s t : ℕ) → IsTrue (allowed_call roster names past r (Select s t)) → IsSelect (Select s t)
  select_named past r s t may =
      let named = is_site_of_named s in
      let site_and_fit = and_left (named && fits_space names s t) (not (waits past r)) may in
      record { space = some_of_test (is_site_of roster r) (space_named names s) (and_left named (fits_space names s t) site_and_fit); terms = fits_number s t (and_right named (fits_space names s t) site_and_fit) }
    where
      is_site_of_named : ℕ → Bool
      is_site_of_named s = unwrap_or (option_map (is_site_of roster r) (space_named names s)) false

  pub step_of : (n : ℕ) (past : List Entry) (entry : Entry) → IsPage n entry → IsStep roster names past entry → IsTrue (allowed_call roster names past entry.request entry.call) × (entry.reply ≡ answer roster names past entry.request entry.call)
  step_of n past entry page step = (and_right _ _ step.0, step.1)

  lead_named : (n : ℕ) (past : List Entry) → All (IsPage n) past → IsLegalPast roster names past → (p : ℕ) (entry : Entry) → lead past p ≡ Some entry → IsSelect entry.call
  lead_named n [] pages legal p entry found = cc
  lead_named n (latest ∷ past) pages legal p entry found =
      at (is_lead latest.reply && prompt_led latest.reply == p) refl found (λ older. lead_named n past (All-tail (IsPage n) latest past pages) legal.0 p entry older)
    where
      page : IsPage n latest
      page = All-head (IsPage n) latest past pages

      at : (b : Bool) → (is_lead latest.reply && prompt_led latest.reply == p) ≡ b → cond b (Some latest) (lead past p) ≡ Some entry → (lead past p ≡ Some entry → IsSelect entry.call) → IsSelect entry.call
      at false is found' older = older found'
      at true is found' older =
          let led = and_left (is_lead latest.reply) (prompt_led latest.reply == p) is in
          let sel = lead_select latest.call latest.reply page.fit led in
          let did = step_of n past latest page legal.1 in
          let selected = select_named past latest.request sel.0 sel.1 (subst (λ call. IsTrue (allowed_call roster names past latest.request call)) sel.2 did.0) in
          let same : latest ≡ entry = cc in
          subst (λ (e : Entry). IsSelect e.call) same (subst IsSelect (sym sel.2) selected)

  -- the space of a prompt that is answered is named
  pub prompt_named : (n : ℕ) (past : List Entry) → All (IsPage n) past → IsLegalPast roster names past → (r p x t : ℕ) → IsTrue (allowed_call roster names past r (Answer p x t)) → NamesSpace (space_of_prompt past p)
  prompt_named n past pages legal r p x t may =
      let led = and_left (is_led_by past r p) (not (settled past p)) (and_left _ (nat_le x (length names.texts)) (and_left (is_led_by past r p && not (settled past p) && nat_le x (length names.texts)) (unwrap_or (option_map (λ entry. terms_selected entry.call == t) (lead past p)) false) may)) in
      by_lead (lead past p) refl led
    where
      by_lead : (o : Option Entry) → lead past p ≡ o → IsTrue (unwrap_or (option_map (λ entry. entry.request == r) o) false) → NamesSpace (unwrap_or (option_map (λ entry. space_selected entry.call) o) 0)
      by_lead None is test = absurd (false≢true test)
      by_lead (Some entry) is test = (lead_named n past pages legal p entry is).space

  -- the terms that an allowed call names
  terms_in_named : (n : ℕ) (past : List Entry) → All (IsPage n) past → IsLegalPast roster names past → (r : ℕ) (call : Call) → IsTrue (allowed_call roster names past r call) → IsTermsNumber (terms_in call)
  terms_in_named n past pages legal r Begin may = inl refl
  terms_in_named n past pages legal r (Preempt target) may = inl refl
  terms_in_named n past pages legal r (Select s t) may = (select_named past r s t may).terms
  terms_in_named n past pages legal r (Reject space ordinal) may = inl refl
  terms_in_named n past pages legal r (Renew gift t) may =
      inr (some_of_test _ _ (and_right (was_told past r gift && scheme_is names is_digest gift.space) (has_terms names gift.space t) may))
  terms_in_named n past pages legal r (Answer prompt text t) may =
      by_lead (lead past prompt) refl (and_right _ (lead_has (lead past prompt)) may)
    where
      lead_has : Option Entry → Bool
      lead_has o = unwrap_or (option_map (λ entry. terms_selected entry.call == t) o) false

      by_lead : (o : Option Entry) → lead past prompt ≡ o → IsTrue (lead_has o) → IsTermsNumber t
      by_lead None is test = absurd (false≢true test)
      by_lead (Some entry) is test =
          let same : terms_selected entry.call ≡ t = grind (arith, nat_tests) in
          subst IsTermsNumber same (lead_named n past pages legal prompt entry is).terms
  terms_in_named n past pages legal r (Lose prompt loss) may = inl refl
  terms_in_named n past pages legal r (Take prompt) may = inl refl
  terms_in_named n past pages legal r (Note gift) may = inl refl
  terms_in_named n past pages legal r End may = inl refl
  terms_in_named n past pages legal r (Draw nonce) may = inl refl

  -- the terms of a space are named
  pub terms_named : (n : ℕ) (past : List Entry) → All (IsPage n) past → IsLegalPast roster names past → (s : ℕ) → IsTermsNumber (terms past s)
  terms_named n [] pages legal s = inl refl
  terms_named n (entry ∷ past) pages legal s =
      let older = All-tail (IsPage n) entry past pages in
      let did = step_of n past entry (All-head (IsPage n) entry past pages) legal.1 in
      at (touches entry s && not (is_ready entry.reply)) (terms_in_named n past older legal.0 entry.request entry.call did.0) (terms_named n past older legal.0 s)
    where
      at : (b : Bool) → IsTermsNumber (terms_in entry.call) → IsTermsNumber (terms past s) → IsTermsNumber (cond b (terms_in entry.call) (terms past s))
      at true here before = here
      at false here before = before

  -- the space of a gift is named
  gift_named : (n : ℕ) (past : List Entry) → All (IsPage n) past → IsLegalPast roster names past → (r : ℕ) (call : Call) (reply : BookReply) (g : Gift) → IsTrue (fits call reply) → IsTrue (allowed_call roster names past r call) → reply ≡ answer roster names past r call → gift_given reply ≡ Some g → NamesSpace g.space
  gift_named n past pages legal r call reply g fit may is given =
      elim (given_call call reply g fit given) [
        | inl sel ↦
            (let may' = subst (λ call. IsTrue (allowed_call roster names past r call)) sel.2 may in
            let given' = subst (λ call. gift_given (answer roster names past r call) ≡ Some g) sel.2 (subst (λ reply. gift_given reply ≡ Some g) is given) in
            subst NamesSpace (sym (select_gives (is_rival names sel.0) past sel.0 (choice roster names past r sel.0) g given')) (select_named past r sel.0 sel.1 may').space)
        | inr ans ↦
            (let may' = subst (λ call. IsTrue (allowed_call roster names past r call)) ans.3 may in
            let given' = subst (λ call. gift_given (answer roster names past r call) ≡ Some g) ans.3 (subst (λ reply. gift_given reply ≡ Some g) is given) in
            subst NamesSpace (sym (answer_gives (is_rival names (space_of_prompt past ans.0)) past (space_of_prompt past ans.0) ans.1 g given')) (prompt_named n past pages legal r ans.0 ans.1 ans.2 may'))
      ]

  -- the spaces that were given are named
  pub given_named : (n : ℕ) (past : List Entry) → All (IsPage n) past → IsLegalPast roster names past → All NamesSpace (spaces_given past)
  given_named n [] pages legal = All-nil NamesSpace
  given_named n (entry ∷ past) pages legal =
      let older = All-tail (IsPage n) entry past pages in
      let page = All-head (IsPage n) entry past pages in
      let did = step_of n past entry page legal.1 in
      at (gift_given entry.reply) (gift_named n past older legal.0 entry.request entry.call entry.reply) page.fit did.0 did.1 refl (given_named n past older legal.0)
    where
      first : (g : Gift) (b : Bool) → NamesSpace g.space → All NamesSpace (spaces_given past) → All NamesSpace (cons_option (cond b (Some g.space) None) (spaces_given past))
      first g true named before = All-cons NamesSpace g.space (spaces_given past) named before
      first g false named before = before

      at : (o : Option Gift) → ((g : Gift) → IsTrue (fits entry.call entry.reply) → IsTrue (allowed_call roster names past entry.request entry.call) → entry.reply ≡ answer roster names past entry.request entry.call → gift_given entry.reply ≡ Some g → NamesSpace g.space) → IsTrue (fits entry.call entry.reply) → IsTrue (allowed_call roster names past entry.request entry.call) → entry.reply ≡ answer roster names past entry.request entry.call → gift_given entry.reply ≡ o → All NamesSpace (spaces_given past) → All NamesSpace (cons_option (first_space o) (spaces_given past))
      at None named fit may is given before = before
      at (Some g) named fit may is given before = first g (g.ordinal == 1) (named g fit may is given) before
