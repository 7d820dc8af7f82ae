-- What a book tells was given, and goes out with terms of its space.
use Rattle.std.proofs.Common.{◌≡◌, ◌⊎◌, inl, inr, ℕ, ◌+◌, Bool, true, false, not, ◌&&◌, ◌||◌, ◌==◌, cond, IsTrue, List, [], ◌∷◌, Option, Some, None, is_some, option_and_then, option_map, unwrap_or, refl, sym, ap, ◌∙◌, subst, arith, find}
use Rattle.std.specs.Prelude.{fold, map}
use Rattle.std.specs.List.{list_any}
use Rattle.std.proofs.lemmas.Bool.{false≢true}
use Rattle.std.proofs.lemmas.Bool.Decides.{nat_tests}
use Rattle.std.proofs.lemmas.Option.{none-some}
use Rattle.spaces.specs.Paths.{covers}
use Rattle.spaces.specs.declared.roster.Roster.{Roster}
use Rattle.spaces.specs.declared.site.Site.{Site}
use Rattle.spaces.specs.Sites.{numbered, site}
use Rattle.spaces.specs.declared.site.Target.{Target}
use Rattle.auth_events.specs.declared.journal.Gift.{Gift}
use Rattle.auth_events.specs.declared.journal.Call.{Call}
use Rattle.auth_events.specs.declared.journal.Call.TheVariants.{Preempt, Select, Renew, Answer, Lose, Take}
use Rattle.auth_events.specs.declared.journal.BookReply.{BookReply}
use Rattle.auth_events.specs.declared.journal.BookReply.TheVariants.{Ready, Url, Cached, Lead, Renewed, Given, Cancelled, Lost, Gave, Pending}
use Rattle.auth_events.specs.declared.journal.Entry.{Entry}
use Rattle.auth_events.specs.Directories.{NotedDir, Found, better, best_found, longer}
use Rattle.auth_events.specs.Identities.{giving}
use Rattle.auth_events.specs.Pages.{fits}
use Rattle.auth_events.specs.Past.{current, end, gift_given, gift_used, gives, givings, is_lead, is_of, is_ready, lead, prompt_led, settles, spaces_given, taken_from, takes_away, terms, terms_in, touches, live}
use Rattle.auth_events.specs.Tables.{Tables}
use Rattle.auth_events.specs.Book.{IsLegalPast, IsStep, allowed_call, answer, begins, by_path, dirs, first_choice, fits_space, found_in, gift_told, has_terms, is_basic, is_digest, is_of_site, is_open, is_rival, is_site_of, is_that_gift, no_entry, own, path_of, preempt_answer, ready, same_gift, scheme_is, select_answer, space_by_path, space_named, space_of_prompt, space_selected, terms_selected, waits, was_told}
use Rattle.auth_events.proofs.Numbers.{and_left, and_right, both}
use Rattle.auth_events.proofs.Same.{number_same, number_refl}
use Rattle.history_laws.proofs.Homes.{holds_if}
use Rattle.history_laws.proofs.Leaving.{GivesNone, GivesNext, gives_next}
use Rattle.history_laws.proofs.Telling.{current_space}
use Rattle.trace_rule.specs.Entries.{Made, made_in}

pub same_refl : (gift : Gift) → IsTrue (same_gift gift gift)
same_refl gift = both (gift.space == gift.space) (gift.ordinal == gift.ordinal) (number_refl gift.space) (number_refl gift.ordinal)

gift_same : (a b : Gift) → IsTrue (same_gift a b) → a ≡ b
gift_same a b same =
    ap {B = Gift} (λ s. record { space = s; ordinal = a.ordinal }) (number_same a.space b.space (and_left (a.space == b.space) (a.ordinal == b.ordinal) same))
    ∙ ap {B = Gift} (λ o. record { space = b.space; ordinal = o }) (number_same a.ordinal b.ordinal (and_right (a.space == b.space) (a.ordinal == b.ordinal) same))

-- GIVEN

some_or : {A : Type 0} (b : Bool) (x : A) (o : Option A) → IsTrue (is_some o) → IsTrue (is_some (cond b (Some x) o))
some_or true x o h = refl
some_or false x o h = h

given_here : (entry : Entry) (past : List Entry) (gift : Gift) → gift_given entry.reply ≡ Some gift → IsTrue (is_some (giving (entry ∷ past) gift))
given_here entry past gift e = ap (λ b. is_some (cond b (Some entry) (giving past gift))) (ap (λ o. is_that_gift o gift) e ∙ same_refl gift)

pub given_later : (entry : Entry) (past : List Entry) (gift : Gift) → IsTrue (is_some (giving past gift)) → IsTrue (is_some (giving (entry ∷ past) gift))
given_later entry past gift h = some_or (is_that_gift (gift_given entry.reply) gift) entry (giving past gift) h

-- what a space holds was given
current_gave : (past : List Entry) (s : ℕ) (gift : Gift) → current past s ≡ Some gift → IsTrue (is_some (giving past gift))
current_gave [] s gift is = absurd (none-some gift is)
current_gave (entry ∷ past) s gift is = at (takes_away entry s) (gives entry s) is (current_gave past s gift)
  where
    at : (a b : Bool) → cond a None (cond b (gift_given entry.reply) (current past s)) ≡ Some gift → (current past s ≡ Some gift → IsTrue (is_some (giving past gift))) → IsTrue (is_some (giving (entry ∷ past) gift))
    at true b is' before = absurd (none-some gift is')
    at false true is' before = given_here entry past gift is'
    at false false is' before = given_later entry past gift (before is')

abbrev gift_cached : BookReply → Option Gift
gift_cached (Cached gift) = Some gift
gift_cached _ = None

pub cached_held : (rival : ℕ → Bool) (past : List Entry) (s : ℕ) (url : Bool) (held : Option Gift) (ambient : Bool) (led : Option Entry) (gift : Gift) → Cached gift ≡ select_answer rival past s (first_choice url held ambient led) → held ≡ Some gift
cached_held rival past s true held ambient led gift is = absurd (none-some gift (sym (ap gift_cached is)))
cached_held rival past s false (Some kept) ambient led gift is = sym (ap gift_cached is)
cached_held rival past s false None true led gift is = absurd (none-some gift (sym (ap gift_cached is)))
cached_held rival past s false None false (Some entry) gift is = absurd (none-some gift (sym (ap gift_cached is)))
cached_held rival past s false None false None gift is = absurd (none-some gift (sym (ap gift_cached is)))

taken_given : (call : Call) (reply : BookReply) (p : ℕ) (gift : Gift) → IsTrue (fits call reply) → IsTrue (settles call p) → gift_told (taken_from reply) ≡ Some gift → gift_given reply ≡ Some gift
taken_given (Answer q x t) (Given g evicted) p gift fit done told = told
taken_given (Answer q x t) Cancelled p gift fit done told = told
taken_given (Answer q x t) reply p gift fit done told = absurd (false≢true fit)
taken_given (Lose q loss) (Lost lost) p gift fit done told = told
taken_given (Lose q loss) reply p gift fit done told = absurd (false≢true fit)
taken_given call reply p gift fit done told = absurd (false≢true done)

not_zero : (n : ℕ) → (n + 1 == 0) ≡ false
not_zero n = grind (arith, nat_tests)

module _ (roster : Roster) (names : Tables) where
  -- what a prompt's end tells was given
  ended_given : (past : List Entry) → IsLegalPast roster names past → (p : ℕ) (gift : Gift) → gift_told (end past p) ≡ Some gift → IsTrue (is_some (giving past gift))
  ended_given [] legal p gift told = absurd (none-some gift told)
  ended_given (entry ∷ past) legal p gift told = at (settles entry.call p) refl told (ended_given past legal.0 p gift)
    where
      at : (b : Bool) → settles entry.call p ≡ b → gift_told (unwrap_or (option_map (λ e. taken_from e.reply) (cond b (Some entry) (find (λ e. settles e.call p) past))) Pending) ≡ Some gift
          → (gift_told (end past p) ≡ Some gift → IsTrue (is_some (giving past gift))) → IsTrue (is_some (giving (entry ∷ past) gift))
      at true is told' before = given_here entry past gift (taken_given entry.call entry.reply p gift legal.1.2 is told')
      at false is told' before = given_later entry past gift (before told')

  ready_given : (past : List Entry) (o : Option ℕ) (gift : Gift) → gift_told (preempt_answer names past o) ≡ Some gift → IsTrue (is_some (giving past gift))
  ready_given past None gift told = absurd (none-some gift told)
  ready_given past (Some s) gift told = at (current past s) refl told
    where
      at : (held : Option Gift) → current past s ≡ held → gift_told (ready names past s held) ≡ Some gift → IsTrue (is_some (giving past gift))
      at None is told' = absurd (none-some gift told')
      at (Some kept) is told' = current_gave past s gift (is ∙ told')

  told_by : (past : List Entry) → IsLegalPast roster names past → (r : ℕ) (call : Call) (reply : BookReply) → reply ≡ answer roster names past r call → IsTrue (fits call reply) → (gift : Gift) → gift_told reply ≡ Some gift
      → (gift_given reply ≡ Some gift) ⊎ IsTrue (is_some (giving past gift))
  told_by past legal r (Preempt target) (Ready g t epoch) is fit gift told = inr (ready_given past (space_by_path roster names past r target) gift (sym (ap gift_told is) ∙ told))
  told_by past legal r (Select s t) (Url g evicted) is fit gift told = inl told
  told_by past legal r (Select s t) (Cached g) is fit gift told = inr (current_gave past s gift (cached_held (is_rival names s) past s _ (current past s) _ _ g is ∙ told))
  told_by past legal r (Answer p x t) (Given g evicted) is fit gift told = inl told
  told_by past legal r (Take p) (Gave g) is fit gift told = inr (ended_given past legal p gift (sym (ap gift_told is) ∙ told))
  told_by past legal r call (Ready g t epoch) is fit gift told = absurd (false≢true fit)
  told_by past legal r call (Url g evicted) is fit gift told = absurd (false≢true fit)
  told_by past legal r call (Cached g) is fit gift told = absurd (false≢true fit)
  told_by past legal r call (Given g evicted) is fit gift told = absurd (false≢true fit)
  told_by past legal r call (Gave g) is fit gift told = absurd (false≢true fit)
  told_by past legal r call reply is fit gift told = absurd (none-some gift told)

  -- a gift that an entry tells was given, by it or before it
  pub told_given : (past : List Entry) → IsLegalPast roster names past → (entry : Entry) → IsStep roster names past entry → (gift : Gift) → gift_told entry.reply ≡ Some gift → IsTrue (is_some (giving (entry ∷ past) gift))
  told_given past legal entry step gift told = at (told_by past legal entry.request entry.call entry.reply step.1 step.2 gift told)
    where
      at : (gift_given entry.reply ≡ Some gift) ⊎ IsTrue (is_some (giving past gift)) → IsTrue (is_some (giving (entry ∷ past) gift))
      at (inl given) = given_here entry past gift given
      at (inr before) = given_later entry past gift before

  -- so was each that the request was told
  pub was_given : (past : List Entry) → IsLegalPast roster names past → (r : ℕ) (gift : Gift) → IsTrue (was_told past r gift) → IsTrue (is_some (giving past gift))
  was_given [] legal r gift told = absurd (false≢true told)
  was_given (entry ∷ past) legal r gift told = at (entry.request == r) told (was_given past legal.0 r gift)
    where
      here : (o : Option Gift) → gift_told entry.reply ≡ o → IsTrue (is_that_gift o gift) → IsTrue (is_some (giving (entry ∷ past) gift))
      here None is same = absurd (false≢true same)
      here (Some g) is same = told_given past legal.0 entry legal.1 gift (is ∙ ap Some (gift_same g gift same))

      either : (b : Bool) → is_that_gift (gift_told entry.reply) gift ≡ b → IsTrue (b || was_told past r gift) → (IsTrue (was_told past r gift) → IsTrue (is_some (giving past gift))) → IsTrue (is_some (giving (entry ∷ past) gift))
      either true now told' before = here (gift_told entry.reply) refl now
      either false now told' before = given_later entry past gift (before told')

      at : (b : Bool) → IsTrue (list_any (λ e. is_that_gift (gift_told e.reply) gift) (cond b (entry ∷ own past r) (own past r))) → (IsTrue (was_told past r gift) → IsTrue (is_some (giving past gift))) → IsTrue (is_some (giving (entry ∷ past) gift))
      at true told' before = either (is_that_gift (gift_told entry.reply) gift) refl told' before
      at false told' before = given_later entry past gift (before told')

  -- gifts are numbered from 1
  pub current_low : (past : List Entry) → IsLegalPast roster names past → (s : ℕ) (gift : Gift) → current past s ≡ Some gift → (gift.ordinal == 0) ≡ false
  current_low [] legal s gift is = absurd (none-some gift is)
  current_low (entry ∷ past) legal s gift is = at (takes_away entry s) (gives entry s) is (current_low past legal.0 s gift)
    where
      by : GivesNone entry.reply ⊎ GivesNext names past entry.call entry.reply → gift_given entry.reply ≡ Some gift → (gift.ordinal == 0) ≡ false
      by (inl none) given = absurd (none-some gift (sym none.0 ∙ given))
      by (inr next) given =
          let ordinal : givings past next.space + 1 ≡ gift.ordinal = ap (λ o. unwrap_or (option_map (λ (g : Gift). g.ordinal) o) 0) (sym next.gift ∙ given) in
          subst (λ n. (n == 0) ≡ false) ordinal (not_zero (givings past next.space))

      at : (a b : Bool) → cond a None (cond b (gift_given entry.reply) (current past s)) ≡ Some gift → (current past s ≡ Some gift → (gift.ordinal == 0) ≡ false) → (gift.ordinal == 0) ≡ false
      at true b is' before = absurd (none-some gift is')
      at false true is' before = by (gives_next roster names past entry legal.1) is'
      at false false is' before = before is'

  -- TERMS

  pub selected_fits : (past : List Entry) (r s t : ℕ) → IsTrue (allowed_call roster names past r (Select s t)) → IsTrue (fits_space names s t)
  selected_fits past r s t may =
      and_right (unwrap_or (option_map (is_site_of roster r) (space_named names s)) false) (fits_space names s t)
      (and_left (unwrap_or (option_map (is_site_of roster r) (space_named names s)) false && fits_space names s t) (not (waits past r)) may)

  -- the condition of an entry's call
  pub may_of : (past : List Entry) (entry : Entry) → IsStep roster names past entry → IsTrue (allowed_call roster names past entry.request entry.call)
  may_of past entry step =
      and_right (cond (begins entry.call) (no_entry past entry.request) (is_open past entry.caller entry.request)) (allowed_call roster names past entry.request entry.call) step.0

  abbrev fits_own : Entry → Bool
  fits_own entry = fits_space names (space_selected entry.call) (terms_selected entry.call)

  led_fits : (past : List Entry) (r : ℕ) (call : Call) (reply : BookReply) → IsTrue (allowed_call roster names past r call) → IsTrue (fits call reply) → IsTrue (is_lead reply) → IsTrue (fits_space names (space_selected call) (terms_selected call))
  led_fits past r (Select s t) reply may fit led = selected_fits past r s t may
  led_fits past r call (Lead p ordinal) may fit led = absurd (false≢true fit)
  led_fits past r call reply may fit led = absurd (false≢true led)

  lead_fits : (past : List Entry) → IsLegalPast roster names past → (p : ℕ) → IsTrue (holds_if fits_own (lead past p))
  lead_fits [] legal p = refl
  lead_fits (entry ∷ past) legal p = at (is_lead entry.reply && (prompt_led entry.reply == p)) refl (lead_fits past legal.0 p)
    where
      at : (b : Bool) → (is_lead entry.reply && (prompt_led entry.reply == p)) ≡ b → IsTrue (holds_if fits_own (lead past p)) → IsTrue (holds_if fits_own (cond b (Some entry) (lead past p)))
      at true is before = led_fits past entry.request entry.call entry.reply (may_of past entry legal.1) legal.1.2 (and_left (is_lead entry.reply) (prompt_led entry.reply == p) is)
      at false is before = before

  -- the terms of an answer are of the prompt's space
  pub answered_fits : (past : List Entry) → IsLegalPast roster names past → (r p text t : ℕ) → IsTrue (allowed_call roster names past r (Answer p text t)) → IsTrue (fits_space names (space_of_prompt past p) t)
  answered_fits past legal r p text t may = at (lead past p) (lead_fits past legal p) (and_right _ (unwrap_or (option_map (λ e. terms_selected e.call == t) (lead past p)) false) may)
    where
      at : (o : Option Entry) → IsTrue (holds_if fits_own o) → IsTrue (unwrap_or (option_map (λ e. terms_selected e.call == t) o) false) → IsTrue (fits_space names (unwrap_or (option_map (λ e. space_selected e.call) o) 0) t)
      at None fit same = absurd (false≢true same)
      at (Some e) fit same = subst (λ n. IsTrue (fits_space names (space_selected e.call) n)) (number_same (terms_selected e.call) t same) fit

  -- digest terms fit their space
  pub renewed_fits : (past : List Entry) (r : ℕ) (gift : Gift) (t : ℕ) → IsTrue (allowed_call roster names past r (Renew gift t)) → IsTrue (fits_space names gift.space t)
  renewed_fits past r gift t may =
      let first = and_left (was_told past r gift && scheme_is names is_digest gift.space) (has_terms names gift.space t) may in
      ap (λ b. cond b (has_terms names gift.space t) (t == 0)) (and_right (was_told past r gift) (scheme_is names is_digest gift.space) first)
      ∙ and_right (was_told past r gift && scheme_is names is_digest gift.space) (has_terms names gift.space t) may

  given_touches : (call : Call) (reply : BookReply) (s : ℕ) → IsTrue (is_of (gift_given reply) s) → IsTrue (is_of (gift_used call reply) s && not (is_ready reply))
  given_touches call (Url g evicted) s h = both (g.space == s) true h refl
  given_touches call (Given g evicted) s h = both (g.space == s) true h refl
  given_touches call _ s h = absurd (false≢true h)

  -- an entry that gives a space, answers it once more or renews it has terms of that space
  touched_fits : (past : List Entry) → IsLegalPast roster names past → (r : ℕ) (call : Call) (reply : BookReply) → reply ≡ answer roster names past r call → IsTrue (fits call reply) → IsTrue (allowed_call roster names past r call)
      → (GivesNone reply ⊎ GivesNext names past call reply) → (s : ℕ) → IsTrue (is_of (gift_used call reply) s && not (is_ready reply)) → IsTrue (fits_space names s (terms_in call))
  touched_fits past legal r (Select sp t) (Url g evicted) is fit may gives s h = at gives
    where
      at : GivesNone (Url g evicted) ⊎ GivesNext names past (Select sp t) (Url g evicted) → IsTrue (fits_space names s t)
      at (inl none) = absurd (none-some g (sym none.0))
      at (inr next) =
          let space : next.space ≡ g.space = ap (λ o. unwrap_or (option_map (λ (x : Gift). x.space) o) 0) (sym next.gift) in
          subst (λ n. IsTrue (fits_space names n t)) (sym next.asked ∙ (space ∙ number_same g.space s (and_left (g.space == s) true h))) (selected_fits past r sp t may)
  touched_fits past legal r (Select sp t) (Cached g) is fit may gives s h =
      let space : g.space ≡ sp = current_space past sp g (cached_held (is_rival names sp) past sp _ (current past sp) _ _ g is) in
      subst (λ n. IsTrue (fits_space names n t)) (sym space ∙ number_same g.space s (and_left (g.space == s) true h)) (selected_fits past r sp t may)
  touched_fits past legal r (Answer p x t) (Given g evicted) is fit may gives s h = at gives
    where
      at : GivesNone (Given g evicted) ⊎ GivesNext names past (Answer p x t) (Given g evicted) → IsTrue (fits_space names s t)
      at (inl none) = absurd (none-some g (sym none.0))
      at (inr next) =
          let space : next.space ≡ g.space = ap (λ o. unwrap_or (option_map (λ (y : Gift). y.space) o) 0) (sym next.gift) in
          subst (λ n. IsTrue (fits_space names n t)) (sym next.asked ∙ (space ∙ number_same g.space s (and_left (g.space == s) true h))) (answered_fits past legal r p x t may)
  touched_fits past legal r (Renew g t) Renewed is fit may gives s h = subst (λ n. IsTrue (fits_space names n t)) (number_same g.space s (and_left (g.space == s) true h)) (renewed_fits past r g t may)
  touched_fits past legal r call (Url g evicted) is fit may gives s h = absurd (false≢true fit)
  touched_fits past legal r call (Cached g) is fit may gives s h = absurd (false≢true fit)
  touched_fits past legal r call (Given g evicted) is fit may gives s h = absurd (false≢true fit)
  touched_fits past legal r call (Ready g t epoch) is fit may gives s h = absurd (false≢true (and_right (g.space == s) false h))
  touched_fits past legal r call Renewed is fit may gives s h = absurd (false≢true fit)
  touched_fits past legal r call reply is fit may gives s h = absurd (false≢true h)

  -- what a space holds goes out with terms of that space
  pub held_fits : (past : List Entry) → IsLegalPast roster names past → (s : ℕ) (gift : Gift) → current past s ≡ Some gift → IsTrue (fits_space names s (terms past s))
  held_fits [] legal s gift is = absurd (none-some gift is)
  held_fits (entry ∷ past) legal s gift is = at (touches entry s && not (is_ready entry.reply)) refl (held_fits past legal.0 s gift)
    where
      still : (a b : Bool) → gives entry s ≡ b → (touches entry s && not (is_ready entry.reply)) ≡ false → cond a None (cond b (gift_given entry.reply) (current past s)) ≡ Some gift → current past s ≡ Some gift
      still true b given none is' = absurd (none-some gift is')
      still false true given none is' = absurd (false≢true (sym none ∙ given_touches entry.call entry.reply s given))
      still false false given none is' = is'

      at : (b : Bool) → (touches entry s && not (is_ready entry.reply)) ≡ b → (current past s ≡ Some gift → IsTrue (fits_space names s (terms past s))) → IsTrue (fits_space names s (cond b (terms_in entry.call) (terms past s)))
      at true touched before = touched_fits past legal.0 entry.request entry.call entry.reply legal.1.1 legal.1.2 (may_of past entry legal.1) (gives_next roster names past entry legal.1) s touched
      at false none before = before (still (takes_away entry s) (gives entry s) refl none is)

  -- the terms of a choice that the request made last
  pub own_fits : (entries : List Entry) → IsLegalPast roster names entries → (r s t : ℕ) (m : Made) (ms : List Made) → map made_in (own entries r) ≡ m ∷ ms → m.call ≡ Select s t → IsTrue (fits_space names s t)
  own_fits [] legal r s t m ms same call = let clash : [] ≡ m ∷ ms = same in cc
  own_fits (x ∷ xs) legal r s t m ms same call = at (x.request == r) same (own_fits xs legal.0 r s t m ms)
    where
      first_of : List Made → Made
      first_of [] = m
      first_of (y ∷ ys) = y

      at : (b : Bool) → map made_in (cond b (x ∷ own xs r) (own xs r)) ≡ m ∷ ms → (map made_in (own xs r) ≡ m ∷ ms → m.call ≡ Select s t → IsTrue (fits_space names s t)) → IsTrue (fits_space names s t)
      at true found before =
          selected_fits xs x.request s t (subst (λ c. IsTrue (allowed_call roster names xs x.request c)) (ap (λ (y : Made). y.call) (ap first_of found) ∙ call) (may_of xs x legal.1))
      at false found before = before found call

  -- BY PATH

  abbrev is_pathed : ℕ → Bool
  is_pathed s = scheme_is names is_basic s || scheme_is names is_digest s

  abbrev IsPathed : Option Found → Type 0
  IsPathed None = Unit {0}
  IsPathed (Some found) = IsTrue (is_pathed found.space)

  better_pathed : (a b : Option Found) → IsPathed a → IsPathed b → IsPathed (better a b)
  better_pathed None b p q = q
  better_pathed (Some x) None p q = p
  better_pathed (Some x) (Some y) p q = at (longer x.noted y.noted)
    where
      at : (c : Bool) → IsPathed (cond c (Some x) (Some y))
      at true = p
      at false = q

  folded_pathed : (path : List ℕ) (s : ℕ) → IsTrue (is_pathed s) → (ds : List NotedDir) (best : Option Found) → IsPathed best → IsPathed (fold (λ b noted. better b (cond (covers noted.dir path) (Some (record { space = s; noted = noted })) None)) best ds)
  folded_pathed path s is [] best p = p
  folded_pathed path s is (d ∷ ds) best p = folded_pathed path s is ds (better best (one (covers d.dir path))) (better_pathed best (one (covers d.dir path)) p (in_one (covers d.dir path)))
    where
      one : Bool → Option Found
      one b = cond b (Some (record { space = s; noted = d })) None

      in_one : (b : Bool) → IsPathed (cond b (Some (record { space = s; noted = d })) None)
      in_one true = is
      in_one false = tt

  found_pathed : (past : List Entry) (place : Site) (path : List ℕ) (s : ℕ) → IsPathed (found_in roster names past place path s)
  found_pathed past place path s = at (live past s) (is_pathed s) refl (is_of_site names place s)
    where
      at : (a b : Bool) → is_pathed s ≡ b → (c : Bool) → IsPathed (cond (a && b && c) (fold (λ best noted. better best (cond (covers noted.dir path) (Some (record { space = s; noted = noted })) None)) None (dirs roster names past s)) None)
      at true true is true = folded_pathed path s is (dirs roster names past s) None tt
      at true true is false = tt
      at true false is c = tt
      at false b is c = tt

  best_pathed : (past : List Entry) (place : Site) (path : List ℕ) (xs : List ℕ) → IsPathed (best_found (found_in roster names past place path) xs)
  best_pathed past place path [] = tt
  best_pathed past place path (x ∷ xs) = better_pathed (found_in roster names past place path x) (best_found (found_in roster names past place path) xs) (found_pathed past place path x) (best_pathed past place path xs)

  path_pathed : (past : List Entry) (place : Site) (path : List ℕ) (s : ℕ) → by_path roster names past place path ≡ Some s → IsTrue (is_pathed s)
  path_pathed past place path s is = at (best_found (found_in roster names past place path) (spaces_given past)) (best_pathed past place path (spaces_given past)) is
    where
      at : (o : Option Found) → IsPathed o → option_map (λ found. found.space) o ≡ Some s → IsTrue (is_pathed s)
      at None p is' = absurd (none-some s is')
      at (Some found) p is' = subst (λ n. IsTrue (is_pathed n)) (ap (λ o. unwrap_or o s) is') p

  -- what is ready is what a Basic or Digest space holds, with its terms
  pub record IsReadyIn (past : List Entry) (gift : Gift) (t : ℕ) : Type 0 where
    pub held : current past gift.space ≡ Some gift
    pub own_terms : t ≡ terms past gift.space
    pub pathed : IsTrue (is_pathed gift.space)

  abbrev terms_ready : BookReply → ℕ
  terms_ready (Ready gift t epoch) = t
  terms_ready _ = 0

  pub ready_in : (past : List Entry) (r : ℕ) (target : Target) (gift : Gift) (t epoch : ℕ) → Ready gift t epoch ≡ preempt_answer names past (space_by_path roster names past r target) → IsReadyIn past gift t
  ready_in past r target gift t epoch is = at (option_and_then (λ request. site request target) (numbered roster.requests r)) refl is
    where
      in_space : (s : ℕ) → IsTrue (is_pathed s) → (held : Option Gift) → current past s ≡ held → Ready gift t epoch ≡ ready names past s held → IsReadyIn past gift t
      in_space s pathed None e is' = absurd (none-some gift (sym (ap gift_told is')))
      in_space s pathed (Some kept) e is' =
          let held : current past s ≡ Some gift = e ∙ sym (ap gift_told is') in
          let space : gift.space ≡ s = current_space past s gift held in
          record {
            held = subst (λ n. current past n ≡ Some gift) (sym space) held;
            own_terms = ap terms_ready is' ∙ ap (terms past) (sym space);
            pathed = subst (λ n. IsTrue (is_pathed n)) (sym space) pathed;
          }

      in_place : (path : List ℕ) (place : Site) (o : Option ℕ) → by_path roster names past place path ≡ o → Ready gift t epoch ≡ preempt_answer names past o → IsReadyIn past gift t
      in_place path place None e is' = absurd (none-some gift (sym (ap gift_told is')))
      in_place path place (Some s) e is' = in_space s (path_pathed past place path s e) (current past s) refl is'

      at : (o : Option Site) → option_and_then (λ request. site request target) (numbered roster.requests r) ≡ o → Ready gift t epoch ≡ preempt_answer names past (option_and_then (λ place. by_path roster names past place (path_of roster r target)) o) → IsReadyIn past gift t
      at None e is' = absurd (none-some gift (sym (ap gift_told is')))
      at (Some place) e is' = in_place (path_of roster r target) place (by_path roster names past place (path_of roster r target)) refl is'
