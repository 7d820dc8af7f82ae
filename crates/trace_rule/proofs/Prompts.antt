-- Prompts in a legal history: the one that a request led last is its own and open, and the one that it followed last was not taken.
use Rattle.std.proofs.Common.{◌≡◌, ◌⊎◌, inl, inr, ℕ, ◌+◌, ◌≤◌, ◌<◌, Bool, true, false, not, ◌&&◌, ◌||◌, ◌==◌, cond, IsTrue, List, [], ◌∷◌, map, find, Option, Some, None, is_some, option_map, unwrap_or, refl, sym, ap, ◌∙◌, subst, arith}
use Rattle.std.specs.List.{list_any}
use Rattle.std.proofs.lemmas.Bool.{false≢true, eq-eqb, eqb-true}
use Rattle.std.proofs.lemmas.List.Sums.{sum_by-cons}
use Rattle.spaces.specs.declared.roster.Roster.{Roster}
use Rattle.auth_events.specs.declared.journal.Gift.{Gift}
use Rattle.auth_events.specs.declared.journal.Call.{Call}
use Rattle.auth_events.specs.declared.journal.Call.TheVariants.{Select, Answer, Lose, Take}
use Rattle.auth_events.specs.declared.journal.BookReply.{BookReply}
use Rattle.auth_events.specs.declared.journal.BookReply.TheVariants.{Lead, Follow, Pending}
use Rattle.auth_events.specs.declared.journal.Entry.{Entry}
use Rattle.auth_events.specs.Tables.{Tables}
use Rattle.auth_events.specs.Pages.{fits}
use Rattle.auth_events.specs.Past.{is_lead, lead, leads, prompt_led, prompt_followed, settles, settled, selects, open_lead, current, end, taken_from}
use Rattle.auth_events.specs.Book.{Choice, IsLegalPast, IsStep, answer, allowed_call, begins, no_entry, is_open, choice, first_choice, is_rival, select_answer, is_led_by, takes, own}
use Rattle.auth_events.specs.Book.Choice.{ByUrl, ByCache, ByDefault, ByFollowing, ByLeading}
use Rattle.history_laws.proofs.Homes.{answered_led}
use Rattle.history_laws.proofs.Leading.{lead_stays, prompt_of_lead}
use Rattle.history_laws.proofs.Prompting.{one_if}
use Rattle.trace_rule.specs.Entries.{Made, made_in}
use Rattle.trace_rule.proofs.Allowed.{parts, join, any_map}
use Rattle.trace_rule.proofs.Stages.{any_within}

select_number : (rival : ℕ → Bool) (past : List Entry) (s : ℕ) (how : Choice) → IsTrue (is_lead (select_answer rival past s how)) → prompt_led (select_answer rival past s how) ≡ leads past + 1
select_number rival past s ByUrl led = absurd (false≢true led)
select_number rival past s (ByCache gift) led = absurd (false≢true led)
select_number rival past s ByDefault led = absurd (false≢true led)
select_number rival past s (ByFollowing p) led = absurd (false≢true led)
select_number rival past s ByLeading led = refl

-- the call of a lead or a following is a choice
choice_call : (call : Call) (reply : BookReply) → IsTrue (fits call reply) → IsTrue (is_lead reply) ⊎ ((p : ℕ) × (reply ≡ Follow p)) → (s : ℕ) × (t : ℕ) × (call ≡ Select s t)
choice_call (Select s t) reply fit how = (s, t, refl)
choice_call call (Lead p o) fit how = absurd (false≢true fit)
choice_call call (Follow p) fit how = absurd (false≢true fit)
choice_call call reply fit (inl led) = absurd (false≢true led)
choice_call call reply fit (inr (p, same)) = absurd (false≢true (sym (no_follow reply) ∙ ap is_follow same))
  where
    is_follow : BookReply → Bool
    is_follow (Follow q) = true
    is_follow r = false

    no_follow : (r : BookReply) → is_follow r ≡ is_follow r
    no_follow r = refl

module _ (roster : Roster) (names : Tables) where
  new_number : (past : List Entry) (entry : Entry) → IsStep roster names past entry → IsTrue (is_lead entry.reply) → prompt_led entry.reply ≡ leads past + 1
  new_number past entry step led = at (choice_call entry.call entry.reply step.2 (inl led))
    where
      at : (s : ℕ) × (t : ℕ) × (entry.call ≡ Select s t) → prompt_led entry.reply ≡ leads past + 1
      at (s, t, call) =
          let is : entry.reply ≡ select_answer (is_rival names s) past s (choice roster names past entry.request s) = step.1 ∙ ap (answer roster names past entry.request) call in
          ap prompt_led is ∙ select_number (is_rival names s) past s (choice roster names past entry.request s) (subst (λ r. IsTrue (is_lead r)) is led)

  counted : (entry : Entry) (past : List Entry) → leads (entry ∷ past) ≡ one_if (is_lead entry.reply) + leads past
  counted entry past = sum_by-cons (λ e. cond (is_lead e.reply) 1 0) entry past

  -- prompts are numbered from 1 as they are led
  lead_within : (past : List Entry) → IsLegalPast roster names past → (p : ℕ) → IsTrue (is_some (lead past p)) → (1 ≤ p) × (p ≤ leads past)
  lead_within [] legal p some = absurd (false≢true some)
  lead_within (entry ∷ past) legal p some = at (is_lead entry.reply) refl (prompt_led entry.reply == p) refl some (λ before. lead_within past legal.0 p before)
    where
      at : (a : Bool) → is_lead entry.reply ≡ a → (b : Bool) → (prompt_led entry.reply == p) ≡ b → IsTrue (is_some (cond (a && b) (Some entry) (lead past p))) → (IsTrue (is_some (lead past p)) → (1 ≤ p) × (p ≤ leads past)) → (1 ≤ p) × (p ≤ leads (entry ∷ past))
      at true led true same found before = (
        omega (arith, new_number past entry legal.1 led, eqb-true (prompt_led entry.reply) p same),
        omega (arith, counted entry past, ap one_if led, new_number past entry legal.1 led, eqb-true (prompt_led entry.reply) p same),
      )
      at true led false other found before = let b = before found in (b.0, omega (arith, counted entry past, b.1))
      at false other b is found before = let w = before found in (w.0, omega (arith, counted entry past, w.1))

  -- who settles a prompt leads it
  settle_led : (past : List Entry) (entry : Entry) (p : ℕ) → IsStep roster names past entry → IsTrue (settles entry.call p) → IsTrue (is_led_by past entry.request p)
  settle_led past entry p step done = at entry.call refl done
    where
      condition : (call : Call) → entry.call ≡ call → IsTrue (allowed_call roster names past entry.request call)
      condition call e = subst (λ c. IsTrue (allowed_call roster names past entry.request c)) e (parts (cond (begins entry.call) (no_entry past entry.request) (is_open past entry.caller entry.request)) (allowed_call roster names past entry.request entry.call) step.0).1

      at : (call : Call) → entry.call ≡ call → IsTrue (settles call p) → IsTrue (is_led_by past entry.request p)
      at (Answer prompt text terms) e d = subst (λ q. IsTrue (is_led_by past entry.request q)) (eqb-true prompt p d) (answered_led roster names past entry.request prompt text terms (condition (Answer prompt text terms) e))
      at (Lose prompt loss) e d = subst (λ q. IsTrue (is_led_by past entry.request q)) (eqb-true prompt p d) (parts (is_led_by past entry.request prompt) (not (settled past prompt)) (condition (Lose prompt loss) e)).0
      at _ e d = absurd (false≢true d)

  led_some : (past : List Entry) (r p : ℕ) → IsTrue (is_led_by past r p) → IsTrue (is_some (lead past p))
  led_some past r p led = at (lead past p) led
    where
      at : (o : Option Entry) → IsTrue (unwrap_or (option_map (λ (e : Entry). e.request == r) o) false) → IsTrue (is_some o)
      at None h = absurd (false≢true h)
      at (Some e) h = refl

  -- a prompt that wasn't led isn't settled
  unsettled : (past : List Entry) → IsLegalPast roster names past → (p : ℕ) → leads past < p → settled past p ≡ false
  unsettled [] legal p few = refl
  unsettled (entry ∷ past) legal p few =
      at (settles entry.call p) refl (unsettled past legal.0 p (omega (arith, few, counted entry past)))
    where
      at : (b : Bool) → settles entry.call p ≡ b → settled past p ≡ false → (b || settled past p) ≡ false
      at true done before = absurd (omega (arith, few, counted entry past, (lead_within past legal.0 p (led_some past entry.request p (settle_led past entry p legal.1 done))).1))
      at false other before = before

  select_settles : (call : Call) (s t p : ℕ) → call ≡ Select s t → settles call p ≡ false
  select_settles call s t p e = ap (λ c. settles c p) e

  -- THE PROMPT THAT WAS LED LAST

  pub record IsLastLed (entries : List Entry) (r p : ℕ) (m : Made) : Type 0 where
    pub entry : Entry
    pub is_lead_of : lead entries p ≡ Some entry
    pub own_request : entry.request ≡ r
    pub made : made_in entry ≡ m
    pub is_unsettled : settled entries p ≡ false

  pub last_led : (entries : List Entry) → IsLegalPast roster names entries → (r p o : ℕ) (m : Made) (ms : List Made) → map made_in (own entries r) ≡ m ∷ ms → m.reply ≡ Lead p o → IsLastLed entries r p m
  last_led [] legal r p o m ms same led = let clash : [] ≡ m ∷ ms = same in cc
  last_led (x ∷ xs) legal r p o m ms same led = at (x.request == r) refl same (λ before. last_led xs legal.0 r p o m ms before led)
    where
      first_of : List Made → Made
      first_of [] = m
      first_of (y ∷ ys) = y

      here : made_in x ≡ m → x.request ≡ r → IsLastLed (x ∷ xs) r p m
      here it mine =
          let reply : x.reply ≡ Lead p o = ap (λ y. y.reply) it ∙ led in
          let is_led : IsTrue (is_lead x.reply) = ap is_lead reply in
          let number : p ≡ leads xs + 1 = sym (ap prompt_led reply) ∙ new_number xs x legal.1 is_led in
          let call = choice_call x.call x.reply legal.1.2 (inl is_led) in
          record {
            entry = x;
            is_lead_of = ap (λ b. cond b (Some x) (lead xs p)) (join (is_lead x.reply) (prompt_led x.reply == p) is_led (eq-eqb (prompt_led x.reply) p (ap prompt_led reply)));
            own_request = mine;
            made = it;
            is_unsettled = ap (λ b. b || settled xs p) (select_settles x.call call.0 call.1 p call.2) ∙ unsettled xs legal.0 p (omega (arith, number));
          }

      later : (x.request == r) ≡ false → IsLastLed xs r p m → IsLastLed (x ∷ xs) r p m
      later other l = record {
        entry = l.entry;
        is_lead_of = lead_stays roster names x xs legal p (ap is_some l.is_lead_of) ∙ l.is_lead_of;
        own_request = l.own_request;
        made = l.made;
        is_unsettled = unless (settles x.call p) refl;
      }
        where
          unless : (b : Bool) → settles x.call p ≡ b → (b || settled xs p) ≡ false
          unless true done =
              let led_by : IsTrue (is_led_by xs x.request p) = settle_led xs x p legal.1 done in
              let same_request : IsTrue (l.entry.request == x.request) = sym (ap (λ found. unwrap_or (option_map (λ (e : Entry). e.request == x.request) found) false) l.is_lead_of) ∙ led_by in
              let equal : x.request ≡ r = sym (eqb-true l.entry.request x.request same_request) ∙ l.own_request in
              absurd (false≢true (sym other ∙ eq-eqb x.request r equal))
          unless false not_it = l.is_unsettled

      at : (b : Bool) → (x.request == r) ≡ b → map made_in (cond b (x ∷ own xs r) (own xs r)) ≡ m ∷ ms → (map made_in (own xs r) ≡ m ∷ ms → IsLastLed xs r p m) → IsLastLed (x ∷ xs) r p m
      at true mine found before = here (ap first_of found) (eqb-true x.request r mine)
      at false other found before = later other (before found)

  -- THE PROMPT THAT WAS FOLLOWED LAST

  -- what is taken was settled
  taken_settled : (past : List Entry) → IsLegalPast roster names past → (p : ℕ) → IsTrue (list_any (λ e. takes e.call p) past) → IsTrue (settled past p)
  taken_settled [] legal p taken = absurd (false≢true taken)
  taken_settled (x ∷ xs) legal p taken = at (takes x.call p) refl taken (λ before. taken_settled xs legal.0 p before)
    where
      more : IsTrue (settled xs p) → IsTrue (settled (x ∷ xs) p)
      more h = by (settles x.call p)
        where
          by : (b : Bool) → IsTrue (b || settled xs p)
          by true = refl
          by false = h

      ended : (o : Option Entry) → find (λ e. settles e.call p) xs ≡ o → IsTrue (fits (Take p) (unwrap_or (option_map (λ (e : Entry). taken_from e.reply) o) Pending)) → IsTrue (settled xs p)
      ended None e f = absurd (false≢true f)
      ended (Some entry) e f = any_found (λ y. settles y.call p) xs entry e
        where
          any_found : (g : Entry → Bool) (ys : List Entry) (y : Entry) → find g ys ≡ Some y → IsTrue (list_any g ys)
          any_found g [] y e = let clash : None ≡ Some y = e in cc
          any_found g (z ∷ ys) y e = by (g z) (any_found g ys y) e
            where
              by : (b : Bool) → (find g ys ≡ Some y → IsTrue (list_any g ys)) → cond b (Some z) (find g ys) ≡ Some y → IsTrue (b || list_any g ys)
              by true later k = refl
              by false later k = later k

      by_take : (call : Call) → x.call ≡ call → IsTrue (takes call p) → IsTrue (settled xs p)
      by_take (Take prompt) e t =
          let same : prompt ≡ p = eqb-true prompt p t in
          let call : x.call ≡ Take p = e ∙ ap Take same in
          ended (find (λ y. settles y.call p) xs) refl (subst (λ c. IsTrue (fits c (end xs p))) call (subst (λ reply. IsTrue (fits x.call reply)) (legal.1.1 ∙ ap (answer roster names xs x.request) call) legal.1.2))
      by_take _ e t = absurd (false≢true t)

      at : (b : Bool) → takes x.call p ≡ b → IsTrue (b || list_any (λ e. takes e.call p) xs) → (IsTrue (list_any (λ e. takes e.call p) xs) → IsTrue (settled xs p)) → IsTrue (settled (x ∷ xs) p)
      at true t h before = more (by_take x.call refl t)
      at false t h before = more (before h)

  -- a following names an open prompt
  by_following : (rival : ℕ → Bool) (past : List Entry) (s p : ℕ) (a : Bool) (h : Option Gift) (b : Bool) (led : Option Entry) → select_answer rival past s (first_choice a h b led) ≡ Follow p
      → (found : Entry) × (led ≡ Some found) × (p ≡ prompt_led found.reply)
  by_following rival past s p true h b led e = absurd (false≢true (ap is_follow e))
    where
      is_follow : BookReply → Bool
      is_follow (Follow q) = true
      is_follow r = false
  by_following rival past s p false (Some gift) b led e = absurd (false≢true (ap is_follow e))
    where
      is_follow : BookReply → Bool
      is_follow (Follow q) = true
      is_follow r = false
  by_following rival past s p false None true led e = absurd (false≢true (ap is_follow e))
    where
      is_follow : BookReply → Bool
      is_follow (Follow q) = true
      is_follow r = false
  by_following rival past s p false None false (Some found) e = (found, refl, sym (ap prompt_followed e))
  by_following rival past s p false None false None e = absurd (false≢true (ap is_follow e))
    where
      is_follow : BookReply → Bool
      is_follow (Follow q) = true
      is_follow r = false

  found_passes : (g : Entry → Bool) (xs : List Entry) (y : Entry) → find g xs ≡ Some y → IsTrue (g y)
  found_passes g [] y e = let clash : None ≡ Some y = e in cc
  found_passes g (x ∷ xs) y e = at (g x) refl (found_passes g xs y) e
    where
      entry_in : Option Entry → Entry
      entry_in None = x
      entry_in (Some z) = z

      at : (b : Bool) → g x ≡ b → (find g xs ≡ Some y → IsTrue (g y)) → cond b (Some x) (find g xs) ≡ Some y → IsTrue (g y)
      at true passes later k = subst (λ z. IsTrue (g z)) (ap entry_in k) passes
      at false passes later k = later k

  not_false : (b : Bool) → IsTrue (not b) → b ≡ false
  not_false true h = absurd (false≢true h)
  not_false false h = refl

  none_if : (b : Bool) → (IsTrue b → ⊥) → b ≡ false
  none_if true h = absurd (h refl)
  none_if false h = refl

  -- the prompt that an entry follows was led, and not taken before
  followed_open : (past : List Entry) (entry : Entry) (p : ℕ) → IsLegalPast roster names past → IsStep roster names past entry → entry.reply ≡ Follow p → (1 ≤ p) × (list_any (λ e. takes e.call p) past ≡ false)
  followed_open past entry p legal step e = at (choice_call entry.call entry.reply step.2 (inr (p, e)))
    where
      at : (s : ℕ) × (t : ℕ) × (entry.call ≡ Select s t) → (1 ≤ p) × (list_any (λ x. takes x.call p) past ≡ false)
      at (s, t, call) =
          let is : select_answer (is_rival names s) past s (choice roster names past entry.request s) ≡ Follow p = sym (step.1 ∙ ap (answer roster names past entry.request) call) ∙ e in
          let found = by_following (is_rival names s) past s p _ (current past s) _ (open_lead past s) is in
          let prompt = prompt_of_lead roster names (λ x. not (settled past (prompt_led x.reply))) past legal s found.0 found.1 in
          let passes = found_passes (λ x. is_lead x.reply && selects x.call s && not (settled past (prompt_led x.reply))) past found.0 found.1 in
          let still : settled past p ≡ false = ap (settled past) found.2 ∙ not_false (settled past (prompt_led found.0.reply)) (parts (is_lead found.0.reply && selects found.0.call s) (not (settled past (prompt_led found.0.reply))) passes).1 in (
            subst (λ q. 1 ≤ q) (sym found.2) (lead_within past legal (prompt_led found.0.reply) prompt.0).0,
            none_if (list_any (λ x. takes x.call p) past) (λ taken. false≢true (sym still ∙ taken_settled past legal p taken)),
          )

  pub last_followed : (entries : List Entry) → IsLegalPast roster names entries → (r p : ℕ) (m : Made) (ms : List Made) → map made_in (own entries r) ≡ m ∷ ms → m.reply ≡ Follow p → (1 ≤ p) × (list_any (λ x. takes x.call p) ms ≡ false)
  last_followed [] legal r p m ms same led = let clash : [] ≡ m ∷ ms = same in cc
  last_followed (x ∷ xs) legal r p m ms same led = at (x.request == r) same (λ before. last_followed xs legal.0 r p m ms before led)
    where
      first_of : List Made → Made
      first_of [] = m
      first_of (y ∷ ys) = y

      rest_of : List Made → List Made
      rest_of [] = []
      rest_of (y ∷ ys) = ys

      at : (b : Bool) → map made_in (cond b (x ∷ own xs r) (own xs r)) ≡ m ∷ ms → (map made_in (own xs r) ≡ m ∷ ms → (1 ≤ p) × (list_any (λ y. takes y.call p) ms ≡ false)) → (1 ≤ p) × (list_any (λ y. takes y.call p) ms ≡ false)
      at true found before =
          let it : made_in x ≡ m = ap first_of found in
          let rest : map made_in (own xs r) ≡ ms = ap rest_of found in
          let here = followed_open xs x p legal.0 legal.1 (ap (λ y. y.reply) it ∙ led) in (
            here.0,
            none_if (list_any (λ y. takes y.call p) ms)
                (λ taken. false≢true (sym here.1 ∙ any_within (λ e. takes e.call p) (λ e. e.request == r) xs
                (any_map made_in (λ y. takes y.call p) (own xs r) ∙ ap (list_any (λ y. takes y.call p)) rest ∙ taken))),
          )
      at false found before = before found
