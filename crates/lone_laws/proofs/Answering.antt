-- What stands for a prompt goes on to stand for it, whatever is told later.
use Rattle.std.proofs.Common.{◌≡◌, ℕ, ◌==◌, Bool, true, false, not, ◌&&◌, ◌||◌, cond, IsTrue, List, [], ◌∷◌, ◌++◌, length, Option, Some, None, is_some, option_and_then, option_map, unwrap_or, refl, sym, ap, ◌∙◌, subst, append_assoc, inl, inr, ◌⊎◌, if◌then◌else◌}
use Rattle.std.specs.Prelude.{find, nat_le}
use Rattle.std.specs.Option.{option_or}
use Rattle.std.specs.List.{list_all, list_any}
use Rattle.std.proofs.lemmas.Bool.{false≢true}
use Rattle.std.proofs.lemmas.List.{reverse-reverse}
use Rattle.std.proofs.lemmas.List.Elements.{filter_map-append}
use Rattle.std.proofs.lemmas.List.Folds.{find-append}
use Rattle.auth_text.specs.Login.{Login}
use Rattle.spaces.specs.declared.roster.Roster.{Roster}
use Rattle.spaces.specs.ProtectionSpaces.{ProtectionSpace}
use Rattle.spaces.specs.Sites.{numbered}
use Rattle.auth_events.specs.declared.journal.BookReply.{BookReply}
use Rattle.auth_events.specs.declared.journal.BookReply.TheVariants.{Lead, Lost}
use Rattle.auth_events.specs.declared.journal.Call.{Call}
use Rattle.auth_events.specs.declared.journal.Call.TheVariants.{Answer, Lose, Select}
use Rattle.auth_events.specs.declared.journal.Loss.TheVariants.{Memory}
use Rattle.auth_events.specs.declared.journal.Entry.{Entry}
use Rattle.auth_events.specs.declared.told.Told.{Told}
use Rattle.auth_events.specs.Book.{IsLegalPast, allowed_call, fits_space, is_led_by, is_site_of, space_named, terms_selected, waits}
use Rattle.auth_events.specs.Pages.{fits}
use Rattle.auth_events.specs.Past.{is_lead, lead, prompt_led, settled}
use Rattle.auth_events.specs.Tables.{Tables}
use Rattle.auth_events.specs.Told.{entry_told, journal, names_told, past}
use Rattle.auth_events.proofs.Numbers.{and_left, and_right, numbered-append, or_left, or_right, some_of_test}
use Rattle.auth_events.proofs.Reversed.{list_any-reverse}
use Rattle.auth_events.proofs.Same.{number_refl}
use Rattle.auth_runs.specs.declared.event.Event.{Event}
use Rattle.auth_runs.specs.declared.event.Event.TheVariants.{AskedFor, Called}
use Rattle.auth_runs.specs.Runs.{Each, Run}
use Rattle.book_laws.proofs.Growing.{grow_told}
use Rattle.trace_rule.specs.Heard.{IsAnswered, answer_to, leads_to, ordinal_led, space_asked}
use Rattle.trace_rule.specs.Settings.{Setting}
use Rattle.trace_rule.specs.Traces.{IsCut, IsPast, IsRun, prompt_open, with_loss}
use Rattle.trace_rule.proofs.Stages.{asks_from}
use Rattle.trace_rule.proofs.Waiting.{IsLed}
use Rattle.run_rule.specs.Outside.{Outside, is_answer_seen, is_asked_right}
use Rattle.run_laws.proofs.Fronts.{numbered_front, text_allowed}
use Rattle.serving_laws.specs.Alone.{entries_of}
use Rattle.lone_laws.specs.Lone.{run_told}
use Rattle.lone_laws.proofs.Listing.{all_reverse}

-- FINDING

any_finds : (f : Entry → Bool) (xs : List Entry) → IsTrue (list_any f xs) → IsTrue (is_some (find f xs))
any_finds f [] h = absurd (false≢true h)
any_finds f (x ∷ xs) h = at (f x) (λ k. any_finds f xs k) h
  where
    at : (b : Bool) → (IsTrue (list_any f xs) → IsTrue (is_some (find f xs))) → IsTrue (b || list_any f xs) → IsTrue (is_some (cond b (Some x) (find f xs)))
    at true later k = refl
    at false later k = later k

found_test : (g f : Entry → Bool) (xs : List Entry) (x : Entry) → IsTrue (list_all g xs) → find f xs ≡ Some x → IsTrue (f x) × IsTrue (g x)
found_test g f [] x all e = let clash : None ≡ Some x = e in cc
found_test g f (y ∷ xs) x all e = at (f y) refl e (found_test g f xs x (and_right (g y) (list_all g xs) all))
  where
    at : (b : Bool) → f y ≡ b → cond b (Some y) (find f xs) ≡ Some x → (find f xs ≡ Some x → IsTrue (f x) × IsTrue (g x)) → IsTrue (f x) × IsTrue (g x)
    at true is k later = let same : y ≡ x = cc in subst (λ z. IsTrue (f z) × IsTrue (g z)) same (is, and_left (g y) (list_all g xs) all)
    at false is k later = later k

find_any : (f g : Entry → Bool) → ((x : Entry) → IsTrue (f x) → IsTrue (g x)) → (xs : List Entry) → IsTrue (is_some (find f xs)) → IsTrue (list_any g xs)
find_any f g so [] h = absurd (false≢true h)
find_any f g so (x ∷ xs) h = at (f x) refl h (find_any f g so xs)
  where
    at : (b : Bool) → f x ≡ b → IsTrue (is_some (cond b (Some x) (find f xs))) → (IsTrue (is_some (find f xs)) → IsTrue (list_any g xs)) → IsTrue (g x || list_any g xs)
    at true is k later = or_left (g x) (list_any g xs) (so x is)
    at false is k later = or_right (g x) (list_any g xs) (later k)

any_behind : (f : Entry → Bool) (xs ys : List Entry) → IsTrue (list_any f ys) → IsTrue (list_any f (xs ++ ys))
any_behind f [] ys h = h
any_behind f (x ∷ xs) ys h = or_right (f x) (list_any f (xs ++ ys)) (any_behind f xs ys h)

any_before : (f : Entry → Bool) (xs ys : List Entry) → IsTrue (list_any f xs) → IsTrue (list_any f (xs ++ ys))
any_before f [] ys h = absurd (false≢true h)
any_before f (x ∷ xs) ys h = at (f x) h (any_before f xs ys)
  where
    at : (b : Bool) → IsTrue (b || list_any f xs) → (IsTrue (list_any f xs) → IsTrue (list_any f (xs ++ ys))) → IsTrue (b || list_any f (xs ++ ys))
    at true k later = refl
    at false k later = later k

-- LEADS

abbrev leads : ℕ → Entry → Bool
leads p entry = leads_to entry.reply p

module _ (roster : Roster) (names : Tables) where
  -- an entry that leads a prompt chose a space that is named
  abbrev is_named : ℕ → Entry → Bool
  is_named p entry = not (leads p entry) || is_some (numbered names.spaces (space_asked entry.call))

  pub named_lead : (entries : List Entry) (p r : ℕ) (call : Call) (reply : BookReply) → IsTrue (fits call reply) → IsTrue (allowed_call roster names entries r call)
      → IsTrue (not (leads_to reply p) || is_some (numbered names.spaces (space_asked call)))
  named_lead entries p r (Select s t) (Lead q o) fit may =
      or_right (not (q == p)) (is_some (numbered names.spaces s))
      (some_of_test (is_site_of roster r) (space_named names s)
      (and_left (unwrap_or (option_map (is_site_of roster r) (space_named names s)) false) (fits_space names s t)
      (and_left (unwrap_or (option_map (is_site_of roster r) (space_named names s)) false && fits_space names s t) (not (waits entries r)) may)))
  named_lead entries p r call (Lead q o) fit may = absurd (false≢true fit)
  named_lead entries p r call _ fit may = refl

  named_leads : (entries : List Entry) → IsLegalPast roster names entries → (p : ℕ) → IsTrue (list_all (is_named p) entries)
  named_leads [] legal p = refl
  named_leads (entry ∷ entries) legal p =
      ap (λ b. b && list_all (is_named p) entries) (named_lead entries p entry.request entry.call entry.reply legal.1.2 (and_right _ (allowed_call roster names entries entry.request entry.call) legal.1.0))
      ∙ named_leads entries legal.0 p

-- MORE IS TOLD

module _ (roster : Roster) (answers : ProtectionSpace → ℕ → Option Login) (told rest whole : List Told) (order : told ++ rest ≡ whole) (legal : IsLegalPast roster (names_told told) (past told)) where
  abbrev found : ℕ → Option Entry
  found p = find (leads p) (journal told)

  spaces_grow : (more : List ProtectionSpace) × ((names_told whole).spaces ≡ (names_told told).spaces ++ more)
  spaces_grow = (let grow = grow_told told rest in (grow.new_spaces, ap (λ l. (names_told l).spaces) (sym order) ∙ grow.spaces))

  texts_grow : (more : List Login) × ((names_told whole).texts ≡ (names_told told).texts ++ more)
  texts_grow = (let grow = grow_told told rest in (grow.new_texts, ap (λ l. (names_told l).texts) (sym order) ∙ grow.texts))

  journal_grows : journal whole ≡ journal told ++ journal rest
  journal_grows = ap journal (sym order) ∙ filter_map-append entry_told told rest

  answer_stays : (p : ℕ) → IsTrue (list_any (leads p) (past told)) → answer_to answers (names_told whole) (find (leads p) (journal whole)) ≡ answer_to answers (names_told told) (found p)
  answer_stays p led = at (found p) refl (any_finds (leads p) (journal told) (sym (list_any-reverse (leads p) (journal told)) ∙ led))
    where
      at : (o : Option Entry) → found p ≡ o → IsTrue (is_some o) → answer_to answers (names_told whole) (find (leads p) (journal whole)) ≡ answer_to answers (names_told told) (found p)
      at None e some = absurd (false≢true some)
      at (Some entry) e some =
          let there : find (leads p) (journal whole) ≡ Some entry =
          ap (find (leads p)) journal_grows ∙ (find-append (leads p) (journal told) (journal rest) ∙ ap (λ o. option_or o (find (leads p) (journal rest))) e) in
          let all : IsTrue (list_all (is_named roster (names_told told) p) (journal told)) =
          subst (λ l. IsTrue (list_all (is_named roster (names_told told) p) l)) (reverse-reverse (journal told)) (all_reverse (is_named roster (names_told told) p) (past told) (named_leads roster (names_told told) (past told) legal p)) in
          let test = found_test (is_named roster (names_told told) p) (leads p) (journal told) entry all e in
          let named : IsTrue (is_some (numbered (names_told told).spaces (space_asked entry.call))) = subst (λ b. IsTrue (not b || is_some (numbered (names_told told).spaces (space_asked entry.call)))) test.0 test.1 in
          let same : numbered (names_told whole).spaces (space_asked entry.call) ≡ numbered (names_told told).spaces (space_asked entry.call) =
          ap (λ l. numbered l (space_asked entry.call)) spaces_grow.1 ∙ numbered-append (names_told told).spaces spaces_grow.0 (space_asked entry.call) named in
          ap (answer_to answers (names_told whole)) there
          ∙ (ap (option_and_then (λ space. answers space (ordinal_led entry.reply))) same ∙ ap (answer_to answers (names_told told)) (sym e))

  -- ANSWERS

  led_reply : (p : ℕ) (reply : BookReply) → IsTrue (is_lead reply && prompt_led reply == p) → IsTrue (leads_to reply p)
  led_reply p (Lead q o) h = h
  led_reply p _ h = absurd (false≢true h)

  led_found : (entries : List Entry) (r p : ℕ) → IsTrue (is_led_by entries r p) → IsTrue (list_any (leads p) entries)
  led_found entries r p led =
      find_any (λ entry. is_lead entry.reply && prompt_led entry.reply == p) (leads p) (λ entry h. led_reply p entry.reply h) entries (some_of_test (λ (entry : Entry). entry.request == r) (lead entries p) led)

  abbrev IsAnsweredIn : List Told → Entry → Type 0
  IsAnsweredIn now entry = IsAnswered answers (names_told now) (journal now) entry.call

  answered_at : (entries more : List Entry) (r : ℕ) (call : Call) → past told ≡ more ++ entries → IsTrue (allowed_call roster (names_told told) entries r call)
      → IsAnswered answers (names_told told) (journal told) call → IsAnswered answers (names_told whole) (journal whole) call
  answered_at entries more r (Answer p text t) split may is =
      let fit_text : Bool = nat_le text (length (names_told told).texts) in
      let first = and_left (is_led_by entries r p && not (settled entries p) && fit_text) (unwrap_or (option_map (λ (entry : Entry). terms_selected entry.call == t) (lead entries p)) false) may in
      let led : IsTrue (is_led_by entries r p) = and_left (is_led_by entries r p) (not (settled entries p)) (and_left (is_led_by entries r p && not (settled entries p)) fit_text first) in
      numbered_front (names_told whole).texts (names_told told).texts texts_grow.0 text texts_grow.1 (text_allowed roster (names_told told) entries r p text t may)
      ∙ (is ∙ sym (answer_stays p (subst (λ l. IsTrue (list_any (leads p) l)) (sym split) (any_behind (leads p) more entries (led_found entries r p led)))))
  answered_at entries more r _ split may is = is

  -- the answers of a request's past
  pub answered_stay : (r : ℕ) (before : List Entry) (events : List Event) (more : List Entry) → past told ≡ more ++ (entries_of r events ++ before) → IsLegalPast roster (names_told told) (entries_of r events ++ before)
      → Each (IsAnsweredIn told) (entries_of r events) → Each (IsAnsweredIn whole) (entries_of r events)
  answered_stay r before [] more split lawful each = tt
  answered_stay r before (Called call reply ∷ events) more split lawful each =
      let entry : Entry = record { caller = 1; request = r; call = call; reply = reply } in
      let behind : past told ≡ (more ++ entry ∷ []) ++ (entries_of r events ++ before) = split ∙ sym (append_assoc more (entry ∷ []) (entries_of r events ++ before)) in (
        answered_at (entries_of r events ++ before) (more ++ entry ∷ []) r call behind (and_right _ (allowed_call roster (names_told told) (entries_of r events ++ before) r call) lawful.1.0) each.0,
        answered_stay r before events (more ++ entry ∷ []) behind lawful.0 each.1,
      )
  answered_stay r before (_ ∷ events) more split lawful each = answered_stay r before events more split lawful each

-- ASKS

-- each prompt that was asked for was led before
abbrev pub AreLed : ℕ → List Event → Type 0
AreLed r [] = Unit {0}
AreLed r (AskedFor p seen ∷ past) = AreLed r past × IsTrue (list_any (leads p) (entries_of r past))
AreLed r (_ ∷ past) = AreLed r past

led_past : (s : Setting) (r : ℕ) (past : List Event) → IsPast s past → AreLed r past
led_past s r [] run = tt
led_past s r (AskedFor p seen ∷ past) run = (led_past s r past run.0, at (asks_from s past p seen run.0 run.1))
  where
    at : IsLed p past → IsTrue (list_any (leads p) (entries_of r past))
    at (c, o, b, same) = subst (λ l. IsTrue (list_any (leads p) (entries_of r l))) (sym same) (or_left (p == p) (list_any (leads p) (entries_of r b)) (number_refl p))
led_past s r (_ ∷ past) run = led_past s r past run.0

led_loss : (r p : ℕ) (base : List Event) → AreLed r base → AreLed r (with_loss p base)
led_loss r p base led = at (p == 0)
  where
    at : (b : Bool) → AreLed r (if b then base else Called (Lose p Memory) (Lost Memory) ∷ base)
    at true = led
    at false = led

pub led_trace : (s : Setting) (r : ℕ) (whole : List Event) → IsRun s whole ⊎ IsCut s whole → AreLed r whole
led_trace s r whole (inl run) = led_past s r whole run.0
led_trace s r whole (inr (base, cut)) = subst (AreLed r) (sym cut.cut) (led_loss r (prompt_open base base) base (led_past s r base cut.is_past))

module _ (roster : Roster) (seed : List ℕ) (outside : Outside) (told rest whole : List Told) (order : told ++ rest ≡ whole) (legal : IsLegalPast roster (names_told told) (past told)) (traces : List (List Event)) where
  abbrev was : Run
  was = run_told roster seed told []

  abbrev is : Run
  is = run_told roster seed whole traces

  right_at : (e : Event) (r : ℕ) (events : List Event) → AreLed r (e ∷ events) → ((f : Entry → Bool) → IsTrue (list_any f (entries_of r events)) → IsTrue (list_any f (past told)))
      → IsTrue (is_asked_right outside was e) → IsTrue (is_asked_right outside is e)
  right_at (AskedFor p seen) r events led there right =
      subst (λ o. IsTrue (is_answer_seen seen o)) (sym (answer_stays roster outside.answers told rest whole order legal p (there (leads p) led.1))) right
  right_at _ r events led there right = refl

  pub asked_stay : (r : ℕ) (events : List Event) → AreLed r events → ((f : Entry → Bool) → IsTrue (list_any f (entries_of r events)) → IsTrue (list_any f (past told)))
      → IsTrue (list_all (is_asked_right outside was) events) → IsTrue (list_all (is_asked_right outside is) events)
  asked_stay r [] led there right = refl
  asked_stay r (e ∷ events) led there right =
      let here = right_at e r events led (λ f h. there f (deeper f e events h)) (and_left (is_asked_right outside was e) (list_all (is_asked_right outside was) events) right) in
      ap (λ b. b && list_all (is_asked_right outside is) events) here
      ∙ asked_stay r events (led_before r e events led) (λ f h. there f (deeper f e events h)) (and_right (is_asked_right outside was e) (list_all (is_asked_right outside was) events) right)
    where
      deeper : (f : Entry → Bool) (e' : Event) (past' : List Event) → IsTrue (list_any f (entries_of r past')) → IsTrue (list_any f (entries_of r (e' ∷ past')))
      deeper f (Called call reply) past' h = or_right (f (record { caller = 1; request = r; call = call; reply = reply })) (list_any f (entries_of r past')) h
      deeper f _ past' h = h

      led_before : (q : ℕ) (e' : Event) (past' : List Event) → AreLed q (e' ∷ past') → AreLed q past'
      led_before q (AskedFor p seen) past' l = l.0
      led_before q _ past' l = l

  -- the entries of the request are among those that were told
  pub among : (r : ℕ) (before : List Entry) (events : List Event) → past told ≡ entries_of r events ++ before → (f : Entry → Bool) → IsTrue (list_any f (entries_of r events)) → IsTrue (list_any f (past told))
  among r before events split f h = subst (λ l. IsTrue (list_any f l)) (sym split) (any_before f (entries_of r events) before h)
