-- What a prompter answered to a request's prompts, by the journal.
use Rattle.std.proofs.Common.{◌≡◌, ◌⊎◌, inl, inr, ℕ, ◌==◌, ◌&&◌, Bool, true, false, IsTrue, List, [], ◌∷◌, ◌++◌, reverse, Option, Some, None, is_none, refl, sym, ap, ◌∙◌, subst, append_assoc, if◌then◌else◌}
use Rattle.std.specs.Prelude.{filter_map, find}
use Rattle.std.specs.List.{list_all}
use Rattle.std.proofs.lemmas.List.{reverse-reverse}
use Rattle.auth_text.specs.Login.{Login}
use Rattle.spaces.specs.declared.roster.Request.{Request}
use Rattle.spaces.specs.declared.roster.Roster.{Roster}
use Rattle.spaces.specs.ProtectionSpaces.{ProtectionSpace}
use Rattle.spaces.specs.Sites.{numbered}
use Rattle.auth_events.specs.declared.journal.BookReply.TheVariants.{Lost}
use Rattle.auth_events.specs.declared.journal.Call.TheVariants.{Answer, Lose}
use Rattle.auth_events.specs.declared.journal.Loss.TheVariants.{Memory}
use Rattle.auth_events.specs.declared.journal.Entry.{Entry}
use Rattle.auth_events.specs.declared.told.Told.{Told}
use Rattle.auth_events.specs.Book.{IsLegalPast}
use Rattle.auth_events.specs.Tables.{Tables}
use Rattle.auth_events.specs.Told.{journal, names_told, past}
use Rattle.auth_events.proofs.Numbers.{or_left}
use Rattle.auth_events.proofs.Same.{number_refl}
use Rattle.link_trait.specs.declared.prompts.Ask.{Ask}
use Rattle.link_trait.specs.declared.prompts.AskSeen.{AskSeen}
use Rattle.link_trait.specs.declared.prompts.AskSeen.TheVariants.{Given, Cancel, Failed, NoMemory}
use Rattle.auth_runs.specs.declared.event.Event.{Event}
use Rattle.auth_runs.specs.declared.event.Event.TheVariants.{AskedFor, Called}
use Rattle.auth_runs.specs.Runs.{Each, entry_of}
use Rattle.request_machine.specs.Prompted.{AreAnswered, IsSeen, answer_at, answer_to_first}
use Rattle.auth_controller.specs.Texts.{AreTextsOf, IsTextOf}
use Rattle.trace_rule.specs.Heard.{IsAnswered, answer_to, leads_to}
use Rattle.trace_rule.specs.Settings.{Setting, setting_of}
use Rattle.trace_rule.specs.Telling.{ask_of}
use Rattle.trace_rule.specs.Traces.{IsCut, IsPast, IsRun, prompt_open, with_loss}
use Rattle.trace_rule.proofs.Negotiating.{IsAskedBehind, prompted_from}
use Rattle.run_rule.specs.Outside.{Outside, is_answer_seen, is_asked_right}
use Rattle.serving_laws.specs.Alone.{entries_of}
use Rattle.lone_laws.specs.Asking.{answer_of, has_led}
use Rattle.lone_laws.specs.Lone.{run_told}
use Rattle.lone_laws.proofs.Answering.{AreLed, led_trace}
use Rattle.lone_laws.proofs.Leads.{answers_agree}
use Rattle.lone_laws.proofs.Listing.{all_reverse, each_reverse}
use Rattle.lone_laws.proofs.Behind.{entries_are}

same_first : (answers : ProtectionSpace → ℕ → Option Login) (asks : List Ask) → answer_to_first answers asks ≡ answer_of answers asks
same_first answers [] = refl
same_first answers (ask ∷ asks) = refl

seen_so : (seen : AskSeen) (answer : Option Login) → IsSeen answer seen → IsTrue (is_answer_seen seen answer)
seen_so Given answer h = h
seen_so Cancel answer h = ap is_none h
seen_so (Failed count) answer h = refl
seen_so NoMemory answer h = refl

text_so : (names : Tables) (text : ℕ) (answer : Option Login) → IsTextOf names text answer → numbered names.texts text ≡ answer
text_so names text None h = ap (numbered names.texts) h
text_so names text (Some login) h = h

-- each answer of a past is of a prompt that the request led
abbrev AreAnswersLed : ℕ → List Event → Type 0
AreAnswersLed r [] = Unit {0}
AreAnswersLed r (Called (Answer p text terms) reply ∷ past) = AreAnswersLed r past × IsTrue (has_led r past p)
AreAnswersLed r (_ ∷ past) = AreAnswersLed r past

led_behind : (r p : ℕ) (past : List Event) → IsAskedBehind p past → IsTrue (has_led r past p)
led_behind r p past (seen, space, terms, o, b, same) = subst (λ l. IsTrue (has_led r l p)) (sym same) (or_left (p == p) (has_led r b p) (number_refl p))

answers_led : (s : Setting) (r : ℕ) (past : List Event) → IsPast s past → AreAnswersLed r past
answers_led s r [] run = tt
answers_led s r (Called (Answer p text terms) reply ∷ past) run = (answers_led s r past run.0, led_behind r p past (prompted_from s past p text terms reply run))
answers_led s r (_ ∷ past) run = answers_led s r past run.0

answers_loss : (r p : ℕ) (base : List Event) → AreAnswersLed r base → AreAnswersLed r (with_loss p base)
answers_loss r p base led = at (p == 0)
  where
    at : (b : Bool) → AreAnswersLed r (if b then base else Called (Lose p Memory) (Lost Memory) ∷ base)
    at true = led
    at false = led

answers_trace : (s : Setting) (r : ℕ) (whole : List Event) → IsRun s whole ⊎ IsCut s whole → AreAnswersLed r whole
answers_trace s r whole (inl run) = answers_led s r whole run.0
answers_trace s r whole (inr (base, cut)) = subst (AreAnswersLed r) (sym cut.cut) (answers_loss r (prompt_open base base) base (answers_led s r base cut.is_past))

module _ (outside : Outside) (roster : Roster) (seed : List ℕ) (told : List Told) (before : List Entry) (r : ℕ) (request : Request) (legal : IsLegalPast roster (names_told told) (past told)) where
  abbrev here : Setting
  here = setting_of roster seed (names_told told) (past told) r request

  -- what stands for the prompt by the past stands for it by the journal
  journals : (later : List Entry) (events : List Event) (p : ℕ) → past told ≡ later ++ (entries_of r events ++ before) → IsTrue (has_led r events p)
      → answer_at here outside.answers events p ≡ answer_to outside.answers (names_told told) (find (λ entry. leads_to entry.reply p) (journal told))
  journals later events p split led =
      same_first outside.answers (ask_of here events p)
      ∙ (ap (λ l. answer_of outside.answers (ask_of (setting_of roster seed (names_told told) l r request) events p)) split
      ∙ (answers_agree roster seed (names_told told) later before r request events p outside.answers (subst (IsLegalPast roster (names_told told)) split legal) led
      ∙ ap (λ l. answer_to outside.answers (names_told told) (find (λ entry. leads_to entry.reply p) l)) (ap reverse (sym split) ∙ reverse-reverse (journal told))))

  abbrev right : Event → Bool
  right e = is_asked_right outside (run_told roster seed told []) e

  asked_past : (later : List Entry) (events : List Event) → past told ≡ later ++ (entries_of r events ++ before) → AreLed r events → AreAnswered here outside.answers events → IsTrue (list_all right events)
  asked_past later [] split led are = refl
  asked_past later (AskedFor p seen ∷ events) split led are =
      let now : IsTrue (right (AskedFor p seen)) = seen_so seen _ (subst (λ o. IsSeen o seen) (journals later events p split led.1) are.1) in
      ap (λ b. b && list_all right events) now ∙ asked_past later events split led.0 are.0
  asked_past later (Called call reply ∷ events) split led are =
      let entry : Entry = record { caller = 1; request = r; call = call; reply = reply } in
      asked_past (later ++ entry ∷ []) events (split ∙ sym (append_assoc later (entry ∷ []) (entries_of r events ++ before))) led are
  asked_past later (_ ∷ events) split led are = asked_past later events split led are

  abbrev Right : Entry → Type 0
  Right entry = IsAnswered outside.answers (names_told told) (journal told) entry.call

  answered_past : (later : List Entry) (events : List Event) → past told ≡ later ++ (entries_of r events ++ before) → AreAnswersLed r events → AreTextsOf here outside.answers (names_told told) events → Each Right (entries_of r events)
  answered_past later [] split led are = tt
  answered_past later (Called (Answer p text terms) reply ∷ events) split led are =
      let entry : Entry = record { caller = 1; request = r; call = Answer p text terms; reply = reply } in
      let behind = split ∙ sym (append_assoc later (entry ∷ []) (entries_of r events ++ before)) in (
        text_so (names_told told) text (answer_at here outside.answers events p) are.1 ∙ journals (later ++ entry ∷ []) events p behind led.1,
        answered_past (later ++ entry ∷ []) events behind led.0 are.0,
      )
  answered_past later (Called call reply ∷ events) split led are =
      let entry : Entry = record { caller = 1; request = r; call = call; reply = reply } in
      (tt, answered_past (later ++ entry ∷ []) events (split ∙ sym (append_assoc later (entry ∷ []) (entries_of r events ++ before))) led are)
  answered_past later (_ ∷ events) split led are = answered_past later events split led are

  pub asked_right : (trace : List Event) (s : Setting) → IsRun s (reverse trace) ⊎ IsCut s (reverse trace) → past told ≡ entries_of r (reverse trace) ++ before → AreAnswered here outside.answers (reverse trace)
      → IsTrue (list_all right trace)
  asked_right trace s is split are =
      subst (λ l. IsTrue (list_all right l)) (reverse-reverse trace) (all_reverse right (reverse trace) (asked_past [] (reverse trace) split (led_trace s r (reverse trace) is) are))

  pub answered_right : (trace : List Event) (s : Setting) → IsRun s (reverse trace) ⊎ IsCut s (reverse trace) → past told ≡ entries_of r (reverse trace) ++ before → AreTextsOf here outside.answers (names_told told) (reverse trace)
      → Each Right (filter_map (entry_of 1 r) trace)
  answered_right trace s is split are =
      subst (Each Right) (ap reverse (entries_are r trace) ∙ reverse-reverse (filter_map (entry_of 1 r) trace))
      (each_reverse Right (entries_of r (reverse trace)) (answered_past [] (reverse trace) split (answers_trace s r (reverse trace) is) are))
