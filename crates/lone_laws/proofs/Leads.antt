-- A prompt is led once: the request that led it and the journal speak of the same space and ordinal.
use Rattle.std.proofs.Common.{◌≡◌, ℕ, ◌==◌, Bool, true, false, ◌&&◌, ◌||◌, not, cond, IsTrue, List, [], ◌∷◌, ◌++◌, reverse, Option, Some, None, is_some, option_and_then, option_map, unwrap_or, refl, sym, ap, ◌∙◌, subst, if◌then◌else◌}
use Rattle.std.specs.Prelude.{find}
use Rattle.std.specs.Option.{option_or}
use Rattle.std.proofs.lemmas.Bool.{false≢true}
use Rattle.std.proofs.lemmas.List.{reverse-append}
use Rattle.std.proofs.lemmas.List.Folds.{find-append}
use Rattle.auth_text.specs.Login.{Login}
use Rattle.spaces.specs.declared.roster.Request.{Request}
use Rattle.spaces.specs.declared.roster.Roster.{Roster}
use Rattle.spaces.specs.ProtectionSpaces.{ProtectionSpace}
use Rattle.spaces.specs.Sites.{numbered}
use Rattle.auth_events.specs.declared.journal.BookReply.{BookReply}
use Rattle.auth_events.specs.declared.journal.BookReply.TheVariants.{Lead}
use Rattle.auth_events.specs.declared.journal.Call.TheVariants.{Select}
use Rattle.auth_events.specs.declared.journal.Entry.{Entry}
use Rattle.auth_events.specs.Book.{IsLegalPast, IsStep, allowed_call}
use Rattle.auth_events.specs.Past.{is_lead, lead, prompt_led}
use Rattle.auth_events.specs.Tables.{Tables}
use Rattle.auth_events.proofs.Numbers.{and_right}
use Rattle.auth_runs.specs.declared.event.Event.{Event}
use Rattle.auth_runs.specs.declared.event.Event.TheVariants.{Called}
use Rattle.history_laws.proofs.Leading.{lead_stays}
use Rattle.link_trait.specs.declared.prompts.Ask.{Ask}
use Rattle.trace_rule.specs.Heard.{answer_to, leads_to}
use Rattle.trace_rule.specs.Settings.{Setting, setting_of}
use Rattle.trace_rule.specs.Telling.{ask_of}
use Rattle.run_laws.proofs.Shared.{legal_behind}
use Rattle.serving_laws.specs.Alone.{entries_of}
use Rattle.lone_laws.specs.Asking.{answer_of, has_led}
use Rattle.lone_laws.proofs.Answering.{named_lead}

-- TWO TESTS THAT ARE ONE

same_test : (p : ℕ) (reply : BookReply) → (is_lead reply && prompt_led reply == p) ≡ leads_to reply p
same_test p (Lead q o) = refl
same_test p _ = refl

-- the first entry that leads the prompt, in the order of the journal
abbrev first_lead : List Entry → ℕ → Option Entry
first_lead entries p = find (λ (entry : Entry). leads_to entry.reply p) (reverse entries)

module _ (roster : Roster) (names : Tables) where
  -- it is the only one
  first_is_last : (entries : List Entry) → IsLegalPast roster names entries → (p : ℕ) → first_lead entries p ≡ lead entries p
  first_is_last [] legal p = refl
  first_is_last (entry ∷ entries) legal p = opened ∙ at (lead entries p) refl (first_is_last entries legal.0 p)
    where
      leads : Entry → Bool
      leads e = leads_to e.reply p

      opened : first_lead (entry ∷ entries) p ≡ option_or (first_lead entries p) (cond (leads_to entry.reply p) (Some entry) None)
      opened = ap (find (λ (e : Entry). leads_to e.reply p)) (reverse-append (entry ∷ []) entries) ∙ find-append (λ (e : Entry). leads_to e.reply p) (reverse entries) (entry ∷ [])

      at : (o : Option Entry) → lead entries p ≡ o → first_lead entries p ≡ lead entries p → option_or (first_lead entries p) (cond (leads_to entry.reply p) (Some entry) None) ≡ lead (entry ∷ entries) p
      at None e before =
          ap (λ o. option_or o (cond (leads_to entry.reply p) (Some entry) None)) (before ∙ e)
          ∙ (ap (λ b. cond b (Some entry) None) (sym (same_test p entry.reply)) ∙ ap (λ o. cond (is_lead entry.reply && prompt_led entry.reply == p) (Some entry) o) (sym e))
      at (Some found) e before =
          ap (λ o. option_or o (cond (leads_to entry.reply p) (Some entry) None)) (before ∙ e)
          ∙ (sym e ∙ sym (lead_stays roster names entry entries legal p (ap is_some e)))

  -- later entries lead other prompts
  lead_later : (later entries : List Entry) → IsLegalPast roster names (later ++ entries) → (p : ℕ) → IsTrue (is_some (lead entries p)) → lead (later ++ entries) p ≡ lead entries p
  lead_later [] entries legal p some = refl
  lead_later (entry ∷ later) entries legal p some =
      let before : lead (later ++ entries) p ≡ lead entries p = lead_later later entries legal.0 p some in
      lead_stays roster names entry (later ++ entries) legal p (ap is_some before ∙ some) ∙ before

  module _ (seed : List ℕ) (whole : List Entry) (r : ℕ) (request : Request) (before : List Entry) (p : ℕ) (answers : ProtectionSpace → ℕ → Option Login) where
    abbrev here : Setting
    here = setting_of roster seed names whole r request

    abbrev back : List Event → List Entry
    back past = entries_of r past ++ before

    -- what stands for the prompt by the past is what stands for it by its lead
    abbrev Agrees : List Event → Type 0
    Agrees past = IsTrue (is_some (lead (back past) p)) × (answer_of answers (ask_of here past p) ≡ answer_to answers names (lead (back past) p))

    -- behind the call that leads it
    led_now : (past : List Event) (space terms q o : ℕ) → IsStep roster names (back past) (record { caller = 1; request = r; call = Select space terms; reply = Lead q o }) → (q == p) ≡ true
        → Agrees (Called (Select space terms) (Lead q o) ∷ past)
    led_now past space terms q o step same = (ap (λ b. is_some (cond b (Some entry) (lead (back past) p))) same, at (numbered names.spaces space) refl named)
      where
        entry : Entry
        entry = record { caller = 1; request = r; call = Select space terms; reply = Lead q o }

        named : IsTrue (is_some (numbered names.spaces space))
        named = subst (λ b. IsTrue (not b || is_some (numbered names.spaces space))) same (named_lead roster names (back past) p r (Select space terms) (Lead q o) refl (and_right _ (allowed_call roster names (back past) r (Select space terms)) step.0))

        at : (found : Option ProtectionSpace) → numbered names.spaces space ≡ found → IsTrue (is_some found)
            → answer_of answers (unwrap_or (option_map (λ (ask : Ask). ask ∷ []) (if q == p then option_map (λ (named : ProtectionSpace). record { space = named; ordinal = o }) (numbered names.spaces space) else None)) (ask_of here past p))
            ≡ answer_to answers names (cond (q == p) (Some entry) (lead (back past) p))
        at None e some = absurd (false≢true some)
        at (Some found) e some =
            ap (λ b. answer_of answers (unwrap_or (option_map (λ (ask : Ask). ask ∷ []) (if b then option_map (λ (named : ProtectionSpace). record { space = named; ordinal = o }) (numbered names.spaces space) else None)) (ask_of here past p))) same
            ∙ (ap (λ x. answer_of answers (unwrap_or (option_map (λ (ask : Ask). ask ∷ []) (option_map (λ (named : ProtectionSpace). record { space = named; ordinal = o }) x)) (ask_of here past p))) e
            ∙ (sym (ap (option_and_then (λ (named : ProtectionSpace). answers named o)) e) ∙ ap (λ b. answer_to answers names (cond b (Some entry) (lead (back past) p))) (sym same)))

    or_later : (a b : Bool) → a ≡ false → IsTrue (a || b) → IsTrue b
    or_later true b e h = absurd (false≢true (sym e))
    or_later false b e h = h

    agrees : (past : List Event) → IsLegalPast roster names (back past) → IsTrue (has_led r past p) → Agrees past
    agrees [] legal led = absurd (false≢true led)
    agrees (Called (Select space terms) (Lead q o) ∷ past) legal led = at (q == p) refl (agrees past legal.0)
      where
        at : (b : Bool) → (q == p) ≡ b → (IsTrue (has_led r past p) → Agrees past) → Agrees (Called (Select space terms) (Lead q o) ∷ past)
        at true same before_it = led_now past space terms q o legal.1 same
        at false other before_it =
            let rest = before_it (or_later (q == p) (has_led r past p) other led) in (
              ap (λ b. is_some (cond b (Some (record { caller = 1; request = r; call = Select space terms; reply = Lead q o })) (lead (back past) p))) other ∙ rest.0,
              ap (λ b. answer_of answers (unwrap_or (option_map (λ (ask : Ask). ask ∷ []) (if b then option_map (λ (named : ProtectionSpace). record { space = named; ordinal = o }) (numbered names.spaces space) else None)) (ask_of here past p))) other
                  ∙ (rest.1 ∙ ap (λ b. answer_to answers names (cond b (Some (record { caller = 1; request = r; call = Select space terms; reply = Lead q o })) (lead (back past) p))) (sym other)),
            )
    agrees (Called call (Lead q o) ∷ past) legal led = absurd (false≢true legal.1.2)
    agrees (Called call reply ∷ past) legal led = agrees past legal.0 led
    agrees (_ ∷ past) legal led = agrees past legal led

-- the law
pub answers_agree : (roster : Roster) (seed : List ℕ) (names : Tables) (later before : List Entry) (r : ℕ) (request : Request) (past : List Event) (p : ℕ) (answers : ProtectionSpace → ℕ → Option Login)
    → IsLegalPast roster names (later ++ (entries_of r past ++ before)) → IsTrue (has_led r past p)
    → answer_of answers (ask_of (setting_of roster seed names (later ++ (entries_of r past ++ before)) r request) past p)
    ≡ answer_to answers names (find (λ entry. leads_to entry.reply p) (reverse (later ++ (entries_of r past ++ before))))
answers_agree roster seed names later before r request past p answers legal led =
    let whole : List Entry = later ++ (entries_of r past ++ before) in
    let so = agrees roster names seed whole r request before p answers past (legal_behind roster names later (entries_of r past ++ before) legal) led in
    so.1 ∙ ap (answer_to answers names) (sym (first_is_last roster names whole legal p ∙ lead_later roster names later (entries_of r past ++ before) legal p so.0))
