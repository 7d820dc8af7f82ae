-- Prompts are numbered once, so that a prompt's space stays what it was.
use Rattle.std.proofs.Common.{◌≡◌, ℕ, ◌+◌, ◌≤◌, Bool, true, false, ◌&&◌, cond, List, [], ◌∷◌, refl, ap, subst, ◌∙◌, arith, Some}
use Rattle.std.specs.Prelude.{IsTrue, is_some, find, option_map, unwrap_or, ◌==◌}
use Rattle.std.proofs.lemmas.Bool.{false≢true}
use Rattle.std.proofs.lemmas.Option.{none-some}
use Rattle.std.proofs.lemmas.List.Sums.{sum_by-cons}
use Rattle.spaces.specs.declared.roster.Roster.{Roster}
use Rattle.auth_events.specs.declared.journal.Call.{Call}
use Rattle.auth_events.specs.declared.journal.Call.TheVariants.{Select}
use Rattle.auth_events.specs.declared.journal.BookReply.{BookReply}
use Rattle.auth_events.specs.declared.journal.BookReply.TheVariants.{Lead}
use Rattle.auth_events.specs.declared.journal.Entry.{Entry}
use Rattle.auth_events.specs.Tables.{Tables}
use Rattle.auth_events.specs.Pages.{fits}
use Rattle.auth_events.specs.Past.{is_lead, lead, leads, prompt_led, selects}
use Rattle.auth_events.specs.Book.{Choice, IsLegalPast, answer, choice, is_rival, select_answer, space_of_prompt, space_selected}
use Rattle.auth_events.specs.Book.Choice.{ByUrl, ByCache, ByDefault, ByFollowing, ByLeading}
use Rattle.auth_events.proofs.Numbers.{and_left, and_right, both}
use Rattle.auth_events.proofs.Same.{number_same, number_refl}
use Rattle.history_laws.proofs.Prompting.{one_if}

select_number : (rival : ℕ → Bool) (past : List Entry) (s : ℕ) (how : Choice) → IsTrue (is_lead (select_answer rival past s how)) → prompt_led (select_answer rival past s how) ≡ leads past + 1
select_number rival past s ByUrl led = absurd (false≢true led)
select_number rival past s (ByCache gift) led = absurd (false≢true led)
select_number rival past s ByDefault led = absurd (false≢true led)
select_number rival past s (ByFollowing p) led = absurd (false≢true led)
select_number rival past s ByLeading led = refl

-- the first lead of the prompt, by one entry more
lead_number : (b : Bool) (n m : ℕ) → (b ≡ true → n ≡ m + 1) → one_if b + m ≡ cond b n m
lead_number true n m is = omega (arith, is refl)
lead_number false n m is = omega arith

-- the prompt was led for the space
abbrev pub IsPromptOf : List Entry → ℕ → ℕ → Type 0
IsPromptOf past s p = IsTrue (is_some (lead past p)) × (space_of_prompt past p ≡ s)

module _ (roster : Roster) (names : Tables) where
  pub new_number : (past : List Entry) (r : ℕ) (call : Call) (reply : BookReply) → reply ≡ answer roster names past r call → IsTrue (fits call reply) → IsTrue (is_lead reply) → prompt_led reply ≡ leads past + 1
  new_number past r (Select s t) reply is fit led =
      ap prompt_led is ∙ select_number (is_rival names s) past s (choice roster names past r s) (subst (λ told. IsTrue (is_lead told)) is led)
  new_number past r call (Lead p ordinal) is fit led = absurd (false≢true fit)
  new_number past r call reply is fit led = absurd (false≢true led)

  -- a lead's call selects its space
  pub leads_selected : (call : Call) (reply : BookReply) → IsTrue (fits call reply) → IsTrue (is_lead reply) → IsTrue (selects call (space_selected call))
  leads_selected (Select s t) reply fit led = number_refl s
  leads_selected call (Lead p ordinal) fit led = absurd (false≢true fit)
  leads_selected call reply fit led = absurd (false≢true led)

  -- prompts are numbered as they are led
  lead_within : (past : List Entry) → IsLegalPast roster names past → (p : ℕ) → IsTrue (is_some (lead past p)) → p ≤ leads past
  lead_within [] legal p some = absurd (false≢true some)
  lead_within (entry ∷ past) legal p some = at (is_lead entry.reply) refl (prompt_led entry.reply == p) refl some (λ before. lead_within past legal.0 p before)
    where
      counted : leads (entry ∷ past) ≡ one_if (is_lead entry.reply) + leads past
      counted = sum_by-cons (λ e. cond (is_lead e.reply) 1 0) entry past

      at : (a : Bool) → is_lead entry.reply ≡ a → (b : Bool) → (prompt_led entry.reply == p) ≡ b → IsTrue (is_some (cond (a && b) (Some entry) (lead past p))) → (IsTrue (is_some (lead past p)) → p ≤ leads past) → p ≤ leads (entry ∷ past)
      at true led true same found before =
          omega (arith, counted, ap one_if led, new_number past entry.request entry.call entry.reply legal.1.1 legal.1.2 led, number_same (prompt_led entry.reply) p same)
      at true led false other found before = omega (arith, counted, before found)
      at false other b is found before = omega (arith, counted, before found)

  -- a prompt that was led keeps its lead
  pub lead_stays : (entry : Entry) (past : List Entry) → IsLegalPast roster names (entry ∷ past) → (p : ℕ) → IsTrue (is_some (lead past p)) → lead (entry ∷ past) p ≡ lead past p
  lead_stays entry past legal p some = at (is_lead entry.reply) refl (prompt_led entry.reply == p) refl
    where
      at : (a : Bool) → is_lead entry.reply ≡ a → (b : Bool) → (prompt_led entry.reply == p) ≡ b → cond (a && b) (Some entry) (lead past p) ≡ lead past p
      at true led true same =
          absurd (omega (arith, lead_within past legal.0 p some, new_number past entry.request entry.call entry.reply legal.1.1 legal.1.2 led, number_same (prompt_led entry.reply) p same))
      at true led false other = refl
      at false other b is = refl

  pub space_stays : (entry : Entry) (past : List Entry) → IsLegalPast roster names (entry ∷ past) → (p : ℕ) → IsTrue (is_some (lead past p)) → space_of_prompt (entry ∷ past) p ≡ space_of_prompt past p
  space_stays entry past legal p some = ap (λ found. unwrap_or (option_map (λ e. space_selected e.call) found) 0) (lead_stays entry past legal p some)

  -- a new lead is the lead of its number
  pub own_lead : (entry : Entry) (past : List Entry) → IsTrue (is_lead entry.reply) → lead (entry ∷ past) (prompt_led entry.reply) ≡ Some entry
  own_lead entry past led =
      ap (λ b. cond b (Some entry) (lead past (prompt_led entry.reply))) (both (is_lead entry.reply) (prompt_led entry.reply == prompt_led entry.reply) led (number_refl (prompt_led entry.reply)))

  select_space : (call : Call) (s : ℕ) → IsTrue (selects call s) → space_selected call ≡ s
  select_space (Select space t) s is = number_same space s is
  select_space call s is = absurd (false≢true is)

  pub prompt_of_lead : (q : Entry → Bool) (past : List Entry) → IsLegalPast roster names past → (s : ℕ) (found : Entry) → find (λ entry. is_lead entry.reply && selects entry.call s && q entry) past ≡ Some found → IsPromptOf past s (prompt_led found.reply)
  prompt_of_lead q [] legal s found is = absurd (none-some found is)
  prompt_of_lead q (entry ∷ past) legal s found is = at (is_lead entry.reply && selects entry.call s && q entry) refl is (λ before. prompt_of_lead q past legal.0 s found before)
    where
      at : (b : Bool) → (is_lead entry.reply && selects entry.call s && q entry) ≡ b → cond b (Some entry) (find (λ e. is_lead e.reply && selects e.call s && q e) past) ≡ Some found → (find (λ e. is_lead e.reply && selects e.call s && q e) past ≡ Some found → IsPromptOf past s (prompt_led found.reply)) → IsPromptOf (entry ∷ past) s (prompt_led found.reply)
      at true test this before =
          let first = and_left (is_lead entry.reply && selects entry.call s) (q entry) test in
          let led = and_left (is_lead entry.reply) (selects entry.call s) first in
          let number : prompt_led entry.reply ≡ prompt_led found.reply = ap (λ o. unwrap_or (option_map (λ (e : Entry). prompt_led e.reply) o) 0) this in
          subst (IsPromptOf (entry ∷ past) s) number
          (ap is_some (own_lead entry past led), ap (λ o. unwrap_or (option_map (λ (e : Entry). space_selected e.call) o) 0) (own_lead entry past led) ∙ select_space entry.call s (and_right (is_lead entry.reply) (selects entry.call s) first))
      at false test later before =
          let there = before later in
          (ap is_some (lead_stays entry past legal (prompt_led found.reply) there.0) ∙ there.0, space_stays entry past legal (prompt_led found.reply) there.0 ∙ there.1)

  -- a prompt of the space stays one
  pub prompt_stays : (entry : Entry) (past : List Entry) → IsLegalPast roster names (entry ∷ past) → (s p : ℕ) → IsPromptOf past s p → IsPromptOf (entry ∷ past) s p
  prompt_stays entry past legal s p there =
      (ap is_some (lead_stays entry past legal p there.0) ∙ there.0, space_stays entry past legal p there.0 ∙ there.1)
