-- The spaces of the prompts, by number.
use Rattle.std.proofs.Common.{◌≡◌, ℕ, zero, suc, ◌+◌, Bool, true, false, ◌&&◌, cond, List, [], ◌∷◌, ◌++◌, length, refl, ap, sym, ◌∙◌, arith, Some, length-append}
use Rattle.std.specs.Prelude.{filter, map, reverse, slice_get, option_map, unwrap_or, ◌==◌}
use Rattle.std.proofs.lemmas.Bool.{false≢true}
use Rattle.std.proofs.lemmas.List.{reverse-append}
use Rattle.std.proofs.lemmas.List.Sums.{sum_by-cons}
use Rattle.spaces.specs.declared.roster.Roster.{Roster}
use Rattle.spaces.specs.Sites.{numbered}
use Rattle.auth_events.specs.declared.journal.Entry.{Entry}
use Rattle.auth_events.specs.Tables.{Tables}
use Rattle.auth_events.specs.Past.{is_lead, lead, leads, prompt_led}
use Rattle.auth_events.specs.Book.{IsLegalPast, space_of_prompt, space_selected}
use Rattle.auth_events.proofs.Numbers.{numbered-last, numbered_suc}
use Rattle.auth_events.proofs.Same.{number_same, number_refl}
use Rattle.prompt_queue.proofs.Prompting.{lead_number}
use Rattle.auth_book.specs.Indices.{spaces_led}

slice_push_other : (xs : List ℕ) (x j : ℕ) → (j ≡ length xs → ⊥) → slice_get (xs ++ x ∷ []) j ≡ slice_get xs j
slice_push_other [] x zero apart = absurd (apart refl)
slice_push_other [] x (suc j) apart = refl
slice_push_other (y ∷ xs) x zero apart = refl
slice_push_other (y ∷ xs) x (suc j) apart = slice_push_other xs x j (λ same. apart (omega (arith, same)))

push_other : (xs : List ℕ) (x n : ℕ) → (n ≡ length xs + 1 → ⊥) → numbered (xs ++ x ∷ []) n ≡ numbered xs n
push_other xs x zero apart = refl
push_other xs x (suc j) apart =
    numbered_suc (xs ++ x ∷ []) j ∙ (slice_push_other xs x j (λ same. apart (omega (arith, same))) ∙ sym (numbered_suc xs j))

led_parts : (b : Bool) (entry : Entry) (past : List Entry) → is_lead entry.reply ≡ b → spaces_led (entry ∷ past) ≡ cond b (spaces_led past ++ space_selected entry.call ∷ []) (spaces_led past)
led_parts b entry past is = ap (λ t. reverse (map (λ e. space_selected e.call) (cond t (entry ∷ filter (λ e. is_lead e.reply) past) (filter (λ e. is_lead e.reply) past)))) is ∙ at b
  where
    rest : List ℕ
    rest = map (λ e. space_selected e.call) (filter (λ e. is_lead e.reply) past)

    at : (t : Bool) → reverse (map (λ e. space_selected e.call) (cond t (entry ∷ filter (λ e. is_lead e.reply) past) (filter (λ e. is_lead e.reply) past))) ≡ cond t (spaces_led past ++ space_selected entry.call ∷ []) (spaces_led past)
    at true = reverse-append (space_selected entry.call ∷ []) rest
    at false = refl

pub led_length : (past : List Entry) → length (spaces_led past) ≡ leads past
led_length [] = refl
led_length (entry ∷ past) = at (is_lead entry.reply) refl (led_length past)
  where
    at : (b : Bool) → is_lead entry.reply ≡ b → length (spaces_led past) ≡ leads past → length (spaces_led (entry ∷ past)) ≡ leads (entry ∷ past)
    at true is before =
        omega (arith, ap length (led_parts true entry past is), length-append (spaces_led past) (space_selected entry.call ∷ []), before, sum_by-cons (λ e. cond (is_lead e.reply) 1 0) entry past, ap (λ b. cond {A = ℕ} b 1 0) is)
    at false is before =
        omega (arith, ap length (led_parts false entry past is), before, sum_by-cons (λ e. cond (is_lead e.reply) 1 0) entry past, ap (λ b. cond {A = ℕ} b 1 0) is)

-- prompts are numbered as they are led
pub led_space : (roster : Roster) (names : Tables) (past : List Entry) → IsLegalPast roster names past → (p : ℕ) → numbered (spaces_led past) p ≡ option_map (λ entry. space_selected entry.call) (lead past p)
led_space roster names [] legal zero = refl
led_space roster names [] legal (suc p) = numbered_suc {A = ℕ} [] p
led_space roster names (entry ∷ past) legal p =
    at (is_lead entry.reply) refl (prompt_led entry.reply == p) refl (led_space roster names past legal.0 p)
  where
    at : (a : Bool) → is_lead entry.reply ≡ a → (b : Bool) → (prompt_led entry.reply == p) ≡ b → numbered (spaces_led past) p ≡ option_map (λ e. space_selected e.call) (lead past p) → numbered (spaces_led (entry ∷ past)) p ≡ option_map (λ e. space_selected e.call) (cond (a && b) (Some entry) (lead past p))
    at true led true same before =
        let number : p ≡ length (spaces_led past) + 1 = omega (arith, number_same (prompt_led entry.reply) p same, lead_number roster names past entry legal.1 led, led_length past) in
        ap (λ xs. numbered xs p) (led_parts true entry past led)
        ∙ (ap (numbered (spaces_led past ++ space_selected entry.call ∷ [])) number ∙ numbered-last (spaces_led past) (space_selected entry.call))
    at true led false other before =
        ap (λ xs. numbered xs p) (led_parts true entry past led)
        ∙ (push_other (spaces_led past) (space_selected entry.call) p (λ same. false≢true (sym other ∙ (ap (λ n. n == p) (omega (arith, same, lead_number roster names past entry legal.1 led, led_length past)) ∙ number_refl p))) ∙ before)
    at false unled b is before = ap (λ xs. numbered xs p) (led_parts false entry past unled) ∙ before

pub led_is : (roster : Roster) (names : Tables) (past : List Entry) → IsLegalPast roster names past → (p : ℕ) → unwrap_or (numbered (spaces_led past) p) 0 ≡ space_of_prompt past p
led_is roster names past legal p = ap (λ o. unwrap_or o 0) (led_space roster names past legal p)
