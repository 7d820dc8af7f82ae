-- A request of a legal past has to do with prompts of its partition alone.
use Rattle.std.proofs.Common.{◌≡◌, ℕ, Bool, true, false, not, ◌&&◌, List, ◌∷◌, refl, ap, sym, subst, ◌∙◌, Option, Some, None}
use Rattle.std.specs.Prelude.{IsTrue, is_some, option_map, unwrap_or, ◌==◌}
use Rattle.std.specs.List.{list_any}
use Rattle.std.proofs.lemmas.Bool.{false≢true}
use Rattle.spaces.specs.declared.roster.Roster.{Roster}
use Rattle.auth_events.specs.declared.journal.Gift.{Gift}
use Rattle.auth_events.specs.declared.journal.Call.{Call}
use Rattle.auth_events.specs.declared.journal.Call.TheVariants.{Select, Answer, Lose, Take}
use Rattle.auth_events.specs.declared.journal.BookReply.{BookReply}
use Rattle.auth_events.specs.declared.journal.BookReply.TheVariants.{Follow}
use Rattle.auth_events.specs.declared.journal.Entry.{Entry}
use Rattle.auth_events.specs.Tables.{Tables}
use Rattle.auth_events.specs.Pages.{fits}
use Rattle.auth_events.specs.Past.{is_lead, prompt_led, prompt_followed, lead, open_lead, settles, settled}
use Rattle.auth_events.specs.Book.{IsLegalPast, IsStep, allowed_call, answer, first_choice, select_answer, is_led_by, is_rival, own, takes, space_selected}
use Rattle.history_laws.specs.Laws.{is_site_named}
use Rattle.auth_events.proofs.Numbers.{and_left, and_right}
use Rattle.auth_events.proofs.Same.{number_same}
use Rattle.history_laws.proofs.Leading.{IsPromptOf, own_lead, prompt_of_lead}
use Rattle.history_laws.proofs.Homes.{answered_led, lead_site, holds_if, is_led_site, selected_site}
use Rattle.history_laws.proofs.Telling.{has_followed}
use Rattle.isolation.specs.Partitions.{is_in}
use Rattle.isolation.proofs.Prompts.{is_follow, IsPromptApart}
use Rattle.isolation.proofs.Home.{keep, site_side, fails_apart, opposite}
use Rattle.isolation.proofs.Numbering.{owned}

-- who follows a prompt has found it open
following : (rival : ℕ → Bool) (past : List Entry) (s p : ℕ) (url : Bool) (held : Option Gift) (ambient : Bool) (led : Option Entry) → Follow p ≡ select_answer rival past s (first_choice url held ambient led) → (entry : Entry) × (led ≡ Some entry) × (prompt_led entry.reply ≡ p)
following rival past s p true held ambient led is = absurd (false≢true (sym (ap is_follow is)))
following rival past s p false (Some gift) ambient led is = absurd (false≢true (sym (ap is_follow is)))
following rival past s p false None true led is = absurd (false≢true (sym (ap is_follow is)))
following rival past s p false None false (Some entry) is = (entry, refl, sym (ap prompt_followed is))
following rival past s p false None false None is = absurd (false≢true (sym (ap is_follow is)))

module _ (roster : Roster) (names : Tables) (partition : List ℕ) (whole : List Entry) where
  abbrev ours : Entry → Bool
  ours = keep roster names partition

  abbrev owns : ℕ → Bool
  owns = owned ours whole

  module _ (past : List Entry) (legal : IsLegalPast roster names past) (stays : (p : ℕ) → IsTrue (is_some (lead past p)) → lead whole p ≡ lead past p) (r : ℕ) where
    -- of a prompt's leader
    by_leader : (p : ℕ) → IsTrue (is_led_by past r p) → is_in roster partition r ≡ owns p
    by_leader p is = of (lead past p) refl is
      where
        of : (o : Option Entry) → lead past p ≡ o → IsTrue (unwrap_or (option_map (λ (e : Entry). e.request == r) o) false) → is_in roster partition r ≡ owns p
        of None found is' = absurd (false≢true is')
        of (Some leader) found is' =
            ap (is_in roster partition) (sym (number_same leader.request r is'))
            ∙ sym (ap (λ o. unwrap_or (option_map ours o) false) (stays p (ap is_some found) ∙ found))

    -- of a prompt's space
    by_space : (p s : ℕ) → IsPromptOf past s p → IsTrue (is_site_named roster names r s) → is_in roster partition r ≡ owns p
    by_space p s prompt at_home = of (lead past p) refl prompt (lead_site roster names past legal p)
      where
        of : (o : Option Entry) → lead past p ≡ o → IsTrue (is_some o) × (unwrap_or (option_map (λ (e : Entry). space_selected e.call) o) 0 ≡ s) → IsTrue (holds_if (is_led_site roster names) o) → is_in roster partition r ≡ owns p
        of None found prompt' site' = absurd (false≢true prompt'.0)
        of (Some leader) found prompt' site' =
            site_side roster names partition r s at_home
            ∙ (sym (site_side roster names partition leader.request s (subst (λ n. IsTrue (is_site_named roster names leader.request n)) prompt'.1 site'))
            ∙ sym (ap (λ o. unwrap_or (option_map ours o) false) (stays p (ap is_some found) ∙ found)))

    pub settles_side : (call : Call) → IsTrue (allowed_call roster names past r call) → (p : ℕ) → IsTrue (settles call p) → is_in roster partition r ≡ owns p
    settles_side (Answer prompt x t) may p is = by_leader prompt (answered_led roster names past r prompt x t may) ∙ ap owns (number_same prompt p is)
    settles_side (Lose prompt loss) may p is = by_leader prompt (and_left (is_led_by past r prompt) (not (settled past prompt)) may) ∙ ap owns (number_same prompt p is)
    settles_side call may p is = absurd (false≢true is)

    pub takes_side : (call : Call) → IsTrue (allowed_call roster names past r call) → (p : ℕ) → IsTrue (takes call p) → is_in roster partition r ≡ owns p
    takes_side (Take prompt) may p is =
        let first = and_left (not (prompt == 0) && list_any (λ e. prompt_followed e.reply == prompt) (own past r)) (not (list_any (λ e. takes e.call prompt) (own past r))) may in
        let this = has_followed roster names past legal r prompt (and_left (not (prompt == 0)) (list_any (λ e. prompt_followed e.reply == prompt) (own past r)) first) (and_right (not (prompt == 0)) (list_any (λ e. prompt_followed e.reply == prompt) (own past r)) first) in
        by_space prompt this.space this.prompt this.of_site ∙ ap owns (number_same prompt p is)
    takes_side call may p is = absurd (false≢true is)

    follows_side : (call : Call) (reply : BookReply) → reply ≡ answer roster names past r call → IsTrue (fits call reply) → IsTrue (allowed_call roster names past r call) → IsTrue (is_follow reply) → is_in roster partition r ≡ owns (prompt_followed reply)
    follows_side (Select s t) (Follow p) is fit may follows =
        let opened = following (is_rival names s) past s p _ _ _ (open_lead past s) is in
        by_space p s (subst (IsPromptOf past s) opened.2 (prompt_of_lead roster names (λ e. not (settled past (prompt_led e.reply))) past legal s opened.0 opened.1)) (selected_site roster names past r s t may)
    follows_side call (Follow p) is fit may follows = absurd (false≢true fit)
    follows_side call reply is fit may follows = absurd (false≢true follows)

  module _ (entry : Entry) (past : List Entry) (legal : IsLegalPast roster names past) (step : IsStep roster names past entry)
      (now : (p : ℕ) → IsTrue (is_some (lead (entry ∷ past) p)) → lead whole p ≡ lead (entry ∷ past) p)
      (stays : (p : ℕ) → IsTrue (is_some (lead past p)) → lead whole p ≡ lead past p) where
    may : IsTrue (allowed_call roster names past entry.request entry.call)
    may = and_right _ _ step.0

    led_side : IsTrue (is_lead entry.reply) → ours entry ≡ owns (prompt_led entry.reply)
    led_side led =
        let found = own_lead roster names entry past led in
        sym (ap (λ o. unwrap_or (option_map ours o) false) (now (prompt_led entry.reply) (ap is_some found) ∙ found))

    turn : (a b : Bool) → IsTrue a → a ≡ b → IsTrue b
    turn a b is same = sym same ∙ is

    pub is_prompt_apart : IsPromptApart ours owns entry
    is_prompt_apart =
        record {
          out = λ out p own_p.
              record {
                settled = fails_apart (ours entry) (owns p) (opposite (ours entry) (owns p) out own_p) (settles entry.call p) (settles_side past legal stays entry.request entry.call may p);
                led = fails_apart (ours entry) (owns p) (opposite (ours entry) (owns p) out own_p) (is_lead entry.reply && prompt_led entry.reply == p)
                    (λ both. led_side (and_left (is_lead entry.reply) (prompt_led entry.reply == p) both) ∙ ap owns (number_same (prompt_led entry.reply) p (and_right (is_lead entry.reply) (prompt_led entry.reply == p) both)));
              };
          settled = λ here p is. turn (ours entry) (owns p) here (settles_side past legal stays entry.request entry.call may p is);
          taken = λ here p is. turn (ours entry) (owns p) here (takes_side past legal stays entry.request entry.call may p is);
          led = λ here led. turn (ours entry) (owns (prompt_led entry.reply)) here (led_side led);
          followed = λ here follows. turn (ours entry) (owns (prompt_followed entry.reply)) here (follows_side past legal stays entry.request entry.call entry.reply step.1 step.2 may follows);
        }
