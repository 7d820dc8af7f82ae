-- Whose space a gift is of: that of one of the request's sites.
use Rattle.std.proofs.Common.{◌≡◌, ◌≢◌, ℕ, Bool, true, false, not, ◌&&◌, cond, List, [], ◌∷◌, refl, subst, Option, Some, None}
use Rattle.std.specs.Prelude.{IsTrue, option_map, unwrap_or, ◌==◌, nat_le, length}
use Rattle.std.proofs.lemmas.Bool.{false≢true}
use Rattle.spaces.specs.declared.roster.Roster.{Roster}
use Rattle.auth_events.specs.declared.journal.Call.{Call}
use Rattle.auth_events.specs.declared.journal.Call.TheVariants.{Select, Answer}
use Rattle.auth_events.specs.declared.journal.BookReply.{BookReply}
use Rattle.auth_events.specs.declared.journal.BookReply.TheVariants.{Lead}
use Rattle.auth_events.specs.declared.journal.Entry.{Entry}
use Rattle.auth_events.specs.Tables.{Tables}
use Rattle.auth_events.specs.Pages.{fits}
use Rattle.auth_events.specs.Past.{is_lead, lead, prompt_led, settled}
use Rattle.auth_events.specs.Book.{IsLegalPast, IsStep, allowed_call, fits_space, is_led_by, space_of_prompt, space_selected, waits}
use Rattle.history_laws.specs.Laws.{is_site_named}
use Rattle.auth_events.proofs.Numbers.{and_left, and_right}
use Rattle.auth_events.proofs.Same.{number_same}
use Rattle.history_laws.proofs.Leaving.{space_asked, may_give}

-- what holds of an entry, where there is one
abbrev pub holds_if : (Entry → Bool) → Option Entry → Bool
holds_if test found = unwrap_or (option_map test found) true

module _ (roster : Roster) (names : Tables) where
  abbrev pub is_led_site : Entry → Bool
  is_led_site entry = is_site_named roster names entry.request (space_selected entry.call)

  -- who may select a space has a site there
  pub selected_site : (past : List Entry) (r s t : ℕ) → IsTrue (allowed_call roster names past r (Select s t)) → IsTrue (is_site_named roster names r s)
  selected_site past r s t may =
      and_left (is_site_named roster names r s) (fits_space names s t) (and_left (is_site_named roster names r s && fits_space names s t) (not (waits past r)) may)

  led_site : (past : List Entry) (r : ℕ) (call : Call) (reply : BookReply) → IsTrue (allowed_call roster names past r call) → IsTrue (fits call reply) → IsTrue (is_lead reply) → IsTrue (is_site_named roster names r (space_selected call))
  led_site past r (Select s t) reply may fit led = selected_site past r s t may
  led_site past r call (Lead p ordinal) may fit led = absurd (false≢true fit)
  led_site past r call reply may fit led = absurd (false≢true led)

  pub lead_site : (past : List Entry) → IsLegalPast roster names past → (p : ℕ) → IsTrue (holds_if is_led_site (lead past p))
  lead_site [] legal p = refl
  lead_site (entry ∷ past) legal p = at (is_lead entry.reply && prompt_led entry.reply == p) refl (lead_site past legal.0 p)
    where
      at : (b : Bool) → (is_lead entry.reply && prompt_led entry.reply == p) ≡ b → IsTrue (holds_if is_led_site (lead past p)) → IsTrue (holds_if is_led_site (cond b (Some entry) (lead past p)))
      at true is before =
          led_site past entry.request entry.call entry.reply (and_right _ _ legal.1.0) legal.1.2 (and_left (is_lead entry.reply) (prompt_led entry.reply == p) is)
      at false is before = before

  -- the leader of a prompt has a site at the prompt's space
  pub leader_site : (past : List Entry) → IsLegalPast roster names past → (r p : ℕ) → IsTrue (is_led_by past r p) → IsTrue (is_site_named roster names r (space_of_prompt past p))
  leader_site past legal r p leads = of (lead past p) (lead_site past legal p) leads
    where
      of : (found : Option Entry) → IsTrue (holds_if is_led_site found) → IsTrue (unwrap_or (option_map (λ entry. entry.request == r) found) false) → IsTrue (is_site_named roster names r (unwrap_or (option_map (λ entry. space_selected entry.call) found) 0))
      of None has leads' = absurd (false≢true leads')
      of (Some entry) has leads' = subst (λ n. IsTrue (is_site_named roster names n (space_selected entry.call))) (number_same entry.request r leads') has

  pub answered_led : (past : List Entry) (r p text t : ℕ) → IsTrue (allowed_call roster names past r (Answer p text t)) → IsTrue (is_led_by past r p)
  answered_led past r p text t may =
      and_left (is_led_by past r p) (not (settled past p))
      (and_left (is_led_by past r p && not (settled past p)) (nat_le text (length names.texts))
      (and_left (is_led_by past r p && not (settled past p) && nat_le text (length names.texts)) _ may))

  -- who is given credentials has a site at their space
  given_site : (past : List Entry) → IsLegalPast roster names past → (r : ℕ) (call : Call) → IsTrue (allowed_call roster names past r call) → IsTrue (may_give call) → IsTrue (is_site_named roster names r (space_asked past call))
  given_site past legal r (Select s t) may gives_it = selected_site past r s t may
  given_site past legal r (Answer p text t) may gives_it = leader_site past legal r p (answered_led past r p text t may)
  given_site past legal r call may gives_it = absurd (false≢true gives_it)

  pub asked_site : (past : List Entry) → IsLegalPast roster names past → (entry : Entry) → IsStep roster names past entry → IsTrue (may_give entry.call) → IsTrue (is_site_named roster names entry.request (space_asked past entry.call))
  asked_site past legal entry step gives_it = given_site past legal entry.request entry.call (and_right _ _ step.0) gives_it

  -- no space has the number 0
  pub not_zero : (r s : ℕ) → IsTrue (is_site_named roster names r s) → s ≢ 0
  not_zero r s site = λ same. absurd (false≢true (subst (λ n. IsTrue (is_site_named roster names r n)) same site))
