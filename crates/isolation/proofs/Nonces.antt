-- The terms that a space has are its own, and so a nonce is of one partition.
use Rattle.std.proofs.Common.{◌≡◌, ℕ, Bool, true, false, not, ◌&&◌, cond, List, [], ◌∷◌, refl, ap, sym, subst, ◌∙◌, ◌⊎◌, inl, inr, Option, Some, None}
use Rattle.std.specs.Prelude.{IsTrue, option_map, unwrap_or, nat_le, length, bytes_eq, ◌==◌}
use Rattle.std.proofs.lemmas.Bool.{false≢true}
use Rattle.std.proofs.lemmas.Option.{none-some}
use Rattle.spaces.specs.declared.roster.Roster.{Roster}
use Rattle.spaces.specs.ProtectionSpaces.{ProtectionSpace}
use Rattle.spaces.specs.Sites.{numbered}
use Rattle.auth_events.specs.declared.journal.Gift.{Gift}
use Rattle.auth_events.specs.declared.journal.Call.{Call}
use Rattle.auth_events.specs.declared.journal.Call.TheVariants.{Select, Renew, Answer}
use Rattle.auth_events.specs.declared.journal.BookReply.{BookReply}
use Rattle.auth_events.specs.declared.journal.BookReply.TheVariants.{Ready, Url, Cached, Renewed, Given, Lead}
use Rattle.auth_events.specs.declared.journal.Entry.{Entry}
use Rattle.auth_events.specs.declared.names.TermsName.{TermsName}
use Rattle.auth_events.specs.declared.names.NonceName.{NonceName}
use Rattle.auth_events.specs.Tables.{Tables, AreNames}
use Rattle.auth_events.specs.Pages.{fits}
use Rattle.auth_events.specs.Past.{gift_given, gift_used, is_of, is_ready, is_lead, lead, live, prompt_led, settled, terms, terms_in, touches}
use Rattle.auth_events.specs.Book.{IsLegalPast, IsStep, allowed_call, fits_space, has_terms, scheme_is, is_digest, holds_nonce, nonce_of, is_led_by, is_of_partition, space_of_prompt, space_selected, terms_selected, waits, was_told, next_gift, gift_told, begins, no_entry, is_open}
use Rattle.history_laws.specs.Laws.{is_site_named, IsAsked}
use Rattle.auth_events.proofs.Numbers.{and_left, and_right, is_not}
use Rattle.auth_events.proofs.Same.{number_same}
use Rattle.history_laws.proofs.Leaving.{GivesNext, GivesNone, gives_next, space_asked}
use Rattle.history_laws.proofs.Homes.{holds_if}
use Rattle.history_laws.proofs.Telling.{all_told}
use Rattle.isolation.proofs.Home.{some_same, fails_apart, opposite'}
use Rattle.isolation.proofs.Epochs.{NoOtherHas}

module _ (roster : Roster) (names : Tables) where
  pub select_fits : (past : List Entry) (r s t : ℕ) → IsTrue (allowed_call roster names past r (Select s t)) → IsTrue (fits_space names s t)
  select_fits past r s t may =
      and_right (is_site_named roster names r s) (fits_space names s t) (and_left (is_site_named roster names r s && fits_space names s t) (not (waits past r)) may)

  pub fits_some : (s t : ℕ) → (t == 0) ≡ false → IsTrue (fits_space names s t) → IsTrue (has_terms names s t)
  fits_some s t some = at (scheme_is names is_digest s)
    where
      at : (b : Bool) → IsTrue (cond b (has_terms names s t) (t == 0)) → IsTrue (has_terms names s t)
      at true fit = fit
      at false fit = absurd (false≢true (sym some ∙ fit))

  abbrev fits_lead : Entry → Bool
  fits_lead entry = fits_space names (space_selected entry.call) (terms_selected entry.call)

  led_fits : (past : List Entry) (r : ℕ) (call : Call) (reply : BookReply) → IsTrue (allowed_call roster names past r call) → IsTrue (fits call reply) → IsTrue (is_lead reply) → IsTrue (fits_space names (space_selected call) (terms_selected call))
  led_fits past r (Select s t) reply may fit led = select_fits past r s t may
  led_fits past r call (Lead p ordinal) may fit led = absurd (false≢true fit)
  led_fits past r call reply may fit led = absurd (false≢true led)

  lead_fits : (past : List Entry) → IsLegalPast roster names past → (p : ℕ) → IsTrue (holds_if fits_lead (lead past p))
  lead_fits [] legal p = refl
  lead_fits (entry ∷ past) legal p = at (is_lead entry.reply && prompt_led entry.reply == p) refl (lead_fits past legal.0 p)
    where
      at : (b : Bool) → (is_lead entry.reply && prompt_led entry.reply == p) ≡ b → IsTrue (holds_if fits_lead (lead past p)) → IsTrue (holds_if fits_lead (cond b (Some entry) (lead past p)))
      at true is before =
          led_fits past entry.request entry.call entry.reply (and_right _ _ legal.1.0) legal.1.2 (and_left (is_lead entry.reply) (prompt_led entry.reply == p) is)
      at false is before = before

  pub answer_fits : (past : List Entry) → IsLegalPast roster names past → (r p x t : ℕ) → IsTrue (allowed_call roster names past r (Answer p x t)) → IsTrue (fits_space names (space_of_prompt past p) t)
  answer_fits past legal r p x t may =
      of (lead past p) (lead_fits past legal p) (and_right (is_led_by past r p && not (settled past p) && nat_le x (length names.texts)) (unwrap_or (option_map (λ (e : Entry). terms_selected e.call == t) (lead past p)) false) may)
    where
      of : (o : Option Entry) → IsTrue (holds_if fits_lead o) → IsTrue (unwrap_or (option_map (λ (e : Entry). terms_selected e.call == t) o) false) → IsTrue (fits_space names (unwrap_or (option_map (λ (e : Entry). space_selected e.call) o) 0) t)
      of None fit same = absurd (false≢true same)
      of (Some entry) fit same = subst (λ n. IsTrue (fits_space names (space_selected entry.call) n)) (number_same (terms_selected entry.call) t same) fit

  -- the terms with which an entry touches a space are the space's
  touched_fits : (entry : Entry) (past : List Entry) → IsLegalPast roster names past → IsStep roster names past entry → (s : ℕ) → IsTrue (touches entry s) → (terms_in entry.call == 0) ≡ false → is_ready entry.reply ≡ false → IsTrue (has_terms names s (terms_in entry.call))
  touched_fits entry past legal step s touched some unready = of entry.call entry.reply refl refl touched some unready
    where
      may : IsTrue (allowed_call roster names past entry.request entry.call)
      may = and_right (cond (begins entry.call) (no_entry past entry.request) (is_open past entry.caller entry.request)) (allowed_call roster names past entry.request entry.call) step.0

      selected : (space t : ℕ) (reply : BookReply) (g : Gift) → entry.call ≡ Select space t → entry.reply ≡ reply → gift_told reply ≡ Some g → IsTrue (g.space == s) → (t == 0) ≡ false → IsTrue (has_terms names s t)
      selected space t reply g call is told here some' =
          let asked = ((all_told roster names (entry ∷ past) (legal, step)).1 g (ap gift_told is ∙ told)).1 in
          let same : g.space ≡ space = subst (λ c. IsAsked names past entry.request c g.space) call asked in
          subst (λ n. IsTrue (has_terms names n t)) (sym same ∙ number_same g.space s here) (fits_some space t some' (select_fits past entry.request space t (subst (λ c. IsTrue (allowed_call roster names past entry.request c)) call may)))

      answered : (p x t : ℕ) (g : Gift) → entry.call ≡ Answer p x t → gift_given entry.reply ≡ Some g → IsTrue (g.space == s) → (t == 0) ≡ false → GivesNone entry.reply ⊎ GivesNext names past entry.call entry.reply → IsTrue (has_terms names s t)
      answered p x t g call given here some' (inl none) = absurd (none-some g (sym none.0 ∙ given))
      answered p x t g call given here some' (inr next) =
          let space : next.space ≡ g.space = ap (λ (h : Gift). h.space) (some_same (next_gift past next.space) g (sym next.gift ∙ given)) in
          let asked : next.space ≡ space_of_prompt past p = next.asked ∙ ap (space_asked past) call in
          subst (λ n. IsTrue (has_terms names n t)) (sym asked ∙ (space ∙ number_same g.space s here)) (fits_some (space_of_prompt past p) t some' (answer_fits past legal entry.request p x t (subst (λ c. IsTrue (allowed_call roster names past entry.request c)) call may)))

      fit' : (call : Call) (reply : BookReply) → entry.call ≡ call → entry.reply ≡ reply → IsTrue (fits call reply)
      fit' call reply is_call is_reply = subst (λ c. IsTrue (fits c reply)) is_call (subst (λ r. IsTrue (fits entry.call r)) is_reply step.2)

      of : (call : Call) (reply : BookReply) → entry.call ≡ call → entry.reply ≡ reply → IsTrue (is_of (gift_used call reply) s) → (terms_in call == 0) ≡ false → is_ready reply ≡ false → IsTrue (has_terms names s (terms_in call))
      of (Select space t) (Url g gone) is_call is_reply here some' unready' = selected space t (Url g gone) g is_call is_reply refl here some'
      of (Select space t) (Cached g) is_call is_reply here some' unready' = selected space t (Cached g) g is_call is_reply refl here some'
      of (Select space t) (Given g gone) is_call is_reply here some' unready' = absurd (false≢true (fit' (Select space t) (Given g gone) is_call is_reply))
      of (Select space t) (Ready g k e) is_call is_reply here some' unready' = absurd (false≢true (sym unready'))
      of (Select space t) reply is_call is_reply here some' unready' = absurd (false≢true here)
      of (Renew gift t) Renewed is_call is_reply here some' unready' =
          let may' = subst (λ c. IsTrue (allowed_call roster names past entry.request c)) is_call may in
          subst (λ n. IsTrue (has_terms names n t)) (number_same gift.space s here) (and_right (was_told past entry.request gift && scheme_is names is_digest gift.space) (has_terms names gift.space t) may')
      of (Renew gift t) (Url g gone) is_call is_reply here some' unready' = absurd (false≢true (fit' (Renew gift t) (Url g gone) is_call is_reply))
      of (Renew gift t) (Cached g) is_call is_reply here some' unready' = absurd (false≢true (fit' (Renew gift t) (Cached g) is_call is_reply))
      of (Renew gift t) (Given g gone) is_call is_reply here some' unready' = absurd (false≢true (fit' (Renew gift t) (Given g gone) is_call is_reply))
      of (Renew gift t) (Ready g k e) is_call is_reply here some' unready' = absurd (false≢true (sym unready'))
      of (Renew gift t) reply is_call is_reply here some' unready' = absurd (false≢true here)
      of (Answer p x t) (Given g gone) is_call is_reply here some' unready' = answered p x t g is_call (ap gift_given is_reply) here some' (gives_next roster names past entry step)
      of (Answer p x t) (Url g gone) is_call is_reply here some' unready' = absurd (false≢true (fit' (Answer p x t) (Url g gone) is_call is_reply))
      of (Answer p x t) (Cached g) is_call is_reply here some' unready' = absurd (false≢true (fit' (Answer p x t) (Cached g) is_call is_reply))
      of (Answer p x t) (Ready g k e) is_call is_reply here some' unready' = absurd (false≢true (sym unready'))
      of (Answer p x t) reply is_call is_reply here some' unready' = absurd (false≢true here)
      of call reply is_call is_reply here some' unready' = absurd (false≢true (sym some'))

  -- the terms that a space has are its own
  pub terms_home : (past : List Entry) → IsLegalPast roster names past → (s : ℕ) → (terms past s == 0) ≡ false → IsTrue (has_terms names s (terms past s))
  terms_home [] legal s some = absurd (false≢true (sym some))
  terms_home (entry ∷ past) legal s some = at (touches entry s && not (is_ready entry.reply)) refl some (terms_home past legal.0 s)
    where
      at : (b : Bool) → (touches entry s && not (is_ready entry.reply)) ≡ b → (cond b (terms_in entry.call) (terms past s) == 0) ≡ false → ((terms past s == 0) ≡ false → IsTrue (has_terms names s (terms past s))) → IsTrue (has_terms names s (cond b (terms_in entry.call) (terms past s)))
      at true is some' before =
          touched_fits entry past legal.0 legal.1 s (and_left (touches entry s) (not (is_ready entry.reply)) is) some' (is_not (is_ready entry.reply) (and_right (touches entry s) (not (is_ready entry.reply)) is))
      at false is some' before = before some'

  module _ (are : AreNames names) (partition : List ℕ) where
    abbrev pub nonce_ours : Option NonceName → Bool
    nonce_ours o = unwrap_or (option_map (λ (named : NonceName). bytes_eq named.site.partition partition) o) false

    -- terms' nonce is of the partition of their space
    pub nonce_side : (s t : ℕ) → IsTrue (has_terms names s t) → nonce_ours (numbered names.nonces (nonce_of names t)) ≡ is_of_partition names partition s
    nonce_side s t = of (numbered names.terms t) refl
      where
        by : (name : TermsName) (o : Option ProtectionSpace) → nonce_ours (option_map (λ (space : ProtectionSpace). record { site = space.site; text = name.terms.nonce }) o) ≡ unwrap_or (option_map (λ (space : ProtectionSpace). bytes_eq space.site.partition partition) o) false
        by name None = refl
        by name (Some space) = refl

        of : (o : Option TermsName) → numbered names.terms t ≡ o → IsTrue (unwrap_or (option_map (λ (name : TermsName). name.space == s) o) false) → nonce_ours (numbered names.nonces (unwrap_or (option_map (λ (name : TermsName). name.nonce) o) 0)) ≡ is_of_partition names partition s
        of None is has = absurd (false≢true has)
        of (Some name) is has =
            ap nonce_ours (are.home name t is).nonce ∙ (by name (numbered names.spaces name.space) ∙ ap (is_of_partition names partition) (number_same name.space s has))

    -- no other partition has it
    pub none_other : (f : ℕ → ℕ) (keep : Entry → Bool) (n : ℕ) → IsTrue (nonce_ours (numbered names.nonces n)) → (past : List Entry) → IsLegalPast roster names past → NoOtherHas names f keep (is_of_partition names partition) n past
    none_other f keep n ours [] legal = tt
    none_other f keep n ours (entry ∷ past) legal = (
      none_other f keep n ours past legal.0,
      λ s foreign. fails_apart (nonce_ours (numbered names.nonces n)) (is_of_partition names partition s) (opposite' (nonce_ours (numbered names.nonces n)) (is_of_partition names partition s) ours foreign) (holds_nonce names past n s) (side s),
    )
      where
        side : (s : ℕ) → IsTrue (holds_nonce names past n s) → nonce_ours (numbered names.nonces n) ≡ is_of_partition names partition s
        side s holds =
            let first = and_left (live past s && not (terms past s == 0)) (nonce_of names (terms past s) == n) holds in
            let same = number_same (nonce_of names (terms past s)) n (and_right (live past s && not (terms past s == 0)) (nonce_of names (terms past s) == n) holds) in
            let some = is_not (terms past s == 0) (and_right (live past s) (not (terms past s == 0)) first) in
            ap (λ k. nonce_ours (numbered names.nonces k)) (sym same) ∙ nonce_side s (terms past s) (terms_home past legal.0 s some)
