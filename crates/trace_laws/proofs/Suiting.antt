-- The reply of a legal book suits the call that a request wanted.
use Rattle.std.proofs.Common.{◌≡◌, inl, inr, ℕ, ◌+◌, ◌≤◌, Bool, true, false, not, ◌&&◌, ◌==◌, cond, IsTrue, List, [], ◌∷◌, map, drop, Option, Some, None, is_some, option_map, unwrap_or, refl, sym, ap, ◌∙◌, subst, arith, if◌then◌else◌}
use Rattle.std.specs.List.{list_any}
use Rattle.std.proofs.lemmas.Bool.{false≢true, eq-eqb}
use Rattle.std.proofs.lemmas.Bool.Decides.{nat_tests}
use Rattle.spaces.specs.declared.roster.Request.{Request}
use Rattle.spaces.specs.declared.roster.Roster.{Roster}
use Rattle.spaces.specs.declared.site.Target.{Target}
use Rattle.spaces.specs.declared.site.Target.TheVariants.{Server}
use Rattle.spaces.specs.declared.space.Scheme.TheVariants.{Digest}
use Rattle.spaces.specs.ProtectionSpaces.{ProtectionSpace}
use Rattle.spaces.specs.Sites.{numbered, same_target}
use Rattle.auth_events.specs.declared.journal.Gift.{Gift}
use Rattle.auth_events.specs.declared.journal.Call.{Call}
use Rattle.auth_events.specs.declared.journal.Call.TheVariants.{Begin, Preempt, Select, Reject, Renew, Answer, Lose, Take}
use Rattle.auth_events.specs.declared.journal.BookReply.{BookReply}
use Rattle.auth_events.specs.declared.journal.BookReply.TheVariants.{Ready, Url, Cached, Default, Follow, Lead, Removed, Kept, Given, Cancelled, Gave}
use Rattle.auth_events.specs.declared.journal.Entry.{Entry}
use Rattle.auth_events.specs.declared.names.TermsName.{TermsName}
use Rattle.auth_events.specs.Identities.{giving}
use Rattle.auth_events.specs.Pages.{fits}
use Rattle.auth_events.specs.Past.{current, current_ordinal, evicted, is_removed, leads, open_lead, prompt_followed, selects, settled, settles as call_settles}
use Rattle.auth_events.specs.Tables.{Tables}
use Rattle.auth_events.specs.Book.{IsStep, fits_space, gift_told, has_terms, is_allowed_origin, is_digest, is_negotiate, is_rival, is_site_of, is_that_gift, next_gift, own, scheme_is as named_is, space_named, space_of_prompt, space_selected, takes, was_default_told, was_told}
use Rattle.auth_events.proofs.Given.{given_identity}
use Rattle.auth_events.proofs.NamedThings.{one_of}
use Rattle.auth_events.proofs.Numbers.{and_left, and_right, some_of_test}
use Rattle.auth_events.proofs.Same.{number_refl, number_same}
use Rattle.history_laws.specs.Laws.{IsAsked, is_site_named}
use Rattle.history_laws.proofs.Homes.{selected_site}
use Rattle.history_laws.proofs.Leading.{new_number}
use Rattle.history_laws.proofs.Telling.{all_told}
use Rattle.link_trait.specs.declared.prompts.AskSeen.{AskSeen}
use Rattle.link_trait.specs.declared.prompts.AskSeen.TheVariants.{Given as AskGiven}
use Rattle.auth_runs.specs.declared.event.Outcome.{Outcome}
use Rattle.auth_runs.specs.declared.event.Event.{Event}
use Rattle.auth_runs.specs.declared.event.Event.TheVariants.{AskedFor, Called}
use Rattle.trace_rule.specs.Settings.{Setting, is_by_path, knows_gift, knows_terms, scheme_is, target_is}
use Rattle.trace_rule.specs.Holding.{terms_followed}
use Rattle.trace_rule.specs.Moves.{Move, Want, move}
use Rattle.trace_rule.specs.Moves.Move.{Closes, Goes}
use Rattle.trace_rule.specs.Moves.Want.{Answers, Calls}
use Rattle.trace_rule.specs.Closings.{carried_out, closings, closings_made, next_closing, want}
use Rattle.trace_rule.specs.Entries.{Made, calls, made_in}
use Rattle.trace_rule.specs.Serving.{IsServing, setting_in}
use Rattle.trace_rule.specs.Traces.{IsPast, agrees, answer_agrees, choice_agrees, loss_agrees, may_hold, ready_agrees, settles, space_prompted, suits, take_agrees}
use Rattle.trace_rule.proofs.Allowed.{any_map, join, not_that}
use Rattle.trace_rule.proofs.EndCalls.{IsFrom, wanted_from}
use Rattle.trace_rule.proofs.Holdings.{defaults, tells}
use Rattle.trace_rule.proofs.Prompts.{IsLastLed, last_followed, last_led}
use Rattle.trace_rule.proofs.Reasons.{Reason, closing_never, reason}
use Rattle.trace_rule.proofs.Reasons.Reason.{begins, cancels, is_rejected, is_renewed, loses, preempts, preempts_server, selects as chooses, takes as takes_it}
use Rattle.trace_rule.proofs.Stages.{AllDone, Stage, any_within, asks_from, fits_of, is_waiting, stage}
use Rattle.trace_rule.proofs.Stages.Stage.{is_asked, is_following, is_led, quiet}
use Rattle.trace_rule.proofs.Waiting.{given_behind}
use Rattle.trace_laws.specs.Answering.{made}
use Rattle.trace_laws.proofs.AtHome.{was_told_site}
use Rattle.trace_laws.proofs.Givings.{answered_fits, current_low, given_later, held_fits, may_of, own_fits, ready_in, renewed_fits, selected_fits, told_given, was_given}
use Rattle.trace_laws.proofs.Settling.{event_settles}
use Rattle.trace_laws.proofs.Schemes.{default_ambient, digest_named, followed_taken, is_given, is_take, is_text, negotiate_named, not_zero, own_loss, path_named, prompt_in, same_self, text_in}

module _ (n : Bool) (roster : Roster) (seed : List ℕ) (names : Tables) (entries : List Entry) (caller r : ℕ) (request : Request) (past : List Event)
    (v : IsServing roster names entries caller r request (setting_in n roster seed names entries r request) past) where
  abbrev here : Setting
  here = setting_in n roster seed names entries r request

  -- what is known with the entry
  abbrev later : Call → BookReply → Setting
  later call reply = setting_in n roster seed names (made caller r call reply ∷ entries) r request

  abbrev Step : Call → BookReply → Type 0
  Step call reply = IsStep roster names entries (made caller r call reply)

  -- KNOWN

  site_space : (s : ℕ) → IsTrue (is_site_named roster names r s) → IsTrue (is_some (numbered names.spaces s))
  site_space s h = some_of_test (is_site_of roster r) (space_named names s) h

  fits_known : (s t : ℕ) → IsTrue (fits_space names s t) → IsTrue (knows_terms here s t)
  fits_known s t fit = at (scheme_is here s Digest) refl
    where
      at : (b : Bool) → scheme_is here s Digest ≡ b → IsTrue (if b then is_some (numbered names.terms t) else true)
      at false d = refl
      at true d =
          some_of_test (λ (name : TermsName). name.space == s) (numbered names.terms t)
          (sym (ap (λ b. cond b (has_terms names s t) (t == 0)) (digest_named (numbered names.spaces s) d)) ∙ fit)

  knows : (call : Call) (reply : BookReply) → Step call reply → (gift : Gift) → IsTrue (is_some (numbered names.spaces gift.space)) → IsTrue (is_some (giving (made caller r call reply ∷ entries) gift)) → IsTrue (knows_gift (later call reply) gift)
  knows call reply step gift named given =
      join (is_some (numbered names.spaces gift.space)) (is_some ((later call reply).identity_of gift)) named
      (given_identity roster names (made caller r call reply ∷ entries) gift (v.legal, step) given)

  holds : (call : Call) (reply : BookReply) → Step call reply → (gift : Gift) (space t : ℕ) → gift.space ≡ space → IsTrue (is_site_named roster names r gift.space) → gift_told reply ≡ Some gift → IsTrue (fits_space names space t) → IsTrue (may_hold (later call reply) gift space t)
  holds call reply step gift space t same home told fit =
      join ((gift.space == space) && knows_gift (later call reply) gift) (knows_terms (later call reply) space t)
      (join (gift.space == space) (knows_gift (later call reply) gift) (eq-eqb gift.space space same)
      (knows call reply step gift (site_space gift.space home) (told_given roster names entries v.legal (made caller r call reply) step gift told)))
      (fits_known space t fit)

  -- what the entry tells is of a space that it asked for
  at_home : (call : Call) (reply : BookReply) → Step call reply → (gift : Gift) → gift_told reply ≡ Some gift → IsTrue (is_site_named roster names r gift.space) × IsAsked names entries r call gift.space
  at_home call reply step gift told = (all_told roster names (made caller r call reply ∷ entries) (v.legal, step)).1 gift told

  -- PREEMPTION

  preempt_agrees : (target : Target) (reply : BookReply) → Step (Preempt target) reply → IsTrue (ready_agrees (later (Preempt target) reply) target reply)
  preempt_agrees target (Ready gift t epoch) step =
      let home = at_home (Preempt target) (Ready gift t epoch) step gift refl in
      let is = ready_in roster names entries r target gift t epoch step.1 in
      join (target_is here gift.space target && is_by_path here gift.space) (may_hold (later (Preempt target) (Ready gift t epoch)) gift gift.space t)
      (join (target_is here gift.space target) (is_by_path here gift.space) (of_target (numbered names.spaces gift.space) home.0 home.1) (path_named (numbered names.spaces gift.space) is.pathed))
      (holds (Preempt target) (Ready gift t epoch) step gift gift.space t refl home.0 refl
      (subst (λ x. IsTrue (fits_space names gift.space x)) (sym is.own_terms) (held_fits roster names entries v.legal gift.space gift is.held)))
    where
      of_target : (o : Option ProtectionSpace) → IsTrue (unwrap_or (option_map (is_site_of roster r) o) false) → unwrap_or (option_map (λ (space : ProtectionSpace). space.site.target) o) Server ≡ target
          → IsTrue (unwrap_or (option_map (λ (space : ProtectionSpace). same_target space.site.target target) o) false)
      of_target None h e = absurd (false≢true h)
      of_target (Some space) h e = subst (λ x. IsTrue (same_target x target)) (sym e) (same_self target)
  preempt_agrees target _ step = refl

  -- CHOICE

  select_agrees : (space t : ℕ) (reply : BookReply) → Step (Select space t) reply → IsTrue (choice_agrees (later (Select space t) reply) past space t reply)
  select_agrees space t reply step = at reply step
    where
      named : (answered : BookReply) → Step (Select space t) answered → IsTrue (is_some (numbered names.spaces space))
      named answered st = site_space space (selected_site roster names entries r space t (may_of roster names entries (made caller r (Select space t) answered) st))

      fit : (answered : BookReply) → Step (Select space t) answered → IsTrue (fits_space names space t)
      fit answered st = selected_fits roster names entries r space t (may_of roster names entries (made caller r (Select space t) answered) st)

      gift_agrees : (answered : BookReply) → Step (Select space t) answered → (gift : Gift) → gift_told answered ≡ Some gift → IsTrue (may_hold (later (Select space t) answered) gift space t)
      gift_agrees answered st gift told =
          let home = at_home (Select space t) answered st gift told in
          holds (Select space t) answered st gift space t home.1 home.0 told (fit answered st)

      lead_agrees : (p o : ℕ) → Step (Select space t) (Lead p o) → IsTrue (not (p == 0) && not (list_any (settles p) past))
      lead_agrees p o st =
          let number : p ≡ leads entries + 1 = new_number roster names entries r (Select space t) (Lead p o) st.1 st.2 refl in
          let last : IsLastLed roster names (made caller r (Select space t) (Lead p o) ∷ entries) r p (record { call = Select space t; reply = Lead p o }) =
          last_led roster names (made caller r (Select space t) (Lead p o) ∷ entries) (v.legal, st) r p o (record { call = Select space t; reply = Lead p o }) (map made_in (own entries r))
          (ap (λ b. map made_in (cond b (made caller r (Select space t) (Lead p o) ∷ own entries r) (own entries r))) (number_refl r)) refl in
          join (not (p == 0)) (not (list_any (settles p) past)) (ap not (ap (λ x. x == 0) number ∙ not_zero (leads entries))) (ap not (none_if (list_any (settles p) past) (λ some. false≢true (sym last.is_unsettled ∙ in_entries some))))
        where
          none_if : (b : Bool) → (IsTrue b → ⊥) → b ≡ false
          none_if true h = absurd (h refl)
          none_if false h = refl

          in_entries : IsTrue (list_any (settles p) past) → IsTrue (settled entries p)
          in_entries some =
              any_within (λ e. call_settles e.call p) (λ e. e.request == r) entries
              (any_map made_in (λ x. call_settles x.call p) (own entries r) ∙ (ap (list_any (λ x. call_settles x.call p)) v.same_calls ∙ (sym (event_settles p past) ∙ some)))

      at : (answered : BookReply) → Step (Select space t) answered → IsTrue (choice_agrees (later (Select space t) answered) past space t answered)
      at (Url gift evicted) st = gift_agrees (Url gift evicted) st gift refl
      at (Cached gift) st = gift_agrees (Cached gift) st gift refl
      at Default st =
          negotiate_named (numbered names.spaces space)
          (and_left (named_is names is_negotiate space) (is_allowed_origin roster names space)
          (and_left (named_is names is_negotiate space && is_allowed_origin roster names space) (not (was_default_told entries r space))
          (default_ambient (is_rival names space) entries space _ (current entries space) (named_is names is_negotiate space && is_allowed_origin roster names space && not (was_default_told entries r space)) (open_lead entries space) st.1)))
      at (Lead p o) st = join (is_some (numbered names.spaces space)) (not (p == 0) && not (list_any (settles p) past)) (named (Lead p o) st) (lead_agrees p o st)
      at answered st = named answered st

  -- REJECTION AND RENEWAL

  own_any : (f : Made → Bool) → list_any (λ e. f (made_in e)) (own entries r) ≡ list_any f (calls past)
  own_any f = any_map made_in f (own entries r) ∙ ap (list_any f) v.same_calls

  reject_agrees : (space ordinal : ℕ) (reply : BookReply) → Step (Reject space ordinal) reply → IsTrue (is_some (numbered names.spaces space) && not ((ordinal == 0) && is_removed reply))
  reject_agrees space ordinal reply step =
      join (is_some (numbered names.spaces space)) (not ((ordinal == 0) && is_removed reply)) (site_space space home) (ap not (first (ordinal == 0) refl))
    where
      gift : Gift
      gift = record { space = space; ordinal = ordinal }

      home : IsTrue (is_site_named roster names r space)
      home =
          one_of (was_told entries r gift) ((ordinal == 0) && was_default_told entries r space)
          (λ told. was_told_site roster names entries v.legal r past v.same_calls gift (inl (sym (own_any (tells gift)) ∙ told)))
          (λ told. was_told_site roster names entries v.legal r past v.same_calls gift (inr (number_same ordinal 0 (and_left (ordinal == 0) (was_default_told entries r space) told), sym (own_any (defaults space)) ∙ and_right (ordinal == 0) (was_default_told entries r space) told)))
          (may_of roster names entries (made caller r (Reject space ordinal) reply) step)

      none_held : (o : Option Gift) → current entries space ≡ o → (ordinal == 0) ≡ true → is_that_gift o gift ≡ false
      none_held None e z = refl
      none_held (Some g) e z = at (is_that_gift (Some g) gift) refl
        where
          at : (b : Bool) → is_that_gift (Some g) gift ≡ b → b ≡ false
          at false same = refl
          at true same =
              let ordinal_same : g.ordinal ≡ ordinal = number_same g.ordinal ordinal (and_right (g.space == space) (g.ordinal == ordinal) same) in
              absurd (false≢true (sym (current_low roster names entries v.legal space g e) ∙ (ap (λ x. x == 0) ordinal_same ∙ z)))

      kept : (ordinal == 0) ≡ true → is_removed reply ≡ false
      kept z = ap is_removed (step.1 ∙ ap (λ b. cond b Removed (Kept (current_ordinal entries space))) (none_held (current entries space) refl z))

      first : (b : Bool) → (ordinal == 0) ≡ b → (b && is_removed reply) ≡ false
      first true z = kept z
      first false z = refl

  renew_agrees : (gift : Gift) (t : ℕ) (reply : BookReply) → Step (Renew gift t) reply → IsTrue (knows_gift (later (Renew gift t) reply) gift && knows_terms here gift.space t)
  renew_agrees gift t reply step =
      let may = may_of roster names entries (made caller r (Renew gift t) reply) step in
      let first = and_left (was_told entries r gift && named_is names is_digest gift.space) (has_terms names gift.space t) may in
      join (knows_gift (later (Renew gift t) reply) gift) (knows_terms here gift.space t)
      (knows (Renew gift t) reply step gift
      (some_of_test (λ (space : ProtectionSpace). is_digest space.scheme) (numbered names.spaces gift.space) (and_right (was_told entries r gift) (named_is names is_digest gift.space) first))
      (given_later (made caller r (Renew gift t) reply) entries gift (was_given roster names entries v.legal r gift (and_left (was_told entries r gift) (named_is names is_digest gift.space) first))))
      (fits_known gift.space t (renewed_fits roster names entries r gift t may))

  -- PROMPTS

  -- the space of the prompt that was asked for is that of its lead
  led_space : (p : ℕ) (seen : AskSeen) (b : List Event) → past ≡ AskedFor p seen ∷ b → space_of_prompt entries p ≡ space_prompted past p
  led_space p seen b e = at (asks_from here b p seen run.0 run.1)
    where
      run : IsPast here (AskedFor p seen ∷ b)
      run = subst (IsPast here) e v.is_past

      by : (c : Call) (o : ℕ) (b' : List Event) → IsTrue (fits c (Lead p o)) → b ≡ Called c (Lead p o) ∷ b' → IsLastLed roster names entries r p (record { call = c; reply = Lead p o }) → space_of_prompt entries p ≡ space_prompted past p
      by (Select space t) o b' fit q last =
          ap (λ x. unwrap_or (option_map (λ (entry : Entry). space_selected entry.call) x) 0) last.is_lead_of
          ∙ (ap (λ (m : Made). space_selected m.call) last.made
          ∙ sym (ap (λ x. space_prompted x p) (e ∙ ap (λ y. AskedFor p seen ∷ y) q) ∙ ap (λ x. unwrap_or (if x then Some space else None) (space_prompted b' p)) (eq-eqb p p refl)))
      by c o b' fit q last = absurd (false≢true fit)

      at : (c : Call) × (o : ℕ) × (b' : List Event) × (b ≡ Called c (Lead p o) ∷ b') → space_of_prompt entries p ≡ space_prompted past p
      at (c, o, b', q) =
          by c o b' (fits_of here b' c (Lead p o) (subst (IsPast here) q run.0).1) q
          (last_led roster names entries v.legal r p o (record { call = c; reply = Lead p o }) (calls b') (v.same_calls ∙ (ap calls e ∙ ap calls q)) refl)

  given_reply : (p text t : ℕ) (reply : BookReply) → IsTrue (not (text == 0)) → Step (Answer p text t) reply → reply ≡ Given (next_gift entries (space_of_prompt entries p)) (evicted (is_rival names (space_of_prompt entries p)) entries (space_of_prompt entries p))
  given_reply p text t reply some step =
      step.1 ∙ ap (λ c. cond c Cancelled (Given (next_gift entries (space_of_prompt entries p)) (evicted (is_rival names (space_of_prompt entries p)) entries (space_of_prompt entries p)))) (none_if (text == 0) some)
    where
      none_if : (c : Bool) → IsTrue (not c) → c ≡ false
      none_if true h = absurd (false≢true h)
      none_if false h = refl

  text_agrees : (p text t : ℕ) (reply : BookReply) (b : List Event) → past ≡ AskedFor p AskGiven ∷ b → IsTrue (not (text == 0)) → Step (Answer p text t) reply → IsTrue (answer_agrees (later (Answer p text t) reply) (space_prompted past p) text t reply)
  text_agrees p text t (Given gift evicts) b e some step =
      let home = at_home (Answer p text t) (Given gift evicts) step gift refl in
      let space : gift.space ≡ space_of_prompt entries p = ap (λ x. unwrap_or (option_map (λ (g : Gift). g.space) (gift_told x)) 0) (given_reply p text t (Given gift evicts) some step) in
      join (not (text == 0)) (may_hold (later (Answer p text t) (Given gift evicts)) gift (space_prompted past p) t) some
      (holds (Answer p text t) (Given gift evicts) step gift (space_prompted past p) t (space ∙ led_space p AskGiven b e) home.0 refl
      (subst (λ x. IsTrue (fits_space names x t)) (led_space p AskGiven b e) (answered_fits roster names entries v.legal r p text t (may_of roster names entries (made caller r (Answer p text t) (Given gift evicts)) step))))
  text_agrees p text t reply b e some step = absurd (false≢true (ap is_given (given_reply p text t reply some step)))

  pub texts_suited : (p text t : ℕ) (reply : BookReply) → want here past ≡ Answers p t → IsTrue (not (text == 0)) → Step (Answer p text t) reply → IsTrue (suits (later (Answer p text t) reply) past (Answer p text t) reply)
  texts_suited p text t reply w some step = at (move here past) refl w
    where
      is_answers : Want → Bool
      is_answers (Answers x y) = true
      is_answers _ = false

      at_list : (o : Outcome) (cs : List (Option Call)) → next_closing o cs ≡ Answers p t → IsTrue (suits (later (Answer p text t) reply) past (Answer p text t) reply)
      at_list o [] k = absurd (false≢true (ap is_answers k))
      at_list o (None ∷ cs) k = absurd (false≢true (ap is_answers k))
      at_list o (Some c ∷ cs) k = absurd (false≢true (ap is_answers k))

      at : (m : Move) → move here past ≡ m → carried_out here past m ≡ Answers p t → IsTrue (suits (later (Answer p text t) reply) past (Answer p text t) reply)
      at (Goes x) e k =
          let goes : move here past ≡ Goes (Answers p t) = e ∙ ap Goes k in
          let g = given_behind here past p t goes (closing_never here past (Answers p t) v.is_past goes) in
          join (fits (Answer p text t) reply) (agrees (later (Answer p text t) reply) past (Answer p text t) reply) step.2 (text_agrees p text t reply g.0 g.1 some step)
      at (Closes o) e k = at_list o (drop (closings_made here past) (closings here past o)) k

  -- what is taken is of the space that was chosen, with its terms
  take_suited : (p : ℕ) (reply : BookReply) (before : List Event) (m : Call) → past ≡ Called m (Follow p) ∷ before → Step (Take p) reply → IsTrue (take_agrees (later (Take p) reply) (space_prompted past p) (terms_followed past p) reply)
  take_suited p (Gave gift) before m e step = by m e (fits_of here before m (Follow p) (subst (IsPast here) e v.is_past).1)
    where
      home : IsTrue (is_site_named roster names r gift.space) × IsAsked names entries r (Take p) gift.space
      home = at_home (Take p) (Gave gift) step gift refl

      by : (c : Call) → past ≡ Called c (Follow p) ∷ before → IsTrue (fits c (Follow p)) → IsTrue (may_hold (later (Take p) (Gave gift)) gift (space_prompted past p) (terms_followed past p))
      by (Select space t) q fit =
          subst (λ x. IsTrue (may_hold (later (Take p) (Gave gift)) gift x (terms_followed past p))) (sym space_is)
          (subst (λ x. IsTrue (may_hold (later (Take p) (Gave gift)) gift space x)) (sym terms_are)
          (holds (Take p) (Gave gift) step gift space t same home.0 refl
          (own_fits roster names entries v.legal r space t (record { call = Select space t; reply = Follow p }) (calls before) (v.same_calls ∙ ap calls q) refl)))
        where
          space_is : space_prompted past p ≡ space
          space_is = ap (λ x. space_prompted x p) q ∙ ap (λ x. unwrap_or (if x then Some space else None) (space_prompted before p)) (number_refl p)

          terms_are : terms_followed past p ≡ t
          terms_are = ap (λ x. terms_followed x p) q ∙ ap (λ x. unwrap_or (if x then Some t else None) (terms_followed before p)) (number_refl p)

          last : (1 ≤ p) × (list_any (λ x. takes x.call p) (calls before) ≡ false)
          last = last_followed roster names entries v.legal r p (record { call = Select space t; reply = Follow p }) (calls before) (v.same_calls ∙ ap calls q) refl

          done : AllDone (calls before) (calls before)
          done = from (stage here past v.is_past)
            where
              is_follow : List Event → Bool
              is_follow (Called c (Follow x) ∷ xs) = true
              is_follow xs = false

              calls_behind : List Event → List Made
              calls_behind [] = []
              calls_behind (x ∷ xs) = calls xs

              no : {P : Type 0} (xs : List Event) → past ≡ xs → is_follow xs ≡ false → P
              no xs k other = absurd (false≢true (sym other ∙ (ap is_follow (sym k) ∙ ap is_follow q)))

              from : Stage past → AllDone (calls before) (calls before)
              from (quiet still a) = absurd (false≢true (sym still ∙ ap is_waiting q))
              from (is_led c x o b k a) = no (Called c (Lead x o) ∷ b) k refl
              from (is_following c x b k a) = subst (λ ms. AllDone ms ms) (ap calls_behind (sym k ∙ q)) a
              from (is_asked c x o seen b k a) = no (AskedFor x seen ∷ Called c (Lead x o) ∷ b) k refl

          same : gift.space ≡ space
          same =
              sym (number_same space gift.space
              (one_of ((space == gift.space) && (p == p)) (list_any (λ x. selects x.call gift.space && (prompt_followed x.reply == p)) (calls before))
              (λ now. and_left (space == gift.space) (p == p) now)
              (λ earlier. absurd (false≢true (sym last.1 ∙ followed_taken gift.space p (calls before) (calls before) done (low last.0) earlier)))
              (sym (own_any (λ x. selects x.call gift.space && (prompt_followed x.reply == p)) ∙ ap (λ x. list_any (λ y. selects y.call gift.space && (prompt_followed y.reply == p)) (calls x)) q) ∙ home.1)))
            where
              low : 1 ≤ p → (p == 0) ≡ false
              low h = grind (arith, nat_tests, h)
      by c q fit = absurd (false≢true fit)
  take_suited p _ before m e step = refl

  -- ALL CALLS

  cancel_text : (p text t : ℕ) → Reason here past (Answer p text t) → text ≡ 0
  cancel_text p text t (cancels q before k e) = ap text_in e
  cancel_text p text t (begins q e) = not_that is_text (Answer p text t) Begin refl refl e
  cancel_text p text t (preempts reply before q e) = not_that is_text (Answer p text t) _ refl refl e
  cancel_text p text t (preempts_server reply before q e) = not_that is_text (Answer p text t) _ refl refl e
  cancel_text p text t (chooses space terms e c k) = not_that is_text (Answer p text t) (Select space terms) refl refl e
  cancel_text p text t (is_rejected event before u h q k e behind) = not_that is_text (Answer p text t) (Reject h.gift.space h.gift.ordinal) refl refl e
  cancel_text p text t (is_renewed link reply before u h offered terms number q k d o m e behind) = not_that is_text (Answer p text t) (Renew h.gift number) refl refl e
  cancel_text p text t (loses q seen loss before k e) = not_that is_text (Answer p text t) (Lose q loss) refl refl e
  cancel_text p text t (takes_it c q before k e) = not_that is_text (Answer p text t) (Take q) refl refl e

  abbrev IsBehindFollow : ℕ → Type 0
  IsBehindFollow p = (m : Call) × (before : List Event) × (past ≡ Called m (Follow p) ∷ before)

  take_behind : (p : ℕ) → Reason here past (Take p) → IsBehindFollow p
  take_behind p (takes_it c q before k e) = (c, before, k ∙ ap (λ x. Called c (Follow x) ∷ before) (sym (ap prompt_in e)))
  take_behind p (begins q e) = not_that is_take (Take p) Begin refl refl e
  take_behind p (preempts reply before q e) = not_that is_take (Take p) _ refl refl e
  take_behind p (preempts_server reply before q e) = not_that is_take (Take p) _ refl refl e
  take_behind p (chooses space terms e c k) = not_that is_take (Take p) (Select space terms) refl refl e
  take_behind p (is_rejected event before u h q k e behind) = not_that is_take (Take p) (Reject h.gift.space h.gift.ordinal) refl refl e
  take_behind p (is_renewed link reply before u h offered terms number q k d o m e behind) = not_that is_take (Take p) (Renew h.gift number) refl refl e
  take_behind p (cancels q before k e) = not_that is_take (Take p) _ refl refl e
  take_behind p (loses q seen loss before k e) = not_that is_take (Take p) (Lose q loss) refl refl e

  -- the reason of a call that is none at the end
  reason_of : (call : Call) → want here past ≡ Calls call → (IsFrom here past call → ⊥) → Reason here past call
  reason_of call w never = at (move here past) refl w
    where
      at : (m : Move) → move here past ≡ m → carried_out here past m ≡ Calls call → Reason here past call
      at (Goes x) e k = reason here past v.is_past call (e ∙ ap Goes k)
      at (Closes o) e k = absurd (never (wanted_from here past o call e w))

  call_agrees : (call : Call) (reply : BookReply) → want here past ≡ Calls call → Step call reply → IsTrue (agrees (later call reply) past call reply)
  call_agrees (Preempt target) reply w step = preempt_agrees target reply step
  call_agrees (Select space t) reply w step = select_agrees space t reply step
  call_agrees (Reject space ordinal) reply w step = reject_agrees space ordinal reply step
  call_agrees (Renew gift t) reply w step = renew_agrees gift t reply step
  call_agrees (Answer p text t) reply w step =
      let none : text ≡ 0 = cancel_text p text t (reason_of (Answer p text t) w (λ from. from)) in
      let cancelled : reply ≡ Cancelled =
      step.1 ∙ ap (λ x. cond (x == 0) Cancelled (Given (next_gift entries (space_of_prompt entries p)) (evicted (is_rival names (space_of_prompt entries p)) entries (space_of_prompt entries p)))) none in
      subst (λ x. IsTrue (answer_agrees (later (Answer p text t) reply) (space_prompted past p) text t x)) (sym cancelled) (eq-eqb text 0 none)
  call_agrees (Lose p loss) reply w step = subst (λ x. IsTrue (loss_agrees loss x)) (sym step.1) (own_loss loss)
  call_agrees (Take p) reply w step = let b = take_behind p (reason_of (Take p) w (λ from. from)) in take_suited p reply b.1 b.0 b.2 step
  call_agrees _ reply w step = refl

  pub calls_suited : (call : Call) (reply : BookReply) → want here past ≡ Calls call → Step call reply → IsTrue (suits (later call reply) past call reply)
  calls_suited call reply w step = join (fits call reply) (agrees (later call reply) past call reply) step.2 (call_agrees call reply w step)
