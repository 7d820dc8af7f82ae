-- The conditions of the book's calls hold where the rule of a request wants them.
use Rattle.std.proofs.Common.{◌≡◌, ◌⊎◌, inl, inr, ℕ, Bool, true, false, not, ◌&&◌, ◌||◌, ◌==◌, cond, IsTrue, List, [], ◌∷◌, drop, length, nat_lt, ◌≤◌, Option, Some, None, is_some, option_and_then, option_map, unwrap_or, refl, sym, ap, ◌∙◌, subst, arith, if◌then◌else◌}
use Rattle.std.specs.Prelude.{bytes_eq, nat_le}
use Rattle.std.specs.List.{list_any}
use Rattle.std.proofs.lemmas.Bool.{false≢true, eqb-true, eq-eqb}
use Rattle.std.proofs.lemmas.Bool.Decides.{nat_tests}
use Rattle.spaces.specs.declared.roster.Request.{Request}
use Rattle.spaces.specs.declared.roster.Roster.{Roster}
use Rattle.spaces.specs.declared.site.Site.{Site}
use Rattle.spaces.specs.declared.site.Target.{Target}
use Rattle.spaces.specs.declared.site.Target.TheVariants.{Server, Proxy}
use Rattle.spaces.specs.declared.space.Scheme.{Scheme}
use Rattle.spaces.specs.declared.space.Scheme.TheVariants.{Basic, Digest, Negotiate, Password}
use Rattle.spaces.specs.declared.terms.Terms.{Terms}
use Rattle.spaces.specs.ProtectionSpaces.{ProtectionSpace}
use Rattle.spaces.specs.Sites.{numbered, site, same_site, same_scheme, is_on_route}
use Rattle.auth_events.specs.declared.journal.Gift.{Gift}
use Rattle.auth_events.specs.declared.journal.Call.{Call}
use Rattle.auth_events.specs.declared.journal.Call.TheVariants.{Begin, Preempt, Select, Reject, Renew, Answer, Lose, Take, Note, End}
use Rattle.auth_events.specs.declared.journal.BookReply.{BookReply}
use Rattle.auth_events.specs.declared.journal.Entry.{Entry}
use Rattle.auth_events.specs.declared.names.TermsName.{TermsName}
use Rattle.auth_events.specs.Tables.{Tables, space_number, terms_number, is_home}
use Rattle.auth_events.specs.Book.{own, begins as is_begin, ends, preempts as asks_target, is_digest, is_basic, is_default, scheme_is as named_is, has_terms, fits_space, is_site_of, space_named, was_told, was_default_told, waits, no_entry, is_open, allowed_call, allowed}
use Rattle.auth_events.proofs.Naming.{named_space, named_terms}
use Rattle.auth_events.proofs.Same.{site_refl}
use Rattle.auth_runs.specs.declared.event.Outcome.{Outcome}
use Rattle.auth_runs.specs.declared.event.Event.{Event}
use Rattle.auth_runs.specs.declared.event.Event.TheVariants.{Called, AskedFor, Replied}
use Rattle.trace_rule.specs.Settings.{Setting, first_target, is_by_path, scheme_is}
use Rattle.trace_rule.specs.Challenges.{supported, space_at, challenges}
use Rattle.trace_rule.specs.Holding.{negotiates}
use Rattle.trace_rule.specs.Moves.{Want, Move, move, terms_offered}
use Rattle.trace_rule.specs.Closings.{want, carried_out}
use Rattle.trace_rule.specs.Moves.Want.{Calls}
use Rattle.trace_rule.specs.Moves.Move.{Goes, Closes}
use Rattle.auth_events.specs.declared.journal.BookReply.TheVariants.{Default}
use Rattle.auth_events.specs.Past.{selects as chooses}
use Rattle.trace_rule.specs.Traces.{IsPast, agrees, choice_agrees}
use Rattle.trace_rule.proofs.Knowing.{agrees_of}
use Rattle.trace_rule.specs.Entries.{Made, calls, made_in}
use Rattle.trace_rule.specs.Serving.{setting_in, IsServing, is_of_prompt}
use Rattle.trace_rule.proofs.Reasons.{Reason, IsChoice, reason, made_for}
use Rattle.trace_rule.proofs.Reasons.Reason.{begins, preempts, preempts_server, selects, is_rejected, is_renewed, cancels, loses, takes}
use Rattle.trace_rule.proofs.Holdings.{tells, defaults, WasTold, AreTold, told_held, told_carried, calls_go_on, or_true}
use Rattle.auth_events.specs.declared.journal.Loss.{Loss}
use Rattle.auth_events.specs.declared.journal.BookReply.TheVariants.{Lead, Follow}
use Rattle.auth_events.specs.Pages.{fits}
use Rattle.auth_events.specs.Past.{lead, settled, prompt_followed}
use Rattle.auth_events.specs.Book.{is_led_by, terms_selected, takes as takes_prompt}
use Rattle.link_trait.specs.declared.prompts.AskSeen.{AskSeen}
use Rattle.link_trait.specs.declared.prompts.AskSeen.TheVariants.{Given as AskGiven, Cancel}
use Rattle.trace_rule.specs.Moves.{terms_led}
use Rattle.trace_rule.specs.Closings.{closings, closings_made, next_closing}
use Rattle.trace_rule.specs.Moves.Want.{Answers, Ends}
use Rattle.trace_rule.specs.Traces.{is_over}
use Rattle.trace_rule.proofs.Prompts.{IsLastLed, last_led, last_followed}
use Rattle.trace_rule.proofs.Waiting.{given_behind}
use Rattle.trace_rule.proofs.Stages.{quiet_stage, no_waits, asks_from, fits_of}
use Rattle.trace_rule.proofs.Reasons.{closing_never}
use Rattle.trace_rule.proofs.EndCalls.{IsFrom, wanted_from}
use Rattle.trace_rule.proofs.Ending.{not_ended, after_end, began}
use Rattle.trace_rule.proofs.Allowed.{join, parts, any_map, any_all, empty_map, begin_alone, proxy_reason, Fits, FitsIf, all_fit, best_fits, digest_test, site_home, route_first}

-- a default identity is one of a Negotiate space
default_negotiates : (s : Setting) (past : List Event) → IsPast s past → (space : ℕ) → IsTrue (list_any (defaults space) (calls past)) → IsTrue (scheme_is s space Negotiate)
default_negotiates s [] run space told = absurd (false≢true told)
default_negotiates s (Called call reply ∷ past) run space told = at (defaults space (record { call = call; reply = reply })) refl (λ later. default_negotiates s past run.0 space later) told
  where
    chosen : (sp terms : ℕ) (b : BookReply) → IsTrue (choice_agrees s past sp terms b) → IsTrue (is_default b && (sp == space)) → IsTrue (scheme_is s space Negotiate)
    chosen sp terms Default a d = subst (λ n. IsTrue (scheme_is s n Negotiate)) (eqb-true sp space d) a
    chosen sp terms _ a d = absurd (false≢true d)

    now : (c : Call) (b : BookReply) → IsTrue (agrees s past c b) → IsTrue (is_default b && chooses c space) → IsTrue (scheme_is s space Negotiate)
    now (Select sp terms) b a d = chosen sp terms b a d
    now _ b a d = absurd (false≢true (parts (is_default b) false d).1)

    at : (b : Bool) → defaults space (record { call = call; reply = reply }) ≡ b → (IsTrue (list_any (defaults space) (calls past)) → IsTrue (scheme_is s space Negotiate)) → IsTrue (b || list_any (defaults space) (calls past)) → IsTrue (scheme_is s space Negotiate)
    at true e later t = now call reply (agrees_of s past call reply run.1) e
    at false e later t = later t
default_negotiates s (_ ∷ past) run space told = default_negotiates s past run.0 space told

-- a space of another scheme than Negotiate has no default identity

scheme_clash : (names : Tables) (o : Option ProtectionSpace) → IsTrue (unwrap_or (option_map (λ (named : ProtectionSpace). same_scheme named.scheme Negotiate) o) false)
    → IsTrue (unwrap_or (option_map (λ (named : ProtectionSpace). same_scheme named.scheme Basic) o) false || unwrap_or (option_map (λ (named : ProtectionSpace). same_scheme named.scheme Digest) o) false) → ⊥
scheme_clash names None n p = false≢true n
scheme_clash names (Some named) n p = at named.scheme n p
  where
    at : (scheme : Scheme) → IsTrue (same_scheme scheme Negotiate) → IsTrue (same_scheme scheme Basic || same_scheme scheme Digest) → ⊥
    at Negotiate n p = false≢true p
    at Basic n p = false≢true n
    at Digest n p = false≢true n
    at Password n p = false≢true n

module _ (n : Bool) (roster : Roster) (seed : List ℕ) (names : Tables) (entries : List Entry) (caller r : ℕ) (request : Request) (past : List Event)
    (v : IsServing roster names entries caller r request (setting_in n roster seed names entries r request) past) where
  abbrev here : Setting
  here = setting_in n roster seed names entries r request

  own_any : (f : Made → Bool) → list_any (λ e. f (made_in e)) (own entries r) ≡ list_any f (calls past)
  own_any f = any_map made_in f (own entries r) ∙ ap (list_any f) v.same_calls

  -- the request is open: this caller began it, it hasn't ended, and there is room
  is_open_by : IsTrue (list_any (λ made. is_begin made.call) (calls past)) → list_any (λ made. ends made.call) (calls past) ≡ false → IsTrue (is_open entries caller r)
  is_open_by begun unended =
      join (list_any (λ entry. is_begin entry.call && (entry.caller == caller)) (own entries r) && not (list_any (λ entry. ends entry.call) (own entries r))) (nat_lt (length (own entries r)) 64)
      (join (list_any (λ entry. is_begin entry.call && (entry.caller == caller)) (own entries r)) (not (list_any (λ entry. ends entry.call) (own entries r)))
      (any_all (λ entry. is_begin entry.call) (λ entry. entry.caller == caller) (own entries r) (own_any (λ made. is_begin made.call) ∙ begun) v.one_caller)
      (ap not (own_any (λ made. ends made.call) ∙ unended)))
      room
    where
      room : IsTrue (nat_lt (length (own entries r)) 64)
      room = let few = v.few in grind (arith, nat_tests, few)

  is_open_now : (call : Call) → want here past ≡ Calls call → is_begin call ≡ false → IsTrue (is_open entries caller r)
  is_open_now call w other = is_open_by (begun (began here past v.is_past)) (not_ended here past call v.is_past w)
    where
      call_in : Want → Call
      call_in (Calls c) = c
      call_in _ = End

      begun : (past ≡ []) ⊎ IsTrue (list_any (λ made. is_begin made.call) (calls past)) → IsTrue (list_any (λ made. is_begin made.call) (calls past))
      begun (inl none) = absurd (false≢true (sym other ∙ ap is_begin (sym (ap call_in (subst (λ p. want here p ≡ Calls call) none w)))))
      begun (inr told) = told

  -- behind an asking
  is_open_behind : (b : List Event) (p : ℕ) → past ≡ AskedFor p AskGiven ∷ b → IsTrue (is_open entries caller r)
  is_open_behind b p e = is_open_by (begun (began here past v.is_past)) (none_if (list_any (λ made. ends made.call) (calls past)) (λ told. over (after_end here past v.is_past told)))
    where
      is_ends : Want → Bool
      is_ends (Ends o) = true
      is_ends _ = false

      no_nil : List Event → Bool
      no_nil [] = false
      no_nil (x ∷ xs) = true

      over : ((o : Outcome) × (want here past ≡ Ends o)) ⊎ IsTrue (is_over past) → ⊥
      over (inl (o, w)) = false≢true (ap is_ends (sym (ap (want here) e) ∙ w))
      over (inr done) = false≢true (sym (ap is_over e) ∙ done)

      begun : (past ≡ []) ⊎ IsTrue (list_any (λ made. is_begin made.call) (calls past)) → IsTrue (list_any (λ made. is_begin made.call) (calls past))
      begun (inl none) = absurd (false≢true (ap no_nil (sym none ∙ e)))
      begun (inr told) = told

      none_if : (x : Bool) → (IsTrue x → ⊥) → x ≡ false
      none_if true h = absurd (h refl)
      none_if false h = refl

  allowed_if : (call : Call) → want here past ≡ Calls call → is_begin call ≡ false → IsTrue (allowed_call roster names entries r call) → IsTrue (allowed roster names entries caller r call)
  allowed_if call w other ok =
      join (if is_begin call then no_entry entries r else is_open entries caller r) (allowed_call roster names entries r call)
      (ap (λ b. if b then no_entry entries r else is_open entries caller r) other ∙ is_open_now call w other) ok

  -- THE FIRST CALLS

  begin_allowed : past ≡ [] → IsTrue (allowed roster names entries caller r Begin)
  begin_allowed none =
      join (no_entry entries r) (is_some (numbered roster.requests r))
      (let no : length (own entries r) ≡ 0 = empty_map made_in (own entries r) (v.same_calls ∙ ap calls none) in ap (λ k. k == 0) no)
      (ap is_some v.in_roster)

  preempt_allowed : (target : Target) → IsTrue (is_on_route request target) → list_any (λ made. asks_target made.call target) (calls past) ≡ false → IsTrue (allowed_call roster names entries r (Preempt target))
  preempt_allowed target on_route fresh =
      join (unwrap_or (option_map (λ (q : Request). is_on_route q target) (numbered roster.requests r)) false) (not (list_any (λ entry. asks_target entry.call target) (own entries r)))
      (ap (λ o. unwrap_or (option_map (λ (q : Request). is_on_route q target) o) false) v.in_roster ∙ on_route)
      (ap not (own_any (λ made. asks_target made.call target) ∙ fresh))

  -- WHAT WAS TOLD

  told_by_calls : (gift : Gift) → IsTrue (list_any (tells gift) (calls past)) → IsTrue (was_told entries r gift)
  told_by_calls gift told = own_any (tells gift) ∙ told

  reject_allowed : (gift : Gift) → WasTold gift (calls past) → IsTrue (allowed_call roster names entries r (Reject gift.space gift.ordinal))
  reject_allowed gift (inl told) = ap (λ b. b || (gift.ordinal == 0) && was_default_told entries r gift.space) (told_by_calls gift told)
  reject_allowed gift (inr (zero, told)) =
      or_true (was_told entries r gift) ((gift.ordinal == 0) && was_default_told entries r gift.space)
      (join (gift.ordinal == 0) (was_default_told entries r gift.space) (eq-eqb gift.ordinal 0 zero) (own_any (defaults gift.space) ∙ told))

  -- a gift of a Basic or Digest space was told as such
  told_by_path : (gift : Gift) → WasTold gift (calls past) → IsTrue (is_by_path here gift.space) → IsTrue (was_told entries r gift)
  told_by_path gift (inl told) path = told_by_calls gift told
  told_by_path gift (inr (zero, told)) path = absurd (scheme_clash names (numbered names.spaces gift.space) (default_negotiates here past v.is_past gift.space told) path)

  path_scheme : (space : ℕ) → IsTrue (is_by_path here space) → IsTrue (named_is names is_basic space || named_is names is_digest space)
  path_scheme space path = at (numbered names.spaces space) path
    where
      by_scheme : (scheme : Scheme) → IsTrue (same_scheme scheme Basic || same_scheme scheme Digest) → IsTrue (is_basic scheme || is_digest scheme)
      by_scheme Basic p = refl
      by_scheme Digest p = refl
      by_scheme Negotiate p = absurd (false≢true p)
      by_scheme Password p = absurd (false≢true p)

      at : (o : Option ProtectionSpace) → IsTrue (unwrap_or (option_map (λ (named : ProtectionSpace). same_scheme named.scheme Basic) o) false || unwrap_or (option_map (λ (named : ProtectionSpace). same_scheme named.scheme Digest) o) false)
          → IsTrue (unwrap_or (option_map (λ (named : ProtectionSpace). is_basic named.scheme) o) false || unwrap_or (option_map (λ (named : ProtectionSpace). is_digest named.scheme) o) false)
      at None p = absurd (false≢true p)
      at (Some named) p = by_scheme named.scheme p

  note_allowed : (gift : Gift) → IsFrom here past (Note gift) → IsTrue (allowed_call roster names entries r (Note gift))
  note_allowed gift (t, h, e, same, path) =
      subst (λ g. IsTrue (allowed_call roster names entries r (Note g))) (sym same)
      (join (was_told entries r h.gift) (named_is names is_basic h.gift.space || named_is names is_digest h.gift.space)
      (told_by_path h.gift (subst (λ o. AreTold o (calls past)) e (told_carried here past v.is_past t)) path) (path_scheme h.gift.space path))

  -- NAMED TERMS

  -- terms that have a number stand in their space, which is a Digest space
  terms_stand : (space : ℕ) (terms : Terms) (number : ℕ) → terms_number names space terms ≡ Some number → IsTrue (has_terms names space number) × IsTrue (named_is names is_digest space)
  terms_stand space terms number found =
      let t = named_terms names space terms number found in
      let home = (v.are_names.home t.0 number t.1).home in (
        ap (λ o. unwrap_or (option_map (λ (name : TermsName). name.space == space) o) false) t.1 ∙ eq-eqb t.0.space space t.2,
        digest t.0.terms (numbered names.spaces space) (subst (λ k. IsTrue (is_home names k t.0.terms)) t.2 home),
      )
    where
      digest : (known : Terms) (o : Option ProtectionSpace) → IsTrue (unwrap_or (option_map (λ (named : ProtectionSpace). same_scheme named.scheme Digest && bytes_eq named.realm known.realm) o) false)
          → IsTrue (unwrap_or (option_map (λ (named : ProtectionSpace). is_digest named.scheme) o) false)
      digest known None h = absurd (false≢true h)
      digest known (Some named) h = digest_test named.scheme (parts (same_scheme named.scheme Digest) (bytes_eq named.realm known.realm) h).0

  digest_by_path : (space : ℕ) → IsTrue (named_is names is_digest space) → IsTrue (is_by_path here space)
  digest_by_path space h = at (numbered names.spaces space) h
    where
      by_scheme : (scheme : Scheme) → IsTrue (is_digest scheme) → IsTrue (same_scheme scheme Basic || same_scheme scheme Digest)
      by_scheme Digest p = refl
      by_scheme Basic p = refl
      by_scheme Negotiate p = absurd (false≢true p)
      by_scheme Password p = absurd (false≢true p)

      at : (o : Option ProtectionSpace) → IsTrue (unwrap_or (option_map (λ (named : ProtectionSpace). is_digest named.scheme) o) false)
          → IsTrue (unwrap_or (option_map (λ (named : ProtectionSpace). same_scheme named.scheme Basic) o) false || unwrap_or (option_map (λ (named : ProtectionSpace). same_scheme named.scheme Digest) o) false)
      at None p = absurd (false≢true p)
      at (Some named) p = by_scheme named.scheme p

  renew_allowed : (gift : Gift) (terms : Terms) (number : ℕ) → WasTold gift (calls past) → terms_number names gift.space terms ≡ Some number → IsTrue (allowed_call roster names entries r (Renew gift number))
  renew_allowed gift terms number told found =
      let stand = terms_stand gift.space terms number found in
      join (was_told entries r gift && named_is names is_digest gift.space) (has_terms names gift.space number)
      (join (was_told entries r gift) (named_is names is_digest gift.space) (told_by_path gift told (digest_by_path gift.space stand.1)) stand.1) stand.0

  -- CHOICES

  select_allowed : (space terms : ℕ) → IsChoice here past space terms → waits entries r ≡ false → IsTrue (allowed_call roster names entries r (Select space terms))
  select_allowed space terms c no_wait = at (site request c.target) refl c.is_space
    where
      fit : Fits c.offered
      fit = subst FitsIf c.is_best (best_fits (supported (negotiates here past c.target) c.reply) (all_fit (negotiates here past c.target) (challenges c.reply)))

      fits : (place : Site) → numbered names.spaces space ≡ Some (space_at place c.offered) → Fits c.offered → IsTrue (fits_space names space terms)
      fits place named (inl (none, other)) =
          let zero : Some 0 ≡ Some terms = sym (ap (terms_offered here space) none) ∙ c.is_terms in
          let is_zero : 0 ≡ terms = cc in
          ap (λ b. if b then has_terms names space terms else (terms == 0)) (ap (λ o. unwrap_or (option_map (λ (k : ProtectionSpace). is_digest k.scheme) o) false) named ∙ other)
          ∙ eq-eqb terms 0 (sym is_zero)
      fits place named (inr (known_terms, some, digest)) =
          ap (λ b. if b then has_terms names space terms else (terms == 0)) (ap (λ o. unwrap_or (option_map (λ (k : ProtectionSpace). is_digest k.scheme) o) false) named ∙ digest)
          ∙ (terms_stand space known_terms terms (sym (ap (terms_offered here space) some) ∙ c.is_terms)).0

      at_place : (place : Site) → site request c.target ≡ Some place → numbered names.spaces space ≡ Some (space_at place c.offered) → IsTrue (allowed_call roster names entries r (Select space terms))
      at_place place e named =
          join (unwrap_or (option_map (is_site_of roster r) (space_named names space)) false && fits_space names space terms) (not (waits entries r))
          (join (unwrap_or (option_map (is_site_of roster r) (space_named names space)) false) (fits_space names space terms)
          (ap (λ o. unwrap_or (option_map (is_site_of roster r) o) false) named
          ∙ ap (λ o. unwrap_or (option_map (λ (p : Site). same_site p place) (option_and_then (λ (q : Request). site q place.target) o)) false) v.in_roster
          ∙ ap (λ o. unwrap_or (option_map (λ (p : Site). same_site p place) o) false) (site_home request c.target place e)
          ∙ site_refl place)
          (fits place named fit))
          (ap not no_wait)

      at : (o : Option Site) → site request c.target ≡ o → option_and_then (λ place. space_number names (space_at place c.offered)) o ≡ Some space → IsTrue (allowed_call roster names entries r (Select space terms))
      at None e found = let clash : None ≡ Some space = found in cc
      at (Some place) e found = at_place place e (named_space names (space_at place c.offered) space found)

  -- PROMPTS

  -- the request leads the prompt, which is open, and its entry is the choice
  led_now : (c : Call) (p o : ℕ) (b : List Event) → calls past ≡ record { call = c; reply = Lead p o } ∷ calls b → IsLastLed roster names entries r p (record { call = c; reply = Lead p o })
  led_now c p o b same = last_led roster names entries v.legal r p o (record { call = c; reply = Lead p o }) (calls b) (v.same_calls ∙ same) refl

  leads_it : (p : ℕ) (m : Made) → IsLastLed roster names entries r p m → IsTrue (is_led_by entries r p && not (settled entries p))
  leads_it p m l =
      join (is_led_by entries r p) (not (settled entries p))
      (ap (λ o. unwrap_or (option_map (λ (e : Entry). e.request == r) o) false) l.is_lead_of ∙ eq-eqb l.entry.request r l.own_request)
      (ap not l.is_unsettled)

  lose_allowed : (p : ℕ) (seen : AskSeen) (loss : Loss) (before : List Event) → past ≡ AskedFor p seen ∷ before → IsTrue (allowed_call roster names entries r (Lose p loss))
  lose_allowed p seen loss before e =
      let run : IsPast here (AskedFor p seen ∷ before) = subst (IsPast here) e v.is_past in
      let l = asks_from here before p seen run.0 run.1 in
      leads_it p _ (led_now l.0 p l.1 l.2 (ap calls e ∙ ap calls l.3))

  -- the terms are those of the choice that led
  same_terms : (c : Call) (p o : ℕ) (b : List Event) (entry : Entry) → IsTrue (fits c (Lead p o)) → made_in entry ≡ record { call = c; reply = Lead p o } → IsTrue (terms_selected entry.call == terms_led (Called c (Lead p o) ∷ b) p)
  same_terms (Select space terms) p o b entry f same =
      let call : entry.call ≡ Select space terms = ap (λ m. m.call) same in
      let led : terms_led (Called (Select space terms) (Lead p o) ∷ b) p ≡ terms = ap (λ x. unwrap_or (if x then Some terms else None) (terms_led b p)) (eq-eqb p p refl) in
      eq-eqb (terms_selected entry.call) (terms_led (Called (Select space terms) (Lead p o) ∷ b) p) (ap terms_selected call ∙ sym led)
  same_terms c p o b entry f same = absurd (false≢true f)

  answer_allowed : (p text : ℕ) (seen : AskSeen) (before : List Event) → past ≡ AskedFor p seen ∷ before → text ≤ length names.texts → IsTrue (allowed_call roster names entries r (Answer p text (terms_led before p)))
  answer_allowed p text seen before e within =
      let run : IsPast here (AskedFor p seen ∷ before) = subst (IsPast here) e v.is_past in
      let l = asks_from here before p seen run.0 run.1 in
      let last = led_now l.0 p l.1 l.2 (ap calls e ∙ ap calls l.3) in
      let fit : IsTrue (fits l.0 (Lead p l.1)) = fits_of here l.2 l.0 (Lead p l.1) (subst (IsPast here) l.3 run.0).1 in
      join (is_led_by entries r p && not (settled entries p) && nat_le text (length names.texts)) (unwrap_or (option_map (λ (entry : Entry). terms_selected entry.call == terms_led before p) (lead entries p)) false)
      (join (is_led_by entries r p && not (settled entries p)) (nat_le text (length names.texts)) (leads_it p _ last) (grind (arith, nat_tests, within)))
      (ap (λ o. unwrap_or (option_map (λ (entry : Entry). terms_selected entry.call == terms_led before p) o) false) last.is_lead_of
      ∙ ap (λ b. terms_selected last.entry.call == terms_led b p) l.3 ∙ same_terms l.0 p l.1 l.2 last.entry fit last.made)

  -- a choice takes nothing
  no_take : (c : Call) (p q : ℕ) → IsTrue (fits c (Follow p)) → takes_prompt c q ≡ false
  no_take (Select space terms) p q f = refl
  no_take c p q f = absurd (false≢true f)

  take_allowed : (made : Call) (p : ℕ) (before : List Event) → past ≡ Called made (Follow p) ∷ before → IsTrue (allowed_call roster names entries r (Take p))
  take_allowed made p before e =
      let run : IsPast here (Called made (Follow p) ∷ before) = subst (IsPast here) e v.is_past in
      let fit : IsTrue (fits made (Follow p)) = fits_of here before made (Follow p) run.1 in
      let last = last_followed roster names entries v.legal r p (record { call = made; reply = Follow p }) (calls before) (v.same_calls ∙ ap calls e) refl in
      let low = last.0 in
      join (not (p == 0) && list_any (λ entry. prompt_followed entry.reply == p) (own entries r)) (not (list_any (λ entry. takes_prompt entry.call p) (own entries r)))
      (join (not (p == 0)) (list_any (λ entry. prompt_followed entry.reply == p) (own entries r)) (grind (arith, nat_tests, low))
      (own_any (λ m. prompt_followed m.reply == p) ∙ ap (λ x. list_any (λ m. prompt_followed m.reply == p) (calls x)) e
      ∙ ap (λ x. x || list_any (λ m. prompt_followed m.reply == p) (calls before)) (eq-eqb p p refl)))
      (ap not (own_any (λ m. takes_prompt m.call p) ∙ ap (λ x. list_any (λ m. takes_prompt m.call p) (calls x)) e
      ∙ ap (λ x. x || list_any (λ m. takes_prompt m.call p) (calls before)) (no_take made p p fit) ∙ last.1))

  -- ALL CALLS

  by_reason : (call : Call) → want here past ≡ Calls call → (is_of_prompt call ≡ false → waits entries r ≡ false) → Reason here past call → IsTrue (allowed roster names entries caller r call)
  by_reason call w q (begins p e) = subst (λ c. IsTrue (allowed roster names entries caller r c)) (sym e) (begin_allowed p)
  by_reason call w q (preempts reply before p e) =
      let alone : before ≡ [] = begin_alone here before reply (subst (IsPast here) p v.is_past) in
      let whole : past ≡ Called Begin reply ∷ [] = p ∙ ap (λ b. Called Begin reply ∷ b) alone in
      allowed_if call w (ap is_begin e)
      (subst (λ c. IsTrue (allowed_call roster names entries r c)) (sym e)
      (preempt_allowed (first_target here) (route_first request) (ap (λ x. list_any (λ made. asks_target made.call (first_target here)) (calls x)) whole)))
  by_reason call w q (preempts_server reply before p e) =
      let run : IsPast here (Called (Preempt Proxy) reply ∷ before) = subst (IsPast here) p v.is_past in
      let earlier = proxy_reason here before (made_for here before (Preempt Proxy) reply run.0 refl refl run.1) in
      let alone : earlier.1 ≡ [] = begin_alone here earlier.1 earlier.0 (subst (IsPast here) earlier.2 run.0) in
      let whole : past ≡ Called (Preempt Proxy) reply ∷ Called Begin earlier.0 ∷ [] = p ∙ ap (λ b. Called (Preempt Proxy) reply ∷ b) (earlier.2 ∙ ap (λ b. Called Begin earlier.0 ∷ b) alone) in
      allowed_if call w (ap is_begin e)
      (subst (λ c. IsTrue (allowed_call roster names entries r c)) (sym e)
      (preempt_allowed Server refl (ap (λ x. list_any (λ made. asks_target made.call Server) (calls x)) whole)))
  by_reason call w q (selects space terms e c k) =
      allowed_if call w (ap is_begin e) (subst (λ x. IsTrue (allowed_call roster names entries r x)) (sym e) (select_allowed space terms c (q (ap is_of_prompt e))))
  by_reason call w q (is_rejected event before t h p k e behind) =
      let run : IsPast here (event ∷ before) = subst (IsPast here) p v.is_past in
      let told : WasTold h.gift (calls before) = subst (λ x. AreTold x (calls before)) k (told_held here before run.0 t) in
      allowed_if call w (ap is_begin e)
      (subst (λ x. IsTrue (allowed_call roster names entries r x)) (sym e) (reject_allowed h.gift (subst (λ x. WasTold h.gift (calls x)) (sym p) (calls_go_on event before h.gift told))))
  by_reason call w q (is_renewed link reply before t h offered terms number p k d f found e behind) =
      let run : IsPast here (Replied link reply ∷ before) = subst (IsPast here) p v.is_past in
      let told : WasTold h.gift (calls before) = subst (λ x. AreTold x (calls before)) k (told_held here before run.0 t) in
      allowed_if call w (ap is_begin e)
      (subst (λ x. IsTrue (allowed_call roster names entries r x)) (sym e) (renew_allowed h.gift terms number (subst (λ x. WasTold h.gift (calls x)) (sym p) told) found))
  by_reason call w q (cancels p before k e) =
      let low : 0 ≤ length names.texts = omega arith in
      allowed_if call w (ap is_begin e) (subst (λ x. IsTrue (allowed_call roster names entries r x)) (sym e) (answer_allowed p 0 Cancel before k low))
  by_reason call w q (loses p seen loss before k e) =
      allowed_if call w (ap is_begin e) (subst (λ x. IsTrue (allowed_call roster names entries r x)) (sym e) (lose_allowed p seen loss before k))
  by_reason call w q (takes made p before k e) =
      allowed_if call w (ap is_begin e) (subst (λ x. IsTrue (allowed_call roster names entries r x)) (sym e) (take_allowed made p before k))

  at_end_allowed : (call : Call) → want here past ≡ Calls call → (is_of_prompt call ≡ false → waits entries r ≡ false) → IsFrom here past call → IsTrue (allowed roster names entries caller r call)
  at_end_allowed (Note gift) w q from = allowed_if (Note gift) w refl (note_allowed gift from)
  at_end_allowed (Renew gift number) w q (t, h, terms, e, same, found, digest) =
      let told : WasTold h.gift (calls past) = subst (λ o. AreTold o (calls past)) e (told_carried here past v.is_past t) in
      allowed_if (Renew gift number) w refl
      (subst (λ g. IsTrue (allowed_call roster names entries r (Renew g number))) (sym same) (renew_allowed h.gift terms number told found))
  at_end_allowed End w q from = allowed_if End w refl (ap not (q refl))
  at_end_allowed _ w q from = absurd from

  pub wanted_allowed : (call : Call) → want here past ≡ Calls call → IsTrue (allowed roster names entries caller r call)
  wanted_allowed call w = at (move here past) refl w
    where
      q : is_of_prompt call ≡ false → waits entries r ≡ false
      q other = no_waits entries r past v.same_calls (quiet_stage here past call v.is_past w other)

      at : (m : Move) → move here past ≡ m → carried_out here past m ≡ Calls call → IsTrue (allowed roster names entries caller r call)
      at (Goes x) e k = by_reason call w q (reason here past v.is_past call (e ∙ ap Goes k))
      at (Closes outcome) e k = at_end_allowed call w q (wanted_from here past outcome call e w)

  -- the answer to a prompt, with a text that is named
  pub answers_allowed : (p text terms : ℕ) → want here past ≡ Answers p terms → text ≤ length names.texts → IsTrue (allowed roster names entries caller r (Answer p text terms))
  answers_allowed p text terms w within = at (move here past) refl w
    where
      is_answers : Want → Bool
      is_answers (Answers x t) = true
      is_answers _ = false

      at_list : (outcome : Outcome) (cs : List (Option Call)) → next_closing outcome cs ≡ Answers p terms → IsTrue (allowed roster names entries caller r (Answer p text terms))
      at_list outcome [] k = absurd (false≢true (ap is_answers k))
      at_list outcome (None ∷ cs) k = absurd (false≢true (ap is_answers k))
      at_list outcome (Some c ∷ cs) k = absurd (false≢true (ap is_answers k))

      given : move here past ≡ Goes (Answers p terms) → IsTrue (allowed roster names entries caller r (Answer p text terms))
      given e =
          let g = given_behind here past p terms e (closing_never here past (Answers p terms) v.is_past e) in
          join (cond (is_begin (Answer p text terms)) (no_entry entries r) (is_open entries caller r)) (allowed_call roster names entries r (Answer p text terms))
          (is_open_behind g.0 p g.1)
          (subst (λ t. IsTrue (allowed_call roster names entries r (Answer p text t))) (sym g.2) (answer_allowed p text AskGiven g.0 g.1 within))

      at : (m : Move) → move here past ≡ m → carried_out here past m ≡ Answers p terms → IsTrue (allowed roster names entries caller r (Answer p text terms))
      at (Goes x) e k = given (e ∙ ap Goes k)
      at (Closes outcome) e k = at_list outcome (drop (closings_made here past) (closings here past outcome)) k
