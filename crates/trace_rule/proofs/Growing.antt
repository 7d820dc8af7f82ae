-- A trace stays a trace where more is known.
use Rattle.std.proofs.Common.{◌≡◌, ◌⊎◌, inl, inr, ℕ, zero, suc, map, Bool, true, false, not, ◌&&◌, ◌||◌, ◌==◌, ◌+◌, IsTrue, List, [], ◌∷◌, ◌++◌, Option, Some, None, is_some, is_none, option_and_then, option_map, unwrap_or, refl, sym, ap, ◌∙◌, subst, if◌then◌else◌, reverse, drop, nat_le}
use Rattle.std.specs.List.{list_any}
use Rattle.std.proofs.lemmas.Bool.{false≢true}
use Rattle.auth_text.specs.Login.{Login}
use Rattle.spaces.specs.declared.site.Site.{Site}
use Rattle.spaces.specs.declared.site.Target.{Target}
use Rattle.spaces.specs.declared.site.Target.TheVariants.{Server, Proxy, Socks}
use Rattle.spaces.specs.declared.space.Scheme.{Scheme}
use Rattle.spaces.specs.declared.space.Scheme.TheVariants.{Digest, Negotiate}
use Rattle.spaces.specs.declared.terms.Terms.{Terms}
use Rattle.spaces.specs.Sites.{site, same_target}
use Rattle.auth_events.specs.declared.journal.Gift.{Gift}
use Rattle.auth_events.specs.declared.journal.Call.{Call}
use Rattle.auth_events.specs.declared.journal.Call.TheVariants.{Begin, Preempt, Select, Reject, Renew, Answer, Lose, Take, Note, End, Draw}
use Rattle.auth_events.specs.declared.journal.BookReply.{BookReply}
use Rattle.auth_events.specs.declared.journal.BookReply.TheVariants.{Ready, Url, Cached, Default, Given, Gave, Cancelled, Lost, Lead, Follow}
use Rattle.auth_events.specs.declared.names.TermsName.{TermsName}
use Rattle.auth_events.specs.Pages.{fits}
use Rattle.auth_events.specs.Past.{is_removed}
use Rattle.wire_head.specs.declared.reply.Reply.{Reply}
use Rattle.link_trait.specs.declared.steps.StepSeen.{StepSeen}
use Rattle.link_trait.specs.declared.steps.StepSeen.TheVariants.{Token, Done, Refused as StepRefused, NoMechanism, Failed as StepFailed, NoMemory as StepNoMemory}
use Rattle.auth_runs.specs.declared.event.Outcome.{Outcome}
use Rattle.auth_runs.specs.declared.event.Outcome.TheVariants.{Answered, Refused}
use Rattle.auth_runs.specs.declared.event.Why.TheVariants.{Rounds, BoundLost}
use Rattle.auth_runs.specs.declared.event.Event.{Event}
use Rattle.auth_runs.specs.declared.event.Event.TheVariants.{Called, Dialed, DialFailed, Drew, Headed, WriteFailed, ReadFailed, Replied, Broken, LinkLost, AskedFor, Stepped, Ended}
use Rattle.trace_rule.specs.Settings.{Setting, scheme_is, target_is, is_by_path, knows_gift, knows_terms, for_route, or_else}
use Rattle.trace_rule.specs.Challenges.{Offer, challenged, challenges_target, supported, best, space_at}
use Rattle.trace_rule.specs.Holding.{Held, Context, Decision, held, carried, bound, links, has_link, context_of, unsent, held_called, held_selected, held_prompted, held_drew, held_stepped, held_headed, held_replied, held_lost, gift_held, if_target, deciding, terms_followed, negotiates, last_reply, code, is_lost, stays}
use Rattle.trace_rule.specs.Holding.Decision.{Negotiating, Offering}
use Rattle.wire_head.specs.RequestHeads.{head}
use Rattle.negotiate_handler.specs.Tokens.{negotiate_credentials}
use Rattle.trace_rule.specs.Heads.{uri, drawn, field, field_of, digest_field, credentials, head_text, keeps}
use Rattle.trace_rule.specs.Moves.{Want, Move, move, go, spn, has_count, known, first_want, start_for, identity_held, loss_for, dial_for, draw_for, head_link, terms_offered, space_offered, choose, select, is_round, rounds, is_last_round, rejects, rejected, renewed, decided, weighed, replied, told, stepped, is_answered}
use Rattle.trace_rule.specs.NextNonces.{next}
use Rattle.trace_rule.specs.Closings.{want, with_nonce, renewal, renewal_of, renewal_for, renewals, is_challenged, note_of, note_for, notes, closings, is_closing, closings_made, next_closing, close, carried_out}
use Rattle.trace_rule.specs.Moves.Want.{Calls, Answers, Asks, Steps, Dials, Draws, Writes, Reads, Loses, Ends, Rests}
use Rattle.trace_rule.specs.Moves.Move.{Goes, Closes}
use Rattle.trace_rule.specs.Moves.Asking.{Start}
use Rattle.trace_rule.specs.Traces.{settles, IsPast, Follows, IsCall, IsAnswer, IsTrace, IsCutAt, suits, agrees, may_hold, ready_agrees, choice_agrees, answer_agrees, take_agrees, space_prompted}
use Rattle.trace_rule.specs.Growing.{KnowsMore, grown}
use Rattle.trace_rule.proofs.Knowing.{both_of, suits_of, IsKnown, Knows, may_hold_known, negotiate_known, known_held}

-- what is there stays as it is
same_some : {A : Type 0} (o p : Option A) → ((a : A) → o ≡ Some a → p ≡ Some a) → IsTrue (is_some o) → o ≡ p
same_some None p more known = absurd (false≢true known)
same_some (Some a) p more known = sym (more a refl)

route_same : {A : Type 0} (f g : Target → Option A) → f Proxy ≡ g Proxy → f Server ≡ g Server → for_route f ≡ for_route g
route_same f g proxy server = ap (λ x. or_else x (f Server)) proxy ∙ ap (λ x. or_else (g Proxy) x) server

abbrev go_with : Option Want → Option Want → Option Want → Option Want → Want → Want
go_with a b c d e = first_want a (first_want b (first_want c (first_want d e)))

go_with_same : (a a' b b' c c' d d' : Option Want) (e e' : Want) → a ≡ a' → b ≡ b' → c ≡ c' → d ≡ d' → e ≡ e' → go_with a b c d e ≡ go_with a' b' c' d' e'
go_with_same a a' b b' c c' d d' e e' p q r t u =
    ap (λ x. go_with x b c d e) p ∙ ap (λ x. go_with a' x c d e) q ∙ ap (λ x. go_with a' b' x d e) r ∙ ap (λ x. go_with a' b' c' x e) t ∙ ap (λ x. go_with a' b' c' d' x) u

-- the space of a choice is known
choice_space : (s : Setting) (past : List Event) (space terms : ℕ) (reply : BookReply) → IsTrue (choice_agrees s past space terms reply) → IsTrue (is_some (s.space_of space))
choice_space s past space terms (Url gift evicted) h = let k = may_hold_known s gift space terms h in subst (λ n. IsTrue (is_some (s.space_of n))) k.1 k.0.space
choice_space s past space terms (Cached gift) h = let k = may_hold_known s gift space terms h in subst (λ n. IsTrue (is_some (s.space_of n))) k.1 k.0.space
choice_space s past space terms Default h = (negotiate_known s space h).space
choice_space s past space terms (Lead prompt ordinal) h = (both_of (is_some (s.space_of space)) (not (prompt == 0) && not (list_any (settles prompt) past)) h).0
choice_space s past space terms _ h = h

module _ (s m : Setting) (more : KnowsMore s m) where
  space_same : (n : ℕ) → IsTrue (is_some (s.space_of n)) → s.space_of n ≡ m.space_of n
  space_same n known = same_some (s.space_of n) (m.space_of n) (more.space_of n) known

  terms_same : (n : ℕ) → IsTrue (is_some (s.terms_of n)) → s.terms_of n ≡ m.terms_of n
  terms_same n known = same_some (s.terms_of n) (m.terms_of n) (more.terms_of n) known

  identity_same : (gift : Gift) → IsTrue (is_some (s.identity_of gift)) → s.identity_of gift ≡ m.identity_of gift
  identity_same gift known = same_some (s.identity_of gift) (m.identity_of gift) (more.identity_of gift) known

  pub scheme_same : (n : ℕ) (scheme : Scheme) → IsTrue (is_some (s.space_of n)) → scheme_is s n scheme ≡ scheme_is (grown s m) n scheme
  scheme_same n scheme known = ap (λ o. scheme_is (record s { space_of = λ k. o }) n scheme) (space_same n known)

  target_same : (n : ℕ) (t : Target) → IsTrue (is_some (s.space_of n)) → target_is s n t ≡ target_is (grown s m) n t
  target_same n t known = ap (λ o. target_is (record s { space_of = λ k. o }) n t) (space_same n known)

  by_path_same : (n : ℕ) → IsTrue (is_some (s.space_of n)) → is_by_path s n ≡ is_by_path (grown s m) n
  by_path_same n known = ap (λ o. is_by_path (record s { space_of = λ k. o }) n) (space_same n known)

  -- WHAT IS HELD

  if_target_same : (t : Target) (n : ℕ) (x y : Option Held) → IsTrue (is_some (s.space_of n)) → if_target s t n x y ≡ if_target (grown s m) t n x y
  if_target_same t n x y known = ap (λ b. if b then x else y) (target_same n t known)

  answered_same : (t : Target) (space text terms p : ℕ) (reply : BookReply) (before : Option Held) → IsTrue (fits (Answer p text terms) reply) → IsTrue (answer_agrees s space text terms reply)
      → held_prompted s t terms reply before ≡ held_prompted (grown s m) t terms reply before
  answered_same t space text terms p (Given gift evicted) before f h =
      if_target_same t gift.space (gift_held gift terms None) before (may_hold_known s gift space terms (both_of (not (text == 0)) (may_hold s gift space terms) h).1).0.space
  answered_same t space text terms p (Gave gift) before f h = absurd (false≢true f)
  answered_same t space text terms p _ before f h = refl

  taken_same : (t : Target) (space terms p : ℕ) (reply : BookReply) (before : Option Held) → IsTrue (fits (Take p) reply) → IsTrue (take_agrees s space terms reply)
      → held_prompted s t terms reply before ≡ held_prompted (grown s m) t terms reply before
  taken_same t space terms p (Gave gift) before f h = if_target_same t gift.space (gift_held gift terms None) before (may_hold_known s gift space terms h).0.space
  taken_same t space terms p (Given gift evicted) before f h = absurd (false≢true f)
  taken_same t space terms p _ before f h = refl

  called_same : (t : Target) (past : List Event) (call : Call) (reply : BookReply) (before : Option Held) → IsTrue (suits s past call reply)
      → held_called s t past call reply before ≡ held_called (grown s m) t past call reply before
  called_same t past (Select space terms) reply before h =
      if_target_same t space (held_selected space terms reply before) before (choice_space s past space terms reply (both_of (fits (Select space terms) reply) (choice_agrees s past space terms reply) h).1)
  called_same t past (Reject space ordinal) reply before h =
      if_target_same t space None before (both_of (is_some (s.space_of space)) (not (ordinal == 0 && is_removed reply)) (both_of (fits (Reject space ordinal) reply) (agrees s past (Reject space ordinal) reply) h).1).0
  called_same t past (Renew gift terms) reply before h =
      let known = both_of (knows_gift s gift) (knows_terms s gift.space terms) (both_of (fits (Renew gift terms) reply) (agrees s past (Renew gift terms) reply) h).1 in
      if_target_same t gift.space (gift_held gift terms None) before (both_of (is_some (s.space_of gift.space)) (is_some (s.identity_of gift)) known.0).0
  called_same t past (Answer prompt text terms) reply before h =
      let parts = both_of (fits (Answer prompt text terms) reply) (agrees s past (Answer prompt text terms) reply) h in
      answered_same t (space_prompted past prompt) text terms prompt reply before parts.0 parts.1
  called_same t past (Take prompt) reply before h =
      let parts = both_of (fits (Take prompt) reply) (agrees s past (Take prompt) reply) h in
      taken_same t (space_prompted past prompt) (terms_followed past prompt) prompt reply before parts.0 parts.1
  called_same t past _ reply before h = refl

  pub decision_same : (reply : Reply) (t : Target) (h : Held) → IsTrue (is_some (s.space_of h.gift.space)) → deciding s reply t h ≡ deciding (grown s m) reply t h
  decision_same reply t h known = ap (λ o. deciding (record s { space_of = λ k. o }) reply t h) (space_same h.gift.space known)

  then_same : {A : Type 0} (f g : Held → Option A) → ((h : Held) → IsKnown s h.gift h.terms → f h ≡ g h) → (o : Option Held) → Knows s o → option_and_then f o ≡ option_and_then g o
  then_same f g same None k = refl
  then_same f g same (Some h) k = same h k

  pub same_held : (past : List Event) → IsPast s past → (t : Target) → held s past t ≡ held (grown s m) past t
  same_held [] run t = refl
  same_held (Called call reply ∷ past) run t =
      called_same t past call reply (held s past t) (suits_of s past (want s past) call reply run.1) ∙ ap (held_called (grown s m) t past call reply) (same_held past run.0 t)
  same_held (Drew target nonce count epoch ∷ past) run t = ap (λ o. if same_target target t then option_and_then (held_drew epoch) o else o) (same_held past run.0 t)
  same_held (Stepped target step ∷ past) run t = ap (λ o. if same_target target t then option_and_then (held_stepped step) o else o) (same_held past run.0 t)
  same_held (Headed link bytes ∷ past) run t = ap (option_map (held_headed link)) (same_held past run.0 t)
  same_held (Replied link reply ∷ past) run t =
      then_same (held_replied s t reply) (held_replied (grown s m) t reply)
      (λ h k. ap (λ d. if challenges_target s reply t && is_none d then None else Some h) (decision_same reply t h k.space)) (held s past t) (known_held s past run.0 t)
      ∙ ap (option_and_then (held_replied (grown s m) t reply)) (same_held past run.0 t)
  same_held (LinkLost link ∷ past) run t = ap (option_map held_lost) (same_held past run.0 t)
  same_held (_ ∷ past) run t = same_held past run.0 t

  -- what is held gives the same
  held_gives : {A : Type 0} (f g : Held → Option A) → ((h : Held) → IsKnown s h.gift h.terms → f h ≡ g h) → (past : List Event) → IsPast s past → (t : Target)
      → option_and_then f (held s past t) ≡ option_and_then g (held (grown s m) past t)
  held_gives f g same past run t = then_same f g same (held s past t) (known_held s past run t) ∙ ap (option_and_then g) (same_held past run t)

  -- ON TO THE NEXT HEAD

  same_bound : (past : List Event) → IsPast s past → bound s past ≡ bound (grown s m) past
  same_bound past run =
      route_same (λ t. option_and_then (λ (c : Context). c.link) (context_of (held s past t))) (λ t. option_and_then (λ (c : Context). c.link) (context_of (held (grown s m) past t)))
      (ap (λ o. option_and_then (λ (c : Context). c.link) (context_of o)) (same_held past run Proxy)) (ap (λ o. option_and_then (λ (c : Context). c.link) (context_of o)) (same_held past run Server))

  same_keeps : (past : List Event) → IsPast s past → keeps s past ≡ keeps (grown s m) past
  same_keeps past run =
      ap (λ o. is_some o || is_some (for_route (λ t. option_and_then unsent (context_of (held s past t))))) (same_bound past run)
      ∙ ap (λ o. is_some (bound (grown s m) past) || is_some o)
      (route_same (λ t. option_and_then unsent (context_of (held s past t))) (λ t. option_and_then unsent (context_of (held (grown s m) past t)))
      (ap (λ o. option_and_then unsent (context_of o)) (same_held past run Proxy)) (ap (λ o. option_and_then unsent (context_of o)) (same_held past run Server)))

  identity_held_same : (h : Held) → IsKnown s h.gift h.terms → identity_held s h ≡ identity_held (grown s m) h
  identity_held_same h k =
      elim k.identity [
        | inl none ↦ ap (λ n. if n == 0 then None else s.identity_of h.gift) none.0 ∙ sym (ap (λ n. if n == 0 then None else m.identity_of h.gift) none.0)
        | inr known ↦ ap (λ o. if h.gift.ordinal == 0 then None else o) (identity_same h.gift known)
      ]

  -- the identity of what isn't Negotiate is known
  identity_if : (h : Held) → IsKnown s h.gift h.terms → scheme_is s h.gift.space Negotiate ≡ false → s.identity_of h.gift ≡ m.identity_of h.gift
  identity_if h k other = elim k.identity [ inl none ↦ absurd (false≢true (sym other ∙ none.1)) | inr known ↦ identity_same h.gift known ]

  terms_if : (h : Held) → IsKnown s h.gift h.terms → scheme_is s h.gift.space Digest ≡ true → s.terms_of h.terms ≡ m.terms_of h.terms
  terms_if h k digest = terms_same h.terms (subst (λ b. IsTrue (if b then is_some (s.terms_of h.terms) else true)) digest k.terms_known)

  abbrev field_by : List Event → Target → Held → Bool → Bool → Option TermsName → Option Login → Option (List ℕ)
  field_by past t h negotiate digest name login =
      if negotiate then option_map negotiate_credentials (option_and_then unsent h.context)
      else (if digest then option_and_then (λ n. option_map (digest_field s past t n.terms) login) name else option_map credentials login)

  pub field_same : (past : List Event) (t : Target) (h : Held) → IsKnown s h.gift h.terms → field_of s past t h ≡ field_of (grown s m) past t h
  field_same past t h k =
      by (scheme_is s h.gift.space Negotiate) (scheme_is s h.gift.space Digest) refl refl
      ∙ ap (λ b. field_by past t h b (scheme_is s h.gift.space Digest) (m.terms_of h.terms) (m.identity_of h.gift)) (scheme_same h.gift.space Negotiate k.space)
      ∙ ap (λ b. field_by past t h (scheme_is (grown s m) h.gift.space Negotiate) b (m.terms_of h.terms) (m.identity_of h.gift)) (scheme_same h.gift.space Digest k.space)
    where
      by : (negotiate digest : Bool) → scheme_is s h.gift.space Negotiate ≡ negotiate → scheme_is s h.gift.space Digest ≡ digest
          → field_by past t h negotiate digest (s.terms_of h.terms) (s.identity_of h.gift) ≡ field_by past t h negotiate digest (m.terms_of h.terms) (m.identity_of h.gift)
      by true digest n d = refl
      by false true n d =
          ap (λ o. field_by past t h false true o (s.identity_of h.gift)) (terms_if h k d) ∙ ap (λ o. field_by past t h false true (m.terms_of h.terms) o) (identity_if h k n)
      by false false n d = ap (λ o. field_by past t h false false None o) (identity_if h k n)

  same_field : (past : List Event) → IsPast s past → (t : Target) → field s past t ≡ field (grown s m) past t
  same_field past run t = held_gives (field_of s past t) (field_of (grown s m) past t) (field_same past t) past run t

  start_same : (t : Target) (h : Held) → IsKnown s h.gift h.terms → start_for s t h ≡ start_for (grown s m) t h
  start_same t h k =
      ap (λ b. if b && is_none h.context then Some (Steps t (Start (spn s t) (identity_held s h))) else None) (scheme_same h.gift.space Negotiate k.space)
      ∙ ap (λ o. if scheme_is (grown s m) h.gift.space Negotiate && is_none h.context then Some (Steps t (Start (spn s t) o)) else None) (identity_held_same h k)

  abbrev draw_by : List Event → Target → Bool → Option TermsName → Option Want
  draw_by past t digest name =
      if digest && is_none (drawn past t) then option_and_then (λ n. if has_count n.terms.qop then Some (Draws t n.nonce) else None) name else None

  draw_same : (past : List Event) (t : Target) (h : Held) → IsKnown s h.gift h.terms → draw_for s past t h ≡ draw_for (grown s m) past t h
  draw_same past t h k =
      by (scheme_is s h.gift.space Digest) refl ∙ ap (λ b. draw_by past t b (m.terms_of h.terms)) (scheme_same h.gift.space Digest k.space)
    where
      by : (digest : Bool) → scheme_is s h.gift.space Digest ≡ digest → draw_by past t digest (s.terms_of h.terms) ≡ draw_by past t digest (m.terms_of h.terms)
      by true d = ap (draw_by past t true) (terms_if h k d)
      by false d = refl

  same_head : (past : List Event) → IsPast s past → head_text s past ≡ head_text (grown s m) past
  same_head past run =
      ap (λ f. head s.request.method (uri s) s.request.place.origin f (field s past Server) (keeps s past)) (same_field past run Proxy)
      ∙ ap (λ f. head s.request.method (uri s) s.request.place.origin (field (grown s m) past Proxy) f (keeps s past)) (same_field past run Server)
      ∙ ap (λ b. head s.request.method (uri s) s.request.place.origin (field (grown s m) past Proxy) (field (grown s m) past Server) b) (same_keeps past run)

  pub same_go : (past : List Event) → IsPast s past → go s past ≡ go (grown s m) past
  same_go past run =
      go_with_same
      (for_route (λ t. option_and_then (start_for s t) (held s past t))) (for_route (λ t. option_and_then (start_for (grown s m) t) (held (grown s m) past t)))
      (option_and_then (loss_for past) (bound s past)) (option_and_then (loss_for past) (bound (grown s m) past))
      (dial_for s past) (dial_for (grown s m) past)
      (for_route (λ t. option_and_then (draw_for s past t) (held s past t))) (for_route (λ t. option_and_then (draw_for (grown s m) past t) (held (grown s m) past t)))
      (Writes (head_link s past) (head_text s past)) (Writes (head_link (grown s m) past) (head_text (grown s m) past))
      (route_same (λ t. option_and_then (start_for s t) (held s past t)) (λ t. option_and_then (start_for (grown s m) t) (held (grown s m) past t))
      (held_gives (start_for s Proxy) (start_for (grown s m) Proxy) (start_same Proxy) past run Proxy) (held_gives (start_for s Server) (start_for (grown s m) Server) (start_same Server) past run Server))
      (ap (option_and_then (loss_for past)) (same_bound past run))
      (ap (λ o. if is_none o && not (has_link past) then Some (Dials (links past + 1)) else None) (same_bound past run))
      (route_same (λ t. option_and_then (draw_for s past t) (held s past t)) (λ t. option_and_then (draw_for (grown s m) past t) (held (grown s m) past t))
      (held_gives (draw_for s past Proxy) (draw_for (grown s m) past Proxy) (draw_same past Proxy) past run Proxy) (held_gives (draw_for s past Server) (draw_for (grown s m) past Server) (draw_same past Server) past run Server))
      (ap (λ o. Writes (unwrap_or o (links past)) (head_text s past)) (same_bound past run) ∙ ap (Writes (head_link (grown s m) past)) (same_head past run))

  -- THE TABLE: either nothing may follow, or the same

  abbrev Same : Move → Move → Type 0
  Same a b = (a ≡ Goes Rests) ⊎ (a ≡ b)

  -- by what is there or isn't
  known_same : {A : Type 0} (o p : Option A) (f g : A → Move) → ((a : A) → o ≡ Some a → p ≡ Some a) → ((a : A) → Same (f a) (g a)) → Same (known o f) (known p g)
  known_same None p f g grows same = inl refl
  known_same (Some a) p f g grows same =
      elim (same a) [ inl none ↦ inl none | inr equal ↦ inr (equal ∙ ap (λ o. known o g) (sym (grows a refl))) ]

  terms_grow : (space : ℕ) (offered : Option Terms) (n : ℕ) → terms_offered s space offered ≡ Some n → terms_offered (grown s m) space offered ≡ Some n
  terms_grow space None n found = found
  terms_grow space (Some terms) n found = more.terms_no space terms n found

  space_grow : (t : Target) (offered : Offer) (n : ℕ) → space_offered s t offered ≡ Some n → space_offered (grown s m) t offered ≡ Some n
  space_grow t offered n found = at (site s.request t) found
    where
      at : (o : Option Site) → option_and_then (λ place. s.space_no (space_at place offered)) o ≡ Some n → option_and_then (λ place. m.space_no (space_at place offered)) o ≡ Some n
      at None found = let clash : None ≡ Some n = found in cc
      at (Some place) found = more.space_no (space_at place offered) n found

  choose_same : (status : ℕ) (t : Target) (o : Option Offer) → Same (choose s status t o) (choose (grown s m) status t o)
  choose_same status t None = inr refl
  choose_same status t (Some offered) =
      known_same (space_offered s t offered) (space_offered (grown s m) t offered)
      (λ space. known (terms_offered s space offered.terms) (λ terms. Goes (Calls (Select space terms))))
      (λ space. known (terms_offered (grown s m) space offered.terms) (λ terms. Goes (Calls (Select space terms))))
      (space_grow t offered)
      (λ space. known_same (terms_offered s space offered.terms) (terms_offered (grown s m) space offered.terms) (λ terms. Goes (Calls (Select space terms))) (λ terms. Goes (Calls (Select space terms)))
      (terms_grow space offered.terms) (λ terms. inr refl))

  select_same : (past : List Event) → Same (select s past) (select (grown s m) past)
  select_same past =
      known_same (last_reply past) (last_reply past)
      (λ reply. known (challenged s reply) (λ t. choose s reply.code t (best (supported (negotiates s past t) reply))))
      (λ reply. known (challenged (grown s m) reply) (λ t. choose (grown s m) reply.code t (best (supported (negotiates (grown s m) past t) reply))))
      (λ reply found. found)
      (λ reply. known_same (challenged s reply) (challenged s reply)
      (λ t. choose s reply.code t (best (supported (negotiates s past t) reply)))
      (λ t. choose (grown s m) reply.code t (best (supported (negotiates s past t) reply)))
      (λ t found. found) (λ t. choose_same reply.code t (best (supported (negotiates s past t) reply))))

  renewed_same : (h : Held) (stale : Bool) (offered : Option Terms) → Same (renewed s h stale offered) (renewed (grown s m) h stale offered)
  renewed_same h true (Some terms) =
      known_same (s.terms_no h.gift.space terms) (m.terms_no h.gift.space terms) (λ number. Goes (Calls (Renew h.gift number))) (λ number. Goes (Calls (Renew h.gift number)))
      (more.terms_no h.gift.space terms) (λ number. inr refl)
  renewed_same h true None = inr refl
  renewed_same h false offered = inr refl

  decided_same : (past : List Event) (link : ℕ) (stays : Bool) (t : Target) (h : Held) (d : Option Decision) → Same (decided s past link stays t h d) (decided (grown s m) past link stays t h d)
  decided_same past link stays t h None = select_same past
  decided_same past link stays t h (Some (Negotiating peer)) = inr refl
  decided_same past link stays t h (Some (Offering offered)) = renewed_same h offered.stale offered.terms

  same_with : (a b c : Move) → Same a b → b ≡ c → Same a c
  same_with a b c (inl none) e = inl none
  same_with a b c (inr equal) e = inr (equal ∙ e)

  weighed_same : (past : List Event) (link : ℕ) (reply : Reply) (t : Target) (o : Option Held) → Knows s o → Same (weighed s past link reply t o) (weighed (grown s m) past link reply t o)
  weighed_same past link reply t None k = select_same past
  weighed_same past link reply t (Some h) k =
      same_with (decided s past link reply.stays t h (deciding s reply t h)) (decided (grown s m) past link reply.stays t h (deciding s reply t h)) (decided (grown s m) past link reply.stays t h (deciding (grown s m) reply t h))
      (decided_same past link reply.stays t h (deciding s reply t h)) (ap (decided (grown s m) past link reply.stays t h) (decision_same reply t h k.space))

  -- ROUNDS

  same_round : (past : List Event) → IsPast s past → (event : Event) → is_round s past event ≡ is_round (grown s m) past event
  same_round past run (Stepped target NoMechanism) = ap (λ o. is_some (option_and_then (λ (h : Held). h.context) o)) (same_held past run target)
  same_round past run (Stepped target StepRefused) = refl
  same_round past run (Stepped target Done) = refl
  same_round past run (Stepped target (Token token)) = refl
  same_round past run (Stepped target (StepFailed count)) = refl
  same_round past run (Stepped target StepNoMemory) = refl
  same_round past run (Replied link reply) = refl
  same_round past run _ = refl

  pub same_rounds : (past : List Event) → IsPast s past → rounds s past ≡ rounds (grown s m) past
  same_rounds [] run = refl
  same_rounds (event ∷ past) run =
      ap (λ b. (if b then 1 else 0) + rounds s past) (same_round past run.0 event) ∙ ap (λ n. (if is_round (grown s m) past event then 1 else 0) + n) (same_rounds past run.0)

  pub same_last : (past : List Event) → IsPast s past → is_last_round s past ≡ is_last_round (grown s m) past
  same_last past run = ap (λ n. nat_le 17 n) (same_rounds past run)

  if_same : (b : Bool) (a x y : Move) → Same x y → Same (if b then a else x) (if b then a else y)
  if_same true a x y h = inr refl
  if_same false a x y h = h

  replied_same : (past : List Event) → IsPast s past → (link : ℕ) (reply : Reply) (t : Option Target) (before : List Event) → IsPast s before → Same (replied s past link reply t before) (replied (grown s m) past link reply t before)
  replied_same past run link reply None before earlier = inr refl
  replied_same past run link reply (Some t) before earlier =
      same_with (replied s past link reply (Some t) before)
      (if is_last_round s past then Closes (Refused reply.code Rounds) else weighed (grown s m) past link reply t (held (grown s m) before t)) (replied (grown s m) past link reply (Some t) before)
      (if_same (is_last_round s past) (Closes (Refused reply.code Rounds)) (weighed s past link reply t (held s before t)) (weighed (grown s m) past link reply t (held (grown s m) before t))
      (same_with (weighed s past link reply t (held s before t)) (weighed (grown s m) past link reply t (held s before t)) (weighed (grown s m) past link reply t (held (grown s m) before t))
      (weighed_same past link reply t (held s before t) (known_held s before earlier t)) (ap (weighed (grown s m) past link reply t) (same_held before earlier t))))
      (ap (λ b. if b then Closes (Refused reply.code Rounds) else weighed (grown s m) past link reply t (held (grown s m) before t)) (same_last past run))

  pub rejected_same : (past : List Event) → IsPast s past → (a b : Option Held) → a ≡ b → rejected s past a ≡ rejected (grown s m) past b
  rejected_same past run a b same = ap (λ x. if x then Closes (Refused (code past) Rounds) else known a rejects) (same_last past run) ∙ ap (rejected (grown s m) past) same

  stepped_same : (past : List Event) → IsPast s past → (step : StepSeen) (a b : Option Held) → a ≡ b → Same (stepped s past step a) (stepped (grown s m) past step b)
  stepped_same past run (Token token) a b same = inr (ap Goes (same_go past run))
  stepped_same past run (StepFailed count) a b same = inr refl
  stepped_same past run StepNoMemory a b same = inr refl
  stepped_same past run NoMechanism a b same =
      same_with (stepped s past NoMechanism a) (stepped (grown s m) past NoMechanism a) (stepped (grown s m) past NoMechanism b)
      (either_same (is_some (option_and_then (λ (h : Held). h.context) a)) (rejected s past a) (rejected (grown s m) past a) (select s past) (select (grown s m) past) (rejected_same past run a a refl) (select_same past))
      (ap (stepped (grown s m) past NoMechanism) same)
    where
      either_same : (c : Bool) (x y v w : Move) → x ≡ y → Same v w → Same (if c then x else v) (if c then y else w)
      either_same true x y v w p q = inr p
      either_same false x y v w p q = q
  stepped_same past run StepRefused a b same = inr (rejected_same past run a b same)
  stepped_same past run Done a b same = inr (rejected_same past run a b same)

  pub told_same : (past : List Event) → IsPast s past → (prompt : ℕ) (reply : BookReply) → told s past prompt reply ≡ told (grown s m) past prompt reply
  told_same past run prompt (Lead led ordinal) = refl
  told_same past run prompt (Follow followed) = refl
  told_same past run prompt Cancelled = refl
  told_same past run prompt (Lost loss) = refl
  told_same past run prompt _ = ap Goes (same_go past run)

  either : (b : Bool) (x y : Move) → Same x y → {v w : Want} → v ≡ w → Same (if b then x else Goes v) (if b then y else Goes w)
  either true x y p q = p
  either false x y p q = inr (ap Goes q)

  same_move : (past : List Event) → IsPast s past → Same (move s past) (move (grown s m) past)
  same_move [] run = inr refl
  same_move (Called Begin reply ∷ past) run = inr refl
  same_move (Called (Preempt Proxy) reply ∷ past) run = inr refl
  same_move (Called (Preempt Server) reply ∷ past) run = inr (ap Goes (same_go (Called (Preempt Server) reply ∷ past) run))
  same_move (Called (Preempt Socks) reply ∷ past) run = inr (ap Goes (same_go (Called (Preempt Socks) reply ∷ past) run))
  same_move (Called (Select space terms) reply ∷ past) run = inr (told_same (Called (Select space terms) reply ∷ past) run 0 reply)
  same_move (Called (Reject space ordinal) reply ∷ past) run = select_same (Called (Reject space ordinal) reply ∷ past)
  same_move (Called (Renew gift terms) reply ∷ past) run =
      either (is_answered s past) (move s past) (move (grown s m) past) (same_move past run.0) (same_go (Called (Renew gift terms) reply ∷ past) run)
  same_move (Called (Answer prompt text terms) reply ∷ past) run = inr (told_same (Called (Answer prompt text terms) reply ∷ past) run prompt reply)
  same_move (Called (Lose prompt loss) reply ∷ past) run = inr (told_same (Called (Lose prompt loss) reply ∷ past) run prompt reply)
  same_move (Called (Take prompt) reply ∷ past) run = inr (told_same (Called (Take prompt) reply ∷ past) run prompt reply)
  same_move (Called (Note gift) reply ∷ past) run = same_move past run.0
  same_move (Called End reply ∷ past) run = same_move past run.0
  same_move (Called (Draw nonce) reply ∷ past) run = inr refl
  same_move (AskedFor prompt seen ∷ past) run = inr refl
  same_move (Stepped target step ∷ past) run = stepped_same (Stepped target step ∷ past) run step (held s past target) (held (grown s m) past target) (same_held past run.0 target)
  same_move (Dialed link ∷ past) run = inr (ap Goes (same_go (Dialed link ∷ past) run))
  same_move (DialFailed link count ∷ past) run = inr refl
  same_move (Drew target nonce count epoch ∷ past) run = inr (ap Goes (same_go (Drew target nonce count epoch ∷ past) run))
  same_move (Headed link bytes ∷ past) run = inr refl
  same_move (WriteFailed link count ∷ past) run = inr refl
  same_move (ReadFailed link count ∷ past) run = inr refl
  same_move (Replied link reply ∷ past) run = replied_same (Replied link reply ∷ past) run link reply (challenged s reply) past run.0
  same_move (Broken link fault ∷ past) run = inr refl
  same_move (LinkLost link ∷ past) run =
      inr (ap (λ w. if list_any is_lost past then Closes (Refused (code past) BoundLost) else Goes w) (same_go (LinkLost link ∷ past) run))
  same_move (Ended outcome ∷ past) run = inr refl

  -- THE CALLS AT THE END

  pub same_carried : (past : List Event) → IsPast s past → (t : Target) → Knows s (carried s past t) × (carried s past t ≡ carried (grown s m) past t)
  same_carried [] run t = (tt, refl)
  same_carried (Headed link bytes ∷ past) run t = (known_held s past run.0 t, same_held past run.0 t)
  same_carried (_ ∷ past) run t = same_carried past run.0 t

  note_same : (past : List Event) (t : Target) (o : Option Held) → Knows s o → unwrap_or (option_map (note_of s past t) o) [] ≡ unwrap_or (option_map (note_of (grown s m) past t) o) []
  note_same past t None k = refl
  note_same past t (Some h) k = ap (λ b. if b && not (is_challenged s past t) then Note h.gift ∷ [] else []) (by_path_same h.gift.space k.space)

  note_for_same : (past : List Event) → IsPast s past → (t : Target) → note_for s past t ≡ note_for (grown s m) past t
  note_for_same past run t =
      let c = same_carried past run t in
      note_same past t (carried s past t) c.0 ∙ ap (λ o. unwrap_or (option_map (note_of (grown s m) past t) o) []) c.1

  both_notes : (past : List Event) → IsPast s past → note_for s past Proxy ++ note_for s past Server ≡ note_for (grown s m) past Proxy ++ note_for (grown s m) past Server
  both_notes past run = ap (λ n. n ++ note_for s past Server) (note_for_same past run Proxy) ∙ ap (λ n. note_for (grown s m) past Proxy ++ n) (note_for_same past run Server)

  pub same_notes : (past : List Event) → IsPast s past → (o : Outcome) → notes s past o ≡ notes (grown s m) past o
  same_notes past run (Answered status) = both_notes past run
  same_notes past run (Refused status why) = both_notes past run
  same_notes past run _ = refl

  renewal_same : (h : Held) (nonce : List ℕ) → (renewal s h nonce ≡ None) ⊎ (renewal s h nonce ≡ renewal (grown s m) h nonce)
  renewal_same h nonce = by_name (s.terms_of h.terms) refl
    where
      by_number : (name : TermsName) → s.terms_of h.terms ≡ Some name → (o : Option ℕ) → s.terms_no h.gift.space (with_nonce nonce name.terms) ≡ o → (renewal s h nonce ≡ None) ⊎ (renewal s h nonce ≡ renewal (grown s m) h nonce)
      by_number name e None k = inl (ap (option_and_then (λ (n : TermsName). option_map (Renew h.gift) (s.terms_no h.gift.space (with_nonce nonce n.terms)))) e ∙ ap (option_map (Renew h.gift)) k)
      by_number name e (Some number) k =
          inr
          (ap (option_and_then (λ (n : TermsName). option_map (Renew h.gift) (s.terms_no h.gift.space (with_nonce nonce n.terms)))) e ∙ ap (option_map (Renew h.gift)) k
          ∙ sym (ap (option_and_then (λ (n : TermsName). option_map (Renew h.gift) (m.terms_no h.gift.space (with_nonce nonce n.terms)))) (more.terms_of h.terms name e)
          ∙ ap (option_map (Renew h.gift)) (more.terms_no h.gift.space (with_nonce nonce name.terms) number k)))

      by_name : (o : Option TermsName) → s.terms_of h.terms ≡ o → (renewal s h nonce ≡ None) ⊎ (renewal s h nonce ≡ renewal (grown s m) h nonce)
      by_name None e = inl (ap (option_and_then (λ (n : TermsName). option_map (Renew h.gift) (s.terms_no h.gift.space (with_nonce nonce n.terms)))) e)
      by_name (Some name) e = by_number name e (s.terms_no h.gift.space (with_nonce nonce name.terms)) refl

  -- the same calls, but for those whose terms have a number only later
  abbrev AreSame : List (Option Call) → List (Option Call) → Type 0
  AreSame [] [] = Unit {0}
  AreSame (x ∷ xs) (y ∷ ys) = ((x ≡ None) ⊎ (x ≡ y)) × AreSame xs ys
  AreSame _ _ = ⊥

  are_same_refl : (xs : List (Option Call)) → AreSame xs xs
  are_same_refl [] = tt
  are_same_refl (x ∷ xs) = (inr refl, are_same_refl xs)

  are_same_append : (xs ys vs ws : List (Option Call)) → AreSame xs ys → AreSame vs ws → AreSame (xs ++ vs) (ys ++ ws)
  are_same_append [] [] vs ws p q = q
  are_same_append (x ∷ xs) (y ∷ ys) vs ws p q = (p.0, are_same_append xs ys vs ws p.1 q)
  are_same_append [] (y ∷ ys) vs ws p q = absurd p
  are_same_append (x ∷ xs) [] vs ws p q = absurd p

  are_same_if : (b : Bool) (xs ys : List (Option Call)) → AreSame xs ys → AreSame (if b then xs else []) (if b then ys else [])
  are_same_if true xs ys p = p
  are_same_if false xs ys p = tt

  are_same_drop : (n : ℕ) (xs ys : List (Option Call)) → AreSame xs ys → AreSame (drop n xs) (drop n ys)
  are_same_drop zero xs ys p = p
  are_same_drop (suc n) [] [] p = tt
  are_same_drop (suc n) (x ∷ xs) (y ∷ ys) p = are_same_drop n xs ys p.1
  are_same_drop (suc n) [] (y ∷ ys) p = absurd p
  are_same_drop (suc n) (x ∷ xs) [] p = absurd p

  renewal_of_same : (past : List Event) (t : Target) (o : Option Held) → Knows s o → AreSame (unwrap_or (option_map (renewal_of s past t) o) []) (unwrap_or (option_map (renewal_of (grown s m) past t) o) [])
  renewal_of_same past t None k = tt
  renewal_of_same past t (Some h) k =
      subst (λ b. AreSame (renewal_of s past t h) (if b then unwrap_or (option_map (λ nonce. renewal (grown s m) h nonce ∷ []) (next past t)) [] else [])) (scheme_same h.gift.space Digest k.space)
      (are_same_if (scheme_is s h.gift.space Digest) (unwrap_or (option_map (λ nonce. renewal s h nonce ∷ []) (next past t)) []) (unwrap_or (option_map (λ nonce. renewal (grown s m) h nonce ∷ []) (next past t)) []) (found (next past t)))
    where
      found : (o : Option (List ℕ)) → AreSame (unwrap_or (option_map (λ nonce. renewal s h nonce ∷ []) o) []) (unwrap_or (option_map (λ nonce. renewal (grown s m) h nonce ∷ []) o) [])
      found None = tt
      found (Some nonce) = (renewal_same h nonce, tt)

  renewal_for_same : (past : List Event) → IsPast s past → (t : Target) → AreSame (renewal_for s past t) (renewal_for (grown s m) past t)
  renewal_for_same past run t =
      let c = same_carried past run t in
      subst (λ o. AreSame (renewal_for s past t) (unwrap_or (option_map (renewal_of (grown s m) past t) o) [])) c.1 (renewal_of_same past t (carried s past t) c.0)

  renewals_same : (past : List Event) → IsPast s past → (o : Outcome) → AreSame (renewals s past o) (renewals (grown s m) past o)
  renewals_same past run (Answered status) =
      subst (λ n. AreSame (renewals s past (Answered status)) (if is_answered s past && nat_le n 14 then renewal_for (grown s m) past Proxy ++ renewal_for (grown s m) past Server else [])) (same_rounds past run)
      (are_same_if (is_answered s past && nat_le (rounds s past) 14) (renewal_for s past Proxy ++ renewal_for s past Server) (renewal_for (grown s m) past Proxy ++ renewal_for (grown s m) past Server)
      (are_same_append (renewal_for s past Proxy) (renewal_for (grown s m) past Proxy) (renewal_for s past Server) (renewal_for (grown s m) past Server) (renewal_for_same past run Proxy) (renewal_for_same past run Server)))
  renewals_same past run _ = tt

  closings_same : (past : List Event) → IsPast s past → (o : Outcome) → AreSame (closings s past o) (closings (grown s m) past o)
  closings_same past run o =
      are_same_append (renewals s past o) (renewals (grown s m) past o) (map Some (notes s past o ++ End ∷ [])) (map Some (notes (grown s m) past o ++ End ∷ [])) (renewals_same past run o)
      (subst (λ n. AreSame (map Some (notes s past o ++ End ∷ [])) (map Some (n ++ End ∷ []))) (same_notes past run o) (are_same_refl (map Some (notes s past o ++ End ∷ []))))

  pub same_made : (past : List Event) → closings_made s past ≡ closings_made (grown s m) past
  same_made [] = refl
  same_made (Called call reply ∷ past) = ap (λ b. (if b then 1 else 0) + closings_made s past) (same_closing past call) ∙ ap (λ n. (if is_closing (grown s m) past call then 1 else 0) + n) (same_made past)
    where
      same_closing : (q : List Event) (c : Call) → is_closing s q c ≡ is_closing (grown s m) q c
      same_closing q (Renew gift terms) = refl
      same_closing q (Note gift) = refl
      same_closing q End = refl
      same_closing q _ = refl
  same_made (_ ∷ past) = same_made past

  same_next : (o : Outcome) (xs ys : List (Option Call)) → AreSame xs ys → (next_closing o xs ≡ Rests) ⊎ (next_closing o xs ≡ next_closing o ys)
  same_next o [] [] p = inr refl
  same_next o (None ∷ xs) (y ∷ ys) p = inl refl
  same_next o (Some call ∷ xs) (y ∷ ys) (inl clash, q) = let none : Some call ≡ None = clash in cc
  same_next o (Some call ∷ xs) (y ∷ ys) (inr same, q) = inr (ap (λ x. next_closing o (x ∷ ys)) same)
  same_next o [] (y ∷ ys) p = absurd p
  same_next o (x ∷ xs) [] p = absurd p

  same_close : (past : List Event) → IsPast s past → (o : Outcome) → (close s past o ≡ Rests) ⊎ (close s past o ≡ close (grown s m) past o)
  same_close past run o =
      elim (same_next o (drop (closings_made s past) (closings s past o)) (drop (closings_made s past) (closings (grown s m) past o)) (are_same_drop (closings_made s past) (closings s past o) (closings (grown s m) past o) (closings_same past run o))) [
        | inl none ↦ inl none
        | inr equal ↦ inr (equal ∙ ap (λ n. next_closing o (drop n (closings (grown s m) past o))) (same_made past))
      ]

  -- TRACES

  same_out : (past : List Event) → IsPast s past → (a : Move) → (carried_out s past a ≡ Rests) ⊎ (carried_out s past a ≡ carried_out (grown s m) past a)
  same_out past run (Goes w) = inr refl
  same_out past run (Closes o) = same_close past run o

  same_want : (past : List Event) → IsPast s past → (want s past ≡ Rests) ⊎ (want s past ≡ want (grown s m) past)
  same_want past run =
      elim (same_move past run) [
        | inl none ↦ inl (ap (carried_out s past) none)
        | inr equal ↦ onward (same_out past run (move s past)) (ap (carried_out (grown s m) past) equal)
      ]
    where
      onward : (want s past ≡ Rests) ⊎ (want s past ≡ carried_out (grown s m) past (move s past)) → carried_out (grown s m) past (move s past) ≡ want (grown s m) past → (want s past ≡ Rests) ⊎ (want s past ≡ want (grown s m) past)
      onward (inl none) e = inl none
      onward (inr equal) e = inr (equal ∙ e)

  -- what suits, suits where more is known

  some_more : {A : Type 0} (o p : Option A) → ((a : A) → o ≡ Some a → p ≡ Some a) → IsTrue (is_some o) → IsTrue (is_some p)
  some_more None p grows known = absurd (false≢true known)
  some_more (Some a) p grows known = ap is_some (grows a refl)

  join : (a b : Bool) → IsTrue a → IsTrue b → IsTrue (a && b)
  join a b p q = ap (λ x. x && b) p ∙ q

  gift_more : (gift : Gift) → IsTrue (knows_gift s gift) → IsTrue (knows_gift (grown s m) gift)
  gift_more gift h =
      let parts = both_of (is_some (s.space_of gift.space)) (is_some (s.identity_of gift)) h in
      join (is_some (m.space_of gift.space)) (is_some (m.identity_of gift)) (some_more (s.space_of gift.space) (m.space_of gift.space) (more.space_of gift.space) parts.0)
      (some_more (s.identity_of gift) (m.identity_of gift) (more.identity_of gift) parts.1)

  terms_more : (space terms : ℕ) → IsTrue (is_some (s.space_of space)) → IsTrue (knows_terms s space terms) → IsTrue (knows_terms (grown s m) space terms)
  terms_more space terms known h =
      subst (λ b. IsTrue (if b then is_some (m.terms_of terms) else true)) (scheme_same space Digest known) (by (scheme_is s space Digest) h)
    where
      by : (b : Bool) → IsTrue (if b then is_some (s.terms_of terms) else true) → IsTrue (if b then is_some (m.terms_of terms) else true)
      by true t = some_more (s.terms_of terms) (m.terms_of terms) (more.terms_of terms) t
      by false t = t

  hold_more : (gift : Gift) (space terms : ℕ) → IsTrue (may_hold s gift space terms) → IsTrue (may_hold (grown s m) gift space terms)
  hold_more gift space terms h =
      let k = may_hold_known s gift space terms h in
      let first = both_of (gift.space == space && knows_gift s gift) (knows_terms s space terms) h in
      let second = both_of (gift.space == space) (knows_gift s gift) first.0 in
      join (gift.space == space && knows_gift (grown s m) gift) (knows_terms (grown s m) space terms)
      (join (gift.space == space) (knows_gift (grown s m) gift) second.0 (gift_more gift second.1))
      (terms_more space terms (subst (λ n. IsTrue (is_some (s.space_of n))) k.1 k.0.space) first.1)

  ready_more : (target : Target) (reply : BookReply) → IsTrue (ready_agrees s target reply) → IsTrue (ready_agrees (grown s m) target reply)
  ready_more target (Ready gift terms epoch) h =
      let parts = both_of (target_is s gift.space target && is_by_path s gift.space) (may_hold s gift gift.space terms) h in
      let tests = both_of (target_is s gift.space target) (is_by_path s gift.space) parts.0 in
      let space = (may_hold_known s gift gift.space terms parts.1).0.space in
      join (target_is (grown s m) gift.space target && is_by_path (grown s m) gift.space) (may_hold (grown s m) gift gift.space terms)
      (join (target_is (grown s m) gift.space target) (is_by_path (grown s m) gift.space) (sym (target_same gift.space target space) ∙ tests.0) (sym (by_path_same gift.space space) ∙ tests.1))
      (hold_more gift gift.space terms parts.1)
  ready_more target _ h = h

  choice_more : (past : List Event) (space terms : ℕ) (reply : BookReply) → IsTrue (choice_agrees s past space terms reply) → IsTrue (choice_agrees (grown s m) past space terms reply)
  choice_more past space terms (Url gift evicted) h = hold_more gift space terms h
  choice_more past space terms (Cached gift) h = hold_more gift space terms h
  choice_more past space terms Default h = sym (scheme_same space Negotiate (negotiate_known s space h).space) ∙ h
  choice_more past space terms (Lead prompt ordinal) h =
      let both = both_of (is_some (s.space_of space)) (not (prompt == 0) && not (list_any (settles prompt) past)) h in
      join (is_some (m.space_of space)) (not (prompt == 0) && not (list_any (settles prompt) past)) (some_more (s.space_of space) (m.space_of space) (more.space_of space) both.0) both.1
  choice_more past space terms _ h = some_more (s.space_of space) (m.space_of space) (more.space_of space) h

  answer_more : (space text terms : ℕ) (reply : BookReply) → IsTrue (answer_agrees s space text terms reply) → IsTrue (answer_agrees (grown s m) space text terms reply)
  answer_more space text terms (Given gift evicted) h =
      let parts = both_of (not (text == 0)) (may_hold s gift space terms) h in
      join (not (text == 0)) (may_hold (grown s m) gift space terms) parts.0 (hold_more gift space terms parts.1)
  answer_more space text terms _ h = h

  take_more : (space terms : ℕ) (reply : BookReply) → IsTrue (take_agrees s space terms reply) → IsTrue (take_agrees (grown s m) space terms reply)
  take_more space terms (Gave gift) h = hold_more gift space terms h
  take_more space terms _ h = h

  agrees_more : (past : List Event) (call : Call) (reply : BookReply) → IsTrue (agrees s past call reply) → IsTrue (agrees (grown s m) past call reply)
  agrees_more past (Preempt target) reply h = ready_more target reply h
  agrees_more past (Select space terms) reply h = choice_more past space terms reply h
  agrees_more past (Reject space ordinal) reply h =
      let parts = both_of (is_some (s.space_of space)) (not (ordinal == 0 && is_removed reply)) h in
      join (is_some (m.space_of space)) (not (ordinal == 0 && is_removed reply)) (some_more (s.space_of space) (m.space_of space) (more.space_of space) parts.0) parts.1
  agrees_more past (Renew gift terms) reply h =
      let parts = both_of (knows_gift s gift) (knows_terms s gift.space terms) h in
      let space = (both_of (is_some (s.space_of gift.space)) (is_some (s.identity_of gift)) parts.0).0 in
      join (knows_gift (grown s m) gift) (knows_terms (grown s m) gift.space terms) (gift_more gift parts.0) (terms_more gift.space terms space parts.1)
  agrees_more past (Answer prompt text terms) reply h = answer_more (space_prompted past prompt) text terms reply h
  agrees_more past (Take prompt) reply h = take_more (space_prompted past prompt) (terms_followed past prompt) reply h
  agrees_more past _ reply h = h

  suits_more : (past : List Event) (call : Call) (reply : BookReply) → IsTrue (suits s past call reply) → IsTrue (suits (grown s m) past call reply)
  suits_more past call reply h =
      let parts = both_of (fits call reply) (agrees s past call reply) h in join (fits call reply) (agrees (grown s m) past call reply) parts.0 (agrees_more past call reply parts.1)

  call_more : (past : List Event) (call : Call) (event : Event) → IsCall s past call event → IsCall (grown s m) past call event
  call_more past call (Called made reply) h = (h.0, suits_more past made reply h.1)
  call_more past call _ h = absurd h

  answer_event_more : (past : List Event) (p t : ℕ) (event : Event) → IsAnswer s past p t event → IsAnswer (grown s m) past p t event
  answer_event_more past p t (Called (Answer prompt text terms) reply) h = (h.0, h.1, h.2, suits_more past (Answer prompt text terms) reply h.3)
  answer_event_more past p t _ h = absurd h

  follows_more : (past : List Event) (w : Want) (event : Event) → Follows s past w event → Follows (grown s m) past w event
  follows_more past (Calls call) event h = call_more past call event h
  follows_more past (Answers prompt terms) event h = answer_event_more past prompt terms event h
  follows_more past (Asks prompt) event h = h
  follows_more past (Steps target asking) event h = h
  follows_more past (Dials link) event h = h
  follows_more past (Draws target nonce) event h = h
  follows_more past (Writes link bytes) event h = h
  follows_more past (Reads link) event h = h
  follows_more past (Loses link) event h = h
  follows_more past (Ends outcome) event h = h
  follows_more past Rests event h = h

  pub past_more : (past : List Event) → IsPast s past → IsPast (grown s m) past
  past_more [] run = tt
  past_more (event ∷ past) run = (past_more past run.0, at (same_want past run.0))
    where
      at : (want s past ≡ Rests) ⊎ (want s past ≡ want (grown s m) past) → Follows (grown s m) past (want (grown s m) past) event
      at (inl none) = absurd (subst (λ w. Follows s past w event) none run.1)
      at (inr equal) = follows_more past (want (grown s m) past) event (subst (λ w. Follows s past w event) equal run.1)

  cut_more : (past whole : List Event) → IsCutAt s past whole → IsCutAt (grown s m) past whole
  cut_more past whole c = record { is_past = past_more past c.is_past; may_cut = c.may_cut; cut = c.cut }

  -- a trace stays a trace
  pub trace_more : (events : List Event) → IsTrace s events → IsTrace (grown s m) events
  trace_more events (inl run) = inl (past_more (reverse events) run.0, run.1)
  trace_more events (inr cut) = inr (cut.0, cut_more cut.0 (reverse events) cut.1)
