-- Who is held for a target was asked for there, or was ready for the request's path.
use Rattle.std.proofs.Common.{◌≡◌, ◌⊎◌, inl, inr, ℕ, Bool, true, false, not, ◌&&◌, ◌||◌, ◌==◌, IsTrue, List, [], ◌∷◌, drop, find, Option, Some, None, is_some, is_none, option_and_then, option_map, unwrap_or, refl, sym, ap, ◌∙◌, subst, if◌then◌else◌}
use Rattle.std.specs.Prelude.{bytes_eq, codes, filter_map}
use Rattle.std.specs.List.{cons_option, list_any}
use Rattle.std.proofs.lemmas.Bool.{false≢true}
use Rattle.spaces.specs.declared.site.Site.{Site}
use Rattle.spaces.specs.declared.site.Target.{Target}
use Rattle.spaces.specs.declared.site.Target.TheVariants.{Server, Proxy, Socks}
use Rattle.spaces.specs.declared.space.Scheme.TheVariants.{Basic, Digest, Negotiate}
use Rattle.spaces.specs.ProtectionSpaces.{ProtectionSpace}
use Rattle.spaces.specs.Sites.{same_space, same_target, site}
use Rattle.challenge_tokens.specs.declared.challenge.Challenge.{Challenge}
use Rattle.digest_handler.specs.ChallengeTerms.{terms_read}
use Rattle.auth_events.specs.declared.journal.Gift.{Gift}
use Rattle.auth_events.specs.declared.journal.Call.{Call}
use Rattle.auth_events.specs.declared.journal.Call.TheVariants.{Preempt, Select, Reject, Renew, Answer, Take}
use Rattle.auth_events.specs.declared.journal.BookReply.{BookReply}
use Rattle.auth_events.specs.declared.journal.BookReply.TheVariants.{Ready, Url, Cached, Default, Lead, Follow, Given, Gave}
use Rattle.auth_events.specs.Book.{same_gift}
use Rattle.auth_events.proofs.Numbers.{both, or_left, or_right}
use Rattle.auth_events.proofs.Same.{number_refl, space_refl}
use Rattle.wire_head.specs.declared.reply.Reply.{Reply}
use Rattle.link_trait.specs.declared.steps.StepSeen.{StepSeen}
use Rattle.link_trait.specs.declared.steps.StepSeen.TheVariants.{NoMechanism, Token}
use Rattle.auth_runs.specs.declared.event.Event.{Event}
use Rattle.auth_runs.specs.declared.event.Event.TheVariants.{AskedFor, Called, Drew, Headed, LinkLost, Replied, Stepped}
use Rattle.trace_rule.specs.Settings.{IsNumbered, Setting, or_else, target_is}
use Rattle.trace_rule.specs.Challenges.{Offer, basic_offer, best, challenges, challenges_target, digest_offer, first_by, negotiate_offer, offer, realm_of, space_at, supported}
use Rattle.trace_rule.specs.Holding.{Held, carried, deciding, gift_held, held, held_called, held_drew, held_headed, held_lost, held_ready, held_replied, held_selected, held_stepped, last_reply, negotiates, terms_followed}
use Rattle.trace_rule.specs.Traces.{IsPast, agrees, may_hold, space_prompted}
use Rattle.trace_rule.proofs.Allowed.{not_that, site_target}
use Rattle.trace_rule.proofs.EndCalls.{IsFrom, made_from}
use Rattle.trace_rule.proofs.Knowing.{agrees_of, both_of, may_hold_known}
use Rattle.trace_rule.proofs.Negotiating.{IsAskedBehind, IsFollowBehind, chosen_from, equal_targets, prompted_from, taken_from}
use Rattle.trace_rule.proofs.Stages.{fits_of}
use Rattle.trace_rule.proofs.Reasons.{IsChoice, MadeBy, Reason, made_by, reason}
use Rattle.trace_rule.proofs.Reasons.MadeBy.{answers, at_end, wanted}
use Rattle.trace_rule.proofs.Reasons.Reason.{begins, cancels, is_rejected, is_renewed, loses, preempts, preempts_server, selects, takes}
use Rattle.trace_laws.specs.Homes.{asks_in, readies}
use Rattle.trace_laws.proofs.Targets.{IsTargeted, targeted}

-- OFFERS

found_any : (f p : Offer → Bool) (os : List Offer) (o : Offer) → find p os ≡ Some o → IsTrue (f o) → IsTrue (list_any f os)
found_any f p [] o e h = let clash : None ≡ Some o = e in cc
found_any f p (x ∷ os) o e h = at (p x) e (found_any f p os o)
  where
    offer_or : Option Offer → Offer
    offer_or None = x
    offer_or (Some y) = y

    at : (b : Bool) → (if b then Some x else find p os) ≡ Some o → (find p os ≡ Some o → IsTrue (f o) → IsTrue (list_any f os)) → IsTrue (f x || list_any f os)
    at true k later = or_left (f x) (list_any f os) (subst (λ y. IsTrue (f y)) (sym (ap offer_or k)) h)
    at false k later = or_right (f x) (list_any f os) (later k h)

best_any : (f : Offer → Bool) (os : List Offer) (o : Offer) → best os ≡ Some o → IsTrue (f o) → IsTrue (list_any f os)
best_any f os o e h = at (first_by Negotiate os) refl (first_by Digest os) refl e
  where
    at : (a : Option Offer) → first_by Negotiate os ≡ a → (b : Option Offer) → first_by Digest os ≡ b → or_else a (or_else b (first_by Basic os)) ≡ Some o → IsTrue (list_any f os)
    at (Some x) p b q k = found_any f _ os o (p ∙ k) h
    at None p (Some x) q k = found_any f _ os o (q ∙ k) h
    at None p None q k = found_any f _ os o k h

-- what is offered where `negotiate` challenges are passed over is offered where they aren't
same_offer : (b : Bool) (c : Challenge) → (offer b c ≡ None) ⊎ (offer b c ≡ offer true c)
same_offer true c = inr refl
same_offer false c = at (bytes_eq c.scheme (codes "basic")) (bytes_eq c.scheme (codes "digest")) (bytes_eq c.scheme (codes "negotiate"))
  where
    chosen : (x y z b : Bool) → Option Offer
    chosen x y z b = if x then option_map basic_offer (realm_of c.body) else (if y then digest_offer (terms_read c) else (if z && b then negotiate_offer c.body else None))

    at : (x y z : Bool) → (chosen x y z false ≡ None) ⊎ (chosen x y z false ≡ chosen x y z true)
    at true y z = inr refl
    at false true z = inr refl
    at false false true = inl refl
    at false false false = inl refl

any_cons : (f : Offer → Bool) (o : Option Offer) (os : List Offer) → IsTrue (list_any f os) → IsTrue (list_any f (cons_option o os))
any_cons f None os h = h
any_cons f (Some x) os h = or_right (f x) (list_any f os) h

supported_any : (f : Offer → Bool) (b : Bool) (cs : List Challenge) → IsTrue (list_any f (filter_map (offer b) cs)) → IsTrue (list_any f (filter_map (offer true) cs))
supported_any f b [] h = h
supported_any f b (c ∷ cs) h = at (same_offer b c) (supported_any f b cs)
  where
    rest : (o : Option Offer) → IsTrue (list_any f (cons_option o (filter_map (offer b) cs))) → (IsTrue (list_any f (filter_map (offer b) cs)) → IsTrue (list_any f (filter_map (offer true) cs))) → IsTrue (list_any f (cons_option o (filter_map (offer true) cs)))
    rest None k later = later k
    rest (Some x) k later = by (f x) k
      where
        by : (d : Bool) → IsTrue (d || list_any f (filter_map (offer b) cs)) → IsTrue (d || list_any f (filter_map (offer true) cs))
        by true k' = refl
        by false k' = later k'

    at : (offer b c ≡ None) ⊎ (offer b c ≡ offer true c) → (IsTrue (list_any f (filter_map (offer b) cs)) → IsTrue (list_any f (filter_map (offer true) cs))) → IsTrue (list_any f (cons_option (offer true c) (filter_map (offer true) cs)))
    at (inl none) later = any_cons f (offer true c) (filter_map (offer true) cs) (later (subst (λ o. IsTrue (list_any f (cons_option o (filter_map (offer b) cs)))) none h))
    at (inr same) later = subst (λ o. IsTrue (list_any f (cons_option o (filter_map (offer true) cs)))) same (rest (offer b c) h later)

-- the last reply stands in the past
reply_any : (test : Event → Bool) (past : List Event) (reply : Reply) → last_reply past ≡ Some reply → ((link : ℕ) → IsTrue (test (Replied link reply))) → IsTrue (list_any test past)
reply_any test [] reply e h = let clash : None ≡ Some reply = e in cc
reply_any test (Replied link r ∷ past) reply e h = or_left (test (Replied link r)) (list_any test past) (subst (λ x. IsTrue (test (Replied link x))) (sym (ap reply_or e)) (h link))
  where
    reply_or : Option Reply → Reply
    reply_or None = reply
    reply_or (Some x) = x
reply_any test (event ∷ past) reply e h = or_right (test event) (list_any test past) (reply_any test past reply e h)

same_self : (t : Target) → IsTrue (same_target t t)
same_self Server = refl
same_self Proxy = refl
same_self Socks = refl

-- WHO IS HELD

-- the book had the gift ready, or the target asked in its space
abbrev pub IsAsked : Setting → List Event → Target → Gift → Type 0
IsAsked s past t gift = (space : ProtectionSpace) → s.space_of gift.space ≡ Some space → IsTrue (list_any (readies t gift) past || list_any (asks_in s t space) past)

abbrev pub IsAskedIf : Setting → List Event → Target → Option Held → Type 0
IsAskedIf s past t None = Unit {0}
IsAskedIf s past t (Some h) = IsAsked s past t h.gift

asked_later : (s : Setting) (event : Event) (past : List Event) (t : Target) (gift : Gift) → IsAsked s past t gift → IsAsked s (event ∷ past) t gift
asked_later s event past t gift asked space e = at (readies t gift event) (asks_in s t space event) (list_any (readies t gift) past) (asked space e)
  where
    at : (a b c : Bool) → IsTrue (c || list_any (asks_in s t space) past) → IsTrue ((a || c) || (b || list_any (asks_in s t space) past))
    at true b c h = refl
    at false b true h = refl
    at false true false h = refl
    at false false false h = h

asked_if_later : (s : Setting) (event : Event) (past : List Event) (t : Target) (o : Option Held) → IsAskedIf s past t o → IsAskedIf s (event ∷ past) t o
asked_if_later s event past t None p = tt
asked_if_later s event past t (Some h) p = asked_later s event past t h.gift p

either_asked : (s : Setting) (past : List Event) (t : Target) (b : Bool) (x y : Option Held) → (IsTrue b → IsAskedIf s past t x) → IsAskedIf s past t y → IsAskedIf s past t (if b then x else y)
either_asked s past t true x y f p = f refl
either_asked s past t false x y f p = p

kept_asked : (s : Setting) (past : List Event) (t : Target) (f : Held → Option Held) → ((h : Held) → IsAskedIf s past t (Some h) → IsAskedIf s past t (f h)) → (o : Option Held) → IsAskedIf s past t o → IsAskedIf s past t (option_and_then f o)
kept_asked s past t f keeps None p = tt
kept_asked s past t f keeps (Some h) p = keeps h p

changed_asked : (s : Setting) (past : List Event) (t : Target) (f : Held → Held) → ((h : Held) → (f h).gift ≡ h.gift) → (o : Option Held) → IsAskedIf s past t o → IsAskedIf s past t (option_map f o)
changed_asked s past t f same None p = tt
changed_asked s past t f same (Some h) p = subst (IsAsked s past t) (sym (same h)) p

stepped_asked : (s : Setting) (past : List Event) (t : Target) (step : StepSeen) (h : Held) → IsAskedIf s past t (Some h) → IsAskedIf s past t (held_stepped step h)
stepped_asked s past t (Token token) h p = p
stepped_asked s past t NoMechanism h p = either_asked s past t (is_some h.context) (Some h) None (λ k. p) tt
stepped_asked s past t _ h p = p

abbrev is_renew : Call → Bool
is_renew (Renew gift terms) = true
is_renew _ = false

abbrev gift_in : Call → Gift
gift_in (Renew gift terms) = gift
gift_in _ = record { space = 0; ordinal = 0 }

module _ (s : Setting) (means : IsNumbered s) where
  -- a space that was chosen for a target is one in which it asked
  chosen_asked : (past : List Event) (space terms : ℕ) → IsChoice s past space terms → (t : Target) → IsTrue (target_is s space t) → (gift : Gift) → gift.space ≡ space → IsAsked s past t gift
  chosen_asked past space terms c t target gift same named e = or_right (list_any (readies t gift) past) (list_any (asks_in s t named) past) (at (site s.request c.target) refl c.is_space)
    where
      asks : (place : Site) → site s.request c.target ≡ Some place → s.space_of space ≡ Some (space_at place c.offered) → IsTrue (list_any (asks_in s t named) past)
      asks place at_site found =
          subst (λ x. IsTrue (list_any (asks_in s t x) past)) is_named (reply_any (asks_in s t (space_at place c.offered)) past c.reply c.last (λ link. both (challenges_target s c.reply t) (list_any test (supported true c.reply)) challenges_it offered_there))
        where
          space_or : Option ProtectionSpace → ProtectionSpace
          space_or None = named
          space_or (Some x) = x

          is_named : space_at place c.offered ≡ named
          is_named = ap space_or (sym found ∙ (ap s.space_of (sym same) ∙ e))

          test : Offer → Bool
          test offered = same_space (space_at place offered) (space_at place c.offered)

          offered_there : IsTrue (list_any test (supported true c.reply))
          offered_there =
              supported_any test (negotiates s past c.target) (challenges c.reply)
              (best_any test (supported (negotiates s past c.target) c.reply) c.offered c.is_best (space_refl (space_at place c.offered)))

          same_t : t ≡ c.target
          same_t =
              let k : IsTrue (same_target place.target t) = sym (ap (λ o. unwrap_or (option_map (λ (x : ProtectionSpace). same_target x.site.target t) o) false) found) ∙ target in
              sym (equal_targets place.target t k) ∙ site_target s.request c.target place at_site

          challenges_it : IsTrue (challenges_target s c.reply t)
          challenges_it = ap (λ o. unwrap_or (option_map (same_target t) o) false) c.of_target ∙ subst (λ x. IsTrue (same_target t x)) same_t (same_self t)

      at : (o : Option Site) → site s.request c.target ≡ o → option_and_then (λ place. s.space_no (space_at place c.offered)) o ≡ Some space → IsTrue (list_any (asks_in s t named) past)
      at None at_site k = let clash : None ≡ Some space = k in cc
      at (Some place) at_site k = asks place at_site (means (space_at place c.offered) space k)

  -- BY CALL

  asked_select : (past : List Event) (t : Target) (space terms : ℕ) (reply : BookReply) → IsPast s (Called (Select space terms) reply ∷ past) → IsTrue (agrees s past (Select space terms) reply) → IsTrue (target_is s space t)
      → IsAskedIf s (Called (Select space terms) reply ∷ past) t (held s past t) → IsAskedIf s (Called (Select space terms) reply ∷ past) t (held_selected space terms reply (held s past t))
  asked_select past t space terms (Url gift evicted) run a target p =
      asked_later s (Called (Select space terms) (Url gift evicted)) past t gift (chosen_asked past space terms (chosen_from s past space terms (Url gift evicted) run) t target gift (may_hold_known s gift space terms a).1)
  asked_select past t space terms (Cached gift) run a target p =
      asked_later s (Called (Select space terms) (Cached gift)) past t gift (chosen_asked past space terms (chosen_from s past space terms (Cached gift) run) t target gift (may_hold_known s gift space terms a).1)
  asked_select past t space terms Default run a target p =
      asked_later s (Called (Select space terms) Default) past t (record { space = space; ordinal = 0 })
      (chosen_asked past space terms (chosen_from s past space terms Default run) t target (record { space = space; ordinal = 0 }) refl)
  asked_select past t space terms _ run a target p = p

  asked_ready : (past : List Event) (t target : Target) (reply : BookReply) → IsTrue (same_target target t) → IsAskedIf s (Called (Preempt target) reply ∷ past) t (held s past t) → IsAskedIf s (Called (Preempt target) reply ∷ past) t (held_ready reply (held s past t))
  asked_ready past t target (Ready gift terms epoch) same p = λ space e.
      or_left (list_any (readies t gift) (Called (Preempt target) (Ready gift terms epoch) ∷ past)) (list_any (asks_in s t space) (Called (Preempt target) (Ready gift terms epoch) ∷ past))
      (or_left (same_target target t && same_gift gift gift) (list_any (readies t gift) past)
      (both (same_target target t) (same_gift gift gift) same (both (gift.space == gift.space) (gift.ordinal == gift.ordinal) (number_refl gift.space) (number_refl gift.ordinal))))
  asked_ready past t target _ same p = p

  -- a prompt's answer is of the space that was chosen
  asked_prompt : (past : List Event) (q text terms : ℕ) (t : Target) (gift : Gift) (evicted : ℕ) → IsPast s (Called (Answer q text terms) (Given gift evicted) ∷ past) → IsTrue (agrees s past (Answer q text terms) (Given gift evicted)) → IsTrue (target_is s gift.space t) → IsAsked s past t gift
  asked_prompt past q text terms t gift evicted run a target = at (prompted_from s past q text terms (Given gift evicted) run)
    where
      at : IsAskedBehind q past → IsAsked s past t gift
      at (seen, space, ts, o, b, e) =
          let choice = chosen_from s b space ts (Lead q o) (subst (IsPast s) e run.0).0 in
          let same : gift.space ≡ space = (may_hold_known s gift (space_prompted past q) terms (both_of (not (text == 0)) (may_hold s gift (space_prompted past q) terms) a).1).1 ∙ (ap (λ x. space_prompted x q) e ∙ ap (λ x. unwrap_or (if x then Some space else None) (space_prompted b q)) (number_refl q)) in
          subst (λ x. IsAsked s x t gift) (sym e)
          (asked_later s (AskedFor q seen) (Called (Select space ts) (Lead q o) ∷ b) t gift
          (asked_later s (Called (Select space ts) (Lead q o)) b t gift (chosen_asked b space ts choice t (subst (λ x. IsTrue (target_is s x t)) same target) gift same)))

  asked_take : (past : List Event) (q : ℕ) (t : Target) (gift : Gift) → IsPast s (Called (Take q) (Gave gift) ∷ past) → IsTrue (agrees s past (Take q) (Gave gift)) → IsTrue (target_is s gift.space t) → IsAsked s past t gift
  asked_take past q t gift run a target = at (taken_from s past q (Gave gift) run)
    where
      at : IsFollowBehind q past → IsAsked s past t gift
      at (space, ts, b, e) =
          let choice = chosen_from s b space ts (Follow q) (subst (IsPast s) e run.0) in
          let followed : space_prompted (Called (Select space ts) (Follow q) ∷ b) q ≡ space = ap (λ x. unwrap_or (if x then Some space else None) (space_prompted b q)) (number_refl q) in
          let same : gift.space ≡ space = (may_hold_known s gift (space_prompted past q) (terms_followed past q) a).1 ∙ (ap (λ x. space_prompted x q) e ∙ followed) in
          subst (λ x. IsAsked s x t gift) (sym e)
          (asked_later s (Called (Select space ts) (Follow q)) b t gift (chosen_asked b space ts choice t (subst (λ x. IsTrue (target_is s x t)) same target) gift same))

  -- what is known of a past: of what is held, of what was held before its last event, and of what the last head carried
  record AllAsked (past : List Event) : Type 0 where
    now : (t : Target) → IsAskedIf s past t (held s past t)
    before : (t : Target) (event : Event) (b : List Event) → past ≡ event ∷ b → IsAskedIf s b t (held s b t)
    on_head : (t : Target) → IsAskedIf s past t (carried s past t) × IsTargeted s t (carried s past t)

  -- what is renewed was held for that target
  asked_renew : (past : List Event) → AllAsked past → (gift : Gift) (terms : ℕ) (reply : BookReply) → IsPast s (Called (Renew gift terms) reply ∷ past) → (t : Target) → IsTrue (target_is s gift.space t) → IsAsked s past t gift
  asked_renew past all gift terms reply run t target = at (made_by s past (Renew gift terms) reply run.1)
    where
      target_of : Option ProtectionSpace → Target
      target_of None = Socks
      target_of (Some x) = x.site.target

      one_target : (space : ℕ) (u : Target) → IsTrue (target_is s space t) → IsTrue (target_is s space u) → u ≡ t
      one_target space u p q = by (s.space_of space) p q
        where
          by : (o : Option ProtectionSpace) → IsTrue (unwrap_or (option_map (λ x. same_target x.site.target t) o) false) → IsTrue (unwrap_or (option_map (λ x. same_target x.site.target u) o) false) → u ≡ t
          by None a b = absurd (false≢true a)
          by (Some x) a b = sym (equal_targets x.site.target u b) ∙ equal_targets x.site.target t a

      held_was : (b : List Event) (u : Target) (h : Held) → held s b u ≡ Some h → IsPast s b → IsAskedIf s b u (held s b u) → gift ≡ h.gift → IsAsked s b t gift
      held_was b u h e r asked same =
          let there : IsTrue (target_is s h.gift.space u) = subst (IsTargeted s u) e (targeted s b r u) in
          let same_t : u ≡ t = one_target h.gift.space u (subst (λ g. IsTrue (target_is s g.space t)) same target) there in
          subst (IsAsked s b t) (sym same) (subst (λ x. IsAsked s b x h.gift) same_t (subst (IsAskedIf s b u) e asked))

      by : Reason s past (Renew gift terms) → IsAsked s past t gift
      by (is_renewed link answer b u h offered ts number p q d o m e behind) =
          subst (λ x. IsAsked s x t gift) (sym p)
          (asked_later s (Replied link answer) b t gift (held_was b u h q (subst (IsPast s) p run.0).0 (all.before u (Replied link answer) b p) (ap gift_in e)))
      by (begins p e) = not_that is_renew (Renew gift terms) _ refl refl e
      by (preempts answer b p e) = not_that is_renew (Renew gift terms) _ refl refl e
      by (preempts_server answer b p e) = not_that is_renew (Renew gift terms) _ refl refl e
      by (selects space ts e c k) = not_that is_renew (Renew gift terms) (Select space ts) refl refl e
      by (is_rejected event b u h p q e behind) = not_that is_renew (Renew gift terms) (Reject h.gift.space h.gift.ordinal) refl refl e
      by (cancels p b q e) = not_that is_renew (Renew gift terms) _ refl refl e
      by (loses p seen loss b q e) = not_that is_renew (Renew gift terms) _ refl refl e
      by (takes made p b q e) = not_that is_renew (Renew gift terms) (Take p) refl refl e

      from : IsFrom s past (Renew gift terms) → IsAsked s past t gift
      from (u, h, ts, c, same, found, digest) =
          let there : IsTrue (target_is s h.gift.space u) = subst (IsTargeted s u) c (all.on_head u).1 in
          let same_t : u ≡ t = one_target h.gift.space u (subst (λ g. IsTrue (target_is s g.space t)) same target) there in
          subst (IsAsked s past t) (sym same) (subst (λ x. IsAsked s past x h.gift) same_t (subst (IsAskedIf s past u) c (all.on_head u).0))

      at : MadeBy s past (Renew gift terms) → IsAsked s past t gift
      at (wanted m) = by (reason s past run.0 (Renew gift terms) m)
      at (answers p x ts e m) = not_that is_renew (Renew gift terms) (Answer p x ts) refl refl e
      at (at_end o m k) = from (made_from s past o (Renew gift terms) reply m run.1)

  asked_called : (past : List Event) → AllAsked past → (t : Target) (call : Call) (reply : BookReply) → IsPast s (Called call reply ∷ past) → IsTrue (agrees s past call reply)
      → IsAskedIf s (Called call reply ∷ past) t (held s past t) → IsAskedIf s (Called call reply ∷ past) t (held_called s t past call reply (held s past t))
  asked_called past all t (Preempt target) reply run a p = either_asked s (Called (Preempt target) reply ∷ past) t (same_target target t) (held_ready reply (held s past t)) (held s past t) (λ k. asked_ready past t target reply k p) p
  asked_called past all t (Select space terms) reply run a p = either_asked s (Called (Select space terms) reply ∷ past) t (target_is s space t) (held_selected space terms reply (held s past t)) (held s past t) (λ k. asked_select past t space terms reply run a k p) p
  asked_called past all t (Reject space ordinal) reply run a p = either_asked s (Called (Reject space ordinal) reply ∷ past) t (target_is s space t) None (held s past t) (λ k. tt) p
  asked_called past all t (Renew gift terms) reply run a p =
      either_asked s (Called (Renew gift terms) reply ∷ past) t (target_is s gift.space t) (gift_held gift terms None) (held s past t) (λ k. asked_later s (Called (Renew gift terms) reply) past t gift (asked_renew past all gift terms reply run t k)) p
  asked_called past all t (Answer q text terms) (Given gift evicted) run a p =
      either_asked s (Called (Answer q text terms) (Given gift evicted) ∷ past) t (target_is s gift.space t) (gift_held gift terms None) (held s past t)
      (λ k. asked_later s (Called (Answer q text terms) (Given gift evicted)) past t gift (asked_prompt past q text terms t gift evicted run a k)) p
  asked_called past all t (Answer q text terms) (Gave gift) run a p = absurd (no_fit run)
    where
      no_fit : IsPast s (Called (Answer q text terms) (Gave gift) ∷ past) → ⊥
      no_fit r = false≢true (fits_of s past (Answer q text terms) (Gave gift) r.1)
  asked_called past all t (Answer q text terms) reply run a p = p
  asked_called past all t (Take q) (Gave gift) run a p =
      either_asked s (Called (Take q) (Gave gift) ∷ past) t (target_is s gift.space t) (gift_held gift (terms_followed past q) None) (held s past t)
      (λ k. asked_later s (Called (Take q) (Gave gift)) past t gift (asked_take past q t gift run a k)) p
  asked_called past all t (Take q) (Given gift evicted) run a p = absurd (false≢true (fits_of s past (Take q) (Given gift evicted) run.1))
  asked_called past all t (Take q) reply run a p = p
  asked_called past all t _ reply run a p = p

  asked_event : (event : Event) (past : List Event) → AllAsked past → IsPast s (event ∷ past) → (t : Target) → IsAskedIf s (event ∷ past) t (held s past t) → IsAskedIf s (event ∷ past) t (held s (event ∷ past) t)
  asked_event (Called call reply) past all run t p = asked_called past all t call reply run (agrees_of s past call reply run.1) p
  asked_event (Drew target nonce count epoch) past all run t p =
      either_asked s (Drew target nonce count epoch ∷ past) t (same_target target t) (option_and_then (held_drew epoch) (held s past t)) (held s past t)
      (λ k. kept_asked s (Drew target nonce count epoch ∷ past) t (held_drew epoch) (λ h q. either_asked s (Drew target nonce count epoch ∷ past) t (unwrap_or h.preemptive epoch == epoch) (Some h) None (λ b. q) tt) (held s past t) p) p
  asked_event (Stepped target step) past all run t p =
      either_asked s (Stepped target step ∷ past) t (same_target target t) (option_and_then (held_stepped step) (held s past t)) (held s past t)
      (λ k. kept_asked s (Stepped target step ∷ past) t (held_stepped step) (stepped_asked s (Stepped target step ∷ past) t step) (held s past t) p) p
  asked_event (Headed link bytes) past all run t p = changed_asked s (Headed link bytes ∷ past) t (held_headed link) (λ h. refl) (held s past t) p
  asked_event (Replied link reply) past all run t p =
      kept_asked s (Replied link reply ∷ past) t (held_replied s t reply) (λ h q. either_asked s (Replied link reply ∷ past) t (challenges_target s reply t && is_none (deciding s reply t h)) None (Some h) (λ b. tt) q) (held s past t) p
  asked_event (LinkLost link) past all run t p = changed_asked s (LinkLost link ∷ past) t held_lost (λ h. refl) (held s past t) p
  asked_event _ past all run t p = p

  asked_head : (event : Event) (past : List Event) → AllAsked past → IsPast s past → (t : Target) → IsAskedIf s (event ∷ past) t (carried s (event ∷ past) t) × IsTargeted s t (carried s (event ∷ past) t)
  asked_head (Headed link bytes) past all run t = (asked_if_later s (Headed link bytes) past t (held s past t) (all.now t), targeted s past run t)
  asked_head event past all run t = (asked_if_later s event past t (carried s past t) (all.on_head t).0, (all.on_head t).1)

  all_asked : (past : List Event) → IsPast s past → AllAsked past
  all_asked [] run = record { now = λ t. tt; before = λ t event b e. let clash : [] ≡ event ∷ b = e in cc; on_head = λ t. (tt, tt) }
  all_asked (event ∷ past) run =
      let earlier = all_asked past run.0 in
      record {
        now = λ t. asked_event event past earlier run t (asked_if_later s event past t (held s past t) (earlier.now t));
        before = λ t e b same. subst (λ x. IsAskedIf s x t (held s x t)) (ap (drop 1) same) (earlier.now t);
        on_head = asked_head event past earlier run.0;
      }

  pub asked_held : (past : List Event) → IsPast s past → (t : Target) → IsAskedIf s past t (held s past t)
  asked_held past run = (all_asked past run).now
