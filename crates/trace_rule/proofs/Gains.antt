-- A Negotiate identity is held for the first target of the route alone, and was chosen without terms.
use Rattle.std.proofs.Common.{◌≡◌, ◌⊎◌, inl, inr, ℕ, Bool, true, false, not, ◌&&◌, ◌||◌, ◌==◌, IsTrue, List, [], ◌∷◌, Option, Some, None, is_some, is_none, option_and_then, option_map, unwrap_or, refl, sym, ap, ◌∙◌, subst, if◌then◌else◌}
use Rattle.std.specs.Prelude.{find}
use Rattle.std.specs.List.{list_any}
use Rattle.challenge_tokens.specs.declared.challenge.Challenge.{Challenge}
use Rattle.std.proofs.lemmas.Bool.{false≢true, eq-eqb}
use Rattle.spaces.specs.declared.site.Site.{Site}
use Rattle.spaces.specs.declared.site.Target.{Target}
use Rattle.spaces.specs.declared.space.Scheme.{Scheme}
use Rattle.spaces.specs.declared.space.Scheme.TheVariants.{Basic, Digest, Negotiate, Password}
use Rattle.spaces.specs.ProtectionSpaces.{ProtectionSpace}
use Rattle.spaces.specs.Sites.{site, same_scheme, same_target, same_space}
use Rattle.auth_events.specs.declared.journal.Gift.{Gift}
use Rattle.auth_events.specs.declared.journal.Call.{Call}
use Rattle.auth_events.specs.declared.journal.Call.TheVariants.{Begin, Preempt, Select, Reject, Renew, Answer, Lose, Take}
use Rattle.auth_events.specs.declared.journal.BookReply.{BookReply}
use Rattle.auth_events.specs.declared.journal.BookReply.TheVariants.{Ready, Url, Cached, Default, Given, Gave, Lead, Follow}
use Rattle.auth_events.specs.Pages.{fits}
use Rattle.wire_head.specs.declared.reply.Reply.{Reply}
use Rattle.link_trait.specs.declared.steps.StepSeen.{StepSeen}
use Rattle.link_trait.specs.declared.steps.StepSeen.TheVariants.{Token, NoMechanism}
use Rattle.auth_runs.specs.declared.event.Event.{Event}
use Rattle.auth_runs.specs.declared.event.Event.TheVariants.{Called, Drew, Headed, Replied, LinkLost, AskedFor, Stepped}
use Rattle.trace_rule.specs.Settings.{Setting, first_target, scheme_is, target_is, is_by_path}
use Rattle.negotiate_handler.specs.Tokens.{token_in}
use Rattle.trace_rule.specs.Challenges.{Offer, challenges_target, supported, space_at, negotiate_challenge}
use Rattle.trace_rule.specs.Holding.{Held, Decision, held, held_called, held_ready, held_selected, held_prompted, held_drew, held_stepped, held_headed, held_replied, held_lost, gift_held, deciding, terms_followed, is_no_mechanism}
use Rattle.trace_rule.specs.Holding.Decision.{Negotiating, Offering}
use Rattle.trace_rule.specs.Settings.{IsNumbered}
use Rattle.trace_rule.specs.Traces.{IsPast, agrees, may_hold, ready_agrees, choice_agrees, answer_agrees, take_agrees, space_prompted}
use Rattle.trace_rule.proofs.Knowing.{both_of, agrees_of, may_hold_known}
use Rattle.trace_rule.proofs.Reasons.{Reason, reason, MadeBy, made_by}
use Rattle.trace_rule.proofs.Reasons.Reason.{begins, preempts, preempts_server, selects, is_rejected, is_renewed, cancels, loses, takes}
use Rattle.trace_rule.proofs.Reasons.MadeBy.{wanted, answers, at_end}
use Rattle.trace_rule.proofs.EndCalls.{IsFrom, made_from}
use Rattle.trace_rule.proofs.Stages.{fits_of}
use Rattle.trace_rule.proofs.Allowed.{not_that}
use Rattle.trace_rule.proofs.Negotiating.{negotiate_choice, negotiate_plain, chosen_from, IsAskedBehind, prompted_from, IsFollowBehind, taken_from}
use Rattle.trace_rule.proofs.Holdings.{or_true}

-- what is held is a Negotiate identity
abbrev pub negotiating : Setting → Option Held → Bool
negotiating s o = unwrap_or (option_map (λ (h : Held). scheme_is s h.gift.space Negotiate) o) false

-- SCHEMES

scheme_clash : (s : Setting) (space : ℕ) → IsTrue (scheme_is s space Negotiate) → IsTrue (is_by_path s space) → ⊥
scheme_clash s space n p = at (s.space_of space) n p
  where
    by : (scheme : Scheme) → IsTrue (same_scheme scheme Negotiate) → IsTrue (same_scheme scheme Basic || same_scheme scheme Digest) → ⊥
    by Negotiate n p = false≢true p
    by Basic n p = false≢true n
    by Digest n p = false≢true n
    by Password n p = false≢true n

    at : (o : Option ProtectionSpace) → IsTrue (unwrap_or (option_map (λ (named : ProtectionSpace). same_scheme named.scheme Negotiate) o) false)
        → IsTrue (unwrap_or (option_map (λ (named : ProtectionSpace). same_scheme named.scheme Basic) o) false || unwrap_or (option_map (λ (named : ProtectionSpace). same_scheme named.scheme Digest) o) false) → ⊥
    at None n p = false≢true n
    at (Some named) n p = by named.scheme n p

digest_clash : (s : Setting) (space : ℕ) → IsTrue (scheme_is s space Negotiate) → IsTrue (scheme_is s space Digest) → ⊥
digest_clash s space n d = scheme_clash s space n (at (scheme_is s space Basic) d)
  where
    at : (b : Bool) → IsTrue (scheme_is s space Digest) → IsTrue (b || scheme_is s space Digest)
    at true d = refl
    at false d = d

-- what is renewed is no Negotiate identity

abbrev is_renew : Call → Bool
is_renew (Renew gift terms) = true
is_renew _ = false

abbrev gift_in : Call → Gift
gift_in (Renew gift terms) = gift
gift_in _ = record { space = 0; ordinal = 0 }

offering_clash : (s : Setting) (reply : Reply) (t : Target) (h : Held) (offered : Offer) → deciding s reply t h ≡ Some (Offering offered) → IsTrue (scheme_is s h.gift.space Negotiate) → ⊥
offering_clash s reply t h offered d n = at (scheme_is s h.gift.space Negotiate) n d
  where
    is_offering : Option Decision → Bool
    is_offering (Some (Offering o)) = true
    is_offering _ = false

    none : (o : Option Challenge) → is_offering (option_map (λ challenge. Negotiating (token_in challenge.body)) o) ≡ false
    none None = refl
    none (Some c) = refl

    at : (b : Bool) → IsTrue b
        → (if b then option_map (λ challenge. Negotiating (token_in challenge.body)) (negotiate_challenge reply)
        else option_and_then (λ place. option_and_then (λ named. option_map Offering (find (λ offered. same_space (space_at place offered) named) (supported false reply))) (s.space_of h.gift.space)) (site s.request t)) ≡ Some (Offering offered) → ⊥
    at true n e = false≢true (sym (none (negotiate_challenge reply)) ∙ ap is_offering e)
    at false n e = false≢true n

-- a token of the peer decides on a Negotiate identity alone
pub negotiating_decides : (s : Setting) (reply : Reply) (t : Target) (h : Held) (peer : Option (List ℕ)) → deciding s reply t h ≡ Some (Negotiating peer) → IsTrue (scheme_is s h.gift.space Negotiate)
negotiating_decides s reply t h peer d = at (scheme_is s h.gift.space Negotiate) refl
  where
    is_negotiating : Option Decision → Bool
    is_negotiating (Some (Negotiating o)) = true
    is_negotiating _ = false

    offers : (o : Option Offer) → is_negotiating (option_map Offering o) ≡ false
    offers None = refl
    offers (Some x) = refl

    inner : (o : Option ProtectionSpace) (place : Site) → is_negotiating (option_and_then (λ named. option_map Offering (find (λ offered. same_space (space_at place offered) named) (supported false reply))) o) ≡ false
    inner None place = refl
    inner (Some named) place = offers (find (λ offered. same_space (space_at place offered) named) (supported false reply))

    outer : (o : Option Site) → is_negotiating (option_and_then (λ place. option_and_then (λ named. option_map Offering (find (λ offered. same_space (space_at place offered) named) (supported false reply))) (s.space_of h.gift.space)) o) ≡ false
    outer None = refl
    outer (Some place) = inner (s.space_of h.gift.space) place

    at : (b : Bool) → scheme_is s h.gift.space Negotiate ≡ b → scheme_is s h.gift.space Negotiate ≡ true
    at true e = e
    at false e =
        absurd
        (false≢true
        (sym (outer (site s.request t))
        ∙ (ap (λ b. is_negotiating (if b then option_map (λ challenge. Negotiating (token_in challenge.body)) (negotiate_challenge reply) else option_and_then (λ place. option_and_then (λ named. option_map Offering (find (λ offered. same_space (space_at place offered) named) (supported false reply))) (s.space_of h.gift.space)) (site s.request t))) (sym e)
        ∙ ap is_negotiating d)))

renewed_plain : (s : Setting) (past : List Event) (gift : Gift) (terms : ℕ) (reply : BookReply) → IsPast s (Called (Renew gift terms) reply ∷ past) → IsTrue (scheme_is s gift.space Negotiate) → ⊥
renewed_plain s past gift terms reply run n = at (made_by s past (Renew gift terms) reply run.1)
  where
    by : Reason s past (Renew gift terms) → ⊥
    by (is_renewed link r before t h offered ts number p k d o m e behind) = offering_clash s r t h offered d (subst (λ g. IsTrue (scheme_is s g.space Negotiate)) (ap gift_in e) n)
    by (begins p e) = not_that is_renew (Renew gift terms) Begin refl refl e
    by (preempts r before p e) = not_that is_renew (Renew gift terms) _ refl refl e
    by (preempts_server r before p e) = not_that is_renew (Renew gift terms) _ refl refl e
    by (selects sp ts e c k) = not_that is_renew (Renew gift terms) (Select sp ts) refl refl e
    by (is_rejected event before t h p k e behind) = not_that is_renew (Renew gift terms) (Reject h.gift.space h.gift.ordinal) refl refl e
    by (cancels p before k e) = not_that is_renew (Renew gift terms) _ refl refl e
    by (loses p seen loss before k e) = not_that is_renew (Renew gift terms) (Lose p loss) refl refl e
    by (takes made p before k e) = not_that is_renew (Renew gift terms) (Take p) refl refl e

    from : IsFrom s past (Renew gift terms) → ⊥
    from (t, h, ts, c, same, found, digest) = digest_clash s h.gift.space (subst (λ g. IsTrue (scheme_is s g.space Negotiate)) same n) digest

    at : MadeBy s past (Renew gift terms) → ⊥
    at (wanted m) = by (reason s past run.0 (Renew gift terms) m)
    at (answers p x t e m) = not_that is_renew (Renew gift terms) (Answer p x t) refl refl e
    at (at_end o m k) = from (made_from s past o (Renew gift terms) reply m run.1)

-- WHAT IS GAINED

-- the call chooses a space without terms
abbrev pub is_plain : Event → Bool
is_plain (Called (Select space terms) reply) = terms == 0
is_plain _ = false

-- what is a Negotiate identity was one before, or is chosen now, without terms
abbrev pub IsGained : Setting → Event → List Event → Target → Type 0
IsGained s event past t =
    IsTrue (negotiating s (held s past t))
    ⊎ (list_any is_no_mechanism past ≡ false) × (t ≡ first_target s) × IsTrue s.has_negotiate × IsTrue (list_any is_plain (event ∷ past))

-- by whether the new one is held
gained_if : {P : Type 0} (s : Setting) (b : Bool) (x y : Option Held) → (IsTrue b → IsTrue (negotiating s x) → P) → (IsTrue (negotiating s y) → P) → IsTrue (negotiating s (if b then x else y)) → P
gained_if s true x y f g n = f refl n
gained_if s false x y f g n = g n

prompt_space : (q space terms o : ℕ) (b : List Event) → space_prompted (Called (Select space terms) (Lead q o) ∷ b) q ≡ space
prompt_space q space terms o b = ap (λ x. unwrap_or (if x then Some space else None) (space_prompted b q)) (eq-eqb q q refl)

followed_space : (q space terms : ℕ) (b : List Event) → space_prompted (Called (Select space terms) (Follow q) ∷ b) q ≡ space
followed_space q space terms b = ap (λ x. unwrap_or (if x then Some space else None) (space_prompted b q)) (eq-eqb q q refl)

module _ (s : Setting) (means : IsNumbered s) where
  gained_ready : (past : List Event) (t target : Target) (reply : BookReply) → IsTrue (ready_agrees s target reply) → IsTrue (negotiating s (held_ready reply (held s past t))) → IsGained s (Called (Preempt target) reply) past t
  gained_ready past t target (Ready gift terms epoch) a n =
      let both = both_of (target_is s gift.space target && is_by_path s gift.space) (may_hold s gift gift.space terms) a in
      absurd (scheme_clash s gift.space n (both_of (target_is s gift.space target) (is_by_path s gift.space) both.0).1)
  gained_ready past t target _ a n = inl n

  -- a Negotiate space that was chosen
  gained_space : (b : List Event) (space terms : ℕ) (reply : BookReply) (t : Target) → IsPast s (Called (Select space terms) reply ∷ b) → IsTrue (scheme_is s space Negotiate) → IsTrue (target_is s space t)
      → (list_any is_no_mechanism b ≡ false) × (t ≡ first_target s) × IsTrue s.has_negotiate × (terms ≡ 0)
  gained_space b space terms reply t run n target =
      let chosen = chosen_from s b space terms reply run in
      let got = negotiate_choice s means b space terms chosen n t target in
      (got.0, got.1, got.2, negotiate_plain s means b space terms chosen n)

  -- where a choice was plain, it is so in the past
  plain_there : (b : List Event) (space terms : ℕ) (reply : BookReply) → terms ≡ 0 → IsTrue (list_any is_plain (Called (Select space terms) reply ∷ b))
  plain_there b space terms reply none = ap (λ x. x || list_any is_plain b) (eq-eqb terms 0 none)

  -- a gift of a space that was chosen
  gained_gift : (b : List Event) (space terms : ℕ) (reply : BookReply) (gift : Gift) (t : Target) → IsPast s (Called (Select space terms) reply ∷ b) → gift.space ≡ space → IsTrue (scheme_is s gift.space Negotiate) → IsTrue (target_is s gift.space t)
      → (list_any is_no_mechanism b ≡ false) × (t ≡ first_target s) × IsTrue s.has_negotiate × (terms ≡ 0)
  gained_gift b space terms reply gift t run same n target =
      gained_space b space terms reply t run (subst (λ x. IsTrue (scheme_is s x Negotiate)) same n) (subst (λ x. IsTrue (target_is s x t)) same target)

  gained_choice : (past : List Event) (t : Target) (space terms : ℕ) (reply : BookReply) → IsPast s (Called (Select space terms) reply ∷ past) → IsTrue (choice_agrees s past space terms reply) → IsTrue (target_is s space t)
      → IsTrue (negotiating s (held_selected space terms reply (held s past t))) → IsGained s (Called (Select space terms) reply) past t
  gained_choice past t space terms (Url gift evicted) run a target n =
      let same : gift.space ≡ space = (may_hold_known s gift space terms a).1 in
      let got = gained_gift past space terms (Url gift evicted) gift t run same n (subst (λ x. IsTrue (target_is s x t)) (sym same) target) in
      inr (got.0, got.1, got.2, plain_there past space terms (Url gift evicted) got.3)
  gained_choice past t space terms (Cached gift) run a target n =
      let same : gift.space ≡ space = (may_hold_known s gift space terms a).1 in
      let got = gained_gift past space terms (Cached gift) gift t run same n (subst (λ x. IsTrue (target_is s x t)) (sym same) target) in
      inr (got.0, got.1, got.2, plain_there past space terms (Cached gift) got.3)
  gained_choice past t space terms Default run a target n = let got = gained_space past space terms Default t run n target in inr (got.0, got.1, got.2, plain_there past space terms Default got.3)
  gained_choice past t space terms _ run a target n = inl n

  gained_answer : (past : List Event) (t : Target) (q text terms : ℕ) (reply : BookReply) → IsPast s (Called (Answer q text terms) reply ∷ past) → IsTrue (fits (Answer q text terms) reply) → IsTrue (answer_agrees s (space_prompted past q) text terms reply)
      → IsTrue (negotiating s (held_prompted s t terms reply (held s past t))) → IsGained s (Called (Answer q text terms) reply) past t
  gained_answer past t q text terms (Given gift evicted) run f a n = gained_if s (target_is s gift.space t) (gift_held gift terms None) (held s past t) (λ target m. inr (by target m (prompted_from s past q text terms (Given gift evicted) run))) (λ m. inl m) n
    where
      by : IsTrue (target_is s gift.space t) → IsTrue (scheme_is s gift.space Negotiate) → IsAskedBehind q past → (list_any is_no_mechanism past ≡ false) × (t ≡ first_target s) × IsTrue s.has_negotiate × IsTrue (list_any is_plain past)
      by target m (seen, space, ts, o, b, e) =
          let r : IsPast s (AskedFor q seen ∷ Called (Select space ts) (Lead q o) ∷ b) = subst (IsPast s) e run.0 in
          let held_in : gift.space ≡ space_prompted past q = (may_hold_known s gift (space_prompted past q) terms (both_of (not (text == 0)) (may_hold s gift (space_prompted past q) terms) a).1).1 in
          let got = gained_gift b space ts (Lead q o) gift t r.0 (held_in ∙ (ap (λ x. space_prompted x q) e ∙ prompt_space q space ts o b)) m target in
          (ap (list_any is_no_mechanism) e ∙ got.0, got.1, got.2, ap (list_any is_plain) e ∙ plain_there b space ts (Lead q o) got.3)
  gained_answer past t q text terms (Gave gift) run f a n = absurd (false≢true f)
  gained_answer past t q text terms _ run f a n = inl n

  gained_take : (past : List Event) (t : Target) (q : ℕ) (reply : BookReply) → IsPast s (Called (Take q) reply ∷ past) → IsTrue (fits (Take q) reply) → IsTrue (take_agrees s (space_prompted past q) (terms_followed past q) reply)
      → IsTrue (negotiating s (held_prompted s t (terms_followed past q) reply (held s past t))) → IsGained s (Called (Take q) reply) past t
  gained_take past t q (Gave gift) run f a n = gained_if s (target_is s gift.space t) (gift_held gift (terms_followed past q) None) (held s past t) (λ target m. inr (by target m (taken_from s past q (Gave gift) run))) (λ m. inl m) n
    where
      by : IsTrue (target_is s gift.space t) → IsTrue (scheme_is s gift.space Negotiate) → IsFollowBehind q past → (list_any is_no_mechanism past ≡ false) × (t ≡ first_target s) × IsTrue s.has_negotiate × IsTrue (list_any is_plain past)
      by target m (space, ts, b, e) =
          let r : IsPast s (Called (Select space ts) (Follow q) ∷ b) = subst (IsPast s) e run.0 in
          let held_in : gift.space ≡ space_prompted past q = (may_hold_known s gift (space_prompted past q) (terms_followed past q) a).1 in
          let got = gained_gift b space ts (Follow q) gift t r (held_in ∙ (ap (λ x. space_prompted x q) e ∙ followed_space q space ts b)) m target in
          (ap (list_any is_no_mechanism) e ∙ got.0, got.1, got.2, ap (list_any is_plain) e ∙ plain_there b space ts (Follow q) got.3)
  gained_take past t q (Given gift evicted) run f a n = absurd (false≢true f)
  gained_take past t q _ run f a n = inl n

  gained_called : (past : List Event) (t : Target) (call : Call) (reply : BookReply) → IsPast s (Called call reply ∷ past) → IsTrue (fits call reply) → IsTrue (agrees s past call reply)
      → IsTrue (negotiating s (held_called s t past call reply (held s past t))) → IsGained s (Called call reply) past t
  gained_called past t (Preempt target) reply run f a n = gained_if s (same_target target t) (held_ready reply (held s past t)) (held s past t) (λ same m. gained_ready past t target reply a m) (λ m. inl m) n
  gained_called past t (Select space terms) reply run f a n = gained_if s (target_is s space t) (held_selected space terms reply (held s past t)) (held s past t) (λ target m. gained_choice past t space terms reply run a target m) (λ m. inl m) n
  gained_called past t (Reject space ordinal) reply run f a n = gained_if s (target_is s space t) None (held s past t) (λ target m. absurd (false≢true m)) (λ m. inl m) n
  gained_called past t (Renew gift terms) reply run f a n = gained_if s (target_is s gift.space t) (gift_held gift terms None) (held s past t) (λ target m. absurd (renewed_plain s past gift terms reply run m)) (λ m. inl m) n
  gained_called past t (Answer q text terms) reply run f a n = gained_answer past t q text terms reply run f a n
  gained_called past t (Take q) reply run f a n = gained_take past t q reply run f a n
  gained_called past t _ reply run f a n = inl n

  -- what is kept was held
  kept_if : (f : Held → Option Held) → ((h : Held) → IsTrue (negotiating s (f h)) → IsTrue (scheme_is s h.gift.space Negotiate)) → (o : Option Held) → IsTrue (negotiating s (option_and_then f o)) → IsTrue (negotiating s o)
  kept_if f g None n = absurd (false≢true n)
  kept_if f g (Some h) n = g h n

  changed_if : (f : Held → Held) → ((h : Held) → (f h).gift ≡ h.gift) → (o : Option Held) → IsTrue (negotiating s (option_map f o)) → IsTrue (negotiating s o)
  changed_if f g None n = absurd (false≢true n)
  changed_if f g (Some h) n = subst (λ x. IsTrue (scheme_is s x.space Negotiate)) (g h) n

  stepped_kept : (step : StepSeen) (h : Held) → IsTrue (negotiating s (held_stepped step h)) → IsTrue (scheme_is s h.gift.space Negotiate)
  stepped_kept (Token token) h n = n
  stepped_kept NoMechanism h n = gained_if s (is_some h.context) (Some h) None (λ b m. m) (λ m. absurd (false≢true m)) n
  stepped_kept _ h n = n

  pub stepped_before : (past : List Event) (target : Target) (step : StepSeen) (t : Target) → IsTrue (negotiating s (held s (Stepped target step ∷ past) t)) → IsTrue (negotiating s (held s past t))
  stepped_before past target step t n = gained_if s (same_target target t) (option_and_then (held_stepped step) (held s past t)) (held s past t) (λ same m. kept_if (held_stepped step) (stepped_kept step) (held s past t) m) (λ m. m) n

  pub gained : (event : Event) (past : List Event) → IsPast s (event ∷ past) → (t : Target) → IsTrue (negotiating s (held s (event ∷ past) t)) → IsGained s event past t
  gained (Called call reply) past run t n = gained_called past t call reply run (fits_of s past call reply run.1) (agrees_of s past call reply run.1) n
  gained (Drew target nonce count epoch) past run t n =
      gained_if s (same_target target t) (option_and_then (held_drew epoch) (held s past t)) (held s past t)
      (λ same m. inl (kept_if (held_drew epoch) (λ h k. gained_if s (unwrap_or h.preemptive epoch == epoch) (Some h) None (λ b x. x) (λ x. absurd (false≢true x)) k) (held s past t) m)) (λ m. inl m) n
  gained (Stepped target step) past run t n = inl (stepped_before past target step t n)
  gained (Headed link bytes) past run t n = inl (changed_if (held_headed link) (λ h. refl) (held s past t) n)
  gained (Replied link reply) past run t n =
      inl (kept_if (held_replied s t reply) (λ h k. gained_if s (challenges_target s reply t && is_none (deciding s reply t h)) None (Some h) (λ b x. absurd (false≢true x)) (λ x. x) k) (held s past t) n)
  gained (LinkLost link) past run t n = inl (changed_if held_lost (λ h. refl) (held s past t) n)
  gained _ past run t n = inl n

  -- where `negotiate` challenges are passed over nothing of that kind is held
  pub none_negotiating : s.has_negotiate ≡ false → (past : List Event) → IsPast s past → (t : Target) → IsTrue (negotiating s (held s past t)) → ⊥
  none_negotiating never [] run t n = false≢true n
  none_negotiating never (event ∷ past) run t n = at (none_negotiating never past run.0 t) (gained event past run t n)
    where
      at : (IsTrue (negotiating s (held s past t)) → ⊥) → IsGained s event past t → ⊥
      at earlier (inl before) = earlier before
      at earlier (inr now) = false≢true (sym never ∙ now.2)

  -- only the first target of the route holds one
  pub one_target : (past : List Event) → IsPast s past → (t : Target) → IsTrue (negotiating s (held s past t)) → t ≡ first_target s
  one_target [] run t n = absurd (false≢true n)
  one_target (event ∷ past) run t n = at (one_target past run.0 t) (gained event past run t n)
    where
      at : (IsTrue (negotiating s (held s past t)) → t ≡ first_target s) → IsGained s event past t → t ≡ first_target s
      at earlier (inl before) = earlier before
      at earlier (inr now) = now.1

  -- it was chosen without terms
  pub plain_chosen : (past : List Event) → IsPast s past → (t : Target) → IsTrue (negotiating s (held s past t)) → IsTrue (list_any is_plain past)
  plain_chosen [] run t n = absurd (false≢true n)
  plain_chosen (event ∷ past) run t n = at (plain_chosen past run.0 t) (gained event past run t n)
    where
      at : (IsTrue (negotiating s (held s past t)) → IsTrue (list_any is_plain past)) → IsGained s event past t → IsTrue (list_any is_plain (event ∷ past))
      at earlier (inl before) = or_true (is_plain event) (list_any is_plain past) (earlier before)
      at earlier (inr now) = now.3
