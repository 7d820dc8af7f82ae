-- Only one target of a request holds a Negotiate identity, and none is gained where the provider has no mechanism.
use Rattle.std.proofs.Common.{◌≡◌, inl, inr, ℕ, Bool, true, false, not, ◌&&◌, ◌||◌, ◌==◌, IsTrue, List, [], ◌∷◌, Option, Some, None, option_and_then, option_map, unwrap_or, refl, sym, ap, ◌∙◌, subst, if◌then◌else◌, Result, Ok, Err}
use Rattle.std.specs.Prelude.{filter_map, find, codes, bytes_eq}
use Rattle.std.specs.List.{list_any, cons_option}
use Rattle.std.proofs.lemmas.Bool.{false≢true}
use Rattle.spaces.specs.declared.site.Site.{Site}
use Rattle.spaces.specs.declared.site.Target.{Target}
use Rattle.spaces.specs.declared.site.Target.TheVariants.{Server, Proxy, Socks}
use Rattle.spaces.specs.declared.space.Scheme.{Scheme}
use Rattle.spaces.specs.declared.space.Scheme.TheVariants.{Basic, Digest, Negotiate}
use Rattle.spaces.specs.ProtectionSpaces.{ProtectionSpace}
use Rattle.spaces.specs.Sites.{site, same_scheme, same_target}
use Rattle.challenge_tokens.specs.declared.challenge.Challenge.{Challenge}
use Rattle.digest_handler.specs.declared.challenge_terms.Passed.{Passed}
use Rattle.digest_handler.specs.declared.challenge_terms.TermsRead.{TermsRead}
use Rattle.digest_handler.specs.ChallengeTerms.{terms_read}
use Rattle.auth_events.specs.declared.journal.Call.{Call}
use Rattle.auth_events.specs.declared.journal.Call.TheVariants.{Begin, Select, Reject, Renew, Answer, Lose, Take}
use Rattle.auth_events.specs.declared.journal.BookReply.{BookReply}
use Rattle.auth_events.specs.declared.journal.BookReply.TheVariants.{Lead, Follow}
use Rattle.auth_events.specs.Book.{is_digest}
use Rattle.auth_events.specs.Pages.{fits}
use Rattle.wire_head.specs.declared.reply.Reply.{Reply}
use Rattle.link_trait.specs.declared.prompts.AskSeen.{AskSeen}
use Rattle.link_trait.specs.declared.prompts.AskSeen.TheVariants.{Given as AskGiven, Cancel}
use Rattle.auth_runs.specs.Runs.{Each}
use Rattle.auth_runs.specs.declared.event.Event.{Event}
use Rattle.auth_runs.specs.declared.event.Event.TheVariants.{Called, AskedFor}
use Rattle.trace_rule.specs.Settings.{Setting, first_target, is_proxied, or_else, scheme_is, target_is}
use Rattle.trace_rule.specs.Challenges.{Offer, offer, supported, best, first_by, space_at, challenges, challenged, realm_of, basic_offer, digest_offer, negotiate_offer}
use Rattle.trace_rule.specs.Holding.{negotiates, is_no_mechanism}
use Rattle.trace_rule.specs.Settings.{IsNumbered}
use Rattle.trace_rule.specs.Moves.{terms_offered}
use Rattle.trace_rule.specs.Traces.{IsPast}
use Rattle.trace_rule.proofs.Reasons.{Reason, IsChoice, reason, MadeBy, made_by, made_for, closing_never}
use Rattle.trace_rule.proofs.Reasons.Reason.{begins, preempts, preempts_server, selects, is_rejected, is_renewed, cancels, loses, takes}
use Rattle.trace_rule.proofs.Reasons.MadeBy.{wanted, answers, at_end}
use Rattle.trace_rule.proofs.Waiting.{IsLed, given_behind}
use Rattle.trace_rule.proofs.Stages.{fits_of, asks_from}
use Rattle.trace_rule.proofs.Allowed.{Fits, FitsIf, all_fit, best_fits, parts, not_that, site_target}

-- OFFERS

-- it is of another scheme
abbrev Plain : Offer → Type 0
Plain o = same_scheme o.scheme Negotiate ≡ false

abbrev PlainIf : Option Offer → Type 0
PlainIf None = Unit {0}
PlainIf (Some o) = Plain o

plain_cond : (b : Bool) (x y : Option Offer) → PlainIf x → PlainIf y → PlainIf (if b then x else y)
plain_cond true x y p q = p
plain_cond false x y p q = q

plain_never : (b : Bool) (x : Option Offer) → PlainIf (if b && false then x else None)
plain_never true x = tt
plain_never false x = tt

basic_plain : (o : Option (List ℕ)) → PlainIf (option_map basic_offer o)
basic_plain None = tt
basic_plain (Some realm) = refl

digest_plain : (read : Result TermsRead Passed) → PlainIf (digest_offer read)
digest_plain (Err passed) = tt
digest_plain (Ok read) = refl

offer_plain : (c : Challenge) → PlainIf (offer false c)
offer_plain c =
    plain_cond (bytes_eq c.scheme (codes "basic")) (option_map basic_offer (realm_of c.body)) _ (basic_plain (realm_of c.body))
    (plain_cond (bytes_eq c.scheme (codes "digest")) (digest_offer (terms_read c)) _ (digest_plain (terms_read c))
    (plain_never (bytes_eq c.scheme (codes "negotiate")) (negotiate_offer c.body)))

plain_cons : (o : Option Offer) (os : List Offer) → PlainIf o → Each Plain os → Each Plain (cons_option o os)
plain_cons None os p q = q
plain_cons (Some o) os p q = (p, q)

all_plain : (cs : List Challenge) → Each Plain (filter_map (offer false) cs)
all_plain [] = tt
all_plain (c ∷ cs) = plain_cons (offer false c) (filter_map (offer false) cs) (offer_plain c) (all_plain cs)

found_plain : (p : Offer → Bool) (os : List Offer) → Each Plain os → PlainIf (find p os)
found_plain p [] all = tt
found_plain p (o ∷ os) all = plain_cond (p o) (Some o) (find p os) all.0 (found_plain p os all.1)

or_plain : (a b : Option Offer) → PlainIf a → PlainIf b → PlainIf (or_else a b)
or_plain None b p q = q
or_plain (Some o) b p q = p

best_plain : (os : List Offer) → Each Plain os → PlainIf (best os)
best_plain os all =
    or_plain (first_by Negotiate os) (or_else (first_by Digest os) (first_by Basic os)) (found_plain _ os all)
    (or_plain (first_by Digest os) (first_by Basic os) (found_plain _ os all) (found_plain _ os all))

-- TARGETS

pub equal_targets : (a b : Target) → IsTrue (same_target a b) → a ≡ b
equal_targets Server Server same = refl
equal_targets Proxy Proxy same = refl
equal_targets Socks Socks same = refl
equal_targets _ _ same = absurd (false≢true same)

-- a target whose `negotiate` challenges can be answered is the first of the route
first_of_route : (s : Setting) (reply : Reply) (t : Target) → challenged s reply ≡ Some t → IsTrue (same_target t Proxy || not (is_proxied s)) → t ≡ first_target s
first_of_route s reply t e h = at (reply.code == 401) (reply.code == 407) (is_proxied s) e h
  where
    target_or : Option Target → Target
    target_or None = Socks
    target_or (Some u) = u

    at : (a b p : Bool) → (if a then Some Server else (if b && p then Some Proxy else None)) ≡ Some t → IsTrue (same_target t Proxy || not p) → t ≡ (if p then Proxy else Server)
    at true b true e h = absurd (false≢true (subst (λ u. IsTrue (same_target u Proxy || false)) (sym (ap target_or e)) h))
    at true b false e h = sym (ap target_or e)
    at false true true e h = sym (ap target_or e)
    at false true false e h = let clash : None ≡ Some t = e in cc
    at false false p e h = let clash : None ≡ Some t = e in cc

-- CHOICES

-- the number of a chosen space stands for the offer's space at the target's site
chosen_space : (s : Setting) → IsNumbered s → (past : List Event) (space terms : ℕ) → (c : IsChoice s past space terms) → (place : Site) × (site s.request c.target ≡ Some place) × (s.space_of space ≡ Some (space_at place c.offered))
chosen_space s means past space terms c = at (site s.request c.target) refl c.is_space
  where
    at : (o : Option Site) → site s.request c.target ≡ o → option_and_then (λ place. s.space_no (space_at place c.offered)) o ≡ Some space → (place : Site) × (site s.request c.target ≡ Some place) × (s.space_of space ≡ Some (space_at place c.offered))
    at None e k = let clash : None ≡ Some space = k in cc
    at (Some place) e k = (place, e, means (space_at place c.offered) space k)

-- a Negotiate space is chosen for the first target alone, not once there is no mechanism, and only where `negotiate` challenges are answered
pub negotiate_choice : (s : Setting) → IsNumbered s → (past : List Event) (space terms : ℕ) → IsChoice s past space terms → IsTrue (scheme_is s space Negotiate) → (t : Target) → IsTrue (target_is s space t)
    → (list_any is_no_mechanism past ≡ false) × (t ≡ first_target s) × IsTrue s.has_negotiate
negotiate_choice s means past space terms c negotiate t target = at (negotiates s past c.target) refl
  where
    found : (place : Site) × (site s.request c.target ≡ Some place) × (s.space_of space ≡ Some (space_at place c.offered))
    found = chosen_space s means past space terms c

    scheme : IsTrue (same_scheme c.offered.scheme Negotiate)
    scheme = sym (ap (λ o. unwrap_or (option_map (λ (n : ProtectionSpace). same_scheme n.scheme Negotiate) o) false) found.2) ∙ negotiate

    same : t ≡ c.target
    same =
        let e : IsTrue (same_target found.0.target t) = sym (ap (λ o. unwrap_or (option_map (λ (n : ProtectionSpace). same_target n.site.target t) o) false) found.2) ∙ target in
        sym (equal_targets found.0.target t e) ∙ site_target s.request c.target found.0 found.1

    none_if : (b : Bool) → IsTrue (not b) → b ≡ false
    none_if true h = absurd (false≢true h)
    none_if false h = refl

    at : (b : Bool) → negotiates s past c.target ≡ b → (list_any is_no_mechanism past ≡ false) × (t ≡ first_target s) × IsTrue s.has_negotiate
    at false e =
        let plain : Plain c.offered = subst PlainIf (sym (ap (λ x. best (supported x c.reply)) e) ∙ c.is_best) (best_plain (supported false c.reply) (all_plain (challenges c.reply))) in
        absurd (false≢true (sym plain ∙ scheme))
    at true e =
        let both = parts (s.has_negotiate && (same_target c.target Proxy || not (is_proxied s))) (not (list_any is_no_mechanism past)) e in
        let route = parts s.has_negotiate (same_target c.target Proxy || not (is_proxied s)) both.0 in
        (none_if (list_any is_no_mechanism past) both.1, same ∙ first_of_route s c.reply c.target c.of_target route.1, route.0)

-- it is chosen without terms
pub negotiate_plain : (s : Setting) → IsNumbered s → (past : List Event) (space terms : ℕ) → IsChoice s past space terms → IsTrue (scheme_is s space Negotiate) → terms ≡ 0
negotiate_plain s means past space terms c negotiate = by offer_fits
  where
    chosen : (place : Site) × (site s.request c.target ≡ Some place) × (s.space_of space ≡ Some (space_at place c.offered))
    chosen = chosen_space s means past space terms c

    scheme : IsTrue (same_scheme c.offered.scheme Negotiate)
    scheme = sym (ap (λ o. unwrap_or (option_map (λ (n : ProtectionSpace). same_scheme n.scheme Negotiate) o) false) chosen.2) ∙ negotiate

    no_digest : (x : Scheme) → IsTrue (same_scheme x Negotiate) → is_digest x ≡ true → ⊥
    no_digest Negotiate n d = false≢true d
    no_digest _ n d = false≢true n

    offer_fits : Fits c.offered
    offer_fits = subst FitsIf c.is_best (best_fits (supported (negotiates s past c.target) c.reply) (all_fit (negotiates s past c.target) (challenges c.reply)))

    number_or : Option ℕ → ℕ
    number_or None = 0
    number_or (Some n) = n

    by : Fits c.offered → terms ≡ 0
    by (inl (none, plain)) = let told : Some 0 ≡ Some terms = sym (ap (terms_offered s space) none) ∙ c.is_terms in ap number_or (sym told)
    by (inr (ts, is, digest)) = absurd (no_digest c.offered.scheme scheme digest)

-- WHERE A PROMPT COMES FROM

abbrev is_select : Call → Bool
is_select (Select space terms) = true
is_select _ = false

abbrev is_take : Call → Bool
is_take (Take prompt) = true
is_take _ = false

abbrev is_text : Call → Bool
is_text (Answer prompt text terms) = true
is_text _ = false

abbrev space_in : Call → ℕ
space_in (Select space terms) = space
space_in _ = 0

abbrev terms_in : Call → ℕ
terms_in (Select space terms) = terms
terms_in _ = 0

abbrev prompt_in : Call → ℕ
prompt_in (Answer prompt text terms) = prompt
prompt_in (Take prompt) = prompt
prompt_in _ = 0

-- a choice that was made
pub chosen_from : (s : Setting) (b : List Event) (space terms : ℕ) (reply : BookReply) → IsPast s (Called (Select space terms) reply ∷ b) → IsChoice s b space terms
chosen_from s b space terms reply run = at (made_for s b (Select space terms) reply run.0 refl refl run.1)
  where
    at : Reason s b (Select space terms) → IsChoice s b space terms
    at (selects sp ts e c k) = subst (λ x. IsChoice s b x terms) (sym (ap space_in e)) (subst (λ x. IsChoice s b sp x) (sym (ap terms_in e)) c)
    at (begins p e) = not_that is_select (Select space terms) Begin refl refl e
    at (preempts r before p e) = not_that is_select (Select space terms) _ refl refl e
    at (preempts_server r before p e) = not_that is_select (Select space terms) _ refl refl e
    at (is_rejected event before t h p q e behind) = not_that is_select (Select space terms) (Reject h.gift.space h.gift.ordinal) refl refl e
    at (is_renewed link r before t h offered ts number p q d o n e behind) = not_that is_select (Select space terms) (Renew h.gift number) refl refl e
    at (cancels p before q e) = not_that is_select (Select space terms) _ refl refl e
    at (loses p seen loss before q e) = not_that is_select (Select space terms) (Lose p loss) refl refl e
    at (takes made p before q e) = not_that is_select (Select space terms) (Take p) refl refl e

lead_of : (c : Call) (p o : ℕ) → IsTrue (fits c (Lead p o)) → (space : ℕ) × (terms : ℕ) × (c ≡ Select space terms)
lead_of (Select space terms) p o f = (space, terms, refl)
lead_of c p o f = absurd (false≢true f)

follow_of : (c : Call) (p : ℕ) → IsTrue (fits c (Follow p)) → (space : ℕ) × (terms : ℕ) × (c ≡ Select space terms)
follow_of (Select space terms) p f = (space, terms, refl)
follow_of c p f = absurd (false≢true f)

abbrev pub IsAskedBehind : ℕ → List Event → Type 0
IsAskedBehind q past = (seen : AskSeen) × (space : ℕ) × (terms : ℕ) × (o : ℕ) × (b : List Event) × (past ≡ AskedFor q seen ∷ Called (Select space terms) (Lead q o) ∷ b)

-- the prompter was asked for a prompt that the request leads
asked_behind : (s : Setting) (past before : List Event) (q : ℕ) (seen : AskSeen) → IsPast s past → past ≡ AskedFor q seen ∷ before → IsAskedBehind q past
asked_behind s past before q seen run e =
    let r : IsPast s (AskedFor q seen ∷ before) = subst (IsPast s) e run in
    led r (asks_from s before q seen r.0 r.1)
  where
    led : IsPast s (AskedFor q seen ∷ before) → IsLed q before → IsAskedBehind q past
    led r (c, o, b, k) =
        let k_run : IsPast s (Called c (Lead q o) ∷ b) = subst (IsPast s) k r.0 in
        let chosen = lead_of c q o (fits_of s b c (Lead q o) k_run.1) in
        (seen, chosen.0, chosen.1, o, b, e ∙ ap (λ x. AskedFor q seen ∷ x) (k ∙ ap (λ x. Called x (Lead q o) ∷ b) chosen.2))

pub prompted_from : (s : Setting) (past : List Event) (q text terms : ℕ) (reply : BookReply) → IsPast s (Called (Answer q text terms) reply ∷ past) → IsAskedBehind q past
prompted_from s past q text terms reply run = at (made_by s past (Answer q text terms) reply run.1)
  where
    by : Reason s past (Answer q text terms) → IsAskedBehind q past
    by (cancels p before k e) = asked_behind s past before q Cancel run.0 (k ∙ ap (λ x. AskedFor x Cancel ∷ before) (sym (ap prompt_in e)))
    by (begins p e) = not_that is_text (Answer q text terms) Begin refl refl e
    by (preempts r before p e) = not_that is_text (Answer q text terms) _ refl refl e
    by (preempts_server r before p e) = not_that is_text (Answer q text terms) _ refl refl e
    by (selects sp ts e c k) = not_that is_text (Answer q text terms) (Select sp ts) refl refl e
    by (is_rejected event before t h p k e behind) = not_that is_text (Answer q text terms) (Reject h.gift.space h.gift.ordinal) refl refl e
    by (is_renewed link r before t h offered ts number p k d o n e behind) = not_that is_text (Answer q text terms) (Renew h.gift number) refl refl e
    by (loses p seen loss before k e) = not_that is_text (Answer q text terms) (Lose p loss) refl refl e
    by (takes made p before k e) = not_that is_text (Answer q text terms) (Take p) refl refl e

    at : MadeBy s past (Answer q text terms) → IsAskedBehind q past
    at (wanted m) = by (reason s past run.0 (Answer q text terms) m)
    at (answers p x t e m) =
        let g = given_behind s past p t m (closing_never s past _ run.0 m) in
        asked_behind s past g.0 q AskGiven run.0 (g.1 ∙ ap (λ y. AskedFor y AskGiven ∷ g.0) (sym (ap prompt_in e)))
    at (at_end o m k) = absurd (false≢true k)

abbrev pub IsFollowBehind : ℕ → List Event → Type 0
IsFollowBehind q past = (space : ℕ) × (terms : ℕ) × (b : List Event) × (past ≡ Called (Select space terms) (Follow q) ∷ b)

pub taken_from : (s : Setting) (past : List Event) (q : ℕ) (reply : BookReply) → IsPast s (Called (Take q) reply ∷ past) → IsFollowBehind q past
taken_from s past q reply run = at (made_for s past (Take q) reply run.0 refl refl run.1)
  where
    at : Reason s past (Take q) → IsFollowBehind q past
    at (takes made p before k e) =
        let here : past ≡ Called made (Follow q) ∷ before = k ∙ ap (λ x. Called made (Follow x) ∷ before) (sym (ap prompt_in e)) in
        let r : IsPast s (Called made (Follow q) ∷ before) = subst (IsPast s) here run.0 in
        let chosen = follow_of made q (fits_of s before made (Follow q) r.1) in
        (chosen.0, chosen.1, before, here ∙ ap (λ x. Called x (Follow q) ∷ before) chosen.2)
    at (begins p e) = not_that is_take (Take q) Begin refl refl e
    at (preempts r before p e) = not_that is_take (Take q) _ refl refl e
    at (preempts_server r before p e) = not_that is_take (Take q) _ refl refl e
    at (selects sp ts e c k) = not_that is_take (Take q) (Select sp ts) refl refl e
    at (is_rejected event before t h p k e behind) = not_that is_take (Take q) (Reject h.gift.space h.gift.ordinal) refl refl e
    at (is_renewed link r before t h offered ts number p k d o n e behind) = not_that is_take (Take q) (Renew h.gift number) refl refl e
    at (cancels p before k e) = not_that is_take (Take q) _ refl refl e
    at (loses p seen loss before k e) = not_that is_take (Take q) (Lose p loss) refl refl e
