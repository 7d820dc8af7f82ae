-- What the rule of a request wants of the book may be asked of it.
use Rattle.std.proofs.Common.{◌≡◌, ◌⊎◌, inl, inr, ℕ, Bool, true, false, ◌&&◌, ◌||◌, IsTrue, List, [], ◌∷◌, map, length, find, Option, Some, None, is_some, option_map, refl, sym, ap, ◌∙◌, if◌then◌else◌, Result, Ok, Err}
use Rattle.std.specs.Prelude.{filter_map, codes, bytes_eq}
use Rattle.std.specs.List.{list_any, list_all, cons_option}
use Rattle.std.proofs.lemmas.Bool.{false≢true}
use Rattle.spaces.specs.declared.place.Origin.{Origin}
use Rattle.spaces.specs.declared.roster.Request.{Request}
use Rattle.spaces.specs.declared.site.Site.{Site}
use Rattle.spaces.specs.declared.site.Target.{Target}
use Rattle.spaces.specs.declared.site.Target.TheVariants.{Server, Proxy, Socks}
use Rattle.spaces.specs.declared.space.Scheme.{Scheme}
use Rattle.spaces.specs.declared.space.Scheme.TheVariants.{Basic, Digest, Negotiate, Password}
use Rattle.spaces.specs.declared.terms.Terms.{Terms}
use Rattle.spaces.specs.Sites.{site, same_scheme, is_on_route}
use Rattle.challenge_tokens.specs.declared.challenge.Challenge.{Challenge}
use Rattle.challenge_tokens.specs.declared.challenge.Body.{Body}
use Rattle.challenge_tokens.specs.declared.challenge.Body.TheVariants.{Bare, Token68, Params}
use Rattle.digest_handler.specs.declared.challenge_terms.Passed.{Passed}
use Rattle.digest_handler.specs.declared.challenge_terms.TermsRead.{TermsRead}
use Rattle.digest_handler.specs.ChallengeTerms.{terms_read}
use Rattle.auth_events.specs.declared.journal.Call.{Call}
use Rattle.auth_events.specs.declared.journal.Call.TheVariants.{Begin, Preempt, Select, Reject, Renew, Lose, Take}
use Rattle.auth_events.specs.declared.journal.BookReply.{BookReply}
use Rattle.auth_events.specs.Book.{begins as is_begin, preempts as asks_target, is_digest}
use Rattle.auth_runs.specs.declared.event.Event.{Event}
use Rattle.auth_runs.specs.declared.event.Event.TheVariants.{Called}
use Rattle.trace_rule.specs.Settings.{Setting, or_else}
use Rattle.trace_rule.specs.Challenges.{Offer, offer, best, first_by, realm_of, basic_offer, digest_offer, negotiate_offer}
use Rattle.trace_rule.specs.Traces.{IsPast}
use Rattle.trace_rule.proofs.Reasons.{Reason, made_for}
use Rattle.trace_rule.proofs.Reasons.Reason.{begins, preempts, preempts_server, selects, is_rejected, is_renewed, cancels, loses, takes}

pub join : (a b : Bool) → IsTrue a → IsTrue b → IsTrue (a && b)
join a b p q = ap (λ x. x && b) p ∙ q

pub parts : (a b : Bool) → IsTrue (a && b) → IsTrue a × IsTrue b
parts true b h = (refl, h)
parts false b h = absurd (false≢true h)

-- LISTS

pub any_map : {A B : Type 0} (g : A → B) (f : B → Bool) (xs : List A) → list_any (λ x. f (g x)) xs ≡ list_any f (map g xs)
any_map g f [] = refl
any_map g f (x ∷ xs) = ap (λ b. f (g x) || b) (any_map g f xs)

pub any_all : {A : Type 0} (p q : A → Bool) (xs : List A) → IsTrue (list_any p xs) → IsTrue (list_all q xs) → IsTrue (list_any (λ x. p x && q x) xs)
any_all p q [] some all = absurd (false≢true some)
any_all p q (x ∷ xs) some all = at (p x) (q x) (any_all p q xs) some all
  where
    at : (a b : Bool) → (IsTrue (list_any p xs) → IsTrue (list_all q xs) → IsTrue (list_any (λ y. p y && q y) xs)) → IsTrue (a || list_any p xs) → IsTrue (b && list_all q xs) → IsTrue (a && b || list_any (λ y. p y && q y) xs)
    at true true later s a = refl
    at true false later s a = absurd (false≢true a)
    at false b later s a = later s (parts b (list_all q xs) a).1

pub empty_map : {A B : Type 0} (g : A → B) (xs : List A) → map g xs ≡ [] → length xs ≡ 0
empty_map g [] e = refl
empty_map g (x ∷ xs) e = let clash : g x ∷ map g xs ≡ [] = e in cc

-- REASONS OF THE FIRST CALLS

pub not_that : {P : Type 0} (test : Call → Bool) (a b : Call) → test a ≡ true → test b ≡ false → a ≡ b → P
not_that test a b yes_a no_b e = absurd (false≢true (sym no_b ∙ sym (ap test e) ∙ yes_a))

begin_reason : (s : Setting) (past : List Event) → Reason s past Begin → past ≡ []
begin_reason s past (begins p e) = p
begin_reason s past (preempts reply before p e) = not_that is_begin Begin _ refl refl e
begin_reason s past (preempts_server reply before p e) = not_that is_begin Begin _ refl refl e
begin_reason s past (selects space terms e c k) = not_that is_begin Begin (Select space terms) refl refl e
begin_reason s past (is_rejected event before t h p q e behind) = not_that is_begin Begin (Reject h.gift.space h.gift.ordinal) refl refl e
begin_reason s past (is_renewed link reply before t h offered terms number p q d o n e behind) = not_that is_begin Begin (Renew h.gift number) refl refl e
begin_reason s past (cancels p before q e) = not_that is_begin Begin _ refl refl e
begin_reason s past (loses p seen loss before q e) = not_that is_begin Begin (Lose p loss) refl refl e
begin_reason s past (takes made p before q e) = not_that is_begin Begin (Take p) refl refl e

abbrev asks_proxy : Call → Bool
asks_proxy call = asks_target call Proxy

pub proxy_reason : (s : Setting) (past : List Event) → Reason s past (Preempt Proxy) → (reply : BookReply) × (before : List Event) × (past ≡ Called Begin reply ∷ before)
proxy_reason s past (begins p e) = not_that asks_proxy (Preempt Proxy) Begin refl refl e
proxy_reason s past (preempts reply before p e) = (reply, before, p)
proxy_reason s past (preempts_server reply before p e) = not_that asks_proxy (Preempt Proxy) (Preempt Server) refl refl e
proxy_reason s past (selects space terms e c k) = not_that asks_proxy (Preempt Proxy) (Select space terms) refl refl e
proxy_reason s past (is_rejected event before t h p q e behind) = not_that asks_proxy (Preempt Proxy) (Reject h.gift.space h.gift.ordinal) refl refl e
proxy_reason s past (is_renewed link reply before t h offered terms number p q d o n e behind) = not_that asks_proxy (Preempt Proxy) (Renew h.gift number) refl refl e
proxy_reason s past (cancels p before q e) = not_that asks_proxy (Preempt Proxy) _ refl refl e
proxy_reason s past (loses p seen loss before q e) = not_that asks_proxy (Preempt Proxy) (Lose p loss) refl refl e
proxy_reason s past (takes made p before q e) = not_that asks_proxy (Preempt Proxy) (Take p) refl refl e

pub begin_alone : (s : Setting) (past : List Event) (reply : BookReply) → IsPast s (Called Begin reply ∷ past) → past ≡ []
begin_alone s past reply run = begin_reason s past (made_for s past Begin reply run.0 refl refl run.1)

-- OFFERS

-- a Digest offer has terms, and no other has
abbrev pub Fits : Offer → Type 0
Fits o = (o.terms ≡ None) × (is_digest o.scheme ≡ false) ⊎ ((terms : Terms) × (o.terms ≡ Some terms) × (is_digest o.scheme ≡ true))

abbrev pub FitsIf : Option Offer → Type 0
FitsIf None = Unit {0}
FitsIf (Some o) = Fits o

abbrev AllFit : List Offer → Type 0
AllFit [] = Unit {0}
AllFit (o ∷ os) = Fits o × AllFit os

fits_cond : (b : Bool) (x y : Option Offer) → FitsIf x → FitsIf y → FitsIf (if b then x else y)
fits_cond true x y p q = p
fits_cond false x y p q = q

basic_fits : (o : Option (List ℕ)) → FitsIf (option_map basic_offer o)
basic_fits None = tt
basic_fits (Some realm) = inl (refl, refl)

digest_fits : (read : Result TermsRead Passed) → FitsIf (digest_offer read)
digest_fits (Err passed) = tt
digest_fits (Ok read) = inr (read.terms, refl, refl)

negotiate_fits : (body : Body) → FitsIf (negotiate_offer body)
negotiate_fits Bare = inl (refl, refl)
negotiate_fits (Token68 text) = inl (refl, refl)
negotiate_fits (Params params) = tt

offer_fits : (b : Bool) (c : Challenge) → FitsIf (offer b c)
offer_fits b c =
    fits_cond (bytes_eq c.scheme (codes "basic")) (option_map basic_offer (realm_of c.body)) _ (basic_fits (realm_of c.body))
    (fits_cond (bytes_eq c.scheme (codes "digest")) (digest_offer (terms_read c)) _ (digest_fits (terms_read c))
    (fits_cond (bytes_eq c.scheme (codes "negotiate") && b) (negotiate_offer c.body) None (negotiate_fits c.body) tt))

fits_cons : (o : Option Offer) (os : List Offer) → FitsIf o → AllFit os → AllFit (cons_option o os)
fits_cons None os p q = q
fits_cons (Some o) os p q = (p, q)

pub all_fit : (b : Bool) (cs : List Challenge) → AllFit (filter_map (offer b) cs)
all_fit b [] = tt
all_fit b (c ∷ cs) = fits_cons (offer b c) (filter_map (offer b) cs) (offer_fits b c) (all_fit b cs)

found_fits : (p : Offer → Bool) (os : List Offer) → AllFit os → FitsIf (find p os)
found_fits p [] all = tt
found_fits p (o ∷ os) all = fits_cond (p o) (Some o) (find p os) all.0 (found_fits p os all.1)

or_fits : (a b : Option Offer) → FitsIf a → FitsIf b → FitsIf (or_else a b)
or_fits None b p q = q
or_fits (Some o) b p q = p

pub best_fits : (os : List Offer) → AllFit os → FitsIf (best os)
best_fits os all =
    or_fits (first_by Negotiate os) (or_else (first_by Digest os) (first_by Basic os)) (found_fits _ os all)
    (or_fits (first_by Digest os) (first_by Basic os) (found_fits _ os all) (found_fits _ os all))

pub digest_test : (scheme : Scheme) → IsTrue (same_scheme scheme Digest) → IsTrue (is_digest scheme)
digest_test Digest h = refl
digest_test Basic h = absurd (false≢true h)
digest_test Negotiate h = absurd (false≢true h)
digest_test Password h = absurd (false≢true h)

-- SITES

pub site_target : (request : Request) (t : Target) (place : Site) → site request t ≡ Some place → place.target ≡ t
site_target request Server place e = sym (ap target_or e)
  where
    target_or : Option Site → Target
    target_or None = Socks
    target_or (Some p) = p.target
site_target request Proxy place e = at request.proxy e
  where
    target_or : Option Site → Target
    target_or None = Socks
    target_or (Some p) = p.target

    at : (o : Option Origin) → option_map (λ proxy. record { partition = request.partition; target = Proxy; origin = proxy }) o ≡ Some place → place.target ≡ Proxy
    at None e = let clash : None ≡ Some place = e in cc
    at (Some origin) e = sym (ap target_or e)
site_target request Socks place e = let clash : None ≡ Some place = e in cc

pub site_home : (request : Request) (t : Target) (place : Site) → site request t ≡ Some place → site request place.target ≡ Some place
site_home request t place e = ap (site request) (site_target request t place e) ∙ e

pub route_first : (request : Request) → IsTrue (is_on_route request (if is_some request.proxy then Proxy else Server))
route_first request = at (is_some request.proxy) refl
  where
    at : (b : Bool) → is_some request.proxy ≡ b → IsTrue (is_on_route request (if b then Proxy else Server))
    at true e = e
    at false e = refl
