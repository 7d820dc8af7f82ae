-- The terms of an offer are at home in its space.
use Rattle.std.proofs.Common.{◌≡◌, ℕ, Bool, true, false, ◌&&◌, IsTrue, List, [], ◌∷◌, find, Option, Some, None, option_and_then, option_map, unwrap_or, refl, sym, ap, ◌∙◌, subst, if◌then◌else◌, Result, Ok, Err}
use Rattle.std.specs.Prelude.{bytes_eq, codes, filter_map}
use Rattle.std.specs.List.{cons_option}
use Rattle.std.proofs.lemmas.Bool.{false≢true}
use Rattle.spaces.specs.declared.roster.Request.{Request}
use Rattle.spaces.specs.declared.roster.Roster.{Roster}
use Rattle.spaces.specs.declared.site.Site.{Site}
use Rattle.spaces.specs.declared.site.Target.{Target}
use Rattle.spaces.specs.declared.space.Scheme.TheVariants.{Basic, Digest, Negotiate}
use Rattle.spaces.specs.declared.terms.Terms.{Terms}
use Rattle.spaces.specs.ProtectionSpaces.{ProtectionSpace}
use Rattle.spaces.specs.Sites.{numbered, same_scheme, same_space, site}
use Rattle.challenge_tokens.specs.declared.challenge.Body.{Body}
use Rattle.challenge_tokens.specs.declared.challenge.Body.TheVariants.{Bare, Params, Token68}
use Rattle.challenge_tokens.specs.declared.challenge.Challenge.{Challenge}
use Rattle.digest_handler.specs.ChallengeTerms.{terms_read}
use Rattle.digest_handler.specs.declared.challenge_terms.Passed.{Passed}
use Rattle.digest_handler.specs.declared.challenge_terms.TermsRead.{TermsRead}
use Rattle.auth_events.specs.declared.journal.Entry.{Entry}
use Rattle.auth_events.specs.Tables.{Tables, is_home}
use Rattle.auth_events.proofs.Numbers.{both}
use Rattle.auth_events.proofs.Same.{bytes_refl, space_same}
use Rattle.wire_head.specs.declared.reply.Reply.{Reply}
use Rattle.auth_runs.specs.Runs.{Each}
use Rattle.auth_runs.specs.declared.event.Event.{Event}
use Rattle.trace_rule.specs.Settings.{Setting, or_else, scheme_is}
use Rattle.negotiate_handler.specs.Tokens.{token_in}
use Rattle.trace_rule.specs.Challenges.{Offer, basic_offer, best, challenges, digest_offer, first_by, negotiate_challenge, negotiate_offer, offer, realm_of, space_at, supported}
use Rattle.trace_rule.specs.Holding.{Decision, Held, deciding}
use Rattle.trace_rule.specs.Holding.Decision.{Negotiating, Offering}
use Rattle.trace_rule.specs.Serving.{IsServing, setting_in}

-- an offer with terms is a Digest one, of their realm
abbrev IsOwnTerms : Offer → Type 0
IsOwnTerms o = (terms : Terms) → o.terms ≡ Some terms → (o.scheme ≡ Digest) × (o.realm ≡ terms.realm)

abbrev IsOwnIf : Option Offer → Type 0
IsOwnIf None = Unit {0}
IsOwnIf (Some o) = IsOwnTerms o

own_if : (b : Bool) (x y : Option Offer) → IsOwnIf x → IsOwnIf y → IsOwnIf (if b then x else y)
own_if true x y p q = p
own_if false x y p q = q

no_terms : {P : Type 0} (terms : Terms) → None ≡ Some terms → P
no_terms terms e = absurd (let clash : None ≡ Some terms = e in cc)

basic_own : (o : Option (List ℕ)) → IsOwnIf (option_map basic_offer o)
basic_own None = tt
basic_own (Some realm) = λ terms e. no_terms terms e

digest_own : (read : Result TermsRead Passed) → IsOwnIf (digest_offer read)
digest_own (Err passed) = tt
digest_own (Ok read) = λ terms e. (refl, ap (λ o. unwrap_or (option_map (λ (x : Terms). x.realm) o) read.terms.realm) e)

negotiate_own : (body : Body) → IsOwnIf (negotiate_offer body)
negotiate_own Bare = λ terms e. no_terms terms e
negotiate_own (Token68 text) = λ terms e. no_terms terms e
negotiate_own (Params params) = tt

offer_own : (b : Bool) (c : Challenge) → IsOwnIf (offer b c)
offer_own b c =
    own_if (bytes_eq c.scheme (codes "basic")) (option_map basic_offer (realm_of c.body)) _ (basic_own (realm_of c.body))
    (own_if (bytes_eq c.scheme (codes "digest")) (digest_offer (terms_read c)) _ (digest_own (terms_read c))
    (own_if (bytes_eq c.scheme (codes "negotiate") && b) (negotiate_offer c.body) None (negotiate_own c.body) tt))

own_cons : (o : Option Offer) (os : List Offer) → IsOwnIf o → Each IsOwnTerms os → Each IsOwnTerms (cons_option o os)
own_cons None os p q = q
own_cons (Some o) os p q = (p, q)

all_own : (b : Bool) (cs : List Challenge) → Each IsOwnTerms (filter_map (offer b) cs)
all_own b [] = tt
all_own b (c ∷ cs) = own_cons (offer b c) (filter_map (offer b) cs) (offer_own b c) (all_own b cs)

found_own : (p : Offer → Bool) (os : List Offer) → Each IsOwnTerms os → IsOwnIf (find p os)
found_own p [] all = tt
found_own p (o ∷ os) all = own_if (p o) (Some o) (find p os) all.0 (found_own p os all.1)

or_own : (a b : Option Offer) → IsOwnIf a → IsOwnIf b → IsOwnIf (or_else a b)
or_own None b p q = q
or_own (Some o) b p q = p

best_own : (os : List Offer) → Each IsOwnTerms os → IsOwnIf (best os)
best_own os all =
    or_own (first_by Negotiate os) (or_else (first_by Digest os) (first_by Basic os)) (found_own _ os all)
    (or_own (first_by Digest os) (first_by Basic os) (found_own _ os all) (found_own _ os all))

-- so they are at home in its space
at_home : (names : Tables) (offered : Offer) (terms : Terms) (place : Site) (space : ℕ) → IsOwnTerms offered → offered.terms ≡ Some terms → numbered names.spaces space ≡ Some (space_at place offered) → IsTrue (is_home names space terms)
at_home names offered terms place space own e named =
    ap (λ o. unwrap_or (option_map (λ (k : ProtectionSpace). same_scheme k.scheme Digest && bytes_eq k.realm terms.realm) o) false) named
    ∙ both (same_scheme offered.scheme Digest) (bytes_eq offered.realm terms.realm)
    (ap (λ x. same_scheme x Digest) (own terms e).0)
    (subst (λ x. IsTrue (bytes_eq x terms.realm)) (sym (own terms e).1) (bytes_refl terms.realm))

pub offered_home : (names : Tables) (negotiate : Bool) (reply : Reply) (offered : Offer) (terms : Terms) (place : Site) (space : ℕ) → best (supported negotiate reply) ≡ Some offered → offered.terms ≡ Some terms
    → numbered names.spaces space ≡ Some (space_at place offered) → IsTrue (is_home names space terms)
offered_home names negotiate reply offered terms place space is_best e named =
    at_home names offered terms place space (subst IsOwnIf is_best (best_own (supported negotiate reply) (all_own negotiate (challenges reply)))) e named

-- WHAT DECIDES ON WHAT IS HELD

abbrev is_offering : Option Decision → Bool
is_offering (Some (Offering o)) = true
is_offering _ = false

none_offered : (o : Option Challenge) → is_offering (option_map (λ challenge. Negotiating (token_in challenge.body)) o) ≡ false
none_offered None = refl
none_offered (Some c) = refl

abbrev offered_in : Offer → Option Decision → Offer
offered_in other (Some (Offering o)) = o
offered_in other _ = other

-- what is found passes the test
found_passes : (p : Offer → Bool) (os : List Offer) (o : Offer) → find p os ≡ Some o → IsTrue (p o)
found_passes p [] o e = let clash : None ≡ Some o = e in cc
found_passes p (x ∷ os) o e = at (p x) refl e (found_passes p os o)
  where
    offer_or : Option Offer → Offer
    offer_or None = x
    offer_or (Some y) = y

    at : (b : Bool) → p x ≡ b → (if b then Some x else find p os) ≡ Some o → (find p os ≡ Some o → IsTrue (p o)) → IsTrue (p o)
    at true passes k later = subst (λ y. IsTrue (p y)) (ap offer_or k) passes
    at false passes k later = later k

pub renewed_home : (n : Bool) (roster : Roster) (seed : List ℕ) (names : Tables) (entries : List Entry) (caller r : ℕ) (request : Request) (past : List Event)
    → IsServing roster names entries caller r request (setting_in n roster seed names entries r request) past
    → (reply : Reply) (t : Target) (h : Held) (offered : Offer) (terms : Terms) → deciding (setting_in n roster seed names entries r request) reply t h ≡ Some (Offering offered) → offered.terms ≡ Some terms → IsTrue (is_home names h.gift.space terms)
renewed_home n roster seed names entries caller r request past v reply t h offered terms d e = at (scheme_is here h.gift.space Negotiate) d
  where
    here : Setting
    here = setting_in n roster seed names entries r request

    test : Site → ProtectionSpace → Offer → Bool
    test place named o = same_space (space_at place o) named

    found : (place : Site) (named : ProtectionSpace) → numbered names.spaces h.gift.space ≡ Some named → (o : Option Offer) → find (test place named) (supported false reply) ≡ o → option_map Offering o ≡ Some (Offering offered) → IsTrue (is_home names h.gift.space terms)
    found place named k None f g = absurd (false≢true (ap is_offering g))
    found place named k (Some x) f g =
        let it : find (test place named) (supported false reply) ≡ Some offered = f ∙ ap Some (ap (offered_in x) g) in
        at_home names offered terms place h.gift.space (subst IsOwnIf it (found_own (test place named) (supported false reply) (all_own false (challenges reply)))) e
        (k ∙ ap Some (sym (space_same (space_at place offered) named (found_passes (test place named) (supported false reply) offered it))))

    in_space : (place : Site) (o : Option ProtectionSpace) → numbered names.spaces h.gift.space ≡ o → option_and_then (λ named. option_map Offering (find (test place named) (supported false reply))) o ≡ Some (Offering offered) → IsTrue (is_home names h.gift.space terms)
    in_space place None k g = absurd (false≢true (ap is_offering g))
    in_space place (Some named) k g = found place named k (find (test place named) (supported false reply)) refl g

    at_site : (o : Option Site) → option_and_then (λ place. option_and_then (λ named. option_map Offering (find (test place named) (supported false reply))) (numbered names.spaces h.gift.space)) o ≡ Some (Offering offered) → IsTrue (is_home names h.gift.space terms)
    at_site None g = absurd (false≢true (ap is_offering g))
    at_site (Some place) g = in_space place (numbered names.spaces h.gift.space) refl g

    at : (b : Bool) → (if b then option_map (λ challenge. Negotiating (token_in challenge.body)) (negotiate_challenge reply) else option_and_then (λ place. option_and_then (λ named. option_map Offering (find (test place named) (supported false reply))) (numbered names.spaces h.gift.space)) (site request t)) ≡ Some (Offering offered) → IsTrue (is_home names h.gift.space terms)
    at true g = absurd (false≢true (sym (none_offered (negotiate_challenge reply)) ∙ ap is_offering g))
    at false g = at_site (site request t) g
