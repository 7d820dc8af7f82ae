-- What a request has named and read may be named and read.
use Rattle.std.specs.Prelude.{ℕ, ◌≡◌, ◌⊎◌, Bool, IsTrue, List, Some, is_some}
use Rattle.spaces.specs.Sites.{numbered}
use Rattle.spaces.specs.declared.site.Site.{Site}
use Rattle.spaces.specs.declared.site.Target.{Target}
use Rattle.spaces.specs.declared.space.Scheme.TheVariants.{Digest}
use Rattle.spaces.specs.declared.terms.Terms.{Terms}
use Rattle.auth_events.specs.declared.journal.Entry.{Entry}
use Rattle.auth_events.specs.declared.names.TermsName.{TermsName}
use Rattle.auth_events.specs.Fresh.{knows}
use Rattle.auth_events.specs.Identities.{giving}
use Rattle.auth_events.specs.Tables.{Tables, is_home}
use Rattle.wire_head.specs.declared.reply.Reply.{Reply}
use Rattle.trace_rule.specs.Challenges.{Offer, best, space_at, supported}
use Rattle.trace_rule.specs.Closings.{want, with_nonce}
use Rattle.trace_rule.specs.Holding.{Held, carried, deciding, held}
use Rattle.trace_rule.specs.Holding.Decision.{Offering}
use Rattle.trace_rule.specs.Laws.{WhereServed}
use Rattle.trace_rule.specs.Moves.Want.{Draws}
use Rattle.trace_rule.specs.Settings.{Setting, scheme_is}

-- READING

-- the space of what is held is named, its gift was given unless it is the default identity, and its terms are named where it is Digest
pub record IsReadable (names : Tables) (entries : List Entry) (s : Setting) (h : Held) : Type 0 where
  pub space : IsTrue (is_some (numbered names.spaces h.gift.space))
  pub identity : (h.gift.ordinal ≡ 0) ⊎ IsTrue (is_some (giving entries h.gift))
  pub terms : IsTrue (scheme_is s h.gift.space Digest) → IsTrue (is_some (numbered names.terms h.terms))

-- what a request holds may be read
abbrev pub HeldIsReadable : Type 0
HeldIsReadable =
    WhereServed (λ names entries roster caller r s past.
    (t : Target) → (h : Held) → held s past t ≡ Some h → IsReadable names entries s h)

-- DRAWS

-- a nonce of which a count is wanted is one of terms in an entry of the request
abbrev pub DrawnNoncesAreKnown : Type 0
DrawnNoncesAreKnown =
    WhereServed (λ names entries roster caller r s past.
    (t : Target) → (nonce : ℕ) → want s past ≡ Draws t nonce → IsTrue (knows names entries r nonce))

-- NAMING

-- the terms of the best offer are at home in its space, whatever the site
abbrev pub OfferedTermsAreAtHome : Type 0
OfferedTermsAreAtHome =
    (names : Tables) → (negotiate : Bool) → (reply : Reply) → (offered : Offer) → (terms : Terms) → (place : Site) → (space : ℕ)
    → best (supported negotiate reply) ≡ Some offered → offered.terms ≡ Some terms
    → numbered names.spaces space ≡ Some (space_at place offered) → IsTrue (is_home names space terms)

-- so are the terms of a stale challenge in the space of what is held
abbrev pub RenewedTermsAreAtHome : Type 0
RenewedTermsAreAtHome =
    WhereServed (λ names entries roster caller r s past.
    (reply : Reply) → (t : Target) → (h : Held) → (offered : Offer) → (terms : Terms)
    → deciding s reply t h ≡ Some (Offering offered) → offered.terms ≡ Some terms → IsTrue (is_home names h.gift.space terms))

-- and so are the terms that a Digest gift went out with, with another nonce
abbrev pub NextTermsAreAtHome : Type 0
NextTermsAreAtHome =
    WhereServed (λ names entries roster caller r s past.
    (t : Target) → (h : Held) → (name : TermsName) → (nonce : List ℕ)
    → carried s past t ≡ Some h → IsTrue (scheme_is s h.gift.space Digest) → numbered names.terms h.terms ≡ Some name
    → IsTrue (is_home names h.gift.space (with_nonce nonce name.terms)))
