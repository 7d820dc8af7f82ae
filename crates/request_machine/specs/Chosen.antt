-- The challenge that is answered, and the one that decides on what is held.
use Rattle.std.specs.Prelude.{ℕ, ◌≡◌, false, List, Option, Some, None, option_map, option_and_then, find, if◌then◌else◌}
use Rattle.spaces.specs.declared.roster.Request.{Request}
use Rattle.spaces.specs.declared.site.Target.{Target}
use Rattle.spaces.specs.declared.space.Scheme.TheVariants.{Negotiate}
use Rattle.spaces.specs.declared.terms.Terms.{Terms}
use Rattle.spaces.specs.Sites.{site, same_space}
use Rattle.auth_events.specs.declared.journal.Gift.{Gift}
use Rattle.auth_runs.specs.declared.event.Event.{Event}
use Rattle.wire_head.specs.declared.reply.Reply.{Reply}
use Rattle.trace_rule.specs.Challenges.{Offer, supported, best, space_at}
use Rattle.trace_rule.specs.Holding.{last_reply}
use Rattle.request_machine.specs.declared.holding.Holding.{Holding}
use Rattle.request_machine.specs.declared.pick.Pick.{Pick}
use Rattle.request_machine.specs.declared.decide.Decision.{Decision}
use Rattle.request_machine.specs.declared.decide.Decision.TheVariants.{Renews, Rejects, Continues}
use Rattle.request_machine.specs.Told.{scheme_told}
use Rattle.challenge_offers.specs.Tokens.{token_offered}
use Rattle.request_machine.specs.Kept.{Kept}
use Rattle.request_machine.specs.Changed.{holding}

-- THE CHALLENGE THAT IS ANSWERED

-- the best challenge of the last reply
abbrev pub IsBest : List Event → Option Offer → Type 0
IsBest past o = (reply : Reply) → last_reply past ≡ Some reply → best (supported false reply) ≡ o

-- its space at the target's site, and its terms
pub record IsPickOf (request : Request) (t : Target) (offered : Offer) (pick : Pick) : Type 0 where
  pub at_site : option_map (λ place. space_at place offered) (site request t) ≡ Some pick.space
  pub same_terms : pick.terms ≡ offered.terms

abbrev pub IsPick : List Event → Request → Target → Option Pick → Type 0
IsPick past request t None = IsBest past None
IsPick past request t (Some pick) = (offered : Offer) × IsBest past (Some offered) × IsPickOf request t offered pick

-- THE CHALLENGE THAT DECIDES

-- the first supported challenge of the space that was told
abbrev pub offer_told : Request → Reply → Target → Holding → Option Offer
offer_told request reply t h =
    option_and_then (λ place. option_and_then (λ named. find (λ offered. same_space (space_at place offered) named) (supported false reply)) h.space) (site request t)

-- the terms of a stale challenge
abbrev pub stale_terms : Offer → Option Terms
stale_terms offered = if offered.stale then offered.terms else None

-- terms renew the gift, and without any it is rejected
abbrev pub renewed_by : Gift → Option Terms → Decision
renewed_by gift None = Rejects gift
renewed_by gift (Some terms) = Renews gift terms

-- a stale challenge renews the gift with its terms, and any other rejects it
abbrev pub decision_by : Gift → Offer → Decision
decision_by gift offered = renewed_by gift (stale_terms offered)

-- the peer's token goes to the provider, and without one the peer rejects
abbrev pub decision_on : Gift → Option (List ℕ) → Decision
decision_on gift None = Rejects gift
decision_on gift (Some peer) = Continues peer

-- on a Negotiate gift its first `negotiate` challenge decides
abbrev pub decision_told : Request → Reply → Target → Holding → Option Decision
decision_told request reply t h =
    if scheme_told h.space Negotiate then option_map (decision_on h.gift) (token_offered reply) else option_map (decision_by h.gift) (offer_told request reply t h)

-- what the reply decides on what is held for the target; nothing where none of its challenges does
abbrev pub decision_at : Kept → Request → Reply → Target → Option Decision
decision_at m request reply t = option_and_then (decision_told request reply t) (holding m t)
