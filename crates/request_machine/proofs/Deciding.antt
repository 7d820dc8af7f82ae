-- What a challenge decides, by what was told of what is held.
use Rattle.std.proofs.Common.{◌≡◌, ℕ, Bool, true, false, List, Option, Some, None, refl, sym, ap, ◌∙◌, IfSome, IsSome, unwrap_or, option_map, option_and_then, is_some, find, subst, if◌then◌else◌}
use Rattle.spaces.specs.declared.roster.Request.{Request}
use Rattle.challenge_tokens.specs.declared.challenge.Challenge.{Challenge}
use Rattle.challenge_offers.specs.Tokens.{token_offered}
use Rattle.trace_rule.specs.Moves.{renewed, rejects}
use Rattle.std.proofs.lemmas.Bool.{false≢true}
use Rattle.spaces.specs.declared.site.Site.{Site}
use Rattle.spaces.specs.declared.site.Target.{Target}
use Rattle.spaces.specs.declared.site.Target.TheVariants.{Server, Proxy, Socks}
use Rattle.spaces.specs.declared.space.Scheme.TheVariants.{Negotiate}
use Rattle.spaces.specs.declared.terms.Terms.{Terms}
use Rattle.spaces.specs.ProtectionSpaces.{ProtectionSpace}
use Rattle.spaces.specs.Sites.{site, same_space}
use Rattle.auth_events.specs.declared.journal.Gift.{Gift}
use Rattle.wire_head.specs.declared.reply.Reply.{Reply}
use Rattle.negotiate_handler.specs.Tokens.{token_in}
use Rattle.trace_rule.specs.Settings.{Setting}
use Rattle.trace_rule.specs.Challenges.{Offer, challenged, supported, space_at, negotiate_challenge}
use Rattle.trace_rule.specs.Holding.{Decision, deciding}
use Rattle.trace_rule.specs.Holding.Decision.{Negotiating, Offering}
use Rattle.request_machine.specs.declared.holding.Holding.{Holding}
use Rattle.request_machine.specs.declared.decide.Decision.{Decision as Decided}
use Rattle.request_machine.specs.Kept.{Kept, Ties, IsKnown, held_kept}
use Rattle.request_machine.specs.Changed.{holding}
use Rattle.request_machine.specs.declared.decide.Decision.TheVariants.{Renews, Rejects, Continues}
use Rattle.request_machine.specs.Chosen.{offer_told, stale_terms, renewed_by, decision_by, decision_on, decision_told, decision_at}
use Rattle.request_machine.specs.Told.{IsReady, is_live, scheme_told}
use Rattle.request_machine.proofs.Going.{told_scheme}
use Rattle.request_machine.proofs.Decided.{IsUndecided, IsDecided, IsLast, IsRejection}

-- the space that was told is the setting's
told_space : (s : Setting) (n : ℕ) (space : Option ProtectionSpace) → IfSome space (λ named. s.space_of n ≡ Some named) → IsSome space → s.space_of n ≡ space
told_space s n None known some = absurd (false≢true some)
told_space s n (Some space) known some = known

abbrev offer_in : Setting → Reply → Target → Option ProtectionSpace → Option Decision
offer_in s reply t space =
    option_and_then (λ place. option_and_then (λ named. option_map Offering (find (λ offered. same_space (space_at place offered) named) (supported false reply))) space) (site s.request t)

offered_in : (reply : Reply) (place : Option Site) (space : Option ProtectionSpace)
    → option_and_then (λ p. option_and_then (λ named. option_map Offering (find (λ offered. same_space (space_at p offered) named) (supported false reply))) space) place
    ≡ option_map Offering (option_and_then (λ p. option_and_then (λ named. find (λ offered. same_space (space_at p offered) named) (supported false reply)) space) place)
offered_in reply None space = refl
offered_in reply (Some place) None = refl
offered_in reply (Some place) (Some named) = refl

-- what the rule lets decide, by what was told
abbrev decision_of : Request → Reply → Target → Holding → Option Decision
decision_of request reply t h = if scheme_told h.space Negotiate then option_map Negotiating (token_offered reply) else option_map Offering (offer_told request reply t h)

token_in_first : (o : Option Challenge) → option_map (λ (challenge : Challenge). Negotiating (token_in challenge.body)) o ≡ option_map Negotiating (option_map (λ (challenge : Challenge). token_in challenge.body) o)
token_in_first None = refl
token_in_first (Some challenge) = refl

deciding_told : (s : Setting) (reply : Reply) (t : Target) (h : Holding) → IsKnown s h → IsReady h → deciding s reply t (held_kept h) ≡ decision_of s.request reply t h
deciding_told s reply t h known ready =
    ap (λ b. if b then option_map (λ challenge. Negotiating (token_in challenge.body)) (negotiate_challenge reply) else offer_in s reply t (s.space_of h.gift.space))
    (told_scheme s h.gift.space Negotiate h.space known.space ready.space)
    ∙ ap (λ space. if scheme_told h.space Negotiate then option_map (λ challenge. Negotiating (token_in challenge.body)) (negotiate_challenge reply) else offer_in s reply t space) (told_space s h.gift.space h.space known.space ready.space)
    ∙ ap (λ o. if scheme_told h.space Negotiate then o else offer_in s reply t h.space) (token_in_first (negotiate_challenge reply))
    ∙ ap (λ o. if scheme_told h.space Negotiate then option_map Negotiating (token_offered reply) else o) (offered_in reply (site s.request t) h.space)

-- what it comes to for the machine
abbrev told_by : Gift → Decision → Decided
told_by gift (Negotiating peer) = decision_on gift peer
told_by gift (Offering offered) = decision_by gift offered

told_same : (request : Request) (reply : Reply) (t : Target) (h : Holding) → decision_told request reply t h ≡ option_map (told_by h.gift) (decision_of request reply t h)
told_same request reply t h = at (scheme_told h.space Negotiate) (token_offered reply) (offer_told request reply t h)
  where
    at : (b : Bool) (p : Option (Option (List ℕ))) (o : Option Offer) → (if b then option_map (decision_on h.gift) p else option_map (decision_by h.gift) o)
        ≡ option_map (told_by h.gift) (if b then option_map Negotiating p else option_map Offering o)
    at true None o = refl
    at true (Some peer) o = refl
    at false p None = refl
    at false p (Some offered) = refl

told_deciding : (s : Setting) (reply : Reply) (t : Target) (h : Holding) → IsKnown s h → IsReady h → decision_told s.request reply t h ≡ option_map (told_by h.gift) (deciding s reply t (held_kept h))
told_deciding s reply t h known ready = told_same s.request reply t h ∙ ap (option_map (told_by h.gift)) (sym (deciding_told s reply t h known ready))

known_at : (s : Setting) (m : Kept) (t : Target) → Ties s m → IfSome (holding m t) (IsKnown s)
known_at s m Proxy t = t.proxy.is_known
known_at s m Server t = t.server.is_known
known_at s m Socks t = tt

unmapped : (gift : Gift) (o : Option Decision) → option_map (told_by gift) o ≡ None → o ≡ None
unmapped gift None e = refl
unmapped gift (Some decision) e = absurd (cc)

-- nothing decides
pub undecided_of : (s : Setting) (m : Kept) (reply : Reply) (t : Target) → IfSome (holding m t) IsReady → decision_at m s.request reply t ≡ None → challenged s reply ≡ Some t → Ties s m → IsUndecided s m reply t
undecided_of s m reply t ready none is ties = record { target = is; undecided = at (holding m t) (known_at s m t ties) ready none }
  where
    at : (o : Option Holding) → IfSome o (IsKnown s) → IfSome o IsReady → option_and_then (decision_told s.request reply t) o ≡ None → IfSome o (λ h. deciding s reply t (held_kept h) ≡ None)
    at None known ready none = tt
    at (Some h) known ready none = unmapped h.gift (deciding s reply t (held_kept h)) (sym (told_deciding s reply t h known ready) ∙ none)

-- a challenge decides
pub record IsDecidedBy (s : Setting) (m : Kept) (reply : Reply) (t : Target) (told : Decided) : Type 0 where
  pub held : Holding
  pub decision : Decision
  pub is_decided : IsDecided s m reply t held decision
  pub same : told_by held.gift decision ≡ told

pub decided_of : (s : Setting) (m : Kept) (reply : Reply) (t : Target) (told : Decided) → IfSome (holding m t) IsReady → decision_at m s.request reply t ≡ Some told → challenged s reply ≡ Some t → Ties s m → IsDecidedBy s m reply t told
decided_of s m reply t told ready some is ties = at (holding m t) refl (known_at s m t ties) ready some
  where
    on : (h : Holding) (x : Option Decision) → holding m t ≡ Some h → deciding s reply t (held_kept h) ≡ x → option_map (told_by h.gift) x ≡ Some told → IsDecidedBy s m reply t told
    on h None same e found = absurd (cc)
    on h (Some decision) same e found = record {
      held = h;
      decision = decision;
      is_decided = record { target = is; held = same; decides = e };
      same = ap (λ (o : Option Decided). unwrap_or o told) found;
    }

    at : (o : Option Holding) → holding m t ≡ o → IfSome o (IsKnown s) → IfSome o IsReady → option_and_then (decision_told s.request reply t) o ≡ Some told → IsDecidedBy s m reply t told
    at None same known ready found = absurd (cc)
    at (Some h) same known ready found = on h (deciding s reply t (held_kept h)) same refl (sym (told_deciding s reply t h known ready) ∙ found)

-- whether one does
pub last_of : (s : Setting) (m : Kept) (reply : Reply) (t : Target) (decides : Bool) → IfSome (holding m t) IsReady → is_some (decision_at m s.request reply t) ≡ decides → challenged s reply ≡ Some t → Ties s m → IsLast s m reply t decides
last_of s m reply t decides ready some is ties = record { target = is; decides = at (holding m t) (known_at s m t ties) ready some }
  where
    both : (gift : Gift) (o : Option Decision) → is_some o ≡ is_some (option_map (told_by gift) o)
    both gift None = refl
    both gift (Some decision) = refl

    at : (o : Option Holding) → IfSome o (IsKnown s) → IfSome o IsReady → is_some (option_and_then (decision_told s.request reply t) o) ≡ decides → IfSome o (λ h. is_some (deciding s reply t (held_kept h)) ≡ decides)
    at None known ready e = tt
    at (Some h) known ready e = both h.gift (deciding s reply t (held_kept h)) ∙ ap is_some (sym (told_deciding s reply t h known ready)) ∙ e

-- where the peer's token decides, the context that is held goes on
pub continuing_live : (s : Setting) (m : Kept) (reply : Reply) (t : Target) (h : Holding) (peer : Option (List ℕ)) → IfSome (holding m t) IsReady → IsDecided s m reply t h (Negotiating peer) → Ties s m → is_live h.context ≡ true
continuing_live s m reply t h peer ready is ties =
    let known : IsKnown s h = subst (λ (o : Option Holding). IfSome o (IsKnown s)) is.held (known_at s m t ties) in
    let all : IsReady h = subst (λ (o : Option Holding). IfSome o IsReady) is.held ready in
    all.context (at (scheme_told h.space Negotiate) (token_offered reply) (offer_told s.request reply t h) (sym (deciding_told s reply t h known all) ∙ is.decides))
  where
    at : (b : Bool) (p : Option (Option (List ℕ))) (o : Option Offer) → (if b then option_map Negotiating p else option_map Offering o) ≡ Some (Negotiating peer) → b ≡ true
    at true p o e = refl
    at false p None e = absurd (cc)
    at false p (Some offered) e = absurd (cc)

-- BY WHAT IT COMES TO

-- the context goes on
pub continuing_of : (h : Holding) (peer : List ℕ) (decision : Decision) → told_by h.gift decision ≡ Continues peer → decision ≡ Negotiating (Some peer)
continuing_of h peer (Negotiating None) e = absurd (cc)
continuing_of h peer (Negotiating (Some token)) e = ap (λ (d : Decided). Negotiating (Some (peer_of d))) e
  where
    peer_of : Decided → List ℕ
    peer_of (Continues token) = token
    peer_of (Rejects gift) = peer
    peer_of (Renews gift terms) = peer
continuing_of h peer (Offering offered) e = at (stale_terms offered) e
  where
    at : (o : Option Terms) → renewed_by h.gift o ≡ Continues peer → Offering offered ≡ Negotiating (Some peer)
    at None e = absurd (cc)
    at (Some told) e = absurd (cc)

-- the gift is rejected
pub record IsRejectionOf (s : Setting) (t : Target) (h : Holding) (gift : Gift) (decision : Decision) : Type 0 where
  pub same_gift : h.gift ≡ gift
  pub is_rejection : IsRejection s t h decision

abbrev gift_of : Gift → Decided → Gift
gift_of other (Rejects gift) = gift
gift_of other (Renews gift terms) = gift
gift_of other (Continues peer) = other

pub rejection_of : (s : Setting) (t : Target) (h : Holding) (gift : Gift) (decision : Decision) → told_by h.gift decision ≡ Rejects gift → IsRejectionOf s t h gift decision
rejection_of s t h gift (Negotiating None) e = record { same_gift = ap (gift_of gift) e; is_rejection = record { rejects = λ past link stays. refl } }
rejection_of s t h gift (Negotiating (Some peer)) e = absurd (cc)
rejection_of s t h gift (Offering offered) e = let both = at offered.stale offered.terms e in record { same_gift = both.0; is_rejection = record { rejects = λ past link stays. both.1 } }
  where
    at : (b : Bool) (o : Option Terms) → renewed_by h.gift (if b then o else None) ≡ Rejects gift → (h.gift ≡ gift) × (renewed s (held_kept h) b o ≡ rejects (held_kept h))
    at true None e = (ap (gift_of gift) e, refl)
    at true (Some terms) e = absurd (cc)
    at false None e = (ap (gift_of gift) e, refl)
    at false (Some terms) e = (ap (gift_of gift) e, refl)

-- its terms renew it
pub record IsRenewalOf (h : Holding) (gift : Gift) (terms : Terms) (decision : Decision) : Type 0 where
  pub same_gift : h.gift ≡ gift
  pub offered : Offer
  pub same : decision ≡ Offering offered
  pub stale : stale_terms offered ≡ Some terms

pub renewal_of : (h : Holding) (gift : Gift) (terms : Terms) (decision : Decision) → told_by h.gift decision ≡ Renews gift terms → IsRenewalOf h gift terms decision
renewal_of h gift terms (Negotiating None) e = absurd (cc)
renewal_of h gift terms (Negotiating (Some peer)) e = absurd (cc)
renewal_of h gift terms (Offering offered) e = let both = at (stale_terms offered) e in record { same_gift = both.0; offered = offered; same = refl; stale = both.1 }
  where
    at : (o : Option Terms) → renewed_by h.gift o ≡ Renews gift terms → (h.gift ≡ gift) × (o ≡ Some terms)
    at None e = absurd (cc)
    at (Some told) e = (cc, cc)
