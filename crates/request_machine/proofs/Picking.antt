-- The best challenge of the last reply.
use Rattle.std.proofs.Common.{◌≡◌, Bool, true, false, ◌==◌, ◌&&◌, ◌||◌, not, List, Option, Some, None, refl, sym, ap, ◌∙◌, subst, IsSome, unwrap_or, option_map, option_and_then, is_some, if◌then◌else◌}
use Rattle.std.specs.List.{list_any}
use Rattle.spaces.specs.declared.roster.Request.{Request}
use Rattle.spaces.specs.declared.place.Origin.{Origin}
use Rattle.spaces.specs.declared.site.Target.{Target}
use Rattle.spaces.specs.declared.site.Target.TheVariants.{Server, Proxy, Socks}
use Rattle.spaces.specs.Sites.{site, same_target}
use Rattle.wire_head.specs.declared.reply.Reply.{Reply}
use Rattle.auth_runs.specs.declared.event.Event.{Event}
use Rattle.auth_runs.specs.declared.event.Outcome.TheVariants.{Refused}
use Rattle.auth_runs.specs.declared.event.Why.TheVariants.{NoChallenge}
use Rattle.trace_rule.specs.Settings.{Setting, is_proxied}
use Rattle.trace_rule.specs.Challenges.{Offer, challenged, supported, best}
use Rattle.trace_rule.specs.Holding.{last_reply, negotiates, is_no_mechanism}
use Rattle.request_machine.specs.declared.pick.Pick.{Pick}
use Rattle.request_machine.specs.declared.stage.Stage.TheVariants.{Choose, NameSpace, Close}
use Rattle.request_machine.specs.Chosen.{IsBest, IsPickOf, IsPick}
use Rattle.request_machine.specs.Kept.{Kept, IsKept, IsChosen, IsChallenged, Ties, IsTied, IsStage, is_after_end, can_stop}
use Rattle.request_machine.specs.Told.{unless_it}
use Rattle.request_machine.proofs.Sending.{only_end}
use Rattle.request_machine.proofs.Choosing.{refused_ties, staged}
use Rattle.request_machine.proofs.Decided.{no_socks}
use Rattle.request_machine.proofs.Numbers.{proxy_site}
use Rattle.request_machine.proofs.Reading.{unnamed_ties}

-- what was found in the last reply is so in any that is the last one
best_in : (past : List Event) (reply : Reply) (o : Option Offer) → Some reply ≡ last_reply past → best (supported false reply) ≡ o → IsBest past o
best_in past reply o is best_is = λ other same. ap (λ r. best (supported false (unwrap_or r reply))) (sym same ∙ sym is) ∙ best_is

pub none_is_best : (past : List Event) (reply : Reply) → Some reply ≡ last_reply past → None ≡ best (supported false reply) → IsBest past None
none_is_best past reply is none = best_in past reply None is (sym none)

pub some_is_best : (past : List Event) (request : Request) (t : Target) (reply : Reply) (offered : Offer) (pick : Pick) → Some reply ≡ last_reply past → Some offered ≡ best (supported false reply) → IsPickOf request t offered pick
    → IsPick past request t (Some pick)
some_is_best past request t reply offered pick is some of = (offered, best_in past reply (Some offered) is (sym some), of)

-- the last reply, which challenges the target
challenge_there : (s : Setting) (past : List Event) (t : Target) → IsChallenged s past t → (reply : Reply) × (last_reply past ≡ Some reply) × (challenged s reply ≡ Some t)
challenge_there s past t = at (last_reply past) refl
  where
    at : (o : Option Reply) → last_reply past ≡ o → option_and_then (challenged s) o ≡ Some t → (reply : Reply) × (last_reply past ≡ Some reply) × (challenged s reply ≡ Some t)
    at None is none = absurd (cc)
    at (Some reply) is met = (reply, is, met)

challenged_now : (s : Setting) (m : Kept) (t : Target) → m.stage ≡ Choose t → Ties s m → IsChallenged s m.past t
challenged_now s m t same ties = (subst (IsStage s m.past) same ties.stage).2

pub reply_there : (m : Kept) (request : Request) (t : Target) → m.stage ≡ Choose t → IsTied m request → IsSome (last_reply m.past)
reply_there m request t same tied = ap is_some (challenge_there tied.0 m.past t (challenged_now tied.0 m t same tied.2)).1

-- a target that is challenged has a site
site_met : (s : Setting) (reply : Reply) (t : Target) → challenged s reply ≡ Some t → IsSome (site s.request t)
site_met s reply Server is = refl
site_met s reply Proxy is = proxied s.request.proxy (reply.code == 401) (reply.code == 407) is
  where
    proxied : (o : Option Origin) (a b : Bool) → (if a then Some Server else (if b && is_some o then Some Proxy else None)) ≡ Some Proxy → IsSome (option_map (proxy_site s.request) o)
    proxied (Some proxy) a b e = refl
    proxied None true b e = absurd (cc)
    proxied None false true e = absurd (cc)
    proxied None false false e = absurd (cc)
site_met s reply Socks is = absurd (no_socks s reply is)

pub site_there : (m : Kept) (request : Request) (t : Target) → m.stage ≡ Choose t → IsTied m request → IsSome (site request t)
site_there m request t same tied =
    let there = challenge_there tied.0 m.past t (challenged_now tied.0 m t same tied.2) in
    subst (λ r. IsSome (site r t)) tied.1 (site_met tied.0 there.0 t there.2)

-- the best challenge, by the rule
best_chosen : (s : Setting) (m : Kept) (t : Target) (o : Option Offer) → m.stage ≡ Choose t → IsBest m.past o → Ties s m → (reply : Reply) × IsChosen s m.past reply t o × (reply.code ≡ m.code)
best_chosen s m t o same is ties =
    let there = challenge_there s m.past t (challenged_now s m t same ties) in
    let passed : negotiates s m.past t ≡ false = ap (λ b. b && (same_target t Proxy || not (is_proxied s)) && not (list_any is_no_mechanism m.past)) ties.passes_over in (
      there.0,
      record { last = there.1; target = there.2; best = ap (λ b. best (supported b there.0)) passed ∙ is there.0 there.1 },
      sym (ap (λ (r : Option Reply). unwrap_or (option_map (λ (x : Reply). x.code) r) 0) there.1) ∙ ties.code,
    )

-- none can be answered
pub refuses_ties : (s : Setting) (m : Kept) (t : Target) → m.stage ≡ Choose t → IsBest m.past None → Ties s m
    → Ties s (record m { stage = Close (record { outcome = Refused m.code NoChallenge; proxy = unless_it t Proxy m.noted_proxy; server = unless_it t Server m.noted_server }) })
refuses_ties s m t same is ties =
    let best = best_chosen s m t None same is ties in
    subst (λ n. Ties s (record m { stage = Close (record { outcome = Refused n NoChallenge; proxy = unless_it t Proxy m.noted_proxy; server = unless_it t Server m.noted_server }) })) best.2
    (refused_ties s m best.0 t same best.1 ties)

-- its space and its terms are to be named
pub picked_ties : (s : Setting) (m : Kept) (t : Target) (pick : Pick) → m.stage ≡ Choose t → IsPick m.past s.request t (Some pick) → Ties s m
    → Ties s (record m { unnamed_space = Some pick.space; unnamed_terms = pick.terms; stage = NameSpace t })
picked_ties s m x pick same is t =
    let best = best_chosen s m x (Some is.0) same is.1 t in
    let at : IsStage s m.past (Choose x) = subst (IsStage s m.past) same t.stage in
    let now : Kept = record m { unnamed_space = Some pick.space; unnamed_terms = pick.terms } in
    let ties : Ties s now = unnamed_ties s m (Some pick.space) pick.terms (subst (IsKept s now) (sym same) tt) t in
    staged s now (NameSpace x) ties at (ap is_after_end same) (ap can_stop same) (only_end s now (Choose x) same ties (λ n e. e))
    (record {
      offered = is.0;
      is_picked = record { reply = best.0; is_chosen = best.1; same_terms = is.2.same_terms };
      at_site = is.2.at_site;
      is_some = refl;
    })
