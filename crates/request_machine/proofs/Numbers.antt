-- The space and the terms of the best challenge get their numbers.
use Rattle.std.proofs.Common.{◌≡◌, ℕ, true, false, Option, Some, None, refl, sym, ap, ◌∙◌, subst, unwrap_or, option_map, option_and_then, IsSome, IfSome}
use Rattle.std.proofs.lemmas.Bool.{false≢true}
use Rattle.spaces.specs.declared.roster.Request.{Request}
use Rattle.spaces.specs.declared.site.Site.{Site}
use Rattle.spaces.specs.declared.site.Target.{Target}
use Rattle.spaces.specs.declared.site.Target.TheVariants.{Server, Proxy, Socks}
use Rattle.spaces.specs.declared.place.Origin.{Origin}
use Rattle.spaces.specs.declared.terms.Terms.{Terms}
use Rattle.spaces.specs.ProtectionSpaces.{ProtectionSpace}
use Rattle.spaces.specs.Sites.{same_target, site}
use Rattle.auth_events.specs.declared.journal.Call.TheVariants.{Select}
use Rattle.trace_rule.specs.Settings.{Setting}
use Rattle.trace_rule.specs.Challenges.{Offer, space_at}
use Rattle.trace_rule.specs.Moves.{move, select, known, space_offered, terms_offered}
use Rattle.trace_rule.specs.Closings.{want, carried_out}
use Rattle.trace_rule.specs.Moves.Want.{Calls}
use Rattle.trace_rule.specs.Moves.Move.{Goes}
use Rattle.request_machine.specs.declared.stage.Stage.TheVariants.{NameSpace, NameTerms, Select as Selecting}
use Rattle.request_machine.specs.Kept.{Kept, IsKept, IsOfTarget, IsPicked, IsSpacePicked, AreTermsPicked, Ties, IsStage, is_after_end, can_stop}
use Rattle.request_machine.specs.Gives.{IsSpaceNamed, AreTermsNamed}
use Rattle.request_machine.proofs.Sending.{only_end}
use Rattle.request_machine.proofs.Choosing.{chosen, staged}
use Rattle.request_machine.proofs.Targets.{only_target}

same_self : (t : Target) → same_target t t ≡ true
same_self Server = refl
same_self Proxy = refl
same_self Socks = refl

abbrev pub proxy_site : Request → Origin → Site
proxy_site request proxy = record { partition = request.partition; target = Proxy; origin = proxy }

-- a site is of its target
site_target : (request : Request) (t : Target) (place : Site) → site request t ≡ Some place → place.target ≡ t
site_target request Server place is = ap (λ (o : Option Site). unwrap_or (option_map (λ (p : Site). p.target) o) Server) (sym is)
site_target request Proxy place is = at request.proxy is
  where
    at : (o : Option Origin) → option_map (proxy_site request) o ≡ Some place → place.target ≡ Proxy
    at None e = absurd (cc)
    at (Some proxy) e = ap (λ (o : Option Site). unwrap_or (option_map (λ (p : Site). p.target) o) Proxy) (sym e)
site_target request Socks place is = absurd (cc)

-- the number that was told is that of the challenge's space, which is of the target
named_space : (s : Setting) (m : Kept) (t : Target) (offered : Offer) (n : ℕ) → option_map (λ place. space_at place offered) (site s.request t) ≡ m.unnamed_space → IsSome m.unnamed_space → IsSpaceNamed s m n
    → (space_offered s t offered ≡ Some n) × IsOfTarget s n t
named_space s m t offered n = at (site s.request t) refl m.unnamed_space
  where
    at : (place : Option Site) → site s.request t ≡ place → (o : Option ProtectionSpace) → option_map (λ p. space_at p offered) place ≡ o → IsSome o → IfSome o (λ space. (s.space_no space ≡ Some n) × (s.space_of n ≡ Some space))
        → (space_offered s t offered ≡ Some n) × IsOfTarget s n t
    at place is None same some told = absurd (false≢true some)
    at None is (Some space) same some told = absurd (cc)
    at (Some place) is (Some space) same some told =
        let inner : space_at place offered ≡ space = ap (λ o. unwrap_or o space) same in (
          ap (option_and_then (λ p. s.space_no (space_at p offered))) is ∙ ap s.space_no inner ∙ told.0,
          only_target s n t (ap (λ (o : Option ProtectionSpace). unwrap_or (option_map (λ named. same_target named.site.target t) o) false) told.1
              ∙ ap (λ (z : ProtectionSpace). same_target z.site.target t) (sym inner) ∙ ap (λ x. same_target x t) (site_target s.request t place is) ∙ same_self t),
        )

-- the book is asked for an identity in the challenge's space, with its terms
wants_choice : (s : Setting) (m : Kept) (t : Target) (offered : Offer) (n k : ℕ) → move s m.past ≡ select s m.past → IsPicked s m.past m.unnamed_terms t offered → space_offered s t offered ≡ Some n → terms_offered s n offered.terms ≡ Some k
    → want s m.past ≡ Calls (Select n k)
wants_choice s m t offered n k moved is spaced termed =
    ap (carried_out s m.past) (moved ∙ chosen s m.past is.reply t (Some offered) is.is_chosen
    ∙ ap (λ o. known o (λ y. known (terms_offered s y offered.terms) (λ z. Goes (Calls (Select y z))))) spaced
    ∙ ap (λ o. known o (λ z. Goes (Calls (Select n z)))) termed)

-- without terms it is asked at once
pub space_named_ties : (s : Setting) (m : Kept) (t : Target) (n : ℕ) → m.stage ≡ NameSpace t → m.unnamed_terms ≡ None → IsSpaceNamed s m n → Ties s m → Ties s (record m { stage = Selecting t n 0 })
space_named_ties s m x n same none told t =
    let at : IsStage s m.past (NameSpace x) = subst (IsStage s m.past) same t.stage in
    let kept : IsSpacePicked s m.past m.unnamed_space m.unnamed_terms x = subst (IsKept s m) same t.kept in
    let named = named_space s m x kept.offered n kept.at_site kept.is_some told in
    let termed : terms_offered s n kept.offered.terms ≡ Some 0 = ap (terms_offered s n) (sym kept.is_picked.same_terms ∙ none) in
    staged s m (Selecting x n 0) t (at.0, wants_choice s m x kept.offered n 0 at.1 kept.is_picked named.0 termed, named.1)
    (ap is_after_end same) (ap can_stop same) (only_end s m (NameSpace x) same t (λ n e. e)) tt

-- with terms these are named first
pub space_with_terms_ties : (s : Setting) (m : Kept) (t : Target) (n : ℕ) → m.stage ≡ NameSpace t → IsSome m.unnamed_terms → IsSpaceNamed s m n → Ties s m → Ties s (record m { stage = NameTerms t n })
space_with_terms_ties s m x n same some told t =
    let at : IsStage s m.past (NameSpace x) = subst (IsStage s m.past) same t.stage in
    let kept : IsSpacePicked s m.past m.unnamed_space m.unnamed_terms x = subst (IsKept s m) same t.kept in
    let named = named_space s m x kept.offered n kept.at_site kept.is_some told in
    staged s m (NameTerms x n) t (at.0, at.1, at.2, named.1)
    (ap is_after_end same) (ap can_stop same) (only_end s m (NameSpace x) same t (λ n e. e)) (record { offered = kept.offered; is_picked = kept.is_picked; in_space = named.0; are_some = some })

-- the terms have a number
numbered_terms : (s : Setting) (m : Kept) (n k : ℕ) (terms : Option Terms) → m.unnamed_terms ≡ terms → IsSome m.unnamed_terms → AreTermsNamed s m n k → terms_offered s n terms ≡ Some k
numbered_terms s m n k None is some told = absurd (false≢true (subst IsSome is some))
numbered_terms s m n k (Some terms) is some told = subst (λ o. IfSome o (λ terms. s.terms_no n terms ≡ Some k)) is told

pub terms_named_ties : (s : Setting) (m : Kept) (t : Target) (n k : ℕ) → m.stage ≡ NameTerms t n → AreTermsNamed s m n k → Ties s m → Ties s (record m { stage = Selecting t n k })
terms_named_ties s m x n k same told t =
    let at : IsStage s m.past (NameTerms x n) = subst (IsStage s m.past) same t.stage in
    let kept : AreTermsPicked s m.past m.unnamed_terms x n = subst (IsKept s m) same t.kept in
    staged s m (Selecting x n k) t (at.0, wants_choice s m x kept.offered n k at.1 kept.is_picked kept.in_space (numbered_terms s m n k kept.offered.terms kept.is_picked.same_terms kept.are_some told), at.3)
    (ap is_after_end same) (ap can_stop same) (only_end s m (NameTerms x n) same t (λ n e. e)) tt
