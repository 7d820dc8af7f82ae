-- What a dialer tells of a past.
use Rattle.std.proofs.Common.{◌≡◌, ℕ, List, [], ◌∷◌, ◌++◌, Option, Some, None, refl, sym, ap, ◌∙◌, append_assoc, unwrap_or}
use Rattle.std.proofs.lemmas.List.{append-nil}
use Rattle.spaces.specs.declared.roster.Request.{Request}
use Rattle.link_trait.specs.declared.dialer.Dial.{Dial}
use Rattle.link_trait.specs.Told.{grown}
use Rattle.auth_runs.specs.declared.event.Event.TheVariants.{Dialed}
use Rattle.trace_rule.specs.Settings.{Setting}
use Rattle.trace_rule.specs.Telling.{dials}
use Rattle.request_machine.specs.Kept.{Kept, Ties}

pub grown_more : {A : Type 0} (before : Option (List A)) (xs ys : List A) → grown (grown before xs) ys ≡ grown before (xs ++ ys)
grown_more None xs ys = refl
grown_more (Some before) xs ys = ap Some (append_assoc before xs ys)

pub grown_none : {A : Type 0} (before : Option (List A)) → grown before [] ≡ before
grown_none None = refl
grown_none (Some before) = ap Some (append-nil before)

-- one more dial
pub one_dial : (s : Setting) (m : Kept) (request : Request) (before old : Option (List Dial)) (link : ℕ) → s.request ≡ request → Ties s m → old ≡ grown before (dials s m.past)
    → grown old (record { link = record { request = m.number; nth = link }; to = unwrap_or request.proxy request.place.origin } ∷ []) ≡ grown before (dials s (Dialed link ∷ m.past))
one_dial s m request before old link same t told =
    ap (λ o. grown o (record { link = record { request = m.number; nth = link }; to = unwrap_or request.proxy request.place.origin } ∷ [])) told
    ∙ grown_more before (dials s m.past) (record { link = record { request = m.number; nth = link }; to = unwrap_or request.proxy request.place.origin } ∷ [])
    ∙ ap (λ n. grown before (dials s m.past ++ record { link = record { request = n; nth = link }; to = unwrap_or request.proxy request.place.origin } ∷ [])) (sym t.same_number)
    ∙ ap (λ (r : Request). grown before (dials s m.past ++ record { link = record { request = s.number; nth = link }; to = unwrap_or r.proxy r.place.origin } ∷ [])) (sym same)
