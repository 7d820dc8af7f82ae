-- Who is held for a target is at home there: of the request's own site.
use Rattle.std.proofs.Common.{◌≡◌, inl, inr, ℕ, Bool, true, false, ◌&&◌, ◌||◌, ◌==◌, cond, IsTrue, List, [], ◌∷◌, map, Option, Some, None, option_and_then, option_map, unwrap_or, refl, sym, ap, ◌∙◌, subst, if◌then◌else◌}
use Rattle.std.specs.List.{list_any}
use Rattle.std.proofs.lemmas.Bool.{false≢true}
use Rattle.spaces.specs.declared.roster.Request.{Request}
use Rattle.spaces.specs.declared.roster.Roster.{Roster}
use Rattle.spaces.specs.declared.site.Site.{Site}
use Rattle.spaces.specs.declared.site.Target.{Target}
use Rattle.spaces.specs.ProtectionSpaces.{ProtectionSpace}
use Rattle.spaces.specs.Sites.{numbered, site, same_site, same_target}
use Rattle.auth_events.specs.declared.journal.Gift.{Gift}
use Rattle.auth_events.specs.declared.journal.Call.{Call}
use Rattle.auth_events.specs.declared.journal.Call.TheVariants.{Select}
use Rattle.auth_events.specs.declared.journal.Entry.{Entry}
use Rattle.auth_events.specs.Tables.{Tables}
use Rattle.auth_events.specs.Past.{selects}
use Rattle.auth_events.specs.Book.{IsLegalPast, allowed_call, begins, gift_told, is_open, no_entry, is_default, is_site_of, is_that_gift, own}
use Rattle.auth_events.proofs.Numbers.{and_left, and_right}
use Rattle.auth_events.proofs.Same.{number_same, site_same}
use Rattle.history_laws.specs.Laws.{AreToldAtHome, is_site_named}
use Rattle.history_laws.proofs.Homes.{selected_site}
use Rattle.history_laws.proofs.Telling.{all_told}
use Rattle.auth_runs.specs.declared.event.Event.{Event}
use Rattle.trace_rule.specs.Settings.{target_is}
use Rattle.trace_rule.specs.Entries.{AreEntries, calls, made_in}
use Rattle.trace_rule.specs.Serving.{setting_in}
use Rattle.trace_rule.proofs.Holdings.{WasTold, tells, defaults}
use Rattle.trace_rule.proofs.Negotiating.{equal_targets}
use Rattle.trace_laws.specs.Homes.{IsAtHome}
use Rattle.trace_laws.proofs.Asked.{IsAsked}

-- THE SITE

some_gift : (o : Option Gift) (gift : Gift) → IsTrue (is_that_gift o gift) → (told : Gift) × (o ≡ Some told) × (told.space ≡ gift.space)
some_gift None gift h = absurd (false≢true h)
some_gift (Some told) gift h = (told, refl, number_same told.space gift.space (and_left (told.space == gift.space) (told.ordinal == gift.ordinal) h))

module _ (roster : Roster) (names : Tables) where
  -- what was told in an entry of the request is of one of its sites
  told_site : (entries : List Entry) → AreToldAtHome roster names entries → (r : ℕ) (gift : Gift) → IsTrue (list_any (tells gift) (map made_in (own entries r))) → IsTrue (is_site_named roster names r gift.space)
  told_site [] home r gift told = absurd (false≢true told)
  told_site (entry ∷ entries) home r gift told = at (entry.request == r) refl (told_site entries home.0 r gift) told
    where
      here : IsTrue (entry.request == r) → IsTrue (is_that_gift (gift_told entry.reply) gift) → IsTrue (is_site_named roster names r gift.space)
      here mine now =
          let g = some_gift (gift_told entry.reply) gift now in
          subst (λ n. IsTrue (is_site_named roster names n gift.space)) (number_same entry.request r mine)
          (subst (λ n. IsTrue (is_site_named roster names entry.request n)) g.2 (home.1 g.0 g.1).0)

      either : (a : Bool) → is_that_gift (gift_told entry.reply) gift ≡ a → IsTrue (entry.request == r) → (IsTrue (list_any (tells gift) (map made_in (own entries r))) → IsTrue (is_site_named roster names r gift.space))
          → IsTrue (a || list_any (tells gift) (map made_in (own entries r))) → IsTrue (is_site_named roster names r gift.space)
      either true now mine later h = here mine now
      either false now mine later h = later h

      at : (b : Bool) → (entry.request == r) ≡ b → (IsTrue (list_any (tells gift) (map made_in (own entries r))) → IsTrue (is_site_named roster names r gift.space))
          → IsTrue (list_any (tells gift) (map made_in (cond b (entry ∷ own entries r) (own entries r)))) → IsTrue (is_site_named roster names r gift.space)
      at true mine later h = either (is_that_gift (gift_told entry.reply) gift) refl mine later h
      at false mine later h = later h

  -- so is a space where the request was told the default identity
  default_site : (entries : List Entry) → IsLegalPast roster names entries → (r space : ℕ) → IsTrue (list_any (defaults space) (map made_in (own entries r))) → IsTrue (is_site_named roster names r space)
  default_site [] legal r space told = absurd (false≢true told)
  default_site (entry ∷ entries) legal r space told = at (entry.request == r) refl (default_site entries legal.0 r space) told
    where
      selected : (call : Call) → IsTrue (allowed_call roster names entries entry.request call) → IsTrue (selects call space) → IsTrue (is_site_named roster names entry.request space)
      selected (Select s t) may chosen = subst (λ n. IsTrue (is_site_named roster names entry.request n)) (number_same s space chosen) (selected_site roster names entries entry.request s t may)
      selected call may chosen = absurd (false≢true chosen)

      here : IsTrue (entry.request == r) → IsTrue (is_default entry.reply && selects entry.call space) → IsTrue (is_site_named roster names r space)
      here mine now =
          subst (λ n. IsTrue (is_site_named roster names n space)) (number_same entry.request r mine)
          (selected entry.call (and_right (if begins entry.call then no_entry entries entry.request else is_open entries entry.caller entry.request) (allowed_call roster names entries entry.request entry.call) legal.1.0) (and_right (is_default entry.reply) (selects entry.call space) now))

      either : (a : Bool) → (is_default entry.reply && selects entry.call space) ≡ a → IsTrue (entry.request == r) → (IsTrue (list_any (defaults space) (map made_in (own entries r))) → IsTrue (is_site_named roster names r space))
          → IsTrue (a || list_any (defaults space) (map made_in (own entries r))) → IsTrue (is_site_named roster names r space)
      either true now mine later h = here mine now
      either false now mine later h = later h

      at : (b : Bool) → (entry.request == r) ≡ b → (IsTrue (list_any (defaults space) (map made_in (own entries r))) → IsTrue (is_site_named roster names r space))
          → IsTrue (list_any (defaults space) (map made_in (cond b (entry ∷ own entries r) (own entries r)))) → IsTrue (is_site_named roster names r space)
      at true mine later h = either (is_default entry.reply && selects entry.call space) refl mine later h
      at false mine later h = later h

  -- what the request was told is of one of its sites
  pub was_told_site : (entries : List Entry) → IsLegalPast roster names entries → (r : ℕ) (whole : List Event) → AreEntries entries r whole → (gift : Gift) → WasTold gift (calls whole) → IsTrue (is_site_named roster names r gift.space)
  was_told_site entries legal r whole same gift (inl told) = told_site entries (all_told roster names entries legal) r gift (subst (λ xs. IsTrue (list_any (tells gift) xs)) (sym same) told)
  was_told_site entries legal r whole same gift (inr (none, told)) = default_site entries legal r gift.space (subst (λ xs. IsTrue (list_any (defaults gift.space) xs)) (sym same) told)

  -- of its sites the one for the space's target
  pub home_of : (negotiate : Bool) (seed : List ℕ) (entries : List Entry) (r : ℕ) (request : Request) → numbered roster.requests r ≡ Some request → (past : List Event) (t : Target) (gift : Gift)
      → IsTrue (target_is (setting_in negotiate roster seed names entries r request) gift.space t) → IsAsked (setting_in negotiate roster seed names entries r request) past t gift → IsTrue (is_site_named roster names r gift.space)
      → IsAtHome names request (setting_in negotiate roster seed names entries r request) past t gift
  home_of negotiate seed entries r request in_roster past t gift target asked home = at (numbered names.spaces gift.space) refl target home
    where
      AtHome : Type 0
      AtHome = IsAtHome names request (setting_in negotiate roster seed names entries r request) past t gift

      found : (space : ProtectionSpace) → numbered names.spaces gift.space ≡ Some space → space.site.target ≡ t → (o : Option Site) → site request t ≡ o → IsTrue (unwrap_or (option_map (λ place. same_site place space.site) o) false) → AtHome
      found space e same None k h = absurd (false≢true h)
      found space e same (Some place) k h = record { space = space; is_space = e; is_site = k ∙ ap Some (site_same place space.site h); is_asked = asked space e }

      at : (o : Option ProtectionSpace) → numbered names.spaces gift.space ≡ o → IsTrue (unwrap_or (option_map (λ space. same_target space.site.target t) o) false) → IsTrue (unwrap_or (option_map (is_site_of roster r) o) false) → AtHome
      at None e p h = absurd (false≢true p)
      at (Some space) e p h =
          let same : space.site.target ≡ t = equal_targets space.site.target t p in
          found space e same (site request t) refl
          (ap (λ o. unwrap_or (option_map (λ place. same_site place space.site) o) false) (ap (site request) (sym same) ∙ ap (option_and_then (λ q. site q space.site.target)) (sym in_roster)) ∙ h)
