-- One trace more, and the first that has not ended.
use Rattle.std.proofs.Common.{◌≡◌, ℕ, zero, suc, ◌+◌, ◌-◌, ◌<◌, ◌||◌, ◌&&◌, ◌==◌, not, Option, cond, Bool, true, false, List, [], ◌∷◌, ◌++◌, length, Some, None, refl, sym, ap, ◌∙◌, arith, subst}
use Rattle.std.specs.List.{list_any, count_by, fold}
use Rattle.std.proofs.lemmas.Bool.{true≢false, false≢true}
use Rattle.report_reading.specs.Reading.{event_at}
use Rattle.report_reading.specs.Words.{◌>>=◌}
use Rattle.std.specs.Prelude.{slice_get, option_map}
use Rattle.auth_events.specs.declared.journal.Entry.{Entry}
use Rattle.auth_runs.specs.declared.event.Event.{Event}
use Rattle.auth_runs.specs.Runs.{ends, is_whole}
use Rattle.auth_report.specs.Sections.{taken}
use Rattle.auth_report.specs.Steps.{event_step, own, calls, is_call, may_come, if_so}
use Rattle.auth_report.specs.Reading.{IsTraceFront, traces_front}

pub traces_more : (journal : List Entry) (n i : ℕ) (traces : List (List Event)) (events : List Event) (all left : List (List ℕ)) → i < n → length traces ≡ i
    → IsTraceFront (taken (event_step (own journal (i + 1)) (i + 1)) [] all) (Some events) left
    → traces_front journal (n - i) traces all ≡ traces_front journal (n - (i + 1)) (traces ++ events ∷ []) left
traces_more journal n i traces events all left less count f =
    let k : n - i ≡ suc (n - (i + 1)) = omega (arith, less) in
    let r : length traces + 1 ≡ i + 1 = omega (arith, count) in
    rw (k, r, f.0, f.1) refl

pub traces_stop : (journal : List Entry) (n i : ℕ) (traces : List (List Event)) (all left : List (List ℕ)) → i < n → length traces ≡ i
    → IsTraceFront (taken (event_step (own journal (i + 1)) (i + 1)) [] all) None left
    → traces_front journal (n - i) traces all ≡ (traces, left)
traces_stop journal n i traces all left less count f =
    let k : n - i ≡ suc (n - (i + 1)) = omega (arith, less) in
    let r : length traces + 1 ≡ i + 1 = omega (arith, count) in
    rw (k, r, f.1, f.0) refl

no_left : (a b : Bool) → (a || b) ≡ false → (a ≡ false) × (b ≡ false)
no_left true b h = absurd (true≢false h)
no_left false b h = (refl, h)

-- events of which none ends, with one more
pub none_push : (events : List Event) (e : Event) → list_any ends events ≡ false → ends e ≡ false → list_any ends (events ++ e ∷ []) ≡ false
none_push [] e none last = rw last refl
none_push (d ∷ events) e none last =
    let parts = no_left (ends d) (list_any ends events) none in rw (parts.0, none_push events e parts.1 last) refl

pub whole_push : (events : List Event) (e : Event) → list_any ends events ≡ false → is_whole (events ++ e ∷ []) ≡ ends e
whole_push [] e none = refl
whole_push (d ∷ []) e none = let parts = no_left (ends d) false none in rw parts.0 refl
whole_push (d ∷ c ∷ events) e none =
    let parts = no_left (ends d) (list_any ends (c ∷ events)) none in rw parts.0 (whole_push (c ∷ events) e parts.1)

pub not_whole : (events : List Event) → list_any ends events ≡ false → is_whole events ≡ false
not_whole [] none = refl
not_whole (d ∷ []) none = (no_left (ends d) false none).0
not_whole (d ∷ c ∷ events) none =
    let parts = no_left (ends d) (list_any ends (c ∷ events)) none in rw parts.0 (not_whole (c ∷ events) parts.1)

fold_push : (f : ℕ → Event → ℕ) (n : ℕ) (events : List Event) (e : Event) → fold f n (events ++ e ∷ []) ≡ f (fold f n events) e
fold_push f n [] e = refl
fold_push f n (d ∷ events) e = fold_push f (f n d) events e

pub calls_push : (events : List Event) (e : Event) → calls (events ++ e ∷ []) ≡ calls events + cond (is_call e) 1 0
calls_push events e = fold_push (λ a x. a + cond (is_call x) 1 0) 0 events e

whole_step : (entries : List Entry) (r : ℕ) (events : List Event) (line : List ℕ) → is_whole events ≡ true → event_step entries r events line ≡ None
whole_step entries r events line whole = by_event (event_at (slice_get entries (calls events)) r line) where
  by_event : (o : Option Event) → (o >>= λ event. if_so (may_come entries events event) (events ++ event ∷ [])) ≡ None
  by_event None = refl
  by_event (Some event) = rw whole refl

whole_stop : (entries : List Entry) (r : ℕ) (events : List Event) (lines : List (List ℕ)) → is_whole events ≡ true → taken (event_step entries r) events lines ≡ (events, lines)
whole_stop entries r events [] whole = refl
whole_stop entries r events (line ∷ lines) whole = rw (whole_step entries r events line whole) refl

pub ended_here : (entries : List Entry) (r : ℕ) (events : List Event) (e : Event) (line : List ℕ) (lines : List (List ℕ)) → event_step entries r events line ≡ Some (events ++ e ∷ [])
    → is_whole (events ++ e ∷ []) ≡ true → taken (event_step entries r) events (line ∷ lines) ≡ (events ++ e ∷ [], lines)
ended_here entries r events e line lines step whole = rw step (whole_stop entries r (events ++ e ∷ []) lines whole)

pub stop_by : (journal : List Entry) (n i : ℕ) (traces : List (List Event)) (all left : List (List ℕ)) (o : List Entry) (t : Option (List Event)) → o ≡ own journal (i + 1) → t ≡ None
    → i < n → length traces ≡ i → IsTraceFront (taken (event_step o (i + 1)) [] all) t left → traces_front journal (n - i) traces all ≡ (traces, left)
stop_by journal n i traces all left o t same none less count f =
    traces_stop journal n i traces all left less count
    (subst (λ (o : List Entry). IsTraceFront (taken (event_step o (i + 1)) [] all) None left) same
    (subst (λ (t : Option (List Event)). IsTraceFront (taken (event_step o (i + 1)) [] all) t left) none f))

pub more_by : (journal : List Entry) (n i : ℕ) (traces : List (List Event)) (events : List Event) (all left : List (List ℕ)) (o : List Entry) (t : Option (List Event)) → o ≡ own journal (i + 1)
    → t ≡ Some events → i < n → length traces ≡ i → IsTraceFront (taken (event_step o (i + 1)) [] all) t left
    → traces_front journal (n - i) traces all ≡ traces_front journal (n - (i + 1)) (traces ++ events ∷ []) left
more_by journal n i traces events all left o t same some less count f =
    traces_more journal n i traces events all left less count
    (subst (λ (o : List Entry). IsTraceFront (taken (event_step o (i + 1)) [] all) (Some events) left) same
    (subst (λ (t : Option (List Event)). IsTraceFront (taken (event_step o (i + 1)) [] all) t left) some f))

pub end_by : (entries : List Entry) (r : ℕ) (events seen : List Event) (e : Event) (o : Option Event) (pushed made : List Event) (ended : Bool) (line : List ℕ) (all left first : List (List ℕ))
    → seen ≡ events → o ≡ Some e → option_map (λ x. seen ++ x ∷ []) o ≡ event_step entries r seen line → pushed ≡ events ++ e ∷ [] → made ≡ pushed → ended ≡ ends e → ended ≡ true
    → list_any ends events ≡ false → all ≡ line ∷ left → taken (event_step entries r) events all ≡ taken (event_step entries r) [] first
    → (taken (event_step entries r) [] first ≡ (made, left)) × (is_whole made ≡ true)
end_by entries r events seen e o pushed made ended line all left first seen_is some told pushed_is made_is ended_is true_is none lines_are so_far =
    let step : event_step entries r events line ≡ Some (events ++ e ∷ []) =
    sym (subst (λ (s : List Event). option_map (λ x. s ++ x ∷ []) o ≡ event_step entries r s line) seen_is told) ∙ ap (option_map (λ x. events ++ x ∷ [])) some in
    let whole : is_whole (events ++ e ∷ []) ≡ true = whole_push events e none ∙ sym ended_is ∙ true_is in
    let made_events : made ≡ events ++ e ∷ [] = made_is ∙ pushed_is in
    let here : taken (event_step entries r) events all ≡ (events ++ e ∷ [], left) = ap (taken (event_step entries r) events) lines_are ∙ ended_here entries r events e line left step whole in
    (sym so_far ∙ here ∙ ap (λ (m : List Event). (m, left)) (sym made_events), ap is_whole made_events ∙ whole)
