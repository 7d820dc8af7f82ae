-- A history is the journal with draws put in: without the draws it is the journal again.
use Rattle.std.proofs.Common.{◌≡◌, ℕ, zero, suc, ◌+◌, Bool, true, false, not, ◌||◌, cond, List, [], ◌∷◌, ◌++◌, refl, sym, ap, ◌∙◌}
use Rattle.std.specs.List.{list_any}
use Rattle.std.proofs.lemmas.Bool.{false≢true}
use Rattle.std.proofs.lemmas.List.Elements.{filter-append}
use Rattle.auth_events.specs.declared.journal.Entry.{Entry}
use Rattle.auth_events.specs.Book.{draws, without_draws}
use Rattle.auth_events.specs.Fresh.{StepTold, draws_behind, draws_in_front, merge, merge_behind, trace_of}
use Rattle.auth_events.specs.Fresh.StepTold.{DidCall, DidDraw}
use Rattle.auth_events.specs.Pages.{count_of}

abbrev is_kept : Entry → Bool
is_kept entry = not (draws entry.call)

-- what is put in are draws
none_behind : (caller r : ℕ) (steps : List StepTold) (k : ℕ) → without_draws (draws_behind caller r steps k) ≡ []
none_behind caller r [] k = refl
none_behind caller r (DidCall ∷ steps) zero = refl
none_behind caller r (DidCall ∷ steps) (suc k) = none_behind caller r steps k
none_behind caller r (DidDraw nonce count epoch ∷ steps) zero = none_behind caller r steps 0
none_behind caller r (DidDraw nonce count epoch ∷ steps) (suc k) = none_behind caller r steps (suc k)

none_in_front : (r : ℕ) (traces : List (List StepTold)) → without_draws (draws_in_front r traces) ≡ []
none_in_front r [] = refl
none_in_front r (steps ∷ traces) =
    filter-append is_kept (draws_behind 0 r steps 0) (draws_in_front (r + 1) traces)
    ∙ (ap (λ l. l ++ without_draws (draws_in_front (r + 1) traces)) (none_behind 0 r steps 0) ∙ none_in_front (r + 1) traces)

neither : (a b : Bool) → (a || b) ≡ false → (a ≡ false) × (b ≡ false)
neither true b none = absurd (false≢true (sym none))
neither false b none = (refl, none)

rest_behind : (traces : List (List StepTold)) (past rest : List Entry) → list_any (λ entry. draws entry.call) rest ≡ false → without_draws (merge_behind traces past rest) ≡ rest
rest_behind traces past [] none = refl
rest_behind traces past (entry ∷ rest) none =
    let parts = neither (draws entry.call) (list_any (λ e. draws e.call) rest) none in
    let put : List Entry = draws_behind entry.caller entry.request (trace_of traces entry.request) (count_of entry.request past + 1) in
    let later : List Entry = put ++ merge_behind traces (entry ∷ past) rest in
    ap (λ b. cond (not b) (entry ∷ without_draws later) (without_draws later)) parts.0
    ∙ ap (λ l. entry ∷ l)
    (filter-append is_kept put (merge_behind traces (entry ∷ past) rest)
    ∙ (ap (λ l. l ++ without_draws (merge_behind traces (entry ∷ past) rest)) (none_behind entry.caller entry.request (trace_of traces entry.request) (count_of entry.request past + 1))
    ∙ rest_behind traces (entry ∷ past) rest parts.1))

pub merged_without : (traces : List (List StepTold)) (journal : List Entry) → list_any (λ entry. draws entry.call) journal ≡ false → without_draws (merge journal traces) ≡ journal
merged_without traces journal none =
    filter-append is_kept (draws_in_front 1 traces) (merge_behind traces [] journal)
    ∙ (ap (λ l. l ++ without_draws (merge_behind traces [] journal)) (none_in_front 1 traces) ∙ rest_behind traces [] journal none)
