-- The lines of a roster are taken as that roster.
use Rattle.std.proofs.Common.{◌≡◌, ℕ, ◌+◌, ◌^◌, ◌<◌, ◌≤◌, true, List, [], ◌∷◌, ◌++◌, length, map, Some, refl, ap, ◌∙◌, arith, append_assoc, append-nil, length-append}
use Rattle.spaces.specs.Places.{IsPlaced}
use Rattle.spaces.specs.declared.place.Origin.{Origin}
use Rattle.spaces.specs.declared.roster.Request.{Request}
use Rattle.spaces.specs.declared.roster.Roster.{Roster}
use Rattle.auth_runs.specs.Runs.{Each}
use Rattle.report_lines.specs.RosterLines.{default_line, request_line}
use Rattle.report_reading.specs.Words.{words}
use Rattle.report_reading.specs.Forms.{default_form, request_form}
use Rattle.report_reading.specs.Reading.{default_at, request_at}
use Rattle.auth_report.specs.Sections.{taken}
use Rattle.auth_report.specs.Steps.{default_step, request_step}
use Rattle.auth_report.specs.Reading.{roster_front}
use Rattle.report_laws.specs.Ranges.{OriginHolds, RequestHolds}
use Rattle.report_laws.specs.Lines.{numbered_lines}
use Rattle.report_laws.proofs.LinesAgain.{default_again}
use Rattle.report_laws.proofs.RosterAgain.{request_again}
use Rattle.report_laws.proofs.Fronts.{Refuses, begins, later, lt_test, none_taken, other_kind, taken_more, taken_stop}

default_stops : (s : List Origin) (lines : List (List ℕ)) → begins 2 lines ≡ true → Refuses default_step s lines
default_stops s [] h = tt
default_stops s (line ∷ lines) h =
    none_taken (default_at line) (λ x. Some (s ++ x ∷ [])) (other_kind (default_form (words line)) default_line line 1 (λ x. refl) h)

request_stops : (s : List Request) (lines : List (List ℕ)) → begins 3 lines ≡ true → Refuses request_step s lines
request_stops s [] h = tt
request_stops s (line ∷ lines) h =
    none_taken (request_at (length s + 1) line) _ (other_kind (request_form (words line)) (request_line (length s + 1)) line 2 (λ x. refl) h)

defaults_taken : (s xs : List Origin) (more : List (List ℕ)) → Each OriginHolds xs → taken default_step s (map default_line xs ++ more) ≡ taken default_step (s ++ xs) more
defaults_taken s [] more h = rw (append-nil s) refl
defaults_taken s (x ∷ xs) more h =
    let step : default_step s (default_line x) ≡ Some (s ++ x ∷ []) = rw (default_again x h.0) refl in
    taken_more default_step s (s ++ x ∷ []) (default_line x) (map default_line xs ++ more) step
    ∙ defaults_taken (s ++ x ∷ []) xs more h.1
    ∙ ap (λ (t : List Origin). taken default_step t more) (append_assoc s (x ∷ []) xs)

requests_taken : (s xs : List Request) (more : List (List ℕ)) → Each RequestHolds xs → Each IsPlaced xs → length s + length xs ≤ 2048
    → taken request_step s (numbered_lines request_line (length s + 1) xs ++ more) ≡ taken request_step (s ++ xs) more
requests_taken s [] more h placed few = rw (append-nil s) refl
requests_taken s (x ∷ xs) more h placed few =
    let small : length s + 1 < 2 ^ 32 = omega (arith, few) in
    let room = lt_test (length s) 2048 (omega (arith, few)) in
    let step : request_step s (request_line (length s + 1) x) ≡ Some (s ++ x ∷ []) = rw (request_again (length s + 1) x small h.0 placed.0, room) refl in
    let next : length s + 1 + 1 ≡ length (s ++ x ∷ []) + 1 = omega (arith, length-append s (x ∷ [])) in
    let fewer : length (s ++ x ∷ []) + length xs ≤ 2048 = omega (arith, few, length-append s (x ∷ [])) in
    taken_more request_step s (s ++ x ∷ []) (request_line (length s + 1) x) (numbered_lines request_line (length s + 1 + 1) xs ++ more) step
    ∙ ap (λ (n : ℕ). taken request_step (s ++ x ∷ []) (numbered_lines request_line n xs ++ more)) next
    ∙ requests_taken (s ++ x ∷ []) xs more h.1 placed.1 fewer
    ∙ ap (λ (t : List Request). taken request_step t more) (append_assoc s (x ∷ []) xs)

requests_begin : (xs : List Request) (more : List (List ℕ)) → begins 3 more ≡ true → begins 2 (numbered_lines request_line 1 xs ++ more) ≡ true
requests_begin [] more h = later 2 3 more (omega arith) h
requests_begin (x ∷ xs) more h = refl

abbrev with_allowed : List Origin → List Request × List (List ℕ) → Roster × List (List ℕ)
with_allowed allowed got = (record { requests = got.0; allowed = allowed }, got.1)

abbrev behind_allowed : List Origin × List (List ℕ) → Roster × List (List ℕ)
behind_allowed got = with_allowed got.0 (taken request_step [] got.1)

pub roster_again : (roster : Roster) (more : List (List ℕ)) → Each OriginHolds roster.allowed → Each RequestHolds roster.requests → Each IsPlaced roster.requests
    → length roster.requests ≤ 2048 → begins 3 more ≡ true
    → roster_front (map default_line roster.allowed ++ (numbered_lines request_line 1 roster.requests ++ more)) ≡ (roster, more)
roster_again roster more allowed requests placed few behind =
    let rest : List (List ℕ) = numbered_lines request_line 1 roster.requests ++ more in
    let first : taken default_step [] (map default_line roster.allowed ++ rest) ≡ (roster.allowed, rest) =
    defaults_taken [] roster.allowed rest allowed
    ∙ taken_stop default_step roster.allowed rest (default_stops roster.allowed rest (requests_begin roster.requests more behind)) in
    let second : taken request_step [] rest ≡ (roster.requests, more) =
    requests_taken [] roster.requests more requests placed (omega (arith, few)) ∙ taken_stop request_step roster.requests more (request_stops roster.requests more behind) in
    ap behind_allowed first ∙ ap (with_allowed roster.allowed) second
