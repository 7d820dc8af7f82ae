-- The lines of spaces and texts are taken as those.
use Rattle.std.proofs.Common.{◌≡◌, ℕ, ◌+◌, ◌*◌, ◌^◌, ◌<◌, ◌≤◌, Bool, true, List, [], ◌∷◌, ◌++◌, length, Option, Some, None, refl, sym, ap, subst, ◌∙◌, arith, append_assoc, append-nil, length-append}
use Rattle.std.specs.Prelude.{is_some, is_none}
use Rattle.auth_text.specs.Login.{Login}
use Rattle.spaces.specs.ProtectionSpaces.{ProtectionSpace}
use Rattle.spaces.specs.Sites.{numbered, same_space}
use Rattle.auth_events.specs.Tables.{Tables, IsNumberedOnce, number_of, space_number, with_space, with_text}
use Rattle.auth_events.proofs.Numbers.{first_numbered, numbered-append, numbered-last, numbered_in}
use Rattle.auth_events.proofs.Same.{space_same}
use Rattle.auth_runs.specs.Runs.{Each}
use Rattle.report_lines.specs.NameLines.{space_line, text_line}
use Rattle.report_reading.specs.Words.{words}
use Rattle.report_reading.specs.Forms.{space_form, text_form}
use Rattle.report_reading.specs.Reading.{space_at, text_at}
use Rattle.auth_report.specs.Sections.{taken}
use Rattle.auth_report.specs.Steps.{space_step, text_step}
use Rattle.report_laws.specs.Ranges.{SpaceHolds, TextHolds}
use Rattle.report_laws.specs.Lines.{numbered_lines}
use Rattle.report_laws.proofs.LinesAgain.{space_again}
use Rattle.report_laws.proofs.TextsAgain.{text_again}
use Rattle.report_laws.proofs.Fronts.{Refuses, begins, lt_test, none_taken, other_kind, taken_more}

-- NUMBERS

-- the thing behind the first ones
pub numbered_next : {A : Type 0} (done : List A) (x : A) (xs : List A) → numbered (done ++ x ∷ xs) (length done + 1) ≡ Some x
numbered_next done x xs =
    let last = numbered-last done x in
    ap (λ (all : List _). numbered all (length done + 1)) (sym (append_assoc done (x ∷ []) xs))
    ∙ numbered-append (done ++ x ∷ []) xs (length done + 1) (ap is_some last)
    ∙ last

-- a thing among the first ones
pub numbered_before : {A : Type 0} (done xs : List A) (i : ℕ) (y : A) → numbered done i ≡ Some y → numbered (done ++ xs) i ≡ Some y
numbered_before done xs i y at = numbered-append done xs i (ap is_some at) ∙ at

pub within : {A : Type 0} (xs : List A) (i : ℕ) (y : A) → numbered xs i ≡ Some y → (1 ≤ i) × (i ≤ length xs)
within xs i y at = numbered_in xs i (ap is_some at)

-- nothing that passes has a number
pub not_found : {A : Type 0} (test : A → Bool) (xs : List A) → ((i : ℕ) (y : A) → numbered xs i ≡ Some y → test y ≡ true → ⊥) → number_of test xs ≡ None
not_found test xs none = by (number_of test xs) refl where
  by : (o : Option ℕ) → number_of test xs ≡ o → o ≡ None
  by None is = refl
  by (Some k) is = let at = first_numbered test xs k is in absurd (none k at.thing at.is_there at.passes)

-- SPACES

pub space_stops : (n : ℕ) (s : Tables) (lines : List (List ℕ)) → begins 4 lines ≡ true → Refuses (space_step n) s lines
space_stops n s [] h = tt
space_stops n s (line ∷ lines) h =
    none_taken (space_at (length s.spaces + 1) line) _ (other_kind (space_form (words line)) (space_line (length s.spaces + 1)) line 3 (λ x. refl) h)

new_space : (names : Tables) (x : ProtectionSpace) (xs : List ProtectionSpace) → IsNumberedOnce (names.spaces ++ x ∷ xs) → space_number names x ≡ None
new_space names x xs once = not_found (λ named. same_space named x) names.spaces (λ i y at same.
    let it : y ≡ x = space_same y x same in
    let first : numbered (names.spaces ++ x ∷ xs) i ≡ Some x = numbered_before names.spaces (x ∷ xs) i y at ∙ ap Some it in
    let equal = once x i (length names.spaces + 1) first (numbered_next names.spaces x xs) in
    let few = (within names.spaces i y at).1 in
    absurd (omega (arith, equal, few)))

abbrev pub with_spaces : Tables → List ProtectionSpace → Tables
with_spaces names spaces = record names { spaces = spaces }

pub spaces_taken : (n : ℕ) (names : Tables) (xs : List ProtectionSpace) (more : List (List ℕ)) → Each SpaceHolds xs → IsNumberedOnce (names.spaces ++ xs)
    → length names.spaces + length xs ≤ 64 * n → n ≤ 2048
    → taken (space_step n) names (numbered_lines space_line (length names.spaces + 1) xs ++ more) ≡ taken (space_step n) (with_spaces names (names.spaces ++ xs)) more
spaces_taken n names [] more h once few small = ap (λ (spaces : List ProtectionSpace). taken (space_step n) (with_spaces names spaces) more) (sym (append-nil names.spaces))
spaces_taken n names (x ∷ xs) more h once few small =
    let number : length names.spaces + 1 < 2 ^ 32 = omega (arith, few, small) in
    let room = lt_test (length names.spaces) (64 * n) (omega (arith, few)) in
    let new : is_none (space_number names x) ≡ true = ap is_none (new_space names x xs once) in
    let step : space_step n names (space_line (length names.spaces + 1) x) ≡ Some (with_space names x) =
    rw (space_again (length names.spaces + 1) x number h.0, room, new) refl in
    let next : length names.spaces + 1 + 1 ≡ length (names.spaces ++ x ∷ []) + 1 = omega (arith, length-append names.spaces (x ∷ [])) in
    let fewer : length (names.spaces ++ x ∷ []) + length xs ≤ 64 * n = omega (arith, few, length-append names.spaces (x ∷ [])) in
    let flat = append_assoc names.spaces (x ∷ []) xs in
    taken_more (space_step n) names (with_space names x) (space_line (length names.spaces + 1) x) (numbered_lines space_line (length names.spaces + 1 + 1) xs ++ more) step
    ∙ ap (λ (k : ℕ). taken (space_step n) (with_space names x) (numbered_lines space_line k xs ++ more)) next
    ∙ spaces_taken n (with_space names x) xs more h.1 (subst (λ (all : List ProtectionSpace). IsNumberedOnce all) (sym flat) once) fewer small
    ∙ ap (λ (spaces : List ProtectionSpace). taken (space_step n) (with_spaces names spaces) more) flat

-- TEXTS

pub text_stops : (n : ℕ) (s : Tables) (lines : List (List ℕ)) → begins 6 lines ≡ true → Refuses (text_step n) s lines
text_stops n s [] h = tt
text_stops n s (line ∷ lines) h =
    none_taken (text_at (length s.texts + 1) line) _ (other_kind (text_form (words line)) (text_line (length s.texts + 1)) line 5 (λ x. refl) h)

abbrev pub with_texts : Tables → List Login → Tables
with_texts names texts = record names { texts = texts }

pub texts_taken : (n : ℕ) (names : Tables) (xs : List Login) (more : List (List ℕ)) → Each TextHolds xs → length names.texts + length xs ≤ 64 * n → n ≤ 2048
    → taken (text_step n) names (numbered_lines text_line (length names.texts + 1) xs ++ more) ≡ taken (text_step n) (with_texts names (names.texts ++ xs)) more
texts_taken n names [] more h few small = ap (λ (texts : List Login). taken (text_step n) (with_texts names texts) more) (sym (append-nil names.texts))
texts_taken n names (x ∷ xs) more h few small =
    let number : length names.texts + 1 < 2 ^ 32 = omega (arith, few, small) in
    let room = lt_test (length names.texts) (64 * n) (omega (arith, few)) in
    let step : text_step n names (text_line (length names.texts + 1) x) ≡ Some (with_text names x) =
    rw (text_again (length names.texts + 1) x number h.0, room) refl in
    let next : length names.texts + 1 + 1 ≡ length (names.texts ++ x ∷ []) + 1 = omega (arith, length-append names.texts (x ∷ [])) in
    let fewer : length (names.texts ++ x ∷ []) + length xs ≤ 64 * n = omega (arith, few, length-append names.texts (x ∷ [])) in
    taken_more (text_step n) names (with_text names x) (text_line (length names.texts + 1) x) (numbered_lines text_line (length names.texts + 1 + 1) xs ++ more) step
    ∙ ap (λ (k : ℕ). taken (text_step n) (with_text names x) (numbered_lines text_line k xs ++ more)) next
    ∙ texts_taken n (with_text names x) xs more h.1 fewer small
    ∙ ap (λ (texts : List Login). taken (text_step n) (with_texts names texts) more) (append_assoc names.texts (x ∷ []) xs)
