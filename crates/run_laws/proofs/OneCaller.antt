-- Where one caller serves all requests, the traces make the journal.
use Rattle.std.proofs.Common.{◌≡◌, ℕ, ◌+◌, ◌-◌, ◌%◌, ◌==◌, Bool, true, false, cond, List, [], ◌∷◌, length, refl, sym, ap, ◌∙◌, arith}
use Rattle.std.specs.Prelude.{filter}
use Rattle.std.specs.List.{flat_map, range_with_len}
use Rattle.std.proofs.lemmas.Bool.{eqb-true}
use Rattle.spaces.specs.declared.roster.Roster.{Roster}
use Rattle.auth_events.specs.Tables.{Tables}
use Rattle.auth_events.specs.declared.journal.Entry.{Entry}
use Rattle.auth_events.proofs.Same.{number_refl}
use Rattle.auth_runs.specs.declared.event.Event.{Event}
use Rattle.auth_runs.specs.Runs.{Run, AreOnce, calls_of}
use Rattle.run_rule.specs.Outside.{Outside}
use Rattle.run_rule.specs.Runs.{IsRunByOne}

-- a caller who serves nothing
none_pass : (test : ℕ → Bool) → ((n : ℕ) → test n ≡ false) → (ns : List ℕ) → filter test ns ≡ []
none_pass test none [] = refl
none_pass test none (n ∷ ns) = ap (λ b. cond b (n ∷ filter test ns) (filter test ns)) (none n) ∙ none_pass test none ns

first_caller : (r : ℕ) → (r - 1) % 1 + 1 ≡ 1
first_caller r = omega arith

serves_nothing : (run : Run) (caller : ℕ) → (1 == caller) ≡ false → calls_of 1 run caller ≡ []
serves_nothing run caller other =
    ap (flat_map _) (none_pass (λ r. (r - 1) % 1 + 1 == caller) (λ r. ap (λ n. n == caller) (first_caller r) ∙ other) (range_with_len 1 (length run.traces)))

-- entries of which no other caller made any are all his
abbrev of : List Entry → ℕ → List Entry
of entries caller = filter (λ entry. entry.caller == caller) entries

rest_none : (entry : Entry) (entries : List Entry) (caller : ℕ) → of (entry ∷ entries) caller ≡ [] → of entries caller ≡ []
rest_none entry entries caller none = at (entry.caller == caller) none
  where
    at : (b : Bool) → cond b (entry ∷ of entries caller) (of entries caller) ≡ [] → of entries caller ≡ []
    at true e = let clash : entry ∷ of entries caller ≡ [] = e in cc
    at false e = e

some_own : (entry : Entry) (entries : List Entry) → of (entry ∷ entries) entry.caller ≡ [] → ⊥
some_own entry entries none =
    let clash : entry ∷ of entries entry.caller ≡ [] = sym (ap (λ b. cond b (entry ∷ of entries entry.caller) (of entries entry.caller)) (number_refl entry.caller)) ∙ none in cc

is_first : (caller : ℕ) (b : Bool) → (1 == caller) ≡ b → (b ≡ false → ⊥) → (caller == 1) ≡ true
is_first caller true e none = ap (λ n. n == 1) (sym (eqb-true 1 caller e))
is_first caller false e none = absurd (none refl)

all_own : (entries : List Entry) → ((caller : ℕ) → (1 == caller) ≡ false → of entries caller ≡ []) → of entries 1 ≡ entries
all_own [] none = refl
all_own (entry ∷ entries) none =
    let own : (entry.caller == 1) ≡ true = is_first entry.caller (1 == entry.caller) refl (λ other. some_own entry entries (none entry.caller other)) in
    ap (λ b. cond b (entry ∷ of entries 1) (of entries 1)) own
    ∙ ap (λ xs. entry ∷ xs) (all_own entries (λ caller other. rest_none entry entries caller (none caller other)))

pub calls_make : (run : Run) → AreOnce 1 run → run.journal ≡ calls_of 1 run 1
calls_make run once = sym (all_own run.journal (λ caller other. once caller ∙ serves_nothing run caller other)) ∙ once 1

pub journal_is_calls : (roster : Roster) (outside : Outside) (seed : List ℕ) (run : Run) → IsRunByOne roster outside seed run → run.journal ≡ calls_of 1 run 1
journal_is_calls roster outside seed run is = calls_make run is.is_run.once

-- THE RUN

abbrev run_of : List ℕ → Roster → Tables → List Entry → List (List Event) → Run
run_of seed roster names journal traces = record { seed = seed; roster = roster; names = names; journal = journal; traces = traces }

pub equal_runs : (a b : Run) → a.seed ≡ b.seed → a.roster ≡ b.roster → a.names ≡ b.names → a.journal ≡ b.journal → a.traces ≡ b.traces → a ≡ b
equal_runs a b seed roster names journal traces =
    ap (λ x. run_of x a.roster a.names a.journal a.traces) seed
    ∙ (ap (λ x. run_of b.seed x a.names a.journal a.traces) roster
    ∙ (ap (λ x. run_of b.seed b.roster x a.journal a.traces) names
    ∙ (ap (λ x. run_of b.seed b.roster b.names x a.traces) journal
    ∙ ap (λ x. run_of b.seed b.roster b.names b.journal x) traces)))

pub run_is_traces : (roster : Roster) (outside : Outside) (seed : List ℕ) (a b : Run) → IsRunByOne roster outside seed a → IsRunByOne roster outside seed b
    → a.names ≡ b.names → a.traces ≡ b.traces → a ≡ b
run_is_traces roster outside seed a b p q names traces =
    equal_runs a b (p.is_run.same_seed ∙ sym q.is_run.same_seed) (p.is_run.same_roster ∙ sym q.is_run.same_roster) names
    (calls_make a p.is_run.once ∙ (ap (λ (ts : List (List Event)). calls_of 1 (record a { traces = ts }) 1) traces ∙ sym (calls_make b q.is_run.once))) traces
