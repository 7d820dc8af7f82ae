-- Where one caller serves all requests, the history is what the traces tell, one request behind the other.
use Rattle.std.proofs.Common.{◌≡◌, ℕ, zero, suc, ◌+◌, ◌-◌, ◌%◌, ◌≤◌, ◌==◌, Bool, false, cond, List, [], ◌∷◌, ◌++◌, length, reverse, map, Option, Some, None, refl, sym, ap, ◌∙◌, subst, append_assoc, arith}
use Rattle.std.specs.Prelude.{filter, filter_map, not, slice_index_or}
use Rattle.std.specs.List.{flat_map, range_with_len}
use Rattle.std.proofs.lemmas.Bool.Decides.{nat_tests}
use Rattle.std.proofs.lemmas.List.{reverse-append}
use Rattle.std.proofs.lemmas.List.Elements.{filter-append}
use Rattle.std.proofs.lemmas.List.Sums.{sum_by-cons}
use Rattle.auth_events.specs.declared.journal.BookReply.{BookReply}
use Rattle.auth_events.specs.declared.journal.BookReply.TheVariants.{Drawn}
use Rattle.auth_events.specs.declared.journal.Call.{Call}
use Rattle.auth_events.specs.declared.journal.Call.TheVariants.{Draw}
use Rattle.auth_events.specs.declared.journal.Entry.{Entry}
use Rattle.auth_events.specs.Book.{draws, without_draws}
use Rattle.auth_events.specs.Fresh.{StepTold, draws_behind, draws_in_front, merge_behind, trace_of}
use Rattle.auth_events.specs.Fresh.StepTold.{DidCall, DidDraw}
use Rattle.auth_events.specs.Pages.{count_of}
use Rattle.auth_events.proofs.Same.{number_refl}
use Rattle.auth_runs.specs.declared.event.Event.{Event}
use Rattle.auth_runs.specs.declared.event.Event.TheVariants.{Called, Drew}
use Rattle.auth_runs.specs.Runs.{Run, AreOnce, entry_of, history, step_told, trace}
use Rattle.run_laws.proofs.OneCaller.{calls_make}

-- the entry that the event tells of the request's one caller
abbrev pub told_in : ℕ → Event → Option Entry
told_in r (Called call reply) = Some (record { caller = 1; request = r; call = call; reply = reply })
told_in r (Drew target nonce count epoch) = Some (record { caller = 1; request = r; call = Draw nonce; reply = Drawn count epoch })
told_in r _ = None

abbrev pub told : ℕ → List Event → List Entry
told r events = filter_map (told_in r) events

-- the entries of the calls alone
abbrev pub called : ℕ → List Event → List Entry
called r events = filter_map (entry_of 1 r) events

abbrev steps : List Event → List StepTold
steps events = filter_map step_told events

-- how many calls
abbrev calls_in : List Event → ℕ
calls_in [] = 0
calls_in (Called call reply ∷ events) = suc (calls_in events)
calls_in (_ ∷ events) = calls_in events

-- the events begin with a call
abbrev pub IsBegun : List Event → Type 0
IsBegun events = (call : Call) × (reply : BookReply) × (rest : List Event) × (events ≡ Called call reply ∷ rest)

calls_more : (front : List Event) (call : Call) (reply : BookReply) → calls_in (front ++ Called call reply ∷ []) ≡ calls_in front + 1
calls_more [] call reply = refl
calls_more (Called c x ∷ front) call reply = ap suc (calls_more front call reply) ∙ omega arith
calls_more (_ ∷ front) call reply = calls_more front call reply

calls_still : (front : List Event) (e : Event) → step_told e ≡ None → calls_in (front ++ e ∷ []) ≡ calls_in front
calls_still [] (Called c x) none = let clash : Some DidCall ≡ None = none in cc
calls_still [] e none = refl
calls_still (Called c x ∷ front) e none = ap suc (calls_still front e none)
calls_still (_ ∷ front) e none = calls_still front e none

calls_drawn : (front : List Event) (e : Event) (n c i : ℕ) → step_told e ≡ Some (DidDraw n c i) → calls_in (front ++ e ∷ []) ≡ calls_in front
calls_drawn [] (Called c' x) n c i is = let clash : Some DidCall ≡ Some (DidDraw n c i) = is in cc
calls_drawn [] e n c i is = refl
calls_drawn (Called c' x ∷ front) e n c i is = ap suc (calls_drawn front e n c i is)
calls_drawn (_ ∷ front) e n c i is = calls_drawn front e n c i is

-- the draws behind the calls of a front
draws_skip : (r : ℕ) (front rest : List Event) (k n : ℕ) → n ≡ calls_in front + k → 1 ≤ k → draws_behind 1 r (steps (front ++ rest)) n ≡ draws_behind 1 r (steps rest) k
draws_skip r [] rest k n e low = ap (draws_behind 1 r (steps rest)) (omega (arith, e))
draws_skip r (Called call reply ∷ front) rest k zero e low = absurd (omega (arith, e))
draws_skip r (Called call reply ∷ front) rest k (suc n) e low = draws_skip r front rest k n (omega (arith, e)) low
draws_skip r (Drew target nonce count epoch ∷ front) rest k zero e low = absurd (omega (arith, e, low))
draws_skip r (Drew target nonce count epoch ∷ front) rest k (suc n) e low = draws_skip r front rest k (suc n) e low
draws_skip r (_ ∷ front) rest k n e low = draws_skip r front rest k n e low

abbrev one_if : Bool → ℕ
one_if b = cond b 1 0

count_cons : (r : ℕ) (entry : Entry) (past : List Entry) → count_of r (entry ∷ past) ≡ one_if (entry.request == r) + count_of r past
count_cons r entry past = sum_by-cons (λ (e : Entry). cond (e.request == r) 1 0) entry past

counted : (r : ℕ) (entry : Entry) (past : List Entry) → entry.request ≡ r → count_of r (entry ∷ past) ≡ count_of r past + 1
counted r entry past e =
    let one : one_if (entry.request == r) ≡ 1 = ap (λ n. one_if (n == r)) e ∙ ap one_if (number_refl r) in
    let more = count_cons r entry past in
    omega (arith, one, more)

pub reversed_on : (entry : Entry) (xs past : List Entry) → reverse (entry ∷ xs) ++ past ≡ reverse xs ++ entry ∷ past
reversed_on entry xs past = ap (λ l. l ++ past) (reverse-append (entry ∷ []) xs) ∙ append_assoc (reverse xs) (entry ∷ []) past

module _ (traces : List (List StepTold)) (r : ℕ) where
  -- the draws that stand before the next call, and the merge of what follows, are what the rest of the trace tells
  merged : (front todo : List Event) (past later : List Entry) → trace_of traces r ≡ steps (front ++ todo) → count_of r past ≡ calls_in front
      → draws_behind 1 r (steps todo) 0 ++ merge_behind traces past (called r todo ++ later) ≡ told r todo ++ merge_behind traces (reverse (called r todo) ++ past) later
  merged front [] past later is count = refl
  merged front (Called call reply ∷ todo) past later is count =
      let entry : Entry = record { caller = 1; request = r; call = call; reply = reply } in
      let shown : draws_behind 1 r (trace_of traces r) (count_of r past + 1) ≡ draws_behind 1 r (steps todo) 0 =
      ap (λ t. draws_behind 1 r t (count_of r past + 1)) is ∙ draws_skip r front (Called call reply ∷ todo) 1 (count_of r past + 1) (omega (arith, count)) (omega arith) in
      let more : count_of r (entry ∷ past) ≡ calls_in (front ++ Called call reply ∷ []) = counted r entry past refl ∙ (ap (λ n. n + 1) count ∙ sym (calls_more front call reply)) in
      ap (λ ds. entry ∷ (ds ++ merge_behind traces (entry ∷ past) (called r todo ++ later))) shown
      ∙ (ap (λ l. entry ∷ l) (merged (front ++ Called call reply ∷ []) todo (entry ∷ past) later (is ∙ ap steps (sym (append_assoc front (Called call reply ∷ []) todo))) more)
      ∙ ap (λ l. entry ∷ (told r todo ++ merge_behind traces l later)) (sym (reversed_on entry (called r todo) past)))
  merged front (Drew target nonce count' epoch ∷ todo) past later is count =
      let entry : Entry = record { caller = 1; request = r; call = Draw nonce; reply = Drawn count' epoch } in
      let e : Event = Drew target nonce count' epoch in
      ap (λ l. entry ∷ l)
      (merged (front ++ e ∷ []) todo past later (is ∙ ap steps (sym (append_assoc front (e ∷ []) todo))) (count ∙ sym (calls_drawn front e nonce count' epoch refl)))
  merged front (e ∷ todo) past later is count =
      merged (front ++ e ∷ []) todo past later (is ∙ ap steps (sym (append_assoc front (e ∷ []) todo))) (count ∙ sym (calls_still front e refl))

  merged_trace : (events : List Event) (past later : List Entry) → trace_of traces r ≡ steps events → IsBegun events → count_of r past ≡ 0
      → merge_behind traces past (called r events ++ later) ≡ told r events ++ merge_behind traces (reverse (called r events) ++ past) later
  merged_trace events past later is (call, reply, rest, begun) none =
      ap (λ es. draws_behind 1 r (steps es) 0 ++ merge_behind traces past (called r events ++ later)) (sym begun) ∙ merged [] events past later is none

-- ALL TRACES

called_none : (r q : ℕ) (events : List Event) (past : List Entry) → (q == r) ≡ false → count_of r (reverse (called q events) ++ past) ≡ count_of r past
called_none r q [] past other = refl
called_none r q (Called call reply ∷ events) past other =
    let entry : Entry = record { caller = 1; request = q; call = call; reply = reply } in
    let more = count_cons r entry past in
    let none : one_if (q == r) ≡ 0 = ap one_if other in
    let same : count_of r (entry ∷ past) ≡ count_of r past = omega (arith, more, none) in
    ap (count_of r) (reversed_on entry (called q events) past) ∙ (called_none r q events (entry ∷ past) other ∙ same)
called_none r q (_ ∷ events) past other = called_none r q events past other

other_number : (q r : ℕ) → q + 1 ≤ r → (q == r) ≡ false
other_number q r lt = grind (arith, nat_tests)

index_map : (ts : List (List Event)) (i : ℕ) → slice_index_or (map steps ts) i [] ≡ steps (slice_index_or ts i [])
index_map [] zero = refl
index_map [] (suc i) = refl
index_map (t ∷ ts) zero = refl
index_map (t ∷ ts) (suc i) = index_map ts i

-- all traces of these requests begin with a call
abbrev pub AreBegun : Run → ℕ → ℕ → Type 0
AreBegun run k n = (r : ℕ) → k ≤ r → suc r ≤ k + n → IsBegun (trace run r)

merged_from : (run : Run) (n k : ℕ) (past : List Entry) → AreBegun run k n → ((r : ℕ) → k ≤ r → count_of r past ≡ 0)
    → merge_behind (map steps run.traces) past (flat_map (λ r. called r (trace run r)) (range_with_len k n)) ≡ flat_map (λ r. told r (trace run r)) (range_with_len k n)
merged_from run zero k past begun none = refl
merged_from run (suc n) k past begun none =
    merged_trace (map steps run.traces) k (trace run k) past (flat_map (λ r. called r (trace run r)) (range_with_len (k + 1) n))
    (index_map run.traces (k - 1)) (begun k (omega arith) (omega arith)) (none k (omega arith))
    ∙ ap (λ l. told k (trace run k) ++ l)
    (merged_from run n (k + 1) (reverse (called k (trace run k)) ++ past) (λ r low high. begun r (omega (arith, low)) (omega (arith, high)))
    (λ r low. called_none r k (trace run k) past (other_number k r low) ∙ none r (omega (arith, low))))

none_in_front : (ts : List (List Event)) (k : ℕ) → ((i : ℕ) → suc i ≤ length ts → IsBegun (slice_index_or ts i [])) → draws_in_front k (map steps ts) ≡ []
none_in_front [] k begun = refl
none_in_front (t ∷ ts) k begun =
    let first = begun 0 (omega arith) in
    ap (λ es. draws_behind 0 k (steps es) 0 ++ draws_in_front (k + 1) (map steps ts)) first.3 ∙ none_in_front ts (k + 1) (λ i le. begun (suc i) (omega (arith, le)))

all_served : (n k : ℕ) → filter (λ r. (r - 1) % 1 + 1 == 1) (range_with_len k n) ≡ range_with_len k n
all_served zero k = refl
all_served (suc n) k =
    let one : (k - 1) % 1 + 1 ≡ 1 = omega arith in
    ap (λ m. cond (m == 1) (k ∷ filter (λ r. (r - 1) % 1 + 1 == 1) (range_with_len (k + 1) n)) (filter (λ r. (r - 1) % 1 + 1 == 1) (range_with_len (k + 1) n))) one
    ∙ ap (λ l. k ∷ l) (all_served n (k + 1))

pub journal_is : (run : Run) → AreOnce 1 run → run.journal ≡ flat_map (λ r. called r (trace run r)) (range_with_len 1 (length run.traces))
journal_is run once = calls_make run once ∙ ap (flat_map (λ r. called r (trace run r))) (all_served (length run.traces) 1)

pub history_is : (run : Run) → AreOnce 1 run → AreBegun run 1 (length run.traces) → history run ≡ flat_map (λ r. told r (trace run r)) (range_with_len 1 (length run.traces))
history_is run once begun =
    ap (λ l. l ++ merge_behind (map steps run.traces) [] run.journal)
    (none_in_front run.traces 1 (λ i le. subst (λ j. IsBegun (slice_index_or run.traces j [])) (place i) (begun (suc i) (omega arith) (omega (arith, le)))))
    ∙ (ap (merge_behind (map steps run.traces) []) (journal_is run once) ∙ merged_from run (length run.traces) 1 [] begun (λ r low. refl))
  where
    place : (i : ℕ) → suc i - 1 ≡ i
    place i = omega arith

-- WITHOUT THE DRAWS

-- no call of the events is a draw
abbrev pub AreCalls : List Event → Type 0
AreCalls [] = Unit {0}
AreCalls (Called call reply ∷ events) = (draws call ≡ false) × AreCalls events
AreCalls (_ ∷ events) = AreCalls events

undrawn : (r : ℕ) (events : List Event) → AreCalls events → without_draws (told r events) ≡ called r events
undrawn r [] calls = refl
undrawn r (Called call reply ∷ events) (none, calls) =
    let entry : Entry = record { caller = 1; request = r; call = call; reply = reply } in
    ap (λ b. cond (not b) (entry ∷ without_draws (told r events)) (without_draws (told r events))) none ∙ ap (λ l. entry ∷ l) (undrawn r events calls)
undrawn r (Drew target nonce count epoch ∷ events) calls = undrawn r events calls
undrawn r (_ ∷ events) calls = undrawn r events calls

undrawn_all : (run : Run) (n k : ℕ) → ((r : ℕ) → k ≤ r → suc r ≤ k + n → AreCalls (trace run r))
    → without_draws (flat_map (λ r. told r (trace run r)) (range_with_len k n)) ≡ flat_map (λ r. called r (trace run r)) (range_with_len k n)
undrawn_all run zero k calls = refl
undrawn_all run (suc n) k calls =
    filter-append (λ (entry : Entry). not (draws entry.call)) (told k (trace run k)) (flat_map (λ r. told r (trace run r)) (range_with_len (k + 1) n))
    ∙ (ap (λ l. l ++ without_draws (flat_map (λ r. told r (trace run r)) (range_with_len (k + 1) n))) (undrawn k (trace run k) (calls k (omega arith) (omega arith)))
    ∙ ap (λ l. called k (trace run k) ++ l) (undrawn_all run n (k + 1) (λ r low high. calls r (omega (arith, low)) (omega (arith, high)))))

-- the history without its draws is the journal
pub history_calls : (run : Run) → AreOnce 1 run → AreBegun run 1 (length run.traces) → ((r : ℕ) → 1 ≤ r → suc r ≤ 1 + length run.traces → AreCalls (trace run r)) → without_draws (history run) ≡ run.journal
history_calls run once begun calls = ap without_draws (history_is run once begun) ∙ (undrawn_all run (length run.traces) 1 calls ∙ sym (journal_is run once))
