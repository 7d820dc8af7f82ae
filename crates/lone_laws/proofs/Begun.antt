-- A trace begins with a call, and no call of it is a draw.
use Rattle.std.proofs.Common.{◌≡◌, ◌⊎◌, inl, inr, ℕ, Bool, true, false, not, ◌==◌, cond, IsTrue, List, [], ◌∷◌, ◌++◌, reverse, refl, sym, ap, ◌∙◌, subst, append_assoc, if◌then◌else◌}
use Rattle.std.proofs.lemmas.Bool.{false≢true}
use Rattle.std.proofs.lemmas.List.{reverse-append, reverse-reverse}
use Rattle.spaces.specs.declared.roster.Roster.{Roster}
use Rattle.auth_events.specs.declared.journal.BookReply.{BookReply}
use Rattle.auth_events.specs.declared.journal.BookReply.TheVariants.{Ended as RequestEnded, Lost}
use Rattle.auth_events.specs.declared.journal.Call.{Call}
use Rattle.auth_events.specs.declared.journal.Call.TheVariants.{Draw, End, Lose}
use Rattle.auth_events.specs.declared.journal.Loss.TheVariants.{Memory}
use Rattle.auth_events.specs.declared.journal.Entry.{Entry}
use Rattle.auth_events.specs.Book.{IsLegalPast, allowed_call, draws, without_draws}
use Rattle.auth_events.specs.Tables.{Tables}
use Rattle.auth_events.proofs.Numbers.{and_right}
use Rattle.auth_runs.specs.declared.event.Event.{Event}
use Rattle.auth_runs.specs.declared.event.Event.TheVariants.{Called, Drew, Ended}
use Rattle.auth_runs.specs.declared.event.Outcome.TheVariants.{NoMemory}
use Rattle.trace_rule.specs.Closings.{want}
use Rattle.trace_rule.specs.Settings.{Setting}
use Rattle.trace_rule.specs.Traces.{Follows, IsCut, IsPast, IsRun, is_over, may_cut, prompt_open, with_loss}
use Rattle.run_laws.proofs.Histories.{IsBegun, told}
use Rattle.serving_laws.specs.Alone.{entries_of}

-- the first event of a past is a call
abbrev IsFirstCalled : List Event → Type 0
IsFirstCalled past = (before : List Event) × (call : Call) × (reply : BookReply) × (past ≡ before ++ Called call reply ∷ [])

first_called : (s : Setting) (past : List Event) → IsPast s past → (past ≡ []) ⊎ IsFirstCalled past
first_called s [] run = inl refl
first_called s (Called call reply ∷ past) run = at (first_called s past run.0)
  where
    at : (past ≡ []) ⊎ IsFirstCalled past → (Called call reply ∷ past ≡ []) ⊎ IsFirstCalled (Called call reply ∷ past)
    at (inl none) = inr ([], call, reply, ap (λ l. Called call reply ∷ l) none)
    at (inr (before, c, x, same)) = inr (Called call reply ∷ before, c, x, ap (λ l. Called call reply ∷ l) same)
first_called s (e ∷ past) run = at (first_called s past run.0)
  where
    at : (past ≡ []) ⊎ IsFirstCalled past → (e ∷ past ≡ []) ⊎ IsFirstCalled (e ∷ past)
    at (inl none) = absurd (subst (λ l. Follows s l (want s l) e) none run.1)
    at (inr (before, c, x, same)) = inr (e ∷ before, c, x, ap (λ l. e ∷ l) same)

reversed_begins : (events : List Event) → IsFirstCalled (reverse events) → IsBegun events
reversed_begins events (before, call, reply, same) =
    (call, reply, reverse before, sym (reverse-reverse events) ∙ (ap reverse same ∙ reverse-append before (Called call reply ∷ [])))

nothing_over : (past : List Event) → IsTrue (is_over past) → past ≡ [] → ⊥
nothing_over past over none = false≢true (sym (ap is_over none) ∙ over)

nothing_cut : (past : List Event) → IsTrue (may_cut past) → past ≡ [] → ⊥
nothing_cut past cut none = false≢true (sym (ap may_cut none) ∙ cut)

-- behind more events the first one is the same
first_behind : (more past : List Event) → IsFirstCalled past → IsFirstCalled (more ++ past)
first_behind more past (before, call, reply, same) = (more ++ before, call, reply, ap (λ l. more ++ l) same ∙ sym (append_assoc more before (Called call reply ∷ [])))

some_first : (past : List Event) → (past ≡ [] → ⊥) → (past ≡ []) ⊎ IsFirstCalled past → IsFirstCalled past
some_first past some (inl none) = absurd (some none)
some_first past some (inr first) = first

loss_behind : (p : ℕ) (base : List Event) → (more : List Event) × (with_loss p base ≡ more ++ base)
loss_behind p base = at (p == 0)
  where
    at : (b : Bool) → (more : List Event) × ((if b then base else Called (Lose p Memory) (Lost Memory) ∷ base) ≡ more ++ base)
    at true = ([], refl)
    at false = (Called (Lose p Memory) (Lost Memory) ∷ [], refl)

pub begun_trace : (s : Setting) (events : List Event) → IsRun s (reverse events) ⊎ IsCut s (reverse events) → IsBegun events
begun_trace s events (inl run) = reversed_begins events (some_first (reverse events) (nothing_over (reverse events) run.1) (first_called s (reverse events) run.0))
begun_trace s events (inr (base, cut)) =
    let loss = loss_behind (prompt_open base base) base in
    let first : IsFirstCalled base = some_first base (nothing_cut base cut.may_cut) (first_called s base cut.is_past) in
    reversed_begins events (subst IsFirstCalled (sym cut.cut) (first_behind (Ended NoMemory ∷ Called End RequestEnded ∷ []) (with_loss (prompt_open base base) base) (subst IsFirstCalled (sym loss.1) (first_behind loss.0 base first))))

-- DRAWS

module _ (roster : Roster) (names : Tables) where
  -- a call that may be made is no draw
  no_draw : (entries : List Entry) (w r : ℕ) (call : Call) → IsTrue (allowed_call roster names entries r call) → draws call ≡ false
  no_draw entries w r (Draw nonce) may = absurd (false≢true may)
  no_draw entries w r _ may = refl

  -- without the draws of a request stand its calls
  pub undrawn : (r : ℕ) (past : List Event) (later earlier : List Entry) → IsLegalPast roster names (entries_of r past ++ earlier) → without_draws later ≡ earlier → without_draws (told r past ++ later) ≡ entries_of r past ++ earlier
  undrawn r [] later earlier legal same = same
  undrawn r (Called call reply ∷ past) later earlier legal same =
      let entry : Entry = record { caller = 1; request = r; call = call; reply = reply } in
      let none : draws call ≡ false = no_draw (entries_of r past ++ earlier) 1 r call (and_right _ (allowed_call roster names (entries_of r past ++ earlier) r call) legal.1.0) in
      ap (λ b. cond (not b) (entry ∷ without_draws (told r past ++ later)) (without_draws (told r past ++ later))) none
      ∙ ap (λ l. entry ∷ l) (undrawn r past later earlier legal.0 same)
  undrawn r (Drew target nonce count epoch ∷ past) later earlier legal same = undrawn r past later earlier legal same
  undrawn r (_ ∷ past) later earlier legal same = undrawn r past later earlier legal same
