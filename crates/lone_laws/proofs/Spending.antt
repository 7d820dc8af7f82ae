-- Where an ask wants memory the request ends for want of it; and no provider is asked, no prompt followed.
use Rattle.std.proofs.Common.{◌≡◌, ◌⊎◌, inl, inr, ℕ, Bool, true, false, not, ◌||◌, ◌&&◌, IsTrue, ◌==◌, List, [], ◌∷◌, ◌++◌, reverse, Some, refl, sym, ap, ◌∙◌, subst, if◌then◌else◌}
use Rattle.std.specs.List.{list_any}
use Rattle.std.proofs.lemmas.Bool.{false≢true}
use Rattle.spaces.specs.declared.roster.Request.{Request}
use Rattle.spaces.specs.declared.roster.Roster.{Roster}
use Rattle.spaces.specs.declared.site.Target.{Target}
use Rattle.spaces.specs.Sites.{numbered}
use Rattle.auth_events.specs.declared.journal.BookReply.{BookReply}
use Rattle.auth_events.specs.declared.journal.BookReply.TheVariants.{Lost}
use Rattle.auth_events.specs.declared.journal.Call.{Call}
use Rattle.auth_events.specs.declared.journal.Call.TheVariants.{Lose, Take}
use Rattle.auth_events.specs.declared.journal.Entry.{Entry}
use Rattle.auth_events.specs.declared.journal.Loss.TheVariants.{Fault, Memory}
use Rattle.auth_events.specs.Book.{IsLegalPast, own}
use Rattle.auth_events.specs.Pages.{fits}
use Rattle.auth_events.specs.Tables.{AreNames, Tables}
use Rattle.auth_events.proofs.Reversed.{list_any-reverse}
use Rattle.link_trait.specs.declared.prompts.AskSeen.TheVariants.{NoMemory as AskNoMemory}
use Rattle.link_trait.specs.declared.steps.StepSeen.{StepSeen}
use Rattle.link_trait.specs.declared.steps.StepSeen.TheVariants.{NoMechanism}
use Rattle.auth_runs.specs.declared.event.Outcome.TheVariants.{NoMemory}
use Rattle.auth_runs.specs.declared.event.Event.{Event}
use Rattle.auth_runs.specs.declared.event.Event.TheVariants.{Called, AskedFor, Headed, LinkLost, Stepped, Ended}
use Rattle.trace_rule.specs.Closings.{want}
use Rattle.trace_rule.specs.Moves.{Want, move}
use Rattle.trace_rule.specs.Moves.Move.{Goes, Closes}
use Rattle.trace_rule.specs.Moves.Want.{Rests, Steps, Writes, Loses, Ends}
use Rattle.trace_rule.specs.Settings.{IsNumbered, Setting}
use Rattle.trace_rule.specs.Traces.{Follows, IsCut, IsPast, IsRun, IsTrace, agrees, is_over, is_spent, prompt_open, suits, with_loss}
use Rattle.trace_rule.proofs.Drops.{none_missing}
use Rattle.trace_rule.proofs.Knowing.{both_of}
use Rattle.trace_rule.proofs.Reasons.{IsClosingStep, closing_step, still_closes}
use Rattle.trace_rule.proofs.Reasons.IsClosingStep.{by_call, by_outcome}
use Rattle.run_rule.specs.Failing.{is_fault, is_faultless, wants_memory}
use Rattle.run_rule.specs.Outside.{steps_in}
use Rattle.run_laws.proofs.Outsides.{or_both}
use Rattle.serving_laws.specs.Alone.{entries_of, has_open_prompt}
use Rattle.serving_laws.proofs.Open.{no_take}
use Rattle.lone_laws.specs.Failing.{has_failed}
use Rattle.lone_laws.proofs.Faults.{calm, is_apart}
use Rattle.lone_laws.proofs.Moments.{alone_then}

-- STEPS

abbrev pub is_step : Event → Bool
is_step (Stepped target step) = true
is_step _ = false

-- whatever the provider answers, it was asked
stepped_else : (s : Setting) (past : List Event) (w : Want) (t : Target) (a b : StepSeen) → Follows s past w (Stepped t a) → Follows s past w (Stepped t b)
stepped_else s past (Steps u asking) t a b f = f
stepped_else s past (Writes link bytes) t a b f = let clash : Stepped t a ≡ Headed link bytes = f in cc
stepped_else s past (Loses link) t a b f = let clash : Stepped t a ≡ LinkLost link = f in cc
stepped_else s past (Ends outcome) t a b f = let clash : Stepped t a ≡ Ended outcome = f in cc
stepped_else s past _ t a b f = absurd f

-- where `negotiate` challenges are passed over the provider is never asked
pub none_stepped : (s : Setting) → IsNumbered s → s.has_negotiate ≡ false → (past : List Event) → IsPast s past → list_any is_step past ≡ false
none_stepped s means never [] run = refl
none_stepped s means never (Stepped t step ∷ past) run =
    absurd (false≢true (sym (none_missing s means never (Stepped t NoMechanism ∷ past) (run.0, stepped_else s past (want s past) t step NoMechanism run.1))))
none_stepped s means never (_ ∷ past) run = none_stepped s means never past run.0

pub no_steps : (events : List Event) → list_any is_step events ≡ false → steps_in events ≡ []
no_steps [] none = refl
no_steps (Stepped target step ∷ events) none = absurd (false≢true (sym none))
no_steps (_ ∷ events) none = no_steps events none

-- MEMORY

-- how a request goes on where an ask wanted memory
abbrev IsLast : Setting → List Event → Type 0
IsLast s past =
    ((p : ℕ) × (before : List Event) × (past ≡ AskedFor p AskNoMemory ∷ before))
    ⊎ (move s past ≡ Closes NoMemory)
    ⊎ ((before : List Event) × (past ≡ Ended NoMemory ∷ before))

module _ (s : Setting) where
  -- behind the ask the loss of its prompt closes the request
  behind_ask : (p : ℕ) (before : List Event) (e : Event) → Follows s (AskedFor p AskNoMemory ∷ before) (want s (AskedFor p AskNoMemory ∷ before)) e → IsLast s (e ∷ AskedFor p AskNoMemory ∷ before)
  behind_ask p before (Called call reply) f = at call f.0 reply f.1
    where
      loss : (reply : BookReply) → IsTrue (suits s (AskedFor p AskNoMemory ∷ before) (Lose p Memory) reply) → move s (Called (Lose p Memory) reply ∷ AskedFor p AskNoMemory ∷ before) ≡ Closes NoMemory
      loss (Lost Memory) h = refl
      loss (Lost (Fault count)) h = absurd (false≢true (both_of (fits (Lose p Memory) (Lost (Fault count))) (agrees s (AskedFor p AskNoMemory ∷ before) (Lose p Memory) (Lost (Fault count))) h).1)
      loss _ h = absurd (false≢true h)

      at : (c : Call) → c ≡ Lose p Memory → (reply : BookReply) → IsTrue (suits s (AskedFor p AskNoMemory ∷ before) c reply) → IsLast s (Called c reply ∷ AskedFor p AskNoMemory ∷ before)
      at c same reply h =
          inr (inl (ap (λ x. move s (Called x reply ∷ AskedFor p AskNoMemory ∷ before)) same ∙ loss reply (subst (λ x. IsTrue (suits s (AskedFor p AskNoMemory ∷ before) x reply)) same h)))
  behind_ask p before _ f = absurd f

  last_on : (past : List Event) (e : Event) → Follows s past (want s past) e → IsLast s past → IsLast s (e ∷ past)
  last_on past e f (inl (p, before, same)) = subst (λ l. IsLast s (e ∷ l)) (sym same) (behind_ask p before e (subst (λ l. Follows s l (want s l) e) same f))
  last_on past e f (inr (inl closes)) = at (closing_step s past NoMemory e closes f)
    where
      at : IsClosingStep s past NoMemory e → IsLast s (e ∷ past)
      at (by_call c reply p k) = inr (inl (ap (λ x. move s (x ∷ past)) p ∙ (still_closes s past c reply k ∙ closes)))
      at (by_outcome p) = inr (inr (past, ap (λ x. x ∷ past) p))
  last_on past e f (inr (inr (before, same))) = absurd (subst (λ l. Follows s l (want s l) e) same f)

  wanted_memory : (past : List Event) → IsPast s past → list_any is_step past ≡ false → list_any wants_memory past ≡ true → IsLast s past
  wanted_memory [] run none wants = absurd (false≢true wants)
  wanted_memory (Stepped target step ∷ past) run none wants = absurd (false≢true (sym none))
  wanted_memory (AskedFor p AskNoMemory ∷ past) run none wants = inl (p, past, refl)
  wanted_memory (e ∷ past) run none wants = last_on past e run.1 (wanted_memory past run.0 none wants)

  -- so the whole request ran out of memory
  spent_so : (past : List Event) → IsTrue (is_over past) → IsLast s past → is_spent past ≡ true
  spent_so past over (inl (p, before, same)) = absurd (false≢true (ap is_over (sym same) ∙ over))
  spent_so [] over (inr (inl closes)) = absurd (false≢true over)
  spent_so (Ended outcome ∷ past) over (inr (inl closes)) = let clash : Goes Rests ≡ Closes NoMemory = closes in cc
  spent_so (_ ∷ past) over (inr (inl closes)) = absurd (false≢true over)
  spent_so past over (inr (inr (before, same))) = ap is_spent same

-- NOTHING IS TAKEN

module _ (roster : Roster) (names : Tables) (before : List Entry) (r : ℕ) (request : Request)
    (are_names : AreNames names) (in_roster : numbered roster.requests r ≡ Some request) (unserved : own before r ≡ []) (none_open : has_open_prompt before ≡ false) where
  abbrev is_take : Event → Bool
  is_take (Called (Take prompt) reply) = true
  is_take _ = false

  -- a request that nobody stands beside takes no answer of another's prompt
  pub none_taken : (past : List Event) → IsLegalPast roster names (entries_of r past ++ before) → list_any is_apart past ≡ list_any is_step past
  none_taken [] legal = refl
  none_taken (Called (Take p) reply ∷ past) legal =
      absurd (no_take roster names before r request (entries_of r past ++ before) past p (alone_then roster [] names before r request are_names in_roster unserved none_open past legal.0) legal.1.0)
  none_taken (Called call reply ∷ past) legal = none_taken past legal.0
  none_taken (Stepped target step ∷ past) legal = ap (λ b. true || b) (none_taken past legal)
  none_taken (_ ∷ past) legal = none_taken past legal

-- FAULTLESS

not_false : (b : Bool) → b ≡ false → IsTrue (not b)
not_false b e = ap not e

parts : (a b : Bool) → IsTrue a → IsTrue b → IsTrue (a && b)
parts a b p q = ap (λ x. x && b) p ∙ q

either : (a b : Bool) → (b ≡ true → a ≡ true) → IsTrue (a || not b)
either true b f = refl
either false true f = absurd (false≢true (f refl))
either false false f = refl

some_or : (a b : Bool) → a ≡ true → IsTrue (a || b)
some_or a b e = ap (λ x. x || b) e

-- what no loss of memory meets is met nowhere where a past is cut short
unmet : (test : Event → Bool) → ((q : ℕ) → test (Called (Lose q Memory) (Lost Memory)) ≡ false) → (p : ℕ) (base : List Event) → list_any test base ≡ false → list_any test (with_loss p base) ≡ false
unmet test lost p base none = at (p == 0)
  where
    at : (b : Bool) → list_any test (if b then base else Called (Lose p Memory) (Lost Memory) ∷ base) ≡ false
    at true = none
    at false = ap (λ b. b || list_any test base) (lost p) ∙ none

-- and before
met_behind : (test : Event → Bool) (p : ℕ) (base : List Event) → list_any test (with_loss p base) ≡ false → list_any test base ≡ false
met_behind test p base none = at (p == 0) none
  where
    at : (b : Bool) → list_any test (if b then base else Called (Lose p Memory) (Lost Memory) ∷ base) ≡ false → list_any test base ≡ false
    at true h = h
    at false h = (or_both (test (Called (Lose p Memory) (Lost Memory))) (list_any test base) h).1

module _ (s : Setting) (means : IsNumbered s) (never : s.has_negotiate ≡ false) where
  pub traces_unstepped : (whole : List Event) → IsRun s whole ⊎ IsCut s whole → list_any is_step whole ≡ false
  traces_unstepped whole (inl run) = none_stepped s means never whole run.0
  traces_unstepped whole (inr (base, cut)) =
      ap (list_any is_step) cut.cut ∙ unmet is_step (λ q. refl) (prompt_open base base) base (none_stepped s means never base cut.is_past)

  traces_calm : (whole : List Event) → IsRun s whole ⊎ IsCut s whole → list_any is_apart whole ≡ false → list_any has_failed whole ≡ false → list_any is_fault whole ≡ false
  traces_calm whole (inl run) apart none = calm s whole run.0 apart none
  traces_calm whole (inr (base, cut)) apart none =
      let p = prompt_open base base in
      ap (list_any is_fault) cut.cut
      ∙ unmet is_fault (λ q. refl) p base
      (calm s base cut.is_past (met_behind is_apart p base (sym (ap (list_any is_apart) cut.cut) ∙ apart)) (met_behind has_failed p base (sym (ap (list_any has_failed) cut.cut) ∙ none)))

  traces_room : (whole : List Event) → IsRun s whole ⊎ IsCut s whole → IsTrue (is_spent whole || not (list_any wants_memory whole))
  traces_room whole (inl run) = either (is_spent whole) (list_any wants_memory whole) (λ wants. spent_so s whole run.1 (wanted_memory s whole run.0 (none_stepped s means never whole run.0) wants))
  traces_room whole (inr (base, cut)) = some_or (is_spent whole) (not (list_any wants_memory whole)) (ap is_spent cut.cut)

  -- where nothing fails, a trace that takes nothing of others is faultless
  pub faultless_trace : (events : List Event) → IsTrace s events → list_any is_apart (reverse events) ≡ false → list_any has_failed (reverse events) ≡ false → IsTrue (is_faultless events)
  faultless_trace events trace apart none =
      let calm_here : list_any is_fault events ≡ false = sym (list_any-reverse is_fault events) ∙ traces_calm (reverse events) trace apart none in
      parts (not (list_any is_fault events)) (is_spent (reverse events) || not (list_any wants_memory events)) (not_false (list_any is_fault events) calm_here)
      (subst (λ b. IsTrue (is_spent (reverse events) || not b)) (list_any-reverse wants_memory events) (traces_room (reverse events) trace))
