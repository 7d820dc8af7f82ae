-- What a whole trace calls: it begins, it calls `End`, and no call of it is a draw.
use Rattle.std.proofs.Common.{IsTrue, ◌≡◌, ◌⊎◌, inl, inr, ℕ, Bool, true, false, not, ◌||◌, ◌==◌, if◌then◌else◌, List, [], ◌∷◌, reverse, refl, sym, ap, ◌∙◌, subst}
use Rattle.std.specs.List.{list_any}
use Rattle.std.proofs.lemmas.Bool.{false≢true}
use Rattle.auth_events.specs.declared.journal.Call.{Call}
use Rattle.auth_events.specs.declared.journal.Call.TheVariants.{End, Lose}
use Rattle.auth_events.specs.declared.journal.Loss.TheVariants.{Memory}
use Rattle.auth_events.specs.declared.journal.BookReply.TheVariants.{Lost}
use Rattle.auth_events.specs.Book.{begins, draws, ends}
use Rattle.auth_events.proofs.Legal.{fits_no_draw}
use Rattle.auth_events.proofs.Reversed.{list_any-reverse}
use Rattle.auth_runs.specs.declared.event.Event.{Event}
use Rattle.auth_runs.specs.declared.event.Event.TheVariants.{Called, Ended}
use Rattle.trace_rule.specs.Entries.{calls}
use Rattle.trace_rule.specs.Settings.{Setting}
use Rattle.trace_rule.specs.Traces.{IsCut, IsPast, IsRun, IsTrace, is_end, is_over, may_cut, prompt_open}
use Rattle.trace_rule.proofs.Ending.{began}
use Rattle.trace_rule.proofs.Stages.{fits_of}
use Rattle.trace_laws.proofs.Outcomes.{not_over}

-- the event is a call that passes the test
abbrev pub made : (Call → Bool) → Event → Bool
made test (Called call reply) = test call
made test _ = false

-- what calls pass
by_calls : (test : Call → Bool) (past : List Event) → list_any (λ m. test m.call) (calls past) ≡ list_any (made test) past
by_calls test [] = refl
by_calls test (Called call reply ∷ past) = ap (λ b. test call || b) (by_calls test past)
by_calls test (_ ∷ past) = by_calls test past

-- a loss that is told at a cut changes nothing
lost_begun : (past : List Event) (b : Bool) (p : ℕ) → IsTrue (list_any (made begins) past) → IsTrue (list_any (made begins) (if b then past else Called (Lose p Memory) (Lost Memory) ∷ past))
lost_begun past true p h = h
lost_begun past false p h = h

lost_undrawn : (past : List Event) (b : Bool) (p : ℕ) → list_any (made draws) past ≡ false → list_any (made draws) (if b then past else Called (Lose p Memory) (Lost Memory) ∷ past) ≡ false
lost_undrawn past true p h = h
lost_undrawn past false p h = h

module _ (s : Setting) where
  -- THE BEGINNING

  some_begun : (past : List Event) → IsPast s past → (past ≡ [] → ⊥) → IsTrue (list_any (made begins) past)
  some_begun past run some = at (began s past run)
    where
      at : (past ≡ []) ⊎ IsTrue (list_any (λ m. begins m.call) (calls past)) → IsTrue (list_any (made begins) past)
      at (inl none) = absurd (some none)
      at (inr told) = sym (by_calls begins past) ∙ told

  over_some : (past : List Event) → IsTrue (is_over past) → past ≡ [] → ⊥
  over_some past over none = false≢true (ap is_over (sym none) ∙ over)

  cut_some : (past : List Event) → IsTrue (may_cut past) → past ≡ [] → ⊥
  cut_some past may none = false≢true (ap may_cut (sym none) ∙ may)

  pub trace_begun : (events : List Event) → IsTrace s events → IsTrue (list_any (made begins) events)
  trace_begun events trace = sym (list_any-reverse (made begins) events) ∙ at trace
    where
      at : IsRun s (reverse events) ⊎ IsCut s (reverse events) → IsTrue (list_any (made begins) (reverse events))
      at (inl run) = some_begun (reverse events) run.0 (over_some (reverse events) run.1)
      at (inr (past, cut)) =
          subst (λ xs. IsTrue (list_any (made begins) xs)) (sym cut.cut)
          (lost_begun past (prompt_open past past == 0) (prompt_open past past) (some_begun past cut.is_past (cut_some past cut.may_cut)))

  -- THE END

  over_ended : (past : List Event) → IsPast s past → IsTrue (is_over past) → IsTrue (list_any is_end past)
  over_ended [] run over = absurd (false≢true over)
  over_ended (Ended outcome ∷ past) run over = at (list_any is_end (Ended outcome ∷ past)) refl
    where
      at : (b : Bool) → list_any is_end (Ended outcome ∷ past) ≡ b → IsTrue b
      at true told = refl
      at false none = absurd (false≢true (sym (not_over s (Ended outcome ∷ past) run (ap not none))))
  over_ended (_ ∷ past) run over = absurd (false≢true over)

  end_made : (past : List Event) → list_any is_end past ≡ list_any (made ends) past
  end_made [] = refl
  end_made (Called call reply ∷ past) = ap (λ b. b || list_any is_end past) (same call) ∙ ap (λ b. ends call || b) (end_made past)
    where
      same : (c : Call) → is_end (Called c reply) ≡ ends c
      same End = refl
      same _ = refl
  end_made (_ ∷ past) = end_made past

  pub trace_ended : (events : List Event) → IsTrace s events → IsTrue (list_any (made ends) events)
  trace_ended events trace = sym (list_any-reverse (made ends) events) ∙ (sym (end_made (reverse events)) ∙ at trace)
    where
      at : IsRun s (reverse events) ⊎ IsCut s (reverse events) → IsTrue (list_any is_end (reverse events))
      at (inl run) = over_ended (reverse events) run.0 run.1
      at (inr (past, cut)) = subst (λ xs. IsTrue (list_any is_end xs)) (sym cut.cut) refl

  -- DRAWS

  past_undrawn : (past : List Event) → IsPast s past → list_any (made draws) past ≡ false
  past_undrawn [] run = refl
  past_undrawn (Called call reply ∷ past) run =
      ap (λ b. b || list_any (made draws) past) (fits_no_draw call reply (fits_of s past call reply run.1)) ∙ past_undrawn past run.0
  past_undrawn (_ ∷ past) run = past_undrawn past run.0

  pub trace_undrawn : (events : List Event) → IsTrace s events → list_any (made draws) events ≡ false
  trace_undrawn events trace = sym (list_any-reverse (made draws) events) ∙ at trace
    where
      at : IsRun s (reverse events) ⊎ IsCut s (reverse events) → list_any (made draws) (reverse events) ≡ false
      at (inl run) = past_undrawn (reverse events) run.0
      at (inr (past, cut)) =
          subst (λ xs. list_any (made draws) xs ≡ false) (sym cut.cut)
          (lost_undrawn past (prompt_open past past == 0) (prompt_open past past) (past_undrawn past cut.is_past))
