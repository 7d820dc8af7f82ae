-- Where `negotiate` challenges are passed over the provider of tokens is never asked.
use Rattle.std.proofs.Common.{◌≡◌, ◌⊎◌, inl, inr, ℕ, ◌==◌, Bool, true, false, List, [], ◌∷◌, length, refl, sym, ap, ◌∙◌, subst, arith, if◌then◌else◌}
use Rattle.std.proofs.lemmas.Bool.{false≢true}
use Rattle.spaces.specs.declared.roster.Roster.{Roster}
use Rattle.auth_events.specs.declared.journal.Call.TheVariants.{Lose}
use Rattle.auth_events.specs.declared.journal.BookReply.TheVariants.{Lost}
use Rattle.auth_events.specs.declared.journal.Loss.TheVariants.{Memory}
use Rattle.link_trait.specs.declared.steps.StepSeen.{StepSeen}
use Rattle.link_trait.specs.declared.steps.StepSeen.TheVariants.{NoMechanism}
use Rattle.spaces.specs.declared.site.Target.{Target}
use Rattle.auth_runs.specs.declared.event.Event.{Event}
use Rattle.auth_runs.specs.declared.event.Event.TheVariants.{Called, Stepped}
use Rattle.trace_rule.specs.Settings.{Setting, IsNumbered}
use Rattle.trace_rule.specs.Traces.{IsPast, IsRun, IsCut, Follows, prompt_open, with_loss}
use Rattle.trace_rule.proofs.Drops.{none_missing}
use Rattle.trace_rule.proofs.Stepping.{step_for}
use Rattle.request_machine.specs.declared.stage.Stage.{Stage}
use Rattle.request_machine.specs.declared.stage.Stage.TheVariants.{NextNonce, NameLast, RenewLast, Spent, SpentEnd, SpentOver, Over, Call as Calling, Go, Learn, Draw, Choose, NameSpace, NameTerms, NameRenewal, Renew as Renewing, Select as Selecting, Ask, NameText, Answer as Answering, Cancel as Cancelling, Lose as Losing, Take as Taking, Reject as Rejecting, Continue, LoseLink, Read, Close, End}
use Rattle.request_machine.specs.Kept.{Kept, Ties, IsStage, IsSettingOf}
use Rattle.request_machine.specs.Provided.{steps, IsTouchedBySteps}
use Rattle.request_machine.specs.Rooms.{HasSettingIn}

module _ (s : Setting) (numbers : IsNumbered s) (never : s.has_negotiate ≡ false) where
  -- a step would be one that says that there is no mechanism, as well as any other
  never_steps : (past : List Event) (t : Target) (seen : StepSeen) → IsPast s (Stepped t seen ∷ past) → ⊥
  never_steps past t seen run =
      let wanted = step_for s past t seen run in
      let missing : IsPast s (Stepped t NoMechanism ∷ past) = (run.0, subst (λ w. Follows s past w (Stepped t NoMechanism)) (sym wanted.1) refl) in
      false≢true (sym (none_missing s numbers never (Stepped t NoMechanism ∷ past) missing))

  pub no_steps : (past : List Event) → IsPast s past → steps past ≡ []
  no_steps [] run = refl
  no_steps (Stepped t seen ∷ past) run = absurd (never_steps past t seen run)
  no_steps (_ ∷ past) run = no_steps past run.0

  lost_steps : (p : ℕ) (past : List Event) → steps (with_loss p past) ≡ steps past
  lost_steps p past = at (p == 0)
    where
      at : (b : Bool) → steps (if b then past else Called (Lose p Memory) (Lost Memory) ∷ past) ≡ steps past
      at true = refl
      at false = refl

  over_steps : (past : List Event) → IsRun s past ⊎ IsCut s past → steps past ≡ []
  over_steps past (inl run) = no_steps past run.0
  over_steps past (inr (base, cut)) = ap steps cut.cut ∙ lost_steps (prompt_open base base) base ∙ no_steps base cut.is_past

  steps_at : (past : List Event) (stage : Stage) → IsStage s past stage → steps past ≡ []
  steps_at past (Calling call) at = no_steps past at.0
  steps_at past Go at = no_steps past at.0
  steps_at past (Learn t piece) at = no_steps past at.0
  steps_at past (Draw t nonce) at = no_steps past at.0
  steps_at past (Choose t) at = no_steps past at.0
  steps_at past (NameSpace t) at = no_steps past at.0
  steps_at past (NameTerms t n) at = no_steps past at.0
  steps_at past (NameRenewal t gift) at = no_steps past at.0
  steps_at past (Renewing t gift terms) at = no_steps past at.0
  steps_at past (NextNonce t c) at = no_steps past at.0.is_past
  steps_at past (NameLast t gift c) at = no_steps past at.0.is_past
  steps_at past (RenewLast t gift terms c) at = no_steps past at.0.is_past
  steps_at past (Selecting t space terms) at = no_steps past at.0
  steps_at past (Ask p ordinal) at = no_steps past at.0
  steps_at past (NameText p) at = no_steps past at.0
  steps_at past (Answering p text) at = no_steps past at.0
  steps_at past (Cancelling p) at = no_steps past at.0
  steps_at past (Losing p loss) at = no_steps past at.0
  steps_at past (Taking p) at = no_steps past at.0
  steps_at past (Rejecting t gift) at = no_steps past at.0
  steps_at past (Continue t) at = no_steps past at
  steps_at past (LoseLink link) at = no_steps past at.0
  steps_at past (Read link) at = no_steps past at.0
  steps_at past (Close c) at = no_steps past at.0
  steps_at past (End outcome) at = no_steps past at.0
  steps_at past Spent at = no_steps past at.is_past
  steps_at past SpentEnd at = ap steps at.2 ∙ lost_steps (prompt_open at.0 at.0) at.0 ∙ no_steps at.0 at.1.is_past
  steps_at past SpentOver at = ap steps at.2 ∙ lost_steps (prompt_open at.0 at.0) at.0 ∙ no_steps at.0 at.1.is_past
  steps_at past Over at = over_steps past at

-- so the provider stays as it was
pub untouched : {A : Type 0} (roster : Roster) (m n : Kept) (old new : A) → HasSettingIn roster m → ((s : Setting) → IsSettingOf s roster m.number m.seed → Ties s m → Ties s n) → IsTouchedBySteps old new m.past n.past → new ≡ old
untouched roster m n old new tied ties (inl same) = same.0
untouched roster m n old new tied ties (inr more) =
    let s = tied.setting in
    let never = tied.is_of.passes_over in
    let before : length (steps m.past) ≡ 0 = ap length (steps_at s tied.numbers never m.past m.stage tied.ties.stage) in
    let now : length (steps n.past) ≡ 0 = ap length (steps_at s tied.numbers never n.past n.stage (ties s tied.is_of tied.ties).stage) in
    absurd (omega (arith, before, now, more))
