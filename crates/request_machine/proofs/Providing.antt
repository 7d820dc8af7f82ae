-- What a provider of tokens tells, from turn to turn.
use Rattle.std.proofs.Common.{◌≡◌, inl, inr, ℕ, ◌+◌, ◌<◌, ◌≤◌, Bool, true, false, List, [], ◌∷◌, ◌++◌, length, Option, Some, None, IfSome, refl, sym, ap, ◌∙◌, subst, arith}
use Rattle.std.specs.List.{cons_option}
use Rattle.std.proofs.lemmas.Bool.{false≢true}
use Rattle.auth_text.specs.Login.{Login}
use Rattle.spaces.specs.declared.roster.Request.{Request}
use Rattle.spaces.specs.declared.site.Target.{Target}
use Rattle.link_trait.specs.Told.{grown}
use Rattle.link_trait.specs.Faults.{Rose}
use Rattle.link_trait.specs.Tokens.{starting}
use Rattle.link_trait.specs.declared.steps.Step.{Step}
use Rattle.link_trait.specs.declared.steps.Step.TheVariants.{Token as GaveToken, Done as GaveDone, Refused as GaveRefused, NoMechanism as GaveNoMechanism, Failed as HasFailed, NoMemory as LacksMemory}
use Rattle.link_trait.specs.declared.steps.StepSeen.{StepSeen}
use Rattle.link_trait.specs.declared.steps.StepSeen.TheVariants.{Token, Done, Refused, NoMechanism, Failed, NoMemory}
use Rattle.link_trait.specs.declared.tokens.TokenCall.{TokenCall}
use Rattle.link_trait.specs.declared.tokens.TokenCall.TheVariants.{Started}
use Rattle.negotiate_handler.specs.Contexts.{begun, is_failed}
use Rattle.negotiate_handler.specs.declared.context.Said.TheVariants.{Refused as SaidRefused, Done as SaidDone, NoMechanism as SaidNone}
use Rattle.negotiate_handler.specs.declared.context.Stepped.{Stepped as Came}
use Rattle.negotiate_handler.specs.declared.context.Stepped.TheVariants.{Ready, Refused as CameRefused, NoMechanism as CameWithout, Failed as CameFailed, NoMemory as CameSpent}
use Rattle.auth_runs.specs.declared.event.Event.{Event}
use Rattle.auth_runs.specs.declared.event.Event.TheVariants.{Stepped}
use Rattle.trace_rule.specs.Settings.{Setting}
use Rattle.trace_rule.specs.Moves.Want.{Steps}
use Rattle.trace_rule.specs.Moves.Asking.{Start}
use Rattle.trace_rule.specs.Closings.{want}
use Rattle.trace_rule.specs.Telling.{asks, call_told, answered_call, step_told, dials}
use Rattle.request_machine.specs.declared.holding.Holding.{Holding}
use Rattle.request_machine.specs.declared.stage.Stage.TheVariants.{Go}
use Rattle.request_machine.specs.Kept.{Kept, Ties}
use Rattle.request_machine.specs.Changed.{holding}
use Rattle.request_machine.specs.Contexts.{spn_told, identity_told, CanStart, IsStarting, IsBegunBy}
use Rattle.request_machine.specs.Driven.{insides}
use Rattle.request_machine.specs.Failed.{RoseBy, link_faults}
use Rattle.request_machine.specs.Linked.{line, way, is_ending}
use Rattle.request_machine.specs.Prompted.{IsUnprompted}
use Rattle.request_machine.specs.Provided.{steps, step_faults, IsStepMore, IsSeenBy, IsAskedSoFar, TellsStepFaults, Shown, shown, TellsSteps, IsTouchedBySteps}
use Rattle.request_machine.specs.Turns.{IsStill}
use Rattle.request_machine.proofs.Answering.{unprompted_line, unprompted_event}
use Rattle.request_machine.proofs.Beginning.{IsAsking, start_before, starts_held}
use Rattle.request_machine.proofs.Dialing.{grown_more}
use Rattle.request_machine.proofs.Failing.{rose_later, rose_more}

-- BY THE STEPS OF A PAST

asks_by : Setting → List (List Event) → List TokenCall
asks_by s [] = []
asks_by s ((Stepped target seen ∷ past) ∷ rest) = asks_by s rest ++ cons_option (answered_call s (want s past) (step_told seen)) []
asks_by s (_ ∷ rest) = asks_by s rest

asks_are : (s : Setting) (past : List Event) → asks s past ≡ asks_by s (steps past)
unfolding asks_by
asks_are s [] = refl
asks_are s (Stepped target seen ∷ past) = ap (λ calls. calls ++ cons_option (answered_call s (want s past) (step_told seen)) []) (asks_are s past)
asks_are s (_ ∷ past) = asks_are s past

-- what was asked is what the steps say
pub same_asks : (s : Setting) (before now : List Event) → steps now ≡ steps before → asks s now ≡ asks s before
same_asks s before now same = asks_are s now ∙ ap (asks_by s) same ∙ sym (asks_are s before)

faults_by : List (List Event) → List ℕ
faults_by [] = []
faults_by ((Stepped target (Failed count) ∷ past) ∷ rest) = count ∷ faults_by rest
faults_by (_ ∷ rest) = faults_by rest

faults_are : (past : List Event) → step_faults past ≡ faults_by (steps past)
unfolding faults_by
faults_are [] = refl
faults_are (Stepped target (Failed count) ∷ past) = ap (λ counts. count ∷ counts) (faults_are past)
faults_are (_ ∷ past) = faults_are past

pub same_step_faults : (before now : List Event) → steps now ≡ steps before → step_faults now ≡ step_faults before
same_step_faults before now same = faults_are now ∙ ap faults_by same ∙ sym (faults_are before)

-- WITHOUT A STEP

asked_still : (s : Setting) (a b : Bool) (before now : List Event) (calls : List TokenCall) → steps now ≡ steps before → (a ≡ true → b ≡ true) → IsAskedSoFar s a before calls → IsAskedSoFar s b now calls
asked_still s a b before now calls same ends (inl all) = inl (all ∙ sym (same_asks s before now same))
asked_still s a b before now calls same ends (inr (is, more)) = inr (
  ends is,
  record {
    base = more.base;
    target = more.target;
    last = same ∙ more.last;
    step = more.step;
    call = more.call;
    is_call = more.is_call;
    order = more.order;
  },
)

pub tells_no_step : (request : Request) (sticks : Bool) (m n : Kept) (old : Shown) → steps n.past ≡ steps m.past → (is_ending (way m.stage) ≡ true → is_ending (way n.stage) ≡ true) → TellsSteps request sticks m n old old
tells_no_step request sticks m n old same ends = record {
  asked = λ s before calls by t grew far. (calls, grew, asked_still s (is_ending (way m.stage)) (is_ending (way n.stage)) m.past n.past calls same ends far);
  script = refl;
  faults = λ first rose. subst (λ counts. RoseBy sticks first counts old.faults) (sym (same_step_faults m.past n.past same)) rose;
}

-- a stage at which a head may follow
pub onward_ends : (m n : Kept) → is_ending (way m.stage) ≡ false → is_ending (way m.stage) ≡ true → is_ending (way n.stage) ≡ true
onward_ends m n onward ends = absurd (false≢true (sym onward ∙ ends))

-- two turns
pub tells_steps_then : (request : Request) (sticks : Bool) (m k n : Kept) (old between new : Shown) → ((s : Setting) → s.request ≡ request → Ties s m → Ties s k) → TellsSteps request sticks m k old between → TellsSteps request sticks k n between new → TellsSteps request sticks m n old new
tells_steps_then request sticks m k n old between new ties first second = record {
  asked = λ s before calls by t grew far.
      let x = first.asked s before calls by t grew far in
      second.asked s before x.0 by (ties s by t) x.1 x.2;
  script = second.script ∙ first.script;
  faults = λ from rose. second.faults from (first.faults from rose);
}

pub touched_then : {A : Type 0} (old between new : A) (before among now : List Event) → IsTouchedBySteps old between before among → IsTouchedBySteps between new among now → IsTouchedBySteps old new before now
touched_then old between new before among now (inl first) (inl second) = inl (second.0 ∙ first.0, second.1 ∙ first.1)
touched_then old between new before among now (inl first) (inr more) = inr (subst (λ k. k < length (steps now)) (ap length first.1) more)
touched_then old between new before among now (inr more) (inl second) = inr (subst (λ k. length (steps before) < k) (sym (ap length second.1)) more)
touched_then old between new before among now (inr first) (inr second) = inr (omega (arith, first, second))

still_ends : (m n : Kept) → IsStill m n → is_ending (way m.stage) ≡ true → is_ending (way n.stage) ≡ true
still_ends m n (inl same) ends = ap (λ (v : Kept). is_ending (way v.stage)) same ∙ ends
still_ends m n (inr spent) ends = ap (λ st. is_ending (way st)) spent

-- up to a turn; then what is asked for
pub need_steps : (request : Request) (sticks : Bool) (m k n : Kept) (old new : Shown) → ((s : Setting) → s.request ≡ request → Ties s m → Ties s k) → TellsSteps request sticks m k old new → n.past ≡ k.past → IsStill k n → TellsSteps request sticks m n old new
need_steps request sticks m k n old new ties first past still =
    tells_steps_then request sticks m k n old new new ties first (tells_no_step request sticks k n new (ap steps past) (still_ends k n still))

-- ONE STEP

pub one_step : (came : Came) (t : Target) (m n : Kept) → IsSeenBy came t m n → (seen : StepSeen) × (n.past ≡ Stepped t seen ∷ m.past)
one_step (Ready token) t m n (inl one) = (Token token, one)
one_step (Ready token) t m n (inr one) = (NoMemory, one.0)
one_step (CameRefused SaidRefused) t m n one = (Refused, one)
one_step (CameRefused SaidDone) t m n one = (Done, one)
one_step (CameRefused SaidNone) t m n one = (NoMechanism, one)
one_step CameWithout t m n one = (NoMechanism, one)
one_step (CameFailed count) t m n one = (Failed count, one)
one_step CameSpent t m n one = (NoMemory, one)

pub step_touched : {A : Type 0} (old new : A) (came : Came) (t : Target) (m n : Kept) → IsSeenBy came t m n → IsTouchedBySteps old new m.past n.past
step_touched old new came t m n seen =
    let one = one_step came t m n seen in
    let more : length (steps n.past) ≡ length (steps m.past) + 1 = ap (λ past. length (steps past)) one.1 ∙ longer (one.0) in
    inr (omega (arith, more))
  where
    longer : (seen : StepSeen) → length (steps (Stepped t seen ∷ m.past)) ≡ length (steps m.past) + 1
    longer seen = omega arith

-- a step that did not fail keeps no count
pub step_quiet : (came : Came) (t : Target) (m n : Kept) → is_failed came ≡ false → IsSeenBy came t m n → step_faults n.past ≡ step_faults m.past
step_quiet (Ready token) t m n fine (inl one) = ap step_faults one
step_quiet (Ready token) t m n fine (inr one) = ap step_faults one.0
step_quiet (CameRefused SaidRefused) t m n fine one = ap step_faults one
step_quiet (CameRefused SaidDone) t m n fine one = ap step_faults one
step_quiet (CameRefused SaidNone) t m n fine one = ap step_faults one
step_quiet CameWithout t m n fine one = ap step_faults one
step_quiet (CameFailed count) t m n fine one = absurd (false≢true (sym fine))
step_quiet CameSpent t m n fine one = ap step_faults one

module _ (sticks : Bool) (m n : Kept) (t : Target) (old new : ℕ) where
  faults_at : (step : Step) → IsSeenBy (begun step new) t m n → old ≤ new → (is_failed (begun step new) ≡ true → Rose sticks old new) → TellsStepFaults sticks m n old new
  faults_at HasFailed one later rises = λ first rose. subst (λ counts. RoseBy sticks first counts new) (sym (ap step_faults one)) (rose_more sticks first (step_faults m.past) old new new (rises refl, refl) rose)
  faults_at (GaveToken token) one later rises = fine (GaveToken token) refl one later
    where
      fine : (step : Step) → is_failed (begun step new) ≡ false → IsSeenBy (begun step new) t m n → old ≤ new → TellsStepFaults sticks m n old new
      fine step is one later = λ first rose. subst (λ counts. RoseBy sticks first counts new) (sym (step_quiet (begun step new) t m n is one)) (rose_later sticks first (step_faults m.past) old new later rose)
  faults_at GaveDone one later rises = λ first rose. subst (λ counts. RoseBy sticks first counts new) (sym (ap step_faults one)) (rose_later sticks first (step_faults m.past) old new later rose)
  faults_at GaveRefused one later rises = λ first rose. subst (λ counts. RoseBy sticks first counts new) (sym (ap step_faults one)) (rose_later sticks first (step_faults m.past) old new later rose)
  faults_at GaveNoMechanism one later rises = λ first rose. subst (λ counts. RoseBy sticks first counts new) (sym (ap step_faults one)) (rose_later sticks first (step_faults m.past) old new later rose)
  faults_at LacksMemory one later rises = λ first rose. subst (λ counts. RoseBy sticks first counts new) (sym (ap step_faults one)) (rose_later sticks first (step_faults m.past) old new later rose)

-- THE BEGINNING OF A CONTEXT

module _ (s : Setting) (m n : Kept) (t : Target) (spn : List ℕ) (login : Option Login) (wanted : want s m.past ≡ Steps t (Start spn login)) (number : s.number ≡ m.number) where
  one_answer : (seen : StepSeen) (step : Step) → step_told seen ≡ Some step → n.past ≡ Stepped t seen ∷ m.past → asks s m.past ++ Started m.number spn login step ∷ [] ≡ asks s n.past
  one_answer seen step told one = sym (
      ap (asks s) one
      ∙ ap (λ w. asks s m.past ++ cons_option (answered_call s w (step_told seen)) []) wanted
      ∙ ap (λ o. asks s m.past ++ cons_option (answered_call s (Steps t (Start spn login)) o) []) told
      ∙ ap (λ k. asks s m.past ++ Started k spn login step ∷ []) number)

  no_answer : (seen : StepSeen) → step_told seen ≡ None → n.past ≡ Stepped t seen ∷ m.past → asks s m.past ++ [] ≡ asks s n.past
  no_answer seen told one = sym (
      ap (asks s) one
      ∙ ap (λ o. asks s m.past ++ cons_option (answered_call s (want s m.past) o) []) told)

  asked_at : (step : Step) (faults : ℕ) → IsSeenBy (begun step faults) t m n → IsAskedSoFar s (is_ending (way n.stage)) n.past (asks s m.past ++ starting step m.number spn login)
  asked_at (GaveToken token) faults (inl one) = inl (one_answer (Token token) (GaveToken token) refl one)
  asked_at (GaveToken token) faults (inr (one, ends)) = inr (
    ends,
    record {
      base = m.past;
      target = t;
      last = ap steps one;
      step = GaveToken token;
      call = Started m.number spn login (GaveToken token);
      is_call = ap (λ w. call_told s w (GaveToken token)) wanted ∙ ap (λ k. Some (Started k spn login (GaveToken token))) number;
      order = refl;
    },
  )
  asked_at GaveDone faults one = inl (one_answer Done GaveDone refl one)
  asked_at GaveRefused faults one = inl (one_answer Refused GaveRefused refl one)
  asked_at GaveNoMechanism faults one = inl (one_answer NoMechanism GaveNoMechanism refl one)
  asked_at HasFailed faults one = inl (no_answer (Failed faults) refl one)
  asked_at LacksMemory faults one = inl (no_answer NoMemory refl one)

pub exact_asks : (s : Setting) (ending : Bool) (past : List Event) (calls : List TokenCall) → ending ≡ false → IsAskedSoFar s ending past calls → calls ≡ asks s past
exact_asks s ending past calls onward (inl all) = all
exact_asks s ending past calls onward (inr (is, more)) = absurd (false≢true (sym onward ∙ is))

-- a context began, or didn't, by what the provider answered
pub tells_started : (request : Request) (sticks : Bool) (m n : Kept) (t : Target) (spn : List ℕ) (came : Came) (told_old told_new : Option (List TokenCall)) (script_old script_new : Option (List (List Step))) (taken_old taken_new : Option (List ℕ)) (old new : ℕ)
    → m.stage ≡ Go → IsStarting m t → spn ≡ spn_told request t
    → IfSome (holding m t) (λ h. IsBegunBy h m.number spn came told_old told_new script_old taken_old taken_new new)
    → script_new ≡ script_old → old ≤ new → (is_failed came ≡ true → Rose sticks old new) → IsSeenBy came t m n
    → TellsSteps request sticks m n (shown told_old script_old old) (shown told_new script_new new)
tells_started request sticks m n t spn came told_old told_new script_old script_new taken_old taken_new old new same can named by script later rises seen = at (holding m t) (starts_held m t can) by (λ s ties. (start_before s m t same can ties).2)
  where
    at : (o : Option Holding) → CanStart o → IfSome o (λ h. IsBegunBy h m.number spn came told_old told_new script_old taken_old taken_new new)
        → ((s : Setting) (ties : Ties s m) → IsAsking s o t (start_before s m t same can ties).0)
        → TellsSteps request sticks m n (shown told_old script_old old) (shown told_new script_new new)
    at None none by asking = absurd none
    at (Some h) able by asking =
        let one = subst (λ c. IsSeenBy c t m n) by.comes_to seen in record {
          asked = λ s before calls of ties grew far.
              let b = start_before s m t same can ties in
              let wanted : want s m.past ≡ Steps t (Start spn (identity_told h)) =
              b.1.wanted ∙ ap (Steps t) (asking s ties) ∙ ap (λ (r : Request). Steps t (Start (spn_told r t) (identity_told h))) of ∙ ap (λ name. Steps t (Start name (identity_told h))) (sym named) in
              let exact = exact_asks s (is_ending (way m.stage)) m.past calls (ap (λ st. is_ending (way st)) same) far in (
                asks s m.past ++ starting by.step m.number spn (identity_told h),
                by.answered.told ∙ ap (λ o. grown o (starting by.step m.number spn (identity_told h))) (grew ∙ ap (grown before) exact)
                    ∙ grown_more before (asks s m.past) (starting by.step m.number spn (identity_told h)),
                asked_at s m n t spn (identity_told h) wanted ties.same_number by.step new one,
              );
          script = script;
          faults = faults_at sticks m n t old new by.step one later (subst (λ c. is_failed c ≡ true → Rose sticks old new) by.comes_to rises);
        }

-- WHAT A STEP LEAVES ALONE

pub step_insides : (before now : List Event) → IsStepMore before now → insides now ≡ insides before
step_insides before now (inl none) = ap insides none
step_insides before now (inr one) = ap insides one.2

pub step_link_faults : (before now : List Event) → IsStepMore before now → link_faults now ≡ link_faults before
step_link_faults before now (inl none) = ap link_faults none
step_link_faults before now (inr one) = ap link_faults one.2

pub step_dials : (s : Setting) (before now : List Event) → IsStepMore before now → dials s now ≡ dials s before
step_dials s before now (inl none) = ap (dials s) none
step_dials s before now (inr one) = ap (dials s) one.2

pub step_unprompted : (m n : Kept) → IsStepMore m.past n.past → line n ≡ line m → IsUnprompted m n
step_unprompted m n (inl none) kept = unprompted_line m n none kept
step_unprompted m n (inr one) kept = unprompted_event m n (Stepped one.0 one.1) one.2 refl kept

pub seen_more : (came : Came) (t : Target) (m n : Kept) → IsSeenBy came t m n → IsStepMore m.past n.past
seen_more came t m n seen = let one = one_step came t m n seen in inr (t, one.0, one.1)
