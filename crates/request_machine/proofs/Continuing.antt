-- Where a context goes on, and what the provider is asked for it.
use Rattle.std.proofs.Common.{◌≡◌, inl, inr, ℕ, ◌≤◌, ◌<◌, Bool, true, false, List, [], ◌∷◌, ◌++◌, length, Option, Some, None, IsSome, is_some, unwrap_or, option_map, refl, sym, ap, ◌∙◌, subst}
use Rattle.std.specs.List.{list_any, cons_option}
use Rattle.std.proofs.lemmas.Bool.{false≢true}
use Rattle.spaces.specs.declared.roster.Request.{Request}
use Rattle.spaces.specs.declared.site.Target.{Target}
use Rattle.spaces.specs.declared.site.Target.TheVariants.{Server, Proxy, Socks}
use Rattle.link_trait.specs.Told.{grown}
use Rattle.link_trait.specs.Faults.{Rose}
use Rattle.link_trait.specs.Tokens.{going_on}
use Rattle.link_trait.specs.declared.steps.Step.{Step}
use Rattle.link_trait.specs.declared.steps.Step.TheVariants.{Token as GaveToken, Done as GaveDone, Refused as GaveRefused, NoMechanism as GaveNoMechanism, Failed as HasFailed, NoMemory as LacksMemory}
use Rattle.link_trait.specs.declared.steps.StepSeen.{StepSeen}
use Rattle.link_trait.specs.declared.steps.StepSeen.TheVariants.{Token, Done, Refused, NoMechanism, Failed, NoMemory}
use Rattle.link_trait.specs.declared.tokens.TokenCall.{TokenCall}
use Rattle.link_trait.specs.declared.tokens.TokenCall.TheVariants.{WentOn}
use Rattle.negotiate_handler.specs.Contexts.{HasAnswered, gone_on, is_failed}
use Rattle.negotiate_handler.specs.declared.context.Stepped.{Stepped as Came}
use Rattle.negotiate_handler.specs.declared.context.Stepped.TheVariants.{Ready, Refused as CameRefused, NoMechanism as CameWithout, Failed as CameFailed, NoMemory as CameSpent}
use Rattle.auth_runs.specs.declared.event.Event.{Event}
use Rattle.auth_runs.specs.declared.event.Event.TheVariants.{Stepped}
use Rattle.trace_rule.specs.Settings.{Setting}
use Rattle.trace_rule.specs.Moves.Want.{Steps}
use Rattle.trace_rule.specs.Moves.Asking.{GoOn}
use Rattle.trace_rule.specs.Closings.{want, closings_made}
use Rattle.trace_rule.specs.Traces.{IsPast, is_end}
use Rattle.trace_rule.specs.Telling.{asks, call_told, answered_call, step_told}
use Rattle.request_machine.specs.declared.holding.Context.{Context}
use Rattle.request_machine.specs.declared.holding.Holding.{Holding}
use Rattle.request_machine.specs.declared.stage.Stage.TheVariants.{Continue, Spent}
use Rattle.request_machine.specs.Kept.{Kept, Ties, IsKept, IsStage, IsHeld, held_kept, is_after_end}
use Rattle.request_machine.specs.Changed.{holding, put_held}
use Rattle.request_machine.specs.Told.{IsLive, ended_told, ended_on}
use Rattle.request_machine.specs.Contexts.{IsBefore, IsBegun, seen_said}
use Rattle.request_machine.specs.Failed.{RoseBy}
use Rattle.request_machine.specs.Linked.{line, way, is_ending}
use Rattle.request_machine.specs.Needs.{need_at}
use Rattle.request_machine.specs.Provided.{steps, step_faults, IsSeenBy, IsAskedSoFar, TellsStepFaults, shown, TellsSteps}
use Rattle.request_machine.specs.Turns.{is_asking, turns_left}
use Rattle.request_machine.proofs.Dialing.{grown_more}
use Rattle.request_machine.proofs.Driving.{asks_nearer, pushed_nearer}
use Rattle.request_machine.proofs.Failing.{rose_later, rose_more}
use Rattle.request_machine.proofs.Providing.{exact_asks, step_quiet}
use Rattle.request_machine.proofs.Sending.{only_end}

-- THE LAST TOKEN STAYS

ended_kept : (h : Holding) → held_kept (ended_told h) ≡ held_kept h
ended_kept h = at h.context
  where
    at : (c : Option Context) → held_kept (record h { context = option_map ended_on c }) ≡ held_kept (record h { context = c })
    at None = refl
    at (Some c) = refl

ended_held : (s : Setting) (past : List Event) (t : Target) (o : Option Holding) → IsHeld s past t o → IsHeld s past t (option_map ended_told o)
ended_held s past t None is = is
ended_held s past t (Some h) is = record {
  is_held = is.is_held ∙ ap Some (sym (ended_kept h));
  is_known = record { space = is.is_known.space; identity = is.is_known.identity; named = is.is_known.named };
  of_target = is.of_target;
}

-- while the provider is asked
asked_held : (s : Setting) (m : Kept) (proxy server : Option Holding) → m.stage ≡ Spent → IsHeld s m.past Proxy proxy → IsHeld s m.past Server server → Ties s m → Ties s (record m { proxy = proxy; server = server; peer = None })
asked_held s m proxy server same held_proxy held_server t = record {
  same_number = t.same_number;
  same_seed = t.same_seed;
  passes_over = t.passes_over;
  route = t.route;
  stage = t.stage;
  proxy = held_proxy;
  server = held_server;
  drawn_proxy = t.drawn_proxy;
  drawn_server = t.drawn_server;
  noted_proxy = t.noted_proxy;
  noted_server = t.noted_server;
  links = t.links;
  heads = t.heads;
  code = t.code;
  rounds = t.rounds;
  is_dialed = t.is_dialed;
  stays = t.stays;
  has_lost = t.has_lost;
  has_none = t.has_none;
  ended = t.ended;
  may_stop = t.may_stop;
  prompt = t.prompt;
  open_still = t.open_still;
  kept = subst (IsKept s (record m { proxy = proxy; server = server; peer = None })) (sym same) tt;
}

pub asked_ties : (s : Setting) (m : Kept) (t : Target) → m.stage ≡ Spent → Ties s m → Ties s (record (put_held t (option_map ended_told (holding m t)) m) { peer = None })
asked_ties s m Proxy same t = asked_held s m (option_map ended_told m.proxy) m.server same (ended_held s m.past Proxy m.proxy t.proxy) t.server t
asked_ties s m Server same t = asked_held s m m.proxy (option_map ended_told m.server) same t.proxy (ended_held s m.past Server m.server t.server) t
asked_ties s m Socks same t = asked_held s m m.proxy m.server same t.proxy t.server t

-- neither the past nor the line nor the counts are touched
pub asked_past : (t : Target) (h : Option Holding) (m : Kept) → (record (put_held t h m) { peer = None }).past ≡ m.past
asked_past Proxy h m = refl
asked_past Server h m = refl
asked_past Socks h m = refl

pub asked_line : (t : Target) (h : Option Holding) (m : Kept) → line (record (put_held t h m) { peer = None }) ≡ line m
asked_line Proxy h m = refl
asked_line Server h m = refl
asked_line Socks h m = refl

pub asked_rounds : (t : Target) (h : Option Holding) (m : Kept) → (record (put_held t h m) { peer = None }).rounds ≡ m.rounds
asked_rounds Proxy h m = refl
asked_rounds Server h m = refl
asked_rounds Socks h m = refl

pub asked_holding : (t : Target) (m : Kept) → IsLive (holding m t) → holding (record (put_held t (option_map ended_told (holding m t)) m) { peer = None }) t ≡ option_map ended_told (holding m t)
asked_holding Proxy m live = refl
asked_holding Server m live = refl
asked_holding Socks m live = absurd live

-- what is put behind the peer's token was taken
pub put_behind : (t : Target) (h : Option Holding) (m : Kept) → put_held t h (put_held t None (record m { peer = None })) ≡ record (put_held t h m) { peer = None }
put_behind Proxy h m = refl
put_behind Server h m = refl
put_behind Socks h m = refl

pub peerless : (t : Target) (m : Kept) → holding (record m { peer = None }) t ≡ holding m t
peerless Proxy m = refl
peerless Server m = refl
peerless Socks m = refl

-- a context that goes on has begun
pub ended_begun : (o : Option Holding) → IsLive o → IsBegun (option_map ended_told o)
ended_begun None live = absurd live
ended_begun (Some h) live = at h.context live
  where
    at : (c : Option Context) → IsLive (Some (record h { context = c })) → IsSome (option_map ended_on c)
    at None e = absurd (false≢true e)
    at (Some c) e = refl

pub ended_some : (o : Option Holding) → IsLive o → IsSome (option_map ended_told o)
ended_some None live = absurd live
ended_some (Some h) live = refl

-- BY WHAT THE MACHINE CALLS

-- a context that goes on ends by a refusal where there is no mechanism
pub gone_never : (step : Step) (faults : ℕ) → gone_on step faults ≡ CameWithout → ⊥
gone_never (GaveToken token) faults e = cc e
gone_never GaveDone faults e = cc e
gone_never GaveRefused faults e = cc e
gone_never GaveNoMechanism faults e = cc e
gone_never HasFailed faults e = cc e
gone_never LacksMemory faults e = cc e

-- the provider is asked for an answer to the token that is kept
pub continue_before : (s : Setting) (m k : Kept) (t : Target) (peer : List ℕ) → m.stage ≡ Continue t → m.peer ≡ Some peer → k.past ≡ m.past → Ties s m → IsBefore s k t (GoOn peer)
continue_before s m k x peer same is past t =
    let kept : IsKept s m (Continue x) = subst (IsKept s m) same t.kept in
    let token : Some kept.0.token ≡ Some peer = sym kept.0.is_kept ∙ is in
    let wanted : want s m.past ≡ Steps x (GoOn peer) = kept.0.wanted ∙ ap (λ (o : Option (List ℕ)). Steps x (GoOn (unwrap_or o peer))) token in
    let no_end : list_any is_end m.past ≡ false = t.ended ∙ ap is_after_end same in
    let is_past : IsPast s m.past = subst (IsStage s m.past) same t.stage in
    record {
      is_past = subst (IsPast s) (sym past) is_past;
      wanted = ap (want s) past ∙ wanted;
      no_end = ap (list_any is_end) past ∙ no_end;
      none_made = ap (closings_made s) past ∙ only_end s m (Continue x) same t (λ n e. e);
    }

-- what is seen depends on the past alone
pub seen_before : (came : Came) (t : Target) (m k n : Kept) → k.past ≡ m.past → IsSeenBy came t k n → IsSeenBy came t m n
seen_before (Ready token) t m k n same (inl one) = inl (one ∙ ap (λ past. Stepped t (Token token) ∷ past) same)
seen_before (Ready token) t m k n same (inr (one, ends)) = inr (one ∙ ap (λ past. Stepped t NoMemory ∷ past) same, ends)
seen_before (CameRefused said) t m k n same one = one ∙ ap (λ past. Stepped t (seen_said said) ∷ past) same
seen_before CameWithout t m k n same one = one ∙ ap (λ past. Stepped t NoMechanism ∷ past) same
seen_before (CameFailed count) t m k n same one = one ∙ ap (λ past. Stepped t (Failed count) ∷ past) same
seen_before CameSpent t m k n same one = one ∙ ap (λ past. Stepped t NoMemory ∷ past) same

-- WHAT THE PROVIDER TELLS OF IT

module _ (s : Setting) (m n : Kept) (t : Target) (peer : List ℕ) (wanted : want s m.past ≡ Steps t (GoOn peer)) (number : s.number ≡ m.number) where
  one_answer : (seen : StepSeen) (step : Step) → step_told seen ≡ Some step → n.past ≡ Stepped t seen ∷ m.past → asks s m.past ++ WentOn m.number peer step ∷ [] ≡ asks s n.past
  one_answer seen step told one = sym (
      ap (asks s) one
      ∙ ap (λ w. asks s m.past ++ cons_option (answered_call s w (step_told seen)) []) wanted
      ∙ ap (λ o. asks s m.past ++ cons_option (answered_call s (Steps t (GoOn peer)) o) []) told
      ∙ ap (λ k. asks s m.past ++ WentOn k peer step ∷ []) number)

  no_answer : (seen : StepSeen) → step_told seen ≡ None → n.past ≡ Stepped t seen ∷ m.past → asks s m.past ++ [] ≡ asks s n.past
  no_answer seen told one = sym (
      ap (asks s) one
      ∙ ap (λ o. asks s m.past ++ cons_option (answered_call s (want s m.past) o) []) told)

  asked_at : (step : Step) (faults : ℕ) → IsSeenBy (gone_on step faults) t m n → IsAskedSoFar s (is_ending (way n.stage)) n.past (asks s m.past ++ going_on step m.number peer)
  asked_at (GaveToken token) faults (inl one) = inl (one_answer (Token token) (GaveToken token) refl one)
  asked_at (GaveToken token) faults (inr (one, ends)) = inr (
    ends,
    record {
      base = m.past;
      target = t;
      last = ap steps one;
      step = GaveToken token;
      call = WentOn m.number peer (GaveToken token);
      is_call = ap (λ w. call_told s w (GaveToken token)) wanted ∙ ap (λ k. Some (WentOn k peer (GaveToken token))) number;
      order = refl;
    },
  )
  asked_at GaveDone faults one = inl (one_answer Done GaveDone refl one)
  asked_at GaveRefused faults one = inl (one_answer Refused GaveRefused refl one)
  asked_at GaveNoMechanism faults one = inl (one_answer NoMechanism GaveNoMechanism refl one)
  asked_at HasFailed faults one = inl (no_answer (Failed faults) refl one)
  asked_at LacksMemory faults one = inl (no_answer NoMemory refl one)

module _ (sticks : Bool) (m n : Kept) (t : Target) (old new : ℕ) where
  fine : (step : Step) → is_failed (gone_on step new) ≡ false → IsSeenBy (gone_on step new) t m n → old ≤ new → TellsStepFaults sticks m n old new
  fine step is one later = λ first rose. subst (λ counts. RoseBy sticks first counts new) (sym (step_quiet (gone_on step new) t m n is one)) (rose_later sticks first (step_faults m.past) old new later rose)

  faults_at : (step : Step) → IsSeenBy (gone_on step new) t m n → old ≤ new → (is_failed (gone_on step new) ≡ true → Rose sticks old new) → TellsStepFaults sticks m n old new
  faults_at HasFailed one later rises = λ first rose. subst (λ counts. RoseBy sticks first counts new) (sym (ap step_faults one)) (rose_more sticks first (step_faults m.past) old new new (rises refl, refl) rose)
  faults_at (GaveToken token) one later rises = fine (GaveToken token) refl one later
  faults_at GaveDone one later rises = fine GaveDone refl one later
  faults_at GaveRefused one later rises = fine GaveRefused refl one later
  faults_at GaveNoMechanism one later rises = fine GaveNoMechanism refl one later
  faults_at LacksMemory one later rises = fine LacksMemory refl one later

-- a context went on, or didn't, by what the provider answered
pub tells_continued : (request : Request) (sticks : Bool) (m n : Kept) (t : Target) (peer : List ℕ) (step : Step) (came : Came) (told_old told_new : Option (List TokenCall)) (script_old script_new : Option (List (List Step))) (taken_old taken_new : Option (List ℕ)) (old new : ℕ)
    → m.stage ≡ Continue t → m.peer ≡ Some peer
    → HasAnswered told_old told_new (going_on step m.number peer) script_old taken_old taken_new m.number step → came ≡ gone_on step new
    → script_new ≡ script_old → old ≤ new → (is_failed came ≡ true → Rose sticks old new) → IsSeenBy came t m n
    → TellsSteps request sticks m n (shown told_old script_old old) (shown told_new script_new new)
tells_continued request sticks m n t peer step came told_old told_new script_old script_new taken_old taken_new old new same is answered comes script later rises seen =
    let one = subst (λ c. IsSeenBy c t m n) comes seen in record {
      asked = λ s before calls of ties grew far.
          let b = continue_before s m m t peer same is refl ties in
          let exact = exact_asks s (is_ending (way m.stage)) m.past calls (ap (λ st. is_ending (way st)) same) far in (
            asks s m.past ++ going_on step m.number peer,
            answered.told ∙ ap (λ o. grown o (going_on step m.number peer)) (grew ∙ ap (grown before) exact) ∙ grown_more before (asks s m.past) (going_on step m.number peer),
            asked_at s m n t peer b.wanted ties.same_number step new one,
          );
      script = script;
      faults = faults_at sticks m n t old new step one later (subst (λ c. is_failed c ≡ true → Rose sticks old new) comes rises);
    }

-- a turn of it
continue_idle : (m : Kept) (t : Target) → m.stage ≡ Continue t → is_asking m ≡ false
continue_idle m t was = ap (λ st. is_some (need_at m st)) was

pub continued_nearer : (m n : Kept) (t : Target) (event : Event) → n.past ≡ event ∷ m.past → length m.past < 256 → m.stage ≡ Continue t → turns_left n < turns_left m
continued_nearer m n t event is few was = pushed_nearer m n event is few (continue_idle m t was)

pub continue_nearer : (m n : Kept) (t : Target) → m.stage ≡ Continue t → is_asking n ≡ true → turns_left n < turns_left m
continue_nearer m n t was asks = asks_nearer m n asks (continue_idle m t was)
