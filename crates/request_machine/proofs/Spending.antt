-- How a request closes for want of memory.
use Rattle.std.proofs.Common.{◌≡◌, ℕ, ◌==◌, true, false, List, ◌∷◌, refl, sym, ap, ◌∙◌, zero-add, if◌then◌else◌, subst, inr, arith}
use Rattle.spaces.specs.declared.site.Target.TheVariants.{Server, Proxy}
use Rattle.std.proofs.lemmas.Bool.{false≢true}
use Rattle.std.specs.List.{list_any}
use Rattle.auth_events.specs.declared.journal.Loss.TheVariants.{Memory}
use Rattle.auth_events.specs.declared.journal.Call.TheVariants.{Lose, End as CallEnd}
use Rattle.auth_events.specs.declared.journal.BookReply.TheVariants.{Lost, Ended as RequestEnded}
use Rattle.auth_runs.specs.declared.event.Event.{Event}
use Rattle.auth_runs.specs.declared.event.Event.TheVariants.{Called, Ended}
use Rattle.auth_runs.specs.declared.event.Outcome.TheVariants.{NoMemory}
use Rattle.trace_rule.specs.Settings.{Setting}
use Rattle.trace_rule.specs.Moves.{rounds}
use Rattle.trace_rule.specs.Traces.{IsPast, is_end, with_loss}
use Rattle.request_machine.specs.declared.stage.Stage.{Stage}
use Rattle.request_machine.specs.declared.stage.Stage.TheVariants.{Call as Calling, Go, Learn, Draw, Choose, NameSpace, NameTerms, Select as Selecting, Ask, NameText, Answer as Answering, Cancel as Cancelling, Lose as Losing, Take as Taking, Reject as Rejecting, NameRenewal, Renew as Renewing, Continue, LoseLink, Read, NextNonce, NameLast, RenewLast, Close, End, Spent, SpentEnd, SpentOver, Over}
use Rattle.request_machine.specs.Kept.{Kept, Ties, IsStage, IsSpentAt, lost_at, is_after_end, can_stop, is_regular}
use Rattle.request_machine.proofs.Quiet.{quiet_ties, same_held, end_still, outcome_still}
use Rattle.request_machine.proofs.Prompts.{open_settled}

regular_past : (s : Setting) (past : List Event) (stage : Stage) → is_regular stage ≡ true → IsStage s past stage → IsPast s past
regular_past s past (Calling call) regular at = at.0
regular_past s past Go regular at = at.0
regular_past s past (Learn t piece) regular at = at.0
regular_past s past (Draw t nonce) regular at = at.0
regular_past s past (Choose t) regular at = at.0
regular_past s past (NameSpace t) regular at = at.0
regular_past s past (NameTerms t n) regular at = at.0
regular_past s past (Selecting t space terms) regular at = at.0
regular_past s past (Ask p ordinal) regular at = at.0
regular_past s past (NameText p) regular at = at.0
regular_past s past (Answering p text) regular at = at.0
regular_past s past (Cancelling p) regular at = at.0
regular_past s past (Losing p loss) regular at = at.0
regular_past s past (Taking p) regular at = at.0
regular_past s past (Rejecting t gift) regular at = at.0
regular_past s past (NameRenewal t gift) regular at = at.0
regular_past s past (Renewing t gift terms) regular at = at.0
regular_past s past (Continue t) regular at = at
regular_past s past (LoseLink link) regular at = at.0
regular_past s past (Read link) regular at = at.0
regular_past s past (NextNonce t c) regular at = at.0.is_past
regular_past s past (NameLast t gift c) regular at = at.0.is_past
regular_past s past (RenewLast t gift terms c) regular at = at.0.is_past
regular_past s past (Close c) regular at = at.0
regular_past s past (End outcome) regular at = at.0
regular_past s past Spent regular at = absurd (false≢true regular)
regular_past s past SpentEnd regular at = absurd (false≢true regular)
regular_past s past SpentOver regular at = absurd (false≢true regular)
regular_past s past Over regular at = absurd (false≢true regular)

not_ended : (stage : Stage) → can_stop stage ≡ true → is_after_end stage ≡ false
not_ended (Calling call) stop = refl
not_ended Go stop = refl
not_ended (Learn t piece) stop = refl
not_ended (Draw t nonce) stop = refl
not_ended (Choose t) stop = refl
not_ended (NameSpace t) stop = refl
not_ended (NameTerms t n) stop = refl
not_ended (Selecting t space terms) stop = refl
not_ended (Ask p ordinal) stop = refl
not_ended (NameText p) stop = refl
not_ended (Answering p text) stop = refl
not_ended (Cancelling p) stop = refl
not_ended (Losing p loss) stop = refl
not_ended (Taking p) stop = absurd (false≢true stop)
not_ended (Rejecting t gift) stop = refl
not_ended (NameRenewal t gift) stop = refl
not_ended (Renewing t gift terms) stop = refl
not_ended (Continue t) stop = refl
not_ended (LoseLink link) stop = refl
not_ended (Read link) stop = refl
not_ended (NextNonce t c) stop = refl
not_ended (NameLast t gift c) stop = refl
not_ended (RenewLast t gift terms c) stop = refl
not_ended (Close c) stop = refl
not_ended (End outcome) stop = absurd (false≢true stop)
not_ended Spent stop = refl
not_ended SpentEnd stop = refl
not_ended SpentOver stop = absurd (false≢true stop)
not_ended Over stop = absurd (false≢true stop)

-- memory ran out where it may
pub spent_ties : (s : Setting) (m : Kept) → is_regular m.stage ≡ true → can_stop m.stage ≡ true → Ties s m → Ties s (record m { stage = Spent })
spent_ties s m regular stop t = record {
  same_number = t.same_number;
  same_seed = t.same_seed;
  passes_over = t.passes_over;
  route = t.route;
  stage = record { is_past = regular_past s m.past m.stage regular t.stage; may_cut = t.may_stop ∙ stop };
  proxy = t.proxy;
  server = t.server;
  drawn_proxy = t.drawn_proxy;
  drawn_server = t.drawn_server;
  noted_proxy = t.noted_proxy;
  noted_server = t.noted_server;
  links = t.links;
  heads = t.heads;
  code = t.code;
  rounds = t.rounds;
  is_dialed = t.is_dialed;
  stays = t.stays;
  has_lost = t.has_lost;
  has_none = t.has_none;
  ended = t.ended ∙ not_ended m.stage stop;
  may_stop = t.may_stop ∙ stop;
  prompt = t.prompt;
  open_still = tt;
  kept = tt;
}

same_number : (n : ℕ) → (n == n) ≡ true
same_number n = grind (arith)

-- an open prompt was lost
pub prompt_lost_ties : (s : Setting) (m : Kept) → m.stage ≡ Spent → (m.prompt == 0) ≡ false → Ties s m
    → Ties s (record m { past = Called (Lose m.prompt Memory) (Lost Memory) ∷ m.past; stage = SpentEnd; prompt = 0 })
prompt_lost_ties s m same some t =
    let no_end : list_any is_end m.past ≡ false = t.ended ∙ ap is_after_end same in
    let at : IsStage s m.past Spent = subst (IsStage s m.past) same t.stage in
    let event : Event = Called (Lose m.prompt Memory) (Lost Memory) in
    let whole : lost_at m.past ≡ event ∷ m.past = ap (λ p. with_loss p m.past) t.prompt ∙ ap (λ b. if b then m.past else event ∷ m.past) some in
    record {
      same_number = t.same_number;
      same_seed = t.same_seed;
      passes_over = t.passes_over;
      route = t.route;
      stage = (m.past, at, sym whole);
      proxy = same_held s m.past event Proxy m.proxy refl t.proxy;
      server = same_held s m.past event Server m.server refl t.server;
      drawn_proxy = t.drawn_proxy;
      drawn_server = t.drawn_server;
      noted_proxy = t.noted_proxy;
      noted_server = t.noted_server;
      links = t.links;
      heads = t.heads;
      code = t.code;
      rounds = zero-add (rounds s m.past) ∙ t.rounds;
      is_dialed = t.is_dialed;
      stays = t.stays;
      has_lost = t.has_lost;
      has_none = t.has_none;
      ended = no_end;
      may_stop = rw no_end refl;
      prompt = open_settled m.past event (λ p e. subst (λ q. (m.prompt == q) ≡ true) (sym t.prompt ∙ e) (same_number m.prompt)) m.past refl;
      open_still = tt;
      kept = tt;
    }

spent_end : (s : Setting) (m : Kept) (base : List Event) → IsSpentAt s base → m.past ≡ lost_at base → list_any is_end m.past ≡ false → Ties s m
    → Ties s (record m { past = Called CallEnd RequestEnded ∷ m.past; stage = SpentOver })
spent_end s m base at same no_end t =
    quiet_ties s m (Called CallEnd RequestEnded) SpentOver (end_still s m.past RequestEnded) (λ x. refl) t tt (record {
      stands = (base, at, ap (λ past. Called CallEnd RequestEnded ∷ past) same);
      ended = refl;
      may_stop = refl;
      open_still = tt;
    })

-- the request was ended, where no prompt was open
pub spent_end_ties : (s : Setting) (m : Kept) → m.stage ≡ Spent → (m.prompt == 0) ≡ true → Ties s m → Ties s (record m { past = Called CallEnd RequestEnded ∷ m.past; stage = SpentOver })
spent_end_ties s m same none t =
    spent_end s m m.past (subst (IsStage s m.past) same t.stage)
    (sym (ap (λ p. with_loss p m.past) t.prompt ∙ ap (λ b. if b then m.past else Called (Lose m.prompt Memory) (Lost Memory) ∷ m.past) none))
    (t.ended ∙ ap is_after_end same) t

-- the request was ended behind a lost prompt
pub lost_end_ties : (s : Setting) (m : Kept) → m.stage ≡ SpentEnd → Ties s m → Ties s (record m { past = Called CallEnd RequestEnded ∷ m.past; stage = SpentOver })
lost_end_ties s m same t =
    let at : IsStage s m.past SpentEnd = subst (IsStage s m.past) same t.stage in
    spent_end s m at.0 at.1 at.2 (t.ended ∙ ap is_after_end same) t

-- the outcome is the want of memory
pub spent_over_ties : (s : Setting) (m : Kept) → m.stage ≡ SpentOver → Ties s m → Ties s (record m { past = Ended NoMemory ∷ m.past; stage = Over })
spent_over_ties s m same t =
    let ended : list_any is_end m.past ≡ true = t.ended ∙ ap is_after_end same in
    let at : IsStage s m.past SpentOver = subst (IsStage s m.past) same t.stage in
    quiet_ties s m (Ended NoMemory) Over (outcome_still s m.past NoMemory) (λ x. refl) t tt (record {
      stands = inr (at.0, record { is_past = at.1.is_past; may_cut = at.1.may_cut; cut = ap (λ past. Ended NoMemory ∷ past) at.2 });
      ended = ended;
      may_stop = rw ended refl;
      open_still = tt;
    })
