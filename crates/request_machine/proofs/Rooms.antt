-- The past of a machine leaves room, since the rule's pasts do.
use Rattle.std.proofs.Common.{◌≡◌, ◌⊎◌, inl, inr, ℕ, ◌+◌, ◌<◌, ◌≤◌, ◌==◌, Bool, true, false, List, ◌∷◌, length, Option, Some, None, IsSome, is_some, option_map, refl, sym, ap, ◌∙◌, subst, arith, if◌then◌else◌}
use Rattle.spaces.specs.declared.roster.Request.{Request}
use Rattle.auth_events.specs.declared.journal.Loss.TheVariants.{Memory}
use Rattle.auth_events.specs.declared.journal.Call.TheVariants.{Lose}
use Rattle.auth_events.specs.declared.journal.BookReply.TheVariants.{Lost}
use Rattle.std.proofs.lemmas.Bool.{false≢true}
use Rattle.auth_runs.specs.declared.event.Event.{Event}
use Rattle.auth_runs.specs.declared.event.Event.TheVariants.{Called}
use Rattle.trace_rule.specs.Settings.{Setting, IsNumbered}
use Rattle.trace_rule.specs.Holding.{has_link}
use Rattle.trace_rule.specs.Traces.{IsPast, IsRun, IsCut, prompt_open, with_loss}
use Rattle.trace_rule.proofs.Bounds.{rounds_bound}
use Rattle.trace_rule.proofs.HeadCount.{heads_bound}
use Rattle.trace_laws.proofs.Counted.{few_links, few_if}
use Rattle.trace_laws.proofs.Sums.{short_pasts}
use Rattle.request_machine.specs.declared.stage.Stage.{Stage}
use Rattle.request_machine.specs.declared.stage.Stage.TheVariants.{Call as Calling, Go, Learn, Draw, Choose, NameSpace, NameTerms, NameRenewal, Renew as Renewing, NextNonce, NameLast, RenewLast, Select as Selecting, Ask, NameText, Answer as Answering, Cancel as Cancelling, Lose as Losing, Take as Taking, Reject as Rejecting, Continue, LoseLink, Read, Close, End, Spent, SpentEnd, SpentOver, Over}
use Rattle.request_machine.specs.declared.need.Need.TheVariants.{SpaceNo, TermsNo, TextNo}
use Rattle.request_machine.specs.Kept.{Kept, Ties, IsStage, IsKept, IsTied, holding, lost_at}
use Rattle.request_machine.specs.Told.{IsLive}
use Rattle.spaces.specs.declared.site.Target.{Target}
use Rattle.request_machine.specs.Needs.{need_at, is_naming}
use Rattle.request_machine.specs.Turns.{is_asking, is_going}
use Rattle.request_machine.specs.Rooms.{HasSetting, HasSettingOf, HasRoomToGo, HasRoomToRead, HasRoomAt}

loss_short : (p : ℕ) (past : List Event) → length (with_loss p past) ≤ length past + 1
loss_short p past = at (p == 0)
  where
    at : (b : Bool) → length (if b then past else Called (Lose p Memory) (Lost Memory) ∷ past) ≤ length past + 1
    at true = omega arith
    at false = omega arith

module _ (s : Setting) (numbers : IsNumbered s) where
  short : (past : List Event) → IsPast s past → length past ≤ 251
  short past run = omega (arith, short_pasts s numbers past run)

  short_lost : (base : List Event) → IsPast s base → length (lost_at base) ≤ 249
  short_lost base run = omega (arith, short_pasts s numbers base run, loss_short (prompt_open base base) base)

  short_over : (past : List Event) → IsRun s past ⊎ IsCut s past → length past ≤ 251
  short_over past (inl run) = short past run.0
  short_over past (inr (base, cut)) =
      let loss : length (lost_at base) ≤ 249 = short_lost base cut.is_past in
      subst (λ x. length x ≤ 251) (sym cut.cut) (omega (arith, loss))

  short_at : (past : List Event) (stage : Stage) → IsStage s past stage → length past ≤ 251
  short_at past (Calling call) at = short past at.0
  short_at past Go at = short past at.0
  short_at past (Learn t piece) at = short past at.0
  short_at past (Draw t nonce) at = short past at.0
  short_at past (Choose t) at = short past at.0
  short_at past (NameSpace t) at = short past at.0
  short_at past (NameTerms t n) at = short past at.0
  short_at past (NameRenewal t gift) at = short past at.0
  short_at past (Renewing t gift terms) at = short past at.0
  short_at past (NextNonce t c) at = short past at.0.is_past
  short_at past (NameLast t gift c) at = short past at.0.is_past
  short_at past (RenewLast t gift terms c) at = short past at.0.is_past
  short_at past (Selecting t space terms) at = short past at.0
  short_at past (Ask p ordinal) at = short past at.0
  short_at past (NameText p) at = short past at.0
  short_at past (Answering p text) at = short past at.0
  short_at past (Cancelling p) at = short past at.0
  short_at past (Losing p loss) at = short past at.0
  short_at past (Taking p) at = short past at.0
  short_at past (Rejecting t gift) at = short past at.0
  short_at past (Continue t) at = short past at
  short_at past (LoseLink link) at = short past at.0
  short_at past (Read link) at = short past at.0
  short_at past (Close c) at = short past at.0
  short_at past (End outcome) at = short past at.0
  short_at past Spent at = short past at.is_past
  short_at past SpentEnd at = subst (λ x. length x ≤ 251) (sym at.2) (let loss = short_lost at.0 at.1.is_past in omega (arith, loss))
  short_at past SpentOver at = subst (λ x. length x ≤ 251) (sym at.2) (let loss = short_lost at.0 at.1.is_past in omega (arith, loss))
  short_at past Over at = short_over past at

  go_room : (m : Kept) → Ties s m → IsPast s m.past → HasRoomToGo m
  go_room m t run = record {
    past = omega (arith, short_pasts s numbers m.past run);
    links = omega (arith, few_links s m.past run, few_if (has_link m.past), heads_bound s m.past run, t.links);
    heads = omega (arith, heads_bound s m.past run, t.heads);
    rounds = omega (arith, rounds_bound s m.past run, t.rounds);
  }

  read_room : (m : Kept) → Ties s m → IsPast s m.past → HasRoomToRead m
  read_room m t run = record {
    past = omega (arith, short_pasts s numbers m.past run);
    rounds = omega (arith, rounds_bound s m.past run, t.rounds);
  }

  past_room : (m : Kept) → Ties s m → length m.past < 256
  past_room m t = let few = short_at m.past m.stage t.stage in omega (arith, few)

  room_at : (m : Kept) (stage : Stage) → Ties s m → IsStage s m.past stage → HasRoomAt stage m
  room_at m Go t at = go_room m t at.0
  room_at m (Continue x) t at = read_room m t at
  room_at m (LoseLink link) t at = past_room m t
  room_at m (Read link) t at = read_room m t at.0
  room_at m (Calling call) t at = past_room m t
  room_at m (Learn x piece) t at = past_room m t
  room_at m (Draw x nonce) t at = past_room m t
  room_at m (Choose x) t at = past_room m t
  room_at m (NameSpace x) t at = past_room m t
  room_at m (NameTerms x n) t at = past_room m t
  room_at m (NameRenewal x gift) t at = past_room m t
  room_at m (Renewing x gift terms) t at = past_room m t
  room_at m (NextNonce x c) t at = past_room m t
  room_at m (NameLast x gift c) t at = past_room m t
  room_at m (RenewLast x gift terms c) t at = past_room m t
  room_at m (Selecting x space terms) t at = past_room m t
  room_at m (Ask p ordinal) t at = past_room m t
  room_at m (NameText p) t at = past_room m t
  room_at m (Answering p text) t at = past_room m t
  room_at m (Cancelling p) t at = past_room m t
  room_at m (Losing p loss) t at = past_room m t
  room_at m (Taking p) t at = past_room m t
  room_at m (Rejecting x gift) t at = past_room m t
  room_at m (Close c) t at = past_room m t
  room_at m (End outcome) t at = past_room m t
  room_at m Spent t at = past_room m t
  room_at m SpentEnd t at = past_room m t
  room_at m SpentOver t at = past_room m t
  room_at m Over t at = past_room m t

-- a machine that is in a setting has room for the next event
pub tied_room : (m : Kept) → HasSetting m → length m.past < 256
tied_room m tied = past_room tied.setting tied.numbers m tied.ties

pub tied_room_at : (request : Request) (m : Kept) → HasSettingOf request m → HasRoomAt m.stage m
tied_room_at request m tied = room_at tied.setting tied.numbers m m.stage tied.ties tied.ties.stage

-- WHAT IS TO BE NAMED IS THERE

named_asks : (s : Setting) (m : Kept) (stage : Stage) → is_naming stage ≡ true → IsKept s m stage → is_some (need_at m stage) ≡ true
named_asks s m (NameSpace t) naming kept = mapped SpaceNo m.unnamed_space kept.is_some
  where
    mapped : {A B : Type 0} (f : A → B) (o : Option A) → IsSome o → is_some (option_map f o) ≡ true
    mapped f None e = absurd (false≢true e)
    mapped f (Some a) e = refl
named_asks s m (NameTerms t n) naming kept = mapped (TermsNo n) m.unnamed_terms kept.are_some
  where
    mapped : {A B : Type 0} (f : A → B) (o : Option A) → IsSome o → is_some (option_map f o) ≡ true
    mapped f None e = absurd (false≢true e)
    mapped f (Some a) e = refl
named_asks s m (NameText p) naming kept = mapped TextNo m.given kept
  where
    mapped : {A B : Type 0} (f : A → B) (o : Option A) → IsSome o → is_some (option_map f o) ≡ true
    mapped f None e = absurd (false≢true e)
    mapped f (Some a) e = refl
named_asks s m (NameRenewal t gift) naming kept = ap (λ o. is_some (option_map (TermsNo gift.space) o)) kept.are_unnamed
named_asks s m (NameLast t gift c) naming kept = ap (λ o. is_some (option_map (TermsNo gift.space) o)) kept.1.are_unnamed
named_asks s m _ naming kept = absurd (false≢true naming)

-- so a machine that asks for nothing names nothing
pub names_none : (request : Request) (m : Kept) → HasSettingOf request m → is_asking m ≡ false → is_naming m.stage ≡ true → ⊥
names_none request m tied idle naming = false≢true (sym idle ∙ named_asks tied.setting m m.stage naming tied.ties.kept)

-- BY WHERE THE MACHINE STANDS

pub tied_go : (request : Request) (m : Kept) → HasSettingOf request m → m.stage ≡ Go → HasRoomToGo m
tied_go request m tied same = subst (λ st. HasRoomAt st m) same (tied_room_at request m tied)

pub tied_read : (request : Request) (m : Kept) (link : ℕ) → HasSettingOf request m → m.stage ≡ Read link → HasRoomToRead m
tied_read request m link tied same = subst (λ st. HasRoomAt st m) same (tied_room_at request m tied)

pub tied_continue : (request : Request) (m : Kept) (t : Target) → HasSettingOf request m → m.stage ≡ Continue t → HasRoomToRead m
tied_continue request m t tied same = subst (λ st. HasRoomAt st m) same (tied_room_at request m tied)

-- there is a token to be answered, and a context that goes on
pub tied_answer : (request : Request) (m : Kept) (t : Target) → HasSettingOf request m → m.stage ≡ Continue t → IsSome m.peer × IsLive (holding m t)
tied_answer request m t tied same =
    let kept : IsKept tied.setting m (Continue t) = subst (IsKept tied.setting m) same tied.ties.kept in
    (ap is_some kept.0.is_kept, kept.1)

pub tied_past : (request : Request) (m : Kept) → HasSettingOf request m → length m.past < 256
tied_past request m tied = past_room tied.setting tied.numbers m tied.ties

pub setting_tied : (request : Request) (m : Kept) → HasSettingOf request m → IsTied m request
setting_tied request m tied = (tied.setting, tied.same_request, tied.ties)

-- a machine that asks for nothing goes on by itself
pub idle_goes : (request : Request) (m : Kept) → HasSettingOf request m → is_asking m ≡ false → is_going m.stage ≡ true
idle_goes request m tied idle = at m.stage refl
  where
    asks : (stage : Stage) → m.stage ≡ stage → is_some (need_at m stage) ≡ true → is_going stage ≡ true
    asks stage same some = absurd (false≢true (sym idle ∙ ap (λ st. is_some (need_at m st)) same ∙ some))

    names : (stage : Stage) → m.stage ≡ stage → is_naming stage ≡ true → is_going stage ≡ true
    names stage same naming = absurd (names_none request m tied idle (ap is_naming same ∙ naming))

    at : (stage : Stage) → m.stage ≡ stage → is_going stage ≡ true
    at Go same = refl
    at (Learn t piece) same = refl
    at (Choose t) same = refl
    at (Continue t) same = refl
    at (LoseLink link) same = refl
    at (Read link) same = refl
    at (Ask p ordinal) same = refl
    at (NextNonce t c) same = refl
    at (End outcome) same = refl
    at SpentOver same = refl
    at (NameSpace t) same = names (NameSpace t) same refl
    at (NameTerms t n) same = names (NameTerms t n) same refl
    at (NameText p) same = names (NameText p) same refl
    at (NameRenewal t gift) same = names (NameRenewal t gift) same refl
    at (NameLast t gift c) same = names (NameLast t gift c) same refl
    at (Calling call) same = asks (Calling call) same refl
    at (Draw t nonce) same = asks (Draw t nonce) same refl
    at (Selecting t space terms) same = asks (Selecting t space terms) same refl
    at (Answering p text) same = asks (Answering p text) same refl
    at (Cancelling p) same = asks (Cancelling p) same refl
    at (Losing p loss) same = asks (Losing p loss) same refl
    at (Taking p) same = asks (Taking p) same refl
    at (Rejecting t gift) same = asks (Rejecting t gift) same refl
    at (Renewing t gift terms) same = asks (Renewing t gift terms) same refl
    at (RenewLast t gift terms c) same = asks (RenewLast t gift terms c) same refl
    at (Close c) same = asks (Close c) same refl
    at Spent same = asks Spent same refl
    at SpentEnd same = asks SpentEnd same refl
    at Over same = asks Over same refl
