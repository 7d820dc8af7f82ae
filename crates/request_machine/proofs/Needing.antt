-- What is asked for is wanted.
use Rattle.std.proofs.Common.{◌≡◌, List, [], ◌∷◌, ◌++◌, map, Option, Some, None, refl, ap, ◌∙◌}
use Rattle.auth_events.specs.declared.journal.Gift.{Gift}
use Rattle.auth_events.specs.declared.journal.Call.{Call}
use Rattle.auth_events.specs.declared.journal.Call.TheVariants.{Renew, End as CallEnd}
use Rattle.trace_rule.specs.Settings.{Setting}
use Rattle.request_machine.specs.declared.stage.Stage.{Stage}
use Rattle.request_machine.specs.declared.stage.Stage.TheVariants.{Call as Calling, Go, Learn, Draw, Choose, NameSpace, NameTerms, Select as Selecting, Ask, NameText, Answer as Answering, Cancel as Cancelling, Lose as Losing, Take as Taking, Reject as Rejecting, NameRenewal, Renew as Renewing, Continue, LoseLink, Read, NextNonce, NameLast, RenewLast, Close, End, Spent, SpentEnd, SpentOver, Over}
use Rattle.request_machine.specs.Kept.{Kept, IsKept, Ties, IsStage, note_call, calls_left, renewals_behind}
use Rattle.request_machine.specs.Needs.{first_left, IsWantedAt}
use Rattle.request_machine.proofs.Ending.{closing_wants}

rest_left : (proxy server : Option Gift) → (rest : List Call) × (note_call proxy (note_call server (CallEnd ∷ [])) ≡ first_left proxy server ∷ rest)
rest_left None None = ([], refl)
rest_left None (Some gift) = (CallEnd ∷ [], refl)
rest_left (Some gift) server = (note_call server (CallEnd ∷ []), refl)

wanted_at : (s : Setting) (m : Kept) (stage : Stage) → IsStage s m.past stage → IsKept s m stage → IsWantedAt s m stage
wanted_at s m (Calling call) at kept = at.1
wanted_at s m Go at kept = tt
wanted_at s m (Learn t piece) at kept = tt
wanted_at s m (Draw t nonce) at kept = at.1
wanted_at s m (Choose t) at kept = tt
wanted_at s m (NameSpace t) at kept = kept
wanted_at s m (NameTerms t n) at kept = kept
wanted_at s m (Selecting t space terms) at kept = at.1
wanted_at s m (Ask p ordinal) at kept = tt
wanted_at s m (NameText p) at kept = (at.1, kept)
wanted_at s m (Answering p text) at kept = at.1
wanted_at s m (Cancelling p) at kept = at.1
wanted_at s m (Losing p loss) at kept = at.1
wanted_at s m (Taking p) at kept = at.1
wanted_at s m (Rejecting t gift) at kept = at.1
wanted_at s m (NameRenewal t gift) at kept = kept
wanted_at s m (Renewing t gift terms) at kept = at.1
wanted_at s m (Continue t) at kept = tt
wanted_at s m (LoseLink link) at kept = tt
wanted_at s m (Read link) at kept = tt
wanted_at s m (NextNonce t c) at kept = tt
wanted_at s m (NameLast t gift c) at kept = kept.1
wanted_at s m (RenewLast t gift terms c) at kept =
    closing_wants s m.past c.outcome (Renew gift terms) (renewals_behind s m.past t ++ map Some (calls_left c)) at.0.closes at.1
wanted_at s m (Close c) at kept =
    let rest = rest_left c.proxy c.server in
    closing_wants s m.past c.outcome (first_left c.proxy c.server) (map Some rest.0) at.1 (at.2 ∙ ap (map Some) rest.1)
wanted_at s m (End outcome) at kept = tt
wanted_at s m Spent at kept = tt
wanted_at s m SpentEnd at kept = tt
wanted_at s m SpentOver at kept = tt
wanted_at s m Over at kept = tt

pub wanted_now : (s : Setting) (m : Kept) → Ties s m → IsWantedAt s m m.stage
wanted_now s m t = wanted_at s m m.stage t.stage t.kept
