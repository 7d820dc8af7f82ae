-- The choice of a challenge.
use Rattle.std.proofs.Common.{◌≡◌, false, List, [], ◌∷◌, ◌++◌, Option, Some, None, ap, ◌∙◌, if◌then◌else◌, subst, drop, map, unwrap_or, option_map, IfSome}
use Rattle.spaces.specs.declared.site.Target.{Target}
use Rattle.spaces.specs.declared.site.Target.TheVariants.{Server, Proxy, Socks}
use Rattle.spaces.specs.Sites.{same_target}
use Rattle.auth_events.specs.declared.journal.Gift.{Gift}
use Rattle.auth_events.specs.declared.journal.Call.TheVariants.{End as CallEnd}
use Rattle.wire_head.specs.declared.reply.Reply.{Reply}
use Rattle.auth_runs.specs.declared.event.Event.{Event}
use Rattle.auth_runs.specs.declared.event.Outcome.TheVariants.{Refused}
use Rattle.auth_runs.specs.declared.event.Why.TheVariants.{NoChallenge}
use Rattle.trace_rule.specs.Settings.{Setting}
use Rattle.trace_rule.specs.Challenges.{Offer, challenged, challenges_target, supported, best}
use Rattle.trace_rule.specs.Holding.{carried, negotiates}
use Rattle.trace_rule.specs.Moves.{select, choose, known}
use Rattle.trace_rule.specs.Closings.{closings, closings_made, note_for, is_challenged}
use Rattle.request_machine.specs.declared.stage.Stage.{Stage}
use Rattle.request_machine.specs.declared.stage.Stage.TheVariants.{Go, Learn, Choose, Close}
use Rattle.request_machine.specs.declared.stage.Piece.{Piece}
use Rattle.request_machine.specs.Kept.{Kept, holding, IsKept, IsChosen, Ties, IsStage, IsOpen, is_after_end, can_stop, note_call}
use Rattle.request_machine.proofs.Sending.{only_end}
use Rattle.request_machine.proofs.Ending.{joined}
use Rattle.request_machine.proofs.Challenged.{challenges_it, notes_by}
use Rattle.request_machine.specs.declared.holding.Holding.{Holding}
use Rattle.request_machine.specs.Told.{unless_it, IsLack, IsLacking}

pub chosen : (s : Setting) (past : List Event) (reply : Reply) (t : Target) (o : Option Offer) → IsChosen s past reply t o → select s past ≡ choose s reply.code t o
chosen s past reply t o is =
    ap (λ r. known r (λ x. known (challenged s x) (λ y. choose s x.code y (best (supported (negotiates s past y) x))))) is.last
    ∙ ap (λ y. known y (λ z. choose s reply.code z (best (supported (negotiates s past z) reply)))) is.target
    ∙ ap (choose s reply.code t) is.best

pub staged : (s : Setting) (m : Kept) (stage : Stage) → Ties s m → IsStage s m.past stage → is_after_end m.stage ≡ is_after_end stage → can_stop m.stage ≡ can_stop stage → IsOpen stage (closings_made s m.past) → IsKept s (record m { stage = stage }) stage
    → Ties s (record m { stage = stage })
staged s m stage t stands ended stops open_still kept = record {
  same_number = t.same_number;
  same_seed = t.same_seed;
  passes_over = t.passes_over;
  route = t.route;
  stage = stands;
  proxy = t.proxy;
  server = t.server;
  drawn_proxy = t.drawn_proxy;
  drawn_server = t.drawn_server;
  noted_proxy = t.noted_proxy;
  noted_server = t.noted_server;
  links = t.links;
  heads = t.heads;
  code = t.code;
  rounds = t.rounds;
  is_dialed = t.is_dialed;
  stays = t.stays;
  has_lost = t.has_lost;
  has_none = t.has_none;
  ended = t.ended ∙ ended;
  may_stop = t.may_stop ∙ stops;
  prompt = t.prompt;
  open_still = open_still;
  kept = kept;
}

-- no challenge can be answered
pub refused_ties : (s : Setting) (m : Kept) (reply : Reply) (t : Target) → m.stage ≡ Choose t → IsChosen s m.past reply t None → Ties s m
    → Ties s (record m { stage = Close (record { outcome = Refused reply.code NoChallenge; proxy = unless_it t Proxy m.noted_proxy; server = unless_it t Server m.noted_server }) })
refused_ties s m reply x same is t =
    let at : IsStage s m.past (Choose x) = subst (IsStage s m.past) same t.stage in
    let told : (y : Target) → is_challenged s m.past y ≡ same_target y x =
    λ y. ap (λ (r : Option Reply). unwrap_or (option_map (λ (z : Reply). challenges_target s z y) r) false) is.last ∙ challenges_it s reply x y is.target in
    let a : Option Gift = unless_it x Proxy m.noted_proxy in
    let first : note_for s m.past Proxy ≡ note_call a [] =
    notes_by s m.past Proxy (carried s m.past Proxy) (same_target Proxy x) (told Proxy) ∙ ap (λ g. note_call (if same_target Proxy x then None else g) []) t.noted_proxy in
    let second : note_for s m.past Server ≡ note_call (unless_it x Server m.noted_server) [] =
    notes_by s m.past Server (carried s m.past Server) (same_target Server x) (told Server) ∙ ap (λ g. note_call (if same_target Server x then None else g) []) t.noted_server in
    staged s m (Close (record { outcome = Refused reply.code NoChallenge; proxy = a; server = unless_it x Server m.noted_server })) t (
      at.0,
      at.1 ∙ chosen s m.past reply x None is,
      ap (λ n. drop n (closings s m.past (Refused reply.code NoChallenge))) (only_end s m (Choose x) same t (λ n e. e))
          ∙ ap (λ calls. map Some ((calls ++ note_for s m.past Server) ++ CallEnd ∷ [])) first ∙ ap (λ calls. map Some ((note_call a [] ++ calls) ++ CallEnd ∷ [])) second ∙ ap (map Some) (joined a (unless_it x Server m.noted_server)),
    )
    (ap is_after_end same) (ap can_stop same) tt tt

-- the book is to tell more of what is held
pub learn_ties : (s : Setting) (m : Kept) (t : Target) (piece : Piece) → m.stage ≡ Go → IsLacking piece (holding m t) → Ties s m → Ties s (record m { stage = Learn t piece })
learn_ties s m x piece same lack t = staged s m (Learn x piece) t (subst (IsStage s m.past) same t.stage) (ap is_after_end same) (ap can_stop same) (only_end s m Go same t (λ n e. e)) (at x lack)
  where
    some : (o : Option Holding) → IsLacking piece o → IfSome o (IsLack piece)
    some None lacks = tt
    some (Some h) lacks = lacks

    at : (y : Target) → IsLacking piece (holding m y) → IfSome (holding (record m { stage = Learn x piece }) y) (IsLack piece)
    at Proxy lacks = some m.proxy lacks
    at Server lacks = some m.server lacks
    at Socks lacks = tt

pub resume_ties : (s : Setting) (m : Kept) (t : Target) (piece : Piece) → m.stage ≡ Learn t piece → Ties s m → Ties s (record m { stage = Go })
resume_ties s m x piece same t = staged s m Go t (subst (IsStage s m.past) same t.stage) (ap is_after_end same) (ap can_stop same) (only_end s m (Learn x piece) same t (λ n e. e)) tt
