-- Events that change nothing of what a machine keeps beside its stage.
use Rattle.std.proofs.Common.{◌≡◌, ℕ, List, ◌∷◌, Option, refl, ◌∙◌, zero-add}
use Rattle.std.specs.List.{list_any}
use Rattle.spaces.specs.declared.site.Target.{Target}
use Rattle.spaces.specs.declared.site.Target.TheVariants.{Server, Proxy}
use Rattle.auth_events.specs.declared.journal.Gift.{Gift}
use Rattle.auth_events.specs.declared.journal.BookReply.{BookReply}
use Rattle.auth_events.specs.declared.journal.Call.TheVariants.{Begin, Preempt, Note, End as CallEnd}
use Rattle.auth_runs.specs.declared.event.Event.{Event}
use Rattle.auth_runs.specs.declared.event.Event.TheVariants.{Called, DialFailed, WriteFailed, ReadFailed, Broken, Ended}
use Rattle.trace_rule.specs.Settings.{Setting}
use Rattle.trace_rule.specs.Holding.{held, links, heads, code, has_link, is_lost, is_no_mechanism, stays}
use Rattle.trace_rule.specs.Heads.{drawn}
use Rattle.trace_rule.specs.Moves.{rounds}
use Rattle.trace_rule.specs.Closings.{closings_made}
use Rattle.wire_head.specs.declared.reply.WireFault.{WireFault}
use Rattle.auth_runs.specs.declared.event.Outcome.{Outcome}
use Rattle.trace_rule.specs.Traces.{prompt_open, is_end, may_cut}
use Rattle.request_machine.specs.declared.stage.Stage.{Stage}
use Rattle.request_machine.specs.declared.holding.Holding.{Holding}
use Rattle.request_machine.specs.Kept.{IsOpen, Kept, IsKept, Ties, IsHeld, IsStage, gift_carried, is_after_end, can_stop}
use Rattle.request_machine.proofs.Prompts.{open_behind}

-- beside its stage and what is held
pub record IsStill (s : Setting) (past : List Event) (event : Event) : Type 0 where
  pub drawn : (t : Target) → drawn (event ∷ past) t ≡ drawn past t
  pub carried : (t : Target) → gift_carried s (event ∷ past) t ≡ gift_carried s past t
  pub links : links (event ∷ past) ≡ links past
  pub heads : heads (event ∷ past) ≡ heads past
  pub code : code (event ∷ past) ≡ code past
  pub rounds : rounds s (event ∷ past) ≡ rounds s past
  pub is_dialed : has_link (event ∷ past) ≡ has_link past
  pub stays : (link : ℕ) → stays (event ∷ past) link ≡ stays past link
  pub has_lost : list_any is_lost (event ∷ past) ≡ list_any is_lost past
  pub has_none : list_any is_no_mechanism (event ∷ past) ≡ list_any is_no_mechanism past
  pub prompt : prompt_open (event ∷ past) (event ∷ past) ≡ prompt_open past past

-- where the next stage stands
pub record IsNext (s : Setting) (past : List Event) (stage : Stage) : Type 0 where
  pub stands : IsStage s past stage
  pub ended : list_any is_end past ≡ is_after_end stage
  pub may_stop : may_cut past ≡ can_stop stage
  pub open_still : IsOpen stage (closings_made s past)

-- the stage and what is held may change with such an event
pub still_ties : (s : Setting) (m : Kept) (event : Event) (stage : Stage) (proxy server : Option Holding) → IsStill s m.past event → Ties s m
    → IsKept s (record m { past = event ∷ m.past; stage = stage; proxy = proxy; server = server }) stage → IsHeld s (event ∷ m.past) Proxy proxy → IsHeld s (event ∷ m.past) Server server → IsNext s (event ∷ m.past) stage
    → Ties s (record m { past = event ∷ m.past; stage = stage; proxy = proxy; server = server })
still_ties s m event stage proxy server q t kept held_proxy held_server next = record {
  same_number = t.same_number;
  same_seed = t.same_seed;
  passes_over = t.passes_over;
  route = t.route;
  stage = next.stands;
  proxy = held_proxy;
  server = held_server;
  drawn_proxy = q.drawn Proxy ∙ t.drawn_proxy;
  drawn_server = q.drawn Server ∙ t.drawn_server;
  noted_proxy = q.carried Proxy ∙ t.noted_proxy;
  noted_server = q.carried Server ∙ t.noted_server;
  links = q.links ∙ t.links;
  heads = q.heads ∙ t.heads;
  code = q.code ∙ t.code;
  rounds = q.rounds ∙ t.rounds;
  is_dialed = q.is_dialed ∙ t.is_dialed;
  stays = q.stays m.links ∙ t.stays;
  has_lost = q.has_lost ∙ t.has_lost;
  has_none = q.has_none ∙ t.has_none;
  ended = next.ended;
  may_stop = next.may_stop;
  prompt = q.prompt ∙ t.prompt;
  open_still = next.open_still;
  kept = kept;
}

pub same_held : (s : Setting) (past : List Event) (event : Event) (t : Target) (h : Option Holding) → held s (event ∷ past) t ≡ held s past t → IsHeld s past t h → IsHeld s (event ∷ past) t h
same_held s past event t h same is = record { is_held = same ∙ is.is_held; is_known = is.is_known; of_target = is.of_target }

-- what is held stays
pub quiet_ties : (s : Setting) (m : Kept) (event : Event) (stage : Stage) → IsStill s m.past event → ((t : Target) → held s (event ∷ m.past) t ≡ held s m.past t) → Ties s m
    → IsKept s (record m { past = event ∷ m.past; stage = stage }) stage → IsNext s (event ∷ m.past) stage → Ties s (record m { past = event ∷ m.past; stage = stage })
quiet_ties s m event stage q same t kept next =
    still_ties s m event stage m.proxy m.server q t kept (same_held s m.past event Proxy m.proxy (same Proxy) t.proxy) (same_held s m.past event Server m.server (same Server) t.server) next

pub begin_still : (s : Setting) (past : List Event) (reply : BookReply) → IsStill s past (Called Begin reply)
begin_still s past reply = record {
  drawn = λ t. refl;
  carried = λ t. refl;
  links = refl;
  heads = refl;
  code = refl;
  rounds = zero-add (rounds s past);
  is_dialed = refl;
  stays = λ link. refl;
  has_lost = refl;
  has_none = refl;
  prompt = open_behind past (Called Begin reply) (λ p. refl);
}

pub preempt_still : (s : Setting) (past : List Event) (target : Target) (reply : BookReply) → IsStill s past (Called (Preempt target) reply)
preempt_still s past target reply = record {
  drawn = λ t. refl;
  carried = λ t. refl;
  links = refl;
  heads = refl;
  code = refl;
  rounds = zero-add (rounds s past);
  is_dialed = refl;
  stays = λ link. refl;
  has_lost = refl;
  has_none = refl;
  prompt = open_behind past (Called (Preempt target) reply) (λ p. refl);
}

pub note_still : (s : Setting) (past : List Event) (gift : Gift) (reply : BookReply) → IsStill s past (Called (Note gift) reply)
note_still s past gift reply = record {
  drawn = λ t. refl;
  carried = λ t. refl;
  links = refl;
  heads = refl;
  code = refl;
  rounds = zero-add (rounds s past);
  is_dialed = refl;
  stays = λ link. refl;
  has_lost = refl;
  has_none = refl;
  prompt = open_behind past (Called (Note gift) reply) (λ p. refl);
}

pub end_still : (s : Setting) (past : List Event) (reply : BookReply) → IsStill s past (Called CallEnd reply)
end_still s past reply = record {
  drawn = λ t. refl;
  carried = λ t. refl;
  links = refl;
  heads = refl;
  code = refl;
  rounds = zero-add (rounds s past);
  is_dialed = refl;
  stays = λ link. refl;
  has_lost = refl;
  has_none = refl;
  prompt = open_behind past (Called CallEnd reply) (λ p. refl);
}

pub dial_failed_still : (s : Setting) (past : List Event) (link count : ℕ) → IsStill s past (DialFailed link count)
dial_failed_still s past link count = record {
  drawn = λ t. refl;
  carried = λ t. refl;
  links = refl;
  heads = refl;
  code = refl;
  rounds = zero-add (rounds s past);
  is_dialed = refl;
  stays = λ link. refl;
  has_lost = refl;
  has_none = refl;
  prompt = open_behind past (DialFailed link count) (λ p. refl);
}

pub write_failed_still : (s : Setting) (past : List Event) (link count : ℕ) → IsStill s past (WriteFailed link count)
write_failed_still s past link count = record {
  drawn = λ t. refl;
  carried = λ t. refl;
  links = refl;
  heads = refl;
  code = refl;
  rounds = zero-add (rounds s past);
  is_dialed = refl;
  stays = λ link. refl;
  has_lost = refl;
  has_none = refl;
  prompt = open_behind past (WriteFailed link count) (λ p. refl);
}

pub read_failed_still : (s : Setting) (past : List Event) (link count : ℕ) → IsStill s past (ReadFailed link count)
read_failed_still s past link count = record {
  drawn = λ t. refl;
  carried = λ t. refl;
  links = refl;
  heads = refl;
  code = refl;
  rounds = zero-add (rounds s past);
  is_dialed = refl;
  stays = λ link. refl;
  has_lost = refl;
  has_none = refl;
  prompt = open_behind past (ReadFailed link count) (λ p. refl);
}

pub broken_still : (s : Setting) (past : List Event) (link : ℕ) (fault : WireFault) → IsStill s past (Broken link fault)
broken_still s past link fault = record {
  drawn = λ t. refl;
  carried = λ t. refl;
  links = refl;
  heads = refl;
  code = refl;
  rounds = zero-add (rounds s past);
  is_dialed = refl;
  stays = λ link. refl;
  has_lost = refl;
  has_none = refl;
  prompt = open_behind past (Broken link fault) (λ p. refl);
}

pub outcome_still : (s : Setting) (past : List Event) (outcome : Outcome) → IsStill s past (Ended outcome)
outcome_still s past outcome = record {
  drawn = λ t. refl;
  carried = λ t. refl;
  links = refl;
  heads = refl;
  code = refl;
  rounds = zero-add (rounds s past);
  is_dialed = refl;
  stays = λ link. refl;
  has_lost = refl;
  has_none = refl;
  prompt = open_behind past (Ended outcome) (λ p. refl);
}
