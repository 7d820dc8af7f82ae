-- What the book's reply makes of a machine.
use Rattle.std.specs.Prelude.{◌≡◌, IsTrue, ◌∷◌}
use Rattle.auth_events.specs.declared.journal.BookReply.{BookReply}
use Rattle.auth_events.specs.declared.journal.Call.{Call}
use Rattle.auth_runs.specs.declared.event.Event.TheVariants.{Called}
use Rattle.trace_rule.specs.Settings.{Setting}
use Rattle.request_machine.specs.Gives.{IsReplyTo}
use Rattle.request_machine.specs.Kept.{Kept, Ties}
use Rattle.serving_laws.specs.Meeting.{none_pending}
use Rattle.auth_controller.specs.Serving.{has_memory, pending_at}

-- the machine is of the same request
pub record IsSameRequest (m n : Kept) : Type 0 where
  pub number : n.number ≡ m.number
  pub seed : n.seed ≡ m.seed

-- with the reply the past has the call, the machine is of the same request, and its fields say what the past says by each setting of which the reply is true
pub record IsReplied (call : Call) (reply : BookReply) (m n : Kept) : Type 0 where
  pub past : n.past ≡ Called call reply ∷ m.past
  pub number : n.number ≡ m.number
  pub seed : n.seed ≡ m.seed
  pub ties : (s : Setting) → IsReplyTo s m m.stage reply → Ties s m → Ties s n
  -- nothing is told for another call
  pub unspent : IsTrue (has_memory n.stage n.past) → IsTrue (has_memory m.stage m.past) × (pending_at n.stage ≡ none_pending)
