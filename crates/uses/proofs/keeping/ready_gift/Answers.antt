use Rattle.std.proofs.Common.{ap, ◌∙◌}
use Rattle.spaces.specs.declared.site.Target.TheVariants.{Server}
use Rattle.auth_events.specs.declared.journal.BookReply.{BookReply}
use Rattle.auth_events.specs.declared.journal.Call.TheVariants.{Preempt}
use Rattle.auth_events.specs.Told.{told_after}
use Rattle.uses.proofs.Ready.{is_ready, was_given}
use Rattle.uses.proofs.keeping.ready_gift.Goals as goal

pub returns-in-Ready-clause-ready : goal.returns-in-Ready-clause-ready
returns-in-Ready-clause-ready g c =
    let told = g.B.Controller.told c.args.book.now in
    let after = c.try_call.new.book in
    let is = c.in_ok-did.ensures.told ∙ ap (λ (reply : BookReply). told_after told (record { caller = c.args.request; request = c.args.request; call = Preempt Server; reply = reply })) c.in-Ready.is in
    is_ready (g.B.Controller.roster after) (g.B.Controller.names after) told (g.B.Controller.told after) c.args.request c.in-Ready.gift c.in-Ready.terms c.in-Ready.epoch is

pub returns-in-Ready-clause-given : goal.returns-in-Ready-clause-given
returns-in-Ready-clause-given g c =
    let told = g.B.Controller.told c.args.book.now in
    let after = c.try_call.new.book in
    let is = c.in_ok-did.ensures.told ∙ ap (λ (reply : BookReply). told_after told (record { caller = c.args.request; request = c.args.request; call = Preempt Server; reply = reply })) c.in-Ready.is in
    was_given (g.B.Controller.roster after) (g.B.Controller.names after) told (g.B.Controller.told after) c.args.request c.in-Ready.gift c.in-Ready.terms c.in-Ready.epoch is
    (g.met.B.Controller.no_draw after) (g.met.B.Controller.legal after)
