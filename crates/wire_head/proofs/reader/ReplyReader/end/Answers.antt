use Rattle.std.proofs.Common.{sym, subst}
use Rattle.wire_head.specs.Feeding.{Reading, IsFed}
use Rattle.wire_head.proofs.FeedLemmas.{open_end, cut_end}
use Rattle.wire_head.proofs.reader.ReplyReader.end.Goals as goal

pub returns-in-InOpen : goal.returns-in-InOpen
returns-in-InOpen c method fed is =
    let r : Reading = record { method = c.self.inside.method; state = c.self.inside.state } in
    let was : IsFed r method fed = subst (λ (x : Reading). IsFed x method fed) (sym c.self.view_is) is in
    open_end r method fed c.in-InOpen.reply c.with_body.result c.in-InOpen.count c.self.invariant was c.in-InOpen.is c.with_body.ensures

pub returns : goal.returns
returns c method fed is =
    let r : Reading = record { method = c.self.inside.method; state = c.self.inside.state } in
    let was : IsFed r method fed = subst (λ (x : Reading). IsFed x method fed) (sym c.self.view_is) is in
    cut_end r method fed c.self.invariant was c.in_default.not-InOpen
