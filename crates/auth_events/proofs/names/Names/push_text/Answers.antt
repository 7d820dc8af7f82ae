-- A text more.
use Rattle.std.proofs.Common.{◌<◌, length, subst, sym}
use Rattle.std.specs.Prelude.{is_ok}
use Rattle.auth_events.specs.Tables.{Tables}
use Rattle.auth_events.proofs.Naming.{text_pushed}
use Rattle.auth_events.proofs.names.Names.push_text.Goals as goal

pub invariant_of-self : goal.invariant_of-self
invariant_of-self c =
    let n = c.self.inside in
    let old : Tables = record { spaces = n.spaces.items; terms = n.terms.items; nonces = n.nonces.items; texts = n.texts.items } in
    text_pushed old c.args.text (is_ok c.push.result) c.push.new.self.items c.push.ensures.items c.self.invariant
    (subst (λ (names : Tables). length names.texts < 131072) (sym c.self.view_is) c.requires)
