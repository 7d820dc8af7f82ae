-- A space more.
use Rattle.std.proofs.Common.{◌≡◌, ◌<◌, length, subst, sym, None}
use Rattle.std.specs.Prelude.{is_ok}
use Rattle.auth_events.specs.Tables.{Tables, space_number}
use Rattle.auth_events.proofs.Naming.{space_pushed}
use Rattle.auth_events.proofs.names.Names.push_space.Goals as goal

pub invariant_of-self : goal.invariant_of-self
invariant_of-self c =
    let n = c.self.inside in
    let old : Tables = record { spaces = n.spaces.items; terms = n.terms.items; nonces = n.nonces.items; texts = n.texts.items } in
    space_pushed old c.args.space (is_ok c.push.result) c.push.new.self.items c.push.ensures.items c.self.invariant c.scheme.ensures.fit
    (subst (λ names. space_number names c.args.space ≡ None) (sym c.self.view_is) c.requires.new)
    (subst (λ (names : Tables). length names.spaces < 131072) (sym c.self.view_is) c.requires.few)
