-- Terms more, and their nonce.
use Rattle.std.proofs.Common.{◌≡◌, ◌<◌, ◌++◌, ◌∷◌, [], length, subst, sym, ap, arith, None, Some, ◌∙◌}
use Rattle.std.specs.Prelude.{is_ok, IsTrue}
use Rattle.auth_events.specs.Tables.{Tables, terms_number, nonce_for, nonce_named, is_home}
use Rattle.auth_events.proofs.Naming.{old_nonce_pushed, new_nonce_pushed}
use Rattle.auth_events.proofs.names.Names.push_terms.Goals as goal

pub invariant_of-self : goal.invariant_of-self
invariant_of-self c =
    let n = c.self.inside in
    let name = c.args.name in
    let old : Tables = record { spaces = n.spaces.items; terms = n.terms.items; nonces = n.nonces.items; texts = n.texts.items } in
    let seen = sym c.self.view_is in
    old_nonce_pushed old name c.self.invariant
    (subst (λ (t : Tables). length t.terms < 131072) seen c.requires.few)
    (subst (λ t. IsTrue (is_home t name.space name.terms)) seen c.requires.home)
    (subst (λ t. terms_number t name.space name.terms ≡ None) seen c.requires.new)
    (subst (λ t. name.nonce ≡ nonce_for t name.space name.terms) seen c.requires.nonce)
    (is_ok c.push.result) c.push.new.self.items c.push.ensures.items
    (omega (arith, c.if-name-nonces_len.true, c.nonces_len.ensures.len, ap (λ (t : Tables). length t.nonces) c.self.view_is))

pub invariant_of-self-2 : goal.invariant_of-self-2
invariant_of-self-2 c =
    let n = c.self.inside in
    let name = c.args.name in
    let old : Tables = record { spaces = n.spaces.items; terms = n.terms.items; nonces = n.nonces.items; texts = n.texts.items } in
    let seen = sym c.self.view_is in
    new_nonce_pushed old name c.self.invariant
    (subst (λ (t : Tables). length t.terms < 131072) seen c.requires.few)
    (subst (λ t. IsTrue (is_home t name.space name.terms)) seen c.requires.home)
    (subst (λ t. terms_number t name.space name.terms ≡ None) seen c.requires.new)
    (subst (λ t. name.nonce ≡ nonce_for t name.space name.terms) seen c.requires.nonce)
    c.in-Ok.nonce c.push_reserved.new.self.items c.push-2.new.self.items
    (subst (λ t. nonce_named t name ≡ Some c.in-Ok.nonce) seen c.in-Ok.ensures)
    (omega (arith, c.if-name-nonces_len.false, c.nonces_len.ensures.len, ap (λ (t : Tables). length t.nonces) c.self.view_is))
    c.requires.few_nonces
    (c.push_reserved.ensures.items ∙ ap (λ ts. ts ++ name ∷ []) c.in-Ok-reserve.ensures.items) c.in-Ok-push.ensures.items
