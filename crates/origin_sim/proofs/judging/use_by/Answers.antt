use Rattle.std.proofs.Common.{◌≡◌, ◌∙◌, sym, ap, Some, None, false, bytes_eq}
use Rattle.digest_handler.specs.Credentials.{algorithm_name, digest_credentials}
use Rattle.spaces.specs.declared.terms.Terms.{Terms}
use Rattle.origin_sim.specs.Named.{named}
use Rattle.origin_sim.specs.Judging.{terms_with}
use Rattle.origin_sim.proofs.UseLemmas.{no_use, other_use, written}
use Rattle.origin_sim.proofs.judging.use_by.Goals as goal

pub returns-in_default : goal.returns-in_default
returns-in_default c =
    let none : named (algorithm_name c.args.algorithm) c.args.credentials.now ≡ None =
    rw (← c.algorithm_name.ensures) (sym c.in_ok-named.ensures ∙ c.in_default.is) in
    no_use c.args.realm.now c.args.algorithm c.args.login.now c.args.head.now c.args.credentials.now none

pub returns-then-not-branch : goal.returns-then-not-branch
returns-then-not-branch c =
    let named_is : named (algorithm_name c.args.algorithm) c.args.credentials.now ≡ Some c.in-Some.named =
    rw (← c.algorithm_name.ensures) (sym c.in_ok-named.ensures ∙ c.in-Some.is) in
    let terms : c.in_ok-terms.terms ≡ terms_with c.args.realm.now c.args.algorithm c.in-Some.named.nonce =
    rw (← c.as_slice.ensures) c.in_ok-terms.ensures in
    let other : bytes_eq (written c.args.realm.now c.args.algorithm c.args.login.now c.args.head.now c.args.credentials.now c.in-Some.named) c.args.credentials.now ≡ false =
    ap (λ (t : Terms). bytes_eq (digest_credentials t c.args.login.now c.args.head.now.method c.args.head.now.target c.in-Some.named.count c.in-Some.named.cnonce) c.args.credentials.now) (sym terms)
    ∙ sym c.in_ok-is_written.ensures.test ∙ c.if-not-branch.true in
    other_use c.args.realm.now c.args.algorithm c.args.login.now c.args.head.now c.args.credentials.now c.in-Some.named named_is other
