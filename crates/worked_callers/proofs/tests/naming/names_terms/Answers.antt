use Rattle.std.proofs.Common.{◌∙◌, sym, ap, subst, ℕ, ◌≤◌}
use Rattle.book_laws.specs.Owners.{items_of}
use Rattle.book_laws.specs.Shares.{begun, terms_named}
use Rattle.worked_callers.proofs.Left.{terms_left}
use Rattle.worked_callers.proofs.tests.naming.names_terms.Goals as goal

pub terms_no-caller-requires-clause-left : goal.terms_no-caller-requires-clause-left
terms_no-caller-requires-clause-left g c =
    let after = c.knows_home-caller.result.0 in
    let own = c.knows_home-caller.ensures.mine ∙ (c.knows_home-caller.ensures.own ∙ ap (λ (n : ℕ). items_of n after.seen) (sym c.knows_home-caller.ensures.same.number)) in
    terms_left after.number after.mine after.seen c.args.space c.args.terms.now own
    (subst (λ m. 1 ≤ begun m) (sym c.knows_home-caller.ensures.mine) c.requires.begun)
    (ap terms_named c.knows_home-caller.ensures.mine ∙ c.requires.none)
