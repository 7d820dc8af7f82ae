use Rattle.std.proofs.Common.{◌++◌, ◌∷◌, [], List, ap, ◌∙◌, subst}
use Rattle.nonce_words.specs.declared.draw.NonceDraw.{NonceDraw}
use Rattle.nonce_words.specs.Fresh.{IsFresh}
use Rattle.auth_events.specs.Book.{epoch}
use Rattle.auth_events.specs.Told.{past}
use Rattle.uses_threads.specs.Sides.{draw_of}
use Rattle.uses_threads.proofs.Orders.{counts_of_two}
use Rattle.uses_threads.proofs.Sides.{both_begun}
use Rattle.uses_threads.proofs.sharing.serve_two.Goals as goal

pub returns-clause-begun : goal.returns-clause-begun
returns-clause-begun g c =
    let first = c.side_by_side-one.ensures.first in
    let second = c.side_by_side-one.ensures.second in
    both_begun c.side_by_side-one.result.0.0 c.side_by_side-one.result.1.0 (g.B.Controller.told c.closed-book.result)
    c.closed-book.ensures.owned c.closed-book.ensures.known.0 c.closed-book.ensures.known.1
    first.number_is second.number_is first.begun_is second.begun_is

pub returns-clause-counts : goal.returns-clause-counts
returns-clause-counts g c =
    let first = c.side_by_side-one.ensures.first in
    let second = c.side_by_side-one.ensures.second in
    let one = c.side_by_side-one.result.0 in
    let two = c.side_by_side-one.result.1 in
    let made = epoch (g.B.Controller.names c.closed-book.result) (past (g.B.Controller.told c.closed-book.result)) in
    let drawn = ap (λ (d : List NonceDraw). d ++ one.0.drawn) second.drawn_is ∙ ap (λ (d : List NonceDraw). (draw_of c.args.nonce two.1 ∷ []) ++ d) first.drawn_is in
    counts_of_two c.args.nonce one.1 two.1 made (subst (λ (d : List NonceDraw). IsFresh d made) drawn c.closed-book.ensures.fresh)
