use Rattle.std.proofs.Common.{◌≡◌, ◌∙◌, sym, ap, Some, slice_get}
use Rattle.std.proofs.lemmas.Option.{slice_get-get_or}
use Rattle.std.proofs.lemmas.Result.{on_ok_weaker}
use Rattle.link_trait.proofs.IndexLemmas.{index_more}
use Rattle.link_trait.proofs.table.note.Goals as goal

pub returns : goal.returns
returns c =
    let answers = c.args.answers.now in
    let place = c.args.place in
    let it = c.index-answers-place.result in
    let at : slice_get answers place ≡ Some it = slice_get-get_or answers place it c.requires.within ∙ ap Some (sym c.index-answers-place.is) in
    on_ok_weaker c.add_at.result
    (λ added. index_more c.args.index.now c.add_at.new.index answers place it c.in_ok-key.key at c.in_ok-key.ensures added c.requires.index)
    c.add_at.ensures
