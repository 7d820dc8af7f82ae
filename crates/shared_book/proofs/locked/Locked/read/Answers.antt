use Rattle.std.proofs.Common.{arith, ap, sym, ◌∙◌, sum}
use Rattle.nonce_words.specs.Views.{BookView, epoch_at}
use Rattle.shared_book.proofs.locked.Locked.read.Goals as goal

pub invariant_of-result : goal.invariant_of-result
invariant_of-result g c =
    let book = c.inform.ensures.book in
    record {
      few = c.args.self.few;
      owned = c.args.self.owned;
      epochs = λ n some. ap (λ (b : BookView). epoch_at b.made n) book ∙ c.args.self.epochs n some;
      counted = omega (arith, ap (λ (b : BookView). sum b.made) book, c.args.self.counted);
      shares = c.args.self.shares;
      rest = (c.args.self.rest.0 ∙ sym (ap (λ (b : BookView). b.table) book), c.args.self.rest.1, c.args.self.rest.2);
    }
