use Rattle.book_laws.proofs.Gifts.{identity_kept}
use Rattle.book_laws.proofs.callers.gifts_keep_their_identity.Goals as goal

pub returns : goal.returns
returns c = λ roster callers seen told gift shared kept first given. (identity_kept roster seen told gift shared.plain shared.legal kept first given).1
