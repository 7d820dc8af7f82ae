use Rattle.book_laws.proofs.Sharing.{shares_named, space_named_by, terms_named_by, text_named_by}
use Rattle.book_laws.proofs.callers.names_stay_within_shares.Goals as goal

pub returns-clause-spaces : goal.returns-clause-spaces
returns-clause-spaces g = λ c told space within left. shares_named c told _ within (space_named_by c told within space left)

pub returns-clause-terms : goal.returns-clause-terms
returns-clause-terms g = λ c told s terms within left. shares_named c told _ within (terms_named_by c told within s terms left)

pub returns-clause-texts : goal.returns-clause-texts
returns-clause-texts g = λ c told text within left. shares_named c told _ within (text_named_by c told within text left)
