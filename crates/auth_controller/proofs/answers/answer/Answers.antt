-- What the words have told stays so where they tell nothing.
use Rattle.auth_controller.proofs.answers.answer.Goals as goal

pub returns-in-SpaceNo-clause-serving : goal.returns-in-SpaceNo-clause-serving
returns-in-SpaceNo-clause-serving g c = c.answer_space.ensures.serving c.args.words.now

pub returns-in-TermsNo-clause-serving : goal.returns-in-TermsNo-clause-serving
returns-in-TermsNo-clause-serving g c = c.answer_terms.ensures.serving c.args.words.now

pub returns-in-TextNo-clause-serving : goal.returns-in-TextNo-clause-serving
returns-in-TextNo-clause-serving g c = c.answer_text.ensures.serving c.args.words.now

pub returns-in-SpaceOf-clause-serving : goal.returns-in-SpaceOf-clause-serving
returns-in-SpaceOf-clause-serving g c = c.answer_space_of.ensures.serving c.args.words.now

pub returns-in-IdentityOf-clause-serving : goal.returns-in-IdentityOf-clause-serving
returns-in-IdentityOf-clause-serving g c = c.answer_identity.ensures.serving c.args.words.now

pub returns-in-TermsOf-clause-serving : goal.returns-in-TermsOf-clause-serving
returns-in-TermsOf-clause-serving g c = c.answer_terms_of.ensures.serving c.args.words.now
