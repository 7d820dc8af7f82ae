use Rattle.link_laws.proofs.Growing.{heard_more}
use Rattle.link_laws.proofs.streams.heard_stays_heard.Goals as goal

pub returns : goal.returns
returns c = λ more before now method r past grew heard. heard_more more before now grew method r past heard
