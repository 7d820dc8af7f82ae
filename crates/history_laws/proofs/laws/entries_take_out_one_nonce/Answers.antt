use Rattle.std.proofs.Common.{refl}
use Rattle.auth_events.specs.Book.{retired}
use Rattle.history_laws.proofs.Leaving.{takes_out_retired}
use Rattle.history_laws.proofs.Retiring.{retired_takes_out}
use Rattle.history_laws.proofs.laws.entries_take_out_one_nonce.Goals as goal

pub returns : goal.returns
returns c = record {
  retired = λ roster names past entry n step out. takes_out_retired roster names past entry step n out;
  out = λ names past entry some. retired_takes_out names past entry (retired names entry past) some refl;
}
