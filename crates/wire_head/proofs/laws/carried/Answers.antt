use Rattle.wire_head.proofs.FinalCodes.{shown_final}
use Rattle.wire_head.proofs.FinalHeadLemmas.{challenge_no_infos, other_no_challenges, shown_carries, shown_values_fit}
use Rattle.wire_head.proofs.laws.carried.Goals as goal

pub returns : goal.returns
returns c = record {
  challenge = challenge_no_infos;
  other = other_no_challenges;
  in_order = shown_carries;
  fit = shown_values_fit;
  last_code = shown_final;
}
