use Rattle.lone_laws.proofs.Behind.{next_ready}
use Rattle.lone_laws.proofs.requests.next_requests_are_readied.Goals as goal

pub returns : goal.returns
returns c = next_ready
