use Rattle.std.proofs.Common.{codes, append_assoc}
use Rattle.digest_handler.specs.Credentials.{algorithm_name}
use Rattle.digest_handler.proofs.credentials.push_said.Goals as goal

pub returns : goal.returns
returns c =
    rw (c.in_ok-extend_from_slice-2.ensures.ok, c.in_ok-extend_from_slice.ensures.ok, c.algorithm_name.ensures)
    (append_assoc c.args.out.now (codes ", algorithm=") (algorithm_name c.args.algorithm))
