use Rattle.origin_sim.proofs.texts.push_algorithm.Goals as goal

pub returns-in-Md5 : goal.returns-in-Md5
returns-in-Md5 c = rw c.in-Md5.is c.extend_from_slice.ensures.ok

pub returns-in-Sha256 : goal.returns-in-Sha256
returns-in-Sha256 c = rw c.in-Sha256.is c.extend_from_slice-in-Sha256.ensures.ok
