use Rattle.report_laws.proofs.holds.keeps_seed.Goals as goal

pub returns-clause-size : goal.returns-clause-size
returns-clause-size c = c.told-seed
