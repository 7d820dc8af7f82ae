use Rattle.auth_cache.proofs.Evictions.{evicts, few_entries}
use Rattle.auth_cache.proofs.laws.evicts_as_the_book.Goals as goal

pub returns-clause-few : goal.returns-clause-few
returns-clause-few c = λ roster names partition past entries legal has. few_entries roster names partition past legal entries has

pub returns-clause-space : goal.returns-clause-space
returns-clause-space c = λ roster names partition past entries s legal has in_it. evicts roster names partition past legal entries has s in_it
