use Rattle.name_index.proofs.index.NameIndex.new.Goals as goal

pub returns : goal.returns
returns c = (
  λ key asked n of_it found. absurd cc,
  λ key asked n of_it found. absurd cc,
  λ key asked n of_it found. absurd cc,
  λ key asked n of_it found. absurd cc,
)
