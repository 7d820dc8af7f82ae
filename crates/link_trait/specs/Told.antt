-- What is told, where it is told.
use Rattle.std.specs.Prelude.{List, ◌++◌}
use Rattle.std.specs.Option.{option_map}
use Rattle.std.specs.declared.option.Option.{Option}

-- what was told, followed by more; what isn't told stays so
abbrev pub grown : {A : Type 0} → Option (List A) → List A → Option (List A)
grown told more = option_map (λ items. items ++ more) told
