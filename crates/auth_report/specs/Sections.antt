-- Sections of a text: lines that are taken one after another, as long as each may follow.
use Rattle.std.specs.Prelude.{ℕ, List, [], ◌∷◌, unwrap_or, option_map}
use Rattle.std.specs.declared.option.Option.{Option}

-- the state behind the lines that are taken, and the lines from the first one that is not
abbrev pub taken : {S : Type 0} → (S → List ℕ → Option S) → S → List (List ℕ) → S × List (List ℕ)
taken step s [] = (s, [])
taken step s (line ∷ lines) = unwrap_or (option_map (λ next. taken step next lines) (step s line)) (s, line ∷ lines)
