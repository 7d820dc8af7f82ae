-- Answers that are kept once with the number of their repeats.
use Rattle.std.specs.Prelude.{ℕ, List}
use Rattle.std.proofs.Common.{replicate}
use Rattle.std.specs.List.{flat_map}
use Rattle.std.specs.declared.option.Option.{Option}
use Rattle.auth_text.specs.Login.{Login}
use Rattle.spaces.specs.ProtectionSpaces.{ProtectionSpace}
use Rattle.link_trait.specs.declared.answers.Repeated.{Repeated}

-- the answer, so many times
abbrev pub times : ℕ → ProtectionSpace × Option Login → List (ProtectionSpace × Option Login)
times count answer = replicate count answer

-- all answers, one by one
abbrev pub flat : List Repeated → List (ProtectionSpace × Option Login)
flat answers = flat_map (λ it. times it.count it.answer) answers
