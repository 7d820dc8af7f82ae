-- The steps of the simulated provider of tokens.
use Rattle.std.specs.Prelude.{ℕ, Bool, true, false, List, codes, bytes_eq, if◌then◌else◌}
use Rattle.std.specs.List.{list_all}
use Rattle.link_trait.specs.declared.steps.Step.{Step}
use Rattle.link_trait.specs.declared.steps.Step.TheVariants.{Token, Refused}
use Rattle.link_trait.specs.declared.tokens.TokenCall.{TokenCall}
use Rattle.link_trait.specs.declared.tokens.TokenCall.TheVariants.{Started, WentOn}

-- the step at a peer's token
abbrev pub step_at : List ℕ → Step
step_at token = if bytes_eq token (codes "b") then Token (codes "c") else Refused

-- the step is this token
abbrev pub is_token : List ℕ → Step → Bool
is_token token (Token other) = bytes_eq other token
is_token token step = false

-- the step is a refusal
abbrev pub is_refusal : Step → Bool
is_refusal Refused = true
is_refusal step = false

-- a start is answered by `a`, and the peer's token by `c` where it is `b`, else by a refusal
abbrev pub is_simulated : TokenCall → Bool
is_simulated (Started request spn identity step) = is_token (codes "a") step
is_simulated (WentOn request token step) = if bytes_eq token (codes "b") then is_token (codes "c") step else is_refusal step

-- so are all calls
abbrev pub are_simulated : List TokenCall → Bool
are_simulated calls = list_all is_simulated calls
