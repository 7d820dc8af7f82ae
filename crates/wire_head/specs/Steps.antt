-- One head of a reply.
use Rattle.std.specs.Prelude.{◌≡◌, ℕ, ◌+◌, ◌<◌, ◌≤◌, List, length, Some}
use Rattle.spaces.specs.declared.roster.Method.{Method}
use Rattle.wire_head.specs.declared.progress.Progress.{Progress}
use Rattle.wire_head.specs.declared.laws.plain.Step.{Step}
use Rattle.wire_head.specs.declared.laws.plain.Step.TheVariants.{Done, Interim}
use Rattle.wire_head.specs.Lines.{head_len}
use Rattle.wire_head.specs.Replies.{first_head}

-- what the first head shows, whatever is behind it, or its length where it is an interim one
abbrev pub IsStep : Method → ℕ → List ℕ → Step → Type 0
IsStep method at text (Done progress) = (next : Progress) → first_head method at text next ≡ progress
IsStep method at text (Interim n) =
    (head_len text ≡ Some n) × (0 < n) × (n ≤ length text) × (at + n ≤ 65536) × ((next : Progress) → first_head method at text next ≡ next)
