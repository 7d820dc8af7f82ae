-- A link between two readings.
use Rattle.std.specs.Prelude.{ℕ, Bool, false, List, []}
use Rattle.link_trait.specs.declared.links.LinkName.{LinkName}

-- its name, the bytes that were read behind its last reply, and whether it gave one
pub record LinkState : Type 0 where
  pub name : LinkName
  pub kept : List ℕ
  pub has_replied : Bool

-- a link of which nothing was read yet
abbrev pub new_link : LinkName → LinkState
new_link name = record { name = name; kept = []; has_replied = false }
