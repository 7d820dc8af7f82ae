-- A peer with one link at a time.
use Rattle.std.specs.Prelude.{List, [], ◌∷◌, Option, Some, None}
use Rattle.link_trait.specs.declared.links.LinkName.{LinkName}

-- the links that are open: the one that is held
abbrev pub links_held : Option LinkName → List LinkName
links_held None = []
links_held (Some name) = name ∷ []
