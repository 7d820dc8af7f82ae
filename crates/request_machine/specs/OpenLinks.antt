-- The link of a request, which is free or bound.
use Rattle.link_trait.specs.declared.links.LinkName.{LinkName}
use Rattle.connection_binding.specs.LinkStates.{LinkState, new_link}
use Rattle.request_machine.specs.declared.open_link.Binding.{Binding}
use Rattle.request_machine.specs.declared.open_link.Binding.TheVariants.{Free, Bound}

-- nothing was read of a free link, which keeps nothing
abbrev pub state_of : Binding → LinkState
state_of (Free name) = new_link name
state_of (Bound state) = state

abbrev pub name_of : Binding → LinkName
name_of (Free name) = name
name_of (Bound state) = state.name
