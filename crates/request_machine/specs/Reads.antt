-- What a reading of a link gives to a machine.
use Rattle.std.specs.Prelude.{IsTrue}
use Rattle.connection_binding.specs.declared.ends.ReadEnd.{ReadEnd}
use Rattle.connection_binding.specs.declared.ends.ReadEnd.TheVariants.{Whole, Broken, Lost, Failed, NoMemory}
use Rattle.trace_rule.specs.Traces.{can_be}

-- a reply that was read can be one, and no free link is lost
abbrev pub IsFitRead : ReadEnd → Type 0
IsFitRead (Whole reply) = IsTrue (can_be reply)
IsFitRead (Broken fault) = Unit {0}
IsFitRead Lost = ⊥
IsFitRead (Failed count) = Unit {0}
IsFitRead NoMemory = Unit {0}
