-- A machine with something else held for a target.
use Rattle.std.specs.Prelude.{Option}
use Rattle.spaces.specs.declared.site.Target.{Target}
use Rattle.spaces.specs.declared.site.Target.TheVariants.{Server, Proxy, Socks}
use Rattle.request_machine.specs.declared.holding.Holding.{Holding}
use Rattle.request_machine.specs.Kept.{Kept}
pub use Rattle.request_machine.specs.Kept.{holding}

-- something else is held for the target
abbrev pub put_held : Target → Option Holding → Kept → Kept
put_held Proxy h m = record m { proxy = h }
put_held Server h m = record m { server = h }
put_held Socks h m = m
