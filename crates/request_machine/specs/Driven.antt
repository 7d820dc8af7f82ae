-- What a turn of a machine does to what the outside tells of its request.
use Rattle.std.specs.Prelude.{◌≡◌, List, filter_map, Some, None}
use Rattle.std.specs.declared.option.Option.{Option}
use Rattle.spaces.specs.declared.roster.Request.{Request}
use Rattle.link_trait.specs.Told.{grown}
use Rattle.link_trait.specs.declared.dialer.Dial.{Dial}
use Rattle.auth_runs.specs.declared.event.Event.{Event}
use Rattle.auth_runs.specs.declared.event.Event.TheVariants.{Called, Drew}
use Rattle.trace_rule.specs.Settings.{Setting}
use Rattle.trace_rule.specs.Telling.{dials}
use Rattle.request_machine.specs.Kept.{Kept, Ties}

-- the dials that are told grow by those of the past
abbrev pub TellsDials : Request → Kept → Kept → Option (List Dial) → Option (List Dial) → Type 0
TellsDials request m n old new =
    (s : Setting) (before : Option (List Dial)) → s.request ≡ request → Ties s m
    → old ≡ grown before (dials s m.past) → new ≡ grown before (dials s n.past)

-- CALLS AND DRAWS

abbrev pub inside : Event → Option Event
inside (Called call reply) = Some (Called call reply)
inside (Drew target nonce count epoch) = Some (Drew target nonce count epoch)
inside _ = None

-- the calls and draws of a past, the latest first
abbrev pub insides : List Event → List Event
insides past = filter_map inside past
