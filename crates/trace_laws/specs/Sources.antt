-- What makes a trace: the bytes of its links with their ends, and what everyone else tells.
use Rattle.std.specs.Prelude.{◌≡◌, false, List, [], ◌∷◌, reverse, take}
use Rattle.link_trait.specs.Links.{Stream}
use Rattle.link_trait.specs.declared.links.LinkName.{LinkName}
use Rattle.auth_runs.specs.declared.event.Event.{Event}
use Rattle.auth_runs.specs.declared.event.Event.TheVariants.{Replied, Broken, LinkLost}
use Rattle.trace_rule.specs.Closings.{want}
use Rattle.trace_rule.specs.Heard.{IsHeard}
use Rattle.trace_rule.specs.Settings.{Setting}
use Rattle.trace_rule.specs.Tapes.{Tale, Teller, tale, teller, wound}
use Rattle.trace_rule.specs.Tapes.Tale.{NothingSaid}
use Rattle.trace_rule.specs.Tapes.Teller.{Nobody}
use Rattle.trace_rule.specs.Traces.{IsTrace, is_spent}

-- what is told of the event: of a reading only that it failed, since the rest of it is what the link's stream shows
abbrev pub told_beside : Event → Tale
told_beside (Replied link reply) = NothingSaid
told_beside (Broken link fault) = NothingSaid
told_beside (LinkLost link) = NothingSaid
told_beside event = tale event

-- that is the first tale of its teller's tape
abbrev pub IsToldBeside : Teller → Event → (Teller → List Tale) → Type 0
IsToldBeside Nobody event tapes = Unit {0}
IsToldBeside who event tapes = take 1 (tapes who) ≡ told_beside event ∷ []

-- the events behind a past, the earliest first, take what is told of them from the fronts of the tapes
abbrev pub AreToldBeside : Setting → List Event → List Event → (Teller → List Tale) → Type 0
AreToldBeside s past [] tapes = Unit {0}
AreToldBeside s past (event ∷ events) tapes =
    IsToldBeside (teller (want s past)) event tapes × AreToldBeside s (event ∷ past) events (wound (teller (want s past)) tapes)

-- two traces of one request that hear the same streams, are told the same beside them, and meet no want of memory, are equal
abbrev pub TracesAreDeterminedByStreams : Type 0
TracesAreDeterminedByStreams =
    (s : Setting) → (a b : List Event) → (streams : LinkName → Stream) → (tapes : Teller → List Tale)
    → IsTrace s a → IsTrace s b
    → is_spent (reverse a) ≡ false → is_spent (reverse b) ≡ false
    → IsHeard streams s.request.method s.number (reverse a) → IsHeard streams s.request.method s.number (reverse b)
    → AreToldBeside s [] a tapes → AreToldBeside s [] b tapes → a ≡ b
