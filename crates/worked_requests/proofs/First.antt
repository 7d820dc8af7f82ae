-- A book that has told nothing, and words that were not drawn, are ready for the first request of a roster.
use Rattle.std.proofs.Common.{◌≡◌, ℕ, ◌*◌, List, [], length, None, sym, ap, ◌∙◌, arith}
use Rattle.std.specs.Prelude.{replicate, IsSome}
use Rattle.spaces.specs.declared.roster.Roster.{Roster}
use Rattle.spaces.specs.Sites.{numbered}
use Rattle.link_trait.specs.declared.steps.Step.TheVariants.{NoMechanism}
use Rattle.auth_events.specs.declared.journal.Drawn.{Drawn}
use Rattle.auth_events.specs.declared.told.Told.{Told}
use Rattle.plain_book.specs.Words.{unused}
use Rattle.trace_rule.specs.Heard.{ended}
use Rattle.run_rule.specs.Outside.{Outside}
use Rattle.lone_laws.specs.Laws.{IsReady}
use Rattle.lone_laws.proofs.Behind.{next_ready}
use Rattle.lone_caller.proofs.Going.{there}

-- an outside that gives nothing
abbrev silent : Outside
silent = record { streams = λ link. ended []; steps = λ r n. NoMechanism; answers = λ space n. None }

pub first_ready : (roster : Roster) (told : List Told) (words : List Drawn) (many : ℕ) → length roster.requests ≡ many → told ≡ [] → words ≡ replicate (16 * many) unused → IsReady roster told words 1
first_ready roster told words many so_many untold undrawn =
    next_ready silent roster [] [] told words (omega arith) (untold, undrawn ∙ ap (λ n. replicate (16 * n) unused) (sym so_many))

pub first_there : (roster : Roster) → length roster.requests ≡ 1 → IsSome (numbered roster.requests 1)
first_there roster one = there roster 0 (omega (arith, one))
