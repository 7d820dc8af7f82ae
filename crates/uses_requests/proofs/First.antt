-- A new book and new words are ready for the first request of a roster.
use Rattle.std.proofs.Common.{◌≡◌, ℕ, ◌*◌, ◌≤◌, IsTrue, List, [], ◌∷◌, length, None, is_some, true, refl, sym, ap, ◌∙◌, subst, arith}
use Rattle.std.specs.Prelude.{replicate}
use Rattle.spaces.specs.Sites.{numbered}
use Rattle.spaces.specs.declared.roster.Request.{Request}
use Rattle.spaces.specs.declared.roster.Roster.{Roster}
use Rattle.auth_events.specs.declared.journal.Drawn.{Drawn}
use Rattle.auth_events.specs.declared.told.Told.{Told}
use Rattle.auth_events.specs.Tables.{AreFew, Tables, no_names}
use Rattle.auth_events.specs.Told.{names_told, past}
use Rattle.auth_runs.specs.declared.event.Event.{Event}
use Rattle.link_trait.specs.declared.steps.Step.TheVariants.{NoMechanism}
use Rattle.plain_book.specs.Words.{unused}
use Rattle.run_rule.specs.Outside.{Outside}
use Rattle.serving_laws.specs.Draws.{AreEpochs}
use Rattle.serving_laws.specs.Rooms.{begun}
use Rattle.serving_laws.specs.Service.{IsServedAlone}
use Rattle.trace_rule.specs.Settings.{setting_of}
use Rattle.trace_rule.specs.Traces.{IsTrace}
use Rattle.lone_laws.specs.Laws.{IsReady}
use Rattle.lone_laws.proofs.Behind.{next_ready}

pub first_there : (requests : List Request) → 1 ≤ length requests → IsTrue (is_some (numbered requests 1))
first_there [] some = absurd (omega (arith, some))
first_there (x ∷ xs) some = refl

silence : Outside
silence = record { streams = λ link. record { bytes = []; ended = true }; steps = λ r n. NoMechanism; answers = λ space n. None }

pub first_ready : (roster : Roster) (told : List Told) (words : List Drawn) → told ≡ [] → words ≡ replicate (16 * length roster.requests) unused → IsReady roster told words 1
first_ready roster told words untold undrawn = next_ready silence roster [] [] told words (omega arith) (untold, undrawn)

-- the same, where the names are given beside what was told
module _ (roster : Roster) (told : List Told) (names : Tables) (words : List Drawn) (untold : told ≡ []) (unnamed : names ≡ no_names) (undrawn : words ≡ replicate (16 * length roster.requests) unused) where
  same : names_told told ≡ names
  same = ap names_told untold ∙ sym unnamed

  pub first_few : AreFew (begun (past told)) names
  first_few = subst (AreFew (begun (past told))) same (first_ready roster told words untold undrawn).few

  pub first_epochs : AreEpochs names (past told) words
  first_epochs = subst (λ (t : Tables). AreEpochs t (past told) words) same (first_ready roster told words untold undrawn).epochs

pub obeyed : (roster : Roster) (seed : List ℕ) (before told : List Told) (first words : List Drawn) (r : ℕ) (request : Request) (trace : List Event) → IsServedAlone roster seed before told first words r request trace
    → (after : List Told) × IsTrace (setting_of roster seed (names_told after) (past after) r request) trace
obeyed roster seed before told first words r request trace served = (told, served.is_trace)
