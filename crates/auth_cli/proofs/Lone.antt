-- What one caller served of a session is a run of it.
use Rattle.std.proofs.Common.{◌≡◌, ℕ, ◌≤◌, List, length, Some, refl, sym, ap, ◌∙◌, subst, arith}
use Rattle.std.specs.declared.option.Option.{Option}
use Rattle.auth_text.specs.Login.{Login}
use Rattle.spaces.specs.declared.roster.Roster.{Roster}
use Rattle.spaces.specs.ProtectionSpaces.{ProtectionSpace}
use Rattle.auth_events.specs.declared.journal.Entry.{Entry}
use Rattle.auth_events.specs.declared.told.Told.{Told}
use Rattle.auth_events.specs.Tables.{Tables}
use Rattle.auth_events.specs.Told.{journal, names_told}
use Rattle.auth_runs.specs.Runs.{Run}
use Rattle.auth_runs.specs.declared.event.Event.{Event}
use Rattle.link_trait.specs.declared.links.LinkName.{LinkName}
use Rattle.link_trait.specs.Links.{stream_in}
use Rattle.link_trait.specs.Prompts.{answer_in}
use Rattle.session_text.specs.declared.session.Session.{Session}
use Rattle.lone_laws.specs.Lone.{run_told}
use Rattle.lone_laws.proofs.Whole.{lone_run_in_order}
use Rattle.lone_caller.specs.Served.{AreAllServed}
use Rattle.auth_cli.specs.Headline.{IsLoneRunOf, recorded}

abbrev run_of : List ℕ → Roster → Tables → List Entry → List (List Event) → Run
run_of seed roster names entries traces = record { seed = seed; roster = roster; names = names; journal = entries; traces = traces }

-- what the book has recorded, with the traces, is the run that it told
run_is : (seed : List ℕ) (roster asked : Roster) (names : Tables) (entries : List Entry) (traces : List (List Event)) (told : List Told) → roster ≡ asked → names ≡ names_told told → entries ≡ journal told
    → run_of seed roster names entries traces ≡ run_told asked seed told traces
run_is seed roster asked names entries traces told same_roster same_names same_entries =
    ap (λ x. run_of seed x names entries traces) same_roster
    ∙ (ap (λ x. run_of seed asked x entries traces) same_names ∙ ap (λ x. run_of seed asked (names_told told) x traces) same_entries)

pub lone_run_of : (asked : Session) (seed : List ℕ) (streams : Option (LinkName → List ℕ)) (answers : Option (ProtectionSpace → ℕ → Option Login)) (traces : List (List Event)) (told : List Told)
    → length asked.roster.requests ≤ 2048 → streams ≡ Some (stream_in asked.links) → answers ≡ Some (answer_in asked.answers)
    → AreAllServed asked.roster seed streams answers traces told
    → (roster : Roster) (names : Tables) (entries : List Entry) (run : Run) → run ≡ run_of seed roster names entries traces → roster ≡ asked.roster → names ≡ names_told told → entries ≡ journal told
    → IsLoneRunOf asked seed run
lone_run_of asked seed streams answers traces told few same_streams same_answers all roster names entries run is same_roster same_names same_entries =
    subst (IsLoneRunOf asked seed) (sym (is ∙ run_is seed roster asked.roster names entries traces told same_roster same_names same_entries))
    (lone_run_in_order (recorded asked) asked.roster seed traces told all.words (omega (arith, few, all.all)) all.all
    (all.served (recorded asked) (record { bytes = stream_in asked.links; streams_are = same_streams; whole = refl; answers_are = same_answers })))
