-- What `alone` writes tells of a run that leaves nothing open.
use Rattle.std.proofs.Common.{◌≡◌, ℕ, List, Option, Some}
use Rattle.session_text.specs.declared.session.Session.{Session}
use Rattle.ended_runs.proofs.Closed.{nothing_open}
use Rattle.auth_cli.specs.declared.words.Command.{Command}
use Rattle.auth_cli.specs.declared.words.Command.TheVariants.{Check, Alone}
use Rattle.auth_cli.specs.Closed.{IsClosedReport, WasClosed}
use Rattle.auth_cli.specs.Headline.{IsLoneReport, IsServed, recorded}

closed_report : (asked : Session) (seed printed : List ℕ) → IsLoneReport asked seed printed → IsClosedReport seed printed
closed_report asked seed printed report = record {
  asked = asked;
  report = report;
  closed = nothing_open 1 asked.roster (recorded asked) seed report.run report.is_run.is_run.is_run;
}

pub closed_served : (asked : Command) (seed : List ℕ) (left_old left_new held_old held_new : Option (List ℕ)) → Some asked ≡ Some Alone
    → IsServed asked seed left_old left_new held_old held_new → WasClosed seed held_old held_new
closed_served Alone seed left_old left_new held_old held_new same served =
    (served.0, closed_report served.1.is_text.asked seed served.0 served.1.is_text.is_text, served.2)
closed_served Check seed left_old left_new held_old held_new same served = absurd (let clash : Some Check ≡ Some Alone = same in cc)
