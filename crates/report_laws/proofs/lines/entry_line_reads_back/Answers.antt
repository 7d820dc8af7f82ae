use Rattle.std.proofs.Common.{rules, ◌≡◌, true}
use Rattle.auth_events.specs.Pages.{fits}
use Rattle.report_laws.proofs.EntriesAgain.{entry_again}
use Rattle.report_laws.proofs.lines.entry_line_reads_back.Goals as goal

pub returns : goal.returns
returns c =
    let fit : fits c.args.entry.call c.args.entry.reply ≡ true = search rules in entry_again c.args.entry c.keeps_entry.ensures fit
