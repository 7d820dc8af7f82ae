-- An entry more.
use Rattle.std.proofs.Common.{arith}
use Rattle.auth_events.specs.declared.journal.Entry.{Entry}
use Rattle.auth_events.specs.declared.journal.Call.TheVariants.{Begin}
use Rattle.auth_events.specs.declared.journal.BookReply.TheVariants.{Begun}
use Rattle.plain_book.proofs.Backward.{epoch_more}
use Rattle.plain_book.proofs.nonces.epoch.Goals as goal

-- what is read where there is no entry
abbrev no_entry : Entry
no_entry = record { caller = 0; request = 0; call = Begin; reply = Begun }

pub loop-at-preserved : goal.loop-at-preserved
loop-at-preserved c =
    let more = epoch_more c.args.names.now c.args.entries.now c.loop-at.at c.args.nonce (omega arith) no_entry in
    grind arith
