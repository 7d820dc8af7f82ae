use Rattle.std.proofs.Common.{◌++◌, false, length}
use Rattle.wire_head.specs.Replies.{reply}
use Rattle.connection_binding.proofs.PieceLemmas.{whole_piece, fault_piece, more_fed}
use Rattle.connection_binding.proofs.reading.answered.Goals as goal

pub returns-in-More-clause-fed : goal.returns-in-More-clause-fed
returns-in-More-clause-fed c method text fed none = c.feed-used.ensures.fed method text fed (more_fed c.feed-used.result.at c.in-More.is)

pub returns-in-Whole-clause-answer : goal.returns-in-Whole-clause-answer
returns-in-Whole-clause-answer c method text fed =
    whole_piece (reply method (text ++ c.args.piece.now) false) text c.args.piece.now c.feed-used.result.used c.min.result c.feed-used.result.at c.in-Whole.reply c.in-Whole.is
    c.min.ensures (c.feed-used.ensures.answer method text fed)

pub returns-in-Fault-clause-answer : goal.returns-in-Fault-clause-answer
returns-in-Fault-clause-answer c method text fed =
    fault_piece (reply method (text ++ c.args.piece.now) false) (length text) c.feed-used.result.used c.args.piece.now c.feed-used.result.at c.in-Fault.fault c.in-Fault.is
    (c.feed-used.ensures.answer method text fed)
