-- The call that the machine asks for may be asked, and its reply is heard.
use Rattle.auth_controller.proofs.Answered.{has_setting}
use Rattle.auth_controller.proofs.Arms.{call_answered, call_epochs, call_may, legal_told}
use Rattle.auth_controller.proofs.answers.answer_call.Goals as goal

pub call-reply-requires-clause-allowed : goal.call-reply-requires-clause-allowed
call-reply-requires-clause-allowed g c =
    let book = c.args.book.now in
    call_may (g.B.Controller.roster book) (g.B.Controller.names book) (g.B.Controller.told book) c.args.words.now c.args.request c.args.machine.now c.requires.serving c.args.wanted
    (g.met.B.Controller.told_names book) c.requires.number c.requires.need

pub call-reply-requires-clause-words : goal.call-reply-requires-clause-words
call-reply-requires-clause-words g c = c.requires.serving.serving.served.as_many

pub call-reply-requires-clause-epochs : goal.call-reply-requires-clause-epochs
call-reply-requires-clause-epochs g c =
    let book = c.args.book.now in
    call_epochs (g.B.Controller.roster book) (g.B.Controller.names book) (g.B.Controller.told book) c.args.words.now c.args.request c.args.machine.now c.requires.serving c.args.wanted
    (g.met.B.Controller.told_names book) c.requires.number c.requires.need

pub give-requires : goal.give-requires
give-requires g c =
    let book = c.args.book.now in
    has_setting (g.B.Controller.roster book) (g.B.Controller.told book) c.args.words.now c.args.machine.now c.requires.serving

pub returns-clause-roster : goal.returns-clause-roster
returns-clause-roster g c = c.call-reply.ensures.roster

pub returns-clause-given : goal.returns-clause-given
returns-clause-given g c =
    let book = c.args.book.now in
    let after = c.call-reply.new.book in
    (call_answered (g.B.Controller.roster book) (g.B.Controller.names book) (g.B.Controller.told book) c.args.words.now c.args.request c.args.machine.now c.requires.serving c.args.wanted
    (g.met.B.Controller.told_names book) c.requires.number c.requires.need
    (g.B.Controller.told after) c.call-reply.new.words c.give.new.machine c.call-reply.result
    (legal_told (g.B.Controller.roster book) (g.B.Controller.roster after) (g.B.Controller.names after) (g.B.Controller.told after) c.call-reply.ensures.roster (g.met.B.Controller.told_names after) (g.met.B.Controller.no_draw after) (g.met.B.Controller.legal after))
    c.give.ensures c.call-reply.ensures.reply c.call-reply.ensures.told (g.met.B.Controller.are_names book) (g.met.B.Controller.few book) c.call-reply.ensures.words).0

pub returns-clause-serving : goal.returns-clause-serving
returns-clause-serving g c =
    let book = c.args.book.now in
    let after = c.call-reply.new.book in
    (call_answered (g.B.Controller.roster book) (g.B.Controller.names book) (g.B.Controller.told book) c.args.words.now c.args.request c.args.machine.now c.requires.serving c.args.wanted
    (g.met.B.Controller.told_names book) c.requires.number c.requires.need
    (g.B.Controller.told after) c.call-reply.new.words c.give.new.machine c.call-reply.result
    (legal_told (g.B.Controller.roster book) (g.B.Controller.roster after) (g.B.Controller.names after) (g.B.Controller.told after) c.call-reply.ensures.roster (g.met.B.Controller.told_names after) (g.met.B.Controller.no_draw after) (g.met.B.Controller.legal after))
    c.give.ensures c.call-reply.ensures.reply c.call-reply.ensures.told (g.met.B.Controller.are_names book) (g.met.B.Controller.few book) c.call-reply.ensures.words).1
