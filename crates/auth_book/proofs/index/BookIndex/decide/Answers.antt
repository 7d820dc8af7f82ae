use Rattle.std.proofs.Common.{◌∙◌, ap, length, sym}
use Rattle.std.proofs.Math.Logic.{∥∥₁_elim}
use Rattle.auth_book.proofs.Fitting.{IsReady-prop, CanTell-prop, ready_ok, tell_ok, reply_so, retired_so, stands_so}
use Rattle.auth_book.proofs.RowSteps.{rows_length}
use Rattle.auth_book.proofs.index.BookIndex.decide.Goals as goal

pub reply-reply-requires : goal.reply-reply-requires
reply-reply-requires c =
    ∥∥₁_elim c.requires.may (IsReady-prop c.args.self.now c.args.call)
    (λ may. ready_ok c.args.self.now c.args.roster.now c.args.names.now c.requires.book c.args.request c.args.call may)

pub returns-then-is_pending-clause-reply : goal.returns-then-is_pending-clause-reply
returns-then-is_pending-clause-reply c = λ past caller legal stands may.
    reply_so c.args.self.now c.args.roster.now c.args.names.now c.requires.book c.args.request c.args.call c.reply-reply.result c.reply-reply.ensures past caller legal stands may

pub tell-retired-requires : goal.tell-retired-requires
tell-retired-requires c =
    ∥∥₁_elim c.requires.may (CanTell-prop c.args.roster.now c.args.request c.args.call c.reply-reply.result c.args.self.now)
    (λ may. tell_ok c.args.self.now c.args.roster.now c.args.names.now c.requires.book c.args.request c.args.call may c.reply-reply.result c.reply-reply.ensures (sym c.is_pending.ensures ∙ c.if-is_pending.false))

pub returns-clause-reply : goal.returns-clause-reply
returns-clause-reply c = λ past caller legal stands may.
    reply_so c.args.self.now c.args.roster.now c.args.names.now c.requires.book c.args.request c.args.call c.reply-reply.result c.reply-reply.ensures past caller legal stands may

pub returns-clause-retired : goal.returns-clause-retired
returns-clause-retired c = λ past caller legal stands may.
    c.tell-retired.ensures.retired
    ∙ retired_so c.args.self.now c.args.roster.now c.args.names.now c.requires.book c.args.request c.args.call c.reply-reply.result c.reply-reply.ensures past caller legal stands may (sym c.is_pending.ensures ∙ c.if-is_pending.false)

pub returns-clause-stands : goal.returns-clause-stands
returns-clause-stands c = λ past caller legal stands may.
    stands_so c.args.self.now c.args.roster.now c.args.names.now c.requires.book c.args.request c.args.call c.reply-reply.result c.reply-reply.ensures past caller legal stands may (sym c.is_pending.ensures ∙ c.if-is_pending.false) c.tell-retired.new.self c.tell-retired.ensures.told

pub returns-clause-rows : goal.returns-clause-rows
returns-clause-rows c = ap length c.tell-retired.ensures.told.spaces ∙ rows_length c.reply-reply.result c.args.self.now.spaces.items
