use Rattle.std.proofs.Common.{Some, ◌∷◌, ◌+◌, sym, subst, ap, ◌∙◌}
use Rattle.auth_runs.specs.declared.event.Event.TheVariants.{Replied}
use Rattle.request_machine.specs.declared.decide.Decision.TheVariants.{Continues}
use Rattle.request_machine.specs.Kept.{Kept, Ties}
use Rattle.request_machine.proofs.Reading.{few_rounds}
use Rattle.request_machine.proofs.Decided.{IsDecided, continues_ties}
use Rattle.request_machine.proofs.Deciding.{decided_of, continuing_live, continuing_of}
use Rattle.request_machine.proofs.machine.Machine.continues.Goals as goal

pub returns-clause-ties : goal.returns-clause-ties
returns-clause-ties c = λ s some is t.
    let m = c.args.self.now in
    let by = decided_of s m c.args.reply c.args.target (Continues c.args.peer) c.requires.ready some is t in
    let of = subst (λ d. IsDecided s m c.args.reply c.args.target by.held d) (continuing_of by.held c.args.peer by.decision by.same) by.is_decided in
    subst (λ (v : Kept). Ties s (record v { stage = c.stage_continued-self-inside.result; rounds = v.rounds + 1; code = c.args.reply.code; stays = c.args.reply.stays }))
    (sym (c.self.view_is ∙ c.push.ensures ∙ ap (λ (m : Kept). record m { past = Replied c.args.link c.args.reply ∷ m.past }) c.put_peer.ensures))
    (subst (λ st. Ties s (record m { past = Replied c.args.link c.args.reply ∷ m.past; stage = st; rounds = m.rounds + 1; code = c.args.reply.code; stays = c.args.reply.stays; peer = Some c.args.peer })) (sym c.stage_continued-self-inside.ensures.stage)
    (continues_ties s m c.args.link c.args.reply c.args.target by.held c.args.peer c.requires.stage c.requires.reply (few_rounds m.rounds c.requires.few) of
    (continuing_live s m c.args.reply c.args.target by.held (Some c.args.peer) c.requires.ready of t) c.requires.undialed t))
