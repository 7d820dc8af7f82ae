use Rattle.std.proofs.Common.{◌≡◌, ◌++◌, ◌∷◌, [], ap, ◌∙◌, length}
use Rattle.std.proofs.lemmas.List.{length-append}
use Rattle.std.proofs.lemmas.List.Elements.{All-push, All-same}
use Rattle.turnstile.specs.Passes.{IsOf}
use Rattle.bench_core.proofs.turns.put_back.Goals as goal

pub returns-clause-len : goal.returns-clause-len
returns-clause-len c =
    let listed : c.push.new.self.list ≡ c.args.passes.now.list ++ c.args.worker.pass ∷ [] = (c.in-Ok.ensures {u = tt}).ok in
    ap length listed ∙ length-append c.args.passes.now.list (c.args.worker.pass ∷ [])

pub returns-clause-all : goal.returns-clause-all
returns-clause-all c =
    let listed : c.push.new.self.list ≡ c.args.passes.now.list ++ c.args.worker.pass ∷ [] = (c.in-Ok.ensures {u = tt}).ok in
    All-same (IsOf c.args.lock.now) c.push.new.self.list (c.args.passes.now.list ++ c.args.worker.pass ∷ []) listed
    (All-push (IsOf c.args.lock.now) c.args.passes.now.list c.args.worker.pass c.requires.all c.requires.worker)
