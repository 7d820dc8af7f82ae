use Rattle.std.proofs.Common.{◌++◌, ◌∷◌, [], List, ap, ◌∙◌, subst}
use Rattle.std.specs.Prelude.{All}
use Rattle.std.proofs.lemmas.List.{append-nil}
use Rattle.std.proofs.lemmas.List.Elements.{All-head, All-tail}
use Rattle.nonce_words.specs.declared.draw.NonceDraw.{NonceDraw}
use Rattle.nonce_words.specs.Fresh.{IsFresh}
use Rattle.auth_events.specs.Book.{epoch}
use Rattle.auth_events.specs.Told.{past}
use Rattle.shared_book.specs.Callers.{CallerView, IsKnown, drawn_by}
use Rattle.uses_threads.proofs.sharing.closed.Goals as goal

pub returns-clause-known : goal.returns-clause-known
returns-clause-known g c =
    let one = c.args.one in
    let two = c.args.two in
    let known = IsKnown (g.B.Controller.told c.close.result) in
    let lists = c.in-Ok-push.ensures.ok ∙ ap (λ (l : List CallerView). l ++ two ∷ []) (c.in-Ok.ensures.ok ∙ ap (λ (l : List CallerView). l ++ one ∷ []) c.requires.room.0) in
    let all : All known (one ∷ two ∷ []) = subst (All known) lists c.close.ensures.known in
    (All-head known one (two ∷ []) all, All-head known two [] (All-tail known one (two ∷ []) all))

pub returns-clause-fresh : goal.returns-clause-fresh
returns-clause-fresh g c =
    let one = c.args.one in
    let two = c.args.two in
    let made = epoch (g.B.Controller.names c.close.result) (past (g.B.Controller.told c.close.result)) in
    let lists = c.in-Ok-push.ensures.ok ∙ ap (λ (l : List CallerView). l ++ two ∷ []) (c.in-Ok.ensures.ok ∙ ap (λ (l : List CallerView). l ++ one ∷ []) c.requires.room.0) in
    subst (λ (d : List NonceDraw). IsFresh d made) (ap drawn_by lists ∙ ap (λ (d : List NonceDraw). two.drawn ++ d) (append-nil one.drawn)) c.close.ensures.fresh
