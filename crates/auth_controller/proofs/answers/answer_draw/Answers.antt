-- A count of the nonce may be drawn.
use Rattle.std.proofs.Common.{sym, subst}
use Rattle.std.proofs.Common.{length}
use Rattle.auth_events.specs.Tables.{AreFew, Tables}
use Rattle.auth_controller.proofs.Answered.{has_setting}
use Rattle.auth_controller.proofs.Drawing.{draw_few, draw_given, draw_served, draw_some, draw_within}
use Rattle.auth_controller.specs.Answering.{IsServedOn}
use Rattle.auth_controller.proofs.answers.answer_draw.Goals as goal

pub draw-drawn-requires-clause-nonce : goal.draw-drawn-requires-clause-nonce
draw-drawn-requires-clause-nonce g c =
    let book = c.args.book.now in
    let few = subst (λ (t : Tables). AreFew (length (g.B.Controller.roster book).requests) t) (sym (g.met.B.Controller.told_names book)) (g.met.B.Controller.few book) in (
      draw_some (g.B.Controller.roster book) (g.B.Controller.told book) c.args.words.now c.args.machine.now c.requires.serving c.args.nonce c.requires.need,
      draw_within (g.B.Controller.roster book) (g.B.Controller.told book) c.args.words.now c.args.machine.now c.requires.serving c.args.nonce c.requires.need few,
    )

pub draw-drawn-requires-clause-few : goal.draw-drawn-requires-clause-few
draw-drawn-requires-clause-few g c =
    let book = c.args.book.now in
    let few = subst (λ (t : Tables). AreFew (length (g.B.Controller.roster book).requests) t) (sym (g.met.B.Controller.told_names book)) (g.met.B.Controller.few book) in
    draw_few (g.B.Controller.roster book) (g.B.Controller.told book) c.args.words.now c.args.machine.now c.requires.serving c.args.nonce c.requires.need few

pub give-requires : goal.give-requires
give-requires g c =
    let book = c.args.book.now in
    has_setting (g.B.Controller.roster book) (g.B.Controller.told book) c.args.words.now c.args.machine.now c.requires.serving

pub returns-clause-given : goal.returns-clause-given
returns-clause-given g c =
    let book = c.args.book.now in
    draw_given (g.B.Controller.roster book) (g.B.Controller.told book) c.args.words.now c.args.machine.now c.requires.serving c.args.nonce c.requires.need c.give.new.machine c.draw-drawn.result c.draw-drawn.ensures.drawn c.give.ensures

pub returns-clause-serving : goal.returns-clause-serving
returns-clause-serving g c =
    let book = c.args.book.now in
    let few = subst (λ (t : Tables). AreFew (length (g.B.Controller.roster book).requests) t) (sym (g.met.B.Controller.told_names book)) (g.met.B.Controller.few book) in
    subst (λ w. IsServedOn (g.B.Controller.roster book) (g.B.Controller.told book) (g.B.Controller.told book) c.args.words.now w c.args.machine.now c.give.new.machine) (sym c.draw-drawn.ensures.words)
    (draw_served (g.B.Controller.roster book) (g.B.Controller.told book) c.args.words.now c.args.machine.now c.requires.serving c.args.nonce c.requires.need c.give.new.machine c.draw-drawn.result c.draw-drawn.ensures.drawn c.give.ensures few)
