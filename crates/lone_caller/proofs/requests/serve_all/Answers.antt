use Rattle.std.proofs.Common.{◌+◌, List, [], ◌∷◌, length, sym, ap, ◌∙◌, subst, arith, length-append}
use Rattle.auth_events.specs.Tables.{AreFew, Tables}
use Rattle.auth_events.specs.Told.{past}
use Rattle.auth_runs.specs.declared.event.Event.{Event}
use Rattle.serving_laws.specs.Draws.{AreEpochs}
use Rattle.serving_laws.specs.Rooms.{begun}
use Rattle.lone_caller.specs.Served.{AreServedOver}
use Rattle.lone_caller.proofs.Going.{next_one, ready_now}
use Rattle.lone_caller.proofs.Links.{silent}
use Rattle.lone_caller.proofs.requests.serve_all.Goals as goal

pub serve_alone-requires-clause-unserved : goal.serve_alone-requires-clause-unserved
serve_alone-requires-clause-unserved g c =
    (ready_now c.args.roster.now c.args.seed (g.D.Dialer.streams c.args.gear.now.dialer) (g.P.Prompter.answers c.args.prompter.now) c.requests.traces (g.B.Controller.told c.requests.book) c.requests.words c.requests.served
    c.requires.streams c.requires.answers c.requests.invariant.count (omega (arith, c.requests-test.true, c.requests.invariant.size, c.requires.few)) c.requests.invariant.served).unserved

pub serve_alone-requires-clause-settled : goal.serve_alone-requires-clause-settled
serve_alone-requires-clause-settled g c =
    (ready_now c.args.roster.now c.args.seed (g.D.Dialer.streams c.args.gear.now.dialer) (g.P.Prompter.answers c.args.prompter.now) c.requests.traces (g.B.Controller.told c.requests.book) c.requests.words c.requests.served
    c.requires.streams c.requires.answers c.requests.invariant.count (omega (arith, c.requests-test.true, c.requests.invariant.size, c.requires.few)) c.requests.invariant.served).settled

pub serve_alone-requires-clause-few : goal.serve_alone-requires-clause-few
serve_alone-requires-clause-few g c =
    subst (AreFew (begun (past (g.B.Controller.told c.requests.book)))) (g.met.B.Controller.told_names c.requests.book)
    (ready_now c.args.roster.now c.args.seed (g.D.Dialer.streams c.args.gear.now.dialer) (g.P.Prompter.answers c.args.prompter.now) c.requests.traces (g.B.Controller.told c.requests.book) c.requests.words c.requests.served
    c.requires.streams c.requires.answers c.requests.invariant.count (omega (arith, c.requests-test.true, c.requests.invariant.size, c.requires.few)) c.requests.invariant.served).few

pub serve_alone-requires-clause-words : goal.serve_alone-requires-clause-words
serve_alone-requires-clause-words g c =
    (ready_now c.args.roster.now c.args.seed (g.D.Dialer.streams c.args.gear.now.dialer) (g.P.Prompter.answers c.args.prompter.now) c.requests.traces (g.B.Controller.told c.requests.book) c.requests.words c.requests.served
    c.requires.streams c.requires.answers c.requests.invariant.count (omega (arith, c.requests-test.true, c.requests.invariant.size, c.requires.few)) c.requests.invariant.served).as_many

pub serve_alone-requires-clause-draws : goal.serve_alone-requires-clause-draws
serve_alone-requires-clause-draws g c =
    (ready_now c.args.roster.now c.args.seed (g.D.Dialer.streams c.args.gear.now.dialer) (g.P.Prompter.answers c.args.prompter.now) c.requests.traces (g.B.Controller.told c.requests.book) c.requests.words c.requests.served
    c.requires.streams c.requires.answers c.requests.invariant.count (omega (arith, c.requests-test.true, c.requests.invariant.size, c.requires.few)) c.requests.invariant.served).few_draws

pub serve_alone-requires-clause-epochs : goal.serve_alone-requires-clause-epochs
serve_alone-requires-clause-epochs g c =
    subst (λ (t : Tables). AreEpochs t (past (g.B.Controller.told c.requests.book)) c.requests.words) (g.met.B.Controller.told_names c.requests.book)
    (ready_now c.args.roster.now c.args.seed (g.D.Dialer.streams c.args.gear.now.dialer) (g.P.Prompter.answers c.args.prompter.now) c.requests.traces (g.B.Controller.told c.requests.book) c.requests.words c.requests.served
    c.requires.streams c.requires.answers c.requests.invariant.count (omega (arith, c.requests-test.true, c.requests.invariant.size, c.requires.few)) c.requests.invariant.served).epochs

pub requests-preserved : goal.requests-preserved
requests-preserved g c =
    let was = c.requests.invariant in
    let links = c.in_ok-trace.ensures.quiet was.quiet in
    let asks = c.in_ok-trace.ensures.prompt_quiet was.calm in
    let dialer = c.requests.gear.dialer in
    let dialed = c.serve_alone.new.gear.dialer in
    let more = next_one c.args.roster.now c.args.seed (g.D.Dialer.streams c.args.gear.now.dialer) (g.P.Prompter.answers c.args.prompter.now) c.requests.traces
    (g.B.Controller.told c.requests.book) (g.B.Controller.told c.serve_alone.new.book) c.requests.words c.serve_alone.new.words c.requests.served c.in_ok-trace.trace
    was.count was.served (omega (arith, c.requests-test.true, was.size))
    (g.D.Dialer.streams dialer) (g.P.Prompter.answers c.requests.prompter) was.streams was.answers
    (g.D.Dialer.dials dialer) (g.D.Dialer.dials dialed) (g.D.Dialer.traffic dialer) (g.D.Dialer.traffic dialed)
    (g.P.Prompter.told c.requests.prompter) (g.P.Prompter.told c.serve_alone.new.prompter)
    c.in_ok-trace.ensures.served c.in_ok-trace.ensures.carried c.in_ok-trace.ensures.prompted links.1 asks.1
    (silent (c.requests.served + 1) (g.D.Dialer.traffic dialer) (g.D.Dialer.dials dialer) (g.met.D.Dialer.dialed dialer) was.told (λ n. was.undialed (c.requests.served + 1) n (omega arith)))
    was.told was.undialed in
    record {
      roster = was.roster ∙ sym c.serve_alone.ensures.roster;
      size = was.size;
      count = omega (arith, was.count, ap length c.in_ok-push.ensures.ok, length-append c.requests.traces (c.in_ok-trace.trace ∷ []));
      served =
          subst (λ (ts : List (List Event)). AreServedOver c.args.roster.now c.args.seed (g.D.Dialer.streams c.args.gear.now.dialer) (g.P.Prompter.answers c.args.prompter.now) ts (g.B.Controller.told c.serve_alone.new.book) c.serve_alone.new.words)
          (sym c.in_ok-push.ensures.ok) more.0;
      streams = c.serve_alone.ensures.streams ∙ was.streams;
      answers = c.serve_alone.ensures.answers ∙ was.answers;
      quiet = links.0;
      calm = asks.0;
      unlinked = c.serve_alone.ensures.closed;
      told = more.1;
      undialed = more.2;
    }
