use Rattle.std.proofs.Common.{◌∙◌, ◌+◌, ℕ, false, List, Option, refl, sym, ap, subst, arith}
use Rattle.link_trait.specs.declared.links.LinkName.{LinkName}
use Rattle.link_trait.specs.Links.{has_link}
use Rattle.connection_binding.specs.declared.ends.ReadEnd.TheVariants.{NoMemory}
use Rattle.connection_binding.specs.Readings.{IsOver, IsUndecided}
use Rattle.connection_binding.proofs.PieceLemmas.{state_of, nothing_read, kept_shows, kept_open, no_read_fault, all_read}
use Rattle.connection_binding.proofs.reading.read_reply.Goals as goal

pub returns-in_default-clause-reply : goal.returns-in_default-clause-reply
returns-in_default-clause-reply g c =
    subst (λ (left : List ℕ). IsOver (state_of c.args.link c.args.window.now c.args.has_replied) c.args.method (g.D.Dialer.streams c.args.dialer.now) (g.D.Dialer.traffic c.args.dialer.now)
    (g.D.Dialer.traffic c.args.dialer.now) NoMemory left)
    (sym c.clear.ensures)
    (nothing_read (state_of c.args.link c.args.window.now c.args.has_replied) c.args.method (g.D.Dialer.streams c.args.dialer.now) (g.D.Dialer.traffic c.args.dialer.now))

pub returns-in-Some-clause-reply : goal.returns-in-Some-clause-reply
returns-in-Some-clause-reply g c =
    kept_shows (state_of c.args.link c.args.window.now c.args.has_replied) c.args.method (g.D.Dialer.streams c.args.dialer.now) (g.D.Dialer.traffic c.args.dialer.now) c.in-Ok.reader c.in-Some.end
    c.fed.new.window c.in-Ok.ensures c.in-Some.ensures.answer

pub returns-in-Some-clause-fault : goal.returns-in-Some-clause-fault
returns-in-Some-clause-fault g c = no_read_fault g.D.Dialer.sticks (g.D.Dialer.faults c.args.dialer.now) (g.D.Dialer.faults c.args.dialer.now) c.in-Some.end c.in-Some.ensures.quiet

pub returns-in-Some-clause-quiet : goal.returns-in-Some-clause-quiet
returns-in-Some-clause-quiet g c quiet = (quiet, c.in-Some.ensures.quiet)

pub loop-read-init : goal.loop-read-init
loop-read-init g c =
    let start =
    kept_open (state_of c.args.link c.args.window.now c.args.has_replied) c.args.method (g.D.Dialer.streams c.args.dialer.now) (g.D.Dialer.traffic c.args.dialer.now) c.is_gone-gone.result c.in-Ok.reader
    c.fed.new.reader c.fed.result c.fed.new.window c.in-Ok.ensures c.in-None.is c.is_gone-gone.ensures c.fed.ensures.answer c.fed.ensures.fed in
    record {
      empty = start.1;
      open_ = c.requires;
      opened = refl;
      dials = refl;
      streams = refl;
      later = omega arith;
      quiet = λ q. q;
      undecided = start.0;
    }

pub loop-read-preserved : goal.loop-read-preserved
loop-read-preserved g c =
    let inv = c.loop-read.invariant in
    let step = c.in-More.ensures.piece c.args.window.now c.args.has_replied c.args.method (g.D.Dialer.traffic c.args.dialer.now) c.loop-read.read c.loop-read.gone inv.undecided in
    let before = inv.later in
    let rose = c.read_piece.ensures.later in
    record {
      empty = step.1;
      open_ = ap (λ (names : List LinkName). has_link c.args.link names) c.read_piece.ensures.opened ∙ inv.open_;
      opened = c.read_piece.ensures.opened ∙ inv.opened;
      dials = c.read_piece.ensures.dials ∙ inv.dials;
      streams = c.read_piece.ensures.streams ∙ inv.streams;
      later = omega (arith, before, rose);
      quiet = λ q. (c.read_piece.ensures.quiet (inv.quiet q)).0;
      undecided = subst (λ (streams : Option (LinkName → List ℕ)). IsUndecided (state_of c.args.link c.args.window.now c.args.has_replied) c.args.method streams
          (g.D.Dialer.traffic c.args.dialer.now) (g.D.Dialer.traffic c.read_piece.new.dialer) (c.loop-read.read + 1) false c.read_piece.new.reader) (sym c.read_piece.ensures.streams) step.0;
    }

pub returns-in-AtEnd-clause-reply : goal.returns-in-AtEnd-clause-reply
returns-in-AtEnd-clause-reply g c =
    let ended = c.in-AtEnd.ensures.piece c.args.window.now c.args.has_replied c.args.method (g.D.Dialer.traffic c.args.dialer.now) c.loop-read.read c.loop-read.gone c.loop-read.invariant.undecided in
    subst (λ (streams : Option (LinkName → List ℕ)). IsOver (state_of c.args.link c.args.window.now c.args.has_replied) c.args.method streams
    (g.D.Dialer.traffic c.args.dialer.now) (g.D.Dialer.traffic c.read_piece.new.dialer) c.shown_at_end.result c.read_piece.new.window)
    c.loop-read.invariant.streams
    (subst (λ (left : List ℕ). IsOver (state_of c.args.link c.args.window.now c.args.has_replied) c.args.method (g.D.Dialer.streams c.loop-read.dialer)
    (g.D.Dialer.traffic c.args.dialer.now) (g.D.Dialer.traffic c.read_piece.new.dialer) c.shown_at_end.result left)
    (sym ended.1) (ended.0.over c.shown_at_end.result (c.shown_at_end.ensures.shown c.args.method ended.0.text ended.0.fed)))

pub returns-in-Over-clause-reply : goal.returns-in-Over-clause-reply
returns-in-Over-clause-reply g c =
    subst (λ (streams : Option (LinkName → List ℕ)). IsOver (state_of c.args.link c.args.window.now c.args.has_replied) c.args.method streams
    (g.D.Dialer.traffic c.args.dialer.now) (g.D.Dialer.traffic c.read_piece.new.dialer) c.in-Over.end c.read_piece.new.window)
    c.loop-read.invariant.streams
    (c.in-Over.ensures.piece c.args.window.now c.args.has_replied c.args.method (g.D.Dialer.traffic c.args.dialer.now) c.loop-read.read c.loop-read.gone c.loop-read.invariant.undecided)

pub unreachable-requires : goal.unreachable-requires
unreachable-requires g c = all_read _ _ _ _ _ _ _ c.loop-read.read c.loop-read-test.false c.loop-read.invariant.undecided
