use Rattle.std.proofs.Common.{◌≡◌, [], true, ◌≤◌}
use Rattle.link_trait.specs.Links.{has_link}
use Rattle.connection_binding.specs.Readings.{IsUndecided}
use Rattle.connection_binding.proofs.reading.read_reply.Given as goal

abbrev pub invariant-loop-read : goal.invariant-loop-read
invariant-loop-read g l = record {
  empty : l.window ≡ [];
  open_ : has_link l.link (g.D.Dialer.opened l.dialer) ≡ true;
  opened : g.D.Dialer.opened l.dialer ≡ g.D.Dialer.opened l.fn.dialer;
  dials : g.D.Dialer.dials l.dialer ≡ g.D.Dialer.dials l.fn.dialer;
  streams : g.D.Dialer.streams l.dialer ≡ g.D.Dialer.streams l.fn.dialer;
  later : g.D.Dialer.faults l.fn.dialer ≤ g.D.Dialer.faults l.dialer;
  quiet : g.D.Dialer.quiet l.fn.dialer → g.D.Dialer.quiet l.dialer;
  undecided : IsUndecided (record { name = l.link; kept = l.fn.window; has_replied = l.has_replied }) l.fn.method (g.D.Dialer.streams l.dialer) (g.D.Dialer.traffic l.fn.dialer) (g.D.Dialer.traffic l.dialer)
      l.read l.gone l.reader;
}
