use Rattle.std.proofs.Common.{◌≡◌, ℕ, ◌<◌, [], length}
use Rattle.std.specs.Prelude.{IsSome}
use Rattle.link_trait.specs.Links.{IsUndialed}
use Rattle.lone_caller.specs.Served.{AreServedOver}
use Rattle.lone_caller.proofs.requests.serve_all.Given as goal

abbrev pub invariant-requests : goal.invariant-requests
invariant-requests g l = record {
  roster : l.roster ≡ g.B.Controller.roster l.book;
  size : l.requests ≡ length l.roster.requests;
  count : length l.traces ≡ l.served;
  served : AreServedOver l.roster l.seed (g.D.Dialer.streams l.fn.gear.dialer) (g.P.Prompter.answers l.fn.prompter) l.traces (g.B.Controller.told l.book) l.words;
  streams : g.D.Dialer.streams l.gear.dialer ≡ g.D.Dialer.streams l.fn.gear.dialer;
  answers : g.P.Prompter.answers l.prompter ≡ g.P.Prompter.answers l.fn.prompter;
  quiet : g.D.Dialer.quiet l.gear.dialer;
  calm : g.P.Prompter.quiet l.prompter;
  unlinked : g.D.Dialer.opened l.gear.dialer ≡ [];
  told : IsSome (g.D.Dialer.dials l.gear.dialer);
  undialed : (q n : ℕ) → l.served < q → IsUndialed (record { request = q; nth = n }) (g.D.Dialer.dials l.gear.dialer);
}
