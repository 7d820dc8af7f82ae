use Rattle.std.proofs.Common.{◌≡◌, ◌≤◌}
use Rattle.trace_rule.specs.Settings.{Setting}
use Rattle.request_machine.specs.Kept.{Ties}
use Rattle.request_machine.specs.Turns.{turns_left}
use Rattle.request_machine.specs.Driven.{insides, TellsDials}
use Rattle.request_machine.specs.Carried.{TellsTraffic}
use Rattle.request_machine.specs.Failed.{link_faults, ask_faults, TellsLinkFaults, TellsAskFaults}
use Rattle.request_machine.specs.Prompted.{TellsPrompts}
use Rattle.request_machine.specs.Linked.{IsDriven}
use Rattle.request_machine.specs.Work.{work_left}
use Rattle.request_machine.proofs.Stepping.{IsUnderWay}
use Rattle.request_machine.specs.Provided.{IsTouchedBySteps, TellsSteps, shown, step_faults}
use Rattle.request_machine.proofs.machine.Machine.step.Given as goal

abbrev pub invariant-loop-need : goal.invariant-loop-need
invariant-loop-need g l = record {
  driven : IsDriven l.fn.self l.self (g.D.Dialer.opened l.fn.gear.dialer) (g.D.Dialer.opened l.gear.dialer) (g.D.Dialer.dials l.gear.dialer);
  ties : (s : Setting) → s.request ≡ l.request → Ties s l.fn.self → Ties s l.self;
  way : IsUnderWay l.fn.self l.self;
  provider : TellsSteps l.request g.T.Tokens.sticks l.fn.self l.self (shown (g.T.Tokens.told l.fn.gear.tokens) (g.T.Tokens.script l.fn.gear.tokens) (g.T.Tokens.faults l.fn.gear.tokens))
      (shown (g.T.Tokens.told l.gear.tokens) (g.T.Tokens.script l.gear.tokens) (g.T.Tokens.faults l.gear.tokens));
  steps_quiet : g.T.Tokens.quiet l.fn.gear.tokens → g.T.Tokens.quiet l.gear.tokens × (step_faults l.self.past ≡ step_faults l.fn.self.past);
  touched : IsTouchedBySteps l.fn.gear.tokens l.gear.tokens l.fn.self.past l.self.past;
  less : work_left l.self ≤ work_left l.fn.self;
  insides : insides l.self.past ≡ insides l.fn.self.past;
  traffic : TellsTraffic l.request l.fn.self l.self (g.D.Dialer.streams l.fn.gear.dialer) (g.D.Dialer.traffic l.fn.gear.dialer) (g.D.Dialer.traffic l.gear.dialer);
  streams : g.D.Dialer.streams l.gear.dialer ≡ g.D.Dialer.streams l.fn.gear.dialer;
  faults : TellsLinkFaults g.D.Dialer.sticks l.fn.self l.self (g.D.Dialer.faults l.fn.gear.dialer) (g.D.Dialer.faults l.gear.dialer);
  quiet : g.D.Dialer.quiet l.fn.gear.dialer → g.D.Dialer.quiet l.gear.dialer × (link_faults l.self.past ≡ link_faults l.fn.self.past);
  prompts : TellsPrompts l.request l.fn.self l.self (g.P.Prompter.answers l.fn.prompter) (g.P.Prompter.told l.fn.prompter) (g.P.Prompter.told l.prompter);
  answers : g.P.Prompter.answers l.prompter ≡ g.P.Prompter.answers l.fn.prompter;
  prompt_faults : TellsAskFaults g.P.Prompter.sticks l.fn.self l.self (g.P.Prompter.faults l.fn.prompter) (g.P.Prompter.faults l.prompter);
  prompt_quiet : g.P.Prompter.quiet l.fn.prompter → g.P.Prompter.quiet l.prompter × (ask_faults l.self.past ≡ ask_faults l.fn.self.past);
  dials : TellsDials l.request l.fn.self l.self (g.D.Dialer.dials l.fn.gear.dialer) (g.D.Dialer.dials l.gear.dialer);
}

abbrev pub decreases-loop-need : goal.decreases-loop-need
decreases-loop-need g l = turns_left l.self
