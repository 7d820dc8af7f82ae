use Rattle.request_machine.proofs.Working.{closed_left, closed_pushed}
use Rattle.std.proofs.Common.{refl, sym, subst, ap, ◌∙◌}
use Rattle.request_machine.specs.Kept.{Kept}
use Rattle.request_machine.specs.Carried.{ReadsInto}
use Rattle.request_machine.proofs.Answering.{unprompted_reading}
use Rattle.request_machine.proofs.Carrying.{tells_reading}
use Rattle.request_machine.proofs.Failing.{tells_link_read, read_no_fault}
use Rattle.request_machine.proofs.Nearing.{closed_nearer, read_nearer}
use Rattle.request_machine.proofs.Driving.{driven_reading, reading_undialed}
use Rattle.request_machine.proofs.machine.Machine.read.Goals as goal

pub returns-in-Whole-clause-driven : goal.returns-in-Whole-clause-driven
returns-in-Whole-clause-driven g c =
    driven_reading c.args.self.now _ _ _ c.args.link _ _ _ _ _ _ c.requires.stage refl c.read_link.ensures.same c.replied.ensures.kept c.replied.ensures.away
    refl c.read_link.ensures.opened refl c.read_link.ensures.dials c.requires.linked c.requires.links c.requires.told

pub returns-in-Broken-clause-driven : goal.returns-in-Broken-clause-driven
returns-in-Broken-clause-driven g c =
    driven_reading c.args.self.now _ _ _ c.args.link _ _ _ _ _ _ c.requires.stage refl c.read_link.ensures.same c.broken.ensures.kept c.broken.ensures.away
    refl c.read_link.ensures.opened refl c.read_link.ensures.dials c.requires.linked c.requires.links c.requires.told

pub returns-in-Failed-clause-driven : goal.returns-in-Failed-clause-driven
returns-in-Failed-clause-driven g c =
    driven_reading c.args.self.now _ _ _ c.args.link _ _ _ _ _ _ c.requires.stage refl c.read_link.ensures.same c.read_failed.ensures.kept c.read_failed.ensures.away
    refl c.read_link.ensures.opened refl c.read_link.ensures.dials c.requires.linked c.requires.links c.requires.told

pub returns-in-NoMemory-clause-driven : goal.returns-in-NoMemory-clause-driven
returns-in-NoMemory-clause-driven g c =
    driven_reading c.args.self.now _ _ _ c.args.link _ _ _ _ _ _ c.requires.stage refl c.read_link.ensures.same c.spend.ensures.kept c.spend.ensures.away
    refl c.read_link.ensures.opened refl c.read_link.ensures.dials c.requires.linked c.requires.links c.requires.told

pub returns-in-Whole-clause-less : goal.returns-in-Whole-clause-less
returns-in-Whole-clause-less g c = closed_left c.args.self.now c.args.self.now c.read_link.new.self c.replied.new.self refl c.read_link.ensures.same c.replied.ensures.less

pub returns-in-Broken-clause-less : goal.returns-in-Broken-clause-less
returns-in-Broken-clause-less g c = closed_pushed c.args.self.now c.args.self.now c.read_link.new.self c.broken.new.self _ refl c.read_link.ensures.same c.broken.ensures.past c.requires.room

pub returns-in-Failed-clause-less : goal.returns-in-Failed-clause-less
returns-in-Failed-clause-less g c = closed_pushed c.args.self.now c.args.self.now c.read_link.new.self c.read_failed.new.self _ refl c.read_link.ensures.same c.read_failed.ensures.past c.requires.room

pub returns-in-NoMemory-clause-less : goal.returns-in-NoMemory-clause-less
returns-in-NoMemory-clause-less g c = closed_left c.args.self.now c.args.self.now c.read_link.new.self c.spend.new.self refl c.read_link.ensures.same c.spend.ensures.less

pub returns-in-Whole-clause-unprompted : goal.returns-in-Whole-clause-unprompted
returns-in-Whole-clause-unprompted g c =
    unprompted_reading c.args.self.now c.args.self.now c.read_link.new.self c.replied.new.self c.args.link c.read_link.result
    refl c.read_link.ensures.same c.replied.ensures.kept
    (subst (λ e. ReadsInto c.args.link e c.read_link.new.self.past c.replied.new.self.past) (sym c.in-Whole.is) c.replied.ensures.past)

pub returns-in-Whole-clause-traffic : goal.returns-in-Whole-clause-traffic
returns-in-Whole-clause-traffic g c =
    tells_reading c.args.request.now c.args.self.now c.args.self.now c.read_link.new.self c.replied.new.self c.args.link _ _ (g.D.Dialer.traffic c.read_link.new.dialer) _ _ c.read_link.result
    c.requires.stage refl c.read_link.ensures.same c.replied.ensures.kept c.read_link.ensures.reply (g.met.D.Dialer.known_with c.args.dialer.now) refl
    (subst (λ e. ReadsInto c.args.link e c.read_link.new.self.past c.replied.new.self.past) (sym c.in-Whole.is) c.replied.ensures.past) c.requires.linked c.requires.links

pub returns-in-Whole-clause-faults : goal.returns-in-Whole-clause-faults
returns-in-Whole-clause-faults g c =
    tells_link_read g.D.Dialer.sticks c.args.self.now c.args.self.now c.read_link.new.self c.replied.new.self _ _ _ c.args.link c.read_link.result
    refl c.read_link.ensures.same
    (subst (λ e. ReadsInto c.args.link e c.read_link.new.self.past c.replied.new.self.past) (sym c.in-Whole.is) c.replied.ensures.past)
    c.read_link.ensures.later c.read_link.ensures.fault refl

pub returns-in-Whole-clause-quiet : goal.returns-in-Whole-clause-quiet
returns-in-Whole-clause-quiet g c = λ quiet.
    let still = c.read_link.ensures.quiet quiet in (
      still.0,
      read_no_fault c.args.self.now c.args.self.now c.read_link.new.self c.replied.new.self c.args.link c.read_link.result
          refl c.read_link.ensures.same
          (subst (λ e. ReadsInto c.args.link e c.read_link.new.self.past c.replied.new.self.past) (sym c.in-Whole.is) c.replied.ensures.past) still.1,
    )

pub returns-in-Broken-clause-unprompted : goal.returns-in-Broken-clause-unprompted
returns-in-Broken-clause-unprompted g c =
    unprompted_reading c.args.self.now c.args.self.now c.read_link.new.self c.broken.new.self c.args.link c.read_link.result
    refl c.read_link.ensures.same c.broken.ensures.kept
    (subst (λ e. ReadsInto c.args.link e c.read_link.new.self.past c.broken.new.self.past) (sym c.in-Broken.is) c.broken.ensures.past)

pub returns-in-Broken-clause-traffic : goal.returns-in-Broken-clause-traffic
returns-in-Broken-clause-traffic g c =
    tells_reading c.args.request.now c.args.self.now c.args.self.now c.read_link.new.self c.broken.new.self c.args.link _ _ (g.D.Dialer.traffic c.read_link.new.dialer) _ _ c.read_link.result
    c.requires.stage refl c.read_link.ensures.same c.broken.ensures.kept c.read_link.ensures.reply (g.met.D.Dialer.known_with c.args.dialer.now) refl
    (subst (λ e. ReadsInto c.args.link e c.read_link.new.self.past c.broken.new.self.past) (sym c.in-Broken.is) c.broken.ensures.past) c.requires.linked c.requires.links

pub returns-in-Broken-clause-faults : goal.returns-in-Broken-clause-faults
returns-in-Broken-clause-faults g c =
    tells_link_read g.D.Dialer.sticks c.args.self.now c.args.self.now c.read_link.new.self c.broken.new.self _ _ _ c.args.link c.read_link.result
    refl c.read_link.ensures.same
    (subst (λ e. ReadsInto c.args.link e c.read_link.new.self.past c.broken.new.self.past) (sym c.in-Broken.is) c.broken.ensures.past)
    c.read_link.ensures.later c.read_link.ensures.fault refl

pub returns-in-Broken-clause-quiet : goal.returns-in-Broken-clause-quiet
returns-in-Broken-clause-quiet g c = λ quiet.
    let still = c.read_link.ensures.quiet quiet in (
      still.0,
      read_no_fault c.args.self.now c.args.self.now c.read_link.new.self c.broken.new.self c.args.link c.read_link.result
          refl c.read_link.ensures.same
          (subst (λ e. ReadsInto c.args.link e c.read_link.new.self.past c.broken.new.self.past) (sym c.in-Broken.is) c.broken.ensures.past) still.1,
    )

pub returns-in-Failed-clause-unprompted : goal.returns-in-Failed-clause-unprompted
returns-in-Failed-clause-unprompted g c =
    unprompted_reading c.args.self.now c.args.self.now c.read_link.new.self c.read_failed.new.self c.args.link c.read_link.result
    refl c.read_link.ensures.same c.read_failed.ensures.kept
    (subst (λ e. ReadsInto c.args.link e c.read_link.new.self.past c.read_failed.new.self.past) (sym c.in-Failed.is) c.read_failed.ensures.past)

pub returns-in-Failed-clause-traffic : goal.returns-in-Failed-clause-traffic
returns-in-Failed-clause-traffic g c =
    tells_reading c.args.request.now c.args.self.now c.args.self.now c.read_link.new.self c.read_failed.new.self c.args.link _ _ (g.D.Dialer.traffic c.read_link.new.dialer) _ _ c.read_link.result
    c.requires.stage refl c.read_link.ensures.same c.read_failed.ensures.kept c.read_link.ensures.reply (g.met.D.Dialer.known_with c.args.dialer.now) refl
    (subst (λ e. ReadsInto c.args.link e c.read_link.new.self.past c.read_failed.new.self.past) (sym c.in-Failed.is) c.read_failed.ensures.past) c.requires.linked c.requires.links

pub returns-in-Failed-clause-faults : goal.returns-in-Failed-clause-faults
returns-in-Failed-clause-faults g c =
    tells_link_read g.D.Dialer.sticks c.args.self.now c.args.self.now c.read_link.new.self c.read_failed.new.self _ _ _ c.args.link c.read_link.result
    refl c.read_link.ensures.same
    (subst (λ e. ReadsInto c.args.link e c.read_link.new.self.past c.read_failed.new.self.past) (sym c.in-Failed.is) c.read_failed.ensures.past)
    c.read_link.ensures.later c.read_link.ensures.fault refl

pub returns-in-Failed-clause-quiet : goal.returns-in-Failed-clause-quiet
returns-in-Failed-clause-quiet g c = λ quiet.
    let still = c.read_link.ensures.quiet quiet in (
      still.0,
      read_no_fault c.args.self.now c.args.self.now c.read_link.new.self c.read_failed.new.self c.args.link c.read_link.result
          refl c.read_link.ensures.same
          (subst (λ e. ReadsInto c.args.link e c.read_link.new.self.past c.read_failed.new.self.past) (sym c.in-Failed.is) c.read_failed.ensures.past) still.1,
    )

pub returns-in-NoMemory-clause-unprompted : goal.returns-in-NoMemory-clause-unprompted
returns-in-NoMemory-clause-unprompted g c =
    unprompted_reading c.args.self.now c.args.self.now c.read_link.new.self c.spend.new.self c.args.link c.read_link.result
    refl c.read_link.ensures.same c.spend.ensures.kept
    (subst (λ e. ReadsInto c.args.link e c.read_link.new.self.past c.spend.new.self.past) (sym c.in-NoMemory.is) c.spend.ensures.past)

pub returns-in-NoMemory-clause-traffic : goal.returns-in-NoMemory-clause-traffic
returns-in-NoMemory-clause-traffic g c =
    tells_reading c.args.request.now c.args.self.now c.args.self.now c.read_link.new.self c.spend.new.self c.args.link _ _ (g.D.Dialer.traffic c.read_link.new.dialer) _ _ c.read_link.result
    c.requires.stage refl c.read_link.ensures.same c.spend.ensures.kept c.read_link.ensures.reply (g.met.D.Dialer.known_with c.args.dialer.now) refl
    (subst (λ e. ReadsInto c.args.link e c.read_link.new.self.past c.spend.new.self.past) (sym c.in-NoMemory.is) c.spend.ensures.past) c.requires.linked c.requires.links

pub returns-in-NoMemory-clause-faults : goal.returns-in-NoMemory-clause-faults
returns-in-NoMemory-clause-faults g c =
    tells_link_read g.D.Dialer.sticks c.args.self.now c.args.self.now c.read_link.new.self c.spend.new.self _ _ _ c.args.link c.read_link.result
    refl c.read_link.ensures.same
    (subst (λ e. ReadsInto c.args.link e c.read_link.new.self.past c.spend.new.self.past) (sym c.in-NoMemory.is) c.spend.ensures.past)
    c.read_link.ensures.later c.read_link.ensures.fault refl

pub returns-in-NoMemory-clause-quiet : goal.returns-in-NoMemory-clause-quiet
returns-in-NoMemory-clause-quiet g c = λ quiet.
    let still = c.read_link.ensures.quiet quiet in (
      still.0,
      read_no_fault c.args.self.now c.args.self.now c.read_link.new.self c.spend.new.self c.args.link c.read_link.result
          refl c.read_link.ensures.same
          (subst (λ e. ReadsInto c.args.link e c.read_link.new.self.past c.spend.new.self.past) (sym c.in-NoMemory.is) c.spend.ensures.past) still.1,
    )

pub returns-in-Whole-clause-nearer : goal.returns-in-Whole-clause-nearer
returns-in-Whole-clause-nearer g c = closed_nearer c.args.self.now c.read_link.new.self c.replied.new.self c.args.link c.requires.stage c.read_link.ensures.same c.replied.ensures.nearer

pub returns-in-Broken-clause-nearer : goal.returns-in-Broken-clause-nearer
returns-in-Broken-clause-nearer g c = read_nearer c.args.self.now c.broken.new.self c.args.link c.requires.stage c.broken.ensures.asks

pub returns-in-Failed-clause-nearer : goal.returns-in-Failed-clause-nearer
returns-in-Failed-clause-nearer g c = read_nearer c.args.self.now c.read_failed.new.self c.args.link c.requires.stage c.read_failed.ensures.asks

pub returns-in-NoMemory-clause-nearer : goal.returns-in-NoMemory-clause-nearer
returns-in-NoMemory-clause-nearer g c = read_nearer c.args.self.now c.spend.new.self c.args.link c.requires.stage c.spend.ensures.asks

pub replied-requires-clause-undialed : goal.replied-requires-clause-undialed
replied-requires-clause-undialed g c =
    ap (λ (v : Kept). v.is_dialed) c.read_link.ensures.same ∙ reading_undialed c.args.self.now c.args.link c.requires.stage c.requires.linked
