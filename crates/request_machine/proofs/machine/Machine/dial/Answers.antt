use Rattle.request_machine.proofs.Working.{pushed_less, less_left}
use Rattle.std.proofs.Common.{◌+◌, [], ◌∷◌, sym, ap, ◌∙◌, unwrap_or, refl}
use Rattle.spaces.specs.declared.place.Origin.{Origin}
use Rattle.link_trait.specs.Told.{grown}
use Rattle.auth_runs.specs.declared.event.Event.TheVariants.{Dialed, DialFailed}
use Rattle.trace_rule.specs.Telling.{dials}
use Rattle.request_machine.specs.Kept.{Kept}
use Rattle.request_machine.specs.Failed.{link_faults}
use Rattle.request_machine.proofs.Answering.{unprompted_dialed, unprompted_event, unprompted_line}
use Rattle.request_machine.proofs.Carrying.{tells_dialed, tells_dial_failed, tells_same}
use Rattle.request_machine.proofs.Failing.{tells_link_same}
use Rattle.request_machine.proofs.Dialing.{one_dial}
use Rattle.request_machine.proofs.Nearing.{go_nearer, gone_nearer}
use Rattle.request_machine.proofs.Driving.{driven_given, driven_undialed}
use Rattle.request_machine.proofs.machine.Machine.dial.Goals as goal

pub returns-in-Link-clause-dials : goal.returns-in-Link-clause-dials
returns-in-Link-clause-dials g c = λ s before same t told.
    c.in-Link.ensures.dials
    ∙ ap (λ (to : Origin). grown (g.D.Dialer.dials c.args.dialer.now) (record { link = record { request = c.self.inside.number; nth = c.self.inside.links + 1 }; to = to } ∷ [])) c.next_hop.ensures
    ∙ ap (λ (v : Kept). grown (g.D.Dialer.dials c.args.dialer.now) (record { link = record { request = v.number; nth = v.links + 1 }; to = unwrap_or c.args.request.now.proxy c.args.request.now.place.origin } ∷ [])) c.self.view_is
    ∙ one_dial s c.args.self.now c.args.request.now before (g.D.Dialer.dials c.args.dialer.now) (c.args.self.now.links + 1) same t told
    ∙ ap (λ past. grown before (dials s past)) (sym (c.dialed.ensures.past ∙ ap (λ (v : Kept). Dialed (v.links + 1) ∷ v.past) c.put_link.ensures))

pub returns-in-Link-clause-driven : goal.returns-in-Link-clause-driven
returns-in-Link-clause-driven g c =
    driven_given c.args.self.now _ _ (record { request = c.self.inside.number; nth = c.self.inside.links + 1 }) _ _ _ _ _ _
    c.requires.stage c.requires.undialed (ap (λ (v : Kept). record { request = v.number; nth = v.links + 1 }) c.self.view_is) (c.new.ensures ∙ c.in-Link.ensures.link)
    c.put_link.ensures c.dialed.ensures.stage c.dialed.ensures.line c.in-Link.ensures.opened c.in-Link.ensures.dials
    c.requires.linked c.requires.links c.requires.told

pub returns-in-Failed-clause-driven : goal.returns-in-Failed-clause-driven
returns-in-Failed-clause-driven g c =
    driven_undialed c.args.self.now _ _ _ _ _ c.dial_failed.ensures.kept c.dial_failed.ensures.goes c.in-Failed.ensures.opened c.in-Failed.ensures.dials
    c.requires.linked c.requires.links c.requires.told

pub returns-in-NoMemory-clause-driven : goal.returns-in-NoMemory-clause-driven
returns-in-NoMemory-clause-driven g c =
    driven_undialed c.args.self.now _ _ _ _ _ c.spend.ensures.kept c.spend.ensures.goes c.in-NoMemory.ensures.opened c.in-NoMemory.ensures.dials
    c.requires.linked c.requires.links c.requires.told

pub returns-in-Link-clause-less : goal.returns-in-Link-clause-less
returns-in-Link-clause-less g c =
    less_left c.args.self.now c.dialed.new.self
    (pushed_less c.args.self.now c.dialed.new.self (Dialed (c.args.self.now.links + 1)) (c.dialed.ensures.past ∙ ap (λ (v : Kept). Dialed (v.links + 1) ∷ v.past) c.put_link.ensures) c.requires.room)

pub returns-in-Failed-clause-less : goal.returns-in-Failed-clause-less
returns-in-Failed-clause-less g c = less_left c.args.self.now c.dial_failed.new.self (pushed_less c.args.self.now c.dial_failed.new.self _ c.dial_failed.ensures.past c.requires.room)

pub returns-in-Link-clause-unprompted : goal.returns-in-Link-clause-unprompted
returns-in-Link-clause-unprompted g c =
    unprompted_dialed c.args.self.now c.put_link.new.self c.dialed.new.self c.new.result c.put_link.ensures c.dialed.ensures.past c.dialed.ensures.line

pub returns-in-Link-clause-traffic : goal.returns-in-Link-clause-traffic
returns-in-Link-clause-traffic g c =
    tells_dialed c.args.request.now c.args.self.now c.put_link.new.self c.dialed.new.self c.new.result _ _ _
    c.requires.stage c.put_link.ensures c.dialed.ensures.past c.dialed.ensures.line c.in-Link.ensures.traffic

pub returns-in-Link-clause-faults : goal.returns-in-Link-clause-faults
returns-in-Link-clause-faults g c =
    tells_link_same g.D.Dialer.sticks c.args.self.now c.dialed.new.self _ _
    (ap link_faults (c.dialed.ensures.past ∙ ap (λ (v : Kept). Dialed (v.links + 1) ∷ v.past) c.put_link.ensures)) c.in-Link.ensures.later

pub returns-in-Failed-clause-unprompted : goal.returns-in-Failed-clause-unprompted
returns-in-Failed-clause-unprompted g c =
    unprompted_event c.args.self.now c.dial_failed.new.self (DialFailed (c.args.self.now.links + 1) c.in-Failed.count) c.dial_failed.ensures.past refl c.dial_failed.ensures.kept

pub returns-in-Failed-clause-traffic : goal.returns-in-Failed-clause-traffic
returns-in-Failed-clause-traffic g c =
    tells_dial_failed c.args.request.now c.args.self.now c.dial_failed.new.self c.in-Failed.count _ _ _
    c.requires.stage c.dial_failed.ensures.past c.dial_failed.ensures.kept c.in-Failed.ensures.traffic

pub returns-in-NoMemory-clause-unprompted : goal.returns-in-NoMemory-clause-unprompted
returns-in-NoMemory-clause-unprompted g c = unprompted_line c.args.self.now c.spend.new.self c.spend.ensures.past c.spend.ensures.kept

pub returns-in-NoMemory-clause-traffic : goal.returns-in-NoMemory-clause-traffic
returns-in-NoMemory-clause-traffic g c =
    tells_same c.args.request.now c.args.self.now c.spend.new.self _ _ _ c.spend.ensures.past c.spend.ensures.kept c.spend.ensures.goes c.in-NoMemory.ensures.traffic

pub returns-in-NoMemory-clause-faults : goal.returns-in-NoMemory-clause-faults
returns-in-NoMemory-clause-faults g c =
    tells_link_same g.D.Dialer.sticks c.args.self.now c.spend.new.self _ _ (ap link_faults c.spend.ensures.past) c.in-NoMemory.ensures.later

pub returns-in-Link-clause-nearer : goal.returns-in-Link-clause-nearer
returns-in-Link-clause-nearer g c =
    gone_nearer c.args.self.now c.dialed.new.self (Dialed (c.args.self.now.links + 1))
    (c.dialed.ensures.past ∙ ap (λ (v : Kept). Dialed (v.links + 1) ∷ v.past) c.put_link.ensures) c.requires.room c.requires.stage

pub returns-in-Failed-clause-nearer : goal.returns-in-Failed-clause-nearer
returns-in-Failed-clause-nearer g c =
    gone_nearer c.args.self.now c.dial_failed.new.self (DialFailed (c.args.self.now.links + 1) c.in-Failed.count) c.dial_failed.ensures.past c.requires.room c.requires.stage

pub returns-in-NoMemory-clause-nearer : goal.returns-in-NoMemory-clause-nearer
returns-in-NoMemory-clause-nearer g c = go_nearer c.args.self.now c.spend.new.self c.requires.stage c.spend.ensures.asks
