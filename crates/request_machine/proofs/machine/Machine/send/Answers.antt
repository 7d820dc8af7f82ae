use Rattle.request_machine.proofs.Working.{pushed_less, less_left, twice_less, left_then}
use Rattle.auth_runs.specs.declared.event.Event.TheVariants.{Headed, WriteFailed}
use Rattle.std.proofs.Common.{false, refl, ap, ◌∙◌, ◌∷◌, arith, subst, IfSome}
use Rattle.request_machine.specs.declared.stage.Stage.TheVariants.{Read}
use Rattle.request_machine.specs.Kept.{Kept}
use Rattle.request_machine.specs.Linked.{line}
use Rattle.link_trait.specs.Links.{Sends}
use Rattle.connection_binding.specs.Ends.{wrote_by, IsSendFault}
use Rattle.connection_binding.specs.declared.ends.SendEnd.TheVariants.{All, Failed, NoMemory}
use Rattle.request_machine.specs.Failed.{link_faults}
use Rattle.request_machine.proofs.Answering.{unprompted_event, unprompted_headed, unprompted_line, unprompted_then}
use Rattle.request_machine.proofs.Carrying.{tells_same}
use Rattle.request_machine.proofs.Nearing.{go_nearer, gone_nearer}
use Rattle.request_machine.proofs.Failing.{tells_link_fault, tells_link_same, tells_link_still}
use Rattle.request_machine.proofs.Writing.{tells_all, tells_part, tells_spent}
use Rattle.request_machine.proofs.Driving.{driven_same, driven_headed, driven_behind}
use Rattle.request_machine.proofs.machine.Machine.send.Goals as goal

pub returns-in-Err-clause-driven : goal.returns-in-Err-clause-driven
returns-in-Err-clause-driven g c = driven_same c.args.self.now _ _ _ c.spend.ensures.kept c.spend.ensures.goes c.requires.linked c.requires.links c.requires.told

pub returns-in-All-clause-driven : goal.returns-in-All-clause-driven
returns-in-All-clause-driven g c =
    driven_headed c.args.self.now _ c.args.self.now.links _ _ _ _ c.requires.stage (c.headed.ensures.stage ∙ ap (λ (v : Kept). Read v.links) c.send_bytes-end.ensures.same) c.requires.dialed refl
    (c.headed.ensures.line ∙ ap (λ (v : Kept). record (line v) { is_dialed = false }) c.send_bytes-end.ensures.same)
    c.send_bytes-end.ensures.opened c.send_bytes-end.ensures.dials c.requires.linked c.requires.links c.requires.told

pub returns-in-Failed-clause-driven : goal.returns-in-Failed-clause-driven
returns-in-Failed-clause-driven g c =
    driven_behind c.args.self.now c.headed.new.self c.write_failed.new.self c.args.self.now.links _ _ _ _ c.requires.stage (c.headed.ensures.stage ∙ ap (λ (v : Kept). Read v.links) c.send_bytes-end.ensures.same) c.requires.dialed refl
    (c.headed.ensures.line ∙ ap (λ (v : Kept). record (line v) { is_dialed = false }) c.send_bytes-end.ensures.same)
    c.write_failed.ensures.kept c.write_failed.ensures.goes
    c.send_bytes-end.ensures.opened c.send_bytes-end.ensures.dials c.requires.linked c.requires.links c.requires.told

pub returns-in-NoMemory-clause-driven : goal.returns-in-NoMemory-clause-driven
returns-in-NoMemory-clause-driven g c =
    driven_behind c.args.self.now c.headed.new.self c.spend-in-NoMemory.new.self c.args.self.now.links _ _ _ _ c.requires.stage (c.headed.ensures.stage ∙ ap (λ (v : Kept). Read v.links) c.send_bytes-end.ensures.same) c.requires.dialed refl
    (c.headed.ensures.line ∙ ap (λ (v : Kept). record (line v) { is_dialed = false }) c.send_bytes-end.ensures.same)
    c.spend-in-NoMemory.ensures.kept c.spend-in-NoMemory.ensures.goes
    c.send_bytes-end.ensures.opened c.send_bytes-end.ensures.dials c.requires.linked c.requires.links c.requires.told

pub returns-in-All-clause-less : goal.returns-in-All-clause-less
returns-in-All-clause-less g c =
    less_left c.args.self.now c.headed.new.self
    (pushed_less c.args.self.now c.headed.new.self _ (c.headed.ensures.past ∙ ap (λ (v : Kept). Headed v.links c.in-Ok.bytes ∷ v.past) c.send_bytes-end.ensures.same) (let room = c.requires.room in omega (arith, room)))

pub returns-in-Failed-clause-less : goal.returns-in-Failed-clause-less
returns-in-Failed-clause-less g c =
    less_left c.args.self.now c.write_failed.new.self
    (twice_less c.args.self.now c.headed.new.self c.write_failed.new.self _ _ (c.headed.ensures.past ∙ ap (λ (v : Kept). Headed v.links c.in-Ok.bytes ∷ v.past) c.send_bytes-end.ensures.same) c.write_failed.ensures.past c.requires.room)

pub returns-in-NoMemory-clause-less : goal.returns-in-NoMemory-clause-less
returns-in-NoMemory-clause-less g c =
    left_then c.args.self.now c.headed.new.self c.spend-in-NoMemory.new.self
    (pushed_less c.args.self.now c.headed.new.self _ (c.headed.ensures.past ∙ ap (λ (v : Kept). Headed v.links c.in-Ok.bytes ∷ v.past) c.send_bytes-end.ensures.same) (let room = c.requires.room in omega (arith, room)))
    c.spend-in-NoMemory.ensures.less

pub returns-in-Err-clause-unprompted : goal.returns-in-Err-clause-unprompted
returns-in-Err-clause-unprompted g c = unprompted_line c.args.self.now c.spend.new.self c.spend.ensures.past c.spend.ensures.kept

pub returns-in-Err-clause-traffic : goal.returns-in-Err-clause-traffic
returns-in-Err-clause-traffic g c =
    tells_same c.args.request.now c.args.self.now c.spend.new.self _ _ _ c.spend.ensures.past c.spend.ensures.kept c.spend.ensures.goes refl

pub returns-in-Err-clause-faults : goal.returns-in-Err-clause-faults
returns-in-Err-clause-faults g c = tells_link_still g.D.Dialer.sticks c.args.self.now c.spend.new.self _ _ (ap link_faults c.spend.ensures.past) refl

pub returns-in-All-clause-unprompted : goal.returns-in-All-clause-unprompted
returns-in-All-clause-unprompted g c = unprompted_headed c.args.self.now c.send_bytes-end.new.self c.headed.new.self c.in-Ok.bytes c.send_bytes-end.ensures.same c.headed.ensures.past c.headed.ensures.line

pub returns-in-All-clause-traffic : goal.returns-in-All-clause-traffic
returns-in-All-clause-traffic g c =
    tells_all c.args.request.now c.args.self.now c.send_bytes-end.new.self c.headed.new.self c.in-Ok.bytes _ (g.D.Dialer.traffic c.args.dialer.now) (g.D.Dialer.traffic c.send_bytes-end.new.dialer) (g.D.Dialer.opened c.args.dialer.now)
    c.requires.stage c.requires.dialed c.send_bytes-end.ensures.same c.headed.ensures.past c.headed.ensures.line c.requires.linked c.requires.links
    (subst (λ bs. IfSome c.args.self.now.link (λ name. Sends (g.D.Dialer.traffic c.args.dialer.now) (g.D.Dialer.traffic c.send_bytes-end.new.dialer) (wrote_by All) name bs)) c.as_slice.ensures
    (subst (λ e. IfSome c.args.self.now.link (λ name. Sends (g.D.Dialer.traffic c.args.dialer.now) (g.D.Dialer.traffic c.send_bytes-end.new.dialer) (wrote_by e) name c.as_slice.result.now)) c.in-All.is c.send_bytes-end.ensures.traffic))

pub returns-in-All-clause-faults : goal.returns-in-All-clause-faults
returns-in-All-clause-faults g c =
    tells_link_same g.D.Dialer.sticks c.args.self.now c.headed.new.self _ _ (ap link_faults (c.headed.ensures.past ∙ ap (λ (v : Kept). Headed v.links c.in-Ok.bytes ∷ v.past) c.send_bytes-end.ensures.same)) c.send_bytes-end.ensures.later

pub returns-in-Failed-clause-unprompted : goal.returns-in-Failed-clause-unprompted
returns-in-Failed-clause-unprompted g c =
    unprompted_then c.args.self.now c.headed.new.self c.write_failed.new.self
    (unprompted_headed c.args.self.now c.send_bytes-end.new.self c.headed.new.self c.in-Ok.bytes c.send_bytes-end.ensures.same c.headed.ensures.past c.headed.ensures.line)
    (unprompted_event c.headed.new.self c.write_failed.new.self (WriteFailed c.self.inside.links c.in-Failed.count) c.write_failed.ensures.past refl c.write_failed.ensures.kept)

pub returns-in-Failed-clause-traffic : goal.returns-in-Failed-clause-traffic
returns-in-Failed-clause-traffic g c =
    tells_part c.args.request.now c.args.self.now c.send_bytes-end.new.self c.headed.new.self c.in-Ok.bytes _ (g.D.Dialer.traffic c.args.dialer.now) (g.D.Dialer.traffic c.send_bytes-end.new.dialer) (g.D.Dialer.opened c.args.dialer.now)
    c.requires.stage c.requires.dialed c.send_bytes-end.ensures.same c.headed.ensures.past c.headed.ensures.line c.requires.linked c.requires.links
    c.write_failed.new.self c.self.inside.links c.in-Failed.count (ap (λ (v : Kept). v.links) (c.self.view_is ∙ c.send_bytes-end.ensures.same)) c.write_failed.ensures.past c.write_failed.ensures.ends c.write_failed.ensures.kept
    (subst (λ bs. IfSome c.args.self.now.link (λ name. Sends (g.D.Dialer.traffic c.args.dialer.now) (g.D.Dialer.traffic c.send_bytes-end.new.dialer) (wrote_by (Failed c.in-Failed.count)) name bs)) c.as_slice.ensures
    (subst (λ e. IfSome c.args.self.now.link (λ name. Sends (g.D.Dialer.traffic c.args.dialer.now) (g.D.Dialer.traffic c.send_bytes-end.new.dialer) (wrote_by e) name c.as_slice.result.now)) c.in-Failed.is c.send_bytes-end.ensures.traffic))

pub returns-in-Failed-clause-faults : goal.returns-in-Failed-clause-faults
returns-in-Failed-clause-faults g c =
    tells_link_fault g.D.Dialer.sticks c.args.self.now c.write_failed.new.self _ _ c.in-Failed.count
    (ap link_faults c.write_failed.ensures.past ∙ ap (λ counts. c.in-Failed.count ∷ counts) (ap link_faults (c.headed.ensures.past ∙ ap (λ (v : Kept). Headed v.links c.in-Ok.bytes ∷ v.past) c.send_bytes-end.ensures.same)))
    (subst (λ e. IsSendFault g.D.Dialer.sticks (g.D.Dialer.faults c.args.dialer.now) (g.D.Dialer.faults c.send_bytes-end.new.dialer) e) c.in-Failed.is c.send_bytes-end.ensures.fault)

pub returns-in-NoMemory-clause-unprompted : goal.returns-in-NoMemory-clause-unprompted
returns-in-NoMemory-clause-unprompted g c =
    unprompted_then c.args.self.now c.headed.new.self c.spend-in-NoMemory.new.self
    (unprompted_headed c.args.self.now c.send_bytes-end.new.self c.headed.new.self c.in-Ok.bytes c.send_bytes-end.ensures.same c.headed.ensures.past c.headed.ensures.line)
    (unprompted_line c.headed.new.self c.spend-in-NoMemory.new.self c.spend-in-NoMemory.ensures.past c.spend-in-NoMemory.ensures.kept)

pub returns-in-NoMemory-clause-traffic : goal.returns-in-NoMemory-clause-traffic
returns-in-NoMemory-clause-traffic g c =
    tells_spent c.args.request.now c.args.self.now c.send_bytes-end.new.self c.headed.new.self c.in-Ok.bytes _ (g.D.Dialer.traffic c.args.dialer.now) (g.D.Dialer.traffic c.send_bytes-end.new.dialer) (g.D.Dialer.opened c.args.dialer.now)
    c.requires.stage c.requires.dialed c.send_bytes-end.ensures.same c.headed.ensures.past c.headed.ensures.line c.requires.linked c.requires.links
    c.spend-in-NoMemory.new.self c.spend-in-NoMemory.ensures.past c.spend-in-NoMemory.ensures.stage c.spend-in-NoMemory.ensures.kept
    (subst (λ bs. IfSome c.args.self.now.link (λ name. Sends (g.D.Dialer.traffic c.args.dialer.now) (g.D.Dialer.traffic c.send_bytes-end.new.dialer) (wrote_by NoMemory) name bs)) c.as_slice.ensures
    (subst (λ e. IfSome c.args.self.now.link (λ name. Sends (g.D.Dialer.traffic c.args.dialer.now) (g.D.Dialer.traffic c.send_bytes-end.new.dialer) (wrote_by e) name c.as_slice.result.now)) c.in-NoMemory.is c.send_bytes-end.ensures.traffic))

pub returns-in-NoMemory-clause-faults : goal.returns-in-NoMemory-clause-faults
returns-in-NoMemory-clause-faults g c =
    tells_link_same g.D.Dialer.sticks c.args.self.now c.spend-in-NoMemory.new.self _ _ (ap link_faults c.spend-in-NoMemory.ensures.past ∙ (ap link_faults (c.headed.ensures.past ∙ ap (λ (v : Kept). Headed v.links c.in-Ok.bytes ∷ v.past) c.send_bytes-end.ensures.same))) c.send_bytes-end.ensures.later

pub returns-in-All-clause-nearer : goal.returns-in-All-clause-nearer
returns-in-All-clause-nearer g c =
    gone_nearer c.args.self.now c.headed.new.self _ (c.headed.ensures.past ∙ ap (λ (v : Kept). Headed v.links c.in-Ok.bytes ∷ v.past) c.send_bytes-end.ensures.same)
    (let room = c.requires.room in omega (arith, room)) c.requires.stage

pub returns-in-Failed-clause-nearer : goal.returns-in-Failed-clause-nearer
returns-in-Failed-clause-nearer g c = go_nearer c.args.self.now c.write_failed.new.self c.requires.stage c.write_failed.ensures.asks

pub returns-in-NoMemory-clause-nearer : goal.returns-in-NoMemory-clause-nearer
returns-in-NoMemory-clause-nearer g c = go_nearer c.args.self.now c.spend-in-NoMemory.new.self c.requires.stage c.spend-in-NoMemory.ensures.asks

pub returns-in-Err-clause-nearer : goal.returns-in-Err-clause-nearer
returns-in-Err-clause-nearer g c = go_nearer c.args.self.now c.spend.new.self c.requires.stage c.spend.ensures.asks
