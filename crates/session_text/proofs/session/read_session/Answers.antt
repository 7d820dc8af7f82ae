use Rattle.std.proofs.Common.{◌+◌, ◌∙◌, sym, inl, inr, arith, length-drop, ap, drop, take}
use Rattle.session_text.specs.Cuts.{lines}
use Rattle.session_text.specs.Readings.{after_text}
use Rattle.session_text.proofs.SessionLemmas.{lines_step, stops, goes_on, ends, ends_well, ends_badly, some_left, none_left}
use Rattle.session_text.proofs.session.read_session.Goals as goal

pub returns-in-Err-clause-session : goal.returns-in-Err-clause-session
returns-in-Err-clause-session c =
    let some = some_left c.lines.rest.now c.is_empty.result c.is_empty.ensures c.lines-test.true in
    let cut = lines_step c.first_len-n.result c.lines.rest.now c.first_len-n.ensures.value c.first_len-n.ensures.within some in
    elim c.in-Err.ensures.value [
      | inl err ↦ inl (stops c.lines.number c.lines.reading (take c.first_len-n.result c.lines.rest.now) c.lines.rest.now c.args.text.now
          (lines (drop (c.first_len-n.result + 1) c.lines.rest.now)) c.in-Err.fault cut
          (ap (after_text c.lines.number c.lines.reading) (sym c.front_of.ensures) ∙ err) c.lines.invariant.0)
      | inr free ↦ inr free
    ]

pub lines-preserved : goal.lines-preserved
lines-preserved c =
    let some = some_left c.lines.rest.now c.is_empty.result c.is_empty.ensures c.lines-test.true in
    let cut = lines_step c.first_len-n.result c.lines.rest.now c.first_len-n.ensures.value c.first_len-n.ensures.within some in
    let next = goes_on c.lines.number c.lines.reading c.in-Ok.next (take c.first_len-n.result c.lines.rest.now) c.lines.rest.now c.args.text.now
    (lines (drop (c.first_len-n.result + 1) c.lines.rest.now)) cut
    (ap (after_text c.lines.number c.lines.reading) (sym c.front_of.ensures) ∙ c.in-Ok.ensures.value) c.lines.invariant.0 in
    rw c.behind-rest.ensures (next, omega (arith, length-drop (c.first_len-n.result + 1) c.lines.rest.now, some), c.in-Ok.ensures.playable c.lines.invariant.2)

pub returns-then-reading : goal.returns-then-reading
returns-then-reading c =
    let none = none_left c.lines.rest.now c.is_empty.result c.is_empty.ensures c.lines-test.false in
    rw c.finished.ensures (record {
      session = ends_well c.lines.reading c.args.text.now c.lines.number (ends c.lines.number c.lines.reading c.lines.rest.now c.args.text.now none c.lines.invariant.0) c.if-reading.true;
      placed = c.lines.invariant.2.0;
      answered = c.lines.invariant.2.1;
    })

pub returns-clause-session : goal.returns-clause-session
returns-clause-session c =
    let none = none_left c.lines.rest.now c.is_empty.result c.is_empty.ensures c.lines-test.false in
    inl (ends_badly c.lines.reading c.args.text.now c.lines.number (ends c.lines.number c.lines.reading c.lines.rest.now c.args.text.now none c.lines.invariant.0) c.if-reading.false)
