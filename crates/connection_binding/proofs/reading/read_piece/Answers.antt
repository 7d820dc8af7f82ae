use Rattle.std.proofs.Common.{ℕ, List, sym, subst}
use Rattle.connection_binding.specs.declared.ends.ReadEnd.TheVariants.{Failed, NoMemory}
use Rattle.connection_binding.specs.declared.reading.Piece.{Piece}
use Rattle.connection_binding.specs.Readings.{IsOver, IsPieceOf, IsPieceFault, IsNoPieceFault}
use Rattle.connection_binding.proofs.PieceLemmas.{state_of, fed_piece, end_piece, failed_piece, spent_piece, no_piece_fault, no_piece_read}
use Rattle.connection_binding.proofs.reading.read_piece.Goals as goal

pub returns-in-Bytes-clause-piece : goal.returns-in-Bytes-clause-piece
returns-in-Bytes-clause-piece g c kept has_replied method told least gone u =
    subst (λ (p : Piece). IsPieceOf (state_of c.args.link kept has_replied) method (g.D.Dialer.streams c.args.dialer.now) told (g.D.Dialer.traffic c.fill.new.dialer) least gone c.fed.new.reader p c.fed.new.window)
    (sym c.piece_of.ensures)
    (fed_piece (state_of c.args.link kept has_replied) method (g.D.Dialer.streams c.args.dialer.now) told (g.D.Dialer.traffic c.args.dialer.now) (g.D.Dialer.traffic c.fill.new.dialer) least c.in-Bytes.field-0
    gone c.fill.new.self c.fed.new.window c.args.reader.now c.fed.new.reader c.fed.result u c.in-Bytes.ensures.traffic c.in-Bytes.ensures.stream c.in-Bytes.ensures.count.0 c.in-Bytes.ensures.count.1
    c.fed.ensures.answer c.fed.ensures.fed)

pub returns-in-Bytes-clause-fault : goal.returns-in-Bytes-clause-fault
returns-in-Bytes-clause-fault g c =
    subst (λ (p : Piece). IsPieceFault g.D.Dialer.sticks (g.D.Dialer.faults c.args.dialer.now) (g.D.Dialer.faults c.fill.new.dialer) p) (sym c.piece_of.ensures)
    (no_piece_fault g.D.Dialer.sticks (g.D.Dialer.faults c.args.dialer.now) (g.D.Dialer.faults c.fill.new.dialer) c.fed.result c.fed.ensures.quiet)

pub returns-in-Bytes-clause-quiet : goal.returns-in-Bytes-clause-quiet
returns-in-Bytes-clause-quiet g c quiet =
    ((c.in-Bytes.ensures.quiet quiet).0, subst (λ (p : Piece). IsNoPieceFault p) (sym c.piece_of.ensures) (no_piece_read c.fed.result c.fed.ensures.quiet))

pub returns-in-End-clause-piece : goal.returns-in-End-clause-piece
returns-in-End-clause-piece g c kept has_replied method told least gone u = (
  end_piece (state_of c.args.link kept has_replied) method (g.D.Dialer.streams c.args.dialer.now) told (g.D.Dialer.traffic c.args.dialer.now) (g.D.Dialer.traffic c.fill.new.dialer) least gone
      c.fill.new.self c.args.reader.now u c.in-End.ensures.traffic c.in-End.ensures.stream,
  c.in-End.ensures.count,
)

pub returns-in-Failed-clause-piece : goal.returns-in-Failed-clause-piece
returns-in-Failed-clause-piece g c kept has_replied method told least gone u =
    subst (λ (left : List ℕ). IsOver (state_of c.args.link kept has_replied) method (g.D.Dialer.streams c.args.dialer.now) told (g.D.Dialer.traffic c.fill.new.dialer) (Failed c.faults.result) left)
    (sym c.in-Failed.ensures.count)
    (failed_piece (state_of c.args.link kept has_replied) method (g.D.Dialer.streams c.args.dialer.now) told (g.D.Dialer.traffic c.args.dialer.now) (g.D.Dialer.traffic c.fill.new.dialer) least gone
    c.args.reader.now c.faults.result u c.in-Failed.ensures.traffic)

pub returns-in-NoMemory-clause-piece : goal.returns-in-NoMemory-clause-piece
returns-in-NoMemory-clause-piece g c kept has_replied method told least gone u =
    subst (λ (left : List ℕ). IsOver (state_of c.args.link kept has_replied) method (g.D.Dialer.streams c.args.dialer.now) told (g.D.Dialer.traffic c.fill.new.dialer) NoMemory left)
    (sym c.in-NoMemory.ensures.count)
    (spent_piece (state_of c.args.link kept has_replied) method (g.D.Dialer.streams c.args.dialer.now) told (g.D.Dialer.traffic c.args.dialer.now) (g.D.Dialer.traffic c.fill.new.dialer) least gone
    c.args.reader.now u c.in-NoMemory.ensures.traffic)
