use Rattle.std.proofs.Common.{◌≡◌, [], take, drop, length, sym, ◌∙◌, true, arith}
use Rattle.std.proofs.lemmas.Grind.{common_steps}
use Rattle.link_trait.specs.Links.{stream_in, heard_on}
use Rattle.link_trait.specs.Recorded.{LogState, are_read_out}
use Rattle.link_trait.proofs.LogLemmas.{still, read_out_ended, read_out_received}
use Rattle.link_trait.proofs.recorded.RecordedDialerDialer.read.Goals as goal

pub invariant_of-self-then-is_empty : goal.invariant_of-self-then-is_empty
invariant_of-self-then-is_empty c =
    let it = c.args.self.now in
    let streams = stream_in it.links in
    let name = c.args.name in
    let empty : c.rest-rest.result.now ≡ [] = grind (arith, common_steps) in
    let none : drop (length (heard_on name it.log.traffic)) (streams name) ≡ [] = sym c.rest-rest.ensures.rest ∙ empty in
    record {
      dialed = c.ended.ensures.kept.dialed;
      ended_last = c.ended.ensures.kept.ended_last;
      read_out = still (λ (log : LogState). are_read_out streams log.traffic ≡ true) c.ended.result it.log c.ended.new.self _
          c.ended.ensures.ok c.ended.ensures.err it.read_out (read_out_ended streams it.log.traffic name none it.read_out);
    }

pub invariant_of-self-2 : goal.invariant_of-self-2
invariant_of-self-2 c =
    let it = c.args.self.now in
    let streams = stream_in it.links in
    let name = c.args.name in
    let bytes = take c.copy_front-count.result c.copy_front-count.new.buf in
    record {
      dialed = c.received.ensures.kept.dialed;
      ended_last = c.received.ensures.kept.ended_last;
      read_out = still (λ (log : LogState). are_read_out streams log.traffic ≡ true) c.received.result it.log c.received.new.self _
          c.received.ensures.ok c.received.ensures.err it.read_out (read_out_received streams it.log.traffic name bytes it.read_out);
    }
