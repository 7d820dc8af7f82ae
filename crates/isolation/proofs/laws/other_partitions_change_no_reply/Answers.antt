use Rattle.isolation.proofs.laws.other_partitions_change_no_reply.Goals as goal
use Rattle.auth_events.specs.Tables.{no_names}
use Rattle.isolation.proofs.Law.{others_add_nothing, allowed_with_either, answered_with_either}

pub returns : goal.returns
returns c =
    record {
      entries = λ roster partition earlier later entry elsewhere. others_add_nothing roster no_names partition earlier later entry elsewhere;
      allowed = λ roster names partition one other caller r call like are legal_one legal_other same here same_call. allowed_with_either roster names partition are one other legal_one legal_other same caller r call like here same_call;
      reply = λ roster names partition one other caller r call like are legal_one legal_other same here same_call may. answered_with_either roster names partition are one other legal_one legal_other same caller r call like here same_call may;
    }
