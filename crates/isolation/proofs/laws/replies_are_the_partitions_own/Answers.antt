use Rattle.isolation.proofs.laws.replies_are_the_partitions_own.Goals as goal
use Rattle.isolation.proofs.Law.{allowed_alike, answered_alike}

pub returns : goal.returns
returns c =
    record {
      allowed = λ roster names partition history caller r call are legal here. allowed_alike roster names partition are history legal caller r call here;
      reply = λ roster names partition history caller r call are legal here may. answered_alike roster names partition are history legal caller r call here may;
    }
