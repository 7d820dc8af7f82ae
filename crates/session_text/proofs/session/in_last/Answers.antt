use Rattle.session_text.proofs.GroupLemmas.{in_last_popped}
use Rattle.session_text.proofs.session.in_last.Goals as goal

pub returns-in_ok-pushed-in-Some : goal.returns-in_ok-pushed-in-Some
returns-in_ok-pushed-in-Some g c =
    in_last_popped c.pushed-in-Some.result c.args.groups c.pop.new.self c.in-Some.last c.in_ok-pushed-in-Some.field-0 c.args.item
    c.in-Some.ensures c.in_ok-pushed-in-Some.ensures c.pushed-in-Some.ensures
