use Rattle.session_text.proofs.session.fault_in.Goals as goal

pub returns-in-Request : goal.returns-in-Request
returns-in-Request c = rw c.in-Request.is (c.request_fault.ensures c.in-Request.field-0)
