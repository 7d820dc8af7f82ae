use Rattle.std.proofs.Common.{arith}
use Rattle.basic_handler.proofs.BasicLemmas.{token_read_back}
use Rattle.basic_handler.proofs.basic.parts_read_back.Goals as goal

pub returns : goal.returns
returns c =
    let users = c.type_inv.user in
    let passwords = c.type_inv.password in
    token_read_back c.args.user.now c.args.password.now
    (λ i. omega (arith, users i)) (λ i. omega (arith, passwords i)) c.requires
