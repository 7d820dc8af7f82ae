use Rattle.std.proofs.Common.{◌≡◌, length, sym, ap, ◌∙◌, arith}
use Rattle.session_text.specs.Forms.{step_of}
use Rattle.session_text.proofs.LineLemmas.{token_of_one}
use Rattle.session_text.proofs.line.token.Goals as goal

pub returns-in-len1-clause-value : goal.returns-in-len1-clause-value
returns-in-len1-clause-value c =
    let one : length c.pop.new.self ≡ 1 = omega (arith, ap length c.as_slice.ensures) in
    c.step_of.ensures.value ∙ ap step_of c.as_slice-in-len1.ensures
    ∙ sym (token_of_one c.args.values c.pop.new.self c.in-Some.last c.in-Some.ensures one)
