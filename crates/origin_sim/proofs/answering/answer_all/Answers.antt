use Rattle.std.proofs.Common.{◌≡◌, ◌+◌, ℕ, List, Some, drop, take, sym, subst, ap, ◌∙◌, arith}
use Rattle.std.proofs.lemmas.Grind.{common_steps}
use Rattle.wire_head.specs.Lines as lines
use Rattle.origin_sim.specs.Worlds.{IsAnswer}
use Rattle.origin_sim.specs.Peers.{IsAnswering}
use Rattle.origin_sim.proofs.ExchangeLemmas.{answering_start, answering_step, behind_start, behind_more}
use Rattle.origin_sim.proofs.answering.answer_all.Goals as goal

pub heads-init : goal.heads-init
heads-init c = record {
  within = omega arith;
  answering = answering_start c.args.world.now c.args.name c.args.to.now c.args.text.now c.args.replies.now;
  behind = behind_start c.args.world.now;
}

pub heads-preserved : goal.heads-preserved
heads-preserved c =
    let text = c.args.text.now in
    let name = c.args.name in
    let to = c.args.to.now in
    let at = c.heads.at in
    let n = c.in-Some.n in
    let rest : c.rest_of.result.now ≡ drop at text = c.rest_of.ensures in
    let found : lines.head_len (drop at text) ≡ Some n = ap lines.head_len (sym rest) ∙ sym c.in-Some.ensures.value in
    let again : c.front_of.result.now ≡ take n (drop at text) =
    c.front_of.ensures ∙ ap (λ (x : List ℕ). take n x) c.rest_of-in-Some.ensures in
    let ok = c.in_ok-answer_one.ensures.ok in
    let answer : IsAnswer c.heads.world name to (take n (drop at text)) ok.0 c.answer_one.new.world =
    subst (λ (head : List ℕ). IsAnswer c.heads.world name to head ok.0 c.answer_one.new.world) again ok.1 in
    let next = answering_step c.args.world.now name to text (drop at text) c.args.replies.now c.heads.replies c.answer_one.new.replies ok.0 n
    c.heads.world c.answer_one.new.world c.heads.invariant.answering found answer ok.2 in
    let gone : drop n (drop at text) ≡ drop (at + n) text = grind (arith, common_steps) in
    record {
      within = grind (arith, common_steps, c.in-Some.ensures.within, rest);
      answering = subst (λ (x : List ℕ). IsAnswering c.args.world.now name to text x c.args.replies.now c.answer_one.new.replies c.answer_one.new.world) gone next;
      behind = behind_more c.args.world.now c.heads.world c.answer_one.new.world c.heads.invariant.behind c.answer_one.ensures.behind;
    }
