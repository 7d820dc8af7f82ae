use Rattle.std.proofs.Common.{◌≡◌, ◌∙◌, ◌+◌, ◌∷◌, [], ap, arith, get_or, length, length-append}
use Rattle.link_trait.specs.Tokens.{taken_by}
use Rattle.link_trait.proofs.TakenLemmas.{taken_least}
use Rattle.link_trait.proofs.taken.Taken.push_kept.Goals as goal

pub prove-unreachable-requires : goal.prove-unreachable-requires
prove-unreachable-requires c =
    let request = c.args.request in
    let taken = c.self.inside.requests in
    let place : c.place_in.result ≡ taken_by request taken =
    c.place_in.ensures ∙ ap (λ places. get_or places request 0) c.as_slice.ensures.value
    ∙ c.make_room.ensures.same request ∙ c.self.invariant request c.requires in
    let longer : length c.push.new.self ≡ length taken + 1 = ap length c.in_ok-push.ensures.ok ∙ length-append taken (request ∷ []) in
    omega (arith, place, longer, taken_least request taken, c.len.ensures, c.if-prove.true)
