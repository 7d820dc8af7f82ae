-- A machine that is given a count is served on.
use Rattle.std.proofs.Common.{◌≡◌, ◌⊎◌, inl, inr, ℕ, ◌+◌, ◌^◌, ◌≤◌, ◌<◌, Bool, true, false, ◌==◌, cond, IsTrue, List, [], ◌∷◌, length, Some, is_some, refl, sym, ap, ◌∙◌, subst, arith}
use Rattle.spaces.specs.declared.roster.Request.{Request}
use Rattle.spaces.specs.declared.roster.Roster.{Roster}
use Rattle.spaces.specs.declared.site.Target.{Target}
use Rattle.spaces.specs.declared.site.Target.TheVariants.{Proxy, Server}
use Rattle.spaces.specs.Sites.{numbered}
use Rattle.auth_events.specs.declared.journal.Drawn.{Drawn}
use Rattle.auth_events.specs.declared.told.Told.{Told}
use Rattle.auth_events.specs.Tables.{AreFew}
use Rattle.auth_events.specs.Told.{names_told, past}
use Rattle.auth_events.proofs.Numbers.{numbered_in}
use Rattle.auth_runs.specs.declared.event.Event.{Event}
use Rattle.auth_runs.specs.declared.event.Event.TheVariants.{Drew}
use Rattle.book_laws.proofs.Sharing.{adds_none}
use Rattle.plain_book.specs.Words.{draws_of, retirements_of, with_draw}
use Rattle.trace_rule.specs.Moves.Want.{Draws}
use Rattle.trace_rule.specs.Settings.{Setting, setting_of}
use Rattle.trace_rule.specs.Traces.{IsPast}
use Rattle.trace_rule.proofs.DrawNames.{drawn_named}
use Rattle.trace_rule.proofs.Drops.{spaces_numbered}
use Rattle.trace_laws.proofs.Sums.{short_pasts}
use Rattle.serving_laws.specs.Draws.{times_drawn}
use Rattle.serving_laws.specs.Meeting.{none_pending}
use Rattle.serving_laws.specs.Rooms.{HasNamed}
use Rattle.serving_laws.proofs.Entries.{serving as served_by}
use Rattle.request_machine.specs.declared.gave.Gave.TheVariants.{Drawn as CountGiven}
use Rattle.request_machine.specs.declared.need.Need.TheVariants.{Draw as DrawNeed}
use Rattle.request_machine.specs.declared.stage.Stage.TheVariants.{Draw}
use Rattle.request_machine.specs.Gives.{past_drawn}
use Rattle.request_machine.specs.Kept.{Kept}
use Rattle.request_machine.specs.Needs.{need_at}
use Rattle.auth_controller.specs.Answering.{HasServing, IsGiven, IsGivenAs, IsServedOn}
use Rattle.auth_controller.specs.Serving.{IsServing, has_memory, pending_at}
use Rattle.auth_controller.proofs.Answered.{is_free, longer}
use Rattle.auth_controller.proofs.Asking.{now}
use Rattle.auth_controller.proofs.DrawTargets.{drawn_target}
use Rattle.auth_controller.proofs.Going.{drawn_serving}
use Rattle.auth_controller.proofs.NeedStages.{draw_need}
use Rattle.auth_controller.proofs.Texts.{no_text}

-- a past draws no more often than it has events
drawn_few : (n : ℕ) (events : List Event) → times_drawn events n ≤ length events
drawn_few n [] = omega arith
drawn_few n (Drew target nonce count at ∷ events) = with_one (nonce == n) (drawn_few n events)
  where
    with_one : (b : Bool) → times_drawn events n ≤ length events → cond b 1 0 + times_drawn events n ≤ length (Drew target nonce count at ∷ events)
    with_one true few = omega (arith, few)
    with_one false few = omega (arith, few)
drawn_few n (event ∷ events) = let few = drawn_few n events in omega (arith, few)

module _ (roster : Roster) (told : List Told) (words : List Drawn) (m : Kept) (has : HasServing roster told words m) (nonce : ℕ) (need : need_at m m.stage ≡ Some (DrawNeed nonce)) where
  abbrev here : Setting
  here = setting_of roster m.seed (names_told told) (past told) m.number has.request

  at : (t : Target) × (m.stage ≡ Draw t nonce)
  at = draw_need m m.stage nonce need

  stands : IsPast here m.past × (Rattle.trace_rule.specs.Closings.want here m.past ≡ Draws at.0 nonce)
  stands = now roster has.before told has.first words has.request m has.serving (Draw at.0 nonce) at.1

  is_named : IsTrue (is_some (numbered (names_told told).nonces nonce))
  is_named =
      drawn_named false roster m.seed (names_told told) (past told) 1 m.number has.request m.past
      (served_by roster (names_told told) (past has.before) (past told) m.number has.request m.past has.serving.served.alone m.seed stands.0) at.0 nonce stands.1

  pub draw_some : 1 ≤ nonce
  draw_some = (numbered_in (names_told told).nonces nonce is_named).0

  pub draw_within : AreFew (length roster.requests) (names_told told) → nonce ≤ length words
  draw_within few = let high = (numbered_in (names_told told).nonces nonce is_named).1 in omega (arith, high, few.nonces, has.serving.served.as_many)

  pub draw_few : AreFew (length roster.requests) (names_told told) → draws_of words nonce < 2 ^ 30
  draw_few few =
      let short = short_pasts here (spaces_numbered false roster m.seed (names_told told) (past told) m.number has.request) m.past stands.0 in
      let counts = has.serving.served.drawn.counts nonce draw_some (draw_within few) in
      omega (arith, counts, drawn_few nonce m.past, short, has.serving.few_draws nonce)

  -- the machine draws it for a target of the route
  module _ (n : Kept) (drawn : Drawn) (is : drawn ≡ record { count = draws_of words nonce + 1; epoch = retirements_of words nonce }) (given : IsGivenAs (CountGiven drawn) m n) where
    drew : n.past ≡ Drew at.0 nonce (draws_of words nonce + 1) (retirements_of words nonce) ∷ m.past
    drew = given.past ∙ (ap (λ x. past_drawn m x drawn) at.1 ∙ (by at.0 (drawn_target here m.past at.0 nonce stands.0 stands.1) ∙ ap (λ (d : Drawn). Drew at.0 nonce d.count d.epoch ∷ m.past) is))
      where
        by : (t : Target) → ((t ≡ Proxy) ⊎ (t ≡ Server)) → past_drawn m (Draw t nonce) drawn ≡ Drew t nonce drawn.count drawn.epoch ∷ m.past
        by t (inl p) = subst (λ x. past_drawn m (Draw x nonce) drawn ≡ Drew x nonce drawn.count drawn.epoch ∷ m.past) (sym p) refl
        by t (inr p) = subst (λ x. past_drawn m (Draw x nonce) drawn ≡ Drew x nonce drawn.count drawn.epoch ∷ m.past) (sym p) refl

    grew : length m.past < length n.past
    grew = longer m n (Drew at.0 nonce (draws_of words nonce + 1) (retirements_of words nonce)) drew

    pub draw_given : IsGiven roster told told m n
    draw_given = record { gave = CountGiven drawn; as_it = given; so = λ words before first request serving s k. tt; text = no_text (names_told told) m m.stage (CountGiven drawn) refl; heard = inr grew; left = given.nearer grew }

    pub draw_served : AreFew (length roster.requests) (names_told told) → IsServedOn roster told told words (with_draw words nonce) m n
    draw_served few = record {
      adds = adds_none 1 told;
      on = λ before first request serving.
          drawn_serving roster before told first words request m n serving (record { number = given.number; seed = given.seed }) at.0 nonce drew draw_some (draw_within few)
          (λ s t. given.ties s tt t)
          (λ u. subst (λ x. HasNamed (names_told before) (names_told told) m.number (Drew at.0 nonce (draws_of words nonce + 1) (retirements_of words nonce) ∷ m.past) x) (sym (is_free n.stage (given.free grew)))
          (named before first request serving));
    }
      where
        -- the draw names nothing
        named : (before : List Told) (first : List Drawn) (request : Request) → IsServing roster before told first words request m
            → HasNamed (names_told before) (names_told told) m.number (Drew at.0 nonce (draws_of words nonce + 1) (retirements_of words nonce) ∷ m.past) none_pending
        named before first request serving =
            let has = subst (λ x. HasNamed (names_told before) (names_told told) m.number m.past (pending_at x)) at.1 (serving.named (subst (λ x. IsTrue (has_memory x m.past)) (sym at.1) refl)) in
            record { met = has.met; nonces = has.nonces }
