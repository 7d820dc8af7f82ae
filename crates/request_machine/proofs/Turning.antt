-- What dialer and prompter tell from turn to turn, with what is asked for between two turns.
use Rattle.std.proofs.Common.{◌≡◌, ℕ, Bool, List, refl, sym, ◌∙◌, subst}
use Rattle.std.specs.declared.option.Option.{Option}
use Rattle.auth_text.specs.Login.{Login}
use Rattle.spaces.specs.declared.roster.Request.{Request}
use Rattle.spaces.specs.ProtectionSpaces.{ProtectionSpace}
use Rattle.link_trait.specs.declared.links.LinkName.{LinkName}
use Rattle.link_trait.specs.declared.dialer.Traffic.{Traffic}
use Rattle.link_trait.specs.declared.prompts.Ask.{Ask}
use Rattle.trace_rule.specs.Settings.{Setting}
use Rattle.request_machine.specs.Kept.{Kept, Ties}
use Rattle.request_machine.specs.Carried.{IsCarried, TellsTraffic}
use Rattle.request_machine.specs.Failed.{link_faults, ask_faults, RoseBy, TellsLinkFaults, TellsAskFaults}
use Rattle.request_machine.specs.Prompted.{TellsPrompts}
use Rattle.request_machine.proofs.Answering.{prompts_unprompted, unprompted_same}
use Rattle.request_machine.proofs.Carrying.{tells_then}

-- first, up to a turn; then what is asked for; then the next turn
module _ (request : Request) (first m k n : Kept) where
  pub need_traffic : (streams : Option (LinkName → List ℕ)) (told between now : Option (List Traffic)) → TellsTraffic request first m streams told between
      → ((s : Setting) (streams : Option (LinkName → List ℕ)) (before : Option (List Traffic)) (more : List Traffic) → IsCarried s streams before m more → IsCarried s streams before k more)
      → now ≡ between → TellsTraffic request first k streams told now
  need_traffic streams told between now tells carried untold = λ s before more by t grew c.
      let x = tells s before more by t grew c in
      (x.0, untold ∙ x.1, carried s streams before x.0 x.2)

  pub turn_traffic : (streams later : Option (LinkName → List ℕ)) (told between now : Option (List Traffic)) → TellsTraffic request first k streams told between → ((s : Setting) → s.request ≡ request → Ties s first → Ties s k)
      → later ≡ streams → TellsTraffic request k n later between now → TellsTraffic request first n streams told now
  turn_traffic streams later told between now tells ties same turn =
      tells_then request first k n streams told between now ties tells (subst (λ st. TellsTraffic request k n st between now) same turn)

  pub need_prompts : (answers : Option (ProtectionSpace → ℕ → Option Login)) (told between : Option (List Ask)) → TellsPrompts request first m answers told between
      → ((s : Setting) → s.request ≡ request → Ties s first → Ties s m) → k.past ≡ m.past → k.given ≡ m.given → k.space ≡ m.space → TellsPrompts request first k answers told between
  need_prompts answers told between tells ties past given space = λ s before by t it.
      prompts_unprompted request m k answers between between (unprompted_same m k past given space) refl s before by (ties s by t) (tells s before by t it)

  pub turn_prompts : (answers later : Option (ProtectionSpace → ℕ → Option Login)) (told between now : Option (List Ask)) → TellsPrompts request first k answers told between → ((s : Setting) → s.request ≡ request → Ties s first → Ties s k)
      → later ≡ answers → TellsPrompts request k n later between now → TellsPrompts request first n answers told now
  turn_prompts answers later told between now tells ties same turn = λ s before by t it.
      subst (λ a. TellsPrompts request k n a between now) same turn s before by (ties s by t) (tells s before by t it)

  pub need_link_faults : (sticks : Bool) (old between now : ℕ) → TellsLinkFaults sticks first m old between → k.past ≡ m.past → now ≡ between → TellsLinkFaults sticks first k old now
  need_link_faults sticks old between now tells past still = λ from rose.
      subst (λ xs. RoseBy sticks from (link_faults xs) now) (sym past) (subst (RoseBy sticks from (link_faults m.past)) (sym still) (tells from rose))

  pub turn_link_faults : (sticks : Bool) (old between now : ℕ) → TellsLinkFaults sticks first k old between → TellsLinkFaults sticks k n between now → TellsLinkFaults sticks first n old now
  turn_link_faults sticks old between now tells turn = λ from rose. turn from (tells from rose)

  pub need_ask_faults : (sticks : Bool) (old between : ℕ) → TellsAskFaults sticks first m old between → k.past ≡ m.past → TellsAskFaults sticks first k old between
  need_ask_faults sticks old between tells past = λ from rose. subst (λ xs. RoseBy sticks from (ask_faults xs) between) (sym past) (tells from rose)

  pub turn_ask_faults : (sticks : Bool) (old between now : ℕ) → TellsAskFaults sticks first k old between → TellsAskFaults sticks k n between now → TellsAskFaults sticks first n old now
  turn_ask_faults sticks old between now tells turn = λ from rose. turn from (tells from rose)
