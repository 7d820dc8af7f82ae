-- A simulated world: what it answers to a head, after the heads before.
use Rattle.std.specs.Prelude.{ℕ, ◌≡◌, ◌+◌, ◌&&◌, List, [], ◌∷◌, ◌++◌, take, slice_get, Option, Some, None}
use Rattle.std.specs.List.{position_from}
use Rattle.link_trait.specs.declared.links.LinkName.{LinkName}
use Rattle.spaces.specs.declared.place.Origin.{Origin}
use Rattle.spaces.specs.declared.site.Target.{Target}
use Rattle.spaces.specs.declared.site.Target.TheVariants.{Server, Proxy}
use Rattle.spaces.specs.Sites.{same_origin, same_target}
use Rattle.wire_head.specs.ReadHeads.{IsHeadOf}
use Rattle.wire_head.specs.declared.head_reader.ReadHead.{ReadHead}
use Rattle.origin_sim.specs.declared.rules.Rule.{Rule}
use Rattle.origin_sim.specs.declared.judged.Judged.{Judged}
use Rattle.origin_sim.specs.declared.judged.Said.{Said}
use Rattle.origin_sim.specs.Judging.{IsSaid, challenge}
use Rattle.origin_sim.specs.Texts.{accepted, refused_by_server, refused_by_proxy, not_found}

-- a world's number, its rules, and what they said so far, in order
pub record WorldState : Type 0 where
  pub number : ℕ
  pub rules : List Rule
  pub past : List Judged

-- the world once the numbered rule has said this on the link
abbrev pub heard : WorldState → ℕ → LinkName → Said → WorldState
heard world rule link said = record {
  number = world.number;
  rules = world.rules;
  past = world.past ++ record { rule = rule; link = link; said = said } ∷ [];
}

-- a world with nothing changed but that its rules said more
abbrev pub IsBehind : WorldState → WorldState → Type 0
IsBehind old new = (more : List Judged) × (new ≡ record { number = old.number; rules = old.rules; past = old.past ++ more })

-- the world when its rules had said so much
abbrev pub since : ℕ → WorldState → WorldState
since said world = record { number = world.number; rules = world.rules; past = take said world.past }

-- the first rule of the origin and the target, by its place
abbrev pub rule_of : Target → Origin → List Rule → Option ℕ
rule_of target origin rules = position_from (λ rule. same_target rule.target target && same_origin rule.origin origin) 0 rules

-- the rule at a place judges the head by these credentials, and answers with a challenge where it refuses; rules are numbered from 1
abbrev pub IsJudged : WorldState → Option Rule → ℕ → LinkName → ReadHead → Option (List ℕ) → Option (List ℕ) → WorldState → Type 0
IsJudged old None place link head credentials answer new = ⊥
IsJudged old (Some rule) place link head credentials answer new =
    (said : Said) × IsSaid old.number (place + 1) rule.kind old.past link head credentials said
    × (answer ≡ challenge rule.kind said) × (new ≡ heard old (place + 1) link said)

-- the server that the head names judges it by the field Authorization
abbrev pub server_reply : ReadHead → Option (List ℕ) → List ℕ
server_reply head None = accepted head.method
server_reply head (Some challenge) = refused_by_server challenge

abbrev pub IsServedAt : WorldState → Option ℕ → LinkName → ReadHead → List ℕ → WorldState → Type 0
IsServedAt old None link head reply new = (reply ≡ not_found) × (new ≡ old)
IsServedAt old (Some place) link head reply new =
    (answer : Option (List ℕ)) × IsJudged old (slice_get old.rules place) place link head head.server answer new
    × (reply ≡ server_reply head answer)

abbrev pub IsServed : WorldState → LinkName → ReadHead → List ℕ → WorldState → Type 0
IsServed old link head reply new = IsServedAt old (rule_of Server head.origin old.rules) link head reply new

-- a proxy judges it before by the field Proxy-Authorization, and hands on what it accepts
abbrev pub IsHandedOn : Option (List ℕ) → WorldState → LinkName → ReadHead → List ℕ → WorldState → Type 0
IsHandedOn (Some challenge) old link head reply new = (reply ≡ refused_by_proxy challenge) × (new ≡ old)
IsHandedOn None old link head reply new = IsServed old link head reply new

abbrev pub IsProxied : WorldState → Option ℕ → LinkName → ReadHead → List ℕ → WorldState → Type 0
IsProxied old None link head reply new = IsServed old link head reply new
IsProxied old (Some place) link head reply new =
    (answer : Option (List ℕ)) × (between : WorldState)
    × IsJudged old (slice_get old.rules place) place link head head.proxy answer between
    × IsHandedOn answer between link head reply new

-- the head that the bytes are, where they are one
abbrev pub IsRead : List ℕ → Option ReadHead → Type 0
IsRead bytes (Some head) = IsHeadOf bytes head
IsRead bytes None = (head : ReadHead) → ¬ (IsHeadOf bytes head)

-- what comes back to a head that goes to an origin
abbrev pub IsReplyTo : WorldState → LinkName → Origin → Option ReadHead → List ℕ → WorldState → Type 0
IsReplyTo old link to None reply new = (reply ≡ not_found) × (new ≡ old)
IsReplyTo old link to (Some head) reply new = IsProxied old (rule_of Proxy to old.rules) link head reply new

-- the world's answer to the bytes of a head
abbrev pub IsAnswer : WorldState → LinkName → Origin → List ℕ → List ℕ → WorldState → Type 0
IsAnswer old link to bytes reply new = (head : Option ReadHead) × IsRead bytes head × IsReplyTo old link to head reply new
