-- Turns of a machine: what it does by itself, one after another, until it asks for something.
use Rattle.std.specs.Prelude.{ℕ, ◌≡◌, ◌⊎◌, ◌+◌, ◌-◌, ◌*◌, Bool, true, false, List, length, Some, None, is_some, if◌then◌else◌}
use Rattle.std.specs.declared.option.Option.{Option}
use Rattle.link_trait.specs.declared.links.LinkName.{LinkName}
use Rattle.link_trait.specs.Links.{has_link, without_link}
use Rattle.spaces.specs.declared.site.Target.TheVariants.{Proxy}
use Rattle.request_machine.specs.declared.stage.Stage.{Stage}
use Rattle.request_machine.specs.declared.stage.Stage.TheVariants.{Go, Learn, Choose, Continue, LoseLink, Read, Ask, NextNonce, End, Spent, SpentOver}
use Rattle.request_machine.specs.Kept.{Kept}
use Rattle.request_machine.specs.Needs.{need_at}

abbrev pub next_link : Kept → LinkName
next_link m = record { request = m.number; nth = m.links + 1 }

-- where there is a link, it is open
abbrev pub IsLinkKept : Option LinkName → List LinkName → Type 0
IsLinkKept None opened = Unit {0}
IsLinkKept (Some link) opened = has_link link opened ≡ true

-- the link that was there, if there was one, is open no more
abbrev pub opened_without : Option LinkName → List LinkName → List LinkName
opened_without None opened = opened
opened_without (Some link) opened = without_link link opened

-- nothing has changed but that the link may be closed, or memory has run out
abbrev pub IsStill : Kept → Kept → Type 0
IsStill m n = (n ≡ record m { link = n.link }) ⊎ (n.stage ≡ Spent)

-- HOW MANY TURNS ARE LEFT

-- something is asked of the caller
abbrev pub is_asking : Kept → Bool
is_asking m = is_some (need_at m m.stage)

-- the machine goes on by itself
abbrev pub is_going : Stage → Bool
is_going Go = true
is_going (Learn t piece) = true
is_going (Choose t) = true
is_going (Continue t) = true
is_going (LoseLink link) = true
is_going (Read link) = true
is_going (Ask p ordinal) = true
is_going (NextNonce t c) = true
is_going (End outcome) = true
is_going SpentOver = true
is_going stage = false

-- from these stages a turn leads to where an event is made or something is asked; any other turn makes an event, or asks
abbrev pub turns_at : Stage → ℕ
turns_at (Learn t piece) = 2
turns_at (NextNonce Proxy c) = 2
turns_at stage = 1

-- at most so many turns are left until the machine asks
abbrev pub turns_left : Kept → ℕ
turns_left m = if is_asking m then 0 else (256 - length m.past) * 2 + turns_at m.stage
