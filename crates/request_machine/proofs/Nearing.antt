-- How turns bring a request nearer to what it asks for, on its way to a head.
use Rattle.std.proofs.Common.{◌≡◌, ℕ, ◌+◌, ◌-◌, ◌*◌, ◌<◌, nat_le, Bool, true, false, ◌∷◌, length, None, is_some, refl, ap, ◌∙◌, arith, if◌then◌else◌}
use Rattle.spaces.specs.declared.site.Target.{Target}
use Rattle.auth_events.specs.declared.journal.Gift.{Gift}
use Rattle.auth_runs.specs.declared.event.Event.{Event}
use Rattle.request_machine.specs.declared.stage.Closing.{Closing}
use Rattle.request_machine.specs.declared.stage.Piece.{Piece}
use Rattle.request_machine.specs.declared.stage.Stage.TheVariants.{Go, Learn, Read, Close, Reject}
use Rattle.request_machine.specs.Contexts.{stage_refused}
use Rattle.request_machine.specs.Kept.{Kept}
use Rattle.request_machine.specs.Needs.{need_at}
use Rattle.request_machine.specs.Turns.{is_asking, turns_at, turns_left}
use Rattle.request_machine.proofs.Driving.{asks_nearer, pushed_nearer, staged_nearer}

pub go_idle : (m : Kept) → m.stage ≡ Go → is_asking m ≡ false
go_idle m was = ap (λ st. is_some (need_at m st)) was

-- the way to a head goes on by itself, and what asks is nearer
pub go_nearer : (m n : Kept) → m.stage ≡ Go → is_asking n ≡ true → turns_left n < turns_left m
go_nearer m n was asks = asks_nearer m n asks (go_idle m was)

-- and so is what makes an event
pub gone_nearer : (m n : Kept) (event : Event) → n.past ≡ event ∷ m.past → length m.past < 256 → m.stage ≡ Go → turns_left n < turns_left m
gone_nearer m n event is few was = pushed_nearer m n event is few (go_idle m was)

-- what was to be told is held no more
pub resumed_nearer : (m : Kept) (t : Target) (piece : Piece) → m.stage ≡ Learn t piece → is_asking m ≡ false → turns_left (record m { stage = Go }) < turns_left m
resumed_nearer m t piece was idle =
    let before : turns_at m.stage ≡ 2 = ap turns_at was in
    staged_nearer m (record m { stage = Go }) refl idle refl (omega (arith, before))

-- A READING

read_idle : (m : Kept) (link : ℕ) → m.stage ≡ Read link → is_asking m ≡ false
read_idle m link was = ap (λ st. is_some (need_at m st)) was

pub read_nearer : (m n : Kept) (link : ℕ) → m.stage ≡ Read link → is_asking n ≡ true → turns_left n < turns_left m
read_nearer m n link was asks = asks_nearer m n asks (read_idle m link was)

pub replied_nearer : (m n : Kept) (link : ℕ) (event : Event) → n.past ≡ event ∷ m.past → length m.past < 250 → m.stage ≡ Read link → turns_left n < turns_left m
replied_nearer m n link event is room was = pushed_nearer m n event is (omega (arith, room)) (read_idle m link was)

-- the link was closed behind it
pub closed_nearer : (m k n : Kept) (link : ℕ) → m.stage ≡ Read link → k ≡ record m { link = None } → turns_left n < turns_left k → turns_left n < turns_left m
closed_nearer m k n link was closed less =
    let before : turns_left m ≡ (256 - length m.past) * 2 + 1 = ap (λ st. if is_some (need_at m st) then 0 else (256 - length m.past) * 2 + turns_at st) was in
    let after : turns_left k ≡ (256 - length m.past) * 2 + 1 =
    ap turns_left closed ∙ ap (λ st. if is_some (need_at (record m { link = None }) st) then 0 else (256 - length m.past) * 2 + turns_at st) was in
    omega (arith, before, after, less)

-- A STEP OF THE PROVIDER

-- a refusal is told to the book
pub refused_asks : (m : Kept) (rounds : ℕ) (t : Target) (gift : Gift) (c : Closing) → m.stage ≡ stage_refused rounds t gift c → is_asking m ≡ true
refused_asks m rounds t gift c same = ap (λ st. is_some (need_at m st)) same ∙ by (nat_le 16 rounds)
  where
    by : (b : Bool) → is_some (need_at m (if b then Close c else Reject t gift)) ≡ true
    by true = refl
    by false = refl
