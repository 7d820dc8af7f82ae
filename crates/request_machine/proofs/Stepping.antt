-- From one need to the next: what a machine that asks keeps, and where it stands once it has turned.
use Rattle.std.proofs.Common.{◌≡◌, ◌⊎◌, inl, inr, true, false, Option, is_some, refl, sym, ap, ◌∙◌}
use Rattle.std.proofs.lemmas.Bool.{false≢true}
use Rattle.spaces.specs.declared.site.Target.TheVariants.{Server, Proxy, Socks}
use Rattle.link_trait.specs.declared.links.LinkName.{LinkName}
use Rattle.trace_rule.specs.Traces.{is_spent}
use Rattle.request_machine.specs.declared.stage.Stage.{Stage}
use Rattle.request_machine.specs.declared.stage.Stage.TheVariants.{Learn, Spent, Over}
use Rattle.request_machine.specs.Kept.{Kept}
use Rattle.request_machine.specs.Needs.{need_at}
use Rattle.request_machine.specs.Turns.{is_asking, IsStill}
use Rattle.request_machine.specs.Work.{is_waiting, is_unspent}

need_linked : (m : Kept) (link : Option LinkName) (stage : Stage) → need_at (record m { link = link }) stage ≡ need_at m stage
need_linked m link (Learn Proxy piece) = refl
need_linked m link (Learn Server piece) = refl
need_linked m link (Learn Socks piece) = refl
need_linked m link _ = refl

asking_linked : (m n : Kept) → n ≡ record m { link = n.link } → is_asking n ≡ is_asking m
asking_linked m n same = ap is_asking same ∙ ap is_some (need_linked m n.link m.stage)

stage_linked : (m n : Kept) → n ≡ record m { link = n.link } → n.stage ≡ m.stage
stage_linked m n same = ap (λ (v : Kept). v.stage) same

spent_asks : (m : Kept) → m.stage ≡ Spent → is_asking m ≡ true
spent_asks m same = ap (λ st. is_some (need_at m st)) same

over_asks : (m : Kept) → m.stage ≡ Over → is_asking m ≡ true
over_asks m same = ap (λ st. is_some (need_at m st)) same

-- WHAT HAS TURNED

pub record HasTurned (m n : Kept) : Type 0 where
  pub idle : is_asking m ≡ false
  pub free : is_waiting n.stage ≡ false
  pub over : is_unspent m.stage ≡ false → n.stage ≡ Over
  pub told : is_unspent m.stage ≡ false → is_spent n.past ≡ true

-- nothing was done yet, or something was
abbrev pub IsUnderWay : Kept → Kept → Type 0
IsUnderWay m n = (n ≡ m) ⊎ HasTurned m n

-- what asks for nothing asked for nothing before
idle_before : (m k : Kept) → IsStill m k → is_asking k ≡ false → is_asking m ≡ false
idle_before m k (inl same) idle = sym (asking_linked m k same) ∙ idle
idle_before m k (inr spent) idle = absurd (false≢true (sym idle ∙ spent_asks k spent))

idle_stage : (m k : Kept) → IsStill m k → is_asking k ≡ false → k.stage ≡ m.stage
idle_stage m k (inl same) idle = stage_linked m k same
idle_stage m k (inr spent) idle = absurd (false≢true (sym idle ∙ spent_asks k spent))

pub turned : (m l k n : Kept) → IsUnderWay m l → IsStill l k → is_asking k ≡ false → is_waiting n.stage ≡ false → (is_unspent k.stage ≡ false → n.stage ≡ Over) → (is_unspent k.stage ≡ false → is_spent n.past ≡ true) → IsUnderWay m n
turned m l k n (inl same) still idle free over told =
    let stage : k.stage ≡ m.stage = idle_stage l k still idle ∙ ap (λ (v : Kept). v.stage) same in
    inr (record {
      idle = ap is_asking (sym same) ∙ idle_before l k still idle;
      free = free;
      over = λ e. over (ap is_unspent stage ∙ e);
      told = λ e. told (ap is_unspent stage ∙ e);
    })
turned m l k n (inr by) still idle free over told =
    let none : is_unspent m.stage ≡ false → is_asking l ≡ true = λ e. over_asks l (by.over e) in
    inr (record {
      idle = by.idle;
      free = free;
      over = λ e. absurd (false≢true (sym (idle_before l k still idle) ∙ none e));
      told = λ e. absurd (false≢true (sym (idle_before l k still idle) ∙ none e));
    })

-- WHERE THE MACHINE ASKS

pub asked_still : (m l n : Kept) → IsUnderWay m l → IsStill l n → is_asking m ≡ true → IsStill m n
asked_still m l n (inl same) (inl linked) asks = inl (linked ∙ ap (λ (v : Kept). record v { link = n.link }) same)
asked_still m l n (inl same) (inr spent) asks = inr spent
asked_still m l n (inr by) still asks = absurd (false≢true (sym by.idle ∙ asks))

pub asked_past : (m l n : Kept) → IsUnderWay m l → n.past ≡ l.past → is_asking m ≡ true → n.past ≡ m.past
asked_past m l n (inl same) past asks = past ∙ ap (λ (v : Kept). v.past) same
asked_past m l n (inr by) past asks = absurd (false≢true (sym by.idle ∙ asks))

pub asked_free : (m l n : Kept) → IsUnderWay m l → IsStill l n → is_asking n ≡ true → is_asking m ≡ false → is_waiting n.stage ≡ false
asked_free m l n way (inr spent) asks idle = ap is_waiting spent
asked_free m l n (inl same) (inl linked) asks idle = absurd (false≢true (sym (asking_linked l n linked ∙ ap is_asking same ∙ idle) ∙ asks))
asked_free m l n (inr by) (inl linked) asks idle = ap is_waiting (stage_linked l n linked) ∙ by.free

-- where memory had run out before
pub asked_spent : (m l n : Kept) → IsUnderWay m l → IsStill l n → n.past ≡ l.past → is_unspent m.stage ≡ false → n.stage ≡ Over → is_spent n.past ≡ true
asked_spent m l n (inr by) still past unspent over = ap is_spent past ∙ by.told unspent
asked_spent m l n (inl same) (inl linked) past unspent over = absurd (false≢true (sym unspent ∙ ap is_unspent (sym (ap (λ (v : Kept). v.stage) same) ∙ sym (stage_linked l n linked) ∙ over)))
asked_spent m l n (inl same) (inr spent) past unspent over = absurd (cc)

pub asked_unspent : (m l n : Kept) → IsUnderWay m l → IsStill l n → is_unspent m.stage ≡ false → (is_unspent n.stage ≡ false) ⊎ (n.stage ≡ Over)
asked_unspent m l n way (inr spent) unspent = inl (ap is_unspent spent)
asked_unspent m l n (inl same) (inl linked) unspent = inl (ap is_unspent (stage_linked l n linked ∙ ap (λ (v : Kept). v.stage) same) ∙ unspent)
asked_unspent m l n (inr by) (inl linked) unspent = inr (stage_linked l n linked ∙ by.over unspent)
