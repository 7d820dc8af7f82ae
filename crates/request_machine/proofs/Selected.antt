-- What the book chooses.
use Rattle.std.proofs.Common.{◌≡◌, ℕ, Bool, true, false, List, ◌∷◌, Option, Some, None, refl, sym, ap, ◌∙◌, zero-add, if◌then◌else◌, IsTrue, subst}
use Rattle.std.specs.List.{list_any}
use Rattle.spaces.specs.declared.site.Target.{Target}
use Rattle.spaces.specs.declared.site.Target.TheVariants.{Server, Proxy}
use Rattle.spaces.specs.Sites.{same_target}
use Rattle.auth_events.specs.declared.journal.Gift.{Gift}
use Rattle.auth_events.specs.declared.journal.Call.TheVariants.{Select}
use Rattle.auth_events.specs.declared.journal.BookReply.{BookReply}
use Rattle.auth_events.specs.declared.journal.BookReply.TheVariants.{Url, Cached, Default}
use Rattle.auth_runs.specs.declared.event.Event.{Event}
use Rattle.auth_runs.specs.declared.event.Event.TheVariants.{Called}
use Rattle.trace_rule.specs.Settings.{Setting, target_is}
use Rattle.trace_rule.specs.Holding.{held, if_target, gift_held}
use Rattle.trace_rule.specs.Moves.{move, go, rounds}
use Rattle.trace_rule.specs.Closings.{carried_out, closings_made}
use Rattle.trace_rule.specs.Moves.Move.{Goes}
use Rattle.trace_rule.specs.Traces.{Follows, suits, is_end, is_follow, prompt_open}
use Rattle.request_machine.specs.declared.holding.Holding.{Holding}
use Rattle.request_machine.specs.declared.stage.Stage.TheVariants.{Go, Select as Selecting}
use Rattle.request_machine.specs.Kept.{Kept, Ties, IsStage, IsOpen, IsHeld, is_after_end}
use Rattle.request_machine.specs.Told.{bare, held_chosen}
use Rattle.request_machine.proofs.Targets.{swapped_back, held_space}
use Rattle.request_machine.proofs.Quiet.{still_ties}
use Rattle.request_machine.proofs.Prompts.{open_behind}

-- the gift is held for the target of its space
pub chosen_held : (s : Setting) (past : List Event) (event : Event) (x t : Target) (n k : ℕ) (gift : Gift) (h : Option Holding) → held s (event ∷ past) x ≡ if_target s x n (gift_held gift k None) (held s past x)
    → ((y : Target) → target_is s n y ≡ same_target y t) → gift.space ≡ n → IsHeld s past x h → IsHeld s (event ∷ past) x (held_chosen t gift k x h)
chosen_held s past event x t n k gift h by known same is =
    at (same_target x t) refl (by ∙ ap (λ b. if b then gift_held gift k None else held s past x) (known x))
  where
    at : (b : Bool) → same_target x t ≡ b → held s (event ∷ past) x ≡ (if b then gift_held gift k None else held s past x) → IsHeld s (event ∷ past) x (if b then Some (bare gift k None) else h)
    at true it e = record { is_held = e; is_known = record { space = tt; identity = tt; named = tt }; of_target = λ y. ap (λ z. target_is s z y) same ∙ known y ∙ swapped_back x t y it }
    at false it e = record { is_held = e ∙ is.is_held; is_known = is.is_known; of_target = is.of_target }

-- a choice that gives a gift or the default identity goes on to the next head
pub chosen_ties : (s : Setting) (m : Kept) (t : Target) (n k terms : ℕ) (gift : Gift) (reply : BookReply) → m.stage ≡ Selecting t n k
    → ((x : Target) → held s (Called (Select n k) reply ∷ m.past) x ≡ if_target s x n (gift_held gift terms None) (held s m.past x))
    → move s (Called (Select n k) reply ∷ m.past) ≡ Goes (go s (Called (Select n k) reply ∷ m.past)) → prompt_open (Called (Select n k) reply ∷ m.past) (Called (Select n k) reply ∷ m.past) ≡ prompt_open (Called (Select n k) reply ∷ m.past) m.past
    → gift.space ≡ n → is_follow (Called (Select n k) reply) ≡ false → IsTrue (suits s m.past (Select n k) reply) → Ties s m
    → Ties s (record m { past = Called (Select n k) reply ∷ m.past; stage = Go; proxy = held_chosen t gift terms Proxy m.proxy; server = held_chosen t gift terms Server m.server })
chosen_ties s m x n k terms gift reply same by goes prompt spaced follow suited t =
    let no_end : list_any is_end m.past ≡ false = t.ended ∙ ap is_after_end same in
    let at : IsStage s m.past (Selecting x n k) = subst (IsStage s m.past) same t.stage in
    let event : Event = Called (Select n k) reply in
    still_ties s m event Go (held_chosen x gift terms Proxy m.proxy) (held_chosen x gift terms Server m.server)
    (record {
      drawn = λ y. refl;
      carried = λ y. refl;
      links = refl;
      heads = refl;
      code = refl;
      rounds = zero-add (rounds s m.past);
      is_dialed = refl;
      stays = λ link. refl;
      has_lost = refl;
      has_none = refl;
      prompt = prompt ∙ open_behind m.past event (λ p. refl);
    }) t tt
    (chosen_held s m.past event Proxy x n terms gift m.proxy (by Proxy) at.2 spaced t.proxy)
    (chosen_held s m.past event Server x n terms gift m.server (by Server) at.2 spaced t.server)
    (record {
      stands = ((at.0, subst (λ v. Follows s m.past v event) (sym at.1) (refl, suited)), ap (carried_out s (event ∷ m.past)) goes);
      ended = no_end;
      may_stop = rw (follow, no_end) refl;
      open_still = zero-add (closings_made s m.past) ∙ subst (λ stage. IsOpen stage (closings_made s m.past)) same t.open_still;
    })

pub cached_ties : (s : Setting) (m : Kept) (t : Target) (n k : ℕ) (gift : Gift) → m.stage ≡ Selecting t n k → IsTrue (suits s m.past (Select n k) (Cached gift)) → Ties s m
    → Ties s (record m { past = Called (Select n k) (Cached gift) ∷ m.past; stage = Go; proxy = held_chosen t gift k Proxy m.proxy; server = held_chosen t gift k Server m.server })
cached_ties s m x n k gift same suited t = chosen_ties s m x n k k gift (Cached gift) same (λ y. refl) refl refl (held_space s gift n k suited) refl suited t

pub url_ties : (s : Setting) (m : Kept) (t : Target) (n k evicted : ℕ) (gift : Gift) → m.stage ≡ Selecting t n k → IsTrue (suits s m.past (Select n k) (Url gift evicted)) → Ties s m
    → Ties s (record m { past = Called (Select n k) (Url gift evicted) ∷ m.past; stage = Go; proxy = held_chosen t gift k Proxy m.proxy; server = held_chosen t gift k Server m.server })
url_ties s m x n k evicted gift same suited t = chosen_ties s m x n k k gift (Url gift evicted) same (λ y. refl) refl refl (held_space s gift n k suited) refl suited t

pub default_ties : (s : Setting) (m : Kept) (t : Target) (n k : ℕ) → m.stage ≡ Selecting t n k → IsTrue (suits s m.past (Select n k) Default) → Ties s m
    → Ties s (record m { past = Called (Select n k) Default ∷ m.past; stage = Go; proxy = held_chosen t (record { space = n; ordinal = 0 }) 0 Proxy m.proxy; server = held_chosen t (record { space = n; ordinal = 0 }) 0 Server m.server })
default_ties s m x n k same suited t = chosen_ties s m x n k 0 (record { space = n; ordinal = 0 }) Default same (λ y. refl) refl refl refl refl suited t
