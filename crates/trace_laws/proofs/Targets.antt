-- Who is held for a target is of a space of that target.
use Rattle.std.proofs.Common.{◌≡◌, ℕ, Bool, true, false, ◌&&◌, ◌==◌, IsTrue, List, [], ◌∷◌, Option, Some, None, is_some, is_none, option_and_then, option_map, unwrap_or, refl, sym, subst, if◌then◌else◌}
use Rattle.spaces.specs.declared.site.Target.{Target}
use Rattle.spaces.specs.Sites.{same_target}
use Rattle.auth_events.specs.declared.journal.Call.{Call}
use Rattle.auth_events.specs.declared.journal.Call.TheVariants.{Preempt, Select, Reject, Renew, Answer, Take}
use Rattle.auth_events.specs.declared.journal.BookReply.{BookReply}
use Rattle.auth_events.specs.declared.journal.BookReply.TheVariants.{Ready, Url, Cached, Default, Given, Gave}
use Rattle.link_trait.specs.declared.steps.StepSeen.{StepSeen}
use Rattle.link_trait.specs.declared.steps.StepSeen.TheVariants.{NoMechanism, Token}
use Rattle.auth_runs.specs.declared.event.Event.{Event}
use Rattle.auth_runs.specs.declared.event.Event.TheVariants.{Called, Drew, Headed, Replied, LinkLost, Stepped}
use Rattle.trace_rule.specs.Settings.{Setting, target_is, is_by_path}
use Rattle.trace_rule.specs.Challenges.{challenges_target}
use Rattle.trace_rule.specs.Holding.{Held, held, held_called, held_ready, held_selected, held_prompted, held_drew, held_stepped, held_headed, held_replied, held_lost, gift_held, deciding, terms_followed}
use Rattle.trace_rule.specs.Traces.{IsPast, agrees, may_hold, ready_agrees, choice_agrees}
use Rattle.trace_rule.proofs.Knowing.{both_of, agrees_of, may_hold_known}
use Rattle.trace_rule.proofs.Negotiating.{equal_targets}

-- THE TARGET

-- the space is of the target
abbrev pub IsTargeted : Setting → Target → Option Held → Type 0
IsTargeted s t None = Unit {0}
IsTargeted s t (Some h) = IsTrue (target_is s h.gift.space t)

targeted_if : (s : Setting) (t : Target) (b : Bool) (x y : Option Held) → (IsTrue b → IsTargeted s t x) → IsTargeted s t y → IsTargeted s t (if b then x else y)
targeted_if s t true x y f p = f refl
targeted_if s t false x y f p = p

ready_targeted : (s : Setting) (t target : Target) (reply : BookReply) (before : Option Held) → IsTrue (ready_agrees s target reply) → IsTrue (same_target target t) → IsTargeted s t before → IsTargeted s t (held_ready reply before)
ready_targeted s t target (Ready gift terms epoch) before a same p =
    let both = both_of (target_is s gift.space target && is_by_path s gift.space) (may_hold s gift gift.space terms) a in
    subst (λ x. IsTrue (target_is s gift.space x)) (equal_targets target t same) (both_of (target_is s gift.space target) (is_by_path s gift.space) both.0).0
ready_targeted s t target _ before a same p = p

choice_targeted : (s : Setting) (t : Target) (past : List Event) (space terms : ℕ) (reply : BookReply) (before : Option Held) → IsTrue (choice_agrees s past space terms reply) → IsTrue (target_is s space t) → IsTargeted s t before → IsTargeted s t (held_selected space terms reply before)
choice_targeted s t past space terms (Url gift evicted) before a target p = subst (λ x. IsTrue (target_is s x t)) (sym (may_hold_known s gift space terms a).1) target
choice_targeted s t past space terms (Cached gift) before a target p = subst (λ x. IsTrue (target_is s x t)) (sym (may_hold_known s gift space terms a).1) target
choice_targeted s t past space terms Default before a target p = target
choice_targeted s t past space terms _ before a target p = p

prompted_targeted : (s : Setting) (t : Target) (terms : ℕ) (reply : BookReply) (before : Option Held) → IsTargeted s t before → IsTargeted s t (held_prompted s t terms reply before)
prompted_targeted s t terms (Given gift evicted) before p = targeted_if s t (target_is s gift.space t) (gift_held gift terms None) before (λ k. k) p
prompted_targeted s t terms (Gave gift) before p = targeted_if s t (target_is s gift.space t) (gift_held gift terms None) before (λ k. k) p
prompted_targeted s t terms _ before p = p

called_targeted : (s : Setting) (t : Target) (past : List Event) (call : Call) (reply : BookReply) (before : Option Held) → IsTrue (agrees s past call reply) → IsTargeted s t before → IsTargeted s t (held_called s t past call reply before)
called_targeted s t past (Preempt target) reply before a p = targeted_if s t (same_target target t) (held_ready reply before) before (λ k. ready_targeted s t target reply before a k p) p
called_targeted s t past (Select space terms) reply before a p = targeted_if s t (target_is s space t) (held_selected space terms reply before) before (λ k. choice_targeted s t past space terms reply before a k p) p
called_targeted s t past (Reject space ordinal) reply before a p = targeted_if s t (target_is s space t) None before (λ k. tt) p
called_targeted s t past (Renew gift terms) reply before a p = targeted_if s t (target_is s gift.space t) (gift_held gift terms None) before (λ k. k) p
called_targeted s t past (Answer prompt text terms) reply before a p = prompted_targeted s t terms reply before p
called_targeted s t past (Take prompt) reply before a p = prompted_targeted s t (terms_followed past prompt) reply before p
called_targeted s t past _ reply before a p = p

kept_targeted : (s : Setting) (t : Target) (f : Held → Option Held) → ((h : Held) → IsTargeted s t (Some h) → IsTargeted s t (f h)) → (o : Option Held) → IsTargeted s t o → IsTargeted s t (option_and_then f o)
kept_targeted s t f keeps None p = tt
kept_targeted s t f keeps (Some h) p = keeps h p

changed_targeted : (s : Setting) (t : Target) (f : Held → Held) → ((h : Held) → (f h).gift ≡ h.gift) → (o : Option Held) → IsTargeted s t o → IsTargeted s t (option_map f o)
changed_targeted s t f same None p = tt
changed_targeted s t f same (Some h) p = subst (λ g. IsTrue (target_is s g.space t)) (sym (same h)) p

stepped_targeted : (s : Setting) (t : Target) (step : StepSeen) (h : Held) → IsTargeted s t (Some h) → IsTargeted s t (held_stepped step h)
stepped_targeted s t (Token token) h p = p
stepped_targeted s t NoMechanism h p = targeted_if s t (is_some h.context) (Some h) None (λ k. p) tt
stepped_targeted s t _ h p = p

pub targeted : (s : Setting) (past : List Event) → IsPast s past → (t : Target) → IsTargeted s t (held s past t)
targeted s [] run t = tt
targeted s (Called call reply ∷ past) run t = called_targeted s t past call reply (held s past t) (agrees_of s past call reply run.1) (targeted s past run.0 t)
targeted s (Drew target nonce count epoch ∷ past) run t =
    targeted_if s t (same_target target t) (option_and_then (held_drew epoch) (held s past t)) (held s past t)
    (λ k. kept_targeted s t (held_drew epoch) (λ h p. targeted_if s t (unwrap_or h.preemptive epoch == epoch) (Some h) None (λ b. p) tt) (held s past t) (targeted s past run.0 t)) (targeted s past run.0 t)
targeted s (Stepped target step ∷ past) run t =
    targeted_if s t (same_target target t) (option_and_then (held_stepped step) (held s past t)) (held s past t)
    (λ k. kept_targeted s t (held_stepped step) (stepped_targeted s t step) (held s past t) (targeted s past run.0 t)) (targeted s past run.0 t)
targeted s (Headed link bytes ∷ past) run t = changed_targeted s t (held_headed link) (λ h. refl) (held s past t) (targeted s past run.0 t)
targeted s (Replied link reply ∷ past) run t =
    kept_targeted s t (held_replied s t reply) (λ h p. targeted_if s t (challenges_target s reply t && is_none (deciding s reply t h)) None (Some h) (λ b. tt) p) (held s past t) (targeted s past run.0 t)
targeted s (LinkLost link ∷ past) run t = changed_targeted s t held_lost (λ h. refl) (held s past t) (targeted s past run.0 t)
targeted s (_ ∷ past) run t = targeted s past run.0 t
