-- What is held is known: each gift, its space, its terms and its identity mean something.
use Rattle.std.proofs.Common.{◌≡◌, ◌⊎◌, inl, inr, ℕ, Bool, true, false, ◌&&◌, ◌==◌, IsTrue, List, [], ◌∷◌, Option, Some, None, is_some, option_and_then, option_map, unwrap_or, refl, sym, ap, ◌∙◌, subst, if◌then◌else◌}
use Rattle.std.proofs.lemmas.Bool.{false≢true, eqb-true}
use Rattle.spaces.specs.declared.site.Target.{Target}
use Rattle.spaces.specs.declared.space.Scheme.{Scheme}
use Rattle.spaces.specs.declared.space.Scheme.TheVariants.{Digest, Negotiate}
use Rattle.spaces.specs.ProtectionSpaces.{ProtectionSpace}
use Rattle.spaces.specs.Sites.{same_target, same_scheme}
use Rattle.auth_events.specs.declared.journal.Gift.{Gift}
use Rattle.auth_events.specs.declared.journal.Call.{Call}
use Rattle.auth_events.specs.declared.journal.Call.TheVariants.{Preempt, Select, Reject, Renew, Answer, Take}
use Rattle.auth_events.specs.declared.journal.BookReply.{BookReply}
use Rattle.auth_events.specs.declared.journal.BookReply.TheVariants.{Ready, Url, Cached, Default, Given, Gave, Cancelled, Lost}
use Rattle.auth_events.specs.Pages.{fits}
use Rattle.link_trait.specs.declared.steps.StepSeen.{StepSeen}
use Rattle.link_trait.specs.declared.steps.StepSeen.TheVariants.{Token, NoMechanism}
use Rattle.auth_runs.specs.declared.event.Event.{Event}
use Rattle.auth_runs.specs.declared.event.Event.TheVariants.{Called, Drew, Headed, Replied, LinkLost, Stepped, Ended}
use Rattle.trace_rule.specs.Settings.{Setting, scheme_is, target_is, is_by_path, knows_gift, knows_terms}
use Rattle.trace_rule.specs.Holding.{Held, held, held_called, held_ready, held_selected, held_prompted, held_drew, held_stepped, held_headed, held_replied, held_lost, gift_held, terms_followed}
use Rattle.trace_rule.specs.Moves.{Want}
use Rattle.trace_rule.specs.Closings.{want}
use Rattle.trace_rule.specs.Moves.Want.{Calls, Answers, Writes, Loses, Ends}
use Rattle.trace_rule.specs.Traces.{IsPast, Follows, suits, agrees, may_hold, ready_agrees, choice_agrees, answer_agrees, take_agrees, space_prompted}

-- the parts of a test

pub both_of : (a b : Bool) → IsTrue (a && b) → IsTrue a × IsTrue b
both_of true b h = (refl, h)
both_of false b h = absurd (false≢true h)

pub one_of : (a b : Bool) → IsTrue (if a then b else true) → (a ≡ false) ⊎ IsTrue b
one_of true b h = inr h
one_of false b h = inl refl

-- a call that follows has a reply that suits it
pub suits_of : (s : Setting) (past : List Event) (w : Want) (call : Call) (reply : BookReply) → Follows s past w (Called call reply) → IsTrue (suits s past call reply)
suits_of s past (Calls wanted) call reply h = h.1
suits_of s past (Answers prompt terms) (Answer p x t) reply h = h.3
suits_of s past (Answers prompt terms) _ reply h = absurd h
suits_of s past (Writes link bytes) call reply h = let e : Called call reply ≡ Headed link bytes = h in cc
suits_of s past (Loses link) call reply h = let e : Called call reply ≡ LinkLost link = h in cc
suits_of s past (Ends outcome) call reply h = let e : Called call reply ≡ Ended outcome = h in cc
suits_of s past _ call reply h = absurd h

pub agrees_of : (s : Setting) (past : List Event) (call : Call) (reply : BookReply) → Follows s past (want s past) (Called call reply) → IsTrue (agrees s past call reply)
agrees_of s past call reply h = (both_of (fits call reply) (agrees s past call reply) (suits_of s past (want s past) call reply h)).1

-- KNOWN

-- the gift's space, its terms and its identity are known; ordinal 0 stands for the default identity
pub record IsKnown (s : Setting) (gift : Gift) (terms : ℕ) : Type 0 where
  pub space : IsTrue (is_some (s.space_of gift.space))
  pub terms_known : IsTrue (knows_terms s gift.space terms)
  pub identity : (gift.ordinal ≡ 0) × IsTrue (scheme_is s gift.space Negotiate) ⊎ IsTrue (is_some (s.identity_of gift))

abbrev pub Knows : Setting → Option Held → Type 0
Knows s None = Unit {0}
Knows s (Some h) = IsKnown s h.gift h.terms

pub knows_if : (s : Setting) (b : Bool) (x y : Option Held) → Knows s x → Knows s y → Knows s (if b then x else y)
knows_if s true x y a b = a
knows_if s false x y a b = b

-- a gift that may be held
pub may_hold_known : (s : Setting) (gift : Gift) (space terms : ℕ) → IsTrue (may_hold s gift space terms) → IsKnown s gift terms × (gift.space ≡ space)
may_hold_known s gift space terms h =
    let first = both_of (gift.space == space && knows_gift s gift) (knows_terms s space terms) h in
    let second = both_of (gift.space == space) (knows_gift s gift) first.0 in
    let parts = both_of (is_some (s.space_of gift.space)) (is_some (s.identity_of gift)) second.1 in
    let same : gift.space ≡ space = eqb-true gift.space space second.0 in
    (record { space = parts.0; terms_known = subst (λ n. IsTrue (knows_terms s n terms)) (sym same) first.1; identity = inr parts.1 }, same)

-- a Negotiate space is known, and needs no terms
pub negotiate_known : (s : Setting) (space : ℕ) → IsTrue (scheme_is s space Negotiate) → IsKnown s (record { space = space; ordinal = 0 }) 0
negotiate_known s space h = by_space (s.space_of space) refl
  where
    by_scheme : (named : ProtectionSpace) (scheme : Scheme) → named.scheme ≡ scheme → s.space_of space ≡ Some named → IsKnown s (record { space = space; ordinal = 0 }) 0
    by_scheme named Digest e found = let clash : false ≡ true = sym (ap (λ o. unwrap_or (option_map (λ n. same_scheme n.scheme Negotiate) o) false) found ∙ ap (λ x. same_scheme x Negotiate) e) ∙ h in absurd (false≢true clash)
    by_scheme named scheme e found =
        let none : scheme_is s space Digest ≡ same_scheme scheme Digest = ap (λ o. unwrap_or (option_map (λ n. same_scheme n.scheme Digest) o) false) found ∙ ap (λ x. same_scheme x Digest) e in
        record { space = ap is_some found; terms_known = ap (λ b. if b then is_some (s.terms_of 0) else true) none; identity = inl (refl, h) }

    by_space : (o : Option ProtectionSpace) → s.space_of space ≡ o → IsKnown s (record { space = space; ordinal = 0 }) 0
    by_space None found = let clash : false ≡ true = sym (ap (λ o. unwrap_or (option_map (λ n. same_scheme n.scheme Negotiate) o) false) found) ∙ h in absurd (false≢true clash)
    by_space (Some named) found = by_scheme named named.scheme refl found

ready_known : (s : Setting) (target : Target) (reply : BookReply) (before : Option Held) → IsTrue (ready_agrees s target reply) → Knows s before → Knows s (held_ready reply before)
ready_known s target (Ready gift terms epoch) before h k = (may_hold_known s gift gift.space terms (both_of (target_is s gift.space target && is_by_path s gift.space) (may_hold s gift gift.space terms) h).1).0
ready_known s target _ before h k = k

choice_known : (s : Setting) (past : List Event) (space terms : ℕ) (reply : BookReply) (before : Option Held) → IsTrue (choice_agrees s past space terms reply) → Knows s before → Knows s (held_selected space terms reply before)
choice_known s past space terms (Url gift evicted) before h k = (may_hold_known s gift space terms h).0
choice_known s past space terms (Cached gift) before h k = (may_hold_known s gift space terms h).0
choice_known s past space terms Default before h k = negotiate_known s space h
choice_known s past space terms _ before h k = k

-- behind an answer, or behind what was taken
answer_known : (s : Setting) (t : Target) (space text terms : ℕ) (reply : BookReply) (before : Option Held) → IsTrue (fits (Answer 0 text terms) reply) → IsTrue (answer_agrees s space text terms reply) → Knows s before → Knows s (held_prompted s t terms reply before)
answer_known s t space text terms (Given gift evicted) before f h k =
    knows_if s _ (gift_held gift terms None) before (may_hold_known s gift space terms (both_of _ _ h).1).0 k
answer_known s t space text terms (Gave gift) before f h k = absurd (false≢true f)
answer_known s t space text terms _ before f h k = k

take_known : (s : Setting) (t : Target) (space terms : ℕ) (reply : BookReply) (before : Option Held) → IsTrue (fits (Take 0) reply) → IsTrue (take_agrees s space terms reply) → Knows s before → Knows s (held_prompted s t terms reply before)
take_known s t space terms (Gave gift) before f h k = knows_if s _ (gift_held gift terms None) before (may_hold_known s gift space terms h).0 k
take_known s t space terms (Given gift evicted) before f h k = absurd (false≢true f)
take_known s t space terms _ before f h k = k

fits_answer : (p x t : ℕ) (reply : BookReply) → fits (Answer p x t) reply ≡ fits (Answer 0 x t) reply
fits_answer p x t (Given gift evicted) = refl
fits_answer p x t Cancelled = refl
fits_answer p x t _ = refl

fits_take : (p : ℕ) (reply : BookReply) → fits (Take p) reply ≡ fits (Take 0) reply
fits_take p (Gave gift) = refl
fits_take p Cancelled = refl
fits_take p (Lost loss) = refl
fits_take p _ = refl

called_known : (s : Setting) (t : Target) (past : List Event) (call : Call) (reply : BookReply) (before : Option Held) → IsTrue (suits s past call reply) → Knows s before → Knows s (held_called s t past call reply before)
called_known s t past (Preempt target) reply before h k = knows_if s (same_target target t) (held_ready reply before) before (ready_known s target reply before (both_of _ _ h).1 k) k
called_known s t past (Select space terms) reply before h k = knows_if s _ (held_selected space terms reply before) before (choice_known s past space terms reply before (both_of _ _ h).1 k) k
called_known s t past (Reject space ordinal) reply before h k = knows_if s _ None before tt k
called_known s t past (Renew gift terms) reply before h k =
    let known = both_of (knows_gift s gift) (knows_terms s gift.space terms) (both_of _ _ h).1 in
    let parts = both_of (is_some (s.space_of gift.space)) (is_some (s.identity_of gift)) known.0 in
    knows_if s _ (gift_held gift terms None) before (record { space = parts.0; terms_known = known.1; identity = inr parts.1 }) k
called_known s t past (Answer prompt text terms) reply before h k =
    answer_known s t (space_prompted past prompt) text terms reply before (sym (fits_answer prompt text terms reply) ∙ (both_of _ _ h).0) (both_of _ _ h).1 k
called_known s t past (Take prompt) reply before h k =
    take_known s t (space_prompted past prompt) (terms_followed past prompt) reply before (sym (fits_take prompt reply) ∙ (both_of _ _ h).0) (both_of _ _ h).1 k
called_known s t past _ reply before h k = k

stepped_known : (s : Setting) (step : StepSeen) (h : Held) → IsKnown s h.gift h.terms → Knows s (held_stepped step h)
stepped_known s (Token token) h k = k
stepped_known s NoMechanism h k = knows_if s (is_some h.context) (Some h) None k tt
stepped_known s _ h k = k

-- what is kept, changed in its context alone, is known
kept_known : (s : Setting) (f : Held → Option Held) → ((h : Held) → IsKnown s h.gift h.terms → Knows s (f h)) → (before : Option Held) → Knows s before → Knows s (option_and_then f before)
kept_known s f keeps None k = tt
kept_known s f keeps (Some h) k = keeps h k

changed_known : (s : Setting) (f : Held → Held) → ((h : Held) → IsKnown s h.gift h.terms → IsKnown s (f h).gift (f h).terms) → (before : Option Held) → Knows s before → Knows s (option_map f before)
changed_known s f keeps None k = tt
changed_known s f keeps (Some h) k = keeps h k

pub known_held : (s : Setting) (past : List Event) → IsPast s past → (t : Target) → Knows s (held s past t)
known_held s [] run t = tt
known_held s (Called call reply ∷ past) run t =
    called_known s t past call reply (held s past t) (suits_of s past (want s past) call reply run.1) (known_held s past run.0 t)
known_held s (Drew target nonce count epoch ∷ past) run t =
    knows_if s (same_target target t) (option_and_then (held_drew epoch) (held s past t)) (held s past t)
    (kept_known s (held_drew epoch) (λ h k. knows_if s _ (Some h) None k tt) (held s past t) (known_held s past run.0 t)) (known_held s past run.0 t)
known_held s (Stepped target step ∷ past) run t =
    knows_if s (same_target target t) (option_and_then (held_stepped step) (held s past t)) (held s past t)
    (kept_known s (held_stepped step) (stepped_known s step) (held s past t) (known_held s past run.0 t)) (known_held s past run.0 t)
known_held s (Headed link bytes ∷ past) run t = changed_known s (held_headed link) (λ h k. k) (held s past t) (known_held s past run.0 t)
known_held s (Replied link reply ∷ past) run t =
    kept_known s (held_replied s t reply) (λ h k. knows_if s _ None (Some h) tt k) (held s past t) (known_held s past run.0 t)
known_held s (LinkLost link ∷ past) run t = changed_known s held_lost (λ h k. k) (held s past t) (known_held s past run.0 t)
known_held s (_ ∷ past) run t = known_held s past run.0 t
