-- What is held goes out with terms of its own space.
use Rattle.std.proofs.Common.{◌≡◌, ◌⊎◌, inl, inr, ℕ, Bool, true, false, ◌&&◌, ◌==◌, cond, IsTrue, List, [], ◌∷◌, map, Option, Some, None, is_some, is_none, option_and_then, option_map, unwrap_or, refl, sym, ap, ◌∙◌, subst, if◌then◌else◌}
use Rattle.std.proofs.lemmas.Bool.{false≢true}
use Rattle.std.proofs.lemmas.Option.{none-some}
use Rattle.spaces.specs.declared.roster.Request.{Request}
use Rattle.spaces.specs.declared.roster.Roster.{Roster}
use Rattle.spaces.specs.declared.site.Target.{Target}
use Rattle.spaces.specs.declared.space.Scheme.{Scheme}
use Rattle.spaces.specs.declared.space.Scheme.TheVariants.{Basic, Digest, Negotiate, Password}
use Rattle.spaces.specs.ProtectionSpaces.{ProtectionSpace}
use Rattle.spaces.specs.Sites.{numbered, same_scheme, same_target}
use Rattle.auth_events.specs.declared.journal.Gift.{Gift}
use Rattle.auth_events.specs.declared.journal.Call.{Call}
use Rattle.auth_events.specs.declared.journal.Call.TheVariants.{Answer, Preempt, Reject, Renew, Select, Take}
use Rattle.auth_events.specs.declared.journal.BookReply.{BookReply}
use Rattle.auth_events.specs.declared.journal.BookReply.TheVariants.{Cached, Default, Follow, Gave, Given, Ready, Url}
use Rattle.auth_events.specs.declared.journal.Entry.{Entry}
use Rattle.auth_events.specs.declared.names.TermsName.{TermsName}
use Rattle.auth_events.specs.Book.{IsLegalPast, allowed_call, answer, fits_space, has_terms, is_digest, own}
use Rattle.auth_events.specs.Tables.{Tables, is_home}
use Rattle.auth_events.proofs.Same.{number_refl, number_same}
use Rattle.history_laws.proofs.Leaving.{GivesNext, GivesNone, gives_next}
use Rattle.link_trait.specs.declared.steps.StepSeen.{StepSeen}
use Rattle.link_trait.specs.declared.steps.StepSeen.TheVariants.{NoMechanism, Token}
use Rattle.auth_runs.specs.Runs.{Each}
use Rattle.auth_runs.specs.declared.event.Event.{Event}
use Rattle.auth_runs.specs.declared.event.Event.TheVariants.{Called, Drew, Headed, LinkLost, Replied, Stepped}
use Rattle.trace_rule.specs.Settings.{Setting, scheme_is, target_is}
use Rattle.trace_rule.specs.Challenges.{challenges_target}
use Rattle.trace_rule.specs.Closings.{with_nonce}
use Rattle.trace_rule.specs.Holding.{Held, carried, deciding, gift_held, held, held_called, held_drew, held_headed, held_lost, held_ready, held_replied, held_selected, held_stepped, terms_followed}
use Rattle.trace_rule.specs.Entries.{AreEntries, Made, calls, made_in}
use Rattle.trace_rule.specs.Serving.{IsServing, setting_in}
use Rattle.trace_rule.specs.Traces.{IsPast, agrees, space_prompted}
use Rattle.trace_rule.proofs.Knowing.{agrees_of, may_hold_known}
use Rattle.trace_rule.proofs.Negotiating.{IsFollowBehind, taken_from}
use Rattle.trace_rule.proofs.Stages.{fits_of}
use Rattle.trace_laws.proofs.Givings.{answered_fits, held_fits, may_of, ready_in, renewed_fits, selected_fits}
use Rattle.trace_laws.proofs.Schemes.{digest_named}

-- a Negotiate space is no Digest space
negotiate_other : (o : Option ProtectionSpace) → IsTrue (unwrap_or (option_map (λ (k : ProtectionSpace). same_scheme k.scheme Negotiate) o) false) → unwrap_or (option_map (λ (k : ProtectionSpace). is_digest k.scheme) o) false ≡ false
negotiate_other None h = refl
negotiate_other (Some space) h = at space.scheme h
  where
    at : (scheme : Scheme) → IsTrue (same_scheme scheme Negotiate) → is_digest scheme ≡ false
    at Negotiate h = refl
    at Basic h = refl
    at Password h = refl
    at Digest h = absurd (false≢true h)

module _ (names : Tables) where
  -- BY ENTRIES

  -- the terms of a call, or those that come back with it, are of their space
  abbrev fit_made : Call → BookReply → Bool
  fit_made (Select space t) reply = fits_space names space t
  fit_made (Renew gift t) reply = fits_space names gift.space t
  fit_made (Answer p text t) (Given gift evicted) = fits_space names gift.space t
  fit_made (Preempt target) (Ready gift t epoch) = fits_space names gift.space t
  fit_made call reply = true

  abbrev pub FitMade : Made → Type 0
  FitMade m = IsTrue (fit_made m.call m.reply)

  module _ (roster : Roster) where
    fit_step : (past : List Entry) → IsLegalPast roster names past → (r : ℕ) (call : Call) (reply : BookReply) → reply ≡ answer roster names past r call → IsTrue (allowed_call roster names past r call)
        → (GivesNone reply ⊎ GivesNext names past call reply) → IsTrue (fit_made call reply)
    fit_step past legal r (Select space t) reply is may gives = selected_fits roster names past r space t may
    fit_step past legal r (Renew gift t) reply is may gives = renewed_fits roster names past r gift t may
    fit_step past legal r (Answer p text t) (Given gift evicted) is may gives = at gives
      where
        at : GivesNone (Given gift evicted) ⊎ GivesNext names past (Answer p text t) (Given gift evicted) → IsTrue (fits_space names gift.space t)
        at (inl none) = absurd (none-some gift (sym none.0))
        at (inr next) =
            let space : next.space ≡ gift.space = ap (λ o. unwrap_or (option_map (λ (x : Gift). x.space) o) 0) (sym next.gift) in
            subst (λ n. IsTrue (fits_space names n t)) (sym next.asked ∙ space) (answered_fits roster names past legal r p text t may)
    fit_step past legal r (Preempt target) (Ready gift t epoch) is may gives =
        let ready = ready_in roster names past r target gift t epoch is in
        subst (λ n. IsTrue (fits_space names gift.space n)) (sym ready.own_terms) (held_fits roster names past legal gift.space gift ready.held)
    fit_step past legal r call reply is may gives = refl

    own_fit : (entries : List Entry) → IsLegalPast roster names entries → (r : ℕ) → Each FitMade (map made_in (own entries r))
    own_fit [] legal r = tt
    own_fit (x ∷ xs) legal r = at (x.request == r) (own_fit xs legal.0 r)
      where
        at : (b : Bool) → Each FitMade (map made_in (own xs r)) → Each FitMade (map made_in (cond b (x ∷ own xs r) (own xs r)))
        at true later = (fit_step xs legal.0 x.request x.call x.reply legal.1.1 (may_of roster names xs x legal.1) (gives_next roster names xs x legal.1), later)
        at false later = later

    pub calls_fit : (entries : List Entry) → IsLegalPast roster names entries → (r : ℕ) (whole : List Event) → AreEntries entries r whole → Each FitMade (calls whole)
    calls_fit entries legal r whole same = subst (Each FitMade) same (own_fit entries legal r)

  pub earlier_fit : (event : Event) (past : List Event) → Each FitMade (calls (event ∷ past)) → Each FitMade (calls past)
  earlier_fit (Called call reply) past all = all.1
  earlier_fit _ past all = all

  -- BY EVENTS

  abbrev pub IsFit : Option Held → Type 0
  IsFit None = Unit {0}
  IsFit (Some h) = IsTrue (fits_space names h.gift.space h.terms)

  fit_if : (b : Bool) (x y : Option Held) → IsFit x → IsFit y → IsFit (if b then x else y)
  fit_if true x y p q = p
  fit_if false x y p q = q

  kept_fit : (f : Held → Option Held) → ((h : Held) → IsFit (Some h) → IsFit (f h)) → (o : Option Held) → IsFit o → IsFit (option_and_then f o)
  kept_fit f keeps None p = tt
  kept_fit f keeps (Some h) p = keeps h p

  stepped_fit : (step : StepSeen) (h : Held) → IsFit (Some h) → IsFit (held_stepped step h)
  stepped_fit (Token token) h p = p
  stepped_fit NoMechanism h p = fit_if (is_some h.context) (Some h) None p tt
  stepped_fit _ h p = p

  headed_fit : (link : ℕ) (o : Option Held) → IsFit o → IsFit (option_map (held_headed link) o)
  headed_fit link None p = tt
  headed_fit link (Some h) p = p

  lost_fit : (o : Option Held) → IsFit o → IsFit (option_map held_lost o)
  lost_fit None p = tt
  lost_fit (Some h) p = p

  module _ (n : Bool) (roster : Roster) (seed : List ℕ) (entries : List Entry) (r : ℕ) (request : Request) where
    abbrev here : Setting
    here = setting_in n roster seed names entries r request

    chosen_fit : (past : List Event) (space t : ℕ) (reply : BookReply) (before : Option Held) → IsTrue (agrees here past (Select space t) reply) → IsTrue (fits_space names space t) → IsFit before → IsFit (held_selected space t reply before)
    chosen_fit past space t (Url gift evicted) before a fit p = subst (λ x. IsTrue (fits_space names x t)) (sym (may_hold_known here gift space t a).1) fit
    chosen_fit past space t (Cached gift) before a fit p = subst (λ x. IsTrue (fits_space names x t)) (sym (may_hold_known here gift space t a).1) fit
    chosen_fit past space t Default before a fit p = ap (λ b. cond b (has_terms names space 0) true) (negotiate_other (numbered names.spaces space) a)
    chosen_fit past space t _ before a fit p = p

    taken_fit : (past : List Event) (q : ℕ) (gift : Gift) → IsPast here (Called (Take q) (Gave gift) ∷ past) → IsTrue (agrees here past (Take q) (Gave gift)) → Each FitMade (calls past) → IsTrue (fits_space names gift.space (terms_followed past q))
    taken_fit past q gift run a all = at (taken_from here past q (Gave gift) run)
      where
        at : IsFollowBehind q past → IsTrue (fits_space names gift.space (terms_followed past q))
        at (space, t, b, e) =
            let space_is : space_prompted past q ≡ space = ap (λ x. space_prompted x q) e ∙ ap (λ x. unwrap_or (if x then Some space else None) (space_prompted b q)) (number_refl q) in
            let terms_are : terms_followed past q ≡ t = ap (λ x. terms_followed x q) e ∙ ap (λ x. unwrap_or (if x then Some t else None) (terms_followed b q)) (number_refl q) in
            let first : Each FitMade (calls (Called (Select space t) (Follow q) ∷ b)) = subst (λ x. Each FitMade (calls x)) e all in
            subst (λ x. IsTrue (fits_space names gift.space x)) (sym terms_are)
            (subst (λ x. IsTrue (fits_space names x t)) (sym ((may_hold_known here gift (space_prompted past q) (terms_followed past q) a).1 ∙ space_is)) first.0)

    called_fit : (t : Target) (past : List Event) (call : Call) (reply : BookReply) (before : Option Held) → IsPast here (Called call reply ∷ past) → IsTrue (fit_made call reply) → Each FitMade (calls past) → IsFit before → IsFit (held_called here t past call reply before)
    called_fit t past (Preempt target) reply before run fit all p = fit_if (same_target target t) (held_ready reply before) before (ready reply fit) p
      where
        ready : (b : BookReply) → IsTrue (fit_made (Preempt target) b) → IsFit (held_ready b before)
        ready (Ready gift terms epoch) f = f
        ready _ f = p
    called_fit t past (Select space terms) reply before run fit all p = fit_if (target_is here space t) (held_selected space terms reply before) before (chosen_fit past space terms reply before (agrees_of here past (Select space terms) reply run.1) fit p) p
    called_fit t past (Reject space ordinal) reply before run fit all p = fit_if (target_is here space t) None before tt p
    called_fit t past (Renew gift terms) reply before run fit all p = fit_if (target_is here gift.space t) (gift_held gift terms None) before fit p
    called_fit t past (Answer q text terms) (Given gift evicted) before run fit all p = fit_if (target_is here gift.space t) (gift_held gift terms None) before fit p
    called_fit t past (Answer q text terms) (Gave gift) before run fit all p = absurd (false≢true (fits_of here past (Answer q text terms) (Gave gift) run.1))
    called_fit t past (Answer q text terms) reply before run fit all p = p
    called_fit t past (Take q) (Gave gift) before run fit all p =
        fit_if (target_is here gift.space t) (gift_held gift (terms_followed past q) None) before (taken_fit past q gift run (agrees_of here past (Take q) (Gave gift) run.1) all) p
    called_fit t past (Take q) (Given gift evicted) before run fit all p = absurd (false≢true (fits_of here past (Take q) (Given gift evicted) run.1))
    called_fit t past (Take q) reply before run fit all p = p
    called_fit t past _ reply before run fit all p = p

    -- what is held goes out with terms of its own space
    pub fit_held : (past : List Event) → IsPast here past → Each FitMade (calls past) → (t : Target) → IsFit (held here past t)
    fit_held [] run all t = tt
    fit_held (Called call reply ∷ past) run all t = called_fit t past call reply (held here past t) run all.0 all.1 (fit_held past run.0 all.1 t)
    fit_held (Drew target nonce count epoch ∷ past) run all t =
        fit_if (same_target target t) (option_and_then (held_drew epoch) (held here past t)) (held here past t)
        (kept_fit (held_drew epoch) (λ h p. fit_if (unwrap_or h.preemptive epoch == epoch) (Some h) None p tt) (held here past t) (fit_held past run.0 all t)) (fit_held past run.0 all t)
    fit_held (Stepped target step ∷ past) run all t =
        fit_if (same_target target t) (option_and_then (held_stepped step) (held here past t)) (held here past t)
        (kept_fit (held_stepped step) (stepped_fit step) (held here past t) (fit_held past run.0 all t)) (fit_held past run.0 all t)
    fit_held (Headed link bytes ∷ past) run all t = headed_fit link (held here past t) (fit_held past run.0 all t)
    fit_held (Replied link reply ∷ past) run all t =
        kept_fit (held_replied here t reply) (λ h p. fit_if (challenges_target here reply t && is_none (deciding here reply t h)) None (Some h) tt p) (held here past t) (fit_held past run.0 all t)
    fit_held (LinkLost link ∷ past) run all t = lost_fit (held here past t) (fit_held past run.0 all t)
    fit_held (_ ∷ past) run all t = fit_held past run.0 all t

    pub fit_carried : (past : List Event) → IsPast here past → Each FitMade (calls past) → (t : Target) → IsFit (carried here past t)
    fit_carried [] run all t = tt
    fit_carried (Headed link bytes ∷ past) run all t = fit_held past run.0 all t
    fit_carried (Called call reply ∷ past) run all t = fit_carried past run.0 all.1 t
    fit_carried (_ ∷ past) run all t = fit_carried past run.0 all t

    -- the terms of a Digest gift are of its space
    pub own_terms : (h : Held) (name : TermsName) → IsFit (Some h) → IsTrue (scheme_is here h.gift.space Digest) → numbered names.terms h.terms ≡ Some name → name.space ≡ h.gift.space
    own_terms h name fit digest found =
        number_same name.space h.gift.space
        (sym (ap (λ o. unwrap_or (option_map (λ (x : TermsName). x.space == h.gift.space) o) false) found)
        ∙ (sym (ap (λ b. cond b (has_terms names h.gift.space h.terms) (h.terms == 0)) (digest_named (numbered names.spaces h.gift.space) digest)) ∙ fit))

pub next_home : (n : Bool) (roster : Roster) (seed : List ℕ) (names : Tables) (entries : List Entry) (caller r : ℕ) (request : Request) (past : List Event)
    → IsServing roster names entries caller r request (setting_in n roster seed names entries r request) past
    → (t : Target) (h : Held) (name : TermsName) (nonce : List ℕ) → carried (setting_in n roster seed names entries r request) past t ≡ Some h → IsTrue (scheme_is (setting_in n roster seed names entries r request) h.gift.space Digest)
    → numbered names.terms h.terms ≡ Some name → IsTrue (is_home names h.gift.space (with_nonce nonce name.terms))
next_home n roster seed names entries caller r request past v t h name nonce e digest found =
    let fit = subst (IsFit names) e (fit_carried names n roster seed entries r request past v.is_past (calls_fit names roster entries v.legal r past v.same_calls) t) in
    subst (λ x. IsTrue (is_home names x (with_nonce nonce name.terms))) (own_terms names n roster seed entries r request h name fit digest found) (v.are_names.home name h.terms found).home
