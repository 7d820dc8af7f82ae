-- A token that is held was given by the provider, in a context that was started for who is held.
use Rattle.std.proofs.Common.{◌≡◌, ℕ, Bool, true, false, ◌&&◌, ◌==◌, IsTrue, List, [], ◌∷◌, drop, Option, Some, None, is_some, is_none, option_and_then, option_map, unwrap_or, refl, sym, ap, ◌∙◌, subst, if◌then◌else◌}
use Rattle.std.specs.Prelude.{bytes_eq}
use Rattle.std.specs.List.{list_any}
use Rattle.std.proofs.lemmas.Bool.{false≢true}
use Rattle.auth_text.specs.Login.{Login}
use Rattle.spaces.specs.declared.site.Target.{Target}
use Rattle.spaces.specs.declared.site.Target.TheVariants.{Server, Proxy, Socks}
use Rattle.spaces.specs.Sites.{same_target}
use Rattle.auth_events.specs.declared.journal.Call.{Call}
use Rattle.auth_events.proofs.Same.{bytes_refl}
use Rattle.auth_events.proofs.Numbers.{or_left, or_right}
use Rattle.link_trait.specs.declared.steps.StepSeen.{StepSeen}
use Rattle.link_trait.specs.declared.steps.StepSeen.TheVariants.{Token, NoMechanism}
use Rattle.auth_runs.specs.declared.event.Outcome.{Outcome}
use Rattle.auth_runs.specs.declared.event.Event.{Event}
use Rattle.auth_runs.specs.declared.event.Event.TheVariants.{Called, Drew, Headed, Replied, LinkLost, Stepped}
use Rattle.trace_rule.specs.Settings.{Setting, or_else}
use Rattle.trace_rule.specs.Challenges.{challenges_target}
use Rattle.trace_rule.specs.Holding.{Held, Context, held, held_drew, held_stepped, held_headed, held_replied, held_lost, carried_on, deciding, context_of}
use Rattle.trace_rule.specs.Moves.{Want, Move, Asking, move, spn, identity_held}
use Rattle.trace_rule.specs.Moves.Want.{Calls, Steps, Reads, Ends, Rests}
use Rattle.trace_rule.specs.Moves.Move.{Goes, Closes}
use Rattle.trace_rule.specs.Moves.Asking.{Start, GoOn}
use Rattle.trace_rule.specs.Closings.{want, closings, closings_made, next_closing, carried_out}
use Rattle.trace_rule.specs.Contexts.{IsNextToken}
use Rattle.trace_rule.specs.Traces.{IsPast}
use Rattle.trace_rule.proofs.Negotiating.{equal_targets}
use Rattle.trace_rule.proofs.Stepping.{IsStepFor, step_for}
use Rattle.trace_laws.specs.Homes.{gives_token, start_in, last_start}
use Rattle.trace_laws.proofs.Rows.{Row, row, IsAside}
use Rattle.trace_laws.proofs.Rows.Row.{goes_on, reads, aside}
use Rattle.trace_laws.proofs.Ways.{Way, way}
use Rattle.trace_laws.proofs.Ways.Way.{starts, loses, dials, draws, writes}
use Rattle.trace_laws.proofs.Contexts.{called, token_keeps}

-- WHO A CONTEXT IS STARTED FOR

abbrev is_start : Want → Bool
is_start (Steps t (Start name identity)) = true
is_start _ = false

abbrev target_in : Want → Target
target_in (Steps t asking) = t
target_in _ = Socks

abbrev identity_in : Want → Option Login
identity_in (Steps t (Start name identity)) = identity
identity_in _ = None

abbrev StartsFor : Setting → List Event → Target → Option Login → Type 0
StartsFor s past t identity = (h : Held) × (held s past t ≡ Some h) × (identity ≡ identity_held s h)

start_from : (s : Setting) (past : List Event) (t : Target) (name : List ℕ) (identity : Option Login) → IsPast s past → want s past ≡ Steps t (Start name identity) → StartsFor s past t identity
start_from s past t name identity run wanted = at (row s past run)
  where
    no : {P : Type 0} (w : Want) → is_start w ≡ false → w ≡ Steps t (Start name identity) → P
    no w other e = absurd (false≢true (sym other ∙ ap is_start e))

    by_way : (w : Want) → Way s past w → w ≡ Steps t (Start name identity) → StartsFor s past t identity
    by_way w (starts u h held_now same) e =
        let both : Steps u (Start (spn s u) (identity_held s h)) ≡ Steps t (Start name identity) = sym same ∙ e in
        (h, subst (λ x. held s past x ≡ Some h) (ap target_in both) held_now, sym (ap identity_in both))
    by_way w (loses link b k same) e = no w (ap is_start same) e
    by_way w (dials free none same) e = no w (ap is_start same) e
    by_way w (draws u h named held_now n same) e = no w (ap is_start same) e
    by_way w (writes p q same) e = no w (ap is_start same) e

    at_list : (o : Outcome) (cs : List (Option Call)) → next_closing o cs ≡ Steps t (Start name identity) → StartsFor s past t identity
    at_list o [] e = no (Ends o) refl e
    at_list o (None ∷ cs) e = no Rests refl e
    at_list o (Some c ∷ cs) e = no (Calls c) refl e

    beside : (m : Move) → IsAside m → carried_out s past m ≡ Steps t (Start name identity) → StartsFor s past t identity
    beside (Goes w) a e = absurd (subst (λ x. IsAside (Goes x)) e a)
    beside (Closes o) a e = at_list o (drop (closings_made s past) (closings s past o)) e

    at : Row s past → StartsFor s past t identity
    at (goes_on m) = by_way _ (way s past) (sym (ap (carried_out s past) m) ∙ wanted)
    at (reads link bytes before p m) = no (Reads link) refl (sym (ap (carried_out s past) m) ∙ wanted)
    at (aside a) = beside (move s past) a wanted

-- WHAT IS HELD

-- the context's token was given for the target, and the last start was for who is held
abbrev pub IsGivenIn : Setting → List Event → Target → Held → Option Context → Type 0
IsGivenIn s past t h None = Unit {0}
IsGivenIn s past t h (Some context) = IsTrue (list_any (gives_token t context.token) past) × (last_start s past t ≡ Some (Start (spn s t) (identity_held s h)))

abbrev pub IsGiven : Setting → List Event → Target → Option Held → Type 0
IsGiven s past t None = Unit {0}
IsGiven s past t (Some h) = IsGivenIn s past t h h.context

-- an event that starts nothing for the target
given_in_later : (s : Setting) (past : List Event) (t : Target) (event : Event) (h : Held) (c : Option Context) → last_start s (event ∷ past) t ≡ last_start s past t → IsGivenIn s past t h c → IsGivenIn s (event ∷ past) t h c
given_in_later s past t event h None same g = tt
given_in_later s past t event h (Some context) same g = (or_right (gives_token t context.token event) (list_any (gives_token t context.token) past) g.0, same ∙ g.1)

given_later : (s : Setting) (past : List Event) (t : Target) (event : Event) (o : Option Held) → last_start s (event ∷ past) t ≡ last_start s past t → IsGiven s past t o → IsGiven s (event ∷ past) t o
given_later s past t event None same g = tt
given_later s past t event (Some h) same g = given_in_later s past t event h h.context same g

given_if : (s : Setting) (past : List Event) (t : Target) (b : Bool) (x y : Option Held) → IsGiven s past t x → IsGiven s past t y → IsGiven s past t (if b then x else y)
given_if s past t true x y p q = p
given_if s past t false x y p q = q

kept_given : (s : Setting) (past : List Event) (t : Target) (f : Held → Option Held) → ((h : Held) → IsGiven s past t (Some h) → IsGiven s past t (f h)) → (o : Option Held) → IsGiven s past t o → IsGiven s past t (option_and_then f o)
kept_given s past t f keeps None p = tt
kept_given s past t f keeps (Some h) p = keeps h p

headed_given : (s : Setting) (past : List Event) (t : Target) (link : ℕ) (o : Option Held) → IsGiven s past t o → IsGiven s past t (option_map (held_headed link) o)
headed_given s past t link None p = tt
headed_given s past t link (Some h) p = at h.context p
  where
    at : (c : Option Context) → IsGivenIn s past t h c → IsGivenIn s past t h (option_map (carried_on link) c)
    at None p = tt
    at (Some c) p = p

-- A STEP

same_self : (t : Target) → same_target t t ≡ true
same_self Server = refl
same_self Proxy = refl
same_self Socks = refl

-- a token goes to the context of who is held
token_given : (s : Setting) (past : List Event) (t : Target) (token : List ℕ) → IsPast s (Stepped t (Token token) ∷ past) → IsGiven s past t (held s past t) → IsGiven s (Stepped t (Token token) ∷ past) t (option_and_then (held_stepped (Token token)) (held s past t))
token_given s past t token run before = at (held s past t) refl before (token_keeps s past t token run)
  where
    now : IsTrue (list_any (gives_token t token) (Stepped t (Token token) ∷ past))
    now = or_left (same_target t t && bytes_eq token token) (list_any (gives_token t token) past) (ap (λ b. b && bytes_eq token token) (same_self t) ∙ bytes_refl token)

    started : (h : Held) → held s past t ≡ Some h → (identity : Option Login) → want s past ≡ Steps t (Start (spn s t) identity) → last_start s (Stepped t (Token token) ∷ past) t ≡ Some (Start (spn s t) (identity_held s h))
    started h held_now identity wanted =
        let f = start_from s past t (spn s t) identity run.0 wanted in
        let same : Some f.0 ≡ Some h = sym f.1 ∙ held_now in
        let equal : f.0 ≡ h = cc in
        ap (λ w. or_else (start_in t w) (last_start s past t)) wanted
        ∙ (ap (λ b. or_else (if b then Some (Start (spn s t) identity) else None) (last_start s past t)) (same_self t)
        ∙ ap (λ x. Some (Start (spn s t) x)) (f.2 ∙ ap (identity_held s) equal))

    in_context : (h : Held) → held s past t ≡ Some h → (c : Option Context) → IsGivenIn s past t h c → IsNextToken s past t c → last_start s (Stepped t (Token token) ∷ past) t ≡ Some (Start (spn s t) (identity_held s h))
    in_context h held_now None g (identity, wanted) = started h held_now identity wanted
    in_context h held_now (Some c) g (link, reply, peer, l, last, brings, wanted) = ap (λ w. or_else (start_in t w) (last_start s past t)) wanted ∙ g.1

    at : (o : Option Held) → held s past t ≡ o → IsGiven s past t o → IsNextToken s past t (context_of o) → IsGiven s (Stepped t (Token token) ∷ past) t (option_and_then (held_stepped (Token token)) o)
    at None e g n = tt
    at (Some h) e g n = (now, in_context h e h.context g n)

-- who has a context starts none
no_start : (s : Setting) (past : List Event) (t : Target) (step : StepSeen) (h : Held) (c : Context) → IsPast s (Stepped t step ∷ past) → held s past t ≡ Some h → h.context ≡ Some c → start_in t (want s past) ≡ None
no_start s past t step h c run held_now has = let f = step_for s past t step run in ap (start_in t) f.1 ∙ at f.0 f.2
  where
    at : (asking : Asking) → IsStepFor s past t asking → start_in t (Steps t asking) ≡ None
    at (GoOn peer) f = refl
    at (Start name identity) (x, found, scheme, none, same) =
        let equal : Some x ≡ Some h = sym found ∙ held_now in
        let one : x ≡ h = cc in
        let clash : None ≡ Some c = sym none ∙ (ap (λ (y : Held). y.context) one ∙ has) in
        cc

-- what is held with its context stays so
stays_given : (s : Setting) (past : List Event) (t : Target) (step : StepSeen) → IsPast s (Stepped t step ∷ past) → IsGiven s past t (held s past t) → IsGiven s (Stepped t step ∷ past) t (held s past t)
stays_given s past t step run before = at (held s past t) refl before
  where
    in_context : (h : Held) → held s past t ≡ Some h → (c : Option Context) → h.context ≡ c → IsGivenIn s past t h c → IsGivenIn s (Stepped t step ∷ past) t h c
    in_context h e None has g = tt
    in_context h e (Some c) has g = given_in_later s past t (Stepped t step) h (Some c) (ap (λ o. or_else o (last_start s past t)) (no_start s past t step h c run e has)) g

    at : (o : Option Held) → held s past t ≡ o → IsGiven s past t o → IsGiven s (Stepped t step ∷ past) t o
    at None e g = tt
    at (Some h) e g = in_context h e h.context refl g

own_step : (s : Setting) (past : List Event) (t : Target) (step : StepSeen) → IsPast s (Stepped t step ∷ past) → IsGiven s past t (held s past t) → IsGiven s (Stepped t step ∷ past) t (option_and_then (held_stepped step) (held s past t))
own_step s past t (Token token) run before = token_given s past t token run before
own_step s past t NoMechanism run before =
    kept_given s (Stepped t NoMechanism ∷ past) t (held_stepped NoMechanism) (λ h p. given_if s (Stepped t NoMechanism ∷ past) t (is_some h.context) (Some h) None p tt) (held s past t) (stays_given s past t NoMechanism run before)
own_step s past t step run before = at (held s past t) (stays_given s past t step run before)
  where
    at : (o : Option Held) → IsGiven s (Stepped t step ∷ past) t o → IsGiven s (Stepped t step ∷ past) t (option_and_then (λ h. Some h) o)
    at None g = tt
    at (Some h) g = g

-- a step for another target starts nothing for this one
other_start : (s : Setting) (past : List Event) (target t : Target) (step : StepSeen) → same_target target t ≡ false → IsPast s (Stepped target step ∷ past) → start_in t (want s past) ≡ None
other_start s past target t step other run = let f = step_for s past target step run in ap (start_in t) f.1 ∙ at f.0
  where
    at : (asking : Asking) → start_in t (Steps target asking) ≡ None
    at (GoOn peer) = refl
    at (Start name identity) = ap (λ b. if b then Some (Start name identity) else None) other

step_given : (s : Setting) (past : List Event) (target t : Target) (step : StepSeen) → IsPast s (Stepped target step ∷ past) → IsGiven s past t (held s past t) → IsGiven s (Stepped target step ∷ past) t (held s (Stepped target step ∷ past) t)
step_given s past target t step run before = at (same_target target t) refl
  where
    at : (b : Bool) → same_target target t ≡ b → IsGiven s (Stepped target step ∷ past) t (if b then option_and_then (held_stepped step) (held s past t) else held s past t)
    at true same =
        let equal : target ≡ t = equal_targets target t same in
        subst (λ x. IsGiven s (Stepped x step ∷ past) t (option_and_then (held_stepped step) (held s past t))) (sym equal) (own_step s past t step (subst (λ x. IsPast s (Stepped x step ∷ past)) equal run) before)
    at false other = given_later s past t (Stepped target step) (held s past t) (ap (λ o. or_else o (last_start s past t)) (other_start s past target t step other run)) before

-- ALL EVENTS

pub given_held : (s : Setting) (past : List Event) → IsPast s past → (t : Target) → IsGiven s past t (held s past t)
given_held s [] run t = tt
given_held s (Called call reply ∷ past) run t =
    called (IsGiven s (Called call reply ∷ past) t) tt (λ gift terms epoch. tt) s t past call reply (held s past t) (given_later s past t (Called call reply) (held s past t) refl (given_held s past run.0 t))
given_held s (Drew target nonce count epoch ∷ past) run t =
    let before = given_later s past t (Drew target nonce count epoch) (held s past t) refl (given_held s past run.0 t) in
    given_if s (Drew target nonce count epoch ∷ past) t (same_target target t) (option_and_then (held_drew epoch) (held s past t)) (held s past t)
    (kept_given s (Drew target nonce count epoch ∷ past) t (held_drew epoch) (λ h p. given_if s (Drew target nonce count epoch ∷ past) t (unwrap_or h.preemptive epoch == epoch) (Some h) None p tt) (held s past t) before) before
given_held s (Stepped target step ∷ past) run t = step_given s past target t step run (given_held s past run.0 t)
given_held s (Headed link bytes ∷ past) run t = headed_given s (Headed link bytes ∷ past) t link (held s past t) (given_later s past t (Headed link bytes) (held s past t) refl (given_held s past run.0 t))
given_held s (Replied link reply ∷ past) run t =
    kept_given s (Replied link reply ∷ past) t (held_replied s t reply)
    (λ h p. given_if s (Replied link reply ∷ past) t (challenges_target s reply t && is_none (deciding s reply t h)) None (Some h) tt p) (held s past t)
    (given_later s past t (Replied link reply) (held s past t) refl (given_held s past run.0 t))
given_held s (LinkLost link ∷ past) run t = at (held s past t)
  where
    at : (o : Option Held) → IsGiven s (LinkLost link ∷ past) t (option_map held_lost o)
    at None = tt
    at (Some h) = tt
given_held s (event ∷ past) run t = given_later s past t event (held s past t) refl (given_held s past run.0 t)
