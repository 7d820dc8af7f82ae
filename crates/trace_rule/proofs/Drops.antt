-- At most one context is given up before it began, since its provider has no mechanism.
use Rattle.std.proofs.Common.{◌≡◌, ◌⊎◌, inl, inr, ℕ, ◌+◌, ◌≤◌, Bool, true, false, ◌&&◌, IsTrue, List, [], ◌∷◌, length, Some, None, is_some, is_none, option_and_then, refl, sym, ap, ◌∙◌, subst, arith, if◌then◌else◌}
use Rattle.std.specs.List.{list_any}
use Rattle.std.proofs.lemmas.Bool.{false≢true}
use Rattle.std.proofs.lemmas.List.{length-map}
use Rattle.spaces.specs.declared.site.Target.{Target}
use Rattle.spaces.specs.declared.site.Target.TheVariants.{Server, Proxy, Socks}
use Rattle.spaces.specs.declared.space.Scheme.TheVariants.{Negotiate}
use Rattle.spaces.specs.Sites.{same_target}
use Rattle.spaces.specs.declared.roster.Request.{Request}
use Rattle.spaces.specs.declared.roster.Roster.{Roster}
use Rattle.auth_events.specs.Tables.{Tables}
use Rattle.auth_events.proofs.Naming.{named_space}
use Rattle.auth_events.specs.declared.journal.Entry.{Entry}
use Rattle.auth_events.specs.Book.{own}
use Rattle.link_trait.specs.declared.steps.StepSeen.TheVariants.{NoMechanism}
use Rattle.auth_runs.specs.declared.event.Event.{Event}
use Rattle.auth_runs.specs.declared.event.Event.TheVariants.{Stepped}
use Rattle.trace_rule.specs.Settings.{Setting, scheme_is}
use Rattle.trace_rule.specs.Challenges.{challenges_target}
use Rattle.trace_rule.specs.Holding.{Held, held, held_stepped, held_replied, is_no_mechanism}
use Rattle.trace_rule.specs.Moves.{Asking}
use Rattle.trace_rule.specs.Moves.Asking.{Start, GoOn}
use Rattle.trace_rule.proofs.Counts.{drops}
use Rattle.trace_rule.specs.Settings.{IsNumbered}
use Rattle.trace_rule.specs.Serving.{setting_in}
use Rattle.trace_rule.specs.Entries.{AreEntries, calls, made_in}
use Rattle.trace_rule.specs.Traces.{IsPast}
use Rattle.trace_rule.proofs.Gains.{IsGained, gained, is_plain, negotiating, negotiating_decides, none_negotiating, one_target, plain_chosen, stepped_before}
use Rattle.trace_rule.proofs.Stepping.{IsStepFor, step_for}
use Rattle.trace_rule.proofs.Bounds.{few_calls}
use Rattle.trace_rule.proofs.Holdings.{or_true}

module _ (s : Setting) (means : IsNumbered s) where
  -- a step is taken for a Negotiate identity
  holding : (t : Target) (past : List Event) (asking : Asking) → IsStepFor s past t asking → (h : Held) × (held s past t ≡ Some h) × IsTrue (scheme_is s h.gift.space Negotiate)
  holding t past (Start name identity) (h, held_now, n, none, same) = (h, held_now, n)
  holding t past (GoOn peer) (link, reply, before, h, p, held_then, d, stay, c) = (h, held_now, negotiating_decides s reply t h (Some peer) d)
    where
      held_now : held s past t ≡ Some h
      held_now =
          ap (λ x. held s x t) p ∙ (ap (option_and_then (held_replied s t reply)) held_then
          ∙ ap (λ o. if challenges_target s reply t && is_none o then None else Some h) d
          ∙ kept (challenges_target s reply t))
        where
          kept : (b : Bool) → (if b && false then None else Some h) ≡ Some h
          kept true = refl
          kept false = refl

  -- where `negotiate` challenges are passed over the provider is never asked, so it never lacks a mechanism
  pub none_missing : s.has_negotiate ≡ false → (past : List Event) → IsPast s past → list_any is_no_mechanism past ≡ false
  none_missing never [] run = refl
  none_missing never (Stepped t step ∷ past) run =
      let wanted = step_for s past t step run in
      let h = holding t past wanted.0 wanted.2 in
      absurd (none_negotiating s means never past run.0 t (ap (negotiating s) h.1 ∙ h.2))
  none_missing never (_ ∷ past) run = none_missing never past run.0

  -- HOW MANY

  abbrev one_if : Bool → ℕ
  one_if b = if b then 1 else 0

  abbrev holders : List Event → ℕ
  holders past = one_if (negotiating s (held s past Proxy)) + one_if (negotiating s (held s past Server))

  fewer : (a b : Bool) → (IsTrue a → IsTrue b) → one_if a ≤ one_if b
  fewer true b h = let yes : b ≡ true = h refl in let one : one_if b ≡ 1 = ap one_if yes in omega (arith, one)
  fewer false b h = omega arith

  one_holder : (past : List Event) → IsPast s past → holders past ≤ 1
  one_holder past run = at (negotiating s (held s past Proxy)) refl (negotiating s (held s past Server)) refl
    where
      is_proxy : Target → Bool
      is_proxy Proxy = true
      is_proxy _ = false

      at : (a : Bool) → negotiating s (held s past Proxy) ≡ a → (b : Bool) → negotiating s (held s past Server) ≡ b → one_if a + one_if b ≤ 1
      at true p true q = let clash : Proxy ≡ Server = one_target s means past run Proxy p ∙ sym (one_target s means past run Server q) in absurd (false≢true (sym (ap is_proxy clash)))
      at true p false q = omega arith
      at false p true q = omega arith
      at false p false q = omega arith

  pub data Dropped (past : List Event) : Type 0 where
    none_yet : list_any is_no_mechanism past ≡ false → drops s past ≡ 0 → Dropped past
    from_now : list_any is_no_mechanism past ≡ true → drops s past + holders past ≤ 1 → Dropped past

  other_event : (event : Event) (past : List Event) → IsPast s (event ∷ past) → list_any is_no_mechanism (event ∷ past) ≡ list_any is_no_mechanism past → drops s (event ∷ past) ≡ drops s past → Dropped past → Dropped (event ∷ past)
  other_event event past run same equal (none_yet none zero_drops) = none_yet (same ∙ none) (equal ∙ zero_drops)
  other_event event past run same equal (from_now some few) =
      let proxy : one_if (negotiating s (held s (event ∷ past) Proxy)) ≤ one_if (negotiating s (held s past Proxy)) = fewer _ _ (λ n. before Proxy (gained s means event past run Proxy n)) in
      let server : one_if (negotiating s (held s (event ∷ past) Server)) ≤ one_if (negotiating s (held s past Server)) = fewer _ _ (λ n. before Server (gained s means event past run Server n)) in
      from_now (same ∙ some) (omega (arith, equal, few, proxy, server))
    where
      before : (t : Target) → IsGained s event past t → IsTrue (negotiating s (held s past t))
      before t (inl n) = n
      before t (inr now) = absurd (false≢true (sym now.0 ∙ some))

  -- what is dropped was held
  no_mechanism : (t : Target) (past : List Event) → IsPast s (Stepped t NoMechanism ∷ past) → Dropped past → Dropped (Stepped t NoMechanism ∷ past)
  no_mechanism t past run d = at (is_some (option_and_then (λ (h : Held). h.context) (held s past t))) refl
    where
      proxy : one_if (negotiating s (held s (Stepped t NoMechanism ∷ past) Proxy)) ≤ one_if (negotiating s (held s past Proxy))
      proxy = fewer _ _ (λ n. stepped_before s means past t NoMechanism Proxy n)

      server : one_if (negotiating s (held s (Stepped t NoMechanism ∷ past) Server)) ≤ one_if (negotiating s (held s past Server))
      server = fewer _ _ (λ n. stepped_before s means past t NoMechanism Server n)

      few : drops s past + holders past ≤ 1
      few = by d (one_holder past run.0)
        where
          by : Dropped past → holders past ≤ 1 → drops s past + holders past ≤ 1
          by (none_yet none zero_drops) h = omega (arith, zero_drops, h)
          by (from_now some f) h = f

      drops_with : (b : Bool) → is_some (option_and_then (λ (h : Held). h.context) (held s past t)) ≡ b → drops s (Stepped t NoMechanism ∷ past) ≡ (if b then 0 else 1) + drops s past
      drops_with b e = ap (λ x. (if x then 0 else 1) + drops s past) e

      -- without a context the identity that was to start one goes
      starting : is_some (option_and_then (λ (h : Held). h.context) (held s past t)) ≡ false → (h : Held) → held s past t ≡ Some h → IsTrue (scheme_is s h.gift.space Negotiate) → ((t ≡ Proxy) ⊎ (t ≡ Server)) → drops s (Stepped t NoMechanism ∷ past) + holders (Stepped t NoMechanism ∷ past) ≤ 1
      starting e h held_now n route = by_route route
        where
          gone : (u : Target) → t ≡ u → negotiating s (held s (Stepped t NoMechanism ∷ past) u) ≡ false
          gone u same =
              subst (λ x. negotiating s (held s (Stepped t NoMechanism ∷ past) x) ≡ false) same
              (by_same (same_target t t) (same_self t))
            where
              same_self : (x : Target) → same_target x x ≡ true
              same_self Server = refl
              same_self Proxy = refl
              same_self Socks = refl

              no_context : is_some h.context ≡ false
              no_context = sym (ap (λ o. is_some (option_and_then (λ (x : Held). x.context) o)) held_now) ∙ e

              by_same : (b : Bool) → b ≡ true → negotiating s (if b then option_and_then (held_stepped NoMechanism) (held s past t) else held s past t) ≡ false
              by_same true k = ap (λ o. negotiating s (option_and_then (held_stepped NoMechanism) o)) held_now ∙ ap (λ b. negotiating s (if b then Some h else None)) no_context
              by_same false k = absurd (false≢true k)

          was : (u : Target) → t ≡ u → one_if (negotiating s (held s past u)) ≡ 1
          was u same = ap one_if (subst (λ x. negotiating s (held s past x) ≡ true) same (ap (negotiating s) held_now ∙ n))

          by_route : ((t ≡ Proxy) ⊎ (t ≡ Server)) → drops s (Stepped t NoMechanism ∷ past) + holders (Stepped t NoMechanism ∷ past) ≤ 1
          by_route (inl p) = let none : one_if (negotiating s (held s (Stepped t NoMechanism ∷ past) Proxy)) ≡ 0 = ap one_if (gone Proxy p) in omega (arith, few, server, none, was Proxy p, drops_with false e)
          by_route (inr p) = let none : one_if (negotiating s (held s (Stepped t NoMechanism ∷ past) Server)) ≡ 0 = ap one_if (gone Server p) in omega (arith, few, proxy, none, was Server p, drops_with false e)

      by_step : is_some (option_and_then (λ (h : Held). h.context) (held s past t)) ≡ false → (asking : Asking) → IsStepFor s past t asking → ((t ≡ Proxy) ⊎ (t ≡ Server)) → drops s (Stepped t NoMechanism ∷ past) + holders (Stepped t NoMechanism ∷ past) ≤ 1
      by_step e asking step route = let h = holding t past asking step in starting e h.0 h.1 h.2 route

      at : (b : Bool) → is_some (option_and_then (λ (h : Held). h.context) (held s past t)) ≡ b → Dropped (Stepped t NoMechanism ∷ past)
      at true e = from_now refl (omega (arith, few, proxy, server, drops_with true e))
      at false e = let step = step_for s past t NoMechanism run in from_now refl (by_step e step.0 step.2 step.3)

  dropped : (past : List Event) → IsPast s past → Dropped past
  dropped [] run = none_yet refl refl
  dropped (Stepped t NoMechanism ∷ past) run = no_mechanism t past run (dropped past run.0)
  dropped (event ∷ past) run = by event run (dropped past run.0)
    where
      by : (x : Event) → IsPast s (x ∷ past) → Dropped past → Dropped (x ∷ past)
      by (Stepped t NoMechanism) r d = no_mechanism t past r d
      by (Stepped t step) r d = other_event (Stepped t step) past r refl refl d
      by x r d = other_event x past r refl refl d

  pub drops_bound : (past : List Event) → IsPast s past → drops s past ≤ 1
  drops_bound past run = at (dropped past run)
    where
      at : Dropped past → drops s past ≤ 1
      at (none_yet none zero_drops) = omega (arith, zero_drops)
      at (from_now some few) = omega (arith, few)

  -- what has no mechanism was for an identity that was chosen without terms
  no_mechanism_plain : (t : Target) (past : List Event) → IsPast s (Stepped t NoMechanism ∷ past) → IsTrue (list_any is_plain past)
  no_mechanism_plain t past run =
      let step = step_for s past t NoMechanism run in
      let h = holding t past step.0 step.2 in
      plain_chosen s means past run.0 t (ap (negotiating s) h.1 ∙ h.2)

  -- so a choice without terms comes before what is given up
  pub drops_plain : (past : List Event) → IsPast s past → (drops s past ≡ 0) ⊎ IsTrue (list_any is_plain past)
  drops_plain [] run = inl refl
  drops_plain (event ∷ past) run = by event run (drops_plain past run.0)
    where
      by : (x : Event) → IsPast s (x ∷ past) → (drops s past ≡ 0) ⊎ IsTrue (list_any is_plain past) → (drops s (x ∷ past) ≡ 0) ⊎ IsTrue (list_any is_plain (x ∷ past))
      by (Stepped t NoMechanism) r d = inr (no_mechanism_plain t past r)
      by (Stepped t step) r (inl none) = inl none
      by x r (inr plain) = inr (or_true (is_plain x) (list_any is_plain past) plain)
      by x r (inl none) = inl none

  pub calls_bound : (past : List Event) → IsPast s past → length (calls past) ≤ 56
  calls_bound past run = omega (arith, few_calls s past run, drops_bound past run)

  -- the request's entries
  pub entries_bound : (entries : List Entry) (r : ℕ) (past : List Event) → IsPast s past → AreEntries entries r past → length (own entries r) ≤ 56
  entries_bound entries r past run same = omega (arith, sym (length-map (own entries r) made_in) ∙ ap length same, calls_bound past run)

pub spaces_numbered : (negotiate : Bool) (roster : Roster) (seed : List ℕ) (names : Tables) (entries : List Entry) (r : ℕ) (request : Request) → IsNumbered (setting_in negotiate roster seed names entries r request)
spaces_numbered negotiate roster seed names entries r request space n found = named_space names space n found
