-- A nonce of which a count is drawn has its name.
use Rattle.std.proofs.Common.{◌≡◌, ℕ, ◌+◌, Bool, true, false, not, ◌&&◌, IsTrue, List, [], ◌∷◌, drop, Option, Some, None, is_some, is_none, option_and_then, option_map, refl, ap, ◌∙◌, subst, if◌then◌else◌}
use Rattle.std.specs.Prelude.{bytes_eq}
use Rattle.std.proofs.lemmas.Bool.{false≢true}
use Rattle.spaces.specs.declared.roster.Request.{Request}
use Rattle.spaces.specs.declared.roster.Roster.{Roster}
use Rattle.spaces.specs.declared.site.Target.{Target}
use Rattle.spaces.specs.declared.site.Target.TheVariants.{Server, Proxy}
use Rattle.spaces.specs.declared.space.Scheme.TheVariants.{Digest}
use Rattle.spaces.specs.ProtectionSpaces.{ProtectionSpace}
use Rattle.spaces.specs.Sites.{numbered, same_scheme}
use Rattle.auth_events.specs.declared.journal.Call.{Call}
use Rattle.auth_events.specs.declared.journal.Entry.{Entry}
use Rattle.auth_events.specs.declared.names.TermsName.{TermsName}
use Rattle.auth_events.specs.Tables.{Tables}
use Rattle.auth_runs.specs.declared.event.Outcome.{Outcome}
use Rattle.auth_runs.specs.declared.event.Event.{Event}
use Rattle.trace_rule.specs.Settings.{Setting, for_route, or_else, scheme_is}
use Rattle.trace_rule.specs.Holding.{Held, held, bound, stays, links, has_link}
use Rattle.trace_rule.specs.Heads.{drawn, head_text}
use Rattle.trace_rule.specs.Moves.{Want, Move, move, go, first_want, start_for, spn, identity_held, loss_for, dial_for, draw_for, has_count, head_link}
use Rattle.trace_rule.specs.Closings.{want, next_closing, closings, closings_made, carried_out}
use Rattle.trace_rule.specs.Moves.Want.{Steps, Dials, Draws, Writes, Loses}
use Rattle.trace_rule.specs.Moves.Move.{Goes, Closes}
use Rattle.trace_rule.specs.Moves.Asking.{Start}
use Rattle.trace_rule.specs.Serving.{setting_in, IsServing}
use Rattle.auth_events.proofs.Numbers.{some_of_test}
use Rattle.trace_rule.proofs.DrawCount.{drawn_by}
use Rattle.trace_rule.proofs.Reasons.{closing_never}

-- the nonce is that of terms that are named
abbrev IsNamedDraw : Setting → Want → Type 0
IsNamedDraw s (Draws t n) = (k : ℕ) × (name : TermsName) × (s.terms_of k ≡ Some name) × (name.nonce ≡ n)
IsNamedDraw s _ = Unit {0}

abbrev AreNamed : Setting → Option Want → Type 0
AreNamed s None = Unit {0}
AreNamed s (Some w) = IsNamedDraw s w

named_first : (s : Setting) (o : Option Want) (w : Want) → AreNamed s o → IsNamedDraw s w → IsNamedDraw s (first_want o w)
named_first s None w p q = q
named_first s (Some v) w p q = p

named_then : {A : Type 0} (s : Setting) (f : A → Option Want) → ((a : A) → AreNamed s (f a)) → (o : Option A) → AreNamed s (option_and_then f o)
named_then s f h None = tt
named_then s f h (Some a) = h a

named_or : (s : Setting) (a b : Option Want) → AreNamed s a → AreNamed s b → AreNamed s (or_else a b)
named_or s None b p q = q
named_or s (Some w) b p q = p

named_if : (s : Setting) (b : Bool) (o : Option Want) → AreNamed s o → AreNamed s (if b then o else None)
named_if s true o h = h
named_if s false o h = tt

named_unless : (s : Setting) (b : Bool) (o : Option Want) → AreNamed s o → AreNamed s (if b then None else o)
named_unless s true o h = tt
named_unless s false o h = h

starts_named : (s : Setting) (past : List Event) (t : Target) → AreNamed s (option_and_then (start_for s t) (held s past t))
starts_named s past t = named_then s (start_for s t) (λ h. named_if s _ (Some (Steps t (Start (spn s t) (identity_held s h)))) tt) (held s past t)

draws_named : (s : Setting) (past : List Event) (t : Target) → AreNamed s (option_and_then (draw_for s past t) (held s past t))
draws_named s past t = named_then s (draw_for s past t) (λ h. at h (scheme_is s h.gift.space Digest && is_none (drawn past t)) (s.terms_of h.terms) refl) (held s past t)
  where
    at : (h : Held) (b : Bool) (o : Option TermsName) → s.terms_of h.terms ≡ o → AreNamed s (if b then option_and_then (λ name. if has_count name.terms.qop then Some (Draws t name.nonce) else None) o else None)
    at h false o e = tt
    at h true None e = tt
    at h true (Some name) e = named_if s (has_count name.terms.qop) (Some (Draws t name.nonce)) (h.terms, name, e, refl)

go_named : (s : Setting) (past : List Event) → IsNamedDraw s (go s past)
go_named s past =
    named_first s (for_route (λ t. option_and_then (start_for s t) (held s past t))) _
    (named_or s (option_and_then (start_for s Proxy) (held s past Proxy)) (option_and_then (start_for s Server) (held s past Server)) (starts_named s past Proxy) (starts_named s past Server))
    (named_first s (option_and_then (loss_for past) (bound s past)) _ (named_then s (loss_for past) (λ link. named_unless s (stays past link) (Some (Loses link)) tt) (bound s past))
    (named_first s (dial_for s past) _ (named_if s (is_none (bound s past) && not (has_link past)) (Some (Dials (links past + 1))) tt)
    (named_first s (for_route (λ t. option_and_then (draw_for s past t) (held s past t))) (Writes (head_link s past) (head_text s past))
    (named_or s (option_and_then (draw_for s past Proxy) (held s past Proxy)) (option_and_then (draw_for s past Server) (held s past Server)) (draws_named s past Proxy) (draws_named s past Server)) tt)))

module _ (n : Bool) (roster : Roster) (seed : List ℕ) (names : Tables) (entries : List Entry) (caller r : ℕ) (request : Request) (past : List Event)
    (v : IsServing roster names entries caller r request (setting_in n roster seed names entries r request) past) where
  abbrev now : Setting
  now = setting_in n roster seed names entries r request

  there : {A B : Type 0} (f : A → B) (o : Option A) → IsTrue (is_some o) → IsTrue (is_some (option_map f o))
  there f None h = absurd (false≢true h)
  there f (Some a) h = refl

  -- terms that are named have a nonce that is named
  nonce_there : (k : ℕ) (name : TermsName) → numbered names.terms k ≡ Some name → IsTrue (is_some (numbered names.nonces name.nonce))
  nonce_there k name found =
      let home = v.are_names.home name k found in
      ap is_some home.nonce ∙ there (λ (space : ProtectionSpace). record { site = space.site; text = name.terms.nonce }) (numbered names.spaces name.space)
      (some_of_test (λ (space : ProtectionSpace). same_scheme space.scheme Digest && bytes_eq space.realm name.terms.realm) (numbered names.spaces name.space) home.home)

  pub drawn_named : (t : Target) (nonce : ℕ) → want now past ≡ Draws t nonce → IsTrue (is_some (numbered names.nonces nonce))
  drawn_named t nonce w = at (move now past) refl w
    where
      is_draw : Want → Bool
      is_draw (Draws u k) = true
      is_draw _ = false

      named : IsNamedDraw now (Draws t nonce) → IsTrue (is_some (numbered names.nonces nonce))
      named (k, name, found, same) = subst (λ x. IsTrue (is_some (numbered names.nonces x))) same (nonce_there k name found)

      at_list : (o : Outcome) (cs : List (Option Call)) → next_closing o cs ≡ Draws t nonce → IsTrue (is_some (numbered names.nonces nonce))
      at_list o [] k = absurd (false≢true (ap is_draw k))
      at_list o (None ∷ cs) k = absurd (false≢true (ap is_draw k))
      at_list o (Some c ∷ cs) k = absurd (false≢true (ap is_draw k))

      at : (m : Move) → move now past ≡ m → carried_out now past m ≡ Draws t nonce → IsTrue (is_some (numbered names.nonces nonce))
      at (Goes x) e k =
          let goes : move now past ≡ Goes (Draws t nonce) = e ∙ ap Goes k in
          named (subst (IsNamedDraw now) (drawn_by now past t nonce goes (closing_never now past (Draws t nonce) v.is_past goes)) (go_named now past))
      at (Closes o) e k = at_list o (drop (closings_made now past) (closings now past o)) k
