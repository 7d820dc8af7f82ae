-- What the calls at the end of a request are, one by one.
use Rattle.std.proofs.Common.{◌≡◌, ℕ, zero, suc, Bool, true, false, not, ◌&&◌, IsTrue, List, [], ◌∷◌, ◌++◌, map, drop, Option, Some, None, option_map, option_and_then, unwrap_or, refl, sym, subst, if◌then◌else◌}
use Rattle.std.specs.Prelude.{nat_le}
use Rattle.std.proofs.Math.Seq.{drop-nil}
use Rattle.spaces.specs.declared.site.Target.{Target}
use Rattle.spaces.specs.declared.site.Target.TheVariants.{Server, Proxy}
use Rattle.spaces.specs.declared.space.Scheme.TheVariants.{Digest}
use Rattle.auth_events.specs.declared.journal.Call.{Call}
use Rattle.auth_events.specs.declared.journal.Call.TheVariants.{Note, End}
use Rattle.auth_runs.specs.Runs.{Each}
use Rattle.auth_runs.specs.declared.event.Outcome.{Outcome}
use Rattle.auth_runs.specs.declared.event.Outcome.TheVariants.{Answered, Refused}
use Rattle.auth_runs.specs.declared.event.Event.{Event}
use Rattle.trace_rule.specs.Settings.{Setting, scheme_is, is_by_path}
use Rattle.trace_rule.specs.Holding.{Held, carried}
use Rattle.trace_rule.specs.NextNonces.{next}
use Rattle.trace_rule.specs.Moves.{rounds, is_answered}
use Rattle.trace_rule.specs.Closings.{renewal, renewal_of, renewal_for, renewals, is_challenged, note_of, note_for, notes, closings}

pub each_append : {A : Type 0} (P : A → Type 0) (xs ys : List A) → Each P xs → Each P ys → Each P (xs ++ ys)
each_append P [] ys p q = q
each_append P (x ∷ xs) ys p q = (p.0, each_append P xs ys p.1 q)

pub each_drop : {A : Type 0} (P : A → Type 0) (n : ℕ) (xs : List A) → Each P xs → Each P (drop n xs)
each_drop P n [] p = subst (Each P) (sym (drop-nil n)) tt
each_drop P zero (x ∷ xs) p = p
each_drop P (suc n) (x ∷ xs) p = each_drop P n xs p.1

pub each_some : {A : Type 0} (P : Option A → Type 0) (xs : List A) → Each (λ x. P (Some x)) xs → Each P (map Some xs)
each_some P [] p = tt
each_some P (x ∷ xs) p = (p.0, each_some P xs p.1)

module _ (s : Setting) (past : List Event) where
  -- A RENEWAL

  -- it is of a Digest gift that the last head carried, with a next nonce
  abbrev pub Renews : (Option Call → Type 0) → Type 0
  Renews P =
      (t : Target) (h : Held) (nonce : List ℕ) → carried s past t ≡ Some h → IsTrue (scheme_is s h.gift.space Digest) → next past t ≡ Some nonce → P (renewal s h nonce)

  pub renewal_each : (t : Target) (P : Option Call → Type 0) → Renews P → Each P (renewal_for s past t)
  renewal_each t P f = at (carried s past t) refl
    where
      found : (h : Held) → carried s past t ≡ Some h → IsTrue (scheme_is s h.gift.space Digest) → (o : Option (List ℕ)) → next past t ≡ o → Each P (unwrap_or (option_map (λ nonce. renewal s h nonce ∷ []) o) [])
      found h e d None n = tt
      found h e d (Some nonce) n = (f t h nonce e d n, tt)

      digest : (h : Held) → carried s past t ≡ Some h → (b : Bool) → scheme_is s h.gift.space Digest ≡ b → Each P (if b then unwrap_or (option_map (λ nonce. renewal s h nonce ∷ []) (next past t)) [] else [])
      digest h e true d = found h e d (next past t) refl
      digest h e false d = tt

      at : (o : Option Held) → carried s past t ≡ o → Each P (unwrap_or (option_map (renewal_of s past t) o) [])
      at None e = tt
      at (Some h) e = digest h e (scheme_is s h.gift.space Digest) refl

  -- renewals come behind a reply that is no challenge
  pub renewals_each : (o : Outcome) (P : Option Call → Type 0) → (IsTrue (is_answered s past) → Renews P) → Each P (renewals s past o)
  renewals_each (Answered status) P f = at (is_answered s past) refl (nat_le (rounds s past) 14)
    where
      at : (b : Bool) → is_answered s past ≡ b → (c : Bool) → Each P (if b && c then renewal_for s past Proxy ++ renewal_for s past Server else [])
      at true e true = each_append P (renewal_for s past Proxy) (renewal_for s past Server) (renewal_each Proxy P (f e)) (renewal_each Server P (f e))
      at true e false = tt
      at false e c = tt
  renewals_each _ P f = tt

  -- A NOTE

  -- it is of a Basic or Digest gift that the last head carried
  abbrev pub Notes : (Call → Type 0) → Type 0
  Notes P = (t : Target) (h : Held) → carried s past t ≡ Some h → IsTrue (is_by_path s h.gift.space) → P (Note h.gift)

  note_each : (t : Target) (P : Call → Type 0) → Notes P → Each P (note_for s past t)
  note_each t P f = at (carried s past t) refl
    where
      by : (h : Held) → carried s past t ≡ Some h → (b : Bool) → is_by_path s h.gift.space ≡ b → (c : Bool) → Each P (if b && not c then Note h.gift ∷ [] else [])
      by h e true p true = tt
      by h e true p false = (f t h e p, tt)
      by h e false p c = tt

      at : (o : Option Held) → carried s past t ≡ o → Each P (unwrap_or (option_map (note_of s past t) o) [])
      at None e = tt
      at (Some h) e = by h e (is_by_path s h.gift.space) refl (is_challenged s past t)

  pub notes_each : (o : Outcome) (P : Call → Type 0) → Notes P → Each P (notes s past o)
  notes_each (Answered status) P f = each_append P (note_for s past Proxy) (note_for s past Server) (note_each Proxy P f) (note_each Server P f)
  notes_each (Refused status why) P f = each_append P (note_for s past Proxy) (note_for s past Server) (note_each Proxy P f) (note_each Server P f)
  notes_each _ P f = tt

  -- ALL

  pub closings_each : (o : Outcome) (P : Option Call → Type 0) → (IsTrue (is_answered s past) → Renews P) → Notes (λ call. P (Some call)) → P (Some End) → Each P (closings s past o)
  closings_each o P f g e =
      each_append P (renewals s past o) (map Some (notes s past o ++ End ∷ [])) (renewals_each o P f)
      (each_some P (notes s past o ++ End ∷ []) (each_append (λ call. P (Some call)) (notes s past o) (End ∷ []) (notes_each o (λ call. P (Some call)) g) (e, tt)))
