-- A request writes at most 18 heads.
use Rattle.std.proofs.Common.{◌≡◌, inl, inr, ℕ, ◌+◌, ◌*◌, ◌≤◌, ◌<◌, Bool, true, false, IsTrue, List, [], ◌∷◌, length, drop, Option, Some, None, is_some, refl, sym, ap, ◌∙◌, subst, arith, if◌then◌else◌}
use Rattle.std.specs.List.{list_any}
use Rattle.std.proofs.lemmas.Bool.{false≢true, cases_lt}
use Rattle.std.proofs.lemmas.Bool.Decides.{nat_tests}
use Rattle.spaces.specs.declared.site.Target.{Target}
use Rattle.auth_events.specs.declared.journal.Call.{Call}
use Rattle.auth_events.specs.declared.journal.Call.TheVariants.{Note, End}
use Rattle.auth_events.specs.declared.journal.BookReply.{BookReply}
use Rattle.wire_head.specs.declared.reply.Reply.{Reply}
use Rattle.auth_runs.specs.declared.event.Outcome.{Outcome}
use Rattle.auth_runs.specs.declared.event.Outcome.TheVariants.{Answered, Refused, BadReply, LinkFailed}
use Rattle.auth_runs.specs.declared.event.Why.TheVariants.{BoundLost}
use Rattle.auth_runs.specs.declared.event.Event.{Event}
use Rattle.auth_runs.specs.declared.event.Event.TheVariants.{Called, Headed, WriteFailed, ReadFailed, Replied, Broken, LinkLost, Stepped}
use Rattle.trace_rule.specs.Settings.{Setting}
use Rattle.trace_rule.specs.Challenges.{challenged}
use Rattle.trace_rule.specs.Holding.{heads, is_lost, code}
use Rattle.trace_rule.specs.Moves.{move, go, is_round, rounds, replied}
use Rattle.trace_rule.specs.Closings.{want}
use Rattle.trace_rule.specs.Moves.Want.{Calls}
use Rattle.trace_rule.specs.Moves.Move.{Goes, Closes}
use Rattle.trace_rule.specs.Traces.{IsPast, Follows}
use Rattle.trace_rule.proofs.Counts.{losts}
use Rattle.trace_rule.proofs.Deterministic.{nothing_after}
use Rattle.trace_rule.proofs.Reasons.{IsClosingStep, closing_step, still_closes}
use Rattle.trace_rule.proofs.Reasons.IsClosingStep.{by_call, by_outcome}
use Rattle.trace_rule.specs.Heads.{drawn}
use Rattle.spaces.specs.declared.site.Target.TheVariants.{Server, Proxy}
use Rattle.trace_rule.proofs.Bounds.{IsDone, round_closes}

-- what the heads may have drawn, and what was drawn since

abbrev pub one : Option ℕ → ℕ
one None = 0
one (Some c) = 1

pub one_at_most : (o : Option ℕ) → one o ≤ 1
one_at_most None = omega arith
one_at_most (Some c) = omega arith

abbrev pub spent : List Event → ℕ
spent past = 2 * heads past + (one (drawn past Proxy) + one (drawn past Server))

pub data Count (s : Setting) (past : List Event) : Type 0 where
  going : rounds s past ≤ 16 → losts past ≤ 1 → heads past ≤ rounds s past + losts past → Count s past
  pending : (link : ℕ) → (bytes : List ℕ) → (b : List Event) → past ≡ Headed link bytes ∷ b → rounds s past ≤ 16 → losts past ≤ 1 → heads past ≤ rounds s past + losts past + 1 → Count s past
  is_done : IsDone s past → heads past ≤ 18 → spent past ≤ 36 → Count s past

-- an event that is no head, and no loss
round_more : (s : Setting) (past : List Event) (e : Event) (b : Bool) → is_round s past e ≡ b → heads (e ∷ past) ≡ heads past → losts (e ∷ past) ≡ losts past → spent (e ∷ past) ≤ 36 → rounds s past ≤ 16 → losts past ≤ 1 → heads past ≤ rounds s past + losts past + (if b then 1 else 0) → Count s (e ∷ past)
round_more s past e false round same_heads same_losts within few one h =
    let same : rounds s (e ∷ past) ≡ rounds s past = ap (λ x. (if x then 1 else 0) + rounds s past) round ∙ omega arith in
    going (omega (arith, same, few)) (omega (arith, same_losts, one)) (omega (arith, same, same_heads, same_losts, h))
round_more s past e true round same_heads same_losts within few one h =
    let counted : rounds s (e ∷ past) ≡ 1 + rounds s past = ap (λ x. (if x then 1 else 0) + rounds s past) round in
    elim (cases_lt (rounds s past) 16) [
      | inl below ↦ going (omega (arith, counted, below)) (omega (arith, same_losts, one)) (omega (arith, counted, same_heads, same_losts, h))
      | inr above ↦
          let whole : rounds s (e ∷ past) ≡ 17 = omega (arith, counted, few, above) in
          is_done (inl (round_closes s past e round (grind (arith, nat_tests, whole)))) (omega (arith, same_heads, few, one, h)) within
    ]

some_lost : (past : List Event) → 1 ≤ losts past → IsTrue (list_any is_lost past)
some_lost [] h = absurd (omega (arith, h))
some_lost (LinkLost link ∷ past) h = refl
some_lost (_ ∷ past) h = some_lost past h

lost_more : (s : Setting) (past : List Event) (link : ℕ) → spent past ≤ 36 → rounds s past ≤ 16 → losts past ≤ 1 → heads past ≤ rounds s past + losts past + 1 → Count s (LinkLost link ∷ past)
lost_more s past link within few one h =
    elim (cases_lt (losts past) 1) [
      | inl below ↦ going (omega (arith, few)) (omega (arith, below)) (omega (arith, h))
      | inr above ↦ is_done (inl (Refused (code past) BoundLost, ap (λ b. if b then Closes (Refused (code past) BoundLost) else Goes (go s (LinkLost link ∷ past))) (some_lost past above))) (omega (arith, few, one, h)) within
    ]

unanswered : (s : Setting) (link : ℕ) (reply : Reply) (past : List Event) → is_some (challenged s reply) ≡ false → move s (Replied link reply ∷ past) ≡ Closes (Answered reply.code)
unanswered s link reply past none = at (challenged s reply) none
  where
    at : (o : Option Target) → is_some o ≡ false → replied s (Replied link reply ∷ past) link reply o past ≡ Closes (Answered reply.code)
    at None e = refl
    at (Some t) e = absurd (false≢true (sym e))

-- behind a head, for which nothing is drawn yet
after_head : (s : Setting) (link : ℕ) (bytes : List ℕ) (b : List Event) (e : Event) → Follows s (Headed link bytes ∷ b) (want s (Headed link bytes ∷ b)) e → rounds s (Headed link bytes ∷ b) ≤ 16 → losts b ≤ 1
    → heads b + 1 ≤ rounds s (Headed link bytes ∷ b) + losts b + 1 → Count s (e ∷ Headed link bytes ∷ b)
after_head s link bytes b e next few lost h = by e next
  where
    within : spent (Headed link bytes ∷ b) ≤ 36
    within = omega (arith, few, lost, h)

    eighteen : heads (Headed link bytes ∷ b) ≤ 18
    eighteen = omega (arith, few, lost, h)

    by : (x : Event) → Follows s (Headed link bytes ∷ b) (want s (Headed link bytes ∷ b)) x → Count s (x ∷ Headed link bytes ∷ b)
    by (Replied on reply) f = at (is_some (challenged s reply)) refl
      where
        at : (c : Bool) → is_some (challenged s reply) ≡ c → Count s (Replied on reply ∷ Headed link bytes ∷ b)
        at true c = round_more s (Headed link bytes ∷ b) (Replied on reply) true c refl refl within few lost h
        at false c = is_done (inl (Answered reply.code, unanswered s on reply (Headed link bytes ∷ b) c)) eighteen within
    by (Broken on fault) f = is_done (inl (BadReply fault, refl)) eighteen within
    by (WriteFailed on count) f = is_done (inl (LinkFailed count, refl)) eighteen within
    by (ReadFailed on count) f = is_done (inl (LinkFailed count, refl)) eighteen within
    by (LinkLost on) f = lost_more s (Headed link bytes ∷ b) on within few lost h
    by _ f = absurd f

-- elsewhere
after_going : (s : Setting) (past : List Event) (e : Event) → rounds s past ≤ 16 → losts past ≤ 1 → heads past ≤ rounds s past + losts past → Count s (e ∷ past)
after_going s past e few lost h = by e
  where
    within : spent past ≤ 36
    within = omega (arith, few, lost, h, one_at_most (drawn past Proxy), one_at_most (drawn past Server))

    by : (x : Event) → Count s (x ∷ past)
    by (Headed link bytes) = pending link bytes past refl (omega (arith, few)) lost (omega (arith, h))
    by (LinkLost link) = lost_more s past link within few lost (omega (arith, h))
    by (Replied link reply) = at (is_some (challenged s reply)) refl
      where
        at : (c : Bool) → is_some (challenged s reply) ≡ c → Count s (Replied link reply ∷ past)
        at true c = round_more s past (Replied link reply) true c refl refl within few lost (omega (arith, h))
        at false c = round_more s past (Replied link reply) false c refl refl within few lost (omega (arith, h))
    by (Stepped t step) = at (is_round s past (Stepped t step)) refl
      where
        at : (c : Bool) → is_round s past (Stepped t step) ≡ c → Count s (Stepped t step ∷ past)
        at true c = round_more s past (Stepped t step) true c refl refl within few lost (omega (arith, h))
        at false c = round_more s past (Stepped t step) false c refl refl within few lost (omega (arith, h))
    by _ = going (omega (arith, few)) lost (omega (arith, h))

-- behind what closes
after_done : (s : Setting) (past : List Event) (o : Outcome) (e : Event) → move s past ≡ Closes o → Follows s past (want s past) e → heads past ≤ 18 → spent past ≤ 36 → Count s (e ∷ past)
after_done s past o e closes next h within = at (closing_step s past o e closes next)
  where
    at : IsClosingStep s past o e → Count s (e ∷ past)
    at (by_call call reply p k) = subst (λ x. Count s (x ∷ past)) (sym p) (is_done (inl (o, still_closes s past call reply k ∙ closes)) h within)
    at (by_outcome p) = subst (λ x. Count s (x ∷ past)) (sym p) (is_done (inr refl) h within)

count : (s : Setting) (past : List Event) → IsPast s past → Count s past
count s [] run = going (omega arith) (omega arith) (omega arith)
count s (e ∷ past) run = at (count s past run.0)
  where
    at_head : (link : ℕ) (bytes : List ℕ) (b : List Event) → IsPast s (e ∷ Headed link bytes ∷ b) → rounds s (Headed link bytes ∷ b) ≤ 16 → losts b ≤ 1 → heads b + 1 ≤ rounds s (Headed link bytes ∷ b) + losts b + 1 → Count s (e ∷ Headed link bytes ∷ b)
    at_head link bytes b r few one h = after_head s link bytes b e r.1 few one h

    at : Count s past → Count s (e ∷ past)
    at (going few one h) = after_going s past e few one h
    at (pending link bytes b p few one h) =
        subst (λ x. Count s (e ∷ x)) (sym p) (at_head link bytes b (subst (λ x. IsPast s (e ∷ x)) p run) (subst (λ x. rounds s x ≤ 16) p few) (subst (λ x. losts x ≤ 1) p one) (subst (λ x. heads x ≤ rounds s x + losts x + 1) p h))
    at (is_done (inl (o, closes)) h within) = after_done s past o e closes run.1 h within
    at (is_done (inr over) h within) = absurd (nothing_after s past e over run.1)

pub heads_bound : (s : Setting) (past : List Event) → IsPast s past → heads past ≤ 18
heads_bound s past run = at (count s past run)
  where
    at : Count s past → heads past ≤ 18
    at (going few one h) = omega (arith, few, one, h)
    at (pending link bytes b p few one h) = omega (arith, few, one, h)
    at (is_done d h within) = h

pub spent_bound : (s : Setting) (past : List Event) → IsPast s past → spent past ≤ 36
spent_bound s past run = at (count s past run)
  where
    at : Count s past → spent past ≤ 36
    at (going few lost h) = omega (arith, few, lost, h, one_at_most (drawn past Proxy), one_at_most (drawn past Server))
    at (pending link bytes b p few lost h) =
        let proxy : one (drawn past Proxy) ≡ 0 = ap (λ x. one (drawn x Proxy)) p in
        let server : one (drawn past Server) ≡ 0 = ap (λ x. one (drawn x Server)) p in
        omega (arith, few, lost, h, proxy, server)
    at (is_done d h within) = within
