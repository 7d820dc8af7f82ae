-- How many events of each kind there are, by kind.
use Rattle.std.proofs.Common.{◌≡◌, ◌⊎◌, inl, inr, ℕ, ◌+◌, ◌≤◌, Bool, true, false, IsTrue, List, [], ◌∷◌, length, refl, sym, ap, ◌∙◌, subst, arith, if◌then◌else◌}
use Rattle.std.specs.List.{list_any}
use Rattle.std.proofs.lemmas.Bool.{false≢true}
use Rattle.auth_events.specs.declared.journal.BookReply.TheVariants.{Lead}
use Rattle.link_trait.specs.declared.steps.StepSeen.TheVariants.{Failed as StepFailed, NoMemory as StepNoMemory}
use Rattle.auth_runs.specs.declared.event.Outcome.{Outcome}
use Rattle.auth_runs.specs.declared.event.Outcome.TheVariants.{Refused, BadReply, LinkFailed, ProviderFailed, NoMemory}
use Rattle.auth_runs.specs.declared.event.Why.TheVariants.{BoundLost}
use Rattle.auth_runs.specs.declared.event.Event.{Event}
use Rattle.auth_runs.specs.declared.event.Event.TheVariants.{Called, Dialed, DialFailed, Headed, WriteFailed, ReadFailed, Replied, Broken, LinkLost, AskedFor, Stepped}
use Rattle.auth_runs.specs.Runs.{ends}
use Rattle.trace_rule.specs.Settings.{Setting}
use Rattle.trace_rule.specs.Holding.{heads, links, has_link, code, is_lost}
use Rattle.trace_rule.specs.Moves.{Want, move, go}
use Rattle.trace_rule.specs.Moves.Move.{Goes, Closes}
use Rattle.trace_rule.specs.Entries.{calls}
use Rattle.trace_rule.specs.Traces.{IsPast, Follows, is_over}
use Rattle.trace_rule.proofs.Counts.{losts}
use Rattle.trace_rule.proofs.Deterministic.{nothing_after}
use Rattle.trace_rule.proofs.Reasons.{IsClosingStep, closing_step, still_closes}
use Rattle.trace_rule.proofs.Reasons.IsClosingStep.{by_call, by_outcome}
use Rattle.trace_rule.proofs.Stages.{asks_from}
use Rattle.trace_rule.proofs.Bounds.{IsDone}
use Rattle.trace_laws.proofs.Rows.{way_from, read_from}
use Rattle.trace_laws.proofs.Ways.{Way, way}
use Rattle.trace_laws.proofs.Ways.Way.{starts, loses, dials, draws, writes}

abbrev pub one_if : Bool → ℕ
one_if b = if b then 1 else 0

pub few_if : (b : Bool) → one_if b ≤ 1
few_if true = omega arith
few_if false = omega arith

-- THE KINDS

abbrev pub count_of : (Event → Bool) → List Event → ℕ
count_of test [] = 0
count_of test (event ∷ past) = one_if (test event) + count_of test past

abbrev pub is_lead : Event → Bool
is_lead (Called call (Lead p o)) = true
is_lead _ = false

-- a call that leads no prompt
abbrev pub is_other_call : Event → Bool
is_other_call (Called call (Lead p o)) = false
is_other_call (Called call reply) = true
is_other_call _ = false

abbrev pub is_ask : Event → Bool
is_ask (AskedFor p seen) = true
is_ask _ = false

abbrev pub is_step : Event → Bool
is_step (Stepped t step) = true
is_step _ = false

abbrev pub is_reply : Event → Bool
is_reply (Replied link reply) = true
is_reply _ = false

-- the calls are those that lead and the others
pub all_calls : (past : List Event) → length (calls past) ≡ count_of is_lead past + count_of is_other_call past
all_calls [] = refl
all_calls (Called call (Lead p o) ∷ past) = let h = all_calls past in omega (arith, h)
all_calls (Called call reply ∷ past) = let h = all_calls past in omega (arith, h)
all_calls (_ ∷ past) = let h = all_calls past in omega (arith, h)

-- DIALS AND REPLIES, BY HEADS

dial_free : (s : Setting) (past : List Event) (link : ℕ) (w : Want) → Way s past w → Follows s past w (Dialed link) → has_link past ≡ false
dial_free s past link w (starts t h e same) f = absurd (subst (λ x. Follows s past x (Dialed link)) same f)
dial_free s past link w (loses on e k same) f = let clash : Dialed link ≡ LinkLost on = subst (λ x. Follows s past x (Dialed link)) same f in cc
dial_free s past link w (dials free none same) f = none
dial_free s past link w (draws t h name e n same) f = absurd (subst (λ x. Follows s past x (Dialed link)) same f)
dial_free s past link w (writes p q same) f = let clash = subst (λ x. Follows s past x (Dialed link)) same f in absurd (false≢true (ap is_head clash))
  where
    is_head : Event → Bool
    is_head (Headed on bytes) = true
    is_head _ = false

pub few_links : (s : Setting) (past : List Event) → IsPast s past → links past ≤ heads past + one_if (has_link past)
few_links s [] run = omega arith
few_links s (Dialed link ∷ past) run =
    let none : one_if (has_link past) ≡ 0 = ap one_if (dial_free s past link (go s past) (way s past) (way_from s past (Dialed link) refl run)) in
    omega (arith, few_links s past run.0, none)
few_links s (Headed link bytes ∷ past) run = omega (arith, few_links s past run.0, few_if (has_link past))
few_links s (_ ∷ past) run = few_links s past run.0

-- the last event is a head, for which nothing was read
abbrev is_unread : List Event → Bool
is_unread (Headed link bytes ∷ past) = true
is_unread _ = false

unread_replies : (s : Setting) (past : List Event) → IsPast s past → count_of is_reply past + one_if (is_unread past) ≤ heads past
unread_replies s [] run = omega arith
unread_replies s (Headed link bytes ∷ past) run = let h = unread_replies s past run.0 in omega (arith, h)
unread_replies s (Replied link reply ∷ past) run =
    let r = read_from s past (Replied link reply) refl run in
    let unread : one_if (is_unread past) ≡ 1 = ap (λ x. one_if (is_unread x)) r.3 in
    omega (arith, unread_replies s past run.0, unread)
unread_replies s (_ ∷ past) run = let h = unread_replies s past run.0 in omega (arith, h)

pub few_replies : (s : Setting) (past : List Event) → IsPast s past → count_of is_reply past ≤ heads past
few_replies s past run = omega (arith, unread_replies s past run)

-- WHAT IS ASKED, BY LEADS

abbrev is_led : List Event → Bool
is_led (Called call (Lead p o) ∷ past) = true
is_led _ = false

led_asks : (s : Setting) (past : List Event) → IsPast s past → count_of is_ask past + one_if (is_led past) ≤ count_of is_lead past
led_asks s [] run = omega arith
led_asks s (Called call (Lead p o) ∷ past) run = let h = led_asks s past run.0 in omega (arith, h)
led_asks s (AskedFor p seen ∷ past) run =
    let l = asks_from s past p seen run.0 run.1 in
    let led : one_if (is_led past) ≡ 1 = ap (λ x. one_if (is_led x)) l.3 in
    omega (arith, led_asks s past run.0, led)
led_asks s (Called call reply ∷ past) run = let h = led_asks s past run.0 in omega (arith, h)
led_asks s (_ ∷ past) run = let h = led_asks s past run.0 in omega (arith, h)

pub few_asks : (s : Setting) (past : List Event) → IsPast s past → count_of is_ask past ≤ count_of is_lead past
few_asks s past run = omega (arith, led_asks s past run)

-- WHAT CLOSES

-- an event behind which nothing but the end is wanted
abbrev pub is_final : List Event → Event → Bool
is_final past (DialFailed link count) = true
is_final past (WriteFailed link count) = true
is_final past (ReadFailed link count) = true
is_final past (Broken link fault) = true
is_final past (Stepped t (StepFailed count)) = true
is_final past (Stepped t StepNoMemory) = true
is_final past (LinkLost link) = list_any is_lost past
is_final past event = false

abbrev pub finals : List Event → ℕ
finals [] = 0
finals (event ∷ past) = one_if (is_final past event) + finals past

final_closes : (s : Setting) (past : List Event) (event : Event) → IsTrue (is_final past event) → (o : Outcome) × (move s (event ∷ past) ≡ Closes o)
final_closes s past (DialFailed link count) final = (LinkFailed count, refl)
final_closes s past (WriteFailed link count) final = (LinkFailed count, refl)
final_closes s past (ReadFailed link count) final = (LinkFailed count, refl)
final_closes s past (Broken link fault) final = (BadReply fault, refl)
final_closes s past (Stepped t (StepFailed count)) final = (ProviderFailed count, refl)
final_closes s past (Stepped t StepNoMemory) final = (NoMemory, refl)
final_closes s past (LinkLost link) final = (Refused (code past) BoundLost, ap (λ b. if b then Closes (Refused (code past) BoundLost) else Goes (go s (LinkLost link ∷ past))) final)
final_closes s past event final = absurd (false≢true final)

abbrev OneFinal : Setting → List Event → Type 0
OneFinal s past = (finals past ≡ 0) ⊎ (finals past ≡ 1) × IsDone s past

one_final : (s : Setting) (past : List Event) → IsPast s past → OneFinal s past
one_final s [] run = inl refl
one_final s (event ∷ past) run = at (one_final s past run.0)
  where
    by : (b : Bool) → is_final past event ≡ b → finals past ≡ 0 → OneFinal s (event ∷ past)
    by true k none = inr (ap (λ b. one_if b + finals past) k ∙ omega (arith, none), inl (final_closes s past event k))
    by false k none = inl (ap (λ b. one_if b + finals past) k ∙ omega (arith, none))

    closing : (o : Outcome) → move s past ≡ Closes o → finals past ≡ 1 → IsClosingStep s past o event → OneFinal s (event ∷ past)
    closing o closes one (by_call call reply p k) = subst (λ x. OneFinal s (x ∷ past)) (sym p) (inr (omega (arith, one), inl (o, still_closes s past call reply k ∙ closes)))
    closing o closes one (by_outcome p) = subst (λ x. OneFinal s (x ∷ past)) (sym p) (inr (omega (arith, one), inr refl))

    at : OneFinal s past → OneFinal s (event ∷ past)
    at (inl none) = by (is_final past event) refl none
    at (inr (one, inl (o, closes))) = closing o closes one (closing_step s past o event closes run.1)
    at (inr (one, inr over)) = absurd (nothing_after s past event over run.1)

pub few_finals : (s : Setting) (past : List Event) → IsPast s past → finals past ≤ 1
few_finals s past run = at (one_final s past run)
  where
    at : OneFinal s past → finals past ≤ 1
    at (inl none) = omega (arith, none)
    at (inr (one, done)) = omega (arith, one)

some_losts : (past : List Event) → losts past ≤ one_if (list_any is_lost past) + finals past
some_losts [] = omega arith
some_losts (LinkLost link ∷ past) = let h = some_losts past in omega (arith, h)
some_losts (_ ∷ past) = omega (arith, some_losts past)

pub few_losts : (s : Setting) (past : List Event) → IsPast s past → losts past ≤ 2
few_losts s past run = omega (arith, some_losts past, few_if (list_any is_lost past), few_finals s past run)

-- the outcome stands last
pub few_ends : (s : Setting) (past : List Event) → IsPast s past → count_of ends past ≤ one_if (is_over past)
few_ends s [] run = omega arith
few_ends s (event ∷ past) run = at (is_over past) refl (few_ends s past run.0)
  where
    at : (b : Bool) → is_over past ≡ b → count_of ends past ≤ one_if (is_over past) → count_of ends (event ∷ past) ≤ one_if (ends event)
    at true over h = absurd (nothing_after s past event over run.1)
    at false over h = let none : one_if (is_over past) ≡ 0 = ap one_if over in omega (arith, h, none)
