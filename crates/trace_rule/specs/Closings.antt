-- The calls at the end of a request: renewals, notes and `End`. With them it is said what comes next.
use Rattle.std.specs.Prelude.{ℕ, ◌+◌, Bool, true, false, not, ◌&&◌, nat_le, List, [], ◌∷◌, ◌++◌, map, drop, Option, Some, None, unwrap_or, option_map, option_and_then, if◌then◌else◌}
use Rattle.spaces.specs.declared.site.Target.{Target}
use Rattle.spaces.specs.declared.site.Target.TheVariants.{Server, Proxy}
use Rattle.spaces.specs.declared.space.Scheme.TheVariants.{Digest}
use Rattle.spaces.specs.declared.terms.Terms.{Terms}
use Rattle.auth_events.specs.declared.names.TermsName.{TermsName}
use Rattle.auth_events.specs.declared.journal.Call.{Call}
use Rattle.auth_events.specs.declared.journal.Call.TheVariants.{Renew, Note, End}
use Rattle.auth_runs.specs.declared.event.Outcome.{Outcome}
use Rattle.auth_runs.specs.declared.event.Outcome.TheVariants.{Answered, Refused}
use Rattle.auth_runs.specs.declared.event.Event.{Event}
use Rattle.auth_runs.specs.declared.event.Event.TheVariants.{Called}
use Rattle.trace_rule.specs.Settings.{Setting, scheme_is, is_by_path}
use Rattle.trace_rule.specs.Challenges.{challenges_target}
use Rattle.trace_rule.specs.Holding.{Held, carried, last_reply}
use Rattle.trace_rule.specs.NextNonces.{next}
use Rattle.trace_rule.specs.Moves.{Want, Move, move, rounds, is_answered}
use Rattle.trace_rule.specs.Moves.Want.{Calls, Ends, Rests}
use Rattle.trace_rule.specs.Moves.Move.{Goes, Closes}

-- RENEWALS (RFC 7616, section 3.5)

-- the terms, with another nonce
abbrev pub with_nonce : List ℕ → Terms → Terms
with_nonce nonce terms = record terms { nonce = nonce }

-- the call that gives a gift the terms that it went out with, but for the nonce; none where they have no number
abbrev pub renewal : Setting → Held → List ℕ → Option Call
renewal s h nonce =
    option_and_then (λ name. option_map (Renew h.gift) (s.terms_no h.gift.space (with_nonce nonce name.terms))) (s.terms_of h.terms)

-- the Digest gift that the last head carried for the target is renewed where a next nonce came for it
abbrev pub renewal_of : Setting → List Event → Target → Held → List (Option Call)
renewal_of s past t h =
    if scheme_is s h.gift.space Digest
    then unwrap_or (option_map (λ nonce. renewal s h nonce ∷ []) (next past t)) [] else []

abbrev pub renewal_for : Setting → List Event → Target → List (Option Call)
renewal_for s past t = unwrap_or (option_map (renewal_of s past t) (carried s past t)) []

-- an answered request renews where it had at most 14 rounds
abbrev pub renewals : Setting → List Event → Outcome → List (Option Call)
renewals s past (Answered status) =
    if is_answered s past && nat_le (rounds s past) 14 then renewal_for s past Proxy ++ renewal_for s past Server else []
renewals s past outcome = []

-- NOTES

-- the last reply challenges the target
abbrev pub is_challenged : Setting → List Event → Target → Bool
is_challenged s past t = unwrap_or (option_map (λ reply. challenges_target s reply t) (last_reply past)) false

-- the Basic or Digest gift that the last head carried for the target is noted, unless the last reply challenges it
abbrev pub note_of : Setting → List Event → Target → Held → List Call
note_of s past t h =
    if is_by_path s h.gift.space && not (is_challenged s past t) then Note h.gift ∷ [] else []

abbrev pub note_for : Setting → List Event → Target → List Call
note_for s past t = unwrap_or (option_map (note_of s past t) (carried s past t)) []

abbrev pub notes : Setting → List Event → Outcome → List Call
notes s past (Answered status) = note_for s past Proxy ++ note_for s past Server
notes s past (Refused status why) = note_for s past Proxy ++ note_for s past Server
notes s past outcome = []

-- ALL CALLS AT THE END

-- in order; none stands for a renewal whose terms have no number
abbrev pub closings : Setting → List Event → Outcome → List (Option Call)
closings s past outcome = renewals s past outcome ++ map Some (notes s past outcome ++ End ∷ [])

-- the call is one at the end; a renewal is, behind a reply that is no challenge
abbrev pub is_closing : Setting → List Event → Call → Bool
is_closing s past (Renew gift terms) = is_answered s past
is_closing s past (Note gift) = true
is_closing s past End = true
is_closing s past call = false

-- how many of them were made
abbrev pub closings_made : Setting → List Event → ℕ
closings_made s [] = 0
closings_made s (Called call reply ∷ past) = (if is_closing s past call then 1 else 0) + closings_made s past
closings_made s (event ∷ past) = closings_made s past

-- where terms have no number, nothing may follow
abbrev pub next_closing : Outcome → List (Option Call) → Want
next_closing outcome [] = Ends outcome
next_closing outcome (None ∷ calls) = Rests
next_closing outcome (Some call ∷ calls) = Calls call

-- the calls at the end, and then the outcome
abbrev pub close : Setting → List Event → Outcome → Want
close s past outcome = next_closing outcome (drop (closings_made s past) (closings s past outcome))

-- WHAT COMES NEXT

abbrev pub carried_out : Setting → List Event → Move → Want
carried_out s past (Goes want) = want
carried_out s past (Closes outcome) = close s past outcome

-- what comes next
abbrev pub want : Setting → List Event → Want
want s past = carried_out s past (move s past)
