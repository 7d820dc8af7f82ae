-- How many events a request has.
use Rattle.std.specs.Prelude.{ℕ, ◌+◌, ◌≤◌, ◌==◌, Bool, true, false, not, if◌then◌else◌, List, [], ◌∷◌, length}
use Rattle.std.specs.List.{list_any}
use Rattle.auth_events.specs.declared.journal.Call.{Call}
use Rattle.auth_events.specs.declared.journal.Call.TheVariants.{Renew, Select}
use Rattle.auth_runs.specs.declared.event.Event.{Event}
use Rattle.auth_runs.specs.declared.event.Event.TheVariants.{Called}
use Rattle.trace_rule.specs.Holding.{is_no_mechanism}
use Rattle.trace_rule.specs.Moves.{is_answered}
use Rattle.trace_rule.specs.Settings.{Setting, IsNumbered}
use Rattle.trace_rule.specs.Traces.{IsPast, IsTrace}

-- at every moment eight more events have a place among 256
abbrev pub PastsLeaveRoom : Type 0
PastsLeaveRoom = (s : Setting) → IsNumbered s → (past : List Event) → IsPast s past → length past + 8 ≤ 256

-- a request has at most 256 events
abbrev pub EventsAreFew : Type 0
EventsAreFew = (s : Setting) → IsNumbered s → (events : List Event) → IsTrace s events → length events ≤ 256

-- CHOICES

-- the call chooses a space for a challenge, or new terms for a stale one
abbrev pub is_choice : Setting → List Event → Call → Bool
is_choice s past (Select space terms) = true
is_choice s past (Renew gift terms) = not (is_answered s past)
is_choice s past call = false

-- how many of them were made
abbrev pub choices : Setting → List Event → ℕ
choices s [] = 0
choices s (Called call reply ∷ past) = (if is_choice s past call then 1 else 0) + choices s past
choices s (event ∷ past) = choices s past

-- a request chooses at most 17 times, and at most 16 times where the provider never lacked a mechanism
abbrev pub ChoicesAreFew : Type 0
ChoicesAreFew =
    (s : Setting) → IsNumbered s → (past : List Event) → IsPast s past
    → choices s past ≤ (if list_any is_no_mechanism past then 17 else 16)

-- the call gives terms of a number: a choice, or a renewal at the end
abbrev pub gives_terms : Call → Bool
gives_terms (Select space terms) = true
gives_terms (Renew gift terms) = true
gives_terms call = false

-- how many of them were made
abbrev pub terms_given : List Event → ℕ
terms_given [] = 0
terms_given (Called call reply ∷ past) = (if gives_terms call then 1 else 0) + terms_given past
terms_given (event ∷ past) = terms_given past

-- the call names terms: a choice that has some, or a renewal; an answer has those of the choice that led its prompt
abbrev pub names_terms : Call → Bool
names_terms (Select space terms) = not (terms == 0)
names_terms (Renew gift terms) = not (terms == 0)
names_terms call = false

-- how many of them were made
abbrev pub terms_named : List Event → ℕ
terms_named [] = 0
terms_named (Called call reply ∷ past) = (if names_terms call then 1 else 0) + terms_named past
terms_named (event ∷ past) = terms_named past

-- with the renewals at the end a request names terms at most 16 times, and so at most 16 nonces
abbrev pub TermsAreFew : Type 0
TermsAreFew = (s : Setting) → IsNumbered s → (past : List Event) → IsPast s past → terms_named past ≤ 16
