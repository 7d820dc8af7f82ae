-- A prompt is shared by those who wait for it.
use Rattle.std.proofs.Common.{◌≡◌, ℕ, ◌≤◌, ◌==◌, Bool, true, false, reverse, refl, ap, subst, arith, inl, eqb-true}
use Rattle.base64.proofs.OnLiterals.{base64_on_literals}
use Rattle.httparse.proofs.OnLiterals.{httparse_on_literals}
use Rattle.std.proofs.lemmas.Bool.{false≢true}
use Rattle.std.specs.Fmt.{digits}
use Rattle.auth_events.specs.declared.journal.BookReply.{BookReply}
use Rattle.auth_events.specs.declared.journal.BookReply.TheVariants.{Ready, Gave}
use Rattle.auth_events.specs.Book.{IsLegal}
use Rattle.auth_runs.specs.Runs.{history, trace, made_by, calls_of}
use Rattle.trace_rule.specs.Challenges.{challenges_in}
use Rattle.trace_rule.specs.NextNonces.{next_in}
use Rattle.trace_rule.specs.Heard.{reply_in, reply_len, fault_in, IsHeard}
use Rattle.trace_rule.specs.Traces.{IsTrace}
use Rattle.run_rule.specs.Runs.{IsServedIn, IsRunBy, IsLoneRun}
use Rattle.run_rule.proofs.Apart.{apart_in}
use Rattle.liars.specs.Session.{outside, seed, first_request}
use Rattle.liars.specs.Shared.{shared_roster, shared, cancelled_for_one, not_taken, asked_again}
use Rattle.liars.proofs.Kept.{each_of_two, named_one, one_is_heard}
use Rattle.liars.proofs.Refusing.{setting_in, past_in}

leader_is_trace : IsTrace (setting_in shared 1 first_request) (trace shared 1)
unfolding digits base64_on_literals challenges_in next_in
leader_is_trace =
    inl (((((((((((((((tt, (refl, refl)), (refl, refl)), refl), refl), (refl, refl)), (refl, refl)), refl), (refl, refl, refl, refl)), refl), refl), (refl, refl)), (refl, refl)), (refl, refl)), refl), refl)

waiter_is_trace : IsTrace (setting_in shared 2 first_request) (trace shared 2)
unfolding digits base64_on_literals challenges_in next_in
waiter_is_trace =
    inl ((((((((((((((tt, (refl, refl)), (refl, refl)), refl), refl), (refl, refl)), (refl, refl)), (refl, refl)), refl), refl), (refl, refl)), (refl, refl)), (refl, refl)), refl), refl)

waiter_is_heard : IsHeard outside.streams first_request.method 2 (reverse (trace shared 2))
unfolding httparse_on_literals reply_in reply_len fault_in
waiter_is_heard = (((((((((((((tt, tt), tt), tt), tt), refl), tt), tt), tt), tt), refl), tt), tt), tt)

shared_served : (r : ℕ) → 1 ≤ r → r ≤ 2 → IsServedIn outside shared r
shared_served =
    each_of_two (IsServedIn outside shared)
    (record { request = first_request; in_roster = refl; is_trace = leader_is_trace; heard = one_is_heard; steps = refl })
    (record { request = first_request; in_roster = refl; is_trace = waiter_is_trace; heard = waiter_is_heard; steps = refl })

once_by : (caller : ℕ) (a b : Bool) → (1 == caller) ≡ a → (2 == caller) ≡ b → made_by shared caller ≡ calls_of 2 shared caller
once_by caller true b e f = subst (λ k. made_by shared k ≡ calls_of 2 shared k) (eqb-true 1 caller e) refl
once_by caller false true e f = subst (λ k. made_by shared k ≡ calls_of 2 shared k) (eqb-true 2 caller f) refl
once_by caller false false e f = rw (e, f) refl

legal : IsLegal shared.roster shared.names (history shared)
legal = ((((((((((((tt, (refl, refl, refl)), (refl, refl, refl)), (refl, refl, refl)), (refl, refl, refl)), (refl, refl, refl)), (refl, refl, refl)), (refl, refl, refl)), (refl, refl, refl)), (refl, refl, refl)), (refl, refl, refl)), (refl, refl, refl)), (refl, refl, refl))

pub honest_sharing : IsRunBy 2 shared_roster outside seed shared
honest_sharing = record {
  same_roster = refl;
  same_seed = refl;
  named = named_one;
  few = record { spaces = omega arith; terms = omega arith; nonces = omega arith; texts = omega arith };
  used = λ unspent. refl;
  legal = legal;
  drawn_once = refl;
  apart = apart_in shared named_one legal refl;
  once = λ caller. once_by caller (1 == caller) (2 == caller) refl refl;
  whole = refl;
  served = shared_served;
  asked = refl;
  answered = (tt, (tt, (tt, (tt, (tt, (tt, (refl, (tt, (tt, (tt, (tt, (tt, tt))))))))))));
}

-- LIES

abbrev is_gave : BookReply → Bool
is_gave (Gave gift) = true
is_gave _ = false

abbrev is_ready : BookReply → Bool
is_ready (Ready gift terms epoch) = true
is_ready _ = false

pub cancelled_for_one_is_refused : IsRunBy 2 shared_roster outside seed cancelled_for_one → ⊥
cancelled_for_one_is_refused lie =
    let e : false ≡ true = ap is_gave lie.legal.0.0.0.1.1 in
    false≢true e

pub not_taken_is_refused : IsRunBy 2 shared_roster outside seed not_taken → ⊥
unfolding digits base64_on_literals challenges_in next_in
not_taken_is_refused lie = (past_in outside not_taken 2 first_request 5 refl refl (lie.served 2 (omega arith) (omega arith))).1

pub asked_again_is_refused : IsLoneRun shared_roster outside seed asked_again → ⊥
asked_again_is_refused lie =
    let e : false ≡ true = ap is_ready lie.is_run.is_run.legal.0.0.0.0.1.1 in
    false≢true e
