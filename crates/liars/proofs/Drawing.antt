-- Draws in turn are a run, and others are none.
use Rattle.std.proofs.Common.{◌≡◌, ℕ, ◌==◌, ◌≤◌, Bool, true, false, reverse, refl, sym, ap, subst, arith, inl, eqb-true}
use Rattle.base64.proofs.OnLiterals.{base64_on_literals}
use Rattle.httparse.proofs.OnLiterals.{httparse_on_literals}
use Rattle.std.proofs.lemmas.Bool.{false≢true}
use Rattle.std.specs.Fmt.{digits}
use Rattle.auth_events.specs.Book.{IsLegal}
use Rattle.auth_events.specs.Tables.{AreNames, no_names, with_space, with_terms}
use Rattle.auth_events.proofs.Naming.{AreNames-none, AreNames-space, AreNames-terms, AreNames-text}
use Rattle.auth_runs.specs.Runs.{history, trace, made_by, calls_of}
use Rattle.trace_rule.specs.Challenges.{challenges_in}
use Rattle.trace_rule.specs.NextNonces.{next_in}
use Rattle.trace_rule.specs.Heard.{reply_in, reply_len, fault_in, IsHeard}
use Rattle.trace_rule.specs.Traces.{IsTrace}
use Rattle.run_rule.specs.Runs.{IsServedIn, IsLoneRun}
use Rattle.run_rule.proofs.Apart.{apart_in}
use Rattle.liars.specs.Session.{seed, first_request, login}
use Rattle.liars.specs.Drawn.{drawn_outside, drawn_roster, drawn_names, digest_space, terms_name, nonce_name, in_turn, drawn_twice, out_of_turn, passed_over, future_epoch, never_drawn, nonce_twice}
use Rattle.liars.proofs.Kept.{each_of_two}
use Rattle.liars.proofs.Refusing.{setting_in, past_in}

in_turn_1_is_trace : IsTrace (setting_in in_turn 1 first_request) (trace in_turn 1)
unfolding digits base64_on_literals challenges_in next_in
in_turn_1_is_trace =
    inl ((((((((((((((((tt, (refl, refl)), (refl, refl)), refl), refl), (refl, refl)), (refl, refl)), refl), (refl, refl, refl, refl)), refl), (refl, refl)), refl), (refl, refl)), (refl, refl)), (refl, refl)), refl), refl)

in_turn_2_is_trace : IsTrace (setting_in in_turn 2 first_request) (trace in_turn 2)
unfolding digits base64_on_literals challenges_in next_in
in_turn_2_is_trace =
    inl ((((((((((tt, (refl, refl)), (refl, refl)), refl), (refl, refl)), refl), (refl, refl)), (refl, refl)), (refl, refl)), refl), refl)

in_turn_1_is_heard : IsHeard drawn_outside.streams first_request.method 1 (reverse (trace in_turn 1))
unfolding httparse_on_literals reply_in reply_len fault_in
in_turn_1_is_heard = (((((((((((((((tt, tt), tt), tt), tt), refl), tt), tt), tt), tt), tt), tt), refl), tt), tt), tt)

in_turn_2_is_heard : IsHeard drawn_outside.streams first_request.method 2 (reverse (trace in_turn 2))
unfolding httparse_on_literals reply_in reply_len fault_in
in_turn_2_is_heard = (((((((((tt, tt), tt), tt), tt), tt), refl), tt), tt), tt)

in_turn_served : (r : ℕ) → 1 ≤ r → r ≤ 2 → IsServedIn drawn_outside in_turn r
in_turn_served =
    each_of_two (IsServedIn drawn_outside in_turn)
    (record { request = first_request; in_roster = refl; is_trace = in_turn_1_is_trace; heard = in_turn_1_is_heard; steps = refl })
    (record { request = first_request; in_roster = refl; is_trace = in_turn_2_is_trace; heard = in_turn_2_is_heard; steps = refl })

named : AreNames drawn_names
named =
    AreNames-text (with_terms (with_space no_names digest_space) terms_name) login
    (AreNames-terms (with_space no_names digest_space) terms_name (AreNames-space no_names digest_space AreNames-none refl refl) refl refl refl)

once_by : (caller : ℕ) (b : Bool) → (1 == caller) ≡ b → made_by in_turn caller ≡ calls_of 1 in_turn caller
once_by caller true e = subst (λ k. made_by in_turn k ≡ calls_of 1 in_turn k) (eqb-true 1 caller e) refl
once_by caller false e = rw e refl

legal : IsLegal in_turn.roster in_turn.names (history in_turn)
legal = ((((((((((tt, (refl, refl, refl)), (refl, refl, refl)), (refl, refl, refl)), (refl, refl, refl)), (refl, refl, refl)), (refl, refl, refl)), (refl, refl, refl)), (refl, refl, refl)), (refl, refl, refl)), (refl, refl, refl))

pub honest_draws : IsLoneRun drawn_roster drawn_outside seed in_turn
honest_draws = record {
  is_run = record {
    is_run = record {
      same_roster = refl;
      same_seed = refl;
      named = named;
      few = record { spaces = omega arith; terms = omega arith; nonces = omega arith; texts = omega arith };
      used = λ unspent. refl;
      legal = legal;
      drawn_once = refl;
      apart = apart_in in_turn named legal refl;
      once = λ caller. once_by caller (1 == caller) refl;
      whole = refl;
      served = in_turn_served;
      asked = refl;
      answered = (tt, (tt, (tt, (refl, (tt, (tt, (tt, (tt, (tt, (tt, tt))))))))));
    };
    draws = refl;
    in_order = λ unspent. refl;
  };
  faultless = refl;
}

pub drawn_twice_is_refused : IsLoneRun drawn_roster drawn_outside seed drawn_twice → ⊥
drawn_twice_is_refused lie = false≢true lie.is_run.is_run.drawn_once

pub out_of_turn_is_refused : IsLoneRun drawn_roster drawn_outside seed out_of_turn → ⊥
out_of_turn_is_refused lie = false≢true lie.is_run.draws

pub passed_over_is_refused : IsLoneRun drawn_roster drawn_outside seed passed_over → ⊥
passed_over_is_refused lie = false≢true lie.is_run.is_run.drawn_once

pub future_epoch_is_refused : IsLoneRun drawn_roster drawn_outside seed future_epoch → ⊥
future_epoch_is_refused lie = false≢true lie.is_run.is_run.drawn_once

pub never_drawn_is_refused : IsLoneRun drawn_roster drawn_outside seed never_drawn → ⊥
unfolding digits base64_on_literals challenges_in next_in
never_drawn_is_refused lie =
    (past_in drawn_outside never_drawn 2 first_request 4 refl refl (lie.is_run.is_run.served 2 (omega arith) (omega arith))).1

pub nonce_twice_is_refused : IsLoneRun drawn_roster drawn_outside seed nonce_twice → ⊥
nonce_twice_is_refused lie =
    let e : true ≡ false = ap (λ n. n == 1) (lie.is_run.is_run.named.nonces nonce_name 1 2 refl refl) in
    false≢true (sym e)
