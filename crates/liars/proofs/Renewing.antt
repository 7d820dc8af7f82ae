-- A stale nonce is renewed.
use Rattle.std.proofs.Common.{◌≡◌, ℕ, ◌==◌, Bool, true, false, reverse, refl, sym, ap, subst, arith, inl, eqb-true}
use Rattle.base64.proofs.OnLiterals.{base64_on_literals}
use Rattle.httparse.proofs.OnLiterals.{httparse_on_literals}
use Rattle.std.proofs.lemmas.Bool.{false≢true}
use Rattle.std.specs.Fmt.{digits}
use Rattle.auth_events.specs.declared.journal.Call.{Call}
use Rattle.auth_events.specs.declared.journal.Call.TheVariants.{Reject}
use Rattle.auth_events.specs.Book.{IsLegal}
use Rattle.auth_events.specs.Tables.{AreNames, no_names, with_space, with_terms}
use Rattle.auth_events.proofs.Naming.{AreNames-none, AreNames-space, AreNames-terms, AreNames-text}
use Rattle.auth_runs.specs.Runs.{history, trace, made_by, calls_of}
use Rattle.trace_rule.specs.Challenges.{challenges_in}
use Rattle.trace_rule.specs.NextNonces.{next_in}
use Rattle.trace_rule.specs.Heard.{reply_in, reply_len, fault_in, IsHeard}
use Rattle.trace_rule.specs.Traces.{IsTrace}
use Rattle.run_rule.specs.Runs.{IsServedIn, IsLoneRun}
use Rattle.run_rule.proofs.Apart.{apart_in}
use Rattle.liars.specs.Session.{seed, one_request, first_request, login}
use Rattle.liars.specs.Drawn.{digest_space, terms_name}
use Rattle.liars.specs.Stale.{stale_outside, stale_names, new_terms_name, renewed, asked_anew}
use Rattle.liars.proofs.Refusing.{setting_in, past_in}

named : AreNames stale_names
named =
    let first = with_terms (with_space no_names digest_space) terms_name in
    AreNames-text (with_terms first new_terms_name) login
    (AreNames-terms first new_terms_name
    (AreNames-terms (with_space no_names digest_space) terms_name (AreNames-space no_names digest_space AreNames-none refl refl) refl refl refl)
    refl refl refl)

is_trace : IsTrace (setting_in renewed 1 first_request) (trace renewed 1)
unfolding digits base64_on_literals challenges_in next_in
is_trace =
    inl (((((((((((((((((((((tt, (refl, refl)), (refl, refl)), refl), refl), (refl, refl)), (refl, refl)), refl), (refl, refl, refl, refl)), refl), (refl, refl)), refl), (refl, refl)), (refl, refl)), refl), (refl, refl)), refl), (refl, refl)), (refl, refl)), (refl, refl)), refl), refl)

is_heard : IsHeard stale_outside.streams first_request.method 1 (reverse (trace renewed 1))
unfolding httparse_on_literals reply_in reply_len fault_in
is_heard = ((((((((((((((((((((tt, tt), tt), tt), tt), refl), tt), tt), tt), tt), tt), tt), refl), tt), tt), tt), tt), refl), tt), tt), tt)

served : IsServedIn stale_outside renewed 1
served = record { request = first_request; in_roster = refl; is_trace = is_trace; heard = is_heard; steps = refl }

once_by : (caller : ℕ) (b : Bool) → (1 == caller) ≡ b → made_by renewed caller ≡ calls_of 1 renewed caller
once_by caller true e = subst (λ k. made_by renewed k ≡ calls_of 1 renewed k) (eqb-true 1 caller e) refl
once_by caller false e = rw e refl

legal : IsLegal renewed.roster renewed.names (history renewed)
legal = (((((((tt, (refl, refl, refl)), (refl, refl, refl)), (refl, refl, refl)), (refl, refl, refl)), (refl, refl, refl)), (refl, refl, refl)), (refl, refl, refl))

pub honest_renewal : IsLoneRun one_request stale_outside seed renewed
honest_renewal = record {
  is_run = record {
    is_run = record {
      same_roster = refl;
      same_seed = refl;
      named = named;
      few = record { spaces = omega arith; terms = omega arith; nonces = omega arith; texts = omega arith };
      used = λ unspent. refl;
      legal = legal;
      drawn_once = refl;
      apart = apart_in renewed named legal refl;
      once = λ caller. once_by caller (1 == caller) refl;
      whole = refl;
      served = λ r low high. let e : 1 ≡ r = omega (arith, low, high) in subst (IsServedIn stale_outside renewed) e served;
      asked = refl;
      answered = (tt, (tt, (tt, (refl, (tt, (tt, (tt, tt)))))));
    };
    draws = refl;
    in_order = λ unspent. refl;
  };
  faultless = refl;
}

-- THE LIE

abbrev is_reject : Call → Bool
is_reject (Reject space ordinal) = true
is_reject _ = false

pub asked_anew_is_refused : IsLoneRun one_request stale_outside seed asked_anew → ⊥
unfolding digits base64_on_literals challenges_in next_in
asked_anew_is_refused lie =
    let e : true ≡ false = ap is_reject (past_in stale_outside asked_anew 1 first_request 5 refl refl (lie.is_run.is_run.served 1 (omega arith) (omega arith))).1.0 in
    false≢true (sym e)
