-- Honest runs are runs, by computation.
use Rattle.std.proofs.Common.{◌≡◌, ℕ, zero, suc, ◌≤◌, ◌==◌, Bool, true, false, List, reverse, drop, codes, refl, sym, subst, arith, inl, inr, eqb-true}
use Rattle.base64.proofs.OnLiterals.{base64_on_literals}
use Rattle.httparse.proofs.OnLiterals.{httparse_on_literals}
use Rattle.std.proofs.lemmas.Bool.{false≢true}
use Rattle.std.specs.Fmt.{digits}
use Rattle.auth_events.specs.Book.{IsLegal}
use Rattle.auth_events.specs.Tables.{AreNames, no_names, with_space, with_text}
use Rattle.auth_events.proofs.Naming.{AreNames-none, AreNames-space, AreNames-text}
use Rattle.auth_runs.specs.declared.event.Event.{Event}
use Rattle.auth_runs.specs.Runs.{history, trace, made_by, calls_of}
use Rattle.trace_rule.specs.Challenges.{challenges_in}
use Rattle.trace_rule.specs.NextNonces.{next_in}
use Rattle.trace_rule.specs.Heard.{reply_in, reply_len, fault_in, IsHeard}
use Rattle.trace_rule.specs.Traces.{IsTrace}
use Rattle.run_rule.specs.Runs.{IsServedIn, IsRunBy, IsLoneRun}
use Rattle.run_rule.proofs.Apart.{apart_in}
use Rattle.liars.specs.Session.{outside, seed, one_request, two_requests, first_request, second_request, login, space_in}
use Rattle.liars.specs.Honest.{one, two, two_callers, cut, events}
use Rattle.liars.proofs.Refusing.{setting_in}

-- NAMES

pub named_one : AreNames one.names
named_one = AreNames-text (with_space no_names (space_in (codes "p"))) login (AreNames-space no_names (space_in (codes "p")) AreNames-none refl refl)

-- TRACES

one_is_trace : IsTrace (setting_in one 1 first_request) (events 1)
unfolding digits base64_on_literals challenges_in next_in
one_is_trace =
    inl (((((((((((((((tt, (refl, refl)), (refl, refl)), refl), refl), (refl, refl)), (refl, refl)), refl), (refl, refl, refl, refl)), refl), refl), (refl, refl)), (refl, refl)), (refl, refl)), refl), refl)

pub one_is_heard : IsHeard outside.streams first_request.method 1 (reverse (events 1))
unfolding httparse_on_literals reply_in reply_len fault_in
one_is_heard = ((((((((((((((tt, tt), tt), tt), tt), refl), tt), tt), tt), tt), tt), refl), tt), tt), tt)

one_served : IsServedIn outside one 1
one_served = record { request = first_request; in_roster = refl; is_trace = one_is_trace; heard = one_is_heard; steps = refl }

-- ONE

once_by : (caller : ℕ) (b : Bool) → (1 == caller) ≡ b → made_by one caller ≡ calls_of 1 one caller
once_by caller true e = subst (λ k. made_by one k ≡ calls_of 1 one k) (eqb-true 1 caller e) refl
once_by caller false e = rw e refl

legal_one : IsLegal one.roster one.names (history one)
legal_one = ((((((tt, (refl, refl, refl)), (refl, refl, refl)), (refl, refl, refl)), (refl, refl, refl)), (refl, refl, refl)), (refl, refl, refl))

pub honest_one : IsLoneRun one_request outside seed one
honest_one = record {
  is_run = record {
    is_run = record {
      same_roster = refl;
      same_seed = refl;
      named = named_one;
      few = record { spaces = omega arith; terms = omega arith; nonces = omega arith; texts = omega arith };
      used = λ unspent. refl;
      legal = legal_one;
      drawn_once = refl;
      apart = apart_in one named_one legal_one refl;
      once = λ caller. once_by caller (1 == caller) refl;
      whole = refl;
      served = λ r low high. let e : 1 ≡ r = omega (arith, low, high) in subst (IsServedIn outside one) e one_served;
      asked = refl;
      answered = (tt, (tt, (tt, (refl, (tt, (tt, tt))))));
    };
    draws = refl;
    in_order = λ unspent. refl;
  };
  faultless = refl;
}

-- TWO

named_two : AreNames two.names
named_two =
    let first = space_in (codes "p") in
    let second = space_in (codes "q") in
    let spaces = AreNames-space (with_space no_names first) second (AreNames-space no_names first AreNames-none refl refl) refl refl in
    AreNames-text (with_text (with_space (with_space no_names first) second) login) login (AreNames-text (with_space (with_space no_names first) second) login spaces)

-- what holds of the first and the second holds of both
pub each_of_two : (P : ℕ → Type 0) → P 1 → P 2 → (r : ℕ) → 1 ≤ r → r ≤ 2 → P r
each_of_two P first second zero low high = absurd (omega (arith, low))
each_of_two P first second (suc zero) low high = first
each_of_two P first second (suc (suc zero)) low high = second
each_of_two P first second (suc (suc (suc r))) low high = absurd (omega (arith, high))

two_1_is_trace : IsTrace (setting_in two 1 first_request) (events 1)
unfolding digits base64_on_literals challenges_in next_in
two_1_is_trace =
    inl (((((((((((((((tt, (refl, refl)), (refl, refl)), refl), refl), (refl, refl)), (refl, refl)), refl), (refl, refl, refl, refl)), refl), refl), (refl, refl)), (refl, refl)), (refl, refl)), refl), refl)

two_2_is_trace : IsTrace (setting_in two 2 second_request) (events 2)
unfolding digits base64_on_literals challenges_in next_in
two_2_is_trace =
    inl (((((((((((((((tt, (refl, refl)), (refl, refl)), refl), refl), (refl, refl)), (refl, refl)), refl), (refl, refl, refl, refl)), refl), refl), (refl, refl)), (refl, refl)), (refl, refl)), refl), refl)

two_is_heard : IsHeard outside.streams second_request.method 2 (reverse (events 2))
unfolding httparse_on_literals reply_in reply_len fault_in
two_is_heard = ((((((((((((((tt, tt), tt), tt), tt), refl), tt), tt), tt), tt), tt), refl), tt), tt), tt)

two_served : (r : ℕ) → 1 ≤ r → r ≤ 2 → IsServedIn outside two r
two_served =
    each_of_two (IsServedIn outside two)
    (record { request = first_request; in_roster = refl; is_trace = two_1_is_trace; heard = one_is_heard; steps = refl })
    (record { request = second_request; in_roster = refl; is_trace = two_2_is_trace; heard = two_is_heard; steps = refl })

two_once : (caller : ℕ) (b : Bool) → (1 == caller) ≡ b → made_by two caller ≡ calls_of 1 two caller
two_once caller true e = subst (λ k. made_by two k ≡ calls_of 1 two k) (eqb-true 1 caller e) refl
two_once caller false e = rw e refl

legal_two : IsLegal two.roster two.names (history two)
legal_two = ((((((((((((tt, (refl, refl, refl)), (refl, refl, refl)), (refl, refl, refl)), (refl, refl, refl)), (refl, refl, refl)), (refl, refl, refl)), (refl, refl, refl)), (refl, refl, refl)), (refl, refl, refl)), (refl, refl, refl)), (refl, refl, refl)), (refl, refl, refl))

pub honest_two : IsLoneRun two_requests outside seed two
honest_two = record {
  is_run = record {
    is_run = record {
      same_roster = refl;
      same_seed = refl;
      named = named_two;
      few = record { spaces = omega arith; terms = omega arith; nonces = omega arith; texts = omega arith };
      used = λ unspent. refl;
      legal = legal_two;
      drawn_once = refl;
      apart = apart_in two named_two legal_two refl;
      once = λ caller. two_once caller (1 == caller) refl;
      whole = refl;
      served = two_served;
      asked = refl;
      answered = (tt, (tt, (tt, (refl, (tt, (tt, (tt, (tt, (tt, (refl, (tt, (tt, tt))))))))))));
    };
    draws = refl;
    in_order = λ unspent. refl;
  };
  faultless = refl;
}

-- TWO CALLERS

callers_1_is_trace : IsTrace (setting_in two_callers 1 first_request) (events 1)
unfolding digits base64_on_literals challenges_in next_in
callers_1_is_trace =
    inl (((((((((((((((tt, (refl, refl)), (refl, refl)), refl), refl), (refl, refl)), (refl, refl)), refl), (refl, refl, refl, refl)), refl), refl), (refl, refl)), (refl, refl)), (refl, refl)), refl), refl)

callers_2_is_trace : IsTrace (setting_in two_callers 2 second_request) (events 2)
unfolding digits base64_on_literals challenges_in next_in
callers_2_is_trace =
    inl (((((((((((((((tt, (refl, refl)), (refl, refl)), refl), refl), (refl, refl)), (refl, refl)), refl), (refl, refl, refl, refl)), refl), refl), (refl, refl)), (refl, refl)), (refl, refl)), refl), refl)

callers_served : (r : ℕ) → 1 ≤ r → r ≤ 2 → IsServedIn outside two_callers r
callers_served =
    each_of_two (IsServedIn outside two_callers)
    (record { request = first_request; in_roster = refl; is_trace = callers_1_is_trace; heard = one_is_heard; steps = refl })
    (record { request = second_request; in_roster = refl; is_trace = callers_2_is_trace; heard = two_is_heard; steps = refl })

callers_once : (caller : ℕ) (a b : Bool) → (1 == caller) ≡ a → (2 == caller) ≡ b → made_by two_callers caller ≡ calls_of 2 two_callers caller
callers_once caller true b e f = subst (λ k. made_by two_callers k ≡ calls_of 2 two_callers k) (eqb-true 1 caller e) refl
callers_once caller false true e f = subst (λ k. made_by two_callers k ≡ calls_of 2 two_callers k) (eqb-true 2 caller f) refl
callers_once caller false false e f = rw (e, f) refl

legal_callers : IsLegal two_callers.roster two_callers.names (history two_callers)
legal_callers = ((((((((((((tt, (refl, refl, refl)), (refl, refl, refl)), (refl, refl, refl)), (refl, refl, refl)), (refl, refl, refl)), (refl, refl, refl)), (refl, refl, refl)), (refl, refl, refl)), (refl, refl, refl)), (refl, refl, refl)), (refl, refl, refl)), (refl, refl, refl))

pub honest_two_callers : IsRunBy 2 two_requests outside seed two_callers
honest_two_callers = record {
  same_roster = refl;
  same_seed = refl;
  named = named_two;
  few = record { spaces = omega arith; terms = omega arith; nonces = omega arith; texts = omega arith };
  used = λ unspent. refl;
  legal = legal_callers;
  drawn_once = refl;
  apart = apart_in two_callers named_two legal_callers refl;
  once = λ caller. callers_once caller (1 == caller) (2 == caller) refl refl;
  whole = refl;
  served = callers_served;
  asked = refl;
  answered = (tt, (tt, (tt, (tt, (tt, (refl, (tt, (refl, (tt, (tt, (tt, (tt, tt))))))))))));
}

-- WANT OF MEMORY

cut_past : List Event
cut_past = drop 2 (reverse (trace cut 1))

cut_is_trace : IsTrace (setting_in cut 1 first_request) (trace cut 1)
unfolding digits base64_on_literals challenges_in next_in cut_past
cut_is_trace = inr (cut_past, record { is_past = (((((tt, (refl, refl)), (refl, refl)), refl), refl), (refl, refl)); may_cut = refl; cut = refl })

cut_is_heard : IsHeard outside.streams first_request.method 1 (reverse (trace cut 1))
unfolding httparse_on_literals reply_in reply_len fault_in
cut_is_heard = (((((((tt, tt), tt), tt), tt), refl), tt), tt)

cut_served : IsServedIn outside cut 1
cut_served = record { request = first_request; in_roster = refl; is_trace = cut_is_trace; heard = cut_is_heard; steps = refl }

cut_once : (caller : ℕ) (b : Bool) → (1 == caller) ≡ b → made_by cut caller ≡ calls_of 1 cut caller
cut_once caller true e = subst (λ k. made_by cut k ≡ calls_of 1 cut k) (eqb-true 1 caller e) refl
cut_once caller false e = rw e refl

named_cut : AreNames cut.names
named_cut = AreNames-space no_names (space_in (codes "p")) AreNames-none refl refl

legal_cut : IsLegal cut.roster cut.names (history cut)
legal_cut = (((tt, (refl, refl, refl)), (refl, refl, refl)), (refl, refl, refl))

pub honest_cut : IsLoneRun one_request outside seed cut
honest_cut = record {
  is_run = record {
    is_run = record {
      same_roster = refl;
      same_seed = refl;
      named = named_cut;
      few = record { spaces = omega arith; terms = omega arith; nonces = omega arith; texts = omega arith };
      used = λ unspent. absurd (false≢true (sym unspent));
      legal = legal_cut;
      drawn_once = refl;
      apart = apart_in cut named_cut legal_cut refl;
      once = λ caller. cut_once caller (1 == caller) refl;
      whole = refl;
      served = λ r low high. let e : 1 ≡ r = omega (arith, low, high) in subst (IsServedIn outside cut) e cut_served;
      asked = refl;
      answered = (tt, (tt, (tt, tt)));
    };
    draws = refl;
    in_order = λ unspent. absurd (false≢true (sym unspent));
  };
  faultless = refl;
}
