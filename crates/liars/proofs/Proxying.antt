-- A proxy and a server are each given their own identity.
use Rattle.std.proofs.Common.{◌≡◌, ℕ, ◌==◌, Bool, true, false, List, [], codes, bytes_eq, reverse, refl, sym, ap, subst, arith, inl, eqb-true}
use Rattle.base64.proofs.OnLiterals.{base64_on_literals}
use Rattle.httparse.proofs.OnLiterals.{httparse_on_literals}
use Rattle.std.proofs.lemmas.Bool.{false≢true}
use Rattle.std.specs.Fmt.{digits}
use Rattle.auth_events.specs.Book.{IsLegal}
use Rattle.auth_events.specs.Tables.{AreNames, no_names, with_space, with_text}
use Rattle.auth_events.proofs.Naming.{AreNames-none, AreNames-space, AreNames-text}
use Rattle.auth_runs.specs.declared.event.Event.{Event}
use Rattle.auth_runs.specs.declared.event.Event.TheVariants.{Headed}
use Rattle.auth_runs.specs.Runs.{history, trace, made_by, calls_of}
use Rattle.trace_rule.specs.Challenges.{challenges_in}
use Rattle.trace_rule.specs.NextNonces.{next_in}
use Rattle.trace_rule.specs.Heard.{reply_in, reply_len, fault_in, IsHeard}
use Rattle.trace_rule.specs.Traces.{IsTrace}
use Rattle.run_rule.specs.Runs.{IsServedIn, IsLoneRun}
use Rattle.run_rule.proofs.Apart.{apart_in}
use Rattle.liars.specs.Session.{seed, login, space_in}
use Rattle.liars.specs.Proxied.{proxied_outside, proxied_roster, proxied_request, proxy_space, proxy_login, proxied_head, proxied, proxys_to_the_server, servers_to_the_proxy}
use Rattle.liars.proofs.Refusing.{setting_in, past_in}

named : AreNames proxied.names
named =
    let server = space_in (codes "p") in
    let spaces = AreNames-space (with_space no_names proxy_space) server (AreNames-space no_names proxy_space AreNames-none refl refl) refl refl in
    AreNames-text (with_text (with_space (with_space no_names proxy_space) server) proxy_login) login
    (AreNames-text (with_space (with_space no_names proxy_space) server) proxy_login spaces)

is_trace : IsTrace (setting_in proxied 1 proxied_request) (trace proxied 1)
unfolding digits base64_on_literals challenges_in next_in
is_trace =
    inl (((((((((((((((((((((((tt, (refl, refl)), (refl, refl)), (refl, refl)), refl), refl), (refl, refl)), (refl, refl)), refl), (refl, refl, refl, refl)), refl), refl), (refl, refl)), (refl, refl)), refl), (refl, refl, refl, refl)), refl), refl), (refl, refl)), (refl, refl)), (refl, refl)), (refl, refl)), refl), refl)

is_heard : IsHeard proxied_outside.streams proxied_request.method 1 (reverse (trace proxied 1))
unfolding httparse_on_literals reply_in reply_len fault_in
is_heard = ((((((((((((((((((((((tt, tt), tt), tt), tt), tt), refl), tt), tt), tt), tt), tt), refl), tt), tt), tt), tt), tt), refl), tt), tt), tt), tt)

served : IsServedIn proxied_outside proxied 1
served = record { request = proxied_request; in_roster = refl; is_trace = is_trace; heard = is_heard; steps = refl }

once_by : (caller : ℕ) (b : Bool) → (1 == caller) ≡ b → made_by proxied caller ≡ calls_of 1 proxied caller
once_by caller true e = subst (λ k. made_by proxied k ≡ calls_of 1 proxied k) (eqb-true 1 caller e) refl
once_by caller false e = rw e refl

legal : IsLegal proxied.roster proxied.names (history proxied)
legal = ((((((((((tt, (refl, refl, refl)), (refl, refl, refl)), (refl, refl, refl)), (refl, refl, refl)), (refl, refl, refl)), (refl, refl, refl)), (refl, refl, refl)), (refl, refl, refl)), (refl, refl, refl)), (refl, refl, refl))

pub honest_proxied : IsLoneRun proxied_roster proxied_outside seed proxied
honest_proxied = record {
  is_run = record {
    is_run = record {
      same_roster = refl;
      same_seed = refl;
      named = named;
      few = record { spaces = omega arith; terms = omega arith; nonces = omega arith; texts = omega arith };
      used = λ unspent. refl;
      legal = legal;
      drawn_once = refl;
      apart = apart_in proxied named legal refl;
      once = λ caller. once_by caller (1 == caller) refl;
      whole = refl;
      served = λ r low high. let e : 1 ≡ r = omega (arith, low, high) in subst (IsServedIn proxied_outside proxied) e served;
      asked = refl;
      answered = (tt, (tt, (tt, (tt, (refl, (tt, (refl, (tt, (tt, (tt, tt))))))))));
    };
    draws = refl;
    in_order = λ unspent. refl;
  };
  faultless = refl;
}

-- LIES

abbrev bytes_in : Event → List ℕ
bytes_in (Headed link bytes) = bytes
bytes_in _ = []

pub proxys_to_the_server_is_refused : IsLoneRun proxied_roster proxied_outside seed proxys_to_the_server → ⊥
unfolding digits base64_on_literals challenges_in next_in
proxys_to_the_server_is_refused lie =
    let e : true ≡ false = ap (λ event. bytes_eq (bytes_in event) (proxied_head (codes "Authorization: Basic YTpi\r\n")))
    (past_in proxied_outside proxys_to_the_server 1 proxied_request 11 refl refl (lie.is_run.is_run.served 1 (omega arith) (omega arith))).1 in
    false≢true (sym e)

pub servers_to_the_proxy_is_refused : IsLoneRun proxied_roster proxied_outside seed servers_to_the_proxy → ⊥
unfolding digits base64_on_literals challenges_in next_in
servers_to_the_proxy_is_refused lie =
    let e : true ≡ false = ap (λ event. bytes_eq (bytes_in event) (proxied_head (codes "Proxy-Authorization: Basic dTpw\r\nAuthorization: Basic dTpw\r\n")))
    (past_in proxied_outside servers_to_the_proxy 1 proxied_request 5 refl refl (lie.is_run.is_run.served 1 (omega arith) (omega arith))).1 in
    false≢true (sym e)
