-- Lies are refused, each where it lies.
use Rattle.std.proofs.Common.{◌≡◌, ℕ, ◌==◌, Bool, true, false, List, [], codes, bytes_eq, length, refl, sym, ap, arith, Option}
use Rattle.std.specs.Prelude.{is_some, option_map, unwrap_or}
use Rattle.std.proofs.lemmas.Bool.{false≢true}
use Rattle.base64.proofs.OnLiterals.{base64_on_literals}
use Rattle.httparse.proofs.OnLiterals.{httparse_on_literals}
use Rattle.std.specs.Fmt.{digits}
use Rattle.auth_text.specs.Login.{Login}
use Rattle.wire_head.specs.declared.reply.Reply.{Reply}
use Rattle.auth_events.specs.declared.journal.Call.{Call}
use Rattle.auth_events.specs.declared.journal.Call.TheVariants.{Note}
use Rattle.auth_events.specs.declared.journal.BookReply.{BookReply}
use Rattle.auth_events.specs.declared.journal.BookReply.TheVariants.{Ready, Given}
use Rattle.auth_runs.specs.declared.event.Event.{Event}
use Rattle.auth_runs.specs.declared.event.Event.TheVariants.{Headed}
use Rattle.trace_rule.specs.Challenges.{challenges_in}
use Rattle.trace_rule.specs.NextNonces.{next_in}
use Rattle.trace_rule.specs.Heard.{reply_in, reply_len, fault_in}
use Rattle.run_rule.specs.Runs.{IsLoneRun}
use Rattle.liars.specs.Session.{outside, seed, one_request, two_requests, first_request, space_in, head_to, bare_head, full_head}
use Rattle.liars.specs.Lies.{nobody_asked, not_listened, another_identity, never_asked, asked_twice, another_password, no_identity, to_a_proxy, to_another_host, over_the_first_link, reply_of_another_link, broken_reply, dial_fault, read_fault, too_early, given_up, no_note, entry_twice, untraced_call, two_as_one, another_gift, another_partitions_gift, request_left_out, unused_text, space_twice, text_again, another_seed}
use Rattle.liars.proofs.Refusing.{past_in, heard_in}

abbrev password_in : Option Login → List ℕ
password_in answer = unwrap_or (option_map (λ login. login.password) answer) []

abbrev bytes_in : Event → List ℕ
bytes_in (Headed link bytes) = bytes
bytes_in _ = []

abbrev link_in : Event → ℕ
link_in (Headed link bytes) = link
link_in _ = 0

abbrev code_in : Option Reply → ℕ
code_in reply = unwrap_or (option_map (λ it. it.code) reply) 0

abbrev is_note : Call → Bool
is_note (Note gift) = true
is_note _ = false

abbrev ordinal_in : BookReply → ℕ
ordinal_in (Given gift evicted) = gift.ordinal
ordinal_in _ = 0

abbrev is_ready : BookReply → Bool
is_ready (Ready gift terms epoch) = true
is_ready _ = false

-- PROMPTS

pub nobody_asked_is_refused : IsLoneRun one_request outside seed nobody_asked → ⊥
nobody_asked_is_refused lie = false≢true lie.faultless

pub not_listened_is_refused : IsLoneRun one_request outside seed not_listened → ⊥
not_listened_is_refused lie = false≢true lie.is_run.is_run.asked

pub another_identity_is_refused : IsLoneRun one_request outside seed another_identity → ⊥
another_identity_is_refused lie =
    let e : true ≡ false = ap (λ answer. bytes_eq (password_in answer) (codes "q")) lie.is_run.is_run.answered.1.1.1.0 in
    false≢true (sym e)

pub never_asked_is_refused : IsLoneRun one_request outside seed never_asked → ⊥
unfolding digits base64_on_literals challenges_in next_in
never_asked_is_refused lie =
    (past_in outside never_asked 1 first_request 6 refl refl (lie.is_run.is_run.served 1 (omega arith) (omega arith))).1

pub asked_twice_is_refused : IsLoneRun one_request outside seed asked_twice → ⊥
unfolding digits base64_on_literals challenges_in next_in
asked_twice_is_refused lie =
    (past_in outside asked_twice 1 first_request 7 refl refl (lie.is_run.is_run.served 1 (omega arith) (omega arith))).1

-- HEADS

pub another_password_is_refused : IsLoneRun one_request outside seed another_password → ⊥
unfolding digits base64_on_literals challenges_in next_in
another_password_is_refused lie =
    let e : true ≡ false = ap (λ event. bytes_eq (bytes_in event) (head_to (codes "h") (codes "Authorization: Basic dTpx\r\n")))
    (past_in outside another_password 1 first_request 4 refl refl (lie.is_run.is_run.served 1 (omega arith) (omega arith))).1 in
    false≢true (sym e)

pub no_identity_is_refused : IsLoneRun one_request outside seed no_identity → ⊥
unfolding digits base64_on_literals challenges_in next_in
no_identity_is_refused lie =
    let e : true ≡ false = ap (λ event. bytes_eq (bytes_in event) bare_head)
    (past_in outside no_identity 1 first_request 4 refl refl (lie.is_run.is_run.served 1 (omega arith) (omega arith))).1 in
    false≢true (sym e)

pub to_a_proxy_is_refused : IsLoneRun one_request outside seed to_a_proxy → ⊥
unfolding digits base64_on_literals challenges_in next_in
to_a_proxy_is_refused lie =
    let e : false ≡ true = ap (λ event. bytes_eq (bytes_in event) full_head)
    (past_in outside to_a_proxy 1 first_request 4 refl refl (lie.is_run.is_run.served 1 (omega arith) (omega arith))).1 in
    false≢true e

pub to_another_host_is_refused : IsLoneRun one_request outside seed to_another_host → ⊥
unfolding digits base64_on_literals challenges_in next_in
to_another_host_is_refused lie =
    let e : false ≡ true = ap (λ event. bytes_eq (bytes_in event) full_head)
    (past_in outside to_another_host 1 first_request 4 refl refl (lie.is_run.is_run.served 1 (omega arith) (omega arith))).1 in
    false≢true e

pub over_the_first_link_is_refused : IsLoneRun one_request outside seed over_the_first_link → ⊥
unfolding digits base64_on_literals challenges_in next_in
over_the_first_link_is_refused lie =
    let e : true ≡ false = ap (λ event. link_in event == 1)
    (past_in outside over_the_first_link 1 first_request 4 refl refl (lie.is_run.is_run.served 1 (omega arith) (omega arith))).1 in
    false≢true (sym e)

-- LINKS

pub reply_of_another_link_is_refused : IsLoneRun one_request outside seed reply_of_another_link → ⊥
unfolding httparse_on_literals reply_in reply_len fault_in
reply_of_another_link_is_refused lie =
    let e : false ≡ true = ap (λ reply. code_in reply == 200)
    (heard_in outside reply_of_another_link 1 first_request 2 refl (lie.is_run.is_run.served 1 (omega arith) (omega arith))).1 in
    false≢true e

pub broken_reply_is_refused : IsLoneRun one_request outside seed broken_reply → ⊥
unfolding httparse_on_literals reply_in reply_len fault_in
broken_reply_is_refused lie =
    let e : false ≡ true = ap (λ fault. is_some fault)
    (heard_in outside broken_reply 1 first_request 2 refl (lie.is_run.is_run.served 1 (omega arith) (omega arith))).1.1 in
    false≢true e

pub dial_fault_is_refused : IsLoneRun one_request outside seed dial_fault → ⊥
dial_fault_is_refused lie = false≢true lie.faultless

pub read_fault_is_refused : IsLoneRun one_request outside seed read_fault → ⊥
read_fault_is_refused lie = false≢true lie.faultless

-- ENDS

pub too_early_is_refused : IsLoneRun one_request outside seed too_early → ⊥
unfolding digits base64_on_literals challenges_in next_in
too_early_is_refused lie =
    (past_in outside too_early 1 first_request 1 refl refl (lie.is_run.is_run.served 1 (omega arith) (omega arith))).1

pub given_up_is_refused : IsLoneRun one_request outside seed given_up → ⊥
unfolding digits base64_on_literals challenges_in next_in
given_up_is_refused lie =
    (past_in outside given_up 1 first_request 1 refl refl (lie.is_run.is_run.served 1 (omega arith) (omega arith))).1

pub no_note_is_refused : IsLoneRun one_request outside seed no_note → ⊥
unfolding digits base64_on_literals challenges_in next_in
no_note_is_refused lie =
    let e : false ≡ true = ap is_note (past_in outside no_note 1 first_request 1 refl refl (lie.is_run.is_run.served 1 (omega arith) (omega arith))).1.0 in
    false≢true e

-- JOURNALS

pub entry_twice_is_refused : IsLoneRun one_request outside seed entry_twice → ⊥
entry_twice_is_refused lie =
    let e : true ≡ false = ap (λ entries. length entries == 7) (lie.is_run.is_run.once 1) in
    false≢true (sym e)

pub untraced_call_is_refused : IsLoneRun one_request outside seed untraced_call → ⊥
untraced_call_is_refused lie =
    let e : true ≡ false = ap (λ entries. length entries == 6) (lie.is_run.is_run.once 1) in
    false≢true (sym e)

pub two_as_one_is_refused : IsLoneRun two_requests outside seed two_as_one → ⊥
two_as_one_is_refused lie =
    let e : true ≡ false = ap (λ entries. length entries == 6) (lie.is_run.is_run.once 1) in
    false≢true (sym e)

pub another_gift_is_refused : IsLoneRun one_request outside seed another_gift → ⊥
another_gift_is_refused lie =
    let e : true ≡ false = ap (λ reply. ordinal_in reply == 2) lie.is_run.is_run.legal.0.0.1.1 in
    false≢true (sym e)

pub another_partitions_gift_is_refused : IsLoneRun two_requests outside seed another_partitions_gift → ⊥
another_partitions_gift_is_refused lie =
    let e : true ≡ false = ap is_ready lie.is_run.is_run.legal.0.0.1.1 in
    false≢true (sym e)

pub request_left_out_is_refused : IsLoneRun two_requests outside seed request_left_out → ⊥
request_left_out_is_refused lie =
    let e : true ≡ false = ap (λ n. n == 1) lie.is_run.is_run.whole in
    false≢true (sym e)

-- NAMES

pub unused_text_is_refused : IsLoneRun one_request outside seed unused_text → ⊥
unused_text_is_refused lie = false≢true (lie.is_run.is_run.used refl)

pub space_twice_is_refused : IsLoneRun one_request outside seed space_twice → ⊥
space_twice_is_refused lie =
    let e : true ≡ false = ap (λ n. n == 1) (lie.is_run.is_run.named.spaces (space_in (codes "p")) 1 2 refl refl) in
    false≢true (sym e)

pub text_again_is_refused : IsLoneRun two_requests outside seed text_again → ⊥
text_again_is_refused lie = false≢true (lie.is_run.in_order refl)

-- THE HAND-OVER

pub another_seed_is_refused : IsLoneRun one_request outside seed another_seed → ⊥
another_seed_is_refused lie =
    let e : true ≡ false = ap (λ seed. length seed == 1) lie.is_run.is_run.same_seed in
    false≢true (sym e)
