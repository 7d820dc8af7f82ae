-- The words of an event's line.
use Rattle.std.proofs.Common.{◌≡◌, ℕ, ◌^◌, ◌<◌, Bool, true, false, List, [], ◌∷◌, ◌++◌, drop, map, codes, refl, sym, ap, ◌∙◌, arith, append_assoc}
use Rattle.std.specs.Prelude.{bytes_eq, if◌then◌else◌, cond}
use Rattle.std.specs.Fmt.{decimal}
use Rattle.std.proofs.lemmas.List.{append-nil}
use Rattle.std.proofs.lemmas.List.Folds.{list_all-append}
use Rattle.wire_head.specs.Replies.{is_challenge}
use Rattle.wire_head.specs.declared.reply.Reply.{Reply}
use Rattle.wire_head.specs.declared.reply.WireFault.{WireFault}
use Rattle.wire_head.specs.declared.reply.WireFault.TheVariants.{BadHead, HeadTooLong, BadFraming, BodyTooLong, Cut}
use Rattle.link_trait.specs.declared.prompts.AskSeen.{AskSeen}
use Rattle.link_trait.specs.declared.prompts.AskSeen.TheVariants.{Given as AskGiven, Cancel as AskCancel, Failed as AskFailed, NoMemory as AskNoMemory}
use Rattle.link_trait.specs.declared.steps.StepSeen.{StepSeen}
use Rattle.link_trait.specs.declared.steps.StepSeen.TheVariants.{Token, Done, Refused as StepRefused, NoMechanism, Failed as StepFailed, NoMemory as StepNoMemory}
use Rattle.auth_runs.specs.declared.event.Why.{Why}
use Rattle.auth_runs.specs.declared.event.Why.TheVariants.{NoChallenge, Cancelled, Rounds, BoundLost}
use Rattle.auth_runs.specs.declared.event.Outcome.{Outcome}
use Rattle.auth_runs.specs.declared.event.Outcome.TheVariants.{Answered, Refused, BadReply, LinkFailed, ProviderFailed, PromptFailed, NoMemory}
use Rattle.auth_runs.specs.declared.event.Event.{Event}
use Rattle.auth_runs.specs.declared.event.Event.TheVariants.{Called, Dialed, DialFailed, Drew, Headed, WriteFailed, ReadFailed, Replied, Broken, LinkLost, AskedFor, Stepped, Ended}
use Rattle.session_text.specs.Words.{word_of}
use Rattle.report_lines.specs.EventLines.{event_line, event_word, event_values, stays_word, fault_word, field_words, info_words, value_words}
use Rattle.report_reading.specs.EventForms.{fault_of}
use Rattle.report_laws.specs.Ranges.{are_bytes, are_all_bytes, ReadHolds, AskHolds, StepHolds, WhyHolds, OutcomeHolds, EventHolds}
use Rattle.report_reading.proofs.Tests.{both}
use Rattle.report_laws.proofs.WordLemmas.{plain, all_plain, joins, spaced, joined, plain_decimal, plain_word}
use Rattle.report_laws.proofs.LinesAgain.{target_name, target_is, target_plain}
use Rattle.report_laws.proofs.EntriesAgain.{small_plain}

-- WORDS

abbrev pub stays_name : Bool → List ℕ
stays_name stays = drop 1 (stays_word stays)

stays_is : (stays : Bool) → stays_word stays ≡ 32 ∷ stays_name stays
stays_is true = refl
stays_is false = refl

pub stays_again : (stays : Bool) → bytes_eq (stays_name stays) (codes "open") ≡ stays
stays_again true = refl
stays_again false = refl

stays_plain : (stays : Bool) → plain (stays_name stays) ≡ true
stays_plain true = refl
stays_plain false = refl

abbrev pub fault_name : WireFault → List ℕ
fault_name fault = drop 1 (fault_word fault)

fault_is : (fault : WireFault) → fault_word fault ≡ 32 ∷ fault_name fault
fault_is BadHead = refl
fault_is HeadTooLong = refl
fault_is BadFraming = refl
fault_is BodyTooLong = refl
fault_is Cut = refl

pub fault_again : (fault : WireFault) → fault_of (fault_name fault) ≡ fault
fault_again BadHead = refl
fault_again HeadTooLong = refl
fault_again BadFraming = refl
fault_again BodyTooLong = refl
fault_again Cut = refl

fault_plain : (fault : WireFault) → plain (fault_name fault) ≡ true
fault_plain BadHead = refl
fault_plain HeadTooLong = refl
fault_plain BadFraming = refl
fault_plain BodyTooLong = refl
fault_plain Cut = refl

-- a word of its kind before each value
abbrev pub info_names : List ℕ → List (List ℕ) → List (List ℕ)
info_names kind [] = []
info_names kind (info ∷ infos) = kind ∷ word_of info ∷ info_names kind infos

abbrev pub value_names : Reply → List (List ℕ)
value_names reply =
    if is_challenge reply.code then map word_of reply.fields else info_names (codes "info") reply.server_info ++ info_names (codes "proxyinfo") reply.proxy_info

abbrev pub ask_names : AskSeen → List (List ℕ)
ask_names AskGiven = codes "given" ∷ []
ask_names AskCancel = codes "cancel" ∷ []
ask_names (AskFailed count) = codes "failed" ∷ decimal count ∷ []
ask_names AskNoMemory = codes "nomemory" ∷ []

abbrev pub step_names : StepSeen → List (List ℕ)
step_names (Token token) = codes "token" ∷ word_of token ∷ []
step_names Done = codes "done" ∷ []
step_names StepRefused = codes "refused" ∷ []
step_names NoMechanism = codes "nomech" ∷ []
step_names (StepFailed count) = codes "failed" ∷ decimal count ∷ []
step_names StepNoMemory = codes "nomemory" ∷ []

abbrev pub why_names : Why → List (List ℕ)
why_names NoChallenge = codes "nochallenge" ∷ []
why_names (Cancelled prompt) = codes "cancelled" ∷ decimal prompt ∷ []
why_names Rounds = codes "rounds" ∷ []
why_names BoundLost = codes "boundlost" ∷ []

abbrev pub outcome_names : Outcome → List (List ℕ)
outcome_names (Answered code) = codes "answered" ∷ decimal code ∷ []
outcome_names (Refused code why) = codes "refused" ∷ decimal code ∷ why_names why
outcome_names (BadReply fault) = codes "badreply" ∷ fault_name fault ∷ []
outcome_names (LinkFailed count) = codes "linkfailed" ∷ decimal count ∷ []
outcome_names (ProviderFailed count) = codes "providerfailed" ∷ decimal count ∷ []
outcome_names (PromptFailed count) = codes "promptfailed" ∷ decimal count ∷ []
outcome_names NoMemory = codes "nomemory" ∷ []

abbrev pub event_names : Event → List (List ℕ)
event_names (Called call reply) = codes "call" ∷ []
event_names (Dialed link) = codes "dial" ∷ decimal link ∷ []
event_names (DialFailed link count) = codes "dialfailed" ∷ decimal link ∷ decimal count ∷ []
event_names (Drew target nonce count epoch) = codes "draw" ∷ target_name target ∷ decimal nonce ∷ decimal count ∷ decimal epoch ∷ []
event_names (Headed link bytes) = codes "head" ∷ decimal link ∷ word_of bytes ∷ []
event_names (WriteFailed link count) = codes "writefailed" ∷ decimal link ∷ decimal count ∷ []
event_names (ReadFailed link count) = codes "readfailed" ∷ decimal link ∷ decimal count ∷ []
event_names (Replied link reply) = codes "reply" ∷ decimal link ∷ decimal reply.code ∷ stays_name reply.stays ∷ decimal reply.body ∷ value_names reply
event_names (Broken link fault) = codes "broken" ∷ decimal link ∷ fault_name fault ∷ []
event_names (LinkLost link) = codes "lost" ∷ decimal link ∷ []
event_names (AskedFor prompt seen) = codes "ask" ∷ decimal prompt ∷ ask_names seen
event_names (Stepped target step) = codes "step" ∷ target_name target ∷ step_names step
event_names (Ended outcome) = codes "outcome" ∷ outcome_names outcome

-- THE LINE IS MADE OF THESE WORDS

by_two : (t a b : List ℕ) → t ++ (a ++ b) ≡ (t ++ a) ++ b
by_two t a b = sym (append_assoc t a b)

by_three : (t a b c : List ℕ) → t ++ (a ++ (b ++ c)) ≡ ((t ++ a) ++ b) ++ c
by_three t a b c = simp append_assoc

by_four : (t a b c d : List ℕ) → t ++ (a ++ ((b ++ c) ++ d)) ≡ (((t ++ a) ++ b) ++ c) ++ d
by_four t a b c d = simp append_assoc

by_five : (t l c s b v : List ℕ) → t ++ (l ++ (((c ++ s) ++ b) ++ v)) ≡ ((((t ++ l) ++ c) ++ s) ++ b) ++ v
by_five t l c s b v = simp append_assoc

by_refused : (t c w : List ℕ) → t ++ ((codes " refused" ++ c) ++ w) ≡ ((t ++ codes " refused") ++ c) ++ w
by_refused t c w = ap (λ (text : List ℕ). t ++ text) (append_assoc (codes " refused") c w) ∙ by_three t (codes " refused") c w

fields_are : (fields : List (List ℕ)) → field_words fields ≡ spaced (map word_of fields)
fields_are [] = refl
fields_are (field ∷ fields) = ap (λ (more : List ℕ). (32 ∷ word_of field) ++ more) (fields_are fields)

spaced_append : (xs ys : List (List ℕ)) → spaced (xs ++ ys) ≡ spaced xs ++ spaced ys
spaced_append [] ys = refl
spaced_append (x ∷ xs) ys = ap (λ (more : List ℕ). (32 ∷ x) ++ more) (spaced_append xs ys) ∙ sym (append_assoc (32 ∷ x) (spaced xs) (spaced ys))

infos_are : (kind : List ℕ) (infos : List (List ℕ)) → info_words (32 ∷ kind) infos ≡ spaced (info_names kind infos)
infos_are kind [] = refl
infos_are kind (info ∷ infos) =
    ap (λ (more : List ℕ). ((32 ∷ kind) ++ (32 ∷ word_of info)) ++ more) (infos_are kind infos)
    ∙ append_assoc (32 ∷ kind) (32 ∷ word_of info) (spaced (info_names kind infos))

values_are : (reply : Reply) → value_words reply ≡ spaced (value_names reply)
values_are reply = by_test (is_challenge reply.code) where
  by_test : (t : Bool)
      → cond t (field_words reply.fields) (info_words (codes " info") reply.server_info ++ info_words (codes " proxyinfo") reply.proxy_info)
      ≡ spaced (cond t (map word_of reply.fields) (info_names (codes "info") reply.server_info ++ info_names (codes "proxyinfo") reply.proxy_info))
  by_test true = fields_are reply.fields
  by_test false =
      ap (λ (front : List ℕ). front ++ info_words (codes " proxyinfo") reply.proxy_info) (infos_are (codes "info") reply.server_info)
      ∙ ap (λ (more : List ℕ). spaced (info_names (codes "info") reply.server_info) ++ more) (infos_are (codes "proxyinfo") reply.proxy_info)
      ∙ sym (spaced_append (info_names (codes "info") reply.server_info) (info_names (codes "proxyinfo") reply.proxy_info))

reply_is : (t : List ℕ) (link : ℕ) (reply : Reply) → (t ++ event_word (Replied link reply)) ++ event_values (Replied link reply) ≡ joins t (event_names (Replied link reply))
reply_is t link reply =
    let front : List ℕ = ((((t ++ codes " reply") ++ (32 ∷ decimal link)) ++ (32 ∷ decimal reply.code)) ++ (32 ∷ stays_name reply.stays)) ++ (32 ∷ decimal reply.body) in
    by_five (t ++ codes " reply") (32 ∷ decimal link) (32 ∷ decimal reply.code) (stays_word reply.stays) (32 ∷ decimal reply.body) (value_words reply)
    ∙ ap (λ (s : List ℕ). (((((t ++ codes " reply") ++ (32 ∷ decimal link)) ++ (32 ∷ decimal reply.code)) ++ s) ++ (32 ∷ decimal reply.body)) ++ value_words reply) (stays_is reply.stays)
    ∙ ap (λ (values : List ℕ). front ++ values) (values_are reply)
    ∙ sym (joined front (value_names reply))

event_is : (t : List ℕ) (event : Event) → (t ++ event_word event) ++ event_values event ≡ joins t (event_names event)
event_is t (Called call reply) = append-nil (t ++ codes " call")
event_is t (Dialed link) = refl
event_is t (DialFailed link count) = by_two (t ++ codes " dialfailed") (32 ∷ decimal link) (32 ∷ decimal count)
event_is t (Drew target nonce count epoch) =
    rw (target_is target) (by_four (t ++ codes " draw") (32 ∷ target_name target) (32 ∷ decimal nonce) (32 ∷ decimal count) (32 ∷ decimal epoch))
event_is t (Headed link bytes) = by_two (t ++ codes " head") (32 ∷ decimal link) (32 ∷ word_of bytes)
event_is t (WriteFailed link count) = by_two (t ++ codes " writefailed") (32 ∷ decimal link) (32 ∷ decimal count)
event_is t (ReadFailed link count) = by_two (t ++ codes " readfailed") (32 ∷ decimal link) (32 ∷ decimal count)
event_is t (Replied link reply) = reply_is t link reply
event_is t (Broken link fault) = rw (fault_is fault) (by_two (t ++ codes " broken") (32 ∷ decimal link) (32 ∷ fault_name fault))
event_is t (LinkLost link) = refl
event_is t (AskedFor prompt AskGiven) = by_two (t ++ codes " ask") (32 ∷ decimal prompt) (codes " given")
event_is t (AskedFor prompt AskCancel) = by_two (t ++ codes " ask") (32 ∷ decimal prompt) (codes " cancel")
event_is t (AskedFor prompt (AskFailed count)) = by_three (t ++ codes " ask") (32 ∷ decimal prompt) (codes " failed") (32 ∷ decimal count)
event_is t (AskedFor prompt AskNoMemory) = by_two (t ++ codes " ask") (32 ∷ decimal prompt) (codes " nomemory")
event_is t (Stepped target (Token token)) = rw (target_is target) (by_three (t ++ codes " step") (32 ∷ target_name target) (codes " token") (32 ∷ word_of token))
event_is t (Stepped target Done) = rw (target_is target) (by_two (t ++ codes " step") (32 ∷ target_name target) (codes " done"))
event_is t (Stepped target StepRefused) = rw (target_is target) (by_two (t ++ codes " step") (32 ∷ target_name target) (codes " refused"))
event_is t (Stepped target NoMechanism) = rw (target_is target) (by_two (t ++ codes " step") (32 ∷ target_name target) (codes " nomech"))
event_is t (Stepped target (StepFailed count)) = rw (target_is target) (by_three (t ++ codes " step") (32 ∷ target_name target) (codes " failed") (32 ∷ decimal count))
event_is t (Stepped target StepNoMemory) = rw (target_is target) (by_two (t ++ codes " step") (32 ∷ target_name target) (codes " nomemory"))
event_is t (Ended (Answered code)) = by_two (t ++ codes " outcome") (codes " answered") (32 ∷ decimal code)
event_is t (Ended (Refused code NoChallenge)) = by_refused (t ++ codes " outcome") (32 ∷ decimal code) (codes " nochallenge")
event_is t (Ended (Refused code (Cancelled prompt))) =
    ap (λ (text : List ℕ). (t ++ codes " outcome") ++ text) (append_assoc (codes " refused") (32 ∷ decimal code) (codes " cancelled" ++ (32 ∷ decimal prompt)))
    ∙ refused_four (t ++ codes " outcome") (codes " refused") (32 ∷ decimal code) (codes " cancelled") (32 ∷ decimal prompt) where
      refused_four : (t r c k p : List ℕ) → t ++ (r ++ (c ++ (k ++ p))) ≡ (((t ++ r) ++ c) ++ k) ++ p
      refused_four t r c k p = simp append_assoc
event_is t (Ended (Refused code Rounds)) = by_refused (t ++ codes " outcome") (32 ∷ decimal code) (codes " rounds")
event_is t (Ended (Refused code BoundLost)) = by_refused (t ++ codes " outcome") (32 ∷ decimal code) (codes " boundlost")
event_is t (Ended (BadReply fault)) = rw (fault_is fault) (by_two (t ++ codes " outcome") (codes " badreply") (32 ∷ fault_name fault))
event_is t (Ended (LinkFailed count)) = by_two (t ++ codes " outcome") (codes " linkfailed") (32 ∷ decimal count)
event_is t (Ended (ProviderFailed count)) = by_two (t ++ codes " outcome") (codes " providerfailed") (32 ∷ decimal count)
event_is t (Ended (PromptFailed count)) = by_two (t ++ codes " outcome") (codes " promptfailed") (32 ∷ decimal count)
event_is t (Ended NoMemory) = refl

pub line_is : (r : ℕ) (event : Event) → event_line r event ≡ joins (codes "t") (decimal r ∷ event_names event) ++ 10 ∷ []
line_is r event = ap (λ (text : List ℕ). text ++ 10 ∷ []) (event_is (codes "t" ++ (32 ∷ decimal r)) event)

-- PLAIN

code_plain : (n : ℕ) → n < 2 ^ 16 → plain (decimal n) ≡ true
code_plain n h = plain_decimal n (omega (arith, h))

fields_plain : (fields : List (List ℕ)) → are_all_bytes fields ≡ true → all_plain (map word_of fields) ≡ true
fields_plain [] h = refl
fields_plain (field ∷ fields) h =
    let parts = both (are_bytes field) (are_all_bytes fields) h in rw (plain_word field parts.0, fields_plain fields parts.1) refl

infos_plain : (kind : List ℕ) (infos : List (List ℕ)) → plain kind ≡ true → are_all_bytes infos ≡ true → all_plain (info_names kind infos) ≡ true
infos_plain kind [] k h = refl
infos_plain kind (info ∷ infos) k h =
    let parts = both (are_bytes info) (are_all_bytes infos) h in rw (k, plain_word info parts.0, infos_plain kind infos k parts.1) refl

values_plain : (reply : Reply) → ReadHolds reply → all_plain (value_names reply) ≡ true
values_plain reply h = by_test (is_challenge reply.code) where
  by_test : (t : Bool)
      → all_plain (cond t (map word_of reply.fields) (info_names (codes "info") reply.server_info ++ info_names (codes "proxyinfo") reply.proxy_info)) ≡ true
  by_test true = fields_plain reply.fields h.fields
  by_test false =
      list_all-append plain (info_names (codes "info") reply.server_info) (info_names (codes "proxyinfo") reply.proxy_info)
      ∙ rw (infos_plain (codes "info") reply.server_info refl h.server_info, infos_plain (codes "proxyinfo") reply.proxy_info refl h.proxy_info) refl

ask_plain : (seen : AskSeen) → AskHolds seen → all_plain (ask_names seen) ≡ true
ask_plain AskGiven h = refl
ask_plain AskCancel h = refl
ask_plain (AskFailed count) h = rw (plain_decimal count h) refl
ask_plain AskNoMemory h = refl

step_plain : (step : StepSeen) → StepHolds step → all_plain (step_names step) ≡ true
step_plain (Token token) h = rw (plain_word token h) refl
step_plain Done h = refl
step_plain StepRefused h = refl
step_plain NoMechanism h = refl
step_plain (StepFailed count) h = rw (plain_decimal count h) refl
step_plain StepNoMemory h = refl

why_plain : (why : Why) → WhyHolds why → all_plain (why_names why) ≡ true
why_plain NoChallenge h = refl
why_plain (Cancelled prompt) h = rw (small_plain prompt h) refl
why_plain Rounds h = refl
why_plain BoundLost h = refl

outcome_plain : (outcome : Outcome) → OutcomeHolds outcome → all_plain (outcome_names outcome) ≡ true
outcome_plain (Answered code) h = rw (code_plain code h) refl
outcome_plain (Refused code why) h = rw (code_plain code h.0, why_plain why h.1) refl
outcome_plain (BadReply fault) h = rw (fault_plain fault) refl
outcome_plain (LinkFailed count) h = rw (plain_decimal count h) refl
outcome_plain (ProviderFailed count) h = rw (plain_decimal count h) refl
outcome_plain (PromptFailed count) h = rw (plain_decimal count h) refl
outcome_plain NoMemory h = refl

pub event_plain : (event : Event) → EventHolds event → all_plain (event_names event) ≡ true
event_plain (Called call reply) h = refl
event_plain (Dialed link) h = rw (small_plain link h) refl
event_plain (DialFailed link count) h = rw (small_plain link h.0, plain_decimal count h.1) refl
event_plain (Drew target nonce count epoch) h = rw (target_plain target, small_plain nonce h.0, small_plain count h.1, small_plain epoch h.2) refl
event_plain (Headed link bytes) h = rw (small_plain link h.0, plain_word bytes h.1) refl
event_plain (WriteFailed link count) h = rw (small_plain link h.0, plain_decimal count h.1) refl
event_plain (ReadFailed link count) h = rw (small_plain link h.0, plain_decimal count h.1) refl
event_plain (Replied link reply) h =
    rw (small_plain link h.0, code_plain reply.code h.1.code, stays_plain reply.stays, small_plain reply.body h.1.body) (values_plain reply h.1)
event_plain (Broken link fault) h = rw (small_plain link h, fault_plain fault) refl
event_plain (LinkLost link) h = rw (small_plain link h) refl
event_plain (AskedFor prompt seen) h = rw (small_plain prompt h.0) (ask_plain seen h.1)
event_plain (Stepped target step) h = rw (target_plain target) (step_plain step h)
event_plain (Ended outcome) h = outcome_plain outcome h
