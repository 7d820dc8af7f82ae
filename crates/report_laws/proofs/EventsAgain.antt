-- The line of an event is read as that event.
use Rattle.std.proofs.Common.{◌≡◌, ℕ, ◌^◌, ◌<◌, Bool, true, false, List, [], ◌∷◌, ◌++◌, map, codes, Option, Some, refl, sym, ap, ◌∙◌}
use Rattle.std.specs.Prelude.{bytes_eq, cond}
use Rattle.std.specs.Fmt.{decimal}
use Rattle.std.proofs.lemmas.List.{append-nil}
use Rattle.spaces.specs.declared.site.Target.{Target}
use Rattle.wire_head.specs.Replies.{is_challenge}
use Rattle.wire_head.specs.declared.reply.Reply.{Reply}
use Rattle.link_trait.specs.declared.prompts.AskSeen.{AskSeen}
use Rattle.link_trait.specs.declared.prompts.AskSeen.TheVariants.{Given as AskGiven, Cancel as AskCancel, Failed as AskFailed, NoMemory as AskNoMemory}
use Rattle.link_trait.specs.declared.steps.StepSeen.{StepSeen}
use Rattle.link_trait.specs.declared.steps.StepSeen.TheVariants.{Token, Done, Refused as StepRefused, NoMechanism, Failed as StepFailed, NoMemory as StepNoMemory}
use Rattle.auth_events.specs.declared.journal.Entry.{Entry}
use Rattle.auth_runs.specs.declared.event.Why.{Why}
use Rattle.auth_runs.specs.declared.event.Why.TheVariants.{NoChallenge, Cancelled, Rounds, BoundLost}
use Rattle.auth_runs.specs.declared.event.Outcome.{Outcome}
use Rattle.auth_runs.specs.declared.event.Outcome.TheVariants.{Answered, Refused, BadReply, LinkFailed, ProviderFailed, PromptFailed, NoMemory}
use Rattle.auth_runs.specs.declared.event.Event.{Event}
use Rattle.auth_runs.specs.declared.event.Event.TheVariants.{Called, Dialed, DialFailed, Drew, Headed, WriteFailed, ReadFailed, Replied, Broken, LinkLost, AskedFor, Stepped, Ended}
use Rattle.session_text.specs.Words.{word_of, word_value}
use Rattle.report_lines.specs.EventLines.{event_line}
use Rattle.report_reading.specs.Words.{words, ◌>>=◌}
use Rattle.report_reading.specs.EventForms.{values_behind, wire_reply_of, asked_of, step_of, why_of, outcome_of}
use Rattle.report_reading.specs.Reading.{if_written, event_of, event_at}
use Rattle.report_laws.specs.Ranges.{are_bytes, are_all_bytes, ReadHolds, AskHolds, StepHolds, WhyHolds, OutcomeHolds, EventHolds}
use Rattle.report_laws.specs.Kept.{IsTidy, IsKeptEvent}
use Rattle.report_reading.proofs.Tests.{both}
use Rattle.report_laws.proofs.NumberLemmas.{small_again, count_again, code_again}
use Rattle.report_laws.proofs.WordLemmas.{all_plain, words_again, value_again}
use Rattle.report_laws.proofs.LinesAgain.{taken, target_again}
use Rattle.report_laws.proofs.EntriesAgain.{small_plain}
use Rattle.report_laws.proofs.EventWords.{stays_again, fault_again, info_names, event_names, line_is, event_plain}

fields_again : (fields : List (List ℕ)) → are_all_bytes fields ≡ true → map word_value (map word_of fields) ≡ fields
fields_again [] h = refl
fields_again (field ∷ fields) h =
    let parts = both (are_bytes field) (are_all_bytes fields) h in rw (value_again field parts.0, fields_again fields parts.1) refl

-- values behind their own word, and behind another one
own_values : (kind : List ℕ) (infos more : List (List ℕ)) → bytes_eq kind kind ≡ true → are_all_bytes infos ≡ true
    → values_behind kind (info_names kind infos ++ more) ≡ infos ++ values_behind kind more
own_values kind [] more e h = refl
own_values kind (info ∷ infos) more e h =
    let parts = both (are_bytes info) (are_all_bytes infos) h in rw (e, value_again info parts.0, own_values kind infos more e parts.1) refl

other_values : (kind other : List ℕ) (infos more : List (List ℕ)) → bytes_eq other kind ≡ false
    → values_behind kind (info_names other infos ++ more) ≡ values_behind kind more
other_values kind other [] more e = refl
other_values kind other (info ∷ infos) more e = rw e (other_values kind other infos more e)

server_again : (reply : Reply) → ReadHolds reply
    → values_behind (codes "info") (info_names (codes "info") reply.server_info ++ info_names (codes "proxyinfo") reply.proxy_info) ≡ reply.server_info
server_again reply h =
    own_values (codes "info") reply.server_info (info_names (codes "proxyinfo") reply.proxy_info) refl h.server_info
    ∙ ap (λ (more : List (List ℕ)). reply.server_info ++ values_behind (codes "info") more) (sym (append-nil (info_names (codes "proxyinfo") reply.proxy_info)))
    ∙ ap (λ (more : List (List ℕ)). reply.server_info ++ more) (other_values (codes "info") (codes "proxyinfo") reply.proxy_info [] refl)
    ∙ append-nil reply.server_info

proxy_again : (reply : Reply) → ReadHolds reply
    → values_behind (codes "proxyinfo") (info_names (codes "info") reply.server_info ++ info_names (codes "proxyinfo") reply.proxy_info) ≡ reply.proxy_info
proxy_again reply h =
    other_values (codes "proxyinfo") (codes "info") reply.server_info (info_names (codes "proxyinfo") reply.proxy_info) refl
    ∙ ap (λ (more : List (List ℕ)). values_behind (codes "proxyinfo") more) (sym (append-nil (info_names (codes "proxyinfo") reply.proxy_info)))
    ∙ own_values (codes "proxyinfo") reply.proxy_info [] refl h.proxy_info
    ∙ append-nil reply.proxy_info

-- replies with equal parts
made : (code : ℕ) (stays : Bool) (body : ℕ) {fields fields' server server' proxy proxy' : List (List ℕ)} → fields ≡ fields' → server ≡ server' → proxy ≡ proxy'
    → ◌≡◌ {A = Reply} (record { code = code; stays = stays; body = body; fields = fields; server_info = server; proxy_info = proxy })
    (record { code = code; stays = stays; body = body; fields = fields'; server_info = server'; proxy_info = proxy' })
made code stays body f s p = rw (f, s, p) refl

abbrev reply_line : ℕ → ℕ → Reply → List (List ℕ)
reply_line r link reply = codes "t" ∷ decimal r ∷ event_names (Replied link reply)

wire_again : (r link : ℕ) (reply : Reply) → ReadHolds reply → IsTidy reply → wire_reply_of (reply_line r link reply) ≡ reply
wire_again r link reply h tidy =
    rw (code_again reply.code h.code, stays_again reply.stays, small_again reply.body h.body) (by_test (is_challenge reply.code) refl) where
      by_test : (t : Bool) → is_challenge reply.code ≡ t
          → ◌≡◌ {A = Reply} (record {
            code = reply.code;
            stays = reply.stays;
            body = reply.body;
            fields = cond t (map word_value (cond t (map word_of reply.fields) (info_names (codes "info") reply.server_info ++ info_names (codes "proxyinfo") reply.proxy_info))) [];
            server_info = cond t [] (values_behind (codes "info") (cond t (map word_of reply.fields) (info_names (codes "info") reply.server_info ++ info_names (codes "proxyinfo") reply.proxy_info)));
            proxy_info = cond t [] (values_behind (codes "proxyinfo") (cond t (map word_of reply.fields) (info_names (codes "info") reply.server_info ++ info_names (codes "proxyinfo") reply.proxy_info)));
          })
          reply
      by_test true e =
          made reply.code reply.stays reply.body (fields_again reply.fields h.fields) (sym (tidy.server_info e)) (sym (tidy.proxy_info e))
      by_test false e = made reply.code reply.stays reply.body (sym (tidy.fields e)) (server_again reply h) (proxy_again reply h)

ask_again : (r prompt : ℕ) (seen : AskSeen) → AskHolds seen → asked_of (codes "t" ∷ decimal r ∷ event_names (AskedFor prompt seen)) ≡ seen
ask_again r prompt AskGiven h = refl
ask_again r prompt AskCancel h = refl
ask_again r prompt (AskFailed count) h = rw (count_again count h) refl
ask_again r prompt AskNoMemory h = refl

step_again : (r : ℕ) (target : Target) (step : StepSeen) → StepHolds step → step_of (codes "t" ∷ decimal r ∷ event_names (Stepped target step)) ≡ step
step_again r target (Token token) h = rw (value_again token h) refl
step_again r target Done h = refl
step_again r target StepRefused h = refl
step_again r target NoMechanism h = refl
step_again r target (StepFailed count) h = rw (count_again count h) refl
step_again r target StepNoMemory h = refl

why_again : (r code : ℕ) (why : Why) → WhyHolds why → why_of (codes "t" ∷ decimal r ∷ event_names (Ended (Refused code why))) ≡ why
why_again r code NoChallenge h = refl
why_again r code (Cancelled prompt) h = rw (small_again prompt h) refl
why_again r code Rounds h = refl
why_again r code BoundLost h = refl

outcome_again : (r : ℕ) (outcome : Outcome) → OutcomeHolds outcome → outcome_of (codes "t" ∷ decimal r ∷ event_names (Ended outcome)) ≡ outcome
outcome_again r (Answered code) h = rw (code_again code h) refl
outcome_again r (Refused code why) h = rw (code_again code h.0, why_again r code why h.1) refl
outcome_again r (BadReply fault) h = rw (fault_again fault) refl
outcome_again r (LinkFailed count) h = rw (count_again count h) refl
outcome_again r (ProviderFailed count) h = rw (count_again count h) refl
outcome_again r (PromptFailed count) h = rw (count_again count h) refl
outcome_again r NoMemory h = refl

form_again : (next : Option Entry) (r : ℕ) (event : Event) → EventHolds event → IsKeptEvent next event
    → event_of next (codes "t" ∷ decimal r ∷ event_names event) ≡ Some event
form_again next r (Called call reply) h k = k
form_again next r (Dialed link) h k = rw (small_again link h) refl
form_again next r (DialFailed link count) h k = rw (small_again link h.0, count_again count h.1) refl
form_again next r (Drew target nonce count epoch) h k = rw (target_again target, small_again nonce h.0, small_again count h.1, small_again epoch h.2) refl
form_again next r (Headed link bytes) h k = rw (small_again link h.0, value_again bytes h.1) refl
form_again next r (WriteFailed link count) h k = rw (small_again link h.0, count_again count h.1) refl
form_again next r (ReadFailed link count) h k = rw (small_again link h.0, count_again count h.1) refl
form_again next r (Replied link reply) h k = rw (small_again link h.0, wire_again r link reply h.1 k) refl
form_again next r (Broken link fault) h k = rw (small_again link h, fault_again fault) refl
form_again next r (LinkLost link) h k = rw (small_again link h) refl
form_again next r (AskedFor prompt seen) h k = rw (small_again prompt h.0, ask_again r prompt seen h.1) refl
form_again next r (Stepped target step) h k = rw (target_again target, step_again r target step h) refl
form_again next r (Ended outcome) h k = rw (outcome_again r outcome h) refl

pub event_again : (next : Option Entry) (r : ℕ) (event : Event) → r < 2 ^ 32 → EventHolds event → IsKeptEvent next event
    → event_at next r (event_line r event) ≡ Some event
event_again next r event small h k =
    let parts : all_plain (decimal r ∷ event_names event) ≡ true = rw (small_plain r small) (event_plain event h) in
    let ws = ap words (line_is r event) ∙ words_again (codes "t") (decimal r ∷ event_names event) refl parts in
    ap (λ (vs : List (List ℕ)). event_of next vs >>= if_written (event_line r) (event_line r event)) ws
    ∙ ap (λ (o : Option Event). o >>= if_written (event_line r) (event_line r event)) (form_again next r event h k)
    ∙ taken (event_line r) event
