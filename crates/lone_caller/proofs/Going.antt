-- Request by request.
use Rattle.std.proofs.Common.{◌≡◌, ℕ, zero, suc, ◌+◌, ◌<◌, ◌≤◌, IsTrue, List, [], ◌∷◌, ◌++◌, length, reverse, Some, None, is_some, refl, sym, ap, ◌∙◌, subst, arith}
use Rattle.std.specs.Prelude.{IsSome, slice_get}
use Rattle.std.specs.declared.option.Option.{Option}
use Rattle.std.proofs.lemmas.Bool.{false≢true}
use Rattle.std.proofs.lemmas.List.{length-reverse, reverse-append}
use Rattle.auth_text.specs.Login.{Login}
use Rattle.spaces.specs.declared.roster.Request.{Request}
use Rattle.spaces.specs.declared.roster.Roster.{Roster}
use Rattle.spaces.specs.ProtectionSpaces.{ProtectionSpace}
use Rattle.spaces.specs.Sites.{numbered}
use Rattle.auth_events.specs.declared.journal.Drawn.{Drawn}
use Rattle.auth_events.specs.declared.told.Told.{Told}
use Rattle.auth_events.specs.Told.{names_told, past}
use Rattle.auth_events.proofs.Numbers.{numbered_suc}
use Rattle.link_trait.specs.declared.dialer.Dial.{Dial}
use Rattle.link_trait.specs.declared.dialer.Traffic.{Traffic}
use Rattle.link_trait.specs.declared.links.LinkName.{LinkName}
use Rattle.link_trait.specs.Links.{IsUndialed}
use Rattle.link_trait.specs.declared.prompts.Ask.{Ask}
use Rattle.link_trait.specs.declared.steps.Step.TheVariants.{NoMechanism}
use Rattle.auth_runs.specs.declared.event.Event.{Event}
use Rattle.request_machine.specs.Carried.{IsRecorded, IsSilent}
use Rattle.request_machine.specs.Failed.{ask_faults, link_faults}
use Rattle.auth_controller.specs.Service.{IsCarriedOut, IsPromptedOut}
use Rattle.trace_rule.specs.Heard.{IsHeard, ended}
use Rattle.trace_rule.specs.Settings.{Setting, setting_of}
use Rattle.run_rule.specs.Outside.{Outside}
use Rattle.serving_laws.specs.Service.{IsServedAlone}
use Rattle.lone_laws.specs.Laws.{IsReady}
use Rattle.lone_laws.specs.Lone.{AreServed, IsServedOver}
use Rattle.lone_laws.proofs.Behind.{next_ready}
use Rattle.lone_caller.specs.Served.{AreServedOver, IsOutsideOf}
use Rattle.lone_caller.proofs.Links.{told_still, undialed_still, unfailed}
use Rattle.lone_caller.proofs.Prompts.{answered_right, asked_right}

-- where streams and answers are known, there is an outside of them
pub some_outside : (streams : Option (LinkName → List ℕ)) (answers : Option (ProtectionSpace → ℕ → Option Login)) → IsSome streams → IsSome answers → (outside : Outside) × IsOutsideOf outside streams answers
some_outside None answers some_streams some_answers = absurd (false≢true some_streams)
some_outside (Some bytes) None some_streams some_answers = absurd (false≢true some_answers)
some_outside (Some bytes) (Some answer) some_streams some_answers = (
  record { streams = λ link. ended (bytes link); steps = λ r n. NoMechanism; answers = answer },
  record { bytes = bytes; streams_are = refl; whole = refl; answers_are = refl },
)

get_within : (xs : List Request) (j : ℕ) → j < length xs → IsTrue (is_some (slice_get xs j))
get_within [] j lt = absurd (omega (arith, lt))
get_within (x ∷ xs) zero lt = refl
get_within (x ∷ xs) (suc j) lt = get_within xs j (omega (arith, lt))

-- each number of the roster has its request
pub there : (roster : Roster) (r : ℕ) → r < length roster.requests → IsSome (numbered roster.requests (r + 1))
there roster r lt =
    let next : r + 1 ≡ suc r = omega arith in
    ap (λ n. is_some (numbered roster.requests n)) next ∙ (ap is_some (numbered_suc roster.requests r) ∙ get_within roster.requests r lt)

found : {A : Type 0} (o : Option A) → IsSome o → (a : A) × (o ≡ Some a)
found None h = absurd (false≢true h)
found (Some a) h = (a, refl)

-- the book and the words are ready for the next request
pub ready_now : (roster : Roster) (seed : List ℕ) (streams : Option (LinkName → List ℕ)) (answers : Option (ProtectionSpace → ℕ → Option Login)) (traces : List (List Event)) (told : List Told) (words : List Drawn) (r : ℕ)
    → IsSome streams → IsSome answers → length traces ≡ r → r ≤ 2048 → AreServedOver roster seed streams answers traces told words → IsReady roster told words (r + 1)
ready_now roster seed streams answers traces told words r some_streams some_answers count few served =
    let o = some_outside streams answers some_streams some_answers in
    let size : length (reverse traces) ≡ r = length-reverse traces ∙ count in
    subst (λ n. IsReady roster told words (n + 1)) size (next_ready o.0 roster seed (reverse traces) told words (omega (arith, size, few)) (served o.0 o.1))

-- with one request more
module _ (roster : Roster) (seed : List ℕ) (streams : Option (LinkName → List ℕ)) (answers : Option (ProtectionSpace → ℕ → Option Login)) (traces : List (List Event)) (before told : List Told) (first words : List Drawn) (r : ℕ) (trace : List Event)
    (count : length traces ≡ r) (served : AreServedOver roster seed streams answers traces before first) (lt : r < length roster.requests)
    (streams_now : Option (LinkName → List ℕ)) (answers_now : Option (ProtectionSpace → ℕ → Option Login)) (same_streams : streams_now ≡ streams) (same_answers : answers_now ≡ answers) where
  abbrev here : Request → Setting
  here request = setting_of roster seed (names_told told) (past told) (r + 1) request

  module _ (dials_before dials_now : Option (List Dial)) (traffic_before traffic_now : Option (List Traffic)) (asks_before asks_now : Option (List Ask))
      (alone : (request : Request) → numbered roster.requests (r + 1) ≡ Some request → IsServedAlone roster seed before told first words (r + 1) request trace)
      (carried : (request : Request) → numbered roster.requests (r + 1) ≡ Some request → IsCarriedOut (here request) streams_now dials_before dials_now traffic_before traffic_now trace)
      (prompted : (request : Request) → numbered roster.requests (r + 1) ≡ Some request → IsPromptedOut (here request) answers_now (names_told told) asks_before asks_now trace)
      (quiet : link_faults (reverse trace) ≡ []) (calm : ask_faults (reverse trace) ≡ []) (silence : IsSilent (r + 1) traffic_before) where
    abbrev it : (request : Request) × (numbered roster.requests (r + 1) ≡ Some request)
    it = found (numbered roster.requests (r + 1)) (there roster r lt)

    over : (outside : Outside) → IsOutsideOf outside streams answers → IsServedOver outside roster seed before told first words (r + 1) trace
    over outside is =
        let request : Request = it.0 in
        let a = alone request it.1 in
        let split = a.served.alone.same_calls in
        let p = subst (λ o. IsPromptedOut (here request) o (names_told told) asks_before asks_now trace) (same_answers ∙ is.answers_are) (prompted request it.1) in
        record {
          request = request;
          in_roster = it.1;
          alone = a;
          heard =
              subst (λ f. IsHeard f request.method (r + 1) (reverse trace)) (sym is.whole)
              (subst (λ o. IsRecorded o request.method (r + 1) (reverse trace)) (same_streams ∙ is.streams_are) ((carried request it.1).recorded silence));
          asked = asked_right outside roster seed told (past before) (r + 1) request a.served.alone.legal trace (here request) a.is_trace split p.answered;
          answered = answered_right outside roster seed told (past before) (r + 1) request a.served.alone.legal trace (here request) a.is_trace split p.texts;
          unfailed = unfailed trace quiet calm;
        }

    served_more : AreServedOver roster seed streams answers (traces ++ trace ∷ []) told words
    served_more outside is =
        let size : length (reverse traces) ≡ r = length-reverse traces ∙ count in
        subst (λ l. AreServed outside roster seed l told words) (sym (reverse-append traces (trace ∷ [])))
        (before, first, served outside is, subst (λ n. IsServedOver outside roster seed before told first words (n + 1) trace) (sym size) (over outside is))

    -- the dialer goes on to tell its dials, which are of this request and earlier ones
    pub next_one : IsSome dials_before → ((q n : ℕ) → r < q → IsUndialed (record { request = q; nth = n }) dials_before)
        → AreServedOver roster seed streams answers (traces ++ trace ∷ []) told words × IsSome dials_now × ((q n : ℕ) → r + 1 < q → IsUndialed (record { request = q; nth = n }) dials_now)
    next_one some none = (
      served_more,
      told_still (here it.0) dials_before dials_now (reverse trace) (carried it.0 it.1).dialed some,
      λ q n less. undialed_still (here it.0) q n dials_before dials_now (reverse trace) less (carried it.0 it.1).dialed (none q n (omega (arith, less))),
    )
