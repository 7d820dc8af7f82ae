-- What was told of all requests is a run of the roster.
use Rattle.std.proofs.Common.{◌≡◌, ℕ, ◌+◌, ◌*◌, ◌≤◌, false, IsTrue, List, [], ◌∷◌, ◌++◌, length, reverse, Some, refl, sym, ap, ◌∙◌, subst, append_assoc, arith}
use Rattle.std.specs.List.{list_all}
use Rattle.std.proofs.lemmas.List.{reverse-reverse}
use Rattle.spaces.specs.declared.roster.Request.{Request}
use Rattle.spaces.specs.declared.roster.Roster.{Roster}
use Rattle.spaces.specs.Sites.{numbered}
use Rattle.auth_events.specs.declared.journal.Drawn.{Drawn as Word}
use Rattle.auth_events.specs.declared.journal.Entry.{Entry}
use Rattle.auth_events.specs.declared.told.Told.{Told}
use Rattle.auth_events.specs.Book.{IsLegalPast, without_draws}
use Rattle.auth_events.specs.Fresh.{draws_of as drawn_of}
use Rattle.auth_events.specs.Tables.{AreNames, Tables}
use Rattle.auth_events.specs.Told.{journal, names_told, past}
use Rattle.auth_runs.specs.declared.event.Event.{Event}
use Rattle.auth_runs.specs.Runs.{Each, Run}
use Rattle.book_laws.proofs.Growing.{grow_told}
use Rattle.book_laws.proofs.Lifting.{extends_more, past-append}
use Rattle.plain_book.specs.Words.{draws_of}
use Rattle.trace_rule.specs.Growing.{NamesGrow}
use Rattle.trace_rule.specs.Heard.{IsAnswered, IsHeard}
use Rattle.trace_rule.specs.Settings.{IsNumbered, Setting, setting_of}
use Rattle.trace_rule.specs.Traces.{IsTrace}
use Rattle.trace_rule.proofs.AtEnd.{each_append}
use Rattle.trace_rule.proofs.Drops.{spaces_numbered}
use Rattle.trace_rule.proofs.Lasting.{lasts}
use Rattle.run_rule.specs.Drawing.{are_next_draws}
use Rattle.run_rule.specs.Failing.{is_faultless}
use Rattle.run_rule.specs.Outside.{Outside, is_asked_right, steps_in}
use Rattle.run_laws.proofs.Histories.{IsBegun, called, told as told_of, told_in}
use Rattle.run_laws.proofs.Shared.{legal_behind}
use Rattle.serving_laws.specs.Alone.{entries_of}
use Rattle.serving_laws.specs.Draws.{AreNextDraws}
use Rattle.serving_laws.proofs.Words.{words_stay}
use Rattle.lone_laws.specs.Failing.{has_failed}
use Rattle.lone_laws.specs.Lone.{AreServed, IsServedOver, run_told}
use Rattle.lone_laws.proofs.Answering.{among, answered_stay, asked_stay, led_trace}
use Rattle.lone_laws.proofs.Begun.{begun_trace, undrawn}
use Rattle.lone_laws.proofs.Behind.{as_many_so, entries_are, pages_so, undrawn_words}
use Rattle.lone_laws.proofs.Drawn.{drawn_counts, drawn_next, known_trace}
use Rattle.lone_laws.proofs.Freshness.{AreKnownDraws}
use Rattle.lone_laws.proofs.Listing.{AllAt, all_reverse, each_reverse, filter_map_reverse, latest}
use Rattle.lone_laws.proofs.Spending.{faultless_trace, no_steps, none_taken, traces_unstepped}
use Rattle.auth_events.proofs.Reversed.{list_any-reverse}

-- WHAT IS TOLD LATER

names_up : (told rest : List Told) → NamesGrow (names_told told) (names_told (told ++ rest))
names_up told rest =
    let grow = grow_told told rest in
    record { new_spaces = grow.new_spaces; new_terms = grow.new_terms; new_texts = grow.new_texts; spaces = grow.spaces; terms = grow.terms; texts = grow.texts }

trace_up : (roster : Roster) (seed : List ℕ) (told rest whole : List Told) (r : ℕ) (request : Request) (events : List Event) → told ++ rest ≡ whole → IsLegalPast roster (names_told whole) (past whole)
    → IsTrace (setting_of roster seed (names_told told) (past told) r request) events → IsTrace (setting_of roster seed (names_told whole) (past whole) r request) events
trace_up roster seed told rest whole r request events order legal is =
    subst (λ l. IsTrace (setting_of roster seed (names_told l) (past l) r request) events) order
    (subst (λ l. IsTrace (setting_of roster seed (names_told (told ++ rest)) l r request) events) (sym (past-append told rest))
    (lasts roster seed (names_told told) (names_told (told ++ rest)) (past rest) (past told) r request events (names_up told rest)
    (subst (IsLegalPast roster (names_told (told ++ rest))) (past-append told rest) (subst (λ l. IsLegalPast roster (names_told l) (past l)) (sym order) legal)) is))

-- a trace as it is judged in the end
pub record IsFinal (outside : Outside) (roster : Roster) (seed : List ℕ) (run : Run) (r : ℕ) (events : List Event) : Type 0 where
  pub request : Request
  pub in_roster : numbered roster.requests r ≡ Some request
  pub is_trace : IsTrace (setting_of roster seed run.names (reverse run.journal) r request) events
  pub heard : IsHeard outside.streams request.method r (reverse events)
  pub unasked : steps_in events ≡ []
  pub asked : IsTrue (list_all (is_asked_right outside run) events)
  pub faultless : IsTrue (is_faultless events)
  pub is_begun : IsBegun events

module _ (outside : Outside) (roster : Roster) (seed : List ℕ) (whole : List Told) (traces_all : List (List Event))
    (legal : IsLegalPast roster (names_told whole) (past whole)) (are : AreNames (names_told whole)) (few : length (names_told whole).nonces ≤ 16 * length roster.requests) where
  abbrev run : Run
  run = run_told roster seed whole traces_all

  abbrev names : Tables
  names = names_told whole

  abbrev Served : List (List Event) → List Told → List Word → Type 0
  Served traces told words = AreServed outside roster seed traces told words

  past_up : (told rest : List Told) → told ++ rest ≡ whole → past whole ≡ past rest ++ past told
  past_up told rest order = ap past (sym order) ∙ past-append told rest

  -- EACH TRACE

  module _ (earlier : List (List Event)) (events : List Event) (told before rest : List Told) (words first : List Word) (order : told ++ rest ≡ whole)
      (served : Served (events ∷ earlier) told words) (now : IsServedOver outside roster seed before told first words (length earlier + 1) events) where
    abbrev r : ℕ
    r = length earlier + 1

    own_legal : IsLegalPast roster (names_told told) (past told)
    own_legal = now.alone.served.alone.legal

    split : past told ≡ entries_of r (reverse events) ++ past before
    split = now.alone.served.alone.same_calls

    abbrev own_setting : Setting
    own_setting = setting_of roster seed (names_told told) (past told) r now.request

    own_means : IsNumbered own_setting
    own_means = spaces_numbered false roster seed (names_told told) (past told) r now.request

    final_trace : IsTrace (setting_of roster seed names (past whole) r now.request) events
    final_trace = trace_up roster seed told rest whole r now.request events order legal now.alone.is_trace

    final : IsFinal outside roster seed run r events
    final = record {
      request = now.request;
      in_roster = now.in_roster;
      is_trace = final_trace;
      heard = now.heard;
      unasked =
          no_steps events (sym (list_any-reverse _ events)
          ∙ traces_unstepped (setting_of roster seed names (past whole) r now.request) (spaces_numbered false roster seed names (past whole) r now.request) refl (reverse events) final_trace);
      asked =
          subst (λ l. IsTrue (list_all (is_asked_right outside run) l)) (reverse-reverse events)
          (all_reverse (is_asked_right outside run) (reverse events)
          (asked_stay roster seed outside told rest whole order own_legal traces_all r (reverse events) (led_trace _ r (reverse events) now.alone.is_trace)
          (among roster seed outside told rest whole order own_legal traces_all r (past before) (reverse events) split)
          (all_reverse (is_asked_right outside (run_told roster seed told [])) events now.asked)));
      faultless =
          faultless_trace own_setting own_means refl events now.alone.is_trace
          (none_taken roster (names_told told) (past before) r now.request now.alone.served.alone.are_names now.in_roster now.alone.served.alone.unserved now.alone.served.alone.none_open (reverse events)
          (subst (IsLegalPast roster (names_told told)) split own_legal) ∙ traces_unstepped own_setting own_means refl (reverse events) now.alone.is_trace)
          (list_any-reverse has_failed events ∙ now.unfailed);
      is_begun = begun_trace _ events now.alone.is_trace;
    }

    -- its answers
    final_answers : Each (λ (entry : Entry). IsAnswered outside.answers names (journal whole) entry.call) (reverse (called r events))
    final_answers =
        subst (Each (λ (entry : Entry). IsAnswered outside.answers names (journal whole) entry.call)) (entries_are r events)
        (answered_stay roster outside.answers told rest whole order own_legal r (past before) (reverse events) [] split (subst (IsLegalPast roster (names_told told)) split own_legal)
        (subst (Each (λ (entry : Entry). IsAnswered outside.answers (names_told told) (journal told) entry.call)) (sym (entries_are r events))
        (each_reverse (λ (entry : Entry). IsAnswered outside.answers (names_told told) (journal told) entry.call) (called r events) now.answered)))

    -- its entries, by the names of the whole
    behind : past whole ≡ past rest ++ (entries_of r (reverse events) ++ past before)
    behind = past_up told rest order ∙ ap (λ l. past rest ++ l) split

    lawful : IsLegalPast roster names (past rest ++ (entries_of r (reverse events) ++ past before))
    lawful = subst (IsLegalPast roster names) behind legal

    -- the draws of the words, by the names of the whole
    final_draws : AreNextDraws names (past before) first r (reverse events)
    final_draws =
        subst (λ l. AreNextDraws (names_told l) (past before) first r (reverse events)) order
        (words_stay roster (names_told told) (names_told (told ++ rest)) (extends_more told rest) (past before) first r (length roster.requests) (past told) words (reverse events) split own_legal
        (pages_so outside roster seed (events ∷ earlier) told words served) now.alone.served.drawn).draws

  -- what was told before, with what was told since
  joined : (earlier : List (List Event)) (events : List Event) (told rest : List Told) (words : List Word) → told ++ rest ≡ whole → (s : Served (events ∷ earlier) told words) → s.0 ++ (s.3.alone.served.grown.items ++ rest) ≡ whole
  joined earlier events told rest words order s = sym (append_assoc s.0 s.3.alone.served.grown.items rest) ∙ (ap (λ l. l ++ rest) s.3.alone.served.grown.grows ∙ order)

  pub all_final : (traces : List (List Event)) (told rest : List Told) (words : List Word) → told ++ rest ≡ whole → Served traces told words → AllAt (IsFinal outside roster seed run) traces
  all_final [] told rest words order served = tt
  all_final (events ∷ earlier) told rest words order served = (
    all_final earlier served.0 (served.3.alone.served.grown.items ++ rest) served.1 (joined earlier events told rest words order served) served.2,
    final earlier events told served.0 rest words served.1 order served served.3,
  )

  -- THE ANSWERS

  pub all_answered : (traces : List (List Event)) (told rest : List Told) (words : List Word) → told ++ rest ≡ whole → Served traces told words
      → Each (λ (entry : Entry). IsAnswered outside.answers names (journal whole) entry.call) (latest called traces)
  all_answered [] told rest words order served = tt
  all_answered (events ∷ earlier) told rest words order served =
      each_append (λ (entry : Entry). IsAnswered outside.answers names (journal whole) entry.call) (reverse (called (length earlier + 1) events)) (latest called earlier)
      (final_answers earlier events told served.0 rest words served.1 order served served.3)
      (all_answered earlier served.0 (served.3.alone.served.grown.items ++ rest) served.1 (joined earlier events told rest words order served) served.2)

  -- THE DRAWS

  told_are : (r : ℕ) (events : List Event) → told_of r (reverse events) ≡ reverse (told_of r events)
  told_are r events = filter_map_reverse (told_in r) events

  pub record AreDrawn (traces : List (List Event)) (told : List Told) (words : List Word) : Type 0 where
    pub next : IsTrue (are_next_draws names (latest told_of traces))
    pub known : AreKnownDraws names (latest told_of traces)
    pub plain : without_draws (latest told_of traces) ≡ past told
    pub counts : (n : ℕ) → 1 ≤ n → n ≤ length words → length (drawn_of (latest told_of traces) n) ≡ draws_of words n

  drawn_more : (earlier : List (List Event)) (events : List Event) (told before rest : List Told) (words first : List Word) (order : told ++ rest ≡ whole)
      (served : Served (events ∷ earlier) told words) (now : IsServedOver outside roster seed before told first words (length earlier + 1) events) → Served earlier before first → AreDrawn earlier before first → AreDrawn (events ∷ earlier) told words
  drawn_more earlier events told before rest words first order served now done drawn =
      let r : ℕ = length earlier + 1 in
      let B : List Entry = past before in
      let H : List Entry = latest told_of earlier in
      let law : IsLegalPast roster names (past rest ++ (entries_of r (reverse events) ++ B)) = lawful earlier events told before rest words first order served now in
      let own_law : IsLegalPast roster names (entries_of r (reverse events) ++ B) = legal_behind roster names (past rest) (entries_of r (reverse events) ++ B) law in
      let at_end : IsTrace (setting_of roster seed names (past rest ++ (entries_of r (reverse events) ++ B)) r now.request) events =
      subst (λ l. IsTrace (setting_of roster seed names l r now.request) events) (behind earlier events told before rest words first order served now) (final_trace earlier events told before rest words first order served now) in
      let known = known_trace roster seed names B r now.request are now.in_roster now.alone.served.alone.unserved now.alone.served.alone.none_open (reverse events) (past rest) law at_end in
      let as_many : length first ≡ 16 * length roster.requests = as_many_so outside roster seed earlier before first done in
      let fits : length names.nonces ≤ length first = omega (arith, few, as_many) in
      let both_next = drawn_next roster seed names B r now.request are now.in_roster now.alone.served.alone.unserved now.alone.served.alone.none_open first H drawn.plain fits drawn.counts
      (reverse events) own_law known (final_draws earlier events told before rest words first order served now) drawn.next drawn.known in
      let counts_here = drawn_counts roster seed names B r now.request are now.in_roster now.alone.served.alone.unserved now.alone.served.alone.none_open first H drawn.plain fits drawn.counts (reverse events) own_law in
      let size : length words ≡ length first = now.alone.served.drawn.as_many in
      record {
        next = subst (λ l. IsTrue (are_next_draws names (l ++ H))) (told_are r events) both_next.0;
        known = subst (λ l. AreKnownDraws names (l ++ H)) (told_are r events) both_next.1;
        plain =
            ap (λ l. without_draws (l ++ H)) (sym (told_are r events))
            ∙ (undrawn roster names r (reverse events) H B own_law drawn.plain ∙ sym (split earlier events told before rest words first order served now));
        counts = λ n low high.
            ap (λ l. length (drawn_of (l ++ H) n)) (sym (told_are r events))
            ∙ (counts_here n low (omega (arith, high, size)) ∙ sym (now.alone.served.drawn.counts n low high));
      }

  pub all_drawn : (traces : List (List Event)) (told rest : List Told) (words : List Word) → told ++ rest ≡ whole → Served traces told words → AreDrawn traces told words
  all_drawn [] told rest words order served = record {
    next = refl;
    known = tt;
    plain = sym (ap past served.0);
    counts = λ n low high. sym (ap (λ w. draws_of w n) served.1 ∙ undrawn_words (16 * length roster.requests) n);
  }
  all_drawn (events ∷ earlier) told rest words order served =
      drawn_more earlier events told served.0 rest words served.1 order served served.3 served.2
      (all_drawn earlier served.0 (served.3.alone.served.grown.items ++ rest) served.1 (joined earlier events told rest words order served) served.2)
